-- What a call is lent, once the tests have passed.
use mathlib.Core.Path.{◌≡◌}
use mathlib.Core.Bool.{true}
use Rattle.model.specs.declared.Settings.{Settings}
use Rattle.model.specs.Planes.{Pictures, Depths, Held}
use Rattle.model.specs.Refusals.{table_ok, check_number}
use Rattle.model.proofs.Refusals.{Common, common_facts, table_yes}

-- what a call is lent, with none of the tests failed
pub record Tested (s : Settings) (p : Pictures) (d : Depths) (h : Held) : Type 0 where
  pub left_table : table_ok s.left ≡ true
  pub right_table : table_ok s.right ≡ true
  pub common : Common s p d h

pub tested : (s : Settings) (p : Pictures) (d : Depths) (h : Held) → check_number s p d h ≡ 0 → Tested s p d h
tested s p d h e =
    let c = common_facts s p d h e in
    record { left_table = table_yes s.left c.tables.left; right_table = table_yes s.right c.tables.right; common = c }
