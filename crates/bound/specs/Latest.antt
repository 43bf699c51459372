-- The settings that a caller of the exported functions has after a call.
use Rattle.std.specs.Prelude.{ℕ, cond, eqb}
use Rattle.model.specs.declared.Settings.{Settings}
use Rattle.model.specs.Planes.{with_total}

-- A call that drew with the settings n answered `number` and, through its pointer, `total`: where it is accepted the caller has n with that total, else s still. n is s for
-- OPEN, SET and TAKE BACK, and s with the seat of `to` for MOVE.
abbrev pub latest : ℕ → Settings → Settings → ℕ → Settings
latest number s n total = cond (eqb number 0) (with_total n total) s
