-- Mark bytes joined to one number.
use Rattle.std.specs.Prelude.{ℕ, ◌+◌, ◌*◌, ◌^◌, List, get_or}
use Rattle.model.specs.Lists.{sum_to}

-- n bytes of a row from byte j on, low byte first
unfoldable pub joined : List ℕ → ℕ → ℕ → ℕ
joined row j n = sum_to (λ i. get_or row (j + i) 0 * 2 ^ (8 * i)) n
