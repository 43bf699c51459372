-- The filters of document 02, card 2, in naturals: what the taps add and what they take away. The laws of proofs/Sums show that these are the
-- signed sums of model/specs/Row.
use Rattle.std.specs.Prelude.{ℕ, ◌+◌, ◌-◌, ◌*◌, ◌/◌, min}
use Rattle.model.specs.Row.{greatest}

-- divided by 64 rounding down, held to 0 to 1,023
unfoldable pub scaled : ℕ → ℕ → ℕ
scaled added taken = min ((added - taken) / 64) greatest

-- k of 1, over the samples of columns c − 3 to c + 3; over those of columns c + 4 to c − 2 it is k of 3
unfoldable pub quarter_of : ℕ → ℕ → ℕ → ℕ → ℕ → ℕ → ℕ → ℕ
quarter_of s0 s1 s2 s3 s4 s5 s6 = scaled (4 * s1 + 58 * s3 + 17 * s4 + s6 + 32) (s0 + 10 * s2 + 5 * s5)

-- k of 2, over the samples of columns c − 3 to c + 4
unfoldable pub half_of : ℕ → ℕ → ℕ → ℕ → ℕ → ℕ → ℕ → ℕ → ℕ
half_of s0 s1 s2 s3 s4 s5 s6 s7 = scaled (4 * (s1 + s6) + 40 * (s3 + s4) + 32) (s0 + s7 + 11 * (s2 + s5))
