-- A held limit, read as a raised number.
--     raised_signed               a limit that was written is read back
--     raised_clamp                the reading is one clamp
use Prim.Native.Nat.{ℕ, ◌≤◌}
use mathlib.Core.Path.{◌≡◌}
use mathlib.Core.Logic.{⊎_elim}
use native.Mathlib.Omega.{arith}
use lib.IntN.{ℤ, pos, negsuc, nat_abs, ◌+ℤ◌}
use Rattle.std.specs.Int.{int_max, int_min}
use Rattle.std.proofs.lemmas.Int.{ints, clamps}
use Rattle.model.specs.Row.{raised, signed}
use Rattle.model.proofs.Choice.{lt_or_le}
use Rattle.signed.specs.Limits.{highest, raised_of}
use Rattle.signed.proofs.Signed.{sub_ℕ-pos, sub_ℕ_neg}

pub raised_signed : (x : ℕ) → x ≤ highest → raised_of (signed x) ≡ x
unfolding raised_of
raised_signed x h =
    ⊎_elim (λ k. rw (sub_ℕ_neg x raised k) (omega arith)) (λ k. rw (sub_ℕ-pos x raised k) (omega arith)) (lt_or_le x raised)

-- a held limit is lifted by 1,024 and held from 0 to the highest
pub raised_clamp : (z r : ℤ) → r ≡ int_max (pos 0) (int_min (z +ℤ pos raised) (pos highest)) → (nat_abs r ≡ raised_of z) × (nat_abs r ≤ highest)
unfolding raised_of
raised_clamp (pos n) r e = (omega (arith, ints, clamps), omega (arith, ints, clamps))
raised_clamp (negsuc n) r e = (omega (arith, ints, clamps), omega (arith, ints, clamps))
