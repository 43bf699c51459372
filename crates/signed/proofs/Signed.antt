-- Signed numbers as differences of natural ones, and the machine's signed values.
--     sub_ℕ-pos, sub_ℕ_neg, add-sub_ℕ     the difference of two naturals, by cases, and added to a natural
--     read_back, of_z_inj               the machine's signed values, read from their bits
use Prim.Native.Nat.{ℕ, suc, ◌+◌, ◌-◌, ◌^◌, ◌<◌, ◌≤◌}
use mathlib.Core.Path.{◌≡◌, sym, ap, ◌∙◌}
use borrow.Author.Tests.{lt-ltb, le-ltb}
use lib.IntN.{ℤ, pos, negsuc, neg_ℤ, sub_ℕ, ◌+ℤ◌, +ℤ_assoc}
use lib.Signed.{mag}
use mir.Syntax.{Width}
use mir.Val.{hbits, to_z, of_z}
use mir.ValLaws.{to_z-of_z}
use Rattle.model.proofs.Signs.{minus}

pub sub_ℕ-pos : (a b : ℕ) → b ≤ a → sub_ℕ a b ≡ pos (a - b)
sub_ℕ-pos a b h = rw (le-ltb a b h)

pub sub_ℕ_neg : (a b : ℕ) → a < b → sub_ℕ a b ≡ negsuc (b - suc a)
sub_ℕ_neg a b h = rw (lt-ltb a b h)

-- a number plus a difference, as one difference
pub add-sub_ℕ : (t a b : ℕ) → pos t +ℤ sub_ℕ a b ≡ sub_ℕ (t + a) b
add-sub_ℕ t a b = rw (← minus a b) (sym (+ℤ_assoc (pos t) (pos a) (neg_ℤ (pos b))) ∙ minus (t + a) b)

-- a signed element of a slice, or a signed result, read from its bits
pub read_back : (w : Width) (z : ℤ) → mag z < 2 ^ hbits w → to_z w (of_z w z) ≡ z
read_back w z h = to_z-of_z w z (record { sfits = h })

-- signed values with equal bits are equal
pub of_z_inj : (w : Width) (x y : ℤ) → mag x < 2 ^ hbits w → mag y < 2 ^ hbits w → of_z w x ≡ of_z w y → x ≡ y
of_z_inj w x y hx hy e = sym (read_back w x hx) ∙ ap (to_z w) e ∙ read_back w y hy
