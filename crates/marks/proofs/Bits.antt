-- One bit of a byte, set.
--     one_shl, clear_le, put_bit-lt     what the code's arithmetic asks
--     put_bit_step                      below the lowest bit
--     put_above                        the bits above it stay
--     put_pack_byte                     a bit is set in the packed byte as the mark is in the list
use Prim.Native.Nat.{ℕ, zero, suc, ◌+◌, ◌-◌, ◌*◌, ◌/◌, ◌%◌, ◌^◌, ◌<◌, ◌≤◌}
use mathlib.Core.Path.{◌≡◌, sym, ap, ◌∙◌, subst}
use mathlib.Core.List.{List, [], ◌∷◌}
use native.Mathlib.Nat.{pow-succ', one-mul, mul_left_comm, mod-le, mul-le-mul_right, div-mul-le_self, le_trans, not-suc-le-zero, le_of_suc-le-suc}
use native.Mathlib.Omega.{arith}
use lib.Pow.{shl_exact}
use lib.ListN.{length, set}
use Rattle.model.specs.Marks.{pack_byte}
use Rattle.model.proofs.Packing.{Flags, div_step}
use Rattle.marks.specs.Puts.{put_bit}

-- a shift of 1 loses nothing
pub one_shl : (n k : ℕ) → k < n → 1 * 2 ^ k % 2 ^ n ≡ 2 ^ k
one_shl n k h = shl_exact 1 k n (omega arith) (omega arith) ∙ one-mul (2 ^ k)

-- the bit that is taken away is there
pub clear_le : (b m : ℕ) → b / m % 2 * m ≤ b
clear_le b m = le_trans (mul-le-mul_right m (mod-le (b / m) 2)) (div-mul-le_self b m)

lin : (f x a b ta vb : ℕ) → a ≤ x → ta ≡ 2 * a → vb ≡ 2 * b → f + 2 * x - ta + vb ≡ f + 2 * (x - a + b)
lin f x a b ta vb h p q = omega arith

pub put_bit_step : (f x k v : ℕ) → f < 2 → put_bit (f + 2 * x) (suc k) v ≡ f + 2 * put_bit x k v
put_bit_step f x k v h =
    lin f x (x / 2 ^ k % 2 * 2 ^ k) (v * 2 ^ k) _ _ (clear_le x (2 ^ k))
    (rw (div_step f x k h, pow-succ' 2 k) (mul_left_comm (x / 2 ^ k % 2) 2 (2 ^ k)))
    (rw (pow-succ' 2 k) (mul_left_comm v 2 (2 ^ k)))

pub put_bit-lt : (n b k v : ℕ) → b < 2 ^ n → k < n → v < 2 → put_bit b k v < 2 ^ n
put_bit-lt zero b k v hb hk hv = absurd (not-suc-le-zero hk)
put_bit-lt (suc n) b zero v hb hk hv = rw (pow-succ' 2 n) (first b v (2 ^ n) (rw (pow-succ' 2 n) at hb) hv)
  where
    first : (b v m : ℕ) → b < 2 * m → v < 2 → b - b / 1 % 2 * 1 + v * 1 < 2 * m
    first b v m hb hv = omega arith
put_bit-lt (suc n) b (suc k) v hb hk hv =
    let e : b ≡ b % 2 + 2 * (b / 2) = omega arith in
    let low : b % 2 < 2 = omega arith in
    let hb' : b < 2 * 2 ^ n = rw (pow-succ' 2 n) at hb in
    let ih = put_bit-lt n (b / 2) k v (omega arith) (omega arith) hv in
    let s = put_bit_step (b % 2) (b / 2) k v low in
    subst (λ (x : ℕ). put_bit x (suc k) v < 2 ^ suc n) (sym e) (rw (s, pow-succ' 2 n) (omega arith))

pub put_above : (b k j v : ℕ) → k < j → v < 2 → put_bit b k v / 2 ^ j ≡ b / 2 ^ j
put_above b k zero v hk hv = absurd (not-suc-le-zero hk)
put_above b zero (suc j) v hk hv =
    let e : b ≡ b % 2 + 2 * (b / 2) = omega arith in
    let low : b % 2 < 2 = omega arith in
    let put : put_bit b 0 v ≡ v + 2 * (b / 2) = first b v in
    rw put (div_step v (b / 2) j hv ∙ sym (ap (λ (x : ℕ). x / 2 ^ suc j) e ∙ div_step (b % 2) (b / 2) j low))
  where
    first : (b v : ℕ) → b - b / 1 % 2 * 1 + v * 1 ≡ v + 2 * (b / 2)
    first b v = omega arith
put_above b (suc k) (suc j) v hk hv =
    let e : b ≡ b % 2 + 2 * (b / 2) = omega arith in
    let low : b % 2 < 2 = omega arith in
    ap (λ (x : ℕ). put_bit x (suc k) v / 2 ^ suc j) e
    ∙ ap (λ (x : ℕ). x / 2 ^ suc j) (put_bit_step (b % 2) (b / 2) k v low)
    ∙ div_step (b % 2) (put_bit (b / 2) k v) j low
    ∙ put_above (b / 2) k j v (le_of_suc-le-suc hk) hv
    ∙ sym (ap (λ (x : ℕ). x / 2 ^ suc j) e ∙ div_step (b % 2) (b / 2) j low)

pub put_pack_byte : (l : List ℕ) (k v : ℕ) → Flags l → k < length l → put_bit (pack_byte l) k v ≡ pack_byte (set l k v)
unfolding pack_byte
put_pack_byte [] k v h hk = absurd (not-suc-le-zero hk)
put_pack_byte (f ∷ fs) zero v h hk = first f (pack_byte fs) v (h zero)
  where
    first : (f x v : ℕ) → f < 2 → f + 2 * x - (f + 2 * x) / 1 % 2 * 1 + v * 1 ≡ v + 2 * x
    first f x v h = omega arith
put_pack_byte (f ∷ fs) (suc k) v h hk =
    put_bit_step f (pack_byte fs) k v (h zero)
    ∙ ap (λ (x : ℕ). f + 2 * x) (put_pack_byte fs k v (λ j. h (suc j)) (le_of_suc-le-suc hk))
