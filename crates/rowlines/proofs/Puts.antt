-- Writing one thing after another.
--     put_then, put_as      two things; the same under another name and with more room
--     put_last              a number, by its last digit
use Prim.Native.Nat.{ℕ, ◌+◌, ◌/◌, ◌%◌, ◌≤◌}
use mathlib.Core.Path.{◌≡◌, sym, ap, ◌∙◌}
use mathlib.Core.List.{List, [], ◌∷◌, ◌++◌, append_assoc}
use native.Mathlib.Omega.{arith}
use lib.ListN.{length, take}
use Rattle.rowtext.specs.Format.{digit, decimal}
use Rattle.rowtext.proofs.Decimal.{decimal_digit, decimal_ends}
use Rattle.rowtext.proofs.Lengths.{length_1, one_more}
use Rattle.rowlines.specs.Steps.{Put}

pub put_then : {m k : ℕ} {o : List ℕ} {at : ℕ} {xs p : List ℕ} {n : ℕ} {ys q : List ℕ} {l : ℕ} → Put m o at xs p n → Put k p n ys q l → Put (m + k) o at (xs ++ ys) q l
put_then {o = o} {at = at} {xs = xs} {ys = ys} a b =
    record {
      written = b.written ∙ ap (λ (x : List ℕ). x ++ ys) a.written ∙ append_assoc (take at o) xs ys;
      room = omega arith;
      size = b.size ∙ a.size;
    }

pub put_as : {m k : ℕ} {o : List ℕ} {at : ℕ} {xs ys p : List ℕ} {n : ℕ} → xs ≡ ys → m ≤ k → Put m o at xs p n → Put k o at ys p n
put_as {o = o} {at = at} e h a =
    record { written = a.written ∙ ap (λ (x : List ℕ). take at o ++ x) e; room = omega arith; size = a.size }

pub put_last : (n : ℕ) {o : List ℕ} {at b : ℕ} {p : List ℕ} {l : ℕ} {q : List ℕ} {i : ℕ} → 10 ≤ n → b ≡ digit (n % 10) → Put (length (decimal (n / 10))) o at (decimal (n / 10)) p l → Put 1 p l (b ∷ []) q i → Put (length (decimal n)) o at (decimal n) q i
put_last n h e a b = put_as (rw e (sym (decimal_ends n h))) (omega (arith, one_more n h)) (put_then a b)

-- what a function that writes a number needs besides
pub ruleset digits = (decimal_digit, decimal_ends, length_1, one_more)
