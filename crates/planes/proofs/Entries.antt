-- The entry of a column in a row as a view reads it.
--     entry_right, entry_left     by view
--     stored, read_at             a store and a read at that entry
use Prim.Native.Nat.{ℕ, ◌-◌, ◌<◌}
use mathlib.Core.Path.{◌≡◌, sym, ap, ◌∙◌}
use mathlib.Core.Bool.{Bool, true, false}
use mathlib.Core.List.{List}
use lib.ListN.{length, get_or, set}
use Rattle.model.specs.Views.{seen, entry_of}
use Rattle.model.proofs.Views.{get_or_seen, set_seen}

pub entry_right : {r : Bool} (w c : ℕ) → r ≡ true → entry_of r w c ≡ w - 1 - c
unfolding entry_of
entry_right w c q = ap (λ (b : Bool). entry_of b w c) q

pub entry_left : {r : Bool} (w c : ℕ) → r ≡ false → entry_of r w c ≡ c
unfolding entry_of
entry_left w c q = ap (λ (b : Bool). entry_of b w c) q

-- a store at a column's entry, as the view reads the row
pub stored : {A : Type 0} (z : A) (r : Bool) (xs : List A) {n i e : ℕ} (v : A) → length xs ≡ n → i < n → e ≡ entry_of r n i → seen r (set xs e v) ≡ set (seen r xs) i v
stored {A} z r xs {n} {i} {e} v wide h q =
    ap (λ (j : ℕ). seen r (set xs j v)) (q ∙ ap (λ (m : ℕ). entry_of r m i) (sym wide)) ∙ set_seen z r xs i v (rw wide h)

-- and what stands there
pub read_at : {A : Type 0} (z : A) (r : Bool) (xs : List A) {n i e : ℕ} → length xs ≡ n → i < n → e ≡ entry_of r n i → get_or xs e z ≡ get_or (seen r xs) i z
read_at {A} z r xs {n} {i} {e} wide h q =
    ap (λ (j : ℕ). get_or xs j z) (q ∙ ap (λ (m : ℕ). entry_of r m i) (sym wide)) ∙ sym (get_or_seen z r xs i (rw wide h))
