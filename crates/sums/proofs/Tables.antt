-- A rule of a table, shown over the whole table by one computed test.
--     every            the test passes at each entry of a list, with its place
--     every_at         so it passes at any one entry
--     squares_table    a table of 1,024 entries whose test passes is the table of squares
use Prim.Native.Nat.{ℕ, zero, suc, ◌+◌, ◌*◌, ◌<◌}
use mathlib.Core.Path.{◌≡◌, sym, subst, ◌∙◌}
use mathlib.Core.Bool.{Bool, true, ◌&&◌}
use mathlib.Core.List.{List, [], ◌∷◌}
use native.Mathlib.Nat.{add-zero, zero-add, add-suc, suc-add, le_of_suc-le-suc, not-suc-le-zero}
use native.Mathlib.Omega.{arith}
use borrow.Author.Tests.{eqb-true}
use lib.Dec.{eqb}
use lib.ListN.{length, get_or}
use Rattle.model.proofs.Choice.{and_left, and_right}
use Rattle.sums.specs.Squares.{Squares}

-- the test at each entry and its place, counted from i
abbrev pub every : (ℕ → ℕ → Bool) → ℕ → List ℕ → Bool
every test i [] = true
every test i (x ∷ xs) = test i x && every test (suc i) xs

every_from : (test : ℕ → ℕ → Bool) (xs : List ℕ) (i : ℕ) → every test i xs ≡ true → (k : ℕ) → k < length xs → test (i + k) (get_or xs k 0) ≡ true
every_from test [] i t k h = absurd (not-suc-le-zero h)
every_from test (x ∷ xs) i t zero h =
    subst (λ (m : ℕ). test m x ≡ true) (sym (add-zero i)) (and_left (test i x) (every test (suc i) xs) t)
every_from test (x ∷ xs) i t (suc k) h =
    subst (λ (m : ℕ). test m (get_or xs k 0) ≡ true) (suc-add i k ∙ sym (add-suc i k))
    (every_from test xs (suc i) (and_right (test i x) (every test (suc i) xs) t) k (le_of_suc-le-suc h))

pub every_at : (test : ℕ → ℕ → Bool) (xs : List ℕ) → every test 0 xs ≡ true → (k : ℕ) → k < length xs → test k (get_or xs k 0) ≡ true
every_at test xs t k h = subst (λ (m : ℕ). test m (get_or xs k 0) ≡ true) (zero-add k) (every_from test xs 0 t k h)

-- an entry is the square of its place
abbrev pub is_square : ℕ → ℕ → Bool
is_square i x = eqb x (i * i)

pub squares_table : (xs : List ℕ) → length xs ≡ 1024 → every is_square 0 xs ≡ true → Squares xs
squares_table xs n t =
    record { at = λ i h. eqb-true (get_or xs i 0) (i * i) (every_at is_square xs t i (omega arith)) }
