-- The joined bits of all entries decide whether none of them is above ten bits, or eight.
use Prim.Native.Nat.{ℕ, ◌+◌, ◌^◌, ◌<◌}
use mathlib.Core.Path.{◌≡◌, sym}
use mathlib.Core.Bool.{◌&&◌}
use mathlib.Core.List.{List, [], ◌∷◌}
use native.Mathlib.Omega.{arith}
use lib.Dec.{leb}
use lib.Bits.{bit_or, or_add_and, or_lt, and_le_l, and_le_r}
use borrow.Author.Tests.{le-leb, leb-true}
use Rattle.std.specs.List.{fold}
use Rattle.model.specs.Refusals.{up_to}
use Rattle.model.proofs.Choice.{bool_cases, and_true, and_left, and_right, same_test}

-- n bits hold two numbers joined exactly when they hold both
or_bits : (n most m x : ℕ) → most + 1 ≡ 2 ^ n → leb (bit_or m x) most ≡ (leb m most && leb x most)
or_bits n most m x e =
    let sum = or_add_and m x in
    let left = and_le_l m x in
    let right = and_le_r m x in
    same_test (leb (bit_or m x) most) (leb m most && leb x most)
    (λ t.
    let h = leb-true (bit_or m x) most t in
    and_true (leb m most) (leb x most) (le-leb m most (omega arith)) (le-leb x most (omega arith)))
    (λ t.
    let h = leb-true m most (and_left (leb m most) (leb x most) t) in
    let l = leb-true x most (and_right (leb m most) (leb x most) t) in
    let both = or_lt n m x (rw (sym e) (omega arith)) (rw (sym e) (omega arith)) in
    let below : bit_or m x < most + 1 = rw e both in
    le-leb (bit_or m x) most (omega arith))

-- and hence the numbers of a list, joined to one before them
joined : (n most : ℕ) → most + 1 ≡ 2 ^ n → (m : ℕ) (l : List ℕ) → leb (fold bit_or m l) most ≡ (leb m most && up_to most l)
unfolding up_to
joined n most e m [] = bool_cases (leb m most) (λ t. rw t) (λ t. rw t)
joined n most e m (x ∷ l) = rw (joined n most e (bit_or m x) l, or_bits n most m x e) (bool_cases (leb m most) (λ t. rw t) (λ t. rw t))

pub list_joined : (n most : ℕ) → most + 1 ≡ 2 ^ n → (l : List ℕ) (r : ℕ) → r ≡ fold bit_or 0 l → leb r most ≡ up_to most l
list_joined n most e l r q = rw (q, joined n most e 0 l, le-leb 0 most (omega arith))

pub lists_joined : (n most : ℕ) → most + 1 ≡ 2 ^ n → (k l : List ℕ) (m r : ℕ) → m ≡ fold bit_or 0 k → r ≡ fold bit_or m l → leb r most ≡ (up_to most k && up_to most l)
lists_joined n most e k l m r p q = rw (q, joined n most e m l, list_joined n most e k m p)
