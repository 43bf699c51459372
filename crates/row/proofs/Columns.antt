-- The pair of a column, and that of the column to its left.
--     with_width      a row with the candidate in it stays as wide
--     place_is        the place of a column
--     stands_of       a pair made from depths and the next place
--     stands_left     the pair one column to the left
--     past_within     and its edge
--     edge_within     an edge that shows lies in the row
use Prim.Native.Nat.{ℕ, ◌+◌, ◌-◌, ◌<◌, ◌≤◌}
use mathlib.Core.Path.{◌≡◌, sym, ap, ◌∙◌}
use mathlib.Core.Bool.{Bool, true}
use mathlib.Core.List.{List}
use native.Mathlib.Omega.{arith}
use lib.Dec.{leb, ltb}
use lib.ListN.{length, get_or}
use borrow.Author.Tests.{ltb-true}
use Rattle.model.specs.Row.{quarter, place}
use Rattle.model.specs.Views.{seen}
use Rattle.model.proofs.Choice.{and_left}
use Rattle.model.proofs.Views.{length_seen}
use Rattle.planes.specs.Parts.{splice}
use Rattle.planes.proofs.Splices.{length-splice}
use Rattle.pixel.specs.declared.Edge.{Edge}
use Rattle.pixel.specs.declared.Pair.{Pair}
use Rattle.pixel.specs.Pairs.{next_place, Stands, Among, edge_past, at_edge}
use Rattle.pixel.proofs.Pairs.{next_inner, past_cases}

-- a row with the candidate x in the entries from `column` on is as wide as the row
pub with_width : (r : Bool) (d x : List ℕ) (column : ℕ) → column + length x ≤ length d → length (seen r (splice d column x)) ≡ length d
with_width r d x column fits = length_seen r (splice d column x) ∙ length-splice d column x fits

-- the place of column c from its depth
pub place_is : (t d : List ℕ) (c : ℕ) {d0 here : ℕ} → d0 ≡ get_or d c 0 → here ≡ quarter c - get_or t d0 0 → here ≡ place t d c
unfolding place
place_is t d c e h = h ∙ ap (λ (x : ℕ). quarter c - get_or t x 0) e

pub stands_of : (t d : List ℕ) (q : Pair) → q.d0 ≡ get_or d q.column 0 → q.d1 ≡ get_or d (q.column + 1) 0 → q.here ≡ quarter q.column - get_or t q.d0 0 → q.next ≡ next_place t d q.column → Stands t d q
stands_of t d q e0 e1 eh en = record { d0 = e0; d1 = e1; here = place_is t d q.column e0 eh; next = en }

pub stands_left : {t d : List ℕ} {q : Pair} (r : Pair) → Stands t d q → 0 < q.column → q.column < length d → r.column ≡ q.column - 1 → r.d0 ≡ get_or d r.column 0 → r.d1 ≡ q.d0 → r.here ≡ quarter r.column - get_or t r.d0 0 → r.next ≡ q.here → Stands t d r
stands_left {t} {d} {q} r s some h ec e0 e1 eh en =
    let z : r.column + 1 ≡ q.column = omega arith in
    stands_of t d r e0
    (e1 ∙ s.d0 ∙ ap (λ (c : ℕ). get_or d c 0) (sym z))
    eh
    (en ∙ s.here ∙ ap (place t d) (sym z) ∙ sym (next_inner t d r.column (omega arith)))

-- the edge right of the column before a pair's lies in the row
pub past_within : {right : Bool} {w : ℕ} (q : Pair) → Among right w q → (edge_past q).limit < quarter w → (edge_past q).column < w
past_within {right} {w} q a = past_cases q (λ (e : Edge). e.limit < quarter w → e.column < w) (λ u v. a.column) (λ u v. a.front v)

-- an edge that shows lies in the row
pub edge_within : {right : Bool} {w : ℕ} (q : Pair) (x : ℕ) → Among right w q → q.next ≤ quarter w → at_edge q.limit q.next x ≡ true → q.front < w
unfolding at_edge
edge_within q x a h e =
    let beyond : q.limit < q.next = ltb-true _ _ (and_left (ltb q.limit q.next) (leb (q.limit - x) 1) e) in
    a.front (omega arith)
