-- Candidates that are taken.
--     border_inside        a border point lies in the block
--     candidate_filled     the block that a candidate stands for has a depth for each position
--     mask_spare           spare bits of a mask are ignored
use Prim.Native.Nat.{ℕ, ◌<◌}
use mathlib.Core.Path.{◌≡◌}
use mathlib.Core.Bool.{true, cond}
use mathlib.Core.List.{List}
use lib.Dec.{ltb, eqb}
use lib.ListN.{length}
use borrow.Author.Tests.{ltb-true, eqb-true}
use Rattle.model.specs.declared.Block.{Block}
use Rattle.model.specs.declared.Point.{Point}
use Rattle.model.specs.declared.Split.TheVariants.{Mask}
use Rattle.model.specs.declared.Candidate.{Candidate}
use Rattle.model.specs.declared.Candidate.TheVariants.{Full, Flat, Regions}
use Rattle.model.specs.Marks.{mark_at}
use Rattle.model.specs.Candidates.{positions, in_region1, filled, on_border}
use Rattle.model.specs.Refusals.{candidate_then}
use Rattle.model.proofs.Choice.{and_left, and_right}
use Rattle.model.proofs.Lists.{length-list_of, list_same}
use Rattle.model.proofs.Refusals.{unless_true}

pub border_inside : (b : Block) (p : Point) → on_border b p ≡ true → (p.column < b.width) × (p.row < b.height)
unfolding on_border
border_inside b p e =
    let inside = and_left _ _ e in
    (ltb-true p.column b.width (and_left (ltb p.column b.width) _ inside), ltb-true p.row b.height (and_right (ltb p.column b.width) _ inside))

-- the block that an accepted candidate stands for has a depth for each position
pub candidate_filled : (b : Block) (c : Candidate) (x : List ℕ) → candidate_then b c (length x) 0 ≡ 0 → length (filled b c x) ≡ positions b
unfolding candidate_then filled
candidate_filled b Full x e = eqb-true (length x) (positions b) (unless_true (eqb (length x) (positions b)) 6 0 e)
candidate_filled b (Flat depth) x e = length-list_of _ (positions b)
candidate_filled b (Regions value0 value1 split) x e = length-list_of _ (positions b)

-- spare bits are ignored: a mask is its bits at the block's positions
pub mask_spare : (b : Block) (value0 value1 : ℕ) (x y : List ℕ) → ((i : ℕ) → i < positions b → mark_at x i ≡ mark_at y i) → filled b (Regions value0 value1 Mask) x ≡ filled b (Regions value0 value1 Mask) y
unfolding filled in_region1
mask_spare b value0 value1 x y same =
    list_same 0 (λ i. cond (eqb (mark_at x i) 1) value1 value0) (λ i. cond (eqb (mark_at y i) 1) value1 value0) (positions b) (λ i h. rw (same i h))
