-- The tests over numbers are the model's, at the lengths of the planes.
--     common_number_lem                  1, 2, 3, 4, 20, then the rest
--     steps_number                   these, 6, 5, then the candidate's own number, step by step
--     common_refused, own_refused, ..  the same of a refusal at each step
--     early_number_lem               the three steps are the model's list
--     numbers_before                 1, 2, 3, 4, 20 decide before the rest
--     sides_passed                   where none of them applies, w and h are at most 4,096
use Prim.Native.Nat.{ℕ, ◌*◌, ◌≤◌}
use mathlib.Core.Path.{◌≡◌, sym, ◌∙◌}
use mathlib.Core.Bool.{Bool, true, false, cond, ◌&&◌}
use mathlib.Core.List.{List}
use native.Mathlib.Omega.{arith}
use lib.ListN.{length}
use lib.Dec.{leb, eqb}
use borrow.Author.Tests.{eqb-true, eqb-false}
use Rattle.model.specs.declared.Tear.{Tear}
use Rattle.model.specs.declared.Settings.{Settings}
use Rattle.model.specs.declared.Block.{Block}
use Rattle.model.specs.declared.Candidate.{Candidate}
use Rattle.model.specs.declared.Refusal.{Refusal}
use Rattle.model.specs.Marks.{mark_bytes}
use Rattle.model.specs.Planes.{Pictures, Depths, Held, view_of, texture_of, depths_of}
use Rattle.model.specs.Refusals.{number_of, side_ok, size_ok, pictures_sized, depths_sized, held_sized, planes_sized, table_ok, tear_ok, tables_ok, block_ok, view_ok, candidate_then, common_then, own_then, early_number}
use Rattle.model.proofs.Choice.{bool_cases, and_true, and_left, and_right}
use Rattle.model.proofs.Refusals.{unless_true, side_facts, refused_before, Before, none_before, one_before, then_before, pictures_yes, pictures_facts, depths_yes, depths_facts, held_yes, held_facts}
use Rattle.validate.specs.declared.ViewLengths.{ViewLengths}
use Rattle.validate.specs.declared.Lengths.{Lengths}
use Rattle.validate.specs.Numbers.{planes_fit, common_number, sides, own_number}
use Rattle.model.proofs.Choice.{same_test}
use Rattle.validate.proofs.Facts.{planes_yes, planes_facts}

-- the lengths of the planes
abbrev pub view_lengths : Pictures → Depths → Held → Bool → ViewLengths
view_lengths p d h right =
    record {
      texture = length (texture_of p right);
      depths = length (depths_of d right);
      samples = length (view_of h right).samples;
      fronts = length (view_of h right).fronts;
      limits = length (view_of h right).limits;
      marks = length (view_of h right).marks;
    }

abbrev pub lengths_of : Pictures → Depths → Held → Lengths
lengths_of p d h =
    record {
      left = view_lengths p d h false;
      right = view_lengths p d h true;
      reference = length p.reference;
      combined = length h.combined;
    }

module _ (s : Settings) (p : Pictures) (d : Depths) (h : Held) where
  planes_same : planes_fit s.w s.h (lengths_of p d h) ≡ planes_sized s p d h
  unfolding planes_sized
  planes_same =
      let n : ℕ = s.w * s.h in
      let m : ℕ = mark_bytes s.w * s.h in
      same_test (planes_fit s.w s.h (lengths_of p d h)) (pictures_sized n p && (depths_sized n d && held_sized n m h))
      (λ e.
      let f = planes_facts s.w s.h (lengths_of p d h) e in
      and_true _ _ (pictures_yes n p (omega arith)) (and_true _ _ (depths_yes n d (omega arith)) (held_yes n m h (omega arith))))
      (λ e.
      let rest = and_right (pictures_sized n p) (depths_sized n d && held_sized n m h) e in
      let a = pictures_facts n p (and_left (pictures_sized n p) (depths_sized n d && held_sized n m h) e) in
      let b = depths_facts n d (and_left (depths_sized n d) (held_sized n m h) rest) in
      let c = held_facts n m h (and_right (depths_sized n d) (held_sized n m h) rest) in
      planes_yes s.w s.h (lengths_of p d h) (omega arith))

  -- 1, 2, 3, 4, 20, then the rest
  pub common_number_lem : (rest : ℕ) → common_number s.w s.h s.left s.right s.share s.tear (lengths_of p d h) rest ≡ common_then s p d h rest
  unfolding common_number common_then size_ok tables_ok
  common_number_lem rest = rw planes_same

-- 1, 2, 3, 4, 20 before the rest, and then 6 and 5
pub numbers_before : (w h : ℕ) (left right : List ℕ) (share : ℕ) (tear : Tear) (l : Lengths) → Before (common_number w h left right share tear l)
unfolding common_number
numbers_before w h left right share tear l =
    one_before (side_ok w && side_ok h) 0 _
    (one_before (planes_fit w h l) 1 _ (one_before (table_ok left && table_ok right) 2 _ (one_before (leb share 64) 3 _ (one_before (tear_ok tear) 19 _ none_before))))

-- where none of them applies, w and h are known
pub sides_passed : (w h : ℕ) (left right : List ℕ) (share : ℕ) (tear : Tear) (l : Lengths) → common_number w h left right share tear l 0 ≡ 0 → (w ≤ 4096) × (h ≤ 4096)
unfolding common_number
sides_passed w h left right share tear l e =
    let t = unless_true (side_ok w && side_ok h) 0 _ e in
    ((side_facts w (and_left (side_ok w) (side_ok h) t)).most, (side_facts h (and_right (side_ok w) (side_ok h) t)).most)

early_before : (w h : ℕ) (left right : List ℕ) (share : ℕ) (tear : Tear) (l : Lengths) (v : ℕ) (b : Block) → Before (λ rest. common_number w h left right share tear l (own_number w h v b rest))
unfolding own_number
early_before w h left right share tear l v b =
    then_before (numbers_before w h left right share tear l) (one_before (view_ok v) 5 _ (one_before (block_ok (sides w h) b) 4 _ none_before))

-- one step more: what the tests f found, or else the number x
step_before : {f : ℕ → ℕ} → Before f → (x k m : ℕ) → k ≡ f 0 → m ≡ cond (eqb k 0) x k → m ≡ f x
step_before a x k m e q =
    q
    ∙ bool_cases (eqb k 0)
    (λ t. let z = eqb-true k 0 t in rw t (sym (a.rest x (sym e ∙ z))))
    (λ t. let ne = eqb-false k 0 t in rw t (e ∙ sym (a.stays x (λ z. ne (e ∙ z)))))

-- the number found by the three steps of GET and SET
pub steps_number : (w h : ℕ) (left right : List ℕ) (share : ℕ) (tear : Tear) (l : Lengths) (v : ℕ) (b : Block) (c : Candidate) (n k m r : ℕ) → k ≡ common_number w h left right share tear l 0 → m ≡ cond (eqb k 0) (own_number w h v b 0) k → r ≡ cond (eqb m 0) (candidate_then b c n 0) m → r ≡ common_number w h left right share tear l (own_number w h v b (candidate_then b c n 0))
steps_number w h left right share tear l v b c n k m r e q u =
    step_before (early_before w h left right share tear l v b) (candidate_then b c n 0) m r
    (step_before (numbers_before w h left right share tear l) (own_number w h v b 0) k m e q) u

-- GET and SET step by step: what the first step turned down, what the second did, and what is left to the third
module _ (w h : ℕ) (left right : List ℕ) (share : ℕ) (tear : Tear) (l : Lengths) (v : ℕ) (b : Block) (rest : ℕ) where
  pub common_refused : (r : Refusal) → number_of r ≡ common_number w h left right share tear l 0 → number_of r ≡ common_number w h left right share tear l (own_number w h v b rest)
  common_refused r e = refused_before (numbers_before w h left right share tear l) r _ e

  pub own_refused : (r : Refusal) → 0 ≡ common_number w h left right share tear l 0 → number_of r ≡ own_number w h v b 0 → number_of r ≡ common_number w h left right share tear l (own_number w h v b rest)
  own_refused r e q =
      refused_before (early_before w h left right share tear l v b) r _
      (q ∙ sym ((numbers_before w h left right share tear l).rest _ (sym e)))

  pub none_refused : 0 ≡ common_number w h left right share tear l 0 → 0 ≡ own_number w h v b 0 → common_number w h left right share tear l (own_number w h v b rest) ≡ rest
  none_refused e q =
      (early_before w h left right share tear l v b).rest rest
      ((numbers_before w h left right share tear l).rest _ (sym e) ∙ sym q)

pub early_number_lem : (s : Settings) (p : Pictures) (d : Depths) (h : Held) (v : ℕ) (b : Block) (c : Candidate) (n : ℕ) → common_number s.w s.h s.left s.right s.share s.tear (lengths_of p d h) (own_number s.w s.h v b (candidate_then b c n 0)) ≡ early_number s p d h v b c n
unfolding own_then own_number block_ok
early_number_lem s p d h v b c n = common_number_lem s p d h (own_then s v b c n 0)
