-- The rows of the block that an accepted candidate stands for.
--     row_filled       row i of the filled block
--     row_there        the row can be made
--     lent_filled, lent_full     a candidate whose rows are lent
--     line_row, mask_row, rows_more, row_holds, made_..     rows as they are made
use Prim.Native.Nat.{ℕ, ◌+◌, ◌-◌, ◌*◌, ◌<◌, ◌≤◌}
use mathlib.Core.Path.{◌≡◌, refl, sym, ap, ◌∙◌}
use mathlib.Core.Bool.{Bool, true, cond, true≢false}
use mathlib.Core.List.{List, ◌++◌}
use mathlib.Core.Logic.{⊎_elim}
use native.Mathlib.Omega.{arith}
use native.Mathlib.Nat.{mul_comm}
use lib.Dec.{ltb, eqb}
use lib.ListN.{length, take, drop}
use borrow.Author.Tests.{eqb-true}
use Rattle.model.specs.declared.Block.{Block}
use Rattle.model.specs.declared.Point.{Point}
use Rattle.model.specs.declared.Split.{Split}
use Rattle.model.specs.declared.Split.TheVariants.{Line, Mask}
use Rattle.model.specs.declared.Candidate.{Candidate}
use Rattle.model.specs.declared.Candidate.TheVariants.{Full, Flat, Regions}
use Rattle.model.specs.Lists.{list_of, row_of}
use Rattle.model.specs.Marks.{mark_bytes, mark_at}
use Rattle.model.specs.Candidates.{positions, in_region1, filled, on_border, line_ok}
use Rattle.model.specs.Refusals.{candidate_then}
use Rattle.model.proofs.Choice.{lt_or_le, and_left, and_right}
use Rattle.model.proofs.Lists.{length-list_of, get_or-list_of, list_of_lem, list_same, rows_apart, length-row, length_plane_row, get_or_row, entry_fits}
use Rattle.model.proofs.Refusals.{unless_true}
use Rattle.model.proofs.Candidates.{border_inside}
use Rattle.planes.proofs.Splices.{length-splice, row_whole, row_other_whole, put_back}
use Rattle.fill.specs.Rows.{above, below, Near, filled_row, RowThere, is_lent, room_of, row_in, Started, RowsMade}
use Rattle.fill.proofs.Lines.{line_region}

-- row i of a rule's list
row_list : (f : ℕ → ℕ) (w h i : ℕ) → i < h → row_of (list_of f (w * h)) w i ≡ list_of (λ k. f (i * w + k)) w
row_list f w h i l =
    let fits : i * w + w ≤ length (list_of f (w * h)) = omega (arith, length-list_of f (w * h), rows_apart w i h l, mul_comm w h) in
    list_of_lem 0 (λ k. f (i * w + k)) w (row_of (list_of f (w * h)) w i) (length-row (list_of f (w * h)) w i fits)
    (λ k m. get_or_row 0 (list_of f (w * h)) w i k m ∙ get_or-list_of 0 f (w * h) (i * w + k) (omega (arith, entry_fits w h i k l m, mul_comm w h)))

module _ (b : Block) (x : List ℕ) (i : ℕ) (inside : i < b.height) where
  pub row_filled : (c : Candidate) → row_of (filled b c x) b.width i ≡ filled_row b.width c x i
  unfolding filled filled_row
  row_filled Full = refl
  row_filled (Flat depth) = row_list (λ k. depth) b.width b.height i inside
  row_filled (Regions value0 value1 split) = row_list (λ k. cond (in_region1 b.width split x k) value1 value0) b.width b.height i inside

  near : (p : Point) → b.width ≤ 4096 → b.height ≤ 4096 → on_border b p ≡ true → Near p
  near p w h e =
      let inside = border_inside b p e in
      record { column = omega (arith, inside.0); row = omega (arith, inside.1) }

  pub row_there : (c : Candidate) → b.width ≤ 4096 → b.height ≤ 4096 → candidate_then b c (length x) 0 ≡ 0 → RowThere b.width c x i
  unfolding candidate_then line_ok
  row_there Full w h e =
      let n = eqb-true (length x) (positions b) (unless_true (eqb (length x) (positions b)) 6 0 e) in
      omega (arith, rows_apart b.width i b.height inside, mul_comm b.width b.height)
  row_there (Flat depth) w h e = tt
  row_there (Regions value0 value1 (Line start end)) w h e =
      let both = and_left _ _ (unless_true (line_ok b start end) 13 0 e) in
      (near start w h (and_left (on_border b start) _ both), near end w h (and_right (on_border b start) _ both))
  row_there (Regions value0 value1 Mask) w h e =
      let n = eqb-true (length x) (mark_bytes (positions b)) (unless_true (eqb (length x) (mark_bytes (positions b))) 14 0 e) in
      omega (arith, rows_apart b.width i b.height inside, mul_comm b.width b.height)

-- a row that is lent lies in the bytes
pub there_lent : (w : ℕ) (c : Candidate) (x : List ℕ) (i : ℕ) → is_lent c ≡ true → RowThere w c x i → i * w + w ≤ length x
there_lent w Full x i e h = h
there_lent w (Flat depth) x i e h = absurd (true≢false (sym e))
there_lent w (Regions value0 value1 split) x i e h = absurd (true≢false (sym e))

-- and the block is its bytes
pub lent_filled : (b : Block) (c : Candidate) (x : List ℕ) → is_lent c ≡ true → filled b c x ≡ x
unfolding filled
lent_filled b Full x e = refl
lent_filled b (Flat depth) x e = absurd (true≢false (sym e))
lent_filled b (Regions value0 value1 split) x e = absurd (true≢false (sym e))

pub lent_full : (c : Candidate) → is_lent c ≡ true → c ≡ Full
lent_full Full e = refl
lent_full (Flat depth) e = absurd (true≢false (sym e))
lent_full (Regions value0 value1 split) e = absurd (true≢false (sym e))

-- ---- rows as they are made

-- a row of two regions, each position by a test
regions_row : (w i : ℕ) (x : List ℕ) (value0 value1 : ℕ) (split : Split) (one : ℕ → Bool) → ((k : ℕ) → k < w → one k ≡ in_region1 w split x (i * w + k)) → list_of (λ k. cond (one k) value1 value0) w ≡ filled_row w (Regions value0 value1 split) x i
unfolding filled_row
regions_row w i x value0 value1 split one same =
    list_same 0 (λ k. cond (one k) value1 value0) (λ k. cond (in_region1 w split x (i * w + k)) value1 value0) w (λ k m. rw (same k m))

pub row_wide : (w value0 value1 : ℕ) (split : Split) (x : List ℕ) (i : ℕ) → length (filled_row w (Regions value0 value1 split) x i) ≡ w
unfolding filled_row
row_wide w value0 value1 split x i = length-list_of _ w

pub line_row : (w i : ℕ) (x : List ℕ) (value0 value1 : ℕ) (split : Split) {start end : Point} → split ≡ Line start end → list_of (λ k. cond (ltb (below start end i k) (above start end i k)) value1 value0) w ≡ filled_row w (Regions value0 value1 split) x i
line_row w i x value0 value1 split {start} {end} e =
    regions_row w i x value0 value1 split (λ k. ltb (below start end i k) (above start end i k))
    (λ k m. sym (ap (λ (s : Split). in_region1 w s x (i * w + k)) e ∙ line_region w start end x i k m))

pub mask_row : (w i : ℕ) (x : List ℕ) (value0 value1 : ℕ) (split : Split) → split ≡ Mask → list_of (λ k. cond (eqb (mark_at x (i * w + k)) 1) value1 value0) w ≡ filled_row w (Regions value0 value1 split) x i
unfolding in_region1
mask_row w i x value0 value1 split e = regions_row w i x value0 value1 split (λ k. eqb (mark_at x (i * w + k)) 1) (λ k m. rw e)

-- rows of one value, and rows that are lent, are there already
pub made_already : (w : ℕ) (c : Candidate) (x : List ℕ) (i n : ℕ) (room : List ℕ) → ((value0 value1 : ℕ) (split : Split) → c ≡ Regions value0 value1 split → ⊥) → length room ≡ room_of c (n * w) → Started c room → RowsMade w c x i n room room
unfolding row_in filled_row room_of
made_already w Full x i n room other l s = record { row = λ k h. refl; started = tt; size = refl }
made_already w (Flat depth) x i n room other l s =
    record {
      row = λ k b. list_of_lem 0 (λ j. depth) w (row_of room w k) (length_plane_row room w n k l b)
          (λ j a. get_or_row 0 room w k j a ∙ s (k * w + j) (omega (arith, entry_fits w n k j b a)));
      started = s;
      size = refl;
    }
made_already w (Regions value0 value1 split) x i n room other l s = absurd (other value0 value1 split refl)

pub made_regions : (w : ℕ) (c : Candidate) (x : List ℕ) (i n : ℕ) (room room' : List ℕ) {value0 value1 : ℕ} {split : Split} → c ≡ Regions value0 value1 split → length room' ≡ length room → ((k : ℕ) → k < n → row_of room' w k ≡ filled_row w (Regions value0 value1 split) x (i + k)) → RowsMade w c x i n room room'
unfolding row_in
made_regions w c x i n room room' e l h = rw e (record { row = h; started = tt; size = l })

-- the room of n rows of regions holds row k
pub row_holds : (w : ℕ) (c : Candidate) (n k : ℕ) (room : List ℕ) {value0 value1 : ℕ} {split : Split} → c ≡ Regions value0 value1 split → length room ≡ room_of c (n * w) → k < n → k * w + w ≤ length room
unfolding room_of
row_holds w c n k room e l h = let m : length room ≡ n * w = rw e at l in omega (arith, rows_apart w k n h)

-- one more row, put back into the room
pub rows_more : (w k : ℕ) (f : ℕ → List ℕ) (room ys : List ℕ) → k * w + w ≤ length room → length ys ≡ w → ys ≡ f k → ((j : ℕ) → j < k → row_of room w j ≡ f j) → (length (take (k * w) room ++ (ys ++ drop (k * w + w - k * w) (drop (k * w) room))) ≡ length room) × ((j : ℕ) → j < k + 1 → row_of (take (k * w) room ++ (ys ++ drop (k * w + w - k * w) (drop (k * w) room))) w j ≡ f j)
rows_more w k f room ys fits n e h =
    rw (put_back room ys (k * w) w n) (
      length-splice room (k * w) ys (omega arith),
      λ j b. ⊎_elim (λ u. row_other_whole 0 room w k j ys fits n (λ q. absurd (omega arith)) ∙ h j u)
          (λ u. let q : j ≡ k = omega arith in rw q (row_whole 0 room w k ys fits n ∙ e)) (lt_or_le j k),
    )
