-- A candidate written into a block, by rows.
--     length-written, written_out      the plane keeps its length, and what lies outside the block
--     written_entry, written_at        what stands at an entry, and at column x of row y
--     written_over                     what was written in a block before leaves no trace
--     Covers, covers, covers_yes       a position that lies in the block
--     written_row_out, written_row_in  a row outside the block stays; one of the block has the candidate's row in its columns
--     written_edited                   as a view reads the row, an edit of the block's columns
--     written_other, written_own       the other view's depths stay
--     old_at, old_back, written_back   the depths that stood in the block; written again, they restore the planes
--     written_old                      written where they stand, they change nothing
--     old_most                         they are at most what the plane's are
use Prim.Native.Nat.{ℕ, ◌+◌, ◌-◌, ◌*◌, ◌/◌, ◌%◌, ◌<◌, ◌≤◌}
use mathlib.Core.Path.{◌≡◌, refl, sym, ap, ◌∙◌}
use mathlib.Core.Bool.{Bool, true, false, cond, ◌&&◌, not}
use mathlib.Core.Logic.{⊎_elim, ◌⊎◌, inl, inr}
use mathlib.Core.List.{List, ◌++◌}
use native.Mathlib.Omega.{arith}
use native.Mathlib.Nat.{mul_comm}
use lib.Arith.{digits_div, digits_mod}
use lib.Dec.{leb}
use lib.ListN.{length, get_or, take, drop, length-append, length-drop, get_or-append, get_or-eq_default}
use lib.Seq.{ext_get_or, length-take-le, get_or-append-add, get_or-take, get_or-drop}
use borrow.Author.Tests.{lt-ltb, le-ltb, le-leb, lt-leb, leb-true, ltb-true}
use Rattle.model.specs.declared.Settings.{Settings}
use Rattle.model.specs.declared.Block.{Block}
use Rattle.model.specs.Lists.{row_of}
use Rattle.model.specs.Views.{is_right, seen, entry_of}
use Rattle.model.specs.Planes.{Depths, depths_of, with_total}
use Rattle.model.specs.Candidates.{positions}
use Rattle.model.specs.Blocks.{in_rows, in_columns, in_block, candidate_at, written_plane, written, block_depths, old_depths}
use Rattle.model.specs.Span.{first_column}
use Rattle.model.proofs.Choice.{bool_cases, lt_or_le, and_true, and_left, and_right, and_off}
use Rattle.model.proofs.Lists.{length-list_of, get_or-list_of, length-row, get_or_row, row_ext, plane_ext, rows_apart, entry_fits}
use Rattle.model.proofs.Views.{length_seen, get_or_seen}
use Rattle.model.proofs.Spans.{EditedRow}
use Rattle.model.proofs.Fresh.{DepthsSized}

pub written_total : (s : Settings) (t v : ℕ) (b : Block) (c : List ℕ) (d : Depths) → written (with_total s t) v b c d ≡ written s v b c d
unfolding written
written_total s t v b c d = refl

module _ (w : ℕ) (b : Block) (c plane : List ℕ) where
  pub length-written : length (written_plane w b c plane) ≡ length plane
  unfolding written_plane
  length-written = length-list_of _ (length plane)

  pub written_entry : (i : ℕ) → i < length plane → get_or (written_plane w b c plane) i 0 ≡ cond (in_block w b i) (candidate_at w b c i) (get_or plane i 0)
  unfolding written_plane
  written_entry i h = get_or-list_of 0 (λ j. cond (in_block w b j) (candidate_at w b c j) (get_or plane j 0)) (length plane) i h

  pub written_out : (i : ℕ) → in_block w b i ≡ false → get_or (written_plane w b c plane) i 0 ≡ get_or plane i 0
  written_out i e =
      ⊎_elim (λ h. written_entry i h ∙ rw e)
      (λ h. get_or-eq_default (written_plane w b c plane) 0 (rw length-written h) ∙ sym (get_or-eq_default plane 0 h))
      (lt_or_le i (length plane))

  -- what stands at column x of row y
  pub written_at : (y x : ℕ) → x < w → y * w + x < length plane → get_or (written_plane w b c plane) (y * w + x) 0 ≡ cond (in_rows b y && in_columns b x) (get_or c ((y - b.row) * b.width + (x - b.column)) 0) (get_or plane (y * w + x) 0)
  unfolding in_block
  written_at y x h k = written_entry (y * w + x) k ∙ rw (digits_div y h, digits_mod y h)

  pub written_row_out : (y : ℕ) → in_rows b y ≡ false → row_of (written_plane w b c plane) w y ≡ row_of plane w y
  unfolding in_block
  written_row_out y e = row_ext 0 (written_plane w b c plane) plane w y length-written (λ x h. written_out (y * w + x) (rw (digits_div y h, e)))

-- A block written twice holds what was written last.
pub written_over : (w : ℕ) (b : Block) (c e plane : List ℕ) → written_plane w b c (written_plane w b e plane) ≡ written_plane w b c plane
written_over w b c e plane =
    let n : length (written_plane w b c (written_plane w b e plane)) ≡ length plane = length-written w b c (written_plane w b e plane) ∙ length-written w b e plane in
    ext_get_or 0 (written_plane w b c (written_plane w b e plane)) (written_plane w b c plane) (n ∙ sym (length-written w b c plane))
    (λ i h.
    let k : i < length plane = omega arith in
    written_entry w b c (written_plane w b e plane) i (rw (length-written w b e plane) k)
    ∙ bool_cases (in_block w b i)
    (λ t. rw t)
    (λ f. rw f (written_entry w b e plane i k ∙ rw f))
    ∙ sym (written_entry w b c plane i k))

-- the tests of a block's rows and columns
pub rows_yes : (b : Block) (y : ℕ) → b.row ≤ y → y < b.row + b.height → in_rows b y ≡ true
rows_yes b y h k = and_true _ _ (le-leb b.row y h) (lt-ltb y (b.row + b.height) k)

pub rows_under : (b : Block) (y : ℕ) → y < b.row → in_rows b y ≡ false
rows_under b y h = rw (lt-leb b.row y h)

pub rows_beyond : (b : Block) (y : ℕ) → b.row + b.height ≤ y → in_rows b y ≡ false
rows_beyond b y h = bool_cases (leb b.row y) (λ e. rw (e, le-ltb y (b.row + b.height) h)) (λ e. rw e)

columns_yes : (b : Block) (x : ℕ) → b.column ≤ x → x < b.column + b.width → in_columns b x ≡ true
columns_yes b x h k = and_true _ _ (le-leb b.column x h) (lt-ltb x (b.column + b.width) k)

columns_no : (b : Block) (x : ℕ) → (x < b.column) ⊎ (b.column + b.width ≤ x) → in_columns b x ≡ false
columns_no b x (inl h) = rw (lt-leb b.column x h)
columns_no b x (inr h) = bool_cases (leb b.column x) (λ e. rw (e, le-ltb x (b.column + b.width) h)) (λ e. rw e)

-- position x of row y lies in the block
pub record Covers (b : Block) (y x : ℕ) : Type 0 where
  pub top : b.row ≤ y
  pub bottom : y < b.row + b.height
  pub left : b.column ≤ x
  pub right : x < b.column + b.width

pub covers : (b : Block) (y x : ℕ) → (in_rows b y && in_columns b x) ≡ true → Covers b y x
covers b y x t =
    let r = and_left (in_rows b y) _ t in
    let q = and_right (in_rows b y) _ t in
    record {
      top = leb-true b.row y (and_left (leb b.row y) _ r);
      bottom = ltb-true y (b.row + b.height) (and_right (leb b.row y) _ r);
      left = leb-true b.column x (and_left (leb b.column x) _ q);
      right = ltb-true x (b.column + b.width) (and_right (leb b.column x) _ q);
    }

pub covers_yes : (b : Block) (y x : ℕ) → Covers b y x → (in_rows b y && in_columns b x) ≡ true
covers_yes b y x h = and_true _ _ (rows_yes b y h.top h.bottom) (columns_yes b x h.left h.right)

-- a candidate's row lies within the candidate
pub candidate_fits : (b : Block) (c : List ℕ) (y : ℕ) → length c ≡ b.width * b.height → b.row ≤ y → y < b.row + b.height → (y - b.row) * b.width + b.width ≤ length c
candidate_fits b c y e h k = omega (arith, rows_apart b.width (y - b.row) b.height (omega arith), mul_comm b.height b.width)

module _ (w : ℕ) (b : Block) (c plane : List ℕ) (y : ℕ) (fits : y * w + w ≤ length plane) (inside : b.column + b.width ≤ w) where
  -- a column outside the block's
  pub written_beside : (x : ℕ) → x < w → (x < b.column) ⊎ (b.column + b.width ≤ x) → get_or (row_of (written_plane w b c plane) w y) x 0 ≡ get_or (row_of plane w y) x 0
  written_beside x h o =
      get_or_row 0 (written_plane w b c plane) w y x h ∙ written_at w b c plane y x h (omega arith)
      ∙ rw (and_off (in_rows b y) (in_columns b x) (columns_no b x o)) (sym (get_or_row 0 plane w y x h))

  -- a column of the block's
  pub written_inside : (x : ℕ) → b.row ≤ y → y < b.row + b.height → b.column ≤ x → x < b.column + b.width → get_or (row_of (written_plane w b c plane) w y) x 0 ≡ get_or c ((y - b.row) * b.width + (x - b.column)) 0
  written_inside x h k g l =
      let xw : x < w = omega arith in
      get_or_row 0 (written_plane w b c plane) w y x xw ∙ written_at w b c plane y x xw (omega arith)
      ∙ rw (rows_yes b y h k, columns_yes b x g l)

  wide : length (row_of plane w y) ≡ w
  wide = length-row plane w y fits

  wide_after : length (row_of (written_plane w b c plane) w y) ≡ w
  wide_after = length-row (written_plane w b c plane) w y (rw (length-written w b c plane) fits)

  -- the block's columns hold the candidate's row
  pub written_row_in : length c ≡ b.width * b.height → b.row ≤ y → y < b.row + b.height → row_of (written_plane w b c plane) w y ≡ take b.column (row_of plane w y) ++ (row_of c b.width (y - b.row) ++ drop b.width (drop b.column (row_of plane w y)))
  written_row_in e h k =
      let r : List ℕ = row_of plane w y in
      let m : List ℕ = row_of c b.width (y - b.row) in
      let n : length (take b.column r) ≡ b.column = length-take-le b.column r (rw wide (omega arith)) in
      let l : length m ≡ b.width = length-row c b.width (y - b.row) (candidate_fits b c y e h k) in
      let t : length (drop b.width (drop b.column r)) ≡ w - b.column - b.width =
      length-drop b.width (drop b.column r) ∙ ap (λ (i : ℕ). i - b.width) (length-drop b.column r ∙ ap (λ (i : ℕ). i - b.column) wide) in
      let all : length (take b.column r ++ (m ++ drop b.width (drop b.column r))) ≡ w =
      length-append (take b.column r) (m ++ drop b.width (drop b.column r)) ∙ omega (arith, n, l, t, length-append m (drop b.width (drop b.column r))) in
      ext_get_or 0 (row_of (written_plane w b c plane) w y) (take b.column r ++ (m ++ drop b.width (drop b.column r))) (wide_after ∙ sym all)
      (λ x i.
      let xw : x < w = omega (arith, wide_after) in
      ⊎_elim
      (λ u.
      written_beside x xw (inl u)
      ∙ sym (get_or-append (take b.column r) (m ++ drop b.width (drop b.column r)) 0 x (omega arith) ∙ get_or-take b.column r x 0 u))
      (λ u. ⊎_elim
      (λ v.
      let q : x ≡ length (take b.column r) + (x - b.column) = omega arith in
      written_inside x h k u v
      ∙ sym (ap (λ (j : ℕ). get_or (take b.column r ++ (m ++ drop b.width (drop b.column r))) j 0) q
      ∙ get_or-append-add (take b.column r) (m ++ drop b.width (drop b.column r)) (x - b.column) 0
      ∙ get_or-append m (drop b.width (drop b.column r)) 0 (x - b.column) (omega arith)
      ∙ get_or_row 0 c b.width (y - b.row) (x - b.column) (omega arith)))
      (λ v.
      let j : ℕ = x - b.column - b.width in
      let q : x ≡ length (take b.column r) + (length m + j) = omega arith in
      let z : b.column + (b.width + j) ≡ x = omega arith in
      written_beside x xw (inr v)
      ∙ sym (ap (λ (i : ℕ). get_or (take b.column r ++ (m ++ drop b.width (drop b.column r))) i 0) q
      ∙ get_or-append-add (take b.column r) (m ++ drop b.width (drop b.column r)) (length m + j) 0
      ∙ get_or-append-add m (drop b.width (drop b.column r)) j 0
      ∙ get_or-drop b.width (drop b.column r) j 0 ∙ get_or-drop b.column r (b.width + j) 0
      ∙ ap (λ (i : ℕ). get_or r i 0) z))
      (lt_or_le x (b.column + b.width)))
      (lt_or_le x b.column))

  pub first_fits : (r : Bool) → first_column r w b.column b.width + b.width ≤ w
  unfolding first_column
  first_fits true = omega arith
  first_fits false = omega arith

  under_beside : (r : Bool) (x : ℕ) → x < first_column r w b.column b.width → (entry_of r w x < b.column) ⊎ (b.column + b.width ≤ entry_of r w x)
  unfolding first_column entry_of
  under_beside true x h = inr (omega arith)
  under_beside false x h = inl h

  beyond_beside : (r : Bool) (x : ℕ) → x < w → first_column r w b.column b.width + b.width ≤ x → (entry_of r w x < b.column) ⊎ (b.column + b.width ≤ entry_of r w x)
  unfolding first_column entry_of
  beyond_beside true x l h = inl (omega arith)
  beyond_beside false x l h = inr h

  entry_in : (r : Bool) (x : ℕ) → x < w → entry_of r w x < w
  unfolding entry_of
  entry_in true x h = omega arith
  entry_in false x h = h

  -- as a view reads the row, only the block's columns may differ
  pub written_edited : (r : Bool) → 1 ≤ b.width → EditedRow (seen r (row_of plane w y)) (seen r (row_of (written_plane w b c plane) w y)) (first_column r w b.column b.width) (first_column r w b.column b.width + b.width - 1)
  written_edited r some =
      record {
        same = la ∙ sym lb;
        order = omega arith;
        within = omega (arith, lb, first_fits r);
        under = λ x h. agree x (omega (arith, first_fits r)) (under_beside r x h);
        beyond = λ x h. ⊎_elim (λ l. agree x l (beyond_beside r x l (omega arith)))
            (λ l. get_or-eq_default (seen r (row_of (written_plane w b c plane) w y)) 0 (omega (arith, la)) ∙ sym (get_or-eq_default (seen r (row_of plane w y)) 0 (omega (arith, lb)))) (lt_or_le x w);
      }
    where
      la : length (seen r (row_of (written_plane w b c plane) w y)) ≡ w
      la = length_seen r (row_of (written_plane w b c plane) w y) ∙ wide_after

      lb : length (seen r (row_of plane w y)) ≡ w
      lb = length_seen r (row_of plane w y) ∙ wide

      agree : (x : ℕ) → x < w → (entry_of r w x < b.column) ⊎ (b.column + b.width ≤ entry_of r w x) → get_or (seen r (row_of (written_plane w b c plane) w y)) x 0 ≡ get_or (seen r (row_of plane w y)) x 0
      agree x l o =
          get_or_seen 0 r (row_of (written_plane w b c plane) w y) x (omega (arith, wide_after))
          ∙ ap (λ (n : ℕ). get_or (row_of (written_plane w b c plane) w y) (entry_of r n x) 0) wide_after
          ∙ written_beside (entry_of r w x) (entry_in r x l) o
          ∙ sym (get_or_seen 0 r (row_of plane w y) x (omega (arith, wide)) ∙ ap (λ (n : ℕ). get_or (row_of plane w y) (entry_of r n x) 0) wide)

-- ---- both views' depths

module _ (s : Settings) (v : ℕ) (b : Block) (c : List ℕ) (d : Depths) where
  pub written_own : depths_of (written s v b c d) (is_right v) ≡ written_plane s.w b c (depths_of d (is_right v))
  unfolding written
  written_own = bool_cases (is_right v) (λ e. rw e) (λ e. rw e)

  pub written_other : depths_of (written s v b c d) (not (is_right v)) ≡ depths_of d (not (is_right v))
  unfolding written
  written_other = bool_cases (is_right v) (λ e. rw e) (λ e. rw e)

  pub written_left : length (written s v b c d).left ≡ length d.left
  unfolding written
  written_left = bool_cases (is_right v) (λ e. rw e) (λ e. rw e (length-written s.w b c d.left))

  pub written_right : length (written s v b c d).right ≡ length d.right
  unfolding written
  written_right = bool_cases (is_right v) (λ e. rw e (length-written s.w b c d.right)) (λ e. rw e)

-- a block written twice in one view
written_twice : (s : Settings) (v : ℕ) (b : Block) (c e : List ℕ) (d : Depths) → written s v b c (written s v b e d) ≡ written s v b c d
unfolding written
written_twice s v b c e d =
    bool_cases (is_right v) (λ t. rw (t, written_over s.w b c e d.right)) (λ t. rw (t, written_over s.w b c e d.left))

-- ---- the depths that stood in the block (document 02, card 3)

pub length-old : (w : ℕ) (b : Block) (plane : List ℕ) → length (block_depths w b plane) ≡ positions b
unfolding block_depths
length-old w b plane = length-list_of _ (positions b)

-- what stood at column x of row y of the block
pub old_at : (w : ℕ) (b : Block) (plane : List ℕ) (y x : ℕ) → y < b.height → x < b.width → get_or (block_depths w b plane) (y * b.width + x) 0 ≡ get_or plane ((b.row + y) * w + (b.column + x)) 0
unfolding block_depths
old_at w b plane y x h k =
    get_or-list_of 0 (λ k. get_or plane ((b.row + k / b.width) * w + (b.column + k % b.width)) 0) (positions b) (y * b.width + x)
    (omega (arith, entry_fits b.width b.height y x h k, mul_comm b.height b.width))
    ∙ rw (digits_div y k, digits_mod y k)

pub old_most : (w : ℕ) (b : Block) (plane : List ℕ) (most : ℕ) → ((i : ℕ) → get_or plane i 0 ≤ most) → (i : ℕ) → get_or (block_depths w b plane) i 0 ≤ most
unfolding block_depths
old_most w b plane most h i =
    let f : ℕ → ℕ = λ k. get_or plane ((b.row + k / b.width) * w + (b.column + k % b.width)) 0 in
    ⊎_elim (λ l. rw (get_or-list_of 0 f (positions b) i l) (h _))
    (λ l. rw (get_or-eq_default (block_depths w b plane) 0 {n = i} (rw (length-old w b plane) l)) (omega arith)) (lt_or_le i (positions b))

-- Written again after anything else, they restore the plane.
pub old_back : (w h : ℕ) (b : Block) (c plane : List ℕ) → length plane ≡ h * w → written_plane w b (block_depths w b plane) (written_plane w b c plane) ≡ plane
old_back w h b c plane e =
    plane_ext 0 w h (written_plane w b (block_depths w b plane) (written_plane w b c plane)) plane
    (length-written w b (block_depths w b plane) (written_plane w b c plane) ∙ length-written w b c plane ∙ e) e
    (λ y k. row_ext 0 (written_plane w b (block_depths w b plane) (written_plane w b c plane)) plane w y
    (length-written w b (block_depths w b plane) (written_plane w b c plane) ∙ length-written w b c plane)
    (λ x m.
    let i : y * w + x < length plane = omega (arith, entry_fits w h y x k m, e) in
    written_at w b (block_depths w b plane) (written_plane w b c plane) y x m (rw (length-written w b c plane) i)
    ∙ bool_cases (in_rows b y && in_columns b x)
    (λ t.
    let at = covers b y x t in
    let u : b.row + (y - b.row) ≡ y = omega (arith, at.top) in
    let u' : b.column + (x - b.column) ≡ x = omega (arith, at.left) in
    rw t (old_at w b plane (y - b.row) (x - b.column) (omega (arith, at.top, at.bottom)) (omega (arith, at.left, at.right)) ∙ rw (u, u')))
    (λ f. rw f (written_at w b c plane y x m i ∙ rw f))))

-- the same of both views' planes
pub written_back : (s : Settings) (v : ℕ) (b : Block) (c : List ℕ) (d : Depths) → DepthsSized s d → written s v b (old_depths s v b d) (written s v b c d) ≡ d
unfolding written
written_back s v b c d z =
    bool_cases (is_right v)
    (λ t. rw (t, old_back s.w s.h b c d.right (z.right ∙ mul_comm s.w s.h)))
    (λ f. rw (f, old_back s.w s.h b c d.left (z.left ∙ mul_comm s.w s.h)))

-- Written where they stand, they change nothing.
pub written_old : (s : Settings) (v : ℕ) (b : Block) (d : Depths) → DepthsSized s d → written s v b (old_depths s v b d) d ≡ d
written_old s v b d z = sym (written_twice s v b (old_depths s v b d) (old_depths s v b d) d) ∙ written_back s v b (old_depths s v b d) d z
