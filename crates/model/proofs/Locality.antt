-- What a written block changes in the fresh drawing.
--     other_row, row_out        the other view's rows stay, and the rows outside the block
--     shown_stays               outside the span a position of either view shows the same
--     sample_stays              and so does the combined picture
--     limits_stay               limits change at columns up to b only
--     change_spans              the change of the total is the change of the spans' sums
use Prim.Native.Nat.{ℕ, ◌+◌, ◌-◌, ◌*◌, ◌<◌, ◌≤◌}
use mathlib.Core.Path.{◌≡◌, sym, ap, subst, ◌∙◌}
use mathlib.Core.Bool.{Bool, true, false, cond, ◌&&◌, not}
use mathlib.Core.Logic.{⊎_elim}
use mathlib.Core.List.{List}
use native.Mathlib.Omega.{arith}
use lib.ListN.{length, get_or}
use lib.IntN.{pos}
use borrow.Author.Tests.{ltb-false}
use Rattle.model.specs.declared.Settings.{Settings}
use Rattle.model.specs.declared.Block.{Block}
use Rattle.model.specs.declared.Pixel.{Pixel}
use Rattle.model.specs.Lists.{row_of, sum_to}
use Rattle.model.specs.Row.{Line, line, Row, width, place, pixel_at, limit_at}
use Rattle.model.specs.Views.{is_right, view_row, seen, entry_of}
use Rattle.model.specs.Combined.{combined_of}
use Rattle.model.specs.Planes.{Pictures, Depths, table_of, texture_of, depths_of}
use Rattle.model.specs.Fresh.{line_of, fresh_row, shown_at, fresh_sample, fresh_total}
use Rattle.model.specs.Blocks.{in_rows, written}
use Rattle.model.specs.Span.{first_column, view_place, span_has, limit_moves}
use Rattle.model.proofs.Choice.{bool_cases, and_false}
use Rattle.model.proofs.Lists.{rows_apart}
use Rattle.model.proofs.Sums.{sum_same, sum-add}
use Rattle.model.proofs.Views.{seen_line, length_seen, entry_within, shown_view, get_or_view_limits}
use Rattle.model.proofs.Spans.{EditedRow, not_in_span, span_pixel, span_limit}
use Rattle.model.proofs.Fresh.{DepthsSized, depths_length, wide}
use Rattle.model.proofs.Written.{written_row_out, written_edited, written_own, written_other, written_left, written_right}
use Rattle.model.proofs.Totals.{error_at, total_rows}

-- a block with columns, inside the picture's
pub record Columns (s : Settings) (b : Block) : Type 0 where
  pub some : 1 ≤ b.width
  pub inside : b.column + b.width ≤ s.w

pub sized_written : (s : Settings) (v : ℕ) (b : Block) (c : List ℕ) (d : Depths) → DepthsSized s d → DepthsSized s (written s v b c d)
sized_written s v b c d h = record { left = written_left s v b c d ∙ h.left; right = written_right s v b c d ∙ h.right }

module _ (s : Settings) (p : Pictures) (d : Depths) (v : ℕ) (b : Block) (c : List ℕ) (sized : DepthsSized s d) where
  abbrev after : Depths
  after = written s v b c d

  -- a view whose row of depths stays
  row_same : (q : Bool) (y : ℕ) → row_of (depths_of after q) s.w y ≡ row_of (depths_of d q) s.w y → fresh_row s p after q y ≡ fresh_row s p d q y
  unfolding fresh_row
  row_same q y e = ap (λ (r : List ℕ). view_row q (line s.tear (table_of s q) (row_of (texture_of p q) s.w y) r)) e

  pub other_row : (y : ℕ) → fresh_row s p after (not (is_right v)) y ≡ fresh_row s p d (not (is_right v)) y
  other_row y = row_same (not (is_right v)) y (ap (λ (l : List ℕ). row_of l s.w y) (written_other s v b c d))

  row_fits : (q : Bool) (y : ℕ) → y < s.h → y * s.w + s.w ≤ length (depths_of d q)
  row_fits q y h = omega (arith, depths_length s sized q, rows_apart s.w y s.h h)

  pub row_out : (y : ℕ) → y < s.h → in_rows b y ≡ false → fresh_row s p after (is_right v) y ≡ fresh_row s p d (is_right v) y
  row_out y h e =
      row_same (is_right v) y
      (ap (λ (l : List ℕ). row_of l s.w y) (written_own s v b c d)
      ∙ written_row_out s.w b c (depths_of d (is_right v)) y e)

  -- either view, where it is enough to look at the one that was written
  by_view : (P : Bool → Type 0) → P (is_right v) → P (not (is_right v)) → (q : Bool) → P q
  by_view P own other q = go (is_right v) q own other
    where
      go : (r q : Bool) → P r → P (not r) → P q
      go true true own other = own
      go true false own other = other
      go false true own other = other
      go false false own other = own

  module _ (columns : Columns s b) where
    first : ℕ
    first = first_column (is_right v) s.w b.column b.width

    edited : (y : ℕ) → y < s.h → EditedRow (seen (is_right v) (row_of (depths_of d (is_right v)) s.w y)) (seen (is_right v) (row_of (depths_of after (is_right v)) s.w y)) first (first + b.width - 1)
    unfolding first
    edited y h =
        subst
        (λ (l : List ℕ). EditedRow (seen (is_right v) (row_of (depths_of d (is_right v)) s.w y)) (seen (is_right v) (row_of l s.w y)) (first_column (is_right v) s.w b.column b.width) (first_column (is_right v) s.w b.column b.width + b.width - 1))
        (sym (written_own s v b c d))
        (written_edited s.w b c (depths_of d (is_right v)) y (row_fits (is_right v) y h) columns.inside (is_right v) columns.some)

    seen_wide : (y : ℕ) → y < s.h → length (seen (is_right v) (row_of (depths_of d (is_right v)) s.w y)) ≡ s.w
    seen_wide y h = length_seen (is_right v) (row_of (depths_of d (is_right v)) s.w y) ∙ wide s p d sized (is_right v) y h

    own_shown : (y x : ℕ) → y < s.h → x < s.w → span_has s (is_right v) b d after y x ≡ false → shown_at (fresh_row s p after (is_right v) y) x ≡ shown_at (fresh_row s p d (is_right v) y) x
    unfolding fresh_row span_has view_place first
    own_shown y x h k e =
        let r : Bool = is_right v in
        let l : Line = line_of s p d r y in
        let m : Line = line_of s p after r y in
        let lw : width l ≡ s.w = wide s p d sized r y h in
        let mw : width m ≡ s.w = wide s p after (sized_written s v b c d sized) r y h in
        let a : ℕ = first_column r s.w b.column b.width in
        let out = not_in_span (place (table_of s r) (seen r (row_of (depths_of d r) s.w y))) (place (table_of s r) (seen r (row_of (depths_of after r) s.w y))) s.w a (a + b.width - 1) (entry_of r s.w x) e in
        let q = span_pixel s.tear (table_of s r) (seen r (row_of (texture_of p r) s.w y)) (seen r (row_of (depths_of d r) s.w y)) (seen r (row_of (depths_of after r) s.w y)) a (a + b.width - 1) (entry_of r s.w x) (edited y h) (rw (seen_wide y h) (entry_within r s.w x k)) (rw (seen_wide y h) out) in
        shown_view r m x (rw mw k) ∙ ap (λ (n : ℕ). pixel_at (seen_line r m) (entry_of r n x)) mw ∙ q
        ∙ sym (shown_view r l x (rw lw k) ∙ ap (λ (n : ℕ). pixel_at (seen_line r l) (entry_of r n x)) lw)

    -- a position that is not in the span of one of the block's rows
    pub shown_stays : (y x : ℕ) → y < s.h → x < s.w → (in_rows b y && span_has s (is_right v) b d after y x) ≡ false → (q : Bool) → shown_at (fresh_row s p after q y) x ≡ shown_at (fresh_row s p d q y) x
    shown_stays y x h k e =
        by_view (λ (q : Bool). shown_at (fresh_row s p after q y) x ≡ shown_at (fresh_row s p d q y) x)
        (⊎_elim (λ o. ap (λ (r : Row). shown_at r x) (row_out y h o)) (λ o. own_shown y x h k o)
        (and_false (in_rows b y) (span_has s (is_right v) b d after y x) e))
        (ap (λ (r : Row). shown_at r x) (other_row y))

    pub sample_stays : (y x : ℕ) → y < s.h → x < s.w → (in_rows b y && span_has s (is_right v) b d after y x) ≡ false → fresh_sample s p after y x ≡ fresh_sample s p d y x
    unfolding fresh_sample
    sample_stays y x h k e =
        let l = shown_stays y x h k e false in
        let r = shown_stays y x h k e true in
        ap (λ (q : Pixel). combined_of s.share s.tolerance q (shown_at (fresh_row s p after true y) x)) l
        ∙ ap (λ (q : Pixel). combined_of s.share s.tolerance (shown_at (fresh_row s p d false y) x) q) r

    own_limits : (y x : ℕ) → y < s.h → x < s.w → limit_moves s (is_right v) b x ≡ false → get_or (fresh_row s p after (is_right v) y).limits x (pos 0) ≡ get_or (fresh_row s p d (is_right v) y).limits x (pos 0)
    unfolding fresh_row limit_moves first
    own_limits y x h k e =
        let r : Bool = is_right v in
        let l : Line = line_of s p d r y in
        let m : Line = line_of s p after r y in
        let lw : width l ≡ s.w = wide s p d sized r y h in
        let mw : width m ≡ s.w = wide s p after (sized_written s v b c d sized) r y h in
        let a : ℕ = first_column r s.w b.column b.width in
        let far : a + b.width ≤ entry_of r s.w x = ltb-false _ _ e in
        get_or_view_limits r m x (rw mw k) ∙ ap (λ (n : ℕ). limit_at (seen_line r m) (entry_of r n x)) mw
        ∙ span_limit s.tear (table_of s r) (seen r (row_of (texture_of p r) s.w y)) (seen r (row_of (depths_of d r) s.w y)) (seen r (row_of (depths_of after r) s.w y)) a (a + b.width - 1) (entry_of r s.w x) (edited y h) (omega (arith, columns.some))
        ∙ sym (get_or_view_limits r l x (rw lw k) ∙ ap (λ (n : ℕ). limit_at (seen_line r l) (entry_of r n x)) lw)

    pub limits_stay : (y x : ℕ) → y < s.h → x < s.w → (in_rows b y && limit_moves s (is_right v) b x) ≡ false → get_or (fresh_row s p after (is_right v) y).limits x (pos 0) ≡ get_or (fresh_row s p d (is_right v) y).limits x (pos 0)
    limits_stay y x h k e =
        ⊎_elim (λ o. ap (λ (r : Row). get_or r.limits x (pos 0)) (row_out y h o)) (λ o. own_limits y x h k o)
        (and_false (in_rows b y) (limit_moves s (is_right v) b x) e)

    -- the sum of the squared errors of the drawing of e over the spans of the block's rows
    unfoldable pub spans_error : Depths → ℕ
    spans_error e = sum_to (λ y. sum_to (λ x. cond (in_rows b y && span_has s (is_right v) b d after y x) (error_at s p e y x) 0) s.w) s.h

    pub change_spans : fresh_total s p after + spans_error d ≡ fresh_total s p d + spans_error after
    unfolding spans_error error_at
    change_spans =
        let part : Depths → ℕ → ℕ → ℕ = λ e y x. cond (in_rows b y && span_has s (is_right v) b d after y x) (error_at s p e y x) 0 in
        let entry : (y x : ℕ) → y < s.h → x < s.w → error_at s p after y x + part d y x ≡ error_at s p d y x + part after y x = λ y x h k.
        bool_cases (in_rows b y && span_has s (is_right v) b d after y x) (λ e. rw e (omega arith))
        (λ e. let q = sample_stays y x h k e in rw (e, q)) in
        let sums : (e g : Depths) (y : ℕ) → sum_to (λ x. error_at s p e y x + part g y x) s.w ≡ sum_to (error_at s p e y) s.w + sum_to (part g y) s.w = λ e g y.
        sum-add (error_at s p e y) (part g y) s.w in
        let rows : sum_to (λ y. sum_to (error_at s p after y) s.w + sum_to (part d y) s.w) s.h ≡ sum_to (λ y. sum_to (error_at s p d y) s.w + sum_to (part after y) s.w) s.h =
        sum_same _ _ s.h (λ y h. sym (sums after d y) ∙ sum_same _ _ s.w (λ x k. entry y x h k) ∙ sums d after y) in
        rw (total_rows s p after, total_rows s p d)
        (sym (sum-add (λ y. sum_to (error_at s p after y) s.w) (λ y. sum_to (part d y) s.w) s.h) ∙ rows
        ∙ sum-add (λ y. sum_to (error_at s p d y) s.w) (λ y. sum_to (part after y) s.w) s.h)
