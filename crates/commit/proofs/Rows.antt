-- One row of one view, written and drawn again in its span: where it was sound it is sound.
--     true_high          where the held limits are true, the span's high end is the limit
--     limits_new         the row's limits
--     plane_new          its samples, fronts and marks
use Prim.Native.Nat.{ℕ, ◌+◌, ◌-◌, ◌<◌, ◌≤◌}
use mathlib.Core.Path.{◌≡◌, refl, sym, ap, ◌∙◌}
use mathlib.Core.Bool.{Bool, true}
use mathlib.Core.Logic.{⊎_elim, ◌⊎◌, inl, inr}
use mathlib.Core.List.{List}
use native.Mathlib.Omega.{arith}
use lib.ListN.{length, get_or}
use lib.IntN.{ℤ, pos}
use Rattle.model.specs.declared.Tear.{Tear}
use Rattle.model.specs.declared.Pixel.{Pixel}
use Rattle.model.specs.Lists.{list_of}
use Rattle.model.specs.Row.{line, place, limit, limit_at, quarter, pixel_at, left_row}
use Rattle.model.specs.Views.{seen, view_row}
use Rattle.model.specs.Span.{span_low, span_high, first_column}
use Rattle.model.specs.Refusals.{table_ok}
use Rattle.model.proofs.Lists.{get_or-list_of}
use Rattle.model.proofs.Views.{length_seen, seen_seen, length-seen_list}
use Rattle.model.proofs.Spans.{EditedRow, Outside, edited_moved, moved_limit, span_limit, span_pixel}
use Rattle.planes.specs.Parts.{splice}
use Rattle.planes.proofs.Splices.{length-splice}
use Rattle.planes.proofs.Fills.{filled_rest, filled_change}
use Rattle.planes.proofs.SeenParts.{first_fits}
use Rattle.pixel.specs.declared.Edge.{Edge}
use Rattle.places.specs.Positions.{first_at}
use Rattle.limits.specs.Limits.{span_top, EdgeHeld}
use Rattle.row.specs.Drawing.{pixel_below}
use Rattle.row.proofs.Below.{below_pixel, first_within}
use Rattle.limits.proofs.Limits.{limit_least, limit_true, edge_true}
use Rattle.edits.specs.Changes.{Relimited}
use Rattle.commit.specs.Commit.{Stretched, span_shown}
use Rattle.commit.proofs.Shown.{length-shown, shown_filled}
use Rattle.commit.proofs.Edits.{row_edited}
use Rattle.edits.proofs.Limits.{limits_again}

-- what one row's edit is: depths d before and d' after, held limits e before and e' after
pub record RowStep (r : Bool) (t : List ℕ) (w x n low : ℕ) (edge : Edge) (from to : ℕ) (candidate d d' : List ℕ) (e e' : List ℤ) : Type 0 where
  pub table : table_ok t ≡ true
  pub wide : length d ≡ w
  pub most : w ≤ 4096
  pub some : 0 < length candidate
  pub fits : x + length candidate ≤ w
  pub columns : n ≡ first_column r w x (length candidate) + length candidate
  pub depths : d' ≡ splice d x candidate
  pub bottom : low ≡ span_low (place t (seen r d)) (place t (seen r d')) (first_column r w x (length candidate)) (n - 1)
  pub top : EdgeHeld (seen r e) n (span_top t (seen r d') (seen r e) n) edge
  pub limits : Relimited t (seen r d') (first_column r w x (length candidate)) n edge.limit (seen r e) (seen r e')
  pub held : length e ≡ w
  pub same : length e' ≡ length e
  pub stretched : Stretched r w low edge.limit from to

module _ {r : Bool} {t : List ℕ} {w x n low : ℕ} {edge : Edge} {from to : ℕ} {candidate d d' : List ℕ} {e e' : List ℤ} (step : RowStep r t w x n low edge from to candidate d d' e e') where
  pub columns_most : n ≤ w
  columns_most = rw step.columns (first_fits r w x (length candidate) step.fits)

  pub edited : EditedRow (seen r d) (seen r d') (first_column r w x (length candidate)) (n - 1)
  edited =
      rw (step.depths, step.columns)
      (row_edited r d candidate x w (first_column r w x (length candidate)) step.wide step.some step.fits refl)

  old_wide : length (seen r d) ≡ w
  old_wide = length_seen r d ∙ step.wide

  new_wide : length (seen r d') ≡ w
  new_wide = edited.same ∙ old_wide

  some_columns : 0 < n
  some_columns = omega (arith, step.columns, step.some)

  pub end_in : first_at edge.limit ≤ w
  end_in = rw new_wide at (first_within t (seen r d') (n - 1) edge.limit (rw step.top.limit (limit_least _ n _)))

  pub shown_fits : (tear : Tear) (g : Pixel → ℕ) (s : List ℕ) → from + length (span_shown g r (line tear t (seen r s) (seen r d')) n low edge) ≤ w
  shown_fits tear g s =
      rw (length-shown g r (line tear t (seen r s) (seen r d')) n edge, ← step.stretched.size) step.stretched.within

  module _ (tear : Tear) (s : List ℕ) (old : e ≡ (view_row r (line tear t s d)).limits) where
    old_limits : seen r e ≡ list_of (limit_at (line tear t (seen r s) (seen r d))) (length (seen r d))
    unfolding view_row left_row
    old_limits = ap (seen r) old ∙ seen_seen r _

    held_wide : length (seen r e) ≡ length (seen r d')
    held_wide = length_seen r e ∙ step.held ∙ sym new_wide

    -- the held limits right of the block are those of the new depths too
    beyond_true : (c : ℕ) → n ≤ c → c < length (seen r d') → get_or (seen r e) c (pos 0) ≡ limit_at (line tear t (seen r s) (seen r d')) c
    beyond_true c h k =
        ap (λ (l : List ℤ). get_or l c (pos 0)) old_limits
        ∙ get_or-list_of (pos 0) (limit_at (line tear t (seen r s) (seen r d))) (length (seen r d)) c (rw edited.same at k)
        ∙ sym (span_limit tear t (seen r s) (seen r d) (seen r d') (first_column r w x (length candidate)) (n - 1) c edited (omega (arith, some_columns)))

    pub true_high : edge.limit ≡ limit (place t (seen r d')) (length (seen r d')) n
    true_high =
        step.top.limit
        ∙ limit_true t (seen r d') (seen r e) n tear (seen r s) held_wide (rw new_wide step.most) some_columns (rw new_wide columns_most) (λ k. beyond_true n (omega arith) k)

    pub limits_new : e' ≡ (view_row r (line tear t s d')).limits
    unfolding view_row left_row
    limits_new =
        sym (seen_seen r e')
        ∙ ap (seen r)
        (limits_again tear t (seen r s) (seen r d) (seen r d') (first_column r w x (length candidate)) (n - 1) n edge.limit edited (omega (arith, some_columns))
        (rw old_wide step.most) true_high old_limits (length_seen r e' ∙ step.same ∙ sym (length_seen r e)) step.limits)

    -- a position that is not drawn again lies outside the span, and one that is drawn shows the row
    undrawn : (p : ℕ) → (p < first_at low) ⊎ (first_at edge.limit ≤ p) → Outside (place t (seen r d)) (place t (seen r d')) (length (seen r d)) (first_column r w x (length candidate)) (n - 1) (quarter p)
    unfolding span_high
    undrawn p h =
        let m : n - 1 + 1 ≡ n = omega (arith, some_columns) in
        let e : limit (place t (seen r d)) (length (seen r d)) n ≡ edge.limit =
        sym (true_high ∙ ap (λ (k : ℕ). limit (place t (seen r d')) k n) edited.same
        ∙ moved_limit (edited_moved t (seen r d) (seen r d') (first_column r w x (length candidate)) (n - 1) edited) n (omega (arith, some_columns))) in
        rw (m, e, ← step.bottom) (⊎_elim (λ k. inl (omega arith)) (λ k. inr (omega arith)) h)

    drawn : (p : ℕ) → p < first_at edge.limit → pixel_below (line tear t (seen r s) (seen r d')) n edge p ≡ pixel_at (line tear t (seen r s) (seen r d')) p
    drawn p h =
        below_pixel (line tear t (seen r s) (seen r d')) n p edge some_columns (rw new_wide columns_most) true_high
        (edge_true tear t (seen r s) (seen r d') (seen r e) n step.table held_wide (rw new_wide step.most) beyond_true edge p _ (rw new_wide columns_most) true_high step.top)
        (omega arith)

    pub plane_new : (g : Pixel → ℕ) (row : List ℕ) → row ≡ seen r (list_of (λ p. g (pixel_at (line tear t (seen r s) (seen r d)) p)) (length (seen r d))) → splice row from (span_shown g r (line tear t (seen r s) (seen r d')) n low edge) ≡ seen r (list_of (λ p. g (pixel_at (line tear t (seen r s) (seen r d')) p)) (length (seen r d')))
    plane_new g row was =
        let l = line tear t (seen r s) (seen r d') in
        let lr : length row ≡ w = ap length was ∙ length-seen_list r _ (length (seen r d)) ∙ old_wide in
        let ys : List ℕ = span_shown g r l n low edge in
        let len : length (seen r (splice row from ys)) ≡ length (seen r row) =
        length_seen r (splice row from ys) ∙ length-splice row from ys (rw lr (shown_fits tear g s)) ∙ sym (length_seen r row) in
        sym (seen_seen r (splice row from ys))
        ∙ ap (seen r)
        (rw edited.same
        (filled_rest
        (filled_change (shown_filled g r l n edge low w from row lr end_in step.stretched.first) (λ p u v. ap g (drawn p v)))
        (ap (seen r) was ∙ seen_seen r _) len
        (λ p k h. ap g (span_pixel tear t (seen r s) (seen r d) (seen r d') (first_column r w x (length candidate)) (n - 1) p edited k (undrawn p h)))))
