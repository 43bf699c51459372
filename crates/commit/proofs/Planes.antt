-- The planes of one view after one row was written and drawn again.
--     sized_row          a row of planes that have their sizes
--     bounded_none, bounded_then, bounded_here     whatever they held, no sample above the greatest is written, and limits beyond the block and spare bits stay
--     row_commits        every row that was sound is sound, and nothing outside the span's entries of the one row is drawn anew
use Prim.Native.Nat.{ℕ, ◌+◌, ◌*◌, ◌<◌, ◌≤◌}
use mathlib.Core.Path.{◌≡◌, refl, sym, ap, subst, ◌∙◌}
use mathlib.Core.Bool.{Bool, true}
use mathlib.Core.Logic.{⊎_elim, ◌⊎◌, inl, inr}
use mathlib.Core.List.{List, append_assoc}
use native.Mathlib.Omega.{arith}
use native.Mathlib.Nat.{mul_comm}
use lib.ListN.{length, get_or, take, drop, get_or-eq_default}
use lib.Seq.{take-length, drop-drop, paste}
use lib.IntN.{ℤ, pos}
use Rattle.model.specs.declared.Tear.{Tear}
use Rattle.model.specs.declared.Pixel.{Pixel}
use Rattle.model.specs.Lists.{row_of}
use Rattle.model.specs.Row.{line, sample_in, left_row}
use Rattle.model.specs.Views.{seen, view_row, entry_of}
use Rattle.model.specs.Marks.{mark_bytes, pack_row, mark_at, spare_bits}
use Rattle.model.specs.Planes.{View, read_all, view_rows}
use Rattle.model.specs.Span.{first_column}
use Rattle.model.proofs.Choice.{lt_or_le}
use Rattle.model.proofs.Lists.{rows_apart, length-row}
use Rattle.model.proofs.Views.{entry_within, entry_entry, get_or_seen, length-view_marks}
use Rattle.model.proofs.Packing.{Flags, mark_pack_row}
use Rattle.model.proofs.Fresh.{flags_view}
use Rattle.planes.specs.Parts.{splice}
use Rattle.planes.proofs.Read.{read_put, low_splice, none_then}
use Rattle.planes.proofs.Splices.{splice_under, splice_beyond, row_splice, row_other}
use Rattle.model.specs.Refusals.{table_ok}
use Rattle.pixel.specs.declared.Edge.{Edge}
use Rattle.marks.specs.Puts.{put_marks, held_pixel}
use Rattle.marks.proofs.Puts.{spare_put_marks, put_pack_row}
use Rattle.commit.specs.Commit.{Sized, RowIn, drawn_row, SoundRow, held_in, Bounded, span_shown, RowRedrawn, RowCommitted}
use Rattle.edits.specs.Changes.{Changed}
use Rattle.commit.proofs.Shown.{length-shown, flags_shown, low_shown}
use Rattle.commit.proofs.Rows.{RowStep, shown_fits, limits_new, plane_new}

row_in : (w h y n : ℕ) → y < h → n ≡ w * h → y * w + w ≤ n
row_in w h y n k e = omega (arith, rows_apart w y h k, mul_comm w h)

pub sized_row : {w h y : ℕ} {texture d : List ℕ} {v : View} → y < h → Sized w h texture d v → RowIn w y texture d v
sized_row {w} {h} {y} k s =
    record {
      texture = row_in w h y _ k s.texture;
      depths = row_in w h y _ k s.depths;
      samples = row_in w h y _ k s.samples;
      fronts = row_in w h y _ k s.fronts;
      limits = row_in w h y _ k s.limits;
      marks = row_in (mark_bytes w) h y _ k s.marks;
    }

-- marks put into a packed row
splice_paste : (l : List ℕ) (at : ℕ) (xs : List ℕ) → paste l at xs (length xs) ≡ splice l at xs
unfolding splice
splice_paste l at xs = rw (take-length xs, ← drop-drop (length xs) at l) (append_assoc (take at l) xs (drop (length xs) (drop at l)))

pub marks_spliced : (w at n : ℕ) (z ms : List ℕ) → Flags z → Flags ms → length z ≡ w → length ms ≡ n → at + length ms ≤ w → put_marks (pack_row (mark_bytes w) z) at ms n ≡ pack_row (mark_bytes w) (splice z at ms)
marks_spliced w at n z ms hz hm e en k =
    rw (← en)
    (put_pack_row (mark_bytes w) z at ms hz hm (omega arith) (length ms) (omega arith) (omega arith)
    ∙ ap (pack_row (mark_bytes w)) (splice_paste z at ms))

-- an entry outside a part that is replaced
outside : (row ys : List ℕ) (from to n i : ℕ) → from + length ys ≤ length row → length ys ≡ n → to ≡ from + n → (i < from) ⊎ (to ≤ i) → get_or (splice row from ys) i 0 ≡ get_or row i 0
outside row ys from to n i fit e t (inl h) = splice_under 0 row from ys fit i h
outside row ys from to n i fit e t (inr h) = splice_beyond 0 row from ys fit i (omega arith)

pub same_row : (k y : ℕ) → (k ≡ y) ⊎ (k ≡ y → ⊥)
same_row k y =
    ⊎_elim (λ u. inr (λ e. omega arith))
    (λ u. ⊎_elim (λ v. inr (λ e. omega arith)) (λ v. let e : k ≡ y = omega arith in inl e) (lt_or_le y k)) (lt_or_le k y)

-- ---- what holds whatever the planes held

pub bounded_none : (r : Bool) (w n : ℕ) (v : View) → Bounded r w n v v
bounded_none r w n v = record { samples = λ i. inr refl; limits = λ k i h. refl; spare_stay = λ k. refl }

pub bounded_then : (r : Bool) (w n : ℕ) (u v v' : View) → Bounded r w n u v → Bounded r w n v v' → Bounded r w n u v'
bounded_then r w n u v v' first then =
    record {
      samples = none_then u.samples v.samples v'.samples first.samples then.samples;
      limits = λ k i h. then.limits k i h ∙ first.limits k i h;
      spare_stay = λ k. then.spare_stay k ∙ first.spare_stay k;
    }

-- an entry of a row, as the view reads it
entry_seen : (r : Bool) (w i : ℕ) (l : List ℤ) → length l ≡ w → i < w → get_or (seen r l) (entry_of r w i) (pos 0) ≡ get_or l i (pos 0)
entry_seen r w i l e h =
    get_or_seen (pos 0) r l (entry_of r w i) (rw e (entry_within r w i h)) ∙ ap (λ (k : ℕ). get_or l k (pos 0)) (rw e (entry_entry r w i h))

module _ (tear : Tear) (r : Bool) (t texture : List ℕ) (w y x n low : ℕ) (edge : Edge) (from to : ℕ) (candidate d d' : List ℕ) (v v' : View) (table : table_ok t ≡ true) (size : RowIn w y texture d v) (most : w ≤ 4096) (some : 0 < length candidate) (fits : x + length candidate ≤ w) (same : length v'.limits ≡ length v.limits) (change : Changed r t w y x candidate d d' v.limits v'.limits n low edge) (redraw : RowRedrawn r (line tear t (seen r (row_of texture w y)) (seen r (row_of d' w y))) w y n low edge from to v.samples v.fronts v.marks v'.samples v'.fronts v'.marks) where
  step : RowStep r t w x n low edge from to candidate (row_of d w y) (row_of d' w y) (row_of v.limits w y) (row_of v'.limits w y)
  step =
      record {
        table = table;
        wide = length-row d w y size.depths;
        most = most;
        some = some;
        fits = fits;
        columns = change.columns;
        depths = ap (λ (l : List ℕ). row_of l w y) change.depths ∙ row_splice 0 d w y x candidate size.depths fits;
        bottom = change.bottom;
        top = change.top;
        limits = change.limits;
        held = length-row v.limits w y size.limits;
        same = length-row v'.limits w y (rw same size.limits) ∙ sym (length-row v.limits w y size.limits);
        stretched = redraw.drawn.stretched;
      }

  fit : (g : Pixel → ℕ) → from + length (span_shown g r (line tear t (seen r (row_of texture w y)) (seen r (row_of d' w y))) n low edge) ≤ w
  fit g = shown_fits step tear g (row_of texture w y)

  -- the row's planes of samples and fronts
  samples_row : row_of v'.samples w y ≡ splice (row_of v.samples w y) from (span_shown (λ q. q.sample) r (line tear t (seen r (row_of texture w y)) (seen r (row_of d' w y))) n low edge)
  samples_row =
      ap (λ (l : List ℕ). row_of l w y) redraw.drawn.samples
      ∙ row_splice 0 v.samples w y from _ size.samples (fit (λ q. q.sample))

  fronts_row : row_of v'.fronts w y ≡ splice (row_of v.fronts w y) from (span_shown (λ q. q.front) r (line tear t (seen r (row_of texture w y)) (seen r (row_of d' w y))) n low edge)
  fronts_row =
      ap (λ (l : List ℕ). row_of l w y) redraw.drawn.fronts
      ∙ row_splice 0 v.fronts w y from _ size.fronts (fit (λ q. q.front))

  module _ (s : SoundRow tear r t texture w d v y) where
    marks_wide : length (drawn_row tear r t texture w d y).marks ≡ w
    marks_wide = length-view_marks r (line tear t (row_of texture w y) (row_of d w y)) ∙ step.wide

    marks_row : row_of v'.marks (mark_bytes w) y ≡ pack_row (mark_bytes w) (splice (drawn_row tear r t texture w d y).marks from (span_shown (λ q. q.mark) r (line tear t (seen r (row_of texture w y)) (seen r (row_of d' w y))) n low edge))
    marks_row =
        redraw.drawn.marks
        ∙ rw s.marks
        (marks_spliced w from _ (drawn_row tear r t texture w d y).marks _ (flags_view r (line tear t (row_of texture w y) (row_of d w y)))
        (flags_shown r (line tear t (seen r (row_of texture w y)) (seen r (row_of d' w y))) n edge _ _) marks_wide
        (length-shown (λ q. q.mark) r (line tear t (seen r (row_of texture w y)) (seen r (row_of d' w y))) n edge _ _) (fit (λ q. q.mark)))

    sound_here : SoundRow tear r t texture w d' v' y
    unfolding view_row left_row
    sound_here =
        record {
          samples = ap read_all samples_row ∙ read_put (row_of v.samples w y) from _ (rw (length-row v.samples w y size.samples) (fit (λ q. q.sample))) (low_shown r _ n edge _ _)
              ∙ plane_new step tear (row_of texture w y) s.limits (λ q. q.sample) (read_all (row_of v.samples w y)) s.samples;
          fronts = fronts_row ∙ plane_new step tear (row_of texture w y) s.limits (λ q. q.front) (row_of v.fronts w y) s.fronts;
          limits = limits_new step tear (row_of texture w y) s.limits;
          marks = marks_row ∙ ap (pack_row (mark_bytes w)) (plane_new step tear (row_of texture w y) s.limits (λ q. q.mark) _ refl);
        }

    -- a mark is read from the packed row as it was drawn
    mark_here : (e : List ℕ) (m : List ℕ) (i : ℕ) → m ≡ pack_row (mark_bytes w) (drawn_row tear r t texture w e y).marks → i < w → mark_at m i ≡ get_or (drawn_row tear r t texture w e y).marks i 0
    mark_here e m i em h =
        rw em
        (mark_pack_row (mark_bytes w) (drawn_row tear r t texture w e y).marks (flags_view r (line tear t (row_of texture w y) (row_of e w y))) i (omega arith))

    marks_kept : (i : ℕ) → i < w → (i < from) ⊎ (to ≤ i) → mark_at (row_of v'.marks (mark_bytes w) y) i ≡ mark_at (row_of v.marks (mark_bytes w) y) i
    unfolding view_row left_row
    marks_kept i h out =
        mark_here d' (row_of v'.marks (mark_bytes w) y) i sound_here.marks h
        ∙ ap (λ (q : List ℕ). get_or q i 0) (sym (plane_new step tear (row_of texture w y) s.limits (λ q. q.mark) (drawn_row tear r t texture w d y).marks refl))
        ∙ outside _ _ from to _ i (rw marks_wide (fit (λ q. q.mark)))
        (length-shown (λ q. q.mark) r (line tear t (seen r (row_of texture w y)) (seen r (row_of d' w y))) n edge _ _) redraw.drawn.stretched.size out
        ∙ sym (mark_here d (row_of v.marks (mark_bytes w) y) i s.marks h)

    kept_here : (i : ℕ) → i < w → (i < from) ⊎ (to ≤ i) → held_in w v' y i ≡ held_in w v y i
    unfolding held_pixel sample_in
    kept_here i h out =
        let l = line tear t (seen r (row_of texture w y)) (seen r (row_of d' w y)) in
        let es : get_or (row_of v'.samples w y) i 0 ≡ get_or (row_of v.samples w y) i 0 =
        ap (λ (q : List ℕ). get_or q i 0) samples_row
        ∙ outside _ _ from to _ i (rw (length-row v.samples w y size.samples) (fit (λ q. q.sample)))
        (length-shown (λ q. q.sample) r l n edge _ _) redraw.drawn.stretched.size out in
        let ef : get_or (row_of v'.fronts w y) i 0 ≡ get_or (row_of v.fronts w y) i 0 =
        ap (λ (q : List ℕ). get_or q i 0) fronts_row
        ∙ outside _ _ from to _ i (rw (length-row v.fronts w y size.fronts) (fit (λ q. q.front)))
        (length-shown (λ q. q.front) r l n edge _ _) redraw.drawn.stretched.size out in
        let em = marks_kept i h out in
        rw (es, ef, em)

  module _ (k : ℕ) (ne : k ≡ y → ⊥) where
    depths_other : row_of d' w k ≡ row_of d w k
    depths_other =
        ap (λ (l : List ℕ). row_of l w k) change.depths ∙ row_other 0 d w y k x candidate size.depths fits ne

    others_kept : view_rows w v' k ≡ view_rows w v k
    others_kept =
        let es : row_of v'.samples w k ≡ row_of v.samples w k =
        ap (λ (l : List ℕ). row_of l w k) redraw.drawn.samples ∙ row_other 0 v.samples w y k from _ size.samples (fit (λ q. q.sample)) ne in
        let ef : row_of v'.fronts w k ≡ row_of v.fronts w k =
        ap (λ (l : List ℕ). row_of l w k) redraw.drawn.fronts ∙ row_other 0 v.fronts w y k from _ size.fronts (fit (λ q. q.front)) ne in
        let ee = change.others k ne in
        let em = redraw.others k ne in
        rw (es, ef, ee, em)

    sound_other : SoundRow tear r t texture w d v k → SoundRow tear r t texture w d' v' k
    sound_other s =
        let e = others_kept in
        record {
          samples = ap (λ (q : View). read_all q.samples) e ∙ rw depths_other s.samples;
          fronts = ap (λ (q : View). q.fronts) e ∙ rw depths_other s.fronts;
          limits = ap (λ (q : View). q.limits) e ∙ rw depths_other s.limits;
          marks = ap (λ (q : View). q.marks) e ∙ rw depths_other s.marks;
        }

  -- a limit from column n on
  limit_stays : (i : ℕ) → n ≤ entry_of r w i → get_or (row_of v'.limits w y) i (pos 0) ≡ get_or (row_of v.limits w y) i (pos 0)
  limit_stays i h =
      let before = length-row v.limits w y size.limits in
      let after = length-row v'.limits w y (rw same size.limits) in
      ⊎_elim
      (λ u.
      sym (entry_seen r w i (row_of v'.limits w y) after u) ∙ change.limits.written.beyond (entry_of r w i) h ∙ entry_seen r w i (row_of v.limits w y) before u)
      (λ u. get_or-eq_default (row_of v'.limits w y) (pos 0) {n = i} (rw after u) ∙ sym (get_or-eq_default (row_of v.limits w y) (pos 0) {n = i} (rw before u)))
      (lt_or_le i w)

  spare_stays : spare_bits (row_of v'.marks (mark_bytes w) y) w ≡ spare_bits (row_of v.marks (mark_bytes w) y) w
  spare_stays =
      ap (λ (m : List ℕ). spare_bits m w) redraw.drawn.marks
      ∙ spare_put_marks (row_of v.marks (mark_bytes w) y) w from _ (flags_shown r _ n edge _ _) _ (omega (arith, redraw.drawn.stretched.size, redraw.drawn.stretched.within))

  bounded_here : Bounded r w (first_column r w x (length candidate) + length candidate) v v'
  bounded_here =
      record {
        samples = rw redraw.drawn.samples (low_splice v.samples (y * w + from) _ (omega (arith, fit (λ q. q.sample), size.samples)) (low_shown r _ n edge _ _));
        limits = λ k i h. ⊎_elim
            (λ e. rw e (limit_stays i (rw change.columns h)))
            (λ ne. ap (λ (l : List ℤ). get_or l i (pos 0)) (change.others k ne)) (same_row k y);
        spare_stay = λ k. ⊎_elim
            (λ e. rw e spare_stays)
            (λ ne. ap (λ (m : List ℕ). spare_bits m w) (redraw.others k ne)) (same_row k y);
      }

  pub row_commits : RowCommitted tear r t texture w y x candidate d d' v v' from to
  row_commits =
      record {
        depths = change.depths;
        sound = λ k s. ⊎_elim
            (λ e. subst (λ (i : ℕ). SoundRow tear r t texture w d' v' i) (sym e) (sound_here (subst (λ (i : ℕ). SoundRow tear r t texture w d v i) e s)))
            (λ ne. sound_other k ne s) (same_row k y);
        others = others_kept;
        order = omega (arith, redraw.drawn.stretched.size);
        within = redraw.drawn.stretched.within;
        bounded = bounded_here;
        kept = kept_here;
      }
