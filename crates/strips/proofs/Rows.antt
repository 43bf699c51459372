-- What the two sums of a row's trial tell.
--     summed_none, summed_join, summed_change     the sums grow to the left
--     measured_none, measured_next, measured_summed     what a strip measures
--     total_positions                             a row's total, position by position as the view reads the row
--     row_change                                  where the row holds the truth the sums tell the change of its total
--     row_trial                                   so they are the row's answer
use Prim.Native.Nat.{ℕ, ◌+◌, ◌-◌, ◌<◌, ◌≤◌, min}
use mathlib.Core.Path.{◌≡◌, refl, sym, ap, ◌∙◌}
use mathlib.Core.Bool.{Bool, true, false}
use mathlib.Core.Logic.{◌⊎◌, inl, inr, ⊎_elim}
use mathlib.Core.List.{List}
use native.Mathlib.Omega.{arith}
use lib.ListN.{length, get_or, get_or-eq_default}
use lib.IntN.{pos}
use Rattle.model.specs.declared.Pixel.{Pixel}
use Rattle.model.specs.Lists.{sum_to}
use Rattle.model.specs.Refusals.{table_ok}
use Rattle.model.specs.Row.{Line, line, width, place, place_in, limit, greatest, sample_in, pixel, pixel_at, limit_at}
use Rattle.model.specs.Views.{seen, entry_of}
use Rattle.model.specs.Combined.{worst, square_error}
use Rattle.model.proofs.Choice.{lt_or_le}
use Rattle.model.proofs.Spans.{edited_moved, moved_limit, span_pixel, span_limit}
use Rattle.model.proofs.Sums.{sum_next, sum_same, sum_join, sum_part, sum_turn, sum_change}
use Rattle.model.proofs.Views.{length_seen, entry_within, entry_entry}
use Rattle.model.specs.Span.{first_column}
use Rattle.planes.specs.Parts.{splice, Painted}
use Rattle.planes.proofs.Entries.{read_at}
use Rattle.planes.proofs.SeenParts.{part_entry}
use Rattle.pixel.specs.declared.Edge.{Edge}
use Rattle.places.specs.Positions.{first_at}
use Rattle.limits.specs.Limits.{span_top, EdgeHeld}
use Rattle.row.specs.Drawing.{pixel_below}
use Rattle.row.proofs.Below.{below_pixel}
use Rattle.limits.proofs.Limits.{limit_true, edge_true}
use Rattle.strips.specs.Strips.{span_start, span_stop, Own, Around, standing, tried, combined_with, error_with, entry_pixel, row_total, RowHeld, held_error, shown_error, Summed, Measured, covered, RowTrial}
use Rattle.strips.proofs.Candidates.{tried_edited}
use Rattle.strips.proofs.Positions.{stop_within, outside_span}

-- ---- the two sums

pub summed_none : (o : Around) (w : ℕ) (g : ℕ → Pixel) (a : ℕ) → Summed o w g a a 0 0
summed_none o w g a = record { olds = omega arith; news = omega arith; old_most = omega arith; new_most = omega arith }

module _ {o : Around} {w : ℕ} {g : ℕ → Pixel} {a p old new : ℕ} (t : Summed o w g a p old new) where
  -- a stretch before it
  pub summed_join : {z old' new' : ℕ} → Summed o w g z a old' new' → Summed o w g z p (old + old') (new + new')
  summed_join s =
      record {
        olds = omega (arith, t.olds, s.olds);
        news = omega (arith, t.news, s.news);
        old_most = omega (arith, t.old_most, s.old_most);
        new_most = omega (arith, t.new_most, s.new_most);
      }

  -- pixels that agree there
  pub summed_change : (h : ℕ → Pixel) → a ≤ p → ((i : ℕ) → a ≤ i → i < p → g i ≡ h i) → Summed o w h a p old new
  unfolding shown_error
  summed_change h le e =
      record {
        olds = t.olds;
        news = omega (
          arith,
          t.news,
          sum_part (shown_error o w g) (shown_error o w h) a p le (λ i b c. ap (λ (q : Pixel). error_with o q (entry_of o.right w i)) (e i b c)),
        );
        old_most = t.old_most;
        new_most = t.new_most;
      }

-- ---- what a strip measures

pub measured_none : (o : Around) (from : ℕ) (g : ℕ → Pixel) → Measured o from 0 g 0 0
unfolding sum_to
measured_none o from g = record { olds = refl; news = refl; old_most = omega arith; new_most = omega arith }

pub measured_next : {o : Around} {from k : ℕ} {g : ℕ → Pixel} {old new x y : ℕ} → Measured o from k g old new → x ≡ square_error (sample_in o.combined (from + k)) (sample_in o.reference (from + k)) → x ≤ worst → y ≡ error_with o (g k) (from + k) → y ≤ worst → Measured o from (k + 1) g (old + x) (new + y)
measured_next {o} {from} {k} {g} t ex hx ey hy =
    record {
      olds = rw (t.olds, ex) (sym (sum_next (λ i. square_error (sample_in o.combined (from + i)) (sample_in o.reference (from + i))) k));
      news = rw (t.news, ey) (sym (sum_next (λ i. error_with o (g i) (from + i)) k));
      old_most = omega (arith, t.old_most);
      new_most = omega (arith, t.new_most);
    }

-- a sum over entries, position by position as a view reads the row
sum_seen : (r : Bool) (f : ℕ → ℕ) (w : ℕ) → sum_to (λ p. f (entry_of r w p)) w ≡ sum_to f w
unfolding entry_of
sum_seen true f w = sum_turn f w
sum_seen false f w = refl

-- the sum over the entries of n positions from `start` on, in their own order
sum_entries : (r : Bool) (w start n at : ℕ) (f g : ℕ → ℕ) → start + n ≤ w → at ≡ first_column r w start n → ((i : ℕ) → i < n → f (entry_of r n i) ≡ g (start + i)) → sum_to f n + sum_to g start ≡ sum_to g (start + n)
sum_entries r w start n at f g h e k =
    omega (arith, sum_join g start n, sum_seen r f n, sum_same (λ i. f (entry_of r n i)) (λ i. g (start + i)) n k)

module _ (o : Around) (w start n at : ℕ) (fits : start + n ≤ w) (part : at ≡ first_column o.right w start n) where
  place_of : (i : ℕ) → i < n → at + entry_of o.right n i ≡ entry_of o.right w (start + i)
  place_of i k = rw part (part_entry o.right w start n i fits k)

  -- a strip that is painted with the pixels g of n positions from `start` on, and measured
  pub measured_summed : (g : ℕ → Pixel) (s f m : List ℕ) {x y z : List ℕ} {old new : ℕ} → length s ≡ n → length f ≡ n → length m ≡ n → Painted (λ i. g (start + i)) 0 n x y z (seen o.right s) (seen o.right f) (seen o.right m) → Measured o at n (λ k. pixel (get_or s k 0) (get_or m k 0) (get_or f k 0)) old new → Summed o w g start (start + n) old new
  unfolding held_error shown_error
  measured_summed g s f m ls lf lm p t =
      let r = o.right in
      let held : ℕ → ℕ = λ i. square_error (sample_in o.combined i) (sample_in o.reference i) in
      let shown : ℕ → ℕ → Pixel → ℕ = λ k i q. error_with o q i in
      let strip : ℕ → Pixel = λ k. pixel (get_or s k 0) (get_or m k 0) (get_or f k 0) in
      let pixels : (i : ℕ) → i < n → strip (entry_of r n i) ≡ g (start + i) = λ i k.
      rw (
        read_at 0 r s ls k refl ∙ p.samples.inside i (omega arith) k,
        read_at 0 r m lm k refl ∙ p.marks.inside i (omega arith) k,
        read_at 0 r f lf k refl ∙ p.fronts.inside i (omega arith) k,
      ) in
      record {
        olds = rw t.olds (sum_entries r w start n at (λ k. held (at + k)) (held_error o w) fits part (λ i k. ap held (place_of i k)));
        news = rw t.news (sum_entries r w start n at (λ k. error_with o (strip k) (at + k)) (shown_error o w g) fits part
            (λ i k. ap (λ (q : Pixel). error_with o q (at + entry_of r n i)) (pixels i k) ∙ ap (error_with o (g (start + i))) (place_of i k)));
        old_most = omega (arith, t.old_most);
        new_most = omega (arith, t.new_most);
      }

-- a strip that is painted with samples that are read holds no higher one
pub strip_most : (r : Bool) (g : ℕ → Pixel) (s : List ℕ) {n : ℕ} {f m x y z : List ℕ} → length s ≡ n → Painted g 0 n x y z (seen r s) f m → ((i : ℕ) → (g i).sample ≤ greatest) → (k : ℕ) → get_or s k 0 ≤ greatest
strip_most r g s {n} ls p most k =
    ⊎_elim
    (λ h. let e = entry_within r n k h in rw (read_at 0 r s ls e (sym (entry_entry r n k h)) ∙ p.samples.inside (entry_of r n k) (omega arith) e) (most (entry_of r n k)))
    (λ h. rw (get_or-eq_default s 0 {n = k} (rw ls h)) (omega arith))
    (lt_or_le k n)

-- ---- the row's total

total_positions : (o : Around) (l : Line) → row_total o l ≡ sum_to (shown_error o (width l) (pixel_at l)) (width l)
unfolding row_total shown_error
total_positions o l =
    let r = o.right in
    let w = width l in
    sym (sum_seen r (λ i. error_with o (entry_pixel r l i) i) w)
    ∙ sum_same (λ p. error_with o (entry_pixel r l (entry_of r w p)) (entry_of r w p)) (λ p. error_with o (pixel_at l p) (entry_of r w p)) w
    (λ p h. ap (λ (q : ℕ). error_with o (pixel_at l q) (entry_of r w p)) (entry_entry r w p h))

module _ (o : Around) (v : Own) (x : List ℕ) (first : ℕ) (ok : table_ok v.table ≡ true) (fits : first + length x ≤ length v.depths) (some : 0 < length x) (most : length v.depths ≤ 4096) (same : length v.limits ≡ length v.depths) (g : Edge) (held : EdgeHeld (seen o.right v.limits) (first + length x) (span_top v.table (seen o.right v.depths) (seen o.right v.limits) (first + length x)) g) where
  row_change : (old new : ℕ) → Summed o (length v.depths) (pixel_below (tried o.right v x first) (first + length x) g) (min (span_start (place_in (standing o.right v)) (place_in (tried o.right v x first)) first (length x)) (span_stop v.table (seen o.right v.depths) (seen o.right v.limits) (first + length x))) (span_stop v.table (seen o.right v.depths) (seen o.right v.limits) (first + length x)) old new → RowHeld o v (first + length x) → row_total o (tried o.right v x first) + old ≡ row_total o (standing o.right v) + new
  unfolding shown_error held_error
  row_change old new summed truth =
      let r = o.right in
      let t = v.table in
      let s = seen r v.texture in
      let d = seen r v.depths in
      let e = splice d first (seen r x) in
      let n : ℕ = length x in
      let w : ℕ = length v.depths in
      let m : ℕ = first + n in
      let before = standing r v in
      let after = tried r v x first in
      let ld : length d ≡ w = length_seen r v.depths in
      let edit = tried_edited r v.depths x first fits some in
      let le : length e ≡ w = edit.same ∙ ld in
      let stop : ℕ = span_stop t d (seen r v.limits) m in
      let start : ℕ = min (span_start (place t d) (place t e) first n) stop in
      let within : stop ≤ w = omega (arith, stop_within t d (seen r v.limits) m) in
      let ll : length (seen r v.limits) ≡ length d = length_seen r v.limits ∙ same ∙ sym ld in
      let top : span_top t d (seen r v.limits) m ≡ limit (place t d) (length d) m =
      limit_true t d (seen r v.limits) m v.tear s ll (rw ld most) (omega arith) (rw ld fits) (λ h. truth.limits m (omega arith) (rw ld at h)) in
      let es : stop ≡ first_at (limit (place t d) (length d) m) = ap (λ (z : ℕ). first_at z) top in
      let el : limit (place t e) (length d) m ≡ limit (place t d) (length d) m = moved_limit (edited_moved t d e first (m - 1) edit) m (omega arith) in
      let out : (p : ℕ) → p < w → (p < span_start (place t d) (place t e) first n) ⊎ (stop ≤ p) → pixel_at after p ≡ pixel_at before p = λ p h k.
      span_pixel v.tear t s d e first (m - 1) p edit (rw ld h) (outside_span (place t d) (place t e) (length d) first n p some (rw es at k)) in
      let eg : g.limit ≡ limit (place t e) (length e) m = rw edit.same (held.limit ∙ top ∙ sym el) in
      let true-limits : (c : ℕ) → m ≤ c → c < length e → get_or (seen r v.limits) c (pos 0) ≡ limit_at (line v.tear t s e) c = λ c h k.
      truth.limits c h (rw le at k) ∙ sym (span_limit v.tear t s d e first (m - 1) c edit (omega arith)) in
      let ins : (p : ℕ) → p < stop → pixel_below after m g p ≡ pixel_at after p = λ p h.
      below_pixel after m p g (omega arith) (rw le fits) eg
      (edge_true v.tear t s e (seen r v.limits) m ok (ll ∙ sym edit.same) (rw le most) true-limits g p _ (rw le fits) eg held)
      (rw held.limit (omega arith)) in
      rw (total_positions o after, total_positions o before, le, ld)
      (sum_change (shown_error o w (pixel_at before)) (shown_error o w (pixel_at after)) (held_error o w) (shown_error o w (pixel_below after m g)) start stop w old new (omega arith) within
      (λ i h. ap (λ (q : Pixel). error_with o q (entry_of r w i)) (out i (omega arith) (inl (omega arith))))
      (λ i h l. ap (λ (q : Pixel). error_with o q (entry_of r w i)) (out i l (inr h)))
      (λ i h l.
      let k : i < w = omega arith in
      ap (λ (q : ℕ). square_error q (sample_in o.reference (entry_of r w i)))
      (truth.combined (entry_of r w i) (entry_within r w i k)
      ∙ ap (λ (z : ℕ). combined_with o (pixel_at before (entry_of r z (entry_of r w i))) (entry_of r w i)) ld
      ∙ ap (λ (z : ℕ). combined_with o (pixel_at before z) (entry_of r w i)) (entry_entry r w i k)))
      (λ i h l. ap (λ (q : Pixel). error_with o q (entry_of r w i)) (ins i l))
      summed.olds summed.news)

  -- the sums from start to stop are the row's answer
  pub row_trial : (start stop old new : ℕ) → start ≡ span_start (place_in (standing o.right v)) (place_in (tried o.right v x first)) first (length x) → stop ≡ span_stop v.table (seen o.right v.depths) (seen o.right v.limits) (first + length x) → Summed o (length v.depths) (pixel_below (tried o.right v x first) (first + length x) g) (min start stop) stop old new → RowTrial o v x first old new
  unfolding covered
  row_trial start stop old new es et summed =
      record {
        old_most = omega (arith, summed.old_most);
        new_most = omega (arith, summed.new_most);
        change = row_change old new (rw (es, et) at summed);
      }
