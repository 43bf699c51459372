-- A trial of held planes that are, as they are read, the fresh drawing tells the change of the fresh total.
--     around_of, own_of       what GET and SET lend to the trial of a view
--     row_true              the block's rows hold the truth
--     total_row             a row's share of the fresh total, as the trial has it
--     trial_sound           so the two sums of a trial differ by the change
use Prim.Native.Nat.{ℕ, ◌+◌, ◌-◌, ◌*◌, ◌<◌, ◌≤◌}
use mathlib.Core.Path.{◌≡◌, refl, sym, ap, subst, ◌∙◌}
use mathlib.Core.Bool.{Bool, true, false, not}
use mathlib.Core.List.{List}
use native.Mathlib.Omega.{arith}
use lib.ListN.{length, get_or}
use lib.IntN.{ℤ, pos}
use Rattle.model.specs.declared.Settings.{Settings}
use Rattle.model.specs.declared.Block.{Block}
use Rattle.model.specs.declared.Pixel.{Pixel}
use Rattle.model.specs.Lists.{list_of, row_of, sum_to}
use Rattle.model.specs.Row.{Line, line, width, sample_in, Row, pixel_at, limit_at, left_row}
use Rattle.model.specs.Views.{is_right, seen, view_row, entry_of}
use Rattle.model.specs.Marks.{mark_bytes}
use Rattle.model.specs.Combined.{square_error}
use Rattle.model.specs.Planes.{Pictures, Depths, View, Held, table_of, texture_of, depths_of, view_of, read_view, read_held}
use Rattle.model.specs.Fresh.{line_of, fresh_row, fresh_view, fresh_sample, fresh_combined, fresh, fresh_total, shown_at}
use Rattle.model.specs.Blocks.{in_rows, written, written_plane}
use Rattle.model.specs.Span.{first_column}
use Rattle.model.proofs.Lists.{get_or-list_of, length-row, rows_apart}
use Rattle.model.proofs.Sums.{sum_same, sum_join, sum_change}
use Rattle.model.proofs.Views.{seen_line, length_seen, seen_seen, shown_view}
use Rattle.model.proofs.Fresh.{DepthsSized, depths_length, wide, row_fresh_limits, row_fresh_combined, view_fresh}
use Rattle.model.proofs.Written.{rows_under, rows_beyond, candidate_fits, written_row_in, written_own}
use Rattle.model.proofs.Totals.{error_at, total_rows}
use Rattle.model.proofs.Readings.{sample_in_row, view_read}
use Rattle.model.proofs.Locality.{sized_written, other_row, row_out}
use Rattle.model.proofs.Refusals.{Common, Inside}
use Rattle.planes.specs.Parts.{splice}
use Rattle.marks.specs.Puts.{held_pixel}
use Rattle.marks.proofs.Held.{entry_read, held_fresh}
use Rattle.sums.specs.Sides.{paired}
use Rattle.strips.specs.Strips as specs
use Rattle.strips.specs.Strips.{Around, around, own, entry_pixel, combined_with, error_with, row_total, RowHeld}
use Rattle.trial.specs.Trial.{around_row, own_row, total_before, total_after, BlockTrial}
use Rattle.strips.proofs.Candidates.{seen_candidate}

-- ---- sums

-- f before and g after agree outside the n rows from a on; p and q are what they are there, and old and new tell the change of these
sum_part_change : (f g p q : ℕ → ℕ) (a n h old new : ℕ) → a + n ≤ h → ((i : ℕ) → i < a → g i ≡ f i) → ((i : ℕ) → a + n ≤ i → i < h → g i ≡ f i) → ((i : ℕ) → i < n → p i ≡ f (a + i)) → ((i : ℕ) → i < n → q i ≡ g (a + i)) → sum_to q n + old ≡ sum_to p n + new → sum_to g h + old ≡ sum_to f h + new
sum_part_change f g p q a n h old new k before after pf qg e =
    let ep = sum_same p (λ i. f (a + i)) n pf in
    let eq = sum_same q (λ i. g (a + i)) n qg in
    let all =
    sum_change f g f g a (a + n) h (sum_to (λ i. f (a + i)) n) (sum_to (λ i. g (a + i)) n) (omega arith) k before after (λ i x y. refl) (λ i x y. refl)
    (omega (arith, sum_join f a n)) (omega (arith, sum_join g a n)) in
    omega (arith, ep, eq, all)

-- ---- what a view is lent

abbrev pub around_of : Settings → Pictures → Held → Bool → Around
around_of s p h right =
    around right s.share s.tolerance (view_of h (not right)).samples (view_of h (not right)).fronts (view_of h (not right)).marks h.combined
    p.reference

abbrev pub own_of : Settings → Pictures → Depths → Held → Bool → specs.Own
own_of s p d h right = own s.tear (table_of s right) (texture_of p right) (depths_of d right) (view_of h right).limits

-- the combined sample of two rows, the view's own first
sample_paired : (s : Settings) (p : Pictures) (g : Depths) (right : Bool) (y x : ℕ) → fresh_sample s p g y x ≡ paired right s.share s.tolerance (shown_at (fresh_row s p g right y) x) (shown_at (fresh_row s p g (not right) y) x)
unfolding fresh_sample paired
sample_paired s p g true y x = refl
sample_paired s p g false y x = refl

-- a view's limits, read as it reads them
seen_limits : (r : Bool) (l : Line) → seen r (view_row r l).limits ≡ list_of (limit_at (seen_line r l)) (width (seen_line r l))
unfolding view_row left_row
seen_limits r l = seen_seen r (list_of (limit_at (seen_line r l)) (width (seen_line r l)))

module _ (s : Settings) (p : Pictures) (d : Depths) (h : Held) (sized : DepthsSized s d) (same : read_held h ≡ fresh s p d) where
  held_view : (q : Bool) → read_view (view_of h q) ≡ fresh_view s p d q
  held_view q = view_read h q ∙ ap (λ (k : Held). view_of k q) same ∙ view_fresh s p d q

  -- what is held of a view at an entry is what its row shows there
  held_shown : (q : Bool) (y x : ℕ) → y < s.h → x < s.w → held_pixel (row_of (view_of h q).samples s.w y) (row_of (view_of h q).fronts s.w y) (row_of (view_of h q).marks (mark_bytes s.w) y) x ≡ shown_at (fresh_row s p d q y) x
  held_shown q y x k l = held_fresh s p d sized q (view_of h q) (held_view q) y x k l

  module _ (right : Bool) (y : ℕ) (k : y < s.h) where
    -- what the view's own row shows, for any depths
    own_shown : (g : Depths) → DepthsSized s g → (x : ℕ) → x < s.w → shown_at (fresh_row s p g right y) x ≡ entry_pixel right (seen_line right (line_of s p g right y)) x
    unfolding fresh_row
    own_shown g sg x l =
        let m = line_of s p g right y in
        shown_view right m x (rw (wide s p g sg right y k) l)
        ∙ ap (λ (n : ℕ). pixel_at (seen_line right m) (entry_of right n x)) (sym (length_seen right m.depths))

    -- the combined sample, for depths whose other view draws the row that is held
    combined_sample : (g : Depths) → DepthsSized s g → fresh_row s p g (not right) y ≡ fresh_row s p d (not right) y → (x : ℕ) → x < s.w → fresh_sample s p g y x ≡ combined_with (around_row s.w (around_of s p h right) y) (entry_pixel right (seen_line right (line_of s p g right y)) x) x
    combined_sample g sg e x l =
        sample_paired s p g right y x
        ∙ ap (λ (q : Pixel). paired right s.share s.tolerance q (shown_at (fresh_row s p g (not right) y) x)) (own_shown g sg x l)
        ∙ ap (λ (q : Pixel). paired right s.share s.tolerance (entry_pixel right (seen_line right (line_of s p g right y)) x) q)
        (ap (λ (r : Row). shown_at r x) e ∙ sym (held_shown (not right) y x k l))

    total_row : (g : Depths) → DepthsSized s g → fresh_row s p g (not right) y ≡ fresh_row s p d (not right) y → sum_to (error_at s p g y) s.w ≡ row_total (around_row s.w (around_of s p h right) y) (seen_line right (line_of s p g right y))
    unfolding row_total error_at
    total_row g sg e =
        let l = seen_line right (line_of s p g right y) in
        let o = around_row s.w (around_of s p h right) y in
        let n : width l ≡ s.w = length_seen right (line_of s p g right y).depths ∙ wide s p g sg right y k in
        sum_same (error_at s p g y) (λ i. error_with o (entry_pixel right l i) i) s.w
        (λ x m.
        ap (λ (q : ℕ). square_error q (sample_in p.reference (y * s.w + x))) (combined_sample g sg e x m)
        ∙ ap (λ (q : ℕ). square_error (combined_with o (entry_pixel right l x) x) q) (sym (sample_in_row p.reference s.w y x m)))
        ∙ ap (sum_to (λ i. error_with o (entry_pixel right l i) i)) (sym n)

    true_limit : (n : ℕ) → n < length (row_of (depths_of d right) s.w y) → get_or (seen right (row_of (view_of h right).limits s.w y)) n (pos 0) ≡ limit_at (seen_line right (line_of s p d right y)) n
    unfolding fresh_row
    true_limit n m =
        let l = line_of s p d right y in
        ap (λ (v : View). get_or (seen right (row_of v.limits s.w y)) n (pos 0)) (held_view right)
        ∙ ap (λ (z : List ℤ). get_or (seen right z) n (pos 0)) (row_fresh_limits s p d sized right y k)
        ∙ ap (λ (z : List ℤ). get_or z n (pos 0)) (seen_limits right l)
        ∙ get_or-list_of (pos 0) (limit_at (seen_line right l)) (width (seen_line right l)) n (rw (length_seen right l.depths) m)

    true_sample : (i : ℕ) → i < s.w → sample_in (row_of h.combined s.w y) i ≡ fresh_sample s p d y i
    unfolding fresh read_held
    true_sample i m =
        entry_read h.combined (fresh_combined s p d) s.w y i (ap (λ (q : Held). q.combined) same) m
        ∙ ap (λ (z : List ℕ). get_or z i 0) (row_fresh_combined s p d y k)
        ∙ get_or-list_of 0 (fresh_sample s p d y) s.w i m

    row_true : (n : ℕ) → RowHeld (around_row s.w (around_of s p h right) y) (own_row s.w (own_of s p d h right) y) n
    row_true n =
        record {
          limits = λ c h m. true_limit c m;
          combined = λ i m.
              let l : i < s.w = omega (arith, wide s p d sized right y k) in
              true_sample i l ∙ combined_sample d sized refl i l;
        }

-- a row of the block with the candidate written
candidate_row : (w : ℕ) (b : Block) (c plane : List ℕ) (i : ℕ) → (b.row + i) * w + w ≤ length plane → b.column + b.width ≤ w → length c ≡ b.width * b.height → i < b.height → row_of (written_plane w b c plane) w (b.row + i) ≡ splice (row_of plane w (b.row + i)) b.column (row_of c b.width i)
unfolding splice
candidate_row w b c plane i fits inside e k =
    let z : b.row + i - b.row ≡ i = omega arith in
    let n : length (row_of c b.width i) ≡ b.width =
    length-row c b.width i (rw z at (candidate_fits b c (b.row + i) e (omega arith) (omega arith))) in
    rw n (rw z at (written_row_in w b c plane (b.row + i) fits inside e (omega arith) (omega arith)))

module _ (s : Settings) (p : Pictures) (d : Depths) (h : Held) (v : ℕ) (b : Block) (c : List ℕ) (sized : DepthsSized s d) (inside : Inside s b) (entries : length c ≡ b.width * b.height) (same : read_held h ≡ fresh s p d) where
  abbrev r : Bool
  r = is_right v

  abbrev after : Depths
  after = written s v b c d

  row_in : (i : ℕ) → i < b.height → b.row + i < s.h
  row_in i k = omega (arith, inside.bottom)

  -- a row of the block with the candidate, as the view reads it
  tried_row : (i : ℕ) → i < b.height → seen r (row_of (depths_of after r) s.w (b.row + i)) ≡ splice (seen r (row_of (depths_of d r) s.w (b.row + i))) (first_column r s.w b.column b.width) (seen r (row_of c b.width i))
  tried_row i k =
      let y : ℕ = b.row + i in
      let z : b.row + i - b.row ≡ i = omega arith in
      let fits : (b.row + i) * s.w + s.w ≤ length (depths_of d r) = omega (arith, depths_length s sized r, rows_apart s.w (b.row + i) s.h (row_in i k)) in
      let n : length (row_of c b.width i) ≡ b.width =
      length-row c b.width i (rw z at (candidate_fits b c (b.row + i) entries (omega arith) (omega arith))) in
      ap (λ (l : List ℕ). seen r (row_of l s.w y)) (written_own s v b c d)
      ∙ ap (seen r) (candidate_row s.w b c (depths_of d r) i fits inside.right entries k)
      ∙ seen_candidate r (row_of (depths_of d r) s.w y) (row_of c b.width i) s.w b.column b.width (length-row (depths_of d r) s.w y fits) n inside.right

  -- a row outside the block keeps its share of the total
  row_stays : (y : ℕ) → y < s.h → in_rows b y ≡ false → sum_to (error_at s p after y) s.w ≡ sum_to (error_at s p d y) s.w
  unfolding error_at
  row_stays y k o =
      sum_same (error_at s p after y) (error_at s p d y) s.w
      (λ x l.
      ap (λ (q : ℕ). square_error q (sample_in p.reference (y * s.w + x)))
      (sample_paired s p after r y x
      ∙ ap (λ (q : Row). paired r s.share s.tolerance (shown_at q x) (shown_at (fresh_row s p after (not r) y) x)) (row_out s p d v b c sized y k o)
      ∙ ap (λ (q : Row). paired r s.share s.tolerance (shown_at (fresh_row s p d r y) x) (shown_at q x)) (other_row s p d v b c sized y)
      ∙ sym (sample_paired s p d r y x)))

  trial_here : {old new : ℕ} → BlockTrial s.w (around_of s p h r) (own_of s p d h r) b c b.height old new → fresh_total s p after + old ≡ fresh_total s p d + new
  trial_here {old} {new} t =
      let o = around_of s p h r in
      let u = own_of s p d h r in
      rw (total_rows s p after, total_rows s p d)
      (sum_part_change (λ y. sum_to (error_at s p d y) s.w) (λ y. sum_to (error_at s p after y) s.w) (total_before s.w o u b c) (total_after s.w o u b c) b.row b.height s.h old new
      inside.bottom
      (λ y k. row_stays y (omega (arith, inside.bottom)) (rows_under b y k))
      (λ y k l. row_stays y l (rows_beyond b y k))
      (λ i k. sym (total_row s p d h sized same r (b.row + i) (row_in i k) d sized refl))
      (λ i k.
      sym (total_row s p d h sized same r (b.row + i) (row_in i k) after (sized_written s v b c d sized) (other_row s p d v b c sized (b.row + i))
      ∙ ap (λ (z : List ℕ). row_total (around_row s.w o (b.row + i)) (line s.tear (table_of s r) (seen r (row_of (texture_of p r) s.w (b.row + i))) z)) (tried_row i k)))
      (t.change (λ i k. row_true s p d h sized same r (b.row + i) (row_in i k) _)))

-- for the view that the entry is asked for
pub trial_sound : (s : Settings) (p : Pictures) (d : Depths) (h : Held) (v : ℕ) (b : Block) (c : List ℕ) (right : Bool) {old new : ℕ} → Common s p d h → Inside s b → length c ≡ b.width * b.height → read_held h ≡ fresh s p d → is_right v ≡ right → BlockTrial s.w (around_of s p h right) (own_of s p d h right) b c b.height old new → fresh_total s p (written s v b c d) + old ≡ fresh_total s p d + new
trial_sound s p d h v b c right {old} {new} common inside entries same e t =
    trial_here s p d h v b c common.depths inside entries same
    (subst (λ (r : Bool). BlockTrial s.w (around_of s p h r) (own_of s p d h r) b c b.height old new) (sym e) t)
