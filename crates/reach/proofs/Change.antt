-- The bound, of the definitions and of the promises of GET and SET.
--     change_within           the change of the total by one depth sample is within the bound
--     get_within, set_within  so is what an accepted GET or SET of one answers, on a session that is sound as it is read
--     nothing_changes         where L is 0 or less the change is 0
-- Enough, because the total changes by the change of the spans' sums: one row's span here, whose positions the bound counts, each with an error of at most
-- 1,046,529 before and after.
use Prim.Native.Nat.{ℕ, ◌+◌, ◌-◌, ◌*◌, ◌<◌, ◌≤◌}
use mathlib.Core.Path.{◌≡◌, ap, ◌∙◌}
use mathlib.Core.Bool.{Bool, true, false, cond, ◌&&◌}
use mathlib.Core.Logic.{◌⊎◌}
use mathlib.Core.List.{List}
use native.Mathlib.Omega.{arith}
use native.Mathlib.Nat.{le_refl}
use lib.ListN.{length}
use lib.IntN.{ℤ, pos, nat_abs}
use lib.Signed.{le_z}
use Rattle.std.proofs.lemmas.Int.{ints}
use Rattle.std.proofs.lemmas.Bool.Decides.{nat_tests}
use lib.Dec.{eqb}
use borrow.Author.Tests.{eqb-true, eqb-false}
use Rattle.model.specs.declared.Settings.{Settings}
use Rattle.model.specs.declared.Block.{Block}
use Rattle.model.specs.declared.Candidate.{Candidate}
use Rattle.model.specs.Replies.{TrialReply, EditReply}
use Rattle.model.specs.Lists.{sum_to}
use Rattle.model.specs.Views.{is_right, entry_of}
use Rattle.model.specs.Combined.{worst}
use Rattle.model.specs.Planes.{Pictures, Depths, Held, read_held}
use Rattle.model.specs.Candidates.{filled}
use Rattle.model.specs.Blocks.{in_rows, written, change_of}
use Rattle.model.specs.Span.{first_column, view_place, in_span, span_has}
use Rattle.model.specs.Refusals.{early_number}
use Rattle.model.specs.Promises.{Sound, GetPost, SetPost}
use Rattle.model.proofs.Choice.{bool_cases, and_off}
use Rattle.model.proofs.Sums.{sum_most, sum_within}
use Rattle.model.proofs.Fresh.{DepthsSized}
use Rattle.model.proofs.Totals.{error_at, sample_most, sample_in_most, square_most}
use Rattle.model.proofs.Locality.{Columns, sized_written, spans_error, change_spans}
use Rattle.model.proofs.Refusals.{Inside, early_facts}
use Rattle.model.proofs.Promises.{get_early, set_early}
use Rattle.reach.specs.Reach.{OneDepth, most_change, span_length, reach_of}
use Rattle.reach.proofs.Positions.{start, stop, outside, most_positions, sum_stretch}

module _ (s : Settings) (p : Pictures) (d : Depths) (v : ℕ) (b : Block) (c : List ℕ) (sized : DepthsSized s d) (share : s.share ≤ 64) (inside : Inside s b) (one : OneDepth b) where
  abbrev after : Depths
  after = written s v b c d

  abbrev right : Bool
  right = is_right v

  columns : Columns s b
  columns = record { some = inside.width; inside = inside.right }

  abbrev f : ℕ → ℕ
  f = view_place s right d b.row

  abbrev g : ℕ → ℕ
  g = view_place s right after b.row

  abbrev column : ℕ
  column = first_column right s.w b.column 1

  abbrev count : ℕ
  count = stop f g s.w column - start f g s.w column

  -- outside the row's span
  not_there : (x : ℕ) → (entry_of right s.w x < start f g s.w column) ⊎ (stop f g s.w column ≤ entry_of right s.w x) → span_has s right b d after b.row x ≡ false
  unfolding span_has
  not_there x o =
      let e : column + 1 - 1 ≡ column = omega arith in
      ap (λ (n : ℕ). in_span f g s.w (first_column right s.w b.column n) (first_column right s.w b.column n + n - 1) (entry_of right s.w x)) one.width
      ∙ rw e (outside f g s.w column (entry_of right s.w x) o)

  module _ (e : Depths) (fits : DepthsSized s e) where
    error_most : (y x : ℕ) → y < s.h → x < s.w → error_at s p e y x ≤ worst
    unfolding error_at
    error_most y x h k = square_most _ _ (sample_most s p e fits share y x h k) (sample_in_most p.reference (y * s.w + x))

    abbrev term : ℕ → ℕ → ℕ
    term y x = cond (in_rows b y && span_has s right b d after y x) (error_at s p e y x) 0

    term_most : (y x : ℕ) → y < s.h → x < s.w → term y x ≤ worst
    term_most y x h k =
        bool_cases (in_rows b y && span_has s right b d after y x) (λ t. rw t (error_most y x h k)) (λ t. rw t (omega arith))

    term_none : (y x : ℕ) → (in_rows b y && span_has s right b d after y x) ≡ false → term y x ≡ 0
    term_none y x t = rw t

    -- every row but the block's
    row_none : (y : ℕ) → (y < b.row) ⊎ (b.row + 1 ≤ y) → sum_to (term y) s.w ≡ 0
    row_none y o =
        let zeros : (x : ℕ) → x < s.w → term y x ≤ 0 = λ x k. rw (term_none y x (grind (arith, nat_tests))) (le_refl 0) in
        omega (arith, sum_most (term y) 0 s.w zeros)

    -- the block's row
    row_most : b.row < s.h → sum_to (term b.row) s.w ≤ worst * count
    row_most h =
        sum_stretch right (term b.row) worst (start f g s.w column) (stop f g s.w column) s.w (λ x k. term_most b.row x h k)
        (λ x k o. term_none b.row x (and_off (in_rows b b.row) (span_has s right b d after b.row x) (not_there x o)))

    each_most : (y : ℕ) → y < s.h → sum_to (term y) s.w ≤ worst * count
    each_most y h =
        bool_cases (eqb y b.row) (λ t. let e = eqb-true y b.row t in rw e (row_most (rw e at h)))
        (λ t. let other = eqb-false y b.row t in rw (row_none y (grind arith)) (omega arith))

    spans_most : spans_error s p d v b c sized columns e ≤ worst * count
    unfolding spans_error
    spans_most =
        let h = sum_within (λ y. sum_to (term y) s.w) (worst * count) b.row (b.row + 1) s.h each_most (λ y k o. row_none y o) in
        grind arith

  pub change_within : nat_abs (change_of s p d v b c) ≤ reach_of s d v b c
  unfolding change_of span_length
  change_within =
      omega (arith, ints, change_spans s p d v b c sized columns, spans_most d sized, spans_most after (sized_written s v b c d sized), most_positions f g s.w column)

-- ---- GET and SET

module _ (s : Settings) (p : Pictures) (d : Depths) (h : Held) (v : ℕ) (b : Block) (c : Candidate) (x : List ℕ) where
  early_within : early_number s p d h v b c (length x) ≡ 0 → OneDepth b → nat_abs (change_of s p d v b (filled b c x)) ≤ reach_of s d v b (filled b c x)
  early_within e one = let f = early_facts s p d h v b c (length x) e in change_within s p d v b (filled b c x) f.0.depths f.0.share f.1.block one

  pub get_within : (r : TrialReply) → GetPost s p d h v b c x r → Sound s p d (read_held h) → r.number ≡ 0 → OneDepth b → nat_abs r.change ≤ reach_of s d v b (filled b c x)
  get_within r post sound z one =
      let e = get_early s p d h v b c x post z in
      rw (post.change z, post.decided e sound) (early_within e one)

  pub set_within :
      (d' : Depths) (h' : Held) (j j' : List ℕ) (r : EditReply) → SetPost s p d d' h h' j j' v b c x r → Sound s p d (read_held h) → r.number ≡ 0 → OneDepth b →
      nat_abs r.change ≤ reach_of s d v b (filled b c x)
  set_within d' h' j j' r post sound z one =
      let e = set_early s p d h v b c x post z in
      rw (post.edit.change z, post.edit.decided e sound) (early_within e one)

-- If L is 0 or less the answer is 0.
pub nothing_changes : (s : Settings) (d : Depths) (v : ℕ) (b : Block) (c : List ℕ) (change : ℤ) → nat_abs change ≤ reach_of s d v b c → le_z (span_length s (is_right v) b d (written s v b c d)) (pos 0) ≡ true → change ≡ pos 0
unfolding most_change
nothing_changes s d v b c change h e = let none = rw e at h in omega (arith, ints)
