-- The pair from which a trial begins, and its strips.
--     tried_line, tried_ready                 the row with the candidate
--     first_ahead                             the last column of the candidate, ahead of all positions that it can change
--     strips_start, strips_next, strips_end   the sums so far
use Prim.Native.Nat.{ℕ, ◌+◌, ◌-◌, ◌<◌, ◌≤◌, min}
use mathlib.Core.Path.{◌≡◌, sym, ap, ◌∙◌}
use mathlib.Core.Bool.{Bool, true}
use mathlib.Core.List.{List}
use native.Mathlib.Omega.{arith}
use lib.ListN.{length, get_or}
use lib.IntN.{ℤ}
use Rattle.model.specs.declared.Tear.{Tear}
use Rattle.model.specs.Row.{Line, width, quarter}
use Rattle.model.specs.Views.{seen}
use Rattle.model.specs.Span.{first_column}
use Rattle.model.specs.Refusals.{table_ok}
use Rattle.model.proofs.Spans.{edited_moved}
use Rattle.model.proofs.Views.{length_seen}
use Rattle.planes.specs.Parts.{splice}
use Rattle.planes.proofs.SeenParts.{seen_splice}
use Rattle.pixel.specs.declared.Edge.{Edge}
use Rattle.pixel.specs.declared.Pair.{Pair}
use Rattle.pixel.specs.Pairs.{next_place, Among, edge_right}
use Rattle.places.specs.Positions.{first_at}
use Rattle.limits.specs.Limits.{limit_under}
use Rattle.row.specs.Drawing.{pixel_below, Ready, line_with, Ahead, Passed}
use Rattle.row.proofs.Columns.{stands_of}
use Rattle.limits.proofs.Limits.{limit_least}
use Rattle.row.proofs.Pass.{passed_none, passed_join, passed_pixel}
use Rattle.strips.specs.Strips.{Around, Summed, Stretch}
use Rattle.strips.proofs.Candidates.{length-tried, tried_inside, tried_beyond, tried_edited}
use Rattle.strips.proofs.Rows.{summed_none, summed_join, summed_change}

-- ---- where a trial begins

module _ (tear : Tear) (r : Bool) (t s d x : List ℕ) (first column : ℕ) (fits : first + length x ≤ length d) (part : column ≡ first_column r (length d) first (length x)) where
  -- the candidate in the row, as the view reads it
  pub tried_line : seen r (splice d column x) ≡ splice (seen r d) first (seen r x)
  tried_line = rw part (seen_splice r d x first fits)

  -- which can be drawn
  pub tried_ready : table_ok t ≡ true → length s ≡ length d → 0 < length x → length d ≤ 4096 → Ready (line_with tear r t s d column x)
  tried_ready ok same some most =
      let wide = length-tried r d x first fits in
      rw tried_line (record { table = ok; texture = length_seen r s ∙ same ∙ sym wide; some = rw wide (omega arith); most = rw wide most })

  -- the column after the candidate stays where it was
  next_stays : 0 < length x → next_place t (seen r d) (first + length x - 1) ≡ next_place t (splice (seen r d) first (seen r x)) (first + length x - 1)
  unfolding next_place
  next_stays some =
      let edit = tried_edited r d x first fits some in
      let z : first + length x - 1 + 1 ≡ first + length x = omega arith in
      let same = (edited_moved t (seen r d) (splice (seen r d) first (seen r x)) first (first + length x - 1) edit).beyond (first + length x) (omega arith) in
      sym (rw (z, edit.same, same))

  -- the last column of the candidate is ahead of the positions before its span's end, whatever limits e are held
  pub first_ahead : (e : List ℤ) (q : Pair) (g : Edge) {high stop : ℕ} → 0 < length x → Among r (length d) q → q.column ≡ first + length x - 1 → q.d0 ≡ get_or (seen r x) (length x - 1) 0 → q.d1 ≡ get_or (seen r d) (first + length x) 0 → q.here ≡ quarter q.column - get_or t q.d0 0 → q.next ≡ next_place t (seen r d) (first + length x - 1) → edge_right q ≡ g → g.limit ≡ high → high ≡ limit_under e (first + length x) q.next → stop ≡ first_at high → Ahead r (line_with tear r t s d column x) stop q
  first_ahead e q g {high} some among ec e0 e1 eh en er eg el es =
      let inside : q.column - first ≡ length x - 1 = omega arith in
      let after : q.column + 1 ≡ first + length x = omega arith in
      let limit : q.limit ≡ high = ap (λ (h : Edge). h.limit) er ∙ eg in
      rw tried_line
      (record {
        among = rw (length-tried r d x first fits) among;
        stands = stands_of t (splice (seen r d) first (seen r x)) q
            (e0 ∙ sym (tried_inside r d x first fits q.column (omega arith) (omega arith) ∙ ap (λ (k : ℕ). get_or (seen r x) k 0) inside))
            (e1 ∙ sym (ap (λ (k : ℕ). get_or (splice (seen r d) first (seen r x)) k 0) after ∙ tried_beyond r d x first fits (first + length x) (omega arith)))
            eh
            (en ∙ next_stays some ∙ ap (next_place t (splice (seen r d) first (seen r x))) (sym ec));
        under = rw (limit, el) (limit_least e (first + length x) q.next);
        before = rw (limit, es) (omega arith);
      })

-- ---- the strips

-- The positions from `top` up to `stop` are summed, drawn from the pair q₀ on; those before them can be drawn from the pair q.
pub record Strips (o : Around) (l : Line) (q₀ : Pair) (start stop top : ℕ) (q : Pair) (old new : ℕ) : Type 0 where
  pub low : min start stop ≤ top
  pub high : top ≤ stop
  pub ahead : Ahead o.right l top q
  pub passed : Passed l q₀ q top
  pub summed : Summed o (width l) (pixel_below l (q₀.column + 1) (edge_right q₀)) top stop old new

pub strips_start : {o : Around} {l : Line} {q : Pair} {stop : ℕ} (start : ℕ) → Ahead o.right l stop q → Strips o l q start stop stop q 0 0
strips_start {o} {l} {q} {stop} start h =
    record { low = omega arith; high = omega arith; ahead = h; passed = passed_none l q stop; summed = summed_none o (width l) (pixel_below l (q.column + 1) (edge_right q)) stop }

module _ {o : Around} {l : Line} {q₀ q : Pair} {start stop top old new : ℕ} (s : Strips o l q₀ start stop top q old new) where
  pub strips_next : {bottom x y : ℕ} {r : Pair} → start ≤ bottom → bottom < top → Stretch o l bottom top q r x y → Strips o l q₀ start stop bottom r (old + x) (new + y)
  strips_next {bottom} h k t =
      record {
        low = omega arith;
        high = omega (arith, s.high);
        ahead = t.ahead;
        passed = passed_join s.passed t.passed (omega arith);
        summed = summed_join s.summed (summed_change t.summed (pixel_below l (q₀.column + 1) (edge_right q₀)) (omega arith) (λ p a b. passed_pixel p s.passed b));
      }

  pub strips_end : top ≤ start → Summed o (width l) (pixel_below l (q₀.column + 1) (edge_right q₀)) (min start stop) stop old new
  strips_end h = let e : top ≡ min start stop = omega (arith, s.low, s.high) in rw e at s.summed
