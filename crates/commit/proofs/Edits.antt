-- A candidate written into a row is an edit of its columns, as the view reads the row.
use Prim.Native.Nat.{ℕ, ◌+◌, ◌-◌, ◌<◌, ◌≤◌}
use mathlib.Core.Path.{◌≡◌, sym, ap, ◌∙◌}
use mathlib.Core.Bool.{Bool}
use mathlib.Core.List.{List}
use native.Mathlib.Omega.{arith}
use lib.ListN.{length, get_or}
use Rattle.model.specs.Views.{seen}
use Rattle.model.specs.Span.{first_column}
use Rattle.model.proofs.Views.{length_seen}
use Rattle.model.proofs.Spans.{EditedRow}
use Rattle.planes.specs.Parts.{splice, Filled}
use Rattle.planes.proofs.Splices.{length-splice}
use Rattle.planes.proofs.SeenParts.{first_fits, first_first, seen_filled}

pub row_edited : (r : Bool) (d candidate : List ℕ) (x w a : ℕ) → length d ≡ w → 0 < length candidate → x + length candidate ≤ w → a ≡ first_column r w x (length candidate) → EditedRow (seen r d) (seen r (splice d x candidate)) a (a + length candidate - 1)
row_edited r d candidate x w a e some fits ea =
    let k : a + length candidate ≤ w = rw ea (first_fits r w x (length candidate) fits) in
    let back : x ≡ first_column r w a (length candidate) = rw ea (sym (first_first r w x (length candidate) fits)) in
    let f : Filled 0 (λ p. get_or (seen r candidate) (p - a) 0) a (a + length candidate) (seen r d) (seen r (splice d x candidate)) =
    seen_filled 0 (λ p. get_or (seen r candidate) (p - a) 0) r d candidate a x (rw e k) (rw e back)
    (λ i h. ap (λ (j : ℕ). get_or (seen r candidate) j 0) (again a i)) in
    record {
      same = length_seen r (splice d x candidate) ∙ length-splice d x candidate (rw e fits) ∙ sym (length_seen r d);
      order = omega arith;
      within = rw (length_seen r d, e) (omega arith);
      under = λ c h. f.under c h;
      beyond = λ c h. f.beyond c (omega arith);
    }
  where
    again : (a i : ℕ) → i ≡ a + i - a
    again a i = omega arith
