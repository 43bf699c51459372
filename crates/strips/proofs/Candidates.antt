-- A candidate in a row, as the view reads it: x in the columns from `first` on of the depths d.
--     length-tried                              the row stays as long
--     tried_under, tried_inside, tried_beyond   the depth of a column before, in and after the candidate
--     tried_place                               the place of a column of the candidate
--     tried_edited                              an edit of the candidate's columns
--     part_within, part_read                    a column of the part that it replaces
--     seen_candidate                            a candidate in the row as it lies
use Prim.Native.Nat.{ℕ, ◌+◌, ◌-◌, ◌<◌, ◌≤◌}
use mathlib.Core.Path.{◌≡◌, refl, sym, ap, ◌∙◌}
use mathlib.Core.Bool.{Bool}
use mathlib.Core.List.{List}
use native.Mathlib.Omega.{arith}
use lib.ListN.{length, get_or}
use Rattle.model.specs.Row.{place, quarter}
use Rattle.model.specs.Views.{seen, entry_of}
use Rattle.model.specs.Span.{first_column}
use Rattle.model.proofs.Spans.{EditedRow}
use Rattle.model.proofs.Views.{length_seen, entry_within}
use Rattle.planes.specs.Parts.{splice}
use Rattle.planes.proofs.Splices.{length-splice, splice_under, splice_inside, splice_beyond}
use Rattle.planes.proofs.Entries.{read_at}
use Rattle.planes.proofs.SeenParts.{first_fits, first_first, part_entry, seen_splice}

module _ (r : Bool) (d x : List ℕ) (first : ℕ) (fits : first + length x ≤ length d) where
  same_x : length (seen r x) ≡ length x
  same_x = length_seen r x

  fits_seen : first + length (seen r x) ≤ length (seen r d)
  fits_seen = rw (length_seen r x, length_seen r d) fits

  pub length-tried : length (splice (seen r d) first (seen r x)) ≡ length d
  length-tried = length-splice (seen r d) first (seen r x) fits_seen ∙ length_seen r d

  pub tried_under : (c : ℕ) → c < first → get_or (splice (seen r d) first (seen r x)) c 0 ≡ get_or (seen r d) c 0
  tried_under c h = splice_under 0 (seen r d) first (seen r x) fits_seen c h

  pub tried_inside : (c : ℕ) → first ≤ c → c - first < length x → get_or (splice (seen r d) first (seen r x)) c 0 ≡ get_or (seen r x) (c - first) 0
  tried_inside c h k =
      let e : first + (c - first) ≡ c = omega arith in
      rw e at (splice_inside 0 (seen r d) first (seen r x) fits_seen (c - first) (rw same_x k))

  pub tried_beyond : (c : ℕ) → first + length x ≤ c → get_or (splice (seen r d) first (seen r x)) c 0 ≡ get_or (seen r d) c 0
  tried_beyond c h = splice_beyond 0 (seen r d) first (seen r x) fits_seen c (rw same_x h)

  -- the place of a column of the candidate
  pub tried_place : (t : List ℕ) (n : ℕ) → n < length x → place t (splice (seen r d) first (seen r x)) (first + n) ≡ quarter (first + n) - get_or t (get_or (seen r x) n 0) 0
  unfolding place
  tried_place t n h = rw (splice_inside 0 (seen r d) first (seen r x) fits_seen n (rw same_x h))

  pub tried_edited : 0 < length x → EditedRow (seen r d) (splice (seen r d) first (seen r x)) first (first + length x - 1)
  tried_edited some =
      record {
        same = length-splice (seen r d) first (seen r x) fits_seen;
        order = omega arith;
        within = omega (arith, length_seen r d);
        under = tried_under;
        beyond = λ c h. tried_beyond c (omega arith);
      }

-- a column of the part that the candidate replaces, read at its entry
module _ (r : Bool) (d : List ℕ) (first n i : ℕ) {column k : ℕ} (fits : first + n ≤ length d) (in-part : i < n) (part : column ≡ first_column r (length d) first n) (entry : k ≡ entry_of r n i) where
  part_at : column + k ≡ entry_of r (length d) (first + i)
  part_at = rw (part, entry) (part_entry r (length d) first n i fits in-part)

  pub part_within : column + k < length d
  part_within = rw part_at (entry_within r (length d) (first + i) (omega arith))

  pub part_read : get_or d (column + k) 0 ≡ get_or (seen r d) (first + i) 0
  part_read = read_at 0 r d refl (omega arith) part_at

pub seen_candidate : (r : Bool) (d x : List ℕ) (w a n : ℕ) → length d ≡ w → length x ≡ n → a + n ≤ w → seen r (splice d a x) ≡ splice (seen r d) (first_column r w a n) (seen r x)
seen_candidate r d x w a n ed ex h =
    let at : first_column r (length d) (first_column r w a n) (length x) ≡ a =
    ap (λ (m : ℕ). first_column r m (first_column r w a n) (length x)) ed ∙ ap (λ (m : ℕ). first_column r w (first_column r w a n) m) ex
    ∙ first_first r w a n h in
    ap (λ (m : ℕ). seen r (splice d m x)) (sym at) ∙ seen_splice r d x (first_column r w a n) (rw (ed, ex) (first_fits r w a n h))
