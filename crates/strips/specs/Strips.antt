-- What a candidate would change in one row (document 01, "The span of an edit" and GET).
--
-- The held planes may be anything: samples, combined picture and reference are read (document 02, card 12). The sums are exact for any of them, and end where
-- the span ends by what is held; that they tell the change of the total is promised where the planes hold the truth.
use Rattle.std.specs.Prelude.{ℕ, ◌+◌, ◌-◌, ◌*◌, ◌<◌, ◌≤◌, ◌≡◌, Bool, List, length, get_or, ℤ, pos}
use Rattle.model.specs.declared.Tear.{Tear}
use Rattle.model.specs.declared.Pixel.{Pixel}
use Rattle.model.specs.Lists.{sum_to}
use Rattle.model.specs.Row.{Line, line, width, place_in, sample_in, pixel_at, limit_at}
use Rattle.model.specs.Views.{seen, entry_of}
use Rattle.model.specs.Combined.{worst, square_error}
use Rattle.model.specs.Span.{span_low}
use Rattle.planes.specs.Parts.{splice}
use Rattle.marks.specs.Puts.{held_pixel}
use Rattle.sums.specs.Sides.{paired}
use Rattle.pixel.specs.declared.Pair.{Pair}
use Rattle.pixel.specs.Pairs.{edge_right}
use Rattle.places.specs.Positions.{first_at}
use Rattle.strips.specs.declared.Counterpart.{Counterpart}
use Rattle.strips.specs.declared.Source.{Source}
use Rattle.limits.specs.Limits.{span_top}
use Rattle.row.specs.Drawing.{pixel_below, line_with, Ahead, Passed}

-- the first position of the span of an edit of the n columns from `first` on, from places f to places g
unfoldable pub span_start : (ℕ → ℕ) → (ℕ → ℕ) → ℕ → ℕ → ℕ
span_start f g first n = first_at (span_low f g first (first + n - 1))

-- the position after the last of the span of an edit of columns below n, by what is held
abbrev pub span_stop : List ℕ → List ℕ → List ℤ → ℕ → ℕ
span_stop t d e n = first_at (span_top t d e n)

-- What stands beside a row of w: the other view's held row, and the combined row.
pub record Beside (w : ℕ) (samples fronts marks combined : List ℕ) : Type 0 where
  pub samples_wide : length samples ≡ w
  pub fronts_wide : length fronts ≡ w
  pub marks_wide : w ≤ 8 * length marks
  pub combined_wide : length combined ≡ w

-- What is tried: where rows tear, and a view's table, texture, depths and held limits, of one row or of all.
pub record Own : Type 0 where
  pub tear : Tear
  pub table : List ℕ
  pub texture : List ℕ
  pub depths : List ℕ
  pub limits : List ℤ

-- What it is set against: the other view's held samples, front depths and marks, the held combined picture, the reference, and how
-- the views are combined.
pub record Around : Type 0 where
  pub right : Bool
  pub share : ℕ
  pub tolerance : ℕ
  pub samples : List ℕ
  pub fronts : List ℕ
  pub marks : List ℕ
  pub combined : List ℕ
  pub reference : List ℕ

abbrev pub own : Tear → List ℕ → List ℕ → List ℕ → List ℤ → Own
own tear table texture depths limits = record { tear = tear; table = table; texture = texture; depths = depths; limits = limits }

abbrev pub around : Bool → ℕ → ℕ → List ℕ → List ℕ → List ℕ → List ℕ → List ℕ → Around
around right share tolerance samples fronts marks combined reference =
    record {
      right = right;
      share = share;
      tolerance = tolerance;
      samples = samples;
      fronts = fronts;
      marks = marks;
      combined = combined;
      reference = reference;
    }

-- what a function is lent
abbrev pub own_lent : Source → Own
own_lent v = own v.tear v.table.now v.texture.now v.depths.now v.limits.now

abbrev pub around_lent : Counterpart → Around
around_lent o = around o.right o.share o.tolerance o.samples.now o.fronts.now o.marks.now o.combined.now o.reference.now

-- the row as the view reads it, with the candidate x in the entries from `column` on
abbrev pub line_lent : Source → Bool → ℕ → List ℕ → Line
line_lent v right column x = line_with v.tear right v.table.now v.texture.now v.depths.now column x

-- the row as the view reads it: as it stands, and with the candidate x in the columns from `first` on
abbrev pub standing : Bool → Own → Line
standing right v = line v.tear v.table (seen right v.texture) (seen right v.depths)

abbrev pub tried : Bool → Own → List ℕ → ℕ → Line
tried right v x first = line v.tear v.table (seen right v.texture) (splice (seen right v.depths) first (seen right x))

-- the combined sample at entry i, where the view shows q there
abbrev pub combined_with : Around → Pixel → ℕ → ℕ
combined_with o q i = paired o.right o.share o.tolerance q (held_pixel o.samples o.fronts o.marks i)

-- and its squared error
abbrev pub error_with : Around → Pixel → ℕ → ℕ
error_with o q i = square_error (combined_with o q i) (sample_in o.reference i)

-- the view's pixel at entry i
abbrev pub entry_pixel : Bool → Line → ℕ → Pixel
entry_pixel right l i = pixel_at l (entry_of right (width l) i)

-- the total of a row drawn fresh
unfoldable pub row_total : Around → Line → ℕ
row_total o l = sum_to (λ i. error_with o (entry_pixel o.right l i) i) (width l)

-- The row holds the truth, for an edit of columns below n: the limits from column n on, and the combined row.
pub record RowHeld (o : Around) (v : Own) (n : ℕ) : Type 0 where
  pub limits : (c : ℕ) → n ≤ c → c < length v.depths → get_or (seen o.right v.limits) c (pos 0) ≡ limit_at (standing o.right v) c
  pub combined : (i : ℕ) → i < length v.depths → sample_in o.combined i ≡ combined_with o (entry_pixel o.right (standing o.right v) i) i

-- the squared error at position p of a row of w, as the view reads it: of the held combined row, and where the view shows the pixels g
unfoldable pub held_error : Around → ℕ → ℕ → ℕ
held_error o w p = square_error (sample_in o.combined (entry_of o.right w p)) (sample_in o.reference (entry_of o.right w p))

unfoldable pub shown_error : Around → ℕ → (ℕ → Pixel) → ℕ → ℕ
shown_error o w g p = error_with o (g p) (entry_of o.right w p)

-- the sums of these errors over the positions from `start` up to `stop`
pub record Summed (o : Around) (w : ℕ) (g : ℕ → Pixel) (start stop old new : ℕ) : Type 0 where
  pub olds : old + sum_to (held_error o w) start ≡ sum_to (held_error o w) stop
  pub news : new + sum_to (shown_error o w g) start ≡ sum_to (shown_error o w g) stop
  pub old_most : old + worst * start ≤ worst * stop
  pub new_most : new + worst * start ≤ worst * stop

-- What is measured of n entries of a row from `from` on, where the view shows the pixels g: their squared errors, as held and as shown.
pub record Measured (o : Around) (from n : ℕ) (g : ℕ → Pixel) (old new : ℕ) : Type 0 where
  pub olds : old ≡ sum_to (λ k. square_error (sample_in o.combined (from + k)) (sample_in o.reference (from + k))) n
  pub news : new ≡ sum_to (λ k. error_with o (g k) (from + k)) n
  pub old_most : old ≤ worst * n
  pub new_most : new ≤ worst * n

-- What is tried of the positions from `start` up to `stop`, drawn from the pair q of the row l; from the pair r those before them can be drawn.
pub record Stretch (o : Around) (l : Line) (start stop : ℕ) (q r : Pair) (old new : ℕ) : Type 0 where
  pub summed : Summed o (width l) (pixel_below l (q.column + 1) (edge_right q)) start stop old new
  pub ahead : Ahead o.right l start r
  pub passed : Passed l q r start

-- how many positions the trial of a row covers
unfoldable pub covered : Bool → Own → List ℕ → ℕ → ℕ
covered right v x first =
    span_stop v.table (seen right v.depths) (seen right v.limits) (first + length x)
    - span_start (place_in (standing right v)) (place_in (tried right v x first)) first (length x)

-- What the trial of a row answers: the squared errors of the covered positions, as held and with the candidate.
pub record RowTrial (o : Around) (v : Own) (x : List ℕ) (first old new : ℕ) : Type 0 where
  pub old_most : old ≤ worst * covered o.right v x first
  pub new_most : new ≤ worst * covered o.right v x first
  pub change : RowHeld o v (first + length x) → row_total o (tried o.right v x first) + old ≡ row_total o (standing o.right v) + new
