-- What RENDER drew into the first entries of three arrays, and the lines that are printed of it.
--     accepted         RENDER refuses no row whose planes have their lengths
--     render_shows     what it drew is read back, entry by entry
--     same_lines       and printed
use Prim.Native.Nat.{ℕ, ◌+◌, ◌/◌, ◌%◌, ◌^◌, ◌<◌, ◌≤◌}
use mathlib.Core.Path.{◌≡◌, ap, ◌∙◌}
use mathlib.Core.Bool.{true, false}
use mathlib.Core.List.{List, ◌++◌}
use native.Mathlib.Omega.{arith}
use lib.ListN.{length, get_or, take, drop, length-append, length-drop, get_or-append}
use lib.Seq.{length-take-le}
use borrow.Author.Tests.{eq-eqb}
use Rattle.std.specs.Prelude.{Result}
use Rattle.model.specs.declared.Settings.{Settings}
use Rattle.model.specs.declared.Refusal.{Refusal}
use Rattle.model.specs.Lists.{rows}
use Rattle.model.specs.Row.{Line, line, Row, width}
use Rattle.model.specs.Views.{view_row}
use Rattle.model.specs.Marks.{mark_bytes, pack_row, mark_at}
use Rattle.model.specs.Planes.{Strip, strip}
use Rattle.model.specs.Fresh.{strip_of}
use Rattle.model.specs.Refusals.{strip_sized, tables_ok, render_number}
use Rattle.model.specs.Promises.{RenderPost}
use Rattle.model.proofs.Lists.{rows_same}
use Rattle.model.proofs.Packing.{mark_pack_row, length-pack_row}
use Rattle.model.proofs.Views.{length-view_samples, length-view_fronts}
use Rattle.model.proofs.Fresh.{flags_view}
use Rattle.model.proofs.Refusals.{side_yes, tear_yes, tables_yes}
use Rattle.rowlines.specs.Printed.{printer_tear, printer_table, position_line}
use Rattle.rowlines.specs.Steps.{PrinterSettings, Shows, shown_line}
use Rattle.rowprint.proofs.Tables.{table_most}

-- the planes that RENDER is lent have their lengths
pub record Lent (w : ℕ) (texture depths : List ℕ) (x : Strip) : Type 0 where
  pub texture_is : length texture ≡ w
  pub depths_is : length depths ≡ w
  pub samples_is : length x.samples ≡ w
  pub marks_is : length x.marks ≡ mark_bytes w
  pub fronts_is : length x.fronts ≡ w

sized : (w : ℕ) (texture depths : List ℕ) (x : Strip) → Lent w texture depths x → strip_sized w texture depths x ≡ true
unfolding strip_sized
sized w texture depths x l =
    rw (
      eq-eqb (length texture) w l.texture_is,
      eq-eqb (length depths) w l.depths_is,
      eq-eqb (length x.samples) w l.samples_is,
      eq-eqb (length x.marks) (mark_bytes w) l.marks_is,
      eq-eqb (length x.fronts) w l.fronts_is,
    )

printer_tables : (w : ℕ) (s : Settings) → PrinterSettings w s → tables_ok s ≡ true
printer_tables w s p = tables_yes s (record { left = λ i. rw p.left_is (table_most i); right = λ i. rw p.right_is (table_most i) })

accepted : (w : ℕ) (s : Settings) (texture depths : List ℕ) (x : Strip) → 1 ≤ w → w ≤ 64 → PrinterSettings w s → Lent w texture depths x → render_number s 0 texture depths x ≡ 0
unfolding render_number
accepted w s texture depths x h k p l =
    rw
    (printer_tables w s p, p.tear_is, tear_yes printer_tear (record { least = omega arith; most = omega arith; near = omega arith }), p.width_is, side_yes w (record { some = h; most = omega arith }), sized w texture depths x l)

drawn : (w : ℕ) (s : Settings) (texture depths : List ℕ) (x₀ x : Strip) (r : Result (Unit {0}) Refusal) → 1 ≤ w → w ≤ 64 → PrinterSettings w s → Lent w texture depths x₀ → RenderPost s 0 texture depths x₀ x r → x ≡ strip_of w (view_row false (line printer_tear printer_table texture depths))
drawn w s texture depths x₀ x r h k p l post =
    rw (p.width_is, p.left_is, p.tear_is) at (post.drawn (post.number ∙ accepted w s texture depths x₀ h k p l))

-- x is what RENDER drew of a row of w; what stands after it in the arrays is kept
module _ (w : ℕ) (l : Line) (wide : width l ≡ w) (x : Strip) (e : x ≡ strip_of w (view_row false l)) where
  samples_drawn : x.samples ≡ (view_row false l).samples
  unfolding strip_of
  samples_drawn = ap (λ (y : Strip). y.samples) e

  marks_drawn : x.marks ≡ pack_row (mark_bytes w) (view_row false l).marks
  unfolding strip_of
  marks_drawn = ap (λ (y : Strip). y.marks) e

  fronts_drawn : x.fronts ≡ (view_row false l).fronts
  unfolding strip_of
  fronts_drawn = ap (λ (y : Strip). y.fronts) e

  samples_length : length x.samples ≡ w
  samples_length = ap length samples_drawn ∙ length-view_samples false l ∙ wide

  marks_length : length x.marks ≡ mark_bytes w
  marks_length = ap length marks_drawn ∙ length-pack_row (mark_bytes w) (view_row false l).marks

  fronts_length : length x.fronts ≡ w
  fronts_length = ap length fronts_drawn ∙ length-view_fronts false l ∙ wide

  mark_drawn : (rest : List ℕ) (p : ℕ) → p < w → mark_at (x.marks ++ rest) p ≡ get_or (view_row false l).marks p 0
  mark_drawn rest p h =
      ap (λ (b : ℕ). b / 2 ^ (p % 8) % 2) (get_or-append x.marks rest 0 (p / 8) (omega (arith, marks_length)) ∙ ap (λ (m : List ℕ). get_or m (p / 8) 0) marks_drawn)
      ∙ mark_pack_row (mark_bytes w) (view_row false l).marks (flags_view false l) p (omega arith)

  shows : (s m f : List ℕ) → w + length s ≡ 64 → mark_bytes w + length m ≡ 64 → w + length f ≡ 64 → Shows (view_row false l) w (x.samples ++ s) (x.marks ++ m) (x.fronts ++ f)
  shows s m f es em ef =
      record {
        samples_size = omega (arith, length-append x.samples s, samples_length);
        marks_size = omega (arith, length-append x.marks m, marks_length);
        fronts_size = omega (arith, length-append x.fronts f, fronts_length);
        samples_are = λ p h. get_or-append x.samples s 0 p (omega (arith, samples_length)) ∙ ap (λ (y : List ℕ). get_or y p 0) samples_drawn;
        marks_are = λ p h. mark_drawn m p h;
        fronts_are = λ p h. get_or-append x.fronts f 0 p (omega (arith, fronts_length)) ∙ ap (λ (y : List ℕ). get_or y p 0) fronts_drawn;
      }

-- RENDER is lent the first entries of three blank arrays of 64
module _ (w : ℕ) (some : 1 ≤ w) (most : w ≤ 64) (bs bm bf : List ℕ) (es : 64 ≡ length bs) (em : 64 ≡ length bm) (ef : 64 ≡ length bf) where
  lent : (texture depths : List ℕ) → length texture ≡ w → length depths ≡ w → Lent w texture depths (strip (take w bs) (take (mark_bytes w) bm) (take w bf))
  lent texture depths et ed =
      record {
        texture_is = et;
        depths_is = ed;
        samples_is = length-take-le w bs (omega arith);
        marks_is = length-take-le (mark_bytes w) bm (omega arith);
        fronts_is = length-take-le w bf (omega arith);
      }

  pub render_shows : (s : Settings) (texture depths : List ℕ) (x : Strip) (r : Result (Unit {0}) Refusal) → length texture ≡ w → length depths ≡ w → PrinterSettings w s → RenderPost s 0 texture depths (strip (take w bs) (take (mark_bytes w) bm) (take w bf)) x r → Shows (view_row false (line printer_tear printer_table texture depths)) w (x.samples ++ drop w bs) (x.marks ++ drop (mark_bytes w) bm) (x.fronts ++ drop w bf)
  render_shows s texture depths x r et ed p post =
      let e = drawn w s texture depths (strip (take w bs) (take (mark_bytes w) bm) (take w bf)) x r some most p (lent texture depths et ed) post in
      shows w (line printer_tear printer_table texture depths) ed x e (drop w bs) (drop (mark_bytes w) bm) (drop w bf)
      (omega (arith, length-drop w bs)) (omega (arith, length-drop (mark_bytes w) bm)) (omega (arith, length-drop w bf))

line_same : (x : Row) (w : ℕ) (samples marks fronts : List ℕ) → Shows x w samples marks fronts → (p : ℕ) → p < w → shown_line samples marks fronts p ≡ position_line x p
unfolding shown_line position_line
line_same x w samples marks fronts h p k = rw (h.samples_are p k, h.marks_are p k, h.fronts_are p k)

pub same_lines : (x : Row) (w : ℕ) (samples marks fronts : List ℕ) → Shows x w samples marks fronts → rows (shown_line samples marks fronts) w ≡ rows (position_line x) w
same_lines x w samples marks fronts h = rows_same (shown_line samples marks fronts) (position_line x) w (line_same x w samples marks fronts h)
