-- From what was read and what was written to what is promised of the printer's answer.
--     counts              what was written can be lent
--     printed_drawing     the lines of what was drawn are those of the row
--     answers_row         a row is answered by what is printed of it, and by nothing else, since a text is that of one row only
use Prim.Native.Nat.{ℕ, ◌≤◌}
use mathlib.Core.Path.{◌≡◌, sym, ap, ◌∙◌}
use mathlib.Core.Bool.{false}
use mathlib.Core.List.{List, ◌++◌}
use native.Mathlib.Omega.{arith}
use lib.ListN.{length, take}
use lib.Seq.{length-take-le}
use Rattle.model.specs.Lists.{rows}
use Rattle.model.specs.Row.{line}
use Rattle.model.specs.Views.{view_row}
use Rattle.rowtext.specs.Format.{row_text}
use Rattle.rowtext.specs.Promise.{IsRow}
use Rattle.rowtext.proofs.Rows.{text_unique}
use Rattle.rowlines.specs.Printed.{printer_tear, printer_table, drawn_row, header_of, printed, Answers}
use Rattle.rowlines.specs.Steps.{Put, Shows, shown_line}
use Rattle.rowlines.proofs.Puts.{put_as}
use Rattle.rowprint.proofs.Shown.{same_lines}

pub printed_drawing : (w : ℕ) (texture depths samples marks fronts : List ℕ) {o q : List ℕ} {n : ℕ} → Shows (view_row false (line printer_tear printer_table texture depths)) w samples marks fronts → Put 2048 o 0 (header_of w ++ rows (shown_line samples marks fronts) w) q n → Put 2048 o 0 (printed (row_text w texture depths)) q n
unfolding printed drawn_row
printed_drawing w texture depths samples marks fronts h a =
    put_as (ap (λ (l : List ℕ). header_of w ++ l) (same_lines (view_row false (line printer_tear printer_table texture depths)) w samples marks fronts h)) (omega arith) a

-- what was written can be lent
pub counts : {m : ℕ} {o xs q : List ℕ} {n : ℕ} → m ≤ length o → Put m o 0 xs q n → (n ≤ length q) × (n ≡ length (take n q))
counts {q = q} {n = n} h a =
    let k : n ≤ length q = omega arith in
    (k, sym (length-take-le n q k))

pub answers_row : (text : List ℕ) (w : ℕ) (samples depths : List ℕ) {m : ℕ} {o q : List ℕ} {n : ℕ} → IsRow text w samples depths → Put m o 0 (printed (row_text w (take w samples) (take w depths))) q n → Answers text (take n q)
answers_row text w samples depths i a =
    record {
      row = λ r v e. a.written ∙ ap printed (text_unique (row_text w (take w samples) (take w depths)) r i.valid v (sym i.is_text ∙ e));
      other = λ h. absurd (h (row_text w (take w samples) (take w depths)) i.valid i.is_text);
    }
