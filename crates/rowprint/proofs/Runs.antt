-- From what a reader gave and a writer took to what is promised of a run.
--     part_written      what was written before an error
--     answered          each text has an answer
--     answers_longer    a text of 4,096 bytes is no row, however it goes on
--     printed_all       what was read and its answer, where all of that was written
--     printed_part      and where a beginning of it was
--     printed_none      or nothing, since the reader failed
use Rattle.std.proofs.Common.{◌≡◌, ℕ, ◌<◌, ◌≤◌, List, [], ◌++◌, length, take, None, Some, refl, sym, ap, ◌∙◌, subst, append-nil, arith, length-append}
use Rattle.model.proofs.Choice.{lt_or_le}
use mathlib.Core.Logic.{⊎_elim}
use Rattle.std.specs.Prelude.{Option}
use Rattle.std.specs.Io.KnownBytes.{Consumes, Appends, IsAtEnd}
use Rattle.std.proofs.KnownBytes.{Appends-nil}
use Rattle.std.proofs.lemmas.List.{take_at}
use Rattle.rowtext.specs.Format.{RowText}
use Rattle.rowtext.specs.Reader.{Step, got, nothing, read_row}
use Rattle.rowtext.proofs.Numbers.{got≢nothing}
use Rattle.rowtext.proofs.Rows.{row_printed, row_read, text_unique}
use Rattle.rowtext.proofs.Lengths.{text_length}
use Rattle.rowlines.specs.Printed.{printed, bad_input, Answers}
use Rattle.rowprint.specs.Run.{IsInput, AppendsPart, Prints, PrintsPart}

-- a beginning of the bytes was written
pub part_written : (old new : Option (List ℕ)) (xs done rest : List ℕ) → xs ≡ done ++ rest → Appends old new done → AppendsPart old new xs
part_written old new xs done rest e a =
    record { count = length done; appended = subst (Appends old new) (sym (ap (take (length done)) e ∙ take_at done rest (length done) refl)) a }

answered_by : (text : List ℕ) (s : Step RowText) → read_row text ≡ s → (out : List ℕ) × Answers text out
answered_by text (got r m) e =
    let i = row_read text r m e in
    (printed r, record { row = λ s v t. ap printed (text_unique r s i.0 v (sym i.1 ∙ t)); other = λ h. absurd (h r i.0 i.1) })
answered_by text nothing e = (bad_input, record { row = λ r v t. got≢nothing (sym e ∙ ap read_row t ∙ row_printed r v); other = λ h. refl })

answered : (text : List ℕ) → (out : List ℕ) × Answers text out
answered text = answered_by text (read_row text) refl

-- Two texts that are longer than any row's have one answer.
answers_longer : (text all out : List ℕ) → 4096 ≤ length text → length text ≤ length all → Answers text out → Answers all out
answers_longer text all out h k a =
    record {
      row = λ r v e. let same = ap length e in absurd (omega (arith, text_length r v, same));
      other = λ _. a.other (λ r v e. let same = ap length e in omega (arith, text_length r v, same));
    }

-- What was read, and the input where it is known, have one answer.
record Read (input : Option (List ℕ)) (out : List ℕ) : Type 0 where
  text : List ℕ
  is_input : IsInput input text
  answers : Answers text out

whole : (input left : Option (List ℕ)) (text out : List ℕ) → Consumes input left text → (length text < 4096 → IsAtEnd left) → Answers text out → Read input out
whole None left text out c e h = record { text = text; is_input = tt; answers = h }
whole (Some all) None text out c e h = absurd c
whole (Some all) (Some rest) text out c e h =
    record {
      text = all;
      is_input = refl;
      answers =
          ⊎_elim
          (λ (short : length text < 4096). subst (λ (t : List ℕ). Answers t out) (sym (c ∙ ap (λ l. text ++ l) (e short) ∙ append-nil text)) h)
          (λ (long : 4096 ≤ length text). answers_longer text all out long (let size = ap length c in omega (arith, size, length-append text rest)) h)
          (lt_or_le (length text) 4096);
    }

pub printed_all : (input left old new : Option (List ℕ)) (text out : List ℕ) → Consumes input left text → (length text < 4096 → IsAtEnd left) → Answers text out → Appends old new out → Prints input old new
printed_all input left old new text out c e h a =
    let r = whole input left text out c e h in
    record { text = r.text; is_input = r.is_input; out = out; answers = r.answers; appended = a }

pub printed_part : (input left old new : Option (List ℕ)) (text out : List ℕ) → Consumes input left text → (length text < 4096 → IsAtEnd left) → Answers text out → AppendsPart old new out → PrintsPart input old new
printed_part input left old new text out c e h a =
    let r = whole input left text out c e h in
    record { text = r.text; is_input = r.is_input; out = out; answers = r.answers; appended = a }

none_of : (text : List ℕ) (input old : Option (List ℕ)) → IsInput input text → PrintsPart input old old
none_of text input old i =
    let (out, h) = answered text in
    record { text = text; is_input = i; out = out; answers = h; appended = record { count = 0; appended = Appends-nil old } }

pub printed_none : (input old : Option (List ℕ)) → PrintsPart input old old
printed_none None old = none_of [] None old tt
printed_none (Some all) old = none_of all (Some all) old refl
