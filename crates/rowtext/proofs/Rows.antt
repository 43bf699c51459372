-- The two laws that make the reader exact.
--     row_printed      the text of a valid row is read, and gives that row
--     row_read         a text that is read is that of a valid row, the one that was read
--     text_unique      so a text is that of one valid row at most
use Prim.Native.Nat.{ℕ, zero, suc, ◌≤◌}
use mathlib.Core.Path.{◌≡◌, refl, sym, ap, subst, ◌∙◌}
use mathlib.Core.Bool.{cond}
use mathlib.Core.List.{List, [], ◌∷◌, ◌++◌, append-nil}
use native.Mathlib.Omega.{arith}
use lib.Dec.{eqb}
use lib.ListN.{length, take}
use borrow.Author.Tests.{ne_eqb, eqb-false}
use Rattle.model.proofs.Choice.{bool_cases}
use Rattle.model.specs.Row.{greatest}
use Rattle.rowtext.specs.Format.{RowText, row_text, AtMost, nearest, Valid, newline, decimal, text_line, text_of}
use Rattle.rowtext.specs.Reader.{Step, got, nothing, then, read_field, read_line, read_end, read_lines, read_row, RowPost}
use Rattle.rowtext.specs.Promise.{IsBad, ReadPost}
use Rattle.rowtext.specs.declared.Row.{Row}
use Rattle.std.specs.Prelude.{Option, Some, None, MatchOption}
use Rattle.rowtext.proofs.Numbers.{got≢nothing, got_value, then_got, field_printed, field_read}
use Rattle.rowtext.proofs.Lines.{one_line, line_printed, line_read, IsLine}

-- a line of w numbers, w at least 1
full_line_printed : (most w : ℕ) (ns l : List ℕ) → 1 ≤ w → length ns ≡ w → AtMost most ns → read_line most w (text_line ns ++ l) ≡ got ns l
full_line_printed most w [] l h e r = absurd (omega arith)
full_line_printed most w (n ∷ ns) l h e r = rw (← e) (line_printed most n ns l r)

full_line_read : (most w : ℕ) (l ns m : List ℕ) → 9 ≤ most → 1 ≤ w → read_line most w l ≡ got ns m → IsLine most w l ns m
full_line_read most zero l ns m k h e = absurd (omega arith)
full_line_read most (suc n) l ns m k h e = line_read most n l ns m k e

end_read : (r s : RowText) (l m : List ℕ) → read_end r l ≡ got s m → (r ≡ s) × (l ≡ [])
unfolding read_end
end_read r s [] m e = (got_value e, refl)
end_read r s (b ∷ bs) m e = got≢nothing e

pub row_printed : (r : RowText) → Valid r → read_row (text_of r) ≡ got r []
unfolding read_row read_lines read_end text_of
row_printed r v =
    let samples = full_line_printed greatest r.w r.samples (text_line r.depths) v.w_least v.samples v.sample_range in
    let depths : read_line nearest r.w (text_line r.depths) ≡ got r.depths [] =
    rw (append-nil (text_line r.depths)) at (full_line_printed nearest r.w r.depths [] v.w_least v.depths v.depth_range) in
    rw (
      one_line r.w (text_line r.samples ++ text_line r.depths),
      field_printed 64 newline r.w (text_line r.samples ++ text_line r.depths) v.w_most (omega arith),
      ne_eqb r.w 0 (λ e. omega arith),
      samples,
      depths,
    )

-- what the two lines after w were read as
pub record AreLines (w : ℕ) (l : List ℕ) (r : RowText) : Type 0 where
  pub valid : Valid r
  pub width : w ≡ r.w
  pub lines : l ≡ text_line r.samples ++ text_line r.depths

lines_read : (w : ℕ) (l : List ℕ) (r : RowText) (m : List ℕ) → 1 ≤ w → w ≤ 64 → read_lines w l ≡ got r m → AreLines w l r
unfolding read_lines
lines_read w l r m h k e =
    let (samples, rest, first, more) = then_got (read_line greatest w l) (λ samples rest. then (read_line nearest w rest) (λ depths rest. read_end (row_text w samples depths) rest)) r m e in
    let (depths, left, second, end) = then_got (read_line nearest w rest) (λ depths rest. read_end (row_text w samples depths) rest) r m more in
    let a = full_line_read greatest w l samples rest (omega arith) h first in
    let b = full_line_read nearest w rest depths left (omega arith) h second in
    let c = end_read (row_text w samples depths) r left m end in
    let last : rest ≡ text_line depths = b.text ∙ ap (λ (x : List ℕ). text_line depths ++ x) c.1 ∙ append-nil (text_line depths) in
    let valid : Valid (row_text w samples depths) =
    record { w_least = h; w_most = k; samples = a.count; depths = b.count; sample_range = a.range; depth_range = b.range } in
    subst (AreLines w l) c.0 (record { valid = valid; width = refl; lines = a.text ∙ ap (λ (x : List ℕ). text_line samples ++ x) last })

-- w before the two lines
whole_text : (w : ℕ) (text rest : List ℕ) (r : RowText) → text ≡ decimal w ++ (newline ∷ rest) → AreLines w rest r → text ≡ text_of r
unfolding text_of
whole_text w text rest r e a =
    e ∙ sym (one_line w rest) ∙ ap (λ (x : List ℕ). text_line (w ∷ []) ++ x) a.lines
    ∙ ap (λ (n : ℕ). text_line (n ∷ []) ++ (text_line r.samples ++ text_line r.depths)) a.width

pub row_read : (text : List ℕ) (r : RowText) (m : List ℕ) → read_row text ≡ got r m → Valid r × (text ≡ text_of r)
unfolding read_row
row_read text r m e =
    let (w, rest, field, more) = then_got (read_field 64 newline text) (λ w rest. cond (eqb w 0) nothing (read_lines w rest)) r m e in
    let a = field_read 64 newline text w rest (omega arith) field in
    let b = after w rest a.1 more in
    (b.valid, whole_text w text rest r a.0 b)
  where
    after : (w : ℕ) (rest : List ℕ) → w ≤ 64 → cond (eqb w 0) nothing (read_lines w rest) ≡ got r m → AreLines w rest r
    after w rest k =
        bool_cases (eqb w 0) (λ z. rw z (λ g. got≢nothing g))
        (λ z. rw z (λ g. let n = eqb-false w 0 z in lines_read w rest r m (omega arith) k g))

pub text_unique : (r s : RowText) → Valid r → Valid s → text_of r ≡ text_of s → r ≡ s
text_unique r s v u e = got_value (sym (row_printed r v) ∙ ap read_row e ∙ row_printed s u)

pub width_then : (text : List ℕ) (w : ℕ) (l : List ℕ) → read_field 64 newline text ≡ got w l → (w ≡ 0 → ⊥) → read_row text ≡ read_lines w l
unfolding read_row
width_then text w l e z = rw (e, ne_eqb w 0 z)

-- what the promise says of what was read
pub not_read : (text : List ℕ) → read_row text ≡ nothing → IsBad text
not_read text e = record { none = λ r v t. got≢nothing (sym e ∙ ap read_row t ∙ row_printed r v) }

pub promised : (text : List ℕ) (s : Step RowText) → read_row text ≡ s → (o : Option Row) → MatchOption o (s ≡ nothing) (λ r. RowPost s r.w r.samples r.depths) → ReadPost text o
promised text s e None p = not_read text (e ∙ p)
promised text s e (Some r) p =
    let (valid, is_text) = row_read text (row_text r.w (take r.w r.samples) (take r.w r.depths)) [] (e ∙ p.read) in
    record { valid = valid; is_text = is_text; spare_samples = p.spare_samples; spare_depths = p.spare_depths }
