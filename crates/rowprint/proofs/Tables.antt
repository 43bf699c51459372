-- The table whose entry d is d.
use Prim.Native.Nat.{ℕ, ◌<◌, ◌≤◌}
use mathlib.Core.Path.{◌≡◌, sym, ◌∙◌}
use mathlib.Core.Logic.{⊎_elim}
use mathlib.Core.List.{List}
use native.Mathlib.Omega.{arith}
use lib.ListN.{length, get_or, get_or-eq_default}
use lib.Seq.{ext_get_or}
use Rattle.model.specs.Lists.{list_of}
use Rattle.model.proofs.Choice.{lt_or_le}
use Rattle.model.proofs.Lists.{length-list_of, get_or-list_of}
use Rattle.rowlines.specs.Printed.{printer_table}

pub table_all : (l : List ℕ) → length l ≡ 256 → ((i : ℕ) → i < 256 → get_or l i 0 ≡ i) → l ≡ printer_table
unfolding printer_table
table_all l e z =
    ext_get_or 0 l (list_of (λ d. d) 256) (e ∙ sym (length-list_of (λ (d : ℕ). d) 256))
    (λ i h. z i (omega arith) ∙ sym (get_or-list_of 0 (λ d. d) 256 i (omega arith)))

-- every entry is at most 255
pub table_most : (i : ℕ) → get_or printer_table i 0 ≤ 1023
unfolding printer_table
table_most i =
    ⊎_elim (λ (h : i < 256). omega (arith, get_or-list_of 0 (λ d. d) 256 i h))
    (λ (h : 256 ≤ i). let l : length (list_of (λ (d : ℕ). d) 256) ≤ i = omega (arith, length-list_of (λ (d : ℕ). d) 256) in omega (arith, get_or-eq_default (list_of (λ d. d) 256) 0 l))
    (lt_or_le i 256)
