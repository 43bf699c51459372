-- The entries of a line's array.
--     zeros_zero, zeros_set        those past its numbers are 0
--     line_entries                 so that all are in range
use Prim.Native.Nat.{ℕ, zero, suc, ◌+◌, ◌<◌, ◌≤◌}
use mathlib.Core.Path.{◌∙◌}
use mathlib.Core.Logic.{⊎_elim}
use mathlib.Core.List.{List, [], ◌∷◌}
use native.Mathlib.Omega.{arith}
use lib.ListN.{get_or, take, set, replicate, length-replicate, get_or-replicate, get_or-eq_default}
use lib.Seq.{get_or-take, get_or-set_other}
use Rattle.model.proofs.Choice.{lt_or_le}
use Rattle.rowtext.specs.Format.{AtMost}
use Rattle.rowtext.specs.Promise.{ZeroFrom}
use Rattle.rowtext.specs.Reader.{LinePost, read_line}
use Rattle.rowtext.proofs.Lines.{line_most}

pub zeros_zero : (n : ℕ) → ZeroFrom 0 (replicate n 0)
zeros_zero n i h =
    ⊎_elim (λ (k : i < n). get_or-replicate n i 0 0 k)
    (λ (k : n ≤ i). get_or-eq_default (replicate n 0) 0 (omega (arith, length-replicate {A = ℕ} n 0)))
    (lt_or_le i n)

-- a store before them
pub zeros_set : (k : ℕ) (values : List ℕ) (v : ℕ) → ZeroFrom k values → ZeroFrom (k + 1) (set values k v)
zeros_set k values v z i h = get_or-set_other values k i v 0 (λ e. omega arith) ∙ z i (omega arith)

taken_most : (most : ℕ) (ns : List ℕ) → AtMost most ns → (i : ℕ) → get_or ns i 0 ≤ most
taken_most most [] h i = omega arith
taken_most most (n ∷ ns) h zero = h.0
taken_most most (n ∷ ns) h (suc i) = taken_most most ns h.1 i

pub entry_most : (most n : ℕ) (values : List ℕ) → AtMost most (take n values) → ZeroFrom n values → (i : ℕ) → get_or values i 0 ≤ most
entry_most most n values h z i =
    ⊎_elim (λ (k : i < n). rw (← get_or-take n values i 0 k) (taken_most most (take n values) h i))
    (λ (k : n ≤ i). rw (z i k) (omega arith))
    (lt_or_le i n)

pub line_entries : (most n : ℕ) (l values rest : List ℕ) → 9 ≤ most → LinePost n (read_line most n l) values rest → (i : ℕ) → get_or values i 0 ≤ most
line_entries most n l values rest h p =
    entry_most most n values (line_most most n l (take n values) rest h p.read) p.spare
