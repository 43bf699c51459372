-- Reading a text from the left: what each step answers, as a function of the bytes that are left. The laws of proofs/Rows show that this
-- reads the text of every valid row (row_printed) and no other text (row-read).
use Rattle.std.specs.Prelude.{ℕ, zero, suc, ◌+◌, ◌-◌, ◌*◌, ◌≡◌, cond, List, [], ◌∷◌, ltb, eqb, length, take, Option, Some, None}
use Rattle.model.specs.Row.{greatest}
use Rattle.rowtext.specs.Format.{RowText, row_text, nearest, space, newline}
use Rattle.rowtext.specs.Promise.{ZeroFrom}

-- What a step reads, with the bytes that are left after it; or nothing.
pub data Step (A : Type 0) : Type 0 where
  got : A → List ℕ → Step A
  nothing : Step A

module _ {A B : Type 0} where
  -- a step, and a second one on what the first has left
  abbrev pub then : Step A → (A → List ℕ → Step B) → Step B
  then (got a l) f = f a l
  then nothing f = nothing

-- the digit that a byte stands for, if it stands for one
unfoldable pub digit_of : ℕ → Option ℕ
digit_of b = cond (ltb b 48) None (cond (ltb 57 b) None (Some (b - 48)))

-- the digits that go on a number whose first digits make v: none after a zero, and not above `most`
unfoldable pub read_digits : ℕ → ℕ → List ℕ → Step ℕ
read_digits most v [] = got v []
read_digits most v (b ∷ bs) =
    elim (digit_of b) [
      | Some d ↦ cond (eqb v 0) nothing (cond (ltb most (10 * v + d)) nothing (read_digits most (10 * v + d) bs))
      | None ↦ got v (b ∷ bs)
    ]

-- a number
unfoldable pub read_number : ℕ → List ℕ → Step ℕ
read_number most [] = nothing
read_number most (b ∷ bs) = elim (digit_of b) [ Some d ↦ read_digits most d bs | None ↦ nothing ]

-- the byte `mark`
unfoldable pub read_mark : ℕ → ℕ → List ℕ → Step ℕ
read_mark mark v [] = nothing
read_mark mark v (b ∷ bs) = cond (eqb b mark) (got v bs) nothing

-- a number and the byte that ends it
unfoldable pub read_field : ℕ → ℕ → List ℕ → Step ℕ
read_field most mark l = then (read_number most l) (read_mark mark)

-- what ends a number with n more of its line to come
abbrev pub mark_of : ℕ → ℕ
mark_of zero = newline
mark_of (suc n) = space

-- a number before those of a line's rest
abbrev pub prepend : ℕ → Step (List ℕ) → Step (List ℕ)
prepend v (got vs l) = got (v ∷ vs) l
prepend v nothing = nothing

-- a line of n numbers, each at most `most`
unfoldable pub read_line : ℕ → ℕ → List ℕ → Step (List ℕ)
read_line most zero l = got [] l
read_line most (suc n) l = then (read_field most (mark_of n) l) (λ v rest. prepend v (read_line most n rest))

-- the end of the text
unfoldable pub read_end : RowText → List ℕ → Step RowText
read_end r [] = got r []
read_end r (b ∷ bs) = nothing

-- the two lines after w
unfoldable pub read_lines : ℕ → List ℕ → Step RowText
read_lines w l =
    then (read_line greatest w l) (λ samples rest. then (read_line nearest w rest) (λ depths rest. read_end (row_text w samples depths) rest))

-- the whole text
unfoldable pub read_row : List ℕ → Step RowText
read_row text = then (read_field 64 newline text) (λ w rest. cond (eqb w 0) nothing (read_lines w rest))

-- A line of n numbers was read, the first n of `values`, and `rest` is left.
pub record LinePost (n : ℕ) (step : Step (List ℕ)) (values rest : List ℕ) : Type 0 where
  pub read : step ≡ got (take n values) rest
  pub size : length values ≡ 64
  pub spare : ZeroFrom n values

-- The whole row was read: the first w entries of samples and of depths.
pub record RowPost (step : Step RowText) (w : ℕ) (samples depths : List ℕ) : Type 0 where
  pub read : step ≡ got (row_text w (take w samples) (take w depths)) []
  pub spare_samples : ZeroFrom w samples
  pub spare_depths : ZeroFrom w depths
