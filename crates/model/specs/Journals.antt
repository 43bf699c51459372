-- Document 02, card 3: the journal, a list of 32-bit words. Word 0 names the newest record, zero for none. A record follows the newest, or word 0, directly:
-- index of the one before (zero ends the chain), view, first column, first row, width, height, old depths one a word.
use Rattle.std.specs.Prelude.{ℕ, ◌+◌, ◌-◌, cond, ◌&&◌, List, ◌∷◌, leb, ltb, eqb, length, get_or, take, drop}
use Rattle.model.specs.declared.Block.{Block}
use Rattle.model.specs.Lists.{list_of}
use Rattle.model.specs.Candidates.{positions}

-- ---- the record at index i

abbrev pub word_at : List ℕ → ℕ → ℕ
word_at j i = get_or j i 0

abbrev pub newest : List ℕ → ℕ
newest j = word_at j 0

abbrev pub index_before : List ℕ → ℕ → ℕ
index_before j i = word_at j i

abbrev pub record_view : List ℕ → ℕ → ℕ
record_view j i = word_at j (i + 1)

abbrev pub record_block : List ℕ → ℕ → Block
record_block j i = record { column = word_at j (i + 2); row = word_at j (i + 3); width = word_at j (i + 4); height = word_at j (i + 5) }

unfoldable pub record_depths : List ℕ → ℕ → List ℕ
record_depths j i = take (positions (record_block j i)) (drop (i + 6) j)

-- the words of a record for block b, and where the record at index i ends
abbrev pub record_size : Block → ℕ
record_size b = 6 + positions b

abbrev pub record_end : List ℕ → ℕ → ℕ
record_end j i = i + record_size (record_block j i)

-- where the next record stands
unfoldable pub next_index : List ℕ → ℕ
next_index j = cond (eqb (newest j) 0) 1 (record_end j (newest j))

-- the words of a record
abbrev pub record_of : ℕ → ℕ → Block → List ℕ → List ℕ
record_of before v b old = before ∷ v ∷ b.column ∷ b.row ∷ b.width ∷ b.height ∷ old

-- ---- what is written

-- another word 0
unfoldable pub with_newest : ℕ → List ℕ → List ℕ
with_newest n j = list_of (λ i. cond (eqb i 0) n (word_at j i)) (length j)

-- SET writes word 0 and the new record: its view, block and the old depths.
unfoldable pub saved : List ℕ → ℕ → Block → List ℕ → List ℕ
saved j v b old =
    list_of
    (λ i. cond (eqb i 0) (next_index j)
    (cond (leb (next_index j) i && ltb i (next_index j + record_size b)) (get_or (record_of (newest j) v b old) (i - next_index j) 0) (word_at j i)))
    (length j)

-- TAKE BACK gives word 0 the index of the one before.
abbrev pub taken_back : List ℕ → List ℕ
taken_back j = with_newest (index_before j (newest j)) j

-- OPEN and MOVE empty the journal.
abbrev pub emptied : List ℕ → List ℕ
emptied j = with_newest 0 j
