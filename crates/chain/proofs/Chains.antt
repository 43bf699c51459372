-- The tests of the journal (document 01, 11, 12 and 13), each by the way it is found.
--     record_short, record_refused, record_past, record_rest     a record's tests, in the order in which they are made
--     own_inside, record_inside                                  what they show
--     chain_refused, chain_still, chain_next                     one step along the chain
--     journal_empty, journal_some, newest_end                    the journal, and the end of its newest record
--     saving-.., taking-..                                       the numbers by their tests
use Prim.Native.Nat.{ℕ, ◌+◌, ◌-◌, ◌*◌, ◌<◌, ◌≤◌}
use mathlib.Core.Path.{◌≡◌, sym, ◌∙◌}
use mathlib.Core.Bool.{true, false}
use mathlib.Core.List.{List}
use native.Mathlib.Omega.{arith}
use native.Mathlib.Nat.{mul-le-mul}
use lib.Dec.{leb}
use lib.ListN.{length, take, drop}
use borrow.Author.Tests.{le-leb, lt-leb, lt-ltb, le-ltb, eq-eqb, ne_eqb}
use Rattle.model.specs.declared.Settings.{Settings}
use Rattle.model.specs.declared.Block.{Block}
use Rattle.model.specs.Candidates.{positions}
use Rattle.model.specs.Journals.{newest, index_before, record_view, record_block, record_depths, record_end, next_index}
use Rattle.model.specs.Refusals.{up_to, view_ok, block_ok, record_ok, chain_ok, journal_ok, room_ok, saving_then, taking_then}
use Rattle.model.proofs.Choice.{not_true, and_left, and_right, and_off}
use Rattle.model.proofs.Refusals.{Inside, unless_true, unless_rest, block_facts}
use Rattle.model.proofs.Journals.{chain_step, next_after, record_facts}
use Rattle.validate.specs.Numbers.{sides, own_number}

-- ---- a record

own_passed : (w h v : ℕ) (b : Block) → view_ok v ≡ true → block_ok (sides w h) b ≡ true → own_number w h v b 0 ≡ 0
unfolding own_number
own_passed w h v b p q = rw (p, q)

own_view : (w h v : ℕ) (b : Block) → own_number w h v b 0 ≡ 0 → view_ok v ≡ true
unfolding own_number
own_view w h v b e = unless_true (view_ok v) 5 _ e

own_block : (w h v : ℕ) (b : Block) → own_number w h v b 0 ≡ 0 → block_ok (sides w h) b ≡ true
unfolding own_number
own_block w h v b e = unless_true (block_ok (sides w h) b) 4 0 (unless_rest (view_ok v) 5 _ e)

-- the block of a record that is not refused
pub own_inside : (w h v : ℕ) (b : Block) → own_number w h v b 0 ≡ 0 → Inside (sides w h) b
own_inside w h v b e = block_facts (sides w h) b (own_block w h v b e)

module _ (w h : ℕ) (j : List ℕ) (at : ℕ) where
  pub record_short : length j < at + 6 → record_ok (sides w h) j at ≡ false
  unfolding record_ok
  record_short l = rw (lt-leb (record_end j at) (length j) (omega arith))

  pub record_refused : (own_number w h (record_view j at) (record_block j at) 0 ≡ 0 → ⊥) → record_ok (sides w h) j at ≡ false
  unfolding record_ok
  record_refused ne =
      not_true (record_ok (sides w h) j at)
      (λ e.
      let a = and_right (leb (record_end j at) (length j)) _ e in
      let b = and_right (view_ok (record_view j at)) _ a in
      ne (own_passed w h (record_view j at) (record_block j at) (and_left (view_ok (record_view j at)) _ a) (and_left (block_ok (sides w h) (record_block j at)) _ b)))

  pub record_past : length j < record_end j at → record_ok (sides w h) j at ≡ false
  unfolding record_ok
  record_past l = rw (lt-leb (record_end j at) (length j) l)

  pub record_rest : record_end j at ≤ length j → own_number w h (record_view j at) (record_block j at) 0 ≡ 0 → up_to 255 (take (at + 6 + positions (record_block j at) - (at + 6)) (drop (at + 6) j)) ≡ record_ok (sides w h) j at
  unfolding record_ok record_depths
  record_rest l e =
      let n : at + 6 + positions (record_block j at) - (at + 6) ≡ positions (record_block j at) = omega arith in
      rw (le-leb (record_end j at) (length j) l, own_view w h (record_view j at) (record_block j at) e, own_block w h (record_view j at) (record_block j at) e, n)

-- ---- the chain

module _ (s : Settings) (j : List ℕ) (at : ℕ) (some : 0 < at) where
  pub chain_refused : record_ok s j at ≡ false → chain_ok s j at at ≡ false
  chain_refused e = chain_step s j at (λ z. omega arith) ∙ rw e

  pub chain_still : at ≤ index_before j at → chain_ok s j at at ≡ false
  chain_still l = chain_step s j at (λ z. omega arith) ∙ and_off (record_ok s j at) _ (rw (le-ltb (index_before j at) at l))

  pub chain_next : record_ok s j at ≡ true → index_before j at < at → chain_ok s j (index_before j at) (index_before j at) ≡ chain_ok s j at at
  chain_next e l = sym (chain_step s j at (λ z. omega arith) ∙ rw (e, lt-ltb (index_before j at) at l))

-- a record lies within the words
pub record_inside : (s : Settings) (j : List ℕ) (at : ℕ) → record_ok s j at ≡ true → at + 6 ≤ length j
record_inside s j at e = omega (arith, (record_facts s j at e).end)

-- ---- the journal

pub journal_empty : (s : Settings) (j : List ℕ) → length j < 1 → journal_ok s j ≡ false
unfolding journal_ok
journal_empty s j l = rw (le-ltb 0 (length j) (omega arith))

pub journal_some : (s : Settings) (j : List ℕ) → 1 ≤ length j → chain_ok s j (newest j) (newest j) ≡ journal_ok s j
unfolding journal_ok
journal_some s j l = rw (lt-ltb 0 (length j) (omega arith))

pub newest_end : (j : List ℕ) → (newest j ≡ 0 → ⊥) → next_index j ≤ length j → record_end j (newest j) ≤ length j
newest_end j ne h = rw (next_after j ne) at h

-- ---- 13, 11, 12

module _ (s : Settings) (b : Block) (j : List ℕ) where
  pub saving_journal : journal_ok s j ≡ false → 13 ≡ saving_then s b j 0
  unfolding saving_then
  saving_journal e = rw e

  pub saving_full : journal_ok s j ≡ true → room_ok b j ≡ false → 11 ≡ saving_then s b j 0
  unfolding saving_then
  saving_full e f = rw (e, f)

  pub saving_none : journal_ok s j ≡ true → room_ok b j ≡ true → 0 ≡ saving_then s b j 0
  unfolding saving_then
  saving_none e f = rw (e, f)

module _ (s : Settings) (j : List ℕ) where
  pub taking_journal : journal_ok s j ≡ false → 13 ≡ taking_then s j 0
  unfolding taking_then
  taking_journal e = rw e

  pub taking_nothing : journal_ok s j ≡ true → newest j ≡ 0 → 12 ≡ taking_then s j 0
  unfolding taking_then
  taking_nothing e z = rw (e, eq-eqb (newest j) 0 z)

  pub taking_none : journal_ok s j ≡ true → (newest j ≡ 0 → ⊥) → 0 ≡ taking_then s j 0
  unfolding taking_then
  taking_none e ne = rw (e, ne_eqb (newest j) 0 ne)

-- products of a block's numbers
pub product_most : (m n : ℕ) → m ≤ 4096 → n ≤ 4096 → m * n ≤ 16777216
product_most m n h k = mul-le-mul h k
