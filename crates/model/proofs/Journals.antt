-- The journal (document 02, card 3): what its tests show, and what the words that are written leave.
--     chain_step                     a chain is sound where its record is, the next index is below, and the chain is sound from there
--     Record, record_facts, ..-yes   what a sound record is
--     journal_newest, next_inside    the newest record of a sound journal is one, and the next stands within the words or directly after them
--     journal_sides, saving_sides, taking_sides     of the settings 13, 11 and 12 look at w and h alone
--     set_newest                     word 0 set is another newest
--     word_newest, saved_word, ..    the words that are written, and those that stay
--     block_kept, depths_kept        a record whose words stay is the same record
--     saved_before, saved_view, ..   the record that a SET writes is the one it was told
use Prim.Native.Nat.{ℕ, zero, suc, ◌+◌, ◌-◌, ◌<◌, ◌≤◌}
use mathlib.Core.Path.{◌≡◌, refl, ap, sym, ◌∙◌}
use mathlib.Core.Bool.{true, cond, ◌&&◌}
use mathlib.Core.List.{List}
use mathlib.Core.Logic.{⊎_elim}
use native.Mathlib.Omega.{arith}
use lib.Dec.{leb, ltb, eqb}
use lib.ListN.{length, get_or, set, take, drop, length-set, length-take, length-drop, get_or-eq_default}
use lib.Seq.{ext_get_or, get_or-take, get_or-drop, get_or-set_same, get_or-set_other}
use borrow.Author.Tests.{le-leb, lt-leb, leb-true, lt-ltb, le-ltb, ltb-true, eq-eqb, ne_eqb, eqb-true, eqb-false}
use Rattle.model.specs.declared.Settings.{Settings}
use Rattle.model.specs.declared.Block.{Block}
use Rattle.model.specs.Candidates.{positions}
use Rattle.model.specs.Journals.{word_at, newest, index_before, record_view, record_block, record_depths, record_size, record_end, next_index, record_of, with_newest, saved}
use Rattle.model.specs.Refusals.{up_to, view_ok, block_ok, words_ok, record_ok, chain_ok, journal_ok, saving_then, taking_then}
use Rattle.model.proofs.Choice.{bool_cases, and_left, and_right, and_true, lt_or_le}
use Rattle.model.proofs.Lists.{length-list_of, get_or-list_of, list_of_lem}
use Rattle.model.proofs.Refusals.{Inside, block_facts, block_yes}

-- ---- 13

module _ (s : Settings) (j : List ℕ) where
  -- more steps than the index has room for change nothing
  enough : (n m i : ℕ) → i ≤ n → i ≤ m → chain_ok s j n i ≡ chain_ok s j m i
  unfolding chain_ok
  enough zero zero i h k = refl
  enough zero (suc m) zero h k = refl
  enough zero (suc m) (suc i) h k = absurd (omega arith)
  enough (suc n) zero zero h k = refl
  enough (suc n) zero (suc i) h k = absurd (omega arith)
  enough (suc n) (suc m) zero h k = refl
  enough (suc n) (suc m) (suc i) h k =
      bool_cases (ltb (index_before j (suc i)) (suc i))
      (λ e. let l = ltb-true (index_before j (suc i)) (suc i) e in rw (e, enough n m (index_before j (suc i)) (omega arith) (omega arith)))
      (λ e. rw e)

  pub chain_step :
      (i : ℕ) → (i ≡ 0 → ⊥) →
      chain_ok s j i i ≡ (record_ok s j i && (ltb (index_before j i) i && chain_ok s j (index_before j i) (index_before j i)))
  unfolding chain_ok
  chain_step zero ne = absurd (ne refl)
  chain_step (suc n) ne =
      bool_cases (ltb (index_before j (suc n)) (suc n))
      (λ e. let l = ltb-true (index_before j (suc n)) (suc n) e in rw (ne_eqb (suc n) 0 ne, e, enough n (index_before j (suc n)) (index_before j (suc n)) (omega arith) (omega arith)))
      (λ e. rw (ne_eqb (suc n) 0 ne, e))

  pub chain_zero : (i : ℕ) → i ≡ 0 → chain_ok s j i i ≡ true
  unfolding chain_ok
  chain_zero zero e = refl
  chain_zero (suc n) e = absurd (omega arith)

  -- what a sound record is
  pub record Record (i : ℕ) : Type 0 where
    pub end : record_end j i ≤ length j
    pub view : record_view j i ≤ 1
    pub block : Inside s (record_block j i)
    pub depths : up_to 255 (record_depths j i) ≡ true

  pub record_facts : (i : ℕ) → record_ok s j i ≡ true → Record i
  unfolding record_ok
  record_facts i e =
      let a = and_right (leb (record_end j i) (length j)) _ e in
      let b = and_right (view_ok (record_view j i)) _ a in
      record {
        end = leb-true (record_end j i) (length j) (and_left (leb (record_end j i) (length j)) _ e);
        view = leb-true (record_view j i) 1 (and_left (view_ok (record_view j i)) _ a);
        block = block_facts s (record_block j i) (and_left (block_ok s (record_block j i)) _ b);
        depths = and_right (block_ok s (record_block j i)) _ b;
      }

  pub record_yes : (i : ℕ) → Record i → record_ok s j i ≡ true
  unfolding record_ok
  record_yes i r =
      and_true _ _ (le-leb (record_end j i) (length j) r.end)
      (and_true _ _ (le-leb (record_view j i) 1 r.view) (and_true _ _ (block_yes s (record_block j i) r.block) r.depths))

  -- a journal that is not refused with 13
  pub journal_words : journal_ok s j ≡ true → 0 < length j
  unfolding journal_ok
  journal_words e = ltb-true 0 (length j) (and_left (words_ok j) _ e)

  pub journal_chain : journal_ok s j ≡ true → chain_ok s j (newest j) (newest j) ≡ true
  unfolding journal_ok
  journal_chain e = and_right (words_ok j) _ e

  pub journal_newest : journal_ok s j ≡ true → (newest j ≡ 0 → ⊥) → Record (newest j)
  journal_newest e ne = record_facts (newest j) (and_left (record_ok s j (newest j)) _ (sym (chain_step (newest j) ne) ∙ journal_chain e))

  pub journal_yes : 0 < length j → chain_ok s j (newest j) (newest j) ≡ true → journal_ok s j ≡ true
  unfolding journal_ok
  journal_yes h e = and_true _ _ (lt-ltb 0 (length j) h) e

-- the next record stands after the newest one, or after word 0
pub next_first : (j : List ℕ) → newest j ≡ 0 → next_index j ≡ 1
unfolding next_index
next_first j e = rw (eq-eqb (newest j) 0 e)

pub next_after : (j : List ℕ) → (newest j ≡ 0 → ⊥) → next_index j ≡ record_end j (newest j)
unfolding next_index
next_after j ne = rw (ne_eqb (newest j) 0 ne)

pub next_some : (j : List ℕ) → 1 ≤ next_index j
next_some j = bool_cases (eqb (newest j) 0) (λ t. rw (next_first j (eqb-true (newest j) 0 t)) (omega arith)) (λ f. rw (next_after j (eqb-false (newest j) 0 f)) (omega arith))

pub next_inside : (s : Settings) (j : List ℕ) → journal_ok s j ≡ true → next_index j ≤ length j
next_inside s j e =
    bool_cases (eqb (newest j) 0) (λ t. rw (next_first j (eqb-true (newest j) 0 t)) (journal_words s j e))
    (λ f. let ne = eqb-false (newest j) 0 f in rw (next_after j ne) (journal_newest s j e ne).end)

-- of the settings the tests look at w and h alone
chain_sides : (s t : Settings) (j : List ℕ) → s.w ≡ t.w → s.h ≡ t.h → (n i : ℕ) → chain_ok s j n i ≡ chain_ok t j n i
unfolding chain_ok record_ok block_ok
chain_sides s t j e f zero i = refl
chain_sides s t j e f (suc n) i = rw (chain_sides s t j e f n (index_before j i), e, f)

pub journal_sides : (s t : Settings) (j : List ℕ) → s.w ≡ t.w → s.h ≡ t.h → journal_ok s j ≡ journal_ok t j
unfolding journal_ok
journal_sides s t j e f = rw (chain_sides s t j e f (newest j) (newest j))

pub saving_sides : (s t : Settings) (b : Block) (j : List ℕ) (rest : ℕ) → s.w ≡ t.w → s.h ≡ t.h → saving_then s b j rest ≡ saving_then t b j rest
unfolding saving_then
saving_sides s t b j rest e f = rw (journal_sides s t j e f)

pub taking_sides : (s t : Settings) (j : List ℕ) (rest : ℕ) → s.w ≡ t.w → s.h ≡ t.h → taking_then s j rest ≡ taking_then t j rest
unfolding taking_then
taking_sides s t j rest e f = rw (journal_sides s t j e f)

-- ---- the words that are written

pub length-newest : (n : ℕ) (j : List ℕ) → length (with_newest n j) ≡ length j
unfolding with_newest
length-newest n j = length-list_of _ (length j)

pub word_newest : (n : ℕ) (j : List ℕ) → 0 < length j → newest (with_newest n j) ≡ n
unfolding with_newest
word_newest n j h = get_or-list_of 0 _ (length j) 0 h

-- word 0 set
pub set_newest : (n : ℕ) (j : List ℕ) → set j 0 n ≡ with_newest n j
unfolding with_newest
set_newest n j =
    list_of_lem 0 (λ i. cond (eqb i 0) n (word_at j i)) (length j) (set j 0 n) (length-set j 0 n)
    (λ i k.
    bool_cases (eqb i 0)
    (λ t. let e : i ≡ 0 = eqb-true i 0 t in rw (t, e) (get_or-set_same j 0 n 0 (omega arith)))
    (λ f. rw f (get_or-set_other j 0 i n 0 (eqb-false i 0 f))))

-- all other words stay
pub word_kept : (n : ℕ) (j : List ℕ) (i : ℕ) → 0 < i → word_at (with_newest n j) i ≡ word_at j i
unfolding with_newest
word_kept n j i h =
    ⊎_elim
    (λ l. get_or-list_of 0 (λ i. cond (eqb i 0) n (word_at j i)) (length j) i l ∙ rw (ne_eqb i 0 (λ q. omega arith)))
    (λ l. get_or-eq_default (with_newest n j) 0 (rw (length-newest n j) l) ∙ sym (get_or-eq_default j 0 l))
    (lt_or_le i (length j))

module _ (j : List ℕ) (v : ℕ) (b : Block) (old : List ℕ) where
  abbrev rule : ℕ → ℕ
  rule i =
      cond (eqb i 0) (next_index j)
      (cond (leb (next_index j) i && ltb i (next_index j + record_size b)) (get_or (record_of (newest j) v b old) (i - next_index j) 0) (word_at j i))

  pub length-saved : length (saved j v b old) ≡ length j
  unfolding saved
  length-saved = length-list_of _ (length j)

  word : (i : ℕ) → i < length j → word_at (saved j v b old) i ≡ rule i
  unfolding saved
  word i h = get_or-list_of 0 rule (length j) i h

  pub saved_newest : 0 < length j → newest (saved j v b old) ≡ next_index j
  saved_newest h = word 0 h

  -- below the new record and beyond it all words stay
  pub saved_below : (i : ℕ) → 0 < i → i < next_index j → word_at (saved j v b old) i ≡ word_at j i
  saved_below i h k =
      ⊎_elim
      (λ l. word i l ∙ rw (ne_eqb i 0 (λ q. omega arith), lt-leb (next_index j) i k))
      (λ l. get_or-eq_default (saved j v b old) 0 (rw length-saved l) ∙ sym (get_or-eq_default j 0 l))
      (lt_or_le i (length j))

  pub saved_beyond : (i : ℕ) → next_index j + record_size b ≤ i → word_at (saved j v b old) i ≡ word_at j i
  saved_beyond i k =
      ⊎_elim
      (λ l. word i l ∙ rw (ne_eqb i 0 (λ q. omega arith), le-leb (next_index j) i (omega arith), le-ltb i (next_index j + record_size b) k))
      (λ l. get_or-eq_default (saved j v b old) 0 (rw length-saved l) ∙ sym (get_or-eq_default j 0 l))
      (lt_or_le i (length j))

  -- the new record
  pub saved_word : next_index j + record_size b ≤ length j → (k : ℕ) → k < record_size b → word_at (saved j v b old) (next_index j + k) ≡ get_or (record_of (newest j) v b old) k 0
  saved_word fits k h =
      let some = next_some j in
      let back : next_index j + k - next_index j ≡ k = omega arith in
      word (next_index j + k) (omega arith)
      ∙ rw (ne_eqb (next_index j + k) 0 (λ q. omega arith), le-leb (next_index j) (next_index j + k) (omega arith), lt-ltb (next_index j + k) (next_index j + record_size b) (omega arith), back)

  -- it is the one that SET was told
  module _ (fits : next_index j + record_size b ≤ length j) where
    pub saved_before : index_before (saved j v b old) (next_index j) ≡ newest j
    saved_before =
        let e : next_index j ≡ next_index j + 0 = omega arith in ap (λ (i : ℕ). word_at (saved j v b old) i) e ∙ saved_word fits 0 (omega arith)

    pub saved_view : record_view (saved j v b old) (next_index j) ≡ v
    saved_view = saved_word fits 1 (omega arith)

    pub saved_block : record_block (saved j v b old) (next_index j) ≡ b
    saved_block = rw (saved_word fits 2 (omega arith), saved_word fits 3 (omega arith), saved_word fits 4 (omega arith), saved_word fits 5 (omega arith))

    pub saved_depths : length old ≡ positions b → record_depths (saved j v b old) (next_index j) ≡ old
    unfolding record_depths
    saved_depths e =
        let n = saved_word fits 4 (omega arith) in
        let m = saved_word fits 5 (omega arith) in
        let k : length (drop (next_index j + 6) (saved j v b old)) ≡ length j - (next_index j + 6) =
        length-drop (next_index j + 6) (saved j v b old) ∙ ap (λ (x : ℕ). x - (next_index j + 6)) length-saved in
        let l : length (take (positions b) (drop (next_index j + 6) (saved j v b old))) ≡ positions b =
        length-take (positions b) (drop (next_index j + 6) (saved j v b old)) ∙ omega arith in
        rw (n, m)
        (ext_get_or 0 (take (positions b) (drop (next_index j + 6) (saved j v b old))) old (l ∙ sym e)
        (λ i h.
        let u : i < positions b = omega (arith, l) in
        let x : ℕ = suc (suc (suc (suc (suc (suc i))))) in
        let q : next_index j + 6 + i ≡ next_index j + x = omega arith in
        get_or-take (positions b) (drop (next_index j + 6) (saved j v b old)) i 0 u ∙ get_or-drop (next_index j + 6) (saved j v b old) i 0
        ∙ ap (λ (n : ℕ). word_at (saved j v b old) n) q ∙ saved_word fits x (omega arith)))

-- a record whose words stay is the same record
module _ (j k : List ℕ) (i : ℕ) (words : (n : ℕ) → i ≤ n → n < record_end j i → word_at k n ≡ word_at j n) where
  pub block_kept : record_block k i ≡ record_block j i
  block_kept =
      rw (words (i + 2) (omega arith) (omega arith), words (i + 3) (omega arith) (omega arith), words (i + 4) (omega arith) (omega arith), words (i + 5) (omega arith) (omega arith))

  pub depths_kept : length k ≡ length j → record_depths k i ≡ record_depths j i
  unfolding record_depths
  depths_kept e =
      let m : ℕ = positions (record_block j i) in
      let n : length (take m (drop (i + 6) k)) ≡ length (take m (drop (i + 6) j)) =
      length-take m (drop (i + 6) k) ∙ rw (length-drop (i + 6) k, e, ← length-drop (i + 6) j) (sym (length-take m (drop (i + 6) j))) in
      ap (λ (b : Block). take (positions b) (drop (i + 6) k)) block_kept
      ∙ ext_get_or 0 (take m (drop (i + 6) k)) (take m (drop (i + 6) j)) n
      (λ x h.
      let u : x < m = omega (arith, length-take m (drop (i + 6) k)) in
      get_or-take m (drop (i + 6) k) x 0 u ∙ get_or-drop (i + 6) k x 0 ∙ words (i + 6 + x) (omega arith) (omega arith)
      ∙ sym (get_or-take m (drop (i + 6) j) x 0 u ∙ get_or-drop (i + 6) j x 0))
