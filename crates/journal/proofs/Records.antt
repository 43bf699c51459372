-- What a SET saves in the journal.
--     row_saved, rows_all     the depths that stand in a block, row by row
--     row_facts               where a row of the block lies
--     saved_is                the record put into its place, and then word 0
use Prim.Native.Nat.{ℕ, ◌+◌, ◌-◌, ◌*◌, ◌/◌, ◌%◌, ◌<◌, ◌≤◌}
use mathlib.Core.Path.{◌≡◌, ap, ◌∙◌}
use mathlib.Core.Bool.{true, cond, ◌&&◌}
use mathlib.Core.Logic.{⊎_elim}
use mathlib.Core.List.{List, ◌++◌}
use native.Mathlib.Omega.{arith}
use native.Mathlib.Nat.{mul_comm}
use lib.Arith.{digits_div, digits_mod}
use lib.Dec.{leb, ltb, eqb}
use lib.ListN.{length, get_or, set, take, drop, length-set}
use lib.Seq.{get_or-take, get_or-drop, get_or-set_same, get_or-set_other}
use borrow.Author.Tests.{le-leb, lt-leb, lt-ltb, le-ltb, eqb-true, eqb-false}
use Rattle.model.specs.declared.Block.{Block}
use Rattle.model.specs.Blocks.{block_depths}
use Rattle.model.specs.Candidates.{positions}
use Rattle.model.specs.Journals.{word_at, newest, record_size, next_index, record_of, saved}
use Rattle.model.specs.Refusals.{room_ok}
use Rattle.model.proofs.Choice.{bool_cases, lt_or_le}
use Rattle.model.proofs.Lists.{list_of_lem, rows_apart}
use Rattle.model.proofs.Refusals.{room_end}
use Rattle.model.proofs.Journals.{next_some}
use Rattle.planes.specs.Parts.{splice, Filled}
use Rattle.planes.proofs.Splices.{length-splice, splice_under, splice_inside, splice_beyond, part_length}
use Rattle.planes.proofs.Fills.{filled_splice, filled_more, filled_all}
use Rattle.journal.specs.Words.{InPlane}
use Rattle.chain.proofs.Chains.{product_most}

-- ---- the depths that stand in a block

module _ (w : ℕ) (b : Block) (plane : List ℕ) where
  -- depth k of the block, in row order
  abbrev pub standing : ℕ → ℕ
  standing k = get_or plane ((b.row + k / b.width) * w + (b.column + k % b.width)) 0

  -- row y of the block, put into its place after the rows before it
  pub row_saved : (y : ℕ) (x words : List ℕ) → Filled 0 standing 0 (y * b.width) x words → y * b.width + b.width ≤ length words → (b.row + y) * w + b.column + b.width ≤ length plane → (ys : List ℕ) → ys ≡ take ((b.row + y) * w + b.column + b.width - ((b.row + y) * w + b.column)) (drop ((b.row + y) * w + b.column) plane) → Filled 0 standing 0 ((y + 1) * b.width) x (splice words (y * b.width) ys)
  row_saved y x words f fits inside ys e =
      let long : length ys ≡ b.width = ap length e ∙ part_length plane ((b.row + y) * w + b.column) b.width inside in
      let more = filled_splice 0 standing (y * b.width) words ys (omega arith)
      (λ i k.
      let near : i < b.width = omega arith in
      let here : (b.row + y) * w + b.column + b.width - ((b.row + y) * w + b.column) ≡ b.width = omega arith in
      let at : (b.row + y) * w + b.column + i ≡ (b.row + y) * w + (b.column + i) = omega arith in
      rw (e, here, get_or-take b.width (drop ((b.row + y) * w + b.column) plane) i 0 near, get_or-drop ((b.row + y) * w + b.column) plane i 0, digits_div y near, digits_mod y near, at)) in
      let end : y * b.width + length ys ≡ (y + 1) * b.width = omega arith in
      filled_more f (rw end at more) (omega arith) (omega arith)

  -- the block is filled row by row
  pub rows_all : (x words : List ℕ) → Filled 0 standing 0 (b.height * b.width) x words → length words ≡ b.width * b.height → words ≡ block_depths w b plane
  unfolding block_depths
  rows_all x words f l = filled_all (rw (mul_comm b.height b.width) at f) l

  -- row y of a block that lies in the plane
  pub record Row (y : ℕ) : Type 0 where
    pub low : b.row + y ≤ 4096
    pub narrow : b.column + b.width ≤ 4096
    pub start : (b.row + y) * w ≤ 16777216
    pub inside : (b.row + y) * w + b.column + b.width ≤ length plane
    pub from : y * b.width ≤ 16777216
    pub last : y * b.width + b.width ≤ b.width * b.height

  pub row_facts : (y : ℕ) → InPlane w b plane → y < b.height → Row y
  row_facts y p h =
      let apart = rows_apart w (b.row + y) (b.row + b.height) (omega arith) in
      record {
        low = omega (arith, p.high);
        narrow = omega (arith, p.right, p.wide);
        start = product_most (b.row + y) w (omega (arith, p.high)) p.wide;
        inside = omega (arith, p.right, p.below, apart);
        from = product_most y b.width (omega (arith, p.high)) (omega (arith, p.right, p.wide));
        last = omega (arith, rows_apart b.width y b.height h, mul_comm b.height b.width);
      }

-- ---- the record in its place

-- the record's words, put back
record_put : (j r : List ℕ) (n k : ℕ) → length r ≡ 6 + k → take n j ++ (r ++ drop (n + 6 + k - n) (drop n j)) ≡ splice j n r
unfolding splice
record_put j r n k l = let e : n + 6 + k - n ≡ length r = omega arith in rw e

saved_splice : (j : List ℕ) (v : ℕ) (b : Block) (old : List ℕ) → length old ≡ positions b → next_index j + record_size b ≤ length j → set (splice j (next_index j) (record_of (newest j) v b old)) 0 (next_index j) ≡ saved j v b old
unfolding saved
saved_splice j v b old l h =
    let r : List ℕ = record_of (newest j) v b old in
    let n : length r ≡ record_size b = omega arith in
    let some = next_some j in
    let fits : next_index j + length r ≤ length j = omega arith in
    let long : length (splice j (next_index j) r) ≡ length j = length-splice j (next_index j) r fits in
    list_of_lem 0
    (λ i. cond (eqb i 0) (next_index j)
    (cond (leb (next_index j) i && ltb i (next_index j + record_size b)) (get_or (record_of (newest j) v b old) (i - next_index j) 0) (word_at j i)))
    (length j) (set (splice j (next_index j) r) 0 (next_index j)) (length-set (splice j (next_index j) r) 0 (next_index j) ∙ long)
    (λ i k.
    bool_cases (eqb i 0)
    (λ t. let e : i ≡ 0 = eqb-true i 0 t in rw (t, e) (get_or-set_same (splice j (next_index j) r) 0 (next_index j) 0 (omega arith)))
    (λ t.
    get_or-set_other (splice j (next_index j) r) 0 i (next_index j) 0 (eqb-false i 0 t)
    ∙ ⊎_elim (λ u. splice_under 0 j (next_index j) r fits i u ∙ rw (t, lt-leb (next_index j) i u))
    (λ u. ⊎_elim
    (λ m.
    let e : i ≡ next_index j + (i - next_index j) = omega arith in
    ap (λ (p : ℕ). get_or (splice j (next_index j) r) p 0) e ∙ splice_inside 0 j (next_index j) r fits (i - next_index j) (omega arith)
    ∙ rw (t, le-leb (next_index j) i u, lt-ltb i (next_index j + record_size b) m))
    (λ m. splice_beyond 0 j (next_index j) r fits i (omega arith) ∙ rw (t, le-leb (next_index j) i u, le-ltb i (next_index j + record_size b) m))
    (lt_or_le i (next_index j + record_size b)))
    (lt_or_le i (next_index j))))

module _ (j : List ℕ) (v : ℕ) (b : Block) (old r : List ℕ) (n : ℕ) (room : room_ok b j ≡ true) (here : n ≡ next_index j) (all : length old ≡ positions b) (new : r ≡ record_of (newest j) v b old) where
  long : length r ≡ 6 + positions b
  long = ap length new ∙ (omega arith)

  pub saved_is : set (take n j ++ (r ++ drop (n + 6 + positions b - n) (drop n j))) 0 n ≡ saved j v b old
  saved_is = rw (record_put j r n (positions b) long, here, new) (saved_splice j v b old all (room_end b j room))
