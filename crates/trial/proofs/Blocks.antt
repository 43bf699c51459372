-- The trial of a block, row by row.
--     block_none, block_next     the sums over the first rows, and over one row more
--     block_join                 and over more rows, tried as a block of their own
--     block_most, block_small    they are at most 1,046,529 for each position of these rows
--     own_in, around_in, candidate_in     the rows lie within the planes
--     block_made                          and over rows that are made in a room
use Prim.Native.Nat.{ℕ, ◌+◌, ◌*◌, ◌<◌, ◌≤◌}
use mathlib.Core.Path.{◌≡◌, refl, ap, ◌∙◌}
use mathlib.Core.Bool.{false}
use mathlib.Core.List.{List, ◌++◌}
use native.Mathlib.Omega.{arith}
use native.Mathlib.Nat.{mul-le-mul, mul-le-mul_right}
use lib.ListN.{length, take, drop}
use Rattle.model.specs.declared.Block.{Block}
use Rattle.model.specs.declared.Candidate.{Candidate}
use Rattle.model.specs.Lists.{row_of, sum_to}
use Rattle.model.specs.Views.{seen}
use Rattle.model.specs.Marks.{mark_bytes}
use Rattle.model.specs.Combined.{worst}
use Rattle.model.specs.Candidates.{filled}
use Rattle.model.proofs.Lists.{length-row, rows_apart}
use Rattle.model.proofs.Sums.{sum_next, sum_most, sum_join, sum_same}
use Rattle.model.proofs.Views.{length_seen}
use Rattle.planes.specs.Parts.{block_of}
use Rattle.fill.specs.Rows.{is_lent, RowsMade}
use Rattle.fill.proofs.Rooms.{made_rows, front_back}
use Rattle.strips.specs.Strips.{Own, Around, covered, RowTrial}
use Rattle.trial.specs.Trial.{own_row, around_row, first_of, total_before, total_after, covered_in, BlockHeld, BlockTrial, OwnRowIn, AroundRowIn, Sized, Fits}
use Rattle.strips.proofs.Positions.{stop_within}

module _ (w : ℕ) (o : Around) (v : Own) (b : Block) (c : List ℕ) where
  pub block_none : BlockTrial w o v b c 0 0 0
  unfolding sum_to
  block_none = record { old_most = omega arith; new_most = omega arith; change = λ held. refl }

  pub block_next : {i old new x y : ℕ} → BlockTrial w o v b c i old new → i < b.height → i * b.width + b.width ≤ length c → RowTrial (around_row w o (b.row + i)) (own_row w v (b.row + i)) (row_of c b.width i) (first_of w o v b c) x y → BlockTrial w o v b c (i + 1) (old + x) (new + y)
  block_next {i} r h fits row =
      let n : length (row_of c b.width i) ≡ b.width = length-row c b.width i fits in
      record {
        old_most = omega (arith, r.old_most, row.old_most, sum_next (covered_in w o v b c) i);
        new_most = omega (arith, r.new_most, row.new_most, sum_next (covered_in w o v b c) i);
        change = λ held.
            omega (
              arith,
              r.change held,
              row.change (rw n (held i h)),
              sum_next (total_after w o v b c) i,
              sum_next (total_before w o v b c) i,
            );
      }

  covered_most : (i : ℕ) → (b.row + i) * w + w ≤ length v.depths → covered_in w o v b c i ≤ w
  unfolding covered
  covered_most i h =
      let d = row_of v.depths w (b.row + i) in
      omega (
        arith,
        stop_within v.table (seen o.right d) (seen o.right (row_of v.limits w (b.row + i))) (first_of w o v b c + length (row_of c b.width i)),
        length_seen o.right d,
        length-row v.depths w (b.row + i) h,
      )

  -- they are at most 1,046,529 for each position of these rows
  pub block_most : {n old new : ℕ} → BlockTrial w o v b c n old new → (b.row + n) * w ≤ length v.depths → (old ≤ worst * (w * n)) × (new ≤ worst * (w * n))
  block_most {n} r h =
      let m : sum_to (covered_in w o v b c) n ≤ w * n = sum_most (covered_in w o v b c) w n (λ i k. covered_most i (omega (arith, rows_apart w (b.row + i) (b.row + n) (omega arith)))) in
      (omega (arith, r.old_most), omega (arith, r.new_most))

  pub block_small : {h n old new : ℕ} → BlockTrial w o v b c n old new → Fits w h b c → length v.depths ≡ w * h → n ≤ b.height → (old ≤ worst * 16777216) × (new ≤ worst * 16777216)
  block_small {h} {n} r f e k =
      let inside : (b.row + n) * w ≤ h * w = mul-le-mul_right w (omega (arith, f.bottom)) in
      let m = block_most r (omega arith) in
      let few : n ≤ 4096 = omega (arith, f.bottom, f.high) in
      let area : w * n ≤ 4096 * 4096 = mul-le-mul f.wide few in
      (omega arith, omega arith)

-- the rows of a block from row i on, n of them
abbrev pub below : Block → ℕ → ℕ → Block
below b i n = block_of b.column (b.row + i) b.width n

-- rows that were tried as a block of their own
module _ (w : ℕ) (o : Around) (v : Own) (b : Block) (c x : List ℕ) (i n : ℕ) (inside : i + n ≤ b.height) (rows : (k : ℕ) → k < n → row_of x b.width k ≡ row_of c b.width (i + k)) where
  row_same : (k : ℕ) → b.row + i + k ≡ b.row + (i + k)
  row_same k = omega arith

  covered_same : (k : ℕ) → k < n → covered_in w o v b c (i + k) ≡ covered_in w o v (below b i n) x k
  covered_same k h = rw (row_same k, rows k h)

  after_same : (k : ℕ) → k < n → total_after w o v b c (i + k) ≡ total_after w o v (below b i n) x k
  after_same k h = rw (row_same k, rows k h)

  before_same : (k : ℕ) → k < n → total_before w o v b c (i + k) ≡ total_before w o v (below b i n) x k
  before_same k h = rw (row_same k)

  held_below : BlockHeld w o v b c → BlockHeld w o v (below b i n) x
  held_below held k h = rw (row_same k) (held (i + k) (omega arith))

  pub block_join : {old new p q : ℕ} → BlockTrial w o v b c i old new → BlockTrial w o v (below b i n) x n p q → BlockTrial w o v b c (i + n) (old + p) (new + q)
  block_join r t =
      let m = sum_join (covered_in w o v b c) i n ∙ ap (λ (s : ℕ). sum_to (covered_in w o v b c) i + s) (sum_same _ _ n covered_same) in
      record {
        old_most = omega (arith, r.old_most, t.old_most, m);
        new_most = omega (arith, r.new_most, t.new_most, m);
        change = λ held.
            omega (
              arith,
              r.change held,
              t.change (held_below held),
              sum_join (total_after w o v b c) i n,
              sum_same _ _ n after_same,
              sum_join (total_before w o v b c) i n,
              sum_same _ _ n before_same,
            );
      }

-- a row of planes that are w wide and h high
module _ {w h : ℕ} {o : Around} {v : Own} (s : Sized w h o v) (y : ℕ) (k : y < h) where
  pub own_in : OwnRowIn w y v
  own_in =
      let r = rows_apart w y h k in
      record { texture = omega (arith, s.texture); depths = omega (arith, s.depths); limits = omega (arith, s.limits) }

  pub around_in : AroundRowIn w y o
  around_in =
      let r = rows_apart w y h k in
      record {
        samples = omega (arith, s.samples);
        fronts = omega (arith, s.fronts);
        marks = omega (arith, s.marks, rows_apart (mark_bytes w) y h k);
        combined = omega (arith, s.combined);
        reference = omega (arith, s.reference);
      }

-- a row of the candidate
pub candidate_in : {w h : ℕ} {b : Block} {c : List ℕ} → Fits w h b c → (i : ℕ) → i < b.height → i * b.width + b.width ≤ length c
candidate_in {w} {h} {b} f i k = omega (arith, f.entries, rows_apart b.width i b.height k)

-- n rows that were made in the room and tried as a block of their own
module _ {w : ℕ} {o : Around} {v : Own} (b : Block) (c : Candidate) (x room ys : List ℕ) (i n : ℕ) (more : i + n ≤ b.height) (own : is_lent c ≡ false) (holds : n * b.width ≤ length room) (made : RowsMade b.width c x i n (take (n * b.width) room) ys) where
  pub block_made : {old new p q : ℕ} → BlockTrial w o v b (filled b c x) i old new → BlockTrial w o v (below b i n) (take (n * b.width) (ys ++ drop (n * b.width) room)) n p q → BlockTrial w o v b (filled b c x) (i + n) (old + p) (new + q)
  block_made r t =
      let e = (front_back room ys (n * b.width) holds made.size).1.1 in
      block_join w o v b (filled b c x) (take (n * b.width) (ys ++ drop (n * b.width) room)) i n more
      (λ k h. rw e (made_rows b c x (take (n * b.width) room) ys i n more own made k h)) r t
