-- The rows of a candidate, one at a time, in a room for one row.
--     room_most               the room is no wider than the block
--     one_there, one_fits     what is asked before one row is made
--     row_here                what is asked before it is lent
--     row_chosen              it is then a row of the filled block
use Prim.Native.Nat.{ℕ, ◌+◌, ◌*◌, ◌<◌, ◌≤◌}
use mathlib.Core.Path.{◌≡◌, refl, sym, ap, ◌∙◌}
use mathlib.Core.List.{List}
use native.Mathlib.Omega.{arith}
use lib.ListN.{length, take}
use lib.Seq.{take-length}
use Rattle.model.specs.declared.Block.{Block}
use Rattle.model.specs.declared.Candidate.{Candidate}
use Rattle.model.specs.declared.Candidate.TheVariants.{Full, Flat, Regions}
use Rattle.model.specs.Lists.{row_of}
use Rattle.model.specs.Candidates.{filled}
use Rattle.model.specs.Refusals.{candidate_then}
use Rattle.fill.specs.Rows.{filled_row, RowThere, RowsThere, room_of, row_in, RowsMade}
use Rattle.fill.proofs.Rows.{row_filled, row_there}
use Rattle.combine.specs.Combine.{BlockIn}

pub room_most : (c : Candidate) (w : ℕ) → room_of c w ≤ w
unfolding room_of
room_most Full w = omega arith
room_most (Flat depth) w = omega arith
room_most (Regions value0 value1 split) w = omega arith

pub one_fits : (c : Candidate) (w : ℕ) (room : List ℕ) → length room ≡ room_of c w → length room ≡ room_of c (1 * w)
one_fits c w room e = let one : 1 * w ≡ w = omega arith in rw one e

-- the only row of a room
one_row : (w : ℕ) (room : List ℕ) → length room ≡ w → row_of room w 0 ≡ room
unfolding row_of
one_row w room e = let none : 0 * w ≡ 0 = omega arith in rw none (ap (λ (n : ℕ). take n room) (sym e) ∙ take-length room)

-- a row that is made is all of its room
row_alone : (w : ℕ) (c : Candidate) (x : List ℕ) (i : ℕ) (room : List ℕ) → length room ≡ room_of c w → row_in w c x i (row_of room w 0) ≡ row_in w c x i room
unfolding row_in room_of
row_alone w Full x i room e = refl
row_alone w (Flat depth) x i room e = one_row w room e
row_alone w (Regions value0 value1 split) x i room e = one_row w room e

module _ {w h : ℕ} (b : Block) (c : Candidate) (x : List ℕ) (j : ℕ) (block : BlockIn w h b (filled b c x)) (wide : w ≤ 4096) (high : h ≤ 4096) (taken : candidate_then b c (length x) 0 ≡ 0) (inside : j < b.height) where
  block_wide : b.width ≤ 4096
  block_wide = omega (arith, block.right)

  block_high : b.height ≤ 4096
  block_high = omega (arith, block.below)

  pub one_there : (RowsThere b.width c x j 1) × ((b.width ≤ 4096) × (j + 1 ≤ 4096))
  one_there = (λ k l. row_there b x (j + k) (omega arith) c block_wide block_high taken, (block_wide, omega (arith, block_high)))

  pub row_here : (RowThere b.width c x j) × ((b.width ≤ 4096) × (j ≤ 4095))
  row_here = (row_there b x j inside c block_wide block_high taken, (block_wide, omega (arith, block_high)))

pub row_chosen : (b : Block) (c : Candidate) (x : List ℕ) (j : ℕ) {room room' : List ℕ} → j < b.height → length room ≡ room_of c b.width → RowsMade b.width c x j 1 room room' → row_in b.width c x j room' ≡ row_of (filled b c x) b.width j
row_chosen b c x j {room} {room'} inside e made =
    let at : j + 0 ≡ j = omega arith in
    let first : row_in b.width c x j (row_of room' b.width 0) ≡ filled_row b.width c x j = rw at at (made.row 0 (omega arith)) in
    sym (row_alone b.width c x j room' (made.size ∙ e)) ∙ first ∙ sym (row_filled b x j inside c)
