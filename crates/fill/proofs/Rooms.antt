-- Rows that are made in a room, of which the first entries are lent.
--     room_holds, room_some         how many rows a room holds
--     room_made                     what is not lent takes its room
--     made_rows                     rows that were made are the block's rows
--     started_part, started_back    the room stays started
--     front_back                    the first entries, put back and lent again
use Prim.Native.Nat.{ℕ, ◌+◌, ◌-◌, ◌*◌, ◌/◌, ◌<◌, ◌≤◌}
use mathlib.Core.Path.{◌≡◌, sym, ap, ◌∙◌}
use mathlib.Core.Bool.{false}
use mathlib.Core.Logic.{⊎_elim}
use mathlib.Core.List.{List, ◌++◌}
use native.Mathlib.Omega.{arith}
use native.Mathlib.Nat.{mul-le-mul_right, div-mul-le_self, le-div_iff_mul-le}
use lib.ListN.{length, get_or, take, drop, length-append, length-drop, get_or-append}
use lib.Seq.{length-take-le, get_or-take, get_or-append-add, get_or-drop, take-append-le, take-length}
use Rattle.model.specs.declared.Block.{Block}
use Rattle.model.specs.declared.Candidate.{Candidate}
use Rattle.model.specs.declared.Candidate.TheVariants.{Full, Flat, Regions}
use Rattle.model.specs.Lists.{row_of}
use Rattle.model.specs.Candidates.{filled}
use Rattle.model.proofs.Choice.{lt_or_le}
use Rattle.fill.specs.Rows.{is_lent, room_of, row_in, Started, RowsMade}
use Rattle.fill.proofs.Rows.{row_filled}

-- a room of len entries holds len div w rows, and at least one
pub room_holds : (n len w : ℕ) → n ≤ len / w → n * w ≤ len
room_holds n len w h = omega (arith, mul-le-mul_right w h, div-mul-le_self len w)

pub room_some : (len w : ℕ) → 1 ≤ w → w ≤ len → 0 < len / w
room_some len w some h = (le-div_iff_mul-le some).1 (omega arith)

pub room_made : (c : Candidate) (n : ℕ) → is_lent c ≡ false → room_of c n ≡ n
unfolding room_of
room_made c n e = rw e

-- rows that were made are the block's rows
pub made_rows : (b : Block) (c : Candidate) (x room room' : List ℕ) (i n : ℕ) → i + n ≤ b.height → is_lent c ≡ false → RowsMade b.width c x i n room room' → (k : ℕ) → k < n → row_of room' b.width k ≡ row_of (filled b c x) b.width (i + k)
unfolding row_in
made_rows b c x room room' i n h e m k l = (rw e at (m.row k l)) ∙ sym (row_filled b x (i + k) (omega arith) c)

-- the room stays started where some of its first entries are put back
pub started_part : (c : Candidate) (room : List ℕ) (n : ℕ) → n ≤ length room → Started c room → Started c (take n room)
started_part Full room n h s = tt
started_part (Flat depth) room n h s = λ k l. let m : k < n = omega (arith, l, length-take-le n room h) in get_or-take n room k 0 m ∙ s k (omega arith)
started_part (Regions value0 value1 split) room n h s = tt

pub started_back : (c : Candidate) (room ys : List ℕ) (n : ℕ) → n ≤ length room → length ys ≡ n → Started c room → Started c ys → Started c (ys ++ drop n room)
started_back Full room ys n h e s t = tt
started_back (Flat depth) room ys n h e s t = λ k l.
    ⊎_elim (λ u. get_or-append ys (drop n room) 0 k u ∙ t k u)
    (λ u.
    let q : k ≡ length ys + (k - length ys) = omega arith in
    let z : n + (k - length ys) ≡ k = omega arith in
    ap (λ (j : ℕ). get_or (ys ++ drop n room) j 0) q ∙ get_or-append-add ys (drop n room) (k - length ys) 0 ∙ get_or-drop n room (k - length ys) 0
    ∙ ap (λ (j : ℕ). get_or room j 0) z ∙ s k (omega (arith, l, length-append ys (drop n room), length-drop n room)))
    (lt_or_le k (length ys))
started_back (Regions value0 value1 split) room ys n h e s t = tt

-- the first entries of a room, put back and lent again
pub front_back : (room ys : List ℕ) (n : ℕ) → n ≤ length room → length ys ≡ length (take n room) → (length ys ≡ n) × ((length (ys ++ drop n room) ≡ length room) × (take n (ys ++ drop n room) ≡ ys))
front_back room ys n h e =
    let l : length ys ≡ n = e ∙ length-take-le n room h in
    (l, (omega (arith, length-append ys (drop n room), length-drop n room), take-append-le n ys (drop n room) (omega arith) ∙ ap (λ (m : ℕ). take m ys) (sym l) ∙ take-length ys))
