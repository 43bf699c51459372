-- `trial::trial_by_rooms` meets its contract: the sums of the rows so far, each part of them tried as a block of its own (proofs/Blocks).
use Prim.Native.Nat.{ℕ, ◌+◌, ◌*◌, ◌/◌, ◌≤◌}
use mathlib.Core.Path.{◌≡◌, sym, ◌∙◌}
use native.Mathlib.Omega.{arith}
use lib.ListN.{length}
use lib.Seq.{length-take-le}
use mir.Val.{Fits}
use mir.Syntax.{w64}
use Rattle.model.specs.Candidates.{filled}
use Rattle.model.specs.Combined.{worst}
use Rattle.planes.specs.Parts.{block_of}
use Rattle.fill.proofs.Rows.{row_there}
use Rattle.fill.proofs.Rooms.{room_holds, room_made, started_part, started_back, front_back}
use Rattle.strips.specs.Strips.{around_lent, own_lent}
use Rattle.trial.specs.Trial.{BlockTrial}
use Rattle.trial.proofs.Blocks.{block_none, block_small, block_made}
use Rattle.trial.proofs.trial_by_rooms.Goals as goal
use Rattle.trial.proofs.trial_by_rooms.Goals.{After-min-n, After-trial_block-part}

-- as many rows as the room holds, of those that are left
part_in : (c : After-min-n) → (c.min-n.result * c.args.width ≤ length c.loop-done.room) × (c.loop-done.done + c.min-n.result ≤ c.args.height)
part_in c =
    let h : c.min-n.result ≤ length c.args.room.now / c.args.width = omega (arith, c.min-n.ensures) in
    (omega (arith, room_holds c.min-n.result (length c.args.room.now) c.args.width h, c.loop-done.auto.room, c.start.ensures.1), omega (arith, c.min-n.ensures, c.loop-done-test.true))

-- these rows tried too
part_tried : (c : After-trial_block-part) → (c.min-n.result * c.args.width ≤ length c.loop-done.room) × (c.loop-done.done + c.min-n.result ≤ c.args.height) → BlockTrial c.args.w (around_lent c.args.o) (own_lent c.args.v) (block_of c.args.column c.args.row c.args.width c.args.height) (filled (block_of c.args.column c.args.row c.args.width c.args.height) c.args.candidate c.args.bytes.now) (c.loop-done.done + c.min-n.result) (c.loop-done.old + c.trial_block-part.result.old) (c.loop-done.new + c.trial_block-part.result.new)
part_tried c p =
    block_made (block_of c.args.column c.args.row c.args.width c.args.height) c.args.candidate c.args.bytes.now c.loop-done.room c.fill_rows.new.room c.loop-done.done c.min-n.result p.1 c.requires.candidate_value.0 p.0 c.fill_rows.ensures c.loop-done.invariant.tried c.trial_block-part.ensures

pub loop-done-init : goal.loop-done-init
loop-done-init c = record { within = omega arith; started = c.start.ensures.0; tried = block_none c.args.w _ _ (block_of c.args.column c.args.row c.args.width c.args.height) _ }

-- and their sums fit
part_fits : (c : After-trial_block-part) → (c.min-n.result * c.args.width ≤ length c.loop-done.room) × (c.loop-done.done + c.min-n.result ≤ c.args.height) → Fits w64 (c.loop-done.old + c.trial_block-part.result.old) × Fits w64 (c.loop-done.new + c.trial_block-part.result.new)
part_fits c p =
    let m = block_small c.args.w _ _ _ _ (part_tried c p) c.requires.fits.0 c.requires.sized.depths p.1 in
    (sum_fits m.0, sum_fits m.1)
  where
    sum_fits : {n : ℕ} → n ≤ worst * 16777216 → Fits w64 n
    sum_fits h = omega arith

pub fill_rows-requires-clause-rows_there : goal.fill_rows-requires-clause-rows_there
fill_rows-requires-clause-rows_there c =
    let p = part_in (goal.at.fill_rows-requires-clause-rows_there c).After-min-n in
    let wide : c.args.width ≤ 4096 = omega (arith, c.requires.fits.0.right, c.requires.fits.0.wide) in
    let high : c.args.height ≤ 4096 = omega (arith, c.requires.fits.0.bottom, c.requires.fits.0.high) in (
      λ k h. row_there (block_of c.args.column c.args.row c.args.width c.args.height) c.args.bytes.now (c.loop-done.done + k) (omega (arith, p.1)) c.args.candidate wide high c.requires.fits.1,
      (wide, omega (arith, p.1, high)),
    )

pub fill_rows-requires-clause-room_len : goal.fill_rows-requires-clause-room_len
fill_rows-requires-clause-room_len c =
    let p = part_in (goal.at.fill_rows-requires-clause-room_len c).After-min-n in (
      length-take-le (c.min-n.result * c.args.width) c.loop-done.room p.0 ∙ sym (room_made c.args.candidate (c.min-n.result * c.args.width) c.requires.candidate_value.0),
      started_part c.args.candidate c.loop-done.room (c.min-n.result * c.args.width) p.0 c.loop-done.invariant.started,
    )

pub overflow_add-old : goal.overflow_add-old
overflow_add-old c =
    let at = goal.at.overflow_add-old c in (part_fits at.After-trial_block-part (part_in at.After-min-n)).0

pub overflow_add-new : goal.overflow_add-new
overflow_add-new c =
    let at = goal.at.overflow_add-new c in (part_fits at.After-trial_block-part (part_in at.After-min-n)).1

pub loop-done-preserved : goal.loop-done-preserved
loop-done-preserved c =
    let at = goal.at.loop-done-preserved c in
    let p = part_in at.After-min-n in
    let e = front_back c.loop-done.room c.fill_rows.new.room (c.min-n.result * c.args.width) p.0 c.fill_rows.ensures.size in
    let n : c.min-n.result ≡ length c.args.room.now / c.args.width = omega (arith, c.min-n.ensures) in
    record {
      within = omega (arith, p.1, n);
      started = started_back c.args.candidate c.loop-done.room c.fill_rows.new.room (c.min-n.result * c.args.width) p.0 e.0 c.loop-done.invariant.started c.fill_rows.ensures.started;
      tried = rw n at (part_tried at.After-trial_block-part p);
    }

pub returns-2 : goal.returns-2
returns-2 c =
    let at = goal.at.returns-2 c in
    let e : c.loop-done.done + c.min-n.result ≡ c.args.height = omega (arith, c.min-n.ensures, c.loop-done-test.true) in
    rw e at (part_tried at.After-trial_block-part (part_in at.After-min-n))
