use Rattle.std.proofs.Common.{◌≡◌, take}
use Rattle.std.specs.List.{fold}
use Rattle.ranges.proofs.join.Given as goal

abbrev pub invariant-loop-entry : goal.invariant-loop-entry
invariant-loop-entry g l =
    (or : g.row.T.Denot → g.row.T.Denot → g.row.T.Denot) → ((x y z : g.row.T.Denot) → g.T.BitOr.bitor_gives x y z → z ≡ or x y) → l.all ≡ fold or l.initial.all (take l.entry-index l.entries)
