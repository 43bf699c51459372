use Rattle.std.proofs.Common.{◌≡◌, ◌*◌, ◌≤◌, length}
use Rattle.model.specs.Lists.{sum_to}
use Rattle.model.specs.Row.{sample_in}
use Rattle.model.specs.Combined.{worst, square_error}
use Rattle.sums.proofs.row_error.Given as goal

abbrev pub invariant-loop-sample : goal.invariant-loop-sample
invariant-loop-sample l =
    let n = length l.yielded in
    (l.sum ≤ worst * n) × (l.sum ≡ sum_to (λ k. square_error (sample_in l.combined k) (sample_in l.reference k)) n)
