use native.Mathlib.Omega.{arith}
use Rattle.model.specs.Row.{read}
use Rattle.model.proofs.read.Goals as goal

-- an entry below the greatest sample
pub returns-then-entry-lt1023 : goal.returns-then-entry-lt1023
unfolding read
returns-then-entry-lt1023 c = (omega arith, omega arith)

-- any other
pub returns-else-entry-lt1023 : goal.returns-else-entry-lt1023
unfolding read
returns-else-entry-lt1023 c = (omega arith, omega arith)
