-- The candidate that a shape and its bytes stand for.
use Rattle.std.specs.Prelude.{ℕ, cond, List, leb, eqb, length, take}
use Rattle.model.specs.declared.Split.TheVariants.{Line, Mask}
use Rattle.model.specs.declared.Candidate.{Candidate}
use Rattle.model.specs.declared.Candidate.TheVariants.{Full, Flat, Regions}
use Rattle.shape.specs.declared.Shape.{Shape}

-- Kind 0 is a full block, 1 one value, 2 a line, 3 a mask. A kind that is none of these is a full block that is lent no depths: 7 applies, since every
-- block that 5 lets pass has positions.
unfoldable pub candidate_of : Shape → Candidate
candidate_of x =
    cond (eqb x.kind 1) (Flat x.value0)
    (cond (eqb x.kind 2)
    (Regions x.value0 x.value1 (Line (record { column = x.startColumn; row = x.startRow }) (record { column = x.endColumn; row = x.endRow })))
    (cond (eqb x.kind 3) (Regions x.value0 x.value1 Mask) Full))

abbrev pub lent_of : ℕ → ℕ → ℕ
lent_of kind n = cond (leb kind 3) n 0

unfoldable pub bytes_of : Shape → List ℕ → List ℕ
bytes_of x bytes = take (lent_of x.kind (length bytes)) bytes
