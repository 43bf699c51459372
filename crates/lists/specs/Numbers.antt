-- RENDER refuses 1, 2, 3, 20, then 6. Of a plane the tests look at its length alone; proofs/Strips shows that they are the model's.
use Rattle.std.specs.Prelude.{ℕ, Bool, ◌&&◌, List, eqb}
use Rattle.model.specs.declared.Tear.{Tear}
use Rattle.model.specs.Marks.{mark_bytes}
use Rattle.model.specs.Refusals.{unless, side_ok, table_ok, tear_ok, view_ok}

-- every plane of a row of w positions has its length
unfoldable pub strip_fits : ℕ → ℕ → ℕ → ℕ → ℕ → ℕ → Bool
strip_fits w texture depths samples marks fronts =
    (eqb texture w && eqb depths w) && (eqb samples w && (eqb marks (mark_bytes w) && eqb fronts w))

-- the first of 1, 2, 3, 20 and 6 that applies, 0 for none
unfoldable pub strip_number : ℕ → List ℕ → List ℕ → Tear → ℕ → ℕ → ℕ → ℕ → ℕ → ℕ → ℕ
strip_number w left right tear view texture depths samples marks fronts =
    unless (side_ok w) 1
    (unless (strip_fits w texture depths samples marks fronts) 2
    (unless (table_ok left && table_ok right) 3 (unless (tear_ok tear) 20 (unless (view_ok view) 6 0))))
