-- The refusals of document 01 over numbers: of a plane they look at its length alone. proofs/Numbers shows that they are the model's.
use Rattle.std.specs.Prelude.{ℕ, ◌*◌, Bool, ◌&&◌, List, [], leb, eqb}
use Rattle.model.specs.declared.Tear.{Tear}
use Rattle.model.specs.declared.Settings.{Settings}
use Rattle.model.specs.declared.Block.{Block}
use Rattle.model.specs.Marks.{mark_bytes}
use Rattle.model.specs.Refusals.{unless, side_ok, table_ok, tear_ok, block_ok, view_ok}
use Rattle.validate.specs.declared.ViewLengths.{ViewLengths}
use Rattle.validate.specs.declared.Lengths.{Lengths}

-- every plane of a view has its length: n entries, and m bytes of marks
unfoldable pub view_fits : ℕ → ℕ → ViewLengths → Bool
view_fits n m l =
    (eqb l.texture n && eqb l.depths n)
    && (eqb l.samples n && (eqb l.fronts n && (eqb l.limits n && eqb l.marks m)))

-- 2: every plane of a session of w columns by h rows has its length
unfoldable pub planes_fit : ℕ → ℕ → Lengths → Bool
planes_fit w h l =
    (view_fits (w * h) (mark_bytes w * h) l.left && view_fits (w * h) (mark_bytes w * h) l.right)
    && (eqb l.reference (w * h) && eqb l.combined (w * h))

-- 1, 2, 3, 4, 20, then the rest
unfoldable pub common_number : ℕ → ℕ → List ℕ → List ℕ → ℕ → Tear → Lengths → ℕ → ℕ
common_number w h left right share tear l rest =
    unless (side_ok w && side_ok h) 1
    (unless (planes_fit w h l) 2 (unless (table_ok left && table_ok right) 3 (unless (leb share 64) 4 (unless (tear_ok tear) 20 rest))))

-- settings of w columns by h rows: all of the settings that 5 looks at
abbrev pub sides : ℕ → ℕ → Settings
sides w h = record { w = w; h = h; left = []; right = []; share = 0; tolerance = 0; tear = record { gap = 0; distance = 0 }; total = 0 }

-- 6, 5, then the rest
unfoldable pub own_number : ℕ → ℕ → ℕ → Block → ℕ → ℕ
own_number w h v b rest = unless (view_ok v) 6 (unless (block_ok (sides w h) b) 5 rest)
