-- What CHECK's walk over rows and columns finds, and the report that it gives.
use Rattle.std.specs.Prelude.{ℕ, ◌/◌, ◌%◌, ◌≡◌, cond, List, ltb, eqb, Option, Some, None}
use Rattle.model.specs.declared.Tear.{Tear}
use Rattle.model.specs.declared.Settings.{Settings}
use Rattle.model.specs.declared.Report.{Report}
use Rattle.model.specs.declared.Report.TheVariants.{Sound, Difference, Total}
use Rattle.model.specs.Planes.{Pictures, Depths, Held, area}
use Rattle.model.specs.Fresh.{fresh, fresh_total}
use Rattle.model.specs.Reports.{first_difference}
use Rattle.scan.specs.declared.Place.{Place}
use Rattle.scan.specs.declared.Found.{Found}

-- the settings that a drawing looks at: all but the total
abbrev pub drawing_settings : ℕ → ℕ → List ℕ → List ℕ → ℕ → ℕ → Tear → Settings
drawing_settings w h left right share tolerance tear =
    record { w = w; h = h; left = left; right = right; share = share; tolerance = tolerance; tear = tear; total = 0 }

-- a position by its two numbers
abbrev pub place : ℕ → ℕ → Place
place row column = record { row = row; column = column }

-- the place of entry k of n entries in rows of w, or none
unfoldable pub place_of : ℕ → ℕ → ℕ → Option Place
place_of w n k = cond (ltb k n) (Some (place (k / w) (k % w))) None

-- a walk stops at the first difference by rows; where there is none it has summed the fresh total
pub record Walked (s : Settings) (p : Pictures) (d : Depths) (h : Held) (r : Found) : Type 0 where
  pub place_is : r.place ≡ place_of s.w (area s) (first_difference s h (fresh s p d))
  pub sum_is : r.place ≡ None → r.sum ≡ fresh_total s p d

-- the report of a walk
abbrev pub verdict_of : Option Place → ℕ → ℕ → Report
verdict_of (Some p) sum total = Difference p.row p.column
verdict_of None sum total = cond (eqb total sum) Sound Total
