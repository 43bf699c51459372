-- A row drawn whole: all its columns, and `high` the row's end.
use Prim.Native.Nat.{ℕ, ◌+◌, ◌-◌, ◌<◌, ◌≤◌}
use mathlib.Core.Path.{◌≡◌, sym, ap, ◌∙◌}
use mathlib.Core.Bool.{Bool}
use mathlib.Core.List.{List}
use native.Mathlib.Omega.{arith}
use lib.ListN.{length}
use lib.IntN.{ℤ, pos}
use Rattle.model.specs.declared.Pixel.{Pixel}
use Rattle.model.specs.declared.Tear.{Tear}
use Rattle.model.specs.Row.{Line, line, width, quarter, place, place_in, limit, signed, pixel_at, limit_at, left_row}
use Rattle.model.specs.Lists.{list_of}
use Rattle.model.specs.Views.{seen, view_row}
use Rattle.model.proofs.Owners.{limit_end}
use Rattle.model.proofs.Views.{length_seen}
use Rattle.planes.specs.Parts.{Filled, Painted}
use Rattle.planes.proofs.Fills.{filled_change}
use Rattle.planes.proofs.SeenParts.{seen_all}
use Rattle.pixel.proofs.Pairs.{next_last}
use Rattle.places.specs.Positions.{first_at}
use Rattle.row.specs.Drawing.{pixel_below, end_edge, Ready, Shows}
use Rattle.limits.specs.Limits.{limit_below, Edged}
use Rattle.limits.proofs.Below.{below_limit}
use Rattle.row.proofs.Below.{below_pixel}

-- the row as the view reads it can be drawn where the row can
pub ready_seen : (tear : Tear) (r : Bool) (t s d : List ℕ) → Ready (line tear t s d) → Ready (line tear t (seen r s) (seen r d))
ready_seen tear r t s d h =
    record {
      table = h.table;
      texture = length_seen r s ∙ h.texture ∙ sym (length_seen r d);
      some = rw (length_seen r d) h.some;
      most = rw (length_seen r d) h.most;
    }

-- the row's end is an edge right of all its columns, and all its positions lie before it
pub end_edged : (t d : List ℕ) (n : ℕ) → 0 < n → length d ≡ n → Edged t d n (end_edge n)
end_edged t d n h e =
    record {
      under = rw (next_last t d (n - 1) (omega arith), e) (omega arith);
      within = λ u. absurd (omega arith);
    }

pub end_before : (n : ℕ) → 0 + n ≤ first_at (quarter n)
end_before n = omega arith

module _ (tear : Tear) (r : Bool) (t s d : List ℕ) (w : ℕ) (some : 0 < w) (wide : length d ≡ w) where
  seen_wide : length (seen r d) ≡ w
  seen_wide = length_seen r d ∙ wide

  pixel_whole : (p : ℕ) → p < w → pixel_below (line tear t (seen r s) (seen r d)) w (end_edge w) (0 + p) ≡ pixel_at (line tear t (seen r s) (seen r d)) p
  pixel_whole p h =
      let l : Line = line tear t (seen r s) (seen r d) in
      let z : 0 + p ≡ p = omega arith in
      let e : limit (place_in l) (width l) w ≡ quarter w = rw seen_wide (limit_end (place_in l) w) in
      rw z (below_pixel l w p (end_edge w) some (omega (arith, seen_wide)) (sym e) (λ u. absurd (omega arith)) (omega arith))

  plane_whole : (g : Pixel → ℕ) {x : List ℕ} (ys : List ℕ) → length ys ≡ w → Filled 0 (λ p. g (pixel_below (line tear t (seen r s) (seen r d)) w (end_edge w) (0 + p))) 0 w x (seen r ys) → ys ≡ seen r (list_of (λ p. g (pixel_at (line tear t (seen r s) (seen r d)) p)) (length (seen r d)))
  plane_whole g ys e h =
      rw seen_wide (seen_all 0 r (λ p. g (pixel_at (line tear t (seen r s) (seen r d)) p)) w ys e (filled_change h (λ p a b. ap g (pixel_whole p b))))

  -- a row painted from its end on shows the view's row
  pub row_whole : {x y z : List ℕ} (xs ys zs : List ℕ) → length xs ≡ w → length ys ≡ w → length zs ≡ w → Painted (λ i. pixel_below (line tear t (seen r s) (seen r d)) w (end_edge w) (0 + i)) 0 w x y z (seen r xs) (seen r ys) (seen r zs) → Shows (view_row r (line tear t s d)) xs ys zs
  unfolding view_row left_row
  row_whole xs ys zs lx ly lz p =
      record {
        samples_are = plane_whole (λ q. q.sample) xs lx p.samples;
        fronts_are = plane_whole (λ q. q.front) ys ly p.fronts;
        marks_are = plane_whole (λ q. q.mark) zs lz p.marks;
      }

  -- and so do its limits
  pub limits_whole : {x : List ℤ} (es : List ℤ) → length es ≡ w → Filled (pos 0) (λ c. signed (limit_below (place t (seen r d)) (quarter w) w c)) 0 w x (seen r es) → es ≡ (view_row r (line tear t s d)).limits
  unfolding view_row left_row limit_at
  limits_whole es e h =
      let l : Line = line tear t (seen r s) (seen r d) in
      let same : (c : ℕ) → c < w → limit_below (place_in l) (quarter w) w c ≡ limit (place_in l) (width l) c =
      λ c b. rw seen_wide (rw (limit_end (place_in l) w) at (below_limit (place_in l) w w c (omega arith) (omega arith))) in
      rw seen_wide (seen_all (pos 0) r (limit_at l) w es e (filled_change h (λ c a b. ap signed (same c b))))
