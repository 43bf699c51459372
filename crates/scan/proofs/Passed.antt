-- The walk so far: no difference before column x of row y, and the squared errors of the positions before it summed.
--     passed_none, passed_next, passed_row     a step of the walk
--     walked_all, walked_at                    what it has found where it ends, or stops
--     drawn_next, drawn_at                     a step, and the stop, by what the drawn rows show
use Prim.Native.Nat.{ℕ, ◌+◌, ◌*◌, ◌/◌, ◌%◌, ◌<◌, ◌≤◌}
use mathlib.Core.Path.{◌≡◌, refl, sym, ◌∙◌}
use mathlib.Core.Bool.{Bool, true, false}
use Rattle.std.specs.Prelude.{Option, Some, None}
use native.Mathlib.Omega.{arith}
use native.Mathlib.Nat.{zero-mul, add-zero, add-suc, suc-mul, mul_comm}
use native.Mathlib.Numerals.{add-one}
use lib.Arith.{digits_div, digits_mod}
use borrow.Author.Tests.{lt-ltb, le-ltb}
use Rattle.model.specs.declared.Settings.{Settings}
use Rattle.model.specs.Lists.{sum_to}
use Rattle.model.specs.Combined.{worst, combined_of, square_error}
use Rattle.model.specs.Row.{sample_in}
use Rattle.model.specs.Planes.{Pictures, Depths, View, Held, area}
use Rattle.model.specs.Fresh.{fresh}
use Rattle.model.specs.Reports.{same_at, first_bad, first_difference}
use Rattle.model.proofs.Lists.{entry_fits}
use Rattle.model.proofs.Totals.{error_at, total_rows}
use Rattle.model.proofs.Reports.{first_more, first_found}
use Rattle.marks.specs.Puts.{held_pixel}
use Rattle.compare.specs.Agree.{all_agree}
use Rattle.scan.specs.declared.Place.{Place}
use Rattle.scan.specs.declared.Found.{Found}
use Rattle.scan.specs.Walks.{place, place_of, Walked}
use Rattle.scan.proofs.Tested.{Tested}
use Rattle.scan.proofs.Drawing.{DrawnIs, Seen, seen_at, error_is}

-- the test at entry k, in row order
abbrev test_at : Settings → Pictures → Depths → Held → ℕ → Bool
test_at s p d h k = same_at s.w h (fresh s p d) (k / s.w) (k % s.w)

test_here : (s : Settings) (p : Pictures) (d : Depths) (h : Held) (y x : ℕ) → x < s.w → test_at s p d h (y * s.w + x) ≡ same_at s.w h (fresh s p d) y x
test_here s p d h y x l = rw (digits_div y l, digits_mod y l)

-- the squared errors of row y
abbrev row_error : Settings → Pictures → Depths → ℕ → ℕ
row_error s p d y = sum_to (error_at s p d y) s.w

pub record Passed (s : Settings) (p : Pictures) (d : Depths) (h : Held) (y x sum : ℕ) : Type 0 where
  pub same : first_bad (test_at s p d h) (y * s.w + x) ≡ y * s.w + x
  pub sum_is : sum ≡ sum_to (row_error s p d) y + sum_to (error_at s p d y) x
  pub most : sum ≤ worst * (y * s.w + x)

-- what a walk answers
abbrev pub found : Option Place → ℕ → Found
found place sum = record { place = place; sum = sum }

module _ {s : Settings} {p : Pictures} {d : Depths} {h : Held} where
  pub passed_none : Passed s p d h 0 0 0
  unfolding first_bad sum_to
  passed_none = record { same = rw (zero-mul s.w); sum_is = refl; most = omega arith }

  pub passed_row : (y x sum : ℕ) → x ≡ s.w → Passed s p d h y x sum → Passed s p d h (y + 1) 0 sum
  unfolding sum_to
  passed_row y x sum q b =
      let a : Passed s p d h y s.w sum = rw q at b in
      let e : (y + 1) * s.w + 0 ≡ y * s.w + s.w = rw (add-one y, suc-mul y s.w) (omega arith) in
      record {
        same = rw e a.same;
        sum_is = rw (add-one y) (omega (arith, a.sum_is));
        most = rw e a.most;
      }

  pub walked_all : (place : Option Place) (sum y : ℕ) → place ≡ None → y ≡ s.h → Passed s p d h y 0 sum → Walked s p d h (found place sum)
  unfolding place_of first_difference sum_to
  walked_all place sum y n q b =
      let a : Passed s p d h s.h 0 sum = rw q at b in
      let e : s.h * s.w + 0 ≡ area s = omega (arith, mul_comm s.h s.w) in
      let f : first_bad (test_at s p d h) (area s) ≡ area s = rw e at a.same in
      record {
        place_is = n ∙ sym (rw (f, le-ltb (area s) (area s) (omega arith)));
        sum_is = λ _. a.sum_is ∙ add-zero _ ∙ sym (total_rows s p d);
      }

  pub passed_next : (y x sum e : ℕ) → x < s.w → Passed s p d h y x sum → same_at s.w h (fresh s p d) y x ≡ true → e ≡ error_at s p d y x → e ≤ worst → Passed s p d h y (x + 1) (sum + e)
  unfolding sum_to
  passed_next y x sum e l a t q m =
      record {
        same = rw (add-one x, add-suc (y * s.w) x) (first_more (test_at s p d h) (y * s.w + x) a.same (test_here s p d h y x l ∙ t));
        sum_is = rw (add-one x) (omega (arith, a.sum_is, q));
        most = omega (arith, a.most, m);
      }

  pub walked_at : (y x sum : ℕ) → y < s.h → x < s.w → Passed s p d h y x sum → same_at s.w h (fresh s p d) y x ≡ false → Walked s p d h (found (Some (place y x)) sum)
  unfolding place_of first_difference
  walked_at y x sum ly lx a t =
      let k : ℕ = y * s.w + x in
      let l : k < area s = omega (arith, entry_fits s.w s.h y x ly lx, mul_comm s.h s.w) in
      let f : first_bad (test_at s p d h) (area s) ≡ k = first_found (test_at s p d h) k (area s) a.same (test_here s p d h y x lx ∙ t) l in
      record {
        place_is = sym (rw (f, lt-ltb k (area s) l, digits_div y lx, digits_mod y lx));
        sum_is = λ q. cc;
      }

  -- column x of row y, of which both views have been drawn: its combined sample is made of what the rows show, and compared with what is held
  module _ {y x sum shown : ℕ} {same : Bool} (v0 v1 : View) (a : Passed s p d h y x sum) (tested : Tested s p d h) (ly : y < s.h) (lx : x < s.w) (is0 : DrawnIs s p d false y v0) (is1 : DrawnIs s p d true y v1)
      (made : shown ≡ combined_of s.share s.tolerance (held_pixel v0.samples v0.fronts v0.marks x) (held_pixel v1.samples v1.fronts v1.marks x)) (compared : same ≡ all_agree s.w h v0 v1 shown y x) where
    seen : Seen s p d h y x shown same
    seen = seen_at s p d h y x shown same v0 v1 tested.common.depths ly lx is0 is1 made compared

    pub drawn_next : {r e : ℕ} → same ≡ true → (r ≡ square_error shown (sample_in p.reference (y * s.w + x))) × (r ≤ worst) → e ≡ r → Passed s p d h y (x + 1) (sum + e)
    drawn_next {r} t f q = passed_next y x sum _ lx a (sym seen.same_is ∙ t) (q ∙ error_is s p d y x shown r seen.shown_is f.0) (omega (arith, f.1, q))

    pub drawn_at : same ≡ false → Walked s p d h (found (Some (place y x)) sum)
    drawn_at t = walked_at y x sum ly lx a (sym seen.same_is ∙ t)
