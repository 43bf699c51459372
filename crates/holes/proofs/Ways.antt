-- The ways out of HOLES: refused, or counted.
use Prim.Native.Nat.{ℕ, ◌*◌, ◌≤◌}
use mathlib.Core.Path.{◌≡◌, refl, ap, ◌∙◌}
use mathlib.Core.Bool.{cond, ◌&&◌}
use mathlib.Core.List.{List}
use lib.ListN.{length}
use lib.Dec.{eqb}
use borrow.Author.Tests.{eqb-true}
use Rattle.std.specs.Prelude.{Ok, Err}
use Rattle.model.specs.declared.Settings.{Settings}
use Rattle.model.specs.declared.Refusal.{Refusal}
use Rattle.model.specs.Marks.{mark_bytes, holes_in}
use Rattle.model.specs.Views.{is_right}
use Rattle.model.specs.Refusals.{number_of, size_ok, holes_number}
use Rattle.model.specs.Promises.{HolesPost}
use Rattle.model.proofs.Choice.{and_left, and_right}
use Rattle.model.proofs.Refusals.{some_number, unless_true, unless_rest, size_facts}
use Rattle.validate.specs.Numbers.{sides}

-- what 1 and 2 have shown
pub record Lent (w h : ℕ) (left right : List ℕ) : Type 0 where
  pub columns : w ≤ 4096
  pub rows : h ≤ 4096
  pub left_marks : length left ≡ mark_bytes w * h
  pub right_marks : length right ≡ mark_bytes w * h

pub lent : (w h v : ℕ) (left right : List ℕ) → holes_number (sides w h) v left right ≡ 0 → Lent w h left right
unfolding holes_number
lent w h v left right e =
    let m : ℕ = mark_bytes w * h in
    let e₂ = unless_rest (size_ok (sides w h)) 0 _ e in
    let size = size_facts (sides w h) (unless_true (size_ok (sides w h)) 0 _ e) in
    let both = unless_true (eqb (length left) m && eqb (length right) m) 1 _ e₂ in
    record {
      columns = size.w.most;
      rows = size.h.most;
      left_marks = eqb-true (length left) m (and_left (eqb (length left) m) (eqb (length right) m) both);
      right_marks = eqb-true (length right) m (and_right (eqb (length left) m) (eqb (length right) m) both);
    }

module _ (s : Settings) (v : ℕ) (left right : List ℕ) where
  -- 1, 2 and 6 look at nothing of the settings but the sides
  holes_number_lem : holes_number (sides s.w s.h) v left right ≡ holes_number s v left right
  unfolding holes_number size_ok
  holes_number_lem = refl

  pub refused : (r : Refusal) → number_of r ≡ holes_number (sides s.w s.h) v left right → HolesPost s v left right (Err r)
  refused r e = record { number = e ∙ holes_number_lem; count = λ z. absurd (some_number r z) }

  pub counted : (n : ℕ) → 0 ≡ holes_number (sides s.w s.h) v left right → n ≡ holes_in (cond (is_right v) right left) s.w s.h → HolesPost s v left right (Ok n)
  counted n e q = record { number = e ∙ holes_number_lem; count = λ _. ap Ok q }
