-- The tests over lengths as plain facts.
use Prim.Native.Nat.{ℕ, ◌*◌, ◌≤◌}
use mathlib.Core.Path.{◌≡◌}
use mathlib.Core.Bool.{true}
use borrow.Author.Tests.{eq-eqb, eqb-true}
use Rattle.model.specs.Marks.{mark_bytes}
use Rattle.model.specs.Refusals.{side_ok}
use Rattle.model.proofs.Choice.{and_left, and_right}
use Rattle.model.proofs.Refusals.{side_facts}
use Rattle.validate.specs.declared.ViewLengths.{ViewLengths}
use Rattle.validate.specs.declared.Lengths.{Lengths}
use Rattle.validate.specs.Numbers.{view_fits, planes_fit}

pub side_most : (n : ℕ) → side_ok n ≡ true → n ≤ 4096
side_most n e = (side_facts n e).most

pub record ViewSized (n m : ℕ) (l : ViewLengths) : Type 0 where
  pub texture : l.texture ≡ n
  pub depths : l.depths ≡ n
  pub samples : l.samples ≡ n
  pub fronts : l.fronts ≡ n
  pub limits : l.limits ≡ n
  pub marks : l.marks ≡ m

pub view_yes : (n m : ℕ) (l : ViewLengths) → ViewSized n m l → view_fits n m l ≡ true
unfolding view_fits
view_yes n m l f =
    rw (
      eq-eqb l.texture n f.texture,
      eq-eqb l.depths n f.depths,
      eq-eqb l.samples n f.samples,
      eq-eqb l.fronts n f.fronts,
      eq-eqb l.limits n f.limits,
      eq-eqb l.marks m f.marks,
    )

pub view_facts : (n m : ℕ) (l : ViewLengths) → view_fits n m l ≡ true → ViewSized n m l
unfolding view_fits
view_facts n m l e =
    record {
      texture = eqb-true l.texture n (search (and_left, and_right));
      depths = eqb-true l.depths n (search (and_left, and_right));
      samples = eqb-true l.samples n (search (and_left, and_right));
      fronts = eqb-true l.fronts n (search (and_left, and_right));
      limits = eqb-true l.limits n (search (and_left, and_right));
      marks = eqb-true l.marks m (search (and_left, and_right));
    }

pub record PlanesSized (w h : ℕ) (l : Lengths) : Type 0 where
  pub left : ViewSized (w * h) (mark_bytes w * h) l.left
  pub right : ViewSized (w * h) (mark_bytes w * h) l.right
  pub reference : l.reference ≡ w * h
  pub combined : l.combined ≡ w * h

pub planes_yes : (w h : ℕ) (l : Lengths) → PlanesSized w h l → planes_fit w h l ≡ true
unfolding planes_fit
planes_yes w h l f =
    rw (
      view_yes (w * h) (mark_bytes w * h) l.left f.left,
      view_yes (w * h) (mark_bytes w * h) l.right f.right,
      eq-eqb l.reference (w * h) f.reference,
      eq-eqb l.combined (w * h) f.combined,
    )

pub planes_facts : (w h : ℕ) (l : Lengths) → planes_fit w h l ≡ true → PlanesSized w h l
unfolding planes_fit
planes_facts w h l e =
    record {
      left = view_facts (w * h) (mark_bytes w * h) l.left (search (and_left, and_right));
      right = view_facts (w * h) (mark_bytes w * h) l.right (search (and_left, and_right));
      reference = eqb-true l.reference (w * h) (search (and_left, and_right));
      combined = eqb-true l.combined (w * h) (search (and_left, and_right));
    }
