-- The tests of RENDER over numbers are the model's, and what they show where none applies.
use Prim.Native.Nat.{ℕ, ◌≤◌}
use mathlib.Core.Path.{◌≡◌, refl}
use mathlib.Core.Bool.{true, ◌&&◌}
use mathlib.Core.List.{List}
use lib.ListN.{length}
use lib.Dec.{eqb}
use borrow.Author.Tests.{eqb-true, leb-true}
use Rattle.model.specs.declared.Tear.{Tear}
use Rattle.model.specs.declared.Settings.{Settings}
use Rattle.model.specs.Marks.{mark_bytes}
use Rattle.model.specs.Planes.{Strip}
use Rattle.model.specs.Refusals.{side_ok, table_ok, tear_ok, tables_ok, view_ok, strip_sized, render_number}
use Rattle.model.proofs.Choice.{and_left, and_right}
use Rattle.model.proofs.Refusals.{unless_true, unless_rest, Side, side_facts}
use Rattle.lists.specs.Numbers.{strip_fits, strip_number}

pub strip_number_lem : (s : Settings) (v : ℕ) (texture depths : List ℕ) (x : Strip) → strip_number s.w s.left s.right s.tear v (length texture) (length depths) (length x.samples) (length x.marks) (length x.fronts) ≡ render_number s v texture depths x
unfolding strip_number strip_fits render_number strip_sized tables_ok
strip_number_lem s v texture depths x = refl

-- the planes' lengths
pub record StripSized (w texture depths samples marks fronts : ℕ) : Type 0 where
  pub texture_is : texture ≡ w
  pub depths_is : depths ≡ w
  pub samples_is : samples ≡ w
  pub marks_is : marks ≡ mark_bytes w
  pub fronts_is : fronts ≡ w

pub strip_facts : (w texture depths samples marks fronts : ℕ) → strip_fits w texture depths samples marks fronts ≡ true → StripSized w texture depths samples marks fronts
unfolding strip_fits
strip_facts w texture depths samples marks fronts h =
    let a = and_left (eqb texture w && eqb depths w) _ h in
    let b = and_right (eqb texture w && eqb depths w) _ h in
    let c = and_right (eqb samples w) _ b in
    record {
      texture_is = eqb-true _ _ (and_left (eqb texture w) _ a);
      depths_is = eqb-true _ _ (and_right (eqb texture w) _ a);
      samples_is = eqb-true _ _ (and_left (eqb samples w) _ b);
      marks_is = eqb-true _ _ (and_left (eqb marks (mark_bytes w)) _ c);
      fronts_is = eqb-true _ _ (and_right (eqb marks (mark_bytes w)) _ c);
    }

-- what the tests show where none applies
pub record Accepted (w : ℕ) (left right : List ℕ) (tear : Tear) (view texture depths samples marks fronts : ℕ) : Type 0 where
  pub side : Side w
  pub sized : StripSized w texture depths samples marks fronts
  pub left_table : table_ok left ≡ true
  pub right_table : table_ok right ≡ true
  pub view_most : view ≤ 1

pub accepted : (w : ℕ) (left right : List ℕ) (tear : Tear) (view texture depths samples marks fronts : ℕ) → strip_number w left right tear view texture depths samples marks fronts ≡ 0 → Accepted w left right tear view texture depths samples marks fronts
unfolding strip_number
accepted w left right tear view texture depths samples marks fronts h =
    let sized = strip_fits w texture depths samples marks fronts in
    let tables = table_ok left && table_ok right in
    let h₁ = unless_rest (side_ok w) 0 _ h in
    let h₂ = unless_rest sized 1 _ h₁ in
    let h₃ = unless_rest tables 2 _ h₂ in
    let h₄ = unless_rest (tear_ok tear) 19 _ h₃ in
    record {
      side = side_facts w (unless_true (side_ok w) 0 _ h);
      sized = strip_facts w texture depths samples marks fronts (unless_true sized 1 _ h₁);
      left_table = and_left (table_ok left) _ (unless_true tables 2 _ h₂);
      right_table = and_right (table_ok left) _ (unless_true tables 2 _ h₂);
      view_most = leb-true view 1 (unless_true (view_ok view) 5 _ h₄);
    }
