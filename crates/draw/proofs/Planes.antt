-- Planes drawn row by row are the fresh drawing.
--     row_drawn         row y of planes that got their drawn rows back
--     view_whole        all rows drawn: the planes of the fresh drawing
use Prim.Native.Nat.{ℕ, ◌+◌, ◌-◌, ◌*◌, ◌≤◌}
use mathlib.Core.Path.{◌≡◌, sym, ap, ◌∙◌}
use mathlib.Core.Bool.{Bool}
use mathlib.Core.List.{List, ◌++◌}
use native.Mathlib.Nat.{mul_comm}
use lib.ListN.{length, take, drop}
use lib.IntN.{ℤ, pos}
use Rattle.model.specs.declared.Tear.{Tear}
use Rattle.model.specs.declared.Settings.{Settings}
use Rattle.model.specs.Lists.{row_of}
use Rattle.model.specs.Row.{line}
use Rattle.model.specs.Views.{view_row}
use Rattle.model.specs.Marks.{mark_bytes, pack_row}
use Rattle.model.specs.Planes.{Pictures, Depths, View, view, table_of, texture_of, depths_of}
use Rattle.model.specs.Fresh.{fresh_row, fresh_view}
use Rattle.model.proofs.Lists.{plane_ext}
use Rattle.model.proofs.Fresh.{DepthsSized, row_fresh_samples, row_fresh_fronts, row_fresh_limits, row_fresh_marks, length-fresh_samples, length-fresh_fronts, length-fresh_limits, length-fresh_marks}
use Rattle.planes.specs.Parts.{splice}
use Rattle.planes.proofs.Splices.{row_whole, row_other_whole, put_back, part_row, part_length}
use Rattle.planes.proofs.Views.{view_same}
use Rattle.row.specs.Drawing.{Drawn}
use Rattle.draw.specs.Drawn.{drawn_row, PlanesIn, PlanesOf, RowDrawn, ViewDrawn}

-- a plane that got row y back
module _ {A : Type 0} (z : A) (p : List A) (w y : ℕ) (ys : List A) (fits : y * w + w ≤ length p) (wide : length ys ≡ w) where
  abbrev back : List A
  back = take (y * w) p ++ (ys ++ drop (y * w + w - y * w) (drop (y * w) p))

  is_splice : back ≡ splice p (y * w) ys
  is_splice = put_back p ys (y * w) w wide

  pub back_row : row_of back w y ≡ ys
  back_row = ap (λ (l : List A). row_of l w y) is_splice ∙ row_whole z p w y ys fits wide

  pub back_other : (k : ℕ) → (k ≡ y → ⊥) → row_of back w k ≡ row_of p w k
  back_other k ne = ap (λ (l : List A). row_of l w k) is_splice ∙ row_other_whole z p w y k ys fits wide ne

-- the part of a plane that is row y, as it is lent
abbrev pub part : {A : Type 0} → List A → ℕ → ℕ → List A
part p w y = take (y * w + w - y * w) (drop (y * w) p)

-- four planes that got row y back
pub row_drawn :
    (tear : Tear) (right : Bool) (t : List ℕ) (w y : ℕ) (texture depths : List ℕ) (v : View) (s f : List ℕ) (e : List ℤ) (m : List ℕ) →
    PlanesIn w y texture depths v → length s ≡ length (part v.samples w y) → length f ≡ length (part v.fronts w y) → length e ≡ length (part v.limits w y) → length m ≡ length (part v.marks (mark_bytes w) y) →
    view s f e m ≡ drawn_row tear right t w texture depths y →
    RowDrawn tear right t w y texture depths v
    (view (take (y * w) v.samples ++ (s ++ drop (y * w + w - y * w) (drop (y * w) v.samples)))
    (take (y * w) v.fronts ++ (f ++ drop (y * w + w - y * w) (drop (y * w) v.fronts)))
    (take (y * w) v.limits ++ (e ++ drop (y * w + w - y * w) (drop (y * w) v.limits)))
    (take (y * mark_bytes w) v.marks ++ (m ++ drop (y * mark_bytes w + mark_bytes w - y * mark_bytes w) (drop (y * mark_bytes w) v.marks))))
row_drawn tear right t w y texture depths v s f e m p as-s as-f as-e as-m same =
    let ls = as-s ∙ part_length v.samples (y * w) w p.samples_in in
    let lf = as-f ∙ part_length v.fronts (y * w) w p.fronts_in in
    let le = as-e ∙ part_length v.limits (y * w) w p.limits_in in
    let lm = as-m ∙ part_length v.marks (y * mark_bytes w) (mark_bytes w) p.marks_in in
    record {
      drawn =
          rw (back_row 0 v.samples w y s p.samples_in ls, back_row 0 v.fronts w y f p.fronts_in lf, back_row (pos 0) v.limits w y e p.limits_in le, back_row 0 v.marks (mark_bytes w) y m p.marks_in lm)
          same;
      others = λ k ne.
          rw (back_other 0 v.samples w y s p.samples_in ls k ne, back_other 0 v.fronts w y f p.fronts_in lf k ne, back_other (pos 0) v.limits w y e p.limits_in le k ne, back_other 0 v.marks (mark_bytes w) y m p.marks_in lm k ne);
    }

-- what was drawn from the parts is row y
pub parts_drawn :
    (tear : Tear) (right : Bool) (t : List ℕ) (w y : ℕ) (texture depths s f g : List ℕ) (e : List ℤ) (m : List ℕ) →
    Drawn (view_row right (line tear t (part texture w y) (part depths w y))) s f g e → length g ≡ w → m ≡ pack_row (mark_bytes (length g)) g →
    view s f e m ≡ drawn_row tear right t w texture depths y
unfolding drawn_row
parts_drawn tear right t w y texture depths s f g e m d l k =
    let ms : m ≡ pack_row (mark_bytes w) (view_row right (line tear t (part texture w y) (part depths w y))).marks =
    k ∙ ap (λ (n : ℕ). pack_row (mark_bytes n) g) l ∙ ap (pack_row (mark_bytes w)) d.shows.marks_are in
    rw (d.shows.samples_are, d.shows.fronts_are, d.limits_are, ms, part_row texture w y, part_row depths w y)

-- ---- the fresh drawing

pub view_whole :
    (s : Settings) (p : Pictures) (d : Depths) (right : Bool) (v : View) → DepthsSized s d →
    PlanesOf s.w s.h (texture_of p right) (depths_of d right) v →
    ViewDrawn s.tear right (table_of s right) s.w s.h (texture_of p right) (depths_of d right) v → v ≡ fresh_view s p d right
unfolding drawn_row fresh_row
view_whole s p d right v z o a =
    let wh = mul_comm s.w s.h in
    let bh = mul_comm (mark_bytes s.w) s.h in
    let es : v.samples ≡ (fresh_view s p d right).samples =
    plane_ext 0 s.w s.h v.samples (fresh_view s p d right).samples (o.samples_of ∙ wh) (length-fresh_samples s p d z right ∙ wh)
    (λ y h. ap (λ (q : View). q.samples) (a.rows_are y h) ∙ sym (row_fresh_samples s p d z right y h)) in
    let ef : v.fronts ≡ (fresh_view s p d right).fronts =
    plane_ext 0 s.w s.h v.fronts (fresh_view s p d right).fronts (o.fronts_of ∙ wh) (length-fresh_fronts s p d z right ∙ wh)
    (λ y h. ap (λ (q : View). q.fronts) (a.rows_are y h) ∙ sym (row_fresh_fronts s p d z right y h)) in
    let el : v.limits ≡ (fresh_view s p d right).limits =
    plane_ext (pos 0) s.w s.h v.limits (fresh_view s p d right).limits (o.limits_of ∙ wh) (length-fresh_limits s p d z right ∙ wh)
    (λ y h. ap (λ (q : View). q.limits) (a.rows_are y h) ∙ sym (row_fresh_limits s p d z right y h)) in
    let em : v.marks ≡ (fresh_view s p d right).marks =
    plane_ext 0 (mark_bytes s.w) s.h v.marks (fresh_view s p d right).marks (o.marks_there ∙ bh) (length-fresh_marks s p d z right ∙ bh)
    (λ y h. ap (λ (q : View). q.marks) (a.rows_are y h) ∙ sym (row_fresh_marks s p d z right y h)) in
    view_same es ef el em
