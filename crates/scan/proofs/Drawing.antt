-- Rows drawn afresh, at the front of longer rows, are rows of the fresh drawing.
--     drawn_part              a row lent as planes of one row is drawn as the planes' row
--     agrees_fresh            a view compared with its drawn row is compared with the fresh view
--     shown_fresh             the combined sample of two drawn rows is the fresh one
--     all_fresh               so the comparison at a position is that of the fresh drawing
--     seen_at, error_is       what is found at a position
use Prim.Native.Nat.{ℕ, ◌+◌, ◌-◌, ◌*◌, ◌/◌, ◌%◌, ◌^◌, ◌<◌}
use mathlib.Core.Path.{◌≡◌, sym, ap, ◌∙◌}
use mathlib.Core.Bool.{Bool, true, false}
use mathlib.Core.List.{List}
use native.Mathlib.Nat.{zero-mul}
use native.Mathlib.Omega.{arith}
use lib.ListN.{get_or, take, drop}
use lib.Seq.{get_or-take, take-take}
use lib.IntN.{ℤ, pos}
use Rattle.model.specs.declared.Tear.{Tear}
use Rattle.model.specs.declared.Settings.{Settings}
use Rattle.model.specs.Lists.{row_of}
use Rattle.model.specs.Row.{read, sample_in}
use Rattle.model.specs.Marks.{mark_bytes, mark_at}
use Rattle.model.specs.Combined.{combined_of, square_error}
use Rattle.model.specs.Planes.{Pictures, Depths, View, Held, view_rows, table_of, texture_of, depths_of}
use Rattle.model.specs.Fresh.{fresh_row, fresh_view, shown_at, fresh_sample, fresh_combined, fresh}
use Rattle.model.specs.Reports.{same_view, same_at}
use Rattle.model.proofs.Lists.{get_or_row, get_or-list_of}
use Rattle.model.proofs.Fresh.{DepthsSized, row_fresh_samples, row_fresh_fronts, row_fresh_limits, row_fresh_marks, mark_fresh, row_fresh_combined}
use Rattle.model.proofs.Totals.{read_same, error_at, shown_most}
use Rattle.marks.specs.Puts.{held_pixel}
use Rattle.planes.proofs.Splices.{part_row}
use Rattle.draw.specs.Drawn.{drawn_row}
use Rattle.compare.specs.Agree.{agrees, all_agree}

-- an entry of the front of a row
front_entry : {A : Type 0} (z : A) (l : List A) (w i : ℕ) → i < w → get_or (row_of l w 0) i z ≡ get_or l i z
front_entry z l w i h = get_or_row z l w 0 i h ∙ ap (λ (n : ℕ). get_or l n z) (omega arith)

-- the front of a row is its row 0
row_front : {A : Type 0} (l : List A) (w : ℕ) → row_of l w 0 ≡ take w l
unfolding row_of
row_front l w = ap (λ (n : ℕ). take w (drop n l)) (zero-mul w)

-- row y of a plane, lent as a plane of one row
part_front : (p : List ℕ) (w y : ℕ) → row_of (take (y * w + w - y * w) (drop (y * w) p)) w 0 ≡ row_of p w y
unfolding row_of
part_front p w y =
    ap (λ (l : List ℕ). row_of l w 0) (part_row p w y) ∙ row_front (row_of p w y) w ∙ take-take w w (drop (y * w) p) (omega arith)

-- drawn from there it is the row drawn from the planes
pub drawn_part : (tear : Tear) (right : Bool) (t : List ℕ) (w : ℕ) (texture depths : List ℕ) (y : ℕ) → drawn_row tear right t w (take (y * w + w - y * w) (drop (y * w) texture)) (take (y * w + w - y * w) (drop (y * w) depths)) 0 ≡ drawn_row tear right t w texture depths y
unfolding drawn_row
drawn_part tear right t w texture depths y = rw (part_front texture w y, part_front depths w y)

-- the rows that are drawn of a view, from planes of a session
abbrev pub DrawnIs : Settings → Pictures → Depths → Bool → ℕ → View → Type 0
DrawnIs s p d right y v =
    view_rows s.w v 0 ≡ drawn_row s.tear right (table_of s right) s.w (texture_of p right) (depths_of d right) y

module _ (s : Settings) (p : Pictures) (d : Depths) (sized : DepthsSized s d) (y : ℕ) (ly : y < s.h) (x : ℕ) (lx : x < s.w) where
  module _ (right : Bool) (v : View) (is : DrawnIs s p d right y v) where
    sample_fresh : get_or v.samples x 0 ≡ get_or (fresh_view s p d right).samples (y * s.w + x) 0
    unfolding drawn_row fresh_row
    sample_fresh =
        sym (front_entry 0 v.samples s.w x lx) ∙ ap (λ (r : View). get_or r.samples x 0) is
        ∙ ap (λ (l : List ℕ). get_or l x 0) (sym (row_fresh_samples s p d sized right y ly))
        ∙ get_or_row 0 (fresh_view s p d right).samples s.w y x lx

    front_fresh : get_or v.fronts x 0 ≡ get_or (fresh_view s p d right).fronts (y * s.w + x) 0
    unfolding drawn_row fresh_row
    front_fresh =
        sym (front_entry 0 v.fronts s.w x lx) ∙ ap (λ (r : View). get_or r.fronts x 0) is
        ∙ ap (λ (l : List ℕ). get_or l x 0) (sym (row_fresh_fronts s p d sized right y ly))
        ∙ get_or_row 0 (fresh_view s p d right).fronts s.w y x lx

    limit_fresh : get_or v.limits x (pos 0) ≡ get_or (fresh_view s p d right).limits (y * s.w + x) (pos 0)
    unfolding drawn_row fresh_row
    limit_fresh =
        sym (front_entry (pos 0) v.limits s.w x lx) ∙ ap (λ (r : View). get_or r.limits x (pos 0)) is
        ∙ ap (λ (l : List ℤ). get_or l x (pos 0)) (sym (row_fresh_limits s p d sized right y ly))
        ∙ get_or_row (pos 0) (fresh_view s p d right).limits s.w y x lx

    marks_fresh : take (mark_bytes s.w) v.marks ≡ row_of (fresh_view s p d right).marks (mark_bytes s.w) y
    unfolding drawn_row fresh_row
    marks_fresh =
        sym (row_front v.marks (mark_bytes s.w)) ∙ ap (λ (r : View). r.marks) is
        ∙ sym (row_fresh_marks s p d sized right y ly)

    pub agrees_fresh : (h : View) → agrees s.w h v y x ≡ same_view s.w h (fresh_view s p d right) y x
    unfolding agrees same_view
    agrees_fresh h = rw (sample_fresh, front_fresh, limit_fresh, marks_fresh)

    mark_shown : mark_at v.marks x ≡ get_or (fresh_row s p d right y).marks x 0
    mark_shown =
        ap (λ (n : ℕ). n / 2 ^ (x % 8) % 2) (sym (get_or-take (mark_bytes s.w) v.marks (x / 8) 0 (omega arith)))
        ∙ ap (λ (m : List ℕ). mark_at m x) marks_fresh
        ∙ mark_fresh s p d sized right y x ly lx

    -- what the drawn rows show at column x is what the fresh row shows there
    pixel_fresh : held_pixel v.samples v.fronts v.marks x ≡ shown_at (fresh_row s p d right y) x
    unfolding held_pixel sample_in drawn_row fresh_row
    pixel_fresh =
        let a : read (get_or v.samples x 0) ≡ get_or (fresh_row s p d right y).samples x 0 =
        ap read (sym (front_entry 0 v.samples s.w x lx) ∙ ap (λ (r : View). get_or r.samples x 0) is)
        ∙ read_same (get_or (fresh_row s p d right y).samples x 0) (shown_most s p d sized right y x ly lx) in
        let b : get_or v.fronts x 0 ≡ get_or (fresh_row s p d right y).fronts x 0 =
        sym (front_entry 0 v.fronts s.w x lx) ∙ ap (λ (r : View). get_or r.fronts x 0) is in
        rw (a, mark_shown, b)

  module _ (v0 v1 : View) (is0 : DrawnIs s p d false y v0) (is1 : DrawnIs s p d true y v1) where
    pub shown_fresh : combined_of s.share s.tolerance (held_pixel v0.samples v0.fronts v0.marks x) (held_pixel v1.samples v1.fronts v1.marks x) ≡ fresh_sample s p d y x
    unfolding fresh_sample
    shown_fresh = rw (pixel_fresh false v0 is0, pixel_fresh true v1 is1)

    pub all_fresh : (h : Held) → all_agree s.w h v0 v1 (fresh_sample s p d y x) y x ≡ same_at s.w h (fresh s p d) y x
    unfolding all_agree same_at fresh
    all_fresh h =
        rw (agrees_fresh false v0 is0 h.left, agrees_fresh true v1 is1 h.right, entry)
      where
        entry : fresh_sample s p d y x ≡ get_or (fresh_combined s p d) (y * s.w + x) 0
        entry =
            sym (get_or-list_of 0 (fresh_sample s p d y) s.w x lx)
            ∙ ap (λ (l : List ℕ). get_or l x 0) (sym (row_fresh_combined s p d y ly))
            ∙ get_or_row 0 (fresh_combined s p d) s.w y x lx

-- what is found at a position: the fresh combined sample, and whether every held entry is the fresh one
pub record Seen (s : Settings) (p : Pictures) (d : Depths) (h : Held) (y x shown : ℕ) (same : Bool) : Type 0 where
  pub shown_is : shown ≡ fresh_sample s p d y x
  pub same_is : same ≡ same_at s.w h (fresh s p d) y x

pub seen_at : (s : Settings) (p : Pictures) (d : Depths) (h : Held) (y x shown : ℕ) (same : Bool) (v0 v1 : View) → DepthsSized s d → y < s.h → x < s.w → DrawnIs s p d false y v0 → DrawnIs s p d true y v1 → shown ≡ combined_of s.share s.tolerance (held_pixel v0.samples v0.fronts v0.marks x) (held_pixel v1.samples v1.fronts v1.marks x) → same ≡ all_agree s.w h v0 v1 shown y x → Seen s p d h y x shown same
seen_at s p d h y x shown same v0 v1 sized ly lx is0 is1 e f =
    let g : shown ≡ fresh_sample s p d y x = e ∙ shown_fresh s p d sized y ly x lx v0 v1 is0 is1 in
    record {
      shown_is = g;
      same_is =
          f ∙ ap (λ (n : ℕ). all_agree s.w h v0 v1 n y x) g ∙ all_fresh s p d sized y ly x lx v0 v1 is0 is1 h;
    }

-- its squared error
pub error_is : (s : Settings) (p : Pictures) (d : Depths) (y x shown e : ℕ) → shown ≡ fresh_sample s p d y x → e ≡ square_error shown (sample_in p.reference (y * s.w + x)) → e ≡ error_at s p d y x
unfolding error_at
error_is s p d y x shown e f q = q ∙ ap (λ (n : ℕ). square_error n (sample_in p.reference (y * s.w + x))) f
