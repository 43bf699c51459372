-- What a view holds, as it is read.
--     held_most     no sample is above the greatest
--     held_fresh    planes that are, as they are read, a view's fresh ones hold what its rows show
use Prim.Native.Nat.{ℕ, ◌*◌, ◌+◌, ◌<◌, ◌≤◌}
use mathlib.Core.Path.{◌≡◌, sym, ap, ◌∙◌}
use mathlib.Core.Bool.{Bool}
use mathlib.Core.List.{List}
use lib.ListN.{get_or}
use Rattle.model.specs.declared.Settings.{Settings}
use Rattle.model.specs.Lists.{row_of}
use Rattle.model.specs.Row.{greatest, sample_in}
use Rattle.model.specs.Marks.{mark_bytes}
use Rattle.model.specs.Planes.{Pictures, Depths, View, read_all, read_view}
use Rattle.model.specs.Fresh.{fresh_row, fresh_view, shown_at}
use Rattle.model.proofs.Lists.{get_or_row}
use Rattle.model.proofs.Fresh.{DepthsSized, row_fresh_samples, row_fresh_fronts, mark_fresh}
use Rattle.model.proofs.Totals.{sample_in_most}
use Rattle.model.proofs.Readings.{sample_in_row, get_or-read_all}
use Rattle.marks.specs.Puts.{held_pixel}

pub held_most : (s f m : List ℕ) (i : ℕ) → (held_pixel s f m i).sample ≤ greatest
unfolding held_pixel
held_most s f m i = sample_in_most s i

-- an entry of a row of a plane l, as it is read, where m is that plane as it is read
pub entry_read : (l m : List ℕ) (w y x : ℕ) → read_all l ≡ m → x < w → sample_in (row_of l w y) x ≡ get_or (row_of m w y) x 0
entry_read l m w y x e h =
    sample_in_row l w y x h ∙ sym (get_or-read_all l (y * w + x)) ∙ ap (λ (z : List ℕ). get_or z (y * w + x) 0) e ∙ sym (get_or_row 0 m w y x h)

pub held_fresh : (s : Settings) (p : Pictures) (d : Depths) → DepthsSized s d → (q : Bool) (v : View) → read_view v ≡ fresh_view s p d q → (y x : ℕ) → y < s.h → x < s.w → held_pixel (row_of v.samples s.w y) (row_of v.fronts s.w y) (row_of v.marks (mark_bytes s.w) y) x ≡ shown_at (fresh_row s p d q y) x
unfolding held_pixel
held_fresh s p d sized q v e y x k l =
    rw (
      entry_read v.samples (fresh_view s p d q).samples s.w y x (ap (λ (u : View). u.samples) e) l,
      ap (λ (u : View). u.fronts) e,
      ap (λ (u : View). u.marks) e,
      row_fresh_samples s p d sized q y k,
      row_fresh_fronts s p d sized q y k,
      mark_fresh s p d sized q y x k l,
    )
