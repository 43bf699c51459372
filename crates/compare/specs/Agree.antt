-- The held planes at column x of row y against row y drawn afresh. The drawn row stands at the front of rows that may be longer.
use Rattle.std.specs.Prelude.{ℕ, ◌+◌, ◌*◌, ◌<◌, ◌≤◌, Bool, ◌&&◌, eqb, ℤ, pos, length, get_or, take}
use Rattle.std.specs.Int.Signed.{le_z}
use Rattle.model.specs.Lists.{row_of, entry_at}
use Rattle.model.specs.Marks.{mark_bytes}
use Rattle.model.specs.Planes.{View, view, Held}
use Rattle.model.specs.Reports.{same_mark}
use Rattle.compare.specs.declared.HeldView.{HeldView}
use Rattle.compare.specs.declared.DrawnRow.{DrawnRow}

-- the planes that are held of a view
abbrev pub held_planes : HeldView → View
held_planes v = view v.samples.now v.fronts.now v.limits.now v.marks.now

-- the rows that are drawn of a view
abbrev pub drawn_planes : DrawnRow → View
drawn_planes r = view r.samples r.fronts r.limits r.marks

-- two signed numbers are equal
abbrev pub same_value : ℤ → ℤ → Bool
same_value a b = le_z a b && le_z b a

-- all that is held of a view at column x of row y is what the drawn row has at column x
unfoldable pub agrees : ℕ → View → View → ℕ → ℕ → Bool
agrees w v row y x =
    (eqb (entry_at v.samples w y x 0) (get_or row.samples x 0) && eqb (entry_at v.fronts w y x 0) (get_or row.fronts x 0))
    && (same_value (entry_at v.limits w y x (pos 0)) (get_or row.limits x (pos 0)) && same_mark w (row_of v.marks (mark_bytes w) y) (take (mark_bytes w) row.marks) x)

-- and of both views, and the combined sample
unfoldable pub all_agree : ℕ → Held → View → View → ℕ → ℕ → ℕ → Bool
all_agree w h left right shown y x =
    agrees w h.left left y x && (agrees w h.right right y x && eqb (entry_at h.combined w y x 0) shown)

-- column x of row y lies in a view's planes
pub record HeldAt (w : ℕ) (v : View) (y x : ℕ) : Type 0 where
  pub sample : y * w + x < length v.samples
  pub front : y * w + x < length v.fronts
  pub limit : y * w + x < length v.limits
  pub marks : y * mark_bytes w + mark_bytes w ≤ length v.marks
