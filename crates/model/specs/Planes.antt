-- Document 01, "What the library holds": the planes that a call is lent, as records.
use Rattle.std.specs.Prelude.{ℕ, ◌*◌, ◌≤◌, ◌≡◌, Bool, true, false, cond, ◌⊎◌, List, ℤ, length, get_or}
use Rattle.model.specs.declared.Settings.{Settings}
use Rattle.model.specs.Lists.{list_of, row_of}
use Rattle.model.specs.Row.{greatest, sample_in}
use Rattle.model.specs.Marks.{mark_bytes}

-- Read only: two textures and a reference.
pub record Pictures : Type 0 where
  pub left : List ℕ
  pub right : List ℕ
  pub reference : List ℕ

pub record Depths : Type 0 where
  pub left : List ℕ
  pub right : List ℕ

-- Held for each view: samples, front depths, limits and packed hole marks.
pub record View : Type 0 where
  pub samples : List ℕ
  pub fronts : List ℕ
  pub limits : List ℤ
  pub marks : List ℕ

-- Held once: the combined picture.
pub record Held : Type 0 where
  pub left : View
  pub right : View
  pub combined : List ℕ

-- What a call of a session finds and leaves.
pub record State : Type 0 where
  pub settings : Settings
  pub depths : Depths
  pub held : Held

-- One row of one view, marks packed: what RENDER draws.
pub record Strip : Type 0 where
  pub samples : List ℕ
  pub marks : List ℕ
  pub fronts : List ℕ

-- w × h
abbrev pub area : Settings → ℕ
area s = s.w * s.h

abbrev pub pictures : List ℕ → List ℕ → List ℕ → Pictures
pictures l r reference = record { left = l; right = r; reference = reference }

abbrev pub depths : List ℕ → List ℕ → Depths
depths l r = record { left = l; right = r }

abbrev pub view : List ℕ → List ℕ → List ℤ → List ℕ → View
view samples fronts limits marks = record { samples = samples; fronts = fronts; limits = limits; marks = marks }

abbrev pub held : View → View → List ℕ → Held
held l r combined = record { left = l; right = r; combined = combined }

abbrev pub strip : List ℕ → List ℕ → List ℕ → Strip
strip samples marks fronts = record { samples = samples; marks = marks; fronts = fronts }

-- the settings with another total
abbrev pub with_total : Settings → ℕ → Settings
with_total s t =
    record { w = s.w; h = s.h; left = s.left; right = s.right; share = s.share; tolerance = s.tolerance; tear = s.tear; total = t }

-- Document 02, card 11: what MOVE draws with. Tables, share, tolerance and where rows tear are new; w and h stay, and so do the textures.
abbrev pub with_seat : Settings → Settings → Settings
with_seat s to =
    record { w = s.w; h = s.h; left = to.left; right = to.right; share = to.share; tolerance = to.tolerance; tear = to.tear; total = s.total }

abbrev pub with_reference : Pictures → List ℕ → Pictures
with_reference p reference = pictures p.left p.right reference

-- Document 02, card 12: a plane of samples as it is read, and what is held as GET, SET and TAKE BACK read it. Where no sample is above the greatest, as in
-- a fresh drawing, that is what stands there (proofs/Readings).
unfoldable pub read_all : List ℕ → List ℕ
read_all l = list_of (sample_in l) (length l)

abbrev pub read_view : View → View
read_view v = view (read_all v.samples) v.fronts v.limits v.marks

unfoldable pub read_held : Held → Held
read_held h = held (read_view h.left) (read_view h.right) (read_all h.combined)

-- From `before` to `after` no sample above the greatest is written: every entry is at most that, or what stood there.
abbrev pub NoneHigher : List ℕ → List ℕ → Type 0
NoneHigher before after = (i : ℕ) → (get_or after i 0 ≤ greatest) ⊎ (get_or after i 0 ≡ get_or before i 0)

-- what belongs to a view: its table, its texture, its depths, its held planes
abbrev pub table_of : Settings → Bool → List ℕ
table_of s right = cond right s.right s.left

abbrev pub texture_of : Pictures → Bool → List ℕ
texture_of p right = cond right p.right p.left

abbrev pub depths_of : Depths → Bool → List ℕ
depths_of d right = cond right d.right d.left

abbrev pub view_of : Held → Bool → View
view_of h right = cond right h.right h.left

-- what is held, with other planes for the view and another combined picture
abbrev pub with_view : Bool → Held → View → List ℕ → Held
with_view true h own combined = held h.left own combined
with_view false h own combined = held own h.right combined

-- row y of every held plane
abbrev pub view_rows : ℕ → View → ℕ → View
view_rows w v y = view (row_of v.samples w y) (row_of v.fronts w y) (row_of v.limits w y) (row_of v.marks (mark_bytes w) y)

unfoldable pub held_row : ℕ → Held → ℕ → Held
held_row w h y = held (view_rows w h.left y) (view_rows w h.right y) (row_of h.combined w y)
