-- What SET writes: one view's planes and the combined picture (document 01, "Combined picture and total" and "The span of an edit").
use Rattle.std.specs.Prelude.{ℕ, ◌+◌, ◌*◌, ◌≤◌, Bool, false, ◌≡◌, List, length}
use Rattle.model.specs.declared.Tear.{Tear}
use Rattle.model.specs.declared.Pixel.{Pixel}
use Rattle.model.specs.declared.Block.{Block}
use Rattle.model.specs.Lists.{list_of, row_of}
use Rattle.model.specs.Marks.{mark_bytes}
use Rattle.model.specs.Planes.{View, read_all, NoneHigher, view_rows}
use Rattle.model.specs.Blocks.{in_rows, written_plane}
use Rattle.model.specs.Span.{first_column}
use Rattle.planes.specs.Parts.{splice}
use Rattle.sums.specs.Sides.{paired}
use Rattle.commit.specs.Commit.{Sized, SoundRow, held_at, held_in, Bounded}

-- the combined row of w entries, of what the one view and the other hold
unfoldable pub combined_row : Bool → ℕ → ℕ → (ℕ → Pixel) → (ℕ → Pixel) → ℕ → List ℕ
combined_row right share tolerance own other w = list_of (λ i. paired right share tolerance (own i) (other i)) w

-- row y lies within planes of samples, fronts and marks, w wide
pub record ViewIn (w y : ℕ) (s f m : List ℕ) : Type 0 where
  pub samples : y * w + w ≤ length s
  pub fronts : y * w + w ≤ length f
  pub marks : y * mark_bytes w + mark_bytes w ≤ length m

-- the other view's planes and the combined picture are w wide and h high
pub record OtherSized (w h : ℕ) (s f m c : List ℕ) : Type 0 where
  pub samples : length s ≡ w * h
  pub fronts : length f ≡ w * h
  pub marks : length m ≡ mark_bytes w * h
  pub combined : length c ≡ w * h

-- a block inside w columns and h rows, with its candidate
pub record BlockIn (w h : ℕ) (b : Block) (candidate : List ℕ) : Type 0 where
  pub some : 1 ≤ b.width
  pub right : b.column + b.width ≤ w
  pub below : b.row + b.height ≤ h
  pub size : length candidate ≡ b.width * b.height

-- Row y is set: the candidate stands at its column x, every row that was sound is sound again, and where its combined row was made of what
-- the two views hold, it is so again, as it is read. No other row changes, and no combined sample above the greatest is written. The other view's
-- planes are s₂, f₂ and m₂.
pub record RowSet (tear : Tear) (right : Bool) (t : List ℕ) (share tolerance w y x : ℕ) (texture candidate s₂ f₂ m₂ d d' : List ℕ) (v v' : View) (c c' : List ℕ) : Type 0 where
  pub depths : d' ≡ splice d (y * w + x) candidate
  pub sound : (k : ℕ) → SoundRow tear right t texture w d v k → SoundRow tear right t texture w d' v' k
  pub combined : (k : ℕ) → SoundRow tear right t texture w d v k → read_all (row_of c w k) ≡ combined_row right share tolerance (held_in w v k) (held_at w s₂ f₂ m₂ k) w → read_all (row_of c' w k) ≡ combined_row right share tolerance (held_in w v' k) (held_at w s₂ f₂ m₂ k) w
  pub others : (k : ℕ) → (k ≡ y → ⊥) → view_rows w v' k ≡ view_rows w v k
  pub others_combined : (k : ℕ) → (k ≡ y → ⊥) → row_of c' w k ≡ row_of c w k
  pub bounded : Bounded right w (first_column right w x (length candidate) + length candidate) v v'
  pub combined_samples : NoneHigher c c'

-- The block is set: whatever the planes hold, the depths are written in the block only and the rows outside it are as they were; rows that
-- were sound are sound again, and their combined rows are again made of what the two views hold, as they are read. No combined sample above the
-- greatest is written. All planes keep their sizes.
pub record BlockSet (tear : Tear) (right : Bool) (t : List ℕ) (share tolerance w h : ℕ) (b : Block) (texture candidate s₂ f₂ m₂ d d' : List ℕ) (v v' : View) (c c' : List ℕ) : Type 0 where
  pub depths : d' ≡ written_plane w b candidate d
  pub sound : (k : ℕ) → SoundRow tear right t texture w d v k → SoundRow tear right t texture w d' v' k
  pub combined : (k : ℕ) → SoundRow tear right t texture w d v k → read_all (row_of c w k) ≡ combined_row right share tolerance (held_in w v k) (held_at w s₂ f₂ m₂ k) w → read_all (row_of c' w k) ≡ combined_row right share tolerance (held_in w v' k) (held_at w s₂ f₂ m₂ k) w
  pub others : (k : ℕ) → in_rows b k ≡ false → view_rows w v' k ≡ view_rows w v k
  pub others_combined : (k : ℕ) → in_rows b k ≡ false → row_of c' w k ≡ row_of c w k
  pub bounded : Bounded right w (first_column right w b.column b.width + b.width) v v'
  pub combined_samples : NoneHigher c c'
  pub size : Sized w h texture d' v'
  pub other : OtherSized w h s₂ f₂ m₂ c'
