-- The rows of a block, one after another.
--     Through                    what is set once j rows of the block are
--     through_none, through_next     before the first row, and with one row more
--     through_all                with all rows, the block
use Prim.Native.Nat.{ℕ, ◌+◌, ◌-◌, ◌*◌, ◌<◌, ◌≤◌}
use mathlib.Core.Path.{◌≡◌, refl, sym, ap, ◌∙◌}
use mathlib.Core.Bool.{Bool, false}
use mathlib.Core.Logic.{⊎_elim, ◌⊎◌, inl, inr}
use mathlib.Core.List.{List}
use native.Mathlib.Omega.{arith}
use native.Mathlib.Nat.{mul_comm}
use lib.ListN.{length}
use lib.Dec.{leb, ltb}
use lib.IntN.{ℤ}
use borrow.Author.Tests.{leb-false, ltb-false}
use Rattle.model.specs.declared.Tear.{Tear}
use Rattle.model.specs.declared.Block.{Block}
use Rattle.model.specs.Lists.{row_of}
use Rattle.model.specs.Marks.{mark_bytes}
use Rattle.model.specs.Planes.{View, view, view_rows, read_all, NoneHigher}
use Rattle.model.specs.Blocks.{in_rows, written_plane}
use Rattle.model.specs.Span.{first_column}
use Rattle.model.proofs.Choice.{lt_or_le, and_false}
use Rattle.model.proofs.Lists.{rows_apart, length_plane_row, plane_ext}
use Rattle.model.proofs.Written.{length-written, rows_under, rows_beyond, written_row_out, written_row_in}
use Rattle.planes.specs.Parts.{splice}
use Rattle.planes.proofs.Read.{none_then}
use Rattle.planes.proofs.Splices.{row_splice, row_other}
use Rattle.commit.specs.Commit.{Sized, SoundRow, held_at, held_in, Bounded}
use Rattle.commit.proofs.Planes.{same_row, bounded_none, bounded_then}
use Rattle.combine.specs.Combine.{combined_row, ViewIn, OtherSized, BlockIn, RowSet, BlockSet}

-- row j of a block's depths is as wide as the block
pub row_wide : {w h : ℕ} {b : Block} {candidate : List ℕ} {j : ℕ} → BlockIn w h b candidate → j < b.height → length (row_of candidate b.width j) ≡ b.width
row_wide {b = b} {candidate} {j} block less = length_plane_row candidate b.width b.height j (block.size ∙ mul_comm b.width b.height) less

row_in : (w h y n : ℕ) → y < h → n ≡ w * h → y * w + w ≤ n
row_in w h y n k e = omega (arith, rows_apart w y h k, mul_comm w h)

pub other_row : {w h y : ℕ} {s f m c : List ℕ} → y < h → OtherSized w h s f m c → (ViewIn w y s f m) × (y * w + w ≤ length c)
other_row {w} {h} {y} k s = (
  record { samples = row_in w h y _ k s.samples; fronts = row_in w h y _ k s.fronts; marks = row_in (mark_bytes w) h y _ k s.marks },
  row_in w h y _ k s.combined,
)

-- what is set once j rows of the block are: from depths d₀, planes v₀ and combined picture c₀ to d, v and c
pub record Through (tear : Tear) (right : Bool) (t : List ℕ) (share tolerance w h : ℕ) (b : Block) (j : ℕ) (texture candidate s₂ f₂ m₂ d₀ d : List ℕ) (v₀ v : View) (c₀ c : List ℕ) : Type 0 where
  pub row : j ≤ b.height
  pub size : Sized w h texture d v
  pub other : OtherSized w h s₂ f₂ m₂ c
  pub written : (k : ℕ) → b.row ≤ k → k < b.row + j → row_of d w k ≡ row_of (written_plane w b candidate d₀) w k
  pub unwritten : (k : ℕ) → (k < b.row) ⊎ (b.row + j ≤ k) → row_of d w k ≡ row_of d₀ w k
  pub sound : (k : ℕ) → SoundRow tear right t texture w d₀ v₀ k → SoundRow tear right t texture w d v k
  pub combined : (k : ℕ) → SoundRow tear right t texture w d₀ v₀ k → read_all (row_of c₀ w k) ≡ combined_row right share tolerance (held_in w v₀ k) (held_at w s₂ f₂ m₂ k) w → read_all (row_of c w k) ≡ combined_row right share tolerance (held_in w v k) (held_at w s₂ f₂ m₂ k) w
  pub others : (k : ℕ) → (k < b.row) ⊎ (b.row + j ≤ k) → view_rows w v k ≡ view_rows w v₀ k
  pub others_combined : (k : ℕ) → (k < b.row) ⊎ (b.row + j ≤ k) → row_of c w k ≡ row_of c₀ w k
  pub bounded : Bounded right w (first_column right w b.column b.width + b.width) v₀ v
  pub combined_samples : NoneHigher c₀ c

pub through_none : {tear : Tear} {right : Bool} {t : List ℕ} {share tolerance w h : ℕ} {b : Block} {texture candidate s₂ f₂ m₂ d : List ℕ} {v : View} {c : List ℕ} → Sized w h texture d v → OtherSized w h s₂ f₂ m₂ c → Through tear right t share tolerance w h b 0 texture candidate s₂ f₂ m₂ d d v v c c
through_none {right = right} {w = w} {b = b} {v = v} s o =
    record {
      row = omega arith;
      size = s;
      other = o;
      written = λ k h l. absurd (omega arith);
      unwritten = λ k h. refl;
      sound = λ k h. h;
      combined = λ k h e. e;
      others = λ k h. refl;
      others_combined = λ k h. refl;
      bounded = bounded_none right w (first_column right w b.column b.width + b.width) v;
      combined_samples = λ i. inr refl;
    }

module _ {tear : Tear} {right : Bool} {t : List ℕ} {share tolerance w h : ℕ} {b : Block} {j : ℕ} {texture candidate s₂ f₂ m₂ d₀ d d' : List ℕ} {v₀ v v' : View} {c₀ c c' : List ℕ} (through : Through tear right t share tolerance w h b j texture candidate s₂ f₂ m₂ d₀ d v₀ v c₀ c) (block : BlockIn w h b candidate) (start : length d₀ ≡ w * h) (less : j < b.height) (set : RowSet tear right t share tolerance w (b.row + j) b.column texture (row_of candidate b.width j) s₂ f₂ m₂ d d' v v' c c') where
  row_within : (plane : List ℕ) → length plane ≡ w * h → (b.row + j) * w + w ≤ length plane
  row_within plane e = row_in w h (b.row + j) (length plane) (omega (arith, block.below)) e

  part_fits : b.column + length (row_of candidate b.width j) ≤ w
  part_fits = rw (row_wide block less) block.right

  -- the row that is written now
  written_now : row_of d' w (b.row + j) ≡ row_of (written_plane w b candidate d₀) w (b.row + j)
  unfolding splice
  written_now =
      let e : b.row + j - b.row ≡ j = omega arith in
      ap (λ (l : List ℕ). row_of l w (b.row + j)) set.depths
      ∙ row_splice 0 d w (b.row + j) b.column (row_of candidate b.width j) (row_within d through.size.depths) part_fits
      ∙ rw (through.unwritten (b.row + j) (inr (omega arith)), row_wide block less)
      (sym (rw e at (written_row_in w b candidate d₀ (b.row + j) (row_within d₀ start) block.right block.size (omega arith) (omega arith))))

  kept : (k : ℕ) → (k ≡ b.row + j → ⊥) → row_of d' w k ≡ row_of d w k
  kept k ne =
      ap (λ (l : List ℕ). row_of l w k) set.depths
      ∙ row_other 0 d w (b.row + j) k b.column (row_of candidate b.width j) (row_within d through.size.depths) part_fits ne

  -- a row beside the first j + 1 is beside the first j, and not the one written now
  outer : (k : ℕ) → (k < b.row) ⊎ (b.row + (j + 1) ≤ k) → (k < b.row) ⊎ (b.row + j ≤ k)
  outer k (inl h) = inl h
  outer k (inr h) = inr (omega arith)

  other_one : (k : ℕ) → (k < b.row) ⊎ (b.row + (j + 1) ≤ k) → k ≡ b.row + j → ⊥
  other_one k (inl h) e = omega arith
  other_one k (inr h) e = omega arith

  pub through_next : Sized w h texture d' v' → OtherSized w h s₂ f₂ m₂ c' → Through tear right t share tolerance w h b (j + 1) texture candidate s₂ f₂ m₂ d₀ d' v₀ v' c₀ c'
  through_next s o =
      record {
        row = omega arith;
        size = s;
        other = o;
        written = λ k p q. ⊎_elim
            (λ e. rw e written_now)
            (λ ne. kept k ne ∙ through.written k p (earlier k q ne)) (same_row k (b.row + j));
        unwritten = λ k p. kept k (other_one k p) ∙ through.unwritten k (outer k p);
        sound = λ k p. set.sound k (through.sound k p);
        combined = λ k p e. set.combined k (through.sound k p) (through.combined k p e);
        others = λ k p. set.others k (other_one k p) ∙ through.others k (outer k p);
        others_combined = λ k p. set.others_combined k (other_one k p) ∙ through.others_combined k (outer k p);
        bounded = bounded_then right w (first_column right w b.column b.width + b.width) v₀ v v' through.bounded (rw (row_wide block less) at set.bounded);
        combined_samples = none_then c₀ c c' through.combined_samples set.combined_samples;
      }
    where
      earlier : (k : ℕ) → k < b.row + (j + 1) → (k ≡ b.row + j → ⊥) → k < b.row + j
      earlier k q ne = ⊎_elim (λ u. u) (λ u. let e : k ≡ b.row + j = omega arith in absurd (ne e)) (lt_or_le k (b.row + j))

-- a row that is none of the block's
pub rows_beside : (b : Block) (k : ℕ) → in_rows b k ≡ false → (k < b.row) ⊎ (b.row + b.height ≤ k)
rows_beside b k e =
    ⊎_elim (λ h. inl (leb-false b.row k h)) (λ h. inr (ltb-false k (b.row + b.height) h))
    (and_false (leb b.row k) (ltb k (b.row + b.height)) e)

module _ {tear : Tear} {right : Bool} {t : List ℕ} {share tolerance w h : ℕ} {b : Block} {texture candidate s₂ f₂ m₂ d₀ d : List ℕ} {v₀ v : View} {c₀ c : List ℕ} (through : Through tear right t share tolerance w h b b.height texture candidate s₂ f₂ m₂ d₀ d v₀ v c₀ c) (start : length d₀ ≡ w * h) where
  row_written : (k : ℕ) → k < h → row_of d w k ≡ row_of (written_plane w b candidate d₀) w k
  row_written k l =
      ⊎_elim
      (λ u. through.unwritten k (inl u) ∙ sym (written_row_out w b candidate d₀ k (rows_under b k u)))
      (λ u. ⊎_elim
      (λ m. through.written k u m)
      (λ m. through.unwritten k (inr m) ∙ sym (written_row_out w b candidate d₀ k (rows_beyond b k m)))
      (lt_or_le k (b.row + b.height)))
      (lt_or_le k b.row)

  pub through_all : BlockSet tear right t share tolerance w h b texture candidate s₂ f₂ m₂ d₀ d v₀ v c₀ c
  through_all =
      record {
        depths = plane_ext 0 w h d (written_plane w b candidate d₀) (through.size.depths ∙ mul_comm w h) (length-written w b candidate d₀ ∙ start ∙ mul_comm w h) row_written;
        sound = through.sound;
        combined = through.combined;
        others = λ k e. through.others k (rows_beside b k e);
        others_combined = λ k e. through.others_combined k (rows_beside b k e);
        bounded = through.bounded;
        combined_samples = through.combined_samples;
        size = through.size;
        other = through.other;
      }

-- planes that keep their lengths keep their sizes
pub resized : {w h : ℕ} {texture d s f : List ℕ} {e : List ℤ} {m d' s' f' : List ℕ} {e' : List ℤ} {m' : List ℕ} → Sized w h texture d (view s f e m) → length d' ≡ length d → length s' ≡ length s → length f' ≡ length f → length e' ≡ length e → length m' ≡ length m → Sized w h texture d' (view s' f' e' m')
resized z hd hs hf he hm =
    record {
      texture = z.texture;
      depths = hd ∙ z.depths;
      samples = hs ∙ z.samples;
      fronts = hf ∙ z.fronts;
      limits = he ∙ z.limits;
      marks = hm ∙ z.marks;
    }

pub other_resized : {w h : ℕ} {s f m c c' : List ℕ} → OtherSized w h s f m c → length c' ≡ length c → OtherSized w h s f m c'
other_resized z hc = record { samples = z.samples; fronts = z.fronts; marks = z.marks; combined = hc ∙ z.combined }
