-- Some rows of a block, set as a block of their own.
--     part_requires      what setting them asks for
--     through_block      with the rows before them, they are set in the block
--     through_saved      and so are saved rows, from the room
use Prim.Native.Nat.{ℕ, ◌+◌, ◌-◌, ◌*◌, ◌<◌, ◌≤◌}
use mathlib.Core.Path.{◌≡◌, refl, sym, ap, ◌∙◌}
use mathlib.Core.Bool.{Bool, false}
use mathlib.Core.Logic.{⊎_elim, ◌⊎◌, inl, inr}
use mathlib.Core.List.{List}
use native.Mathlib.Omega.{arith}
use native.Mathlib.Nat.{mul_comm}
use lib.ListN.{length, take}
use lib.Seq.{length-take-le}
use borrow.Author.Tests.{eq-eqb}
use Rattle.model.specs.declared.Tear.{Tear}
use Rattle.model.specs.declared.Block.{Block}
use Rattle.model.specs.Lists.{row_of}
use Rattle.model.specs.declared.Candidate.TheVariants.{Full}
use Rattle.model.specs.Planes.{View}
use Rattle.model.specs.Candidates.{filled}
use Rattle.model.specs.Refusals.{candidate_then}
use Rattle.model.specs.Blocks.{in_rows, written_plane}
use Rattle.model.specs.Span.{first_column}
use Rattle.model.proofs.Choice.{lt_or_le}
use Rattle.model.proofs.Lists.{rows_apart}
use Rattle.model.proofs.Written.{rows_under, rows_beyond, written_row_out, written_row_in}
use Rattle.planes.proofs.Read.{none_then}
use Rattle.trial.specs.Trial.{Fits}
use Rattle.trial.proofs.Blocks.{below}
use Rattle.commit.proofs.Planes.{bounded_then}
use Rattle.combine.specs.Combine.{BlockIn, BlockSet}
use Rattle.combine.proofs.Rows.{Through}
use Rattle.records.specs.Rows.{Narrowed}
use Rattle.records.proofs.Narrowing.{part_rows}

module _ {tear : Tear} {right : Bool} {t : List ℕ} {share tolerance w h : ℕ} {b : Block} {j : ℕ} {texture candidate s₂ f₂ m₂ d₀ d d' : List ℕ} {v₀ v v' : View} {c₀ c c' : List ℕ} (through : Through tear right t share tolerance w h b j texture candidate s₂ f₂ m₂ d₀ d v₀ v c₀ c) (block : BlockIn w h b candidate) (start : length d₀ ≡ w * h) (x : List ℕ) (n : ℕ) (more : j + n ≤ b.height) (size : length x ≡ b.width * n) (rows : (k : ℕ) → k < n → row_of x b.width k ≡ row_of candidate b.width (j + k)) (set : BlockSet tear right t share tolerance w h (below b j n) texture x s₂ f₂ m₂ d d' v v' c c') where
  within : (plane : List ℕ) → length plane ≡ w * h → (k : ℕ) → k < h → k * w + w ≤ length plane
  within plane e k l = omega (arith, rows_apart w k h l, mul_comm w h)

  -- a row that is none of these stays
  kept : (k : ℕ) → in_rows (below b j n) k ≡ false → row_of d' w k ≡ row_of d w k
  kept k e = ap (λ (p : List ℕ). row_of p w k) set.depths ∙ written_row_out w (below b j n) x d k e

  -- these are written now
  now_written : (k : ℕ) → b.row + j ≤ k → k < b.row + (j + n) → row_of d' w k ≡ row_of (written_plane w b candidate d₀) w k
  now_written k p q =
      let l : k < h = omega (arith, block.below) in
      let i : ℕ = k - (b.row + j) in
      let e : j + i ≡ k - b.row = omega arith in
      let r : row_of x b.width i ≡ row_of candidate b.width (k - b.row) = rw (← e) (rows i (omega arith)) in
      let before : row_of d w k ≡ row_of d₀ w k = through.unwritten k (inr p) in
      ap (λ (p : List ℕ). row_of p w k) set.depths
      ∙ written_row_in w (below b j n) x d k (within d through.size.depths k l) block.right size p (omega arith)
      ∙ rw (before, r) (sym (written_row_in w b candidate d₀ k (within d₀ start k l) block.right block.size (omega arith) (omega arith)))

  -- a row beside the first j + n is beside the first j, and none of these
  outer : (k : ℕ) → (k < b.row) ⊎ (b.row + (j + n) ≤ k) → (k < b.row) ⊎ (b.row + j ≤ k)
  outer k (inl u) = inl u
  outer k (inr u) = inr (omega arith)

  none : (k : ℕ) → (k < b.row) ⊎ (b.row + (j + n) ≤ k) → in_rows (below b j n) k ≡ false
  none k (inl u) = rows_under (below b j n) k (omega arith)
  none k (inr u) = rows_beyond (below b j n) k (omega arith)

  pub through_block : Through tear right t share tolerance w h b (j + n) texture candidate s₂ f₂ m₂ d₀ d' v₀ v' c₀ c'
  through_block =
      record {
        row = more;
        size = set.size;
        other = set.other;
        written = λ k p q. ⊎_elim
            (λ u. kept k (rows_under (below b j n) k u) ∙ through.written k p u)
            (λ u. now_written k u q) (lt_or_le k (b.row + j));
        unwritten = λ k p. kept k (none k p) ∙ through.unwritten k (outer k p);
        sound = λ k p. set.sound k (through.sound k p);
        combined = λ k p e. set.combined k (through.sound k p) (through.combined k p e);
        others = λ k p. set.others k (none k p) ∙ through.others k (outer k p);
        others_combined = λ k p. set.others_combined k (none k p) ∙ through.others_combined k (outer k p);
        bounded = bounded_then right w (first_column right w b.column b.width + b.width) v₀ v v' through.bounded set.bounded;
        combined_samples = none_then c₀ c c' through.combined_samples set.combined_samples;
      }

-- the next rows, narrowed in a room
module _ {w h : ℕ} {b : Block} {words room : List ℕ} {done left n : ℕ} (fits : Fits w h b words) (next : Narrowed words b.width done left room n) (inside : done + left ≤ b.height) where
  more : done + n ≤ b.height
  more = omega (arith, next.few)

  size : length (take (n * b.width) room) ≡ b.width * n
  size = length-take-le (n * b.width) room next.holds ∙ mul_comm n b.width

  pub part_requires : (BlockIn w h (below b done n) (filled (below b done n) Full (take (n * b.width) room))) × (candidate_then (below b done n) Full (length (take (n * b.width) room)) 0 ≡ 0)
  unfolding filled candidate_then
  part_requires = (
    record { some = fits.some; right = fits.right; below = omega (arith, fits.bottom, next.few); size = size },
    rw (eq-eqb (length (take (n * b.width) room)) (b.width * n) size) refl,
  )

  pub through_saved : {tear : Tear} {right : Bool} {t : List ℕ} {share tolerance : ℕ} {texture s₂ f₂ m₂ d₀ d d' : List ℕ} {v₀ v v' : View} {c₀ c c' : List ℕ} → Through tear right t share tolerance w h b done texture words s₂ f₂ m₂ d₀ d v₀ v c₀ c → length d₀ ≡ w * h → BlockSet tear right t share tolerance w h (below b done n) texture (filled (below b done n) Full (take (n * b.width) room)) s₂ f₂ m₂ d d' v v' c c' → Through tear right t share tolerance w h b (done + n) texture words s₂ f₂ m₂ d₀ d' v₀ v' c₀ c'
  unfolding filled
  through_saved through start set =
      through_block through (record { some = fits.some; right = fits.right; below = fits.bottom; size = fits.entries }) start (take (n * b.width) room) n more size
      (λ k l. rw next.rows (part_rows words b.width done n b.height fits.entries more k l)) set
