-- What is drawn in a stretch, and the span's put into its row.
--     length-shown, none_shown                 what a stretch shows: as many values as it has positions,
--     low_shown, flags_shown                   samples up to the greatest, marks of 0 and 1
--     shown_filled                             a row with the span's values put in, as the view reads it
use Prim.Native.Nat.{ℕ, ◌+◌, ◌-◌, ◌<◌, ◌≤◌}
use mathlib.Core.Path.{◌≡◌, refl}
use mathlib.Core.Bool.{Bool, true, false}
use mathlib.Core.Logic.{⊎_elim}
use mathlib.Core.List.{List, []}
use native.Mathlib.Omega.{arith}
use lib.ListN.{length, get_or, get_or-eq_default}
use Rattle.model.specs.declared.Pixel.{Pixel}
use Rattle.model.specs.Lists.{list_of, list_from}
use Rattle.model.specs.Row.{Line}
use Rattle.model.specs.Views.{seen, entry_of}
use Rattle.model.specs.Span.{first_column}
use Rattle.model.proofs.Choice.{lt_or_le}
use Rattle.model.proofs.Lists.{length-list_of, get_or-list_of}
use Rattle.model.proofs.Views.{length_seen, seen_seen, get_or_seen, length-seen_list}
use Rattle.model.proofs.Packing.{Flags}
use Rattle.planes.specs.Parts.{splice, Filled, Low}
use Rattle.planes.proofs.Read.{low_list, low_seen}
use Rattle.planes.proofs.Splices.{splice_none}
use Rattle.planes.proofs.SeenParts.{seen_filled}
use Rattle.pixel.specs.declared.Edge.{Edge}
use Rattle.places.specs.Positions.{first_at}
use Rattle.row.specs.Drawing.{pixel_below}
use Rattle.row.proofs.Below.{flag_below, below_sample}
use Rattle.commit.specs.Commit.{part_shown, span_shown}

pub flags_list_of : (f : ℕ → ℕ) (n : ℕ) → ((k : ℕ) → f k < 2) → Flags (list_of f n)
flags_list_of f n h k =
    ⊎_elim (λ u. rw (get_or-list_of 0 f n k u) (h k))
    (λ u. rw (get_or-eq_default (list_of f n) 0 {n = k} (rw (length-list_of f n) u)) (omega arith))
    (lt_or_le k n)

pub flags_seen : (r : Bool) (l : List ℕ) → Flags l → Flags (seen r l)
flags_seen r l h k =
    ⊎_elim (λ u. rw (get_or_seen 0 r l k u) (h (entry_of r (length l) k)))
    (λ u. rw (get_or-eq_default (seen r l) 0 {n = k} (rw (length_seen r l) u)) (omega arith))
    (lt_or_le k (length l))

-- no positions show nothing
pub none_shown : (g : Pixel → ℕ) (r : Bool) (l : Line) (n : ℕ) (edge : Edge) (start : ℕ) → part_shown g r l n edge start 0 ≡ []
unfolding part_shown seen list_from
none_shown g true l n edge start = refl
none_shown g false l n edge start = refl

-- no sample of a stretch is above the greatest
pub low_shown : (r : Bool) (l : Line) (n : ℕ) (edge : Edge) (start k : ℕ) → Low (part_shown (λ q. q.sample) r l n edge start k)
unfolding part_shown
low_shown r l n edge start k = low_seen r _ (low_list (λ i. (pixel_below l n edge (start + i)).sample) k (λ i. below_sample l n edge (start + i)))

pub flags_shown : (r : Bool) (l : Line) (n : ℕ) (edge : Edge) (start k : ℕ) → Flags (part_shown (λ q. q.mark) r l n edge start k)
unfolding part_shown
flags_shown r l n edge start k = flags_seen r _ (flags_list_of _ k (λ i. flag_below l n edge (start + i)))

module _ (g : Pixel → ℕ) (r : Bool) (l : Line) (n : ℕ) (edge : Edge) where
  pub length-shown : (start k : ℕ) → length (part_shown g r l n edge start k) ≡ k
  unfolding part_shown
  length-shown start k = length-seen_list r _ k

  shown_at_lem : (start k i : ℕ) → i < k → get_or (seen r (part_shown g r l n edge start k)) i 0 ≡ g (pixel_below l n edge (start + i))
  unfolding part_shown
  shown_at_lem start k i h =
      rw (seen_seen r (list_of (λ j. g (pixel_below l n edge (start + j))) k)) (get_or-list_of 0 (λ j. g (pixel_below l n edge (start + j))) k i h)

  -- a row with the span's values put in, as the view reads it
  pub shown_filled : (low w from : ℕ) (row : List ℕ) → length row ≡ w → first_at edge.limit ≤ w → (first_at low < first_at edge.limit → from ≡ first_column r w (first_at low) (first_at edge.limit - first_at low)) → Filled 0 (λ p. g (pixel_below l n edge p)) (first_at low) (first_at edge.limit) (seen r row) (seen r (splice row from (span_shown g r l n low edge)))
  shown_filled low w from row e k first =
      let size = length-shown (first_at low) (first_at edge.limit - first_at low) in
      ⊎_elim
      (λ u.
      let m : first_at low + length (span_shown g r l n low edge) ≡ first_at edge.limit = rw size (whole u) in
      rw m at (seen_filled 0 (λ p. g (pixel_below l n edge p)) r row (span_shown g r l n low edge) (first_at low) from (rw (m, e) k)
      (rw (e, size) (first u)) (λ i h. shown_at_lem (first_at low) (first_at edge.limit - first_at low) i (rw size at h))))
      (λ u.
      rw (none u, none_shown g r l n edge (first_at low), splice_none row from)
      (record { inside = λ p a b. absurd (omega arith); under = λ p a. refl; beyond = λ p a. refl }))
      (lt_or_le (first_at low) (first_at edge.limit))
    where
      whole : first_at low < first_at edge.limit → first_at low + (first_at edge.limit - first_at low) ≡ first_at edge.limit
      whole u = omega arith

      none : first_at edge.limit ≤ first_at low → first_at edge.limit - first_at low ≡ 0
      none u = omega arith
