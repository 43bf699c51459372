-- A stretch of a row, drawn into parts that were lent, and its marks put into the row's.
--     part_flags, part_drawn          the marks that are put are 0 or 1, and what is drawn is what the stretch shows
--     redrawn_none, redrawn_some      an empty span, and one with positions
use Prim.Native.Nat.{ℕ, ◌+◌, ◌-◌, ◌*◌, ◌≤◌}
use mathlib.Core.Path.{◌≡◌, sym, ap, ◌∙◌}
use mathlib.Core.Bool.{Bool}
use mathlib.Core.List.{List, ◌++◌}
use native.Mathlib.Omega.{arith}
use lib.ListN.{length, take, drop}
use Rattle.model.specs.declared.Pixel.{Pixel}
use Rattle.model.specs.Row.{Line}
use Rattle.model.specs.Views.{seen}
use Rattle.model.specs.Span.{first_column}
use Rattle.model.proofs.Packing.{Flags}
use Rattle.planes.specs.Parts.{splice, Filled, Painted}
use Rattle.planes.proofs.Splices.{splice_none, put_back}
use Rattle.planes.proofs.SeenParts.{seen_all}
use Rattle.marks.specs.Puts.{put_marks}
use Rattle.pixel.specs.declared.Edge.{Edge}
use Rattle.places.specs.Positions.{first_at}
use Rattle.row.specs.Drawing.{pixel_below}
use Rattle.commit.specs.Commit.{part_shown, PartDrawn, Redrawn}
use Rattle.commit.proofs.Shown.{length-shown, none_shown, flags_shown}

module _ (r : Bool) (l : Line) (n : ℕ) (edge : Edge) (start k : ℕ) where
  shown_is : (g : Pixel → ℕ) {x : List ℕ} (ys : List ℕ) → length ys ≡ k → Filled 0 (λ i. g (pixel_below l n edge (start + i))) 0 k x (seen r ys) → ys ≡ part_shown g r l n edge start k
  unfolding part_shown
  shown_is g ys e h = seen_all 0 r (λ i. g (pixel_below l n edge (start + i))) k ys e h

  pub part_flags : {x : List ℕ} (ys : List ℕ) → length ys ≡ k → Filled 0 (λ i. (pixel_below l n edge (start + i)).mark) 0 k x (seen r ys) → Flags ys
  part_flags ys e h = rw (shown_is (λ q. q.mark) ys e h) (flags_shown r l n edge start k)

  pub part_drawn : (at : ℕ) (m ys zs ms m' : List ℕ) {a b c : List ℕ} → length ys ≡ k → length zs ≡ k → length ms ≡ k → Painted (λ i. pixel_below l n edge (start + i)) 0 k a b c (seen r ys) (seen r zs) (seen r ms) → m' ≡ put_marks m at ms (length ms) → PartDrawn r l n edge start at k m ys zs m'
  part_drawn at m ys zs ms m' ny nz nm paint em =
      record {
        samples = shown_is (λ q. q.sample) ys ny paint.samples;
        fronts = shown_is (λ q. q.front) zs nz paint.fronts;
        marks = em ∙ rw nm (ap (λ (q : List ℕ). put_marks m at q k) (shown_is (λ q. q.mark) ms nm paint.marks));
      }

module _ (r : Bool) (l : Line) (n low : ℕ) (edge : Edge) (start stop : ℕ) (es : start ≡ first_at low) (et : stop ≡ first_at edge.limit) (w y : ℕ) (s f m : List ℕ) where
  pub redrawn_none : stop ≤ start → Redrawn r l w y n low edge 0 0 s f m s f m
  unfolding put_marks
  redrawn_none h =
      let z : first_at edge.limit - first_at low ≡ 0 = rw (← es, ← et) (omega arith) in
      record {
        stretched = record { size = rw z; within = omega arith; first = λ u. absurd (omega arith) };
        samples = rw (z, none_shown (λ q. q.sample) r l n edge (first_at low)) (sym (splice_none s (y * w + 0)));
        fronts = rw (z, none_shown (λ q. q.front) r l n edge (first_at low)) (sym (splice_none f (y * w + 0)));
        marks = rw z;
      }

  pub redrawn_some : (at k : ℕ) (ys zs : List ℕ) {m' : List ℕ} → k ≡ stop - start → at ≡ first_column r w start (stop - start) → at + (stop - start) ≤ w → PartDrawn r l n edge start at k m ys zs m' → Redrawn r l w y n low edge at (at + (stop - start)) s f m (take (y * w + at) s ++ (ys ++ drop (y * w + at + (stop - start) - (y * w + at)) (drop (y * w + at) s))) (take (y * w + at) f ++ (zs ++ drop (y * w + at + (stop - start) - (y * w + at)) (drop (y * w + at) f))) m'
  redrawn_some at k ys zs ek ea fits part =
      let h = rw ek at part in
      record {
        stretched = record { size = rw (← es, ← et); within = fits; first = λ u. rw (← es, ← et) ea };
        samples = rw (← es, ← et) (back (λ q. q.sample) s ys h.samples);
        fronts = rw (← es, ← et) (back (λ q. q.front) f zs h.fronts);
        marks = rw (← es, ← et) h.marks;
      }
    where
      back : (g : Pixel → ℕ) (p xs : List ℕ) → xs ≡ part_shown g r l n edge start (stop - start) → take (y * w + at) p ++ (xs ++ drop (y * w + at + (stop - start) - (y * w + at)) (drop (y * w + at) p)) ≡ splice p (y * w + at) (part_shown g r l n edge start (stop - start))
      back g p xs e =
          put_back p xs (y * w + at) (stop - start) (ap length e ∙ length-shown g r l n edge start (stop - start)) ∙ ap (splice p (y * w + at)) e
