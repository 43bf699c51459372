-- The combined picture after one row of one view was committed.
--     row_set                            with the span combined anew, the row is what the two views hold
use Prim.Native.Nat.{ℕ, ◌+◌, ◌-◌, ◌*◌, ◌<◌, ◌≤◌}
use mathlib.Core.Path.{◌≡◌, sym, ap, subst, ◌∙◌}
use mathlib.Core.Bool.{Bool}
use mathlib.Core.Logic.{⊎_elim, ◌⊎◌, inl, inr}
use mathlib.Core.List.{List}
use native.Mathlib.Omega.{arith}
use lib.ListN.{length, get_or}
use Rattle.model.specs.declared.Tear.{Tear}
use Rattle.model.specs.declared.Pixel.{Pixel}
use Rattle.model.specs.Lists.{row_of}
use Rattle.model.specs.Row.{greatest}
use Rattle.model.specs.Planes.{View, read_all, view_rows}
use Rattle.model.proofs.Choice.{lt_or_le}
use Rattle.model.proofs.Lists.{length-list_of, get_or-list_of, list_of_lem, length-row}
use Rattle.model.proofs.Readings.{length-read_all}
use Rattle.planes.specs.Parts.{splice, Low}
use Rattle.planes.proofs.Read.{read_put, low_list, low_splice}
use Rattle.planes.proofs.Splices.{length-splice, splice_under, splice_inside, splice_beyond, row_splice, row_other}
use Rattle.marks.specs.Puts.{held_pixel}
use Rattle.marks.proofs.Held.{held_most}
use Rattle.sums.specs.Sides.{paired}
use Rattle.sums.proofs.Sides.{paired_most}
use Rattle.blend.specs.Blend.{combined_part}
use Rattle.commit.specs.Commit.{SoundRow, RowCommitted, held_at, held_in}
use Rattle.commit.proofs.Planes.{same_row}
use Rattle.combine.specs.Combine.{combined_row, RowSet}

module _ (right : Bool) (share tolerance : ℕ) (own other : ℕ → Pixel) where
  length_part : (from n : ℕ) → length (combined_part right share tolerance own other from n) ≡ n
  unfolding combined_part
  length_part from n = length-list_of _ n

  part_at : (from n i : ℕ) → i < n → get_or (combined_part right share tolerance own other from n) i 0 ≡ paired right share tolerance (own (from + i)) (other (from + i))
  unfolding combined_part
  part_at from n i h = get_or-list_of 0 (λ j. paired right share tolerance (own (from + j)) (other (from + j))) n i h

  row_at : (w i : ℕ) → i < w → get_or (combined_row right share tolerance own other w) i 0 ≡ paired right share tolerance (own i) (other i)
  unfolding combined_row
  row_at w i h = get_or-list_of 0 (λ j. paired right share tolerance (own j) (other j)) w i h

  module _ (most : share ≤ 64) (owns : (i : ℕ) → (own i).sample ≤ greatest) (others : (i : ℕ) → (other i).sample ≤ greatest) where
    low_part : (from n : ℕ) → Low (combined_part right share tolerance own other from n)
    unfolding combined_part
    low_part from n = low_list _ n (λ i. paired_most right share tolerance (own (from + i)) (other (from + i)) most (owns (from + i)) (others (from + i)))

  row_of_lem : (w : ℕ) (c : List ℕ) → length c ≡ w → ((i : ℕ) → i < w → get_or c i 0 ≡ paired right share tolerance (own i) (other i)) → c ≡ combined_row right share tolerance own other w
  unfolding combined_row
  row_of_lem w c e h = list_of_lem 0 (λ j. paired right share tolerance (own j) (other j)) w c e h

inside : (from to w : ℕ) → from ≤ to → to ≤ w → from + (to - from) ≤ w
inside from to w h k = omega arith

-- ---- the row that is combined anew

-- a stretch that is combined anew, where the view shows the same outside it
combined_again : (right : Bool) (share tolerance w from to : ℕ) (old new other : ℕ → Pixel) (c : List ℕ) → from ≤ to → to ≤ w → length c ≡ w → ((i : ℕ) → i < w → (i < from) ⊎ (to ≤ i) → new i ≡ old i) → c ≡ combined_row right share tolerance old other w → splice c from (combined_part right share tolerance new other from (to - from)) ≡ combined_row right share tolerance new other w
combined_again right share tolerance w from to old new other c o k lc kept was =
    row_of_lem right share tolerance new other w (splice c from xs) (length-splice c from xs fit ∙ lc)
    (λ i h. ⊎_elim
    (λ u. splice_under 0 c from xs fit i u ∙ before i h (inl u))
    (λ u. ⊎_elim
    (λ m.
    let q : from + (i - from) ≡ i = omega arith in
    ap (λ (j : ℕ). get_or (splice c from xs) j 0) (sym q) ∙ splice_inside 0 c from xs fit (i - from) (rw n (inner i u m))
    ∙ part_at right share tolerance new other from (to - from) (i - from) (inner i u m)
    ∙ ap (λ (j : ℕ). paired right share tolerance (new j) (other j)) q)
    (λ m. splice_beyond 0 c from xs fit i (rw n (outer i m)) ∙ before i h (inr m))
    (lt_or_le i to))
    (lt_or_le i from))
  where
    xs : List ℕ
    xs = combined_part right share tolerance new other from (to - from)

    n : length xs ≡ to - from
    n = length_part right share tolerance new other from (to - from)

    fit : from + length xs ≤ length c
    fit = rw (n, lc) (inside from to w o k)

    before : (i : ℕ) → i < w → (i < from) ⊎ (to ≤ i) → get_or c i 0 ≡ paired right share tolerance (new i) (other i)
    before i h out =
        ap (λ (l : List ℕ). get_or l i 0) was ∙ row_at right share tolerance old other w i h
        ∙ ap (λ (q : Pixel). paired right share tolerance q (other i)) (sym (kept i h out))

    inner : (i : ℕ) → from ≤ i → i < to → i - from < to - from
    inner i a b = omega arith

    outer : (i : ℕ) → to ≤ i → from + (to - from) ≤ i
    outer i b = omega arith

module _ (tear : Tear) (right : Bool) (t : List ℕ) (share tolerance w y x from to : ℕ) (texture candidate s₂ f₂ m₂ d d' : List ℕ) (v v' : View) (c c' : List ℕ) (most : share ≤ 64) (within : y * w + w ≤ length c) (done : RowCommitted tear right t texture w y x candidate d d' v v' from to) (put : c' ≡ splice c (y * w + from) (combined_part right share tolerance (held_in w v' y) (held_at w s₂ f₂ m₂ y) from (to - from))) where
  fit : from + length (combined_part right share tolerance (held_in w v' y) (held_at w s₂ f₂ m₂ y) from (to - from)) ≤ w
  fit =
      rw (length_part right share tolerance (held_in w v' y) (held_at w s₂ f₂ m₂ y) from (to - from)) (inside from to w done.order done.within)

  low : Low (combined_part right share tolerance (held_in w v' y) (held_at w s₂ f₂ m₂ y) from (to - from))
  low =
      low_part right share tolerance (held_in w v' y) (held_at w s₂ f₂ m₂ y) most (λ i. held_most _ _ _ i) (λ i. held_most _ _ _ i) from (to - from)

  Again : ℕ → Type 0
  Again k =
      SoundRow tear right t texture w d v k → read_all (row_of c w k) ≡ combined_row right share tolerance (held_in w v k) (held_at w s₂ f₂ m₂ k) w → read_all (row_of c' w k) ≡ combined_row right share tolerance (held_in w v' k) (held_at w s₂ f₂ m₂ k) w

  here : Again y
  unfolding Again
  here s was =
      ap (λ (l : List ℕ). read_all (row_of l w y)) put ∙ ap read_all (row_splice 0 c w y from _ within fit)
      ∙ read_put (row_of c w y) from _ (rw (length-row c w y within) fit) low
      ∙ combined_again right share tolerance w from to (held_in w v y) (held_in w v' y) (held_at w s₂ f₂ m₂ y) (read_all (row_of c w y)) done.order done.within
      (length-read_all (row_of c w y) ∙ length-row c w y within) (done.kept s) was

  kept_combined : (k : ℕ) → (k ≡ y → ⊥) → row_of c' w k ≡ row_of c w k
  kept_combined k ne = ap (λ (l : List ℕ). row_of l w k) put ∙ row_other 0 c w y k from _ within fit ne

  elsewhere : (k : ℕ) → (k ≡ y → ⊥) → Again k
  unfolding Again
  elsewhere k ne s was =
      let same : view_rows w v k ≡ view_rows w v' k = sym (done.others k ne) in
      ap read_all (kept_combined k ne) ∙ was
      ∙ ap (λ (q : View). combined_row right share tolerance (held_pixel q.samples q.fronts q.marks) (held_at w s₂ f₂ m₂ k) w) same

  again : (k : ℕ) → Again k
  again k = ⊎_elim (λ e. subst Again (sym e) here) (elsewhere k) (same_row k y)

  pub row_set : RowSet tear right t share tolerance w y x texture candidate s₂ f₂ m₂ d d' v v' c c'
  unfolding Again
  row_set =
      record {
        depths = done.depths;
        sound = done.sound;
        combined = again;
        others = done.others;
        others_combined = kept_combined;
        bounded = done.bounded;
        combined_samples = rw put (low_splice c (y * w + from) _ (omega (arith, fit, within)) low);
      }
