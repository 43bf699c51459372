-- A row of a plane that is lent for writing, and put back.
--     row_put, other_put     its row, and any other
--     splice_row             a part of the row replaced is that part of the plane replaced
--     changed                what an edited row's own records say of the planes
use Prim.Native.Nat.{ℕ, ◌+◌, ◌-◌, ◌*◌, ◌<◌, ◌≤◌}
use mathlib.Core.Path.{◌≡◌, sym, ap, ◌∙◌}
use mathlib.Core.Bool.{Bool}
use mathlib.Core.Logic.{⊎_elim}
use mathlib.Core.List.{List, ◌++◌}
use native.Mathlib.Omega.{arith}
use lib.ListN.{length, get_or, take, drop}
use lib.Seq.{ext_get_or}
use lib.IntN.{ℤ, pos}
use Rattle.model.specs.Lists.{row_of}
use Rattle.model.specs.Views.{seen}
use Rattle.model.specs.Span.{first_column}
use Rattle.model.proofs.Choice.{lt_or_le}
use Rattle.model.proofs.Lists.{length-row, get_or_row}
use Rattle.planes.specs.Parts.{splice}
use Rattle.planes.proofs.Splices.{length-splice, splice_under, splice_inside, splice_beyond, row_whole, row_other_whole, part_length, put_back}
use Rattle.pixel.specs.declared.Edge.{Edge}
use Rattle.edits.specs.Changes.{Rewritten, Limited, Changed}

module _ {A : Type 0} where
  -- the plane with row y put back as ys
  abbrev pub put_row : List A → ℕ → ℕ → List A → List A
  put_row p w y ys = take (y * w) p ++ (ys ++ drop (y * w + w - y * w) (drop (y * w) p))

  pub row_put : (z : A) (p ys : List A) (w y : ℕ) → y * w + w ≤ length p → length ys ≡ w → row_of (put_row p w y ys) w y ≡ ys
  row_put z p ys w y h e = ap (λ (l : List A). row_of l w y) (put_back p ys (y * w) w e) ∙ row_whole z p w y ys h e

  pub other_put : (z : A) (p ys : List A) (w y : ℕ) → y * w + w ≤ length p → length ys ≡ w → (k : ℕ) → (k ≡ y → ⊥) → row_of (put_row p w y ys) w k ≡ row_of p w k
  other_put z p ys w y h e k ne = ap (λ (l : List A). row_of l w k) (put_back p ys (y * w) w e) ∙ row_other_whole z p w y k ys h e ne

  -- the row as it is lent again
  pub lent_again : (p ys : List A) (w y : ℕ) → y * w + w ≤ length p → length ys ≡ w → length (take (y * w + w - y * w) (drop (y * w) (put_row p w y ys))) ≡ w
  lent_again p ys w y h e =
      part_length (put_row p w y ys) (y * w) w (rw (put_back p ys (y * w) w e, length-splice p (y * w) ys (omega arith)) h)

  pub splice_row : (z : A) (p : List A) (w y x : ℕ) (xs : List A) → y * w + w ≤ length p → x + length xs ≤ w → splice p (y * w) (splice (row_of p w y) x xs) ≡ splice p (y * w + x) xs
  splice_row z p w y x xs h k =
      ext_get_or z (splice p (y * w) row) (splice p (y * w + x) xs) (length-splice p (y * w) row fit ∙ sym (length-splice p (y * w + x) xs inner))
      (λ i l. ⊎_elim
      (λ u. splice_under z p (y * w) row fit i u ∙ sym (splice_under z p (y * w + x) xs inner i (omega arith)))
      (λ u. ⊎_elim
      (λ v.
      let e : y * w + (i - y * w) ≡ i = omega arith in
      ap (λ (j : ℕ). get_or (splice p (y * w) row) j z) (sym e) ∙ splice_inside z p (y * w) row fit (i - y * w) (omega (arith, wide)) ∙ here (i - y * w) (omega arith)
      ∙ ap (λ (j : ℕ). get_or (splice p (y * w + x) xs) j z) e)
      (λ v. splice_beyond z p (y * w) row fit i (omega (arith, wide)) ∙ sym (splice_beyond z p (y * w + x) xs inner i (omega arith)))
      (lt_or_le i (y * w + w)))
      (lt_or_le i (y * w)))
    where
      row : List A
      row = splice (row_of p w y) x xs

      lr : length (row_of p w y) ≡ w
      lr = length-row p w y h

      inside : x + length xs ≤ length (row_of p w y)
      inside = rw lr k

      wide : length row ≡ w
      wide = length-splice (row_of p w y) x xs inside ∙ lr

      fit : y * w + length row ≤ length p
      fit = omega (arith, wide)

      inner : y * w + x + length xs ≤ length p
      inner = omega arith

      here : (i : ℕ) → i < w → get_or row i z ≡ get_or (splice p (y * w + x) xs) (y * w + i) z
      here i l =
          ⊎_elim
          (λ u. splice_under z (row_of p w y) x xs inside i u ∙ get_or_row z p w y i l ∙ sym (splice_under z p (y * w + x) xs inner (y * w + i) (omega arith)))
          (λ u. ⊎_elim
          (λ v.
          let e : x + (i - x) ≡ i = omega arith in
          let f : y * w + x + (i - x) ≡ y * w + i = omega arith in
          ap (λ (j : ℕ). get_or row j z) (sym e) ∙ splice_inside z (row_of p w y) x xs inside (i - x) (omega arith)
          ∙ sym (splice_inside z p (y * w + x) xs inner (i - x) (omega arith)) ∙ ap (λ (j : ℕ). get_or (splice p (y * w + x) xs) j z) f)
          (λ v. splice_beyond z (row_of p w y) x xs inside i v ∙ get_or_row z p w y i l ∙ sym (splice_beyond z p (y * w + x) xs inner (y * w + i) (omega arith)))
          (lt_or_le i (x + length xs)))
          (lt_or_le i x)

-- a row of depths is as wide as it was
pub rewritten_wide : {r : Bool} {t : List ℕ} {first low : ℕ} (w y x : ℕ) (candidate d : List ℕ) {part row : List ℕ} → y * w + w ≤ length d → x + length candidate ≤ w → part ≡ row_of d w y → Rewritten r t x first low candidate part row → length row ≡ w
rewritten_wide w y x candidate d h k ep e =
    let l = length-row d w y h in
    let fits : x + length candidate ≤ length (row_of d w y) = rw l k in
    ap length (rw ep at e.depths) ∙ length-splice (row_of d w y) x candidate fits ∙ l

-- depths d and limits e, of which row y was lent, written and put back
module _ (r : Bool) (t : List ℕ) (w y x first n low : ℕ) (edge : Edge) (candidate d row : List ℕ) (e lim : List ℤ) (dfits : y * w + w ≤ length d) (efits : y * w + w ≤ length e) (fits : x + length candidate ≤ w) where
  pub changed : {part part' : List ℕ} {held : List ℤ} → part ≡ row_of d w y → part' ≡ row_of (put_row d w y row) w y → held ≡ row_of e w y → length lim ≡ w → first ≡ first_column r w x (x + length candidate - x) → n ≡ first + length candidate → Rewritten r t x first low candidate part row → Limited t (seen r part') first n edge (seen r held) (seen r lim) → Changed r t w y x candidate d (put_row d w y row) e (put_row e w y lim) n low edge
  changed ep ep' ee el ef en h k =
      let m : x + length candidate - x ≡ length candidate = omega arith in
      let ef' : first ≡ first_column r w x (length candidate) = rw m at ef in
      let wide = rewritten_wide w y x candidate d dfits fits ep h in
      let er = row_put 0 d row w y dfits wide in
      let h' = rw ep at h in
      let k' = rw (ep', ee, ← row_put (pos 0) e lim w y efits el) at k in
      record {
        columns = rw (← ef') en;
        depths = put_back d row (y * w) w wide ∙ ap (splice d (y * w)) h'.depths ∙ splice_row 0 d w y x candidate dfits fits;
        bottom = rw (← ef', en, er) h'.low;
        top = k'.top;
        limits = rw (← ef') k'.limits;
        others = other_put (pos 0) e lim w y efits el;
      }
