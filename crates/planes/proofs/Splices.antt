-- A list with a part replaced, and a plane with a part of a row replaced.
--     splice_none, splice_whole                       nothing replaced, and all
--     length-splice                                   as many entries as before
--     splice_under, splice_inside, splice_beyond      its entries before, in and after the part
--     row_splice, row_other                           a part of row y replaced: row y, and any other row
--     row_whole, row_other_whole                      row y replaced whole
--     part_row, part_length, put_back                 a part as a call is lent it, and as it is put back
use Prim.Native.Nat.{ℕ, ◌+◌, ◌-◌, ◌*◌, ◌<◌, ◌≤◌}
use mathlib.Core.Path.{◌≡◌, refl, sym, ap, ◌∙◌}
use mathlib.Core.Logic.{⊎_elim}
use mathlib.Core.List.{List, [], ◌++◌}
use native.Mathlib.Omega.{arith}
use lib.ListN.{length, get_or, take, drop, length-append, length-drop, take-append-drop, get_or-append}
use lib.Seq.{length-take-le, get_or-append-add, get_or-take, get_or-drop, ext_get_or}
use Rattle.model.specs.Lists.{row_of}
use Rattle.model.proofs.Choice.{lt_or_le}
use Rattle.model.proofs.Lists.{rows_apart, length-row, get_or_row, row_ext}
use Rattle.planes.specs.Parts.{splice}

module _ {A : Type 0} where
  pub splice_none : (p : List A) (at : ℕ) → splice p at [] ≡ p
  unfolding splice
  splice_none p at = take-append-drop at p

  pub length-splice : (p : List A) (at : ℕ) (xs : List A) → at + length xs ≤ length p → length (splice p at xs) ≡ length p
  unfolding splice
  length-splice p at xs h =
      let a : length (take at p) ≡ at = length-take-le at p (omega arith) in
      let b = length-append (take at p) (xs ++ drop (length xs) (drop at p)) in
      let e = length-append xs (drop (length xs) (drop at p)) in
      omega (arith, a, b, e, length-drop (length xs) (drop at p), length-drop at p)

  -- past the end of the first list
  pub get_or_after : (z : A) (xs ys : List A) (n p : ℕ) → length xs ≡ n → n ≤ p → get_or (xs ++ ys) p z ≡ get_or ys (p - n) z
  get_or_after z xs ys n p e h =
      let q : p ≡ length xs + (p - n) = omega arith in
      ap (λ (i : ℕ). get_or (xs ++ ys) i z) q ∙ get_or-append-add xs ys (p - n) z

  module _ (z : A) (p : List A) (at : ℕ) (xs : List A) (fits : at + length xs ≤ length p) where
    pub splice_under : (i : ℕ) → i < at → get_or (splice p at xs) i z ≡ get_or p i z
    unfolding splice
    splice_under i h =
        get_or-append (take at p) (xs ++ drop (length xs) (drop at p)) z i (omega (arith, length-take-le at p (omega arith)))
        ∙ get_or-take at p i z h

    pub splice_inside : (i : ℕ) → i < length xs → get_or (splice p at xs) (at + i) z ≡ get_or xs i z
    unfolding splice
    splice_inside i h =
        let e : at + i - at ≡ i = omega arith in
        get_or_after z (take at p) (xs ++ drop (length xs) (drop at p)) at (at + i) (length-take-le at p (omega arith)) (omega arith)
        ∙ ap (λ (j : ℕ). get_or (xs ++ drop (length xs) (drop at p)) j z) e
        ∙ get_or-append xs (drop (length xs) (drop at p)) z i h

    pub splice_beyond : (i : ℕ) → at + length xs ≤ i → get_or (splice p at xs) i z ≡ get_or p i z
    unfolding splice
    splice_beyond i h =
        let e : at + (length xs + (i - at - length xs)) ≡ i = omega arith in
        get_or_after z (take at p) (xs ++ drop (length xs) (drop at p)) at i (length-take-le at p (omega arith)) (omega arith)
        ∙ get_or_after z xs (drop (length xs) (drop at p)) (length xs) (i - at) refl (omega arith)
        ∙ get_or-drop (length xs) (drop at p) (i - at - length xs) z
        ∙ get_or-drop at p (length xs + (i - at - length xs)) z
        ∙ ap (λ (j : ℕ). get_or p j z) e

  -- a list replaced whole
  pub splice_whole : (z : A) (l xs : List A) → length xs ≡ length l → splice l 0 xs ≡ xs
  splice_whole z l xs e =
      let fits : 0 + length xs ≤ length l = omega arith in
      ext_get_or z (splice l 0 xs) xs (length-splice l 0 xs fits ∙ sym e)
      (λ i k.
      let q : i ≡ 0 + i = omega arith in
      ap (λ (m : ℕ). get_or (splice l 0 xs) m z) q ∙ splice_inside z l 0 xs fits i (omega (arith, length-splice l 0 xs fits)))

  -- a part of row y replaced: row y has the part replaced
  pub row_splice : (z : A) (p : List A) (w y a : ℕ) (xs : List A) → y * w + w ≤ length p → a + length xs ≤ w → row_of (splice p (y * w + a) xs) w y ≡ splice (row_of p w y) a xs
  row_splice z p w y a xs h k =
      let fits : y * w + a + length xs ≤ length p = omega arith in
      let lr : length (row_of p w y) ≡ w = length-row p w y h in
      let fit : a + length xs ≤ length (row_of p w y) = rw lr k in
      let lp : length (splice p (y * w + a) xs) ≡ length p = length-splice p (y * w + a) xs fits in
      let ln : length (row_of (splice p (y * w + a) xs) w y) ≡ w = length-row (splice p (y * w + a) xs) w y (rw lp h) in
      ext_get_or z (row_of (splice p (y * w + a) xs) w y) (splice (row_of p w y) a xs) (ln ∙ sym (length-splice (row_of p w y) a xs fit ∙ lr))
      (λ i l.
      let i< : i < w = omega arith in
      get_or_row z (splice p (y * w + a) xs) w y i i<
      ∙ ⊎_elim
      (λ u.
      splice_under z p (y * w + a) xs fits (y * w + i) (omega arith)
      ∙ sym (splice_under z (row_of p w y) a xs fit i u ∙ get_or_row z p w y i i<))
      (λ u. ⊎_elim
      (λ v.
      let e : y * w + i ≡ y * w + a + (i - a) = omega arith in
      let g : i ≡ a + (i - a) = omega arith in
      ap (λ (m : ℕ). get_or (splice p (y * w + a) xs) m z) e ∙ splice_inside z p (y * w + a) xs fits (i - a) (omega arith)
      ∙ sym (ap (λ (m : ℕ). get_or (splice (row_of p w y) a xs) m z) g ∙ splice_inside z (row_of p w y) a xs fit (i - a) (omega arith)))
      (λ v.
      splice_beyond z p (y * w + a) xs fits (y * w + i) (omega arith)
      ∙ sym (splice_beyond z (row_of p w y) a xs fit i v ∙ get_or_row z p w y i i<))
      (lt_or_le i (a + length xs)))
      (lt_or_le i a))

  -- and every other row is as it was
  pub row_other : (z : A) (p : List A) (w y k a : ℕ) (xs : List A) → y * w + w ≤ length p → a + length xs ≤ w → (k ≡ y → ⊥) → row_of (splice p (y * w + a) xs) w k ≡ row_of p w k
  row_other z p w y k a xs h g ne =
      let fits : y * w + a + length xs ≤ length p = omega arith in
      row_ext z (splice p (y * w + a) xs) p w k (length-splice p (y * w + a) xs fits)
      (λ i l. ⊎_elim
      (λ u. splice_under z p (y * w + a) xs fits (k * w + i) (omega (arith, rows_apart w k y u)))
      (λ u. splice_beyond z p (y * w + a) xs fits (k * w + i) (omega (arith, rows_apart w y k (later k y u ne))))
      (lt_or_le k y))
    where
      later : (k y : ℕ) → y ≤ k → (k ≡ y → ⊥) → y < k
      later k y u ne = ⊎_elim (λ v. v) (λ v. let e : k ≡ y = omega arith in absurd (ne e)) (lt_or_le y k)

  -- row y replaced whole
  pub row_whole : (z : A) (p : List A) (w y : ℕ) (xs : List A) → y * w + w ≤ length p → length xs ≡ w → row_of (splice p (y * w) xs) w y ≡ xs
  row_whole z p w y xs h e =
      let o : y * w + 0 ≡ y * w = omega arith in
      let r = row_splice z p w y 0 xs h (omega arith) in
      (rw o at r) ∙ splice_whole z (row_of p w y) xs (e ∙ sym (length-row p w y h))

  pub row_other_whole : (z : A) (p : List A) (w y k : ℕ) (xs : List A) → y * w + w ≤ length p → length xs ≡ w → (k ≡ y → ⊥) → row_of (splice p (y * w) xs) w k ≡ row_of p w k
  row_other_whole z p w y k xs h e ne =
      let o : y * w + 0 ≡ y * w = omega arith in
      let r = row_other z p w y k 0 xs h (omega arith) ne in
      rw o at r

  -- a row as a call is lent it
  pub part_row : (p : List A) (w y : ℕ) → take (y * w + w - y * w) (drop (y * w) p) ≡ row_of p w y
  unfolding row_of
  part_row p w y = let e : y * w + w - y * w ≡ w = omega arith in rw e

  -- a part of n entries as a call is lent it
  pub part_length : (p : List A) (at n : ℕ) → at + n ≤ length p → length (take (at + n - at) (drop at p)) ≡ n
  part_length p at n h =
      let e : at + n - at ≡ n = omega arith in
      rw e (length-take-le n (drop at p) (rw (length-drop at p) (omega arith)))

  -- a part that is put back
  pub put_back : (p ys : List A) (at n : ℕ) → length ys ≡ n → take at p ++ (ys ++ drop (at + n - at) (drop at p)) ≡ splice p at ys
  unfolding splice
  put_back p ys at n e = let k : at + n - at ≡ length ys = omega arith in rw k
