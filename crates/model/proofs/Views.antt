-- A row as a view reads it.
--     length_seen, seen_seen, get_or_seen, set_seen     a reversed list, its entries, and a store
--     entry_within, entry_entry                       entries and positions, both ways
--     get_or_view_.., shown_view                      what a view's drawn row has and shows at an entry
use Prim.Native.Nat.{ℕ, suc, ◌-◌, ◌<◌}
use mathlib.Core.Path.{◌≡◌, refl, sym, ap, ◌∙◌}
use mathlib.Core.Bool.{Bool, true, false}
use mathlib.Core.Logic.{⊎_elim}
use mathlib.Core.List.{List, [], ◌∷◌, reverse, reverse-cons, reverse-reverse}
use native.Mathlib.Omega.{arith}
use native.Mathlib.Nat.{not-suc-le-zero}
use lib.ListN.{length, get_or, set, length-reverse, length-set, get_or-append}
use lib.Seq.{get_or_at, get_or-set_same, get_or-set_other, ext_get_or}
use lib.IntN.{pos}
use Rattle.model.specs.Lists.{list_of}
use Rattle.model.specs.Fresh.{shown_at}
use Rattle.model.specs.Row.{Line, line, width, pixel_at, limit_at, left_row}
use Rattle.model.specs.Views.{seen, view_row, entry_of}
use Rattle.model.proofs.Choice.{lt_or_le}
use Rattle.model.proofs.Lists.{length-list_of, get_or-list_of}

pub entry_within : (r : Bool) (w i : ℕ) → i < w → entry_of r w i < w
unfolding entry_of
entry_within true w i h = omega arith
entry_within false w i h = h

pub entry_entry : (r : Bool) (w i : ℕ) → i < w → entry_of r w (entry_of r w i) ≡ i
unfolding entry_of
entry_entry true w i h = omega arith
entry_entry false w i h = refl

module _ {A : Type 0} where
  get_or_reverse : (z : A) (l : List A) (i : ℕ) → i < length l → get_or (reverse l) i z ≡ get_or l (length l - 1 - i) z
  get_or_reverse z [] i h = absurd (not-suc-le-zero h)
  get_or_reverse z (x ∷ xs) i h =
      ap (λ (w : List A). get_or w i z) (reverse-cons x xs)
      ∙ ⊎_elim
      (λ k. let e : suc (length xs - 1 - i) ≡ suc (length xs) - 1 - i = omega arith in
      get_or-append (reverse xs) (x ∷ []) z i (omega (arith, length-reverse xs)) ∙ get_or_reverse z xs i k ∙ ap (λ (j : ℕ). get_or (x ∷ xs) j z) e)
      (λ k. let e : 0 ≡ suc (length xs) - 1 - i = omega arith in
      let n : length (reverse xs) ≡ i = omega (arith, length-reverse xs) in
      get_or_at (reverse xs) x [] z i n ∙ ap (λ (j : ℕ). get_or (x ∷ xs) j z) e)
      (lt_or_le i (length xs))

  set_reverse : (z : A) (l : List A) (i : ℕ) (v : A) → i < length l → reverse (set l (length l - 1 - i) v) ≡ set (reverse l) i v
  set_reverse z l i v h =
      let n : length (reverse (set l (length l - 1 - i) v)) ≡ length l = length-reverse (set l (length l - 1 - i) v) ∙ length-set l (length l - 1 - i) v in
      let m : length (set (reverse l) i v) ≡ length l = length-set (reverse l) i v ∙ length-reverse l in
      ext_get_or z (reverse (set l (length l - 1 - i) v)) (set (reverse l) i v) (n ∙ sym m)
      (λ j k.
      let j< : j < length l = omega arith in
      let k' : j < length (set l (length l - 1 - i) v) = omega (arith, length-set l (length l - 1 - i) v) in
      let e : length (set l (length l - 1 - i) v) - 1 - j ≡ length l - 1 - j = ap (λ (q : ℕ). q - 1 - j) (length-set l (length l - 1 - i) v) in
      let other : (j ≡ i → ⊥) → get_or (set l (length l - 1 - i) v) (length l - 1 - j) z ≡ get_or (set (reverse l) i v) j z = λ ne.
      get_or-set_other l (length l - 1 - i) (length l - 1 - j) v z (λ q. ne (omega arith)) ∙ sym (get_or_reverse z l j j<)
      ∙ sym (get_or-set_other (reverse l) i j v z ne) in
      get_or_reverse z (set l (length l - 1 - i) v) j k' ∙ ap (λ (q : ℕ). get_or (set l (length l - 1 - i) v) q z) e
      ∙ ⊎_elim (λ u. other (λ q. omega arith))
      (λ u. ⊎_elim (λ w. other (λ q. omega arith))
      (λ w. let q : j ≡ i = omega arith in
      ap (λ (r : ℕ). get_or (set l (length l - 1 - i) v) (length l - 1 - r) z) q ∙ get_or-set_same l (length l - 1 - i) v z (omega arith)
      ∙ sym (ap (λ (r : ℕ). get_or (set (reverse l) i v) r z) q ∙ get_or-set_same (reverse l) i v z (omega (arith, length-reverse l))))
      (lt_or_le i j))
      (lt_or_le j i))

  pub get_or_seen : (z : A) (r : Bool) (l : List A) (i : ℕ) → i < length l → get_or (seen r l) i z ≡ get_or l (entry_of r (length l) i) z
  unfolding seen entry_of
  get_or_seen z true l i h = get_or_reverse z l i h
  get_or_seen z false l i h = refl

  pub length_seen : (r : Bool) (l : List A) → length (seen r l) ≡ length l
  unfolding seen
  length_seen true l = length-reverse l
  length_seen false l = refl

  pub seen_seen : (r : Bool) (l : List A) → seen r (seen r l) ≡ l
  unfolding seen
  seen_seen true l = reverse-reverse l
  seen_seen false l = refl

  pub set_seen : (z : A) (r : Bool) (l : List A) (i : ℕ) (v : A) → i < length l → seen r (set l (entry_of r (length l) i) v) ≡ set (seen r l) i v
  unfolding seen entry_of
  set_seen z true l i v h = set_reverse z l i v h
  set_seen z false l i v h = refl

  -- the list of a rule, seen by a view
  pub length-seen_list : (r : Bool) (f : ℕ → A) (n : ℕ) → length (seen r (list_of f n)) ≡ n
  length-seen_list r f n = length_seen r (list_of f n) ∙ length-list_of f n

  pub get_or_seen_list : (z : A) (r : Bool) (f : ℕ → A) (n i : ℕ) → i < n → get_or (seen r (list_of f n)) i z ≡ f (entry_of r n i)
  get_or_seen_list z r f n i h =
      let l = length-list_of f n in
      get_or_seen z r (list_of f n) i (rw l h)
      ∙ ap (λ (m : ℕ). get_or (list_of f n) (entry_of r m i) z) l
      ∙ get_or-list_of z f n (entry_of r n i) (entry_within r n i h)

-- a row as the view reads it
abbrev pub seen_line : Bool → Line → Line
seen_line r l = line l.tear l.table (seen r l.texture) (seen r l.depths)

module _ (r : Bool) (l : Line) where
  wide : width (seen_line r l) ≡ width l
  wide = length_seen r l.depths

  pub length-view_samples : length (view_row r l).samples ≡ width l
  unfolding view_row left_row
  length-view_samples = length-seen_list r _ _ ∙ wide

  pub length-view_marks : length (view_row r l).marks ≡ width l
  unfolding view_row left_row
  length-view_marks = length-seen_list r _ _ ∙ wide

  pub length-view_fronts : length (view_row r l).fronts ≡ width l
  unfolding view_row left_row
  length-view_fronts = length-seen_list r _ _ ∙ wide

  pub length-view_limits : length (view_row r l).limits ≡ width l
  unfolding view_row left_row
  length-view_limits = length-seen_list r _ _ ∙ wide

  module _ (i : ℕ) (h : i < width l) where
    at_width : {A : Type 0} (z : A) (f : ℕ → A) → get_or (seen r (list_of f (width (seen_line r l)))) i z ≡ f (entry_of r (width l) i)
    at_width z f = get_or_seen_list z r f (width (seen_line r l)) i (rw wide h) ∙ ap (λ (m : ℕ). f (entry_of r m i)) wide

    pub get_or_view_samples : get_or (view_row r l).samples i 0 ≡ (pixel_at (seen_line r l) (entry_of r (width l) i)).sample
    unfolding view_row left_row
    get_or_view_samples = at_width 0 (λ p. (pixel_at (seen_line r l) p).sample)

    pub get_or_view_marks : get_or (view_row r l).marks i 0 ≡ (pixel_at (seen_line r l) (entry_of r (width l) i)).mark
    unfolding view_row left_row
    get_or_view_marks = at_width 0 (λ p. (pixel_at (seen_line r l) p).mark)

    pub get_or_view_fronts : get_or (view_row r l).fronts i 0 ≡ (pixel_at (seen_line r l) (entry_of r (width l) i)).front
    unfolding view_row left_row
    get_or_view_fronts = at_width 0 (λ p. (pixel_at (seen_line r l) p).front)

    pub get_or_view_limits : get_or (view_row r l).limits i (pos 0) ≡ limit_at (seen_line r l) (entry_of r (width l) i)
    unfolding view_row left_row
    get_or_view_limits = at_width (pos 0) (limit_at (seen_line r l))

    pub shown_view : shown_at (view_row r l) i ≡ pixel_at (seen_line r l) (entry_of r (width l) i)
    shown_view = rw (get_or_view_samples, get_or_view_marks, get_or_view_fronts)
