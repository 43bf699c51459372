-- A part of a row as a view reads it. n positions from `start` on are, for the view, the n entries from `first_column` of them on.
--     first_fits, first_first      these entries lie in the row; and back again
--     part_entry                   an entry of the part in the row
--     seen_splice                  a part replaced, as the view reads the row
--     seen_filled                  the part holds what a rule gives
--     seen_all                     a part that was filled whole
--     seen_part, painted_seen      parts that were lent, filled and put back
use Prim.Native.Nat.{ℕ, ◌+◌, ◌-◌, ◌<◌, ◌≤◌}
use mathlib.Core.Path.{◌≡◌, refl, sym, ap, ◌∙◌}
use mathlib.Core.Bool.{Bool, true, false}
use mathlib.Core.List.{List, ◌++◌, reverse, reverse-append, append_assoc}
use native.Mathlib.Omega.{arith}
use lib.ListN.{length, get_or, take, drop, length-reverse, length-drop, take-append-drop}
use lib.Seq.{length-take-le, take_at, drop_at}
use Rattle.model.specs.declared.Pixel.{Pixel}
use Rattle.model.specs.Lists.{list_of}
use Rattle.model.specs.Views.{seen, entry_of}
use Rattle.model.specs.Span.{first_column}
use Rattle.model.proofs.Views.{length_seen, seen_seen}
use Rattle.planes.specs.Parts.{splice, Filled, Painted}
use Rattle.planes.proofs.Fills.{filled_splice, filled_all}

pub first_fits : (r : Bool) (w a n : ℕ) → a + n ≤ w → first_column r w a n + n ≤ w
unfolding first_column
first_fits true w a n h = omega arith
first_fits false w a n h = h

pub first_first : (r : Bool) (w a n : ℕ) → a + n ≤ w → first_column r w (first_column r w a n) n ≡ a
unfolding first_column
first_first true w a n h = omega arith
first_first false w a n h = refl

-- position i of the part is position start + i of the row
pub part_entry : (r : Bool) (w start n i : ℕ) → start + n ≤ w → i < n → first_column r w start n + entry_of r n i ≡ entry_of r w (start + i)
unfolding first_column entry_of
part_entry true w start n i h k = omega arith
part_entry false w start n i h k = refl

module _ {A : Type 0} where
  three : (a b c : List A) → reverse (a ++ (b ++ c)) ≡ reverse c ++ (reverse b ++ reverse a)
  three a b c =
      reverse-append a (b ++ c) ∙ ap (λ (r : List A). r ++ reverse a) (reverse-append b c) ∙ append_assoc (reverse c) (reverse b) (reverse a)

  split : (at n : ℕ) (xs : List A) → xs ≡ take at xs ++ (take n (drop at xs) ++ drop n (drop at xs))
  split at n xs = sym (ap (λ (r : List A). take at xs ++ r) (take-append-drop n (drop at xs)) ∙ take-append-drop at xs)

  -- the middle one of three lists replaced
  splice_middle : (a b c ys : List A) (at : ℕ) → length a ≡ at → length ys ≡ length b → splice (a ++ (b ++ c)) at ys ≡ a ++ (ys ++ c)
  unfolding splice
  splice_middle a b c ys at e k = rw (take_at a (b ++ c) at e, drop_at a (b ++ c) at e, drop_at b c (length ys) (sym k))

  backwards : (xs ys : List A) (start : ℕ) → start + length ys ≤ length xs → reverse (splice xs (length xs - (start + length ys)) ys) ≡ splice (reverse xs) start (reverse ys)
  unfolding splice
  backwards xs ys start h =
      let n : ℕ = length ys in
      let at : ℕ = length xs - (start + length ys) in
      let a : List A = take at xs in
      let b : List A = take n (drop at xs) in
      let c : List A = drop n (drop at xs) in
      let lb : length b ≡ length ys = length-take-le n (drop at xs) (rw (length-drop at xs) (omega arith)) in
      let lc : length (reverse c) ≡ start = length-reverse c ∙ length-drop n (drop at xs) ∙ (rw (length-drop at xs) (omega arith)) in
      let old : reverse xs ≡ reverse c ++ (reverse b ++ reverse a) = ap reverse (split at n xs) ∙ three a b c in
      three a ys c
      ∙ sym (ap (λ (l : List A). splice l start (reverse ys)) old
      ∙ splice_middle (reverse c) (reverse b) (reverse a) (reverse ys) start lc (length-reverse ys ∙ sym (length-reverse b ∙ lb)))

  -- a part replaced, as the view reads the row
  pub seen_splice : (r : Bool) (xs ys : List A) (start : ℕ) → start + length ys ≤ length xs → seen r (splice xs (first_column r (length xs) start (length ys)) ys) ≡ splice (seen r xs) start (seen r ys)
  unfolding seen first_column
  seen_splice true xs ys start h = backwards xs ys start h
  seen_splice false xs ys start h = refl

  -- and the part holds what a rule gives
  pub seen_filled : (z : A) (f : ℕ → A) (r : Bool) (xs ys : List A) (start at : ℕ) → start + length ys ≤ length xs → at ≡ first_column r (length xs) start (length ys) → ((i : ℕ) → i < length ys → get_or (seen r ys) i z ≡ f (start + i)) → Filled z f start (start + length ys) (seen r xs) (seen r (splice xs at ys))
  seen_filled z f r xs ys start at h e g =
      let n = length_seen r ys in
      let d : Filled z f start (start + length (seen r ys)) (seen r xs) (splice (seen r xs) start (seen r ys)) =
      filled_splice z f start (seen r xs) (seen r ys) (rw (n, length_seen r xs) h) (λ i l. g i (rw n at l)) in
      rw (e, seen_splice r xs ys start h) (rw n at d)

  -- a part that was filled whole, as the view reads it
  pub seen_all : (z : A) (r : Bool) (f : ℕ → A) (n : ℕ) {x : List A} (ys : List A) → length ys ≡ n → Filled z f 0 n x (seen r ys) → ys ≡ seen r (list_of f n)
  seen_all z r f n ys e h = sym (seen_seen r ys) ∙ ap (seen r) (filled_all h (length_seen r ys ∙ e))

  -- a part that was lent, filled and put back
  pub seen_part : (z : A) (f : ℕ → A) (r : Bool) (xs ys : List A) (start n at : ℕ) {x : List A} → start + n ≤ length xs → at ≡ first_column r (length xs) start n → length ys ≡ n → Filled z (λ i. f (start + i)) 0 n x (seen r ys) → Filled z f start (start + n) (seen r xs) (seen r (splice xs at ys))
  seen_part z f r xs ys start n at h e k d =
      rw k at (seen_filled z f r xs ys start at (rw k h) (rw k e) (λ i l. d.inside i (omega arith) (rw k at l)))

-- the three planes of a row, whose parts were lent, painted and put back
pub painted_seen : (r : Bool) (g : ℕ → Pixel) (start n at w : ℕ) (s f m s' f' m' : List ℕ) {x y z : List ℕ} → start + n ≤ w → at ≡ first_column r w start n → length s ≡ w → length f ≡ w → length m ≡ w → length s' ≡ n → length f' ≡ n → length m' ≡ n → Painted (λ i. g (start + i)) 0 n x y z (seen r s') (seen r f') (seen r m') → Painted g start (start + n) (seen r s) (seen r f) (seen r m) (seen r (splice s at s')) (seen r (splice f at f')) (seen r (splice m at m'))
painted_seen r g start n at w s f m s' f' m' h e ws wf wm ls lf lm d =
    record {
      samples = seen_part 0 (λ p. (g p).sample) r s s' start n at (rw ws h) (rw ws e) ls d.samples;
      fronts = seen_part 0 (λ p. (g p).front) r f f' start n at (rw wf h) (rw wf e) lf d.fronts;
      marks = seen_part 0 (λ p. (g p).mark) r m m' start n at (rw wm h) (rw wm e) lm d.marks;
    }
