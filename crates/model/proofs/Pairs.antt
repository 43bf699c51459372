-- The kinds of a pair.
--     hidden_owns_nothing    a pair of gap 0 or less owns nothing
--     level_smooth           columns of one disparity are smooth, by every widest gap that is accepted
--     torn_far               and a torn gap is filled from its far side: the column with the smaller disparity
use Prim.Native.Nat.{ℕ, ◌+◌, ◌-◌, ◌<◌, ◌≤◌}
use mathlib.Core.Path.{◌≡◌}
use mathlib.Core.Bool.{true, false}
use mathlib.Core.Logic.{⊎_elim}
use native.Mathlib.Omega.{arith}
use lib.Dec.{ltb}
use lib.ListN.{get_or}
use lib.IntN.{sub_ℕ}
use borrow.Author.Tests.{lt-ltb, le-ltb, lt-leb}
use Rattle.model.specs.declared.Kind.TheVariants.{Hidden, Smooth, Torn}
use Rattle.model.specs.declared.Pixel.{Pixel}
use Rattle.model.specs.Row.{Line, place_in, place, kind_of, column_pixel, pair_pixel, torn_pixel}
use Rattle.model.proofs.Choice.{lt_or_le}
use Rattle.model.proofs.Owners.{Owns}

-- the kind of a pair whose places are a and, after it, b, by any widest gap g
pub kind_hidden : (g a b : ℕ) → b ≤ a → kind_of g (sub_ℕ b a) ≡ Hidden
unfolding kind_of
kind_hidden g a b h =
    ⊎_elim (λ k. rw (lt-ltb b a k)) (λ k. let z : b - a ≡ 0 = omega arith in rw (le-ltb b a k, z)) (lt_or_le b a)

pub kind_smooth : (g a b : ℕ) → a < b → b ≤ a + g → kind_of g (sub_ℕ b a) ≡ Smooth
unfolding kind_of
kind_smooth g a b h k =
    let z : ltb (b - a) 1 ≡ false = le-ltb (b - a) 1 (omega arith) in
    let y : ltb g (b - a) ≡ false = le-ltb g (b - a) (omega arith) in
    rw (le-ltb b a (omega arith), z, y)

pub kind_torn : (g a b : ℕ) → a + g < b → kind_of g (sub_ℕ b a) ≡ Torn
unfolding kind_of
kind_torn g a b h =
    let z : ltb (b - a) 1 ≡ false = le-ltb (b - a) 1 (omega arith) in
    let y : ltb g (b - a) ≡ true = lt-ltb g (b - a) (omega arith) in
    rw (le-ltb b a (omega arith), z, y)

not_torn : (g a b : ℕ) → kind_of g (sub_ℕ b a) ≡ Torn → b ≤ a + g → ⊥
not_torn g a b e h =
    ⊎_elim
    (λ k. let n = kind_smooth g a b k h in let z : ◌≡◌ {A = ℕ} 0 1 = cc in omega arith)
    (λ k. let n = kind_hidden g a b k in let z : ◌≡◌ {A = ℕ} 0 1 = cc in omega arith)
    (lt_or_le a b)

pub torn_gap : (g a b : ℕ) → kind_of g (sub_ℕ b a) ≡ Torn → a + g < b
torn_gap g a b e = ⊎_elim (λ h. h) (λ h. absurd (not_torn g a b e h)) (lt_or_le (a + g) b)

kind_not_hidden : (g a b : ℕ) → kind_of g (sub_ℕ b a) ≡ Hidden → b ≤ a
kind_not_hidden g a b e =
    ⊎_elim
    (λ h. ⊎_elim
    (λ k. let n = kind_torn g a b k in let z : ◌≡◌ {A = ℕ} 0 1 = cc in absurd (omega arith))
    (λ k. let n = kind_smooth g a b h k in let z : ◌≡◌ {A = ℕ} 0 1 = cc in absurd (omega arith))
    (lt_or_le (a + g) b))
    (λ h. h) (lt_or_le a b)

pub hidden_owns_nothing : (g : ℕ) (f : ℕ → ℕ) (w x c : ℕ) → c + 1 < w → kind_of g (sub_ℕ (f (c + 1)) (f c)) ≡ Hidden → Owns f w x c → ⊥
hidden_owns_nothing g f w x c h e o =
    omega (arith, kind_not_hidden g (f c) (f (c + 1)) e, o.here, o.after (c + 1) (omega arith) h)

-- the disparity of column c
abbrev pub disparity_in : Line → ℕ → ℕ
disparity_in l c = get_or l.table (get_or l.depths c 0) 0

-- Columns of one disparity are 4 apart, which is smooth by every widest gap that is accepted: a picture without depth has no tears.
pub level_smooth : (l : Line) (c : ℕ) → 4 ≤ l.tear.gap → disparity_in l c ≤ 1023 → disparity_in l (c + 1) ≡ disparity_in l c → kind_of l.tear.gap (sub_ℕ (place_in l (c + 1)) (place_in l c)) ≡ Smooth
unfolding place
level_smooth l c h hc e = kind_smooth l.tear.gap (place_in l c) (place_in l (c + 1)) (omega arith) (omega arith)

-- what a torn pair shows beyond the distance is the one of its columns with the smaller disparity
pub record Far (l : Line) (c j : ℕ) (shown : Pixel) : Type 0 where
  pub farther : disparity_in l j < disparity_in l c
  pub fills : shown ≡ column_pixel l j 1

pub torn_far : (l : Line) (c t : ℕ) → 4 ≤ l.tear.gap → disparity_in l c ≤ 1023 → disparity_in l (c + 1) ≤ 1023 → kind_of l.tear.gap (sub_ℕ (place_in l (c + 1)) (place_in l c)) ≡ Torn → l.tear.distance < t → Far l c (c + 1) (pair_pixel l c t)
unfolding place pair_pixel torn_pixel
torn_far l c t g hc hn e h =
    record {
      farther = omega (arith, torn_gap l.tear.gap (place_in l c) (place_in l (c + 1)) e);
      fills = rw (e, lt-leb t l.tear.distance h);
    }
