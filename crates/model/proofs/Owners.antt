-- Places, limits and owners, over any places f of w columns.
--     owner_owns, owner_is, owns_unique     the owner of x is the one column that owns it
--     owns_stretch, stretch_owns            column c owns exactly the x from its place up to the limit of c + 1
--     limit_end, limit_step, limit_mono     the limits from the right; they do not fall to the right
--     limit_above, above_limit              x is below a limit exactly where it is below the row's end and each place from there on
--     place_zero, one_owner                 column 0's place is 0 or less, so every position has an owner
use Prim.Native.Nat.{ℕ, zero, suc, ◌+◌, ◌-◌, ◌<◌, ◌≤◌, min}
use mathlib.Core.Path.{◌≡◌, ◌∙◌, refl, sym, ap, subst}
use mathlib.Core.Bool.{Bool, true, false, cond}
use mathlib.Core.Logic.{⊎_elim}
use mathlib.Core.List.{List}
use native.Mathlib.Omega.{arith}
use native.Mathlib.Nat.{eq-or-lt_of_le, not-suc-le-zero}
use native.Mathlib.Numerals.{add-one}
use lib.Dec.{leb}
use borrow.Author.Tests.{leb-true, leb-false}
use Rattle.model.specs.Row.{Line, width, place, place_in, owner, limit, least, quarter}
use Rattle.model.proofs.Choice.{lt_or_le}

-- column c of w owns x: its place is at most x, and that of each column after it is above x
pub record Owns (f : ℕ → ℕ) (w x c : ℕ) : Type 0 where
  pub column : c < w
  pub here : f c ≤ x
  pub after : (j : ℕ) → c < j → j < w → x < f j

not_before : {f : ℕ → ℕ} {w x c e : ℕ} → Owns f w x c → Owns f w x e → c < e → ⊥
not_before {f} {w} {x} {c} {e} a b h = omega (arith, a.after e h b.column, b.here)

pub owns_unique : {f : ℕ → ℕ} {w x c e : ℕ} → Owns f w x c → Owns f w x e → c ≡ e
owns_unique {f} {w} {x} {c} {e} a b =
    ⊎_elim (λ h. absurd (not_before a b h))
    (λ h. ⊎_elim (λ k. absurd (not_before b a k)) (λ k. omega arith) (lt_or_le e c))
    (lt_or_le c e)

owner_step : (f : ℕ → ℕ) (x n o : ℕ) (t : Bool) → leb (f n) x ≡ t → (x < f n → Owns f n x o) → Owns f (suc n) x (cond t n o)
owner_step f x n o true e r =
    record { column = omega arith; here = leb-true _ _ e; after = λ j a b. absurd (omega arith) }
owner_step f x n o false e r =
    let h : x < f n = leb-false _ _ e in
    let q : Owns f n x o = r h in
    record {
      column = omega arith;
      here = q.here;
      after = λ j a b. ⊎_elim (λ l. q.after j a l) (λ l. let k : n ≡ j = omega arith in subst (λ (m : ℕ). x < f m) k h) (lt_or_le j n);
    }

pub owner_owns : (f : ℕ → ℕ) (x w : ℕ) → 0 < w → f 0 ≤ x → Owns f w x (owner f x w)
unfolding owner
owner_owns f x zero h z = absurd (not-suc-le-zero h)
owner_owns f x (suc zero) h z = owner_step f x 0 0 (leb (f 0) x) refl (λ l. absurd (omega arith))
owner_owns f x (suc (suc n)) h z =
    owner_step f x (suc n) (owner f x (suc n)) (leb (f (suc n)) x) refl (λ l. owner_owns f x (suc n) (omega arith) z)

pub owner_is : (f : ℕ → ℕ) (x w c : ℕ) → f 0 ≤ x → Owns f w x c → owner f x w ≡ c
owner_is f x w c z o = owns_unique (owner_owns f x w (omega (arith, o.column)) z) o

-- ---- the least place of some columns

pub least_above : (f : ℕ → ℕ) (top c n x : ℕ) → x < least f top c n → (x < top) × ((j : ℕ) → c ≤ j → j < c + n → x < f j)
unfolding least
least_above f top c zero x h = (h, λ j a b. absurd (omega arith))
least_above f top c (suc n) x h =
    let r : (x < top) × ((j : ℕ) → suc c ≤ j → j < suc c + n → x < f j) = least_above f top (suc c) n x (omega arith) in
    (r.0, λ j a b. ⊎_elim (λ e. subst (λ (m : ℕ). x < f m) e (omega arith)) (λ l. r.1 j l (omega arith)) (eq-or-lt_of_le a))

pub above_least : (f : ℕ → ℕ) (top c n x : ℕ) → x < top → ((j : ℕ) → c ≤ j → j < c + n → x < f j) → x < least f top c n
unfolding least
above_least f top c zero x h g = h
above_least f top c (suc n) x h g =
    let r : x < least f top (suc c) n = above_least f top (suc c) n x h (λ j a b. g j (omega arith) (omega arith)) in
    let k : x < f c = g c (omega arith) (omega arith) in
    omega arith

pub least_most : (f : ℕ → ℕ) (top c n : ℕ) → least f top c n ≤ top
unfolding least
least_most f top c zero = omega arith
least_most f top c (suc n) = omega (arith, least_most f top (suc c) n)

-- the least of the columns from c on, taken in two parts
pub least_join : (f : ℕ → ℕ) (top c m n : ℕ) → least f (least f top (c + m) n) c m ≡ least f top c (m + n)
unfolding least
least_join f top c zero n = let e : c + 0 ≡ c = omega arith in let k : 0 + n ≡ n = omega arith in rw (e, k)
least_join f top c (suc m) n =
    let e : c + suc m ≡ suc c + m = omega arith in
    let k : suc m + n ≡ suc (m + n) = omega arith in
    ap (λ (q : ℕ). least f (least f top q n) c (suc m)) e ∙ (ap (min (f c)) (least_join f top (suc c) m n) ∙ sym (ap (least f top c) k))

-- places that agree
pub least_same : (f g : ℕ → ℕ) (top c n : ℕ) → ((j : ℕ) → c ≤ j → g j ≡ f j) → least g top c n ≡ least f top c n
unfolding least
least_same f g top c zero h = refl
least_same f g top c (suc n) h =
    omega (arith, h c (omega arith), least_same f g top (suc c) n (λ j k. h j (omega arith)))

-- ---- limits

pub limit_above : (f : ℕ → ℕ) (w c x : ℕ) → c ≤ w → x < limit f w c → (x < quarter w) × ((j : ℕ) → c ≤ j → j < w → x < f j)
unfolding limit
limit_above f w c x k h =
    let r : (x < quarter w) × ((j : ℕ) → c ≤ j → j < c + (w - c) → x < f j) = least_above f (quarter w) c (w - c) x h in
    (r.0, λ j a b. r.1 j a (omega arith))

pub above_limit : (f : ℕ → ℕ) (w c x : ℕ) → x < quarter w → ((j : ℕ) → c ≤ j → j < w → x < f j) → x < limit f w c
unfolding limit
above_limit f w c x h g = above_least f (quarter w) c (w - c) x h (λ j a b. g j a (omega arith))

pub limit_end : (f : ℕ → ℕ) (w : ℕ) → limit f w w ≡ quarter w
unfolding limit least
limit_end f w = let e : w - w ≡ 0 = omega arith in rw e

pub limit_step : (f : ℕ → ℕ) (w c : ℕ) → c < w → limit f w c ≡ min (f c) (limit f w (c + 1))
unfolding limit least
limit_step f w c h =
    let e : w - c ≡ suc (w - suc c) = omega arith in
    rw (e, add-one)

pub limit_most : (f : ℕ → ℕ) (w c : ℕ) → limit f w c ≤ quarter w
unfolding limit
limit_most f w c = least_most f (quarter w) c (w - c)

pub limit_mono : (f : ℕ → ℕ) (w c : ℕ) → c < w → limit f w c ≤ limit f w (c + 1)
limit_mono f w c h = omega (arith, limit_step f w c h)

-- ---- what a column owns

pub owns_stretch : {f : ℕ → ℕ} {w x c : ℕ} → x < quarter w → Owns f w x c → (f c ≤ x) × (x < limit f w (c + 1))
owns_stretch {f} {w} {x} {c} h o =
    (o.here, above_limit f w (c + 1) x h (λ j a b. o.after j (omega arith) b))

pub stretch_owns : (f : ℕ → ℕ) (w x c : ℕ) → c < w → f c ≤ x → x < limit f w (c + 1) → Owns f w x c
stretch_owns f w x c k h l =
    record { column = k; here = h; after = λ j a b. (limit_above f w (c + 1) x (omega arith) l).1 j (omega arith) b }

-- among the columns below n only, the owner is the same below the limit of n
pub owner_below : (f : ℕ → ℕ) (w n x : ℕ) → 0 < n → n ≤ w → f 0 ≤ x → x < limit f w n → owner f x n ≡ owner f x w
owner_below f w n x h k z l =
    let o = owner_owns f x n h z in
    sym (owner_is f x w (owner f x n) z
    (record {
      column = omega (arith, o.column);
      here = o.here;
      after = λ j a b. ⊎_elim (λ u. o.after j a u) (λ u. (limit_above f w n x k l).1 j u b) (lt_or_le j n);
    }))

-- ---- the places of a row

pub place_zero : (t d : List ℕ) (p : ℕ) → place t d 0 ≤ quarter p
unfolding place
place_zero t d p = omega arith

-- position p of a row has the one owner that the drawing takes
pub one_owner : (l : Line) (p : ℕ) → p < width l → Owns (place_in l) (width l) (quarter p) (owner (place_in l) (quarter p) (width l))
one_owner l p h = owner_owns (place_in l) (quarter p) (width l) (omega arith) (place_zero l.table l.depths p)
