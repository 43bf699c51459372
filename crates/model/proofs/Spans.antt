-- The span law: outside the span of an edit nothing that is shown changes, and limits change at columns up to b only.
-- Enough, because a position and the next quarter keep their owners there, and neither these nor the columns after them are ones that the edit
-- moved. For the next quarter low is one quarter lower than the places that the edit moves.
--     apart_owns       the owner of a quarter that the edit does not reach, after the edit
--     span_pixel       so a position outside the span shows the same
--     span_limit       and the limits beyond b stay
use Prim.Native.Nat.{ℕ, ◌+◌, ◌-◌, ◌<◌, ◌≤◌}
use mathlib.Core.Path.{◌≡◌, sym, ap, subst, ◌∙◌}
use mathlib.Core.Bool.{false}
use mathlib.Core.Logic.{⊎_elim, ◌⊎◌, inl, inr}
use mathlib.Core.List.{List}
use native.Mathlib.Omega.{arith}
use lib.Dec.{leb, ltb}
use lib.ListN.{length, get_or}
use borrow.Author.Tests.{leb-false, ltb-false}
use Rattle.model.specs.declared.Tear.{Tear}
use Rattle.model.specs.Row.{line, place, owner, limit, least, quarter, signed, limit_at, pixel_at, owned_pixel, last_pixel, pair_pixel, smooth_pixel, torn_pixel}
use Rattle.model.specs.Span.{least_edited, span_low, span_high, in_span}
use Rattle.model.proofs.Choice.{lt_or_le, and_false}
use Rattle.model.proofs.Owners.{Owns, owner_owns, owner_is, above_limit, least_above, least_same, place_zero}
use Rattle.model.proofs.Edges.{by_owners, near_owners}

-- f and g are places before and after an edit of columns a to b
pub record Moved (f g : ℕ → ℕ) (w a b : ℕ) : Type 0 where
  pub order : a ≤ b
  pub within : b < w
  pub under : (c : ℕ) → c < a → g c ≡ f c
  pub beyond : (c : ℕ) → b < c → g c ≡ f c

-- x is not in the span
abbrev pub Outside : (ℕ → ℕ) → (ℕ → ℕ) → ℕ → ℕ → ℕ → ℕ → Type 0
Outside f g w a b x = (x < span_low f g a b) ⊎ (span_high f w b ≤ x)

pub not_in_span : (f g : ℕ → ℕ) (w a b p : ℕ) → in_span f g w a b p ≡ false → Outside f g w a b (quarter p)
unfolding in_span
not_in_span f g w a b p e =
    ⊎_elim (λ h. inl (leb-false _ _ h)) (λ h. inr (ltb-false _ _ h))
    (and_false (leb (span_low f g a b) (quarter p)) (ltb (quarter p) (span_high f w b)) e)

-- a column that the edit and its pair do not touch
abbrev pub Apart : ℕ → ℕ → ℕ → Type 0
Apart a b c = (c + 1 < a) ⊎ (b < c)

module _ {f g : ℕ → ℕ} {w a b x c : ℕ} (moved : Moved f g w a b) (o : Owns f w x c) where
  agree : (j : ℕ) → (j < a) ⊎ (b < j) → g j ≡ f j
  agree j h = ⊎_elim (λ k. moved.under j k) (λ k. moved.beyond j k) h

  low_case : x < least_edited f g a b → Owns g w x c × Apart a b c
  unfolding least_edited
  low_case h =
      let n : ℕ = b + 1 - a in
      let r = least_above f (least g (f (a - 1)) a n) a n x h in
      let q = least_above g (f (a - 1)) a n x r.0 in
      let before : c < a → c + 1 < a = λ k.
      ⊎_elim (λ m. m)
      (λ m. let e : a - 1 ≡ c = omega arith in let y : x < f c = subst (λ (i : ℕ). x < f i) e q.0 in absurd (omega (arith, o.here)))
      (lt_or_le (c + 1) a) in
      let out : (c < a) ⊎ (b < c) =
      ⊎_elim (λ k. inl k)
      (λ k. ⊎_elim (λ m. inr m) (λ m. absurd (omega (arith, r.1 c k (omega (arith, moved.order)), o.here))) (lt_or_le b c))
      (lt_or_le c a) in
      let after : (j : ℕ) → c < j → j < w → x < g j = λ j k m.
      ⊎_elim (λ u. subst (λ (i : ℕ). x < i) (sym (moved.under j u)) (o.after j k m))
      (λ u. ⊎_elim (λ v. subst (λ (i : ℕ). x < i) (sym (moved.beyond j v)) (o.after j k m)) (λ v. q.1 j u (omega (arith, moved.order))) (lt_or_le b j))
      (lt_or_le j a) in (
        record { column = o.column; here = subst (λ (i : ℕ). i ≤ x) (sym (agree c out)) o.here; after = after },
        ⊎_elim (λ k. inl (before k)) (λ k. inr k) out,
      )

  high_case : x < quarter w → span_high f w b ≤ x → Owns g w x c × Apart a b c
  unfolding span_high
  high_case e h =
      let k : b < c = ⊎_elim (λ m. m) (λ m. absurd (omega (arith, above_limit f w (b + 1) x e (λ j u v. o.after j (omega arith) v)))) (lt_or_le b c) in (
        record {
          column = o.column;
          here = subst (λ (i : ℕ). i ≤ x) (sym (moved.beyond c k)) o.here;
          after = λ j u v. subst (λ (i : ℕ). x < i) (sym (moved.beyond j (omega arith))) (o.after j u v);
        },
        inr k,
      )

  pub apart_owns : x < quarter w → (x < least_edited f g a b) ⊎ (span_high f w b ≤ x) → Owns g w x c × Apart a b c
  apart_owns e h = ⊎_elim low_case (high_case e) h

pub moved_limit : {f g : ℕ → ℕ} {w a b : ℕ} → Moved f g w a b → (c : ℕ) → b < c → limit g w c ≡ limit f w c
unfolding limit
moved_limit {f} {g} {w} m c h = least_same f g (quarter w) c (w - c) (λ j k. m.beyond j (omega arith))

-- ---- depths

-- e is d but for columns a to b
pub record EditedRow (d e : List ℕ) (a b : ℕ) : Type 0 where
  pub same : length e ≡ length d
  pub order : a ≤ b
  pub within : b < length d
  pub under : (c : ℕ) → c < a → get_or e c 0 ≡ get_or d c 0
  pub beyond : (c : ℕ) → b < c → get_or e c 0 ≡ get_or d c 0

pub edited_moved : (t d e : List ℕ) (a b : ℕ) → EditedRow d e a b → Moved (place t d) (place t e) (length d) a b
unfolding place
edited_moved t d e a b h =
    record {
      order = h.order;
      within = h.within;
      under = λ c k. rw (h.under c k);
      beyond = λ c k. rw (h.beyond c k);
    }

-- A column apart from the edit shows the same wherever it owns. A filter reads samples of eight columns, some of which the edit may move, but of depths those of
-- the pair alone: the samples s are the same before and after.
pub apart_same : (tear : Tear) (t s d e : List ℕ) (a b c x : ℕ) → EditedRow d e a b → Apart a b c → owned_pixel (line tear t s e) c x ≡ owned_pixel (line tear t s d) c x
unfolding owned_pixel last_pixel pair_pixel smooth_pixel torn_pixel
apart_same tear t s d e a b c x h o =
    let here : get_or e c 0 ≡ get_or d c 0 = ⊎_elim (λ k. h.under c (omega arith)) (λ k. h.beyond c k) o in
    let next : get_or e (c + 1) 0 ≡ get_or d (c + 1) 0 = ⊎_elim (λ k. h.under (c + 1) k) (λ k. h.beyond (c + 1) (omega arith)) o in
    let m = edited_moved t d e a b h in
    let p : place t e c ≡ place t d c = ⊎_elim (λ k. m.under c (omega arith)) (λ k. m.beyond c k) o in
    let q : place t e (c + 1) ≡ place t d (c + 1) = ⊎_elim (λ k. m.under (c + 1) k) (λ k. m.beyond (c + 1) (omega arith)) o in
    simp (p, q, here, next, h.same)

-- so what follows from two such owners is the same
owners_same : (tear : Tear) (t s d e : List ℕ) (a b c o x : ℕ) → EditedRow d e a b → Apart a b c → Apart a b o → by_owners (line tear t s e) c o x ≡ by_owners (line tear t s d) c o x
unfolding by_owners
owners_same tear t s d e a b c o x h apart far =
    let m = edited_moved t d e a b h in
    let next : place t e (c + 1) ≡ place t d (c + 1) = ⊎_elim (λ k. m.under (c + 1) k) (λ k. m.beyond (c + 1) (omega arith)) apart in
    let front : get_or e o 0 ≡ get_or d o 0 = ⊎_elim (λ k. h.under o (omega arith)) (λ k. h.beyond o k) far in
    rw (next, front, apart_same tear t s d e a b c x h apart)

pub span_pixel : (tear : Tear) (t s d e : List ℕ) (a b p : ℕ) → EditedRow d e a b → p < length d → Outside (place t d) (place t e) (length d) a b (quarter p) → pixel_at (line tear t s e) p ≡ pixel_at (line tear t s d) p
unfolding pixel_at span_low
span_pixel tear t s d e a b p h k out =
    let f = place t d in
    let g = place t e in
    let m = edited_moved t d e a b h in
    let c : ℕ = owner f (quarter p) (length d) in
    let o : ℕ = owner f (quarter p + 1) (length d) in
    let oc : Owns f (length d) (quarter p) c = owner_owns f (quarter p) (length d) (omega arith) (place_zero t d p) in
    let oo : Owns f (length d) (quarter p + 1) o = owner_owns f (quarter p + 1) (length d) (omega arith) (omega (arith, place_zero t d p)) in
    let rc = apart_owns m oc (omega arith) (⊎_elim (λ u. inl (omega arith)) (λ u. inr u) out) in
    let ro = apart_owns m oo (omega arith) (⊎_elim (λ u. inl (omega arith)) (λ u. inr (omega arith)) out) in
    let same : owner g (quarter p) (length d) ≡ c = owner_is g (quarter p) (length d) c (place_zero t e p) rc.0 in
    rw (h.same, same)
    (near_owners (line tear t s e) (quarter p) c o (rw h.same (omega arith)) (rw h.same rc.0) (rw h.same ro.0)
    ∙ owners_same tear t s d e a b c o (quarter p) h rc.1 ro.1
    ∙ sym (near_owners (line tear t s d) (quarter p) c o (omega arith) oc oo))

pub span_limit : (tear : Tear) (t s d e : List ℕ) (a b c : ℕ) → EditedRow d e a b → b < c → limit_at (line tear t s e) c ≡ limit_at (line tear t s d) c
unfolding limit_at
span_limit tear t s d e a b c h k = rw h.same (ap signed (moved_limit (edited_moved t d e a b h) c k))
