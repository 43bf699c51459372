-- The signed numbers of document 01 behind the raised ones of specs/Row.
use Prim.Native.Nat.{ℕ, zero, suc, ◌+◌, ◌-◌, ◌*◌, ◌<◌, ◌≤◌}
use mathlib.Core.Path.{◌≡◌, refl, sym, ap, ◌∙◌}
use mathlib.Core.Logic.{⊎_elim}
use mathlib.Core.List.{List}
use native.Mathlib.Omega.{arith}
use lib.Dec.{leb}
use lib.ListN.{get_or}
use lib.IntN.{ℤ, pos, neg_ℤ, sub_ℕ, ◌+ℤ◌, ◌-ℤ◌, +ℤ_assoc, +ℤ_comm, +ℤ_idl, +ℤ_invl, neg_ℤ-+ℤ, neg_ℤ-neg_ℤ}
use lib.Signed.{le_z}
use borrow.Author.Tests.{le-leb, lt-leb, lt-ltb, le-ltb}
use Rattle.model.specs.Row.{signed_place, place, quarter, raised, signed}
use Rattle.model.specs.Span.{least_edited, span_low}
use Rattle.model.proofs.Choice.{lt_or_le}
use Rattle.model.proofs.Owners.{above_least}

-- equal differences
pub sub_ℕ_same : (a b e g : ℕ) → a + g ≡ e + b → sub_ℕ a b ≡ sub_ℕ e g
sub_ℕ_same a b e g q = ⊎_elim below above (lt_or_le a b)
  where
    below : a < b → sub_ℕ a b ≡ sub_ℕ e g
    below h =
        let m : b - suc a ≡ g - suc e = omega arith in
        rw (lt-ltb a b h, lt-ltb e g (omega arith), m)

    above : b ≤ a → sub_ℕ a b ≡ sub_ℕ e g
    above h =
        let m : a - b ≡ e - g = omega arith in
        rw (le-ltb a b h, le-ltb e g (omega arith), m)

pub minus : (a b : ℕ) → pos a -ℤ pos b ≡ sub_ℕ a b
minus a zero = let e : a + 0 ≡ a - 0 = omega arith in ap pos e ∙ sym (rw (le-ltb a 0 (omega arith)))
minus a (suc b) = refl

pub signed_place_lem : (t d : List ℕ) (c : ℕ) → get_or t (get_or d c 0) 0 ≤ 1023 → signed (place t d c) ≡ signed_place t d c
unfolding place
signed_place_lem t d c h =
    sub_ℕ_same (quarter c - get_or t (get_or d c 0) 0) raised (4 * c) (get_or t (get_or d c 0) 0) (omega arith) ∙ sym (minus (4 * c) (get_or t (get_or d c 0) 0))

pub signed_quarter : (p : ℕ) → signed (quarter p) ≡ pos (4 * p)
signed_quarter p = let e : 4 * p + raised - raised ≡ 4 * p = omega arith in rw (le-ltb (quarter p) raised (omega arith), e)

leb_same : (a b c d : ℕ) → (a ≤ b → c ≤ d) → (b < a → d < c) → leb c d ≡ leb a b
leb_same a b c d f g =
    ⊎_elim (λ h. lt-leb c d (g h) ∙ sym (lt-leb a b h)) (λ h. le-leb c d (f h) ∙ sym (le-leb a b h)) (lt_or_le b a)

pub signed_le : (a b : ℕ) → le_z (signed a) (signed b) ≡ leb a b
signed_le a b =
    ⊎_elim
    (λ h. ⊎_elim
    (λ k. rw (lt-ltb a raised h, lt-ltb b raised k) (leb_same a b (raised - suc b) (raised - suc a) (λ u. omega arith) (λ u. omega arith)))
    (λ k. rw (lt-ltb a raised h, le-ltb b raised k) (sym (le-leb a b (omega arith))))
    (lt_or_le b raised))
    (λ h. ⊎_elim
    (λ k. rw (le-ltb a raised h, lt-ltb b raised k) (sym (lt-leb a b (omega arith))))
    (λ k. rw (le-ltb a raised h, le-ltb b raised k) (leb_same a b (a - raised) (b - raised) (λ u. omega arith) (λ u. omega arith)))
    (lt_or_le b raised))
    (lt_or_le a raised)

-- ---- differences

pub sub_ℕ_chain : (a b c : ℕ) → sub_ℕ a b +ℤ sub_ℕ b c ≡ sub_ℕ a c
sub_ℕ_chain a b c =
    rw (← minus a b, ← minus b c)
    (+ℤ_assoc (pos a) (neg_ℤ (pos b)) (pos b -ℤ pos c)
    ∙ ap (λ (x : ℤ). pos a +ℤ x)
    (sym (+ℤ_assoc (neg_ℤ (pos b)) (pos b) (neg_ℤ (pos c)))
    ∙ ap (λ (x : ℤ). x +ℤ neg_ℤ (pos c)) (+ℤ_invl (pos b))
    ∙ +ℤ_idl (neg_ℤ (pos c)))
    ∙ minus a c)

pub sub_ℕ_swap : (a b : ℕ) → neg_ℤ (sub_ℕ a b) ≡ sub_ℕ b a
sub_ℕ_swap a b =
    rw (← minus a b)
    (neg_ℤ-+ℤ (pos a) (neg_ℤ (pos b))
    ∙ ap (λ (x : ℤ). neg_ℤ (pos a) +ℤ x) (neg_ℤ-neg_ℤ (pos b))
    ∙ +ℤ_comm (neg_ℤ (pos a)) (pos b)
    ∙ minus b a)

pub signed_gap : (a b : ℕ) → signed a -ℤ signed b ≡ sub_ℕ a b
signed_gap a b = ap (λ (x : ℤ). signed a +ℤ x) (sub_ℕ_swap b raised) ∙ sub_ℕ_chain a raised b

-- ---- low

-- a raised place is at least 1
place_some : (t d : List ℕ) (c : ℕ) → ((i : ℕ) → get_or t i 0 ≤ 1023) → 0 < place t d c
unfolding place
place_some t d c h = omega (arith, h (get_or d c 0))

least_some : (t d e : List ℕ) (a b : ℕ) → ((i : ℕ) → get_or t i 0 ≤ 1023) → 0 < least_edited (place t d) (place t e) a b
unfolding least_edited
least_some t d e a b h =
    above_least (place t d) _ a (b + 1 - a) 0
    (above_least (place t e) (place t d (a - 1)) a (b + 1 - a) 0 (place_some t d (a - 1) h) (λ j u v. place_some t e j h))
    (λ j u v. place_some t d j h)

-- so low is one quarter below the least of the places
pub signed_low : (t d e : List ℕ) (a b : ℕ) → ((i : ℕ) → get_or t i 0 ≤ 1023) → signed (span_low (place t d) (place t e) a b) ≡ signed (least_edited (place t d) (place t e) a b) -ℤ pos 1
unfolding span_low
signed_low t d e a b h =
    sub_ℕ_same (least_edited (place t d) (place t e) a b - 1) raised (least_edited (place t d) (place t e) a b) (raised + 1) (omega (arith, least_some t d e a b h))
    ∙ sym (signed_gap (least_edited (place t d) (place t e) a b) (raised + 1))
