-- Reading a number and what ends it: the number that was printed is read, and what was read is what was printed.
--     then_got                          two steps that read something each read something
--     digits-.., number-..              how a further byte goes on a number
--     number_printed, number_read       a number
--     field_printed, field_read         a number and the byte that ends it
use Prim.Native.Nat.{ℕ, zero, suc, ◌+◌, ◌-◌, ◌*◌, ◌/◌, ◌%◌, ◌<◌, ◌≤◌}
use mathlib.Core.Path.{◌≡◌, refl, sym, ap, ◌∙◌}
use mathlib.Core.Logic.{⊎_elim}
use mathlib.Core.List.{List, [], ◌∷◌, ◌++◌, append_assoc}
use native.Mathlib.Omega.{arith}
use lib.Dec.{ltb, eqb}
use lib.ListN.{length}
use borrow.Author.Tests.{lt-ltb, le-ltb, eq-eqb, ne_eqb, ltb-false, eqb-true}
use Rattle.std.specs.Prelude.{Some, None}
use Rattle.std.proofs.lemmas.List.{nil_from_length}
use Rattle.model.proofs.Choice.{bool_cases, lt_or_le}
use Rattle.rowtext.specs.Format.{digit, decimal}
use Rattle.rowtext.specs.Reader.{Step, got, nothing, then, digit_of, read_digits, read_number, read_mark, read_field}
use Rattle.rowtext.proofs.Decimal.{decimal_digit, decimal_more, decimal_ends}

pub got≢nothing : {A : Type 0} {a : A} {l : List ℕ} {X : Type 0} → nothing ≡ got a l → X
got≢nothing e = cc

pub got_value : {A : Type 0} {a b : A} {l m : List ℕ} → got a l ≡ got b m → a ≡ b
got_value e = cc

pub got_rest : {A : Type 0} {a b : A} {l m : List ℕ} → got a l ≡ got b m → l ≡ m
got_rest e = cc

module _ {A B : Type 0} where
  pub then_got : (s : Step A) (f : A → List ℕ → Step B) (b : B) (l : List ℕ) → then s f ≡ got b l → (a : A) × (m : List ℕ) × (s ≡ got a m) × (f a m ≡ got b l)
  then_got (got a m) f b l e = (a, m, refl, e)
  then_got nothing f b l e = got≢nothing e

-- a byte that is a digit, and one that is none
pub digit_byte : (b d : ℕ) → digit_of b ≡ Some d → (digit d ≡ b) × (d < 10)
unfolding digit_of
digit_byte b d =
    bool_cases (ltb b 48)
    (λ p. rw p (λ e. cc))
    (λ p. bool_cases (ltb 57 b) (λ q. rw (p, q) (λ e. cc)) (λ q. rw (p, q) (λ e. let f : b - 48 ≡ d = cc in (omega (arith, ltb-false b 48 p), omega (arith, ltb-false 57 b q)))))

pub byte_digit : (d : ℕ) → d < 10 → digit_of (digit d) ≡ Some d
unfolding digit_of
byte_digit d h =
    let e : 48 + d - 48 ≡ d = omega arith in
    rw (le-ltb (48 + d) 48 (omega arith), le-ltb 57 (48 + d) (omega arith), e)

pub no_digit : (b : ℕ) → b < 48 → digit_of b ≡ None
unfolding digit_of
no_digit b h = rw (lt-ltb b 48 h)

-- how a further byte goes on a number
pub digits_more : (most v b d : ℕ) (bs : List ℕ) → digit_of b ≡ Some d → 0 < v → 10 * v + d ≤ most → read_digits most v (b ∷ bs) ≡ read_digits most (10 * v + d) bs
unfolding read_digits
digits_more most v b d bs e h k = rw (e, read_digits, ne_eqb v 0 (λ z. omega arith), le-ltb most (10 * v + d) k)

pub digits_zero : (most v b d : ℕ) (bs : List ℕ) → digit_of b ≡ Some d → v ≡ 0 → read_digits most v (b ∷ bs) ≡ nothing
unfolding read_digits
digits_zero most v b d bs e h = rw (e, read_digits, eq-eqb v 0 h)

pub digits_large : (most v b d : ℕ) (bs : List ℕ) → digit_of b ≡ Some d → most < 10 * v + d → read_digits most v (b ∷ bs) ≡ nothing
unfolding read_digits
digits_large most v b d bs e h =
    bool_cases (eqb v 0) (λ z. rw (e, read_digits, z)) (λ z. rw (e, read_digits, z, lt-ltb most (10 * v + d) h))

pub digits_stop : (most v b : ℕ) (bs : List ℕ) → digit_of b ≡ None → read_digits most v (b ∷ bs) ≡ got v (b ∷ bs)
unfolding read_digits
digits_stop most v b bs e = rw (e, read_digits)

pub digits_end : (most v : ℕ) (l : List ℕ) → length l ≡ 0 → read_digits most v l ≡ got v l
unfolding read_digits
digits_end most v l h = rw (nil_from_length l h)

pub number_first : (most b d : ℕ) (bs : List ℕ) → digit_of b ≡ Some d → read_number most (b ∷ bs) ≡ read_digits most d bs
unfolding read_number
number_first most b d bs e = rw (e, read_number)

pub number_none : (most b : ℕ) (bs : List ℕ) → digit_of b ≡ None → read_number most (b ∷ bs) ≡ nothing
unfolding read_number
number_none most b bs e = rw (e, read_number)

pub number_end : (most : ℕ) (l : List ℕ) → length l ≡ 0 → read_number most l ≡ nothing
unfolding read_number
number_end most l h = rw (nil_from_length l h)

one_printed : (most n : ℕ) (l : List ℕ) → n < 10 → read_number most (decimal n ++ l) ≡ read_digits most n l
one_printed most n l h = rw (decimal_digit n h, number_first most (digit n) n l (byte_digit n h))

-- k is at least the number, to go down by
below_printed : (most k n : ℕ) (l : List ℕ) → n ≤ k → n ≤ most → read_number most (decimal n ++ l) ≡ read_digits most n l
below_printed most zero n l p q = one_printed most n l (omega arith)
below_printed most (suc k) n l p q =
    ⊎_elim (one_printed most n l)
    (λ (h : 10 ≤ n).
    let m : 10 * (n / 10) + n % 10 ≡ n = omega arith in
    let below = below_printed most k (n / 10) (digit (n % 10) ∷ l) (omega arith) (omega arith) in
    let more = digits_more most (n / 10) (digit (n % 10)) (n % 10) l (byte_digit (n % 10) (omega arith)) (omega arith) (rw m q) in
    rw (decimal_ends n h, append_assoc (decimal (n / 10)) (digit (n % 10) ∷ []) l) (below ∙ more ∙ ap (λ (v : ℕ). read_digits most v l) m))
    (lt_or_le n 10)

pub number_printed : (most n : ℕ) (l : List ℕ) → n ≤ most → read_number most (decimal n ++ l) ≡ read_digits most n l
number_printed most n l h = below_printed most n n l (omega arith) h

-- what was read, after digits that make v
digits_read : (most v : ℕ) (l : List ℕ) (n : ℕ) (m : List ℕ) → v ≤ most → read_digits most v l ≡ got n m → (decimal v ++ l ≡ decimal n ++ m) × (n ≤ most)
digits_read most v [] n m h e =
    let g = sym (digits_end most v [] refl) ∙ e in
    let a : v ≡ n = got_value g in
    let b : [] ≡ m = got_rest g in
    (rw (a, b), rw a at h)
digits_read most v (b ∷ bs) n m h e = elim (digit_of b) as (λ o. digit_of b ≡ o → Same) [ Some d ↦ on d (digits_read most (10 * v + d) bs n m) | None ↦ stop ] refl
  where
    Same : Type 0
    Same = (decimal v ++ (b ∷ bs) ≡ decimal n ++ m) × (n ≤ most)

    on : (d : ℕ) → (10 * v + d ≤ most → read_digits most (10 * v + d) bs ≡ got n m → (decimal (10 * v + d) ++ bs ≡ decimal n ++ m) × (n ≤ most)) → digit_of b ≡ Some d → Same
    on d next q =
        ⊎_elim (λ (k : v < 1). got≢nothing (sym (digits_zero most v b d bs q (omega arith)) ∙ e))
        (λ (k : 1 ≤ v). ⊎_elim
        (λ (large : most < 10 * v + d). got≢nothing (sym (digits_large most v b d bs q large) ∙ e))
        (λ (fits : 10 * v + d ≤ most).
        let r = next fits (sym (digits_more most v b d bs q k fits) ∙ e) in
        let (byte, ten) = digit_byte b d q in
        (rw (decimal_more v d k ten, append_assoc (decimal v) (digit d ∷ []) bs, byte) at r.0, r.1))
        (lt_or_le most (10 * v + d)))
        (lt_or_le v 1)

    stop : digit_of b ≡ None → Same
    stop q =
        let g = sym (digits_stop most v b bs q) ∙ e in
        let a : v ≡ n = got_value g in
        let r : b ∷ bs ≡ m = got_rest g in
        (rw (a, r), rw a at h)

pub number_read : (most : ℕ) (l : List ℕ) (n : ℕ) (m : List ℕ) → 9 ≤ most → read_number most l ≡ got n m → (l ≡ decimal n ++ m) × (n ≤ most)
number_read most [] n m h e = got≢nothing (sym (number_end most [] refl) ∙ e)
number_read most (b ∷ bs) n m h e =
    elim (digit_of b) as (λ o. digit_of b ≡ o → (b ∷ bs ≡ decimal n ++ m) × (n ≤ most)) [
      | Some d ↦ (λ q.
          let (byte, ten) = digit_byte b d q in
          let r = digits_read most d bs n m (omega arith) (sym (number_first most b d bs q) ∙ e) in
          (rw (decimal_digit d ten, byte) at r.0, r.1))
      | None ↦ (λ q. got≢nothing (sym (number_none most b bs q) ∙ e))
    ] refl

mark_read : (mark v : ℕ) (l : List ℕ) (n : ℕ) (m : List ℕ) → read_mark mark v l ≡ got n m → (v ≡ n) × (l ≡ mark ∷ m)
unfolding read_mark
mark_read mark v [] n m = λ e. got≢nothing e
mark_read mark v (b ∷ bs) n m =
    bool_cases (eqb b mark) (λ q. rw (q, eqb-true b mark q) (λ e. (got_value e, ap (λ (l : List ℕ). mark ∷ l) (got_rest e)))) (λ q. rw q (λ e. got≢nothing e))

pub field_read : (most mark : ℕ) (l : List ℕ) (n : ℕ) (m : List ℕ) → 9 ≤ most → read_field most mark l ≡ got n m → (l ≡ decimal n ++ (mark ∷ m)) × (n ≤ most)
unfolding read_field
field_read most mark l n m h e =
    let (v, rest, number, end) = then_got (read_number most l) (read_mark mark) n m e in
    let a = number_read most l v rest h number in
    let b = mark_read mark v rest n m end in
    rw (b.0, b.1) at a

pub field_printed : (most mark n : ℕ) (l : List ℕ) → n ≤ most → mark < 48 → read_field most mark (decimal n ++ (mark ∷ l)) ≡ got n l
unfolding read_field read_mark
field_printed most mark n l h k =
    rw (number_printed most n (mark ∷ l) h, digits_stop most n mark l (no_digit mark k), eq-eqb mark mark refl)

-- what a function that reads a number needs of these
pub ruleset reading =
    (digit_byte, digits_more, digits_zero, digits_large, digits_stop, digits_end, number_first, number_none, number_end)
