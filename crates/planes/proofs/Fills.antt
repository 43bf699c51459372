-- A list that is filled part by part.
--     filled_none, filled_next, filled_more, filled_back, filled_join     it grows, to the right or to the left
--     filled_change                                          rules that agree in the part
--     filled_all, filled_rest                                filled whole, or where two rules differ, it is the rule's list
--     filled_copy                                            filled whole with another list's entries, it is that list
--     filled_splice                                          a part replaced by values of the rule
use Prim.Native.Nat.{ℕ, ◌+◌, ◌-◌, ◌<◌, ◌≤◌}
use mathlib.Core.Path.{◌≡◌, refl, sym, ap, subst, ◌∙◌}
use mathlib.Core.Logic.{⊎_elim, ◌⊎◌, inl, inr}
use mathlib.Core.List.{List}
use native.Mathlib.Omega.{arith}
use lib.ListN.{length, get_or, set}
use lib.Seq.{ext_get_or, get_or-set_same, get_or-set_other}
use Rattle.model.specs.Lists.{list_of}
use Rattle.model.proofs.Choice.{lt_or_le}
use Rattle.model.proofs.Lists.{length-list_of, get_or-list_of, list_of_lem}
use Rattle.planes.specs.Parts.{splice, Filled}
use Rattle.planes.proofs.Splices.{splice_under, splice_inside, splice_beyond}

module _ {A : Type 0} where
  pub filled_none : (z : A) (f : ℕ → A) (i : ℕ) (l : List A) → Filled z f i i l l
  filled_none z f i l =
      record { inside = λ p a b. absurd (omega arith); under = λ p a. refl; beyond = λ p a. refl }

  -- one more value at the end
  pub filled_next : {z : A} {f : ℕ → A} {a i : ℕ} {x y : List A} (v : A) → Filled z f a i x y → a ≤ i → i < length y → v ≡ f i → Filled z f a (i + 1) x (set y i v)
  filled_next {z} {f} {a} {i} {x} {y} v h g l e =
      record {
        inside = λ p b k. ⊎_elim (λ m. get_or-set_other y i p v z (omega arith) ∙ h.inside p b m)
            (λ m. let q : i ≡ p = omega arith in subst (λ (j : ℕ). get_or (set y i v) j z ≡ f j) q (get_or-set_same y i v z l ∙ e)) (lt_or_le p i);
        under = λ p k. get_or-set_other y i p v z (omega arith) ∙ h.under p k;
        beyond = λ p k. get_or-set_other y i p v z (omega arith) ∙ h.beyond p (omega arith);
      }

  -- a part before one that is filled
  pub filled_join : {z : A} {f : ℕ → A} {a b e : ℕ} {x y w : List A} → Filled z f b e x y → Filled z f a b y w → a ≤ b → b ≤ e → Filled z f a e x w
  filled_join {z} {f} {a} {b} {e} {x} {y} {w} h g k l =
      record {
        inside = λ p m n. ⊎_elim (λ u. g.inside p m u) (λ u. g.beyond p u ∙ h.inside p u n) (lt_or_le p b);
        under = λ p m. g.under p m ∙ h.under p (omega arith);
        beyond = λ p m. g.beyond p (omega arith) ∙ h.beyond p m;
      }

  -- a part after one that is filled
  pub filled_more : {z : A} {f : ℕ → A} {a b e : ℕ} {x y w : List A} → Filled z f a b x y → Filled z f b e y w → a ≤ b → b ≤ e → Filled z f a e x w
  filled_more {z} {f} {a} {b} {e} {x} {y} {w} h g k l =
      record {
        inside = λ p m n. ⊎_elim (λ u. g.under p u ∙ h.inside p m u) (λ u. g.inside p u n) (lt_or_le p b);
        under = λ p m. g.under p (omega arith) ∙ h.under p m;
        beyond = λ p m. g.beyond p m ∙ h.beyond p (omega arith);
      }

  -- one more value at the front
  pub filled_back : {z : A} {f : ℕ → A} {c e : ℕ} {x y : List A} (v : A) → Filled z f (c + 1) e x y → c + 1 ≤ e → c < length y → v ≡ f c → Filled z f c e x (set y c v)
  filled_back {z} {f} {c} {e} {x} {y} v h k l q =
      filled_join h (filled_next v (filled_none z f c y) (omega arith) l q) (omega arith) k

  -- rules that agree in the part
  pub filled_change : {z : A} {f g : ℕ → A} {a b : ℕ} {x y : List A} → Filled z f a b x y → ((p : ℕ) → a ≤ p → p < b → f p ≡ g p) → Filled z g a b x y
  filled_change h e =
      record { inside = λ p m n. h.inside p m n ∙ e p m n; under = h.under; beyond = h.beyond }

  -- filled whole
  pub filled_all : {z : A} {f : ℕ → A} {n : ℕ} {x y : List A} → Filled z f 0 n x y → length y ≡ n → y ≡ list_of f n
  filled_all {z} {f} {n} {x} {y} h l = list_of_lem z f n y l (λ k m. h.inside k (omega arith) m)

  -- filled whole with another list's entries
  pub filled_copy : {z : A} {x y : List A} (l : List A) → Filled z (λ i. get_or l i z) 0 (length l) x y → length y ≡ length l → y ≡ l
  filled_copy {z} {x} {y} l h e = ext_get_or z y l e (λ i k. h.inside i (omega arith) (omega arith))

  -- the list of the rule f, filled with g where the two differ, is the list of g
  pub filled_rest : {z : A} {f g : ℕ → A} {start stop n : ℕ} {x y : List A} → Filled z g start stop x y → x ≡ list_of f n → length y ≡ length x → ((p : ℕ) → p < n → (p < start) ⊎ (stop ≤ p) → g p ≡ f p) → y ≡ list_of g n
  filled_rest {z} {f} {g} {start} {stop} {n} {x} {y} h e l same =
      let old : (p : ℕ) → p < n → get_or x p z ≡ f p = λ p k. ap (λ (q : List A). get_or q p z) e ∙ get_or-list_of z f n p k in
      list_of_lem z g n y (l ∙ ap length e ∙ length-list_of f n)
      (λ p b. ⊎_elim
      (λ u. h.under p u ∙ old p b ∙ sym (same p b (inl u)))
      (λ u. ⊎_elim (λ v. h.inside p u v) (λ v. h.beyond p v ∙ old p b ∙ sym (same p b (inr v))) (lt_or_le p stop))
      (lt_or_le p start))

  -- a part replaced by values of the rule
  pub filled_splice : (z : A) (f : ℕ → A) (start : ℕ) (p xs : List A) → start + length xs ≤ length p → ((i : ℕ) → i < length xs → get_or xs i z ≡ f (start + i)) → Filled z f start (start + length xs) p (splice p start xs)
  filled_splice z f start p xs h g =
      record {
        inside = λ i a b.
            let e : i ≡ start + (i - start) = omega arith in
            let j : i - start < length xs = omega arith in
            ap (λ (k : ℕ). get_or (splice p start xs) k z) e ∙ splice_inside z p start xs h (i - start) j ∙ g (i - start) j ∙ ap f (sym e);
        under = λ i a. splice_under z p start xs h i a;
        beyond = λ i a. splice_beyond z p start xs h i a;
      }
