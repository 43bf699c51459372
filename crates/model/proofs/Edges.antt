-- Near edges (document 02, card 7), by owners.
--     placed_is        the greatest column placed at m
--     owner_placed     where the limit of the column after the owner of x is x + 1, the greatest column placed there owns x + 1
--     near_owners      so what x shows follows from the owners of x and of x + 1
use Prim.Native.Nat.{ℕ, zero, suc, ◌+◌, ◌-◌, ◌<◌, ◌≤◌}
use mathlib.Core.Path.{◌≡◌, sym, subst}
use mathlib.Core.Bool.{cond, ◌&&◌}
use mathlib.Core.Logic.{⊎_elim}
use native.Mathlib.Omega.{arith}
use native.Mathlib.Nat.{not-suc-le-zero}
use lib.Dec.{ltb}
use borrow.Author.Tests.{lt-leb, lt-ltb, le-ltb, eq-eqb, ne_eqb}
use Rattle.model.specs.declared.Pixel.{Pixel}
use Rattle.model.specs.Row.{Line, width, place_in, limit, quarter, column_pixel, owned_pixel, placed_at, near_edge, shown_pixel}
use Rattle.model.proofs.Choice.{bool_cases, lt_or_le, and_off}
use Rattle.model.proofs.Owners.{Owns, owns_unique, owns_stretch, limit_above, above_limit}

pub placed_is : (f : ℕ → ℕ) (m w e : ℕ) → e < w → f e ≡ m → ((j : ℕ) → e < j → j < w → m < f j) → placed_at f m w ≡ e
unfolding placed_at
placed_is f m zero e h q g = absurd (not-suc-le-zero h)
placed_is f m (suc n) e h q g =
    ⊎_elim
    (λ k. rw (ne_eqb (f n) m (λ z. omega (arith, g n k (omega arith)))) (placed_is f m n e k q (λ j a b. g j a (omega arith))))
    (λ k. let z : e ≡ n = omega arith in rw (eq-eqb (f n) m (subst (λ (i : ℕ). f i ≡ m) z q)) (sym z))
    (lt_or_le e n)

module _ {f : ℕ → ℕ} {w x c e : ℕ} (o : Owns f w x c) (q : Owns f w (x + 1) e) (end : x + 1 < quarter w) where
  -- a limit that is further away: the owner of x owns x + 1 too
  owner_stays : x + 1 < limit f w (c + 1) → e ≡ c
  owner_stays h =
      owns_unique q
      (record {
        column = o.column;
        here = omega (arith, o.here);
        after = λ j a b. (limit_above f w (c + 1) (x + 1) (omega (arith, o.column)) h).1 j (omega arith) b;
      })

  pub owner_placed : limit f w (c + 1) ≤ x + 1 → (limit f w (c + 1) ≡ x + 1) × ((c < e) × (placed_at f (x + 1) w ≡ e))
  owner_placed h =
      let m : limit f w (c + 1) ≡ x + 1 = omega (arith, (owns_stretch (omega arith) o).1) in
      let past : c < e = ⊎_elim (λ k. k) (λ k. absurd (omega (arith, above_limit f w (c + 1) (x + 1) end (λ j a b. q.after j (omega arith) b)))) (lt_or_le c e) in
      let at : f e ≡ x + 1 = omega (arith, o.after e past q.column, q.here) in
      (m, (past, placed_is f (x + 1) w e q.column at q.after))

-- what x shows, where column c owns it and column e the next quarter
unfoldable pub by_owners : Line → ℕ → ℕ → ℕ → Pixel
by_owners l c e x = cond (ltb c e && ltb (x + 1) (place_in l (c + 1))) (column_pixel l e 0) (owned_pixel l c x)

pub near_owners : (l : Line) (x c e : ℕ) → x + 1 < quarter (width l) → Owns (place_in l) (width l) x c → Owns (place_in l) (width l) (x + 1) e → shown_pixel l c x ≡ by_owners l c e x
unfolding shown_pixel near_edge by_owners
near_owners l x c e end o q = ⊎_elim far near (lt_or_le (x + 1) (limit (place_in l) (width l) (c + 1)))
  where
    far : x + 1 < limit (place_in l) (width l) (c + 1) → shown_pixel l c x ≡ by_owners l c e x
    far h =
        let off = and_off (ltb (c + 1) (width l)) _ (and_off (ltb (limit (place_in l) (width l) (c + 1)) (place_in l (c + 1))) _ (lt-leb (limit (place_in l) (width l) (c + 1) - x) 1 (omega arith))) in
        rw (off, owner_stays o q end h, le-ltb c c (omega arith))

    near : limit (place_in l) (width l) (c + 1) ≤ x + 1 → shown_pixel l c x ≡ by_owners l c e x
    near h =
        let r = owner_placed o q end h in
        let one : x + 1 - x ≡ 1 = omega arith in
        rw (r.0, lt-ltb (c + 1) (width l) (omega (arith, r.1.0, q.column)), one, lt-ltb c e r.1.0, r.1.1)
        (bool_cases (ltb (x + 1) (place_in l (c + 1))) (λ t. rw t) (λ t. rw t))
