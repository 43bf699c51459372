-- The pass from the right: each position's owner.
--     ahead_less, ahead_within, ahead_edge, step_column, step_ahead      the pair from which the rest is drawn
--     passed_none, passed_less, passed_join, passed_pixel, step_passed    the columns that were passed
--     owner_passed                             the first column that is placed at most at a position owns it
use Prim.Native.Nat.{ℕ, ◌+◌, ◌-◌, ◌<◌, ◌≤◌}
use mathlib.Core.Path.{◌≡◌, sym, ap, subst, ◌∙◌}
use mathlib.Core.Bool.{Bool}
use mathlib.Core.Logic.{⊎_elim}
use native.Mathlib.Omega.{arith}
use lib.ListN.{length}
use borrow.Author.Tests.{lt-ltb, le-ltb}
use Rattle.model.specs.Row.{Line, width, quarter, place_in, owner}
use Rattle.model.proofs.Choice.{lt_or_le}
use Rattle.model.proofs.Owners.{Owns, owner_owns, owner_is, place_zero}
use Rattle.pixel.specs.declared.Edge.{Edge}
use Rattle.pixel.specs.declared.Pair.{Pair}
use Rattle.pixel.specs.Pairs.{Among, Stands, edge_right, edge_past, edged_pixel}
use Rattle.pixel.proofs.Pairs.{next_most, past_cases, pair_pixel_lem}
use Rattle.places.specs.Positions.{first_at}
use Rattle.row.specs.Drawing.{shown_of, pixel_below, front_below, Ahead, Passed}
use Rattle.limits.specs.Limits.{limit_below}
use Rattle.limits.proofs.Below.{below_end, below_step, below_below}
use Rattle.row.proofs.Below.{front_end, front_step, front_below_lem}

-- ---- the pair from which the rest is drawn

pub ahead_less : {right : Bool} {l : Line} {stop : ℕ} {q : Pair} (n : ℕ) → Ahead right l stop q → n ≤ stop → Ahead right l n q
ahead_less n h k = record { among = h.among; stands = h.stands; under = h.under; before = omega (arith, h.before) }

-- it lies in the row
pub ahead_within : {right : Bool} {l : Line} {stop : ℕ} {q : Pair} → Ahead right l stop q → (q.next ≤ quarter (width l)) × (stop ≤ width l)
ahead_within {right} {l} {stop} {q} h =
    let k : q.next ≤ quarter (width l) = rw h.stands.next (next_most l.table l.depths q.column) in
    (k, positions (edge_right q).limit h.before (omega (arith, h.under)))
  where
    positions : (x : ℕ) → stop ≤ first_at x → x ≤ quarter (width l) → stop ≤ width l
    positions x a b = omega arith

-- position p is the next to be drawn
module _ {right : Bool} {l : Line} (p : ℕ) {q : Pair} (h : Ahead right l (p + 1) q) where
  -- column 0 is placed at most at every position
  pub step_column : quarter p < q.here → 0 < q.column
  step_column k =
      ⊎_elim (λ u. u)
      (λ u.
      let z : q.column ≡ 0 = omega arith in
      let e : q.here ≡ place_in l 0 = h.stands.here ∙ ap (place_in l) z in
      absurd (omega (arith, e, place_zero l.table l.depths 0)))
      (lt_or_le 0 q.column)

  pub step_ahead : {r : Pair} → quarter p < q.here → r.next ≡ q.here → edge_right r ≡ edge_past q → Among right (width l) r → Stands l.table l.depths r → Ahead right l (p + 1) r
  step_ahead {r} k e ee a s =
      record {
        among = a;
        stands = s;
        under = subst (λ (g : Edge). g.limit ≤ r.next) (sym ee) (subst (λ (x : ℕ). (edge_past q).limit ≤ x) (sym e) (past_cases q (λ (g : Edge). g.limit ≤ q.here) (λ u. omega arith) (λ u. u)));
        before = subst (λ (g : Edge). p + 1 ≤ first_at g.limit) (sym ee) (past_cases q (λ (g : Edge). p + 1 ≤ first_at g.limit) (λ u. later q.here k) (λ u. h.before));
      }
    where
      later : (x : ℕ) → quarter p < x → p + 1 ≤ first_at x
      later x u = omega arith

  -- the position lies before the pair's edge
  pub ahead_edge : quarter p < (edge_right q).limit
  ahead_edge = sooner (edge_right q).limit h.before
    where
      sooner : (x : ℕ) → p + 1 ≤ first_at x → quarter p < x
      sooner x u = omega arith

-- ---- the columns that were passed

pub passed_none : (l : Line) (q : Pair) (stop : ℕ) → Passed l q q stop
passed_none l q stop =
    record {
      column = omega arith;
      past = λ j p a b k. absurd (omega arith);
      limit = sym (below_end (place_in l) (edge_right q).limit (q.column + 1));
      front = sym (front_end (place_in l) (edge_right q) (q.column + 1));
    }

pub passed_less : {l : Line} {q r : Pair} {stop : ℕ} (n : ℕ) → Passed l q r stop → n ≤ stop → Passed l q r n
passed_less n h k = record { column = h.column; past = λ j p a b u. h.past j p a b (omega arith); limit = h.limit; front = h.front }

-- the limits and the columns placed there that follow from a pair follow from the one that the drawing came from
module _ {l : Line} {q₀ q : Pair} {stop : ℕ} (h : Passed l q₀ q stop) (c : ℕ) (k : c ≤ q.column) where
  limit_again : limit_below (place_in l) (edge_right q).limit (q.column + 1) (c + 1) ≡ limit_below (place_in l) (edge_right q₀).limit (q₀.column + 1) (c + 1)
  limit_again =
      rw h.limit (below_below (place_in l) (edge_right q₀).limit (q₀.column + 1) (q.column + 1) (c + 1) (omega arith) (omega (arith, h.column)))

  front_again : front_below (place_in l) (edge_right q) (q.column + 1) (c + 1) ≡ front_below (place_in l) (edge_right q₀) (q₀.column + 1) (c + 1)
  front_again =
      front_below_lem (place_in l) (edge_right q₀) (edge_right q) (q₀.column + 1) (q.column + 1) (c + 1) (omega arith) (omega (arith, h.column)) h.limit h.front

-- on, and on again
pub passed_join : {l : Line} {q₀ q r : Pair} {m n : ℕ} → Passed l q₀ q m → Passed l q r n → n ≤ m → Passed l q₀ r n
passed_join {l} {q₀} {q} {r} h k e =
    record {
      column = omega (arith, h.column, k.column);
      past = λ j p a b u. ⊎_elim (λ v. h.past j p v b (omega arith)) (λ v. k.past j p a v u) (lt_or_le q.column j);
      limit = k.limit ∙ limit_again h r.column k.column;
      front = k.front ∙ front_again h r.column k.column;
    }

-- the positions below `stop` show the same from either pair
pub passed_pixel : {l : Line} {q₀ q : Pair} {stop : ℕ} (p : ℕ) → Passed l q₀ q stop → p < stop → pixel_below l (q.column + 1) (edge_right q) p ≡ pixel_below l (q₀.column + 1) (edge_right q₀) p
unfolding pixel_below
passed_pixel {l} {q₀} {q} p h k =
    let z = place_zero l.table l.depths p in
    let c : ℕ = owner (place_in l) (quarter p) (q.column + 1) in
    let o = owner_owns (place_in l) (quarter p) (q.column + 1) (omega arith) z in
    let same : owner (place_in l) (quarter p) (q₀.column + 1) ≡ c =
    owner_is (place_in l) (quarter p) (q₀.column + 1) c z
    (record {
      column = omega (arith, o.column, h.column);
      here = o.here;
      after = λ j u v. ⊎_elim (λ m. h.past j p m (omega arith) k) (λ m. o.after j u (omega arith)) (lt_or_le q.column j);
    }) in
    let m : c ≤ q.column = omega (arith, o.column) in
    rw (same, limit_again h c m, front_again h c m)

module _ {right : Bool} {l : Line} (p : ℕ) {q₀ q : Pair} (h : Passed l q₀ q (p + 1)) (a : Ahead right l (p + 1) q) where
  -- the edge right of the column before
  past_limit : (edge_past q).limit ≡ limit_below (place_in l) (edge_right q₀).limit (q₀.column + 1) q.column
  past_limit =
      omega (arith, below_step (place_in l) (edge_right q₀).limit (q₀.column + 1) q.column (omega (arith, h.column)), h.limit, a.stands.here)

  past_front : (edge_past q).column ≡ front_below (place_in l) (edge_right q₀) (q₀.column + 1) q.column
  past_front =
      let step = rw (← h.limit, ← a.stands.here) at (front_step (place_in l) (edge_right q₀) (q₀.column + 1) q.column (omega (arith, h.column))) in
      past_cases q (λ (e : Edge). e.column ≡ front_below (place_in l) (edge_right q₀) (q₀.column + 1) q.column)
      (λ u. sym (step ∙ rw (lt-ltb q.here q.limit u)))
      (λ u. h.front ∙ sym (step ∙ rw (le-ltb q.here q.limit u)))

  pub step_passed : {r : Pair} → quarter p < q.here → r.column ≡ q.column - 1 → edge_right r ≡ edge_past q → Passed l q₀ r (p + 1)
  step_passed {r} k e ee =
      let z : r.column + 1 ≡ q.column = omega (arith, step_column p a k) in
      record {
        column = omega (arith, h.column);
        past = λ j i u v w.
            ⊎_elim (λ m. h.past j i m v w)
            (λ m.
            let z : q.column ≡ j = omega (arith, step_column p a k) in
            let x : q.here ≡ place_in l j = a.stands.here ∙ ap (place_in l) z in
            omega arith)
            (lt_or_le q.column j);
        limit = ap (λ (e : Edge). e.limit) ee ∙ rw z past_limit;
        front = ap (λ (e : Edge). e.column) ee ∙ rw z past_front;
      }

  -- the first column that is placed at most at the position owns it, and the pair shows what it shows there
  pub owner_passed : length l.texture ≡ width l → q.here ≤ quarter p → shown_of l.tear l.texture l.depths q (quarter p) ≡ pixel_below l (q₀.column + 1) (edge_right q₀) p
  unfolding pixel_below shown_of edged_pixel
  owner_passed wide k =
      let o : Owns (place_in l) (q₀.column + 1) (quarter p) q.column = record {
        column = omega (arith, h.column);
        here = rw a.stands.here at k;
        after = λ j u v. h.past j p u (omega arith) (omega arith);
      } in
      let same : owner (place_in l) (quarter p) (q₀.column + 1) ≡ q.column = owner_is (place_in l) (quarter p) (q₀.column + 1) q.column (omega (arith, place_zero l.table l.depths 0)) o in
      rw (pair_pixel_lem l q (quarter p) wide a.stands, a.stands.next, same, ← h.limit, ← h.front)
