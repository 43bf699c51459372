-- What is taken for a limit by what is held (`limit_under`), and for the near edge (`EdgeHeld`).
--     next_at, next_end     the place of a column, or the row's end, from the column before
--     limit_least           whatever limit is held, at most that is taken
--     limit_true            a true held limit gives the limit
--     edge_edged            whatever limits are held, the columns before can be drawn with the edge
--     last_placed           the last column whose true limit is still that of column n is the greatest placed there
--     edge_true             so true held limits give the edge wherever a position shows it
use Prim.Native.Nat.{ℕ, ◌+◌, ◌-◌, ◌%◌, ◌<◌, ◌≤◌}
use mathlib.Core.Path.{◌≡◌, sym, ap, ◌∙◌}
use mathlib.Core.Bool.{true}
use mathlib.Core.Logic.{⊎_elim}
use mathlib.Core.List.{List}
use native.Mathlib.Omega.{arith}
use lib.ListN.{length, get_or}
use lib.IntN.{ℤ, pos}
use borrow.Author.Tests.{lt-ltb, le-ltb}
use Rattle.model.specs.declared.Tear.{Tear}
use Rattle.model.specs.Row.{line, place, limit, quarter, limit_at, placed_at}
use Rattle.model.specs.Refusals.{table_ok}
use Rattle.model.proofs.Choice.{lt_or_le}
use Rattle.model.proofs.Owners.{limit_step, limit_end, limit_most, limit_mono, limit_above, above_limit}
use Rattle.model.proofs.Edges.{placed_is}
use Rattle.model.proofs.Refusals.{table_most}
use Rattle.signed.specs.Limits.{raised_of}
use Rattle.signed.proofs.Limits.{raised_signed}
use Rattle.pixel.specs.declared.Edge.{Edge}
use Rattle.pixel.specs.Pairs.{next_place}
use Rattle.pixel.proofs.Pairs.{place_most, next_inner, next_last}
use Rattle.limits.specs.Limits.{limit_under, LastHeld, EdgeHeld, Edged}

pub next_at : (t d : List ℕ) (n : ℕ) → 0 < n → n < length d → next_place t d (n - 1) ≡ place t d n
next_at t d n some h =
    let z : n - 1 + 1 ≡ n = omega arith in
    rw z at (next_inner t d (n - 1) (rw z h))

pub next_end : (t d : List ℕ) (n : ℕ) → 0 < n → length d ≤ n → next_place t d (n - 1) ≡ quarter (length d)
next_end t d n some h = let z : n - 1 + 1 ≡ n = omega arith in next_last t d (n - 1) (rw z h)

pub limit_least : (e : List ℤ) (n next : ℕ) → limit_under e n next ≤ next
unfolding limit_under
limit_least e n next =
    ⊎_elim (λ h. rw (lt-ltb n (length e) h) (omega arith)) (λ h. rw (le-ltb n (length e) h) (omega arith)) (lt_or_le n (length e))

module _ (t d : List ℕ) (e : List ℤ) (n : ℕ) where
  pub limit_true : (tear : Tear) (s : List ℕ) → length e ≡ length d → length d ≤ 4096 → 0 < n → n ≤ length d → (n < length d → get_or e n (pos 0) ≡ limit_at (line tear t s d) n) → limit_under e n (next_place t d (n - 1)) ≡ limit (place t d) (length d) n
  unfolding limit_under limit_at
  limit_true tear s same most some k h = ⊎_elim inner last (lt_or_le n (length d))
    where
      inner : n < length d → limit_under e n (next_place t d (n - 1)) ≡ limit (place t d) (length d) n
      inner l =
          let m : n < length e = omega arith in
          let q : raised_of (get_or e n (pos 0)) ≡ limit (place t d) (length d) n =
          ap raised_of (h l) ∙ raised_signed (limit (place t d) (length d) n) (omega (arith, limit_most (place t d) (length d) n)) in
          rw (lt-ltb n (length e) m, next_at t d n some l) (omega (arith, q, limit_step (place t d) (length d) n l))

      last : length d ≤ n → limit_under e n (next_place t d (n - 1)) ≡ limit (place t d) (length d) n
      last l =
          let m : length e ≤ n = omega arith in
          let z : n ≡ length d = omega arith in
          rw (le-ltb n (length e) m, next_end t d n some l) (sym (ap (limit (place t d) (length d)) z ∙ limit_end (place t d) (length d)))

pub edge_edged : (t d : List ℕ) (e : List ℤ) (n : ℕ) (g : Edge) → length e ≡ length d → 0 < n → n ≤ length d → EdgeHeld e n (limit_under e n (next_place t d (n - 1))) g → Edged t d n g
unfolding limit_under
edge_edged t d e n g same some k h =
    record {
      under = rw h.limit (limit_least e n (next_place t d (n - 1)));
      within = λ u. ⊎_elim (λ v. omega (arith, h.within (omega arith))) (λ v. absurd (omega (arith, end v))) (lt_or_le n (length d));
    }
  where
    end : length d ≤ n → quarter (length d) ≤ g.limit
    end v = rw (h.limit, le-ltb n (length e) (omega arith), next_end t d n some v) (omega arith)

-- the held limits e are true from column n on
module _ (tear : Tear) (t s d : List ℕ) (e : List ℤ) (n : ℕ) (ok : table_ok t ≡ true) (same : length e ≡ length d) (most : length d ≤ 4096) (true-limits : (c : ℕ) → n ≤ c → c < length d → get_or e c (pos 0) ≡ limit_at (line tear t s d) c) where
  abbrev f : ℕ → ℕ
  f = place t d

  abbrev w : ℕ
  w = length d

  held_limit_lem : (c : ℕ) → n ≤ c → c < length d → raised_of (get_or e c (pos 0)) ≡ limit f w c
  unfolding limit_at
  held_limit_lem c h k = ap raised_of (true-limits c h k) ∙ raised_signed (limit f w c) (omega (arith, limit_most f w c))

  -- a column that lies 256 or more after n is placed past all that column n may be
  far : (j : ℕ) → n + 256 ≤ j → f n < f j
  unfolding place
  far j h = omega (arith, table_most t ok (get_or d j 0))

  pub last_placed : (c : ℕ) → n ≤ c → c < length d → LastHeld e n (limit f w n) c → placed_at f (limit f w n) w ≡ c
  last_placed c h k l =
      let top : limit f w n ≤ f n = omega (arith, limit_step f w n (omega arith)) in
      let end : limit f w n < quarter w = omega (arith, top, place_most t d n) in
      let here : limit f w c ≡ limit f w n =
      ⊎_elim (λ u. sym (held_limit_lem c h k) ∙ l.here u) (λ u. let z : c ≡ n = omega arith in ap (limit f w) z) (lt_or_le n c) in
      let after : limit f w n < limit f w (c + 1) =
      ⊎_elim
      (λ u. ⊎_elim
      (λ v. ⊎_elim (λ x. x)
      (λ x.
      let same-limit : limit f w (c + 1) ≡ limit f w n = omega (arith, limit_mono f w c k, here) in
      absurd (l.after (rw same u) v (held_limit_lem (c + 1) (omega arith) u ∙ same-limit)))
      (lt_or_le (limit f w n) (limit f w (c + 1))))
      (λ v. above_limit f w (c + 1) (limit f w n) end (λ j a b. omega (arith, top, far j (omega arith))))
      (lt_or_le (c + 1) (n + 256)))
      (λ u. let z : c + 1 ≡ w = omega arith in rw (z, limit_end f w) end)
      (lt_or_le (c + 1) (length d)) in
      placed_is f (limit f w n) w c k (omega (arith, here, limit_step f w c k, after))
      (λ j a b. (limit_above f w (c + 1) (limit f w n) (omega arith) after).1 j (omega arith) b)

  pub edge_true : (g : Edge) (p high : ℕ) → n ≤ length d → g.limit ≡ limit f w n → EdgeHeld e n high g → g.limit ≡ quarter p + 1 → g.column ≡ placed_at f g.limit w
  edge_true g p high k eg h y =
      ⊎_elim inner (λ u. let z : n ≡ w = omega arith in absurd (no_end p (sym y ∙ eg ∙ ap (limit f w) z ∙ limit_end f w))) (lt_or_le n (length d))
    where
      one : (p : ℕ) → (quarter p + 1) % 4 ≡ 1
      one p = omega arith

      no_end : (p : ℕ) → quarter p + 1 ≡ quarter w → ⊥
      no_end p h = omega arith

      inner : n < length d → g.column ≡ placed_at f g.limit w
      inner u =
          let m : n < length e = omega arith in
          let column : g.column < length d = omega (arith, h.within m) in
          let eh : high ≡ limit f w n = sym h.limit ∙ eg in
          let odd : high % 4 ≡ 1 = rw (← h.limit, y) (one p) in
          let last = h.last m odd in
          sym (rw eg (last_placed g.column last.from column (rw eh at last)))
