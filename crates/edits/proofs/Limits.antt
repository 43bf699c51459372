-- The limits of a row after an edit.
--     limit_settled      left of the edit, once a limit is what it was, so are all before it
--     limits_again       so limits that were true, written down to where they settled, are true
--     written_settled    where the limits that are written, from the right, are the held ones
use Prim.Native.Nat.{ℕ, zero, suc, ◌+◌, ◌-◌, ◌<◌, ◌≤◌, min}
use mathlib.Core.Path.{◌≡◌, sym, ap, ◌∙◌}
use mathlib.Core.Logic.{⊎_elim}
use mathlib.Core.List.{List}
use native.Mathlib.Omega.{arith}
use lib.ListN.{length, get_or}
use lib.IntN.{ℤ, pos}
use Rattle.model.specs.declared.Tear.{Tear}
use Rattle.model.specs.Lists.{list_of}
use Rattle.model.specs.Row.{line, place, limit, limit_at, signed}
use Rattle.model.proofs.Choice.{lt_or_le}
use Rattle.model.proofs.Lists.{length-list_of, get_or-list_of, list_of_lem}
use Rattle.model.proofs.Owners.{limit_step, limit_most}
use Rattle.model.proofs.Spans.{Moved, EditedRow, edited_moved, span_limit}
use Rattle.signed.specs.Limits.{raised_of}
use Rattle.signed.proofs.Limits.{raised_signed}
use Rattle.limits.specs.Limits.{limit_below}
use Rattle.limits.proofs.Below.{below_step, below_limit}
use Rattle.limits.proofs.Falling.{LimitsFrom}
use Rattle.edits.specs.Changes.{Relimited}

-- over any places before and after an edit
pub limit_settled : {f g : ℕ → ℕ} {w a b : ℕ} → Moved f g w a b → (n j : ℕ) → j + n ≤ a → limit g w (j + n) ≡ limit f w (j + n) → limit g w j ≡ limit f w j
limit_settled {f} {g} {w} m zero j h e = let z : j + 0 ≡ j = omega arith in rw z at e
limit_settled {f} {g} {w} {a} {b} m (suc n) j h e =
    let z : j + suc n ≡ j + 1 + n = omega arith in
    let r : limit g w (j + 1) ≡ limit f w (j + 1) = limit_settled m n (j + 1) (omega arith) (rw z at e) in
    let k : j < w = omega (arith, m.order, m.within) in
    omega (arith, limit_step f w j k, limit_step g w j k, r, m.under j (omega arith))

pub limits_again : (tear : Tear) (t s d d' : List ℕ) (a b n high : ℕ) {e e' : List ℤ} → EditedRow d d' a b → b + 1 ≡ n → length d ≤ 4096 → high ≡ limit (place t d') (length d') n → e ≡ list_of (limit_at (line tear t s d)) (length d) → length e' ≡ length e → Relimited t d' a n high e e' → e' ≡ list_of (limit_at (line tear t s d')) (length d')
unfolding limit_at
limits_again tear t s d d' a b n high {e} {e'} edit en most eh old le r =
    list_of_lem (pos 0) (limit_at (line tear t s d')) (length d') e' (le ∙ ap length old ∙ length-list_of _ (length d) ∙ sym edit.same)
    (λ c k. ⊎_elim
    (λ u. ⊎_elim (λ v. r.written.under c v ∙ held c (rw edit.same at k) ∙ ap signed (sym (before c v)))
    (λ v. r.written.inside c v u ∙ ap signed (below c (omega arith))) (lt_or_le c r.stop))
    (λ u. r.written.beyond c u ∙ held c (rw edit.same at k) ∙ sym (span_limit tear t s d d' a b c edit (omega arith)))
    (lt_or_le c n))
  where
    held : (c : ℕ) → c < length d → get_or e c (pos 0) ≡ signed (limit (place t d) (length d) c)
    held c k = ap (λ (l : List ℤ). get_or l c (pos 0)) old ∙ get_or-list_of (pos 0) (limit_at (line tear t s d)) (length d) c k

    below : (c : ℕ) → c ≤ n → limit_below (place t d') high n c ≡ limit (place t d') (length d') c
    below c h = rw eh (below_limit (place t d') (length d') n c h (omega (arith, edit.within, edit.same)))

    before : (c : ℕ) → c < r.stop → limit (place t d') (length d') c ≡ limit (place t d) (length d) c
    before c h =
        let jd : r.stop - 1 < length d = omega (arith, r.order, edit.order, edit.within) in
        let same : limit (place t d') (length d') (r.stop - 1) ≡ limit (place t d) (length d) (r.stop - 1) =
        sym (below (r.stop - 1) (omega (arith, r.order, edit.order))) ∙ sym (r.settled (omega arith)) ∙ ap raised_of (held (r.stop - 1) jd)
        ∙ raised_signed (limit (place t d) (length d) (r.stop - 1)) (omega (arith, limit_most (place t d) (length d) (r.stop - 1))) in
        let z : c + (r.stop - 1 - c) ≡ r.stop - 1 = omega arith in
        rw edit.same (limit_settled (edited_moved t d d' a b edit) (r.stop - 1 - c) c (omega (arith, r.order)) (rw z (rw edit.same at same)))

-- ---- the limits, written from the right

module _ {t d : List ℕ} {n high : ℕ} {e e' : List ℤ} {c top : ℕ} (done : LimitsFrom (place t d) n high top c e e') where
  -- the held limit of the column before, left of column a, is the one to be written
  pub written_settled : (a here next held : ℕ) → 0 < c → c - 1 < a → here ≡ place t d (c - 1) → next ≡ min here top → held ≡ raised_of (get_or e' (c - 1) (pos 0)) → held ≡ next → Relimited t d a n high e e'
  written_settled a here next held some left eh en er eq =
      let z : c - 1 + 1 ≡ c = omega arith in
      let step : next ≡ limit_below (place t d) high n (c - 1) =
      en ∙ rw (eh, done.limits) (sym (rw z at (below_step (place t d) high n (c - 1) (omega (arith, done.column))))) in
      record {
        stop = c;
        order = omega arith;
        written = done.filled;
        settled = λ k. ap raised_of (sym (done.filled.under (c - 1) (omega arith))) ∙ sym er ∙ eq ∙ step;
      }
