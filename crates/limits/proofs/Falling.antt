-- Limits as they are written, from the right.
use Prim.Native.Nat.{ℕ, ◌+◌, ◌-◌, ◌<◌, ◌≤◌, min}
use mathlib.Core.Path.{◌≡◌, sym, ap, ◌∙◌}
use mathlib.Core.List.{List}
use native.Mathlib.Omega.{arith}
use lib.ListN.{length, set}
use lib.IntN.{ℤ, pos}
use Rattle.model.specs.Row.{signed}
use Rattle.planes.specs.Parts.{Filled}
use Rattle.planes.proofs.Fills.{filled_none, filled_back}
use Rattle.limits.specs.Limits.{limit_below}
use Rattle.limits.proofs.Below.{below_end, below_step}

-- What the pass over the limits has written when it has come to column c of `columns`.
pub record LimitsFrom (f : ℕ → ℕ) (columns high top c : ℕ) (e₀ e : List ℤ) : Type 0 where
  pub column : c ≤ columns
  pub limits : top ≡ limit_below f high columns c
  pub filled : Filled (pos 0) (λ k. signed (limit_below f high columns k)) c columns e₀ e

pub limits_none : (f : ℕ → ℕ) (columns high : ℕ) (e : List ℤ) → LimitsFrom f columns high high columns e e
limits_none f columns high e = record { column = omega arith; limits = sym (below_end f high columns); filled = filled_none (pos 0) _ columns e }

pub limits_next : {f : ℕ → ℕ} {columns high top c r : ℕ} {e₀ e e' : List ℤ} (v : ℤ) → LimitsFrom f columns high top c e₀ e → 0 < c → columns ≤ length e → r ≡ min (f (c - 1)) top → v ≡ signed r → e' ≡ set e (c - 1) v → LimitsFrom f columns high r (c - 1) e₀ e'
limits_next {f} {columns} {high} {top} {c} {r} {e₀} {e} {e'} v h more n er ev ee =
    let z : c - 1 + 1 ≡ c = omega arith in
    let step = below_step f high columns (c - 1) (omega (arith, h.column)) in
    let step' : limit_below f high columns (c - 1) ≡ min (f (c - 1)) (limit_below f high columns c) = rw z at step in
    let er' : r ≡ limit_below f high columns (c - 1) = er ∙ ap (min (f (c - 1))) h.limits ∙ sym step' in
    let old : Filled (pos 0) (λ k. signed (limit_below f high columns k)) (c - 1 + 1) columns e₀ e = rw z h.filled in
    record {
      column = omega (arith, h.column);
      limits = er';
      filled = rw ee (filled_back v old (omega (arith, h.column)) (omega (arith, h.column)) (ev ∙ ap signed er'));
    }
