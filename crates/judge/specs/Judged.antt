-- Document 01, GET and SET of "Calls and what they turn down": 8, and the total moved.
use Rattle.std.specs.Prelude.{ℕ, ◌≡◌, ℤ, pos, ◌+ℤ◌, nat_abs, Result, Ok, Err}
use Rattle.std.proofs.Math.IntN.{sub_ℕ}
use Rattle.model.specs.declared.Refusal.{Refusal}
use Rattle.model.specs.Refusals.{number_of, unless, within}
use Rattle.judge.specs.declared.Decision.{Decision}

-- What a decision says: the number of the refusal, 0 for none, the change, and the total after the call. A refused call has a change of 0, and the total stays.
pub record Verdict : Type 0 where
  pub number : ℕ
  pub change : ℤ
  pub total : ℕ

abbrev pub verdict : ℕ → Result Decision Refusal → Verdict
verdict total (Ok d) = record { number = 0; change = d.change; total = d.total }
verdict total (Err r) = record { number = number_of r; change = pos 0; total = total }

-- 8 judged by two such sums, then the rest of the call's list: the total moved by their difference, or as it was.
pub record Judged (total old new most rest : ℕ) (r : Verdict) : Type 0 where
  pub number : r.number ≡ unless (within (pos total +ℤ sub_ℕ new old) most) 8 rest
  pub change : r.number ≡ 0 → r.change ≡ sub_ℕ new old
  pub moved : r.number ≡ 0 → r.total ≡ nat_abs (pos total +ℤ sub_ℕ new old)
  pub refused : (r.number ≡ 0 → ⊥) → r.change ≡ pos 0
  pub kept : (r.number ≡ 0 → ⊥) → r.total ≡ total
