-- `decide::decide` meets its contract: what a step turns down, and what the trial's sums decide.
use Prim.Native.Nat.{ℕ}
use mathlib.Core.Path.{◌≡◌, sym, ◌∙◌}
use lib.ListN.{length}
use Rattle.model.specs.declared.Settings.{Settings}
use Rattle.model.specs.Planes.{Pictures, Depths, Held, pictures, depths}
use Rattle.model.specs.Refusals.{early_number, candidate_then}
use Rattle.model.proofs.Refusals.{err_from}
use Rattle.validate.specs.Numbers.{common_number, own_number}
use Rattle.validate.proofs.Numbers.{common_refused, own_refused, none_refused, early_number_lem, lengths_of, sides_passed}
use Rattle.decide.specs.Decided.{settings_of, held_of}
use Rattle.decide.proofs.Ways.{tried_total, decided_early, decided_late}
use Rattle.decide.proofs.decide.Goals as goal
use Rattle.judge.specs.Judged.{verdict}
use Rattle.decide.proofs.decide.Goals.{Start}

-- what the call is lent, with any total in the settings
abbrev settings : Start → ℕ → Settings
settings c total =
    let a = c.args in settings_of a.w a.h a.leftTable.now a.rightTable.now a.share a.tolerance a.tear total

abbrev shown : Start → Pictures
shown c = let a = c.args in pictures a.left.now a.right.now a.reference.now

abbrev lent : Start → Depths
lent c = let a = c.args in depths a.leftDepths.now a.rightDepths.now

abbrev kept : Start → Held
kept c =
    let a = c.args in
    held_of a.leftSamples.now a.leftFronts.now a.leftLimits.now a.leftMarks.now a.rightSamples.now a.rightFronts.now
    a.rightLimits.now a.rightMarks.now a.combined.now

-- the list that the three steps make is the model's
early : (c : Start) (total : ℕ) → let a = c.args in common_number a.w a.h a.leftTable.now a.rightTable.now a.share a.tear (lengths_of (shown c) (lent c) (kept c)) (own_number a.w a.h a.view a.block (candidate_then a.block a.candidate (length a.bytes.now) 0)) ≡ early_number (settings c total) (shown c) (lent c) (kept c) a.view a.block a.candidate (length a.bytes.now)
early c total = let a = c.args in early_number_lem (settings c total) (shown c) (lent c) (kept c) a.view a.block a.candidate (length a.bytes.now)

-- where the first two turn nothing down, the candidate's own number is the list's
left : (c : Start) → let a = c.args in 0 ≡ common_number a.w a.h a.leftTable.now a.rightTable.now a.share a.tear (lengths_of (shown c) (lent c) (kept c)) 0 → 0 ≡ own_number a.w a.h a.view a.block 0 → (total : ℕ) → candidate_then a.block a.candidate (length a.bytes.now) 0 ≡ early_number (settings c total) (shown c) (lent c) (kept c) a.view a.block a.candidate (length a.bytes.now)
left c e q total =
    let a = c.args in
    sym (none_refused a.w a.h a.leftTable.now a.rightTable.now a.share a.tear _ a.view a.block _ e q) ∙ early c total

pub returns-in_err-common : goal.returns-in_err-common
returns-in_err-common c =
    let a = c.args in
    let s = (goal.at.returns-in_err-common c).Start in
    decided_early (settings s a.total) (shown s) (lent s) (kept s) a.view a.block a.candidate a.bytes.now c.in_err-common.field-0.0
    (common_refused a.w a.h a.leftTable.now a.rightTable.now a.share a.tear _ a.view a.block (candidate_then a.block a.candidate (length a.bytes.now) 0) _ c.in_err-common.ensures ∙ early s a.total)
    c.from_residual.result (err_from _ _ c.from_residual.ensures.1)

pub returns-in_err-own : goal.returns-in_err-own
returns-in_err-own c =
    let a = c.args in
    let s = (goal.at.returns-in_err-own c).Start in
    decided_early (settings s a.total) (shown s) (lent s) (kept s) a.view a.block a.candidate a.bytes.now c.in_err-own.field-0.0
    (own_refused a.w a.h a.leftTable.now a.rightTable.now a.share a.tear _ a.view a.block (candidate_then a.block a.candidate (length a.bytes.now) 0) _ c.in_ok-common.ensures c.in_err-own.ensures ∙ early s a.total)
    c.from_residual-in_err-own.result (err_from _ _ c.from_residual-in_err-own.ensures.1)

pub returns-in_err-candidate_refusal : goal.returns-in_err-candidate_refusal
returns-in_err-candidate_refusal c =
    let a = c.args in
    let s = (goal.at.returns-in_err-candidate_refusal c).Start in
    decided_early (settings s a.total) (shown s) (lent s) (kept s) a.view a.block a.candidate a.bytes.now c.in_err-candidate_refusal.field-0.0
    (c.in_err-candidate_refusal.ensures ∙ left s c.in_ok-common.ensures c.in_ok-own.ensures a.total)
    c.from_residual-in_err-candidate_refusal.result (err_from _ _ c.from_residual-in_err-candidate_refusal.ensures.1)

pub try_candidate-sums-requires : goal.try_candidate-sums-requires
try_candidate-sums-requires c = sym (c.in_ok-candidate_refusal.ensures ∙ left (goal.at.try_candidate-sums-requires c).Start c.in_ok-common.ensures c.in_ok-own.ensures 0)

pub most_total-most-requires : goal.most_total-most-requires
most_total-most-requires c =
    let a = c.args in
    sides_passed a.w a.h a.leftTable.now a.rightTable.now a.share a.tear _ (sym c.in_ok-common.ensures)

pub returns : goal.returns
returns c =
    let a = c.args in
    let s = (goal.at.returns c).Start in
    let none = sym (c.in_ok-candidate_refusal.ensures ∙ left s c.in_ok-common.ensures c.in_ok-own.ensures a.total) in
    decided_late (settings s a.total) (shown s) (lent s) (kept s) a.view a.block a.candidate a.bytes.now (verdict a.total c.judge.result) none
    (tried_total (settings s a.total) (shown s) (lent s) (kept s) a.view a.block _ 0 c.try_candidate-sums.ensures)
    (rw c.most_total-most.ensures.0 at c.judge.ensures)
