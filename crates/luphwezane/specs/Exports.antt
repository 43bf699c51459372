-- What an exported entry answers, in terms of the entry's own promise: some reply keeps it, and that is told.
use Rattle.std.specs.Prelude.{ℕ, ◌≡◌, ℤ, Result}
use Rattle.model.specs.declared.Refusal.{Refusal}
use Rattle.model.specs.declared.Report.{Report}
use Rattle.model.specs.Refusals.{answer_number}
use Rattle.model.specs.Replies.{OpenReply, TrialReply, EditReply}
use Rattle.answers.specs.Answers.{OpenedTold, TriedTold, EditedTold, ReportTold, CountTold}

pub record Rendered (promise : Result (Unit {0}) Refusal → Type 0) (number : ℕ) : Type 0 where
  pub reply : Result (Unit {0}) Refusal
  pub promised : promise reply
  pub number_is : number ≡ answer_number reply

pub record OpenedOut (promise : OpenReply → Type 0) (number total₀ total : ℕ) : Type 0 where
  pub reply : OpenReply
  pub promised : promise reply
  pub told : OpenedTold reply number total₀ total

pub record TriedOut (promise : TrialReply → Type 0) (number : ℕ) (change₀ change : ℤ) : Type 0 where
  pub reply : TrialReply
  pub promised : promise reply
  pub told : TriedTold reply number change₀ change

pub record EditedOut (promise : EditReply → Type 0) (number : ℕ) (change₀ change : ℤ) (total₀ total : ℕ) : Type 0 where
  pub reply : EditReply
  pub promised : promise reply
  pub told : EditedTold reply number change₀ change total₀ total

pub record ReportOut (promise : Result Report Refusal → Type 0) (number kind₀ row₀ column₀ kind row column : ℕ) : Type 0 where
  pub reply : Result Report Refusal
  pub promised : promise reply
  pub told : ReportTold reply number kind₀ row₀ column₀ kind row column

pub record CountOut (promise : Result ℕ Refusal → Type 0) (number count₀ count : ℕ) : Type 0 where
  pub reply : Result ℕ Refusal
  pub promised : promise reply
  pub told : CountTold reply number count₀ count
