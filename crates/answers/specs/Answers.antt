-- How an exported entry tells an answer: the number of the refusal, 0 for none, and values through pointers, which a refused call leaves as they were.
use Rattle.std.specs.Prelude.{ℕ, ◌≡◌, ℤ, Result, Ok, Err}
use Rattle.model.specs.declared.Refusal.{Refusal}
use Rattle.model.specs.declared.Report.{Report}
use Rattle.model.specs.declared.Report.TheVariants.{Sound, Difference, Total}
use Rattle.model.specs.Refusals.{answer_number}
use Rattle.model.specs.Replies.{OpenReply, TrialReply, EditReply}

pub record OpenedTold (answer : OpenReply) (number total₀ total : ℕ) : Type 0 where
  pub number_is : number ≡ answer.number
  pub accepted : number ≡ 0 → total ≡ answer.settings.total
  pub refused : (number ≡ 0 → ⊥) → total ≡ total₀

pub record TriedTold (answer : TrialReply) (number : ℕ) (change₀ change : ℤ) : Type 0 where
  pub number_is : number ≡ answer.number
  pub accepted : number ≡ 0 → change ≡ answer.change
  pub refused : (number ≡ 0 → ⊥) → change ≡ change₀

pub record EditedTold (answer : EditReply) (number : ℕ) (change₀ change : ℤ) (total₀ total : ℕ) : Type 0 where
  pub number_is : number ≡ answer.number
  pub accepted : number ≡ 0 → (change ≡ answer.change) × (total ≡ answer.settings.total)
  pub refused : (number ≡ 0 → ⊥) → (change ≡ change₀) × (total ≡ total₀)

-- kind 0 is sound, 1 a difference at row and column, 2 the total; row and column of another kind stay
abbrev pub Told : Result Report Refusal → ℕ → ℕ → ℕ → ℕ → ℕ → ℕ → Type 0
Told (Err r) kind₀ row₀ column₀ kind row column = (kind ≡ kind₀) × (row ≡ row₀) × (column ≡ column₀)
Told (Ok Sound) kind₀ row₀ column₀ kind row column = (kind ≡ 0) × (row ≡ row₀) × (column ≡ column₀)
Told (Ok (Difference y x)) kind₀ row₀ column₀ kind row column = (kind ≡ 1) × (row ≡ y) × (column ≡ x)
Told (Ok Total) kind₀ row₀ column₀ kind row column = (kind ≡ 2) × (row ≡ row₀) × (column ≡ column₀)

pub record ReportTold (answer : Result Report Refusal) (number kind₀ row₀ column₀ kind row column : ℕ) : Type 0 where
  pub number_is : number ≡ answer_number answer
  pub told : Told answer kind₀ row₀ column₀ kind row column

abbrev pub Counted : Result ℕ Refusal → ℕ → ℕ → Type 0
Counted (Err r) count₀ count = count ≡ count₀
Counted (Ok n) count₀ count = count ≡ n

pub record CountTold (answer : Result ℕ Refusal) (number count₀ count : ℕ) : Type 0 where
  pub number_is : number ≡ answer_number answer
  pub told : Counted answer count₀ count
