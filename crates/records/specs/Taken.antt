-- What TAKE BACK reads of the journal, and what it writes there.
use Rattle.std.specs.Prelude.{ℕ, ◌+◌, ◌≡◌, List}
use Rattle.model.specs.Journals.{newest, index_before, record_view, record_block, record_end, with_newest}
use Rattle.records.specs.declared.Record.{Record}

-- the newest record
pub record NewestRecord (j : List ℕ) (r : Record) : Type 0 where
  pub before : r.before ≡ index_before j (newest j)
  pub view : r.view ≡ record_view j (newest j)
  pub block : r.block ≡ record_block j (newest j)
  pub from : r.from ≡ newest j + 6
  pub to : r.to ≡ record_end j (newest j)

-- word 0 has another index, unless the call is refused; n is the refusal's number, 0 for none
pub record Struck (n before : ℕ) (j₀ j : List ℕ) : Type 0 where
  pub refused : (n ≡ 0 → ⊥) → j ≡ j₀
  pub moved : n ≡ 0 → j ≡ with_newest before j₀
