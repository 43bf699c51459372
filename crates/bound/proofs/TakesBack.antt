-- What a caller learns of a call of `luph_raw_take_back` carries TAKE BACK's promise, so the call is a step of a run with one journal. a is what it was passed, x what it left,
-- r the number.
use Prim.Native.Nat.{ℕ}
use mathlib.Core.List.{List, ◌∷◌}
use lib.IntN.{ℤ}
use denote.Triple.Clauses.{AtExit}
use contract.Lifetimes.{Lfts}
use borrow.Fn.Kinds.{Dens, ended_of}
use Rattle.model.specs.declared.Settings.{Settings}
use Rattle.model.specs.Planes.{Pictures, Depths, Held, State, pictures, depths, view, held}
use Rattle.model.specs.Promises.{TakeBackPost}
use Rattle.run.specs.Run.{Event, leaves, plain_answer}
use Rattle.run.specs.Shared.{SharedCall, SharedRun}
use Rattle.run.specs.Shared.SharedCall.{take_back}
use Rattle.luphwezane.specs.Exports.{EditedOut}
use Rattle.luphwezane.proofs.luph_raw_take_back.Reads as take-back-reads
use Rattle.luphwezane.proofs.luph_raw_take_back.Kinds as take-back-kinds
use Rattle.bound.specs.Latest.{latest}
use Rattle.bound.proofs.Steps.{took_shared}

module _ (κs : Lfts 17) (a : Dens κs take-back-kinds.ps) (r : ℕ) (x : AtExit (ended_of 17 take-back-kinds.ps take-back-kinds.r) κs) (learnt : take-back-reads.Learnt κs a r x) where
  abbrev s : Settings
  s = a.0

  abbrev p : Pictures
  p = pictures a.1.0.now a.1.1.0.now a.1.1.1.0.now

  abbrev d₀ : Depths
  d₀ = depths a.1.1.1.1.0.now a.1.1.1.1.1.0.now

  abbrev d : Depths
  d = depths x.1.1.1.1.0.now x.1.1.1.1.1.0.now

  abbrev h₀ : Held
  h₀ = held (view a.1.1.1.1.1.1.0.now a.1.1.1.1.1.1.1.0.now a.1.1.1.1.1.1.1.1.0.now a.1.1.1.1.1.1.1.1.1.0.now) (view a.1.1.1.1.1.1.1.1.1.1.0.now a.1.1.1.1.1.1.1.1.1.1.1.0.now a.1.1.1.1.1.1.1.1.1.1.1.1.0.now a.1.1.1.1.1.1.1.1.1.1.1.1.1.0.now) a.1.1.1.1.1.1.1.1.1.1.1.1.1.1.0.now

  abbrev h : Held
  h = held (view x.1.1.1.1.1.1.0.now x.1.1.1.1.1.1.1.0.now x.1.1.1.1.1.1.1.1.0.now x.1.1.1.1.1.1.1.1.1.0.now) (view x.1.1.1.1.1.1.1.1.1.1.0.now x.1.1.1.1.1.1.1.1.1.1.1.0.now x.1.1.1.1.1.1.1.1.1.1.1.1.0.now x.1.1.1.1.1.1.1.1.1.1.1.1.1.0.now) x.1.1.1.1.1.1.1.1.1.1.1.1.1.1.0.now

  abbrev j₀ : List ℕ
  j₀ = a.1.1.1.1.1.1.1.1.1.1.1.1.1.1.1.0.now

  abbrev j : List ℕ
  j = x.1.1.1.1.1.1.1.1.1.1.1.1.1.1.1.0.now

  abbrev change₀ : ℤ
  change₀ = a.1.1.1.1.1.1.1.1.1.1.1.1.1.1.1.1.0.now

  abbrev change : ℤ
  change = x.1.1.1.1.1.1.1.1.1.1.1.1.1.1.1.1.0.now

  abbrev total₀ : ℕ
  total₀ = a.1.1.1.1.1.1.1.1.1.1.1.1.1.1.1.1.1.0.now

  abbrev total : ℕ
  total = x.1.1.1.1.1.1.1.1.1.1.1.1.1.1.1.1.1.0.now

  pub take_back_bound : EditedOut (TakeBackPost s p d₀ d h₀ h j₀ j) r change₀ change total₀ total
  take_back_bound = learnt

  pub take_back_shared :
      {cs : List SharedCall} {es : List Event} {last : State} {end : List ℕ} → SharedRun p (leaves (latest r s s total) d h) j cs es last end →
      SharedRun p (leaves s d₀ h₀) j₀ (take_back ∷ cs) (record { reply = plain_answer r change; after = leaves (latest r s s total) d h; journal = j } ∷ es) last end
  take_back_shared = took_shared take_back_bound
