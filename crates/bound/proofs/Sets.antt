-- What a caller learns of a call of `luph_raw_set` carries SET's promise, so the call is a step of a run of either kind. a is what it was passed, x what it left, r the number.
use Prim.Native.Nat.{ℕ}
use mathlib.Core.Path.{◌≡◌}
use mathlib.Core.List.{List, ◌∷◌}
use lib.IntN.{ℤ, pos}
use denote.Triple.Clauses.{AtExit}
use contract.Lifetimes.{Lfts}
use borrow.Fn.Kinds.{Dens, ended_of}
use Rattle.model.specs.declared.Settings.{Settings}
use Rattle.model.specs.declared.Block.{Block}
use Rattle.model.specs.declared.Candidate.{Candidate}
use Rattle.model.specs.Planes.{Pictures, Depths, Held, State, pictures, depths, view, held}
use Rattle.model.specs.Candidates.{filled}
use Rattle.model.specs.Blocks.{old_depths}
use Rattle.model.specs.Promises.{Sound, SetPost}
use Rattle.shape.specs.Shapes.{candidate_of, bytes_of}
use Rattle.run.specs.Run.{Call, Event, Run, leaves, plain_answer}
use Rattle.run.specs.Run.Call.{set}
use Rattle.run.specs.Shared.{SharedCall, SharedRun}
use Rattle.run.specs.Shared.SharedCall.{set as shared-set}
use Rattle.luphwezane.specs.Exports.{EditedOut}
use Rattle.luphwezane.proofs.luph_raw_set.Reads as set_Reads
use Rattle.luphwezane.proofs.luph_raw_set.Kinds as set-kinds
use Rattle.bound.specs.Latest.{latest}
use Rattle.bound.proofs.Steps.{wrote_step, wrote_shared, wrote_no_op}

module _ (κs : Lfts 18) (a : Dens κs set-kinds.ps) (r : ℕ) (x : AtExit (ended_of 18 set-kinds.ps set-kinds.r) κs) (learnt : set_Reads.Learnt κs a r x) where
  abbrev s : Settings
  s = a.0

  abbrev p : Pictures
  p = pictures a.1.0.now a.1.1.0.now a.1.1.1.0.now

  abbrev d₀ : Depths
  d₀ = depths a.1.1.1.1.0.now a.1.1.1.1.1.0.now

  abbrev d : Depths
  d = depths x.1.1.1.1.0.now x.1.1.1.1.1.0.now

  abbrev h₀ : Held
  h₀ = held (view a.1.1.1.1.1.1.0.now a.1.1.1.1.1.1.1.0.now a.1.1.1.1.1.1.1.1.0.now a.1.1.1.1.1.1.1.1.1.0.now) (view a.1.1.1.1.1.1.1.1.1.1.0.now a.1.1.1.1.1.1.1.1.1.1.1.0.now a.1.1.1.1.1.1.1.1.1.1.1.1.0.now a.1.1.1.1.1.1.1.1.1.1.1.1.1.0.now) a.1.1.1.1.1.1.1.1.1.1.1.1.1.1.0.now

  abbrev h : Held
  h = held (view x.1.1.1.1.1.1.0.now x.1.1.1.1.1.1.1.0.now x.1.1.1.1.1.1.1.1.0.now x.1.1.1.1.1.1.1.1.1.0.now) (view x.1.1.1.1.1.1.1.1.1.1.0.now x.1.1.1.1.1.1.1.1.1.1.1.0.now x.1.1.1.1.1.1.1.1.1.1.1.1.0.now x.1.1.1.1.1.1.1.1.1.1.1.1.1.0.now) x.1.1.1.1.1.1.1.1.1.1.1.1.1.1.0.now

  abbrev j₀ : List ℕ
  j₀ = a.1.1.1.1.1.1.1.1.1.1.1.1.1.1.1.0.now

  abbrev j : List ℕ
  j = x.1.1.1.1.1.1.1.1.1.1.1.1.1.1.1.0.now

  abbrev v : ℕ
  v = a.1.1.1.1.1.1.1.1.1.1.1.1.1.1.1.1.0

  abbrev b : Block
  b = a.1.1.1.1.1.1.1.1.1.1.1.1.1.1.1.1.1.0

  abbrev c : Candidate
  c = candidate_of a.1.1.1.1.1.1.1.1.1.1.1.1.1.1.1.1.1.1.0

  abbrev y : List ℕ
  y = bytes_of a.1.1.1.1.1.1.1.1.1.1.1.1.1.1.1.1.1.1.0 a.1.1.1.1.1.1.1.1.1.1.1.1.1.1.1.1.1.1.1.0.now

  abbrev change₀ : ℤ
  change₀ = a.1.1.1.1.1.1.1.1.1.1.1.1.1.1.1.1.1.1.1.1.0.now

  abbrev change : ℤ
  change = x.1.1.1.1.1.1.1.1.1.1.1.1.1.1.1.1.1.1.1.1.0.now

  abbrev total₀ : ℕ
  total₀ = a.1.1.1.1.1.1.1.1.1.1.1.1.1.1.1.1.1.1.1.1.1.0.now

  abbrev total : ℕ
  total = x.1.1.1.1.1.1.1.1.1.1.1.1.1.1.1.1.1.1.1.1.1.0.now

  pub set_bound : EditedOut (SetPost s p d₀ d h₀ h j₀ j v b c y) r change₀ change total₀ total
  set_bound = learnt

  pub set_step :
      {cs : List Call} {es : List Event} {last : State} → Run p (leaves (latest r s s total) d h) cs es last →
      Run p (leaves s d₀ h₀) (set v b c y j₀ ∷ cs) (record { reply = plain_answer r change; after = leaves (latest r s s total) d h; journal = j } ∷ es) last
  set_step = wrote_step set_bound

  pub set_shared :
      {cs : List SharedCall} {es : List Event} {last : State} {end : List ℕ} → SharedRun p (leaves (latest r s s total) d h) j cs es last end →
      SharedRun p (leaves s d₀ h₀) j₀ (shared-set v b c y ∷ cs) (record { reply = plain_answer r change; after = leaves (latest r s s total) d h; journal = j } ∷ es) last end
  set_shared = wrote_shared set_bound

  -- Of the depths that the block has, on a sound session: the change is 0, and the caller's session is what it was (document 02, card 10).
  pub set_no_op : Sound s p d₀ h₀ → r ≡ 0 → filled b c y ≡ old_depths s v b d₀ → (change ≡ pos 0) × (leaves (latest r s s total) d h ≡ leaves s d₀ h₀)
  set_no_op sound = wrote_no_op sound set_bound
