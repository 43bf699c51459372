-- What a caller learns of a call of `luph_raw_get` carries GET's promise, so the call is a step of a run of either kind, and of one depth sample it is within the bound of
-- document 02, card 4. a is what it was passed, x what it left, r the number.
use Prim.Native.Nat.{ℕ, ◌≤◌}
use mathlib.Core.Path.{◌≡◌}
use mathlib.Core.List.{List, [], ◌∷◌}
use lib.IntN.{ℤ, nat_abs}
use lib.ListN.{get_or}
use denote.Triple.Clauses.{AtExit}
use contract.Lifetimes.{Lfts}
use borrow.Fn.Kinds.{Dens, ended_of}
use Rattle.model.specs.declared.Settings.{Settings}
use Rattle.model.specs.declared.Block.{Block}
use Rattle.model.specs.declared.Candidate.{Candidate}
use Rattle.model.specs.Views.{is_right}
use Rattle.model.specs.Planes.{Pictures, Depths, Held, State, pictures, depths, view, held, read_held}
use Rattle.model.specs.Candidates.{filled}
use Rattle.model.specs.Promises.{Sound, GetPost}
use Rattle.decide.specs.Decided.{settings_of}
use Rattle.shape.specs.Shapes.{candidate_of, bytes_of}
use Rattle.run.specs.Run.{Call, Event, Run, leaves, plain_answer}
use Rattle.run.specs.Run.Call.{get}
use Rattle.run.specs.Shared.{SharedCall, SharedRun}
use Rattle.run.specs.Shared.SharedCall.{get as shared-get}
use Rattle.reach.specs.Reach.{OneDepth, most_change, reach_of}
use Rattle.reach.specs.Held.{held_length}
use Rattle.luphwezane.specs.Exports.{TriedOut}
use Rattle.luphwezane.proofs.luph_raw_get.Reads as get-reads
use Rattle.luphwezane.proofs.luph_raw_get.Kinds as get-kinds
use Rattle.bound.proofs.Steps.{got_step, got_shared, tried_within, tried_held}

module _ (κs : Lfts 17) (a : Dens κs get-kinds.ps) (r : ℕ) (x : AtExit (ended_of 17 get-kinds.ps get-kinds.r) κs) (learnt : get-reads.Learnt κs a r x) where
  abbrev s : Settings
  s = settings_of a.0 a.1.0 a.1.1.0.now a.1.1.1.0.now a.1.1.1.1.0 a.1.1.1.1.1.0 (record { gap = a.1.1.1.1.1.1.0; distance = a.1.1.1.1.1.1.1.0 }) a.1.1.1.1.1.1.1.1.0

  abbrev p : Pictures
  p = pictures a.1.1.1.1.1.1.1.1.1.0.now a.1.1.1.1.1.1.1.1.1.1.0.now a.1.1.1.1.1.1.1.1.1.1.1.0.now

  abbrev d₀ : Depths
  d₀ = depths a.1.1.1.1.1.1.1.1.1.1.1.1.0.now a.1.1.1.1.1.1.1.1.1.1.1.1.1.0.now

  abbrev h₀ : Held
  h₀ = held (view a.1.1.1.1.1.1.1.1.1.1.1.1.1.1.0.now a.1.1.1.1.1.1.1.1.1.1.1.1.1.1.1.0.now a.1.1.1.1.1.1.1.1.1.1.1.1.1.1.1.1.0.now a.1.1.1.1.1.1.1.1.1.1.1.1.1.1.1.1.1.0.now) (view a.1.1.1.1.1.1.1.1.1.1.1.1.1.1.1.1.1.1.0.now a.1.1.1.1.1.1.1.1.1.1.1.1.1.1.1.1.1.1.1.0.now a.1.1.1.1.1.1.1.1.1.1.1.1.1.1.1.1.1.1.1.1.0.now a.1.1.1.1.1.1.1.1.1.1.1.1.1.1.1.1.1.1.1.1.1.0.now) a.1.1.1.1.1.1.1.1.1.1.1.1.1.1.1.1.1.1.1.1.1.1.0.now

  abbrev v : ℕ
  v = a.1.1.1.1.1.1.1.1.1.1.1.1.1.1.1.1.1.1.1.1.1.1.1.0

  abbrev b : Block
  b = a.1.1.1.1.1.1.1.1.1.1.1.1.1.1.1.1.1.1.1.1.1.1.1.1.0

  abbrev c : Candidate
  c = candidate_of a.1.1.1.1.1.1.1.1.1.1.1.1.1.1.1.1.1.1.1.1.1.1.1.1.1.0

  abbrev y : List ℕ
  y = bytes_of a.1.1.1.1.1.1.1.1.1.1.1.1.1.1.1.1.1.1.1.1.1.1.1.1.1.0 a.1.1.1.1.1.1.1.1.1.1.1.1.1.1.1.1.1.1.1.1.1.1.1.1.1.1.0.now

  abbrev change₀ : ℤ
  change₀ = a.1.1.1.1.1.1.1.1.1.1.1.1.1.1.1.1.1.1.1.1.1.1.1.1.1.1.1.0.now

  abbrev change : ℤ
  change = x.1.1.1.1.1.1.1.1.1.1.1.1.1.1.1.1.1.1.1.1.1.1.1.1.1.1.1.0.now

  pub get_bound : TriedOut (GetPost s p d₀ h₀ v b c y) r change₀ change
  get_bound = learnt

  pub get_step :
      {cs : List Call} {es : List Event} {last : State} → Run p (leaves s d₀ h₀) cs es last →
      Run p (leaves s d₀ h₀) (get v b c y ∷ cs) (record { reply = plain_answer r change; after = leaves s d₀ h₀; journal = [] } ∷ es) last
  get_step = got_step get_bound

  pub get_shared :
      {j end : List ℕ} {cs : List SharedCall} {es : List Event} {last : State} → SharedRun p (leaves s d₀ h₀) j cs es last end →
      SharedRun p (leaves s d₀ h₀) j (shared-get v b c y ∷ cs) (record { reply = plain_answer r change; after = leaves s d₀ h₀; journal = j } ∷ es) last end
  get_shared = got_shared get_bound

  -- A call of one depth sample answers a change within the bound of document 02, card 4 (get_within), also where L is worked out as include/luphwezane.h says (get_held).
  pub get_within : Sound s p d₀ (read_held h₀) → r ≡ 0 → OneDepth b → nat_abs change ≤ reach_of s d₀ v b (filled b c y)
  get_within = tried_within get_bound

  pub get_held : Sound s p d₀ (read_held h₀) → r ≡ 0 → OneDepth b → nat_abs change ≤ most_change (held_length s (is_right v) b d₀ h₀ (get_or (filled b c y) 0 0))
  get_held = tried_held get_bound
