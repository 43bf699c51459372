-- What a caller learns of a call of `luph_raw_move` carries MOVE's promise, so the call is a step of a run of either kind, which goes on with the call's own reference where it
-- is accepted. a is what it was passed, x what it left, r the number.
use Prim.Native.Nat.{ℕ}
use mathlib.Core.List.{List, ◌∷◌}
use lib.IntN.{pos}
use denote.Triple.Clauses.{AtExit}
use contract.Lifetimes.{Lfts}
use borrow.Fn.Kinds.{Dens, ended_of}
use Rattle.model.specs.declared.Settings.{Settings}
use Rattle.model.specs.Planes.{Pictures, Depths, Held, State, pictures, depths, view, held, with_seat, with_reference}
use Rattle.model.specs.Promises.{MovePost}
use Rattle.run.specs.Run.{Call, Event, Run, leaves, pictures_after}
use Rattle.run.specs.Run.Call.{move}
use Rattle.run.specs.Shared.{SharedCall, SharedRun}
use Rattle.run.specs.Shared.SharedCall.{move as shared-move}
use Rattle.luphwezane.specs.Exports.{OpenedOut}
use Rattle.luphwezane.proofs.luph_raw_move.Reads as move-reads
use Rattle.luphwezane.proofs.luph_raw_move.Kinds as move-kinds
use Rattle.bound.specs.Latest.{latest}
use Rattle.bound.proofs.Steps.{moved_step, moved_shared}

module _ (κs : Lfts 16) (a : Dens κs move-kinds.ps) (r : ℕ) (x : AtExit (ended_of 16 move-kinds.ps move-kinds.r) κs) (learnt : move-reads.Learnt κs a r x) where
  abbrev s : Settings
  s = a.0

  abbrev to : Settings
  to = a.1.0

  abbrev p : Pictures
  p = pictures a.1.1.0.now a.1.1.1.0.now a.1.1.1.1.0.now

  abbrev d₀ : Depths
  d₀ = depths a.1.1.1.1.1.0.now a.1.1.1.1.1.1.0.now

  abbrev h₀ : Held
  h₀ = held (view a.1.1.1.1.1.1.1.0.now a.1.1.1.1.1.1.1.1.0.now a.1.1.1.1.1.1.1.1.1.0.now a.1.1.1.1.1.1.1.1.1.1.0.now) (view a.1.1.1.1.1.1.1.1.1.1.1.0.now a.1.1.1.1.1.1.1.1.1.1.1.1.0.now a.1.1.1.1.1.1.1.1.1.1.1.1.1.0.now a.1.1.1.1.1.1.1.1.1.1.1.1.1.1.0.now) a.1.1.1.1.1.1.1.1.1.1.1.1.1.1.1.0.now

  abbrev h : Held
  h = held (view x.1.1.1.1.1.1.1.0.now x.1.1.1.1.1.1.1.1.0.now x.1.1.1.1.1.1.1.1.1.0.now x.1.1.1.1.1.1.1.1.1.1.0.now) (view x.1.1.1.1.1.1.1.1.1.1.1.0.now x.1.1.1.1.1.1.1.1.1.1.1.1.0.now x.1.1.1.1.1.1.1.1.1.1.1.1.1.0.now x.1.1.1.1.1.1.1.1.1.1.1.1.1.1.0.now) x.1.1.1.1.1.1.1.1.1.1.1.1.1.1.1.0.now

  abbrev j₀ : List ℕ
  j₀ = a.1.1.1.1.1.1.1.1.1.1.1.1.1.1.1.1.0.now

  abbrev j : List ℕ
  j = x.1.1.1.1.1.1.1.1.1.1.1.1.1.1.1.1.0.now

  abbrev total₀ : ℕ
  total₀ = a.1.1.1.1.1.1.1.1.1.1.1.1.1.1.1.1.1.0.now

  abbrev total : ℕ
  total = x.1.1.1.1.1.1.1.1.1.1.1.1.1.1.1.1.1.0.now

  pub move_bound : OpenedOut (MovePost s to p d₀ h₀ h j₀ j) r total₀ total
  move_bound = learnt

  -- before the call, the run has its own reference
  module _ (reference : List ℕ) where
    abbrev q : Pictures
    q = with_reference p reference

    pub move_step :
        {cs : List Call} {es : List Event} {last : State} → Run (pictures_after r q p.reference) (leaves (latest r s (with_seat s to) total) d₀ h) cs es last →
        Run q (leaves s d₀ h₀) (move to p.reference j₀ ∷ cs)
        (record { reply = record { number = r; change = pos 0 }; after = leaves (latest r s (with_seat s to) total) d₀ h; journal = j } ∷ es) last
    move_step = moved_step move_bound

    pub move_shared :
        {cs : List SharedCall} {es : List Event} {last : State} {end : List ℕ} →
        SharedRun (pictures_after r q p.reference) (leaves (latest r s (with_seat s to) total) d₀ h) j cs es last end →
        SharedRun q (leaves s d₀ h₀) j₀ (shared-move to p.reference ∷ cs)
        (record { reply = record { number = r; change = pos 0 }; after = leaves (latest r s (with_seat s to) total) d₀ h; journal = j } ∷ es) last end
    move_shared = moved_shared move_bound
