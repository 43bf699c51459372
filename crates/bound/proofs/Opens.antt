-- What a caller learns of a call of `luph_raw_open`, as the prover reads its contract, carries OPEN's promise, by computation alone; after an accepted call the theorems of a
-- run hold. a is what the call was passed, x what it left, both in the order of the parameters, and r is the number answered.
use Prim.Native.Nat.{ℕ}
use mathlib.Core.Path.{◌≡◌}
use mathlib.Core.List.{List}
use denote.Triple.Clauses.{AtExit}
use contract.Lifetimes.{Lfts}
use borrow.Fn.Kinds.{Dens, ended_of}
use Rattle.model.specs.declared.Settings.{Settings}
use Rattle.model.specs.Planes.{Pictures, Depths, Held, State, pictures, depths, view, held, read_held}
use Rattle.model.specs.Promises.{Sound, OpenPost}
use Rattle.run.specs.Run.{Call, Event, Run, leaves, plain, plain_end, RunPost}
use Rattle.run.specs.Shared.{SharedCall, SharedRun, opened, shared_end, SharedPost}
use Rattle.reach.specs.Runs.{AllWithin, AllSharedWithin}
use Rattle.order.specs.Orders.{AnyOrder}
use Rattle.order.specs.NoOp.{AllNoOps, AllSharedNoOps}
use Rattle.luphwezane.specs.Exports.{OpenedOut}
use Rattle.luphwezane.proofs.luph_raw_open.Reads as open-reads
use Rattle.luphwezane.proofs.luph_raw_open.Kinds as open-kinds
use Rattle.bound.specs.Latest.{latest}
use Rattle.bound.proofs.Steps.{opened_run, opened_shared, opened_sound, opened_shared_sound, opened_within, opened_shared_within, opened_order, opened_shared_order, opened_no_op, opened_shared_no_op}

module _ (κs : Lfts 16) (a : Dens κs open-kinds.ps) (r : ℕ) (x : AtExit (ended_of 16 open-kinds.ps open-kinds.r) κs) (learnt : open-reads.Learnt κs a r x) where
  abbrev s : Settings
  s = a.0

  abbrev p : Pictures
  p = pictures a.1.0.now a.1.1.0.now a.1.1.1.0.now

  abbrev d₀ : Depths
  d₀ = depths a.1.1.1.1.0.now a.1.1.1.1.1.0.now

  abbrev h₀ : Held
  h₀ = held (view a.1.1.1.1.1.1.0.now a.1.1.1.1.1.1.1.0.now a.1.1.1.1.1.1.1.1.0.now a.1.1.1.1.1.1.1.1.1.0.now) (view a.1.1.1.1.1.1.1.1.1.1.0.now a.1.1.1.1.1.1.1.1.1.1.1.0.now a.1.1.1.1.1.1.1.1.1.1.1.1.0.now a.1.1.1.1.1.1.1.1.1.1.1.1.1.0.now) a.1.1.1.1.1.1.1.1.1.1.1.1.1.1.0.now

  abbrev h : Held
  h = held (view x.1.1.1.1.1.1.0.now x.1.1.1.1.1.1.1.0.now x.1.1.1.1.1.1.1.1.0.now x.1.1.1.1.1.1.1.1.1.0.now) (view x.1.1.1.1.1.1.1.1.1.1.0.now x.1.1.1.1.1.1.1.1.1.1.1.0.now x.1.1.1.1.1.1.1.1.1.1.1.1.0.now x.1.1.1.1.1.1.1.1.1.1.1.1.1.0.now) x.1.1.1.1.1.1.1.1.1.1.1.1.1.1.0.now

  abbrev j₀ : List ℕ
  j₀ = a.1.1.1.1.1.1.1.1.1.1.1.1.1.1.1.0.now

  abbrev j : List ℕ
  j = x.1.1.1.1.1.1.1.1.1.1.1.1.1.1.1.0.now

  abbrev total₀ : ℕ
  total₀ = a.1.1.1.1.1.1.1.1.1.1.1.1.1.1.1.1.0.now

  abbrev total : ℕ
  total = x.1.1.1.1.1.1.1.1.1.1.1.1.1.1.1.1.0.now

  pub open_bound : OpenedOut (OpenPost s p d₀ h₀ h j₀ j) r total₀ total
  open_bound = learnt

  pub open_run : r ≡ 0 → {cs : List Call} {es : List Event} {last : State} → Run p (leaves (latest r s s total) d₀ h) cs es last → RunPost (plain s p d₀) (leaves (latest r s s total) d₀ h) cs es last
  open_run = opened_run open_bound

  pub open_shared :
      r ≡ 0 → {cs : List SharedCall} {es : List Event} {last : State} {end : List ℕ} → SharedRun p (leaves (latest r s s total) d₀ h) j cs es last end →
      SharedPost (opened (plain s p d₀) j₀) (leaves (latest r s s total) d₀ h) j cs es last end
  open_shared = opened_shared open_bound

  -- What the run leaves is sound as GET reads it.
  pub open_sound : r ≡ 0 → {cs : List Call} {es : List Event} {last : State} → Run p (leaves (latest r s s total) d₀ h) cs es last → Sound last.settings (plain_end (plain s p d₀) cs).pictures last.depths (read_held last.held)
  open_sound = opened_sound open_bound

  pub open_shared_sound :
      r ≡ 0 → {cs : List SharedCall} {es : List Event} {last : State} {end : List ℕ} → SharedRun p (leaves (latest r s s total) d₀ h) j cs es last end →
      Sound last.settings (shared_end (opened (plain s p d₀) j₀) cs).start.pictures last.depths (read_held last.held)
  open_shared_sound = opened_shared_sound open_bound

  -- The bound of document 02, card 4, holds in the run.
  pub open_within : r ≡ 0 → {cs : List Call} {es : List Event} {last : State} → Run p (leaves (latest r s s total) d₀ h) cs es last → AllWithin (plain s p d₀) cs es
  open_within = opened_within open_bound

  pub open_shared_within :
      r ≡ 0 → {cs : List SharedCall} {es : List Event} {last : State} {end : List ℕ} → SharedRun p (leaves (latest r s s total) d₀ h) j cs es last end →
      AllSharedWithin (opened (plain s p d₀) j₀) cs es
  open_shared_within = opened_shared_within open_bound

  -- Separate SETs after the run end alike in every order (card 10), and a call of the run that brings the depths that its block has changes nothing.
  pub open_order : r ≡ 0 → {cs : List Call} {es : List Event} {mid : State} → Run p (leaves (latest r s s total) d₀ h) cs es mid → AnyOrder (plain_end (plain s p d₀) cs).pictures mid
  open_order = opened_order open_bound

  pub open_shared_order :
      r ≡ 0 → {cs : List SharedCall} {es : List Event} {mid : State} {end : List ℕ} → SharedRun p (leaves (latest r s s total) d₀ h) j cs es mid end →
      AnyOrder (shared_end (opened (plain s p d₀) j₀) cs).start.pictures mid
  open_shared_order = opened_shared_order open_bound

  pub open_no_op : r ≡ 0 → {cs : List Call} {es : List Event} {last : State} → Run p (leaves (latest r s s total) d₀ h) cs es last → AllNoOps (leaves (latest r s s total) d₀ h) cs es
  open_no_op = opened_no_op open_bound

  pub open_shared_no_op :
      r ≡ 0 → {cs : List SharedCall} {es : List Event} {last : State} {end : List ℕ} → SharedRun p (leaves (latest r s s total) d₀ h) j cs es last end →
      AllSharedNoOps (leaves (latest r s s total) d₀ h) cs es
  open_shared_no_op = opened_shared_no_op open_bound
