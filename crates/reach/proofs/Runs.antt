-- The bound in runs: of document 01's, and of those with one journal.
--     session_within, shared_within     each accepted GET and SET of one depth sample, at its own point of the run, is within the bound
--     kept_within                       and again after the caller has emptied the journal
use Prim.Native.Nat.{ℕ, ◌≤◌}
use mathlib.Core.Path.{◌≡◌, refl}
use mathlib.Core.List.{List}
use lib.ListN.{length}
use lib.IntN.{nat_abs}
use borrow.Author.Tests.{eq-eqb}
use Rattle.model.specs.declared.Settings.{Settings}
use Rattle.model.specs.declared.Block.{Block}
use Rattle.model.specs.declared.Candidate.{Candidate}
use Rattle.model.specs.Replies.{OpenReply}
use Rattle.model.specs.Planes.{Pictures, Depths, Held, State}
use Rattle.model.specs.Candidates.{filled}
use Rattle.model.specs.Blocks.{change_of}
use Rattle.model.specs.Journals.{emptied}
use Rattle.model.specs.Refusals.{own_then, saving_then}
use Rattle.model.specs.Promises.{OpenPost}
use Rattle.run.specs.Run.{Call, Event, Run, leaves, Plain, plain, plain_number, plain_next, plain_answer, plain_change, plain_reply, plain_event}
use Rattle.run.specs.Run.Call.{get, set, move}
use Rattle.run.specs.Shared.{SharedCall, SharedRun, SharedPlain, opened, stands_as, shared_number, shared_next, shared_change, shared_reply, shared_event, shared_end}
use Rattle.run.specs.Shared.SharedCall.{get as shared-get, set as shared-set, take_back, move as shared-move}
use Rattle.run.proofs.Steps.{Ready}
use Rattle.run.proofs.Calls.{set_own}
use Rattle.run.proofs.Run.{session_all}
use Rattle.run.proofs.Shared.{ready_turn, shared_all, kept_all}
use Rattle.reach.specs.Reach.{OneDepth, reach_of}
use Rattle.reach.specs.Runs.{CallWithin, AllWithin, SharedWithin, AllSharedWithin}
use Rattle.reach.proofs.Change.{change_within}

-- a call whose number by the record is n, the numbers of a GET or SET with some rest of its list
answer_within :
    (r : Plain) → Ready r → (v : ℕ) (b : Block) (c : Candidate) (x : List ℕ) (rest : ℕ) →
    let n : ℕ = own_then r.settings v b c (length x) rest in
    n ≡ 0 → OneDepth b → nat_abs (plain_answer n (change_of r.settings r.pictures r.depths v b (filled b c x))).change ≤ reach_of r.settings r.depths v b (filled b c x)
unfolding plain_answer
answer_within r ok v b c x rest z one =
    rw (eq-eqb _ 0 z)
    (change_within r.settings r.pictures r.depths v b (filled b c x) ok.depths ok.share (set_own r.settings v b c (length x) rest z).block one)

-- ---- document 01's runs

call_within : (r : Plain) → Ready r → (k : Call) → CallWithin r k (plain_event r k)
unfolding plain_reply plain_answer plain_number plain_change
call_within r ok (get v b c x) = answer_within r ok v b c x 0
call_within r ok (set v b c x j) = answer_within r ok v b c x (saving_then r.settings b j 0)
call_within r ok (move to reference j) = tt

-- ---- runs with one journal

shared_call_within : (r : SharedPlain) → Ready r.start → (k : SharedCall) → SharedWithin r k (shared_event r k)
unfolding shared_reply plain_answer shared_number shared_change
shared_call_within r ok (shared-get v b c x) = answer_within (stands_as r) (ready_turn r.start ok r.standing) v b c x 0
shared_call_within r ok (shared-set v b c x) = answer_within (stands_as r) (ready_turn r.start ok r.standing) v b c x (saving_then r.start.settings b r.journal 0)
shared_call_within r ok take_back = tt
shared_call_within r ok (shared-move to reference) = tt

-- ---- after an accepted OPEN

module _ (s : Settings) (p : Pictures) (d : Depths) (h₀ h : Held) (j₀ j : List ℕ) (o : OpenReply) (post : OpenPost s p d h₀ h j₀ j o) (yes : o.number ≡ 0) where
  pub session_within : {cs : List Call} {es : List Event} {last : State} → Run p (leaves o.settings d h) cs es last → AllWithin (plain s p d) cs es
  unfolding AllWithin
  session_within run = session_all s p d h₀ h j₀ j o post yes run (λ r. r) (λ r k e. plain_next r k) CallWithin (λ r k. refl) call_within

  pub shared_within : {cs : List SharedCall} {es : List Event} {last : State} {end : List ℕ} → SharedRun p (leaves o.settings d h) j cs es last end → AllSharedWithin (opened (plain s p d) j₀) cs es
  unfolding AllSharedWithin
  shared_within run = shared_all s p d h₀ h j₀ j o post yes run (λ r. r) (λ r k e. shared_next r k) SharedWithin (λ r k. refl) shared_call_within

  pub kept_within :
      {cs ds : List SharedCall} {es fs : List Event} {last st : State} {end k : List ℕ} → SharedRun p (leaves o.settings d h) j cs es last end →
      let ends : SharedPlain = shared_end (opened (plain s p d) j₀) cs in
      SharedRun ends.start.pictures last (emptied end) ds fs st k → AllSharedWithin (opened (stands_as ends) end) ds fs
  unfolding AllSharedWithin
  kept_within run = kept_all s p d h₀ h j₀ j o post yes run (λ r. r) (λ r k e. shared_next r k) SharedWithin (λ r k. refl) shared_call_within
