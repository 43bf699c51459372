-- A SET of the depths that a block has.
--     no_change, no_edit            it changes nothing of the total, and nothing of the record
--     get_no_op, set_no_op          so of the promises of GET and SET, on a sound session
--     session_no_op, shared_no_op   and of every call of a run
--     kept_no_op                    and again after the caller has emptied the journal
use Prim.Native.Nat.{ℕ}
use mathlib.Core.Path.{◌≡◌, refl, sym, ap, ◌∙◌}
use mathlib.Core.List.{List}
use lib.IntN.{pos, ◌-ℤ◌, +ℤ_invr}
use lib.ListN.{length}
use borrow.Author.Tests.{eq-eqb}
use Rattle.model.specs.declared.Settings.{Settings}
use Rattle.model.specs.declared.Block.{Block}
use Rattle.model.specs.declared.Candidate.{Candidate}
use Rattle.model.specs.Replies.{OpenReply, TrialReply, EditReply}
use Rattle.model.specs.Planes.{Pictures, Depths, Held, State, read_held}
use Rattle.model.specs.Candidates.{filled}
use Rattle.model.specs.Blocks.{old_depths, change_of}
use Rattle.model.specs.Journals.{emptied}
use Rattle.model.specs.Promises.{OpenPost, Sound, GetPost, SetPost}
use Rattle.model.proofs.Fresh.{DepthsSized}
use Rattle.model.proofs.Written.{written_old}
use Rattle.model.proofs.Refusals.{early_facts}
use Rattle.model.proofs.Promises.{get_early}
use Rattle.run.specs.Run.{Call, Event, Run, leaves, Plain, plain, plain_number, plain_accepted, plain_next, plain_answer, plain_change, plain_reply, plain_state, plain_event}
use Rattle.run.specs.Run.Call.{get, set, move}
use Rattle.run.specs.Shared.{SharedCall, SharedRun, SharedPlain, in_turn, opened, stands_as, plain_total, shared_number, accepted, shared_next, shared_change, shared_reply, shared_event, shared_end}
use Rattle.run.specs.Shared.SharedCall.{get as shared-get, set as shared-set, take_back, move as shared-move}
use Rattle.run.proofs.Steps.{Ready}
use Rattle.run.proofs.Calls.{fill_leaves, edited}
use Rattle.run.proofs.Run.{session_all}
use Rattle.run.proofs.Shared.{ready_turn, shared_run, shared_all, kept_all}
use Rattle.order.specs.NoOp.{BlockHas, CallNoOp, AllNoOps, SharedNoOp, AllSharedNoOps}
use Rattle.order.proofs.Orders.{sound_state, set_state, set_change, tested}

-- ---- the record

module _ (r : Plain) (sized : DepthsSized r.settings r.depths) (v : ℕ) (b : Block) {c : List ℕ} (has : c ≡ old_depths r.settings v b r.depths) where
  pub no_edit : edited r v b c ≡ r
  no_edit = ap (plain r.settings r.pictures) (rw has (written_old r.settings v b r.depths sized))

  pub no_change : change_of r.settings r.pictures r.depths v b c ≡ pos 0
  unfolding change_of
  no_change = ap (λ (y : Plain). pos (plain_total y) -ℤ pos (plain_total r)) no_edit ∙ +ℤ_invr (pos (plain_total r))

-- ---- GET and SET on a sound session

module _ (s : Settings) (p : Pictures) (d : Depths) (h : Held) (v : ℕ) (b : Block) (c : Candidate) (x : List ℕ) (has : filled b c x ≡ old_depths s v b d) where
  pub get_no_op : (t : TrialReply) → GetPost s p d h v b c x t → Sound s p d (read_held h) → t.number ≡ 0 → t.change ≡ pos 0
  get_no_op t post sound z =
      let e = get_early s p d h v b c x post z in
      post.change z ∙ post.decided e sound ∙ no_change (plain s p d) (early_facts s p d h v b c (length x) e).0.depths v b has

  pub set_no_op : (e : Depths) (g : Held) (j k : List ℕ) (t : EditReply) → SetPost s p d e h g j k v b c x t → Sound s p d h → t.number ≡ 0 → (t.change ≡ pos 0) × (leaves t.settings e g ≡ leaves s d h)
  set_no_op e g j k t post sound z =
      let sized = (tested s p d e h g j k v b c x t post z sound).depths in (
        set_change s p d e h g j k v b c x t post z sound ∙ no_change (plain s p d) sized v b has,
        set_state s p d e h g j k v b c x t post z sound ∙ ap plain_state (no_edit (plain s p d) sized v b has) ∙ sym (sound_state p (leaves s d h) sound),
      )

-- ---- a run

-- a call whose number by the record is n, and which leaves the record `next`
answer_no_op :
    (r : Plain) → Ready r → (v : ℕ) (b : Block) (c : List ℕ) (n : ℕ) (next : Plain) → (n ≡ 0 → BlockHas (plain_state r) v b c → next ≡ r) → n ≡ 0 → BlockHas (plain_state r) v b c →
    ((plain_answer n (change_of r.settings r.pictures r.depths v b c)).change ≡ pos 0) × (plain_state next ≡ plain_state r)
unfolding plain_state plain_answer
answer_no_op r ok v b c n next stays z has = (rw (eq-eqb n 0 z) (no_change r ok.depths v b has), ap plain_state (stays z has))

call_no_op : (r : Plain) → Ready r → (k : Call) → CallNoOp (plain_state r) k (plain_event r k)
unfolding plain_reply plain_next plain_number plain_accepted plain_change plain_state plain_answer
call_no_op r ok (get v b c x) = answer_no_op r ok v b (filled b c x) _ _ (λ z has. rw (eq-eqb _ 0 z))
call_no_op r ok (set v b c x j) = answer_no_op r ok v b (filled b c x) _ _ (λ z has. rw (eq-eqb _ 0 z) (no_edit r ok.depths v b has))
call_no_op r ok (move to reference j) = tt

shared_call_no_op : (r : SharedPlain) → Ready r.start → (k : SharedCall) → SharedNoOp (plain_state (stands_as r)) k (shared_event r k)
unfolding shared_reply shared_next shared_number accepted shared_change in_turn plain_state plain_answer
shared_call_no_op r ok (shared-get v b c x) = answer_no_op (stands_as r) (ready_turn r.start ok r.standing) v b (filled b c x) _ _ (λ z has. rw (eq-eqb _ 0 z))
shared_call_no_op r ok (shared-set v b c x) =
    let now = ready_turn r.start ok r.standing in
    answer_no_op (stands_as r) now v b (filled b c x) _ _ (λ z has. rw (eq-eqb _ 0 z) (no_edit (stands_as r) now.depths v b has))
shared_call_no_op r ok take_back = tt
shared_call_no_op r ok (shared-move to reference) = tt

-- ---- after an accepted OPEN

module _ (s : Settings) (p : Pictures) (d : Depths) (h₀ h : Held) (j₀ j : List ℕ) (o : OpenReply) (post : OpenPost s p d h₀ h j₀ j o) (yes : o.number ≡ 0) where
  leaves_first : leaves o.settings d h ≡ plain_state (plain s p d)
  leaves_first = fill_leaves s s p d h₀ h j₀ j o post yes

  pub session_no_op : {cs : List Call} {es : List Event} {last : State} → Run p (leaves o.settings d h) cs es last → AllNoOps (leaves o.settings d h) cs es
  unfolding AllNoOps
  session_no_op run = rw leaves_first (session_all s p d h₀ h j₀ j o post yes run plain_state (λ (st : State) k e. e.after) CallNoOp (λ r k. refl) call_no_op)

  abbrev session : SharedPlain → State
  session r = plain_state (stands_as r)

  pub shared_no_op : {cs : List SharedCall} {es : List Event} {last : State} {end : List ℕ} → SharedRun p (leaves o.settings d h) j cs es last end → AllSharedNoOps (leaves o.settings d h) cs es
  unfolding AllSharedNoOps in_turn
  shared_no_op run = rw leaves_first (shared_all s p d h₀ h j₀ j o post yes run session (λ (st : State) k e. e.after) SharedNoOp (λ r k. refl) shared_call_no_op)

  pub kept_no_op :
      {cs ds : List SharedCall} {es fs : List Event} {last st : State} {end k : List ℕ} → SharedRun p (leaves o.settings d h) j cs es last end →
      SharedRun (shared_end (opened (plain s p d) j₀) cs).start.pictures last (emptied end) ds fs st k → AllSharedNoOps last ds fs
  unfolding AllSharedNoOps in_turn
  kept_no_op run further =
      rw (shared_run s p d h₀ h j₀ j o post yes run).session
      (kept_all s p d h₀ h j₀ j o post yes run session (λ (st : State) k e. e.after) SharedNoOp (λ r k. refl) shared_call_no_op further)
