-- The runs with one journal (document 02, cards 3 and 11) from the promises of OPEN, GET, SET, TAKE BACK and MOVE alone.
--     shared_run           whatever an accepted OPEN left and each call of the list answered and left by its promise
--     kept_run             and again after the caller has emptied the journal
--     shared_as_opened     what such a run leaves is what a fresh OPEN leaves, with the settings and reference of the last accepted MOVE
--     shared_opens         and such an OPEN is accepted
--     shared_ready         the record at its end has passed the tests of OPEN, or of the last accepted MOVE
--     shared_sound         what such a run leaves is sound as GET reads it
--     shared_halts         such a run halted after any of its calls is one
--     get_next             a GET leaves the plain record as it was
--     ready_turn           what OPEN has tested holds with any SETs standing
--     shared_all           what holds of each call by the record as it finds it holds of all calls of such a run
--     kept_all             and of all calls after the caller has emptied the journal
use Prim.Native.Nat.{ℕ, zero, suc, ◌*◌, ◌<◌}
use mathlib.Core.Path.{◌≡◌, refl, ap, sym, ◌∙◌, subst}
use mathlib.Core.Bool.{Bool, cond}
use mathlib.Core.List.{List, [], ◌∷◌}
use mathlib.Core.Logic.{inl, inr}
use native.Mathlib.Omega.{arith}
use lib.ListN.{length, take}
use lib.IntN.{pos, ◌-ℤ◌}
use Rattle.std.proofs.lemmas.Int.{ints}
use borrow.Author.Tests.{ltb-false, eq-eqb, ne_eqb}
use Rattle.model.specs.declared.Settings.{Settings}
use Rattle.model.specs.declared.Block.{Block}
use Rattle.model.specs.declared.Candidate.{Candidate}
use Rattle.model.specs.Replies.{OpenReply}
use Rattle.model.specs.Marks.{mark_bytes}
use Rattle.model.specs.Planes.{Pictures, Depths, Held, State, area, read_held}
use Rattle.model.specs.Candidates.{filled}
use Rattle.model.specs.Journals.{emptied}
use Rattle.model.specs.Blocks.{written, change_of}
use Rattle.model.specs.Refusals.{journal_ok, room_ok, some_record, open_number, saving_then, taking_then}
use Rattle.model.specs.Promises.{Sound, EightBit, OpenPost}
use Rattle.model.proofs.Refusals.{HeldOf, unless_true, unless_rest, rest_passed, own_before, own_usual}
use Rattle.run.specs.Calls.{AllBy}
use Rattle.run.specs.Run.{Event, leaves, Plain, plain, plain_state, OfMove, state_after}
use Rattle.run.specs.Shared.{SharedCall, SharedRun, Standing, SharedPlain, in_turn, struck, opened, with_standing, stands_as, plain_total, shared_number, accepted, shared_next, shared_change, shared_reply, shared_event, shared_events, shared_end, SharedKept, AllSharedKept, Found, stack_after, Restores, AllRestore, SharedUsual, AllSharedUsual, SharedPost, journal_after}
use Rattle.run.specs.Shared.SharedCall.{get, set, take_back, move}
use Rattle.run.specs.Shared.SharedRun.{halted, got, wrote, took, moved}
use Rattle.run.proofs.Steps.{Ready, ready_open, ready_written, ready_moved}
use Rattle.run.proofs.Calls.{fill_ready, fill_leaves, fill_words, chosen, next_pictures, either, unless_either, move_usual, set_own, Done, by_number, event_same, done_reply, done_as, all_calls, sound_as_read, get_done, set_done, take_done, move_done, edit_kept, move_kept}
use Rattle.run.proofs.Ledger.{Ledger, ledger_ok, taking_none, taking_some, ledger_opened, ledger_saved, ledger_taken, taken_restores, taken_inside}

-- ---- the SETs standing

pub ready_turn : (r : Plain) → Ready r → (ks : List Standing) → Ready (with_standing r ks)
unfolding in_turn
ready_turn r ok [] = ok
ready_turn r ok (k ∷ ks) = ready_written (with_standing r ks) (ready_turn r ok ks) k.view k.block k.depths

-- and after a call, with what is drawn then
ready_shared : (r : SharedPlain) → Ready r.start → (k : SharedCall) → Ready (shared_next r k).start
unfolding shared_next accepted shared_number
ready_shared r ok (get v b c x) = chosen (λ (y : SharedPlain). Ready y.start) (shared_number r (get v b c x)) _ r (λ z. ok) (λ z. ok)
ready_shared r ok (set v b c x) = chosen (λ (y : SharedPlain). Ready y.start) (shared_number r (set v b c x)) _ r (λ z. ok) (λ z. ok)
ready_shared r ok take_back = chosen (λ (y : SharedPlain). Ready y.start) (shared_number r take_back) _ r (λ z. ok) (λ z. ok)
ready_shared r ok (move to reference) =
    chosen (λ (y : SharedPlain). Ready y.start) (shared_number r (move to reference)) _ r
    (λ z. ready_moved (stands_as r) (ready_turn r.start ok r.standing) to reference r.journal z) (λ z. ok)

-- the session as the plain record has it
abbrev session : SharedPlain → State
session r = plain_state (stands_as r)

-- the stack of the events holds, for each SET standing, the session before it and its change
unfoldable Stacked : Plain → List Found → List Standing → Type 0
Stacked r [] [] = Unit
Stacked r [] (k ∷ ks) = ⊥
Stacked r (f ∷ fs) [] = ⊥
Stacked r (f ∷ fs) (k ∷ ks) =
    ((f.before ≡ plain_state (with_standing r ks)) × (f.change ≡ change_of r.settings r.pictures (with_standing r ks).depths k.view k.block k.depths))
    × Stacked r fs ks

-- what holds between two calls: stack and journal hold the SETs standing, and what is drawn with has passed OPEN's tests
record Between (r : SharedPlain) (fs : List Found) : Type 0 where
  stacked : Stacked r.start fs r.standing
  ledger : Ledger r.start.settings r.start.depths r.journal r.standing
  ready : Ready r.start

ready_now : {r : SharedPlain} {fs : List Found} → Between r fs → Ready (stands_as r)
ready_now {r = r} h = ready_turn r.start h.ready r.standing

-- what is shown of a call, as the record has it
abbrev Answers : SharedPlain → SharedCall → Event → Type 0
Answers r k e =
    Done (stands_as r) (stands_as (accepted r k)) (shared_number r k) (shared_change r.start r.standing k) r.journal (accepted r k).journal e

-- ---- the numbers

call_usual : (r : SharedPlain) (fs : List Found) → Between r fs → (k : SharedCall) → SharedUsual k (shared_number r k)
unfolding shared_number saving_then taking_then
call_usual r fs h (get v b c x) = own_usual r.start.settings v b c (length x)
call_usual r fs h (set v b c x) =
    let U : ℕ → Type 0 = SharedUsual (set v b c x) in
    either U (own_before r.start.settings v b c (length x)) (saving_then r.start.settings b r.journal 0) (inl (own_usual r.start.settings v b c (length x)))
    (rw (ledger_ok r.start.settings r.start.depths r.journal r.standing h.ledger) (unless_either U (room_ok b r.journal) 11 0 (inr refl) (inl (inl refl))))
call_usual r fs h take_back =
    rw (ledger_ok r.start.settings r.start.depths r.journal r.standing h.ledger)
    (unless_either (SharedUsual take_back) (some_record r.journal) 12 0 (inr refl) (inl refl))
call_usual r fs h (move to reference) =
    move_usual OfMove (λ n u. u) r.start.settings to reference r.journal
    (λ t. absurd (omega (arith, ltb-false 0 (length r.journal) t)))

-- ---- GET, SET and MOVE

pub get_next : (r : SharedPlain) (v : ℕ) (b : Block) (c : Candidate) (x : List ℕ) → shared_next r (get v b c x) ≡ r
unfolding shared_next accepted
get_next r v b c x = grind arith

module _ (r : SharedPlain) (fs : List Found) (h : Between r fs) where
  get_between : (v : ℕ) (b : Block) (c : Candidate) (x : List ℕ) (e : Event) → Between (shared_next r (get v b c x)) (stack_after fs (session r) (get v b c x) e)
  unfolding stack_after
  get_between v b c x e = subst (λ (y : SharedPlain). Between y fs) (sym (get_next r v b c x)) h

  -- accepted, it puts what it found on the stack, and the journal holds it
  set_between :
      (v : ℕ) (b : Block) (c : Candidate) (x : List ℕ) (e : Event) → Answers r (set v b c x) e → EightBit e.after.depths →
      Between (shared_next r (set v b c x)) (stack_after fs (session r) (set v b c x) e)
  unfolding plain_state shared_number shared_next accepted shared_change saving_then stack_after Stacked
  set_between v b c x e f bytes =
      by_number f (λ (y : SharedPlain). Between y (stack_after fs (session r) (set v b c x) e)) (accepted r (set v b c x)) r
      (λ z.
      let s : Settings = r.start.settings in
      let n = sym f.number ∙ z in
      let own = set_own s v b c (length x) (saving_then s b r.journal 0) n in
      let room = unless_true (room_ok b r.journal) 10 0 (unless_rest (journal_ok s r.journal) 12 _ (rest_passed (own_before s v b c (length x)) (saving_then s b r.journal 0) n)) in
      let eight = subst EightBit (ap (λ (y : State). y.depths) (f.after z)) bytes in
      record {
        stacked = rw (eq-eqb e.reply.number 0 z) ((refl, f.change z), h.stacked);
        ledger = ledger_saved s r.start.depths r.journal r.standing v b (filled b c x) h.ledger own.view own.block room eight;
        ready = h.ready;
      })
      (λ z. rw (ne_eqb e.reply.number 0 z) h)

  -- accepted, all of it begins anew
  move_between :
      (to : Settings) (reference : List ℕ) (e : Event) → Answers r (move to reference) e → Between (shared_next r (move to reference)) (stack_after fs (session r) (move to reference) e)
  unfolding in_turn shared_next accepted stack_after Stacked
  move_between to reference e f =
      by_number f (λ (y : SharedPlain). Between y (stack_after fs (session r) (move to reference) e)) (accepted r (move to reference)) r
      (λ z.
      let none : stack_after fs (session r) (move to reference) e ≡ [] = ap (λ (t : Bool). cond t [] fs) (eq-eqb e.reply.number 0 z) in
      record {
        stacked = rw none tt;
        ledger = ledger_opened _ _ r.journal h.ledger.words h.ledger.eight_bit;
        ready = f.ready z;
      })
      (λ z. rw (ne_eqb e.reply.number 0 z) h)

-- ---- TAKE BACK

-- the change, where the depths are written that make them e
change_of_lem : (r : Plain) (v : ℕ) (b : Block) (c : List ℕ) {e : Depths} → written r.settings v b c r.depths ≡ e → change_of r.settings r.pictures r.depths v b c ≡ pos (plain_total (plain r.settings r.pictures e)) -ℤ pos (plain_total r)
unfolding change_of
change_of_lem r v b c w = rw w

module _ (start : Plain) (j : List ℕ) where
  abbrev s : Settings
  s = start.settings

  abbrev of : List Standing → SharedPlain
  of ks = record { start = start; standing = ks; journal = j }

  take_stack :
      (fs : List Found) (ks : List Standing) (before : State) (e : Event) → Ledger s start.depths j ks → Stacked start fs ks →
      Stacked (shared_next (of ks) take_back).start (stack_after fs before take_back e) (shared_next (of ks) take_back).standing
  unfolding Stacked stack_after shared_number shared_next accepted struck
  take_stack [] [] before e h q = rw (taking_none s start.depths j h) tt
  take_stack [] (k ∷ ks) before e h q = absurd q
  take_stack (f ∷ fs) [] before e h q = absurd q
  take_stack (f ∷ fs) (k ∷ ks) before e h q = rw (taking_some s start.depths j k ks h) q.1

  -- it restores what the newest SET standing found and answers its change negated; 12 exactly where none stands
  restores :
      (fs : List Found) (ks : List Standing) (e : Event) → Ledger s start.depths j ks → Stacked start fs ks → Answers (of ks) take_back e → Restores fs take_back e
  unfolding Stacked shared_number accepted struck shared_change in_turn change_of
  restores [] [] e h q a = a.number ∙ taking_none s start.depths j h
  restores [] (k ∷ ks) e h q a = absurd q
  restores (f ∷ fs) [] e h q a = absurd q
  restores (f ∷ fs) (k ∷ ks) e h q a =
      let z = a.number ∙ taking_some s start.depths j k ks h in (
        z,
        (
          a.after z ∙ sym q.0.0,
          omega (arith, ints, a.change z, q.0.1),
        ),
      )

take_between : (r : SharedPlain) (fs : List Found) → Between r fs → (e : Event) → Between (shared_next r take_back) (stack_after fs (session r) take_back e)
unfolding shared_number shared_next accepted
take_between r fs h e =
    let n : ℕ = taking_then r.start.settings r.journal 0 in
    record {
      stacked = take_stack r.start r.journal fs r.standing (session r) e h.ledger h.stacked;
      ledger = chosen (λ (y : SharedPlain). Ledger y.start.settings y.start.depths y.journal y.standing) n (accepted r take_back) r
          (ledger_taken r.start.settings r.start.depths r.journal r.standing h.ledger) (λ z. h.ledger);
      ready = chosen (λ (y : SharedPlain). Ready y.start) n (accepted r take_back) r (λ z. h.ready) (λ z. h.ready);
    }

-- ---- the list

-- what is shown of the calls from the record r and the stack fs on
record From (r : SharedPlain) (fs : List Found) (cs : List SharedCall) (es : List Event) (last : State) (end : List ℕ) : Type 0 where
  state : last ≡ session (shared_end r cs)
  journal : end ≡ (shared_end r cs).journal
  events : es ≡ shared_events r cs
  kept : AllSharedKept (session r) r.journal cs es
  restored : AllRestore fs (session r) cs es
  usual : AllSharedUsual cs es
  stack : List Found
  between : Between (shared_end r cs) stack

module _ (r : SharedPlain) (k : SharedCall) {e : Event} (f : Answers r k e) where
  after_next : e.after ≡ session (shared_next r k)
  unfolding shared_next
  after_next = by_number f (λ (y : SharedPlain). e.after ≡ session y) (accepted r k) r f.after f.refused_after

  journal_next : e.journal ≡ (shared_next r k).journal
  unfolding shared_next
  journal_next = by_number f (λ (y : SharedPlain). e.journal ≡ y.journal) (accepted r k) r f.journal f.refused_journal

  -- GET, SET and TAKE BACK leave the pictures
  same_pictures : {p : Pictures} → p ≡ r.start.pictures → (accepted r k).start ≡ r.start → p ≡ (shared_next r k).start.pictures
  unfolding shared_next
  same_pictures {p = p} same start =
      by_number f (λ (y : SharedPlain). p ≡ y.start.pictures) (accepted r k) r (λ z. same ∙ ap (λ (y : Plain). y.pictures) (sym start)) (λ z. same)

  -- one call more
  more :
      (fs : List Found) → Between r fs → {cs : List SharedCall} {es : List Event} {last : State} {end : List ℕ} → SharedKept (session r) r.journal k e →
      Restores fs k e → From (shared_next r k) (stack_after fs (session r) k e) cs es last end → From r fs (k ∷ cs) (e ∷ es) last end
  unfolding shared_reply shared_events shared_end AllSharedKept AllRestore AllSharedUsual
  more fs h {cs = cs} {es = es} t b rest =
      let same : e ≡ shared_event r k = event_same (done_reply f) after_next journal_next in
      record {
        state = rest.state;
        journal = rest.journal;
        events = ap (λ (x : Event). x ∷ es) same ∙ ap (shared_event r k ∷◌) rest.events;
        kept = (t, rw (after_next, journal_next) rest.kept);
        restored = (b, subst (λ (x : State). AllRestore (stack_after fs (session r) k e) x cs es) (sym after_next) rest.restored);
        usual = (rw f.number (call_usual r fs h k), rest.usual);
        stack = rest.stack;
        between = rest.between;
      }

-- by induction on the list of calls
go :
    (r : SharedPlain) (fs : List Found) → Between r fs → {p : Pictures} {st last : State} {j end : List ℕ} {cs : List SharedCall} {es : List Event} →
    SharedRun p st j cs es last end → p ≡ r.start.pictures → st ≡ session r → j ≡ r.journal → From r fs cs es last end
unfolding in_turn shared_number accepted shared_next shared_change shared_events shared_end AllSharedKept AllRestore AllSharedUsual
go r fs h halted p e i =
    record { state = e; journal = i; events = refl; kept = tt; restored = tt; usual = tt; stack = fs; between = h }
go r fs h (got {v = v} {b = b} {c = c} {x = x} t post k) p e i =
    let f = get_done (stands_as r) (ready_now h) r.journal p e i v b c x t post in
    let call : SharedCall = get v b c x in
    more r call f fs h (e, i) tt
    (go (shared_next r call) _ (get_between r fs h v b c x _) k (same_pictures r call f p refl) (after_next r call f) (journal_next r call f))
go r fs h (wrote {v = v} {b = b} {c = c} {x = x} t d' h' j' post k) p e i =
    let f = set_done (stands_as r) (ready_now h) r.journal p e i v b c x t d' h' j' post in
    let call : SharedCall = set v b c x in
    more r call f fs h (edit_kept (stands_as r) (ready_now h) v b (filled b c x) f (λ z. (set_own r.start.settings v b c (length x) _ z).block)) tt
    (go (shared_next r call) _ (set_between r fs h v b c x _ f post.edit.eight_bit) k (same_pictures r call f p refl) (after_next r call f) (journal_next r call f))
go r fs h (took t d' h' j' post k) p e i =
    let s : Settings = r.start.settings in
    let d : Depths = r.start.depths in
    let J : List ℕ = r.journal in
    let ks : List Standing = r.standing in
    let w = take_done (stands_as r) (ready_now h) J p e i t d' h' j' post in
    let back : taking_then s J 0 ≡ 0 → _ = λ z. taken_restores s d J ks h.ledger z (λ u. (ready_turn r.start h.ready u).depths) in
    let f : Answers r take_back _ = done_as w _ _ (λ z. ap (plain s r.start.pictures) (back z)) (λ z. change_of_lem (stands_as r) _ _ _ (back z)) in
    more r take_back f fs h (edit_kept (stands_as r) (ready_now h) _ _ _ w (taken_inside s d J ks h.ledger))
    (restores r.start J fs ks _ h.ledger h.stacked f)
    (go (shared_next r take_back) _ (take_between r fs h _) k (same_pictures r take_back f p refl) (after_next r take_back f) (journal_next r take_back f))
go r fs h (moved {to = to} {reference = reference} t h' j' post k) p e i =
    let f = move_done (stands_as r) (ready_now h) r.journal p e i to reference t h' j' post in
    let call : SharedCall = move to reference in
    more r call f fs h (move_kept f refl) tt
    (go (shared_next r call) _ (move_between r fs h to reference _ f) k
    (next_pictures (λ (y : SharedPlain). y.start.pictures) (shared_number r call) (accepted r call) r reference f.number p refl)
    (after_next r call f) (journal_next r call f))

-- from a session as a fresh OPEN of the record r leaves it, and an empty journal
from_empty :
    (r : Plain) → Ready r → EightBit r.depths → (j₀ : List ℕ) → 0 < length j₀ → {st last : State} {j end : List ℕ} {cs : List SharedCall} {es : List Event} →
    SharedRun r.pictures st j cs es last end → st ≡ plain_state r → j ≡ emptied j₀ → From (opened r j₀) [] cs es last end
unfolding in_turn Stacked
from_empty r ok bytes j₀ words run e i =
    go (opened r j₀) [] (record { stacked = tt; ledger = ledger_opened r.settings r.depths j₀ words bytes; ready = ok }) run refl e i

posted :
    {r : SharedPlain} {st last : State} {j end : List ℕ} {cs : List SharedCall} {es : List Event} → st ≡ session r → j ≡ r.journal → From r [] cs es last end →
    SharedPost r st j cs es last end
posted e i f =
    rw (e, i)
    (record { session = f.state; journal = f.journal; events = f.events; kept = f.kept; restored = f.restored; usual = f.usual })

module _ (s : Settings) (p : Pictures) (d : Depths) (h₀ h : Held) (j₀ j : List ℕ) (o : OpenReply) (post : OpenPost s p d h₀ h j₀ j o) (accepted : o.number ≡ 0) {cs : List SharedCall} {es : List Event} {last : State} {end : List ℕ} (run : SharedRun p (leaves o.settings d h) j cs es last end) where
  ready_first : Ready (plain s p d)
  ready_first = fill_ready s s p d h₀ h j₀ j o post accepted

  words_first : 0 < length j₀
  words_first = fill_words s s p d h₀ h j₀ j o post accepted

  leaves_first : leaves o.settings d h ≡ plain_state (plain s p d)
  leaves_first = fill_leaves s s p d h₀ h j₀ j o post accepted

  from_first : From (opened (plain s p d) j₀) [] cs es last end
  from_first = from_empty (plain s p d) ready_first post.eight_bit j₀ words_first run leaves_first (post.journal accepted)

  pub shared_run : SharedPost (opened (plain s p d) j₀) (leaves o.settings d h) j cs es last end
  unfolding in_turn
  shared_run = posted leaves_first (post.journal accepted) from_first

  -- the record at the run's end
  abbrev ends : SharedPlain
  ends = shared_end (opened (plain s p d) j₀) cs

  pub shared_ready : Ready (stands_as ends)
  shared_ready = ready_now from_first.between

  pub shared_sound : Sound last.settings ends.start.pictures last.depths (read_held last.held)
  unfolding plain_state
  shared_sound =
      subst (λ (x : State). Sound x.settings ends.start.pictures x.depths (read_held x.held)) (sym from_first.state) (sound_as_read (stands_as ends) shared_ready)

  -- A caller that empties the journal after some calls, as OPEN does, has it all again: the SETs standing then are those after that, over the depths of then.
  pub kept_run :
      {ds : List SharedCall} {fs : List Event} {st : State} {k : List ℕ} → SharedRun ends.start.pictures last (emptied end) ds fs st k →
      SharedPost (opened (stands_as ends) end) last (emptied end) ds fs st k
  unfolding in_turn
  kept_run further =
      let f = from_first in
      let words = rw (← f.journal) at f.between.ledger.words in
      posted f.state refl
      (from_empty (stands_as ends) shared_ready f.between.ledger.eight_bit end words further f.state refl)

  module _ {R : Type 0} (at : SharedPlain → R) (next : R → SharedCall → Event → R) (P : R → SharedCall → Event → Type 0) (follows : (r : SharedPlain) (k : SharedCall) → next (at r) k (shared_event r k) ≡ at (shared_next r k)) (each : (r : SharedPlain) → Ready r.start → (k : SharedCall) → P (at r) k (shared_event r k)) where
    record_all : (r : SharedPlain) → Ready r.start → (ks : List SharedCall) → AllBy next P (at r) ks (shared_events r ks)
    unfolding shared_events
    record_all = all_calls shared_next shared_event (λ (r : SharedPlain). Ready r.start) ready_shared at next P follows each

    pub shared_all : AllBy next P (at (opened (plain s p d) j₀)) cs es
    shared_all = rw shared_run.events (record_all (opened (plain s p d) j₀) ready_first cs)

    pub kept_all :
        {ds : List SharedCall} {fs : List Event} {st : State} {k : List ℕ} → SharedRun ends.start.pictures last (emptied end) ds fs st k →
        AllBy next P (at (opened (stands_as ends) end)) ds fs
    kept_all {ds = ds} further = rw (kept_run further).events (record_all (opened (stands_as ends) end) shared_ready ds)

  -- A fresh OPEN that is passed what the record ends with is accepted where the held planes lent to it have their lengths and the journal a word.
  pub shared_opens :
      (g : Held) (k : List ℕ) → HeldOf (area ends.start.settings) (mark_bytes ends.start.settings.w * ends.start.settings.h) g → 0 < length k →
      open_number ends.start.settings ends.start.pictures (stands_as ends).depths g k ≡ 0
  shared_opens = ready_open (stands_as ends) shared_ready

-- What a run leaves is what a fresh OPEN leaves that is passed what the record ends with: settings and reference of the last accepted MOVE, and the depths standing.
pub shared_as_opened :
    {r : SharedPlain} {first last : State} {j₁ end : List ℕ} {cs : List SharedCall} {es : List Event} → SharedPost r first j₁ cs es last end →
    (h₀ h : Held) (j₀ j : List ℕ) (o : OpenReply) →
    OpenPost (shared_end r cs).start.settings (shared_end r cs).start.pictures (stands_as (shared_end r cs)).depths h₀ h j₀ j o → o.number ≡ 0 →
    leaves o.settings (stands_as (shared_end r cs)).depths h ≡ last
shared_as_opened run h₀ h j₀ j o post accepted = fill_leaves _ _ _ _ h₀ h j₀ j o post accepted ∙ sym run.session

-- a run halted after its first n calls
pub shared_halts :
    {last : State} {end : List ℕ} (n : ℕ) {p : Pictures} {st : State} {j : List ℕ} {cs : List SharedCall} {es : List Event} → SharedRun p st j cs es last end →
    SharedRun p st j (take n cs) (take n es) (state_after st (take n es)) (journal_after j (take n es))
unfolding state_after journal_after
shared_halts zero k = halted
shared_halts (suc n) halted = halted
shared_halts (suc n) (got r h k) = got r h (shared_halts n k)
shared_halts (suc n) (wrote r d h j post k) = wrote r d h j post (shared_halts n k)
shared_halts (suc n) (took r d h j post k) = took r d h j post (shared_halts n k)
shared_halts (suc n) (moved r h j post k) = moved r h j post (shared_halts n k)
