-- Term 3 from the promises of OPEN, GET, SET and MOVE alone.
--     session_run          whatever an accepted OPEN left and each call of the list answered and left by its promise
--     halted_as_opened     what a run leaves is what a fresh OPEN leaves, with the settings and reference of the last accepted MOVE
--     halted_opens         and such an OPEN is accepted
--     halted_sound         what a run leaves is sound as GET reads it
--     session_all          what holds of each call by the record as it finds it holds of all calls of a run
--     halts                a run halted after any of its calls is a run
use Prim.Native.Nat.{ℕ, zero, suc, ◌*◌, ◌<◌}
use mathlib.Core.Path.{◌≡◌, refl, ap, sym, ◌∙◌, subst}
use mathlib.Core.List.{List, [], ◌∷◌}
use mathlib.Core.Logic.{inl, inr}
use lib.ListN.{length, take}
use Rattle.model.specs.declared.Settings.{Settings}
use Rattle.model.specs.Replies.{OpenReply}
use Rattle.model.specs.Marks.{mark_bytes}
use Rattle.model.specs.Planes.{Pictures, Depths, Held, State, area, read_held}
use Rattle.model.specs.Candidates.{filled}
use Rattle.model.specs.Refusals.{journal_ok, room_ok, open_number, saving_then}
use Rattle.model.specs.Promises.{Sound, OpenPost}
use Rattle.model.proofs.Refusals.{HeldOf, own_before, own_usual}
use Rattle.run.specs.Calls.{AllBy}
use Rattle.run.specs.Run.{Call, Event, Run, leaves, Plain, plain, plain_number, plain_accepted, plain_next, plain_journal, plain_change, plain_reply, plain_state, plain_event, plain_events, plain_end, Kept, AllKept, Usual, AllUsual, RunPost, state_after}
use Rattle.run.specs.Run.Call.{get, set, move}
use Rattle.run.specs.Run.Run.{halted, got, wrote, moved}
use Rattle.run.proofs.Steps.{Ready, ready_open, ready_written, ready_moved}
use Rattle.run.proofs.Calls.{fill_ready, fill_leaves, chosen, next_pictures, either, unless_either, move_usual, set_own, Done, event_same, done_reply, done_after, done_journal, done_ready, all_calls, sound_as_read, get_done, set_done, move_done, edit_kept, move_kept}

-- the numbers of a call, by the record
call_usual : (r : Plain) (k : Call) → Usual k (plain_number r k)
unfolding plain_number saving_then
call_usual r (get v b c x) = own_usual r.settings v b c (length x)
call_usual r (set v b c x j) =
    let U : ℕ → Type 0 = Usual (set v b c x j) in
    either U (own_before r.settings v b c (length x)) (saving_then r.settings b j 0) (inl (own_usual r.settings v b c (length x)))
    (unless_either U (journal_ok r.settings j) 13 _ (inr (inl refl)) (unless_either U (room_ok b j) 11 0 (inr (inr refl)) (inl (inl refl))))
call_usual r (move to reference j) = move_usual (Usual (move to reference j)) (λ n u. inl u) r.settings to reference j (λ t. inr refl)

-- what OPEN, or the last accepted MOVE, has tested holds after a call too
ready_next : (r : Plain) → Ready r → (k : Call) → Ready (plain_next r k)
unfolding plain_next plain_accepted plain_number
ready_next r ok (get v b c x) = chosen Ready (plain_number r (get v b c x)) r r (λ z. ok) (λ z. ok)
ready_next r ok (set v b c x j) = chosen Ready (plain_number r (set v b c x j)) _ r (λ z. ready_written r ok v b (filled b c x)) (λ z. ok)
ready_next r ok (move to reference j) = chosen Ready (plain_number r (move to reference j)) _ r (λ z. ready_moved r ok to reference j z) (λ z. ok)

-- ---- the list

-- what is shown of the calls from the record r on
abbrev From : Plain → List Call → List Event → State → Type 0
From r cs es last = RunPost r (plain_state r) cs es last × Ready (plain_end r cs)

-- one call more
more :
    (r : Plain) (k : Call) {j new : List ℕ} {e : Event} {cs : List Call} {es : List Event} {last : State} →
    Done r (plain_accepted r k) (plain_number r k) (plain_change r k) j new e → e.journal ≡ plain_journal r k → Kept (plain_state r) k e →
    From (plain_next r k) cs es last → From r (k ∷ cs) (e ∷ es) last
unfolding plain_next plain_reply plain_events plain_end AllKept AllUsual
more r k {e = e} {cs = cs} {es = es} f j t (rest, ready) =
    let same : e ≡ plain_event r k = event_same (done_reply f) (done_after f) j in (
      record {
        session = rest.session;
        events = ap (λ (x : Event). x ∷ es) same ∙ ap (plain_event r k ∷◌) rest.events;
        kept = (t, subst (λ (x : State). AllKept x cs es) (sym (done_after f)) rest.kept);
        usual = (rw f.number (call_usual r k), rest.usual);
      },
      ready,
    )

-- GET and SET leave the pictures
same_pictures : (r : Plain) (k : Call) {p : Pictures} → p ≡ (plain_accepted r k).pictures → p ≡ r.pictures → p ≡ (plain_next r k).pictures
unfolding plain_next
same_pictures r k {p = p} new old = chosen (λ (x : Plain). p ≡ x.pictures) (plain_number r k) (plain_accepted r k) r (λ z. new) (λ z. old)

-- by induction on the list of calls
go :
    (r : Plain) → Ready r → {p : Pictures} {st last : State} {cs : List Call} {es : List Event} → Run p st cs es last → p ≡ r.pictures →
    st ≡ plain_state r → From r cs es last
unfolding plain_number plain_accepted plain_next plain_journal plain_change plain_events plain_end AllKept AllUsual
go r ok halted p e = (record { session = e; events = refl; kept = tt; usual = tt }, ok)
go r ok (got {v = v} {b = b} {c = c} {x = x} t h k) p e =
    let f = get_done r ok [] p e refl v b c x t h in
    more r (get v b c x) f refl e (go (plain_next r (get v b c x)) (done_ready f ok) k (same_pictures r (get v b c x) p p) (done_after f))
go r ok (wrote {v = v} {b = b} {c = c} {x = x} {j = j} t d' h' j' h k) p e =
    let f = set_done r ok j p e refl v b c x t d' h' j' h in
    more r (set v b c x j) f (done_journal f) (edit_kept r ok v b (filled b c x) f (λ z. (set_own r.settings v b c (length x) _ z).block))
    (go (plain_next r (set v b c x j)) (done_ready f ok) k (same_pictures r (set v b c x j) p p) (done_after f))
go r ok (moved {to = to} {reference = reference} {j = j} t h' j' h k) p e =
    let f = move_done r ok j p e refl to reference t h' j' h in
    let pictures = next_pictures (λ (x : Plain). x.pictures) (plain_number r (move to reference j)) (plain_accepted r (move to reference j)) r reference f.number p refl in
    more r (move to reference j) f (done_journal f) (move_kept f refl) (go (plain_next r (move to reference j)) (done_ready f ok) k pictures (done_after f))

module _ (s : Settings) (p : Pictures) (d : Depths) (h₀ h : Held) (j₀ j : List ℕ) (o : OpenReply) (post : OpenPost s p d h₀ h j₀ j o) (accepted : o.number ≡ 0) {cs : List Call} {es : List Event} {last : State} (run : Run p (leaves o.settings d h) cs es last) where
  leaves_first : leaves o.settings d h ≡ plain_state (plain s p d)
  leaves_first = fill_leaves s s p d h₀ h j₀ j o post accepted

  ready_first : Ready (plain s p d)
  ready_first = fill_ready s s p d h₀ h j₀ j o post accepted

  from_first : From (plain s p d) cs es last
  from_first = go (plain s p d) ready_first run refl leaves_first

  pub session_run : RunPost (plain s p d) (leaves o.settings d h) cs es last
  session_run = rw leaves_first from_first.0

  pub session_all :
      {R : Type 0} (at : Plain → R) (next : R → Call → Event → R) (P : R → Call → Event → Type 0) → ((r : Plain) (k : Call) → next (at r) k (plain_event r k) ≡ at (plain_next r k)) →
      ((r : Plain) → Ready r → (k : Call) → P (at r) k (plain_event r k)) → AllBy next P (at (plain s p d)) cs es
  unfolding plain_events
  session_all at next P follows each = rw session_run.events (all_calls plain_next plain_event Ready ready_next at next P follows each (plain s p d) ready_first cs)

  -- the record at the run's end
  abbrev ends : Plain
  ends = plain_end (plain s p d) cs

  halted_ready : Ready ends
  halted_ready = from_first.1

  pub halted_sound : Sound last.settings ends.pictures last.depths (read_held last.held)
  unfolding plain_state
  halted_sound =
      subst (λ (x : State). Sound x.settings ends.pictures x.depths (read_held x.held)) (sym from_first.0.session) (sound_as_read ends halted_ready)

  -- A fresh OPEN that is passed what the record ends with is accepted where the held planes lent to it have their lengths and the journal a word.
  pub halted_opens :
      (g : Held) (k : List ℕ) → HeldOf (area ends.settings) (mark_bytes ends.settings.w * ends.settings.h) g → 0 < length k →
      open_number ends.settings ends.pictures ends.depths g k ≡ 0
  halted_opens = ready_open ends halted_ready

-- What a run leaves is what a fresh OPEN leaves that is passed what the record ends with: settings and reference of the last accepted MOVE, and the depths.
pub halted_as_opened :
    {r : Plain} {first last : State} {cs : List Call} {es : List Event} → RunPost r first cs es last → (h₀ h : Held) (j₀ j : List ℕ) (o : OpenReply) →
    OpenPost (plain_end r cs).settings (plain_end r cs).pictures (plain_end r cs).depths h₀ h j₀ j o → o.number ≡ 0 →
    leaves o.settings (plain_end r cs).depths h ≡ last
halted_as_opened run h₀ h j₀ j o post accepted = fill_leaves _ _ _ _ h₀ h j₀ j o post accepted ∙ sym run.session

-- a run halted after its first n calls
pub halts :
    {last : State} (n : ℕ) {p : Pictures} {st : State} {cs : List Call} {es : List Event} → Run p st cs es last → Run p st (take n cs) (take n es) (state_after st (take n es))
unfolding state_after
halts zero k = halted
halts (suc n) halted = halted
halts (suc n) (got r h k) = got r h (halts n k)
halts (suc n) (wrote r d h j post k) = wrote r d h j post (halts n k)
halts (suc n) (moved r h j post k) = moved r h j post (halts n k)
