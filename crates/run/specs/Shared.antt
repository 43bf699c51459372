-- Document 02, card 3, with MOVE among the calls (card 11): a run whose calls other than GET, its OPEN first, are all passed one journal that nothing else writes. It
-- is judged by the SETs still standing; TAKE BACK is one of its calls, and each accepted one strikes the newest SET standing. After an accepted MOVE none stands.
use Rattle.std.specs.Prelude.{ℕ, ◌≡◌, cond, List, [], ◌∷◌, ◌⊎◌, ℤ, pos, ◌-ℤ◌, length, eqb}
use Rattle.model.specs.declared.Settings.{Settings}
use Rattle.model.specs.declared.Block.{Block}
use Rattle.model.specs.declared.Candidate.{Candidate}
use Rattle.model.specs.Replies.{OpenReply, TrialReply, EditReply}
use Rattle.model.specs.Planes.{Pictures, Depths, Held, State, with_seat, with_reference}
use Rattle.model.specs.Fresh.{fresh_total}
use Rattle.model.specs.Candidates.{filled}
use Rattle.model.specs.Blocks.{written, old_depths, change_of}
use Rattle.model.specs.Journals.{newest, record_view, record_block, saved, taken_back, emptied}
use Rattle.model.specs.Refusals.{own_then, saving_then, taking_then}
use Rattle.model.specs.Promises.{GetPost, SetPost, TakeBackPost, MovePost}
use Rattle.run.specs.Calls.{end_by, events_by, AllBy, AllOf}
use Rattle.run.specs.Run.{Reply, Event, reply_of, leaves, pictures_after, Plain, plain, move_number, plain_answer, plain_state, Edits, Moves, OfCall, OfMove}

pub data SharedCall : Type 0 where
  get : ℕ → Block → Candidate → List ℕ → SharedCall
  set : ℕ → Block → Candidate → List ℕ → SharedCall
  take_back : SharedCall
  move : Settings → List ℕ → SharedCall

-- ---- A run: each call is passed the pictures, the planes and the journal as the call before left them, and the latest settings answered; a MOVE its own reference.
-- A step is ANY reply, planes and journal that the entry's own promise allows, refused calls included. The run begins with a session and a journal and ends with both.
pub data SharedRun : Pictures → State → List ℕ → List SharedCall → List Event → State → List ℕ → Type 0 where
  halted : {p : Pictures} {st : State} {j : List ℕ} → SharedRun p st j [] [] st j
  got :
      {p : Pictures} {st last : State} {j end : List ℕ} {v : ℕ} {b : Block} {c : Candidate} {x : List ℕ} {cs : List SharedCall} {es : List Event} (r : TrialReply) →
      GetPost st.settings p st.depths st.held v b c x r →
      SharedRun p st j cs es last end →
      SharedRun p st j (get v b c x ∷ cs) (record { reply = reply_of r.number r.change; after = st; journal = j } ∷ es) last end
  wrote :
      {p : Pictures} {st last : State} {j end : List ℕ} {v : ℕ} {b : Block} {c : Candidate} {x : List ℕ} {cs : List SharedCall} {es : List Event} (r : EditReply) (d : Depths) (h : Held) (k : List ℕ) →
      SetPost st.settings p st.depths d st.held h j k v b c x r →
      SharedRun p (leaves r.settings d h) k cs es last end →
      SharedRun p st j (set v b c x ∷ cs) (record { reply = reply_of r.number r.change; after = leaves r.settings d h; journal = k } ∷ es) last end
  took :
      {p : Pictures} {st last : State} {j end : List ℕ} {cs : List SharedCall} {es : List Event} (r : EditReply) (d : Depths) (h : Held) (k : List ℕ) →
      TakeBackPost st.settings p st.depths d st.held h j k r →
      SharedRun p (leaves r.settings d h) k cs es last end →
      SharedRun p st j (take_back ∷ cs) (record { reply = reply_of r.number r.change; after = leaves r.settings d h; journal = k } ∷ es) last end
  moved :
      {p : Pictures} {st last : State} {j end : List ℕ} {to : Settings} {reference : List ℕ} {cs : List SharedCall} {es : List Event} (r : OpenReply) (h : Held) (k : List ℕ) →
      MovePost st.settings to (with_reference p reference) st.depths st.held h j k r →
      SharedRun (pictures_after r.number p reference) (leaves r.settings st.depths h) k cs es last end →
      SharedRun p st j (move to reference ∷ cs) (record { reply = reply_of r.number (pos 0); after = leaves r.settings st.depths h; journal = k } ∷ es) last end

-- ---- The plain record: what OPEN or the last accepted MOVE drew, the SETs standing since, newest first, and its own copy of the journal.

-- a SET that stands: its view, its block, and the depths that it wrote there
pub record Standing : Type 0 where
  pub view : ℕ
  pub block : Block
  pub depths : List ℕ

-- the opening depths with the SETs still standing written in turn
unfoldable pub in_turn : Settings → Depths → List Standing → Depths
in_turn s d [] = d
in_turn s d (k ∷ ks) = written s k.view k.block k.depths (in_turn s d ks)

-- the newest SET standing is struck
unfoldable pub struck : List Standing → List Standing
struck [] = []
struck (k ∷ ks) = ks

pub record SharedPlain : Type 0 where
  pub start : Plain
  pub standing : List Standing
  pub journal : List ℕ

-- OPEN, and an accepted MOVE, empties the journal.
abbrev pub opened : Plain → List ℕ → SharedPlain
opened r j = record { start = r; standing = []; journal = emptied j }

-- the record with the SETs ks standing
abbrev pub with_standing : Plain → List Standing → Plain
with_standing r ks = plain r.settings r.pictures (in_turn r.settings r.depths ks)

-- and as it stands
abbrev pub stands_as : SharedPlain → Plain
stands_as r = with_standing r.start r.standing

-- 1 and 8 never apply, and 2 to 4, 20 and 21 only to MOVE; 13, 11 and 12 go by the record's journal.
unfoldable pub shared_number : SharedPlain → SharedCall → ℕ
shared_number r (get v b c x) = own_then r.start.settings v b c (length x) 0
shared_number r (set v b c x) = own_then r.start.settings v b c (length x) (saving_then r.start.settings b r.journal 0)
shared_number r take_back = taking_then r.start.settings r.journal 0
shared_number r (move to reference) = move_number r.start.settings to reference r.journal

-- what an accepted call makes of the record
unfoldable pub accepted : SharedPlain → SharedCall → SharedPlain
accepted r (get v b c x) = r
accepted r (set v b c x) =
    record {
      start = r.start;
      standing = record { view = v; block = b; depths = filled b c x } ∷ r.standing;
      journal = saved r.journal v b (old_depths r.start.settings v b (stands_as r).depths);
    }
accepted r take_back = record { start = r.start; standing = struck r.standing; journal = taken_back r.journal }
accepted r (move to reference) =
    opened (plain (with_seat r.start.settings to) (with_reference r.start.pictures reference) (stands_as r).depths) r.journal

unfoldable pub shared_next : SharedPlain → SharedCall → SharedPlain
shared_next r k = cond (eqb (shared_number r k) 0) (accepted r k) r

-- the fresh total of a record
abbrev pub plain_total : Plain → ℕ
plain_total r = fresh_total r.settings r.pictures r.depths

-- the change: the fresh total as the call would leave the record, less that of the record as it stands; GET leaves nothing, and answers as a SET would
unfoldable pub shared_change : Plain → List Standing → SharedCall → ℤ
shared_change r ks (get v b c x) = change_of r.settings r.pictures (with_standing r ks).depths v b (filled b c x)
shared_change r ks (set v b c x) = change_of r.settings r.pictures (with_standing r ks).depths v b (filled b c x)
shared_change r ks take_back = pos (plain_total (with_standing r (struck ks))) -ℤ pos (plain_total (with_standing r ks))
shared_change r ks (move to reference) = pos 0

unfoldable pub shared_reply : SharedPlain → SharedCall → Reply
shared_reply r k = plain_answer (shared_number r k) (shared_change r.start r.standing k)

-- what a call answers and leaves by the record
abbrev pub shared_event : SharedPlain → SharedCall → Event
shared_event r k = record { reply = shared_reply r k; after = plain_state (stands_as (shared_next r k)); journal = (shared_next r k).journal }

unfoldable pub shared_events : SharedPlain → List SharedCall → List Event
shared_events r ks = events_by shared_next shared_event r ks

unfoldable pub shared_end : SharedPlain → List SharedCall → SharedPlain
shared_end r ks = end_by shared_next r ks

-- ---- What a call may change: no GET and no refused call changes anything; an accepted SET or TAKE BACK no more than document 01 allows, and a MOVE no depth.
abbrev pub SharedKept : State → List ℕ → SharedCall → Event → Type 0
SharedKept before j (get v b c x) e = (e.after ≡ before) × (e.journal ≡ j)
SharedKept before j (set v b c x) e = Edits before j v b e
SharedKept before j take_back e = Edits before j (record_view j (newest j)) (record_block j (newest j)) e
SharedKept before j (move to reference) e = Moves before j e

unfoldable pub AllSharedKept : State → List ℕ → List SharedCall → List Event → Type 0
AllSharedKept before j ks es = AllBy (λ (s : State × List ℕ) k e. (e.after, e.journal)) (λ s k e. SharedKept s.0 s.1 k e) (before, j) ks es

-- ---- An accepted TAKE BACK restores depths, held planes and total to what they were before the newest SET standing and answers its change negated; 12 is
-- answered exactly when none stands. This is said of the events alone: each accepted SET puts the session before it, and its change, on a stack, and an accepted
-- MOVE empties that.
pub record Found : Type 0 where
  pub before : State
  pub change : ℤ

-- the stack after a call that was passed the session `before`
unfoldable pub stack_after : List Found → State → SharedCall → Event → List Found
stack_after fs before (get v b c x) e = fs
stack_after fs before (set v b c x) e = cond (eqb e.reply.number 0) (record { before = before; change = e.reply.change } ∷ fs) fs
stack_after [] before take_back e = []
stack_after (f ∷ fs) before take_back e = fs
stack_after fs before (move to reference) e = cond (eqb e.reply.number 0) [] fs

abbrev pub Restores : List Found → SharedCall → Event → Type 0
Restores fs (get v b c x) e = Unit
Restores fs (set v b c x) e = Unit
Restores [] take_back e = e.reply.number ≡ 12
Restores (f ∷ fs) take_back e = (e.reply.number ≡ 0) × ((e.after ≡ f.before) × (e.reply.change ≡ pos 0 -ℤ f.change))
Restores fs (move to reference) e = Unit

unfoldable pub AllRestore : List Found → State → List SharedCall → List Event → Type 0
AllRestore fs before ks es =
    AllBy (λ (s : List Found × State) k e. (stack_after s.0 s.1 k e, e.after)) (λ s k e. Restores s.0 k e) (fs, before) ks es

-- The numbers that occur: 1, 8 and 13 never do.
abbrev pub SharedUsual : SharedCall → ℕ → Type 0
SharedUsual (get v b c x) n = OfCall n
SharedUsual (set v b c x) n = OfCall n ⊎ (n ≡ 11)
SharedUsual take_back n = (n ≡ 0) ⊎ (n ≡ 12)
SharedUsual (move to reference) n = OfMove n

unfoldable pub AllSharedUsual : List SharedCall → List Event → Type 0
AllSharedUsual ks es = AllOf (λ k e. SharedUsual k e.reply.number) ks es

-- ---- The run as a whole. r is the plain record as OPEN left it, with the session `first` and the journal j; the run leaves `last` and the journal `end`: what a
-- fresh OPEN leaves that is passed the settings and pictures of the record then, those of the last accepted MOVE, and the depths standing.
pub record SharedPost (r : SharedPlain) (first : State) (j : List ℕ) (cs : List SharedCall) (es : List Event) (last : State) (end : List ℕ) : Type 0 where
  pub session : last ≡ plain_state (stands_as (shared_end r cs))
  pub journal : end ≡ (shared_end r cs).journal
  pub events : es ≡ shared_events r cs
  pub kept : AllSharedKept first j cs es
  pub restored : AllRestore [] first cs es
  pub usual : AllSharedUsual cs es

-- the journal after the last of some events
unfoldable pub journal_after : List ℕ → List Event → List ℕ
journal_after j es = end_by (λ j e. e.journal) j es
