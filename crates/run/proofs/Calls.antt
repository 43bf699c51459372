-- One call on a session that is as a fresh OPEN of the plain record leaves it: from its promise, what it answers and leaves. 1 and 8 never apply, nor what OPEN or
-- the last accepted MOVE has tested.
--     fill_ready, fill_leaves         OPEN and MOVE leave such a session
--     either                          the number of some tests and a rest is that of the tests or the rest
--     Done, by_number, done_reply ..  what is shown of a call in both kinds of run, and what it answers and leaves by the number
--     all_calls                       what holds of each call by the record as it finds it holds of all calls of a list
--     sound_as_read                   such a session is sound as GET, SET and TAKE BACK read it
--     get_done, set_done, ..          so of each
use Prim.Native.Nat.{ℕ, ◌<◌}
use mathlib.Core.Path.{◌≡◌, refl, ap, sym, ◌∙◌, subst}
use mathlib.Core.Bool.{Bool, true, false, cond}
use mathlib.Core.List.{List, [], ◌∷◌}
use mathlib.Core.Logic.{inl, inr}
use lib.ListN.{length}
use lib.Dec.{eqb}
use lib.IntN.{ℤ, pos}
use borrow.Author.Tests.{ltb-true, eqb-true, eqb-false}
use Rattle.model.specs.declared.Settings.{Settings}
use Rattle.model.specs.declared.Block.{Block}
use Rattle.model.specs.declared.Candidate.{Candidate}
use Rattle.model.specs.Replies.{OpenReply, TrialReply, EditReply}
use Rattle.model.specs.Planes.{Pictures, Depths, Held, State, area, with_total, with_seat, with_reference, read_held}
use Rattle.model.specs.Fresh.{fresh, fresh_total}
use Rattle.model.specs.Candidates.{filled}
use Rattle.model.specs.Blocks.{written, old_depths, change_of}
use Rattle.model.specs.Journals.{newest, record_view, record_block, record_depths, saved, taken_back, emptied}
use Rattle.model.specs.Refusals.{unless, tables_ok, share_ok, tear_ok, words_ok, picture_ok, pictures_ok, open_number, own_then, saving_then, taking_then, call_then, early_number, take_back_early, in_range}
use Rattle.model.specs.Promises.{FillPost, Sound, GetPost, EditPost, SetPost, TakeBackPost, MovePost}
use Rattle.model.proofs.Choice.{bool_cases}
use Rattle.model.proofs.Fresh.{fresh_total_lem, fresh_total_total}
use Rattle.model.proofs.Written.{written_total}
use Rattle.model.proofs.Refusals.{unless_true, Before, Inside, OwnTests, passed, rest_passed, common_before, own_facts, own_before, own_total, taking_before, taken_before}
use Rattle.model.proofs.Journals.{saving_sides, taking_sides}
use Rattle.model.proofs.Readings.{sound_read}
use Rattle.model.proofs.Promises.{get_early, set_early, edit_settings}
use Rattle.run.specs.Calls.{events_by, AllBy}
use Rattle.run.specs.Run.{Reply, Event, Plain, plain, reply_of, leaves, pictures_after, move_number, plain_answer, plain_state, Refuses, Edits, Moves, OfMove}
use Rattle.run.proofs.Steps.{Ready, ready, ready_written, ready_common, ready_move, ready_moved, change_of_total, state_total, state_sound, local_written}

-- ---- OPEN and MOVE

module _ (s n : Settings) (p : Pictures) (d : Depths) (h₀ h : Held) (j₀ j : List ℕ) (o : OpenReply) (post : FillPost s n p d h₀ h j₀ j o) (accepted : o.number ≡ 0) where
  none : open_number n p d h₀ j₀ ≡ 0
  none = sym post.number ∙ accepted

  pub fill_ready : Ready (plain n p d)
  fill_ready = ready n p d h₀ j₀ none

  pub fill_leaves : leaves o.settings d h ≡ plain_state (plain n p d)
  unfolding plain_state
  fill_leaves = rw (post.held accepted, post.settings accepted)

  pub fill_words : 0 < length j₀
  fill_words =
      ltb-true 0 (length j₀)
      (unless_true (words_ok j₀) 12 _ (rest_passed (common_before n p d h₀) (unless (words_ok j₀) 13 (unless (pictures_ok p) 21 0)) none))

-- ---- by the number

module _ {A : Type 0} where
  -- what an accepted call makes, and what a refused one leaves
  pub chosen : (P : A → Type 0) (n : ℕ) (yea nay : A) → (n ≡ 0 → P yea) → ((n ≡ 0 → ⊥) → P nay) → P (cond (eqb n 0) yea nay)
  chosen P n yea nay some none = bool_cases (eqb n 0) (λ t. rw t (some (eqb-true n 0 t))) (λ t. rw t (none (eqb-false n 0 t)))

  -- the pictures after a MOVE, where f are those of a record
  pub next_pictures :
      (f : A → Pictures) {m : ℕ} (n : ℕ) (yea nay : A) {q : Pictures} (reference : List ℕ) → m ≡ n → q ≡ f nay → with_reference (f nay) reference ≡ f yea →
      pictures_after m q reference ≡ f (cond (eqb n 0) yea nay)
  next_pictures f n yea nay {q = q} reference e same new =
      ap (λ (m : ℕ). pictures_after m q reference) e
      ∙ bool_cases (eqb n 0) (λ t. rw (t, same) new) (λ t. rw t same)

-- the number of some tests and a rest is that of the tests or the rest
pub either : (P : ℕ → Type 0) {f : ℕ → ℕ} → Before f → (rest : ℕ) → P (f 0) → P rest → P (f rest)
either P {f = f} a rest u v =
    bool_cases (eqb (f 0) 0) (λ t. rw (a.rest rest (eqb-true (f 0) 0 t)) v)
    (λ t. rw (a.stays rest (eqb-false (f 0) 0 t)) u)

pub unless_either : (P : ℕ → Type 0) (t : Bool) (k rest : ℕ) → P k → P rest → P (unless t k rest)
unless_either P true k rest u v = v
unless_either P false k rest u v = u

-- the numbers of MOVE; 13 goes by the journal
pub move_usual :
    (P : ℕ → Type 0) → ((n : ℕ) → OfMove n → P n) → (s to : Settings) (reference j : List ℕ) → (words_ok j ≡ false → P 13) → P (move_number s to reference j)
unfolding move_number
move_usual P of s to reference j thirteen =
    unless_either P (eqb (length reference) (area s)) 2 _ (of 2 (inr (inl refl)))
    (unless_either P (tables_ok to) 3 _ (of 3 (inr (inr (inl refl))))
    (unless_either P (share_ok to) 4 _ (of 4 (inr (inr (inr (inl refl)))))
    (unless_either P (tear_ok to.tear) 20 _ (of 20 (inr (inr (inr (inr (inl refl))))))
    (bool_cases (words_ok j)
    (λ t. rw t (unless_either P (picture_ok reference) 21 0 (of 21 (inr (inr (inr (inr (inr refl)))))) (of 0 (inl refl))))
    (λ t. rw t (thirteen t))))))

-- a test that holds wherever those before it do never applies
settled : {f : ℕ → ℕ} → Before f → (t : Bool) (rest : ℕ) → (f 0 ≡ 0 → t ≡ true) → f (unless t 8 rest) ≡ f rest
settled {f = f} a t rest h =
    bool_cases (eqb (f 0) 0) (λ z. rw (h (eqb-true (f 0) 0 z)))
    (λ z. let ne = eqb-false (f 0) 0 z in rw (a.stays (unless t 8 rest) ne, a.stays rest ne))

-- an accepted SET has passed its own tests
pub set_own : (s : Settings) (v : ℕ) (b : Block) (c : Candidate) (n rest : ℕ) → own_then s v b c n rest ≡ 0 → OwnTests s v b c n
set_own s v b c n rest e = own_facts s v b c n (passed (own_before s v b c n) rest e)

-- ---- a call, as the plain record has it

-- The event e of a call on the session of the record r. Its number is n. Accepted, the call answered the change x and left the session of the record `next`, ready
-- too, and the journal `new`; refused, all is as it was. j is the journal at entry.
pub record Done (r next : Plain) (n : ℕ) (x : ℤ) (j new : List ℕ) (e : Event) : Type 0 where
  pub number : e.reply.number ≡ n
  pub change : e.reply.number ≡ 0 → e.reply.change ≡ x
  pub refused_change : (e.reply.number ≡ 0 → ⊥) → e.reply.change ≡ pos 0
  pub after : e.reply.number ≡ 0 → e.after ≡ plain_state next
  pub refused_after : (e.reply.number ≡ 0 → ⊥) → e.after ≡ plain_state r
  pub journal : e.reply.number ≡ 0 → e.journal ≡ new
  pub refused_journal : (e.reply.number ≡ 0 → ⊥) → e.journal ≡ j
  pub ready : e.reply.number ≡ 0 → Ready next

-- field by field
reply_same : {a b : Reply} → a.number ≡ b.number → a.change ≡ b.change → a ≡ b
reply_same n c = rw (← n, ← c)

pub event_same : {a b : Event} → a.reply ≡ b.reply → a.after ≡ b.after → a.journal ≡ b.journal → a ≡ b
event_same r n j = rw (← r, ← n, ← j)

module _ {r next : Plain} {n : ℕ} {x : ℤ} {j new : List ℕ} {e : Event} (h : Done r next n x j new e) where
  module _ {A : Type 0} where
    pub by_number : (P : A → Type 0) (yea nay : A) → (e.reply.number ≡ 0 → P yea) → ((e.reply.number ≡ 0 → ⊥) → P nay) → P (cond (eqb n 0) yea nay)
    by_number P yea nay some none = chosen P n yea nay (λ q. some (h.number ∙ q)) (λ q. none (λ y. q (sym h.number ∙ y)))

  pub done_reply : e.reply ≡ plain_answer n x
  unfolding plain_answer
  done_reply = reply_same h.number (by_number (λ (y : ℤ). e.reply.change ≡ y) x (pos 0) h.change h.refused_change)

  pub done_after : e.after ≡ plain_state (cond (eqb n 0) next r)
  done_after = by_number (λ (y : Plain). e.after ≡ plain_state y) next r h.after h.refused_after

  pub done_journal : e.journal ≡ cond (eqb n 0) new j
  done_journal = by_number (λ (y : List ℕ). e.journal ≡ y) new j h.journal h.refused_journal

  pub done_ready : Ready r → Ready (cond (eqb n 0) next r)
  done_ready ok = by_number Ready next r h.ready (λ z. ok)

  pub done_refuses : Refuses (plain_state r) j e
  done_refuses z = (h.refused_after z, h.refused_journal z)

  -- where the record that it leaves and the change are others by name only
  pub done_as : (other : Plain) (found : ℤ) → (n ≡ 0 → next ≡ other) → (n ≡ 0 → x ≡ found) → Done r other n found j new e
  done_as other found same same-change =
      record {
        number = h.number;
        change = λ z. h.change z ∙ same-change (sym h.number ∙ z);
        refused_change = h.refused_change;
        after = λ z. h.after z ∙ ap plain_state (same (sym h.number ∙ z));
        refused_after = h.refused_after;
        journal = h.journal;
        refused_journal = h.refused_journal;
        ready = λ z. subst Ready (same (sym h.number ∙ z)) (h.ready z);
      }

-- the record with the depths c written
abbrev pub edited : Plain → ℕ → Block → List ℕ → Plain
edited r v b c = plain r.settings r.pictures (written r.settings v b c r.depths)

-- a call that writes c into block b of view v changes no more than document 01 allows
pub edit_kept :
    (r : Plain) → Ready r → (v : ℕ) (b : Block) (c : List ℕ) {n : ℕ} {x : ℤ} {j new : List ℕ} {e : Event} → Done r (edited r v b c) n x j new e →
    (n ≡ 0 → Inside r.settings b) → Edits (plain_state r) j v b e
unfolding plain_state
edit_kept r ok v b c h inside = (
  done_refuses h,
  λ z.
      let i = inside (sym h.number ∙ z) in
      rw (h.after z)
      (local_written r.settings r.pictures r.depths ok.depths v b c (record { some = i.width; inside = i.right })),
)

-- a call after which the depths are the same
pub move_kept : {r next : Plain} {n : ℕ} {x : ℤ} {j new : List ℕ} {e : Event} → Done r next n x j new e → next.depths ≡ r.depths → Moves (plain_state r) j e
unfolding plain_state
move_kept h same = (done_refuses h, λ z. ap (λ (x : State). x.depths) (h.after z) ∙ same)

-- ---- every call of a list

-- What holds of each call by the record as the call finds it holds of all of them. x is a record of either kind, `step` what a call makes of it and `event` the call's
-- event; Ok is what the calls keep of a record. The claim P may speak of something else that goes along, `at x` for the record x: the session, for example.
module _ {X R K : Type 0} (step : X → K → X) (event : X → K → Event) (Ok : X → Type 0) (keeps : (x : X) → Ok x → (k : K) → Ok (step x k)) (at : X → R) (next : R → K → Event → R) (P : R → K → Event → Type 0) (follows : (x : X) (k : K) → next (at x) k (event x k) ≡ at (step x k)) (each : (x : X) → Ok x → (k : K) → P (at x) k (event x k)) where
  pub all_calls : (x : X) → Ok x → (ks : List K) → AllBy next P (at x) ks (events_by step event x ks)
  all_calls x ok [] = tt
  all_calls x ok (k ∷ ks) = (each x ok k, rw (follows x k) (all_calls (step x k) (keeps x ok k) ks))

-- ---- the session

module _ (r : Plain) (ok : Ready r) where
  abbrev s : Settings
  s = r.settings

  abbrev p : Pictures
  p = r.pictures

  abbrev d : Depths
  d = r.depths

  abbrev S : Settings
  S = with_total s (fresh_total s p d)

  abbrev F : Held
  F = fresh s p d

  sound : Sound S p d F
  unfolding plain_state
  sound = state_sound r refl

  pub sound_as_read : Sound S p d (read_held F)
  sound_as_read = sound_read S p d ok.depths ok.share F sound

  -- ---- the numbers of GET and SET

  module _ (v : ℕ) (b : Block) (c : Candidate) (x : List ℕ) where
    early : early_number S p d F v b c (length x) ≡ own_then s v b c (length x) 0
    early = ready_common r ok _ _ ∙ own_total s _ v b c (length x) 0

    call :
        (k : ℤ) (rest : ℕ) → (early_number S p d F v b c (length x) ≡ 0 → Sound S p d (read_held F) → in_range S k ≡ true) →
        call_then S p d F v b c (length x) k rest ≡ own_then s v b c (length x) rest
    call k rest h =
        ready_common r ok _ _ ∙ own_total s _ v b c (length x) _
        ∙ settled (own_before s v b c (length x)) (in_range S k) rest (λ e. h (early ∙ e) sound_as_read)

  -- ---- what SET and TAKE BACK have in common; n is the number by the plain record

  edit :
      (v : ℕ) (b : Block) (c : List ℕ) (early : ℕ) (found : ℤ) (t : EditReply) (e : Depths) (g : Held) → EditPost S p d e F g v b c early found t →
      (t.number ≡ 0 → early ≡ 0) → (n : ℕ) → t.number ≡ n → (j new k : List ℕ) → ((t.number ≡ 0 → ⊥) → k ≡ j) →
      (t.number ≡ 0 → k ≡ new) →
      Done r (edited r v b c) n (change_of s p d v b c) j new (record { reply = reply_of t.number t.change; after = leaves t.settings e g; journal = k })
  unfolding plain_state
  edit v b c early found t e g h tested n number j new k none some =
      record {
        number = number;
        change = λ z. h.change z ∙ h.decided (tested z) sound_as_read ∙ change_of_total s _ p d v b c;
        refused_change = h.refused_change;
        after = λ z.
            let q = edit_settings S p d e F g v b c early found t h (tested z) z ok.depths ok.share sound in
            rw (h.depths z, h.held z sound, q, written_total s _ v b c d, fresh_total_lem s _ p (written s v b c d), fresh_total_total s _ p (written s v b c d));
        refused_after = λ z. rw (h.refused_depths z, h.refused_held z, h.refused_settings z);
        journal = some;
        refused_journal = none;
        ready = λ z. ready_written r ok v b c;
      }

  -- ---- each call, on that session and the journal J

  module _ (J : List ℕ) {q : Pictures} {st : State} {j : List ℕ} (same : q ≡ p) (now : st ≡ plain_state r) (lent : j ≡ J) where
    pub get_done :
        (v : ℕ) (b : Block) (c : Candidate) (x : List ℕ) (t : TrialReply) → GetPost st.settings q st.depths st.held v b c x t →
        Done r r (own_then s v b c (length x) 0) (change_of s p d v b (filled b c x)) J J (record { reply = reply_of t.number t.change; after = st; journal = j })
    unfolding plain_state
    get_done v b c x t post =
        let h = rw (same, now) at post in
        record {
          number = h.number ∙ call v b c x h.found 0 h.change_in_range;
          change = λ z.
              h.change z ∙ h.decided (get_early S p d F v b c x h z) sound_as_read
              ∙ change_of_total s _ p d v b (filled b c x);
          refused_change = h.refused;
          after = λ z. now;
          refused_after = λ z. now;
          journal = λ z. lent;
          refused_journal = λ z. lent;
          ready = λ z. ok;
        }

    pub set_done :
        (v : ℕ) (b : Block) (c : Candidate) (x : List ℕ) (t : EditReply) (e : Depths) (g : Held) (k : List ℕ) → SetPost st.settings q st.depths e st.held g j k v b c x t →
        Done r (edited r v b (filled b c x)) (own_then s v b c (length x) (saving_then s b J 0)) (change_of s p d v b (filled b c x)) J (saved J v b (old_depths s v b d)) (record { reply = reply_of t.number t.change; after = leaves t.settings e g; journal = k })
    unfolding plain_state
    set_done v b c x t e g k post =
        let h = rw (same, now, lent) at post in
        let n = h.number ∙ call v b c x h.found _ h.edit.change_in_range ∙ ap (own_then s v b c (length x)) (saving_sides S s b J 0 refl refl) in
        edit v b (filled b c x) _ _ t e g h.edit (set_early S p d F v b c x h)
        _ n J _ k h.refused_journal h.journal

    pub take_done :
        (t : EditReply) (e : Depths) (g : Held) (k : List ℕ) → TakeBackPost st.settings q st.depths e st.held g j k t →
        Done r (edited r (record_view J (newest J)) (record_block J (newest J)) (record_depths J (newest J))) (taking_then s J 0) (change_of s p d (record_view J (newest J)) (record_block J (newest J)) (record_depths J (newest J))) J (taken_back J) (record { reply = reply_of t.number t.change; after = leaves t.settings e g; journal = k })
    unfolding plain_state
    take_done t e g k post =
        let h = rw (same, now, lent) at post in
        let early : take_back_early S p d F J ≡ taking_then s J 0 = ready_common r ok _ _ ∙ taking_sides S s J 0 refl refl in
        let n =
        h.number ∙ ready_common r ok _ _ ∙ taking_sides S s J _ refl refl
        ∙ settled (taking_before s J) (in_range S h.found) 0 (λ z. h.edit.change_in_range (early ∙ z) sound_as_read) in
        edit _ _ _ _ _ t e g h.edit (λ z. passed (taken_before S p d F J) (unless (in_range S h.found) 8 0) (sym h.number ∙ z))
        _ n J _ k h.refused_journal h.journal

    pub move_done :
        (to : Settings) (reference : List ℕ) (t : OpenReply) (g : Held) (k : List ℕ) → MovePost st.settings to (with_reference q reference) st.depths st.held g j k t →
        Done r (plain (with_seat s to) (with_reference p reference) d) (move_number s to reference J) (pos 0) J (emptied J) (record { reply = reply_of t.number (pos 0); after = leaves t.settings st.depths g; journal = k })
    unfolding plain_state
    move_done to reference t g k post =
        let h = rw (same, now, lent) at post in
        let depths : st.depths ≡ d = ap (λ (y : State). y.depths) now in
        let n = h.number ∙ ready_move r ok to reference J _ in
        record {
          number = n;
          change = λ z. refl;
          refused_change = λ z. refl;
          after = λ z.
              ap (λ (y : Depths). leaves t.settings y g) depths ∙ fill_leaves S (with_seat S to) (with_reference p reference) d F g J k t h z
              ∙ state_total (with_seat s to) _ (with_reference p reference) d;
          refused_after = λ z. rw (depths, h.refused_held z, h.refused_settings z);
          journal = h.journal;
          refused_journal = h.refused_journal;
          ready = λ z. ready_moved r ok to reference J (sym n ∙ z);
        }
