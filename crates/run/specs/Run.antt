-- Document 01, "The plain record of a run", with MOVE among the calls (document 02, card 11): runs, the plain record, and what is promised of a run as a whole
-- (term 3). Each SET and each MOVE is passed a journal, any journal, anyone's; specs/Shared has the runs in which all are passed one (card 3).
use Rattle.std.specs.Prelude.{ℕ, ◌<◌, ◌≡◌, Bool, true, false, cond, ◌&&◌, List, [], ◌∷◌, ◌⊎◌, ℤ, pos, length, get_or, eqb}
use Rattle.model.specs.declared.Settings.{Settings}
use Rattle.model.specs.declared.Block.{Block}
use Rattle.model.specs.declared.Candidate.{Candidate}
use Rattle.model.specs.declared.Pixel.{Pixel}
use Rattle.model.specs.Replies.{OpenReply, TrialReply, EditReply}
use Rattle.model.specs.Lists.{row_of, entry_at}
use Rattle.model.specs.Row.{pixel}
use Rattle.model.specs.Views.{is_right}
use Rattle.model.specs.Marks.{mark_bytes, mark_at}
use Rattle.model.specs.Planes.{Pictures, Depths, View, Held, State, area, with_total, with_seat, with_reference, depths_of, view_of}
use Rattle.model.specs.Fresh.{fresh, fresh_total}
use Rattle.model.specs.Candidates.{filled}
use Rattle.model.specs.Blocks.{in_rows, in_block, written, old_depths, change_of}
use Rattle.model.specs.Journals.{saved, emptied}
use Rattle.model.specs.Span.{span_has, limit_moves}
use Rattle.model.specs.Refusals.{unless, tables_ok, share_ok, tear_ok, words_ok, picture_ok, own_then, saving_then}
use Rattle.model.specs.Promises.{GetPost, SetPost, MovePost}
use Rattle.run.specs.Calls.{end_by, events_by, AllBy, AllOf}

-- Each call brings its own view, block and candidate, and the bytes lent with the candidate; a SET brings a journal too. A MOVE brings the settings to move to, a
-- reference and a journal.
pub data Call : Type 0 where
  get : ℕ → Block → Candidate → List ℕ → Call
  set : ℕ → Block → Candidate → List ℕ → List ℕ → Call
  move : Settings → List ℕ → List ℕ → Call

-- What a call answered: the number of its refusal, 0 for none, and the change. A MOVE answers none.
pub record Reply : Type 0 where
  pub number : ℕ
  pub change : ℤ

-- a reply, from what the entry answers
abbrev pub reply_of : ℕ → ℤ → Reply
reply_of number change = record { number = number; change = change }

-- the session that a call with these settings answered and these planes leaves
abbrev pub leaves : Settings → Depths → Held → State
leaves s d h = record { settings = s; depths = d; held = h }

-- What a call answered, and the session and the journal as it left them; a GET is passed none, and leaves none.
pub record Event : Type 0 where
  pub reply : Reply
  pub after : State
  pub journal : List ℕ

-- The pictures after a MOVE that answered number n: from an accepted one on, the textures and its reference.
abbrev pub pictures_after : ℕ → Pictures → List ℕ → Pictures
pictures_after n p reference = cond (eqb n 0) (with_reference p reference) p

-- ---- A run: each call is passed the pictures, the planes as the call before left them, and the latest settings answered; a MOVE its own reference.
-- A step is ANY reply and planes that the entry's own promise allows, refused calls included.
pub data Run : Pictures → State → List Call → List Event → State → Type 0 where
  halted : {p : Pictures} {st : State} → Run p st [] [] st
  got :
      {p : Pictures} {st last : State} {v : ℕ} {b : Block} {c : Candidate} {x : List ℕ} {cs : List Call} {es : List Event} (r : TrialReply) →
      GetPost st.settings p st.depths st.held v b c x r →
      Run p st cs es last →
      Run p st (get v b c x ∷ cs) (record { reply = reply_of r.number r.change; after = st; journal = [] } ∷ es) last
  wrote :
      {p : Pictures} {st last : State} {v : ℕ} {b : Block} {c : Candidate} {x j : List ℕ} {cs : List Call} {es : List Event} (r : EditReply) (d : Depths) (h : Held) (k : List ℕ) →
      SetPost st.settings p st.depths d st.held h j k v b c x r →
      Run p (leaves r.settings d h) cs es last →
      Run p st (set v b c x j ∷ cs) (record { reply = reply_of r.number r.change; after = leaves r.settings d h; journal = k } ∷ es) last
  moved :
      {p : Pictures} {st last : State} {to : Settings} {reference j : List ℕ} {cs : List Call} {es : List Event} (r : OpenReply) (h : Held) (k : List ℕ) →
      MovePost st.settings to (with_reference p reference) st.depths st.held h j k r →
      Run (pictures_after r.number p reference) (leaves r.settings st.depths h) cs es last →
      Run p st (move to reference j ∷ cs) (record { reply = reply_of r.number (pos 0); after = leaves r.settings st.depths h; journal = k } ∷ es) last

-- ---- The plain record: two depth planes, fed what each call brings (a SET and a MOVE bring a journal), no answer and nothing held; and what they are drawn with:
-- settings and pictures of OPEN, and from an accepted MOVE on its settings and the textures with its reference.
pub record Plain : Type 0 where
  pub settings : Settings
  pub pictures : Pictures
  pub depths : Depths

abbrev pub plain : Settings → Pictures → Depths → Plain
plain s p d = record { settings = s; pictures = p; depths = d }

-- In a run 1 never applies to MOVE, and of the planes only the reference may have a wrong length: 2, 3, 4, 20, 13, 21.
unfoldable pub move_number : Settings → Settings → List ℕ → List ℕ → ℕ
move_number s to reference j =
    unless (eqb (length reference) (area s)) 2
    (unless (tables_ok to) 3 (unless (share_ok to) 4 (unless (tear_ok to.tear) 20 (unless (words_ok j) 13 (unless (picture_ok reference) 21 0)))))

-- 1 to 4, 20 and 8 never apply to GET or SET, so that 6, 5 and the candidate's own number are left; then 13 and 11 go by the journal passed.
unfoldable pub plain_number : Plain → Call → ℕ
plain_number r (get v b c x) = own_then r.settings v b c (length x) 0
plain_number r (set v b c x j) = own_then r.settings v b c (length x) (saving_then r.settings b j 0)
plain_number r (move to reference j) = move_number r.settings to reference j

-- What an accepted call makes of the record. GET: it stays. SET: the block that the candidate stands for stays written. MOVE: the depths stay.
unfoldable pub plain_accepted : Plain → Call → Plain
plain_accepted r (get v b c x) = r
plain_accepted r (set v b c x j) = plain r.settings r.pictures (written r.settings v b (filled b c x) r.depths)
plain_accepted r (move to reference j) = plain (with_seat r.settings to) (with_reference r.pictures reference) r.depths

unfoldable pub plain_next : Plain → Call → Plain
plain_next r k = cond (eqb (plain_number r k) 0) (plain_accepted r k) r

-- What a call leaves of the journal passed: SET saves what stands in the block and MOVE empties it, unless a number applies.
unfoldable pub plain_journal : Plain → Call → List ℕ
plain_journal r (get v b c x) = []
plain_journal r (set v b c x j) = cond (eqb (plain_number r (set v b c x j)) 0) (saved j v b (old_depths r.settings v b r.depths)) j
plain_journal r (move to reference j) = cond (eqb (plain_number r (move to reference j)) 0) (emptied j) j

-- The first number n that applies, or the change.
unfoldable pub plain_answer : ℕ → ℤ → Reply
plain_answer n change = record { number = n; change = cond (eqb n 0) change (pos 0) }

-- GET: the fresh total with that block written less that of the record as it stands. SET answers the same.
unfoldable pub plain_change : Plain → Call → ℤ
plain_change r (get v b c x) = change_of r.settings r.pictures r.depths v b (filled b c x)
plain_change r (set v b c x j) = change_of r.settings r.pictures r.depths v b (filled b c x)
plain_change r (move to reference j) = pos 0

unfoldable pub plain_reply : Plain → Call → Reply
plain_reply r k = plain_answer (plain_number r k) (plain_change r k)

-- The record's drawing, as a session: its settings with the fresh total.
unfoldable pub plain_state : Plain → State
plain_state r =
    record {
      settings = with_total r.settings (fresh_total r.settings r.pictures r.depths);
      depths = r.depths;
      held = fresh r.settings r.pictures r.depths;
    }

-- what a call answers and leaves by the record
abbrev pub plain_event : Plain → Call → Event
plain_event r k = record { reply = plain_reply r k; after = plain_state (plain_next r k); journal = plain_journal r k }

unfoldable pub plain_events : Plain → List Call → List Event
plain_events r ks = events_by plain_next plain_event r ks

unfoldable pub plain_end : Plain → List Call → Plain
plain_end r ks = end_by plain_next r ks

-- ---- What an accepted call may change, by the settings it was passed.

-- what a view's held planes show at column x of row y
unfoldable pub shown_in : ℕ → View → ℕ → ℕ → Pixel
shown_in w v y x = pixel (entry_at v.samples w y x 0) (mark_at (row_of v.marks (mark_bytes w) y) x) (entry_at v.fronts w y x 0)

-- and the limit that they hold there
abbrev pub limit_in : ℕ → View → ℕ → ℕ → ℤ
limit_in w v y x = entry_at v.limits w y x (pos 0)

-- column x of row y lies in the span of one of the block's rows; old and new places are the record's before and after the SET
abbrev pub in_spans : Settings → ℕ → Block → Depths → Depths → ℕ → ℕ → Bool
in_spans s v b d e y x = in_rows b y && span_has s (is_right v) b d e y x

-- Depth inside the block only; shown positions in the spans of its rows only; limits on those rows only, at columns up to b;
-- and nothing of the other view.
pub record Local (s : Settings) (v : ℕ) (b : Block) (before after : State) : Type 0 where
  pub depths : (r : Bool) (i : ℕ) → in_block s.w b i ≡ false → get_or (depths_of after.depths r) i 0 ≡ get_or (depths_of before.depths r) i 0
  pub shown :
      (r : Bool) (y x : ℕ) → y < s.h → x < s.w → in_spans s v b before.depths after.depths y x ≡ false →
      shown_in s.w (view_of after.held r) y x ≡ shown_in s.w (view_of before.held r) y x
  pub combined :
      (y x : ℕ) → y < s.h → x < s.w → in_spans s v b before.depths after.depths y x ≡ false →
      entry_at after.held.combined s.w y x 0 ≡ entry_at before.held.combined s.w y x 0
  pub limits :
      (y x : ℕ) → y < s.h → x < s.w → (in_rows b y && limit_moves s (is_right v) b x) ≡ false →
      limit_in s.w (view_of after.held (is_right v)) y x ≡ limit_in s.w (view_of before.held (is_right v)) y x
  pub left : is_right v ≡ true → (after.depths.left ≡ before.depths.left) × (after.held.left ≡ before.held.left)
  pub right : is_right v ≡ false → (after.depths.right ≡ before.depths.right) × (after.held.right ≡ before.held.right)

-- A refused call changes nothing, the journal that it is passed neither.
abbrev pub Refuses : State → List ℕ → Event → Type 0
Refuses before j e = (e.reply.number ≡ 0 → ⊥) → (e.after ≡ before) × (e.journal ≡ j)

-- A call that writes block b in view v and is passed journal j: accepted, it changes no more than the above.
abbrev pub Edits : State → List ℕ → ℕ → Block → Event → Type 0
Edits before j v b e = Refuses before j e × (e.reply.number ≡ 0 → Local before.settings v b before e.after)

-- A MOVE that is passed journal j: accepted, it changes no depth.
abbrev pub Moves : State → List ℕ → Event → Type 0
Moves before j e = Refuses before j e × (e.reply.number ≡ 0 → e.after.depths ≡ before.depths)

-- No GET and no refused call changes anything.
abbrev pub Kept : State → Call → Event → Type 0
Kept before (get v b c x) e = e.after ≡ before
Kept before (set v b c x j) e = Edits before j v b e
Kept before (move to reference j) e = Moves before j e

unfoldable pub AllKept : State → List Call → List Event → Type 0
AllKept before ks es = AllBy (λ (st : State) k e. e.after) Kept before ks es

-- The numbers that occur: a call's own, SET's of the journal, and MOVE's. 1 and 8 never do.
abbrev pub OfCall : ℕ → Type 0
OfCall n = (n ≡ 0) ⊎ ((n ≡ 5) ⊎ ((n ≡ 6) ⊎ ((n ≡ 7) ⊎ ((n ≡ 14) ⊎ (n ≡ 15)))))

abbrev pub OfMove : ℕ → Type 0
OfMove n = (n ≡ 0) ⊎ ((n ≡ 2) ⊎ ((n ≡ 3) ⊎ ((n ≡ 4) ⊎ ((n ≡ 20) ⊎ (n ≡ 21)))))

abbrev pub Usual : Call → ℕ → Type 0
Usual (get v b c x) n = OfCall n
Usual (set v b c x j) n = OfCall n ⊎ ((n ≡ 13) ⊎ (n ≡ 11))
Usual (move to reference j) n = OfMove n ⊎ (n ≡ 13)

unfoldable pub AllUsual : List Call → List Event → Type 0
AllUsual ks es = AllOf (λ k e. Usual k e.reply.number) ks es

-- ---- Term 3, of the list as a whole. r is the plain record of what OPEN was passed, and OPEN left `first`. What the run leaves is what a fresh OPEN leaves that is
-- passed the settings and pictures of the record then, those of the last accepted MOVE, and its depths.
pub record RunPost (r : Plain) (first : State) (cs : List Call) (es : List Event) (last : State) : Type 0 where
  pub session : last ≡ plain_state (plain_end r cs)
  pub events : es ≡ plain_events r cs
  pub kept : AllKept first cs es
  pub usual : AllUsual cs es

-- the session after the last of some events
unfoldable pub state_after : State → List Event → State
state_after st es = end_by (λ st e. e.after) st es
