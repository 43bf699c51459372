-- What each entry promises of its reply and of every plane it is lent: one record an entry.
use Rattle.std.specs.Prelude.{ℕ, ◌*◌, ◌≤◌, ◌≡◌, true, false, cond, List, ℤ, pos, ◌+ℤ◌, nat_abs, length, get_or, Result, Ok}
use Rattle.model.specs.declared.Settings.{Settings}
use Rattle.model.specs.declared.Block.{Block}
use Rattle.model.specs.declared.Candidate.{Candidate}
use Rattle.model.specs.declared.Refusal.{Refusal}
use Rattle.model.specs.declared.Report.{Report}
use Rattle.model.specs.Replies.{OpenReply, TrialReply, EditReply}
use Rattle.model.specs.Lists.{row_of}
use Rattle.model.specs.Row.{line}
use Rattle.model.specs.Views.{is_right, view_row}
use Rattle.model.specs.Marks.{mark_bytes, spare_bits, holes_in}
use Rattle.model.specs.Planes.{Pictures, Depths, View, Held, Strip, area, with_total, with_seat, table_of, read_held, NoneHigher, view_of, with_view, held_row}
use Rattle.model.specs.Fresh.{strip_of, fresh, fresh_total}
use Rattle.model.specs.Candidates.{filled}
use Rattle.model.specs.Blocks.{in_rows, written, old_depths, change_of}
use Rattle.model.specs.Journals.{newest, record_view, record_block, record_depths, saved, taken_back, emptied}
use Rattle.model.specs.Span.{limit_moves}
use Rattle.model.specs.Reports.{report_of}
use Rattle.model.specs.Refusals.{answer_number, held_sized, open_number, check_number, early_number, call_number, set_number, take_back_number, take_back_early, in_range, render_number, holes_number}

-- RENDER draws one row of one view with that view's table. x₀ is what it is lent for writing, at entry; x the same at exit.
pub record RenderPost (s : Settings) (v : ℕ) (texture depths : List ℕ) (x₀ x : Strip) (r : Result (Unit {0}) Refusal) : Type 0 where
  pub number : answer_number r ≡ render_number s v texture depths x₀
  pub refused : (answer_number r ≡ 0 → ⊥) → x ≡ x₀
  pub drawn : answer_number r ≡ 0 → x ≡ strip_of s.w (view_row (is_right v) (line s.tear (table_of s (is_right v)) texture depths))

-- Depths are 8-bit planes, as document 01 has them: of the planes that a call is lent this holds by their type.
pub record EightBit (d : Depths) : Type 0 where
  pub left : (i : ℕ) → get_or d.left i 0 ≤ 255
  pub right : (i : ℕ) → get_or d.right i 0 ≤ 255

-- What OPEN and MOVE have in common: all held planes are filled by a drawing with the settings n, the journal is emptied, and n with the total is answered; or
-- nothing is changed, and s is answered. h₀ is what is held at entry, h at exit; j₀ and j are the journal.
pub record FillPost (s n : Settings) (p : Pictures) (d : Depths) (h₀ h : Held) (j₀ j : List ℕ) (r : OpenReply) : Type 0 where
  pub number : r.number ≡ open_number n p d h₀ j₀
  pub refused_held : (r.number ≡ 0 → ⊥) → h ≡ h₀
  pub refused_journal : (r.number ≡ 0 → ⊥) → j ≡ j₀
  pub refused_settings : (r.number ≡ 0 → ⊥) → r.settings ≡ s
  pub held : r.number ≡ 0 → h ≡ fresh n p d
  pub journal : r.number ≡ 0 → j ≡ emptied j₀
  pub settings : r.number ≡ 0 → r.settings ≡ with_total n (fresh_total n p d)
  pub eight_bit : EightBit d

-- OPEN draws with the settings it is passed.
abbrev pub OpenPost : Settings → Pictures → Depths → Held → Held → List ℕ → List ℕ → OpenReply → Type 0
OpenPost s = FillPost s s

-- MOVE draws the present depths with the tables, share, tolerance and numbers of `to`, and measures against the reference among p (document 02, card 11). The depths
-- are lent for reading.
abbrev pub MovePost : Settings → Settings → Pictures → Depths → Held → Held → List ℕ → List ℕ → OpenReply → Type 0
MovePost s to = FillPost s (with_seat s to)

-- Held planes and total that are those of the fresh drawing: what OPEN and MOVE make, and SET and TAKE BACK keep.
pub record Sound (s : Settings) (p : Pictures) (d : Depths) (h : Held) : Type 0 where
  pub held : h ≡ fresh s p d
  pub total : s.total ≡ fresh_total s p d

-- GET answers the change of the total; it is lent nothing for writing. x are the bytes lent with the candidate c, and the answer is that for the block so
-- filled. `found` is the change that it found. Where the session is sound as it is read, `found` is decided and in range, so that 8 never occurs;
-- elsewhere it is undecided, and 8 is judged by it.
pub record GetPost (s : Settings) (p : Pictures) (d : Depths) (h : Held) (v : ℕ) (b : Block) (c : Candidate) (x : List ℕ) (r : TrialReply) : Type 0 where
  pub found : ℤ
  pub number : r.number ≡ call_number s p d h v b c (length x) found
  pub refused : (r.number ≡ 0 → ⊥) → r.change ≡ pos 0
  pub change : r.number ≡ 0 → r.change ≡ found
  pub decided : early_number s p d h v b c (length x) ≡ 0 → Sound s p d (read_held h) → found ≡ change_of s p d v b (filled b c x)
  pub change_in_range : early_number s p d h v b c (length x) ≡ 0 → Sound s p d (read_held h) → in_range s found ≡ true

-- What an accepted SET or TAKE BACK leaves of the held planes, whatever they held. `own` names the own view's planes, `combined` the combined picture; nothing else
-- changes, and of these no row outside the block. Their rows in the block are decided where the session is sound (`held` and `read` of EditPost) and undecided
-- elsewhere. There too every plane has its exact length, no sample above the greatest is written, limits change at columns up to the block's last only, and spare
-- bits stay.
pub record Updated (s : Settings) (v : ℕ) (b : Block) (h₀ h : Held) : Type 0 where
  pub own : View
  pub combined : List ℕ
  pub held : h ≡ with_view (is_right v) h₀ own combined
  pub rows : (y : ℕ) → in_rows b y ≡ false → held_row s.w h y ≡ held_row s.w h₀ y
  pub lengths : held_sized (area s) (mark_bytes s.w * s.h) h ≡ true
  pub samples : NoneHigher (view_of h₀ (is_right v)).samples own.samples
  pub combined_samples : NoneHigher h₀.combined combined
  pub limits : (y x : ℕ) → limit_moves s (is_right v) b x ≡ false → get_or (row_of own.limits s.w y) x (pos 0) ≡ get_or (row_of (view_of h₀ (is_right v)).limits s.w y) x (pos 0)
  pub spare_stay : (y : ℕ) → spare_bits (row_of own.marks (mark_bytes s.w) y) s.w ≡ spare_bits (row_of (view_of h₀ (is_right v)).marks (mark_bytes s.w) y) s.w

-- What SET and TAKE BACK have in common: the depths c are written into block b of view v, the held planes are brought up to date, and the change and the
-- settings with the new total are answered; or nothing is changed. d₀ and h₀ are the planes at entry, d and h at exit. `early` is the call's number before 8, and
-- `found` the change, as for GET. A session that is sound stays so, as it stands and as it is read.
pub record EditPost (s : Settings) (p : Pictures) (d₀ d : Depths) (h₀ h : Held) (v : ℕ) (b : Block) (c : List ℕ) (early : ℕ) (found : ℤ) (r : EditReply) : Type 0 where
  pub refused_depths : (r.number ≡ 0 → ⊥) → d ≡ d₀
  pub refused_held : (r.number ≡ 0 → ⊥) → h ≡ h₀
  pub refused_settings : (r.number ≡ 0 → ⊥) → r.settings ≡ s
  pub refused_change : (r.number ≡ 0 → ⊥) → r.change ≡ pos 0
  pub change : r.number ≡ 0 → r.change ≡ found
  pub settings : r.number ≡ 0 → r.settings ≡ with_total s (nat_abs (pos s.total +ℤ found))
  pub depths : r.number ≡ 0 → d ≡ written s v b c d₀
  pub updated : r.number ≡ 0 → Updated s v b h₀ h
  pub decided : early ≡ 0 → Sound s p d₀ (read_held h₀) → found ≡ change_of s p d₀ v b c
  pub change_in_range : early ≡ 0 → Sound s p d₀ (read_held h₀) → in_range s found ≡ true
  pub held : r.number ≡ 0 → Sound s p d₀ h₀ → h ≡ fresh s p (written s v b c d₀)
  pub read : r.number ≡ 0 → Sound s p d₀ (read_held h₀) → read_held h ≡ fresh s p (written s v b c d₀)
  pub eight_bit : EightBit d

-- SET refuses as GET does, then by the journal; otherwise it writes the block that the candidate c stands for, x being the bytes lent with it, and saves what
-- stood there. j₀ is the journal at entry, j at exit.
pub record SetPost (s : Settings) (p : Pictures) (d₀ d : Depths) (h₀ h : Held) (j₀ j : List ℕ) (v : ℕ) (b : Block) (c : Candidate) (x : List ℕ) (r : EditReply) : Type 0 where
  pub found : ℤ
  pub number : r.number ≡ set_number s p d₀ h₀ j₀ v b c (length x) found
  pub edit : EditPost s p d₀ d h₀ h v b (filled b c x) (early_number s p d₀ h₀ v b c (length x)) found r
  pub refused_journal : (r.number ≡ 0 → ⊥) → j ≡ j₀
  pub journal : r.number ≡ 0 → j ≡ saved j₀ v b (old_depths s v b d₀)

-- TAKE BACK writes the newest record's depths into its block as a SET of them would, whoever wrote the record, saves nothing, and gives word 0 the index of the
-- one before.
pub record TakeBackPost (s : Settings) (p : Pictures) (d₀ d : Depths) (h₀ h : Held) (j₀ j : List ℕ) (r : EditReply) : Type 0 where
  pub found : ℤ
  pub number : r.number ≡ take_back_number s p d₀ h₀ j₀ found
  pub edit : EditPost s p d₀ d h₀ h (record_view j₀ (newest j₀)) (record_block j₀ (newest j₀)) (record_depths j₀ (newest j₀)) (take_back_early s p d₀ h₀ j₀) found r
  pub refused_journal : (r.number ≡ 0 → ⊥) → j ≡ j₀
  pub journal : r.number ≡ 0 → j ≡ taken_back j₀

-- Packed marks are bytes: of the planes that a call is lent this holds by their type.
pub record MarkBytes (h : Held) : Type 0 where
  pub left : (i : ℕ) → get_or h.left.marks i 0 ≤ 255
  pub right : (i : ℕ) → get_or h.right.marks i 0 ≤ 255

-- CHECK compares every held entry with a fresh drawing.
pub record CheckPost (s : Settings) (p : Pictures) (d : Depths) (h : Held) (r : Result Report Refusal) : Type 0 where
  pub number : answer_number r ≡ check_number s p d h
  pub report : answer_number r ≡ 0 → r ≡ Ok (report_of s p d h)
  pub bytes : MarkBytes h

-- HOLES counts the chosen view's marks of 1 at positions below w.
pub record HolesPost (s : Settings) (v : ℕ) (left right : List ℕ) (r : Result ℕ Refusal) : Type 0 where
  pub number : answer_number r ≡ holes_number s v left right
  pub count : answer_number r ≡ 0 → r ≡ Ok (holes_in (cond (is_right v) right left) s.w s.h)
