-- What a session as OPEN or MOVE leaves it has passed, and what a written block changes in it.
--     ready, ready_written, ready_moved      every record of a run has passed OPEN's tests
--     ready_common, ready_open, ready_move   so that 1 to 4 and 20 never apply, a fresh OPEN of it is accepted, and MOVE goes by what is new
--     state_total                            what is drawn is the same whatever the total was
--     state_sound                            the session of a record is sound
--     limit_fresh                            the limits of a fresh drawing, entry by entry
--     local_written                          a written block changes no more than document 01 allows
use Prim.Native.Nat.{ℕ, ◌*◌, ◌<◌, ◌≤◌}
use mathlib.Core.Path.{◌≡◌, refl, sym, ◌∙◌}
use mathlib.Core.Bool.{Bool, true, false, and-true}
use mathlib.Core.List.{List}
use native.Mathlib.Omega.{arith}
use lib.ListN.{length, get_or}
use lib.IntN.{pos}
use borrow.Author.Tests.{eq-eqb, lt-ltb}
use Rattle.model.specs.declared.Settings.{Settings}
use Rattle.model.specs.declared.Block.{Block}
use Rattle.model.specs.Lists.{entry_at}
use Rattle.model.specs.Views.{is_right}
use Rattle.model.specs.Marks.{mark_bytes}
use Rattle.model.specs.Planes.{Pictures, Depths, Held, State, area, with_total, with_seat, with_reference, depths_of}
use Rattle.model.specs.Fresh.{fresh_row, fresh_view, shown_at, fresh_sample, fresh_combined, fresh, fresh_total}
use Rattle.model.specs.Blocks.{in_block, written, change_of}
use Rattle.model.specs.Span.{view_place, span_has, limit_moves}
use Rattle.model.specs.Refusals.{unless, size_ok, planes_sized, pictures_sized, tables_ok, words_ok, picture_ok, pictures_ok, common_then, open_number}
use Rattle.model.specs.Promises.{Sound}
use Rattle.model.proofs.Lists.{get_or_row, get_or-list_of}
use Rattle.model.proofs.Fresh.{DepthsSized, fresh_total_lem, fresh_total_total, row_fresh_samples, row_fresh_fronts, row_fresh_limits, mark_fresh, row_fresh_combined, length-fresh_samples, length-fresh_fronts, length-fresh_limits, length-fresh_marks, length-fresh_combined, view_fresh}
use Rattle.model.proofs.Written.{written_total, written_out}
use Rattle.model.proofs.Locality.{Columns, sized_written, shown_stays, sample_stays, limits_stay}
use Rattle.model.proofs.Refusals.{Size, PicturesOf, ViewOf, HeldOf, Tables, TearIn, unless_true, unless_rest, rest_passed, common_before, common_facts, common_yes, common_passed, size_yes, depths_yes, held_yes}
use Rattle.run.specs.Run.{Plain, plain, move_number, shown_in, limit_in, plain_state, Local}

-- ---- the total that a call is passed

pub change_of_total : (s : Settings) (t : ℕ) (p : Pictures) (d : Depths) (v : ℕ) (b : Block) (c : List ℕ) → change_of (with_total s t) p d v b c ≡ change_of s p d v b c
unfolding change_of
change_of_total s t p d v b c = rw (written_total s t v b c d, fresh_total_total s t p (written s v b c d), fresh_total_total s t p d)

pub state_total : (s : Settings) (t : ℕ) (p : Pictures) (d : Depths) → plain_state (plain (with_total s t) p d) ≡ plain_state (plain s p d)
unfolding plain_state
state_total s t p d = rw (fresh_total_lem s t p d, fresh_total_total s t p d)

-- the session of any record is its fresh drawing
pub state_sound : (r : Plain) {st : State} → st ≡ plain_state r → Sound st.settings r.pictures st.depths st.held
unfolding plain_state
state_sound r e =
    rw e
    (record {
      held = sym (fresh_total_lem r.settings _ r.pictures r.depths);
      total = sym (fresh_total_total r.settings _ r.pictures r.depths);
    })

-- ---- what has been tested

-- what an accepted OPEN has tested; SETs change the depths alone, which keep their lengths, and what MOVE brings is tested as OPEN does
pub record Ready (r : Plain) : Type 0 where
  pub size : Size r.settings
  pub pictures : PicturesOf (area r.settings) r.pictures
  pub depths : DepthsSized r.settings r.depths
  pub tables : Tables r.settings
  pub share : r.settings.share ≤ 64
  pub tear : TearIn r.settings.tear
  pub samples : pictures_ok r.pictures ≡ true

pub ready : (s : Settings) (p : Pictures) (d : Depths) (h : Held) (j : List ℕ) → open_number s p d h j ≡ 0 → Ready (plain s p d)
ready s p d h j e =
    let f = common_facts s p d h (common_passed s p d h _ e) in
    let last = unless_rest (words_ok j) 12 _ (rest_passed (common_before s p d h) (unless (words_ok j) 13 (unless (pictures_ok p) 21 0)) e) in
    record {
      size = f.size;
      pictures = f.pictures;
      depths = f.depths;
      tables = f.tables;
      share = f.share;
      tear = f.tear;
      samples = unless_true (pictures_ok p) 20 0 last;
    }

view_of : (s : Settings) (p : Pictures) (d : Depths) → DepthsSized s d → (r : Bool) → ViewOf (area s) (mark_bytes s.w * s.h) (fresh_view s p d r)
view_of s p d z r =
    record {
      samples = length-fresh_samples s p d z r;
      fronts = length-fresh_fronts s p d z r;
      limits = length-fresh_limits s p d z r;
      marks = length-fresh_marks s p d z r;
    }

held_of : (s : Settings) (p : Pictures) (d : Depths) → DepthsSized s d → HeldOf (area s) (mark_bytes s.w * s.h) (fresh s p d)
unfolding fresh
held_of s p d z = record { left = view_of s p d z false; right = view_of s p d z true; combined = length-fresh_combined s p d }

module _ (r : Plain) (ok : Ready r) where
  abbrev s : Settings
  s = r.settings

  abbrev p : Pictures
  p = r.pictures

  abbrev d : Depths
  d = r.depths

  pub ready_written : (v : ℕ) (b : Block) (c : List ℕ) → Ready (plain s p (written s v b c d))
  ready_written v b c =
      record {
        size = ok.size;
        pictures = ok.pictures;
        depths = sized_written s v b c d ok.depths;
        tables = ok.tables;
        share = ok.share;
        tear = ok.tear;
        samples = ok.samples;
      }

  -- whatever the total, and whatever is held of the right lengths
  common_any : (t : ℕ) (h : Held) → HeldOf (area s) (mark_bytes s.w * s.h) h → (rest : ℕ) → common_then (with_total s t) p d h rest ≡ rest
  common_any t h f rest =
      common_yes (with_total s t) p d h rest
      (record {
        size = record { w = ok.size.w; h = ok.size.h };
        pictures = ok.pictures;
        depths = ok.depths;
        held = f;
        tables = record { left = ok.tables.left; right = ok.tables.right };
        share = ok.share;
        tear = ok.tear;
      })

  pub ready_common : (t rest : ℕ) → common_then (with_total s t) p d (fresh s p d) rest ≡ rest
  ready_common t rest = common_any t (fresh s p d) (held_of s p d ok.depths) rest

  -- a fresh OPEN that is lent held planes of the right lengths and a word of a journal
  pub ready_open : (h : Held) (j : List ℕ) → HeldOf (area s) (mark_bytes s.w * s.h) h → 0 < length j → open_number s p d h j ≡ 0
  ready_open h j f words = common_any s.total h f _ ∙ rw (lt-ltb 0 (length j) words, ok.samples)

  module _ (to : Settings) (reference j : List ℕ) where
    -- MOVE
    pub ready_move : (t : ℕ) → open_number (with_seat (with_total s t) to) (with_reference p reference) d (fresh s p d) j ≡ move_number s to reference j
    unfolding common_then size_ok planes_sized pictures_sized tables_ok pictures_ok move_number
    ready_move t =
        let left : picture_ok p.left ≡ true = grind arith in
        let right : picture_ok p.right ≡ true = grind arith in
        rw (size_yes s ok.size, eq-eqb _ _ ok.pictures.left, eq-eqb _ _ ok.pictures.right, depths_yes (area s) d ok.depths, held_yes (area s) (mark_bytes s.w * s.h) (fresh s p d) (held_of s p d ok.depths), left, right, and-true)

    pub ready_moved : move_number s to reference j ≡ 0 → Ready (plain (with_seat s to) (with_reference p reference) d)
    ready_moved z = ready (with_seat s to) (with_reference p reference) d (fresh s p d) j (ready_move s.total ∙ z)

-- ---- the fresh planes entry by entry

module _ (s : Settings) (p : Pictures) (d : Depths) (z : DepthsSized s d) (r : Bool) (y x : ℕ) (h : y < s.h) (k : x < s.w) where
  shown_fresh : shown_in s.w (fresh_view s p d r) y x ≡ shown_at (fresh_row s p d r y) x
  unfolding shown_in
  shown_fresh =
      let a = rw (row_fresh_samples s p d z r y h) at (get_or_row 0 (fresh_view s p d r).samples s.w y x k) in
      let f = rw (row_fresh_fronts s p d z r y h) at (get_or_row 0 (fresh_view s p d r).fronts s.w y x k) in
      rw (← a, ← f, mark_fresh s p d z r y x h k)

  pub limit_fresh : limit_in s.w (fresh_view s p d r) y x ≡ get_or (fresh_row s p d r y).limits x (pos 0)
  limit_fresh = sym (rw (row_fresh_limits s p d z r y h) at (get_or_row (pos 0) (fresh_view s p d r).limits s.w y x k))

combined_fresh : (s : Settings) (p : Pictures) (d : Depths) (y x : ℕ) → y < s.h → x < s.w → entry_at (fresh_combined s p d) s.w y x 0 ≡ fresh_sample s p d y x
combined_fresh s p d y x h k =
    sym (rw (row_fresh_combined s p d y h) at (get_or_row 0 (fresh_combined s p d) s.w y x k)) ∙ get_or-list_of 0 (fresh_sample s p d y) s.w x k

-- ---- a SET of a block whose columns lie in the picture

module _ (s : Settings) (p : Pictures) (d : Depths) (sized : DepthsSized s d) (v : ℕ) (b : Block) (c : List ℕ) (columns : Columns s b) where
  abbrev after : Depths
  after = written s v b c d

  sized_after : DepthsSized s after
  sized_after = sized_written s v b c d sized

  depths_out : (r : Bool) (i : ℕ) → in_block s.w b i ≡ false → get_or (depths_of after r) i 0 ≡ get_or (depths_of d r) i 0
  unfolding written
  depths_out r i e = grind (arith, written_out s.w b c d.right i e, written_out s.w b c d.left i e)

  -- the other view's depths and held planes
  left_stays : is_right v ≡ true → (after.left ≡ d.left) × ((fresh s p after).left ≡ (fresh s p d).left)
  unfolding written fresh fresh_view fresh_row
  left_stays e = rw e (refl, refl)

  right_stays : is_right v ≡ false → (after.right ≡ d.right) × ((fresh s p after).right ≡ (fresh s p d).right)
  unfolding written fresh fresh_view fresh_row
  right_stays e = rw e (refl, refl)

  -- by the settings that the SET is passed
  pub local_written : Local (with_total s (fresh_total s p d)) v b (plain_state (plain s p d)) (plain_state (plain s p after))
  unfolding plain_state fresh view_place span_has limit_moves
  local_written =
      record {
        depths = depths_out;
        shown = λ r y x h k e.
            rw (view_fresh s p after r, shown_fresh s p after sized_after r y x h k, view_fresh s p d r, shown_fresh s p d sized r y x h k)
            (shown_stays s p d v b c sized columns y x h k e r);
        combined = λ y x h k e. rw (combined_fresh s p after y x h k, combined_fresh s p d y x h k) (sample_stays s p d v b c sized columns y x h k e);
        limits = λ y x h k e.
            rw (view_fresh s p after (is_right v), limit_fresh s p after sized_after (is_right v) y x h k, view_fresh s p d (is_right v), limit_fresh s p d sized (is_right v) y x h k)
            (limits_stay s p d v b c sized columns y x h k e);
        left = left_stays;
        right = right_stays;
      }
