-- Samples as they are read (document 02, card 12).
--     length-read_all, get_or-read_all     a plane as it is read, by its index
--     read_twice                       a sample that is read is read as it is
--     sample_in_seen                    a row as the view reads it
--     sample_in_row, read_all_row        a row of a plane
--     picture_read                     a picture that OPEN accepts is read as it stands
--     samples_read, fresh_read         and so is a fresh drawing
--     opened_read                      so that what OPEN accepts, and what is drawn of it, has one reading
--     sound_read                       a sound session is sound as it is read
use Prim.Native.Nat.{ℕ, ◌+◌, ◌*◌, ◌<◌, ◌≤◌}
use mathlib.Core.Path.{◌≡◌, refl, sym, ap, ◌∙◌}
use mathlib.Core.Bool.{Bool, true, false}
use mathlib.Core.Logic.{⊎_elim}
use mathlib.Core.List.{List}
use native.Mathlib.Omega.{arith}
use native.Mathlib.Nat.{mul_comm}
use lib.ListN.{length, get_or, drop, length-take, length-drop, get_or-eq_default}
use lib.Seq.{ext_get_or}
use Rattle.model.specs.declared.Settings.{Settings}
use Rattle.model.specs.Lists.{list_of, row_of}
use Rattle.model.specs.Row.{greatest, read, sample_in}
use Rattle.model.specs.Views.{seen, entry_of}
use Rattle.model.specs.Planes.{Pictures, Depths, Held, view_of, read_all, read_view, read_held}
use Rattle.model.specs.Fresh.{fresh_sample, fresh_view, fresh_combined, fresh}
use Rattle.model.specs.Refusals.{words_ok, unless, picture_ok, pictures_ok, open_number}
use Rattle.model.specs.Promises.{Sound}
use Rattle.model.proofs.Choice.{lt_or_le, and_left, and_right}
use Rattle.model.proofs.Lists.{length-list_of, get_or-list_of, get_or_row, row_ext, plane_ext}
use Rattle.model.proofs.Views.{get_or_seen}
use Rattle.model.proofs.Fresh.{DepthsSized, row_fresh_samples, length-fresh_samples, row_fresh_combined, length-fresh_combined}
use Rattle.model.proofs.Totals.{read_most, read_same, shown_most, sample_most}
use Rattle.model.proofs.Refusals.{unless_true, unless_rest, up_to_most, rest_passed, common_before}

pub length-read_all : (l : List ℕ) → length (read_all l) ≡ length l
unfolding read_all
length-read_all l = length-list_of (sample_in l) (length l)

pub get_or-read_all : (l : List ℕ) (i : ℕ) → get_or (read_all l) i 0 ≡ sample_in l i
unfolding read_all sample_in
get_or-read_all l i =
    ⊎_elim (λ h. get_or-list_of 0 (sample_in l) (length l) i h)
    (λ h. get_or-eq_default (list_of (sample_in l) (length l)) 0 {n = i} (rw (length-list_of (sample_in l) (length l)) h)
    ∙ sym (ap read (get_or-eq_default l 0 {n = i} h) ∙ read_same 0 (omega arith)))
    (lt_or_le i (length l))

pub read_twice : (x : ℕ) → read (read x) ≡ read x
read_twice x = read_same (read x) (read_most x)

pub sample_in-read_all : (l : List ℕ) (i : ℕ) → sample_in (read_all l) i ≡ sample_in l i
unfolding sample_in
sample_in-read_all l i = ap read (get_or-read_all l i) ∙ read_twice (get_or l i 0)

-- a row as the view reads it
pub sample_in_seen : (r : Bool) (l : List ℕ) (i : ℕ) → i < length l → sample_in (seen r l) i ≡ sample_in l (entry_of r (length l) i)
unfolding sample_in
sample_in_seen r l i h = ap read (get_or_seen 0 r l i h)

-- a row of a plane as it is read
pub sample_in_row : (l : List ℕ) (w y i : ℕ) → i < w → sample_in (row_of l w y) i ≡ sample_in l (y * w + i)
unfolding sample_in
sample_in_row l w y i h = ap read (get_or_row 0 l w y i h)

pub read_all_row : (l : List ℕ) (w y : ℕ) → read_all (row_of l w y) ≡ row_of (read_all l) w y
unfolding row_of
read_all_row l w y =
    let n : length (read_all (row_of l w y)) ≡ length (row_of (read_all l) w y) =
    length-read_all (row_of l w y) ∙ length-take w (drop (y * w) l)
    ∙ rw (length-drop (y * w) l, ← length-read_all l, ← length-drop (y * w) (read_all l)) (sym (length-take w (drop (y * w) (read_all l)))) in
    ext_get_or 0 (read_all (row_of l w y)) (row_of (read_all l) w y) n
    (λ i h.
    let k : i < w = omega (arith, length-read_all (row_of l w y), length-take w (drop (y * w) l)) in
    get_or-read_all (row_of l w y) i ∙ sample_in_row l w y i k ∙ sym (get_or_row 0 (read_all l) w y i k ∙ get_or-read_all l (y * w + i)))

-- a view of what is held, as it is read
pub view_read : (h : Held) (q : Bool) → read_view (view_of h q) ≡ view_of (read_held h) q
unfolding read_held
view_read h true = refl
view_read h false = refl

-- a picture that OPEN accepts is read as it stands
pub picture_read : (l : List ℕ) → picture_ok l ≡ true → (i : ℕ) → sample_in l i ≡ get_or l i 0
unfolding sample_in
picture_read l e i = read_same (get_or l i 0) (up_to_most greatest l e i)

-- pictures and held planes that are read as they stand
pub record OneReading (p : Pictures) (h : Held) : Type 0 where
  pub left : (i : ℕ) → sample_in p.left i ≡ get_or p.left i 0
  pub right : (i : ℕ) → sample_in p.right i ≡ get_or p.right i 0
  pub reference : (i : ℕ) → sample_in p.reference i ≡ get_or p.reference i 0
  pub held : read_held h ≡ h

-- a plane none of whose rows has a higher entry
plane_read : (w h : ℕ) (l : List ℕ) → length l ≡ h * w → ((y x : ℕ) → y < h → x < w → get_or (row_of l w y) x 0 ≤ greatest) → read_all l ≡ l
unfolding sample_in
plane_read w h l e most =
    plane_ext 0 w h (read_all l) l (length-read_all l ∙ e) e
    (λ y k. row_ext 0 (read_all l) l w y (length-read_all l)
    (λ i m. get_or-read_all l (y * w + i) ∙ read_same (get_or l (y * w + i) 0) (rw (← get_or_row 0 l w y i m) (most y i k m))))

module _ (s : Settings) (p : Pictures) (d : Depths) (sized : DepthsSized s d) where
  pub samples_read : (r : Bool) → read_all (fresh_view s p d r).samples ≡ (fresh_view s p d r).samples
  samples_read r =
      plane_read s.w s.h (fresh_view s p d r).samples (length-fresh_samples s p d sized r ∙ mul_comm s.w s.h)
      (λ y x k m. rw (row_fresh_samples s p d sized r y k) (shown_most s p d sized r y x k m))

  module _ (share : s.share ≤ 64) where
    combined_read : read_all (fresh_combined s p d) ≡ fresh_combined s p d
    combined_read =
        plane_read s.w s.h (fresh_combined s p d) (length-fresh_combined s p d ∙ mul_comm s.w s.h)
        (λ y x k m. rw (row_fresh_combined s p d y k, get_or-list_of 0 (fresh_sample s p d y) s.w x m) (sample_most s p d sized share y x k m))

    pub fresh_read : read_held (fresh s p d) ≡ fresh s p d
    unfolding read_held fresh
    fresh_read = rw (samples_read false, samples_read true, combined_read)

    -- The pictures that OPEN accepted, and any drawing of them, have one reading.
    pub opened_read : (g : Held) (e : Depths) (j : List ℕ) → open_number s p e g j ≡ 0 → OneReading p (fresh s p d)
    unfolding pictures_ok
    opened_read g e j accepted =
        let ok = unless_true (pictures_ok p) 20 0 (unless_rest (words_ok j) 12 _ (rest_passed (common_before s p e g) (unless (words_ok j) 13 (unless (pictures_ok p) 21 0)) accepted)) in
        let rest = and_right (picture_ok p.left) _ ok in
        record {
          left = picture_read p.left (and_left (picture_ok p.left) _ ok);
          right = picture_read p.right (and_left (picture_ok p.right) _ rest);
          reference = picture_read p.reference (and_right (picture_ok p.right) _ rest);
          held = fresh_read;
        }

    pub sound_read : (h : Held) → Sound s p d h → Sound s p d (read_held h)
    sound_read h sound = record { held = ap read_held sound.held ∙ fresh_read; total = sound.total }
