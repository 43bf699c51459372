-- A block that is set, in the words of the model's promises: r is whether the view is the right one, and the arguments are those that an
-- entry passes for it.
--     own_sized                                       what set_block requires of the view's own planes, from what the refusals leave
--     set_depths                                      the depths are the written ones
--     set_updated                                     what holds of them whatever the planes held
--     set_read, set_fresh                             planes that were the fresh drawing, as they are read or as they stand, are that of the written
--                                                     depths
use Prim.Native.Nat.{ℕ, ◌*◌, ◌<◌, ◌≤◌}
use mathlib.Core.Path.{◌≡◌, refl, sym, ap, ◌∙◌}
use mathlib.Core.Bool.{Bool, true, false, not}
use mathlib.Core.List.{List}
use native.Mathlib.Nat.{mul_comm}
use lib.IntN.{pos}
use lib.ListN.{length}
use borrow.Author.Tests.{ltb-false}
use Rattle.model.specs.declared.Settings.{Settings}
use Rattle.model.specs.declared.Block.{Block}
use Rattle.model.specs.declared.Pixel.{Pixel}
use Rattle.model.specs.Lists.{list_of, row_of}
use Rattle.model.specs.Views.{is_right}
use Rattle.model.specs.Marks.{mark_bytes}
use Rattle.model.specs.Combined.{combined_of}
use Rattle.model.specs.Planes.{Pictures, Depths, View, Held, depths, area, table_of, texture_of, depths_of, view_of, with_view, read_all, read_view, read_held, view_rows, held_row}
use Rattle.model.specs.Fresh.{fresh_row, fresh_view, shown_at, fresh_sample, fresh_combined, fresh}
use Rattle.model.specs.Blocks.{written_plane, written}
use Rattle.model.specs.Span.{limit_moves}
use Rattle.model.specs.Promises.{Updated}
use Rattle.model.proofs.Lists.{list_same, plane_ext}
use Rattle.model.proofs.Fresh.{DepthsSized, row_fresh_samples, row_fresh_fronts, row_fresh_limits, row_fresh_marks, length-fresh_samples, length-fresh_fronts, length-fresh_limits, length-fresh_marks, row_fresh_combined, length-fresh_combined, view_fresh}
use Rattle.model.proofs.Readings.{length-read_all, read_all_row, view_read, fresh_read}
use Rattle.model.proofs.Written.{written_own, written_other}
use Rattle.model.proofs.Locality.{sized_written}
use Rattle.model.proofs.Refusals.{ViewOf, HeldOf, held_yes, Common}
use Rattle.planes.specs.Parts.{Low}
use Rattle.planes.proofs.Read.{read_low, low_read, low_kept}
use Rattle.planes.proofs.Views.{view_same}
use Rattle.marks.proofs.Held.{held_fresh}
use Rattle.sums.specs.Sides.{paired}
use Rattle.commit.specs.Commit.{Sized, SoundRow, held_in}
use Rattle.combine.specs.Combine.{combined_row, BlockSet}

-- ---- what set_block requires

module _ {s : Settings} {p : Pictures} {d : Depths} {h : Held} (common : Common s p d h) where
  pub own_sized : (r : Bool) → Sized s.w s.h (texture_of p r) (depths_of d r) (view_of h r)
  own_sized true =
      record {
        texture = common.pictures.right;
        depths = common.depths.right;
        samples = common.held.right.samples;
        fronts = common.held.right.fronts;
        limits = common.held.right.limits;
        marks = common.held.right.marks;
      }
  own_sized false =
      record {
        texture = common.pictures.left;
        depths = common.depths.left;
        samples = common.held.left.samples;
        fronts = common.held.left.fronts;
        limits = common.held.left.limits;
        marks = common.held.left.marks;
      }

-- ---- what is lent and what stays, by view

-- the depths with another plane for the view
abbrev pub with_depths : Bool → Depths → List ℕ → Depths
with_depths true d x = depths d.left x
with_depths false d x = depths x d.right

module _ (s : Settings) (v : ℕ) (b : Block) (c : List ℕ) (d : Depths) (x : List ℕ) where
  depths_by : (r : Bool) → is_right v ≡ r → x ≡ written_plane s.w b c (depths_of d r) → with_depths r d x ≡ written s v b c d
  unfolding written
  depths_by true e h = rw (e, h)
  depths_by false e h = rw (e, h)

-- the rows of what is held, and its lengths, from those of the view and of the combined picture
module _ (h : Held) (x : View) (c : List ℕ) where
  row_by : (r : Bool) (w y : ℕ) → view_rows w x y ≡ view_rows w (view_of h r) y → row_of c w y ≡ row_of h.combined w y → held_row w (with_view r h x c) y ≡ held_row w h y
  unfolding held_row
  row_by true w y e k = rw (e, k)
  row_by false w y e k = rw (e, k)

  held_by : (r : Bool) (n m : ℕ) → HeldOf n m h → ViewOf n m x → length c ≡ n → HeldOf n m (with_view r h x c)
  held_by true n m was own e = record { left = was.left; right = own; combined = e }
  held_by false n m was own e = record { left = own; right = was.right; combined = e }

-- ---- the fresh drawing by its rows

paired_sides : (r : Bool) (share tolerance : ℕ) (shown : Bool → Pixel) → paired r share tolerance (shown r) (shown (not r)) ≡ combined_of share tolerance (shown false) (shown true)
unfolding paired
paired_sides true share tolerance shown = refl
paired_sides false share tolerance shown = refl

-- planes that are, as they are read, a view's fresh ones
module _ (s : Settings) (p : Pictures) (d : Depths) (sized : DepthsSized s d) where
  -- they are sound
  fresh_sound : (r : Bool) (x : View) → read_view x ≡ fresh_view s p d r → (y : ℕ) → y < s.h → SoundRow s.tear r (table_of s r) (texture_of p r) s.w (depths_of d r) x y
  unfolding fresh_row
  fresh_sound r x e y k =
      record {
        samples = read_all_row x.samples s.w y ∙ ap (λ (u : View). row_of u.samples s.w y) e ∙ row_fresh_samples s p d sized r y k;
        fronts = ap (λ (u : View). row_of u.fronts s.w y) e ∙ row_fresh_fronts s p d sized r y k;
        limits = ap (λ (u : View). row_of u.limits s.w y) e ∙ row_fresh_limits s p d sized r y k;
        marks = ap (λ (u : View). row_of u.marks (mark_bytes s.w) y) e ∙ row_fresh_marks s p d sized r y k;
      }

  -- two views of them combine to the fresh row
  fresh_combined_lem : (r : Bool) (a e : View) → read_view a ≡ fresh_view s p d r → read_view e ≡ fresh_view s p d (not r) → (y : ℕ) → y < s.h → combined_row r s.share s.tolerance (held_in s.w a y) (held_in s.w e y) s.w ≡ list_of (fresh_sample s p d y) s.w
  unfolding combined_row fresh_sample
  fresh_combined_lem r a e ea ee y k =
      list_same 0 _ (fresh_sample s p d y) s.w
      (λ x l.
      rw (held_fresh s p d sized r a ea y x k l, held_fresh s p d sized (not r) e ee y x k l)
      (paired_sides r s.share s.tolerance (λ q. shown_at (fresh_row s p d q y) x)))

  -- sound planes are, as they are read, the fresh ones
  sound_fresh : (r : Bool) (x : View) → Sized s.w s.h (texture_of p r) (depths_of d r) x → ((y : ℕ) → y < s.h → SoundRow s.tear r (table_of s r) (texture_of p r) s.w (depths_of d r) x y) → read_view x ≡ fresh_view s p d r
  unfolding fresh_row
  sound_fresh r x z sound =
      view_same
      (plane_ext 0 s.w s.h _ _ (length-read_all x.samples ∙ z.samples ∙ mul_comm s.w s.h) (length-fresh_samples s p d sized r ∙ mul_comm s.w s.h) (λ y k. sym (read_all_row x.samples s.w y) ∙ (sound y k).samples ∙ sym (row_fresh_samples s p d sized r y k)))
      (plane_ext 0 s.w s.h _ _ (z.fronts ∙ mul_comm s.w s.h) (length-fresh_fronts s p d sized r ∙ mul_comm s.w s.h) (λ y k. (sound y k).fronts ∙ sym (row_fresh_fronts s p d sized r y k)))
      (plane_ext (pos 0) s.w s.h _ _ (z.limits ∙ mul_comm s.w s.h) (length-fresh_limits s p d sized r ∙ mul_comm s.w s.h) (λ y k. (sound y k).limits ∙ sym (row_fresh_limits s p d sized r y k)))
      (plane_ext 0 (mark_bytes s.w) s.h _ _ (z.marks ∙ mul_comm (mark_bytes s.w) s.h) (length-fresh_marks s p d sized r ∙ mul_comm (mark_bytes s.w) s.h) (λ y k. (sound y k).marks ∙ sym (row_fresh_marks s p d sized r y k)))

-- a view's fresh planes follow from its own depths
view_depths : (s : Settings) (p : Pictures) (d e : Depths) (r : Bool) → depths_of e r ≡ depths_of d r → fresh_view s p e r ≡ fresh_view s p d r
unfolding fresh_view fresh_row
view_depths s p d e r h = rw h

-- what is held, by its parts
fresh_by : (s : Settings) (p : Pictures) (e : Depths) (h : Held) (x : View) (c : List ℕ) (r : Bool) → read_view x ≡ fresh_view s p e r → read_view (view_of h (not r)) ≡ fresh_view s p e (not r) → read_all c ≡ fresh_combined s p e → read_held (with_view r h x c) ≡ fresh s p e
unfolding fresh read_held
fresh_by s p e h x c true own other combined = rw (own, other, combined)
fresh_by s p e h x c false own other combined = rw (own, other, combined)

low_by : (h : Held) (x : View) (c : List ℕ) (r : Bool) → Low x.samples → Low (view_of h (not r)).samples → Low c → read_held (with_view r h x c) ≡ with_view r h x c
unfolding read_held
low_by h x c true own other combined = rw (read_low x.samples own, read_low h.left.samples other, read_low c combined)
low_by h x c false own other combined = rw (read_low x.samples own, read_low h.right.samples other, read_low c combined)

-- what is read as it stands has no higher sample
low_view : (h : Held) → read_held h ≡ h → (q : Bool) → Low (view_of h q).samples
unfolding read_held
low_view h e true = low_read h.right.samples (ap (λ (k : Held). k.right.samples) e)
low_view h e false = low_read h.left.samples (ap (λ (k : Held). k.left.samples) e)

low_picture : (h : Held) → read_held h ≡ h → Low h.combined
unfolding read_held
low_picture h e = low_read h.combined (ap (λ (k : Held). k.combined) e)

module _ (s : Settings) (p : Pictures) (d₀ : Depths) (h₀ : Held) (v : ℕ) (b : Block) (c : List ℕ) (r : Bool) (side : is_right v ≡ r) (d' : List ℕ) (v' : View) (c' : List ℕ) (set : BlockSet s.tear r (table_of s r) s.share s.tolerance s.w s.h b (texture_of p r) c (view_of h₀ (not r)).samples (view_of h₀ (not r)).fronts (view_of h₀ (not r)).marks (depths_of d₀ r) d' (view_of h₀ r) v' h₀.combined c') where
  pub set_depths : with_depths r d₀ d' ≡ written s v b c d₀
  set_depths = depths_by s v b c d₀ d' r side set.depths

  pub set_updated : HeldOf (area s) (mark_bytes s.w * s.h) h₀ → Updated s v b h₀ (with_view r h₀ v' c')
  unfolding limit_moves
  set_updated was =
      let own : ViewOf (area s) (mark_bytes s.w * s.h) v' =
      record { samples = set.size.samples; fronts = set.size.fronts; limits = set.size.limits; marks = set.size.marks } in
      rw (← side)
      (record {
        own = v';
        combined = c';
        held = refl;
        rows = λ y e. rw (← side) at (row_by h₀ v' c' r s.w y (set.others y e) (set.others_combined y e));
        lengths = rw (← side) at (held_yes (area s) (mark_bytes s.w * s.h) (with_view r h₀ v' c') (held_by h₀ v' c' r (area s) (mark_bytes s.w * s.h) was own set.other.combined));
        samples = rw (← side) at set.bounded.samples;
        combined_samples = set.combined_samples;
        limits = λ y x e. (rw (← side) at set.bounded.limits) y x (ltb-false _ _ e);
        spare_stay = rw (← side) at set.bounded.spare_stay;
      })

  module _ (sized : DepthsSized s d₀) (sound : read_held h₀ ≡ fresh s p d₀) where
    abbrev after : Depths
    after = written s v b c d₀

    after_sized : DepthsSized s after
    after_sized = sized_written s v b c d₀ sized

    own_depths : d' ≡ depths_of after r
    own_depths = set.depths ∙ sym (rw side at (written_own s v b c d₀))

    was_fresh : (q : Bool) → read_view (view_of h₀ q) ≡ fresh_view s p d₀ q
    was_fresh q = view_read h₀ q ∙ ap (λ (h : Held). view_of h q) sound ∙ view_fresh s p d₀ q

    was_sound : (y : ℕ) → y < s.h → SoundRow s.tear r (table_of s r) (texture_of p r) s.w (depths_of d₀ r) (view_of h₀ r) y
    was_sound y k = fresh_sound s p d₀ sized r (view_of h₀ r) (was_fresh r) y k

    own_fresh : read_view v' ≡ fresh_view s p after r
    own_fresh =
        sound_fresh s p after after_sized r v' (rw own_depths at set.size) (λ y k. rw own_depths at (set.sound y (was_sound y k)))

    other_fresh : read_view (view_of h₀ (not r)) ≡ fresh_view s p after (not r)
    other_fresh = was_fresh (not r) ∙ sym (view_depths s p d₀ after (not r) (rw side at (written_other s v b c d₀)))

    was_combined : (y : ℕ) → y < s.h → read_all (row_of h₀.combined s.w y) ≡ list_of (fresh_sample s p d₀ y) s.w
    unfolding fresh read_held
    was_combined y k =
        read_all_row h₀.combined s.w y ∙ ap (λ (h : Held). row_of h.combined s.w y) sound ∙ row_fresh_combined s p d₀ y k

    combined_row_lem : (y : ℕ) → y < s.h → read_all (row_of c' s.w y) ≡ list_of (fresh_sample s p after y) s.w
    combined_row_lem y k =
        set.combined y (was_sound y k)
        (was_combined y k ∙ sym (fresh_combined_lem s p d₀ sized r (view_of h₀ r) (view_of h₀ (not r)) (was_fresh r) (was_fresh (not r)) y k))
        ∙ fresh_combined_lem s p after after_sized r v' (view_of h₀ (not r)) own_fresh other_fresh y k

    pub set_read : read_held (with_view r h₀ v' c') ≡ fresh s p (written s v b c d₀)
    set_read =
        fresh_by s p after h₀ v' c' r own_fresh other_fresh
        (plane_ext 0 s.w s.h (read_all c') (fresh_combined s p after) (length-read_all c' ∙ set.other.combined ∙ mul_comm s.w s.h) (length-fresh_combined s p after ∙ mul_comm s.w s.h)
        (λ y k. sym (read_all_row c' s.w y) ∙ combined_row_lem y k ∙ sym (row_fresh_combined s p after y k)))

  -- a drawing is read as it stands, and so is what is set in it
  pub set_fresh : DepthsSized s d₀ → s.share ≤ 64 → h₀ ≡ fresh s p d₀ → with_view r h₀ v' c' ≡ fresh s p (written s v b c d₀)
  set_fresh sized share sound =
      let as_read = ap read_held sound ∙ fresh_read s p d₀ sized share in
      let still = as_read ∙ sym sound in
      let own = low_kept (view_of h₀ r).samples v'.samples set.bounded.samples (low_view h₀ still r) in
      let combined = low_kept h₀.combined c' set.combined_samples (low_picture h₀ still) in
      sym (low_by h₀ v' c' r own (low_view h₀ still (not r)) combined)
      ∙ set_read sized as_read
