-- Planes filled row by row are the fresh drawing, and so OPEN keeps its promise.
--     filled_fresh, filled_total     the filled planes and the total are the fresh drawing's
--     words_some       a journal that is not refused has a word 0
--     refused, opened  the two ways out of OPEN
use Prim.Native.Nat.{ℕ, ◌<◌}
use mathlib.Core.Path.{◌≡◌, refl, sym, ap, ◌∙◌}
use mathlib.Core.Bool.{true, false}
use mathlib.Core.List.{List}
use lib.ListN.{length, set}
use borrow.Author.Tests.{ltb-true}
use Rattle.std.specs.Prelude.{Ok, Err}
use Rattle.model.specs.declared.Settings.{Settings}
use Rattle.model.specs.declared.Refusal.{Refusal}
use Rattle.model.specs.Planes.{Pictures, Depths, Held, with_total}
use Rattle.model.specs.Fresh.{fresh_view, fresh, fresh_total}
use Rattle.model.specs.Refusals.{number_of, unless, words_ok, pictures_ok, open_number}
use Rattle.model.specs.Replies.{open_reply}
use Rattle.model.specs.Promises.{EightBit, OpenPost}
use Rattle.model.proofs.Refusals.{some_number, Common, unless_true, rest_passed, common_before}
use Rattle.model.proofs.Journals.{set_newest}
use Rattle.draw.specs.Drawn.{PlanesOf}
use Rattle.draw.specs.Combination.{held_rows, PictureCombined}
use Rattle.draw.proofs.Planes.{view_whole}
use Rattle.draw.proofs.Pictures.{picture_whole, total_whole}
use Rattle.fresh.specs.Filled.{Filled}

-- planes of these sizes keep them
pub planes_left : (s : Settings) (p : Pictures) (d : Depths) (g : Held) → Common s p d g → PlanesOf s.w s.h p.left d.left g.left
planes_left s p d g c =
    record {
      texture_there = c.pictures.left;
      depths_there = c.depths.left;
      samples_of = c.held.left.samples;
      fronts_of = c.held.left.fronts;
      limits_of = c.held.left.limits;
      marks_there = c.held.left.marks;
    }

pub planes_right : (s : Settings) (p : Pictures) (d : Depths) (g : Held) → Common s p d g → PlanesOf s.w s.h p.right d.right g.right
planes_right s p d g c =
    record {
      texture_there = c.pictures.right;
      depths_there = c.depths.right;
      samples_of = c.held.right.samples;
      fronts_of = c.held.right.fronts;
      limits_of = c.held.right.limits;
      marks_there = c.held.right.marks;
    }

module _ (s : Settings) (p : Pictures) (d : Depths) (g : Held) (total : ℕ) (c : Common s p d g) (f : Filled s.left s.right s.share s.tolerance s.tear s.w s.h p d g total) where
  left_is : g.left ≡ fresh_view s p d false
  left_is = view_whole s p d false g.left c.depths (planes_left s p d g c) f.left

  right_is : g.right ≡ fresh_view s p d true
  right_is = view_whole s p d true g.right c.depths (planes_right s p d g c) f.right

  picture_is : PictureCombined s.share s.tolerance s.w s.h (held_rows s.w (fresh_view s p d false).samples (fresh_view s p d false).fronts (fresh_view s p d false).marks) (held_rows s.w (fresh_view s p d true).samples (fresh_view s p d true).fronts (fresh_view s p d true).marks) p.reference g.combined total
  picture_is = rw (← left_is, ← right_is) f.picture

  pub filled_fresh : g ≡ fresh s p d
  unfolding fresh
  filled_fresh = rw (← left_is, ← right_is, ← picture_whole s p d c.depths c.share g.combined total c.held.combined picture_is)

  pub filled_total : total ≡ fresh_total s p d
  filled_total = total_whole s p d c.depths c.share g.combined total c.held.combined picture_is

-- planes that kept their lengths have passed the same tests
pub common_kept :
    (s : Settings) (p : Pictures) (d : Depths) (g₀ g : Held) → Common s p d g₀ →
    length g.left.samples ≡ length g₀.left.samples → length g.left.fronts ≡ length g₀.left.fronts →
    length g.left.limits ≡ length g₀.left.limits → length g.left.marks ≡ length g₀.left.marks →
    length g.right.samples ≡ length g₀.right.samples → length g.right.fronts ≡ length g₀.right.fronts →
    length g.right.limits ≡ length g₀.right.limits → length g.right.marks ≡ length g₀.right.marks →
    length g.combined ≡ length g₀.combined → Common s p d g
common_kept s p d g₀ g c ls lf le lm rs rf re rm k =
    record {
      size = c.size;
      pictures = c.pictures;
      depths = c.depths;
      held =
          record {
            left = record { samples = ls ∙ c.held.left.samples; fronts = lf ∙ c.held.left.fronts; limits = le ∙ c.held.left.limits; marks = lm ∙ c.held.left.marks };
            right = record { samples = rs ∙ c.held.right.samples; fronts = rf ∙ c.held.right.fronts; limits = re ∙ c.held.right.limits; marks = rm ∙ c.held.right.marks };
            combined = k ∙ c.held.combined;
          };
      tables = c.tables;
      share = c.share;
      tear = c.tear;
    }

-- the journal of a call that is accepted has a word 0
pub words_some : (s : Settings) (p : Pictures) (d : Depths) (g : Held) (j : List ℕ) → open_number s p d g j ≡ 0 → 0 < length j
words_some s p d g j e =
    ltb-true 0 (length j)
    (unless_true (words_ok j) 12 _ (rest_passed (common_before s p d g) (unless (words_ok j) 13 (unless (pictures_ok p) 21 0)) e))

-- ---- the two ways out

pub refused :
    (s : Settings) (p : Pictures) (d : Depths) (g : Held) (j : List ℕ) (r : Refusal) → number_of r ≡ open_number s p d g j → EightBit d →
    OpenPost s p d g g j j (open_reply s (Err r))
refused s p d g j r e eight =
    record {
      number = e;
      refused_held = λ _. refl;
      refused_journal = λ _. refl;
      refused_settings = λ _. refl;
      held = λ z. absurd (some_number r z);
      journal = λ z. absurd (some_number r z);
      settings = λ z. absurd (some_number r z);
      eight_bit = eight;
    }

pub opened :
    (s : Settings) (p : Pictures) (d : Depths) (g₀ g : Held) (j : List ℕ) (total : ℕ) → open_number s p d g₀ j ≡ 0 → Common s p d g →
    Filled s.left s.right s.share s.tolerance s.tear s.w s.h p d g total → EightBit d →
    OpenPost s p d g₀ g j (set j 0 0) (open_reply s (Ok (with_total s total)))
opened s p d g₀ g j total e c f eight =
    record {
      number = sym e;
      refused_held = λ ne. absurd (ne refl);
      refused_journal = λ ne. absurd (ne refl);
      refused_settings = λ ne. absurd (ne refl);
      held = λ z. filled_fresh s p d g total c f;
      journal = λ z. set_newest 0 j;
      settings = λ z. ap (with_total s) (filled_total s p d g total c f);
      eight_bit = eight;
    }
