-- What RENDER promises, from its tests and a drawn row.
use Prim.Native.Nat.{ℕ}
use mathlib.Core.Path.{◌≡◌, refl, sym, ap, ◌∙◌}
use mathlib.Core.Bool.{Bool, true}
use mathlib.Core.List.{List, ◌++◌}
use native.Mathlib.Omega.{arith}
use lib.ListN.{length, take}
use lib.Seq.{take_at}
use Rattle.std.specs.Prelude.{Ok, Err}
use Rattle.model.specs.declared.Settings.{Settings}
use Rattle.model.specs.declared.Refusal.{Refusal}
use Rattle.model.specs.Marks.{mark_bytes, pack_row}
use Rattle.model.specs.Planes.{Strip, strip, table_of}
use Rattle.model.specs.Row.{Line, line, Row}
use Rattle.model.specs.Views.{is_right, view_row}
use Rattle.model.specs.Fresh.{strip_of}
use Rattle.model.specs.Promises.{RenderPost}
use Rattle.model.specs.Refusals.{number_of, table_ok}
use Rattle.model.proofs.Refusals.{some_number}
use Rattle.model.proofs.Packing.{Flags}
use Rattle.model.proofs.Fresh.{flags_view}
use Rattle.row.specs.Drawing.{Ready, Shows}
use Rattle.lists.specs.Numbers.{strip_number}
use Rattle.lists.proofs.Strips.{strip_number_lem, Accepted, accepted}

-- ---- a drawn row, packed

-- the marks of a drawn row, lent as a part of the room for them
pub part_length : (fs rest : List ℕ) (w : ℕ) → length fs ≡ w → length (take w (fs ++ rest)) ≡ w
part_length fs rest w e = ap length (take_at fs rest w e) ∙ e

pub part_flags : (right : Bool) (l : Line) {s f : List ℕ} (fs rest : List ℕ) (w : ℕ) → length fs ≡ w → Shows (view_row right l) s f fs → Flags (take w (fs ++ rest))
part_flags right l fs rest w e h = rw (take_at fs rest w e, h.marks_are) (flags_view right l)

pub packed : (r : Row) (s f fs rest m : List ℕ) (w : ℕ) → length fs ≡ w → Shows r s f fs → m ≡ pack_row (mark_bytes (length (take w (fs ++ rest)))) (take w (fs ++ rest)) → strip s m f ≡ strip_of w r
unfolding strip_of
packed r s f fs rest m w e h k =
    rw (k, part_length fs rest w e, take_at fs rest w e, h.samples_are, h.fronts_are, h.marks_are)

-- ---- from the tests to the promise

module _ (s : Settings) (v : ℕ) (texture depths : List ℕ) (x₀ : Strip) where
  -- the number of RENDER's refusal, by the lengths of its planes
  abbrev pub number_at : ℕ
  number_at = strip_number s.w s.left s.right s.tear v (length texture) (length depths) (length x₀.samples) (length x₀.marks) (length x₀.fronts)

  abbrev pub AcceptedAt : Type 0
  AcceptedAt = Accepted s.w s.left s.right s.tear v (length texture) (length depths) (length x₀.samples) (length x₀.marks) (length x₀.fronts)

  pub accepted_at : 0 ≡ number_at → AcceptedAt
  accepted_at e = accepted _ _ _ _ _ _ _ _ _ _ (sym e)

  pub refused : (r : Refusal) → number_of r ≡ number_at → RenderPost s v texture depths x₀ x₀ (Err r)
  refused r e =
      record {
        number = e ∙ strip_number_lem s v texture depths x₀;
        refused = λ u. refl;
        drawn = λ z. absurd (some_number r z);
      }

  -- what the drawing asks of the planes
  module _ (a : AcceptedAt) where
    pub ready_strip : (table : List ℕ) → table_ok table ≡ true → Ready (line s.tear table texture depths)
    ready_strip table h =
        record {
          table = h;
          texture = a.sized.texture_is ∙ sym a.sized.depths_is;
          some = omega (arith, a.sized.depths_is, a.side.some);
          most = omega (arith, a.sized.depths_is, a.side.most);
        }

    pub fit : (length x₀.samples ≡ length depths) × ((length x₀.marks ≡ mark_bytes (length depths)) × (length x₀.fronts ≡ length depths))
    fit =
        (a.sized.samples_is ∙ sym a.sized.depths_is, (a.sized.marks_is ∙ ap mark_bytes (sym a.sized.depths_is), a.sized.fronts_is ∙ sym a.sized.depths_is))

    pub drawn : (right : Bool) (x : Strip) (u : Unit {0}) → 0 ≡ number_at → is_right v ≡ right → x ≡ strip_of (length depths) (view_row right (line s.tear (table_of s right) texture depths)) → RenderPost s v texture depths x₀ x (Ok u)
    drawn right x u e q d =
        record {
          number = e ∙ strip_number_lem s v texture depths x₀;
          refused = λ h. absurd (h refl);
          drawn = λ z. rw (q, ← a.sized.depths_is) d;
        }
