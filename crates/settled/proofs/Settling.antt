-- What SET and TAKE BACK settle in a view.
--     set_requires                what setting a block asks for, from what its trial asks for
--     saved_requires              what saving asks for, once the call is accepted
--     own_requires                what settling in a view asks for has been tested
--     settled_by                  settled in the planes of one view, depths are settled
--     edit_refused, edit_settled  the two ways out: refused before the trial, and settled
use Prim.Native.Nat.{ℕ, ◌≤◌}
use mathlib.Core.Path.{◌≡◌, refl, ap, sym, ◌∙◌}
use mathlib.Core.Bool.{Bool, true, false, not}
use mathlib.Core.List.{List}
use lib.IntN.{ℤ, pos, sub_ℕ, ◌+ℤ◌}
use native.Mathlib.Omega.{arith}
use native.Mathlib.Nat.{mul_comm, mul-le-mul_right}
use Rattle.model.specs.declared.Settings.{Settings}
use Rattle.model.specs.declared.Block.{Block}
use Rattle.model.specs.declared.Refusal.{Refusal}
use Rattle.model.specs.Views.{is_right}
use Rattle.model.specs.Planes.{Pictures, Depths, View, Held, with_total, table_of, texture_of, depths_of, view_of, with_view}
use Rattle.model.specs.Refusals.{number_of, table_ok, within, journal_ok, room_ok, saving_then}
use Rattle.model.specs.Promises.{EightBit, EditPost}
use Rattle.model.proofs.Refusals.{some_number, unless_true, unless_rest}
use Rattle.validate.specs.Numbers.{sides}
use Rattle.journal.specs.Words.{InPlane}
use Rattle.strips.specs.Strips.{Around, Own}
use Rattle.trial.specs.Trial.{Fits}
use Rattle.trial.specs.Trial as trial
use Rattle.trial.proofs.Sound.{around_of, own_of}
use Rattle.commit.specs.Commit as commit
use Rattle.combine.specs.Combine.{OtherSized, BlockIn}
use Rattle.combine.proofs.Session.{own_sized, with_depths, set_depths, set_updated, set_fresh, set_read}
use Rattle.judge.specs.Judged.{Verdict, Judged}
use Rattle.decide.proofs.Ways.{Passed, tried, sum_change, sum_range}
use Rattle.settled.specs.Settled.{OwnSettled, Settled}

-- what setting a block asks for, from what its trial asks for
pub set_requires : {w h : ℕ} {o : Around} {v : Own} {b : Block} {c : List ℕ} → trial.Sized w h o v → Fits w h b c → OtherSized w h o.samples o.fronts o.marks o.combined × BlockIn w h b c
set_requires sized fits = (
  record { samples = sized.samples; fronts = sized.fronts; marks = sized.marks; combined = sized.combined },
  record { some = fits.some; right = fits.right; below = fits.bottom; size = fits.entries },
)

-- what saving asks for, once the call is accepted
pub saved_requires : {w h : ℕ} {o : Around} {v : Own} {b : Block} {c : List ℕ} (j : List ℕ) {total old new most late : ℕ} {r : Verdict} → trial.Sized w h o v → Fits w h b c → late ≡ saving_then (sides w h) b j 0 → Judged total old new most late r → r.number ≡ 0 → InPlane w b v.depths × (room_ok b j ≡ true)
unfolding saving_then
saved_requires {w} {h} {v = v} {b = b} j {total} {old} {new} {most} {late} sized fits e judged z =
    let none : saving_then (sides w h) b j 0 ≡ 0 = sym e ∙ unless_rest (within (pos total +ℤ sub_ℕ new old) most) 7 late (sym judged.number ∙ z) in (
      record {
        wide = fits.wide;
        high = omega (arith, fits.bottom, fits.high);
        right = fits.right;
        below = omega (arith, mul-le-mul_right w fits.bottom, mul_comm w h, sized.depths);
      },
      unless_true (room_ok b j) 10 0 (unless_rest (journal_ok (sides w h) j) 12 _ none),
    )

-- planes put back as they were
depths_kept : (r : Bool) (d : Depths) (x : List ℕ) → x ≡ depths_of d r → with_depths r d x ≡ d
depths_kept true d x e = rw e
depths_kept false d x e = rw e

held_kept : (r : Bool) (h : Held) (x : View) (c : List ℕ) → x ≡ view_of h r → c ≡ h.combined → with_view r h x c ≡ h
held_kept true h x c e q = rw (e, q)
held_kept false h x c e q = rw (e, q)

module _ (s : Settings) (p : Pictures) (d₀ : Depths) (h₀ : Held) (b : Block) (c : List ℕ) (f : Passed s p d₀ h₀ b c) where
  -- what settling in a view asks for, from the tests before 8
  pub own_requires :
      (r : Bool) →
      ((table_ok (table_of s r) ≡ true) × (s.share ≤ 64))
      × (trial.Sized s.w s.h (around_of s p h₀ r) (own_of s p d₀ h₀ r)
      × (commit.Sized s.w s.h (texture_of p r) (depths_of d₀ r) (view_of h₀ r) × Fits s.w s.h b c))
  own_requires r = ((f.table r, f.common.share), (f.sized r, (own_sized f.common r, f.fits)))

  -- settled in the planes of one view
  pub settled_by :
      (v rest : ℕ) (r : Bool) → is_right v ≡ r → (d' : List ℕ) (v' : View) (c' : List ℕ) (q : Verdict) →
      OwnSettled s.tear r (table_of s r) s.share s.tolerance s.total s.w s.h b rest (texture_of p r) c (view_of h₀ (not r)).samples (view_of h₀ (not r)).fronts (view_of h₀ (not r)).marks p.reference (depths_of d₀ r) d' (view_of h₀ r) v' h₀.combined c' q →
      Settled s p d₀ (with_depths r d₀ d') h₀ (with_view r h₀ v' c') v b c rest q
  settled_by v rest r side d' v' c' q o =
      record {
        old = o.old;
        new = o.new;
        tried = tried s p d₀ h₀ v b c r f side o.tried;
        judged = o.judged;
        kept_depths = λ ne. depths_kept r d₀ d' (o.kept_depths ne);
        kept_held = λ ne. held_kept r h₀ v' c' (o.kept_view ne) (o.kept_combined ne);
        wrote = λ z. record {
          depths = set_depths s p d₀ h₀ v b c r side d' v' c' (o.set z);
          updated = set_updated s p d₀ h₀ v b c r side d' v' c' (o.set z) f.common.held;
          held = λ sound. set_fresh s p d₀ h₀ v b c r side d' v' c' (o.set z) f.common.depths f.common.share sound;
          read = λ sound. set_read s p d₀ h₀ v b c r side d' v' c' (o.set z) f.common.depths sound;
        };
      }

module _ (s : Settings) (p : Pictures) (d₀ : Depths) (h₀ : Held) (v : ℕ) (b : Block) (c : List ℕ) (early : ℕ) where
  -- refused by a test before 8
  pub edit_refused : (n : Refusal) → (early ≡ 0 → ⊥) → EightBit d₀ → EditPost s p d₀ d₀ h₀ h₀ v b c early (pos 0) (record { number = number_of n; change = pos 0; settings = s })
  edit_refused n late bytes =
      let ne = some_number n in
      record {
        refused_depths = λ _. refl;
        refused_held = λ _. refl;
        refused_settings = λ _. refl;
        refused_change = λ _. refl;
        change = λ _. refl;
        settings = λ z. absurd (ne z);
        depths = λ z. absurd (ne z);
        updated = λ z. absurd (ne z);
        decided = λ z. absurd (late z);
        change_in_range = λ z. absurd (late z);
        held = λ z. absurd (ne z);
        read = λ z. absurd (ne z);
        eight_bit = bytes;
      }

  -- settled; n is the change as it is answered
  pub edit_settled : {rest : ℕ} (r : Verdict) (n : ℤ) → n ≡ r.change → (d : Depths) (h : Held) → Passed s p d₀ h₀ b c → (w : Settled s p d₀ d h₀ h v b c rest r) → EightBit d → EditPost s p d₀ d h₀ h v b c early (sub_ℕ w.new w.old) (record { number = r.number; change = n; settings = with_total s r.total })
  edit_settled r n e d h f w bytes =
      record {
        refused_depths = w.kept_depths;
        refused_held = w.kept_held;
        refused_settings = λ ne. ap (with_total s) (w.judged.kept ne);
        refused_change = λ ne. e ∙ w.judged.refused ne;
        change = λ z. e ∙ w.judged.change z;
        settings = λ z. ap (with_total s) (w.judged.moved z);
        depths = λ z. (w.wrote z).depths;
        updated = λ z. (w.wrote z).updated;
        decided = λ _ sound. sum_change s p d₀ h₀ v b c w.tried f sound;
        change_in_range = λ _ sound. sum_range s p d₀ h₀ v b c w.tried f sound;
        held = λ z sound. (w.wrote z).held sound.held;
        read = λ z sound. (w.wrote z).read sound.held;
        eight_bit = bytes;
      }
