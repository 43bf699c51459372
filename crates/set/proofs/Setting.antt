-- SET keeps its promise: refused before the trial, and settled.
use Prim.Native.Nat.{ℕ}
use mathlib.Core.Path.{◌≡◌, refl, sym, ◌∙◌}
use mathlib.Core.List.{List}
use lib.IntN.{ℤ, pos, sub_ℕ}
use lib.ListN.{length}
use Rattle.model.specs.declared.Settings.{Settings}
use Rattle.model.specs.declared.Block.{Block}
use Rattle.model.specs.declared.Candidate.{Candidate}
use Rattle.model.specs.declared.Refusal.{Refusal}
use Rattle.model.specs.Planes.{Pictures, Depths, Held, with_total}
use Rattle.model.specs.Candidates.{filled}
use Rattle.model.specs.Blocks.{old_depths}
use Rattle.model.specs.Refusals.{number_of, in_range, saving_then, early_number}
use Rattle.model.specs.Promises.{EightBit, SetPost}
use Rattle.model.proofs.Refusals.{some_number, call_early, call_late}
use Rattle.model.proofs.Journals.{saving_sides}
use Rattle.validate.specs.Numbers.{sides}
use Rattle.judge.specs.Judged.{Verdict}
use Rattle.decide.proofs.Ways.{passed}
use Rattle.settled.specs.Settled.{Settled, JournalSaved}
use Rattle.settled.proofs.Settling.{edit_refused, edit_settled}

module _ (s : Settings) (p : Pictures) (d₀ : Depths) (h₀ : Held) (j₀ : List ℕ) (v : ℕ) (b : Block) (c : Candidate) (x : List ℕ) where
  pub set_refused : (n : Refusal) → number_of n ≡ early_number s p d₀ h₀ v b c (length x) → EightBit d₀ → SetPost s p d₀ d₀ h₀ h₀ j₀ j₀ v b c x (record { number = number_of n; change = pos 0; settings = s })
  set_refused n e bytes =
      let ne = some_number n in
      let late : early_number s p d₀ h₀ v b c (length x) ≡ 0 → ⊥ = λ z. ne (e ∙ z) in
      record {
        found = pos 0;
        number = e ∙ sym (call_early s p d₀ h₀ v b c (length x) (pos 0) (saving_then s b j₀ 0) late);
        edit = edit_refused s p d₀ h₀ v b (filled b c x) _ n late bytes;
        refused_journal = λ _. refl;
        journal = λ z. absurd (ne z);
      }

  pub set_settled : (r : Verdict) (n : ℤ) → n ≡ r.change → (d : Depths) (h : Held) (j : List ℕ) → early_number s p d₀ h₀ v b c (length x) ≡ 0 → Settled s p d₀ d h₀ h v b (filled b c x) (saving_then (sides s.w s.h) b j₀ 0) r → JournalSaved v b (old_depths (sides s.w s.h) v b d₀) j₀ j r → EightBit d → SetPost s p d₀ d h₀ h j₀ j v b c x (record { number = r.number; change = n; settings = with_total s r.total })
  unfolding in_range
  set_settled r n e d h j early w k bytes =
      record {
        found = sub_ℕ w.new w.old;
        number = w.judged.number ∙ rw (saving_sides (sides s.w s.h) s b j₀ 0 refl refl) (sym (call_late s p d₀ h₀ v b c (length x) (sub_ℕ w.new w.old) (saving_then s b j₀ 0) early));
        edit = edit_settled s p d₀ h₀ v b (filled b c x) _ r n e d h (passed s p d₀ h₀ v b c x early) w bytes;
        refused_journal = k.kept;
        journal = k.recorded;
      }
