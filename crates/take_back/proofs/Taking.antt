-- TAKE BACK keeps its promise.
--     early_taken                 the tests before 8 are the model's
--     newest_there, part_there    the newest record lies within the words
--     taken_requires              what putting it back asks for
--     handed_on                   what `strike` hands on is what was settled
--     take_refused, take_settled  the two ways out: refused before the trial, and settled
use Prim.Native.Nat.{ℕ, ◌+◌, ◌-◌, ◌<◌, ◌≤◌}
use mathlib.Core.Path.{◌≡◌, refl, ap, sym, ◌∙◌}
use mathlib.Core.Bool.{true}
use mathlib.Core.List.{List}
use native.Mathlib.Omega.{arith}
use lib.Dec.{eqb}
use lib.IntN.{ℤ, pos, sub_ℕ}
use lib.ListN.{length, take, drop, length-drop}
use lib.Seq.{length-take-le}
use borrow.Author.Tests.{not-true, eqb-false}
use Rattle.std.specs.Prelude.{Result}
use Rattle.model.specs.declared.Settings.{Settings}
use Rattle.model.specs.declared.Block.{Block}
use Rattle.model.specs.declared.Refusal.{Refusal}
use Rattle.model.specs.Planes.{Pictures, Depths, Held, with_total}
use Rattle.model.specs.Candidates.{positions}
use Rattle.model.specs.Journals.{with_newest, newest, record_view, record_block, record_depths, record_end}
use Rattle.model.specs.Refusals.{number_of, in_range, journal_ok, some_record, common_then, taking_then, take_back_early}
use Rattle.model.specs.Promises.{EightBit, TakeBackPost}
use Rattle.model.proofs.Refusals.{some_number, unless_true, unless_rest, rest_passed, block_yes, common_before, common_passed, taken_before}
use Rattle.model.proofs.Journals as journals
use Rattle.model.proofs.Journals.{journal_words, journal_newest, taking_sides}
use Rattle.validate.specs.Numbers.{common_number, sides}
use Rattle.validate.proofs.Numbers.{lengths_of, common_number_lem}
use Rattle.judge.specs.declared.Decision.{Decision}
use Rattle.judge.specs.Judged.{Verdict, verdict}
use Rattle.settled.specs.Settled.{Settled}
use Rattle.settled.proofs.Settling.{edit_refused, edit_settled}
use Rattle.restore.specs.Saved.{SavedIn}
use Rattle.restore.proofs.Parts.{saved_passed}
use Rattle.records.specs.declared.Record.{Record}
use Rattle.records.specs.Taken.{NewestRecord}

-- the newest record of a journal that TAKE BACK does not refuse
module _ (s : Settings) (j : List ℕ) (e : taking_then s j 0 ≡ 0) where
  journal_taken : journal_ok s j ≡ true
  unfolding taking_then
  journal_taken = unless_true (journal_ok s j) 12 _ e

  some_taken : newest j ≡ 0 → ⊥
  unfolding taking_then
  some_taken = eqb-false (newest j) 0 (not-true (eqb (newest j) 0) (unless_true (some_record j) 11 0 (unless_rest (journal_ok s j) 12 _ e)))

  pub newest_taken : journals.Record s j (newest j)
  newest_taken = journal_newest s j journal_taken some_taken

  pub length_taken : length (record_depths j (newest j)) ≡ positions (record_block j (newest j))
  unfolding record_depths
  length_taken = length-take-le (positions (record_block j (newest j))) (drop (newest j + 6) j) (rw (length-drop (newest j + 6) j) (omega (arith, newest_taken.end)))

pub handed_on : {s : Settings} {p : Pictures} {d₀ d : Depths} {h₀ h : Held} {v : ℕ} {b : Block} {c : List ℕ} {rest : ℕ} {given answer : Result Decision Refusal} (total : ℕ) → given ≡ answer → Settled s p d₀ d h₀ h v b c rest (verdict total answer) → Settled s p d₀ d h₀ h v b c rest (verdict total given)
handed_on total e w = rw e w

module _ (s : Settings) (p : Pictures) (d₀ : Depths) (h₀ : Held) (j₀ : List ℕ) where
  -- the number that was found is the model's
  pub early_taken : {n : ℕ} → n ≡ common_number s.w s.h s.left s.right s.share s.tear (lengths_of p d₀ h₀) (taking_then (sides s.w s.h) j₀ 0) → n ≡ take_back_early s p d₀ h₀ j₀
  early_taken e = e ∙ common_number_lem s p d₀ h₀ (taking_then (sides s.w s.h) j₀ 0) ∙ ap (common_then s p d₀ h₀) (taking_sides (sides s.w s.h) s j₀ 0 refl refl)

  module _ (early : take_back_early s p d₀ h₀ j₀ ≡ 0) where
    taken : taking_then s j₀ 0 ≡ 0
    taken = rest_passed (common_before s p d₀ h₀) (taking_then s j₀ 0) early

    pub newest_there : (0 < length j₀) × (record_end j₀ (newest j₀) ≤ length j₀)
    newest_there = (journal_words s j₀ (journal_taken s j₀ taken), (newest_taken s j₀ taken).end)

    saved_in : SavedIn s p d₀ h₀ (record_block j₀ (newest j₀)) (record_depths j₀ (newest j₀))
    saved_in =
        let f = newest_taken s j₀ taken in
        record {
          common = common_passed s p d₀ h₀ (taking_then s j₀ 0) early;
          block = block_yes s (record_block j₀ (newest j₀)) f.block;
          size = length_taken s j₀ taken;
          depths = f.depths;
        }

    -- the part of the words that is lent
    module _ {r : Record} (e : NewestRecord j₀ r) where
      pub part_there : (r.from ≤ length j₀) × (r.to ≤ length j₀)
      part_there = let end = (newest_taken s j₀ taken).end in (omega (arith, e.from), omega (arith, e.to))

      part_taken : take (r.to - r.from) (drop r.from j₀) ≡ record_depths j₀ (newest j₀)
      unfolding record_depths
      part_taken = let n : record_end j₀ (newest j₀) - (newest j₀ + 6) ≡ positions (record_block j₀ (newest j₀)) = omega arith in rw (e.from, e.to, n)

      pub taken_requires : SavedIn s p d₀ h₀ r.block (take (r.to - r.from) (drop r.from j₀))
      taken_requires = rw (part_taken, e.block) saved_in

  -- refused by a test before 8
  pub take_refused : (n : Refusal) → number_of n ≡ take_back_early s p d₀ h₀ j₀ → EightBit d₀ → TakeBackPost s p d₀ d₀ h₀ h₀ j₀ j₀ (record { number = number_of n; change = pos 0; settings = s })
  take_refused n e bytes =
      let ne = some_number n in
      let late : take_back_early s p d₀ h₀ j₀ ≡ 0 → ⊥ = λ z. ne (e ∙ z) in
      record {
        found = pos 0;
        number = e ∙ sym ((taken_before s p d₀ h₀ j₀).stays _ late);
        edit = edit_refused s p d₀ h₀ _ _ _ _ n late bytes;
        refused_journal = λ _. refl;
        journal = λ z. absurd (ne z);
      }

  -- settled; n is the change as it is answered
  pub take_settled : (r : Verdict) (n : ℤ) → n ≡ r.change → (d : Depths) (h : Held) (j : List ℕ) → take_back_early s p d₀ h₀ j₀ ≡ 0 → {q : Record} → NewestRecord j₀ q → Settled s p d₀ d h₀ h q.view q.block (take (q.to - q.from) (drop q.from j₀)) 0 r → ((r.number ≡ 0 → ⊥) → j ≡ j₀) → (r.number ≡ 0 → j ≡ with_newest q.before j₀) → EightBit d → TakeBackPost s p d₀ d h₀ h j₀ j (record { number = r.number; change = n; settings = with_total s r.total })
  unfolding in_range
  take_settled r n e d h j early {q} f w kept moved bytes =
      let w' : Settled s p d₀ d h₀ h (record_view j₀ (newest j₀)) (record_block j₀ (newest j₀)) (record_depths j₀ (newest j₀)) 0 r = rw (f.view, f.block, part_taken early f) at w in
      record {
        found = sub_ℕ w'.new w'.old;
        number = w'.judged.number ∙ sym ((taken_before s p d₀ h₀ j₀).rest _ early);
        edit = edit_settled s p d₀ h₀ _ _ _ _ r n e d h (saved_passed s p d₀ h₀ _ _ (saved_in early)) w' bytes;
        refused_journal = kept;
        journal = λ z. rw (← f.before) (moved z);
      }
