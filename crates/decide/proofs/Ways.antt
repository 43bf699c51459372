-- The ways out of a decision: refused before the trial, or judged by the trial's two sums.
--     Passed, passed               what a call that goes on to the trial has shown: all that the trial asks
--     tried, tried_total           what the trial's two sums tell
--     sum_change, sum_range        on a sound session their difference is the change, and in range
--     decided_early, decided_late  the decision, before the trial and after it
use Prim.Native.Nat.{ℕ, ◌*◌}
use mathlib.Core.Path.{◌≡◌, refl, sym, ap, subst, ◌∙◌}
use Rattle.std.specs.Prelude.{Result, Err}
use mathlib.Core.Bool.{Bool, true, false}
use mathlib.Core.List.{List}
use native.Mathlib.Omega.{arith}
use lib.ListN.{length}
use lib.IntN.{ℤ, pos, sub_ℕ, ◌+ℤ◌, nat_abs}
use Rattle.model.specs.declared.Settings.{Settings}
use Rattle.model.specs.declared.Block.{Block}
use Rattle.model.specs.declared.Candidate.{Candidate}
use Rattle.model.specs.declared.Refusal.{Refusal}
use Rattle.model.specs.Combined.{worst}
use Rattle.model.specs.Planes.{Pictures, Depths, Held, area, table_of, with_total, read_held}
use Rattle.model.specs.Views.{is_right}
use Rattle.model.specs.Fresh.{fresh_total}
use Rattle.model.specs.Candidates.{filled}
use Rattle.model.specs.Blocks.{written, change_of}
use Rattle.model.specs.Refusals.{number_of, table_ok, candidate_then, in_range, early_number}
use Rattle.model.specs.Promises.{Sound}
use Rattle.model.proofs.Fresh.{fresh_total_lem, fresh_total_total}
use Rattle.model.proofs.Written.{written_total}
use Rattle.model.proofs.Locality.{sized_written}
use Rattle.model.proofs.Totals.{total_most}
use Rattle.model.proofs.Refusals.{some_number, Tables, table_yes, Common, Inside, common_facts, own_facts, early_common, early_own, call_early, call_late}
use Rattle.model.proofs.Candidates.{candidate_filled}
use Rattle.signed.proofs.Totals.{change_is, change_range}
use Rattle.trial.specs.Trial.{Sized, Fits, BlockTrial}
use Rattle.trial.proofs.Blocks.{block_small}
use Rattle.trial.proofs.Sound.{around_of, own_of, trial_sound}
use Rattle.judge.specs.declared.Decision.{Decision}
use Rattle.judge.specs.Judged.{Verdict, verdict}
use Rattle.decide.specs.Decided.{Tried, Decided}
use Rattle.judge.specs.Judged.{Judged}

-- the table and the planes that the trial of a view is lent
view_table : (s : Settings) → Tables s → (right : Bool) → table_ok (table_of s right) ≡ true
view_table s f true = table_yes s.right f.right
view_table s f false = table_yes s.left f.left

view_sized_lem : (s : Settings) (p : Pictures) (d : Depths) (h : Held) → Common s p d h → (right : Bool) → Sized s.w s.h (around_of s p h right) (own_of s p d h right)
view_sized_lem s p d h f true = omega arith
view_sized_lem s p d h f false = omega arith

-- What a call that goes on to the trial of the depths c has shown: all that the trial asks.
pub record Passed (s : Settings) (p : Pictures) (d : Depths) (h : Held) (b : Block) (c : List ℕ) : Type 0 where
  pub common : Common s p d h
  pub block : Inside s b
  pub table : (right : Bool) → table_ok (table_of s right) ≡ true
  pub sized : (right : Bool) → Sized s.w s.h (around_of s p h right) (own_of s p d h right)
  pub fits : Fits s.w s.h b c

pub passed_by : (s : Settings) (p : Pictures) (d : Depths) (h : Held) (b : Block) (c : List ℕ) → Common s p d h → Inside s b → length c ≡ b.width * b.height → Passed s p d h b c
passed_by s p d h b c f g e =
    record { common = f; block = g; table = view_table s f.tables; sized = view_sized_lem s p d h f; fits = omega arith }

-- GET and SET, with no early refusal
pub passed : (s : Settings) (p : Pictures) (d : Depths) (h : Held) (v : ℕ) (b : Block) (c : Candidate) (x : List ℕ) → early_number s p d h v b c (length x) ≡ 0 → Passed s p d h b (filled b c x)
passed s p d h v b c x e =
    let g = own_facts s v b c (length x) (early_own s p d h v b c (length x) e) in
    passed_by s p d h b (filled b c x) (common_facts s p d h (early_common s p d h v b c (length x) e)) g.block (candidate_filled b c x g.candidate)

pub candidate_taken : (s : Settings) (p : Pictures) (d : Depths) (h : Held) (v : ℕ) (b : Block) (c : Candidate) (x : List ℕ) → early_number s p d h v b c (length x) ≡ 0 → candidate_then b c (length x) 0 ≡ 0
candidate_taken s p d h v b c x e = (own_facts s v b c (length x) (early_own s p d h v b c (length x) e)).candidate

module _ (s : Settings) (p : Pictures) (d : Depths) (h : Held) (v : ℕ) (b : Block) (c : List ℕ) where
  -- what the two sums of the trial of a view tell
  pub tried : {old new : ℕ} (right : Bool) → Passed s p d h b c → is_right v ≡ right → BlockTrial s.w (around_of s p h right) (own_of s p d h right) b c b.height old new → Tried s p d h v b c old new
  tried right f e t =
      let small = block_small s.w (around_of s p h right) (own_of s p d h right) b c t f.fits (f.sized right).depths (omega arith) in
      record {
        old_most = small.0;
        new_most = small.1;
        change = λ same. trial_sound s p d h v b c right f.common f.block f.fits.entries same e t;
      }

  -- the sums look at nothing of the held total
  pub tried_total : {old new : ℕ} (t : ℕ) → Tried (with_total s t) p d h v b c old new → Tried s p d h v b c old new
  tried_total {old} {new} t f =
      record {
        old_most = f.old_most;
        new_most = f.new_most;
        change = λ same.
            let e = f.change (same ∙ sym (fresh_total_lem s t p d)) in
            let q = fresh_total_total s t p (written s v b c d) in
            let u = fresh_total_total s t p d in
            rw (written_total s t v b c d, q, u) at e;
      }

  -- on a sound session the difference of the sums is the change, and stays in range
  module _ {old new : ℕ} (t : Tried s p d h v b c old new) (f : Passed s p d h b c) (sound : Sound s p d (read_held h)) where
    pub sum_change : sub_ℕ new old ≡ change_of s p d v b c
    unfolding change_of
    sum_change = change_is new old (fresh_total s p (written s v b c d)) (fresh_total s p d) (t.change sound.held)

    pub sum_range : in_range s (sub_ℕ new old) ≡ true
    sum_range =
        change_range s new old (fresh_total s p (written s v b c d)) (fresh_total s p d) sound.total (t.change sound.held)
        (total_most s p (written s v b c d) (sized_written s v b c d f.common.depths) f.common.share)

-- ---- GET

module _ (s : Settings) (p : Pictures) (d : Depths) (h : Held) (v : ℕ) (b : Block) (c : Candidate) (x : List ℕ) where
  -- refused before the trial
  early_refused : (e : Refusal) → number_of e ≡ early_number s p d h v b c (length x) → Decided s p d h v b c x (verdict s.total (Err e))
  early_refused e q =
      let late : early_number s p d h v b c (length x) ≡ 0 → ⊥ = λ z. some_number e (q ∙ z) in
      record {
        answer = record {
          found = pos 0;
          number = q ∙ sym (call_early s p d h v b c (length x) (pos 0) 0 late);
          refused = λ _. refl;
          change = λ z. absurd (some_number e z);
          decided = λ z. absurd (late z);
          change_in_range = λ z. absurd (late z);
        };
        moved = λ z. absurd (some_number e z);
        kept = λ _. refl;
      }

  pub decided_early : (e : Refusal) → number_of e ≡ early_number s p d h v b c (length x) → (r : Result Decision Refusal) → Err e ≡ r → Decided s p d h v b c x (verdict s.total r)
  decided_early e q r is = subst (λ (r : Result Decision Refusal). Decided s p d h v b c x (verdict s.total r)) is (early_refused e q)

module _ (s : Settings) (p : Pictures) (d : Depths) (h : Held) (v : ℕ) (b : Block) (c : Candidate) (x : List ℕ) (r : Verdict) where
  pub decided_late : {old new : ℕ} → early_number s p d h v b c (length x) ≡ 0 → Tried s p d h v b (filled b c x) old new → Judged s.total old new (worst * area s) 0 r → Decided s p d h v b c x r
  unfolding in_range
  decided_late {old} {new} e t j =
      let f = passed s p d h v b c x e in
      record {
        answer = record {
          found = sub_ℕ new old;
          number = j.number ∙ sym (call_late s p d h v b c (length x) (sub_ℕ new old) 0 e);
          refused = j.refused;
          change = j.change;
          decided = λ _ z. sum_change s p d h v b (filled b c x) t f z;
          change_in_range = λ _ z. sum_range s p d h v b (filled b c x) t f z;
        };
        moved = λ z. j.moved z ∙ ap (λ (z : ℤ). nat_abs (pos s.total +ℤ z)) (sym (j.change z));
        kept = j.kept;
      }
