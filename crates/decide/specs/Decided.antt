-- Document 01, GET and SET of "Calls and what they turn down": what both decide, and what the trial of the candidate finds for it.
use Rattle.std.specs.Prelude.{ℕ, ◌+◌, ◌*◌, ◌≤◌, ◌≡◌, List, ℤ, pos, ◌+ℤ◌, nat_abs}
use Rattle.model.specs.declared.Tear.{Tear}
use Rattle.model.specs.declared.Settings.{Settings}
use Rattle.model.specs.declared.Block.{Block}
use Rattle.model.specs.declared.Candidate.{Candidate}
use Rattle.model.specs.Combined.{worst}
use Rattle.model.specs.Planes as planes
use Rattle.model.specs.Planes.{Pictures, Depths, Held, held, read_held}
use Rattle.model.specs.Fresh.{fresh, fresh_total}
use Rattle.model.specs.Blocks.{written}
use Rattle.model.specs.Replies.{TrialReply}
use Rattle.model.specs.Promises.{GetPost}
use Rattle.judge.specs.Judged.{Verdict}

-- settings, and held planes, from what a call is lent
abbrev pub settings_of : ℕ → ℕ → List ℕ → List ℕ → ℕ → ℕ → Tear → ℕ → Settings
settings_of w h left right share tolerance tear total =
    record { w = w; h = h; left = left; right = right; share = share; tolerance = tolerance; tear = tear; total = total }

abbrev pub held_of : List ℕ → List ℕ → List ℤ → List ℕ → List ℕ → List ℕ → List ℤ → List ℕ → List ℕ → Held
held_of ls lf ll lm rs rf rl rm combined = held (planes.view ls lf ll lm) (planes.view rs rf rl rm) combined

-- The two sums of a trial with the depths c. Where the planes, as they are read, hold the fresh drawing, they differ by the change of the total.
pub record Tried (s : Settings) (p : Pictures) (d : Depths) (h : Held) (v : ℕ) (b : Block) (c : List ℕ) (old new : ℕ) : Type 0 where
  pub old_most : old ≤ worst * 16777216
  pub new_most : new ≤ worst * 16777216
  pub change : read_held h ≡ fresh s p d → fresh_total s p (written s v b c d) + old ≡ fresh_total s p d + new

-- what GET answers of a decision
abbrev pub answer_of : Verdict → TrialReply
answer_of r = record { number = r.number; change = r.change }

-- The decision is what GET promises to answer, with the total as it is once the candidate is written, or as it was where the call is refused.
pub record Decided (s : Settings) (p : Pictures) (d : Depths) (h : Held) (v : ℕ) (b : Block) (c : Candidate) (x : List ℕ) (r : Verdict) : Type 0 where
  pub answer : GetPost s p d h v b c x (answer_of r)
  pub moved : r.number ≡ 0 → r.total ≡ nat_abs (pos s.total +ℤ r.change)
  pub kept : (r.number ≡ 0 → ⊥) → r.total ≡ s.total
