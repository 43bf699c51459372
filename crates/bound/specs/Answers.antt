-- What `set_and_take_back` answers and leaves, all of it decided.
use Rattle.std.specs.Prelude.{ℕ, ◌≡◌, List, [], ◌∷◌, ℤ, pos, ◌-ℤ◌}
use Rattle.model.specs.declared.Settings.{Settings}
use Rattle.model.specs.declared.Block.{Block}
use Rattle.model.specs.declared.Candidate.{Candidate}
use Rattle.model.specs.Planes.{Pictures, Depths, Held}
use Rattle.model.specs.Fresh.{fresh, fresh_total}
use Rattle.model.specs.Refusals.{open_number}
use Rattle.run.specs.Run.{plain, plain_answer}
use Rattle.run.specs.Shared.{opened, shared_reply, shared_end}
use Rattle.run.specs.Shared.SharedCall.{set, take_back}
use Rattle.bound.specs.declared.Visit.{Visit}

-- what its three pointers hold: SET's change, TAKE BACK's and the total
pub record Told : Type 0 where
  pub change : ℤ
  pub back : ℤ
  pub total : ℕ

abbrev pub told : ℤ → ℤ → ℕ → Told
told change back total = record { change = change; back = back; total = total }

-- s, p, d₀, h₀, j₀ and t₀ are what the caller is passed, d, h, j and t what it leaves; c is the candidate for block b of view v, x its bytes. Where OPEN is refused,
-- nothing else is called and nothing is written. Where it is accepted, SET answers as the plain record of the run does; an accepted SET is taken back with its change
-- negated, and after a refused one there is nothing to take back, and neither change is written. Either way depths, held planes and total are in the end what OPEN left.
pub record Visited (s : Settings) (p : Pictures) (d₀ d : Depths) (h₀ h : Held) (j₀ j : List ℕ) (v : ℕ) (b : Block) (c : Candidate) (x : List ℕ) (t₀ t : Told) (r : Visit) : Type 0 where
  pub number : r.opened ≡ open_number s p d₀ h₀ j₀
  pub refused : (r.opened ≡ 0 → ⊥) → (r.written ≡ 0) × ((r.taken ≡ 0) × (t ≡ t₀))
  pub refused_planes : (r.opened ≡ 0 → ⊥) → (d ≡ d₀) × ((h ≡ h₀) × (j ≡ j₀))
  pub written : r.opened ≡ 0 → plain_answer r.written t.change ≡ shared_reply (opened (plain s p d₀) j₀) (set v b c x)
  pub undone : r.opened ≡ 0 → r.written ≡ 0 → (r.taken ≡ 0) × (t.back ≡ pos 0 -ℤ t.change)
  pub nothing : r.opened ≡ 0 → (r.written ≡ 0 → ⊥) → (r.taken ≡ 12) × ((t.change ≡ t₀.change) × (t.back ≡ t₀.back))
  pub restored : r.opened ≡ 0 → (d ≡ d₀) × ((h ≡ fresh s p d₀) × (t.total ≡ fresh_total s p d₀))
  pub journal : r.opened ≡ 0 → j ≡ (shared_end (opened (plain s p d₀) j₀) (set v b c x ∷ take_back ∷ [])).journal
