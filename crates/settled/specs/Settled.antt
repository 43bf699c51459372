-- What settling depths for a block leaves: they are tried, judged, and written where they are accepted. SET settles a candidate, TAKE BACK what a record saved.
use Rattle.std.specs.Prelude.{ℕ, ◌*◌, ◌≡◌, Bool, List}
use Rattle.model.specs.declared.Tear.{Tear}
use Rattle.model.specs.declared.Settings.{Settings}
use Rattle.model.specs.declared.Block.{Block}
use Rattle.model.specs.Combined.{worst}
use Rattle.model.specs.Planes.{Pictures, Depths, View, Held, area, read_held}
use Rattle.model.specs.Fresh.{fresh}
use Rattle.model.specs.Blocks.{written}
use Rattle.model.specs.Journals.{saved}
use Rattle.model.specs.Promises.{Updated}
use Rattle.strips.specs.Strips.{around, own}
use Rattle.trial.specs.Trial.{BlockTrial}
use Rattle.combine.specs.Combine.{BlockSet}
use Rattle.decide.specs.Decided.{Tried}
use Rattle.judge.specs.Judged.{Verdict, Judged}

-- In the planes of one view: the two sums are a trial's, 8 is judged by them, then the rest of the call's list, and the block is set or nothing is changed. The
-- other view's planes are s₂, f₂ and m₂.
pub record OwnSettled (tear : Tear) (right : Bool) (t : List ℕ) (share tolerance total w h : ℕ) (b : Block) (rest : ℕ) (texture candidate s₂ f₂ m₂ reference d d' : List ℕ) (v v' : View) (c c' : List ℕ) (r : Verdict) : Type 0 where
  pub old : ℕ
  pub new : ℕ
  pub tried : BlockTrial w (around right share tolerance s₂ f₂ m₂ c reference) (own tear t texture d v.limits) b candidate b.height old new
  pub judged : Judged total old new (worst * (w * h)) rest r
  pub kept_depths : (r.number ≡ 0 → ⊥) → d' ≡ d
  pub kept_view : (r.number ≡ 0 → ⊥) → v' ≡ v
  pub kept_combined : (r.number ≡ 0 → ⊥) → c' ≡ c
  pub set : r.number ≡ 0 → BlockSet tear right t share tolerance w h b texture candidate s₂ f₂ m₂ d d' v v' c c'

-- The depths are written in the block, whatever the planes hold; where the planes held the fresh drawing, they hold that of the written depths, as
-- they stand and as they are read.
pub record Wrote (s : Settings) (p : Pictures) (d₀ d : Depths) (h₀ h : Held) (v : ℕ) (b : Block) (c : List ℕ) : Type 0 where
  pub depths : d ≡ written s v b c d₀
  pub updated : Updated s v b h₀ h
  pub held : h₀ ≡ fresh s p d₀ → h ≡ fresh s p (written s v b c d₀)
  pub read : read_held h₀ ≡ fresh s p d₀ → read_held h ≡ fresh s p (written s v b c d₀)

-- The same in the words of the model: the depths c are written, or nothing is changed.
pub record Settled (s : Settings) (p : Pictures) (d₀ d : Depths) (h₀ h : Held) (v : ℕ) (b : Block) (c : List ℕ) (rest : ℕ) (r : Verdict) : Type 0 where
  pub old : ℕ
  pub new : ℕ
  pub tried : Tried s p d₀ h₀ v b c old new
  pub judged : Judged s.total old new (worst * area s) rest r
  pub kept_depths : (r.number ≡ 0 → ⊥) → d ≡ d₀
  pub kept_held : (r.number ≡ 0 → ⊥) → h ≡ h₀
  pub wrote : r.number ≡ 0 → Wrote s p d₀ d h₀ h v b c

-- The journal then: view, block and what stood there are saved, or nothing is changed.
pub record JournalSaved (v : ℕ) (b : Block) (old j₀ j : List ℕ) (r : Verdict) : Type 0 where
  pub kept : (r.number ≡ 0 → ⊥) → j ≡ j₀
  pub recorded : r.number ≡ 0 → j ≡ saved j₀ v b old
