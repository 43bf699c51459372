-- What a call leaves in a plane that it was lent a part of.
use Rattle.std.specs.Prelude.{ℕ, ◌≤◌, ◌<◌, ◌≡◌, List, ◌++◌, length, get_or, take, drop}
use Rattle.model.specs.declared.Pixel.{Pixel}
use Rattle.model.specs.declared.Block.{Block}
use Rattle.model.specs.Row.{greatest}

-- the entries xs in the place of as many of the list's own, from entry `at` on
unfoldable pub splice : {A : Type 0} → List A → ℕ → List A → List A
splice p at xs = take at p ++ (xs ++ drop (length xs) (drop at p))

-- From `start` up to `stop` the list has the values of the rule f, and elsewhere what it had; z stands for what lies past its end.
pub record Filled {A : Type 0} (z : A) (f : ℕ → A) (start stop : ℕ) (before after : List A) : Type 0 where
  pub inside : (p : ℕ) → start ≤ p → p < stop → get_or after p z ≡ f p
  pub under : (p : ℕ) → p < start → get_or after p z ≡ get_or before p z
  pub beyond : (p : ℕ) → stop ≤ p → get_or after p z ≡ get_or before p z

-- The three planes of a row (samples, front depths, marks) show the pixels of the rule g from `start` up to `stop`.
pub record Painted (g : ℕ → Pixel) (start stop : ℕ) (s f m s' f' m' : List ℕ) : Type 0 where
  pub samples : Filled 0 (λ p. (g p).sample) start stop s s'
  pub fronts : Filled 0 (λ p. (g p).front) start stop f f'
  pub marks : Filled 0 (λ p. (g p).mark) start stop m m'

-- no entry is above the greatest sample
abbrev pub Low : List ℕ → Type 0
Low l = (i : ℕ) → get_or l i 0 ≤ greatest

-- a block by its four numbers
abbrev pub block_of : ℕ → ℕ → ℕ → ℕ → Block
block_of column row width height = record { column = column; row = row; width = width; height = height }
