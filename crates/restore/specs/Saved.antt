-- Depths that a record saved, one a word, and their rows.
use Rattle.std.specs.Prelude.{ℕ, ◌*◌, ◌≡◌, true, List, length}
use Rattle.model.specs.declared.Settings.{Settings}
use Rattle.model.specs.declared.Block.{Block}
use Rattle.model.specs.Planes.{Pictures, Depths, Held}
use Rattle.model.specs.Refusals.{up_to, block_ok, common_then}

-- What TAKE BACK has tested when it puts them back: 1 to 4 do not apply, the block lies in the picture, and there is a depth for each of its positions.
pub record SavedIn (s : Settings) (p : Pictures) (d : Depths) (h : Held) (b : Block) (words : List ℕ) : Type 0 where
  pub common : common_then s p d h 0 ≡ 0
  pub block : block_ok s b ≡ true
  pub size : length words ≡ b.width * b.height
  pub depths : up_to 255 words ≡ true
