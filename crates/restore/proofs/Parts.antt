-- Some rows of a block, narrowed in a room and lent from it.
--     narrow_requires           what narrowing the next rows asks for
--     block_saved               the sums of the rows so far, and of these
--     saved_passed              what putting saved depths back has shown
use Prim.Native.Nat.{ℕ, ◌+◌, ◌-◌, ◌*◌, ◌<◌, ◌≤◌}
use mathlib.Core.Path.{◌≡◌}
use mathlib.Core.Bool.{true}
use mathlib.Core.List.{List}
use native.Mathlib.Omega.{arith}
use lib.ListN.{length}
use Rattle.model.specs.declared.Settings.{Settings}
use Rattle.model.specs.declared.Block.{Block}
use Rattle.model.specs.Planes.{Pictures, Depths, Held}
use Rattle.model.specs.Refusals.{up_to}
use Rattle.model.proofs.Refusals.{block_facts, common_facts}
use Rattle.records.specs.Rows.{part_of}
use Rattle.restore.specs.Saved.{SavedIn}
use Rattle.planes.specs.Parts.{block_of}
use Rattle.strips.specs.Strips.{Around, Own}
use Rattle.trial.specs.Trial.{BlockTrial, Fits}
use Rattle.trial.proofs.Blocks.{below, block_join}
use Rattle.decide.proofs.Ways.{Passed, passed_by}
use Rattle.records.proofs.Narrowing.{part_rows}

-- what narrowing the next rows asks for, of a block that lies in the picture
pub narrow_requires : {w h column row width height done : ℕ} {words : List ℕ} → Fits w h (block_of column row width height) words → up_to 255 words ≡ true → (room : List ℕ) → length room ≡ 4096 → done < height → ((0 < width) × ((0 < height - done) × ((done + (height - done) ≤ 4096) × (length words ≡ width * (done + (height - done)))))) × ((up_to 255 words ≡ true) × ((width ≤ 4096) × (length room ≡ 4096)))
narrow_requires {width = width} {height} {done} f depths room e less =
    let all : done + (height - done) ≡ height = omega arith in
    ((f.some, (omega arith, (omega (arith, f.bottom, f.high), rw all f.entries))), (depths, (omega (arith, f.right, f.wide), e)))

-- the sums of the rows so far, and of these
pub block_saved : {w : ℕ} {o : Around} {v : Own} (b : Block) (words x : List ℕ) (i n : ℕ) → length words ≡ b.width * b.height → i + n ≤ b.height → x ≡ part_of words b.width i n → {old new p q : ℕ} → BlockTrial w o v b words i old new → BlockTrial w o v (below b i n) x n p q → BlockTrial w o v b words (i + n) (old + p) (new + q)
block_saved {w} {o} {v} b words x i n size more same r t =
    block_join w o v b words x i n more (λ k h. rw same (part_rows words b.width i n b.height size more k h)) r t

-- what putting saved depths back has shown
pub saved_passed : (s : Settings) (p : Pictures) (d : Depths) (h : Held) (b : Block) (words : List ℕ) → SavedIn s p d h b words → Passed s p d h b words
saved_passed s p d h b words f = passed_by s p d h b words (common_facts s p d h f.common) (block_facts s b f.block) f.size
