-- Document 02, card 10: edits whose blocks share no position of the same view.
use Rattle.std.specs.Prelude.{ℕ, ◌+◌, ◌≡◌, Bool, true, not, cond, ◌&&◌, ◌||◌, ◌⊎◌, List, [], ◌∷◌, leb}
use Rattle.model.specs.declared.Block.{Block}
use Rattle.model.specs.Views.{is_right}
use Rattle.model.specs.Blocks.{in_rows, in_columns}
use Rattle.run.specs.Shared.{Standing}

-- An edit: its view, its block, and the depths that it writes there. The plain record of a run with one journal keeps this of each SET that stands.
abbrev pub Edit : Type 0
Edit = Standing

abbrev pub edit : ℕ → Block → List ℕ → Edit
edit v b c = record { view = v; block = b; depths = c }

-- position x of row y lies in the block
abbrev pub inside : Block → ℕ → ℕ → Bool
inside b y x = in_rows b y && in_columns b x

-- no position lies in both blocks
abbrev pub Disjoint : Block → Block → Type 0
Disjoint a b = (y x : ℕ) → inside a y x ≡ true → inside b y x ≡ true → ⊥

-- Two edits are separate where their views differ, or no position lies in both blocks.
unfoldable pub Separate : Edit → Edit → Type 0
Separate k l = (is_right k.view ≡ is_right l.view → ⊥) ⊎ Disjoint k.block l.block

-- an edit and each of some others
unfoldable pub SeparateFrom : Edit → List Edit → Type 0
SeparateFrom k [] = Unit
SeparateFrom k (l ∷ ls) = Separate k l × SeparateFrom k ls

-- any two of some edits
unfoldable pub AllSeparate : List Edit → Type 0
AllSeparate [] = Unit
AllSeparate (k ∷ ks) = SeparateFrom k ks × AllSeparate ks

-- ---- The usual test of two rectangles: one ends before the other begins, by columns or by rows. Laws: proofs/Separate, separate_test and test_separate.
unfoldable pub apart : Block → Block → Bool
apart a b =
    (leb (a.column + a.width) b.column || leb (b.column + b.width) a.column)
    || (leb (a.row + a.height) b.row || leb (b.row + b.height) a.row)

-- one is the right view and the other is not
abbrev pub other_view : ℕ → ℕ → Bool
other_view v u = cond (is_right v) (not (is_right u)) (is_right u)

unfoldable pub separate : Edit → Edit → Bool
separate k l = other_view k.view l.view || apart k.block l.block
