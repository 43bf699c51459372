-- What a candidate would change in a block of rows (document 01, "The span of an edit" and GET).
use Rattle.std.specs.Prelude.{ℕ, ◌+◌, ◌*◌, ◌<◌, ◌≤◌, ◌≡◌, List, length}
use Rattle.model.specs.declared.Block.{Block}
use Rattle.model.specs.Lists.{row_of, sum_to}
use Rattle.model.specs.Marks.{mark_bytes}
use Rattle.model.specs.Combined.{worst}
use Rattle.model.specs.Span.{first_column}
use Rattle.strips.specs.Strips.{Own, Around, own, around, standing, tried, row_total, RowHeld, covered}

-- row y of the planes
abbrev pub own_row : ℕ → Own → ℕ → Own
own_row w v y = own v.tear v.table (row_of v.texture w y) (row_of v.depths w y) (row_of v.limits w y)

abbrev pub around_row : ℕ → Around → ℕ → Around
around_row w o y =
    around o.right o.share o.tolerance (row_of o.samples w y) (row_of o.fronts w y) (row_of o.marks (mark_bytes w) y)
    (row_of o.combined w y) (row_of o.reference w y)

-- Row y lies within the planes, which are w wide.
pub record OwnRowIn (w y : ℕ) (v : Own) : Type 0 where
  pub texture : y * w + w ≤ length v.texture
  pub depths : y * w + w ≤ length v.depths
  pub limits : y * w + w ≤ length v.limits

pub record AroundRowIn (w y : ℕ) (o : Around) : Type 0 where
  pub samples : y * w + w ≤ length o.samples
  pub fronts : y * w + w ≤ length o.fronts
  pub marks : y * mark_bytes w + mark_bytes w ≤ length o.marks
  pub combined : y * w + w ≤ length o.combined
  pub reference : y * w + w ≤ length o.reference

-- Planes that are w wide and h high.
pub record Sized (w h : ℕ) (o : Around) (v : Own) : Type 0 where
  pub texture : length v.texture ≡ w * h
  pub depths : length v.depths ≡ w * h
  pub limits : length v.limits ≡ w * h
  pub samples : length o.samples ≡ w * h
  pub fronts : length o.fronts ≡ w * h
  pub marks : length o.marks ≡ mark_bytes w * h
  pub combined : length o.combined ≡ w * h
  pub reference : length o.reference ≡ w * h

-- A block that lies within them, and a candidate for it.
pub record Fits (w h : ℕ) (b : Block) (c : List ℕ) : Type 0 where
  pub wide : w ≤ 4096
  pub high : h ≤ 4096
  pub some : 1 ≤ b.width
  pub right : b.column + b.width ≤ w
  pub bottom : b.row + b.height ≤ h
  pub entries : length c ≡ b.width * b.height

-- A block of a view's planes that are w wide, and the candidate for it.
module _ (w : ℕ) (o : Around) (v : Own) (b : Block) (c : List ℕ) where
  -- its first column, as the view reads a row
  abbrev pub first_of : ℕ
  first_of = first_column o.right w b.column b.width

  -- of its row i: the total as the depths are, the total with the candidate, and how many positions the trial covers
  abbrev pub total_before : ℕ → ℕ
  total_before i = row_total (around_row w o (b.row + i)) (standing o.right (own_row w v (b.row + i)))

  abbrev pub total_after : ℕ → ℕ
  total_after i = row_total (around_row w o (b.row + i)) (tried o.right (own_row w v (b.row + i)) (row_of c b.width i) first_of)

  abbrev pub covered_in : ℕ → ℕ
  covered_in i = covered o.right (own_row w v (b.row + i)) (row_of c b.width i) first_of

  -- The block's rows hold the truth.
  abbrev pub BlockHeld : Type 0
  BlockHeld = (i : ℕ) → i < b.height → RowHeld (around_row w o (b.row + i)) (own_row w v (b.row + i)) (first_of + b.width)

-- What the trial of the block's first n rows answers.
pub record BlockTrial (w : ℕ) (o : Around) (v : Own) (b : Block) (c : List ℕ) (n old new : ℕ) : Type 0 where
  pub old_most : old ≤ worst * sum_to (covered_in w o v b c) n
  pub new_most : new ≤ worst * sum_to (covered_in w o v b c) n
  pub change : BlockHeld w o v b c → sum_to (total_after w o v b c) n + old ≡ sum_to (total_before w o v b c) n + new
