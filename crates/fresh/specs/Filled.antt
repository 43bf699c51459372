-- What filling all held planes leaves: both views drawn and combined, with the total.
use Rattle.std.specs.Prelude.{ℕ, false, true, List}
use Rattle.model.specs.declared.Tear.{Tear}
use Rattle.model.specs.Planes.{Pictures, Depths, Held}
use Rattle.draw.specs.Drawn.{ViewDrawn}
use Rattle.draw.specs.Combination.{held_rows, PictureCombined}

pub record Filled (leftTable rightTable : List ℕ) (share tolerance : ℕ) (tear : Tear) (w h : ℕ) (p : Pictures) (d : Depths) (g : Held) (total : ℕ) : Type 0 where
  pub left : ViewDrawn tear false leftTable w h p.left d.left g.left
  pub right : ViewDrawn tear true rightTable w h p.right d.right g.right
  pub picture : PictureCombined share tolerance w h (held_rows w g.left.samples g.left.fronts g.left.marks) (held_rows w g.right.samples g.right.fronts g.right.marks) p.reference g.combined total
