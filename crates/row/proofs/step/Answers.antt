use Prim.Native.Nat.{◌-◌, ◌<◌}
use mathlib.Core.Path.{refl, ◌∙◌}
use native.Mathlib.Omega.{arith}
use lib.ListN.{length}
use Rattle.model.proofs.Views.{length_seen}
use Rattle.planes.specs.Parts.{splice}
use Rattle.planes.proofs.Entries.{read_at}
use Rattle.planes.proofs.Splices.{length-splice}
use Rattle.row.proofs.Columns.{stands_left, past_within}
use Rattle.row.proofs.step.Goals as goal

pub returns : goal.returns
returns c =
    let d = splice c.args.depths.now c.args.column c.args.candidate.now in
    let wide = length-splice c.args.depths.now c.args.column c.args.candidate.now c.requires.table_value.1 in
    let column : c.args.q.column - 1 < length c.args.depths.now = omega (arith, c.requires.among.0.column) in (
      refl,
      (
        refl,
        (
          rw (c.min.ensures, c.front_past.ensures),
          (
            record { column = column; most = c.requires.among.0.most; entry = c.left_of-e.ensures.0; front = rw (c.min.ensures, c.front_past.ensures) (past_within c.args.q c.requires.among.0) },
            stands_left _ c.requires.stands c.requires.among.1 (omega (arith, length_seen c.args.right d, wide, c.requires.among.0.column)) refl
                (c.tried_at-d0.ensures ∙ read_at 0 c.args.right d wide column c.left_of-e.ensures.0)
                refl c.place_at.ensures refl,
          ),
        ),
      ),
    )
