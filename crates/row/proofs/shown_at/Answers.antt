use mathlib.Core.Path.{sym, ◌∙◌}
use Rattle.planes.specs.Parts.{splice}
use Rattle.planes.proofs.Entries.{read_at}
use Rattle.planes.proofs.Splices.{length-splice}
use Rattle.row.specs.Drawing.{shown_of}
use Rattle.row.proofs.Columns.{edge_within}
use Rattle.row.proofs.shown_at.Goals as goal

pub entry-e-requires : goal.entry-e-requires
entry-e-requires c =
    edge_within c.args.q c.args.x c.requires.among c.requires.here_le_x.1.1.1 (sym c.at_edge.ensures ∙ c.if-at_edge.true)

pub edge_pixel-requires : goal.edge_pixel-requires
edge_pixel-requires c =
    let near = sym c.at_edge.ensures ∙ c.if-at_edge.true in
    rw c.requires.texture_len.0 (edge_within c.args.q c.args.x c.requires.among c.requires.here_le_x.1.1.1 near, c.entry-e.ensures.0)

pub returns-then-at_edge : goal.returns-then-at_edge
unfolding shown_of
returns-then-at_edge c =
    let near = sym c.at_edge.ensures ∙ c.if-at_edge.true in
    let within = edge_within c.args.q c.args.x c.requires.among c.requires.here_le_x.1.1.1 near in
    let wide = length-splice c.args.depths.now c.args.column c.args.candidate.now c.requires.texture_len.1 in
    let depth = c.tried_at-depth.ensures ∙ read_at 0 c.args.right (splice c.args.depths.now c.args.column c.args.candidate.now) wide within c.entry-e.ensures.0 in
    rw (near, ← depth) c.edge_pixel.ensures

pub returns-else-at_edge : goal.returns-else-at_edge
unfolding shown_of
returns-else-at_edge c = rw (sym c.at_edge.ensures ∙ c.if-at_edge.false) c.pixel_of-own.ensures
