use Rattle.rowprint.proofs.Shown.{render_shows}
use Rattle.rowprint.proofs.draw.Goals as goal

pub returns : goal.returns
returns c =
    let a = c.args in
    render_shows a.w c.requires.0 c.requires.1 _ _ _ c.room-samples.ensures c.room-marks.ensures c.room-fronts.ensures
    c.settings.result a.texture.now a.depths.now _ _ c.requires.2 c.requires.3 c.settings.ensures c.render.ensures
