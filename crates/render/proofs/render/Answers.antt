-- `render::render` keeps RENDER's promise, refused and drawn.
use mathlib.Core.Bool.{true, false}
use borrow.Author.Tests.{eq-eqb, ne_eqb}
use Rattle.std.proofs.Common.{rules}
use Rattle.model.specs.Planes.{strip}
use Rattle.render.proofs.Strips.{AcceptedAt, accepted_at, refused, ready_strip, fit, drawn}
use Rattle.render.proofs.render.Goals as goal
use Rattle.render.proofs.render.Goals.{In_ok-strip_refusal}

passed : (c : In_ok-strip_refusal) → let a = c.args in AcceptedAt a.settings a.view a.texture.now a.depths.now (strip a.samples.now a.marks.now a.fronts.now)
passed c =
    let a = c.args in
    accepted_at a.settings a.view a.texture.now a.depths.now (strip a.samples.now a.marks.now a.fronts.now) c.in_ok-strip_refusal.ensures

pub returns-in_err-strip_refusal : goal.returns-in_err-strip_refusal
returns-in_err-strip_refusal c =
    let a = c.args in
    let x = strip a.samples.now a.marks.now a.fronts.now in
    search (rules, refused a.settings a.view a.texture.now a.depths.now x c.in_err-strip_refusal.field-0.0 c.in_err-strip_refusal.ensures)

pub draw_strip-requires : goal.draw_strip-requires
draw_strip-requires c =
    let a = c.args in
    let x = strip a.samples.now a.marks.now a.fronts.now in
    let ok = passed (goal.at.draw_strip-requires c).In_ok-strip_refusal in
    record {
      ready = ready_strip a.settings a.view a.texture.now a.depths.now x ok _ ok.right_table;
      samples_len = fit a.settings a.view a.texture.now a.depths.now x ok;
    }

pub draw_strip-requires-else-view-eq1 : goal.draw_strip-requires-else-view-eq1
draw_strip-requires-else-view-eq1 c =
    let a = c.args in
    let x = strip a.samples.now a.marks.now a.fronts.now in
    let ok = passed (goal.at.draw_strip-requires-else-view-eq1 c).In_ok-strip_refusal in
    record {
      ready = ready_strip a.settings a.view a.texture.now a.depths.now x ok _ ok.left_table;
      samples_len = fit a.settings a.view a.texture.now a.depths.now x ok;
    }

pub returns-then-view-eq1 : goal.returns-then-view-eq1
returns-then-view-eq1 c =
    let a = c.args in
    let x = strip a.samples.now a.marks.now a.fronts.now in
    let ok = passed (goal.at.returns-then-view-eq1 c).In_ok-strip_refusal in
    drawn a.settings a.view a.texture.now a.depths.now x ok true _ tt c.in_ok-strip_refusal.ensures (eq-eqb a.view 1 c.if-view-eq1.true) c.draw_strip.ensures

pub returns-else-view-eq1 : goal.returns-else-view-eq1
returns-else-view-eq1 c =
    let a = c.args in
    let x = strip a.samples.now a.marks.now a.fronts.now in
    let ok = passed (goal.at.returns-else-view-eq1 c).In_ok-strip_refusal in
    drawn a.settings a.view a.texture.now a.depths.now x ok false _ tt c.in_ok-strip_refusal.ensures (ne_eqb a.view 1 c.if-view-eq1.false) c.draw_strip-else-view-eq1.ensures
