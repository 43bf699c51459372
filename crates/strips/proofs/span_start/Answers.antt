-- `strips::span_start` meets its contract: the loop finds the least of the old and the new places, from the right.
use Rattle.row.proofs.Columns.{place_is}
use Prim.Native.Nat.{ℕ, ◌+◌, ◌-◌, ◌<◌, min}
use mathlib.Core.Path.{◌≡◌, refl, sym, ap, ◌∙◌}
use native.Mathlib.Omega.{arith}
use lib.ListN.{length}
use Rattle.model.specs.Row.{place, least}
use Rattle.model.specs.Views.{seen}
use Rattle.planes.specs.Parts.{splice}
use Rattle.planes.proofs.Entries.{read_at}
use Rattle.places.specs.Positions.{first_at}
use Rattle.places.proofs.Lows.{least_none, least_back, least_all}
use Rattle.strips.proofs.Candidates.{tried_place, part_within, part_read}
use Rattle.strips.proofs.Positions.{start_is}
use Rattle.strips.proofs.span_start.Goals as goal

pub loop-n-init : goal.loop-n-init
loop-n-init c = least_none _ _ _ _

pub overflow_add-column : goal.overflow_add-column
overflow_add-column c =
    omega (
      arith,
      part_within c.args.right c.args.depths.now c.args.first (length c.args.candidate.now) (c.loop-n.n - 1) c.requires.candidate_in_bounds.0 (omega (arith, c.loop-n-test.true)) c.requires.candidate_nonzero.1 c.entry-k.ensures.0,
    )

pub bounds-depths-column : goal.bounds-depths-column
bounds-depths-column c =
    part_within c.args.right c.args.depths.now c.args.first (length c.args.candidate.now) (c.loop-n.n - 1) c.requires.candidate_in_bounds.0 (omega (arith, c.loop-n-test.true)) c.requires.candidate_nonzero.1 c.entry-k.ensures.0

pub loop-n-preserved : goal.loop-n-preserved
loop-n-preserved c =
    let f = place c.args.table.now (seen c.args.right c.args.depths.now) in
    let g = place c.args.table.now (splice (seen c.args.right c.args.depths.now) c.args.first (seen c.args.right c.args.candidate.now)) in
    let k : c.loop-n.n - 1 < length c.args.candidate.now = omega arith in
    let old : c.place_at-old.result ≡ f (c.args.first + (c.loop-n.n - 1)) =
    place_is c.args.table.now (seen c.args.right c.args.depths.now) (c.args.first + (c.loop-n.n - 1)) (part_read c.args.right c.args.depths.now c.args.first (length c.args.candidate.now) (c.loop-n.n - 1) c.requires.candidate_in_bounds.0 k c.requires.candidate_nonzero.1 c.entry-k.ensures.0) c.place_at-old.ensures in
    let new : c.place_at-new.result ≡ g (c.args.first + (c.loop-n.n - 1)) =
    c.place_at-new.ensures ∙ rw (read_at 0 c.args.right c.args.candidate.now refl k c.entry-k.ensures.0) (sym (tried_place c.args.right c.args.depths.now c.args.candidate.now c.args.first c.requires.candidate_in_bounds.0 c.args.table.now (c.loop-n.n - 1) k)) in
    c.min-low.ensures
    ∙ rw (c.min.ensures, old, new, c.loop-n.invariant)
    (sym (least_back (λ x. min (f x) (g x)) c.place_of-low.result c.args.first (length c.args.candidate.now) c.loop-n.n c.loop-n-test.true c.loop-n.auto.n))

pub returns : goal.returns
returns c =
    let f = place c.args.table.now (seen c.args.right c.args.depths.now) in
    let g = place c.args.table.now (splice (seen c.args.right c.args.depths.now) c.args.first (seen c.args.right c.args.candidate.now)) in
    let top : c.place_of-low.result ≡ f (c.args.first - 1) = c.place_of-low.ensures ∙ ap f c.saturating_sub.ensures in
    c.first_at.ensures
    ∙ ap (λ (x : ℕ). first_at x) c.saturating_sub-2.ensures
    ∙ ap (λ (x : ℕ). first_at (x - 1)) (c.loop-n.invariant ∙ least_all (λ x. min (f x) (g x)) c.place_of-low.result c.args.first (length c.args.candidate.now) c.loop-n.n c.loop-n-test.false
    ∙ ap (λ (x : ℕ). least (λ y. min (f y) (g y)) x c.args.first (length c.args.candidate.now)) top)
    ∙ start_is f g c.args.first (length c.args.candidate.now) c.requires.candidate_nonzero.0
