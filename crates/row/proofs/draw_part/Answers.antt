use Prim.Native.Nat.{◌+◌}
use mathlib.Core.Path.{◌≡◌, ap}
use native.Mathlib.Omega.{arith}
use Rattle.model.proofs.Views.{length_seen}
use Rattle.pixel.specs.declared.Edge.{Edge}
use Rattle.planes.proofs.Splices.{splice_none}
use Rattle.row.proofs.Wholes.{ready_seen}
use Rattle.row.proofs.draw_part.Goals as goal

pub draw_span-requires : goal.draw_span-requires
draw_span-requires c =
    let empty = splice_none c.args.depths.now 0 in
    let limit = ap (λ (e : Edge). e.limit) c.pair_at-from.ensures.1.0 in record {
      ready = rw empty (ready_seen c.args.tear c.args.right c.args.table.now c.args.texture.now c.args.depths.now c.requires.ready, omega arith);
      ahead = rw empty (
          record {
            among = rw (length_seen c.args.right c.args.depths.now) c.pair_at-from.ensures.1.1.0;
            stands = c.pair_at-from.ensures.1.1.1;
            under = rw (limit, c.pair_at-from.ensures.1.1.1.next, c.pair_at-from.ensures.0) c.requires.columns_nonzero.1.1.0.under;
            before = rw limit c.requires.columns_nonzero.1.1.1;
          });
      fronts_len = c.requires.fronts_len;
    }

pub returns : goal.returns
returns c =
    let empty = splice_none c.args.depths.now 0 in
    let column : c.pair_at-from.result.column + 1 ≡ c.args.columns = omega (arith, c.pair_at-from.ensures.0, c.requires.columns_nonzero.0) in
    rw (empty, column, c.pair_at-from.ensures.1.0) at c.draw_span.ensures.painted
