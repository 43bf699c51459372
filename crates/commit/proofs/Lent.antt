-- What a redrawn row's own record says of the planes.
use Prim.Native.Nat.{ℕ, ◌+◌, ◌*◌, ◌≤◌}
use mathlib.Core.Path.{◌≡◌}
use mathlib.Core.Bool.{Bool}
use mathlib.Core.List.{List}
use lib.ListN.{length}
use Rattle.model.specs.declared.Tear.{Tear}
use Rattle.model.specs.Lists.{row_of}
use Rattle.model.specs.Row.{line}
use Rattle.model.specs.Marks.{mark_bytes}
use Rattle.model.specs.Views.{seen}
use Rattle.pixel.specs.declared.Edge.{Edge}
use Rattle.commit.specs.Commit.{Redrawn, RowRedrawn}
use Rattle.edits.proofs.Lent.{put_row, row_put, other_put}

-- a row of marks m, lent and put back as mr; the rows of texture and depths were lent too
pub redrawn_row : (tear : Tear) (r : Bool) (w y n low : ℕ) (edge : Edge) (from to : ℕ) (t texture d s f m s' f' mr : List ℕ) {tr dr m₀ : List ℕ} {width : ℕ} → tr ≡ row_of texture w y → dr ≡ row_of d w y → m₀ ≡ row_of m (mark_bytes w) y → width ≡ w → y * mark_bytes w + mark_bytes w ≤ length m → length mr ≡ mark_bytes w → Redrawn r (line tear t (seen r tr) (seen r dr)) width y n low edge from to s f m₀ s' f' mr → RowRedrawn r (line tear t (seen r (row_of texture w y)) (seen r (row_of d w y))) w y n low edge from to s f m s' f' (put_row m (mark_bytes w) y mr)
redrawn_row tear r w y n low edge from to t texture d s f m s' f' mr et ed em ew fits wide h =
    record {
      drawn = rw (row_put 0 m mr (mark_bytes w) y fits wide) (rw (et, ed, em, ew) at h);
      others = other_put 0 m mr (mark_bytes w) y fits wide;
    }
