-- `words::row_holes` meets its contract: the holes of the words passed are counted, then those of the tail.
use Prim.Native.Nat.{◌+◌, ◌*◌, ◌/◌, ◌%◌}
use mathlib.Core.Path.{◌≡◌, sym}
use native.Mathlib.Omega.{arith}
use lib.Count.{ones}
use Rattle.model.specs.Marks.{row_holes}
use Rattle.words.proofs.Counts.{holes_most}
use Rattle.words.proofs.Words.{Bytes, joined_holes, word_holes}
use Rattle.words.proofs.row_holes.Goals as goal
use Rattle.words.proofs.row_holes.Goals.{After-low_bits, After-word_at}

-- the word's ones are the holes of its 64 positions
counted : (c : After-word_at) → c.loop-k.n + ones c.word_at.result ≡ row_holes c.args.row.now (8 * (8 * (c.loop-k.k + 1)))
counted c =
    let bytes : Bytes c.args.row.now = λ i. (c.type_inv.row i).fits in
    let e : 8 * (8 * (c.loop-k.k + 1)) ≡ 8 * (8 * c.loop-k.k) + 64 = omega arith in
    rw (e, word_holes c.args.row.now bytes (8 * c.loop-k.k), c.word_at.ensures, c.loop-k.invariant)

pub overflow_add-n : goal.overflow_add-n
overflow_add-n c =
    omega (arith, counted (goal.at.overflow_add-n c).After-word_at, holes_most c.args.row.now (8 * (8 * (c.loop-k.k + 1))))

pub loop-k-preserved : goal.loop-k-preserved
loop-k-preserved c = counted (goal.at.loop-k-preserved c).After-word_at

-- the tail's ones below w are the holes of its positions
whole : (c : After-low_bits) → c.loop-k.n + ones c.low_bits.result ≡ row_holes c.args.row.now c.args.w
whole c =
    let words = c.args.w / 64 in
    let bits = c.args.w % 64 in
    let bytes : Bytes c.args.row.now = λ i. (c.type_inv.row i).fits in
    let k : c.loop-k.k ≡ words = omega arith in
    let e : 8 * (8 * words) + bits ≡ c.args.w = omega arith in
    let t = rw e at (joined_holes c.args.row.now bytes (8 * words) c.div_ceil.result bits (omega arith)) in
    rw (c.low_bits.ensures, c.tail_at-tail.ensures, c.loop-k.invariant, k) (sym t)

pub overflow_add-result : goal.overflow_add-result
overflow_add-result c =
    omega (arith, whole (goal.at.overflow_add-result c).After-low_bits, holes_most c.args.row.now c.args.w)

pub returns : goal.returns
returns c = whole (goal.at.returns c).After-low_bits
