use Rattle.std.proofs.Common.{◌≡◌, ℕ, ◌+◌, ◌-◌, ◌≤◌, List, ◌++◌, rules, length, take, sym, ◌∙◌, subst, drop_at, length-take-le}
use Rattle.std.proofs.lemmas.List.{take_at}
use lib.Seq.{take-add, take-append-le}
use Rattle.std.specs.Io.KnownBytes.{Consumes}
use Rattle.std.proofs.KnownBytes.{Consumes-trans}
use borrow.Rule.Slice.PartMut.{put_mid, post_of}
use Rattle.rowprint.proofs.read_full.Goals as goal

-- the first a entries stand, and n of what was written after them follow
read_on : (a k n : ℕ) (xs ys : List ℕ) → a ≤ length xs → n ≤ length ys → take a xs ++ take n ys ≡ take (a + n) (put_mid a k xs ys)
read_on a k n xs ys h g =
    let size = length-take-le a xs h in
    let after = ys ++ post_of a k xs in
    sym (take-add a n (take a xs ++ after) ∙ rw (take_at (take a xs) after a size, drop_at (take a xs) after a size, take-append-le n ys (post_of a k xs) g))

pub loop-done-preserved : goal.loop-done-preserved
loop-done-preserved g c =
    let done = c.loop-done.done in
    let old = c.loop-done.buffer in
    let bound = c.in_ok-n.ensures.bound.0 in
    let joined = read_on done (length old - done) c.in_ok-n.n old c.read.new.buf c.loop-done.invariant.0 bound in
    (search rules, subst (Consumes _ _) joined (Consumes-trans _ _ _ _ _ c.loop-done.invariant.1 c.in_ok-n.ensures.bytes.0))
