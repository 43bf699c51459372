-- `lists::open_refusal` meets its contract: 13, then 21 come last.
use Prim.Native.Nat.{ℕ}
use mathlib.Core.Path.{◌≡◌, sym, ap, ◌∙◌, refl}
use mathlib.Core.Bool.{Bool}
use native.Mathlib.Omega.{arith}
use lib.Dec.{ltb}
use borrow.Author.Tests.{lt-ltb, le-ltb}
use Rattle.std.proofs.Common.{rules}
use Rattle.model.specs.Planes.{pictures}
use Rattle.model.specs.Refusals.{unless, pictures_ok}
use Rattle.model.proofs.Refusals.{refused_before}
use Rattle.validate.specs.Numbers.{common_number}
use Rattle.validate.proofs.Numbers.{numbers_before}
use Rattle.lists.proofs.open_refusal.Goals as goal
use Rattle.lists.proofs.open_refusal.Goals.{In_ok-common}

-- what is left where the common tests turn nothing down
left : (c : In_ok-common) (n : ℕ) → let a = c.args in common_number a.w a.h a.leftTable.now a.rightTable.now a.share a.tear a.lengths n ≡ n
left c n =
    let a = c.args in
    (numbers_before a.w a.h a.leftTable.now a.rightTable.now a.share a.tear a.lengths).rest n (sym c.in_ok-common.ensures)

pub returns-in_err-common : goal.returns-in_err-common
returns-in_err-common c =
    let a = c.args in
    let rest = unless (ltb 0 a.words) 13 (unless (pictures_ok (pictures a.left.now a.right.now a.reference.now)) 21 0) in
    search (rules, refused_before (numbers_before a.w a.h a.leftTable.now a.rightTable.now a.share a.tear a.lengths) c.in_err-common.field-0.0 rest c.in_err-common.ensures)

pub returns-then-words-lt1 : goal.returns-then-words-lt1
returns-then-words-lt1 c = sym (left (goal.at.returns-then-words-lt1 c).In_ok-common _ ∙ ap (λ (t : Bool). unless t 13 (unless (pictures_ok (pictures c.args.left.now c.args.right.now c.args.reference.now)) 21 0)) (le-ltb 0 c.args.words (omega (arith, c.if-words-lt1.true))))

pub returns-then-not-pictures_ok : goal.returns-then-not-pictures_ok
returns-then-not-pictures_ok c = sym (left (goal.at.returns-then-not-pictures_ok c).In_ok-common _ ∙ rw (lt-ltb 0 c.args.words (omega (arith, c.if-words-lt1.false)), sym c.pictures_ok.ensures ∙ c.if-not-pictures_ok.true) refl)
