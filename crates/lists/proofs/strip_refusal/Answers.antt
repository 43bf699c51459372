-- what each test has shown where it passed
use mathlib.Core.Path.{◌≡◌, sym, ◌∙◌}
use mathlib.Core.Bool.{true, ◌&&◌}
use Rattle.model.specs.Refusals.{side_ok, table_ok, tear_ok}
use Rattle.model.proofs.Refusals.{side_facts}
use Rattle.lists.specs.Numbers.{strip_fits}
use Rattle.lists.proofs.strip_refusal.Goals as goal
use Rattle.lists.proofs.strip_refusal.Goals.{Else-not-side_ok, Else-not-strip_sized, Else-not-tables_ok, Else-not-tear_ok}

w-ok : (c : Else-not-side_ok) → side_ok c.args.w ≡ true
w-ok c = sym c.side_ok.ensures ∙ c.if-not-side_ok.false

planes-ok : (c : Else-not-strip_sized) → let a = c.args in strip_fits a.w a.texture a.depths a.samples a.marks a.fronts ≡ true
planes-ok c = sym c.strip_sized.ensures ∙ c.if-not-strip_sized.false

tables-ok : (c : Else-not-tables_ok) → let a = c.args in (table_ok a.left.now && table_ok a.right.now) ≡ true
tables-ok c = sym c.tables_ok.ensures ∙ c.if-not-tables_ok.false

pub strip_sized-requires : goal.strip_sized-requires
strip_sized-requires c = (side_facts _ (w-ok (goal.at.strip_sized-requires c).Else-not-side_ok)).most

-- what is left once the tear has passed
tear-passed : (c : Else-not-tear_ok) → tear_ok c.args.tear ≡ true
tear-passed c = sym c.tear_ok.ensures ∙ c.if-not-tear_ok.false
