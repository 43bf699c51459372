-- Document 01, "One row of the left view", its last paragraph: the right view.
use Rattle.std.specs.Prelude.{ℕ, ◌-◌, Bool, true, false, List, reverse, eqb}
use Rattle.model.specs.Row.{Line, line, Row, left_row}

-- View 0 is the left one, view 1 the right one.
abbrev pub is_right : ℕ → Bool
is_right v = eqb v 1

-- A list as the view reads it: the right view reads backwards.
unfoldable pub seen : {A : Type 0} → Bool → List A → List A
seen true l = reverse l
seen false l = l

-- The right view is this same rule over the row read backwards, its results written back in reverse.
unfoldable pub view_row : Bool → Line → Row
view_row right l =
    let r = left_row (line l.tear l.table (seen right l.texture) (seen right l.depths)) in
    record { samples = seen right r.samples; marks = seen right r.marks; fronts = seen right r.fronts; limits = seen right r.limits }

-- Entry i of a row of w is position, or column, `entry_of` of it as the view reads the row, and the other way round.
unfoldable pub entry_of : Bool → ℕ → ℕ → ℕ
entry_of true w i = w - 1 - i
entry_of false w i = i
