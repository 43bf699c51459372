-- Lists of calls and their events, for both kinds of run (specs/Run and specs/Shared).
use Rattle.std.specs.Prelude.{List, [], ◌∷◌}

module _ {R K : Type 0} where
  -- the record r after the calls; next r k is the record after the call k
  abbrev pub end_by : (R → K → R) → R → List K → R
  end_by next r [] = r
  end_by next r (k ∷ ks) = end_by next (next r k) ks

module _ {R K E : Type 0} where
  -- the events of the calls by the record r; event r k is the event of the call k
  abbrev pub events_by : (R → K → R) → (R → K → E) → R → List K → List E
  events_by next event r [] = []
  events_by next event r (k ∷ ks) = event r k ∷ events_by next event (next r k) ks

  -- Each call has one event, and P holds of the two by what the calls before left: r for the first, then next r k e after the call k with the event e.
  abbrev pub AllBy : (R → K → E → R) → (R → K → E → Type 0) → R → List K → List E → Type 0
  AllBy next P r [] [] = Unit
  AllBy next P r [] (e ∷ es) = ⊥
  AllBy next P r (k ∷ ks) [] = ⊥
  AllBy next P r (k ∷ ks) (e ∷ es) = P r k e × AllBy next P (next r k e) ks es

module _ {K E : Type 0} where
  -- Each call has one event, and P holds of the two alone.
  abbrev pub AllOf : (K → E → Type 0) → List K → List E → Type 0
  AllOf P ks es = AllBy {R = Unit} (λ u k e. u) (λ u k e. P k e) tt ks es
