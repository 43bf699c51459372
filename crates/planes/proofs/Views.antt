-- Views with equal planes are equal.
use Prim.Native.Nat.{ℕ}
use mathlib.Core.Path.{◌≡◌}
use mathlib.Core.List.{List}
use lib.IntN.{ℤ}
use Rattle.model.specs.Planes.{view}

pub view_same : {a b m : List ℕ} {l : List ℤ} {a' b' m' : List ℕ} {l' : List ℤ} → a ≡ a' → b ≡ b' → l ≡ l' → m ≡ m' → view a b l m ≡ view a' b' l' m'
view_same ea eb el em = rw (ea, eb, el, em)
