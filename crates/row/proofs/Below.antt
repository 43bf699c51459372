-- A row drawn from the columns below n alone, where an edge is taken for the near edge right of them, its limit `high` for the limit of n.
--     front_end, front_step, front_below_lem                 the greatest columns placed at them
--     front_placed, below_pixel                          with the true limit and edge of n they are the row's columns and pixels
--     flag_below                                         its marks are 0 or 1
--     first_within                                       positions before x, for x in a row
use Prim.Native.Nat.{ℕ, zero, suc, ◌+◌, ◌-◌, ◌<◌, ◌≤◌}
use mathlib.Core.Path.{◌≡◌, sym, ap, subst, ◌∙◌}
use mathlib.Core.Bool.{cond, ◌&&◌}
use mathlib.Core.Logic.{⊎_elim}
use mathlib.Core.List.{List}
use native.Mathlib.Omega.{arith}
use native.Mathlib.Numerals.{add-one}
use lib.Dec.{leb, ltb}
use lib.ListN.{length}
use borrow.Author.Tests.{leb-true, lt-ltb, le-ltb}
use Rattle.model.specs.Row.{Line, width, place_in, quarter, least, limit, owner, greatest, column_pixel, owned_pixel, placed_at, near_edge, shown_pixel, pixel_at}
use Rattle.model.proofs.Choice.{bool_cases, lt_or_le, and_off}
use Rattle.model.proofs.Owners.{Owns, least_join, limit_end, limit_step, limit_most, limit_above, owner_owns, owner_below, owns_stretch, place_zero}
use Rattle.model.proofs.Edges.{placed_is}
use Rattle.model.proofs.Fresh.{flag_owned}
use Rattle.model.proofs.Totals.{sample_in_most, owned_most}
use Rattle.pixel.specs.declared.Edge.{Edge}
use Rattle.pixel.specs.Pairs.{next_place, at_edge, edged_pixel}
use Rattle.pixel.proofs.Pairs.{next_inner, next_last, next_most}
use Rattle.places.specs.Positions.{first_at}
use Rattle.row.specs.Drawing.{front, front_below, pixel_below}
use Rattle.limits.specs.Limits.{limit_below}
use Rattle.limits.proofs.Below.{below_limit}

-- ---- near edges

pub front_end : (f : ℕ → ℕ) (g : Edge) (n : ℕ) → front_below f g n n ≡ g.column
unfolding front_below front
front_end f g n = let e : n - n ≡ 0 = omega arith in rw e

pub front_step : (f : ℕ → ℕ) (g : Edge) (n c : ℕ) → c < n → front_below f g n c ≡ cond (ltb (f c) (limit_below f g.limit n (c + 1))) c (front_below f g n (c + 1))
unfolding front_below limit_below front
front_step f g n c h =
    let e : n - c ≡ suc (n - suc c) = omega arith in
    rw (e, add-one)

front_join : (f : ℕ → ℕ) (top e c m n : ℕ) → front f (least f top (c + m) n) (front f top e (c + m) n) c m ≡ front f top e c (m + n)
unfolding front
front_join f top e c zero n = let i : c + 0 ≡ c = omega arith in let k : 0 + n ≡ n = omega arith in rw (i, k)
front_join f top e c (suc m) n =
    let i : c + suc m ≡ suc c + m = omega arith in
    let k : suc m + n ≡ suc (m + n) = omega arith in
    let r : front f (least f top (suc c + m) n) (front f top e (suc c + m) n) c (suc m) ≡ front f top e c (suc (m + n)) =
    rw (least_join f top (suc c) m n) (ap (cond (ltb (f c) (least f top (suc c) (m + n))) c) (front_join f top e (suc c) m n)) in
    ap (λ (q : ℕ). front f (least f top q n) (front f top e q n) c (suc m)) i ∙ (r ∙ sym (ap (front f top e c) k))

-- taken in two parts: g is the edge right of the columns below n, and h that right of those below m
pub front_below_lem : (f : ℕ → ℕ) (g h : Edge) (n m c : ℕ) → c ≤ m → m ≤ n → h.limit ≡ limit_below f g.limit n m → h.column ≡ front_below f g n m → front_below f h m c ≡ front_below f g n c
unfolding front_below limit_below
front_below_lem f g h n m c u v el ec =
    let e : c + (m - c) ≡ m = omega arith in
    let k : m - c + (n - m) ≡ n - c = omega arith in
    let j = front_join f g.limit g.column c (m - c) (n - m) in
    rw (el, ec) (rw (e, k) at j)

-- the greatest column placed at the limit of c, where that limit is y and the edge right of column n is true if it is at y
pub front_placed : (f : ℕ → ℕ) (w n y : ℕ) (g : Edge) → n ≤ w → g.limit ≡ limit f w n → (limit f w n ≡ y → g.column ≡ placed_at f y w) → (k c : ℕ) → c + k ≡ n → limit f w c ≡ y → front_below f g n c ≡ placed_at f y w
front_placed f w n y g h eg ee zero c z e =
    let m : c ≡ n = omega arith in
    rw m (front_end f g n ∙ ee (subst (λ (i : ℕ). limit f w i ≡ y) m e))
front_placed f w n y g h eg ee (suc k) c z e =
    let step = limit_step f w c (omega arith) in
    let next : limit_below f g.limit n (c + 1) ≡ limit f w (c + 1) = rw eg (below_limit f w n (c + 1) (omega arith) h) in
    front_step f g n c (omega arith)
    ∙ rw next
    (⊎_elim
    (λ u.
    let here : f c ≡ y = omega arith in
    let less : c < w = omega arith in
    let after : (j : ℕ) → c < j → j < w → y < f j = λ j a b. omega (arith, (limit_above f w (c + 1) (f c) (omega arith) u).1 j (omega arith) b) in
    rw (lt-ltb (f c) (limit f w (c + 1)) u) (sym (placed_is f y w c less here after)))
    (λ u. rw (le-ltb (f c) (limit f w (c + 1)) u) (front_placed f w n y g h eg ee k (c + 1) (omega arith) (omega arith)))
    (lt_or_le (f c) (limit f w (c + 1))))

-- where m is the limit of c + 1, and column e the greatest placed there if x is a quarter before it, x shows what the row shows
edged_shown : (l : Line) (c m e x : ℕ) → c < width l → m ≡ limit (place_in l) (width l) (c + 1) → x < m → (m ≡ x + 1 → e ≡ placed_at (place_in l) m (width l)) → edged_pixel l c m e x ≡ shown_pixel l c x
unfolding edged_pixel at_edge shown_pixel near_edge
edged_shown l c m e x h em less ee = ⊎_elim inner last (lt_or_le (c + 1) (width l))
  where
    inner : c + 1 < width l → edged_pixel l c m e x ≡ shown_pixel l c x
    inner u =
        rw (next_inner l.table l.depths c u, lt-ltb (c + 1) (width l) u, ← em)
        (bool_cases (leb (m - x) 1)
        (λ t.
        let y : m ≡ x + 1 = omega (arith, leb-true (m - x) 1 t) in
        ap (λ (i : ℕ). cond (ltb m (place_in l (c + 1)) && leb (m - x) 1) (column_pixel l i 0) (owned_pixel l c x)) (ee y))
        (λ t. rw (and_off (ltb m (place_in l (c + 1))) (leb (m - x) 1) t)))

    last : width l ≤ c + 1 → edged_pixel l c m e x ≡ shown_pixel l c x
    last u =
        let z : c + 1 ≡ width l = omega arith in
        let end : m ≡ quarter (width l) = em ∙ ap (limit (place_in l) (width l)) z ∙ limit_end (place_in l) (width l) in
        rw (next_last l.table l.depths c u, le-ltb (c + 1) (width l) u, le-ltb m (quarter (width l)) (omega arith))

-- with the true limit of n, and the true edge where a position is a quarter before it, the position shows what the row shows
pub below_pixel : (l : Line) (n p : ℕ) (g : Edge) → 0 < n → n ≤ width l → g.limit ≡ limit (place_in l) (width l) n → (g.limit ≡ quarter p + 1 → g.column ≡ placed_at (place_in l) g.limit (width l)) → quarter p < g.limit → pixel_below l n g p ≡ pixel_at l p
unfolding pixel_below pixel_at
below_pixel l n p g h k eg ee x =
    let f = place_in l in
    let c : ℕ = owner f (quarter p) n in
    let z = place_zero l.table l.depths p in
    let o = owner_owns f (quarter p) n h z in
    let same : c ≡ owner f (quarter p) (width l) = owner_below f (width l) n (quarter p) h k z (rw eg at x) in
    let all : Owns f (width l) (quarter p) c = rw same (owner_owns f (quarter p) (width l) (omega arith) z) in
    let m : limit_below f g.limit n (c + 1) ≡ limit f (width l) (c + 1) = rw eg (below_limit f (width l) n (c + 1) (omega (arith, o.column)) k) in
    let end : quarter p < quarter (width l) = omega (arith, limit_most f (width l) n) in
    edged_shown l c _ _ (quarter p) all.column m (rw m (owns_stretch end all).1)
    (λ y.
    rw y
    (front_placed f (width l) n (quarter p + 1) g k eg (λ t. subst (λ (i : ℕ). g.column ≡ placed_at f i (width l)) (eg ∙ t) (ee (eg ∙ t))) (n - (c + 1)) (c + 1) (omega (arith, o.column)) (sym m ∙ y)))
    ∙ ap (λ (i : ℕ). shown_pixel l i (quarter p)) same

pub flag_below : (l : Line) (n : ℕ) (g : Edge) (p : ℕ) → (pixel_below l n g p).mark < 2
unfolding pixel_below edged_pixel
flag_below l n g p =
    let c : ℕ = owner (place_in l) (quarter p) n in
    bool_cases (at_edge (limit_below (place_in l) g.limit n (c + 1)) (next_place l.table l.depths c) (quarter p)) (λ e. rw e (omega arith)) (λ e. rw e (flag_owned l c (quarter p)))

-- ---- positions before x

-- the positions before the place after a column are the row's
pub first_within : (t d : List ℕ) (c high : ℕ) → high ≤ next_place t d c → first_at high ≤ length d
first_within t d c high h = let k : high ≤ quarter (length d) = omega (arith, next_most t d c) in omega arith

-- no sample that is drawn so is above the greatest
pub below_sample : (l : Line) (n : ℕ) (g : Edge) (p : ℕ) → (pixel_below l n g p).sample ≤ greatest
unfolding pixel_below edged_pixel
below_sample l n g p =
    let c : ℕ = owner (place_in l) (quarter p) n in
    bool_cases (at_edge (limit_below (place_in l) g.limit n (c + 1)) (next_place l.table l.depths c) (quarter p))
    (λ e. rw e (sample_in_most l.texture _)) (λ e. rw e (owned_most l (quarter p) c))
