-- What CHECK's report says of the held entries themselves: Reports says it by the test `same_at`, here by the planes.
--     signed_same, signed_differs    limits are equal exactly where neither is the greater
--     same_entries, entries_differ   the test at a position passes exactly where every entry held there is the other's
--     report_sound                   sound exactly where all that is held, spare bits too, is the fresh drawing, and the total the fresh total
--     report_total                   "total" exactly where all that is held is the fresh drawing, and the total is another
--     report_difference              row and column of the first position by rows at which a held entry is not the drawing's
use Prim.Native.Nat.{ℕ, zero, suc, ◌+◌, ◌-◌, ◌*◌, ◌/◌, ◌%◌, ◌^◌, ◌<◌, ◌≤◌}
use mathlib.Core.Path.{◌≡◌, refl, sym, ap, ◌∙◌, subst}
use mathlib.Core.Bool.{Bool, true, false, ◌&&◌, ◌||◌}
use mathlib.Core.Logic.{⊎_elim}
use mathlib.Core.List.{List}
use native.Mathlib.Omega.{arith}
use native.Mathlib.Nat.{mod-lt, div-lt_iff_lt-mul, div-add-mod', div-div-eq-div-mul, mul_comm, pow-succ'}
use borrow.Author.Tests.{le-ltb, ltb-false, le-leb, leb-true, eq-eqb, eqb-true, eqb-false}
use lib.Dec.{leb, ltb, eqb}
use lib.IntN.{ℤ, pos, negsuc}
use lib.Signed.{le_z}
use lib.ListN.{length, get_or, drop, length-take, get_or-eq_default}
use lib.Seq.{ext_get_or}
use Rattle.model.specs.declared.Settings.{Settings}
use Rattle.model.specs.declared.Report.{Report}
use Rattle.model.specs.declared.Report.TheVariants.{Sound, Difference, Total}
use Rattle.model.specs.Lists.{row_of, entry_at}
use Rattle.model.specs.Marks.{mark_bytes, mark_at, spare_bits}
use Rattle.model.specs.Planes.{Pictures, Depths, View, Held, area, view, held}
use Rattle.model.specs.Fresh.{line_of, fresh_row, fresh_view, fresh, fresh_total}
use Rattle.model.specs.Reports.{same_entry, same_limit, same_mark, same_view, same_at, report_of}
use Rattle.model.specs.Promises as promises
use Rattle.model.specs.Promises.{MarkBytes}
use Rattle.model.proofs.Choice.{lt_or_le, and_true, and_left, and_right, and_false, clash, or_false}
use Rattle.model.proofs.Lists.{entry_fits, get_or_row, length_plane_row, plane_ext}
use Rattle.model.proofs.Packing.{marks_ext, bytes_pack_row}
use Rattle.model.proofs.Fresh.{flags_view, row_fresh_marks, length-fresh_samples, length-fresh_fronts, length-fresh_limits, length-fresh_marks, length-fresh_combined}
use Rattle.model.proofs.Refusals.{ViewOf, Common}
use Rattle.model.proofs.Reports.{SameUpTo, Means, report_means}

-- ---- two drawings at column x of row y

-- the packed marks of row y
abbrev pub marks_of : ℕ → View → ℕ → List ℕ
marks_of w v y = row_of v.marks (mark_bytes w) y

-- what two views hold there is equal; spare bits count with the row's last column
pub record SameView (w : ℕ) (a b : View) (y x : ℕ) : Type 0 where
  pub sample : entry_at a.samples w y x 0 ≡ entry_at b.samples w y x 0
  pub front : entry_at a.fronts w y x 0 ≡ entry_at b.fronts w y x 0
  pub limit : entry_at a.limits w y x (pos 0) ≡ entry_at b.limits w y x (pos 0)
  pub mark : mark_at (marks_of w a y) x ≡ mark_at (marks_of w b y) x
  pub spare : x + 1 ≡ w → spare_bits (marks_of w a y) w ≡ spare_bits (marks_of w b y) w

pub record Same (w : ℕ) (a b : Held) (y x : ℕ) : Type 0 where
  pub left : SameView w a.left b.left y x
  pub right : SameView w a.right b.right y x
  pub combined : entry_at a.combined w y x 0 ≡ entry_at b.combined w y x 0

-- one of these entries differs
pub data DiffersIn (w : ℕ) (a b : View) (y x : ℕ) : Type 0 where
  sample : (entry_at a.samples w y x 0 ≡ entry_at b.samples w y x 0 → ⊥) → DiffersIn w a b y x
  front : (entry_at a.fronts w y x 0 ≡ entry_at b.fronts w y x 0 → ⊥) → DiffersIn w a b y x
  limit : (entry_at a.limits w y x (pos 0) ≡ entry_at b.limits w y x (pos 0) → ⊥) → DiffersIn w a b y x
  mark : (mark_at (marks_of w a y) x ≡ mark_at (marks_of w b y) x → ⊥) → DiffersIn w a b y x
  spare : x + 1 ≡ w → (spare_bits (marks_of w a y) w ≡ spare_bits (marks_of w b y) w → ⊥) → DiffersIn w a b y x

pub data Differs (w : ℕ) (a b : Held) (y x : ℕ) : Type 0 where
  left : DiffersIn w a.left b.left y x → Differs w a b y x
  right : DiffersIn w a.right b.right y x → Differs w a b y x
  combined : (entry_at a.combined w y x 0 ≡ entry_at b.combined w y x 0 → ⊥) → Differs w a b y x

-- ---- the tests of one entry

number_same : (a b : ℕ) → (leb a b && leb b a) ≡ true → a ≡ b
number_same a b e =
    omega (arith, leb-true a b (and_left (leb a b) (leb b a) e), leb-true b a (and_right (leb a b) (leb b a) e))

pub signed_same : (a b : ℤ) → (le_z a b && le_z b a) ≡ true → a ≡ b
signed_same (pos a) (pos b) e = ap pos (number_same a b e)
signed_same (pos a) (negsuc b) e = cc
signed_same (negsuc a) (pos b) e = cc
signed_same (negsuc a) (negsuc b) e = ap negsuc (sym (number_same b a e))

signed_itself : (a : ℤ) → (le_z a a && le_z a a) ≡ true
signed_itself (pos a) = rw (le-leb a a (omega arith))
signed_itself (negsuc a) = rw (le-leb a a (omega arith))

pub signed_differs : (a b : ℤ) → (le_z a b && le_z b a) ≡ false → a ≡ b → ⊥
signed_differs a b e q = clash (subst (λ (c : ℤ). (le_z a c && le_z c a) ≡ true) q (signed_itself a)) e

-- ---- the tests of a position

module _ (w : ℕ) (a b : View) (y x : ℕ) where
  abbrev first_two : Bool
  first_two = same_entry w a.samples b.samples y x && same_entry w a.fronts b.fronts y x

  abbrev spare_test : Bool
  spare_test = ltb (x + 1) w || eqb (spare_bits (marks_of w a y) w) (spare_bits (marks_of w b y) w)

  view_same : same_view w a b y x ≡ true → SameView w a b y x
  unfolding same_view same_mark
  view_same e =
      let one = and_left first_two _ e in
      let two = and_right first_two _ e in
      let marks = and_right (same_limit w a.limits b.limits y x) _ two in
      let last = and_right (eqb (mark_at (marks_of w a y) x) (mark_at (marks_of w b y) x)) spare_test marks in
      record {
        sample = eqb-true _ _ (and_left (same_entry w a.samples b.samples y x) _ one);
        front = eqb-true _ _ (and_right (same_entry w a.samples b.samples y x) _ one);
        limit = signed_same _ _ (and_left (same_limit w a.limits b.limits y x) _ two);
        mark = eqb-true _ _ (and_left (eqb (mark_at (marks_of w a y) x) (mark_at (marks_of w b y) x)) spare_test marks);
        spare = λ q. eqb-true _ _ (rw (le-ltb (x + 1) w (omega arith)) at last);
      }

  view_differs : x < w → same_view w a b y x ≡ false → DiffersIn w a b y x
  unfolding same_view same_mark
  view_differs l e =
      ⊎_elim
      (λ one. ⊎_elim (λ f. sample (eqb-false _ _ f)) (λ f. front (eqb-false _ _ f)) (and_false (same_entry w a.samples b.samples y x) _ one))
      (λ two.
      ⊎_elim (λ f. limit (signed_differs _ _ f))
      (λ marks.
      ⊎_elim (λ f. mark (eqb-false _ _ f))
      (λ f. let g = or_false (ltb (x + 1) w) _ f in spare (let le : w ≤ x + 1 = ltb-false _ _ g.0 in omega arith) (eqb-false _ _ g.1))
      (and_false (eqb (mark_at (marks_of w a y) x) (mark_at (marks_of w b y) x)) spare_test marks))
      (and_false (same_limit w a.limits b.limits y x) _ two))
      (and_false first_two _ e)

module _ (w : ℕ) (a b : Held) (y x : ℕ) where
  pub same_entries : same_at w a b y x ≡ true → Same w a b y x
  unfolding same_at
  same_entries e =
      let rest = and_right (same_view w a.left b.left y x) _ e in
      record {
        left = view_same w a.left b.left y x (and_left (same_view w a.left b.left y x) _ e);
        right = view_same w a.right b.right y x (and_left (same_view w a.right b.right y x) _ rest);
        combined = eqb-true _ _ (and_right (same_view w a.right b.right y x) _ rest);
      }

  pub entries_differ : x < w → same_at w a b y x ≡ false → Differs w a b y x
  unfolding same_at
  entries_differ l e =
      ⊎_elim (λ f. left (view_differs w a.left b.left y x l f))
      (λ rest.
      ⊎_elim (λ f. right (view_differs w a.right b.right y x l f)) (λ f. combined (eqb-false _ _ f))
      (and_false (same_view w a.right b.right y x) _ rest))
      (and_false (same_view w a.left b.left y x) _ e)

-- a drawing has no difference from itself
view_itself : (w : ℕ) (a : View) (y x : ℕ) → same_view w a a y x ≡ true
unfolding same_view same_mark
view_itself w a y x =
    let k : ℕ = y * w + x in
    let m : ℕ = mark_at (marks_of w a y) x in
    let r : ℕ = spare_bits (marks_of w a y) w in
    and_true _ _ (and_true _ _ (eq-eqb (get_or a.samples k 0) _ refl) (eq-eqb (get_or a.fronts k 0) _ refl))
    (and_true _ _ (signed_itself (get_or a.limits k (pos 0))) (and_true _ _ (eq-eqb m m refl) (last (ltb (x + 1) w) _ (eq-eqb r r refl))))
  where
    last : (t u : Bool) → u ≡ true → (t || u) ≡ true
    last true u e = refl
    last false u e = e

itself : (w : ℕ) (a : Held) (y x : ℕ) → same_at w a a y x ≡ true
unfolding same_at
itself w a y x =
    and_true _ _ (view_itself w a.left y x)
    (and_true _ _ (view_itself w a.right y x) (eq-eqb (entry_at a.combined w y x 0) _ refl))

-- ---- planes with these entries are equal

plane_same : {A : Type 0} (z : A) (w h : ℕ) (p q : List A) → 1 ≤ w → length p ≡ w * h → length q ≡ w * h → ((y x : ℕ) → y < h → x < w → entry_at p w y x z ≡ entry_at q w y x z) → p ≡ q
plane_same z w h p q some lp lq same =
    ext_get_or z p q (lp ∙ sym lq)
    (λ i l.
    let e : i / w * w + i % w ≡ i = div-add-mod' i w in
    let m : i < h * w = omega (arith, l, lp, mul_comm w h) in
    subst (λ (j : ℕ). get_or p j z ≡ get_or q j z) e (same (i / w) (i % w) ((div-lt_iff_lt-mul some).1 m) (mod-lt i some)))

power_sum : (m n : ℕ) → 2 ^ (m + n) ≡ 2 ^ m * 2 ^ n
power_sum zero n = let e : 0 + n ≡ n = omega arith in rw e (omega arith)
power_sum (suc m) n =
    let e : suc m + n ≡ suc (m + n) = omega arith in
    let i = power_sum m n in
    rw (e, pow-succ' 2 (m + n), pow-succ' 2 m) (rw i (omega arith))

-- the bits past the last column are the spare ones
spare_mark : (row : List ℕ) (w p : ℕ) → w ≤ p → p < 8 * mark_bytes w → mark_at row p ≡ spare_bits row w / 2 ^ (p - w) % 2
spare_mark row w p l m =
    let q : p / 8 ≡ w / 8 = omega arith in
    let r : p % 8 ≡ w % 8 + (p - w) = omega arith in
    rw (q, r, power_sum (w % 8) (p - w)) (ap (λ (n : ℕ). n % 2) (sym (div-div-eq-div-mul (get_or row (w / 8) 0) (2 ^ (w % 8)) (2 ^ (p - w)))))

-- rows of marks with equal bits below w and equal spare bits are equal, byte by byte
marks_row : (w : ℕ) (a b : List ℕ) → length a ≡ mark_bytes w → length b ≡ mark_bytes w → ((j : ℕ) → get_or a j 0 < 256) → ((j : ℕ) → get_or b j 0 < 256) → ((x : ℕ) → x < w → mark_at a x ≡ mark_at b x) → spare_bits a w ≡ spare_bits b w → a ≡ b
marks_row w a b la lb ha hb same rest =
    marks_ext a b (la ∙ sym lb) ha hb
    (λ p l.
    ⊎_elim (λ m. same p m)
    (λ m.
    let n : p < 8 * mark_bytes w = omega arith in
    spare_mark a w p m n ∙ ap (λ (r : ℕ). r / 2 ^ (p - w) % 2) rest ∙ sym (spare_mark b w p m n))
    (lt_or_le p w))

-- bytes stay bytes in a row
bytes_row : (marks : List ℕ) (n y : ℕ) → ((i : ℕ) → get_or marks i 0 < 256) → (i : ℕ) → get_or (row_of marks n y) i 0 < 256
unfolding row_of
bytes_row marks n y h i =
    ⊎_elim (λ l. rw (get_or_row 0 marks n y i l) (h (y * n + i)))
    (λ l. rw (get_or-eq_default (row_of marks n y) 0 {n = i} (omega (arith, length-take n (drop (y * n) marks)))) (omega arith)) (lt_or_le i n)

view_equal : (a b : View) → a.samples ≡ b.samples → a.fronts ≡ b.fronts → a.limits ≡ b.limits → a.marks ≡ b.marks → a ≡ b
view_equal a b es ef el em = joined es ef el em
  where
    joined : {x y m x' y' m' : List ℕ} {l l' : List ℤ} → x ≡ x' → y ≡ y' → l ≡ l' → m ≡ m' → view x y l m ≡ view x' y' l' m'
    joined e f g h = rw (e, f, g, h)

-- ---- the report

module _ (s : Settings) (p : Pictures) (d : Depths) (h : Held) (common : Common s p d h) where
  some : 1 ≤ s.w
  some = common.size.w.some

  last_column : s.w - 1 + 1 ≡ s.w
  last_column = omega (arith, some)

  drawn_view : (r : Bool) (v : View) → ViewOf (area s) (mark_bytes s.w * s.h) v → ((i : ℕ) → get_or v.marks i 0 < 256) → ((y x : ℕ) → y < s.h → x < s.w → SameView s.w v (fresh_view s p d r) y x) → v ≡ fresh_view s p d r
  unfolding fresh_row
  drawn_view r v sized bytes same =
      let n : ℕ = mark_bytes s.w in
      view_equal v (fresh_view s p d r)
      (plane_same 0 s.w s.h _ _ some sized.samples (length-fresh_samples s p d common.depths r) (λ y x ly lx. (same y x ly lx).sample))
      (plane_same 0 s.w s.h _ _ some sized.fronts (length-fresh_fronts s p d common.depths r) (λ y x ly lx. (same y x ly lx).front))
      (plane_same (pos 0) s.w s.h _ _ some sized.limits (length-fresh_limits s p d common.depths r) (λ y x ly lx. (same y x ly lx).limit))
      (plane_ext 0 n s.h v.marks (fresh_view s p d r).marks lv lf
      (λ y ly.
      marks_row s.w (marks_of s.w v y) (marks_of s.w (fresh_view s p d r) y)
      (length_plane_row v.marks n s.h y lv ly)
      (length_plane_row (fresh_view s p d r).marks n s.h y lf ly)
      (bytes_row v.marks n y bytes)
      (λ i. rw (row_fresh_marks s p d common.depths r y ly) (bytes_pack_row n (fresh_row s p d r y).marks (flags_view r (line_of s p d r y)) i))
      (λ x lx. (same y x ly lx).mark)
      ((same y (s.w - 1) ly (omega (arith, some))).spare last_column)))
    where
      lv : length v.marks ≡ s.h * mark_bytes s.w
      lv = sized.marks ∙ mul_comm (mark_bytes s.w) s.h

      lf : length (fresh_view s p d r).marks ≡ s.h * mark_bytes s.w
      lf = length-fresh_marks s p d common.depths r ∙ mul_comm (mark_bytes s.w) s.h

  drawn : MarkBytes h → ((y x : ℕ) → y < s.h → x < s.w → Same s.w h (fresh s p d) y x) → h ≡ fresh s p d
  unfolding fresh
  drawn bytes same =
      joined (drawn_view false h.left common.held.left (λ i. omega (arith, bytes.left i)) (λ y x ly lx. (same y x ly lx).left))
      (drawn_view true h.right common.held.right (λ i. omega (arith, bytes.right i)) (λ y x ly lx. (same y x ly lx).right))
      (plane_same 0 s.w s.h _ _ some common.held.combined (length-fresh_combined s p d) (λ y x ly lx. (same y x ly lx).combined))
    where
      joined : {l r l' r' : View} {c c' : List ℕ} → l ≡ l' → r ≡ r' → c ≡ c' → held l r c ≡ held l' r' c'
      joined e f g = rw (e, f, g)

  -- every entry before n by rows is the drawing's
  before : (n : ℕ) → SameUpTo s h (fresh s p d) n → (y x : ℕ) → y < s.h → x < s.w → y * s.w + x < n → Same s.w h (fresh s p d) y x
  before n same y x ly lx l = same_entries s.w h (fresh s p d) y x (same y x ly lx l)

  all_drawn : MarkBytes h → SameUpTo s h (fresh s p d) (area s) → h ≡ fresh s p d
  all_drawn bytes same =
      drawn bytes
      (λ y x ly lx. before (area s) same y x ly lx (omega (arith, entry_fits s.w s.h y x ly lx, mul_comm s.w s.h)))

  -- what is drawn has no difference from itself
  no_difference : (y x : ℕ) → h ≡ fresh s p d → same_at s.w h (fresh s p d) y x ≡ false → ⊥
  no_difference y x e f = clash (rw e (itself s.w (fresh s p d) y x)) f

  sound_by : (r : Report) → Means s p d h r → h ≡ fresh s p d → s.total ≡ fresh_total s p d → r ≡ Sound
  unfolding Means
  sound_by Sound m e t = refl
  sound_by (Difference y x) m e t = absurd (no_difference y x e m.3)
  sound_by Total m e t = absurd (m.1 t)

  total_by : (r : Report) → Means s p d h r → h ≡ fresh s p d → (s.total ≡ fresh_total s p d → ⊥) → r ≡ Total
  unfolding Means
  total_by Sound m e t = absurd (t m.1)
  total_by (Difference y x) m e t = absurd (no_difference y x e m.3)
  total_by Total m e t = refl

  means : {r : Report} → report_of s p d h ≡ r → Means s p d h r
  means e = subst (Means s p d h) e (report_means s p d h some)

  -- sound exactly where the session is
  pub report_sound : MarkBytes h → (report_of s p d h ≡ Sound → promises.Sound s p d h) × (promises.Sound s p d h → report_of s p d h ≡ Sound)
  unfolding Means
  report_sound bytes = (
    λ e. let m = means e in record { held = all_drawn bytes m.0; total = m.1 },
    λ q. sound_by (report_of s p d h) (report_means s p d h some) q.held q.total,
  )

  pub report_total :
      MarkBytes h →
      (report_of s p d h ≡ Total → (h ≡ fresh s p d) × (s.total ≡ fresh_total s p d → ⊥))
      × ((h ≡ fresh s p d) × (s.total ≡ fresh_total s p d → ⊥) → report_of s p d h ≡ Total)
  unfolding Means
  report_total bytes = (
    λ e. let m = means e in (all_drawn bytes m.0, m.1),
    λ q. total_by (report_of s p d h) (report_means s p d h some) q.0 q.1,
  )

  pub report_difference :
      {y x : ℕ} →
      report_of s p d h ≡ Difference y x →
      (y < s.h)
      × (x < s.w)
      × Differs s.w h (fresh s p d) y x
      × ((v u : ℕ) → v < s.h → u < s.w → v * s.w + u < y * s.w + x → Same s.w h (fresh s p d) v u)
  unfolding Means
  report_difference {y = y} {x = x} e =
      let m = means e in
      (m.0, m.1, entries_differ s.w h (fresh s p d) y x m.1 m.3, before (y * s.w + x) m.2)
