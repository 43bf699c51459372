-- The refusals: each test as plain facts, and what a number of a list says of the tests.
--     some_number                         no refusal has the number 0
--     ..-yes, ..-facts                    a test from its facts, and the facts from the test
--     Before, common_before, ..           a number that applies is the same whatever follows in the list; where none applies, what follows decides
--     call_late, call_early, taken-..     8 decides exactly where nothing before it does
--     size_first, .., view_first, ..      the first that applies wins
--     room-..                             11 applies exactly where words are too few or the index passes 32 bits
--     in_range_sound                      in a sound session 8 never applies
use Prim.Native.Nat.{ℕ, zero, suc, ◌+◌, ◌*◌, ◌<◌, ◌≤◌}
use mathlib.Core.Path.{◌≡◌, refl, ap, sym, ◌∙◌}
use mathlib.Core.Bool.{Bool, true, false, ◌&&◌}
use mathlib.Core.List.{List, [], ◌∷◌}
use mathlib.Core.Logic.{◌⊎◌, inl, inr}
use native.Mathlib.Omega.{arith}
use native.Mathlib.Nat.{mul-le-mul}
use lib.ListN.{length, get_or}
use lib.Dec.{leb, eqb}
use lib.IntN.{ℤ, pos, ◌+ℤ◌, ◌-ℤ◌, +ℤ_comm, -ℤ-+ℤ_cancel}
use borrow.Author.Tests.{le-leb, lt-leb, leb-true, lt-ltb, le-ltb, ltb-true, eq-eqb, eqb-true, eqb-false}
use Rattle.std.specs.Prelude.{Result, Ok, Err, is_err, IsErrAnd}
use Rattle.model.specs.declared.Tear.{Tear}
use Rattle.model.specs.declared.Settings.{Settings}
use Rattle.model.specs.declared.Block.{Block}
use Rattle.model.specs.declared.Refusal.{Refusal}
use Rattle.model.specs.declared.Split.TheVariants.{Line, Mask}
use Rattle.model.specs.declared.Candidate.{Candidate}
use Rattle.model.specs.declared.Candidate.TheVariants.{Full, Flat, Regions}
use Rattle.model.specs.Marks.{mark_bytes}
use Rattle.model.specs.Combined.{worst}
use Rattle.model.specs.Planes.{Pictures, Depths, View, Held, area, with_total}
use Rattle.model.specs.Candidates.{positions, line_ok}
use Rattle.model.specs.Journals.{record_size, next_index}
use Rattle.model.specs.Refusals.{number_of, answer_number, unless, side_ok, size_ok, pictures_sized, depths_sized, view_sized, held_sized, planes_sized, up_to, table_ok, tables_ok, share_ok, tear_ok, block_ok, view_ok, candidate_then, within, in_range, words_ok, journal_ok, room_ok, some_record, common_then, own_then, saving_then, taking_then, open_number, early_number, call_then, take_back_number, take_back_early}
use Rattle.model.proofs.Choice.{clash, bool_cases, and_true, and_left, and_right, and_off}
use Rattle.model.proofs.Fresh.{DepthsOf}

-- ---- a refusal has a number

pub some_number : (r : Refusal) → number_of r ≡ 0 → ⊥
some_number Refusal.Size e = absurd (omega arith)
some_number Refusal.Plane e = absurd (omega arith)
some_number Refusal.Table e = absurd (omega arith)
some_number Refusal.Share e = absurd (omega arith)
some_number Refusal.Bounds e = absurd (omega arith)
some_number Refusal.View e = absurd (omega arith)
some_number Refusal.Candidate e = absurd (omega arith)
some_number Refusal.Total e = absurd (omega arith)
some_number Refusal.JournalFull e = absurd (omega arith)
some_number Refusal.NothingToTakeBack e = absurd (omega arith)
some_number Refusal.Journal e = absurd (omega arith)
some_number Refusal.Line e = absurd (omega arith)
some_number Refusal.Mask e = absurd (omega arith)
some_number Refusal.Gap e = absurd (omega arith)
some_number Refusal.Sample e = absurd (omega arith)

pub err_number : (r : Result (Unit {0}) Refusal) → is_err r ≡ true → answer_number r ≡ 0 → ⊥
err_number (Ok x) t e = clash t refl
err_number (Err r) t e = some_number r e

pub ok_number : (r : Result (Unit {0}) Refusal) → is_err r ≡ false → answer_number r ≡ 0
ok_number (Ok x) t = refl
ok_number (Err r) t = absurd (clash refl t)

-- what `?` hands on
pub err_from : {A : Type 0} (r : Result A Refusal) (e : Refusal) → IsErrAnd r (λ (x : Refusal). x ≡ e) → Err e ≡ r
err_from (Ok x) e f = absurd f
err_from {A} (Err x) e f = ap (λ (y : Refusal). Err y) (sym f)

-- ---- one test of a list

pub unless_true : (t : Bool) (k rest : ℕ) → unless t (suc k) rest ≡ 0 → t ≡ true
unless_true true k rest h = refl
unless_true false k rest h = absurd (omega arith)

pub unless_rest : (t : Bool) (k rest : ℕ) → unless t (suc k) rest ≡ 0 → rest ≡ 0
unless_rest true k rest h = h
unless_rest false k rest h = absurd (omega arith)

-- ---- lists of tests

-- Tests before the rest of a list: where none of them turns the call down the rest decides, and elsewhere it does not count.
pub record Before (tests : ℕ → ℕ) : Type 0 where
  pub rest : (k : ℕ) → tests 0 ≡ 0 → tests k ≡ k
  pub stays : (k : ℕ) → (tests 0 ≡ 0 → ⊥) → tests k ≡ tests 0

pub none_before : Before (λ k. k)
none_before = record { rest = λ k e. refl; stays = λ k ne. absurd (ne refl) }

pub one_before : (t : Bool) (n : ℕ) (tests : ℕ → ℕ) → Before tests → Before (λ k. unless t (suc n) (tests k))
one_before true n tests f = f
one_before false n tests f = record { rest = λ k e. absurd (omega arith); stays = λ k ne. refl }

-- what a list turned down is turned down whatever follows
pub refused_before : {f : ℕ → ℕ} → Before f → (r : Refusal) (rest : ℕ) → number_of r ≡ f 0 → number_of r ≡ f rest
refused_before a r rest e = e ∙ sym (a.stays rest (λ z. some_number r (e ∙ z)))

module _ {f : ℕ → ℕ} (a : Before f) where
  -- what is not refused has passed these tests, and then the rest
  pub passed : (k : ℕ) → f k ≡ 0 → f 0 ≡ 0
  passed k e = bool_cases (eqb (f 0) 0) (λ t. eqb-true (f 0) 0 t) (λ t. let ne = eqb-false (f 0) 0 t in sym (a.stays k ne) ∙ e)

  pub rest_passed : (k : ℕ) → f k ≡ 0 → k ≡ 0
  rest_passed k e = sym (a.rest k (passed k e)) ∙ e

  -- other tests after these
  pub then_before : {g : ℕ → ℕ} → Before g → Before (λ k. f (g k))
  then_before {g = g} b =
      record {
        rest = λ k e. a.rest (g k) (passed (g 0) e) ∙ b.rest k (rest_passed (g 0) e);
        stays = λ k ne.
            bool_cases (eqb (f 0) 0)
            (λ t.
            let z = eqb-true (f 0) 0 t in
            let same : f (g 0) ≡ g 0 = a.rest (g 0) z in
            a.rest (g k) z ∙ b.stays k (λ q. ne (same ∙ q)) ∙ sym same)
            (λ t. let z = eqb-false (f 0) 0 t in a.stays (g k) z ∙ sym (a.stays (g 0) z));
      }

-- ---- each test as plain facts

pub record Side (n : ℕ) : Type 0 where
  pub some : 1 ≤ n
  pub most : n ≤ 4096

pub side_yes : (n : ℕ) → Side n → side_ok n ≡ true
unfolding side_ok
side_yes n h = and_true _ _ (le-leb 1 n h.some) (le-leb n 4096 h.most)

pub side_facts : (n : ℕ) → side_ok n ≡ true → Side n
unfolding side_ok
side_facts n e =
    record { some = leb-true 1 n (and_left (leb 1 n) _ e); most = leb-true n 4096 (and_right (leb 1 n) _ e) }

pub record Size (s : Settings) : Type 0 where
  pub w : Side s.w
  pub h : Side s.h

pub size_yes : (s : Settings) → Size s → size_ok s ≡ true
unfolding size_ok
size_yes s h = and_true _ _ (side_yes s.w h.w) (side_yes s.h h.h)

pub size_facts : (s : Settings) → size_ok s ≡ true → Size s
unfolding size_ok
size_facts s e =
    record { w = side_facts s.w (and_left (side_ok s.w) _ e); h = side_facts s.h (and_right (side_ok s.w) _ e) }

pub record PicturesOf (n : ℕ) (p : Pictures) : Type 0 where
  pub left : length p.left ≡ n
  pub right : length p.right ≡ n
  pub reference : length p.reference ≡ n

pub pictures_yes : (n : ℕ) (p : Pictures) → PicturesOf n p → pictures_sized n p ≡ true
unfolding pictures_sized
pictures_yes n p h = rw (eq-eqb _ _ h.left, eq-eqb _ _ h.right, eq-eqb _ _ h.reference)

pub pictures_facts : (n : ℕ) (p : Pictures) → pictures_sized n p ≡ true → PicturesOf n p
unfolding pictures_sized
pictures_facts n p e =
    let e₁ = and_right (eqb (length p.left) n) _ e in
    record {
      left = eqb-true _ _ (and_left (eqb (length p.left) n) _ e);
      right = eqb-true _ _ (and_left (eqb (length p.right) n) _ e₁);
      reference = eqb-true _ _ (and_right (eqb (length p.right) n) _ e₁);
    }

pub depths_yes : (n : ℕ) (d : Depths) → DepthsOf n d → depths_sized n d ≡ true
unfolding depths_sized
depths_yes n d h = rw (eq-eqb _ _ h.left, eq-eqb _ _ h.right)

pub depths_facts : (n : ℕ) (d : Depths) → depths_sized n d ≡ true → DepthsOf n d
unfolding depths_sized
depths_facts n d e =
    record {
      left = eqb-true _ _ (and_left (eqb (length d.left) n) _ e);
      right = eqb-true _ _ (and_right (eqb (length d.left) n) _ e);
    }

pub record ViewOf (n m : ℕ) (v : View) : Type 0 where
  pub samples : length v.samples ≡ n
  pub fronts : length v.fronts ≡ n
  pub limits : length v.limits ≡ n
  pub marks : length v.marks ≡ m

pub view_yes : (n m : ℕ) (v : View) → ViewOf n m v → view_sized n m v ≡ true
unfolding view_sized
view_yes n m v h = rw (eq-eqb _ _ h.samples, eq-eqb _ _ h.fronts, eq-eqb _ _ h.limits, eq-eqb _ _ h.marks)

pub view_facts : (n m : ℕ) (v : View) → view_sized n m v ≡ true → ViewOf n m v
unfolding view_sized
view_facts n m v e =
    let e₁ = and_right (eqb (length v.samples) n) _ e in
    let e₂ = and_right (eqb (length v.fronts) n) _ e₁ in
    record {
      samples = eqb-true _ _ (and_left (eqb (length v.samples) n) _ e);
      fronts = eqb-true _ _ (and_left (eqb (length v.fronts) n) _ e₁);
      limits = eqb-true _ _ (and_left (eqb (length v.limits) n) _ e₂);
      marks = eqb-true _ _ (and_right (eqb (length v.limits) n) _ e₂);
    }

pub record HeldOf (n m : ℕ) (h : Held) : Type 0 where
  pub left : ViewOf n m h.left
  pub right : ViewOf n m h.right
  pub combined : length h.combined ≡ n

pub held_yes : (n m : ℕ) (h : Held) → HeldOf n m h → held_sized n m h ≡ true
unfolding held_sized
held_yes n m h f = rw (view_yes n m h.left f.left, view_yes n m h.right f.right, eq-eqb _ _ f.combined)

pub held_facts : (n m : ℕ) (h : Held) → held_sized n m h ≡ true → HeldOf n m h
unfolding held_sized
held_facts n m h e =
    let e₁ = and_right (view_sized n m h.left) _ e in
    record {
      left = view_facts n m h.left (and_left (view_sized n m h.left) _ e);
      right = view_facts n m h.right (and_left (view_sized n m h.right) _ e₁);
      combined = eqb-true _ _ (and_right (view_sized n m h.right) _ e₁);
    }

-- a table or a picture whose entries are at most n
pub up_to_most : (n : ℕ) (t : List ℕ) → up_to n t ≡ true → (i : ℕ) → get_or t i 0 ≤ n
unfolding up_to
up_to_most n [] e i = omega arith
up_to_most n (x ∷ xs) e zero = leb-true x n (and_left (leb x n) _ e)
up_to_most n (x ∷ xs) e (suc i) = up_to_most n xs (and_right (leb x n) _ e) i

pub up_to_yes : (n : ℕ) (t : List ℕ) → ((i : ℕ) → get_or t i 0 ≤ n) → up_to n t ≡ true
unfolding up_to
up_to_yes n [] h = refl
up_to_yes n (x ∷ xs) h = and_true _ _ (le-leb x n (h zero)) (up_to_yes n xs (λ i. h (suc i)))

pub table_most : (t : List ℕ) → table_ok t ≡ true → (i : ℕ) → get_or t i 0 ≤ 1023
table_most t e i = up_to_most 1023 t e i

pub table_yes : (t : List ℕ) → ((i : ℕ) → get_or t i 0 ≤ 1023) → table_ok t ≡ true
table_yes t h = up_to_yes 1023 t h

pub record Tables (s : Settings) : Type 0 where
  pub left : (i : ℕ) → get_or s.left i 0 ≤ 1023
  pub right : (i : ℕ) → get_or s.right i 0 ≤ 1023

pub tables_facts : (s : Settings) → tables_ok s ≡ true → Tables s
unfolding tables_ok
tables_facts s e =
    record { left = table_most s.left (and_left (table_ok s.left) _ e); right = table_most s.right (and_right (table_ok s.left) _ e) }

pub tables_yes : (s : Settings) → Tables s → tables_ok s ≡ true
unfolding tables_ok
tables_yes s h = and_true _ _ (table_yes s.left h.left) (table_yes s.right h.right)

pub record TearIn (e : Tear) : Type 0 where
  pub least : 4 ≤ e.gap
  pub most : e.gap ≤ 64
  pub near : e.distance ≤ 3

pub tear_yes : (e : Tear) → TearIn e → tear_ok e ≡ true
unfolding tear_ok
tear_yes e h = rw (le-leb 4 e.gap h.least, le-leb e.gap 64 h.most, le-leb e.distance 3 h.near)

pub tear_facts : (e : Tear) → tear_ok e ≡ true → TearIn e
unfolding tear_ok
tear_facts e h =
    let g = and_left (leb 4 e.gap && leb e.gap 64) _ h in
    record {
      least = leb-true 4 _ (and_left (leb 4 e.gap) _ g);
      most = leb-true _ 64 (and_right (leb 4 e.gap) _ g);
      near = leb-true _ 3 (and_right (leb 4 e.gap && leb e.gap 64) (leb e.distance 3) h);
    }

pub record Inside (s : Settings) (b : Block) : Type 0 where
  pub width : 1 ≤ b.width
  pub right : b.column + b.width ≤ s.w
  pub height : 1 ≤ b.height
  pub bottom : b.row + b.height ≤ s.h

pub block_yes : (s : Settings) (b : Block) → Inside s b → block_ok s b ≡ true
unfolding block_ok
block_yes s b h =
    rw (le-leb 1 b.width h.width, le-leb (b.column + b.width) s.w h.right, le-leb 1 b.height h.height, le-leb (b.row + b.height) s.h h.bottom)

pub block_facts : (s : Settings) (b : Block) → block_ok s b ≡ true → Inside s b
unfolding block_ok
block_facts s b e =
    let x = and_left (leb 1 b.width && leb (b.column + b.width) s.w) _ e in
    let y = and_right (leb 1 b.width && leb (b.column + b.width) s.w) (leb 1 b.height && leb (b.row + b.height) s.h) e in
    record {
      width = leb-true _ _ (and_left (leb 1 b.width) _ x);
      right = leb-true _ _ (and_right (leb 1 b.width) _ x);
      height = leb-true _ _ (and_left (leb 1 b.height) _ y);
      bottom = leb-true _ _ (and_right (leb 1 b.height) _ y);
    }

pub area_most : (s : Settings) → Size s → area s ≤ 16777216
area_most s h = mul-le-mul h.w.most h.h.most

pub marks_most : (s : Settings) → Size s → mark_bytes s.w * s.h ≤ 2097152
marks_most s h = let m : mark_bytes s.w ≤ 512 = omega (arith, h.w.most) in mul-le-mul m h.h.most

-- ---- the first that applies wins: 1, 2, 3, 4, 20

module _ (s : Settings) (p : Pictures) (d : Depths) (h : Held) (rest : ℕ) where
  pub size_first : size_ok s ≡ false → common_then s p d h rest ≡ 1
  unfolding common_then
  size_first e = rw e

  pub planes_next : size_ok s ≡ true → planes_sized s p d h ≡ false → common_then s p d h rest ≡ 2
  unfolding common_then
  planes_next e f = rw (e, f)

  pub tables_next : size_ok s ≡ true → planes_sized s p d h ≡ true → tables_ok s ≡ false → common_then s p d h rest ≡ 3
  unfolding common_then
  tables_next e f g = rw (e, f, g)

  pub share_next : size_ok s ≡ true → planes_sized s p d h ≡ true → tables_ok s ≡ true → share_ok s ≡ false → common_then s p d h rest ≡ 4
  unfolding common_then
  share_next e f g k = rw (e, f, g, k)

  pub gap_next :
      size_ok s ≡ true → planes_sized s p d h ≡ true → tables_ok s ≡ true → share_ok s ≡ true → tear_ok s.tear ≡ false → common_then s p d h rest ≡ 20
  unfolding common_then
  gap_next e f g k l = rw (e, f, g, k, l)

-- ---- 11: the words beyond the newest record hold the new one, and its index has 32 bits

module _ (b : Block) (j : List ℕ) where
  pub room_short : length j < next_index j + record_size b → room_ok b j ≡ false
  unfolding room_ok
  room_short l = rw (lt-leb (next_index j + record_size b) (length j) l)

  pub room_far : 4294967296 ≤ next_index j → room_ok b j ≡ false
  unfolding room_ok
  room_far l = and_off (leb (next_index j + record_size b) (length j)) _ (le-ltb (next_index j) 4294967296 l)

  pub room_yes : next_index j + record_size b ≤ length j → next_index j < 4294967296 → room_ok b j ≡ true
  unfolding room_ok
  room_yes l k = and_true _ _ (le-leb (next_index j + record_size b) (length j) l) (lt-ltb (next_index j) 4294967296 k)

  pub room_end : room_ok b j ≡ true → next_index j + record_size b ≤ length j
  unfolding room_ok
  room_end e = leb-true (next_index j + record_size b) (length j) (and_left (leb (next_index j + record_size b) (length j)) _ e)

  pub room_index : room_ok b j ≡ true → next_index j < 4294967296
  unfolding room_ok
  room_index e = ltb-true (next_index j) 4294967296 (and_right (leb (next_index j + record_size b) (length j)) _ e)

-- ---- what the common tests have shown

pub record Common (s : Settings) (p : Pictures) (d : Depths) (h : Held) : Type 0 where
  pub size : Size s
  pub pictures : PicturesOf (area s) p
  pub depths : DepthsOf (area s) d
  pub held : HeldOf (area s) (mark_bytes s.w * s.h) h
  pub tables : Tables s
  pub share : s.share ≤ 64
  pub tear : TearIn s.tear

pub common_facts : (s : Settings) (p : Pictures) (d : Depths) (h : Held) → common_then s p d h 0 ≡ 0 → Common s p d h
unfolding common_then planes_sized
common_facts s p d h e =
    let e₁ = unless_rest (size_ok s) 0 _ e in
    let e₂ = unless_rest (planes_sized s p d h) 1 _ e₁ in
    let e₃ = unless_rest (tables_ok s) 2 _ e₂ in
    let e₄ = unless_rest (share_ok s) 3 _ e₃ in
    let z = unless_true (planes_sized s p d h) 1 _ e₁ in
    let y = and_right (pictures_sized (area s) p) _ z in
    record {
      size = size_facts s (unless_true (size_ok s) 0 _ e);
      pictures = pictures_facts (area s) p (and_left (pictures_sized (area s) p) _ z);
      depths = depths_facts (area s) d (and_left (depths_sized (area s) d) _ y);
      held = held_facts (area s) (mark_bytes s.w * s.h) h (and_right (depths_sized (area s) d) _ y);
      tables = tables_facts s (unless_true (tables_ok s) 2 _ e₂);
      share = leb-true s.share 64 (unless_true (share_ok s) 3 _ e₃);
      tear = tear_facts s.tear (unless_true (tear_ok s.tear) 19 _ e₄);
    }

pub common_yes : (s : Settings) (p : Pictures) (d : Depths) (h : Held) (rest : ℕ) → Common s p d h → common_then s p d h rest ≡ rest
unfolding common_then planes_sized
common_yes s p d h rest f =
    rw (size_yes s f.size, pictures_yes (area s) p f.pictures, depths_yes (area s) d f.depths, held_yes (area s) (mark_bytes s.w * s.h) h f.held, tables_yes s f.tables, le-leb s.share 64 f.share, tear_yes s.tear f.tear)

-- ---- a call's own tests

module _ (s : Settings) (v : ℕ) (b : Block) (c : Candidate) (n : ℕ) where
  -- the first that applies wins: 6, then 5, then the candidate's own number
  pub view_first : (rest : ℕ) → view_ok v ≡ false → own_then s v b c n rest ≡ 6
  unfolding own_then
  view_first rest e = rw e

  pub block_next : (rest : ℕ) → view_ok v ≡ true → block_ok s b ≡ false → own_then s v b c n rest ≡ 5
  unfolding own_then
  block_next rest e f = rw (e, f)

  pub candidate_last : (rest : ℕ) → view_ok v ≡ true → block_ok s b ≡ true → own_then s v b c n rest ≡ candidate_then b c n rest
  unfolding own_then
  candidate_last rest e f = rw (e, f)

-- what a call's own tests have shown
pub record OwnTests (s : Settings) (v : ℕ) (b : Block) (c : Candidate) (n : ℕ) : Type 0 where
  pub view : v ≤ 1
  pub block : Inside s b
  pub candidate : candidate_then b c n 0 ≡ 0

pub own_facts : (s : Settings) (v : ℕ) (b : Block) (c : Candidate) (n : ℕ) → own_then s v b c n 0 ≡ 0 → OwnTests s v b c n
unfolding own_then
own_facts s v b c n e =
    let e₁ = unless_rest (view_ok v) 5 _ e in
    record {
      view = leb-true v 1 (unless_true (view_ok v) 5 _ e);
      block = block_facts s b (unless_true (block_ok s b) 4 _ e₁);
      candidate = unless_rest (block_ok s b) 4 _ e₁;
    }

-- ---- lists of numbers

pub common_before : (s : Settings) (p : Pictures) (d : Depths) (h : Held) → Before (common_then s p d h)
unfolding common_then
common_before s p d h =
    one_before (size_ok s) 0 _ (one_before (planes_sized s p d h) 1 _ (one_before (tables_ok s) 2 _ (one_before (share_ok s) 3 _ (one_before (tear_ok s.tear) 19 _ none_before))))

pub candidate_before : (b : Block) (c : Candidate) (n : ℕ) → Before (candidate_then b c n)
unfolding candidate_then
candidate_before b Full n = one_before (eqb n (positions b)) 6 _ none_before
candidate_before b (Flat depth) n = none_before
candidate_before b (Regions value0 value1 (Line start end)) n = one_before (line_ok b start end) 13 _ none_before
candidate_before b (Regions value0 value1 Mask) n = one_before (eqb n (mark_bytes (positions b))) 14 _ none_before

pub own_before : (s : Settings) (v : ℕ) (b : Block) (c : Candidate) (n : ℕ) → Before (own_then s v b c n)
unfolding own_then
own_before s v b c n = one_before (view_ok v) 5 _ (one_before (block_ok s b) 4 _ (candidate_before b c n))

-- a call's own tests answer 0, 5, 6, 7, 14 or 15
abbrev Usual : ℕ → Type 0
Usual n = (n ≡ 0) ⊎ ((n ≡ 5) ⊎ ((n ≡ 6) ⊎ ((n ≡ 7) ⊎ ((n ≡ 14) ⊎ (n ≡ 15)))))

usual_unless : (t : Bool) (k n : ℕ) → Usual k → Usual n → Usual (unless t k n)
usual_unless true k n f g = g
usual_unless false k n f g = f

candidate_usual : (b : Block) (c : Candidate) (n : ℕ) → Usual (candidate_then b c n 0)
unfolding candidate_then
candidate_usual b Full n = usual_unless (eqb n (positions b)) 7 0 (inr (inr (inr (inl refl)))) (inl refl)
candidate_usual b (Flat depth) n = inl refl
candidate_usual b (Regions value0 value1 (Line start end)) n = usual_unless (line_ok b start end) 14 0 (inr (inr (inr (inr (inl refl))))) (inl refl)
candidate_usual b (Regions value0 value1 Mask) n = usual_unless (eqb n (mark_bytes (positions b))) 15 0 (inr (inr (inr (inr (inr refl))))) (inl refl)

pub own_usual : (s : Settings) (v : ℕ) (b : Block) (c : Candidate) (n : ℕ) → Usual (own_then s v b c n 0)
unfolding own_then
own_usual s v b c n =
    usual_unless (view_ok v) 6 _ (inr (inr (inl refl))) (usual_unless (block_ok s b) 5 _ (inr (inl refl)) (candidate_usual b c n))

pub own_total : (s : Settings) (t v : ℕ) (b : Block) (c : Candidate) (n rest : ℕ) → own_then (with_total s t) v b c n rest ≡ own_then s v b c n rest
unfolding own_then block_ok
own_total s t v b c n rest = refl

-- 13, then 11; 13, then 12
module _ (s : Settings) (j : List ℕ) (rest : ℕ) where
  pub saving_first : (b : Block) → journal_ok s j ≡ false → saving_then s b j rest ≡ 13
  unfolding saving_then
  saving_first b e = rw e

  pub taking_first : journal_ok s j ≡ false → taking_then s j rest ≡ 13
  unfolding taking_then
  taking_first e = rw e

pub saving_before : (s : Settings) (b : Block) (j : List ℕ) → Before (saving_then s b j)
unfolding saving_then
saving_before s b j = one_before (journal_ok s j) 12 _ (one_before (room_ok b j) 10 _ none_before)

pub taking_before : (s : Settings) (j : List ℕ) → Before (taking_then s j)
unfolding taking_then
taking_before s j = one_before (journal_ok s j) 12 _ (one_before (some_record j) 11 _ none_before)

module _ (s : Settings) (p : Pictures) (d : Depths) (h : Held) where
  -- OPEN's 13 and 21 come last
  pub open_stays : (j : List ℕ) → (common_then s p d h 0 ≡ 0 → ⊥) → open_number s p d h j ≡ common_then s p d h 0
  open_stays j ne = (common_before s p d h).stays _ ne

  -- of these 13 comes first
  pub open_words : (j : List ℕ) → common_then s p d h 0 ≡ 0 → words_ok j ≡ false → open_number s p d h j ≡ 13
  open_words j e f = (common_before s p d h).rest _ e ∙ rw f

  -- what is not refused has passed the common tests
  pub common_passed : (rest : ℕ) → common_then s p d h rest ≡ 0 → common_then s p d h 0 ≡ 0
  common_passed = passed (common_before s p d h)

  -- TAKE BACK's tests before 8
  pub taken_before : (j : List ℕ) → Before (λ k. common_then s p d h (taking_then s j k))
  taken_before j = then_before (common_before s p d h) (taking_before s j)

  -- with no number before 8, 8 decides
  pub taken_late : (j : List ℕ) (x : ℤ) → take_back_early s p d h j ≡ 0 → take_back_number s p d h j x ≡ unless (in_range s x) 8 0
  taken_late j x e = (taken_before j).rest _ e

  pub taken_early : (j : List ℕ) (x : ℤ) → (take_back_early s p d h j ≡ 0 → ⊥) → take_back_number s p d h j x ≡ take_back_early s p d h j
  taken_early j x ne = (taken_before j).stays _ ne

  module _ (v : ℕ) (b : Block) (c : Candidate) (n : ℕ) where
    -- what GET and SET refuse before 8
    pub early_before : Before (λ k. common_then s p d h (own_then s v b c n k))
    early_before = then_before (common_before s p d h) (own_before s v b c n)

    -- a call with no early refusal has passed the common tests, and its own
    pub early_common : early_number s p d h v b c n ≡ 0 → common_then s p d h 0 ≡ 0
    early_common e = common_passed (own_then s v b c n 0) e

    pub early_own : early_number s p d h v b c n ≡ 0 → own_then s v b c n 0 ≡ 0
    early_own e = rest_passed (common_before s p d h) (own_then s v b c n 0) e

    pub early_facts : early_number s p d h v b c n ≡ 0 → Common s p d h × OwnTests s v b c n
    early_facts e = (common_facts s p d h (early_common e), own_facts s v b c n (early_own e))

    -- with no early refusal, 8 and the rest decide
    pub call_late : (x : ℤ) (rest : ℕ) → early_number s p d h v b c n ≡ 0 → call_then s p d h v b c n x rest ≡ unless (in_range s x) 8 rest
    call_late x rest e = early_before.rest _ e

    pub call_early : (x : ℤ) (rest : ℕ) → (early_number s p d h v b c n ≡ 0 → ⊥) → call_then s p d h v b c n x rest ≡ early_number s p d h v b c n
    call_early x rest ne = early_before.stays _ ne

    -- an accepted call passed every test before 8
    pub call_zero : (x : ℤ) (rest : ℕ) → call_then s p d h v b c n x rest ≡ 0 → early_number s p d h v b c n ≡ 0
    call_zero x rest e = passed early_before (unless (in_range s x) 8 rest) e

-- ---- 8

-- the old total and the change make the new total
pub total_change : (old new : ℕ) → pos old +ℤ (pos new -ℤ pos old) ≡ pos new
total_change old new = +ℤ_comm (pos old) (pos new -ℤ pos old) ∙ -ℤ-+ℤ_cancel (pos new) (pos old)

pub in_range_sound : (s : Settings) (old new : ℕ) → s.total ≡ old → new ≤ worst * area s → in_range s (pos new -ℤ pos old) ≡ true
unfolding in_range
in_range_sound s old new e le =
    ap (λ (x : ℤ). within x (worst * area s)) (ap (λ (t : ℕ). pos t +ℤ (pos new -ℤ pos old)) e ∙ total_change old new)
    ∙ le-leb new (worst * area s) le
