-- On a sound session L is what a caller works out from what it holds, in the paper's signed numbers.
--     low_places, high_places    low and high by the places 4 × c − table[d]
--     high_limit                 high by the limit that is held for the next column
--     length-held                so L
--     get_held                   and an accepted GET of one depth is within the bound that is worked out so
use Prim.Native.Nat.{ℕ, zero, suc, ◌+◌, ◌-◌, ◌*◌, ◌<◌, ◌≤◌, min}
use mathlib.Core.Path.{◌≡◌, refl, sym, ap, ◌∙◌}
use mathlib.Core.Bool.{Bool, true, false}
use mathlib.Core.List.{List}
use native.Mathlib.Omega.{arith}
use lib.Dec.{eqb}
use Rattle.std.proofs.lemmas.Bool.Decides.{nat_tests}
use lib.ListN.{length, get_or}
use lib.IntN.{ℤ, pos, ◌-ℤ◌, nat_abs}
use borrow.Author.Tests.{eqb-false}
use Rattle.model.specs.declared.Settings.{Settings}
use Rattle.model.specs.declared.Block.{Block}
use Rattle.model.specs.declared.Candidate.{Candidate}
use Rattle.model.specs.Replies.{TrialReply}
use Rattle.model.specs.Lists.{row_of, entry_at}
use Rattle.model.specs.Row.{Line, width, least, limit, quarter, signed, limit_at}
use Rattle.model.specs.Views.{is_right, seen, entry_of}
use Rattle.model.specs.Planes.{Pictures, Depths, View, Held, table_of, depths_of, read_held}
use Rattle.model.specs.Fresh.{line_of, fresh_row, fresh}
use Rattle.model.specs.Candidates.{filled}
use Rattle.model.specs.Blocks.{written_plane, written}
use Rattle.model.specs.Span.{least_edited, span_low, span_high, first_column, view_place}
use Rattle.model.specs.Promises.{Sound, GetPost}
use Rattle.model.proofs.Choice.{bool_cases}
use Rattle.model.proofs.Lists.{get_or_row, length_plane_row, rows_apart}
use Rattle.model.proofs.Views.{seen_line, entry_within, entry_entry, get_or_seen, length_seen, get_or_view_limits}
use Rattle.model.proofs.Signs.{signed_le, signed_place_lem, signed_quarter, signed_low}
use Rattle.model.proofs.Fresh.{DepthsSized, depths_length, wide, view_fresh}
use Rattle.model.proofs.Written.{written_inside, written_own}
use Rattle.model.proofs.Refusals.{Inside, Tables, early_facts}
use Rattle.model.proofs.Promises.{get_early}
use Rattle.model.proofs.Locality.{sized_written}
use Rattle.run.proofs.Steps.{limit_fresh}
use Rattle.reach.specs.Reach.{OneDepth, low_of, high_of, length_of, most_change, span_length}
use Rattle.reach.specs.Held.{lesser, place_with, held_depth, held_limit, held_low, held_high, held_length}
use Rattle.reach.proofs.Positions.{high_span}
use Rattle.reach.proofs.Change.{get_within}

-- raised numbers are ordered as what they stand for
signed_min : (a b : ℕ) → signed (min a b) ≡ lesser (signed a) (signed b)
signed_min a b = let e = signed_le a b in grind (arith, nat_tests)

lesser_same : {a b c d : ℤ} → a ≡ b → c ≡ d → lesser a c ≡ lesser b d
lesser_same p q = rw (p, q)

-- the least of f c, f (c + 1), .., n of them, and `top` where it is less
unfoldable pub least_z : (ℕ → ℤ) → ℤ → ℕ → ℕ → ℤ
least_z f top c zero = top
least_z f top c (suc n) = lesser (f c) (least_z f top (suc c) n)

-- so the least of raised numbers stands for the least of what they stand for
signed_least : (f : ℕ → ℕ) (g : ℕ → ℤ) (top c n : ℕ) → ((i : ℕ) → c ≤ i → i < c + n → signed (f i) ≡ g i) → signed (least f top c n) ≡ least_z g (signed top) c n
unfolding least least_z
signed_least f g top c zero h = refl
signed_least f g top c (suc n) h =
    signed_min (f c) (least f top (suc c) n)
    ∙ lesser_same (h c (omega arith) (omega arith)) (signed_least f g top (suc c) n (λ i k l. h i (omega arith) (omega arith)))

-- the least of three places
least_three : (f g : ℕ → ℕ) (c : ℕ) → least_edited f g c c ≡ min (f c) (min (g c) (f (c - 1)))
unfolding least_edited least
least_three f g c = let e : c + 1 - c ≡ 1 = omega arith in rw e

table_most : (s : Settings) → Tables s → (right : Bool) (i : ℕ) → get_or (table_of s right) i 0 ≤ 1023
table_most s t right i = grind (arith, t.left i, t.right i)

module _ (s : Settings) (tables : Tables s) (right : Bool) (y : ℕ) (h : y < s.h) where
  -- the place of a column by the depth that is held for it
  place_with_lem : (d : Depths) → DepthsSized s d → (c : ℕ) → c < s.w → signed (view_place s right d y c) ≡ place_with s right c (held_depth s right d y c)
  unfolding view_place
  place_with_lem d sized c k =
      let row : List ℕ = row_of (depths_of d right) s.w y in
      let n : length row ≡ s.w = length_plane_row (depths_of d right) s.w s.h y (depths_length s sized right) h in
      signed_place_lem (table_of s right) (seen right row) c (table_most s tables right _)
      ∙ ap (λ (q : ℕ). place_with s right c q)
      (get_or_seen 0 right row c (rw n k) ∙ ap (λ (m : ℕ). get_or row (entry_of right m c) 0) n ∙ get_or_row 0 (depths_of d right) s.w y (entry_of right s.w c) (entry_within right s.w c k))

  low_one : (d e : Depths) (c : ℕ) → signed (span_low (view_place s right d y) (view_place s right e y) c c) ≡ signed (least_edited (view_place s right d y) (view_place s right e y) c c) -ℤ pos 1
  unfolding view_place
  low_one d e c =
      signed_low (table_of s right) (seen right (row_of (depths_of d right) s.w y)) (seen right (row_of (depths_of e right) s.w y)) c c (table_most s tables right)

  -- low of an edit from the depths d to e, where depth q stands in column c then
  pub low_places :
      (d e : Depths) → DepthsSized s d → DepthsSized s e → (c q : ℕ) → c < s.w → held_depth s right e y c ≡ q →
      low_of (view_place s right d y) (view_place s right e y) c ≡ held_low s right d y c q
  unfolding low_of held_low
  low_places d e sized fits c q k there =
      let f : ℕ → ℕ = view_place s right d y in
      let g : ℕ → ℕ = view_place s right e y in
      low_one d e c
      ∙ ap (λ (z : ℤ). z -ℤ pos 1)
      (ap signed (least_three f g c) ∙ signed_min (f c) (min (g c) (f (c - 1)))
      ∙ lesser_same (place_with_lem d sized c k)
      (signed_min (g c) (f (c - 1)) ∙ lesser_same (place_with_lem e fits c k ∙ ap (place_with s right c) there) (place_with_lem d sized (c - 1) (omega arith))))

  -- high: the least place of the columns after c, and 4 × w where there is none
  pub high_places :
      (d : Depths) → DepthsSized s d → (c : ℕ) → c < s.w →
      high_of (view_place s right d y) s.w c ≡ least_z (λ i. place_with s right i (held_depth s right d y i)) (pos (4 * s.w)) (c + 1) (s.w - (c + 1))
  unfolding span_high limit
  high_places d sized c k =
      high_span (view_place s right d y) s.w c
      ∙ signed_least (view_place s right d y) (λ i. place_with s right i (held_depth s right d y i)) (quarter s.w) (c + 1) (s.w - (c + 1))
      (λ i a b. place_with_lem d sized i (omega arith))
      ∙ ap (λ (z : ℤ). least_z (λ i. place_with s right i (held_depth s right d y i)) z (c + 1) (s.w - (c + 1))) (signed_quarter s.w)

  module _ (p : Pictures) (d : Depths) (sized : DepthsSized s d) where
    abbrev drawn : Line
    drawn = line_of s p d right y

    -- the limit that is held for a column is the limit of the row as the view reads it
    limit_held : (c : ℕ) → c < s.w → held_limit s right (fresh s p d) y c ≡ signed (limit (view_place s right d y) s.w c)
    unfolding fresh_row view_place limit_at
    limit_held c k =
        let i : ℕ = entry_of right s.w c in
        let n : width drawn ≡ s.w = wide s p d sized right y h in
        let i< : i < s.w = entry_within right s.w c k in
        ap (λ (v : View). entry_at v.limits s.w y i (pos 0)) (view_fresh s p d right)
        ∙ limit_fresh s p d sized right y i h i<
        ∙ get_or_view_limits right drawn i (rw n i<)
        ∙ ap (limit_at (seen_line right drawn)) (rw n (entry_entry right s.w c k))
        ∙ ap (λ (m : ℕ). signed (limit (view_place s right d y) m c)) (length_seen right drawn.depths ∙ n)

    -- high: the limit that a sound session holds for the next column
    pub high_limit : (x : Held) → x ≡ fresh s p d → (c : ℕ) → c < s.w → high_of (view_place s right d y) s.w c ≡ held_high s right x y c
    unfolding high_of held_high span_high
    high_limit x sound c k =
        bool_cases (eqb (c + 1) s.w) (λ t. rw t)
        (λ t. let other = eqb-false (c + 1) s.w t in
        rw (t, sound) (sym (limit_held (c + 1) (omega arith))))

-- ---- a session

column_entry : (right : Bool) (w x : ℕ) → first_column right w x 1 ≡ entry_of right w x
unfolding first_column entry_of
column_entry true w x = omega arith
column_entry false w x = refl

-- of a block's entries in row order the first is at its first row and column
first_entry : (y x n : ℕ) → (y - y) * n + (x - x) ≡ 0
first_entry y x n = grind arith

-- limits are read as they stand
high_read : (s : Settings) (right : Bool) (h : Held) (y c : ℕ) → held_high s right (read_held h) y c ≡ held_high s right h y c
unfolding held_high read_held
high_read s right h y c = grind arith

module _ (s : Settings) (p : Pictures) (d : Depths) (h : Held) (v : ℕ) (b : Block) (c : List ℕ) (sized : DepthsSized s d) (tables : Tables s) (inside : Inside s b) (one : OneDepth b) (sound : Sound s p d (read_held h)) where
  abbrev right : Bool
  right = is_right v

  abbrev column : ℕ
  column = entry_of right s.w b.column

  -- the candidate's depth stands in the block then
  there : held_depth s right (written s v b c d) b.row column ≡ get_or c 0 0
  there =
      let x< : b.column < s.w = omega arith in
      let plane : List ℕ = depths_of d right in
      let row< : b.row * s.w + s.w ≤ length plane = omega (arith, depths_length s sized right, rows_apart s.w b.row s.h (omega arith)) in
      rw (entry_entry right s.w b.column x<, written_own s v b c d)
      (sym (get_or_row 0 (written_plane s.w b c plane) s.w b.row b.column x<)
      ∙ written_inside s.w b c plane b.row row< inside.right b.column (omega arith) (omega arith) (omega arith) (omega arith)
      ∙ ap (λ (i : ℕ). get_or c i 0) (first_entry b.row b.column b.width))

  pub length-held : span_length s right b d (written s v b c d) ≡ held_length s right b d h (get_or c 0 0)
  unfolding span_length length_of held_length
  length-held =
      let y< : b.row < s.h = omega arith in
      let x< : b.column < s.w = omega arith in
      let c< : column < s.w = entry_within right s.w b.column x< in
      rw (
        column_entry right s.w b.column,
        high_limit s tables right b.row y< p d sized (read_held h) sound.held column c<,
        high_read s right h b.row column,
        low_places s tables right b.row y< d (written s v b c d) sized (sized_written s v b c d sized) column (get_or c 0 0) c< there,
      )

pub get_held :
    (s : Settings) (p : Pictures) (d : Depths) (h : Held) (v : ℕ) (b : Block) (c : Candidate) (x : List ℕ) (r : TrialReply) → GetPost s p d h v b c x r → Sound s p d (read_held h) →
    r.number ≡ 0 → OneDepth b → nat_abs r.change ≤ most_change (held_length s (is_right v) b d h (get_or (filled b c x) 0 0))
get_held s p d h v b c x r post sound z one =
    let f = early_facts s p d h v b c (length x) (get_early s p d h v b c x post z) in
    rw (length-held s p d h v b (filled b c x) f.0.depths f.0.tables f.1.block one sound) at (get_within s p d h v b c x r post sound z one)
