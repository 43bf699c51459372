-- Document 01, "One row of the left view", with the filter of document 02, card 2, the near edges of card 7, the two numbers of card 11 and the
-- ten bits of card 12.
--
-- A place, 4 × c − table[d] in quarters (`signed_place`), may be as low as −1,023. After that every number of quarters is kept as a natural
-- number, raised by 1,024, and `signed` takes that away again. The laws of proofs/Signs show that nothing is lost by it:
--     signed_place_lem the raised place of column c stands for 4 × c − table[d], where the table's entry is at most 1,023
--     signed_quarter   the raised position p stands for 4 × p
--     signed_le        raised numbers are ordered as what they stand for
--     signed_gap       and differ by as much
use Rattle.std.specs.Prelude.{ℕ, zero, suc, ◌+◌, ◌-◌, ◌*◌, ◌/◌, min, Bool, cond, ◌&&◌, List, [], ◌∷◌, length, get_or, leb, ltb, eqb, ℤ, pos, negsuc, neg_ℤ, ◌+ℤ◌, ◌-ℤ◌, ◌*ℤ◌}
use Rattle.std.proofs.Math.IntN.{sub_ℕ}
use Rattle.std.specs.Int.Signed.{lt_z, shr_z}
use Rattle.model.specs.declared.Kind.{Kind}
use Rattle.model.specs.declared.Kind.TheVariants.{Hidden, Smooth, Torn}
use Rattle.model.specs.declared.Pixel.{Pixel}
use Rattle.model.specs.declared.Tear.{Tear}
use Rattle.model.specs.Lists.{list_of}

-- What a row is drawn from: where it tears, a table of disparities, a row of texture samples, a row of depths.
pub record Line : Type 0 where
  pub tear : Tear
  pub table : List ℕ
  pub texture : List ℕ
  pub depths : List ℕ

abbrev pub line : Tear → List ℕ → List ℕ → List ℕ → Line
line e t s d = record { tear = e; table = t; texture = s; depths = d }

-- w, the number of its columns
abbrev pub width : Line → ℕ
width l = length l.depths

abbrev pub raised : ℕ
raised = 1024

-- what a raised number of quarters stands for
abbrev pub signed : ℕ → ℤ
signed x = sub_ℕ x raised

-- 4 × p, raised
abbrev pub quarter : ℕ → ℕ
quarter p = 4 * p + raised

-- The place of column c with depth d is 4 × c − table[d].
abbrev pub signed_place : List ℕ → List ℕ → ℕ → ℤ
signed_place t d c = pos (4 * c) -ℤ pos (get_or t (get_or d c 0) 0)

-- the same, raised
unfoldable pub place : List ℕ → List ℕ → ℕ → ℕ
place t d c = quarter c - get_or t (get_or d c 0) 0

abbrev pub place_in : Line → ℕ → ℕ
place_in l = place l.table l.depths

-- the least place of the n columns from c on, and `top` where it is less
unfoldable pub least : (ℕ → ℕ) → ℕ → ℕ → ℕ → ℕ
least f top c zero = top
least f top c (suc n) = min (f c) (least f top (suc c) n)

-- The limit of c is the least place among columns c to w − 1. Past the last column it is the row's end, above every place.
unfoldable pub limit : (ℕ → ℕ) → ℕ → ℕ → ℕ
limit f w c = least f (quarter w) c (w - c)

-- The owner of x: the greatest column below n whose place is at most x.
unfoldable pub owner : (ℕ → ℕ) → ℕ → ℕ → ℕ
owner f x zero = 0
owner f x (suc n) = cond (leb (f n) x) n (owner f x n)

-- The kind of a pair follows from its gap: 0 or less is hidden; 1 to the widest gap is smooth; more is torn (document 02, card 11).
unfoldable pub kind_of : ℕ → ℤ → Kind
kind_of widest gap = cond (lt_z gap (pos 1)) Hidden (cond (lt_z (pos widest) gap) Torn Smooth)

-- k = (8 × t + gap) div (2 × gap), from 0 to 4
unfoldable pub step_of : ℕ → ℕ → ℕ
step_of t gap = (8 * t + gap) / (2 * gap)

-- ---- Card 12: ten-bit pictures

-- the greatest sample
abbrev pub greatest : ℕ
greatest = 1023

-- A higher entry is read as the greatest sample.
unfoldable pub read : ℕ → ℕ
read x = min x greatest

-- the sample of column c, as it is read
unfoldable pub sample_in : List ℕ → ℕ → ℕ
sample_in s c = read (get_or s c 0)

-- ---- Card 2: quarter positions by the HEVC filter

-- −n
abbrev pub neg : ℕ → ℤ
neg n = neg_ℤ (pos n)

-- the H.265 luma filters for k of 1, 2, 3: the taps of columns c − 3 to c + 4
unfoldable pub taps1 : List ℤ
taps1 = neg 1 ∷ pos 4 ∷ neg 10 ∷ pos 58 ∷ pos 17 ∷ neg 5 ∷ pos 1 ∷ pos 0 ∷ []

unfoldable pub taps2 : List ℤ
taps2 = neg 1 ∷ pos 4 ∷ neg 11 ∷ pos 40 ∷ pos 40 ∷ neg 11 ∷ pos 4 ∷ neg 1 ∷ []

unfoldable pub taps3 : List ℤ
taps3 = pos 0 ∷ pos 1 ∷ neg 5 ∷ pos 17 ∷ pos 58 ∷ neg 10 ∷ pos 4 ∷ neg 1 ∷ []

-- The sample of column i − 3, ends repeated: below column 0 the naturals' difference is 0, past the last column the lesser is the last.
unfoldable pub repeated : List ℕ → ℕ → ℕ
repeated s i = sample_in s (min (i - 3) (length s - 1))

-- taps times samples from column i − 3 on, added up
unfoldable pub weighted : List ℤ → List ℕ → ℕ → ℤ
weighted [] s i = pos 0
weighted (t ∷ ts) s i = t *ℤ pos (repeated s i) +ℤ weighted ts s (suc i)

-- held to 0 to 1,023
abbrev pub clipped : ℤ → ℕ
clipped (pos n) = min n greatest
clipped (negsuc n) = 0

-- The sum from column c − 3 on, plus 32, divided by 64 rounding down (`shr_z`), held to 0 to 1,023.
unfoldable pub filtered : List ℤ → List ℕ → ℕ → ℕ
filtered taps s c = clipped (shr_z (weighted taps s c +ℤ pos 32) 64)

-- k quarters of the way from column c to the next: k of 1, 2, 3 use the filters, k of 0 and 4 stay plain samples.
unfoldable pub mixed : List ℕ → ℕ → ℕ → ℕ
mixed s c k =
    cond (eqb k 1) (filtered taps1 s c)
    (cond (eqb k 2) (filtered taps2 s c)
    (cond (eqb k 3) (filtered taps3 s c)
    (cond (eqb k 0) (sample_in s c) (sample_in s (c + 1)))))

abbrev pub pixel : ℕ → ℕ → ℕ → Pixel
pixel sample mark front = record { sample = sample; mark = mark; front = front }

-- column c's own sample and depth, with a mark
abbrev pub column_pixel : Line → ℕ → ℕ → Pixel
column_pixel l c mark = pixel (sample_in l.texture c) mark (get_or l.depths c 0)

-- Smooth: the mixed sample, mark 0, front depth d[c].
unfoldable pub smooth_pixel : Line → ℕ → ℕ → ℕ → Pixel
smooth_pixel l c t gap = pixel (mixed l.texture c (step_of t gap)) 0 (get_or l.depths c 0)

-- Torn, t at most the distance (card 11): s[c], mark 0, d[c]. Torn, t of more: s[c + 1], mark 1, d[c + 1].
unfoldable pub torn_pixel : Line → ℕ → ℕ → Pixel
torn_pixel l c t = cond (leb t l.tear.distance) (column_pixel l c 0) (column_pixel l (c + 1) 1)

-- Last column: s[c] and d[c]; mark 0 if t is at most the distance, else 1.
unfoldable pub last_pixel : Line → ℕ → ℕ → Pixel
last_pixel l c t = cond (leb t l.tear.distance) (column_pixel l c 0) (column_pixel l c 1)

-- A hidden pair owns nothing, so its case shows nowhere.
abbrev pub by_kind : Kind → Pixel → Pixel → Pixel → Pixel
by_kind Hidden hidden smooth torn = hidden
by_kind Smooth hidden smooth torn = smooth
by_kind Torn hidden smooth torn = torn

-- what the pair of columns c and c + 1 shows at t
unfoldable pub pair_pixel : Line → ℕ → ℕ → Pixel
pair_pixel l c t =
    by_kind (kind_of l.tear.gap (sub_ℕ (place_in l (c + 1)) (place_in l c)))
    (column_pixel l c 0)
    (smooth_pixel l c t (place_in l (c + 1) - place_in l c))
    (torn_pixel l c t)

-- what column c itself shows at x; t = 4 × p − place(c)
unfoldable pub owned_pixel : Line → ℕ → ℕ → Pixel
owned_pixel l c x = cond (leb (width l) (c + 1)) (last_pixel l c (x - place_in l c)) (pair_pixel l c (x - place_in l c))

-- ---- Card 7: near edges begin at the rounded place

-- the greatest of the columns below n that is placed at m
unfoldable pub placed_at : (ℕ → ℕ) → ℕ → ℕ → ℕ
placed_at f m zero = 0
placed_at f m (suc n) = cond (eqb (f n) m) n (placed_at f m n)

-- The owner c of x isn't last, the place of c + 1 is above its limit m, and m − x is at most 1. What c owns lies below m.
unfoldable pub near_edge : (ℕ → ℕ) → ℕ → ℕ → ℕ → Bool
near_edge f w c x = ltb (c + 1) w && (ltb (limit f w (c + 1)) (f (c + 1)) && leb (limit f w (c + 1) - x) 1)

-- What x shows where column c owns it: at a near edge sample and front depth of the greatest column placed at m, mark 0.
unfoldable pub shown_pixel : Line → ℕ → ℕ → Pixel
shown_pixel l c x =
    cond (near_edge (place_in l) (width l) c x)
    (column_pixel l (placed_at (place_in l) (limit (place_in l) (width l) (c + 1)) (width l)) 0)
    (owned_pixel l c x)

-- what position p shows
unfoldable pub pixel_at : Line → ℕ → Pixel
pixel_at l p = shown_pixel l (owner (place_in l) (quarter p) (width l)) (quarter p)

-- the limit of column c, as a signed number
unfoldable pub limit_at : Line → ℕ → ℤ
limit_at l c = signed (limit (place_in l) (width l) c)

-- The drawn row, position by position and, for the limits, column by column.
pub record Row : Type 0 where
  pub samples : List ℕ
  pub marks : List ℕ
  pub fronts : List ℕ
  pub limits : List ℤ

unfoldable pub left_row : Line → Row
left_row l =
    record {
      samples = list_of (λ p. (pixel_at l p).sample) (width l);
      marks = list_of (λ p. (pixel_at l p).mark) (width l);
      fronts = list_of (λ p. (pixel_at l p).front) (width l);
      limits = list_of (limit_at l) (width l);
    }
