-- Document 01, "Small rows and sessions", its last paragraphs: the text that the row printer reads, with the ten bits of document 02, card 12.
use Rattle.std.specs.Prelude.{ℕ, zero, suc, ◌+◌, ◌/◌, ◌%◌, ◌≤◌, ◌≡◌, cond, List, [], ◌∷◌, ◌++◌, ltb, length}
use Rattle.model.specs.Row.{greatest}

-- What a text says: w, the samples and the depths.
pub record RowText : Type 0 where
  pub w : ℕ
  pub samples : List ℕ
  pub depths : List ℕ

abbrev pub row_text : ℕ → List ℕ → List ℕ → RowText
row_text w samples depths = record { w = w; samples = samples; depths = depths }

-- each number of a list is at most `most`
abbrev pub AtMost : ℕ → List ℕ → Type 0
AtMost most [] = Unit {0}
AtMost most (n ∷ ns) = (n ≤ most) × AtMost most ns

-- the greatest depth, since larger is nearer
abbrev pub nearest : ℕ
nearest = 255

-- w from 1 to 64; w samples; w depths; samples each 0 to 1,023 and depths each 0 to 255
pub record Valid (r : RowText) : Type 0 where
  pub w_least : 1 ≤ r.w
  pub w_most : r.w ≤ 64
  pub samples : length r.samples ≡ r.w
  pub depths : length r.depths ≡ r.w
  pub sample_range : AtMost greatest r.samples
  pub depth_range : AtMost nearest r.depths

-- the bytes of the text
abbrev pub digit : ℕ → ℕ
digit d = 48 + d

abbrev pub space : ℕ
space = 32

abbrev pub newline : ℕ
newline = 10

-- Decimal, without leading zeros: a number below 10 is its digit, and any other the digits of n div 10 and then n mod 10.
-- There is room for `more` digits after the first.
unfoldable pub decimal_in : ℕ → ℕ → List ℕ
decimal_in zero n = digit n ∷ []
decimal_in (suc more) n = cond (ltb n 10) (digit n ∷ []) (decimal_in more (n / 10) ++ (digit (n % 10) ∷ []))

-- A number n has at most n digits after its first.
unfoldable pub decimal : ℕ → List ℕ
decimal n = decimal_in n n

-- numbers with single spaces
unfoldable pub spaced : List ℕ → List ℕ
spaced [] = []
spaced (n ∷ []) = decimal n
spaced (n ∷ (m ∷ ms)) = decimal n ++ (space ∷ spaced (m ∷ ms))

-- Every line ends in a newline.
unfoldable pub text_line : List ℕ → List ℕ
text_line ns = spaced ns ++ (newline ∷ [])

-- Three lines: w; w samples; w depths.
unfoldable pub text_of : RowText → List ℕ
text_of r = text_line (r.w ∷ []) ++ (text_line r.samples ++ text_line r.depths)
