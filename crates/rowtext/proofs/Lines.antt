-- Reading a line.
--     line_printed                                    a printed line is read
--     line_read                                       what was read is a printed line
--     line_most                                       and its numbers are in range
--     turn_on, turn_off, turn_end                     the turns of a loop that reads a line number by number
use Prim.Native.Nat.{ℕ, zero, suc, ◌+◌, ◌-◌, ◌<◌, ◌≤◌}
use mathlib.Core.Path.{◌≡◌, refl, sym, ap, ◌∙◌}
use mathlib.Core.List.{List, [], ◌∷◌, ◌++◌, append_assoc}
use native.Mathlib.Omega.{arith}
use native.Mathlib.Numerals.{add-one}
use lib.ListN.{length, take, set}
use lib.Seq.{take-suc-set}
use Rattle.rowtext.specs.Format.{AtMost, space, newline, decimal, spaced, text_line}
use Rattle.rowtext.specs.Reader.{Step, got, nothing, read_field, mark_of, prepend, read_line}
use Rattle.rowtext.proofs.Numbers.{got≢nothing, got_value, got_rest, then_got, field_printed, field_read}

-- a line by its first number
pub one_line : (n : ℕ) (l : List ℕ) → text_line (n ∷ []) ++ l ≡ decimal n ++ (newline ∷ l)
unfolding text_line spaced
one_line n l = append_assoc (decimal n) (newline ∷ []) l

more_line : (n m : ℕ) (ms l : List ℕ) → text_line (n ∷ (m ∷ ms)) ++ l ≡ decimal n ++ (space ∷ (text_line (m ∷ ms) ++ l))
unfolding text_line spaced
more_line n m ms l = simp append_assoc

pub line_printed : (most n : ℕ) (ns l : List ℕ) → AtMost most (n ∷ ns) → read_line most (suc (length ns)) (text_line (n ∷ ns) ++ l) ≡ got (n ∷ ns) l
unfolding read_line
line_printed most n [] l h = rw (one_line n l, field_printed most newline n l h.0 (omega arith))
line_printed most n (m ∷ ms) l h =
    rw (more_line n m ms l, field_printed most space n (text_line (m ∷ ms) ++ l) h.0 (omega arith), line_printed most m ms l h.1)

-- a line that was read
pub record IsLine (most n : ℕ) (l ns m : List ℕ) : Type 0 where
  pub count : length ns ≡ n
  pub range : AtMost most ns
  pub text : l ≡ text_line ns ++ m

prepend_got : (v : ℕ) (s : Step (List ℕ)) (ns m : List ℕ) → prepend v s ≡ got ns m → (vs : List ℕ) × (s ≡ got vs m) × (v ∷ vs ≡ ns)
prepend_got v (got vs l) ns m e = (vs, ap (got vs) (got_rest e), got_value e)
prepend_got v nothing ns m e = got≢nothing e

-- a number before a line that was read
longer : (most n v : ℕ) (l rest vs m : List ℕ) → l ≡ decimal v ++ (space ∷ rest) → v ≤ most → IsLine most (suc n) rest vs m → IsLine most (suc (suc n)) l (v ∷ vs) m
longer most n v l rest [] m e h r = let z : ◌≡◌ {A = ℕ} 0 (suc n) = r.count in absurd (omega arith)
longer most n v l rest (u ∷ us) m e h r =
    record {
      count = ap suc r.count;
      range = (h, r.range);
      text = e ∙ ap (λ (x : List ℕ). decimal v ++ (space ∷ x)) r.text ∙ sym (more_line v u us m);
    }

pub line_read : (most n : ℕ) (l ns m : List ℕ) → 9 ≤ most → read_line most (suc n) l ≡ got ns m → IsLine most (suc n) l ns m
unfolding read_line
line_read most zero l ns m h e =
    let (v, rest, field, more) = then_got (read_field most newline l) (λ v rest. got (v ∷ []) rest) ns m e in
    let r = field_read most newline l v rest h field in
    let a : v ∷ [] ≡ ns = got_value more in
    let b : rest ≡ m = got_rest more in
    let one : IsLine most 1 l (v ∷ []) rest = record { count = refl; range = (r.1, tt); text = r.0 ∙ sym (one_line v rest) } in
    rw (a, b) at one
line_read most (suc n) l ns m h e =
    let (v, rest, field, more) = then_got (read_field most space l) (λ v rest. prepend v (read_line most (suc n) rest)) ns m e in
    let (vs, line, cons) = prepend_got v (read_line most (suc n) rest) ns m more in
    let r = field_read most space l v rest h field in
    rw cons at (longer most n v l rest vs m r.0 r.1 (line_read most n rest vs m h line))

pub line_most : (most n : ℕ) (l ns m : List ℕ) → 9 ≤ most → read_line most n l ≡ got ns m → AtMost most ns
unfolding read_line
line_most most zero l ns m h e = let a : [] ≡ ns = got_value e in rw (← a) tt
line_most most (suc n) l ns m h e = (line_read most n l ns m h e).range

-- the numbers vs before those of a line's rest
abbrev pub ahead : List ℕ → Step (List ℕ) → Step (List ℕ)
ahead [] s = s
ahead (v ∷ vs) s = prepend v (ahead vs s)

pub ahead_more : (vs : List ℕ) (v : ℕ) (s : Step (List ℕ)) → ahead (vs ++ (v ∷ [])) s ≡ ahead vs (prepend v s)
ahead_more [] v s = refl
ahead_more (u ∷ us) v s = ap (prepend u) (ahead_more us v s)

pub ahead_all : (vs l : List ℕ) → ahead vs (got [] l) ≡ got vs l
ahead_all [] l = refl
ahead_all (v ∷ vs) l = rw (ahead_all vs l)

pub ahead_none : (vs : List ℕ) → ahead vs nothing ≡ nothing
ahead_none [] = refl
ahead_none (v ∷ vs) = rw (ahead_none vs)

-- A turn of the loop that reads a line: k of its w numbers are read, l is left.
module _ (most w k : ℕ) (values l : List ℕ) (h : k < w) where
  pub turn_on : (v : ℕ) (m : List ℕ) → k < length values → read_field most (mark_of (w - k - 1)) l ≡ got v m → ahead (take k values) (read_line most (w - k) l) ≡ ahead (take (k + 1) (set values k v)) (read_line most (w - (k + 1)) m)
  unfolding read_line
  turn_on v m j e =
      let a : w - k ≡ suc (w - k - 1) = omega arith in
      let b : w - (k + 1) ≡ w - k - 1 = omega arith in
      rw (a, b, add-one k, take-suc-set values k v j, ahead_more (take k values) v (read_line most (w - k - 1) m), e)

  pub turn_off : read_field most (mark_of (w - k - 1)) l ≡ nothing → ahead (take k values) (read_line most (w - k) l) ≡ nothing
  unfolding read_line
  turn_off e =
      let a : w - k ≡ suc (w - k - 1) = omega arith in
      rw (a, e) (ahead_none (take k values))

pub turn_end : (most w k : ℕ) (values l : List ℕ) → w ≡ k → ahead (take k values) (read_line most (w - k) l) ≡ got (take w values) l
unfolding read_line
turn_end most w k values l h =
    let b : w - k ≡ 0 = omega arith in
    rw (b, h, ahead_all (take k values) l)

-- what a function that reads a line needs of these
pub ruleset turns = (turn_on, turn_off, turn_end)
