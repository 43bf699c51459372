-- Some rows of a record's words, narrowed in a room.
--     part_within    their words lie within the record's
--     part_depths    they are depths
--     part_rows      they are rows of the words
use Prim.Native.Nat.{ℕ, ◌+◌, ◌-◌, ◌*◌, ◌<◌, ◌≤◌}
use mathlib.Core.Path.{◌≡◌, sym, ap, ◌∙◌}
use mathlib.Core.Bool.{true}
use mathlib.Core.List.{List}
use native.Mathlib.Omega.{arith}
use native.Mathlib.Nat.{mul_comm, mul-le-mul_right, add-mul}
use lib.ListN.{length, take, get_or, length-take, drop, get_or-eq_default}
use lib.Seq.{get_or-take, get_or-drop, ext_get_or}
use Rattle.model.specs.Lists.{row_of}
use Rattle.model.specs.Refusals.{up_to}
use Rattle.model.proofs.Choice.{lt_or_le}
use Rattle.model.proofs.Lists.{length-row, get_or_row, rows_apart}
use Rattle.model.proofs.Refusals.{up_to_most, up_to_yes}
use Rattle.planes.proofs.Splices.{part_length}
use Rattle.records.specs.Rows.{part_of}
use mathlib.Core.Logic.{⊎_elim}

-- n rows of a block that is w wide, from row i on, lie within the words of its m rows
pub part_within : (w i n m : ℕ) → i + n ≤ m → i * w + n * w ≤ w * m
part_within w i n m h = omega (arith, mul-le-mul_right w h, mul_comm m w, add-mul i n w)

-- some of the words are depths where all are
pub part_depths : (words : List ℕ) (a b : ℕ) → up_to 255 words ≡ true → up_to 255 (take a (drop b words)) ≡ true
part_depths words a b e =
    up_to_yes 255 (take a (drop b words))
    (λ k.
    ⊎_elim
    (λ h. rw (get_or-take a (drop b words) k 0 h, get_or-drop b words k 0) (up_to_most 255 words e (b + k)))
    (λ h. rw (get_or-eq_default (take a (drop b words)) 0 {n = k} (omega (arith, length-take {A = ℕ}))) (omega arith))
    (lt_or_le k a))

module _ (words : List ℕ) (w i n m : ℕ) (size : length words ≡ w * m) (more : i + n ≤ m) where
  pub part_size : length (part_of words w i n) ≡ n * w
  part_size = part_length words (i * w) (n * w) (omega (arith, part_within w i n m more))

  entry : (k : ℕ) → k < n * w → get_or (part_of words w i n) k 0 ≡ get_or words (i * w + k) 0
  entry k h = get_or-take (i * w + n * w - i * w) (drop (i * w) words) k 0 (omega arith) ∙ get_or-drop (i * w) words k 0

  -- they are rows of the words
  pub part_rows : (k : ℕ) → k < n → row_of (part_of words w i n) w k ≡ row_of words w (i + k)
  part_rows k h =
      let inside : k * w + w ≤ n * w = rows_apart w k n h in
      let all = part_within w i n m more in
      let at : (i + k) * w ≡ i * w + k * w = add-mul i k w in
      let a = length-row (part_of words w i n) w k (omega (arith, part_size)) in
      let b = length-row words w (i + k) (omega (arith, size)) in
      ext_get_or 0 (row_of (part_of words w i n) w k) (row_of words w (i + k)) (a ∙ sym b)
      (λ x l.
      let xw : x < w = omega (arith, a) in
      let e : i * w + (k * w + x) ≡ (i + k) * w + x = omega arith in
      get_or_row 0 (part_of words w i n) w k x xw ∙ entry (k * w + x) (omega arith) ∙ ap (λ (y : ℕ). get_or words y 0) e
      ∙ sym (get_or_row 0 words w (i + k) x xw))
