-- Planes of samples as they are read (document 02, card 12), part by part.
--     read_low, low_read        a plane without higher entries, and no other, is read as it stands
--     read_put, low_splice      a part that is put into a plane; of low values, nothing higher is written
--     low_list, low_seen        a list of low values, as a view reads it
--     none_then, low_kept       nothing higher written twice over, and into a plane of low values
use Prim.Native.Nat.{ℕ, ◌+◌, ◌-◌, ◌<◌, ◌≤◌}
use mathlib.Core.Path.{◌≡◌, sym, ap, subst, ◌∙◌}
use mathlib.Core.Bool.{Bool}
use mathlib.Core.Logic.{⊎_elim, ◌⊎◌, inl, inr}
use mathlib.Core.List.{List}
use native.Mathlib.Omega.{arith}
use lib.ListN.{length, get_or, get_or-eq_default}
use lib.Seq.{ext_get_or}
use Rattle.model.specs.Lists.{list_of}
use Rattle.model.specs.Row.{greatest, read, sample_in}
use Rattle.model.specs.Views.{seen, entry_of}
use Rattle.model.specs.Planes.{read_all, NoneHigher}
use Rattle.model.proofs.Choice.{lt_or_le}
use Rattle.model.proofs.Lists.{length-list_of, get_or-list_of}
use Rattle.model.proofs.Views.{length_seen, get_or_seen}
use Rattle.model.proofs.Totals.{read_same, sample_in_most}
use Rattle.model.proofs.Readings.{length-read_all, get_or-read_all}
use Rattle.planes.specs.Parts.{splice, Low}
use Rattle.planes.proofs.Splices.{length-splice, splice_under, splice_inside, splice_beyond}

pub read_low : (l : List ℕ) → Low l → read_all l ≡ l
unfolding sample_in
read_low l low = ext_get_or 0 (read_all l) l (length-read_all l) (λ i h. get_or-read_all l i ∙ read_same (get_or l i 0) (low i))

pub low_read : (l : List ℕ) → read_all l ≡ l → Low l
low_read l e i =
    subst (λ (x : ℕ). x ≤ greatest) (sym (get_or-read_all l i) ∙ ap (λ (z : List ℕ). get_or z i 0) e) (sample_in_most l i)

-- an entry of a plane with a part put into it, before the part, in it or after it
by_part : (P : ℕ → Type 0) (at n : ℕ) → ((i : ℕ) → i < at → P i) → ((i : ℕ) → i < n → P (at + i)) → ((i : ℕ) → at + n ≤ i → P i) → (i : ℕ) → P i
by_part P at n under inside beyond i =
    ⊎_elim (λ h. under i h)
    (λ h. ⊎_elim
    (λ k. let e : at + (i - at) ≡ i = omega arith in subst P e (inside (i - at) (omega arith)))
    (λ k. beyond i k)
    (lt_or_le i (at + n)))
    (lt_or_le i at)

module _ (l : List ℕ) (at : ℕ) (xs : List ℕ) (fits : at + length xs ≤ length l) where
  pub low_splice : Low xs → NoneHigher l (splice l at xs)
  low_splice part =
      by_part (λ i. (get_or (splice l at xs) i 0 ≤ greatest) ⊎ (get_or (splice l at xs) i 0 ≡ get_or l i 0)) at (length xs)
      (λ i h. inr (splice_under 0 l at xs fits i h))
      (λ i h. inl (rw (splice_inside 0 l at xs fits i h) (part i)))
      (λ i h. inr (splice_beyond 0 l at xs fits i h))

  read_splice : read_all (splice l at xs) ≡ splice (read_all l) at (read_all xs)
  unfolding sample_in
  read_splice =
      let fit : at + length (read_all xs) ≤ length (read_all l) = rw (length-read_all xs, length-read_all l) fits in
      let n : length (splice (read_all l) at (read_all xs)) ≡ length l = length-splice (read_all l) at (read_all xs) fit ∙ length-read_all l in
      ext_get_or 0 (read_all (splice l at xs)) (splice (read_all l) at (read_all xs))
      (length-read_all (splice l at xs) ∙ length-splice l at xs fits ∙ sym n)
      (λ i h. get_or-read_all (splice l at xs) i
      ∙ by_part (λ i. read (get_or (splice l at xs) i 0) ≡ get_or (splice (read_all l) at (read_all xs)) i 0) at (length xs)
      (λ i h. ap read (splice_under 0 l at xs fits i h) ∙ sym (splice_under 0 (read_all l) at (read_all xs) fit i h ∙ get_or-read_all l i))
      (λ i h. ap read (splice_inside 0 l at xs fits i h) ∙ sym (splice_inside 0 (read_all l) at (read_all xs) fit i (rw (length-read_all xs) h) ∙ get_or-read_all xs i))
      (λ i h. ap read (splice_beyond 0 l at xs fits i h) ∙ sym (splice_beyond 0 (read_all l) at (read_all xs) fit i (rw (length-read_all xs) h) ∙ get_or-read_all l i))
      i)

-- a part of low entries is read as it stands
pub read_put : (l : List ℕ) (at : ℕ) (xs : List ℕ) → at + length xs ≤ length l → Low xs → read_all (splice l at xs) ≡ splice (read_all l) at xs
read_put l at xs fits low = read_splice l at xs fits ∙ ap (splice (read_all l) at) (read_low xs low)

pub low_list : (f : ℕ → ℕ) (n : ℕ) → ((i : ℕ) → f i ≤ greatest) → Low (list_of f n)
low_list f n most i =
    ⊎_elim (λ h. rw (get_or-list_of 0 f n i h) (most i)) (λ h. rw (get_or-eq_default (list_of f n) 0 {n = i} (rw (length-list_of f n) h)) (omega arith))
    (lt_or_le i n)

pub low_seen : (r : Bool) (l : List ℕ) → Low l → Low (seen r l)
low_seen r l low i =
    ⊎_elim (λ h. rw (get_or_seen 0 r l i h) (low (entry_of r (length l) i)))
    (λ h. rw (get_or-eq_default (seen r l) 0 {n = i} (rw (length_seen r l) h)) (omega arith))
    (lt_or_le i (length l))

pub none_then : (a b c : List ℕ) → NoneHigher a b → NoneHigher b c → NoneHigher a c
none_then a b c first then i = ⊎_elim (λ h. inl h) (λ e. ⊎_elim (λ h. inl (rw e h)) (λ k. inr (e ∙ k)) (first i)) (then i)

pub low_kept : (a b : List ℕ) → NoneHigher a b → Low a → Low b
low_kept a b none low i = ⊎_elim (λ h. h) (λ e. rw e (low i)) (none i)
