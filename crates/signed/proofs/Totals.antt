-- The change of the total from two sums, and the range that refusal 8 asks of the total with it.
--     change_is                         the difference of two parts is that of the totals that they belong to
--     within_yes, within_no             the range, by the tests that the code makes
--     within_moves, moved_is            a total in range can be moved, and where it goes
--     change_range, change_total        where the held total is the fresh one, the change is in range and leads to the new one
use Prim.Native.Nat.{ℕ, suc, ◌+◌, ◌-◌, ◌*◌, ◌^◌, ◌<◌, ◌≤◌}
use mathlib.Core.Path.{◌≡◌, sym, ap, ◌∙◌}
use mathlib.Core.Bool.{true, false}
use mathlib.Core.Logic.{⊎_elim}
use native.Mathlib.Omega.{arith}
use borrow.Author.Tests.{le-leb, leb-true}
use lib.Dec.{leb}
use lib.IntN.{ℤ, pos, negsuc, sub_ℕ, nat_abs, ◌+ℤ◌, ◌-ℤ◌}
use Rattle.model.specs.declared.Settings.{Settings}
use Rattle.model.specs.Combined.{worst}
use Rattle.model.specs.Planes.{area}
use Rattle.model.specs.Refusals.{within, in_range}
use Rattle.model.proofs.Choice.{lt_or_le}
use Rattle.model.proofs.Signs.{sub_ℕ_same, minus}
use Rattle.signed.proofs.Signed.{sub_ℕ-pos, sub_ℕ_neg, add-sub_ℕ}

-- old and new are parts of the totals was and is, which agree elsewhere
pub change_is : (new old is was : ℕ) → is + old ≡ was + new → sub_ℕ new old ≡ pos is -ℤ pos was
change_is new old is was e = sub_ℕ_same new old is was (omega arith) ∙ sym (minus is was)

module _ (total old new : ℕ) where
  pub total_up : old ≤ total + new → pos total +ℤ sub_ℕ new old ≡ pos (total + new - old)
  total_up h = add-sub_ℕ total new old ∙ sub_ℕ-pos (total + new) old h

  pub total_below : total + new < old → pos total +ℤ sub_ℕ new old ≡ negsuc (old - suc (total + new))
  total_below h = add-sub_ℕ total new old ∙ sub_ℕ_neg (total + new) old h

  pub moved_is : old ≤ total + new → nat_abs (pos total +ℤ sub_ℕ new old) ≡ total + new - old
  moved_is h = ap nat_abs (total_up h)

  module _ (most : ℕ) where
    pub within_yes : old ≤ total + new → within (pos total +ℤ sub_ℕ new old) most ≡ leb (total + new - old) most
    within_yes h = ap (λ (z : ℤ). within z most) (total_up h)

    pub within_no : total + new < old → within (pos total +ℤ sub_ℕ new old) most ≡ false
    within_no h = ap (λ (z : ℤ). within z most) (total_below h)

    pub within_facts : within (pos total +ℤ sub_ℕ new old) most ≡ true → (old ≤ total + new) × (total + new ≤ most + old)
    within_facts e =
        ⊎_elim
        (λ h. let f = within_no h in let z : ◌≡◌ {A = ℕ} 0 1 = cc in absurd (omega arith))
        (λ h. let l = leb-true (total + new - old) most (sym (within_yes h) ∙ e) in (h, omega arith))
        (lt_or_le (total + new) old)

    pub within_moves : old < 2 ^ 62 → most < 2 ^ 62 → within (pos total +ℤ sub_ℕ new old) most ≡ true → (old ≤ total + new) × (total + new < 2 ^ 64)
    within_moves h k e = let f = within_facts e in (f.0, omega arith)

-- the held total is `was`, and the total with the candidate `is`
module _ (s : Settings) (new old is was : ℕ) (held : s.total ≡ was) (e : is + old ≡ was + new) where
  pub change_range : is ≤ worst * area s → in_range s (sub_ℕ new old) ≡ true
  unfolding in_range
  change_range h =
      within_yes s.total old new (worst * area s) (omega arith)
      ∙ le-leb (s.total + new - old) (worst * area s) (omega arith)

  pub change_total : nat_abs (pos s.total +ℤ sub_ℕ new old) ≡ is
  change_total = moved_is s.total old new (omega arith) ∙ omega arith
