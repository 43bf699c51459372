-- CHECK (document 01, "Calls and what they turn down"): every held entry against a fresh drawing.
use Rattle.std.specs.Prelude.{ℕ, zero, suc, ◌+◌, ◌/◌, ◌%◌, Bool, cond, ◌&&◌, ◌||◌, List, ltb, eqb, ℤ, pos}
use Rattle.std.specs.Int.Signed.{le_z}
use Rattle.model.specs.declared.Settings.{Settings}
use Rattle.model.specs.declared.Report.{Report}
use Rattle.model.specs.declared.Report.TheVariants.{Sound, Difference, Total}
use Rattle.model.specs.Lists.{row_of, entry_at}
use Rattle.model.specs.Marks.{mark_bytes, mark_at, spare_bits}
use Rattle.model.specs.Planes.{Pictures, Depths, View, Held, area}
use Rattle.model.specs.Fresh.{fresh, fresh_total}

-- the entries of two planes at column x of row y are equal, as they stand (document 02, card 12)
abbrev pub same_entry : ℕ → List ℕ → List ℕ → ℕ → ℕ → Bool
same_entry w a b y x = eqb (entry_at a w y x 0) (entry_at b w y x 0)

abbrev pub same_limit : ℕ → List ℤ → List ℤ → ℕ → ℕ → Bool
same_limit w a b y x = le_z (entry_at a w y x (pos 0)) (entry_at b w y x (pos 0)) && le_z (entry_at b w y x (pos 0)) (entry_at a w y x (pos 0))

-- the marks at column x of a row; spare bits count with the row's last column
unfoldable pub same_mark : ℕ → List ℕ → List ℕ → ℕ → Bool
same_mark w a b x = eqb (mark_at a x) (mark_at b x) && (ltb (x + 1) w || eqb (spare_bits a w) (spare_bits b w))

-- all that is held of a view at column x of row y
unfoldable pub same_view : ℕ → View → View → ℕ → ℕ → Bool
same_view w a b y x =
    (same_entry w a.samples b.samples y x && same_entry w a.fronts b.fronts y x)
    && (same_limit w a.limits b.limits y x && same_mark w (row_of a.marks (mark_bytes w) y) (row_of b.marks (mark_bytes w) y) x)

-- every held entry at column x of row y
unfoldable pub same_at : ℕ → Held → Held → ℕ → ℕ → Bool
same_at w a b y x =
    same_view w a.left b.left y x && (same_view w a.right b.right y x && same_entry w a.combined b.combined y x)

-- the least k below n at which the test fails; n where there is none
unfoldable pub first_bad : (ℕ → Bool) → ℕ → ℕ
first_bad good zero = zero
first_bad good (suc n) = cond (ltb (first_bad good n) n) (first_bad good n) (cond (good n) (suc n) n)

-- the first difference by rows, as row × w + column
unfoldable pub first_difference : Settings → Held → Held → ℕ
first_difference s a b = first_bad (λ k. same_at s.w a b (k / s.w) (k % s.w)) (area s)

-- sound, or row and column of the first difference by rows, or "total" if only that differs
unfoldable pub report_of : Settings → Pictures → Depths → Held → Report
report_of s p d h =
    let k = first_difference s h (fresh s p d) in
    cond (ltb k (area s)) (Difference (k / s.w) (k % s.w)) (cond (eqb s.total (fresh_total s p d)) Sound Total)
