-- Separate edits, written into the plain record.
--     test_separate, separate_test     for blocks that 5 lets pass, two edits are separate exactly where their views differ or the usual test of two rectangles says so
--     separate_sym                     it does not matter which is named first
--     written_commutes                 two separate edits end alike in both orders
--     still_separate, plain_order      and so do the edits of a list, any two of which are separate, in every order
use Prim.Native.Nat.{ℕ, ◌/◌, ◌%◌, ◌<◌, max}
use mathlib.Core.Path.{◌≡◌, refl, sym, ap, ◌∙◌, subst}
use mathlib.Core.Bool.{Bool, true, false, cond, not, or-true}
use mathlib.Core.Logic.{inl, inr}
use mathlib.Core.List.Permᴰ
use mathlib.Core.List.{List, ◌∷◌}
use native.Mathlib.Omega.{arith}
use lib.ListN.{length}
use Rattle.std.proofs.lemmas.Bool.Decides.{nat_tests}
use lib.Seq.{ext_get_or}
use Rattle.model.specs.declared.Settings.{Settings}
use Rattle.model.specs.declared.Block.{Block}
use Rattle.model.specs.Views.{is_right}
use Rattle.model.specs.Planes.{Depths}
use Rattle.model.specs.Blocks.{in_block, written_plane, written}
use Rattle.model.proofs.Choice.{bool_cases, clash}
use Rattle.model.proofs.Refusals.{Inside}
use Rattle.model.proofs.Written.{length-written, written_entry, Covers, covers}
use Rattle.run.specs.Run.{Plain, plain}
use Rattle.run.specs.Shared.{in_turn, with_standing}
use Rattle.order.specs.Separate.{Edit, Disjoint, Separate, SeparateFrom, AllSeparate, apart, separate, other_view}
use Rattle.order.specs.Orders.{Reordered}

-- ---- the usual test

module _ (a b : Block) where
  -- a position in both: none ends before the other begins
  shared_fails : (y x : ℕ) → Covers a y x → Covers b y x → apart a b ≡ false
  unfolding apart
  shared_fails y x h k = grind (arith, nat_tests)

  pub apart_disjoint : apart a b ≡ true → Disjoint a b
  apart_disjoint e y x h k = clash e (shared_fails y x (covers a y x h) (covers b y x k))

  -- where the test fails, the later of the two first rows and the later of the two first columns meet in a position of both
  pub disjoint_apart : (s : Settings) → Inside s a → Inside s b → Disjoint a b → apart a b ≡ true
  unfolding apart
  disjoint_apart s u v h =
      let both = h (max a.row b.row) (max a.column b.column) in grind (arith, nat_tests)

-- two tests with other outcomes
differ_true : (a b : Bool) → cond a (not b) b ≡ true → a ≡ b → ⊥
differ_true a b e q = grind (arith, nat_tests)

differ_yes : (a b : Bool) → (a ≡ b → ⊥) → cond a (not b) b ≡ true
differ_yes a b h = grind (arith, nat_tests)

module _ (k l : Edit) where
  pub test_separate : separate k l ≡ true → Separate k l
  unfolding separate Separate
  test_separate e =
      bool_cases (other_view k.view l.view) (λ t. inl (differ_true (is_right k.view) (is_right l.view) t))
      (λ f. inr (apart_disjoint k.block l.block (rw f at e)))

  pub separate_test : (s : Settings) → Inside s k.block → Inside s l.block → Separate k l → separate k l ≡ true
  unfolding separate Separate
  separate_test s u v (inl h) = rw (differ_yes (is_right k.view) (is_right l.view) h)
  separate_test s u v (inr h) = rw (disjoint_apart k.block l.block s u v h, or-true)

-- ---- two edits

pub separate_sym : (k l : Edit) → Separate k l → Separate l k
unfolding Separate
separate_sym k l (inl h) = inl (λ e. h (sym e))
separate_sym k l (inr h) = inr (λ y x u v. h y x v u)

plane_commutes :
    (w : ℕ) (a b : Block) (c e plane : List ℕ) → Disjoint a b → written_plane w a c (written_plane w b e plane) ≡ written_plane w b e (written_plane w a c plane)
unfolding in_block
plane_commutes w a b c e plane apart =
    let n : length (written_plane w b e plane) ≡ length plane = length-written w b e plane in
    let m : length (written_plane w a c plane) ≡ length plane = length-written w a c plane in
    let n' = length-written w a c (written_plane w b e plane) in
    let m' = length-written w b e (written_plane w a c plane) in
    ext_get_or 0 (written_plane w a c (written_plane w b e plane)) (written_plane w b e (written_plane w a c plane)) (n' ∙ n ∙ sym (m' ∙ m))
    (λ i h.
    let l : i < length plane = omega arith in
    rw (written_entry w a c (written_plane w b e plane) i (rw n l), written_entry w b e (written_plane w a c plane) i (rw m l), written_entry w a c plane i l, written_entry w b e plane i l)
    (bool_cases (in_block w a i) (λ t. bool_cases (in_block w b i) (λ u. absurd (apart (i / w) (i % w) t u)) (λ u. rw (t, u))) (λ f. rw f)))

-- In one view the blocks are disjoint.
same_view_lem : (k l : Edit) → Separate k l → is_right k.view ≡ is_right l.view → Disjoint k.block l.block
unfolding Separate
same_view_lem k l (inl h) e = absurd (h e)
same_view_lem k l (inr h) e = h

module _ (s : Settings) (k l : Edit) (h : Separate k l) where
  abbrev writes : Edit → List ℕ → List ℕ
  writes e = written_plane s.w e.block e.depths

  one_plane : (plane : List ℕ) → is_right k.view ≡ is_right l.view → writes k (writes l plane) ≡ writes l (writes k plane)
  one_plane plane e = plane_commutes s.w k.block l.block k.depths l.depths plane (same_view_lem k l h e)

  pub written_commutes : (d : Depths) → written s k.view k.block k.depths (written s l.view l.block l.depths d) ≡ written s l.view l.block l.depths (written s k.view k.block k.depths d)
  unfolding written
  written_commutes d = let right = one_plane d.right in let left = one_plane d.left in grind (arith, nat_tests)

-- ---- the edits of a list

from_permuted : (k : Edit) {ls ms : List Edit} → Reordered ls ms → SeparateFrom k ls → SeparateFrom k ms
unfolding SeparateFrom
from_permuted k Permᴰ.nil h = h
from_permuted k (Permᴰ.cons e p) (h, hs) = (subst (Separate k) e h, from_permuted k p hs)
from_permuted k (Permᴰ.swap e f) (h, (i, hs)) = (subst (Separate k) f i, (subst (Separate k) e h, hs))
from_permuted k (Permᴰ.trans p q) h = from_permuted k q (from_permuted k p h)

pub still_separate : {ks ls : List Edit} → Reordered ks ls → AllSeparate ks → AllSeparate ls
unfolding SeparateFrom AllSeparate
still_separate Permᴰ.nil h = h
still_separate (Permᴰ.cons {l₂ = ls} e p) (h, hs) = (subst (λ (k : Edit). SeparateFrom k ls) e (from_permuted _ p h), still_separate p hs)
still_separate (Permᴰ.swap {a = a} {b = b} {b' = c} {l = ls} e f) ((h, hs), (is, rest)) = (
  (subst (λ (k : Edit). Separate k c) f (subst (Separate b) e (separate_sym a b h)), subst (λ (k : Edit). SeparateFrom k ls) f is),
  (subst (λ (k : Edit). SeparateFrom k ls) e hs, rest),
)
still_separate (Permᴰ.trans p q) h = still_separate q (still_separate p h)

depths_order : (s : Settings) (d : Depths) {ks ls : List Edit} → Reordered ks ls → AllSeparate ks → in_turn s d ks ≡ in_turn s d ls
unfolding SeparateFrom AllSeparate in_turn
depths_order s d Permᴰ.nil h = refl
depths_order s d (Permᴰ.cons {a = a} {l₂ = ls} e p) (h, hs) = ap (written s a.view a.block a.depths) (depths_order s d p hs) ∙ ap (λ (k : Edit). in_turn s d (k ∷ ls)) e
depths_order s d (Permᴰ.swap {a = a} {b = b} {a' = c} {l = ls} e f) ((h, hs), is) =
    written_commutes s a b h (in_turn s d ls) ∙ ap (λ (k : Edit). in_turn s d (k ∷ a ∷ ls)) f ∙ ap (λ (k : Edit). in_turn s d (c ∷ k ∷ ls)) e
depths_order s d (Permᴰ.trans p q) h = depths_order s d p h ∙ depths_order s d q (still_separate p h)

-- The plain record ends alike: it is judged by the SETs that stand, in whatever order they were made.
pub plain_order : (r : Plain) {ks ls : List Edit} → Reordered ks ls → AllSeparate ks → with_standing r ks ≡ with_standing r ls
plain_order r p h = ap (plain r.settings r.pictures) (depths_order r.settings r.depths p h)
