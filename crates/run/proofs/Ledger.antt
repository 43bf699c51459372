-- The journal of a run with one journal (document 02, card 3): it holds the chain of the SETs standing, so that 13 never applies, 12 exactly where none
-- stands, and the newest record's depths written again make the depths what they were before the newest SET standing.
--     Link, Holds, Ledger                      what the journal holds
--     ledger_ok                                13 never applies
--     taking_none, taking_some                 12 exactly where no SET stands
--     ledger_opened, ledger_saved, ..-taken    OPEN and MOVE make it so; SET and TAKE BACK leave it so
--     taken_restores, taken_inside             what TAKE BACK writes restores, and lies within the picture
use Prim.Native.Nat.{ℕ, ◌+◌, ◌<◌, ◌≤◌}
use mathlib.Core.Path.{◌≡◌, refl, ap, sym, ◌∙◌, subst}
use mathlib.Core.Bool.{true, cond}
use mathlib.Core.List.{List, [], ◌∷◌}
use native.Mathlib.Omega.{arith}
use lib.Dec.{eqb}
use Rattle.std.proofs.lemmas.Bool.Decides.{nat_tests}
use lib.ListN.{length, get_or}
use borrow.Author.Tests.{lt-ltb, eq-eqb, ne_eqb, eqb-true, eqb-false}
use Rattle.model.specs.declared.Settings.{Settings}
use Rattle.model.specs.declared.Block.{Block}
use Rattle.model.specs.Views.{is_right}
use Rattle.model.specs.Planes.{Depths, depths_of}
use Rattle.model.specs.Blocks.{written, old_depths}
use Rattle.model.specs.Journals.{word_at, newest, index_before, record_view, record_block, record_depths, record_size, record_end, next_index, saved, taken_back, emptied}
use Rattle.model.specs.Refusals.{chain_ok, journal_ok, room_ok, taking_then}
use Rattle.model.specs.Promises.{EightBit}
use Rattle.model.proofs.Choice.{bool_cases, and_true}
use Rattle.model.proofs.Fresh.{DepthsSized}
use Rattle.model.proofs.Written.{length-old, old_most, written_back}
use Rattle.model.proofs.Refusals.{Inside, up_to_yes}
use Rattle.model.proofs.Journals.{chain_step, chain_zero, record_yes, journal_yes, length-newest, word_newest, word_kept, length-saved, saved_newest, saved_below, saved_before, saved_view, saved_block, saved_depths, block_kept, depths_kept}
use Rattle.run.specs.Shared.{Standing, in_turn, struck}

-- ---- what the journal holds

-- where a record may stand after the one at index i, or after word 0 where i is zero
unfoldable pub end_at : List ℕ → ℕ → ℕ
end_at j i = cond (eqb i 0) 1 (record_end j i)

-- the record at index i is that of the SET k, and below it stand those of ks
pub record Link (s : Settings) (d : Depths) (j : List ℕ) (i : ℕ) (k : Standing) (ks : List Standing) : Type 0 where
  pub after : end_at j (index_before j i) ≤ i
  pub end : record_end j i ≤ length j
  pub view : record_view j i ≡ k.view
  pub block : record_block j i ≡ k.block
  pub depths : record_depths j i ≡ old_depths s k.view k.block (in_turn s d ks)
  pub most : k.view ≤ 1
  pub inside : Inside s k.block
  pub eight_bit : EightBit (in_turn s d ks)

-- the chain from index i on
unfoldable pub Holds : Settings → Depths → List ℕ → ℕ → List Standing → Type 0
Holds s d j i [] = i ≡ 0
Holds s d j i (k ∷ ks) = Link s d j i k ks × Holds s d j (index_before j i) ks

pub record Ledger (s : Settings) (d : Depths) (j : List ℕ) (ks : List Standing) : Type 0 where
  pub words : 0 < length j
  pub holds : Holds s d j (newest j) ks
  pub eight_bit : EightBit (in_turn s d ks)

-- ---- where a record ends

end_zero : (j : List ℕ) (i : ℕ) → i ≡ 0 → end_at j i ≡ 1
unfolding end_at
end_zero j i e = rw (eq-eqb i 0 e)

end_some : (j : List ℕ) (i : ℕ) → (i ≡ 0 → ⊥) → end_at j i ≡ record_end j i
unfolding end_at
end_some j i ne = rw (ne_eqb i 0 ne)

end_next : (j : List ℕ) → next_index j ≡ end_at j (newest j)
unfolding next_index end_at
end_next j = refl

end_beyond : (j : List ℕ) (i : ℕ) → i < end_at j i
end_beyond j i =
    bool_cases (eqb i 0) (λ t. let z = eqb-true i 0 t in rw (end_zero j i z) (omega arith))
    (λ t. rw (end_some j i (eqb-false i 0 t)) (omega arith))

-- a record whose words stay ends where it did
end_kept : (j k : List ℕ) (i : ℕ) → ((n : ℕ) → 0 < n → n < end_at j i → word_at k n ≡ word_at j n) → end_at k i ≡ end_at j i
end_kept j k i words =
    bool_cases (eqb i 0) (λ t. let z = eqb-true i 0 t in end_zero k i z ∙ sym (end_zero j i z))
    (λ t.
    let ne = eqb-false i 0 t in
    let e = end_some j i ne in
    let b = block_kept j k i (λ n h l. words n (omega arith) (omega arith)) in
    end_some k i ne ∙ ap (λ (b : Block). i + record_size b) b ∙ sym e)

-- ---- one link

module _ (s : Settings) (d : Depths) (j : List ℕ) (i : ℕ) (k : Standing) (ks : List Standing) (l : Link s d j i k ks) where
  link_some : 0 < i
  link_some = omega (arith, end_beyond j (index_before j i))

  link_falls : index_before j i < i
  link_falls = omega (arith, end_beyond j (index_before j i))

-- the depths that stand in a block are 8-bit ones
eight_old : (s : Settings) (v : ℕ) (b : Block) (d : Depths) → EightBit d → (i : ℕ) → get_or (old_depths s v b d) i 0 ≤ 255
eight_old s v b d h i = grind (arith, old_most s.w b d.right 255 h.right i, old_most s.w b d.left 255 h.left i)

-- ---- 13 never applies

holds_chain : (s : Settings) (d : Depths) (j : List ℕ) (i : ℕ) (ks : List Standing) → Holds s d j i ks → chain_ok s j i i ≡ true
unfolding Holds
holds_chain s d j i [] e = chain_zero s j i e
holds_chain s d j i (k ∷ ks) (l, rest) =
    let falls = link_falls s d j i k ks l in
    chain_step s j i (λ z. omega arith)
    ∙ and_true _ _
    (record_yes s j i
    (record {
      end = l.end;
      view = rw l.view l.most;
      block = rw l.block l.inside;
      depths = rw l.depths (up_to_yes 255 _ (eight_old s k.view k.block (in_turn s d ks) l.eight_bit));
    }))
    (and_true _ _ (lt-ltb (index_before j i) i falls) (holds_chain s d j (index_before j i) ks rest))

module _ (s : Settings) (d : Depths) (j : List ℕ) where
  pub ledger_ok : (ks : List Standing) → Ledger s d j ks → journal_ok s j ≡ true
  ledger_ok ks h = journal_yes s j h.words (holds_chain s d j (newest j) ks h.holds)

  -- ---- 12 exactly where no SET stands

  pub taking_none : Ledger s d j [] → taking_then s j 0 ≡ 12
  unfolding taking_then Holds
  taking_none h = rw (ledger_ok [] h, eq-eqb (newest j) 0 h.holds)

  pub taking_some : (k : Standing) (ks : List Standing) → Ledger s d j (k ∷ ks) → taking_then s j 0 ≡ 0
  unfolding taking_then Holds
  taking_some k ks h =
      let some = link_some s d j (newest j) k ks h.holds.0 in
      rw (ledger_ok (k ∷ ks) h, ne_eqb (newest j) 0 (λ z. omega arith))

-- ---- what stays

-- the chain from index i on, where the words up to its end stay
holds_kept :
    (s : Settings) (d : Depths) (j k : List ℕ) → length k ≡ length j → (m : ℕ) → ((n : ℕ) → 0 < n → n < m → word_at k n ≡ word_at j n) →
    (i : ℕ) (ks : List Standing) → end_at j i ≤ m → Holds s d j i ks → Holds s d k i ks
unfolding Holds
holds_kept s d j k same m words i [] h e = e
holds_kept s d j k same m words i (x ∷ ks) h (l, rest) =
    let some = link_some s d j i x ks l in
    let falls = link_falls s d j i x ks l in
    let e : end_at j i ≡ record_end j i = end_some j i (λ z. omega arith) in
    let here : (n : ℕ) → i ≤ n → n < record_end j i → word_at k n ≡ word_at j n = λ n u v. words n (omega arith) (omega arith) in
    let b = block_kept j k i here in
    let z : record_end k i ≡ record_end j i = ap (λ (b : Block). i + record_size b) b in
    let before : index_before k i ≡ index_before j i = here i (omega arith) (omega arith) in
    let below : end_at k (index_before k i) ≡ end_at j (index_before j i) =
    ap (end_at k) before ∙ end_kept j k (index_before j i) (λ n u v. words n u (omega arith)) in (
      record {
        after = omega arith;
        end = omega arith;
        view = here (i + 1) (omega arith) (omega arith) ∙ l.view;
        block = b ∙ l.block;
        depths = depths_kept j k i here same ∙ l.depths;
        most = l.most;
        inside = l.inside;
        eight_bit = l.eight_bit;
      },
      subst (λ (n : ℕ). Holds s d k n ks) (sym before) (holds_kept s d j k same m words (index_before j i) ks (omega arith) rest),
    )

-- ---- OPEN or MOVE, SET and TAKE BACK

pub ledger_opened : (s : Settings) (d : Depths) (j : List ℕ) → 0 < length j → EightBit d → Ledger s d (emptied j) []
unfolding Holds in_turn
ledger_opened s d j h e = record { words = rw (length-newest 0 j) h; holds = word_newest 0 j h; eight_bit = e }

pub ledger_saved :
    (s : Settings) (d : Depths) (j : List ℕ) (ks : List Standing) (v : ℕ) (b : Block) (c : List ℕ) → Ledger s d j ks → v ≤ 1 → Inside s b →
    room_ok b j ≡ true → EightBit (in_turn s d (record { view = v; block = b; depths = c } ∷ ks)) →
    Ledger s d (saved j v b (old_depths s v b (in_turn s d ks))) (record { view = v; block = b; depths = c } ∷ ks)
unfolding Holds room_ok
ledger_saved s d j ks v b c h view inside room eight =
    let old : List ℕ = old_depths s v b (in_turn s d ks) in
    let k : List ℕ = saved j v b old in
    let i : ℕ = next_index j in
    let fits : i + record_size b ≤ length j = grind (arith, nat_tests) in
    let same : length k ≡ length j = length-saved j v b old in
    let before : index_before k i ≡ newest j = saved_before j v b old fits in
    let block : record_block k i ≡ b = saved_block j v b old fits in
    let next : next_index j ≡ end_at j (newest j) = end_next j in
    let stays : (n : ℕ) → 0 < n → n < i → word_at k n ≡ word_at j n = saved_below j v b old in
    let below : end_at k (index_before k i) ≡ i =
    ap (end_at k) before ∙ end_kept j k (newest j) (λ n u w. stays n u (omega arith)) ∙ sym next in
    let end : record_end k i ≡ i + record_size b = ap (λ (b : Block). i + record_size b) block in
    record {
      words = rw same h.words;
      holds = subst (λ (n : ℕ). Holds s d k n (record { view = v; block = b; depths = c } ∷ ks)) (sym (saved_newest j v b old h.words)) (
        record {
          after = omega arith;
          end = omega arith;
          view = saved_view j v b old fits;
          block = block;
          depths = saved_depths j v b old fits (length-old s.w b (depths_of (in_turn s d ks) (is_right v)));
          most = view;
          inside = inside;
          eight_bit = h.eight_bit;
        },
        subst (λ (n : ℕ). Holds s d k n ks) (sym before) (holds_kept s d j k same i stays (newest j) ks (omega arith) h.holds),
      );
      eight_bit = eight;
    }

module _ (s : Settings) (d : Depths) (j : List ℕ) where
  pub ledger_taken : (ks : List Standing) → Ledger s d j ks → taking_then s j 0 ≡ 0 → Ledger s d (taken_back j) (struck ks)
  unfolding Holds struck
  ledger_taken [] h e = absurd (omega (arith, taking_none s d j h))
  ledger_taken (k ∷ ks) h e =
      let l = h.holds.0 in
      let n : ℕ = index_before j (newest j) in
      record {
        words = rw (length-newest n j) h.words;
        holds = subst (λ (i : ℕ). Holds s d (taken_back j) i ks) (sym (word_newest n j h.words))
            (holds_kept s d j (taken_back j) (length-newest n j) (newest j) (λ i u v. word_kept n j i u) n ks l.after h.holds.1);
        eight_bit = l.eight_bit;
      }

  -- the newest record's depths written again
  pub taken_restores :
      (ks : List Standing) → Ledger s d j ks → taking_then s j 0 ≡ 0 → ((ks : List Standing) → DepthsSized s (in_turn s d ks)) →
      written s (record_view j (newest j)) (record_block j (newest j)) (record_depths j (newest j)) (in_turn s d ks) ≡ in_turn s d (struck ks)
  unfolding Holds struck in_turn
  taken_restores [] h e sized = absurd (omega (arith, taking_none s d j h))
  taken_restores (k ∷ ks) h e sized =
      let l = h.holds.0 in
      rw (l.view, l.block, l.depths) (written_back s k.view k.block k.depths (in_turn s d ks) (sized ks))

  -- it lies within the picture
  pub taken_inside : (ks : List Standing) → Ledger s d j ks → taking_then s j 0 ≡ 0 → Inside s (record_block j (newest j))
  unfolding Holds
  taken_inside [] h e = absurd (omega (arith, taking_none s d j h))
  taken_inside (k ∷ ks) h e = let l = h.holds.0 in rw l.block l.inside
