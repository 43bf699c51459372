-- Runs that make the same separate SETs in other orders.
--     set_state, set_change    what an accepted SET leaves and answers on a sound session
--     run_made                 so a run leaves the session of the record with its SETs standing, and their answers add to what they change of the total
--     any_order                two runs from one sound session that make the same separate SETs, in any orders, end alike
--     two_orders               the first case: two SETs, nothing between
--     run_order, shared_order  the same after any run of either kind
use Prim.Native.Nat.{ℕ}
use mathlib.Core.Path.{◌≡◌, refl, sym, ap, ◌∙◌}
use mathlib.Core.List.Permᴰ
use mathlib.Core.List.{List, [], ◌∷◌}
use lib.Dec.{eqb}
use lib.IntN.{ℤ, pos, ◌+ℤ◌, ◌-ℤ◌, +ℤ_idr, +ℤ_invr}
use lib.ListN.{length}
use native.Mathlib.Omega.{arith}
use Rattle.std.proofs.lemmas.Int.{ints}
use borrow.Author.Tests.{eq-eqb, ne_eqb, eqb-true, eqb-false}
use Rattle.model.specs.declared.Settings.{Settings}
use Rattle.model.specs.declared.Block.{Block}
use Rattle.model.specs.declared.Candidate.{Candidate}
use Rattle.model.specs.Replies.{EditReply}
use Rattle.model.specs.Planes.{Pictures, Depths, Held, State}
use Rattle.model.specs.Candidates.{filled}
use Rattle.model.specs.Blocks.{written, change_of}
use Rattle.model.specs.Refusals.{early_number}
use Rattle.model.specs.Promises.{Sound, SetPost}
use Rattle.model.proofs.Choice.{bool_cases}
use Rattle.model.proofs.Refusals.{Common, early_facts}
use Rattle.model.proofs.Readings.{sound_read}
use Rattle.model.proofs.Promises.{set_early, edit_settings}
use Rattle.run.specs.Run.{Call, Event, Run, leaves, Plain, plain, plain_state, plain_end, RunPost}
use Rattle.run.specs.Run.Call.{set}
use Rattle.run.specs.Run.Run.{halted, got, wrote, moved}
use Rattle.run.specs.Shared.{SharedPlain, SharedCall, in_turn, with_standing, stands_as, plain_total, shared_end, SharedPost}
use Rattle.run.proofs.Calls.{edited}
use Rattle.run.proofs.Steps.{change_of_total, state_total, state_sound}
use Rattle.order.specs.Separate.{Edit, edit, Separate, SeparateFrom, AllSeparate}
use Rattle.order.specs.Orders.{Reordered, sets_after, sets_of, sum_of_answers, AllUnmoved, Alike, AnyOrder}
use Rattle.order.proofs.Separate.{separate_sym, plain_order}

-- ---- one SET

-- a sound session is that of the record of its depths
pub sound_state : (p : Pictures) (st : State) → Sound st.settings p st.depths st.held → st ≡ plain_state (plain st.settings p st.depths)
unfolding plain_state
sound_state p st h = rw (← h.held, ← h.total)

module _ (s : Settings) (p : Pictures) (d e : Depths) (h g : Held) (j k : List ℕ) (v : ℕ) (b : Block) (c : Candidate) (x : List ℕ) (t : EditReply) (post : SetPost s p d e h g j k v b c x t) (accepted : t.number ≡ 0) (sound : Sound s p d h) where
  early : early_number s p d h v b c (length x) ≡ 0
  early = set_early s p d h v b c x post accepted

  pub tested : Common s p d h
  tested = (early_facts s p d h v b c (length x) early).0

  pub set_state : leaves t.settings e g ≡ plain_state (plain s p (written s v b (filled b c x) d))
  unfolding plain_state
  set_state =
      rw (
        edit_settings s p d e h g v b (filled b c x) _ post.found t post.edit early accepted tested.depths tested.share sound,
        post.edit.depths accepted,
        post.edit.held accepted sound,
      )

  pub set_change : t.change ≡ change_of s p d v b (filled b c x)
  set_change = post.edit.change accepted ∙ post.edit.decided early (sound_read s p d tested.depths tested.share h sound)

-- the same on the session of the record r: what it leaves is the session of r with the block written
module _ (r : Plain) {p : Pictures} {st : State} (same : p ≡ r.pictures) (now : st ≡ plain_state r) {d : Depths} {h : Held} {j k : List ℕ} {v : ℕ} {b : Block} {c : Candidate} {x : List ℕ} {t : EditReply} (post : SetPost st.settings p st.depths d st.held h j k v b c x t) (accepted : t.number ≡ 0) where
  carried : SetPost (plain_state r).settings r.pictures (plain_state r).depths d (plain_state r).held h j k v b c x t
  carried = rw (same, now) at post

  set_leaves : (leaves t.settings d h ≡ plain_state (edited r v b (filled b c x))) × (t.change ≡ pos (plain_total (edited r v b (filled b c x))) -ℤ pos (plain_total r))
  unfolding plain_state change_of written
  set_leaves = (
    set_state _ _ _ _ _ _ _ _ _ _ _ _ _ carried accepted (state_sound r refl) ∙ state_total r.settings _ r.pictures _,
    set_change _ _ _ _ _ _ _ _ _ _ _ _ _ carried accepted (state_sound r refl) ∙ change_of_total r.settings _ r.pictures r.depths v b (filled b c x),
  )

-- ---- a run

-- What is shown of a run from the record r with the SETs ks standing: after it ls stand, and its answers add to z.
abbrev Made : Plain → List Edit → List Edit → ℤ → State → Type 0
Made r ks ls z last = (last ≡ plain_state (with_standing r ls)) × (z ≡ pos (plain_total (with_standing r ls)) -ℤ pos (plain_total (with_standing r ks)))

run_made :
    (r : Plain) (ks : List Edit) {p : Pictures} {st last : State} {cs : List Call} {es : List Event} → Run p st cs es last → p ≡ r.pictures →
    st ≡ plain_state (with_standing r ks) → AllUnmoved cs es → Made r ks (sets_after ks cs es) (sum_of_answers cs es) last
unfolding AllUnmoved sets_after sum_of_answers in_turn
run_made r ks halted p e stay = (e, sym (+ℤ_invr (pos (plain_total (with_standing r ks)))))
run_made r ks (got t post run) p e (u, stay) = run_made r ks run p e stay
run_made r ks (wrote {v = v} {b = b} {c = c} {x = x} {cs = cs} {es = es} t d h k post run) p e (u, stay) =
    bool_cases (eqb t.number 0)
    (λ q.
    let s = set_leaves (with_standing r ks) p e post (eqb-true t.number 0 q) in
    let m = run_made r (edit v b (filled b c x) ∷ ks) run p s.0 stay in
    rw q (m.0, omega (arith, ints, s.1, m.1)))
    (λ q.
    let z = eqb-false t.number 0 q in
    let f = post.edit in
    rw q (run_made r ks run p (rw (f.refused_settings z, f.refused_depths z, f.refused_held z) e) stay))
run_made r ks (moved t h k post run) p e (u, stay) =
    run_made r ks run (rw (ne_eqb t.number 0 u) p) (rw (post.refused_settings u, post.refused_held u) e) stay

-- Two accepted SETs, nothing between: the first is v, b, c and x with the journal j, the second u, g, f and y with the journal k.
module _ (v : ℕ) (b : Block) (c : Candidate) (x : List ℕ) (j : List ℕ) (e : Event) (u : ℕ) (g : Block) (f : Candidate) (y : List ℕ) (k : List ℕ) (i : Event) (first : e.reply.number ≡ 0) (second : i.reply.number ≡ 0) where
  two_sets : sets_of (set v b c x j ∷ set u g f y k ∷ []) (e ∷ i ∷ []) ≡ edit u g (filled g f y) ∷ edit v b (filled b c x) ∷ []
  unfolding sets_after
  two_sets = rw (eq-eqb e.reply.number 0 first, eq-eqb i.reply.number 0 second)

  two_answers : sum_of_answers (set v b c x j ∷ set u g f y k ∷ []) (e ∷ i ∷ []) ≡ e.reply.change +ℤ i.reply.change
  unfolding sum_of_answers
  two_answers = rw (eq-eqb e.reply.number 0 first, eq-eqb i.reply.number 0 second) (ap (λ (z : ℤ). e.reply.change +ℤ z) (+ℤ_idr i.reply.change))

-- ---- two runs from one session

module _ {p : Pictures} {st : State} (sound : Sound st.settings p st.depths st.held) where
  pub any_order : AnyOrder p st
  unfolding in_turn
  any_order =
      record {
        alike = λ run run' stay stay' same separate.
            let r : Plain = plain st.settings p st.depths in
            let now = sound_state p st sound in
            let m = run_made r [] run refl now stay in
            let n = run_made r [] run' refl now stay' in
            let end = plain_order r same separate in
            let ends = m.0 ∙ ap plain_state end ∙ sym n.0 in
            record {
              depths = ap (λ (y : State). y.depths) ends;
              held = ap (λ (y : State). y.held) ends;
              settings = ap (λ (y : State). y.settings) ends;
              answers = m.1 ∙ ap (λ (y : Plain). pos (plain_total y) -ℤ pos (plain_total r)) end ∙ sym n.1;
            };
      }

  -- SET a, SET b and SET b, SET a, each passed any journal.
  pub two_orders :
      {v u : ℕ} {b g : Block} {c f : Candidate} {x y j k l m : List ℕ} {e i e' i' : Event} {one other : State} →
      Run p st (set v b c x j ∷ set u g f y k ∷ []) (e ∷ i ∷ []) one → Run p st (set u g f y l ∷ set v b c x m ∷ []) (e' ∷ i' ∷ []) other →
      e.reply.number ≡ 0 → i.reply.number ≡ 0 → e'.reply.number ≡ 0 → i'.reply.number ≡ 0 → Separate (edit v b (filled b c x)) (edit u g (filled g f y)) →
      Alike one other (e.reply.change +ℤ i.reply.change) (e'.reply.change +ℤ i'.reply.change)
  unfolding AllUnmoved SeparateFrom AllSeparate
  two_orders {v} {u} {b} {g} {c} {f} {x} {y} {j} {k} {l} {m} {e} {i} {e'} {i'} {one} {other} run run' z₁ z₂ z₃ z₄ h =
      let sets = two_sets v b c x j e u g f y k i z₁ z₂ in
      let sets' = two_sets u g f y l e' v b c x m i' z₃ z₄ in
      let sum = two_answers v b c x j e u g f y k i z₁ z₂ in
      let sum' = two_answers u g f y l e' v b c x m i' z₃ z₄ in
      let same : Reordered (sets_of (set v b c x j ∷ set u g f y k ∷ []) (e ∷ i ∷ [])) (sets_of (set u g f y l ∷ set v b c x m ∷ []) (e' ∷ i' ∷ [])) = rw (sets, sets') (Permᴰ.swap refl refl) in
      let apart : AllSeparate (sets_of (set v b c x j ∷ set u g f y k ∷ []) (e ∷ i ∷ [])) = rw sets ((separate_sym _ _ h, tt), (tt, tt)) in
      rw (sum, sum') at (any_order.alike run run' (tt, (tt, tt)) (tt, (tt, tt)) same apart)

-- ---- after a run of either kind

pub run_order : {r : Plain} {first mid : State} {cs : List Call} {es : List Event} → RunPost r first cs es mid → AnyOrder (plain_end r cs).pictures mid
run_order {r} {cs = cs} run = any_order (state_sound (plain_end r cs) run.session)

pub shared_order :
    {r : SharedPlain} {first mid : State} {j end : List ℕ} {cs : List SharedCall} {es : List Event} → SharedPost r first j cs es mid end →
    AnyOrder (shared_end r cs).start.pictures mid
shared_order {r} {cs = cs} run = any_order (state_sound (stands_as (shared_end r cs)) run.session)
