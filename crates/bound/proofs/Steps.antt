-- A call of an exported function is a step of a run, of document 01's and of one with one journal: the events of the run say what the call answered by its number and
-- through its pointers, and the run goes on from the settings that the caller has then.
--     got_step, wrote_step, moved_step                 of a run in which each call is passed its own journal
--     got_shared, wrote_shared, took_shared, moved_shared   of a run with one journal
--     opened_run, opened_shared                        an accepted OPEN and a run after it: the theorems of a run hold
--     opened_sound, opened_shared_sound                what the run leaves is sound as GET reads it
--     opened_within, opened_shared_within              and the bound of document 02, card 4, in such a run
--     tried_within, tried_held                         and of a GET alone, also as a caller works it out from what it holds
--     opened_order, opened_shared_order                separate SETs after the run, in any order (card 10); wrote_orders: two of them, on any sound session
--     opened_no_op, opened_shared_no_op                SETs of the depths that their blocks have, in the run; wrote_no_op: one, on any sound session
use Prim.Native.Nat.{ℕ, ◌≤◌}
use mathlib.Core.Path.{◌≡◌, sym, ap, ◌∙◌, subst}
use mathlib.Core.List.{List, [], ◌∷◌}
use lib.Dec.{eqb}
use lib.IntN.{ℤ, pos, ◌+ℤ◌, nat_abs}
use lib.ListN.{get_or}
use borrow.Author.Tests.{eq-eqb, eqb-true, eqb-false}
use Rattle.model.specs.declared.Settings.{Settings}
use Rattle.model.specs.declared.Block.{Block}
use Rattle.model.specs.declared.Candidate.{Candidate}
use Rattle.model.specs.Replies.{OpenReply}
use Rattle.model.specs.Replies.{TrialReply}
use Rattle.model.specs.Replies.{EditReply}
use Rattle.model.specs.Views.{is_right}
use Rattle.model.specs.Planes.{Pictures, Depths, Held, State, with_total, with_seat, with_reference, read_held}
use Rattle.model.specs.Candidates.{filled}
use Rattle.model.specs.Blocks.{old_depths}
use Rattle.model.specs.Promises.{Sound, FillPost, OpenPost, MovePost, GetPost, EditPost, SetPost, TakeBackPost}
use Rattle.model.proofs.Choice.{bool_cases}
use Rattle.run.specs.Run.{Call, Reply, Event, Run, reply_of, leaves, pictures_after, plain, plain_answer, plain_end, RunPost}
use Rattle.run.specs.Run.Call.{get, set, move}
use Rattle.run.specs.Run.Run.{halted, got, wrote, moved}
use Rattle.run.specs.Shared.{SharedCall, SharedRun, opened, shared_end, SharedPost}
use Rattle.run.specs.Shared.SharedCall.{get as shared-get, set as shared-set, take_back, move as shared-move}
use Rattle.run.specs.Shared.SharedRun.{got as also-got, wrote as also-wrote, took, moved as also-moved}
use Rattle.run.proofs.Run.{session_run, halted_sound}
use Rattle.run.proofs.Shared.{shared_run, shared_sound}
use Rattle.reach.specs.Reach.{OneDepth, most_change, reach_of}
use Rattle.reach.specs.Held.{held_length}
use Rattle.reach.specs.Runs.{AllWithin, AllSharedWithin}
use Rattle.reach.proofs.Change.{get_within}
use Rattle.reach.proofs.Held.{get_held}
use Rattle.reach.proofs.Runs.{session_within, shared_within}
use Rattle.order.specs.Separate.{edit, Separate}
use Rattle.order.specs.Orders.{Alike, AnyOrder}
use Rattle.order.specs.NoOp.{AllNoOps, AllSharedNoOps}
use Rattle.order.proofs.Orders.{two_orders, run_order, shared_order}
use Rattle.order.proofs.NoOp.{set_no_op, session_no_op, shared_no_op}
use Rattle.luphwezane.specs.Exports.{OpenedOut, TriedOut, EditedOut}
use Rattle.bound.specs.Latest.{latest}

-- ---- what was answered, as the events and the settings of a run have it

reply_told :
    (number n : ℕ) (change found : ℤ) → number ≡ n → (number ≡ 0 → change ≡ found) → ((n ≡ 0 → ⊥) → found ≡ pos 0) →
    record { number = n; change = found } ≡ plain_answer number change
unfolding plain_answer
reply_told number n change found e told none =
    bool_cases (eqb number 0)
    (λ t. rw (t, e, told (eqb-true number 0 t)))
    (λ t. rw (t, e, none (λ z. eqb-false number 0 t (e ∙ z))))

-- where the call was accepted, the event has its change
accepted_change : (number : ℕ) (change : ℤ) → number ≡ 0 → (plain_answer number change).change ≡ change
unfolding plain_answer
accepted_change number change z = rw (eq-eqb number 0 z)

settings_told :
    (number total t : ℕ) (s n given : Settings) → (number ≡ 0 → total ≡ given.total) → (number ≡ 0 → given ≡ with_total n t) → ((number ≡ 0 → ⊥) → given ≡ s) →
    given ≡ latest number s n total
settings_told number total t s n given told accepted refused =
    bool_cases (eqb number 0)
    (λ u. let z = eqb-true number 0 u in rw (u, told z) (accepted z ∙ sym (ap (λ (x : Settings). with_total n x.total) (accepted z))))
    (λ u. rw u (refused (eqb-false number 0 u)))

module _ {promise : TrialReply → Type 0} {number : ℕ} {change₀ change : ℤ} (o : TriedOut promise number change₀ change) where
  tried_reply : ((o.reply.number ≡ 0 → ⊥) → o.reply.change ≡ pos 0) → reply_of o.reply.number o.reply.change ≡ plain_answer number change
  tried_reply = reply_told number (o.reply.number) change o.reply.change o.told.number_is o.told.accepted

module _ {promise : EditReply → Type 0} {number total₀ total : ℕ} {change₀ change : ℤ} (o : EditedOut promise number change₀ change total₀ total) {s : Settings} {p : Pictures} {d₀ d : Depths} {h₀ h : Held} {v : ℕ} {b : Block} {c : List ℕ} {early : ℕ} {found : ℤ} (edit : EditPost s p d₀ d h₀ h v b c early found o.reply) where
  edited_reply : reply_of o.reply.number o.reply.change ≡ plain_answer number change
  edited_reply =
      reply_told number (o.reply.number) change o.reply.change o.told.number_is (λ z. (o.told.accepted z).0) edit.refused_change

  edited_settings : o.reply.settings ≡ latest number s s total
  edited_settings =
      settings_told number total _ s s o.reply.settings (λ z. (o.told.accepted z).1) (λ z. edit.settings (sym o.told.number_is ∙ z)) (λ ne. edit.refused_settings (λ z. ne (o.told.number_is ∙ z)))

module _ {promise : OpenReply → Type 0} {number total₀ total : ℕ} (o : OpenedOut promise number total₀ total) {s n : Settings} {p : Pictures} {d : Depths} {h₀ h : Held} {j₀ j : List ℕ} (fill : FillPost s n p d h₀ h j₀ j o.reply) where
  filled_settings : o.reply.settings ≡ latest number s n total
  filled_settings =
      settings_told number total _ s n o.reply.settings o.told.accepted (λ z. fill.settings (sym o.told.number_is ∙ z)) (λ ne. fill.refused_settings (λ z. ne (o.told.number_is ∙ z)))

-- ---- the steps

-- A step K from a run R that follows it, both over the settings answered: said of other settings and another reply that are the same.
as_told : {r r' : Reply} {n n' : Settings} (K : Reply → Settings → Type 0) (R : Settings → Type 0) → r ≡ r' → n ≡ n' → (R n → K r n) → R n' → K r' n'
as_told {r} {r'} {n} {n'} K R er en step run = subst (K r') en (subst (λ (y : Reply). K y n) er (step (subst R (sym en) run)))

module _ {p : Pictures} {st : State} {v : ℕ} {b : Block} {c : Candidate} {x : List ℕ} {number : ℕ} {change₀ change : ℤ} (o : TriedOut (GetPost st.settings p st.depths st.held v b c x) number change₀ change) where
  pub got_step :
      {last : State} {cs : List Call} {es : List Event} → Run p st cs es last →
      Run p st (get v b c x ∷ cs) (record { reply = plain_answer number change; after = st; journal = [] } ∷ es) last
  got_step k = rw (tried_reply o o.promised.refused) at (got o.reply o.promised k)

  pub got_shared :
      {last : State} {j end : List ℕ} {cs : List SharedCall} {es : List Event} → SharedRun p st j cs es last end →
      SharedRun p st j (shared-get v b c x ∷ cs) (record { reply = plain_answer number change; after = st; journal = j } ∷ es) last end
  got_shared k = rw (tried_reply o o.promised.refused) at (also-got o.reply o.promised k)

module _ {p : Pictures} {st : State} {d : Depths} {h : Held} {j k : List ℕ} {v : ℕ} {b : Block} {c : Candidate} {x : List ℕ} {number total₀ total : ℕ} {change₀ change : ℤ} (o : EditedOut (SetPost st.settings p st.depths d st.held h j k v b c x) number change₀ change total₀ total) where
  pub wrote_step :
      {last : State} {cs : List Call} {es : List Event} → Run p (leaves (latest number st.settings st.settings total) d h) cs es last →
      Run p st (set v b c x j ∷ cs) (record { reply = plain_answer number change; after = leaves (latest number st.settings st.settings total) d h; journal = k } ∷ es) last
  wrote_step {last} {cs} {es} =
      as_told (λ r n. Run p st (set v b c x j ∷ cs) (record { reply = r; after = leaves n d h; journal = k } ∷ es) last) (λ n. Run p (leaves n d h) cs es last)
      (edited_reply o o.promised.edit) (edited_settings o o.promised.edit) (wrote o.reply d h k o.promised)

  pub wrote_shared :
      {last : State} {end : List ℕ} {cs : List SharedCall} {es : List Event} → SharedRun p (leaves (latest number st.settings st.settings total) d h) k cs es last end →
      SharedRun p st j (shared-set v b c x ∷ cs) (record { reply = plain_answer number change; after = leaves (latest number st.settings st.settings total) d h; journal = k } ∷ es) last end
  wrote_shared {last} {end} {cs} {es} =
      as_told (λ r n. SharedRun p st j (shared-set v b c x ∷ cs) (record { reply = r; after = leaves n d h; journal = k } ∷ es) last end) (λ n. SharedRun p (leaves n d h) k cs es last end)
      (edited_reply o o.promised.edit) (edited_settings o o.promised.edit) (also-wrote o.reply d h k o.promised)

pub took_shared :
    {p : Pictures} {st : State} {d : Depths} {h : Held} {j k : List ℕ} {number total₀ total : ℕ} {change₀ change : ℤ} →
    EditedOut (TakeBackPost st.settings p st.depths d st.held h j k) number change₀ change total₀ total →
    {last : State} {end : List ℕ} {cs : List SharedCall} {es : List Event} → SharedRun p (leaves (latest number st.settings st.settings total) d h) k cs es last end →
    SharedRun p st j (take_back ∷ cs) (record { reply = plain_answer number change; after = leaves (latest number st.settings st.settings total) d h; journal = k } ∷ es) last end
took_shared {p} {st} {d} {h} {j} {k} o {last} {end} {cs} {es} =
    as_told (λ r n. SharedRun p st j (take_back ∷ cs) (record { reply = r; after = leaves n d h; journal = k } ∷ es) last end) (λ n. SharedRun p (leaves n d h) k cs es last end)
    (edited_reply o o.promised.edit) (edited_settings o o.promised.edit) (took o.reply d h k o.promised)

-- A MOVE answers no change.
module _ {p : Pictures} {st : State} {h : Held} {to : Settings} {reference j k : List ℕ} {number total₀ total : ℕ} (o : OpenedOut (MovePost st.settings to (with_reference p reference) st.depths st.held h j k) number total₀ total) where
  pub moved_step :
      {last : State} {cs : List Call} {es : List Event} →
      Run (pictures_after number p reference) (leaves (latest number st.settings (with_seat st.settings to) total) st.depths h) cs es last →
      Run p st (move to reference j ∷ cs)
      (record { reply = record { number = number; change = pos 0 }; after = leaves (latest number st.settings (with_seat st.settings to) total) st.depths h; journal = k } ∷ es) last
  moved_step {last} {cs} {es} =
      as_told (λ r n. Run p st (move to reference j ∷ cs) (record { reply = r; after = leaves n st.depths h; journal = k } ∷ es) last)
      (λ n. Run (pictures_after number p reference) (leaves n st.depths h) cs es last) (ap (λ (i : ℕ). record { number = i; change = pos 0 }) (sym o.told.number_is)) (filled_settings o o.promised)
      (λ run. moved o.reply h k o.promised (subst (λ (i : ℕ). Run (pictures_after i p reference) (leaves o.reply.settings st.depths h) cs es last) o.told.number_is run))

  pub moved_shared :
      {last : State} {end : List ℕ} {cs : List SharedCall} {es : List Event} →
      SharedRun (pictures_after number p reference) (leaves (latest number st.settings (with_seat st.settings to) total) st.depths h) k cs es last end →
      SharedRun p st j (shared-move to reference ∷ cs)
      (record { reply = record { number = number; change = pos 0 }; after = leaves (latest number st.settings (with_seat st.settings to) total) st.depths h; journal = k } ∷ es) last end
  moved_shared {last} {end} {cs} {es} =
      as_told (λ r n. SharedRun p st j (shared-move to reference ∷ cs) (record { reply = r; after = leaves n st.depths h; journal = k } ∷ es) last end)
      (λ n. SharedRun (pictures_after number p reference) (leaves n st.depths h) k cs es last end) (ap (λ (i : ℕ). record { number = i; change = pos 0 }) (sym o.told.number_is)) (filled_settings o o.promised)
      (λ run. also-moved o.reply h k o.promised (subst (λ (i : ℕ). SharedRun (pictures_after i p reference) (leaves o.reply.settings st.depths h) k cs es last end) o.told.number_is run))

-- ---- the theorems

module _ {s : Settings} {p : Pictures} {d : Depths} {h₀ h : Held} {j₀ j : List ℕ} {number total₀ total : ℕ} (o : OpenedOut (OpenPost s p d h₀ h j₀ j) number total₀ total) (accepted : number ≡ 0) where
  yes : o.reply.number ≡ 0
  yes = sym o.told.number_is ∙ accepted

  answered : o.reply.settings ≡ latest number s s total
  answered = filled_settings o o.promised

  -- the run that the caller made, from the settings of the reply
  as_run : {cs : List Call} {es : List Event} {last : State} → Run p (leaves (latest number s s total) d h) cs es last → Run p (leaves o.reply.settings d h) cs es last
  as_run {cs} {es} {last} = subst (λ (n : Settings). Run p (leaves n d h) cs es last) (sym answered)

  as_shared : {cs : List SharedCall} {es : List Event} {last : State} {end : List ℕ} → SharedRun p (leaves (latest number s s total) d h) j cs es last end → SharedRun p (leaves o.reply.settings d h) j cs es last end
  as_shared {cs} {es} {last} {end} = subst (λ (n : Settings). SharedRun p (leaves n d h) j cs es last end) (sym answered)

  pub opened_run :
      {cs : List Call} {es : List Event} {last : State} → Run p (leaves (latest number s s total) d h) cs es last →
      RunPost (plain s p d) (leaves (latest number s s total) d h) cs es last
  opened_run {cs} {es} {last} run =
      subst (λ (n : Settings). RunPost (plain s p d) (leaves n d h) cs es last) answered (session_run s p d h₀ h j₀ j o.reply o.promised yes (as_run run))

  pub opened_shared :
      {cs : List SharedCall} {es : List Event} {last : State} {end : List ℕ} → SharedRun p (leaves (latest number s s total) d h) j cs es last end →
      SharedPost (opened (plain s p d) j₀) (leaves (latest number s s total) d h) j cs es last end
  opened_shared {cs} {es} {last} {end} run =
      subst (λ (n : Settings). SharedPost (opened (plain s p d) j₀) (leaves n d h) j cs es last end) answered (shared_run s p d h₀ h j₀ j o.reply o.promised yes (as_shared run))

  pub opened_sound : {cs : List Call} {es : List Event} {last : State} → Run p (leaves (latest number s s total) d h) cs es last → Sound last.settings (plain_end (plain s p d) cs).pictures last.depths (read_held last.held)
  opened_sound run = halted_sound s p d h₀ h j₀ j o.reply o.promised yes (as_run run)

  pub opened_shared_sound :
      {cs : List SharedCall} {es : List Event} {last : State} {end : List ℕ} → SharedRun p (leaves (latest number s s total) d h) j cs es last end →
      Sound last.settings (shared_end (opened (plain s p d) j₀) cs).start.pictures last.depths (read_held last.held)
  opened_shared_sound run = shared_sound s p d h₀ h j₀ j o.reply o.promised yes (as_shared run)

  pub opened_within : {cs : List Call} {es : List Event} {last : State} → Run p (leaves (latest number s s total) d h) cs es last → AllWithin (plain s p d) cs es
  opened_within run = session_within s p d h₀ h j₀ j o.reply o.promised yes (as_run run)

  pub opened_shared_within :
      {cs : List SharedCall} {es : List Event} {last : State} {end : List ℕ} → SharedRun p (leaves (latest number s s total) d h) j cs es last end →
      AllSharedWithin (opened (plain s p d) j₀) cs es
  opened_shared_within run = shared_within s p d h₀ h j₀ j o.reply o.promised yes (as_shared run)

  pub opened_order : {cs : List Call} {es : List Event} {mid : State} → Run p (leaves (latest number s s total) d h) cs es mid → AnyOrder (plain_end (plain s p d) cs).pictures mid
  opened_order run = run_order (opened_run run)

  pub opened_shared_order :
      {cs : List SharedCall} {es : List Event} {mid : State} {end : List ℕ} → SharedRun p (leaves (latest number s s total) d h) j cs es mid end →
      AnyOrder (shared_end (opened (plain s p d) j₀) cs).start.pictures mid
  opened_shared_order run = shared_order (opened_shared run)

  pub opened_no_op : {cs : List Call} {es : List Event} {last : State} → Run p (leaves (latest number s s total) d h) cs es last → AllNoOps (leaves (latest number s s total) d h) cs es
  opened_no_op {cs} {es} {last} run =
      subst (λ (n : Settings). AllNoOps (leaves n d h) cs es) answered (session_no_op s p d h₀ h j₀ j o.reply o.promised yes (as_run run))

  pub opened_shared_no_op :
      {cs : List SharedCall} {es : List Event} {last : State} {end : List ℕ} → SharedRun p (leaves (latest number s s total) d h) j cs es last end →
      AllSharedNoOps (leaves (latest number s s total) d h) cs es
  opened_shared_no_op {cs} {es} {last} {end} run =
      subst (λ (n : Settings). AllSharedNoOps (leaves n d h) cs es) answered (shared_no_op s p d h₀ h j₀ j o.reply o.promised yes (as_shared run))

-- A GET alone: it writes the change of its reply through the pointer, so that what bounds the one bounds the other.
tried_most : {promise : TrialReply → Type 0} {number : ℕ} {change₀ change : ℤ} (o : TriedOut promise number change₀ change) → number ≡ 0 → (most : ℕ) → nat_abs o.reply.change ≤ most → nat_abs change ≤ most
tried_most o z most h = subst (λ (n : ℤ). nat_abs n ≤ most) (sym (o.told.accepted z)) h

module _ {s : Settings} {p : Pictures} {d : Depths} {h : Held} {v : ℕ} {b : Block} {c : Candidate} {x : List ℕ} {number : ℕ} {change₀ change : ℤ} (o : TriedOut (GetPost s p d h v b c x) number change₀ change) (sound : Sound s p d (read_held h)) (z : number ≡ 0) (one : OneDepth b) where
  pub tried_within : nat_abs change ≤ reach_of s d v b (filled b c x)
  tried_within = tried_most o z _ (get_within s p d h v b c x o.reply o.promised sound (sym o.told.number_is ∙ z) one)

  pub tried_held : nat_abs change ≤ most_change (held_length s (is_right v) b d h (get_or (filled b c x) 0 0))
  tried_held = tried_most o z _ (get_held s p d h v b c x o.reply o.promised sound (sym o.told.number_is ∙ z) one)

-- ---- SET alone, on any sound session

module _ {p : Pictures} {st : State} (sound : Sound st.settings p st.depths st.held) where
  -- One of the depths that its block has: the change through the pointer is 0, and the caller's session is what it was.
  pub wrote_no_op :
      {d : Depths} {h : Held} {j k : List ℕ} {v : ℕ} {b : Block} {c : Candidate} {x : List ℕ} {number total₀ total : ℕ} {change₀ change : ℤ} →
      EditedOut (SetPost st.settings p st.depths d st.held h j k v b c x) number change₀ change total₀ total → number ≡ 0 → filled b c x ≡ old_depths st.settings v b st.depths →
      (change ≡ pos 0) × (leaves (latest number st.settings st.settings total) d h ≡ st)
  wrote_no_op {d} {h} {j} {k} {v} {b} {c} {x} o z has =
      let same = set_no_op st.settings p st.depths st.held v b c x has d h j k o.reply o.promised sound (sym o.told.number_is ∙ z) in
      ((o.told.accepted z).0 ∙ same.0, ap (λ (n : Settings). leaves n d h) (sym (edited_settings o o.promised.edit)) ∙ same.1)

  -- Two separate ones, in one order and in the other: n are the numbers answered, a the changes through their pointers, and t₂, t₄, t₆ and t₈ the totals.
  pub wrote_orders :
      {d₁ d₂ d₃ d₄ : Depths} {h₁ h₂ h₃ h₄ : Held} {j₁ j₂ j₃ j₄ k₁ k₂ k₃ k₄ : List ℕ} {v u : ℕ} {b g : Block} {c f : Candidate} {x y : List ℕ} {n₁ n₂ n₃ n₄ t₁ t₂ t₃ t₄ t₅ t₆ t₇ t₈ : ℕ}
      {z₁ z₂ z₃ z₄ a₁ a₂ a₃ a₄ : ℤ} →
      let s : Settings = st.settings in
      EditedOut (SetPost s p st.depths d₁ st.held h₁ j₁ k₁ v b c x) n₁ z₁ a₁ t₁ t₂ →
      EditedOut (SetPost (latest n₁ s s t₂) p d₁ d₂ h₁ h₂ j₂ k₂ u g f y) n₂ z₂ a₂ t₃ t₄ →
      EditedOut (SetPost s p st.depths d₃ st.held h₃ j₃ k₃ u g f y) n₃ z₃ a₃ t₅ t₆ →
      EditedOut (SetPost (latest n₃ s s t₆) p d₃ d₄ h₃ h₄ j₄ k₄ v b c x) n₄ z₄ a₄ t₇ t₈ →
      n₁ ≡ 0 → n₂ ≡ 0 → n₃ ≡ 0 → n₄ ≡ 0 → Separate (edit v b (filled b c x)) (edit u g (filled g f y)) →
      Alike (leaves (latest n₂ (latest n₁ s s t₂) (latest n₁ s s t₂) t₄) d₂ h₂) (leaves (latest n₄ (latest n₃ s s t₆) (latest n₃ s s t₆) t₈) d₄ h₄) (a₁ +ℤ a₂) (a₃ +ℤ a₄)
  unfolding plain_answer
  wrote_orders {n₁ = n₁} {n₂ = n₂} {n₃ = n₃} {n₄ = n₄} {a₁ = a₁} {a₂ = a₂} {a₃ = a₃} {a₄ = a₄} a b c d e₁ e₂ e₃ e₄ separate =
      rw (accepted_change n₁ a₁ e₁, accepted_change n₂ a₂ e₂, accepted_change n₃ a₃ e₃, accepted_change n₄ a₄ e₄) at
      (two_orders sound (wrote_step a (wrote_step b halted)) (wrote_step c (wrote_step d halted)) e₁ e₂ e₃ e₄ separate)
