-- The calls of `set_and_take_back` are a run with one journal, so what SET and TAKE BACK answer and leave follows from the theorem.
use Prim.Native.Nat.{ℕ}
use mathlib.Core.Path.{◌≡◌, refl, sym, ap, ◌∙◌, subst}
use mathlib.Core.Bool.{Bool, cond}
use mathlib.Core.List.{List, [], ◌∷◌}
use lib.IntN.{ℤ, pos, ◌-ℤ◌}
use lib.Dec.{eqb}
use native.Mathlib.Omega.{arith}
use borrow.Author.Tests.{eqb-true, eqb-false, eq-eqb, ne_eqb}
use Rattle.model.specs.declared.Settings.{Settings}
use Rattle.model.specs.declared.Block.{Block}
use Rattle.model.specs.declared.Candidate.{Candidate}
use Rattle.model.specs.Planes.{Pictures, Depths, Held, State, with_total}
use Rattle.model.specs.Promises.{OpenPost, SetPost, TakeBackPost}
use Rattle.model.proofs.Choice.{bool_cases}
use Rattle.run.specs.Run.{Event, Reply, leaves, plain, plain_answer}
use Rattle.run.specs.Shared.{SharedRun, opened, shared_reply, shared_events, SharedPost, Found, stack_after, Restores, AllRestore, AllSharedKept}
use Rattle.run.specs.Shared.SharedCall.{set, take_back}
use Rattle.run.specs.Shared.SharedRun.{halted}
use Rattle.luphwezane.specs.Exports.{OpenedOut, EditedOut}
use Rattle.bound.specs.Latest.{latest}
use Rattle.bound.specs.Answers.{told, Visited}
use Rattle.bound.proofs.Steps.{wrote_shared, took_shared, opened_shared}

-- A caller that takes the total which the functions write for that of its settings has the latest ones whether a call is accepted or not.
latest_total : (number total₀ total : ℕ) (s : Settings) → total₀ ≡ s.total → ((number ≡ 0 → ⊥) → total ≡ total₀) → latest number s s total ≡ with_total s total
latest_total number total₀ total s e kept =
    bool_cases (eqb number 0) (λ t. rw t refl) (λ t. rw t (sym (ap (with_total s) (kept (eqb-false number 0 t) ∙ e))))

-- the reply of the first of some events
unfoldable first : Event → List Event → Reply
first z [] = z.reply
first z (e ∷ es) = e.reply

-- the change of an accepted call
answer_change : (n : ℕ) (change : ℤ) → n ≡ 0 → (plain_answer n change).change ≡ change
unfolding plain_answer
answer_change n change z = ap (λ (t : Bool). cond t change (pos 0)) (eq-eqb n 0 z)

-- what a run says of TAKE BACK after one SET, whose number is n; f is what an accepted one found
set_taken : (n : ℕ) (f : Found) (e : Event) → Restores (cond (eqb n 0) (f ∷ []) []) take_back e → n ≡ 0 → (e.reply.number ≡ 0) × ((e.after ≡ f.before) × (e.reply.change ≡ pos 0 -ℤ f.change))
set_taken n f e h z = subst (λ (t : Bool). Restores (cond t (f ∷ []) []) take_back e) (eq-eqb n 0 z) h

none_taken : (n : ℕ) (f : Found) (e : Event) → Restores (cond (eqb n 0) (f ∷ []) []) take_back e → (n ≡ 0 → ⊥) → e.reply.number ≡ 12
none_taken n f e h ne = subst (λ (t : Bool). Restores (cond t (f ∷ []) []) take_back e) (ne_eqb n 0 ne) h

module _ {s : Settings} {p : Pictures} {d₀ : Depths} {h₀ h₁ : Held} {j₀ j₁ : List ℕ} {n₁ t₀ t₁ : ℕ} {change₀ back₀ : ℤ} (o : OpenedOut (OpenPost s p d₀ h₀ h₁ j₀ j₁) n₁ t₀ t₁) where
  pub not_opened :
      {v : ℕ} {b : Block} {c : Candidate} {x : List ℕ} → (n₁ ≡ 0 → ⊥) →
      Visited s p d₀ d₀ h₀ h₁ j₀ j₁ v b c x (told change₀ back₀ t₀) (told change₀ back₀ t₁) (record { opened = n₁; written = 0; taken = 0 })
  not_opened ne =
      record {
        number = o.told.number_is ∙ o.promised.number;
        refused = λ _. (refl, (refl, ap (told change₀ back₀) (o.told.refused ne)));
        refused_planes = λ _. (refl, (o.promised.refused_held (λ z. ne (o.told.number_is ∙ z)), o.promised.refused_journal (λ z. ne (o.told.number_is ∙ z))));
        written = λ z. absurd (ne z);
        undone = λ z. absurd (ne z);
        nothing = λ z. absurd (ne z);
        restored = λ z. absurd (ne z);
        journal = λ z. absurd (ne z);
      }

  module _ {d₂ d₃ : Depths} {h₂ h₃ : Held} {j₂ j₃ : List ℕ} {v : ℕ} {b : Block} {c : Candidate} {x : List ℕ} {n₂ t₂ n₃ t₃ : ℕ} {change back : ℤ} (w : EditedOut (SetPost (with_total s t₁) p d₀ d₂ h₁ h₂ j₁ j₂ v b c x) n₂ change₀ change t₁ t₂) (k : EditedOut (TakeBackPost (with_total s t₂) p d₂ d₃ h₂ h₃ j₂ j₃) n₃ back₀ back t₂ t₃) (z : n₁ ≡ 0) where
    opens : latest n₁ s s t₁ ≡ with_total s t₁
    opens = rw z refl

    writes : latest n₂ (with_total s t₁) (with_total s t₁) t₂ ≡ with_total s t₂
    writes = latest_total n₂ t₁ t₂ (with_total s t₁) refl (λ ne. (w.told.refused ne).1)

    takes : latest n₃ (with_total s t₂) (with_total s t₂) t₃ ≡ with_total s t₃
    takes = latest_total n₃ t₂ t₃ (with_total s t₂) refl (λ ne. (k.told.refused ne).1)

    abbrev start : State
    start = leaves (with_total s t₁) d₀ h₁

    abbrev second : Event
    second = record { reply = plain_answer n₂ change; after = leaves (with_total s t₂) d₂ h₂; journal = j₂ }

    abbrev third : Event
    third = record { reply = plain_answer n₃ back; after = leaves (with_total s t₃) d₃ h₃; journal = j₃ }

    posted : SharedPost (opened (plain s p d₀) j₀) start j₁ (set v b c x ∷ take_back ∷ []) (second ∷ third ∷ []) (leaves (with_total s t₃) d₃ h₃) j₃
    posted =
        let third-step : SharedRun p (leaves (with_total s t₂) d₂ h₂) j₂ (take_back ∷ []) (third ∷ []) (leaves (with_total s t₃) d₃ h₃) j₃ = rw takes at (took_shared k halted) in
        let second-step : SharedRun p start j₁ (set v b c x ∷ take_back ∷ []) (second ∷ third ∷ []) (leaves (with_total s t₃) d₃ h₃) j₃ =
        rw writes at (wrote_shared w (rw (sym writes) at third-step)) in
        rw opens at (opened_shared o z (rw (sym opens) at second-step))

    written_as : plain_answer n₂ change ≡ shared_reply (opened (plain s p d₀) j₀) (set v b c x)
    unfolding first shared_events
    written_as = ap (first second) posted.events

    -- what the run says of TAKE BACK
    takes_back : Restores (cond (eqb n₂ 0) (record { before = start; change = (plain_answer n₂ change).change } ∷ []) []) take_back third
    unfolding AllRestore stack_after plain_answer
    takes_back = posted.restored.1.0

    set_undone : n₂ ≡ 0 → (n₃ ≡ 0) × ((leaves (with_total s t₃) d₃ h₃ ≡ start) × (back ≡ pos 0 -ℤ change))
    unfolding plain_answer
    set_undone y =
        let f = set_taken n₂ _ third takes_back y in
        (f.0, (f.1.0, sym (answer_change n₃ back f.0) ∙ f.1.1 ∙ ap (λ (m : ℤ). pos 0 -ℤ m) (answer_change n₂ change y)))

    set_refused : (n₂ ≡ 0 → ⊥) → (n₃ ≡ 12) × (leaves (with_total s t₃) d₃ h₃ ≡ start)
    unfolding AllSharedKept plain_answer
    set_refused ne =
        let twelve = none_taken n₂ _ third takes_back ne in
        (twelve, (posted.kept.1.0.0 (λ y. absurd (omega (arith, twelve, y)))).0 ∙ (posted.kept.0.0 ne).0)

    -- either way what OPEN left is there again
    same : leaves (with_total s t₃) d₃ h₃ ≡ start
    same = bool_cases (eqb n₂ 0) (λ t. (set_undone (eqb-true n₂ 0 t)).1.0) (λ t. (set_refused (eqb-false n₂ 0 t)).1)

    pub opened_and_set : Visited s p d₀ d₃ h₀ h₃ j₀ j₃ v b c x (told change₀ back₀ t₀) (told change back t₃) (record { opened = n₁; written = n₂; taken = n₃ })
    opened_and_set =
        let yes = sym o.told.number_is ∙ z in
        record {
          number = o.told.number_is ∙ o.promised.number;
          refused = λ ne. absurd (ne z);
          refused_planes = λ ne. absurd (ne z);
          written = λ _. written_as;
          undone = λ _ y. ((set_undone y).0, (set_undone y).1.1);
          nothing = λ _ ne. let f = (set_refused ne).0 in (f, ((w.told.refused ne).0, (k.told.refused (λ y. absurd (omega (arith, f, y)))).0));
          restored = λ _. (
            ap (λ (t : State). t.depths) same,
            (ap (λ (t : State). t.held) same ∙ o.promised.held yes, ap (λ (t : State). t.settings.total) same ∙ o.told.accepted z ∙ ap (λ (n : Settings). n.total) (o.promised.settings yes)),
          );
          journal = λ _. posted.journal;
        }
