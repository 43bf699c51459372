-- Document 02, card 10: a SET of the depths that a block has answers 0 and changes nothing but the journal, and a GET of them answers 0 too: said of every call of a run.
use Rattle.std.specs.Prelude.{ℕ, ◌≡◌, List, pos}
use Rattle.model.specs.declared.Block.{Block}
use Rattle.model.specs.Planes.{State}
use Rattle.model.specs.Candidates.{filled}
use Rattle.model.specs.Blocks.{old_depths}
use Rattle.run.specs.Calls.{AllBy}
use Rattle.run.specs.Run.{Call, Event}
use Rattle.run.specs.Run.Call.{get, set, move}
use Rattle.run.specs.Shared.{SharedCall}
use Rattle.run.specs.Shared.SharedCall.{get as shared-get, set as shared-set, take_back, move as shared-move}

-- block b of view v has the depths c
abbrev pub BlockHas : State → ℕ → Block → List ℕ → Type 0
BlockHas st v b c = c ≡ old_depths st.settings v b st.depths

-- The event of a call that tries or writes the depths c in block b of view v; `before` is the session that it finds. Whatever the kind of the candidate, c is the
-- block that it fills.
abbrev pub NoOp : State → ℕ → Block → List ℕ → Event → Type 0
NoOp before v b c e = e.reply.number ≡ 0 → BlockHas before v b c → (e.reply.change ≡ pos 0) × (e.after ≡ before)

abbrev pub CallNoOp : State → Call → Event → Type 0
CallNoOp before (get v b c x) e = NoOp before v b (filled b c x) e
CallNoOp before (set v b c x j) e = NoOp before v b (filled b c x) e
CallNoOp before (move to reference j) e = Unit

unfoldable pub AllNoOps : State → List Call → List Event → Type 0
AllNoOps before ks es = AllBy (λ (st : State) k e. e.after) CallNoOp before ks es

-- and of a run with one journal
abbrev pub SharedNoOp : State → SharedCall → Event → Type 0
SharedNoOp before (shared-get v b c x) e = NoOp before v b (filled b c x) e
SharedNoOp before (shared-set v b c x) e = NoOp before v b (filled b c x) e
SharedNoOp before take_back e = Unit
SharedNoOp before (shared-move to reference) e = Unit

unfoldable pub AllSharedNoOps : State → List SharedCall → List Event → Type 0
AllSharedNoOps before ks es = AllBy (λ (st : State) k e. e.after) SharedNoOp before ks es
