-- Document 02, card 10, of runs: which SETs a run made, and where two runs that made the same ones in other orders end.
use Rattle.std.specs.Prelude.{◌≡◌, cond, eqb, ℤ, pos, ◌+ℤ◌}
use mathlib.Core.List.{List, [], ◌∷◌, Permᴰ}
use Rattle.model.specs.Planes.{Pictures, State}
use Rattle.model.specs.Candidates.{filled}
use Rattle.run.specs.Calls.{AllOf}
use Rattle.run.specs.Run.{Call, Event, Run}
use Rattle.run.specs.Run.Call.{get, set, move}
use Rattle.order.specs.Separate.{Edit, edit, AllSeparate}

-- the same edits in another order: one is a permutation of the other, by the prover's own library
abbrev pub Reordered : List Edit → List Edit → Type 0
Reordered ks ls = Permᴰ ks ls

-- The SETs that stand after some calls, the newest first, where ks stand before: ks and the accepted SETs of the calls, whatever the kinds of their candidates and the
-- journals that they were passed, one for all of them or each its own.
unfoldable pub sets_after : List Edit → List Call → List Event → List Edit
sets_after ks [] es = ks
sets_after ks (c ∷ cs) [] = ks
sets_after ks (get v b c x ∷ cs) (e ∷ es) = sets_after ks cs es
sets_after ks (set v b c x j ∷ cs) (e ∷ es) = sets_after (cond (eqb e.reply.number 0) (edit v b (filled b c x) ∷ ks) ks) cs es
sets_after ks (move to reference j ∷ cs) (e ∷ es) = sets_after ks cs es

-- the accepted SETs of a run
abbrev pub sets_of : List Call → List Event → List Edit
sets_of cs es = sets_after [] cs es

-- the sum of what they answered
unfoldable pub sum_of_answers : List Call → List Event → ℤ
sum_of_answers [] es = pos 0
sum_of_answers (c ∷ cs) [] = pos 0
sum_of_answers (get v b c x ∷ cs) (e ∷ es) = sum_of_answers cs es
sum_of_answers (set v b c x j ∷ cs) (e ∷ es) = cond (eqb e.reply.number 0) (e.reply.change +ℤ sum_of_answers cs es) (sum_of_answers cs es)
sum_of_answers (move to reference j ∷ cs) (e ∷ es) = sum_of_answers cs es

-- GETs and refused calls may stand between the SETs, but no accepted MOVE.
abbrev pub Unmoved : Call → Event → Type 0
Unmoved (get v b c x) e = Unit
Unmoved (set v b c x j) e = Unit
Unmoved (move to reference j) e = e.reply.number ≡ 0 → ⊥

unfoldable pub AllUnmoved : List Call → List Event → Type 0
AllUnmoved cs es = AllOf Unmoved cs es

-- Two runs that end alike: every plane, spare bits too, and the settings with the total; and the sums of their answers are one.
pub record Alike (one other : State) (sum sum' : ℤ) : Type 0 where
  pub depths : one.depths ≡ other.depths
  pub held : one.held ≡ other.held
  pub settings : one.settings ≡ other.settings
  pub answers : sum ≡ sum'

-- Any two runs from one session that make the same separate SETs, in whatever orders, end alike.
pub record AnyOrder (p : Pictures) (st : State) : Type 0 where
  pub alike :
      {cs ds : List Call} {es fs : List Event} {one other : State} → Run p st cs es one → Run p st ds fs other → AllUnmoved cs es → AllUnmoved ds fs →
      Reordered (sets_of cs es) (sets_of ds fs) → AllSeparate (sets_of cs es) → Alike one other (sum_of_answers cs es) (sum_of_answers ds fs)
