-- Document 02, card 4, of a run: each accepted GET of one column and one row is within the bound of the depths that stand at that call. SET answers what GET does.
use Rattle.std.specs.Prelude.{ℕ, ◌≤◌, ◌≡◌, List, nat_abs}
use Rattle.model.specs.declared.Block.{Block}
use Rattle.model.specs.Candidates.{filled}
use Rattle.run.specs.Calls.{AllBy}
use Rattle.run.specs.Run.{Call, Event, Plain, plain_next}
use Rattle.run.specs.Run.Call.{get, set, move}
use Rattle.run.specs.Shared.{SharedCall, SharedPlain, stands_as, shared_next}
use Rattle.run.specs.Shared.SharedCall.{get as shared-get, set as shared-set, take_back, move as shared-move}
use Rattle.reach.specs.Reach.{OneDepth, reach_of}

-- the event of a call that tries or writes the depths c in block b of view v; r is the plain record as the call finds it
abbrev pub Within : Plain → ℕ → Block → List ℕ → Event → Type 0
Within r v b c e = e.reply.number ≡ 0 → OneDepth b → nat_abs e.reply.change ≤ reach_of r.settings r.depths v b c

abbrev pub CallWithin : Plain → Call → Event → Type 0
CallWithin r (get v b c x) e = Within r v b (filled b c x) e
CallWithin r (set v b c x j) e = Within r v b (filled b c x) e
CallWithin r (move to reference j) e = Unit

unfoldable pub AllWithin : Plain → List Call → List Event → Type 0
AllWithin r ks es = AllBy (λ r k e. plain_next r k) CallWithin r ks es

-- and of a run with one journal
abbrev pub SharedWithin : SharedPlain → SharedCall → Event → Type 0
SharedWithin r (shared-get v b c x) e = Within (stands_as r) v b (filled b c x) e
SharedWithin r (shared-set v b c x) e = Within (stands_as r) v b (filled b c x) e
SharedWithin r take_back e = Unit
SharedWithin r (shared-move to reference) e = Unit

unfoldable pub AllSharedWithin : SharedPlain → List SharedCall → List Event → Type 0
AllSharedWithin r ks es = AllBy (λ r k e. shared_next r k) SharedWithin r ks es
