-- What an entry's answer tells its caller, as document 01 lists it: the number of the refusal, 0 where the call is accepted, the change, and the settings that the
-- caller has then. A refused call has a change of 0, and the settings stay as they were passed.
use Rattle.std.specs.Prelude.{ℕ, ℤ, pos, Result, Ok, Err}
use Rattle.model.specs.declared.Settings.{Settings}
use Rattle.model.specs.declared.Edited.{Edited}
use Rattle.model.specs.declared.Refusal.{Refusal}
use Rattle.model.specs.Refusals.{number_of}

-- of OPEN and MOVE
pub record OpenReply : Type 0 where
  pub number : ℕ
  pub settings : Settings

-- of GET
pub record TrialReply : Type 0 where
  pub number : ℕ
  pub change : ℤ

-- of SET and TAKE BACK
pub record EditReply : Type 0 where
  pub number : ℕ
  pub change : ℤ
  pub settings : Settings

-- s are the settings that the caller passed
abbrev pub open_reply : Settings → Result Settings Refusal → OpenReply
open_reply s (Ok next) = record { number = 0; settings = next }
open_reply s (Err r) = record { number = number_of r; settings = s }

abbrev pub trial_reply : Result ℤ Refusal → TrialReply
trial_reply (Ok change) = record { number = 0; change = change }
trial_reply (Err r) = record { number = number_of r; change = pos 0 }

abbrev pub edit_reply : Settings → Result Edited Refusal → EditReply
edit_reply s (Ok e) = record { number = 0; change = e.change; settings = e.settings }
edit_reply s (Err r) = record { number = number_of r; change = pos 0; settings = s }
