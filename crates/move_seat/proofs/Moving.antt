-- MOVE from OPEN: what OPEN promises of the settings n is what MOVE promises, but for the settings s that the caller of a refused one keeps.
--     kept, moved     refused, and accepted
--     answered        whichever it is
use mathlib.Core.Path.{refl}
use mathlib.Core.List.{List}
use Prim.Native.Nat.{ℕ}
use Rattle.std.specs.Prelude.{Result, Ok, Err}
use Rattle.model.specs.declared.Settings.{Settings}
use Rattle.model.specs.declared.Refusal.{Refusal}
use Rattle.model.specs.Planes.{Pictures, Depths, Held}
use Rattle.model.specs.Replies.{open_reply}
use Rattle.model.specs.Promises.{FillPost, OpenPost}
use Rattle.model.proofs.Refusals.{some_number}

module _ (s n : Settings) {p : Pictures} {d : Depths} {h₀ h : Held} {j₀ j : List ℕ} where
  pub kept : (r : Refusal) → OpenPost n p d h₀ h j₀ j (open_reply n (Err r)) → FillPost s n p d h₀ h j₀ j (open_reply s (Err r))
  kept r o =
      record {
        number = o.number;
        refused_held = o.refused_held;
        refused_journal = o.refused_journal;
        refused_settings = λ u. refl;
        held = o.held;
        journal = o.journal;
        settings = λ z. absurd (some_number r z);
        eight_bit = o.eight_bit;
      }

  pub moved : (next : Settings) → OpenPost n p d h₀ h j₀ j (open_reply n (Ok next)) → FillPost s n p d h₀ h j₀ j (open_reply s (Ok next))
  moved next o =
      record {
        number = o.number;
        refused_held = o.refused_held;
        refused_journal = o.refused_journal;
        refused_settings = λ ne. absurd (ne refl);
        held = o.held;
        journal = o.journal;
        settings = o.settings;
        eight_bit = o.eight_bit;
      }

  pub answered : (r : Result Settings Refusal) → OpenPost n p d h₀ h j₀ j (open_reply n r) → FillPost s n p d h₀ h j₀ j (open_reply s r)
  answered (Err r) o = kept r o
  answered (Ok next) o = moved next o
