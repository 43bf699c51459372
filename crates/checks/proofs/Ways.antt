-- The two ways out of CHECK.
--     refused        a test turned the call down
--     reported       the report of a walk is that of the fresh drawing
use Prim.Native.Nat.{ℕ, ◌/◌, ◌%◌}
use mathlib.Core.Path.{◌≡◌, sym, ap, ◌∙◌}
use lib.Dec.{ltb}
use Rattle.std.specs.Prelude.{Ok, Err, Some, None}
use Rattle.model.specs.declared.Settings.{Settings}
use Rattle.model.specs.declared.Refusal.{Refusal}
use Rattle.model.specs.declared.Report.{Report}
use Rattle.model.specs.Planes.{Pictures, Depths, Held, area, with_total}
use Rattle.model.specs.Fresh.{fresh, fresh_total}
use Rattle.model.specs.Refusals.{number_of, check_number}
use Rattle.model.specs.Reports.{first_difference, report_of}
use Rattle.model.specs.Promises.{MarkBytes, CheckPost}
use Rattle.model.proofs.Choice.{bool_cases}
use Rattle.model.proofs.Refusals.{some_number}
use Rattle.model.proofs.Fresh.{fresh_total_lem, fresh_total_total}
use Rattle.validate.specs.Numbers.{common_number}
use Rattle.validate.proofs.Numbers.{lengths_of, common_number_lem}
use Rattle.scan.specs.declared.Found.{Found}
use Rattle.scan.specs.Walks.{place, place_of, Walked, verdict_of}

module _ (s : Settings) (p : Pictures) (d : Depths) (h : Held) where
  pub refused : (r : Refusal) → number_of r ≡ common_number s.w s.h s.left s.right s.share s.tear (lengths_of p d h) 0 → MarkBytes h → CheckPost s p d h (Err r)
  refused r e bytes = record { number = e ∙ common_number_lem s p d h 0; report = λ z. absurd (some_number r z); bytes = bytes }

  -- the tests do not look at the total
  pub accepted : 0 ≡ common_number s.w s.h s.left s.right s.share s.tear (lengths_of p d h) 0 → check_number (with_total s 0) p d h ≡ 0
  accepted e = sym (e ∙ common_number_lem (with_total s 0) p d h 0)

  -- and neither does the search
  difference_same : first_difference (with_total s 0) h (fresh (with_total s 0) p d) ≡ first_difference s h (fresh s p d)
  unfolding first_difference
  difference_same = rw (fresh_total_lem s 0 p d)

  verdict_is : (f : Found) → Walked (with_total s 0) p d h f → verdict_of f.place f.sum s.total ≡ report_of s p d h
  unfolding report_of place_of
  verdict_is f a =
      let k : ℕ = first_difference s h (fresh s p d) in
      let e : f.place ≡ place_of s.w (area s) k = a.place_is ∙ ap (place_of s.w (area s)) difference_same in
      bool_cases (ltb k (area s))
      (λ q. let g : f.place ≡ Some (place (k / s.w) (k % s.w)) = e ∙ rw q in rw (q, g))
      (λ q.
      let g : f.place ≡ None = e ∙ rw q in
      let t : f.sum ≡ fresh_total s p d = a.sum_is g ∙ fresh_total_total s 0 p d in
      rw (q, g, t))

  pub reported : (f : Found) (r : Report) → 0 ≡ common_number s.w s.h s.left s.right s.share s.tear (lengths_of p d h) 0 → Walked (with_total s 0) p d h f → r ≡ verdict_of f.place f.sum s.total → MarkBytes h → CheckPost s p d h (Ok r)
  reported f r e a q bytes =
      record { number = e ∙ common_number_lem s p d h 0; report = λ _. ap Ok (q ∙ verdict_is f a); bytes = bytes }
