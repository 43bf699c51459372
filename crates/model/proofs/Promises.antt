-- What the promises give a caller.
--     render_left, render_right      view 0 is drawn with the left table, view 1 backwards with the right one
--     holes_left, holes_right, ..    of view 0 the left marks are counted, of view 1 the right ones; a refusal answers its number
--     check_sound, check_total, ..   what each answer of CHECK says of the planes lent to it
--     row_stays                      SET and TAKE BACK leave every entry of the rows outside the block as it was
--     get_early, set_early           an accepted GET or SET has passed every test before 8
--     edit_settings, edit_sound      where SET or TAKE BACK is accepted on a sound session, the total answered is the fresh one and the session stays sound
use Prim.Native.Nat.{ℕ, ◌<◌, ◌≤◌}
use mathlib.Core.Path.{◌≡◌, refl, ap, sym, ◌∙◌}
use mathlib.Core.Bool.{true, false}
use mathlib.Core.List.{List}
use lib.IntN.{ℤ, pos, ◌+ℤ◌, ◌-ℤ◌, nat_abs}
use lib.ListN.{length, get_or}
use Rattle.std.specs.Prelude.{Result, Ok, Err}
use Rattle.model.specs.declared.Settings.{Settings}
use Rattle.model.specs.declared.Block.{Block}
use Rattle.model.specs.declared.Candidate.{Candidate}
use Rattle.model.specs.declared.Refusal.{Refusal}
use Rattle.model.specs.declared.Report.{Report}
use Rattle.model.specs.Replies.{TrialReply, EditReply}
use Rattle.model.specs.Row.{line}
use Rattle.model.specs.Views.{view_row}
use Rattle.model.specs.Marks.{mark_at, spare_bits, holes_in}
use Rattle.model.specs.Planes.{Pictures, Depths, View, Held, Strip, with_total, view_rows, held_row}
use Rattle.model.specs.Fresh.{strip_of, fresh, fresh_total}
use Rattle.model.specs.Blocks.{in_rows, written, change_of}
use Rattle.model.specs.Refusals.{number_of, answer_number, check_number, early_number, saving_then, holes_number}
use Rattle.model.specs.Promises.{RenderPost, Sound, GetPost, Updated, EditPost, SetPost, CheckPost, HolesPost}
use Rattle.model.proofs.Lists.{get_or_row}
use Rattle.model.proofs.Fresh.{DepthsSized, fresh_total_lem, fresh_total_total}
use Rattle.model.proofs.Refusals.{Common, common_facts, call_zero, total_change}
use Rattle.model.proofs.Readings.{sound_read}
use Rattle.model.proofs.Verdicts.{SameView, Same, Differs, report_sound, report_total, report_difference}

-- ---- what is answered

pub ok_same : {A : Type 0} {a b : A} (r : Result A Refusal) → r ≡ Ok a → r ≡ Ok b → a ≡ b
ok_same {A} {a} r p q = ap (λ (r : Result A Refusal). elim r [ Ok x ↦ x | Err y ↦ a ]) (sym p ∙ q)

-- ---- one view of two

module _ (s : Settings) (texture depths : List ℕ) (x₀ x : Strip) (r : Result (Unit {0}) Refusal) (accepted : answer_number r ≡ 0) where
  pub render_left : RenderPost s 0 texture depths x₀ x r → x ≡ strip_of s.w (view_row false (line s.tear s.left texture depths))
  render_left post = post.drawn accepted

  pub render_right : RenderPost s 1 texture depths x₀ x r → x ≡ strip_of s.w (view_row true (line s.tear s.right texture depths))
  render_right post = post.drawn accepted

module _ (s : Settings) (left right : List ℕ) (n : ℕ) where
  pub holes_left : HolesPost s 0 left right (Ok n) → n ≡ holes_in left s.w s.h
  holes_left post = ok_same (Ok n) refl (post.count refl)

  pub holes_right : HolesPost s 1 left right (Ok n) → n ≡ holes_in right s.w s.h
  holes_right post = ok_same (Ok n) refl (post.count refl)

pub holes_refused : (s : Settings) (v : ℕ) (left right : List ℕ) (x : Refusal) → HolesPost s v left right (Err x) → number_of x ≡ holes_number s v left right
holes_refused s v left right x post = post.number

-- ---- CHECK

module _ (s : Settings) (p : Pictures) (d : Depths) (h : Held) where
  -- what is answered, sound or not, has passed 1, 2, 3, 4 and 20
  answered : {r : Result Report Refusal} → answer_number r ≡ 0 → CheckPost s p d h r → Common s p d h
  answered e post = common_facts s p d h (sym post.number ∙ e)

  pub check_sound : CheckPost s p d h (Ok Report.Sound) → Sound s p d h
  check_sound post = (report_sound s p d h (answered refl post) post.bytes).0 (sym (ok_same (Ok _) refl (post.report refl)))

  pub check_total : CheckPost s p d h (Ok Report.Total) → (h ≡ fresh s p d) × (s.total ≡ fresh_total s p d → ⊥)
  check_total post = (report_total s p d h (answered refl post) post.bytes).0 (sym (ok_same (Ok _) refl (post.report refl)))

  pub check_difference : (y x : ℕ) → CheckPost s p d h (Ok (Report.Difference y x)) → Differs s.w h (fresh s p d) y x
  check_difference y x post = (report_difference s p d h (answered refl post) (sym (ok_same (Ok _) refl (post.report refl)))).2

  pub check_refused : (x : Refusal) → CheckPost s p d h (Err x) → number_of x ≡ check_number s p d h
  check_refused x post = post.number

-- ---- what stays

view_stays : (w : ℕ) (a b : View) (y x : ℕ) → x < w → view_rows w a y ≡ view_rows w b y → SameView w a b y x
view_stays w a b y x l e =
    record {
      sample = sym (get_or_row 0 a.samples w y x l) ∙ ap (λ (v : View). get_or v.samples x 0) e ∙ get_or_row 0 b.samples w y x l;
      front = sym (get_or_row 0 a.fronts w y x l) ∙ ap (λ (v : View). get_or v.fronts x 0) e ∙ get_or_row 0 b.fronts w y x l;
      limit = sym (get_or_row (pos 0) a.limits w y x l) ∙ ap (λ (v : View). get_or v.limits x (pos 0)) e ∙ get_or_row (pos 0) b.limits w y x l;
      mark = ap (λ (v : View). mark_at v.marks x) e;
      spare = λ q. ap (λ (v : View). spare_bits v.marks w) e;
    }

-- every entry of a row outside the block is as it was
pub row_stays : (s : Settings) (v : ℕ) (b : Block) (h₀ h : Held) → Updated s v b h₀ h → (y x : ℕ) → in_rows b y ≡ false → x < s.w → Same s.w h h₀ y x
unfolding held_row
row_stays s v b h₀ h same y x out l =
    let e = same.rows y out in
    record {
      left = view_stays s.w h.left h₀.left y x l (ap (λ (r : Held). r.left) e);
      right = view_stays s.w h.right h₀.right y x l (ap (λ (r : Held). r.right) e);
      combined = sym (get_or_row 0 h.combined s.w y x l) ∙ ap (λ (r : Held). get_or r.combined x 0) e ∙ get_or_row 0 h₀.combined s.w y x l;
    }

-- ---- an accepted GET or SET has passed every test before 8

module _ (s : Settings) (p : Pictures) (d : Depths) (h : Held) (v : ℕ) (b : Block) (c : Candidate) (x : List ℕ) where
  pub get_early : {r : TrialReply} → GetPost s p d h v b c x r → r.number ≡ 0 → early_number s p d h v b c (length x) ≡ 0
  get_early post z = call_zero s p d h v b c (length x) post.found 0 (sym post.number ∙ z)

  pub set_early : {d' : Depths} {h' : Held} {j j' : List ℕ} {r : EditReply} → SetPost s p d d' h h' j j' v b c x r → r.number ≡ 0 → early_number s p d h v b c (length x) ≡ 0
  set_early {j = j} post z = call_zero s p d h v b c (length x) post.found (saving_then s b j 0) (sym post.number ∙ z)

-- ---- an edit of a sound session

module _ (s : Settings) (p : Pictures) (d₀ d : Depths) (h₀ h : Held) (v : ℕ) (b : Block) (c : List ℕ) (early : ℕ) (found : ℤ) (r : EditReply) (post : EditPost s p d₀ d h₀ h v b c early found r) (tested : early ≡ 0) (accepted : r.number ≡ 0) (sized : DepthsSized s d₀) (share : s.share ≤ 64) (sound : Sound s p d₀ h₀) where
  -- the total answered is the fresh total of the written depths
  pub edit_settings : r.settings ≡ with_total s (fresh_total s p (written s v b c d₀))
  unfolding change_of
  edit_settings =
      let e : pos s.total +ℤ found ≡ pos (fresh_total s p (written s v b c d₀)) =
      ap (λ (z : ℤ). pos s.total +ℤ z) (post.decided tested (sound_read s p d₀ sized share h₀ sound))
      ∙ ap (λ (t : ℕ). pos t +ℤ (pos (fresh_total s p (written s v b c d₀)) -ℤ pos (fresh_total s p d₀))) sound.total
      ∙ total_change (fresh_total s p d₀) (fresh_total s p (written s v b c d₀)) in
      post.settings accepted ∙ ap (λ (z : ℤ). with_total s (nat_abs z)) e

  pub edit_sound : Sound r.settings p d h
  edit_sound =
      rw (edit_settings, post.depths accepted)
      (record {
        held = post.held accepted sound ∙ sym (fresh_total_lem s _ p (written s v b c d₀));
        total = sym (fresh_total_total s _ p (written s v b c d₀));
      })
