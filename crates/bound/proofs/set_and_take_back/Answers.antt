-- `bound::set_and_take_back` goes by the theorem of a run with one journal: its calls are one.
use mathlib.Core.Path.{refl, ◌∙◌}
use Rattle.bound.proofs.Visits.{not_opened, opened_and_set}
use Rattle.bound.proofs.set_and_take_back.Goals as goal

pub returns-then-opened-ne0 : goal.returns-then-opened-ne0
returns-then-opened-ne0 c = not_opened c.luph_raw_open-opened.ensures c.if-opened-ne0.true

pub shape_of-leftDepths : goal.shape_of-leftDepths
shape_of-leftDepths c = c.luph_raw_take_back-taken.auto.leftDepths ∙ c.luph_raw_set-written.auto.leftDepths

pub shape_of-rightDepths : goal.shape_of-rightDepths
shape_of-rightDepths c = c.luph_raw_take_back-taken.auto.rightDepths ∙ c.luph_raw_set-written.auto.rightDepths

pub shape_of-leftSamples : goal.shape_of-leftSamples
shape_of-leftSamples c = c.luph_raw_take_back-taken.auto.leftSamples ∙ c.luph_raw_set-written.auto.leftSamples ∙ c.luph_raw_open-opened.auto.leftSamples

pub shape_of-leftFronts : goal.shape_of-leftFronts
shape_of-leftFronts c = c.luph_raw_take_back-taken.auto.leftFronts ∙ c.luph_raw_set-written.auto.leftFronts ∙ c.luph_raw_open-opened.auto.leftFronts

pub shape_of-leftLimits : goal.shape_of-leftLimits
shape_of-leftLimits c = c.luph_raw_take_back-taken.auto.leftLimits ∙ c.luph_raw_set-written.auto.leftLimits ∙ c.luph_raw_open-opened.auto.leftLimits

pub shape_of-leftMarks : goal.shape_of-leftMarks
shape_of-leftMarks c = c.luph_raw_take_back-taken.auto.leftMarks ∙ c.luph_raw_set-written.auto.leftMarks ∙ c.luph_raw_open-opened.auto.leftMarks

pub shape_of-rightSamples : goal.shape_of-rightSamples
shape_of-rightSamples c = c.luph_raw_take_back-taken.auto.rightSamples ∙ c.luph_raw_set-written.auto.rightSamples ∙ c.luph_raw_open-opened.auto.rightSamples

pub shape_of-rightFronts : goal.shape_of-rightFronts
shape_of-rightFronts c = c.luph_raw_take_back-taken.auto.rightFronts ∙ c.luph_raw_set-written.auto.rightFronts ∙ c.luph_raw_open-opened.auto.rightFronts

pub shape_of-rightLimits : goal.shape_of-rightLimits
shape_of-rightLimits c = c.luph_raw_take_back-taken.auto.rightLimits ∙ c.luph_raw_set-written.auto.rightLimits ∙ c.luph_raw_open-opened.auto.rightLimits

pub shape_of-rightMarks : goal.shape_of-rightMarks
shape_of-rightMarks c = c.luph_raw_take_back-taken.auto.rightMarks ∙ c.luph_raw_set-written.auto.rightMarks ∙ c.luph_raw_open-opened.auto.rightMarks

pub shape_of-combined : goal.shape_of-combined
shape_of-combined c = c.luph_raw_take_back-taken.auto.combined ∙ c.luph_raw_set-written.auto.combined ∙ c.luph_raw_open-opened.auto.combined

pub shape_of-journal : goal.shape_of-journal
shape_of-journal c = c.luph_raw_take_back-taken.auto.journal ∙ c.luph_raw_set-written.auto.journal ∙ c.luph_raw_open-opened.auto.journal

pub returns : goal.returns
returns c = opened_and_set c.luph_raw_open-opened.ensures c.luph_raw_set-written.ensures c.luph_raw_take_back-taken.ensures c.if-opened-ne0.false

pub shape_of-leftDepths-then-opened-ne0 : goal.shape_of-leftDepths-then-opened-ne0
shape_of-leftDepths-then-opened-ne0 c = refl

pub shape_of-rightDepths-then-opened-ne0 : goal.shape_of-rightDepths-then-opened-ne0
shape_of-rightDepths-then-opened-ne0 c = refl

pub shape_of-leftSamples-then-opened-ne0 : goal.shape_of-leftSamples-then-opened-ne0
shape_of-leftSamples-then-opened-ne0 c = c.luph_raw_open-opened.auto.leftSamples

pub shape_of-leftFronts-then-opened-ne0 : goal.shape_of-leftFronts-then-opened-ne0
shape_of-leftFronts-then-opened-ne0 c = c.luph_raw_open-opened.auto.leftFronts

pub shape_of-leftLimits-then-opened-ne0 : goal.shape_of-leftLimits-then-opened-ne0
shape_of-leftLimits-then-opened-ne0 c = c.luph_raw_open-opened.auto.leftLimits

pub shape_of-leftMarks-then-opened-ne0 : goal.shape_of-leftMarks-then-opened-ne0
shape_of-leftMarks-then-opened-ne0 c = c.luph_raw_open-opened.auto.leftMarks

pub shape_of-rightSamples-then-opened-ne0 : goal.shape_of-rightSamples-then-opened-ne0
shape_of-rightSamples-then-opened-ne0 c = c.luph_raw_open-opened.auto.rightSamples

pub shape_of-rightFronts-then-opened-ne0 : goal.shape_of-rightFronts-then-opened-ne0
shape_of-rightFronts-then-opened-ne0 c = c.luph_raw_open-opened.auto.rightFronts

pub shape_of-rightLimits-then-opened-ne0 : goal.shape_of-rightLimits-then-opened-ne0
shape_of-rightLimits-then-opened-ne0 c = c.luph_raw_open-opened.auto.rightLimits

pub shape_of-rightMarks-then-opened-ne0 : goal.shape_of-rightMarks-then-opened-ne0
shape_of-rightMarks-then-opened-ne0 c = c.luph_raw_open-opened.auto.rightMarks

pub shape_of-combined-then-opened-ne0 : goal.shape_of-combined-then-opened-ne0
shape_of-combined-then-opened-ne0 c = c.luph_raw_open-opened.auto.combined

pub shape_of-journal-then-opened-ne0 : goal.shape_of-journal-then-opened-ne0
shape_of-journal-then-opened-ne0 c = c.luph_raw_open-opened.auto.journal
