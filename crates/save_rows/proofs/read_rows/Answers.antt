-- `read_rows`: the length of the list, the lines, the text of what they give.
use mathlib.Core.Path.{sym, ◌∙◌}
use Rattle.model.specs.Setup.{no_rig}
use Rattle.save_rows.proofs.Reading.{few, says-state, wrong-length, not-fitting, says_nothing, none_read, some_read}
use Rattle.save_rows.proofs.read_rows.Goals as goal

pub returns-then-len-ne-MESSAGES : goal.returns-then-len-ne-MESSAGES
unfolding no_rig
returns-then-len-ne-MESSAGES c = wrong-length _ _ _ _ _ c.if-len-ne-MESSAGES.true (c.refused.ensures ∙ rw c.resting-none.ensures)

pub returns-in_default : goal.returns-in_default
unfolding no_rig
returns-in_default c =
    says_nothing _ _ _ _ _ c.if-len-ne-MESSAGES.false (not-fitting _ c.in_default.ensures)
    (c.refused-in_default.ensures ∙ rw c.resting-none.ensures)

pub is_text_of-requires : goal.is_text_of-requires
is_text_of-requires c = few c.in-Some.ensures

pub returns-then-not-is_text_of : goal.returns-then-not-is_text_of
unfolding no_rig
returns-then-not-is_text_of c =
    says_nothing _ _ _ _ _ c.if-len-ne-MESSAGES.false (none_read _ (rw c.in-Some.ensures.state at (sym c.is_text_of.ensures ∙ c.if-not-is_text_of.true)))
    (c.refused-then-not-is_text_of.ensures ∙ rw c.resting-none.ensures)

pub returns : goal.returns
returns c =
    let given = c.in-Some.ensures in
    says-state _ _ _ _ _ _ _ c.if-len-ne-MESSAGES.false (some_read _ _ given.state (sym c.is_text_of.ensures ∙ c.if-not-is_text_of.false)) given.zeros
