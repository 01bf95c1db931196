-- `message_value`: about a site, or not.
use mathlib.Core.Path.{sym, ◌∙◌}
use Rattle.save_messages.proofs.Messages.{value-about, value-plain}
use Rattle.save_messages.proofs.message_value.Goals as goal

pub returns-then-has_about : goal.returns-then-has_about
returns-then-has_about c =
    rw c.count_of.ensures at c.first_five.ensures
    ∙ value-about c.args.m (sym c.has_about.ensures ∙ c.if-has_about.true)

pub returns : goal.returns
returns c =
    rw c.count_of-2.ensures at c.first_five-2.ensures
    ∙ value-plain c.args.m (sym c.has_about.ensures ∙ c.if-has_about.false)
