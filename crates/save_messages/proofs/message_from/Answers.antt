-- `message_from`: its kind says whether it is about a site.
use Rattle.save_messages.specs.Messages.{message_from}
use Rattle.save_messages.proofs.message_from.Goals as goal

pub returns : goal.returns
unfolding message_from
returns c = rw c.has_about.ensures at c.message_of.ensures
