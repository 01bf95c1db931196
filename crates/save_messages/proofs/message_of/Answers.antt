-- `message_of`: about a site, or not.
use Rattle.save_messages.proofs.message_of.Goals as goal

pub returns-then-about : goal.returns-then-about
returns-then-about c = rw c.if-about.true

pub returns : goal.returns
returns c = rw c.if-about.false
