-- `list_code`: two tests.
use borrow.Author.Tests.{eq-eqb, ne_eqb, lt-ltb, le-ltb}
use Rattle.rig.specs.Limits.{message_limit}
use Rattle.engine_parts.proofs.list_code.Goals as goal

pub returns-then-len-ne-MESSAGES : goal.returns-then-len-ne-MESSAGES
returns-then-len-ne-MESSAGES c = rw (ne_eqb c.args.len message_limit c.if-len-ne-MESSAGES.true)

pub returns-then-count-gt-MESSAGES : goal.returns-then-count-gt-MESSAGES
returns-then-count-gt-MESSAGES c = rw (eq-eqb _ _ c.if-len-ne-MESSAGES.false, lt-ltb message_limit c.args.count c.if-count-gt-MESSAGES.true)

pub returns : goal.returns
returns c = rw (eq-eqb _ _ c.if-len-ne-MESSAGES.false, le-ltb message_limit c.args.count c.if-count-gt-MESSAGES.false)
