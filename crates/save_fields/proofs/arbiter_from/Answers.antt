-- `arbiter_from`: the grant number, and two numbers of the line.
use Rattle.save_fields.specs.Fields.{arbiter_from}
use borrow.Author.Rules.{rules}
use Rattle.save_fields.proofs.arbiter_from.Goals as goal

pub returns : goal.returns
unfolding arbiter_from
returns c = search rules
