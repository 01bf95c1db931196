-- `put_set`: the line of a set's members.
use Rattle.save_text.specs.Text.{set_field}
use Rattle.save_putting.proofs.Puts.{value-fits, value-puts}
use Rattle.save_putting.proofs.put_set.Goals as goal

pub put_value-requires : goal.put_value-requires
unfolding set_field
put_value-requires c = value-fits c.members_value.ensures c.requires

pub returns : goal.returns
unfolding set_field
returns c = value-puts c.members_value.ensures c.put_value.ensures
