-- `put_message`: the line of a message's numbers.
use Rattle.save_text.specs.Text.{message_field}
use Rattle.save_putting.proofs.Puts.{value-fits, value-puts}
use Rattle.save_putting.proofs.put_message.Goals as goal

pub put_value-requires : goal.put_value-requires
unfolding message_field
put_value-requires c = value-fits (rw c.message.ensures at c.message_value.ensures) c.requires

pub returns : goal.returns
unfolding message_field
returns c =
    value-puts (rw c.message.ensures at c.message_value.ensures) c.put_value.ensures
