-- `append_two`: one `append`, then another.
use mathlib.Core.Path.{refl}
use Rattle.event_effects.proofs.Effects.{sent-one, sent-more}
use Rattle.arbiter_answers.proofs.append_two.Goals as goal

pub returns : goal.returns
returns c = sent-more (sent-one refl c.append-next.ensures) (sent-one refl c.append.ensures)
