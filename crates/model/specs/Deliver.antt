-- Document 01, "One event": the delivery.
use Rattle.std.specs.Prelude.{ℕ, Bool, ◌&&◌, cond, [], eqb}
use Rattle.rig.specs.declared.Desk.{Desk}
use Rattle.rig.specs.declared.Message.{Message}
use Rattle.rig.specs.Messages.{REQUEST, REPLY, RELEASE, INQUIRE, FAIL, YIELD, TRANSFER}
use Rattle.model.specs.Desk.{Effect, effect}
use Rattle.model.specs.Arbiter.{on_request, on_release, on_yield}
use Rattle.model.specs.Site.{on_reply, on_inquire, on_fail, on_transfer}

-- "Messages from a to b": the message goes from a to b
unfoldable pub between : ℕ → ℕ → Message → Bool
between a b m = eqb a m.from && eqb b m.to

-- what the receiver does with a message, each kind by its rule; "A message that fits no rule is taken off and does nothing else."
unfoldable pub delivered : Desk → Message → Effect
delivered d m =
    cond (eqb m.kind REQUEST) (on_request d m.from m.number)
    (cond (eqb m.kind REPLY) (on_reply d m.about m.number)
    (cond (eqb m.kind RELEASE) (on_release d m.from m.about m.number)
    (cond (eqb m.kind INQUIRE) (on_inquire d m.from m.number)
    (cond (eqb m.kind FAIL) (on_fail d m.number)
    (cond (eqb m.kind YIELD) (on_yield d m.from m.number)
    (cond (eqb m.kind TRANSFER) (on_transfer d m.from m.about m.number)
    (effect d [])))))))
