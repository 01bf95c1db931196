-- The sites of a delivery, where a site's parts stand in a rig, and how the rig's accepted events are counted.
use Rattle.std.specs.Prelude.{ℕ, ◌+◌, ◌-◌, cond, eqb}
use Rattle.rig.specs.declared.Event.{Event}
use Rattle.rig.specs.declared.Event.TheVariants.{Ask, Leave, Deliver}
use Rattle.model.specs.State.{in_range}

-- the sender of a delivery, and its receiver; 0 for an ask or a leave
abbrev pub sender_of : Event → ℕ
sender_of (Ask s) = 0
sender_of (Leave s) = 0
sender_of (Deliver a b) = a

abbrev pub receiver_of : Event → ℕ
receiver_of (Ask s) = 0
receiver_of (Leave s) = 0
receiver_of (Deliver a b) = b

-- the index of site k of n; 0 for what is no site
abbrev pub place_of : ℕ → ℕ → ℕ
place_of n k = cond (in_range n k) (k - 1) 0

-- the accepted events once one more is answered with a code
abbrev pub counted_on : ℕ → ℕ → ℕ
counted_on n code = cond (eqb code 0) (n + 1) n
