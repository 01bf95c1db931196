-- What one site has, read and written.
use Rattle.std.specs.Prelude.{ℕ, Bool, List}
use Rattle.rig.specs.declared.Site.{Site}
use Rattle.rig.specs.declared.Arbiter.{Arbiter}
use Rattle.rig.specs.declared.Desk.{Desk}
use Rattle.rig.specs.declared.Message.{Message}
use Rattle.rig.specs.declared.Mode.{Mode}
use Rattle.rig.specs.Limits.{blank_row}
use Rattle.model.specs.Tables.{at, put}
use Rattle.model.specs.Sets.{member}
use Rattle.model.specs.State.{is_waiting, failed_in}

-- What an event makes at its site: the next desk, and the messages sent, in order.
pub record Effect : Type 0 where
  pub desk : Desk
  pub sent : List Message

abbrev pub effect : Desk → List Message → Effect
effect d ms = record { desk = d; sent = ms }

-- Reading

-- arbiter j is a member of the site's request set
abbrev pub has : Desk → ℕ → Bool
has d j = member d.members j

abbrev pub waits : Desk → Bool
waits d = is_waiting d.site.mode

abbrev pub has_failed : Desk → Bool
has_failed d = failed_in d.site.mode

abbrev pub held_for : Desk → ℕ → ℕ
held_for d j = at 0 d.held j

abbrev pub heir_for : Desk → ℕ → ℕ
heir_for d j = at 0 d.heir j

abbrev pub inquired_for : Desk → ℕ → ℕ
inquired_for d j = at 0 d.inquired j

abbrev pub queued_at : Desk → ℕ → ℕ
queued_at d k = at 0 d.queued k

-- Writing

abbrev pub with_site : Desk → Site → Desk
with_site d s = record { size = d.size; number = d.number; members = d.members; site = s; arbiter = d.arbiter; held = d.held; heir = d.heir; inquired = d.inquired; queued = d.queued }

abbrev pub with_mode : Desk → Mode → Desk
with_mode d m = with_site d (record { mode = m; clock = d.site.clock })

-- the arbiter and its queue
abbrev pub with_arbiter : Desk → Arbiter → List ℕ → Desk
with_arbiter d a q = record { size = d.size; number = d.number; members = d.members; site = d.site; arbiter = a; held = d.held; heir = d.heir; inquired = d.inquired; queued = q }

-- the three entries for each arbiter
abbrev pub with_entries : Desk → List ℕ → List ℕ → List ℕ → Desk
with_entries d he hr iq = record { size = d.size; number = d.number; members = d.members; site = d.site; arbiter = d.arbiter; held = he; heir = hr; inquired = iq; queued = d.queued }

-- "its three entries are cleared", of member j
abbrev pub without_entry : Desk → ℕ → Desk
without_entry d j = with_entries d (put d.held j 0) (put d.heir j 0) (put d.inquired j 0)

-- "held, heirs and remembered inquires are cleared", "All three entries of every member, held or not, are cleared": all of them,
-- since the entries for non-members are 0 in a well-shaped state
abbrev pub without_entries : Desk → Desk
without_entries d = with_entries d blank_row blank_row blank_row
