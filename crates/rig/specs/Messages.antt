-- Document 01, "The tables": "A message is kind, from, to, about, number. Kinds: 1 request, 2 reply, 3 release, 4 inquire,
-- 5 fail, 6 yield, 7 transfer. `about` is the arbiter in a reply, the heir in a transfer, the heir or 0 in a release,
-- otherwise 0." Request 2.3: `number` is the sequence number in a request and in a fail, otherwise a grant number. It is at least 1, but 0 in a
-- fail of an earlier version.
use Rattle.std.specs.Prelude.{ℕ, ◌≤◌, ◌≡◌}
use Rattle.rig.specs.declared.Message.{Message}
use Rattle.rig.specs.Limits.{site_limit, SiteNumber}

abbrev pub REQUEST : ℕ
REQUEST = 1

abbrev pub REPLY : ℕ
REPLY = 2

abbrev pub RELEASE : ℕ
RELEASE = 3

abbrev pub INQUIRE : ℕ
INQUIRE = 4

abbrev pub FAIL : ℕ
FAIL = 5

abbrev pub YIELD : ℕ
YIELD = 6

abbrev pub TRANSFER : ℕ
TRANSFER = 7

-- Each maker takes the sender, the receiver, and then what the kind has besides.
abbrev pub request : ℕ → ℕ → ℕ → Message
request from to seq = record { kind = REQUEST; from = from; to = to; about = 0; number = seq }

abbrev pub reply : ℕ → ℕ → ℕ → ℕ → Message
reply from to arbiter grant = record { kind = REPLY; from = from; to = to; about = arbiter; number = grant }

abbrev pub release : ℕ → ℕ → ℕ → ℕ → Message
release from to heir grant = record { kind = RELEASE; from = from; to = to; about = heir; number = grant }

abbrev pub inquire : ℕ → ℕ → ℕ → Message
inquire from to grant = record { kind = INQUIRE; from = from; to = to; about = 0; number = grant }

abbrev pub fail : ℕ → ℕ → ℕ → Message
fail from to seq = record { kind = FAIL; from = from; to = to; about = 0; number = seq }

abbrev pub yield : ℕ → ℕ → ℕ → Message
yield from to grant = record { kind = YIELD; from = from; to = to; about = 0; number = grant }

abbrev pub transfer : ℕ → ℕ → ℕ → ℕ → Message
transfer from to heir grant = record { kind = TRANSFER; from = from; to = to; about = heir; number = grant }

-- a message names sites: its sender is one, the arbiter of a reply is one, and `about` is one or 0
pub record NamesSites (m : Message) : Type 0 where
  pub sender : SiteNumber m.from
  pub arbiter : m.kind ≡ REPLY → SiteNumber m.about
  pub about : m.about ≤ site_limit
