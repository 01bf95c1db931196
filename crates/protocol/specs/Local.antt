-- What concerns one arbiter: its own row, its column of the sites' tables, and its messages under way.
use Rattle.std.specs.Prelude.{ℕ, Bool, List, [], ◌∷◌, ◌++◌}
use Rattle.basics.specs.Helpers.{update}
use Rattle.protocol.specs.Ask.{Ask}
use Rattle.protocol.specs.Message.{Message}

-- "A site is at rest, waiting or inside"
abbrev pub REST : ℕ
REST = 0

abbrev pub WAITING : ℕ
WAITING = 1

abbrev pub INSIDE : ℕ
INSIDE = 2

-- "An arbiter has its grant number g, its holder (0 none) with the holder's sequence number, and for each site the sequence number
-- queued (0 none)." A site has a mode, "the sequence number of its ask, and a failed mark", and for this member "the grant number
-- held (0 none), an heir (0 none) and a remembered inquire's number (0 none)."
pub record Local : Type 0 where
  pub grant : ℕ
  pub holder : ℕ
  pub holder_ask : Ask
  pub queued : ℕ → Ask
  pub mode : ℕ → ℕ
  pub ask : ℕ → Ask
  pub failed : ℕ → Bool
  pub held : ℕ → ℕ
  pub heir : ℕ → ℕ
  pub inquired : ℕ → ℕ

-- the tables, and the arbiter's messages in order of sending
pub record View : Type 0 where
  pub tables : Local
  pub messages : List Message

abbrev pub view : Local → List Message → View
view t ms = record { tables = t; messages = ms }

abbrev pub send : View → Message → View
send v m = record { tables = v.tables; messages = v.messages ++ m ∷ [] }

-- the tables with other entries: the arbiter's row, the sites' modes, asks and marks, the column of held, heir and inquired
abbrev pub with_arbiter : Local → ℕ → ℕ → Ask → (ℕ → Ask) → Local
with_arbiter t g h a q = record { grant = g; holder = h; holder_ask = a; queued = q; mode = t.mode; ask = t.ask; failed = t.failed; held = t.held; heir = t.heir; inquired = t.inquired }

abbrev pub with_sites : Local → (ℕ → ℕ) → (ℕ → Ask) → (ℕ → Bool) → Local
with_sites t mo ak fa = record { grant = t.grant; holder = t.holder; holder_ask = t.holder_ask; queued = t.queued; mode = mo; ask = ak; failed = fa; held = t.held; heir = t.heir; inquired = t.inquired }

abbrev pub with_entries : Local → (ℕ → ℕ) → (ℕ → ℕ) → (ℕ → ℕ) → Local
with_entries t he hr iq = record { grant = t.grant; holder = t.holder; holder_ask = t.holder_ask; queued = t.queued; mode = t.mode; ask = t.ask; failed = t.failed; held = he; heir = hr; inquired = iq }

-- "its three entries are cleared", of site k
abbrev pub without_entry : Local → ℕ → Local
without_entry t k = with_entries t (update t.held k 0) (update t.heir k 0) (update t.inquired k 0)

-- site k is queued with the ask a
abbrev pub with_queued : Local → ℕ → Ask → Local
with_queued t k a = with_arbiter t t.grant t.holder t.holder_ask (update t.queued k a)
