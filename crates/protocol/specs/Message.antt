-- The messages of one arbiter j. Every message of document 01 belongs to exactly one arbiter: a request, release or yield to the
-- one it goes to, an inquire, fail or transfer to the one it comes from, a reply to the one it is about. The site at the other end
-- is named in the message. A release that names an heir is a kind of its own here, `hand_over`, because it carries no permission.
use Rattle.std.specs.Prelude.{ℕ, Bool, ◌&&◌, ◌||◌, eqb}
use Rattle.protocol.specs.Ask.{Ask}

pub data Message : Type 0 where
  request : ℕ → Ask → Message  -- site, its ask
  reply : ℕ → ℕ → ℕ → Message  -- sender (the arbiter, or the site that hands on), site, grant number
  release : ℕ → ℕ → Message  -- site, grant number
  hand_over : ℕ → ℕ → ℕ → Message  -- site, heir, grant number
  inquire : ℕ → ℕ → Message  -- site, grant number
  fail : ℕ → ℕ → Message  -- site, the number of its ask that is failed; 0 where the number is lost
  yield : ℕ → ℕ → Message  -- site, grant number
  transfer : ℕ → ℕ → ℕ → Message  -- site, heir, grant number

-- "Kinds: 1 request, 2 reply, 3 release, 4 inquire, 5 fail, 6 yield, 7 transfer."
abbrev pub REQUEST : ℕ
REQUEST = 1

abbrev pub REPLY : ℕ
REPLY = 2

abbrev pub RELEASE : ℕ
RELEASE = 3

abbrev pub INQUIRE : ℕ
INQUIRE = 4

abbrev pub FAIL : ℕ
FAIL = 5

abbrev pub YIELD : ℕ
YIELD = 6

abbrev pub TRANSFER : ℕ
TRANSFER = 7

-- a release that names an heir
abbrev pub HANDOVER : ℕ
HANDOVER = 8

abbrev pub kind : Message → ℕ
kind (request k a) = REQUEST
kind (reply f k n) = REPLY
kind (release k n) = RELEASE
kind (hand_over k x n) = HANDOVER
kind (inquire k n) = INQUIRE
kind (fail k n) = FAIL
kind (yield k n) = YIELD
kind (transfer k x n) = TRANSFER

-- from whom and to whom a message of arbiter j goes
pub record Route : Type 0 where
  pub from : ℕ
  pub to : ℕ

abbrev pub route : ℕ → Message → Route
route j (request k a) = record { from = k; to = j }
route j (reply f k n) = record { from = f; to = k }
route j (release k n) = record { from = k; to = j }
route j (hand_over k x n) = record { from = k; to = j }
route j (inquire k n) = record { from = j; to = k }
route j (fail k n) = record { from = j; to = k }
route j (yield k n) = record { from = k; to = j }
route j (transfer k x n) = record { from = j; to = k }

-- the message of arbiter j goes from a to b
abbrev pub between : ℕ → ℕ → ℕ → Message → Bool
between j a b m = eqb a (route j m).from && eqb b (route j m).to

-- "travelling out, each reply about j under way"
abbrev pub is_out : Message → Bool
is_out m = eqb (kind m) REPLY

-- "travelling back, each yield to j and each release to j with about 0 under way. A release naming an heir carries none."
abbrev pub is_back : Message → Bool
is_back m = eqb (kind m) YIELD || eqb (kind m) RELEASE
