-- The whole rig: all arbiters over one table of the sites and one list of messages; its events, and a run of them.
use Rattle.std.specs.Prelude.{ℕ, zero, suc, max, Bool, true, false, not, ◌&&◌, ◌||◌, cond, List, [], ◌∷◌, ◌++◌, eqb, leb}
use Rattle.std.proofs.Math.Option.{Option, none, some}
use Rattle.basics.specs.Helpers.{update, all, first, without_first}
use Rattle.protocol.specs.Ask.{Ask, ask_with, no_ask}
use Rattle.protocol.specs.Message.{Message, request, reply, release, hand_over, inquire, fail, yield, transfer, between}
use Rattle.protocol.specs.Local.{REST, WAITING, INSIDE, Local, View, view}
use Rattle.protocol.specs.Site.{taken, takes, fail_counts, on_fail, handled}
use Rattle.protocol.specs.System.{System, setting_of}

-- arbiter j's row, and its column of the tables held, heir and inquired
pub record Row : Type 0 where
  pub grant : ℕ
  pub holder : ℕ
  pub holder_ask : Ask
  pub queued : ℕ → Ask
  pub held : ℕ → ℕ
  pub heir : ℕ → ℕ
  pub inquired : ℕ → ℕ

pub record Sites : Type 0 where
  pub mode : ℕ → ℕ
  pub ask : ℕ → Ask
  pub failed : ℕ → Bool

-- a message with the arbiter that it belongs to
pub record Sent : Type 0 where
  pub arbiter : ℕ
  pub message : Message

-- "The list under way is in order of sending."
pub record Rig : Type 0 where
  pub sites : Sites
  pub clock : ℕ → ℕ
  pub rows : ℕ → Row
  pub under_way : List Sent

-- the part that concerns one arbiter, and back
abbrev pub local_of : Sites → Row → Local
local_of s r = record { grant = r.grant; holder = r.holder; holder_ask = r.holder_ask; queued = r.queued; mode = s.mode; ask = s.ask; failed = s.failed; held = r.held; heir = r.heir; inquired = r.inquired }

abbrev pub row_of : Local → Row
row_of t = record { grant = t.grant; holder = t.holder; holder_ask = t.holder_ask; queued = t.queued; held = t.held; heir = t.heir; inquired = t.inquired }

abbrev pub sites_of : Local → Sites
sites_of t = record { mode = t.mode; ask = t.ask; failed = t.failed }

-- the messages of arbiter j, out of all and back
unfoldable pub messages_of : ℕ → List Sent → List Message
messages_of j [] = []
messages_of j (x ∷ xs) = cond (eqb j x.arbiter) (x.message ∷ messages_of j xs) (messages_of j xs)

abbrev pub sent : ℕ → Message → Sent
sent j m = record { arbiter = j; message = m }

unfoldable pub sent_by : ℕ → List Message → List Sent
sent_by j [] = []
sent_by j (m ∷ ms) = sent j m ∷ sent_by j ms

-- the messages of arbiter 1, of arbiter 2 and so on to n
unfoldable pub in_order : (ℕ → List Message) → ℕ → List Sent
in_order f zero = []
in_order f (suc n) = in_order f n ++ sent_by (suc n) (f (suc n))

-- the message goes from a to b
abbrev pub channel : ℕ → ℕ → Sent → Bool
channel a b x = between x.arbiter a b x.message

-- what may happen; `lose`: the fails at the places that are named, from 0, lose their numbers
pub data Event : Type 0 where
  ask : ℕ → Event
  leave : ℕ → Event
  deliver : ℕ → ℕ → Event
  lose : (ℕ → Bool) → Event

-- a message without its number, if it is a fail
abbrev pub unnumbered : Message → Message
unnumbered (request k a) = request k a
unnumbered (reply f k n) = reply f k n
unnumbered (release k n) = release k n
unnumbered (hand_over k x n) = hand_over k x n
unnumbered (inquire k n) = inquire k n
unnumbered (fail k n) = fail k 0
unnumbered (yield k n) = yield k n
unnumbered (transfer k x n) = transfer k x n

-- the messages once the fails at the places that p names, from 0, have lost their numbers
unfoldable pub lost : (ℕ → Bool) → List Sent → List Sent
lost p [] = []
lost p (x ∷ xs) = sent x.arbiter (cond (p 0) (unnumbered x.message) x.message) ∷ lost (λ i. p (suc i)) xs

-- "All three entries of every member, held or not, are cleared.": those that site s has for the one arbiter of this row
abbrev pub without_entries : Row → ℕ → Row
without_entries r s = record { grant = r.grant; holder = r.holder; holder_ask = r.holder_ask; queued = r.queued; held = update r.held s 0; heir = update r.heir s 0; inquired = update r.inquired s 0 }

-- "with heir k, a reply (about j, number g + 1) to k, then a release (about k, number g) to j; without, a release (about 0,
-- number g) to j": what site s sends on, held with number g
abbrev pub hand_on : ℕ → ℕ → ℕ → List Message
hand_on s k g = cond (eqb k 0) (release s g ∷ []) (reply s k (suc g) ∷ hand_over s k g ∷ [])

-- arbiter j's part of the rig
abbrev pub local_at : Rig → ℕ → Local
local_at r j = local_of r.sites (r.rows j)

-- the rows once the reply about j, number n, is taken by b
abbrev pub rows_taken : Rig → ℕ → ℕ → ℕ → ℕ → Row
rows_taken r j b n = update r.rows j (row_of (taken (local_at r j) b n))

-- "all remembered inquires become 0" when a site enters: those of the other arbiters
abbrev pub without_inquired : Row → ℕ → Row
without_inquired r b = record { grant = r.grant; holder = r.holder; holder_ask = r.holder_ask; queued = r.queued; held = r.held; heir = r.heir; inquired = update r.inquired b 0 }

-- "Clock and sequence number become clock + 1": the ask that site s makes next
abbrev pub made : Rig → ℕ → Ask
made r s = ask_with (suc (r.clock s))

module _ (y : System) where
  -- "requests go to its members, ascending": what goes to arbiter j alone; `in_order` has them ascend
  abbrev pub requests : ℕ → Ask → ℕ → List Message
  requests s a j = cond (y.sets s j) (request s a ∷ []) []

  -- "Ask. Clock and sequence number become clock + 1; failed, held, heirs and remembered inquires are cleared; the site waits;
  -- requests go to its members, ascending."
  unfoldable pub asked : Rig → ℕ → Rig
  asked r s = record {
    sites = record { mode = update r.sites.mode s WAITING; ask = update r.sites.ask s (made r s); failed = update r.sites.failed s false };
    clock = update r.clock s (suc (r.clock s));
    rows = λ j. without_entries (r.rows j) s;
    under_way = r.under_way ++ in_order (requests s (made r s)) y.size;
  }

  -- "For each member j ascending, held with number g": what site s sends on for arbiter j alone; `in_order` has them ascend
  abbrev pub hand_ons : Rig → ℕ → ℕ → List Message
  hand_ons r s j = cond (y.sets s j && not (eqb ((r.rows j).held s) 0)) (hand_on s ((r.rows j).heir s) ((r.rows j).held s)) []

  -- "All three entries of every member, held or not, are cleared. The site is at rest."
  unfoldable pub left : Rig → ℕ → Rig
  left r s = record {
    sites = record { mode = update r.sites.mode s REST; ask = r.sites.ask; failed = r.sites.failed };
    clock = r.clock;
    rows = λ j. without_entries (r.rows j) s;
    under_way = r.under_way ++ in_order (hand_ons r s) y.size;
  }

  -- "all members are held"
  unfoldable pub all_held : (ℕ → Row) → ℕ → Bool
  all_held rows b = all (λ j. not (y.sets b j) || not (eqb ((rows j).held b) 0)) y.size

  -- what the message m makes of arbiter j's part, with the messages that follow
  abbrev pub effect : Rig → ℕ → Bool → Message → View
  effect r j e m = handled (setting_of y j) (view (local_at r j) []) e m

  -- A message that changes the row of its arbiter j alone; rest is the list without it. The sites stay: an inquire yields only where
  -- failed is set already.
  abbrev pub with_effect : Rig → List Sent → (ℕ → ℕ) → ℕ → Message → Rig
  with_effect r rest clock j m = record {
    sites = r.sites;
    clock = clock;
    rows = update r.rows j (row_of (effect r j false m).tables);
    under_way = rest ++ sent_by j (effect r j false m).messages;
  }

  -- a fail to b with number n, as arbiter i sees it
  abbrev pub fail_seen : Rig → ℕ → ℕ → ℕ → View
  fail_seen r b n i = on_fail (setting_of y i) (view (local_at r i) []) b n

  -- what the message m of arbiter j makes of the rig; rest is the list without it. A request raises the clock of the site that is the
  -- arbiter; a fail may be followed by yields to every arbiter; a reply may let its site enter, and
  -- else leaves the sites, for it too yields only where failed is set already.
  unfoldable pub delivered : Rig → List Sent → ℕ → Message → Rig
  delivered r rest j (request k a) = with_effect r rest (update r.clock j (max (r.clock j) a.number)) j (request k a)
  delivered r rest j (release k n) = with_effect r rest r.clock j (release k n)
  delivered r rest j (hand_over k x n) = with_effect r rest r.clock j (hand_over k x n)
  delivered r rest j (yield k n) = with_effect r rest r.clock j (yield k n)
  delivered r rest j (inquire k n) = with_effect r rest r.clock j (inquire k n)
  delivered r rest j (transfer k x n) = with_effect r rest r.clock j (transfer k x n)
  delivered r rest j (fail b n) = record {
    sites = record { mode = r.sites.mode; ask = r.sites.ask; failed = cond (fail_counts r.sites.mode r.sites.ask b n) (update r.sites.failed b true) r.sites.failed };
    clock = r.clock;
    rows = λ i. row_of (fail_seen r b n i).tables;
    under_way = rest ++ in_order (λ i. (fail_seen r b n i).messages) y.size;
  }
  delivered r rest j (reply f b n) =
      let e = all_held (rows_taken r j b n) b in
      let enters = takes (setting_of y j) (local_at r j) b && e in
      record {
        sites = cond enters (record { mode = update r.sites.mode b INSIDE; ask = update r.sites.ask b no_ask; failed = update r.sites.failed b false }) r.sites;
        clock = r.clock;
        rows = λ i. cond (eqb i j) (row_of (effect r j e (reply f b n)).tables) (cond enters (without_inquired (r.rows i) b) (r.rows i));
        under_way = rest ++ sent_by j (effect r j e (reply f b n)).messages;
      }

  -- "The first message from a to b is taken off"; where there is none, nothing changes
  unfoldable pub taken_off : Rig → ℕ → ℕ → Option Sent → Rig
  taken_off r a b none = r
  taken_off r a b (some x) = delivered r (without_first (channel a b) r.under_way) x.arbiter x.message

  -- an ask by a site at rest, a leave by a site inside, a delivery, numbers lost; an event that is refused changes nothing
  unfoldable pub step : Rig → Event → Rig
  step r (ask s) = cond ((leb 1 s && leb s y.size) && eqb (r.sites.mode s) REST) (asked r s) r
  step r (leave s) = cond (eqb (r.sites.mode s) INSIDE) (left r s) r
  step r (deliver a b) = taken_off r a b (first (channel a b) r.under_way)
  step r (lose p) = record { sites = r.sites; clock = r.clock; rows = r.rows; under_way = lost p r.under_way }

  -- "each later one the state and the list under way that the one before it left"
  unfoldable pub run : List Event → Rig → Rig
  run [] r = r
  run (e ∷ es) r = run es (step r e)

-- "Fresh: all but N and the sets zero, at rest, nothing under way."
unfoldable pub fresh : Rig
fresh = record {
  sites = record { mode = λ k. REST; ask = λ k. no_ask; failed = λ k. false };
  clock = λ k. 0;
  rows = λ j. record { grant = 0; holder = 0; holder_ask = no_ask; queued = λ k. no_ask; held = λ k. 0; heir = λ k. 0; inquired = λ k. 0 };
  under_way = [];
}
