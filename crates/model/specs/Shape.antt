-- Document 01, "What is turned down, by operation": "10 if the state is misshapen: a field outside its range or not 0 where the tables
-- say 0, sets that setup would refuse, an entry for a non-member that isn't 0, or a holder, queued site, heir or message that ties a site
-- to an arbiter outside its set (in a reply the arbiter is `about` and the site is `to`; a named heir is such a site too)."
-- Request 2.6: "a state holding" sets of which one strictly contains another "counts as misshapen", as setup refuses them.
-- Each part of the state has a test of its own, on what it reads, and `well_shaped` is all of them. Every test of a table goes over all its
-- places, those past N too: a site past N has an empty set, so that no arbiter is its member. A tie of site k to arbiter j is in k's
-- set if `has_member sets k j`.
use Rattle.std.specs.Prelude.{ℕ, Bool, true, false, ◌&&◌, ◌||◌, cond, List, [], ◌∷◌, eqb, leb}
use Rattle.rig.specs.declared.Rig.{Rig}
use Rattle.rig.specs.declared.Site.{Site}
use Rattle.rig.specs.declared.Arbiter.{Arbiter}
use Rattle.rig.specs.declared.Mode.{Mode}
use Rattle.rig.specs.declared.Mode.TheVariants.{Rest, Waiting, Inside}
use Rattle.rig.specs.declared.Message.{Message}
use Rattle.rig.specs.Limits.{site_limit, message_limit, event_limit, number_limit}
use Rattle.rig.specs.Messages.{REQUEST, REPLY, RELEASE, INQUIRE, FAIL, YIELD, TRANSFER}
use Rattle.model.specs.Tables.{at, cell}
use Rattle.basics.specs.Helpers.{all}
use Rattle.model.specs.Setup.{setup_code, resting_site, free_arbiter}
use Rattle.model.specs.State.{Tables, size_of, sets_of, in_range, has_member, is_resting, Stored, under_way}

-- "Clocks, sequence and grant numbers: 0 to 2,000,000."
unfoldable pub is_number : ℕ → Bool
is_number n = leb n number_limit

-- a sequence or grant number of at least 1
unfoldable pub is_given : ℕ → Bool
is_given n = leb 1 n && is_number n

-- "all past N is 0": the set of site k
unfoldable pub set_shaped : ℕ → ℕ → ℕ → Bool
set_shaped n k set = leb k n || eqb set 0

-- A site. "A site not waiting has sequence number and failed mark 0" by its type, "a waiting one a sequence number of at least 1".
unfoldable pub mode_shaped : Mode → Bool
mode_shaped Rest = true
mode_shaped (Waiting s f) = is_given s
mode_shaped Inside = true

unfoldable pub site_blank : Site → Bool
site_blank s = eqb s.clock 0 && is_resting s.mode

-- site k of n
unfoldable pub site_shaped : ℕ → ℕ → Site → Bool
site_shaped n k s = cond (in_range n k) (is_number s.clock && mode_shaped s.mode) (site_blank s)

-- Arbiter j. "an arbiter without holder has 0 as the holder's sequence number, one with a holder at least 1"
unfoldable pub holder_shaped : List ℕ → ℕ → Arbiter → Bool
holder_shaped sets j a = cond (eqb a.holder 0) (eqb a.seq 0) (has_member sets a.holder j && is_given a.seq)

unfoldable pub arbiter_shaped : ℕ → List ℕ → ℕ → Arbiter → Bool
arbiter_shaped n sets j a = is_number a.grant && (holder_shaped sets j a && (in_range n j || eqb a.grant 0))

-- what stands in a rig at place k: a set, a site and an arbiter
unfoldable pub place_shaped : Rig → ℕ → Bool
place_shaped g k =
    set_shaped g.size k (at 0 g.sets k)
    && (site_shaped g.size k (at resting_site g.sites k)
    && arbiter_shaped g.size g.sets k (at free_arbiter g.arbiters k))

-- A rig: sets such as setup passes, "Accepted events in a run: at most 1,000,000", and every place.
unfoldable pub rig_shaped : Rig → Bool
rig_shaped g = eqb (setup_code g.size g.sets) 0 && (leb g.accepted event_limit && all (place_shaped g) site_limit)

-- An entry of a table of numbers: 0 "for a non-member".
unfoldable pub entry_shaped : Bool → ℕ → Bool
entry_shaped tie n = cond tie (is_number n) (eqb n 0)

-- what site k has for arbiter j: the number held, and a remembered inquire's
unfoldable pub own_shaped : List ℕ → ℕ → ℕ → ℕ → Bool
own_shaped sets k j n = entry_shaped (has_member sets k j) n

-- its heir h, a site that has j in its set
unfoldable pub heir_shaped : List ℕ → ℕ → ℕ → ℕ → Bool
heir_shaped sets k j h = eqb h 0 || (has_member sets k j && has_member sets h j)

-- what arbiter j has queued of site k, which has j in its set
unfoldable pub queued_shaped : List ℕ → ℕ → ℕ → ℕ → Bool
queued_shaped sets j k n = entry_shaped (has_member sets k j) n

-- a test of each entry of a table, with its row and its column
unfoldable pub everywhere : (ℕ → ℕ → ℕ → Bool) → List (List ℕ) → Bool
everywhere p table = all (λ a. all (λ b. p a b (cell table a b)) site_limit) site_limit

-- the rig and its tables
unfoldable pub tables_shaped : Tables → Bool
tables_shaped t =
    rig_shaped t.rig
    && (everywhere (own_shaped (sets_of t)) t.held
    && (everywhere (heir_shaped (sets_of t)) t.heir
    && (everywhere (own_shaped (sets_of t)) t.inquired
    && everywhere (queued_shaped (sets_of t)) t.queued)))

-- A message. "`number` is ... at least 1", but a fail's may be 0 (request 2.3)
unfoldable pub number_shaped : Message → Bool
number_shaped m = cond (eqb m.kind FAIL) (is_number m.number) (is_given m.number)

-- one that is about no site, of site k to or from arbiter j
unfoldable pub plain_shaped : List ℕ → ℕ → ℕ → ℕ → Bool
plain_shaped sets about k j = eqb about 0 && has_member sets k j

-- a release of site k to arbiter j, with an heir or 0
unfoldable pub release_shaped : List ℕ → ℕ → ℕ → ℕ → Bool
release_shaped sets k j heir = has_member sets k j && (eqb heir 0 || has_member sets heir j)

-- "`about` is the arbiter in a reply, the heir in a transfer, the heir or 0 in a release, otherwise 0", and who is tied to whom
unfoldable pub about_shaped : List ℕ → Message → Bool
about_shaped sets m =
    cond (eqb m.kind REQUEST) (plain_shaped sets m.about m.from m.to)
    (cond (eqb m.kind REPLY) (has_member sets m.to m.about)
    (cond (eqb m.kind RELEASE) (release_shaped sets m.from m.to m.about)
    (cond (eqb m.kind INQUIRE) (plain_shaped sets m.about m.to m.from)
    (cond (eqb m.kind FAIL) (plain_shaped sets m.about m.to m.from)
    (cond (eqb m.kind YIELD) (plain_shaped sets m.about m.from m.to)
    (cond (eqb m.kind TRANSFER) (has_member sets m.to m.from && has_member sets m.about m.from)
    false))))))

unfoldable pub message_shaped : ℕ → List ℕ → Message → Bool
message_shaped n sets m = in_range n m.from && (in_range n m.to && (number_shaped m && about_shaped sets m))

unfoldable pub messages_shaped : ℕ → List ℕ → List Message → Bool
messages_shaped n sets [] = true
messages_shaped n sets (m ∷ ms) = message_shaped n sets m && messages_shaped n sets ms

-- the whole state; "Messages under way: at most 1,024"
unfoldable pub well_shaped : Stored → Bool
well_shaped s =
    leb s.count message_limit
    && (tables_shaped s.tables && messages_shaped (size_of s.tables) (sets_of s.tables) (under_way s))
