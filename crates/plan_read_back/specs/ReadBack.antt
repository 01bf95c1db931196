-- Request 2.1, "a program that prints a family": its lines are "just as the player reads them".
use Rattle.std.specs.Prelude.{ℕ, ◌≤◌, true, List, [], ◌++◌, ◌≡◌, Some}
use Rattle.rig.specs.Limits.{site_limit}
use Rattle.model.specs.Sets.{names}
use Rattle.family_rules.specs.declared.Family.{Family}
use Rattle.family_rules.specs.Family.{listed, size_of, sets_of}
use Rattle.family_votes.specs.Votes.{sets_by_votes}
use Rattle.families.specs.ByVotes.{votes_code}
use Rattle.player_grammar.specs.declared.Line.TheVariants.{Sites, Set}
use Rattle.player_grammar.specs.Grammar.{meaning_of}
use Rattle.player_text.specs.Player.{transcript, output}
use Rattle.plan_lines.specs.Lines.{sites_bytes, set_bytes}
use Rattle.plan_text.specs.Plan.{family_text, votes_text}
use Rattle.plan_read_back.specs.Ready.{ready, played_behind}

-- the player's grammar reads a printed line `sites=` back as the same number, for every number from 0 to 999
abbrev pub SitesRead : Type 0
SitesRead = (n : ℕ) → n ≤ 999 → meaning_of (sites_bytes n) ≡ Some (Sites n)

-- and a printed line `set=` as the same set, for every set of sites 1 to the limit
abbrev pub SetRead : Type 0
SetRead = (set : ℕ) → names site_limit set ≡ true → meaning_of (set_bytes set) ≡ Some (Set set)

-- a printed family always sets up: whatever follows its lines is played on its fresh rig
abbrev pub FamilySetUp : Type 0
FamilySetUp = (f : Family) → listed f ≡ true → (rest : List ℕ) → output (family_text f ++ rest) ≡ transcript (ready (size_of f) (sets_of f)) [] rest

-- a family by votes sets up where setup accepts it, and stops the player with 17 where one of its sets strictly contains another
abbrev pub VotesPlayed : Type 0
VotesPlayed =
    (n : ℕ) (votes : List ℕ) → votes_code n votes site_limit ≡ 0
    → (rest : List ℕ) → output (votes_text n votes ++ rest) ≡ played_behind n (sets_by_votes n votes) rest
