-- Request 2.5: what a call that generates a family from votes answers, and the sets that it leaves.
use Rattle.std.specs.Prelude.{ℕ, ◌≡◌, not, ◌&&◌, cond, ◌⊎◌, List, eqb, length}
use Rattle.rig.specs.Limits.{site_limit}
use Rattle.model.specs.Tables.{at}
use Rattle.model.specs.Sets.{member}
use Rattle.model.specs.Setup.{size_listed, meeting_code, setup_code}
use Rattle.family_sets.specs.Meeting.{SiteTo, Common}
use Rattle.family_votes.specs.Votes.{votes_listed, sets_by_votes, ShortestRun}

-- "Turned away: 16 for a vote above 100 or all votes 0, after 13 (for either buffer) and 1.": the code for N, the votes and a buffer of so many sets
unfoldable pub votes_code : ℕ → List ℕ → ℕ → ℕ
votes_code n votes entries =
    cond (not (eqb entries site_limit && eqb (length votes) site_limit)) 13
    (cond (not (size_listed n)) 1
    (cond (not (votes_listed n votes)) 16
    0))

-- what the buffer of sets holds after the call; turned down: "Nothing of the state or a lent buffer changes then."
unfoldable pub filled_by_votes : ℕ → List ℕ → List ℕ → List ℕ
filled_by_votes n votes sets = cond (eqb (votes_code n votes (length sets)) 0) (sets_by_votes n votes) sets

-- what holds of the sets that an accepted call leaves: "that two sets meet and that no shorter run from n would do". So setup gives none of the codes 13,
-- 1, 2 and 3; request 2.6: a family in which one set strictly contains another "is made as before, but setup rejects it"
pub record VotesKept (n : ℕ) (votes sets : List ℕ) : Type 0 where
  pub meet : (k l : ℕ) → SiteTo n k → SiteTo n l → Common n (member (at 0 sets k)) (member (at 0 sets l))
  pub shortest : (k : ℕ) → SiteTo n k → ShortestRun n votes k (at 0 sets k)
  pub meeting : meeting_code n sets ≡ 0
  pub zero_or17 : (setup_code n sets ≡ 0) ⊎ (setup_code n sets ≡ 17)
