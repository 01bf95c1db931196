-- Request 2.5: "Some rigs weigh the main desk above the wing panels. Add a family from N votes, each 0 to 100, not all 0, lent in a buffer as long as
-- that of sets; entries past N are not read." Site n has the vote at index n - 1.
use Rattle.std.specs.Prelude.{ℕ, zero, suc, ◌+◌, ◌-◌, ◌*◌, ◌≤◌, ◌<◌, ◌≡◌, Bool, true, false, not, ◌&&◌, cond, List, eqb, leb, ltb}
use Rattle.rig.specs.Limits.{site_limit}
use Rattle.basics.specs.Helpers.{all, lowest}
use Rattle.model.specs.Tables.{at}
use Rattle.model.specs.Sets.{set_of}
use Rattle.family_sets.specs.Meeting.{SiteTo, Common}
use Rattle.family_sets.specs.Rule.{is_entry, sets_by}

-- "each 0 to 100"
abbrev pub vote_limit : ℕ
vote_limit = 100

-- "16 for a vote above 100 or all votes 0": what the votes of sites 1 to N must be
unfoldable pub none_above : ℕ → List ℕ → Bool
none_above size votes = all (λ n. leb (at 0 votes n) vote_limit) size

unfoldable pub all_zero : ℕ → List ℕ → Bool
all_zero size votes = all (λ n. eqb (at 0 votes n) 0) size

unfoldable pub votes_listed : ℕ → List ℕ → Bool
votes_listed size votes = none_above size votes && not (all_zero size votes)

-- the sum of the votes of sites 1 to n
unfoldable pub vote_sum : List ℕ → ℕ → ℕ
vote_sum votes zero = 0
vote_sum votes (suc i) = vote_sum votes i + at 0 votes (suc i)

-- "Site n takes sites n, n + 1 and so on, after N again 1": the site after site m, and the k-th after site n, n itself for k = 0
unfoldable pub site_after : ℕ → ℕ → ℕ
site_after size m = cond (eqb m size) 1 (m + 1)

unfoldable pub site_from : ℕ → ℕ → ℕ → ℕ
site_from size n zero = n
site_from size n (suc k) = site_after size (site_from size n k)

-- the votes of the first k sites from site n on
unfoldable pub taken : ℕ → List ℕ → ℕ → ℕ → ℕ
taken size votes n zero = 0
taken size votes n (suc k) = taken size votes n k + at 0 votes (site_from size n k)

-- "the votes taken exceed half of the sum": twice the votes taken exceed the sum
unfoldable pub exceeds_half : ℕ → List ℕ → ℕ → ℕ → Bool
exceeds_half size votes n k = ltb (vote_sum votes size) (2 * taken size votes n k)

-- "stopping as soon as": how many sites site n takes
unfoldable pub run_length : ℕ → List ℕ → ℕ → ℕ
run_length size votes n = lowest (exceeds_half size votes n) size

-- site m is one of the first k sites from site n on
abbrev pub in_run : ℕ → ℕ → ℕ → ℕ → Bool
in_run size k n = is_entry (λ n i. site_from size n (i - 1)) k n

-- site n takes site m
abbrev pub takes : ℕ → List ℕ → ℕ → ℕ → Bool
takes size votes n = in_run size (run_length size votes n) n

-- the buffer of sets; "Entries past N become empty."
abbrev pub sets_by_votes : ℕ → List ℕ → List ℕ
sets_by_votes size votes = sets_by (takes size votes) size

-- "entries past N are not read": votes that are the same at the sites 1 to N are listed or not alike, and give the same sets
abbrev pub PastUnread : Type 0
PastUnread =
    (size : ℕ) (votes others : List ℕ) → ((n : ℕ) → SiteTo size n → at 0 votes n ≡ at 0 others n)
    → (votes_listed size votes ≡ votes_listed size others) × (sets_by_votes size votes ≡ sets_by_votes size others)

-- "no shorter run from n would do": the set is a run from site n on whose votes exceed half of the sum, and those of a shorter run do not
pub record ShortestRun (size : ℕ) (votes : List ℕ) (n set : ℕ) : Type 0 where
  pub length : ℕ
  pub members : set ≡ set_of (in_run size length n) size
  pub enough : exceeds_half size votes n length ≡ true
  pub shorter : (k : ℕ) → k < length → exceeds_half size votes n k ≡ false

-- "Prove once, over N and the votes", for every N and all votes that are not all 0, "that no shorter run from n would do"
abbrev pub RunsShortest : Type 0
RunsShortest =
    (size : ℕ) (votes : List ℕ) → 0 < vote_sum votes size → (n : ℕ) → SiteTo size n → ShortestRun size votes n (set_of (takes size votes n) size)

-- "that two sets meet"
abbrev pub VotesMeet : Type 0
VotesMeet =
    (size : ℕ) (votes : List ℕ) → 0 < vote_sum votes size → (n l : ℕ) → SiteTo size n → SiteTo size l
    → Common size (takes size votes n) (takes size votes l)

-- what the inner calls ask of N and its votes, so that no sum passes 64 bits
abbrev pub VotesFit : ℕ → List ℕ → Type 0
VotesFit size votes = (size ≤ site_limit) × (none_above size votes ≡ true)
