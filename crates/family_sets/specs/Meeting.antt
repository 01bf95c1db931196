-- Document 01, "Sizes of a rig": "Every two sets share a site." What that asks of sets, site by site; and request 2.6: sets of which none
-- strictly contains another.
use Rattle.std.specs.Prelude.{ℕ, ◌≤◌, ◌≡◌, Bool, true, List, length}
use Rattle.rig.specs.Limits.{site_limit}
use Rattle.basics.specs.Helpers.{count}
use Rattle.model.specs.Tables.{at}
use Rattle.model.specs.Sets.{member, names}
use Rattle.model.specs.Setup.{meeting_code, setup_code}

-- a site of 1 to n
abbrev pub SiteTo : ℕ → ℕ → Type 0
SiteTo n k = (1 ≤ k) × (k ≤ n)

-- a site of 1 to n that passes both tests
pub record Common (n : ℕ) (p q : ℕ → Bool) : Type 0 where
  pub site : ℕ
  pub in_range : SiteTo n site
  pub first : p site ≡ true
  pub second : q site ≡ true

-- A buffer with an entry for each site, N in range, every set names sites of 1 to N and is not empty, and a common site for every two sets: setup gives
-- none of the codes 13, 1, 2 and 3.
abbrev pub MeetingCodeZero : Type 0
MeetingCodeZero =
    (n : ℕ) (sets : List ℕ) → length sets ≡ site_limit → SiteTo site_limit n
    → ((k : ℕ) → SiteTo n k → names n (at 0 sets k) ≡ true)
    → ((k l : ℕ) → SiteTo n k → SiteTo n l → Common n (member (at 0 sets k)) (member (at 0 sets l)))
    → meeting_code n sets ≡ 0

-- Sets that get none of these codes, each with as many sites as the others: none strictly contains another, so that setup's code is 0.
abbrev pub EqualAccepted : Type 0
EqualAccepted =
    (n members : ℕ) (sets : List ℕ) → meeting_code n sets ≡ 0
    → ((k : ℕ) → SiteTo n k → count (member (at 0 sets k)) n ≡ members)
    → setup_code n sets ≡ 0
