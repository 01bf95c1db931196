-- The code that each case of a call with votes gets, and what holds of the sets of an accepted one.
use Prim.Native.Nat.{ℕ}
use mathlib.Core.Path.{◌≡◌, refl}
use mathlib.Core.Bool.{true, false, ◌&&◌}
use mathlib.Core.List.{List}
use native.Mathlib.Omega.{arith}
use lib.Dec.{eqb}
use lib.ListN.{length}
use borrow.Author.Tests.{eqb-true, eq-eqb, ne_eqb, not-false}
use Rattle.rig.specs.Limits.{site_limit}
use Rattle.basics.proofs.Basics.{and_split, and_second}
use Rattle.model.specs.Setup.{size_listed}
use Rattle.model.specs.State.{in_range}
use Rattle.model.proofs.Setup.{not-coded, zero-or-17}
use Rattle.model.proofs.Shaped.{within}
use Rattle.family_sets.specs.Meeting.{SiteTo}
use Rattle.family_sets.proofs.Rule.{set-made, sets-meet}
use Rattle.family_votes.specs.Votes.{votes_listed, takes, sets_by_votes, VotesFit}
use Rattle.family_votes.proofs.Listed.{listed-none-above, listed-sum}
use Rattle.family_votes.proofs.Meeting.{votes-meet, meets}
use Rattle.family_votes.proofs.Shortest.{run-shortest}
use Rattle.families.specs.ByVotes.{votes_code, VotesKept}

module _ (n : ℕ) (votes : List ℕ) (entries : ℕ) where
  pub sets-13 : (entries ≡ site_limit → ⊥) → votes_code n votes entries ≡ 13
  unfolding votes_code
  sets-13 h = rw (ne_eqb entries site_limit h)

  pub votes-13 : (length votes ≡ site_limit → ⊥) → votes_code n votes entries ≡ 13
  unfolding votes_code
  votes-13 h = rw (ne_eqb (length votes) site_limit h, and_second (eqb entries site_limit) false refl)

  module _ (e : entries ≡ site_limit) (l : length votes ≡ site_limit) where
    pub code-1 : in_range site_limit n ≡ false → votes_code n votes entries ≡ 1
    unfolding votes_code size_listed
    code-1 h = rw (eq-eqb entries site_limit e, eq-eqb (length votes) site_limit l, h)

    module _ (h : in_range site_limit n ≡ true) where
      pub code-16 : votes_listed n votes ≡ false → votes_code n votes entries ≡ 16
      unfolding votes_code size_listed
      code-16 v = rw (eq-eqb entries site_limit e, eq-eqb (length votes) site_limit l, h, v)

      pub code-0 : votes_listed n votes ≡ true → votes_code n votes entries ≡ 0
      unfolding votes_code size_listed
      code-0 v = rw (eq-eqb entries site_limit e, eq-eqb (length votes) site_limit l, h, v)

  -- what an accepted call has found
  module _ (z : votes_code n votes entries ≡ 0) where
    accepted-long : (eqb entries site_limit && eqb (length votes) site_limit ≡ true) × (size_listed n ≡ true) × (votes_listed n votes ≡ true)
    unfolding votes_code
    accepted-long =
        let a = not-coded _ 13 _ (omega arith) z in
        let b = not-coded _ 1 _ (omega arith) a.1 in
        let c = not-coded _ 16 _ (omega arith) b.1 in
        (not-false _ a.0, not-false _ b.0, not-false _ c.0)

    pub accepted-sets : entries ≡ site_limit
    accepted-sets = eqb-true entries site_limit (and_split (eqb entries site_limit) (eqb (length votes) site_limit) accepted-long.0).0

    pub accepted-size : SiteTo site_limit n
    unfolding size_listed
    accepted-size = within site_limit n accepted-long.1

    pub votes-fit : VotesFit n votes
    votes-fit = (accepted-size.1, listed-none-above votes n accepted-long.2)

    pub votes-kept : VotesKept n votes (sets_by_votes n votes)
    votes-kept =
        let h = accepted-size in
        let s = listed-sum votes n accepted-long.2 in
        record {
          meet = sets-meet (takes n votes) n h (votes-meet n votes s);
          shortest = λ k r. rw (set-made (takes n votes) n h k r) (run-shortest n votes s k r);
          meeting = meets n votes s h;
          zero_or17 = zero-or-17 n (sets_by_votes n votes) (meets n votes s h);
        }
