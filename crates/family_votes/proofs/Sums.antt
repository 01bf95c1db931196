-- The votes of a run by the sums of the votes from site 1 on. A run starts at site i + 1.
use Prim.Native.Nat.{ℕ, zero, suc, ◌+◌, ◌-◌, ◌*◌, ◌≤◌, ◌<◌}
use mathlib.Core.Path.{◌≡◌}
use mathlib.Core.Bool.{true}
use mathlib.Core.List.{List}
use native.Mathlib.Omega.{arith}
use Rattle.family_sets.specs.Meeting.{SiteTo}
use Rattle.family_votes.specs.Votes.{vote_limit, none_above, vote_sum, site_from, taken}
use Rattle.family_votes.proofs.Listed.{vote-most}
use Rattle.family_votes.proofs.Runs.{from-below, from_past, from-range}

module _ (size : ℕ) (votes : List ℕ) where
  -- a longer run has no fewer votes
  pub taken_more : (n k d : ℕ) → taken size votes n k ≤ taken size votes n (d + k)
  unfolding taken
  taken_more n k zero = let e : 0 + k ≡ k = omega arith in rw e (omega arith)
  taken_more n k (suc d) =
      let w = taken_more n k d in
      let e : suc d + k ≡ suc (d + k) = omega arith in
      rw e (omega arith)

  -- each vote is at most 100
  pub taken-most : none_above size votes ≡ true → (n : ℕ) → SiteTo size n → (k : ℕ) → k ≤ size → taken size votes n k ≤ k * vote_limit
  unfolding taken
  taken-most h n s zero l = omega arith
  taken-most h n s (suc k) l =
      let w = taken-most h n s k (omega arith) in
      let v = vote-most votes size h (site_from size n k) (from-range size n s k (omega arith)) in
      omega arith

  module _ (i : ℕ) (l : i < size) where
    -- as long as it has not passed N
    pub taken-below : (k : ℕ) → i + k ≤ size → vote_sum votes (i + k) ≡ vote_sum votes i + taken size votes (suc i) k
    unfolding vote_sum taken
    taken-below zero m = let e : i + 0 ≡ i = omega arith in rw e (omega arith)
    taken-below (suc k) m =
        let w = taken-below k (omega arith) in
        let f = from-below size (suc i) (omega arith, omega arith) k (omega arith) in
        let e : site_from size (suc i) k ≡ suc (i + k) = omega arith in
        let s : i + suc k ≡ suc (i + k) = omega arith in
        rw (s, e) (omega arith)

    -- and once it has, d sites from site 1 on
    pub taken-past : (d : ℕ) → d ≤ size → taken size votes (suc i) (d + (size - i)) + vote_sum votes i ≡ vote_sum votes size + vote_sum votes d
    unfolding vote_sum taken
    taken-past zero m =
        let s : i + (size - i) ≡ size = omega arith in
        let e : 0 + (size - i) ≡ size - i = omega arith in
        let w = rw s at (taken-below (size - i) (omega arith)) in
        rw e (omega arith)
    taken-past (suc d) m =
        let w = taken-past d (omega arith) in
        let f = from_past size (suc i) (omega arith, omega arith) (d + (size - i)) (omega arith) (omega arith) in
        let e : site_from size (suc i) (d + (size - i)) ≡ suc d = omega arith in
        let s : suc d + (size - i) ≡ suc (d + (size - i)) = omega arith in
        rw (s, e) (omega arith)

    -- a round has all votes
    pub taken-round : taken size votes (suc i) size ≡ vote_sum votes size
    taken-round =
        let s : i + (size - i) ≡ size = omega arith in
        let w = rw s at (taken-past i (omega arith)) in
        omega arith
