-- "entries past N are not read": votes that are the same at the sites 1 to N give the same sets.
use Prim.Native.Nat.{ℕ, zero, suc, ◌≤◌}
use mathlib.Core.Path.{◌≡◌, refl, ap, fun_ext}
use mathlib.Core.Bool.{Bool, ◌&&◌}
use mathlib.Core.List.{List}
use native.Mathlib.Omega.{arith}
use lib.Dec.{eqb, leb}
use borrow.Author.Tests.{eqb-false, leb-true}
use Rattle.basics.specs.Helpers.{all, lowest}
use Rattle.basics.proofs.Basics.{by_bool, all_same, and_split}
use Rattle.model.specs.Tables.{at}
use Rattle.model.specs.Sets.{set_of}
use Rattle.family_sets.specs.Meeting.{SiteTo}
use Rattle.family_sets.specs.Rule.{set_by, sets_up_to}
use Rattle.family_votes.specs.Votes.{vote_limit, none_above, all_zero, votes_listed, vote_sum, site_after, site_from, taken, exceeds_half, run_length, in_run, takes, sets_by_votes}

-- a run stays among the sites
site-stays : (size n k : ℕ) → SiteTo size n → SiteTo size (site_from size n k)
unfolding site_from site_after
site-stays size n zero h = h
site-stays size n (suc k) h =
    let s = site-stays size n k h in
    by_bool (eqb (site_from size n k) size)
    (λ t. rw t (omega arith, omega arith))
    (λ t. let ne = eqb-false (site_from size n k) size t in rw t (omega arith, omega arith))

module _ (size : ℕ) (votes others : List ℕ) (same : (n : ℕ) → SiteTo size n → at 0 votes n ≡ at 0 others n) where
  -- what is asked of each vote is asked of the same numbers
  asked-same : (p : ℕ → Bool) → all (λ n. p (at 0 votes n)) size ≡ all (λ n. p (at 0 others n)) size
  asked-same p = all_same (λ n. p (at 0 votes n)) (λ n. p (at 0 others n)) size (λ k a b. ap p (same k (a, b)))

  listed_same : votes_listed size votes ≡ votes_listed size others
  unfolding votes_listed none_above all_zero
  listed_same = rw (asked-same (λ v. leb v vote_limit), asked-same (λ v. eqb v 0))

  sum_same : (n : ℕ) → n ≤ size → vote_sum votes n ≡ vote_sum others n
  unfolding vote_sum
  sum_same zero h = refl
  sum_same (suc i) h = rw (sum_same i (omega arith), same (suc i) (omega arith, h))

  taken-same : (n k : ℕ) → SiteTo size n → taken size votes n k ≡ taken size others n k
  unfolding taken
  taken-same n zero h = refl
  taken-same n (suc k) h = rw (taken-same n k h, same (site_from size n k) (site-stays size n k h))

  length-same : (n : ℕ) → SiteTo size n → run_length size votes n ≡ run_length size others n
  unfolding run_length exceeds_half
  length-same n h = ap (λ p. lowest p size) (fun_ext (λ k. rw (sum_same size (omega arith), taken-same n k h)))

  set_same : (n : ℕ) → set_by (takes size votes) size n ≡ set_by (takes size others) size n
  unfolding set_by
  set_same n =
      by_bool (leb 1 n && leb n size)
      (λ t. let s = and_split (leb 1 n) (leb n size) t in
      rw t (ap (λ r. set_of (in_run size r n) size) (length-same n (leb-true 1 n s.0, leb-true n size s.1))))
      (λ t. rw t)

  sets_same : (i : ℕ) → sets_up_to (takes size votes) size i ≡ sets_up_to (takes size others) size i
  unfolding sets_up_to
  sets_same zero = refl
  sets_same (suc i) = rw (sets_same i, set_same (suc i))

  pub past-unread : (votes_listed size votes ≡ votes_listed size others) × (sets_by_votes size votes ≡ sets_by_votes size others)
  past-unread = (listed_same, sets_same _)
