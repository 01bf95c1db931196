-- "that two sets meet": two runs that share no site would have more than all votes.
use Prim.Native.Nat.{ℕ, zero, suc, ◌+◌, ◌-◌, ◌*◌, ◌≤◌, ◌<◌}
use mathlib.Core.Path.{◌≡◌, refl, ◌∙◌}
use mathlib.Core.Bool.{true}
use mathlib.Core.List.{List}
use native.Mathlib.Omega.{arith}
use lib.Dec.{leb, ltb}
use borrow.Author.Tests.{leb-true, leb-false, ltb-true, ltb-false}
use Rattle.rig.specs.Limits.{site_limit}
use Rattle.basics.proofs.Basics.{by_bool}
use Rattle.family_sets.specs.Meeting.{SiteTo, Common}
use Rattle.family_sets.specs.Rule.{meeting_by}
use Rattle.family_sets.proofs.Rule.{rule-meets}
use Rattle.family_votes.specs.Votes.{vote_sum, site_from, taken, exceeds_half, run_length, takes}
use Rattle.family_votes.proofs.Runs.{from-below, from_past, run-has}
use Rattle.family_votes.proofs.Sums.{taken_more, taken-below, taken-past}
use Rattle.family_votes.proofs.Shortest.{run-lowest}

module _ (size : ℕ) (votes : List ℕ) (some : 0 < vote_sum votes size) where
  -- what the run of site i + 1 has
  module _ (i : ℕ) (l : i < size) where
    abbrev length : ℕ
    length = run_length size votes (suc i)

    length-low : 1 ≤ length
    length-low = (run-lowest size votes some (suc i) (omega arith, l)).low

    more-than-half : vote_sum votes size < 2 * taken size votes (suc i) length
    unfolding exceeds_half
    more-than-half = ltb-true _ _ (run-lowest size votes some (suc i) (omega arith, l)).passes

    -- at most as many sites have no more votes
    taken-within : (k : ℕ) → length ≤ k → taken size votes (suc i) length ≤ taken size votes (suc i) k
    taken-within k m =
        let e : k - length + length ≡ k = omega arith in
        rw e at (taken_more size votes (suc i) length (k - length))

    -- the site k sites on is taken, where the run is longer
    taken-site : (k m : ℕ) → k < length → site_from size (suc i) k ≡ m → takes size votes (suc i) m ≡ true
    taken-site k m n e = rw e at (run-has size (suc i) (omega arith, l) k length n)

  module _ (i j : ℕ) (o : i ≤ j) (l : j < size) where
    low : i < size
    low = omega arith

    -- the run of site i + 1 reaches site j + 1
    first-reaches : j - i < length i low → Common size (takes size votes (suc i)) (takes size votes (suc j))
    unfolding site_from
    first-reaches m = record {
      site = suc j;
      in_range = (omega arith, l);
      first = taken-site i low (j - i) (suc j) m (from-below size (suc i) (omega arith, low) (j - i) (omega arith) ∙ omega arith);
      second = taken-site j l 0 (suc j) (length-low j l) refl;
    }

    -- the run of site j + 1 passes N and reaches site i + 1
    second-reaches : size - j + i < length j l → Common size (takes size votes (suc i)) (takes size votes (suc j))
    unfolding site_from
    second-reaches m = record {
      site = suc i;
      in_range = (omega arith, low);
      first = taken-site i low 0 (suc i) (length-low i low) refl;
      second = taken-site j l (size - j + i) (suc i) m (from_past size (suc j) (omega arith, l) (size - j + i) (omega arith) (omega arith) ∙ omega arith);
    }

    -- otherwise the two runs share no site, and have at most all votes
    too_many : length i low ≤ j - i → length j l ≤ i + (size - j) → ⊥
    too_many m n =
        let a = more-than-half i low in
        let b = more-than-half j l in
        let e : i + (j - i) ≡ j = omega arith in
        let c = rw e at (taken-below size votes i low (j - i) (omega arith)) in
        let d = taken-past size votes j l i (omega arith) in
        let f = taken-within i low (j - i) m in
        let g = taken-within j l (i + (size - j)) n in
        omega arith

    in_order : Common size (takes size votes (suc i)) (takes size votes (suc j))
    in_order =
        by_bool (ltb (j - i) (length i low))
        (λ t. first-reaches (ltb-true _ _ t))
        (λ t. by_bool (ltb (size - j + i) (length j l))
        (λ u. second-reaches (ltb-true _ _ u))
        (λ u. let n : length j l ≤ size - j + i = ltb-false _ _ u in absurd (too_many (ltb-false _ _ t) (omega arith))))

  pub votes-meet : (n l : ℕ) → SiteTo size n → SiteTo size l → Common size (takes size votes n) (takes size votes l)
  votes-meet zero l a b = absurd (omega arith)
  votes-meet (suc i) zero a b = absurd (omega arith)
  votes-meet (suc i) (suc j) a b =
      by_bool (leb i j)
      (λ t. in_order i j (leb-true _ _ t) (omega arith))
      (λ t. let m : j < i = leb-false _ _ t in
      let s = in_order j i (omega arith) (omega arith) in
      record { site = s.site; in_range = s.in_range; first = s.second; second = s.first })

  -- setup gives them none of the codes 13, 1, 2 and 3
  pub meets : SiteTo site_limit size → meeting_by (takes size votes) size ≡ 0
  meets h = rule-meets (takes size votes) size h votes-meet
