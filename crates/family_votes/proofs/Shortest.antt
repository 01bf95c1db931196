-- "no shorter run from n would do": there is a run whose votes exceed half of the sum, and the set is the shortest.
use Prim.Native.Nat.{ℕ, zero, suc, ◌+◌, ◌*◌, ◌≤◌, ◌<◌}
use mathlib.Core.Path.{◌≡◌, refl}
use mathlib.Core.Bool.{true, false}
use mathlib.Core.List.{List}
use mathlib.Core.Logic.{⊎_elim}
use native.Mathlib.Numerals.{add-one}
use native.Mathlib.Omega.{arith}
use borrow.Author.Tests.{lt-ltb, le-ltb}
use Rattle.basics.proofs.Basics.{clash, IsLowest, lowest-is}
use Rattle.model.specs.Tables.{at}
use Rattle.model.specs.Sets.{set_of}
use Rattle.family_sets.specs.Meeting.{SiteTo}
use Rattle.family_votes.specs.Votes.{vote_sum, site_from, taken, exceeds_half, run_length, takes, ShortestRun}
use Rattle.family_votes.proofs.Sums.{taken-round}

-- one site more is enough, or not, as a loop's turn finds it
module _ (size : ℕ) (votes : List ℕ) (n k : ℕ) where
  pub more-taken : taken size votes n (k + 1) ≡ taken size votes n k + at 0 votes (site_from size n k)
  unfolding taken
  more-taken = rw add-one

  pub more-enough : vote_sum votes size < 2 * taken size votes n (k + 1) → exceeds_half size votes n (suc k) ≡ true
  unfolding exceeds_half
  more-enough h = lt-ltb (vote_sum votes size) (2 * taken size votes n (suc k)) (rw add-one at h)

  pub more-wanted : 2 * taken size votes n (k + 1) ≤ vote_sum votes size → exceeds_half size votes n (suc k) ≡ false
  unfolding exceeds_half
  more-wanted h = le-ltb (vote_sum votes size) (2 * taken size votes n (suc k)) (rw add-one at h)

module _ (size : ℕ) (votes : List ℕ) (some : 0 < vote_sum votes size) where
  -- a round is enough
  round-enough : (n : ℕ) → SiteTo size n → exceeds_half size votes n size ≡ true
  unfolding exceeds_half
  round-enough zero h = absurd (omega arith)
  round-enough (suc i) h = let w = taken-round size votes i (omega arith) in lt-ltb (vote_sum votes size) (2 * taken size votes (suc i) size) (omega arith)

  pub run-lowest : (n : ℕ) → SiteTo size n → IsLowest (exceeds_half size votes n) size (run_length size votes n)
  unfolding run_length
  run-lowest n h =
      ⊎_elim
      (λ s. s)
      (λ z. clash (exceeds_half size votes n size) (round-enough n h) (z.1 size (omega arith) (omega arith)))
      (lowest-is (exceeds_half size votes n) size)

  -- a run without sites is not enough
  none-enough : (n : ℕ) → exceeds_half size votes n 0 ≡ false
  unfolding exceeds_half taken
  none-enough n = le-ltb (vote_sum votes size) 0 (omega arith)

  pub run-shortest : (n : ℕ) → SiteTo size n → ShortestRun size votes n (set_of (takes size votes n) size)
  run-shortest n h =
      let s = run-lowest n h in
      record {
        length = run_length size votes n;
        members = refl;
        enough = s.passes;
        shorter = shorter s;
      }
    where
      shorter : IsLowest (exceeds_half size votes n) size (run_length size votes n) → (k : ℕ) → k < run_length size votes n → exceeds_half size votes n k ≡ false
      shorter s zero l = none-enough n
      shorter s (suc k) l = s.below (suc k) (omega arith) l
