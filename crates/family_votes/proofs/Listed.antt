-- The votes that are listed.
use Prim.Native.Nat.{ℕ, zero, suc, ◌+◌, ◌*◌, ◌≤◌, ◌<◌}
use mathlib.Core.Path.{◌≡◌, refl, sym, ap, ◌∙◌}
use mathlib.Core.Bool.{Bool, true, false, not, ◌&&◌}
use mathlib.Core.List.{List}
use native.Mathlib.Numerals.{add-one}
use native.Mathlib.Omega.{arith}
use Rattle.std.specs.List.{sum, list_all}
use Rattle.std.proofs.lemmas.List.{take_all, get_or_past}
use Rattle.std.proofs.lemmas.List.Folds.{list_all_more}
use Rattle.std.proofs.lemmas.List.Sums.{sum_by_more}
use lib.Dec.{eqb, ltb}
use lib.ListN.{length, take, get_or}
use borrow.Author.Tests.{eqb-true, eqb-false, ne_eqb, ltb-true, ltb-false, leb-true, not-true}
use Rattle.basics.specs.Helpers.{all}
use Rattle.basics.proofs.Basics.{by_bool, all-at, and_split, and_second}
use Rattle.model.specs.Tables.{at}
use Rattle.family_sets.specs.Meeting.{SiteTo}
use Rattle.family_votes.specs.Votes.{vote_limit, none_above, all_zero, votes_listed, vote_sum}

and_one : (b : Bool) → b && true ≡ b
and_one true = refl
and_one false = refl

module _ (votes : List ℕ) where
  -- all votes are 0 exactly where the sum is
  pub zero-sum : (n : ℕ) → all_zero n votes ≡ eqb (vote_sum votes n) 0
  unfolding all_zero all vote_sum
  zero-sum zero = refl
  zero-sum (suc i) =
      let w = zero-sum i in
      by_bool (eqb (at 0 votes (suc i)) 0)
      (λ t. let z = eqb-true (at 0 votes (suc i)) 0 t in
      let e : vote_sum votes i ≡ vote_sum votes i + at 0 votes (suc i) = omega arith in
      rw (t, and_one (all_zero i votes), w) (ap (λ s. eqb s 0) e))
      (λ t. let ne = eqb-false (at 0 votes (suc i)) 0 t in
      rw (t, and_second (all_zero i votes) false refl) (sym (ne_eqb (vote_sum votes i + at 0 votes (suc i)) 0 (λ z. ne (omega arith)))))

  -- as the code has them: a test of the first n entries, where one past the end passes as 0 does, and their sum
  pub first_pass : (p : ℕ → Bool) → p 0 ≡ true → (n : ℕ) → list_all p (take n votes) ≡ all (λ k. p (at 0 votes k)) n
  unfolding all at
  first_pass p z zero = refl
  first_pass p z (suc i) =
      by_bool (ltb i (length votes))
      (λ t. let more = rw add-one at (list_all_more p votes i 0 (ltb-true i (length votes) t)) in more ∙ ap (λ b. b && p (get_or votes i 0)) (first_pass p z i))
      (λ t.
      let l = ltb-false i (length votes) t in
      let same : take (suc i) votes ≡ take i votes = take_all (suc i) votes (omega arith) ∙ sym (take_all i votes l) in
      ap (list_all p) same ∙ first_pass p z i ∙ rw (get_or_past votes i 0 l, z) (sym (and_one _)))

  pub first_sum : (n : ℕ) → sum (take n votes) ≡ vote_sum votes n
  unfolding vote_sum at
  first_sum zero = refl
  first_sum (suc i) =
      by_bool (ltb i (length votes))
      (λ t. let more = rw add-one at (sum_by_more (λ x. x) votes i 0 (ltb-true i (length votes) t)) in more ∙ ap (λ s. s + get_or votes i 0) (first_sum i))
      (λ t.
      let l = ltb-false i (length votes) t in
      let same : take (suc i) votes ≡ take i votes = take_all (suc i) votes (omega arith) ∙ sym (take_all i votes l) in
      ap sum same ∙ first_sum i ∙ rw (get_or_past votes i 0 l) (omega arith))

  module _ (size : ℕ) (h : none_above size votes ≡ true) where
    pub vote-most : (n : ℕ) → SiteTo size n → at 0 votes n ≤ vote_limit
    unfolding none_above
    vote-most n s = leb-true _ _ (all-at _ size n h s.0 s.1)

    pub sum-most : (n : ℕ) → n ≤ size → vote_sum votes n ≤ n * vote_limit
    unfolding vote_sum
    sum-most zero l = omega arith
    sum-most (suc i) l = let w = sum-most i (omega arith) in let v = vote-most (suc i) (omega arith, l) in omega arith

  -- listed votes are at most 100, and their sum is not 0
  pub listed-none-above : (size : ℕ) → votes_listed size votes ≡ true → none_above size votes ≡ true
  unfolding votes_listed
  listed-none-above size h = (and_split (none_above size votes) (not (all_zero size votes)) h).0

  pub listed-sum : (size : ℕ) → votes_listed size votes ≡ true → 0 < vote_sum votes size
  unfolding votes_listed
  listed-sum size h =
      let z = not-true (all_zero size votes) (and_split (none_above size votes) (not (all_zero size votes)) h).1 in
      let ne = eqb-false (vote_sum votes size) 0 (sym (zero-sum size) ∙ z) in
      omega arith
