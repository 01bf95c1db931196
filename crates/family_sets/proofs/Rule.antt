-- The sets that a rule makes: they meet where the rule names a common site for every two, and setup accepts them where it takes equally many for each.
use Prim.Native.Nat.{ℕ, zero, suc, ◌+◌, ◌≤◌, ◌<◌}
use mathlib.Core.Path.{◌≡◌, refl, sym, ◌∙◌}
use mathlib.Core.Bool.{Bool, true}
use mathlib.Core.List.{List, [], ◌∷◌}
use native.Mathlib.Nat.{le_antisymm}
use native.Mathlib.Numerals.{add-one}
use native.Mathlib.Omega.{arith}
use lib.Dec.{eqb}
use lib.ListN.{length, take, set, length-append, get_or-append}
use lib.Seq.{get_or-append_seam, take_all, take-suc-set}
use borrow.Author.Tests.{eqb-true, eqb-false, le-leb, lt-ltb}
use Rattle.rig.specs.Limits.{site_limit}
use Rattle.basics.specs.Helpers.{all, count}
use Rattle.basics.proofs.Basics.{by_bool, clash, and-true, not-of, all-at, count_same}
use Rattle.model.specs.Tables.{at}
use Rattle.model.specs.Sets.{member, set_of, names}
use Rattle.model.proofs.Lawful.{no-members}
use Rattle.model.proofs.Setup.{meeting}
use Rattle.family_sets.specs.Meeting.{SiteTo, Common}
use Rattle.family_sets.specs.Rule.{set_by, sets_up_to, meeting_by, code_by}
use Rattle.family_sets.proofs.Bounds.{set_below}
use Rattle.family_sets.proofs.Members.{member_of}
use Rattle.family_sets.proofs.Meeting.{meeting-code-zero, equal-accepted}

-- a set with a site of 1 to n in it names sites of 1 to n, and is not empty
set-names : (p : ℕ → Bool) (n m : ℕ) → SiteTo n m → p m ≡ true → names n (set_of p n) ≡ true
unfolding names
set-names p n m h t =
    by_bool (eqb (set_of p n) 0)
    (λ e. clash (p m) t (sym (member_of p n m h.0 h.1) ∙ rw (eqb-true (set_of p n) 0 e) (no-members m)))
    (λ e. and-true _ _ (not-of _ e) (lt-ltb _ _ (set_below p n)))

module _ (takes : ℕ → ℕ → Bool) (size : ℕ) where
  length-sets : (n : ℕ) → length (sets_up_to takes size n) ≡ n
  unfolding sets_up_to
  length-sets zero = refl
  length-sets (suc n) = let e = length-sets n in simp length-append (omega arith)

  -- the entry of site k
  set-of-site : (n k : ℕ) → SiteTo n k → at 0 (sets_up_to takes size n) k ≡ set_by takes size k
  unfolding sets_up_to at
  set-of-site n zero h = absurd (omega arith)
  set-of-site zero (suc i) h = absurd (omega arith)
  set-of-site (suc n) (suc i) h =
      let e = length-sets n in
      by_bool (eqb i n)
      (λ t. let s = get_or-append_seam (sets_up_to takes size n) (set_by takes size (suc n)) [] 0 in rw (eqb-true i n t) (rw e at s))
      (λ t. let d = eqb-false i n t in
      rw (get_or-append (sets_up_to takes size n) (set_by takes size (suc n) ∷ []) 0 i (omega arith))
      (set-of-site n (suc i) (omega arith, omega arith)))

  -- a buffer that is filled entry by entry: one entry more, and all of them
  pub filled_more : (sets : List ℕ) (i entry : ℕ) → i < length sets → take i sets ≡ sets_up_to takes size i → entry ≡ set_by takes size (i + 1)
      → take (i + 1) (set sets i entry) ≡ sets_up_to takes size (i + 1)
  unfolding sets_up_to
  filled_more sets i entry h e f = rw (add-one, take-suc-set sets i, e, f, add-one)

  pub filled-all : (sets : List ℕ) (i : ℕ) → length sets ≡ site_limit → i ≤ site_limit → site_limit ≤ i → take i sets ≡ sets_up_to takes size i
      → sets ≡ sets_up_to takes size site_limit
  filled-all sets i l a b e = sym (take_all site_limit sets (omega arith)) ∙ (rw (le_antisymm a b) at e)

  -- "Entries past N become empty": the set of a site of the family
  set-of-rule : (n : ℕ) → SiteTo size n → set_by takes size n ≡ set_of (takes n) size
  unfolding set_by
  set-of-rule n h = rw (le-leb 1 n h.0, le-leb n size h.1)

  module _ (h : SiteTo site_limit size) where
    -- the sets in the buffer are those of the rule
    pub set-made : (k : ℕ) → SiteTo size k → at 0 (sets_up_to takes size site_limit) k ≡ set_of (takes k) size
    set-made k a = let c = h.1 in set-of-site site_limit k (a.0, omega arith) ∙ set-of-rule k a

    module _ (common : (n l : ℕ) → SiteTo size n → SiteTo size l → Common size (takes n) (takes l)) where
      -- where the rule names a common site for every two, the sets in the buffer have it
      pub sets-meet : (k l : ℕ) → SiteTo size k → SiteTo size l
          → Common size (member (at 0 (sets_up_to takes size site_limit) k)) (member (at 0 (sets_up_to takes size site_limit) l))
      sets-meet k l a b =
          let s = common k l a b in
          let r = s.in_range in
          record {
            site = s.site;
            in_range = r;
            first = rw (set-made k a) (member_of (takes k) size s.site r.0 r.1 ∙ s.first);
            second = rw (set-made l b) (member_of (takes l) size s.site r.0 r.1 ∙ s.second);
          }

      -- and setup gives none of the codes 13, 1, 2 and 3
      pub rule-meets : meeting_by takes size ≡ 0
      rule-meets = meeting-code-zero size (sets_up_to takes size site_limit) (length-sets site_limit) h named sets-meet
        where
          named : (k : ℕ) → SiteTo size k → names size (at 0 (sets_up_to takes size site_limit) k) ≡ true
          named k a = let s = common k k a a in rw (set-made k a) (set-names (takes k) size s.site s.in_range s.first)

  -- equally many sites for each, as one test
  abbrev pub each_takes : ℕ → Bool
  each_takes members = all (λ n. eqb (count (takes n) size) members) size

  pub each-taken : (members : ℕ) → each_takes members ≡ true → (n : ℕ) → SiteTo size n → count (takes n) size ≡ members
  each-taken members h n r = eqb-true _ members (all-at _ size n h r.0 r.1)

  -- where it takes equally many sites for each, setup's code is 0
  pub rule-accepted : meeting_by takes size ≡ 0 → (members : ℕ) → ((n : ℕ) → SiteTo size n → count (takes n) size ≡ members) → code_by takes size ≡ 0
  rule-accepted meets members equal =
      let a = meeting size (sets_up_to takes size site_limit) meets in
      equal-accepted size members (sets_up_to takes size site_limit) meets
      (λ k h. rw (set-made (a.low, a.high) k h) (count_same _ (takes k) size (member_of (takes k) size)) ∙ equal k h)
