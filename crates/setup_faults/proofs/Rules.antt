-- All sets keep a rule exactly where there is no first one that breaks it, and what that says of setup's codes. The line of sets that meet hangs on no
-- entry past n.
use Prim.Native.Nat.{ℕ, zero, suc, ◌+◌, ◌≤◌, ◌<◌}
use Rattle.std.proofs.Common.{Option, Some, None, MatchOption, option_map, is_some, unwrap_or}
use native.Mathlib.Numerals.{add-one}
use native.Mathlib.Omega.{arith}
use Rattle.basics.specs.Helpers.{lowest}
use mathlib.Core.Path.{◌≡◌, refl, sym, ap, ◌∙◌}
use mathlib.Core.Logic.{◌≢◌}
use mathlib.Core.Bool.{Bool, true, false, not, ◌&&◌, cond}
use mathlib.Core.List.{List}
use lib.Dec.{eqb}
use lib.ListN.{length}
use borrow.Author.Tests.{eqb-true, eq-eqb, ne_eqb}
use Rattle.rig.specs.Limits.{site_limit}
use Rattle.basics.proofs.Basics.{by_bool, clash, and_split, all_both, all-lowest, lowest-same, lowest-none, lowest-found}
use Rattle.model.specs.Setup.{all_name, all_meet, all_minimal, each_code, meeting_code, setup_code, kept_sets}
use Rattle.model.proofs.Setup.{Accepted, named}
use Rattle.model.proofs.Lawful.{kept-accepted, kept-unnested-at}
use Rattle.setup_rules.specs.declared.Rule.TheVariants.{Names, Meets, Fits}
use Rattle.setup_rules.specs.Rules.{keeps_rule}
use Rattle.setup_faults.specs.Faults.{first_breaking, site_found, fault_line}

-- the first index that fails, as a search over 0 to n answers it
abbrev pub FirstFails : (ℕ → Bool) → ℕ → Option ℕ → Type 0
FirstFails p n r =
    MatchOption r
    ((k : ℕ) → 0 ≤ k → k < n → p (k + 1) ≡ true)
    (λ i. (0 ≤ i) × (i < n) × (p (i + 1) ≡ false) × ((k : ℕ) → 0 ≤ k → k < i → p (k + 1) ≡ true))

-- and the site that has it
pub found_first : (p : ℕ → Bool) (n : ℕ) (r : Option ℕ) → FirstFails p n r → option_map (λ k. k + 1) r ≡ site_found (lowest (λ k. not (p k)) n)
found_first p n None h = rw (lowest-none (λ k. not (p k)) n passes)
  where
    passes : (k : ℕ) → 1 ≤ k → k ≤ n → not (p k) ≡ false
    passes zero a b = absurd (omega arith)
    passes (suc i) a b = rw (rw add-one at (h i (omega arith) b))
found_first p n (Some i) h =
    let e = lowest-found (λ k. not (p k)) i n (lowest-none (λ k. not (p k)) i passes) (rw (rw add-one at (h.2))) h.1 in
    rw (e, add-one, ne_eqb (suc i) 0 (λ z. omega arith))
  where
    passes : (k : ℕ) → 1 ≤ k → k ≤ i → not (p k) ≡ false
    passes zero a b = absurd (omega arith)
    passes (suc j) a b = rw (rw add-one at (h.3 j (omega arith) b))

-- a site that is told, and none
pub told-site : {r : Option ℕ} {k : ℕ} → r ≡ site_found k → is_some r ≡ true → k ≢ 0
told-site {r} {k} e t z = clash (is_some r) t (rw (e, z))

pub told-none : {r : Option ℕ} {k : ℕ} → r ≡ site_found k → is_some r ≡ false → k ≡ 0
told-none {r} {k} e f = by_bool (eqb k 0) (λ t. eqb-true k 0 t) (λ u. clash (is_some r) (rw (e, u)) f)

pub told-which : {s k : ℕ} → Some s ≡ site_found k → s ≡ k
told-which {s} {k} e = by_bool (eqb k 0) (λ t. let f : Some s ≡ None = rw t at e in cc) (λ t. let f : Some s ≡ Some k = rw t at e in cc)

pub told_or_0 : {r : Option ℕ} {k : ℕ} → r ≡ site_found k → unwrap_or r 0 ≡ k
told_or_0 {r} {k} e = by_bool (eqb k 0) (λ t. rw (e, t) (sym (eqb-true k 0 t))) (λ t. rw (e, t))

module _ (n : ℕ) (sets : List ℕ) where
  pub all-name : all_name n sets ≡ eqb (first_breaking Names n sets) 0
  unfolding all_name first_breaking keeps_rule
  all-name = all-lowest _ n

  pub all_meet_lem : all_meet n sets ≡ eqb (first_breaking Meets n sets) 0
  unfolding all_meet first_breaking keeps_rule
  all_meet_lem = all-lowest _ n

  pub all-fit : all_meet n sets && all_minimal n sets ≡ eqb (first_breaking Fits n sets) 0
  unfolding all_meet all_minimal first_breaking keeps_rule
  all-fit = sym (all_both _ _ n) ∙ all-lowest _ n

  -- N or a set by itself is at fault
  pub each-refused : each_code n sets ≢ 0 → (meeting_code n sets ≡ each_code n sets) × (setup_code n sets ≡ each_code n sets)
  unfolding meeting_code setup_code
  each-refused h = let e = ne_eqb (each_code n sets) 0 h in rw (e, e) (refl, refl)

  -- none is: the codes 3 and 17 are left
  module _ (e : each_code n sets ≡ 0) where
    pub comparable : (n ≤ site_limit) × (length sets ≡ site_limit) × (all_name n sets ≡ true)
    comparable = let k = named n sets e in (k.high, k.long, k.name)

    pub each-meeting : meeting_code n sets ≡ cond (all_meet n sets) 0 3
    unfolding meeting_code
    each-meeting = rw e (by_bool (all_meet n sets) (λ t. rw t) (λ t. rw t))

    each-setup : setup_code n sets ≡ cond (all_meet n sets) (cond (all_minimal n sets) 0 17) 3
    unfolding setup_code
    each-setup =
        rw each-meeting
        (by_bool (all_meet n sets)
        (λ t. by_bool (all_minimal n sets) (λ u. rw (t, u)) (λ u. rw (t, u)))
        (λ t. rw t))

    pub told-0 : first_breaking Fits n sets ≡ 0 → setup_code n sets ≡ 0
    told-0 f =
        let w = and_split (all_meet n sets) (all_minimal n sets) (all-fit ∙ eq-eqb _ 0 f) in
        each-setup ∙ rw (w.0, w.1)

    pub told-3 : first_breaking Meets n sets ≢ 0 → setup_code n sets ≡ 3
    told-3 f = each-setup ∙ rw (all_meet_lem ∙ ne_eqb _ 0 f)

    pub told-17 : first_breaking Fits n sets ≢ 0 → first_breaking Meets n sets ≡ 0 → setup_code n sets ≡ 17
    told-17 f g =
        let meets = all_meet_lem ∙ eq-eqb _ 0 g in
        let apart = all-fit ∙ ne_eqb _ 0 f in
        each-setup ∙ rw (meets, rw meets at apart)

  module _ (a : Accepted n sets) where
    pub kept_line : fault_line n (kept_sets n sets) ≡ fault_line n sets
    unfolding fault_line first_breaking keeps_rule
    kept_line =
        let b = kept-accepted n sets a in
        rw (a.name, a.meet, b.name, b.meet)
        (ap (λ k. k + 1) (lowest-same _ _ n (λ k l m. ap not (kept-unnested-at n sets a k l m))))
