-- The list of a set's members, and that a walk visits just these.
use Prim.Native.Nat.{ℕ, zero, suc, ◌+◌, ◌≤◌, ◌<◌}
use mathlib.Core.Bool.{true, false}
use mathlib.Core.List.{List, [], ◌∷◌, ◌++◌, append_assoc, append-nil}
use mathlib.Core.Path.{◌≡◌, refl, ap, ◌∙◌}
use native.Mathlib.Omega.{arith}
use lib.Dec.{eqb}
use lib.ListN.{length, take, length-append}
use borrow.Author.Tests.{eqb-true, eqb-false}
use Rattle.basics.proofs.Basics.{by_bool}
use Rattle.model.specs.Sets.{member}
use Rattle.rig_members.specs.Walk.{within, lowest_member, without_member, members_up_to, visited, WalkVisits}
use Rattle.rig_members.proofs.Walk.{passed_to, passed-all, members_left, Walk, turn, walk_begins, walk_first, walk-next}

-- only members come to the list
pub members-idle : (set n i : ℕ) → i < n → member set (suc i) ≡ false → members_up_to set (suc i) ≡ members_up_to set i
unfolding members_up_to
members-idle set n i h e = rw (e, append-nil)

pub members-more : (set i : ℕ) → member set (suc i) ≡ true → members_up_to set (suc i) ≡ members_up_to set i ++ (suc i ∷ [])
unfolding members_up_to
members-more set i e = rw e

-- no more members than sites
pub members-few : (set n : ℕ) → length (members_up_to set n) ≤ n
unfolding members_up_to
members-few set zero = omega arith
members-few set (suc n) =
    let l = members-few set n in
    by_bool (member set (suc n))
    (λ e. rw (e, length-append) (omega arith))
    (λ e. rw (e, append-nil) (omega arith))

-- a member, in front of others, comes to those before it
members-then :
    (set : ℕ) {i j : ℕ}
    → j ≡ suc i
    → member set j ≡ true
    → (rest : List ℕ) → members_up_to set i ++ (j ∷ rest) ≡ members_up_to set (suc i) ++ rest
members-then set {i} e h rest = rw (e, members-more set i (rw e at h), append_assoc)

no-members : (set : ℕ) → members_up_to set 0 ≡ []
unfolding members_up_to
no-members set = refl

-- those before the members that are left, and those that are left
visited-rest :
    (n set turns : ℕ) {left : ℕ}
    → Walk n set left
    → members_left n left ≤ turns
    → members_up_to set (passed_to n left) ++ visited turns left ≡ members_up_to set n
unfolding visited
visited-rest n set zero {left} w h =
    by_bool (eqb left 0)
    (λ e. rw (eqb-true left 0 e, append-nil, passed-all))
    (λ e. absurd (omega (arith, (turn w (omega (arith, eqb-false left 0 e)) refl).fewer)))
visited-rest n set (suc turns) {left} w h =
    by_bool (eqb left 0)
    (λ e. rw (eqb-true left 0 e, append-nil, passed-all))
    (λ e.
    let some : 0 < left = omega (arith, eqb-false left 0 e) in
    let u = turn w some refl in
    let on = visited-rest n set turns u.again (omega (arith, u.fewer)) in
    let built = walk-next (members_up_to set) n set (members-idle set n) u refl in
    rw e (members-then set u.next u.visits _ ∙ rw (← built) on))

-- fewer turns visit the first of them
visited-first : (turns more left : ℕ) → turns ≤ more → visited turns left ≡ take turns (visited more left)
unfolding visited
visited-first zero more left h = refl
visited-first (suc turns) zero left h = absurd (omega arith)
visited-first (suc turns) (suc more) left h =
    by_bool (eqb left 0)
    (λ e. rw e)
    (λ e. rw e (ap (λ (r : List ℕ). lowest_member left ∷ r) (visited-first turns more (without_member left (lowest_member left)) (omega arith))))

pub walk-visits : WalkVisits
walk-visits n set turns h =
    let left = within n set in
    let more = turns + members_left n left in
    let first = walk_first (members_up_to set) n set (members-idle set n) h refl in
    let all : visited more left ≡ members_up_to set n = rw (first, no-members) at (visited-rest n set more (walk_begins n set h refl) (omega arith)) in
    visited-first turns more left (omega arith) ∙ ap (take turns) all
