-- The lines of sets: how they grow, member by member and set by set, and how long they are.
use Prim.Native.Nat.{ℕ, zero, suc, ◌+◌, ◌*◌, ◌-◌, ◌/◌, ◌≤◌, ◌<◌}
use mathlib.Core.Bool.{true, cond}
use mathlib.Core.List.{List, [], ◌∷◌, ◌++◌, append_assoc, append-nil}
use mathlib.Core.Logic.{◌≢◌}
use mathlib.Core.Path.{◌≡◌, refl, sym}
use native.Mathlib.Nat.{zero-add}
use native.Mathlib.Omega.{arith}
use borrow.Author.Tests.{eqb-true, eqb-false, ltb-true, ltb-false, eq-eqb, ne_eqb}
use lib.Dec.{eqb, ltb}
use lib.ListN.{length, get_or, length-append}
use Rattle.basics.proofs.Basics.{by_bool}
use Rattle.rig.specs.Limits.{site_limit}
use Rattle.model.specs.Sets.{member}
use Rattle.model.specs.Tables.{at}
use Rattle.player_bytes.specs.Decimal.{decimal}
use Rattle.player_bytes.specs.Wrote.{Wrote}
use Rattle.player_bytes.proofs.Digits.{one-digit, longer, some-digit}
use Rattle.player_bytes.proofs.Stores.{wrote-more}
use Rattle.player_grammar.specs.Grammar.{line_limit}
use Rattle.rig_members.specs.Walk.{members_up_to}
use Rattle.plan_lines.specs.Lines.{list_text, set_bytes, set_text, set_texts}

-- a number has one digit at least, and below 100 at most two
decimal-some : (n : ℕ) → 1 ≤ length (decimal n)
unfolding decimal
decimal-some n = some-digit 19 n

decimal-short : (n : ℕ) → n < 100 → length (decimal n) ≤ 2
unfolding decimal
decimal-short n h =
    by_bool (ltb n 10)
    (λ e. rw (one-digit 19 n (ltb-true n 10 e)) (omega arith))
    (λ e. let m = longer 19 n (ltb-false n 10 e) (omega arith) in
    rw (m.shown, one-digit m.fewer (n / 10) (omega arith)) (omega arith))

-- a list of numbers has bytes, and one more number stands behind a comma
pub list-some : (n : ℕ) (ns : List ℕ) → 1 ≤ length (list_text (n ∷ ns))
unfolding list_text
list-some n [] = decimal-some n
list-some n (m ∷ ns) = simp length-append (omega arith)

list-behind : (n : ℕ) (ns : List ℕ) (m : ℕ) → list_text (n ∷ ns ++ (m ∷ [])) ≡ list_text (n ∷ ns) ++ (44 ∷ decimal m)
unfolding list_text
list-behind n [] m = refl
list-behind n (k ∷ ns) m = rw (list-behind k ns m, append_assoc)

-- what one more number adds to a list that stands from place `first` up to place `next`
abbrev pub added : ℕ → ℕ → ℕ → List ℕ
added next first m = cond (eqb next first) (decimal m) (44 ∷ decimal m)

pub list-more : (ns : List ℕ) (next first m : ℕ) → next ≡ first + length (list_text ns) → list_text (ns ++ (m ∷ [])) ≡ list_text ns ++ added next first m
unfolding list_text
list-more [] next first m h = rw (eq-eqb next first (omega arith))
list-more (n ∷ ns) next first m h =
    let l = list-some n ns in
    rw (ne_eqb next first (λ e. omega arith)) (list-behind n ns m)

-- the list of the members so far, with one more site looked at
members-more :
    (set i next first : ℕ)
    → next ≡ first + length (list_text (members_up_to set i))
    → list_text (members_up_to set (suc i)) ≡ list_text (members_up_to set i) ++ cond (member set (suc i)) (added next first (suc i)) []
unfolding members_up_to
members-more set i next first h =
    by_bool (member set (suc i))
    (λ e. rw e (list-more (members_up_to set i) next first (suc i) h))
    (λ e. rw (e, append-nil (members_up_to set i), append-nil (list_text (members_up_to set i))))

pub wrote-member :
    (set i : ℕ) {next first r : ℕ} {page mid after : List ℕ}
    → member set (suc i) ≡ true
    → Wrote (list_text (members_up_to set i)) first page mid next
    → Wrote (added next first (suc i)) next mid after r
    → Wrote (list_text (members_up_to set (suc i))) first page after r
wrote-member set i {next} {first} e a b = rw (members-more set i next first a.behind, e) (wrote-more a b)

-- three bytes for each site at most, and no comma before the first member
added-short : (written m i : ℕ) → m < 100 → written ≤ 3 * i - 1 → written + length (added written 0 m) ≤ 3 * suc i - 1
added-short written m i h l =
    let d = decimal-short m h in
    by_bool (eqb written 0)
    (λ e. let z = eqb-true written 0 e in rw e (omega arith))
    (λ e. let z : written ≢ 0 = eqb-false written 0 e in rw e (omega arith))

pub members-short : (set i : ℕ) → i < 100 → length (list_text (members_up_to set i)) ≤ 3 * i - 1
unfolding members_up_to list_text
members-short set zero h = omega arith
members-short set (suc i) h =
    let l = members-short set i (omega arith) in
    rw (members-more set i _ 0 (sym (zero-add _)))
    (by_bool (member set (suc i))
    (λ e. rw (e, length-append) (added-short _ (suc i) i h l))
    (λ e. rw (e, append-nil) (omega arith)))

-- "at most 96 bytes before it": a line `set=` is never too long for the player
pub set-bytes-short : (set : ℕ) → length (set_bytes set) ≤ line_limit
set-bytes-short set = omega (arith, members-short set site_limit (omega arith))

-- a line with its byte 10 for each set at most
pub set-texts-short : (sets : List ℕ) (n : ℕ) → length (set_texts sets n) ≤ (line_limit + 1) * n
unfolding set_texts set_text
set-texts-short sets zero = omega arith
set-texts-short sets (suc n) =
    let l = set-texts-short sets n in
    let s = set-bytes-short (at 0 sets (suc n)) in
    simp length-append (omega arith)

pub wrote-set :
    (sets : List ℕ) (i : ℕ) {from next r : ℕ} {page mid after : List ℕ}
    → Wrote (set_texts sets i) from page mid next
    → Wrote (set_text (get_or sets i 0)) next mid after r
    → Wrote (set_texts sets (suc i)) from page after r
unfolding set_texts at
wrote-set sets i a b = wrote-more a b
