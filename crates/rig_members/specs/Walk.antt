-- Request 2.4: a walk of a set's members, "from one member to the next".
use Rattle.std.specs.Prelude.{ℕ, zero, suc, Option, MatchOption, ◌<◌, ◌+◌, ◌-◌, ◌%◌, ◌^◌, ◌≤◌, cond, List, [], ◌∷◌, ◌++◌, ◌≡◌, eqb, take}
use Rattle.basics.specs.Helpers.{count, lowest}
use Rattle.model.specs.Sets.{member}

-- "A set is an unsigned 64-bit entry"
abbrev pub word_bits : ℕ
word_bits = 64

-- the set of the members among the sites 1 to n
unfoldable pub within : ℕ → ℕ → ℕ
within n set = set % 2 ^ n

-- the lowest member, 0 of an empty set
unfoldable pub lowest_member : ℕ → ℕ
lowest_member set = lowest (member set) word_bits

-- the set without site j, where j is one of its members
unfoldable pub without_member : ℕ → ℕ → ℕ
without_member set j = set - 2 ^ (j - 1)

-- the set with site j, where j is none of its members
unfoldable pub with_member : ℕ → ℕ → ℕ
with_member set j = set + 2 ^ (j - 1)

-- the members of a set among the sites 1 to n, ascending
unfoldable pub members_up_to : ℕ → ℕ → List ℕ
members_up_to set zero = []
members_up_to set (suc i) = members_up_to set i ++ cond (member set (suc i)) (suc i ∷ []) []

-- the sites that a walk of a set visits in its first so many turns: each time the lowest member that is left
unfoldable pub visited : ℕ → ℕ → List ℕ
visited zero set = []
visited (suc turns) set = cond (eqb set 0) [] (lowest_member set ∷ visited turns (without_member set (lowest_member set)))

-- how many members a set has: a walk has at most one turn for each
abbrev pub members_in : ℕ → ℕ
members_in set = count (member set) word_bits

-- One turn of a walk, where `left` reads what a walk has still to visit: none is left, or the lowest member that is left is visited
abbrev pub VisitsLowest : {S : Type 0} → (S → ℕ) → S → Option ℕ → S → Type 0
VisitsLowest left s turn t = MatchOption turn ((left s ≡ 0) × (left t ≡ 0)) (λ j. (0 < left s) × (j ≡ lowest_member (left s)) × (left t ≡ without_member (left s) j))

-- "A walk takes at most one turn for each member and none for another site": a walk of the members among the sites 1 to n visits in its first so
-- many turns the first so many of them, ascending, each once, and then none
abbrev pub WalkVisits : Type 0
WalkVisits = (n set turns : ℕ) → n ≤ word_bits → visited turns (within n set) ≡ take turns (members_up_to set n)
