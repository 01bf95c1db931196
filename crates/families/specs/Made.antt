-- Document 01, "Request set families", request 2.1 and "What is turned down, by operation": what a call that generates a family answers, and the sets that it leaves.
use Rattle.std.specs.Prelude.{ℕ, not, cond, List, eqb, length}
use Rattle.rig.specs.Limits.{site_limit}
use Rattle.family_rules.specs.declared.Family.{Family}
use Rattle.family_rules.specs.declared.Family.TheVariants.{Billiard}
use Rattle.family_rules.specs.Family.{listed, computed, set_at, sets_of}

-- "Families. 13 as above" (the buffer of sets is not 31 entries long); "12 if the parameter is not listed"; request 2.1: "Other sides give 12."
unfoldable pub family_code : Family → ℕ → ℕ
family_code f n = cond (not (eqb n site_limit)) 13 (cond (not (listed f)) 12 0)

-- what the buffer holds after the call; turned down: "Nothing of the state or a lent buffer changes then."
unfoldable pub filled : Family → List ℕ → List ℕ
filled f sets = cond (eqb (family_code f (length sets)) 0) (sets_of f) sets

-- one billiard set by the rule itself
unfoldable pub billiard_set : ℕ → ℕ → ℕ
billiard_set q n = cond (computed (Billiard q)) (set_at (Billiard q) n) 0
