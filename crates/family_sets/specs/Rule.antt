-- Document 01, "Request set families": the sets of a family of `size` sites, by its rule. `takes n m` tells whether site m is in the set of site n.
use Rattle.std.specs.Prelude.{ℕ, zero, suc, Bool, ◌&&◌, cond, List, [], ◌∷◌, ◌++◌, eqb, leb}
use Rattle.rig.specs.Limits.{site_limit}
use Rattle.basics.specs.Helpers.{any}
use Rattle.model.specs.Sets.{set_of}
use Rattle.model.specs.Setup.{meeting_code, setup_code}

-- a rule that names the members one by one, `entry n k` the k-th for the set of site n, k from 1 to `width`: it names site m
unfoldable pub is_entry : (ℕ → ℕ → ℕ) → ℕ → ℕ → ℕ → Bool
is_entry entry width n m = any (λ k. eqb m (entry n k)) width

-- the set of site n; "What is turned down, by operation": "Entries past N become empty."
unfoldable pub set_by : (ℕ → ℕ → Bool) → ℕ → ℕ → ℕ
set_by takes size n = cond (leb 1 n && leb n size) (set_of (takes n) size) 0

-- the first n entries of the buffer of sets, and all of them
unfoldable pub sets_up_to : (ℕ → ℕ → Bool) → ℕ → ℕ → List ℕ
sets_up_to takes size zero = []
sets_up_to takes size (suc i) = sets_up_to takes size i ++ (set_by takes size (suc i) ∷ [])

abbrev pub sets_by : (ℕ → ℕ → Bool) → ℕ → List ℕ
sets_by takes size = sets_up_to takes size site_limit

-- the code of 13, 1, 2 and 3 that they get, and setup's code
abbrev pub meeting_by : (ℕ → ℕ → Bool) → ℕ → ℕ
meeting_by takes size = meeting_code size (sets_by takes size)

abbrev pub code_by : (ℕ → ℕ → Bool) → ℕ → ℕ
code_by takes size = setup_code size (sets_by takes size)
