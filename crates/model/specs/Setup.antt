-- Setup: its code, and the fresh state.
use Rattle.std.specs.Prelude.{ℕ, pred, ◌-◌, Bool, not, ◌&&◌, cond, List, ◌++◌, eqb, leb, length, take, replicate}
use Rattle.rig.specs.declared.Rig.{Rig}
use Rattle.rig.specs.declared.Site.{Site}
use Rattle.rig.specs.declared.Arbiter.{Arbiter}
use Rattle.rig.specs.declared.Mode.TheVariants.{Rest}
use Rattle.rig.specs.Limits.{site_limit}
use Rattle.model.specs.Tables.{at}
use Rattle.basics.specs.Helpers.{all}
use Rattle.model.specs.Sets.{names, meet, nested}

-- "N from 1 to 31"
unfoldable pub size_listed : ℕ → Bool
size_listed n = leb 1 n && leb n site_limit

-- no set is empty or names a site outside 1 to N
unfoldable pub all_name : ℕ → List ℕ → Bool
all_name n sets = all (λ k. names n (at 0 sets k)) n

-- set k shares a site with each earlier one
unfoldable pub meets_earlier : ℕ → List ℕ → ℕ → Bool
meets_earlier n sets k = all (λ l. meet n (at 0 sets k) (at 0 sets l)) (pred k)

-- "Every two sets share a site."
unfoldable pub all_meet : ℕ → List ℕ → Bool
all_meet n sets = all (λ k. meets_earlier n sets k) n

-- set k neither strictly contains an earlier one nor is strictly contained in an earlier one
unfoldable pub unnested_earlier : ℕ → List ℕ → ℕ → Bool
unnested_earlier n sets k = all (λ l. not (nested n (at 0 sets k) (at 0 sets l))) (pred k)

-- Request 2.6, "by the minimality rule of source document 004": no set strictly contains another. "Equal sets remain allowed."
unfoldable pub all_minimal : ℕ → List ℕ → Bool
all_minimal n sets = all (λ k. unnested_earlier n sets k) n

-- "Setup. 13 if the buffer of sets is not 31 entries long; 1 if N is not 1 to 31; 2 if a set is empty or names a site
-- outside 1 to N": the codes of N and of each set by itself. "Entries past N are not read."
unfoldable pub each_code : ℕ → List ℕ → ℕ
each_code n sets =
    cond (not (eqb (length sets) site_limit)) 13
    (cond (not (size_listed n)) 1
    (cond (not (all_name n sets)) 2
    0))

-- then "3 if two sets share no site"
unfoldable pub meeting_code : ℕ → List ℕ → ℕ
meeting_code n sets = let code = each_code n sets in cond (not (eqb code 0)) code (cond (not (all_meet n sets)) 3 0)

-- then, by request 2.6, "17 at setup, straight after 3": setup's code
unfoldable pub setup_code : ℕ → List ℕ → ℕ
setup_code n sets = let code = meeting_code n sets in cond (not (eqb code 0)) code (cond (not (all_minimal n sets)) 17 0)

abbrev pub resting_site : Site
resting_site = record { mode = Rest; clock = 0 }

abbrev pub free_arbiter : Arbiter
free_arbiter = record { grant = 0; holder = 0; seq = 0 }

-- "Entries past N are not read", and "all past N is 0"
unfoldable pub kept_sets : ℕ → List ℕ → List ℕ
kept_sets n sets = take n sets ++ replicate (site_limit - n) 0

-- a rig in which nothing has happened
abbrev pub resting_rig : ℕ → List ℕ → Rig
resting_rig n sets = record {
  size = n;
  sets = sets;
  sites = replicate site_limit resting_site;
  arbiters = replicate site_limit free_arbiter;
  accepted = 0;
}

-- "Fresh: all but N and the sets zero, at rest": of the rig
unfoldable pub fresh_rig : ℕ → List ℕ → Rig
fresh_rig n sets = resting_rig n (kept_sets n sets)

-- what a refused setup answers beside its code: a rig without sites
unfoldable pub no_rig : Rig
no_rig = resting_rig 0 (replicate site_limit 0)
