-- The code that each case of a call gets.
use Prim.Native.Nat.{ℕ}
use mathlib.Core.Path.{◌≡◌}
use mathlib.Core.Bool.{true, false}
use borrow.Author.Tests.{eq-eqb, ne_eqb}
use Rattle.rig.specs.Limits.{site_limit}
use Rattle.family_rules.specs.declared.Family.{Family}
use Rattle.family_rules.specs.Family.{listed}
use Rattle.families.specs.Made.{family_code}

module _ (f : Family) (n : ℕ) where
  pub code-13 : (n ≡ site_limit → ⊥) → family_code f n ≡ 13
  unfolding family_code
  code-13 h = rw (ne_eqb n site_limit h)

  pub code-12 : n ≡ site_limit → listed f ≡ false → family_code f n ≡ 12
  unfolding family_code
  code-12 h l = rw (eq-eqb n site_limit h, l)

  pub code-0 : n ≡ site_limit → listed f ≡ true → family_code f n ≡ 0
  unfolding family_code
  code-0 h l = rw (eq-eqb n site_limit h, l)
