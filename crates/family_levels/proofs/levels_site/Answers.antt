-- `family_levels::levels_site` meets its contract: each product is small.
use Prim.Native.Nat.{ℕ, ◌+◌, ◌*◌, ◌≤◌}
use native.Mathlib.Omega.{arith}
use mir.Syntax.{w64}
use mir.Val.{Fits}
use Rattle.rig.specs.Limits.{site_limit}
use Rattle.basics.proofs.Numbers.{product}
use Rattle.family_levels.proofs.levels_site.Goals as goal

product-fits : (x y : ℕ) → x ≤ site_limit → y ≤ site_limit → Fits w64 (x * y)
product-fits x y h k = record { fits = omega (arith, product x y h k) }

products-fit : (x y z w : ℕ) → x ≤ site_limit → y ≤ site_limit → z ≤ site_limit → w ≤ site_limit → Fits w64 (x * y + z * w)
products-fit x y z w h k l m = record { fits = omega (arith, product x y h k, product z w l m) }

sum_fits : (x y z w v : ℕ) → x ≤ site_limit → y ≤ site_limit → z ≤ site_limit → w ≤ site_limit → v ≤ site_limit → Fits w64 (x * y + z * w + v)
sum_fits x y z w v h k l m n = record { fits = omega (arith, product x y h k, product z w l m) }

pub overflow_mul-result-2 : goal.overflow_mul-result-2
overflow_mul-result-2 c = product-fits _ _ (omega arith) (omega arith)

pub overflow_mul-result-3 : goal.overflow_mul-result-3
overflow_mul-result-3 c = product-fits _ _ (omega arith) (omega arith)

pub overflow_add-result : goal.overflow_add-result
overflow_add-result c = products-fit _ _ _ _ (omega arith) (omega arith) (omega arith) (omega arith)

pub overflow_add-result-2 : goal.overflow_add-result-2
overflow_add-result-2 c = sum_fits _ _ _ _ _ (omega arith) (omega arith) (omega arith) (omega arith) (omega arith)
