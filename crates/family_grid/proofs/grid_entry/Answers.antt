-- `grid::grid_entry` meets its contract.
use Prim.Native.Nat.{◌-◌}
use native.Mathlib.Nat.{div-le_self, mod-le}
use native.Mathlib.Omega.{arith}
use borrow.Author.Tests.{le-leb, lt-leb}
use Rattle.family_grid.specs.Grid.{grid_entry}
use Rattle.family_grid.proofs.grid_entry.Goals as goal

pub overflow_add-n : goal.overflow_add-n
overflow_add-n c = omega (arith, div-le_self (c.args.n - 1) c.args.s)

pub grid_site-requires : goal.grid_site-requires
grid_site-requires c = let l = div-le_self (c.args.n - 1) c.args.s in (omega arith, omega arith, omega arith, omega arith)

pub returns-then-k-s : goal.returns-then-k-s
unfolding grid_entry
returns-then-k-s c = simp (le-leb _ _ c.if-k-s.true) c.grid_site.ensures

pub overflow_add-n-2 : goal.overflow_add-n-2
overflow_add-n-2 c = omega (arith, mod-le (c.args.n - 1) c.args.s)

pub grid_site-requires-2 : goal.grid_site-requires-2
grid_site-requires-2 c = let l = mod-le (c.args.n - 1) c.args.s in (omega arith, omega arith, omega arith, omega arith)

pub returns : goal.returns
unfolding grid_entry
returns c = simp (lt-leb _ _ c.if-k-s.false) c.grid_site-2.ensures
