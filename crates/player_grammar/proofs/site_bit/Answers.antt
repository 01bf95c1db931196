-- `site_bit`: a site of a rig, or not.
use Prim.Native.Nat.{◌-◌}
use borrow.Author.Tests.{le-leb, lt-leb}
use native.Mathlib.Nat.{one-mul}
use native.Mathlib.Omega.{arith}
use lib.Pow.{shl_exact}
use Rattle.rig.specs.Limits.{site_limit}
use Rattle.player_grammar.specs.Grammar.{site_bit}
use Rattle.player_grammar.proofs.site_bit.Goals as goal

pub returns-then-n-lt1 : goal.returns-then-n-lt1
unfolding site_bit
returns-then-n-lt1 c = rw (lt-leb 1 _ c.if-n-lt1.true)

pub returns-then-n : goal.returns-then-n
unfolding site_bit
returns-then-n c = rw (le-leb 1 _ c.if-n-lt1.false, lt-leb _ site_limit c.if-n.true)

pub returns : goal.returns
unfolding site_bit
returns c = rw (le-leb 1 _ c.if-n-lt1.false, le-leb _ site_limit c.if-n.false, shl_exact {a = 1} 1 (c.args.n - 1) 64 (omega arith) (omega arith), one-mul)
