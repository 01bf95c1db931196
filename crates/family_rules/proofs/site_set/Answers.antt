-- `family_rules::site_set` meets its contract. The loop's invariant: the set so far is that of the members among sites 1 to m.
use Prim.Native.Nat.{◌+◌}
use mathlib.Core.Path.{refl, sym, ◌∙◌}
use native.Mathlib.Nat.{le_antisymm}
use native.Mathlib.Omega.{arith}
use borrow.Author.Tests.{le-leb}
use Rattle.model.specs.Sets.{set_of}
use Rattle.family_sets.specs.Rule.{set_by}
use Rattle.family_sets.proofs.Bounds.{set_below}
use Rattle.family_rules.proofs.Bounds.{sites-most}
use Rattle.family_rules.proofs.Entries.{taken-in, left-out}
use Rattle.rig_members.proofs.Members.{member-past}
use Rattle.family_rules.proofs.site_set.Goals as goal
use Rattle.family_rules.proofs.site_set.Goals.{then-has_site, else-has_site}

pub size_of-size-requires : goal.size_of-size-requires
size_of-size-requires c = c.requires.0

pub loop-m-init : goal.loop-m-init
unfolding set_of
loop-m-init c = (omega arith, refl)

pub overflow_add-m : goal.overflow_add-m
overflow_add-m c = omega (arith, c.size_of-size.type_inv)

pub has_site-requires : goal.has_site-requires
has_site-requires c = c.requires

pub with_member-set-requires : goal.with_member-set-requires
with_member-set-requires c =
    let l = c.loop-m in
    let most = sites-most _ c.requires.0 in
    let size = c.size_of-size.ensures in
    (omega arith, omega arith, member-past l.m l.set (l.m + 1) (rw l.invariant.1 (set_below _ l.m)) (omega arith))

pub loop-m-preserved : goal.loop-m-preserved
loop-m-preserved c =
    let l = c.loop-m in (
      omega arith,
      elim c.if-has_site.branch [
        | then-has_site w ↦ taken-in _ l.m l.invariant.1 (sym c.has_site.ensures ∙ w.if-has_site.true) (w.set-is ∙ w.with_member-set.ensures)
        | else-has_site w ↦ left-out _ l.m l.invariant.1 (sym c.has_site.ensures ∙ w.if-has_site.false) w.set-is
      ],
    )

pub returns : goal.returns
unfolding set_by
returns c =
    let p = c.requires in
    let e = le_antisymm c.loop-m.invariant.0 c.loop-m-test.false ∙ c.size_of-size.ensures in
    rw (le-leb _ _ p.1, le-leb _ _ p.2, ← e) c.loop-m.invariant.1
