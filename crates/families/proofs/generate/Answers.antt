-- `families::generate` meets its contract, for every family and every buffer.
use mathlib.Core.Path.{◌≡◌, refl, sym, ◌∙◌}
use Rattle.families.specs.Made.{filled}
use Rattle.family_rules.specs.Family.{computed, has_site, size_of}
use Rattle.std.proofs.Common.{rules}
use mathlib.Core.Bool.{true}
use Rattle.family_rules.proofs.Parameters.{listed-computed}
use Rattle.family_rules.proofs.Accepted.{accepted}
use Rattle.families.proofs.Codes.{code-13, code-12, code-0}
use Rattle.families.proofs.generate.Goals as goal

pub returns-then-sets-ne-SITES : goal.returns-then-sets-ne-SITES
unfolding filled
returns-then-sets-ne-SITES c = rw (code-13 c.args.family _ c.if-sets-ne-SITES.true) record {
  determined = (refl, tt, refl);
  accepted = tt;
}

pub returns-then-not-is_listed : goal.returns-then-not-is_listed
unfolding filled
returns-then-not-is_listed c = rw (code-12 c.args.family _ c.if-sets-ne-SITES.false (sym c.is_listed.ensures ∙ c.if-not-is_listed.true)) record {
  determined = (refl, tt, refl);
  accepted = tt;
}

pub fill-requires-clause-callable : goal.fill-requires-clause-callable
fill-requires-clause-callable c =
    let h : computed c.args.family ≡ true = listed-computed _ (sym c.is_listed.ensures ∙ c.if-not-is_listed.false) in
    search (rules, h)

pub size_of-requires : goal.size_of-requires
size_of-requires c = listed-computed _ (sym c.is_listed.ensures ∙ c.if-not-is_listed.false)

pub returns : goal.returns
unfolding filled
returns c =
    let l = sym c.is_listed.ensures ∙ c.if-not-is_listed.false in
    let e = c.fill.ensures (has_site c.args.family) (size_of c.args.family) (λ n set m p. search rules) in
    rw (code-0 c.args.family _ c.if-sets-ne-SITES.false l, c.size_of.ensures) record {
      determined = (refl, refl, e);
      accepted = rw e (accepted _ l);
    }
