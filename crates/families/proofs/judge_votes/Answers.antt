-- `judge_votes`: each test in turn.
use mathlib.Core.Path.{sym}
use Rattle.rig.specs.Limits.{site_limit}
use Rattle.model.proofs.Shaped.{within}
use Rattle.families.proofs.ByVotes.{sets-13, votes-13, code-1, code-16, code-0}
use mathlib.Core.Path.{sym, ◌∙◌}
use Rattle.families.proofs.judge_votes.Goals as goal

pub returns-then-entries-ne-SITES : goal.returns-then-entries-ne-SITES
returns-then-entries-ne-SITES c = sym (sets-13 _ _ _ c.if-entries-ne-SITES.true)

pub returns-then-votes-ne-SITES : goal.returns-then-votes-ne-SITES
returns-then-votes-ne-SITES c = sym (votes-13 _ _ _ c.if-votes-ne-SITES.true)

pub returns-then-not-is_site : goal.returns-then-not-is_site
returns-then-not-is_site c = sym (code-1 _ _ _ c.if-entries-ne-SITES.false c.if-votes-ne-SITES.false (sym c.is_site.ensures ∙ c.if-not-is_site.true))

pub votes_listed-requires : goal.votes_listed-requires
votes_listed-requires c = (within site_limit _ (sym c.is_site.ensures ∙ c.if-not-is_site.false)).1

-- N is in range, behind the tests of both lengths
pub returns-then-not-votes_listed : goal.returns-then-not-votes_listed
returns-then-not-votes_listed c =
    let w = c in
    sym (code-16 _ _ _ w.if-entries-ne-SITES.false w.if-votes-ne-SITES.false (sym w.is_site.ensures ∙ w.if-not-is_site.false)
    (sym c.votes_listed.ensures ∙ c.if-not-votes_listed.true))

pub returns : goal.returns
returns c =
    let w = c in
    sym (code-0 _ _ _ w.if-entries-ne-SITES.false w.if-votes-ne-SITES.false (sym w.is_site.ensures ∙ w.if-not-is_site.false)
    (sym c.votes_listed.ensures ∙ c.if-not-votes_listed.false))
