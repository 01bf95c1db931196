-- `put_lines`: the parts of a state's lines, one behind the other.
use borrow.Author.Rules.{rules}
use Rattle.save_text.specs.Text.{sites_field, accepted_field, fields_in, this_spelling}
use Rattle.save_putting.proofs.Puts.{fits_line, fits-behind, fits-first, fits-rest, puts-line, puts-more}
use Rattle.save_writing.proofs.Each.{messages-fit, messages-put}
use Rattle.save_writing.proofs.put_lines.Goals as goal

pub put_one-sites-requires : goal.put_one-sites-requires
unfolding sites_field fields_in this_spelling
put_one-sites-requires c = fits_line c.requires.2

pub put_sets-sets-requires : goal.put_sets-sets-requires
unfolding sites_field accepted_field fields_in this_spelling
put_sets-sets-requires c =
    let h = c.requires in
    let f1 = fits-behind h.2 c.put_one-sites.ensures in
    (search rules, fits-first _ _ f1)

pub put_one-accepted-requires : goal.put_one-accepted-requires
unfolding sites_field accepted_field fields_in this_spelling
put_one-accepted-requires c =
    let h = c.requires in
    let f1 = fits-behind h.2 c.put_one-sites.ensures in
    let f2 = fits-rest _ _ f1 c.put_sets-sets.ensures in
    fits_line f2

pub put_sites-placed-requires : goal.put_sites-placed-requires
unfolding sites_field accepted_field fields_in this_spelling
put_sites-placed-requires c =
    let h = c.requires in
    let f1 = fits-behind h.2 c.put_one-sites.ensures in
    let f2 = fits-rest _ _ f1 c.put_sets-sets.ensures in
    let f3 = fits-behind f2 c.put_one-accepted.ensures in
    (h.0, fits-first _ _ f3)

pub put_arbiters-granted-requires : goal.put_arbiters-granted-requires
unfolding sites_field accepted_field fields_in this_spelling
put_arbiters-granted-requires c =
    let h = c.requires in
    let f1 = fits-behind h.2 c.put_one-sites.ensures in
    let f2 = fits-rest _ _ f1 c.put_sets-sets.ensures in
    let f3 = fits-behind f2 c.put_one-accepted.ensures in
    let f4 = fits-rest _ _ f3 c.put_sites-placed.ensures in
    (h.0, fits-first _ _ f4)

pub put_messages-requires : goal.put_messages-requires
unfolding sites_field accepted_field fields_in this_spelling
put_messages-requires c =
    let h = c.requires in
    let f1 = fits-behind h.2 c.put_one-sites.ensures in
    let f2 = fits-rest _ _ f1 c.put_sets-sets.ensures in
    let f3 = fits-behind f2 c.put_one-accepted.ensures in
    let f4 = fits-rest _ _ f3 c.put_sites-placed.ensures in
    let f5 = fits-rest _ _ f4 c.put_arbiters-granted.ensures in
    (search rules, messages-fit c.args.list.now c.args.count h.1 f5)

pub returns : goal.returns
unfolding sites_field accepted_field fields_in this_spelling
returns c =
    puts-line c.put_one-sites.ensures
    (puts-more _ _ c.put_sets-sets.ensures
    (puts-line c.put_one-accepted.ensures
    (puts-more _ _ c.put_sites-placed.ensures
    (puts-more _ _ c.put_arbiters-granted.ensures
    (messages-put c.args.list.now c.args.count c.requires.1 c.put_messages.ensures)))))
