-- `members_value`: the entries, at the members, of the row that has each site's number.
use Rattle.save_entries.proofs.SiteNumbers.{members-entries}
use Rattle.save_entries.proofs.members_value.Goals as goal

pub returns : goal.returns
returns c = rw (← members-entries c.args.set) c.entries_value.ensures
