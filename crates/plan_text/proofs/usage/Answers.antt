-- `usage`: one word at the start of the page.
use borrow.Author.Rules.{rules}
use Rattle.player_printing.proofs.Lines.{wrote-line}
use Rattle.plan_text.proofs.usage.Goals as goal

pub returns : goal.returns
returns c = wrote-line c.put_word.ensures (search rules)
