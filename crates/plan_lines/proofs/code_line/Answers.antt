-- `code_line`: the line at the start of the page.
use borrow.Author.Rules.{rules}
use Rattle.player_printing.proofs.Lines.{wrote-line}
use Rattle.plan_lines.specs.Lines.{code_text}
use Rattle.plan_lines.proofs.code_line.Goals as goal

pub returns : goal.returns
unfolding code_text
returns c = wrote-line c.field_line.ensures.wrote (search rules)
