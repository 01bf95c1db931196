-- `field_line`: the word and the number, then the end of the line.
use borrow.Author.Rules.{rules}
use Rattle.player_bytes.proofs.Stores.{wrote-more}
use Rattle.plan_lines.proofs.field_line.Goals as goal

pub returns : goal.returns
returns c = record {
  wrote = wrote-more c.put_field-end.ensures.wrote c.put_word.ensures;
  upper_bound = search rules;
}
