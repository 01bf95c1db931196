-- `meaning`: the length, then the first two words, then an event's line.
use borrow.Author.Tests.{le-leb, lt-leb}
use lib.ListN.{length}
use native.Mathlib.Omega.{arith}
use Rattle.player_grammar.specs.Grammar.{sites_word, set_word, form, line_limit, meaning_of}
use Rattle.player_grammar.specs.declared.Line.TheVariants.{Sites}
use Rattle.player_grammar.proofs.Words.{starts-word}
use Rattle.player_grammar.proofs.Lists.{read-one}
use Rattle.player_grammar.proofs.meaning.Goals as goal

pub returns-then-line-gt-LINE_LIMIT : goal.returns-then-line-gt-LINE_LIMIT
unfolding meaning_of
returns-then-line-gt-LINE_LIMIT c = rw (lt-leb (length c.args.line.now) line_limit (omega arith))

pub returns-in-Some : goal.returns-in-Some
unfolding meaning_of form
returns-in-Some c =
    let line = c.args.line.now in
    let found = c.in-Some.ensures.cases in
    rw (le-leb (length line) line_limit (omega arith), starts-word sites_word line found.0, ← found.1) (read-one Sites _ _ _ c.read_number.ensures c.map.ensures.cases)

pub returns-in-Some-strip_prefix : goal.returns-in-Some-strip_prefix
unfolding meaning_of form
returns-in-Some-strip_prefix c =
    let line = c.args.line.now in
    let found = c.in-Some-strip_prefix.ensures.cases in
    rw (le-leb (length line) line_limit (omega arith), starts-word sites_word line c.in_default.ensures.cases, starts-word set_word line found.0, ← found.1) c.set_line.ensures

pub returns : goal.returns
unfolding meaning_of form
returns c =
    let line = c.args.line.now in
    rw (le-leb (length line) line_limit (omega arith), starts-word sites_word line c.in_default.ensures.cases, starts-word set_word line c.in_default-strip_prefix.ensures.cases) c.event_line.ensures
