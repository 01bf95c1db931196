-- `event_line`: one of the three words, else no event.
use mathlib.Core.Path.{refl}
use Rattle.player_grammar.specs.Grammar.{event_form, ask_word, leave_word, move_word}
use Rattle.player_grammar.specs.declared.Line.TheVariants.{Ask, Leave}
use Rattle.player_grammar.proofs.Words.{starts-word}
use Rattle.player_grammar.proofs.Lists.{read-one}
use Rattle.player_grammar.proofs.event_line.Goals as goal

pub returns-in-Some : goal.returns-in-Some
unfolding event_form
returns-in-Some c =
    let line = c.args.line.now in
    let found = c.in-Some.ensures.cases in
    rw (starts-word ask_word line found.0, ← found.1) (read-one Ask _ _ _ c.read_number.ensures c.map.ensures.cases)

pub returns-in-Some-strip_prefix : goal.returns-in-Some-strip_prefix
unfolding event_form
returns-in-Some-strip_prefix c =
    let line = c.args.line.now in
    let found = c.in-Some-strip_prefix.ensures.cases in
    rw (starts-word ask_word line c.in_default.ensures.cases, starts-word leave_word line found.0, ← found.1) (read-one Leave _ _ _ c.read_number-in-Some-strip_prefix.ensures c.map-in-Some-strip_prefix.ensures.cases)

pub returns-in-Some-strip_prefix-2 : goal.returns-in-Some-strip_prefix-2
unfolding event_form
returns-in-Some-strip_prefix-2 c =
    let line = c.args.line.now in
    let found = c.in-Some-strip_prefix-2.ensures.cases in
    rw (starts-word ask_word line c.in_default.ensures.cases, starts-word leave_word line c.in_default-strip_prefix.ensures.cases, starts-word move_word line found.0, ← found.1) c.move_line.ensures

pub returns : goal.returns
unfolding event_form
returns c =
    let line = c.args.line.now in
    rw (starts-word ask_word line c.in_default.ensures.cases, starts-word leave_word line c.in_default-strip_prefix.ensures.cases, starts-word move_word line c.in_default-strip_prefix-2.ensures.cases) refl
