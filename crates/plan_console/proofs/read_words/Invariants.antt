-- `read_words`: the words that have been read so far, and no more than were asked for.
use Rattle.std.proofs.Common.{◌-◌, ◌≤◌}
use Rattle.plan_console.specs.Planned.{ReadsWords}
use Rattle.plan_console.proofs.read_words.Given as goal

abbrev pub invariant-loop-i : goal.invariant-loop-i
invariant-loop-i g l = (l.i - l.first ≤ l.end - l.first) × ReadsWords (l.i - l.first) l.given
