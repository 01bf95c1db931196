-- `finish`: a lacking line, a line without its end, or nothing.
use Rattle.player_text.specs.Calls.{text_of}
use Rattle.player_text.proofs.Heads.{nothing}
use Rattle.player_text.proofs.Stages.{end-size, end-sets, end-over, end-inside-line, end-after-line}
use Rattle.player_lines.proofs.finish.Goals as goal

pub returns-in-Size : goal.returns-in-Size
returns-in-Size c = λ s.
    let a = c.args in
    rw (end-size (text_of a.p s) a.rest.now c.in-Size.is, ← c.one_more-place.ensures) c.stop_line.ensures

pub returns-in-Sets : goal.returns-in-Sets
returns-in-Sets c = λ s.
    let a = c.args in
    rw (end-sets (text_of a.p s) a.rest.now c.in-Sets.is, ← c.one_more-place.ensures) c.stop_line-in-Sets.ensures

pub returns-then-rest-gt0 : goal.returns-then-rest-gt0
returns-then-rest-gt0 c = λ s.
    let a = c.args in
    rw (end-inside-line (text_of a.p s) a.rest.now c.in-Events.is c.if-rest-gt0.true, ← c.one_more-place.ensures) c.stop_line-then-rest-gt0.ensures

pub returns-else-rest-gt0 : goal.returns-else-rest-gt0
returns-else-rest-gt0 c = λ s.
    let a = c.args in
    rw (end-after-line (text_of a.p s) a.rest.now c.in-Events.is c.if-rest-gt0.false) nothing

pub returns-in-Over : goal.returns-in-Over
returns-in-Over c = λ s.
    let a = c.args in
    rw (end-over (text_of a.p s) a.rest.now c.in-Over.is) nothing
