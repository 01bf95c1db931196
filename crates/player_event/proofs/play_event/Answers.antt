-- `play_event`: the next state, and its line.
use Rattle.player_event.proofs.Events.{plays}
use Rattle.player_event.proofs.play_event.Goals as goal

pub next_state-r-requires : goal.next_state-r-requires
next_state-r-requires c = c.requires

pub returns : goal.returns
returns c =
    let a = c.args in
    plays a.p a.e a.tables.now a.list.now c.next_state-r.result _ _ c.step_line-printed.result c.one_more.result c.one_more-place.result c.inside.result c.waiting.result c.requires c.next_state-r.ensures.0 c.next_state-r.ensures.1 c.one_more.ensures c.one_more-place.ensures c.inside.ensures c.waiting.ensures c.step_line-printed.ensures
