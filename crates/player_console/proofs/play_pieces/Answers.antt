-- `play_pieces`: each part of a piece reads some of it.
use Rattle.std.proofs.Common.{rules, ◌≤◌, arith}
use Rattle.player_reading.proofs.Turns.{some_read}
use Rattle.player_console.proofs.play_pieces.Goals as goal

pub loop-from-smaller : goal.loop-from-smaller
loop-from-smaller g c =
    let e = c.part-r.ensures.leaves_played in
    let some : 1 ≤ c.part-r.result.taken = some_read e.0 (search rules) (search rules) e.2 in
    omega (arith, some, c.loop-from-test.true)
