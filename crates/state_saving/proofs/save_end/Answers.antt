-- `save_end`: the stop line, or the saved text.
use mathlib.Core.Path.{◌∙◌}
use native.Mathlib.Omega.{arith}
use Rattle.player_state.specs.State.{known, cut_line}
use Rattle.player_printing.proofs.Lines.{printed-part}
use Rattle.state_saving.proofs.Saved.{printed-as, state-of, some-stop, no_stop, line-copied}
use Rattle.state_saving.proofs.save_end.Goals as goal

pub slice_bounds-stop-end : goal.slice_bounds-stop-end
slice_bounds-stop-end c = (printed-part c.finish-n.ensures).0

pub slice_bounds-put_word-end-then-n-gt0 : goal.slice_bounds-put_word-end-then-n-gt0
slice_bounds-put_word-end-then-n-gt0 c = (printed-part c.finish-n.ensures).1

pub put_word-requires : goal.put_word-requires
put_word-requires c = omega (arith, (printed-part c.finish-n.ensures).1, (printed-part c.finish-n.ensures).0, c.finish-n.ensures.long)

pub returns-then-n-gt0 : goal.returns-then-n-gt0
returns-then-n-gt0 c =
    let ended = c.finish-n.ensures in
    printed-as (some-stop _ _ (omega (arith, ended.count, c.if-n-gt0.true))) (line-copied ended c.put_word.ensures (omega (arith, (printed-part ended).0, ended.long)))

pub returns : goal.returns
returns c =
    let ended = c.finish-n.ensures in
    let s = c.args.s in
    printed-as
    (state-of s _ _ _ c.player_of-player.ensures c.tables_of.ensures c.list_of.ensures
    ∙ no_stop (known s) (cut_line s) (omega (arith, ended.count, c.if-n-gt0.false)))
    c.put_saved.ensures
