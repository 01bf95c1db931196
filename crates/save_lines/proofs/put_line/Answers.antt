-- `put_line`: the word, the numbers so far, then the end of the line.
use mathlib.Core.Path.{refl}
use borrow.Author.Rules.{rules}
use native.Mathlib.Omega.{arith}
use lib.ListN.{take}
use lib.Seq.{take_all}
use Rattle.player_bytes.proofs.Stores.{wrote-more}
use Rattle.plan_lines.specs.Lines.{list_text}
use Rattle.save_lines.specs.Lines.{field_text}
use Rattle.save_lines.proofs.Turns.{line-length, number_fits, wrote-number}
use Rattle.save_lines.proofs.put_line.Goals as goal

pub put_word-first-requires : goal.put_word-first-requires
put_word-first-requires c =
    omega (arith, line-length c.args.word.now (take c.args.count c.args.numbers.now))

pub loop-n-init : goal.loop-n-init
unfolding list_text
loop-n-init c = record { behind = search rules; stored = refl }

pub put_number-next-requires : goal.put_number-next-requires
put_number-next-requires c =
    let l = c.loop-n in
    let w = c.put_word-first in
    let a = c.args in
    let ns = take a.count a.numbers.now in
    let fits = number_fits ns l.n-index l.next w.result c.loop-n-test.true l.invariant.behind in
    omega (arith, w.ensures.behind, line-length a.word.now ns)

pub loop-n-preserved : goal.loop-n-preserved
loop-n-preserved c =
    let l = c.loop-n in
    let a = c.args in
    wrote-number (take a.count a.numbers.now) l.n-index l.next c.put_word-first.result c.loop-n-test.true l.invariant c.put_number-next.ensures

pub put_word-requires : goal.put_word-requires
put_word-requires c =
    let l = c.loop-n in
    let a = c.args in
    let ns = take a.count a.numbers.now in
    let all = rw (take_all l.n-index ns c.loop-n-test.false) at l.invariant in
    omega (arith, line-length a.word.now ns, all.behind, c.put_word-first.ensures.behind)

pub returns : goal.returns
unfolding field_text
returns c =
    let l = c.loop-n in
    let a = c.args in
    let all = rw (take_all l.n-index (take a.count a.numbers.now) c.loop-n-test.false) at l.invariant in
    wrote-more (wrote-more c.put_word-first.ensures all) c.put_word.ensures
