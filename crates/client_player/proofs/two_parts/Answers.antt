-- `two_parts`: the first part, or both.
use Prim.Native.Nat.{◌<◌}
use mathlib.Core.Path.{◌≡◌, sym}
use native.Mathlib.Omega.{arith}
use lib.ListN.{length, take, drop, take-append-drop}
use lib.Seq.{length-take-le}
use borrow.Author.Rules.{part_to_end}
use Rattle.client_player.proofs.Parts.{put-end, first_read, first_goes, first-full, both_read, both_go, both-full}
use Rattle.client_player.proofs.two_parts.Goals as goal

pub slice_bounds-part-end : goal.slice_bounds-part-end
slice_bounds-part-end c = sym (length-take-le c.args.cut c.args.given.now c.requires.1)

pub returns-then-r-cut : goal.returns-then-r-cut
returns-then-r-cut c =
    let g = c.args.given.now in
    let k = c.args.cut in
    let e = c.part-r.ensures in
    let size : length (take k g) ≡ k = length-take-le k g c.requires.1 in
    let less : c.part-r.result.taken < length (take k g) = rw size c.if-r-cut.true in
    let w = take-append-drop k g in
    record {
      leaves_played = (rw w at (first_read (drop k g) e.leaves_played.0 less), e.leaves_played.1, rw w at (first-full (drop k g) e.leaves_played.0 less e.leaves_played.2));
      continues = rw w at (first_goes (drop k g) e.leaves_played.0 less e.continues);
    }

pub returns : goal.returns
returns c =
    let g = c.args.given.now in
    let k = c.args.cut in
    let r = c.part-r in
    let q = c.part-q in
    let e = r.ensures in
    let size : length (take k g) ≡ k = length-take-le k g c.requires.1 in
    let left = c.if-r-cut.false in
    let all : (r.result.taken < length (take k g) → ⊥) = λ h. omega arith in
    let w = take-append-drop k g in
    let f = rw (part_to_end g k, part_to_end r.new.out r.result.written) at q.ensures in
    rw (put-end r.new.out q.new.out r.result.written)
    record {
      leaves_played = (rw w at (both_read (drop k g) e.leaves_played.0 all f.leaves_played.0), f.leaves_played.1, rw w at (both-full (drop k g) e.leaves_played.0 all f.leaves_played.0 f.leaves_played.2));
      continues = rw w at (both_go (drop k g) e.leaves_played.0 all f.leaves_played.0 e.continues f.continues);
    }
