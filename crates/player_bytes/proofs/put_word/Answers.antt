-- `put_word`: a write of a part is the bytes stored one by one.
use Rattle.std.proofs.Common.{◌+◌, ◌-◌, ◌≡◌, refl, length, arith}
use Rattle.player_bytes.proofs.Stores.{part-stored}
use Rattle.player_bytes.proofs.put_word.Goals as goal

pub returns : goal.returns
returns c =
    let a = c.args in
    let n : a.at + length a.word.now - a.at ≡ length a.word.now = omega arith in
    record { behind = refl; stored = rw (n, c.copy_from_slice.ensures.after) (part-stored a.page.now a.word.now a.at c.requires) }
