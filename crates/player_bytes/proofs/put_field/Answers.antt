-- `put_field`: the word, then the number.
use native.Mathlib.Omega.{arith}
use Rattle.player_bytes.proofs.Digits.{decimal-length}
use Rattle.player_bytes.proofs.Stores.{wrote-more}
use Rattle.player_bytes.proofs.put_field.Goals as goal

pub put_decimal-requires : goal.put_decimal-requires
put_decimal-requires c = omega (arith, decimal-length c.args.n)

pub returns : goal.returns
returns c =
    let l = decimal-length c.args.n in
    record {
      wrote = wrote-more c.put_word-next.ensures c.put_decimal.ensures;
      upper_bound = omega arith;
    }
