-- `put_member`: the number alone, or a comma and the number.
use native.Mathlib.Omega.{arith}
use Rattle.player_bytes.proofs.Digits.{decimal-length}
use Rattle.plan_lines.proofs.put_member.Goals as goal

pub put_decimal-requires : goal.put_decimal-requires
put_decimal-requires c = omega (arith, decimal-length c.args.j)
