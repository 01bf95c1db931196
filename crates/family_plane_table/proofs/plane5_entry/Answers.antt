-- `plane_table::plane5_entry` meets its contract: the place of member k of row n is read by the table's rule.
use Prim.Native.Nat.{◌+◌, ◌-◌, ◌*◌, ◌/◌, ◌%◌}
use mathlib.Core.Path.{◌≡◌}
use native.Mathlib.Omega.{arith}
use Rattle.family_plane_table.proofs.Constant.{table_at}
use Rattle.family_plane_table.proofs.plane5_entry.Goals as goal

pub returns : goal.returns
returns c =
    let a = c.args in
    let t = (a.n - 1) * 6 + (a.k - 1) in
    let e : 1 + t / 6 ≡ a.n = omega arith in
    let f : 1 + t % 6 ≡ a.k = omega arith in
    rw (c.plane5-table.ensures, table_at t (omega arith), e, f)
