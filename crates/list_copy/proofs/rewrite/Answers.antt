-- `rewrite`: the part from the place on is read.
use Prim.Native.Nat.{◌-◌}
use mathlib.Core.Path.{◌≡◌, sym, ap, ◌∙◌}
use native.Mathlib.Omega.{arith}
use mathlib.Core.List.{map}
use lib.ListN.{length, drop, length-map, length-drop}
use Rattle.std.proofs.lemmas.Slice.{between_to_end, put_mid-paste}
use Rattle.std.proofs.lemmas.List.{drop-map}
use Rattle.list_rows.specs.Rows.{message_of}
use Rattle.list_copy.proofs.rewrite.Goals as goal

pub returns-then-from-list : goal.returns-then-from-list
returns-then-from-list c =
    let a = c.args in
    let long : length (drop a.from (map message_of a.rows.now)) ≡ length a.list.now - a.from = simp (length-drop, length-map) (omega arith) in
    let read : c.from_rows.new.list ≡ drop a.from (map message_of a.rows.now) =
    c.from_rows.ensures ∙ ap (map message_of) (between_to_end a.rows.now a.from (length a.rows.now) (omega arith)) ∙ sym (drop-map message_of a.from a.rows.now) in
    put_mid-paste a.from _ a.list.now _ _ _ read (omega arith) (omega arith)
