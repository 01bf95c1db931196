use Prim.Native.Nat.{◌+◌, ◌*◌}
use mathlib.Core.Path.{◌≡◌}
use Rattle.model.specs.Setup.{resting_site}
use Rattle.save_lines.specs.Lines.{lines_in}
use Rattle.save_text.specs.Reading.{site_from}
use Rattle.save_reading.proofs.Arrays.{part_of}
use Rattle.save_reading.specs.Places.{line_start}
use Rattle.save_reading.specs.Lines.{own_tables}
use Rattle.save_reading.proofs.read_sites.Given as goal

abbrev pub invariant-loop-i : goal.invariant-loop-i
invariant-loop-i l =
    (l.next ≡ line_start l.text (l.n + 2 + 5 * l.i))
    × (l.site-items ≡ part_of resting_site (site_from (lines_in l.text) l.n l.sets) l.n l.i)
    × (l.tables ≡ own_tables l.text l.n l.sets l.i)
