-- `find`: by whether the byte stands in the part.
use Rattle.std.specs.Option.{unwrap_or}
use Rattle.std.proofs.Common.{◌≡◌, ◌-◌, refl, arith}
use Rattle.std.proofs.lemmas.Slice.{between_is}
use Rattle.std.proofs.lemmas.List.Edits.{length-between}
use Rattle.byte_scan.specs.Bytes.{index_of, slice}
use Rattle.byte_scan.proofs.Scans.{index_of-position}
use Rattle.byte_scan.proofs.find.Goals as goal
use Rattle.byte_scan.proofs.find.Goals.{After-first_place}

found : (c : After-first_place) → index_of c.args.byte (slice c.args.from c.args.to c.args.list.now) ≡ unwrap_or c.first_place.result (c.args.to - c.args.from)
unfolding slice
found c =
    let a = c.args in
    rw (← between_is a.list.now a.from a.to, index_of-position, ← c.first_place.ensures, length-between a.list.now a.from a.to c.requires.in_range) refl

pub returns-in-Some-clause-value : goal.returns-in-Some-clause-value
returns-in-Some-clause-value c = rw (found (goal.at.returns-in-Some-clause-value c).After-first_place, c.in-Some.is) refl

pub returns-in-None-clause-value : goal.returns-in-None-clause-value
returns-in-None-clause-value c = rw (found (goal.at.returns-in-None-clause-value c).After-first_place, c.in-None.is) (omega arith)
