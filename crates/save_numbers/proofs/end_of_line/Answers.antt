-- `end_of_line`: what `find` finds.
use lib.Seq.{take-length}
use Rattle.byte_scan.specs.Bytes.{slice}
use Rattle.save_numbers.specs.Places.{line_end}
use Rattle.save_numbers.proofs.end_of_line.Goals as goal

pub returns : goal.returns
unfolding slice line_end
returns c = record {
  value = rw (take-length c.args.text.now) at c.find.ensures.value;
  upper_bound = c.find.ensures.in_range;
}
