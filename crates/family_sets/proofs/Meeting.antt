-- Sets that meet get none of the codes 13, 1, 2 and 3, and no 17 where they are equally large.
use mathlib.Core.Path.{sym, ◌∙◌}
use native.Mathlib.Omega.{arith}
use Rattle.basics.proofs.Basics.{and-true, not-of, all_of, any_of}
use Rattle.model.specs.Tables.{at}
use Rattle.model.specs.Sets.{meet}
use Rattle.model.specs.Setup.{all_name, meets_earlier, all_meet, unnested_earlier, all_minimal}
use Rattle.model.proofs.Sets.{equal-not-nested}
use Rattle.model.proofs.Setup.{accepted-meeting, meeting-setup}
use Rattle.family_sets.specs.Meeting.{MeetingCodeZero, EqualAccepted}

pub meeting-code-zero : MeetingCodeZero
unfolding all_name meets_earlier all_meet meet
meeting-code-zero n sets long size named common =
    accepted-meeting n sets (record {
      long = long;
      low = size.0;
      high = size.1;
      name = all_of _ n (λ k a b. named k (a, b));
      meet = all_of _ n (λ k a b. all_of _ _ (λ l c d.
          let s = common k l (a, b) (c, omega arith) in
          any_of _ n s.site s.in_range.0 s.in_range.1 (and-true _ _ s.first s.second)));
    })

pub equal-accepted : EqualAccepted
unfolding all_minimal unnested_earlier
equal-accepted n members sets meets equal =
    meeting-setup n sets meets
    ∙ rw (all_of (unnested_earlier n sets) n (λ k a b. all_of _ _ (λ l c d.
    not-of _ (equal-not-nested n (at 0 sets k) (at 0 sets l) (equal k (a, b) ∙ sym (equal l (c, omega arith)))))))
