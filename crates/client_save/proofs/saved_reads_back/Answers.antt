-- `saved_reads_back`: from the claims on the text of a state, read back, and none longer.
use Rattle.client_save.specs.Saved.{SavedReadsBack}
use Rattle.client_save.proofs.Back.{reads-back}
use Rattle.client_save.proofs.saved_reads_back.Goals as goal

pub returns : goal.returns
unfolding SavedReadsBack
returns c =
    let r = c.read_back.ensures in
    (r.0, λ page lent s room long is shaped. reads-back r.1 c.none_longer.ensures.1 page lent s room is shaped long)
