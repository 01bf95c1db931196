-- `end_page`: what `finish` prints, and the spaces behind it.
use Rattle.client_pages.proofs.Pages.{on-spaces}
use Rattle.client_pages.proofs.end_page.Goals as goal

pub returns : goal.returns
returns c = on-spaces c.finish.ensures
