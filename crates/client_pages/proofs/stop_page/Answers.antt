-- `stop_page`: what `stop_line` prints, and the spaces behind it.
use Rattle.client_pages.proofs.Pages.{on-spaces}
use Rattle.client_pages.proofs.stop_page.Goals as goal

pub returns : goal.returns
returns c = on-spaces c.stop_line.ensures
