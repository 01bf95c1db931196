-- `step_page`: what `step_line` prints, and the spaces behind it.
use Rattle.client_pages.proofs.Pages.{on-spaces}
use Rattle.client_pages.proofs.step_page.Goals as goal

pub returns : goal.returns
returns c = on-spaces c.step_line.ensures
