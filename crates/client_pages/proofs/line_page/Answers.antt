-- `line_page`: what the line prints, and the spaces behind it; what the player then knows.
use Rattle.client_pages.proofs.Pages.{on-spaces}
use Rattle.client_pages.proofs.line_page.Goals as goal

pub returns : goal.returns
returns c =
    let e = c.line-said.ensures in
    record { page = on-spaces e.0.printed; known = e.0.known; fits = e.1 }
