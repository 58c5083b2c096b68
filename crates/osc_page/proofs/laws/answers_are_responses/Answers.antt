use Rattle.osc_page.proofs.Responses.{responses}
use Rattle.osc_page.proofs.laws.answers_are_responses.Goals as goal

pub returns : goal.returns
returns c = responses
