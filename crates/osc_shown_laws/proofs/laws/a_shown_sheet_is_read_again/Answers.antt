use Rattle.osc_shown_laws.proofs.ShownSheets.{sheet_again}
use Rattle.osc_shown_laws.proofs.laws.a_shown_sheet_is_read_again.Goals as goal

pub returns : goal.returns
returns c methods setting cues bytes = sheet_again methods setting cues bytes c.written_is_read_again.ensures.of_known
