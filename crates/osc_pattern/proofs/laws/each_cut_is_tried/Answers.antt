use Rattle.osc_pattern.proofs.Cuts.{match_items-sound, match_items-complete}
use Rattle.osc_pattern.proofs.laws.each_cut_is_tried.Goals as goal

pub returns : goal.returns
returns c = λ items name. (match_items-sound items name, match_items-complete items name)
