-- Entries that all agree.
use Rattle.std.proofs.Common.{◌≡◌, List, [], ◌∷◌, refl, ap, ◌∙◌, Option, None}
use Rattle.osc_record.specs.declared.event.Entry.{Entry as Read}
use Rattle.osc_story.specs.declared.disagreement.Disagreement.{Disagreement}
use Rattle.osc_story.specs.Standings.{Standing, seen, AgreesAll}
use Rattle.osc_drawing.specs.Sketches.{entry_of, told, fault_or, first_fault}

pub none_disagrees : (standing : Standing) (entries : List Read) → AgreesAll standing (told entries) → first_fault standing entries ≡ None
none_disagrees standing [] agree = refl
none_disagrees standing (entry ∷ entries) agree =
    ap (λ (o : Option Disagreement). fault_or entry.at o (first_fault (seen standing (entry_of entry)) entries)) agree.0
    ∙ none_disagrees (seen standing (entry_of entry)) entries agree.1
