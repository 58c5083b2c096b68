use Rattle.std.proofs.Common.{ℕ}
use Rattle.osc_model.specs.Heard.{Told}
use Rattle.osc_core.proofs.Ascents.{viewed_without}
use Rattle.osc_core.proofs.boxes.hand_out.Goals as goal

pub returns-clause-others : goal.returns-clause-others
returns-clause-others g c =
    viewed_without (λ (told : Told). told.id) _ c.args.boxes.now.items c.remove.new.self.items c.in-Some.place c.args.id c.remove.ensures.items
    c.requires.ascending (rw c.deref.ensures.value at c.in-Some.ensures)

pub returns-clause-ids : goal.returns-clause-ids
returns-clause-ids g c =
    viewed_without (λ (id : ℕ). id) _ c.args.boxes.now.items c.remove.new.self.items c.in-Some.place c.args.id c.remove.ensures.items c.requires.ascending
    (rw c.deref.ensures.value at c.in-Some.ensures)
