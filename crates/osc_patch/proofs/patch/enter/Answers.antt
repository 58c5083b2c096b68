use Rattle.std.proofs.Common.{rules}
use Rattle.osc_patch.proofs.Entering.{added_at, entered_last}
use Rattle.osc_patch.proofs.patch.enter.Goals as goal

pub returns-in-Some : goal.returns-in-Some
returns-in-Some c =
    let h = added_at c.args.methods.now.items c.args.entry c.in-Some.place c.index_mut.result.now c.add.new.self c.add.result c.index_mut.ensures.value in
    search rules

pub returns-in_ok-push-in-None : goal.returns-in_ok-push-in-None
returns-in_ok-push-in-None c = let h = entered_last c.args.methods.now.items c.args.entry in search rules
