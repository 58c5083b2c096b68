use Rattle.std.proofs.Common.{Option, subst}
use Rattle.osc_report.specs.declared.stretch.Shown.{Shown}
use Rattle.osc_report.specs.Stretches.{placed, ReadsNext}
use Rattle.osc_report.proofs.Stretching.{goes_one, read_ends}
use Rattle.osc_report.proofs.stretch.read_stretch.Goals as goal

pub returns-in-Some : goal.returns-in-Some
returns-in-Some c =
    let before = placed c.loop-stretch.stretch.entries.items in
    let after = placed c.read_next.new.stretch.entries.items in
    read_ends c.args.unread.now c.args.clock c.loop-stretch.unread c.read_next.new.unread before after c.loop-stretch.stretch.clock
    c.read_next.new.stretch.clock c.in-Some.shown c.loop-stretch.invariant
    (subst (λ (o : Option Shown). ReadsNext o c.loop-stretch.unread c.read_next.new.unread before after c.loop-stretch.stretch.clock c.read_next.new.stretch.clock)
    c.in-Some.is c.in_ok-shown.ensures)

pub loop-stretch-preserved : goal.loop-stretch-preserved
loop-stretch-preserved c =
    let before = placed c.loop-stretch.stretch.entries.items in
    let after = placed c.read_next.new.stretch.entries.items in
    goes_one c.args.unread.now c.args.clock c.loop-stretch.unread c.read_next.new.unread before after c.loop-stretch.stretch.clock
    c.read_next.new.stretch.clock c.loop-stretch.invariant
    (subst (λ (o : Option Shown). ReadsNext o c.loop-stretch.unread c.read_next.new.unread before after c.loop-stretch.stretch.clock c.read_next.new.stretch.clock)
    c.in-None.is c.in_ok-shown.ensures)
