use Rattle.std.proofs.Common.{subst}
use Rattle.std.specs.Prelude.{Option}
use Rattle.osc_packet.specs.Bundling.{Bundling}
use Rattle.osc_score.specs.Keeping.{KeepsRuns}
use Rattle.osc_score.proofs.Making.{same_pushed, first_begun, next_begun}
use Rattle.osc_score.proofs.added_note.push_message.Goals as goal

pub returns-then-tag-least : goal.returns-then-tag-least
returns-then-tag-least c groups note keeps tag_is text_is =
    same_pushed c.args.least c.args.tag c.args.runs.now.items c.in-Some.bundler groups note c.args.message.now c.pushed.result
    (subst (λ (o : Option Bundling). KeepsRuns c.args.least c.args.runs.now.items o groups) c.in-Some.is keeps) tag_is c.if-tag-least.true text_is
    c.pushed.ensures

pub returns-in_ok-keep-in-Some : goal.returns-in_ok-keep-in-Some
returns-in_ok-keep-in-Some c groups note keeps tag_is text_is =
    next_begun c.args.least c.args.tag c.args.runs.now.items c.keep.new.runs.items c.in-Some.bundler groups note c.args.message.now c.begun.result
    (subst (λ (o : Option Bundling). KeepsRuns c.args.least c.args.runs.now.items o groups) c.in-Some.is keeps)
    c.in_ok-keep-in-Some.ensures tag_is c.if-tag-least.false text_is c.begun.ensures

pub returns-in-None : goal.returns-in-None
returns-in-None c groups note keeps tag_is text_is =
    let none = subst (λ (o : Option Bundling). KeepsRuns c.args.least c.args.runs.now.items o groups) c.in-None.is keeps in
    first_begun groups note c.args.runs.now.items c.args.tag c.args.message.now c.begun-in-None.result none.0 none.1 tag_is text_is c.begun-in-None.ensures
