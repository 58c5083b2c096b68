use Rattle.std.proofs.Common.{◌≡◌, ◌++◌, rules, Err, ◌∙◌, subst, sym}
use Rattle.osc_script.specs.Written.{written}
use Rattle.osc_story.specs.Standings.{queue_of}
use Rattle.osc_carry.specs.Carried.{queue_acts}
use Rattle.osc_carry.specs.Answers.{IsScriptUnlessShort}
use Rattle.osc_carry.proofs.Carrying.{text_of, whole_is, fault_complete}
use Rattle.osc_carry.proofs.script.script_of.Goals as goal

pub returns-in_err-put_units : goal.returns-in_err-put_units
returns-in_err-put_units c =
    let fault = (c.in_err-put_units.field-0).0 in
    let is : c.from_residual-in_err-put_units.result ≡ Err fault = search rules in
    let first = c.put_adds.new.script.items in
    let whole : first ++ written (queue_acts 1 c.clock.result (queue_of c.waiting.result.now)) ≡ text_of c.args.story.now =
    whole_is c.args.story.now c.methods.result.now c.clock.result c.waiting.result.now c.new-script.result.items first c.methods.ensures
    c.clock.ensures c.waiting.ensures c.new-script.ensures.items c.in_ok-put_adds.ensures in
    subst (λ r. IsScriptUnlessShort r (λ script. script.items) (text_of c.args.story.now)) (sym is)
    (fault_complete (λ script. script.items) fault first c.put_units.new.script.items (text_of c.args.story.now) _ c.in_err-put_units.ensures whole)

pub returns : goal.returns
returns c =
    let first = c.put_adds.new.script.items in
    let whole : first ++ written (queue_acts 1 c.clock.result (queue_of c.waiting.result.now)) ≡ text_of c.args.story.now =
    whole_is c.args.story.now c.methods.result.now c.clock.result c.waiting.result.now c.new-script.result.items first c.methods.ensures
    c.clock.ensures c.waiting.ensures c.new-script.ensures.items c.in_ok-put_adds.ensures in (
      (c.in_ok-put_units.ensures).0 ∙ whole,
      (c.in_ok-put_units.ensures).1,
    )
