use Rattle.std.proofs.Common.{ℕ, subst}
use Rattle.osc_turn.specs.Passes.{view}
use Rattle.osc_model.specs.Events.{add}
use Rattle.osc_core.specs.Answers.{adding_of}
use Rattle.osc_live.specs.Calls.{Calls}
use Rattle.osc_uses.proofs.replaced_method.replace.Goals as goal

pub returns-clause-calls : goal.returns-clause-calls
returns-clause-calls g c = record {
  between = view c.remove-caller.result.0.pass;
  removes = c.remove-caller.ensures.call;
  held = c.remove-caller.ensures.heard;
  adds = subst (λ (n : ℕ). Calls c.args.live.now.caps n (add c.args.address) (adding_of c.add-caller.result.1)
      (view c.remove-caller.result.0.pass) (view c.add-caller.result.0.pass)) c.remove-caller.ensures.number c.add-caller.ensures.call;
}
