use Rattle.std.proofs.Common.{List, ℕ, length, sym, ap, subst, ◌∙◌, arith}
use Rattle.osc_core.specs.Found.{AreFound}
use Rattle.osc_core.proofs.Invoking.{unit_put, unit_owes, unit_owed, unit_heard, none_put, none_heard}
use Rattle.osc_core.proofs.Keeping.{first_and_rest}
use Rattle.osc_core.proofs.calls.invoke_unit.Goals as goal

pub invoke_message-left-requires-clause-found : goal.invoke_message-left-requires-clause-found
invoke_message-left-requires-clause-found g c =
    (first_and_rest c.args.tree.now.methods c.in-Some.message c.loop-message.message-iterator c.next.new.self c.in-Some.ensures.steps c.loop-message.left.kept.now
    c.loop-message.invariant.found).0

pub invoke_message-left-requires-clause-owed : goal.invoke_message-left-requires-clause-owed
invoke_message-left-requires-clause-owed g c =
    unit_owes c.args.tree.now.methods c.loop-message.index c.in-Some.message c.loop-message.message-iterator c.next.new.self c.in-Some.ensures.steps
    c.loop-message.recorder c.loop-message.invariant.owed

pub loop-message-preserved : goal.loop-message-preserved
loop-message-preserved g c =
    let methods = c.args.tree.now.methods in
    let index = c.loop-message.index in
    let left = c.loop-message.message-iterator in
    let rest = c.next.new.self in
    let first = c.in-Some.ensures.steps in
    let old = c.loop-message.recorder in
    let put = c.invoke_message-left.ensures.recorder in
    record {
      can = tt;
      finite = tt;
      recorder = unit_put methods index c.in-Some.message left rest first old c.invoke_message-left.new.recorder put ∙ c.loop-message.invariant.recorder;
      found = subst (λ (l : List ℕ). AreFound methods rest l) (sym c.invoke_message-left.ensures.rest)
          (first_and_rest methods c.in-Some.message left rest first c.loop-message.left.kept.now c.loop-message.invariant.found).1;
      stand = c.invoke_message-left.ensures.stand;
      owed = unit_owed methods index c.in-Some.message left rest first old c.invoke_message-left.new.recorder put c.loop-message.invariant.owed;
      boxes = unit_heard methods index c.in-Some.message left rest first c.args.due.unit _ _ c.invoke_message-left.ensures.boxes ∙ c.loop-message.invariant.boxes;
      ids = c.invoke_message-left.ensures.ids ∙ c.loop-message.invariant.ids;
      capacity = omega (arith, c.invoke_message-left.ensures.capacity, c.loop-message.invariant.capacity);
      numbers = omega (arith, ap length first, c.loop-message.invariant.numbers);
      limit = c.invoke_message-left.ensures.limit ∙ c.loop-message.invariant.limit;
    }

pub returns-clause-recorder : goal.returns-clause-recorder
returns-clause-recorder g c =
    none_put c.args.tree.now.methods c.loop-message.index c.loop-message.message-iterator c.loop-message.recorder c.in-None.ensures.steps.0
    ∙ c.loop-message.invariant.recorder

pub returns-clause-boxes : goal.returns-clause-boxes
returns-clause-boxes g c =
    none_heard c.args.tree.now.methods c.loop-message.index c.args.due.unit c.loop-message.message-iterator _ c.in-None.ensures.steps.0
    ∙ c.loop-message.invariant.boxes
