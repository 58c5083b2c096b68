use Rattle.std.proofs.Common.{◌≡◌, ℕ, ◌++◌, List, [], length, map, take, refl, sym, ap, subst, ◌∙◌, arith}
use Rattle.osc_model.specs.Calls.{call_by}
use Rattle.osc_model.specs.Step.{calls_of, calls_from}
use Rattle.osc_core.proofs.Invoking.{unit_counted}
use Rattle.osc_core.specs.Found.{AreFound}
use Rattle.osc_core.proofs.Keeping.{kept_on, nothing_found}
use Rattle.osc_core.proofs.calls.count_alike.Goals as goal

pub loop-message-init : goal.loop-message-init
loop-message-init c =
    let methods = c.args.tree.now.methods in
    let messages = c.args.messages in
    let cleared : c.args.kept.now.items ≡ [] = c.requires.cleared in
    let all : c.into_iter-message-iterator.result ≡ messages = c.into_iter-message-iterator.ensures.into_iter_gives in
    record {
      can = tt;
      finite = tt;
      counted = omega (arith, ap (λ (l : List (List ℕ)). length (calls_from methods 0 l)) all);
      small = omega (arith, ap length all);
      found = subst (AreFound methods messages) (sym cleared) (nothing_found methods messages);
      further = λ _ more found. subst (λ (l : List ℕ). AreFound methods messages (l ++ more)) (sym cleared)
          (subst (λ (l : List (List ℕ)). AreFound methods l more) all found);
      stand = λ e. absurd (cc);
      limit = refl;
    }

pub loop-message-preserved : goal.loop-message-preserved
loop-message-preserved c =
    let methods = c.args.tree.now.methods in
    let message = c.in-Some.message in
    let many = c.count_next-found.result.0 in
    let ids = take many c.ids.result.now in
    let calls : (index : ℕ) → map (call_by methods index message) ids ≡ calls_of methods index message =
    λ index. ap (λ (l : List ℕ). map (call_by methods index message) (take many l)) c.ids.ensures ∙ c.count_next-found.ensures.calls index in
    let on = kept_on methods message c.loop-message.message-iterator c.next.new.self c.in-Some.ensures.steps c.args.messages ids c.loop-message.kept.items
    c.keep-is_whole.new.kept.items c.loop-message.is_whole c.keep-is_whole.result calls c.loop-message.invariant.found c.loop-message.invariant.further
    c.keep-is_whole.ensures in
    record {
      can = tt;
      finite = tt;
      counted = unit_counted methods 0 message c.loop-message.message-iterator c.next.new.self c.in-Some.ensures.steps
          c.loop-message.count c.count_next-found.result.0 _ c.loop-message.invariant.counted c.count_next-found.ensures.count;
      small = omega (arith, ap length c.in-Some.ensures.steps, c.count_next-found.ensures.few, c.requires.few_methods, c.loop-message.invariant.small);
      found = on.0;
      further = on.1;
      stand = c.count_next-found.ensures.stand;
      limit = c.count_next-found.ensures.limit ∙ c.loop-message.invariant.limit;
    }
