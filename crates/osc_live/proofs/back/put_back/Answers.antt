use Rattle.std.proofs.Common.{rules, ◌≡◌, ℕ, suc, ◌-◌, ◌<◌, ap, subst, ◌∙◌, arith}
use Rattle.std.specs.VecDeque.{deque_capacity}
use Rattle.osc_core.specs.Telling.{told}
use Rattle.osc_live.specs.Redone.{IsBack}
use Rattle.osc_live.specs.Resuming.{marks}
use Rattle.osc_live.proofs.Backs.{back_none, back_more, back_all}
use Rattle.osc_live.proofs.back.put_back.Goals as goal

pub loop-id-init : goal.loop-id-init
loop-id-init g c whole out =
    back_none g.M.Method.keep g.M.Method.heard whole (told g.M.Method.keep g.M.Method.heard c.args.core.boxes.items) c.close.result.kept.items
    c.args.removed.items c.args.bank.items c.args.taken (deque_capacity c.args.bank) c.close.ensures.kept out

pub loop-id-preserved : goal.loop-id-preserved
loop-id-preserved g c whole out =
    let some : 0 < c.loop-id.id = search rules in
    let is : IsBack g.M.Method.keep g.M.Method.heard whole (suc (c.loop-id.id - 1)) c.loop-id.kept.items c.loop-id.removed.items c.loop-id.bank.items
    (deque_capacity c.loop-id.bank) =
    subst (λ (n : ℕ). IsBack g.M.Method.keep g.M.Method.heard whole n c.loop-id.kept.items c.loop-id.removed.items c.loop-id.bank.items
    (deque_capacity c.loop-id.bank)) (let e : c.loop-id.id ≡ suc (c.loop-id.id - 1) = omega (arith, some) in e) (c.loop-id.invariant whole out) in
    back_more g.M.Method.keep g.M.Method.heard whole (c.loop-id.id - 1) c.loop-id.kept.items c.take_either-method.new.boxes.items c.loop-id.removed.items
    c.take_either-method.new.others.items c.loop-id.bank.items c.put_first.new.bank.items (deque_capacity c.loop-id.bank)
    (deque_capacity c.put_first.new.bank) c.take_either-method.result is c.put_first.ensures.capacity c.take_either-method.ensures c.put_first.ensures.items

pub returns : goal.returns
returns g c whole out =
    let none : c.loop-id.id ≡ 0 = search rules in
    ap (marks g.M.Method.keep g.M.Method.heard) c.into_vec.ensures.items
    ∙ back_all g.M.Method.keep g.M.Method.heard whole c.loop-id.kept.items c.loop-id.removed.items c.loop-id.bank.items (deque_capacity c.loop-id.bank)
    (subst (λ (n : ℕ). IsBack g.M.Method.keep g.M.Method.heard whole n c.loop-id.kept.items c.loop-id.removed.items c.loop-id.bank.items
    (deque_capacity c.loop-id.bank)) none (c.loop-id.invariant whole out))
