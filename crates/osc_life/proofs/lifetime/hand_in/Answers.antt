use Rattle.std.proofs.Common.{◌≡◌, ◌+◌, ◌∷◌, ◌++◌, List, length, All, sym, ap, subst, ◌∙◌, arith, length-append}
use Rattle.std.proofs.lemmas.List.Elements.{All-append, All-cons}
use Rattle.osc_core.specs.Telling.{told}
use Rattle.osc_live.specs.declared.caller.Caller.{Caller}
use Rattle.osc_live.specs.Closing.{known, views_of, made_by, Closes}
use Rattle.osc_live.specs.Seen.{past_of, IsTokenOf}
use Rattle.osc_live.proofs.Closings.{inserted_first}
use Rattle.osc_life.proofs.lifetime.hand_in.Goals as goal
use Rattle.osc_life.proofs.lifetime.hand_in.Goals.{In_ok-append}

-- what is handed in
handed : (g : _) (c : In_ok-append g) → c.append.new.self.items ≡ c.args.crew.first ∷ (c.args.others.items ++ c.args.crew.callers.items)
handed g c =
    c.in_ok-append.ensures.items
    ∙ ap (λ (l : List Caller). l ++ c.args.crew.callers.items) (c.in_ok-insert.ensures.items ∙ inserted_first c.args.others.items c.args.crew.first)

many : (g : _) (c : In_ok-append g) → length c.append.new.self.items ≡ 1 + length c.args.others.items + length c.args.crew.callers.items
many g c = omega (arith, ap length (handed g c), length-append c.args.others.items c.args.crew.callers.items)

pub close_all-requires-clause-callers_ours : goal.close_all-requires-clause-callers_ours
close_all-requires-clause-callers_ours g c =
    let live = c.args.live in
    let Ours : Caller → Type 0 = λ one. IsTokenOf live.turn live.caps one.pass in
    let others = c.args.others.items in
    let callers = c.args.crew.callers.items in
    subst (All Ours) (sym (handed g (goal.at.close_all-requires-clause-callers_ours g c).In_ok-append))
    (All-cons Ours c.args.crew.first (others ++ callers) c.requires.ours (All-append Ours others callers c.requires.others_ours c.requires.callers_ours))

pub close_all-requires-clause-few : goal.close_all-requires-clause-few
close_all-requires-clause-few g c = omega (arith, many g (goal.at.close_all-requires-clause-few g c).In_ok-append, c.requires.few)

pub close_all-requires-clause-all_in : goal.close_all-requires-clause-all_in
close_all-requires-clause-all_in g c =
    let at = (goal.at.close_all-requires-clause-all_in g c).In_ok-append in
    ap made_by (handed g at) ∙ c.requires.all_in ∙ omega (arith, many g at)

pub returns : goal.returns
returns g c =
    let live = c.args.live in
    let closed = c.in_ok-closed.closed in
    subst
    (λ (l : List Caller). Closes live.caps (past_of live.turn) (known l) (views_of l c.args.guests.items) closed.bytes.items
    (told g.M.Method.keep g.M.Method.heard closed.kept.items)) (handed g (goal.at.returns g c).In_ok-append) c.in_ok-closed.ensures
