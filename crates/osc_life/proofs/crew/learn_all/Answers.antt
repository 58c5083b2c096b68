use Rattle.std.proofs.Common.{◌≡◌, ℕ, List, [], ◌∷◌, ◌++◌, All, sym, ap, subst, ◌∙◌, append_assoc}
use Rattle.std.specs.Vec.Iter.{into_iter_items}
use Rattle.std.proofs.lemmas.List.{map-append}
use Rattle.std.proofs.lemmas.List.Elements.{All-push, All-rest}
use Rattle.osc_turn.specs.declared.view.View.{View}
use Rattle.osc_turn.specs.History.{StartsWith}
use Rattle.osc_turn.specs.Passes.{view}
use Rattle.osc_live.specs.declared.caller.Caller.{Caller}
use Rattle.osc_live.specs.Closing.{known}
use Rattle.osc_live.specs.Seen.{IsTokenOf}
use Rattle.osc_life.proofs.Learning.{learns_on, learns_told}
use Rattle.osc_life.proofs.Learning.{HasHeard, heard_more}
use Rattle.osc_life.proofs.crew.learn_all.Goals as goal

known_push : (callers : List Caller) (caller : Caller) → known (callers ++ caller ∷ []) ≡ known callers ++ (caller.number, view caller.pass) ∷ []
known_push callers caller = map-append (λ (one : Caller). (one.number, view one.pass)) callers (caller ∷ [])

-- those so far, one more, and those that are left
known_on : (heard rest left all : List Caller) (caller told : Caller) → known heard ++ known left ≡ known all → left ≡ caller ∷ rest
    → told.number ≡ caller.number → view told.pass ≡ view caller.pass → known (heard ++ told ∷ []) ++ known rest ≡ known all
known_on heard rest left all caller told is next number same =
    ap (λ (l : List (ℕ × View)). l ++ known rest) (known_push heard told)
    ∙ append_assoc (known heard) ((told.number, view told.pass) ∷ []) (known rest)
    ∙ (λ i. known heard ++ (number i, same i) ∷ known rest)
    ∙ ap (λ (l : List Caller). known heard ++ known l) (sym next) ∙ is

pub loop-other-preserved : goal.loop-other-preserved
loop-other-preserved g c =
    let inv = c.loop-other.invariant in
    let meets = c.meet-other.ensures in
    let next = c.in-Some.ensures.steps.0 in
    let caller = c.in-Some.other in
    let told = c.meet-other.result.0 in
    let first = c.meet-other.result.1 in
    let heard = c.loop-other.heard.items in
    let left = into_iter_items c.loop-other.other-iterator in
    let rest = into_iter_items c.next.new.self in
    let items = c.in_ok-push.ensures.items in
    let Ours : Caller → Type 0 = λ one. IsTokenOf c.args.live.now.turn c.args.live.now.caps one.pass in
    let seen : HasHeard (view first.pass).seen (told.number, view told.pass) =
    subst (λ (v : View). StartsWith (view first.pass).seen v.seen) (sym meets.from) meets.told in
    record {
      ours = meets.into_ours;
      number = meets.numbers.1 ∙ inv.number;
      learns = learns_on (view c.args.first.pass) (view c.loop-other.first.pass) (view first.pass) inv.learns
          (learns_told (view c.loop-other.first.pass) (view first.pass) (view caller.pass) meets.into meets.seen meets.none_added);
      same = ap (λ (l : List Caller). known l ++ known rest) items ∙ known_on heard rest left c.args.others.items caller told inv.same next meets.numbers.0 meets.from;
      told = subst (λ (l : List Caller). All (HasHeard (view first.pass).seen) (known l)) (sym items)
          (subst (All (HasHeard (view first.pass).seen)) (sym (known_push heard told))
          (heard_more (view c.loop-other.first.pass).seen (view first.pass).seen (known heard) (told.number, view told.pass) meets.seen inv.told seen));
      heard_ours = subst (All Ours) (sym items) (All-push Ours heard told inv.heard_ours meets.from_ours);
      left_ours = All-rest Ours caller rest left next inv.left_ours;
    }
