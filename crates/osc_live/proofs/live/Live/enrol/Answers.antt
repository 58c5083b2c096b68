use Rattle.std.proofs.Common.{◌≡◌, ℕ, ◌<◌, List, [], sym, ap, subst, ◌∙◌, arith}
use Rattle.osc_model.specs.Enrolled.{callers_in}
use Rattle.osc_model.specs.Events.{enrol, Answer, number, callers_full}
use Rattle.osc_core.specs.Answers.{enrolled_of}
use Rattle.osc_turn.specs.declared.view.Entry.{Entry as Seen}
use Rattle.osc_turn.specs.declared.view.View.{View}
use Rattle.osc_turn.specs.History.{StartsWith, texts, own}
use Rattle.osc_turn.specs.Rule.{number_of}
use Rattle.osc_turn.specs.Passes.{view}
use Rattle.osc_turn.proofs.Histories.{starts_on}
use Rattle.osc_core.specs.Standing.{history_in}
use Rattle.osc_live.specs.Seen.{names, old_own}
use Rattle.osc_live.specs.Calls.{Calls}
use Rattle.osc_live.proofs.Answered.{still_enrolled, none_named}
use Rattle.osc_live.proofs.Meeting.{calls_met, newly_enrolled, met_named, told_all}
use Rattle.osc_live.proofs.live.Live.enrol.Goals as goal

pub invariant_of-play : goal.invariant_of-play
invariant_of-play g c =
    let meet = c.meet-guest.ensures in
    let v = view c.args.caller.pass in
    let v1 = view c.meet-guest.result.1 in
    record {
      enrolled = still_enrolled c.callers_are_counted.ensures.grows c.args.caller.number v v1 meet.seen c.args.caller.enrolled;
      named = met_named c.args.caller.number v (view c.args.guest.pass) v1 meet.into meet.none_added c.args.caller.named;
      first = λ zero. ap number_of meet.into ∙ c.args.caller.first zero;
    }

pub returns-in-Number-clause-call : goal.returns-in-Number-clause-call
returns-in-Number-clause-call g c =
    let meet = c.meet-guest.ensures in
    let v = view c.args.caller.pass in
    let call = c.play-caller.ensures.call in
    let given = subst (λ (a : Answer). Calls c.args.self.now.caps c.args.caller.number enrol a (view c.meet-guest.result.1) (view c.play-caller.result.0.pass))
    (call.1 ∙ ap enrolled_of c.in-Number.is) call.2 in
    subst (λ (u : View). Calls c.args.self.now.caps c.args.caller.number enrol (number c.in-Number.given) v u) (sym c.meet-pass.ensures.from)
    (calls_met c.args.self.now.caps c.args.caller.number enrol (number c.in-Number.given) v (view c.args.guest.pass) (view c.meet-guest.result.1)
    (view c.play-caller.result.0.pass) meet.into meet.seen meet.none_added given)

pub returns-in-CallersFull-clause-call : goal.returns-in-CallersFull-clause-call
returns-in-CallersFull-clause-call g c =
    let meet = c.meet-guest.ensures in
    let v = view c.args.caller.pass in
    let call = c.play-caller.ensures.call in
    let full = subst (λ (a : Answer). Calls c.args.self.now.caps c.args.caller.number enrol a (view c.meet-guest.result.1) (view c.play-caller.result.0.pass))
    (call.1 ∙ ap enrolled_of c.in-CallersFull.is) call.2 in
    calls_met c.args.self.now.caps c.args.caller.number enrol callers_full v (view c.args.guest.pass) (view c.meet-guest.result.1)
    (view c.play-caller.result.0.pass) meet.into meet.seen meet.none_added full

pub invariant_of-new : goal.invariant_of-new
invariant_of-new g c =
    let v1 = view c.meet-guest.result.1 in
    let w = view c.play-caller.result.0.pass in
    let guest = view c.meet-guest.result.0 in
    let new = view c.meet-pass.result.1 in
    let call = c.play-caller.ensures.call in
    let call_is = subst (λ (a : Answer). Calls c.args.self.now.caps c.args.caller.number enrol a v1 w) (call.1 ∙ ap enrolled_of c.in-Number.is) call.2 in
    let next = newly_enrolled c.callers_are_counted.ensures.enrolled c.args.self.now.caps c.args.caller.number c.in-Number.given v1 w call_is in
    let told : StartsWith w.seen guest.seen =
    subst (λ (u : View). StartsWith w.seen u.seen) (sym c.meet-guest.ensures.from)
    (starts_on w.seen v1.seen (view c.args.guest.pass).seen call_is.goes_on c.meet-guest.ensures.told) in
    let same : new.seen ≡ w.seen = told_all guest w new c.meet-pass.ensures.into told in
    let none : own (number_of new) new.seen ≡ [] =
    ap (λ (n : ℕ). own n new.seen) (ap number_of c.meet-pass.ensures.into) ∙ c.meet-pass.ensures.none_added
    ∙ ap (λ (u : View). own (number_of u) u.seen) c.meet-guest.ensures.from ∙ c.args.guest.none_own in
    let first = next.0 in
    record {
      enrolled = subst (λ (seen : List Seen). c.in-Number.given < callers_in (history_in (texts seen))) (sym same) next.1;
      named = none_named (names c.in-Number.given) (old_own new) _ none;
      first = λ zero. absurd (omega arith);
    }
