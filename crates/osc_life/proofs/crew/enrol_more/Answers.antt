use Rattle.std.proofs.Common.{◌≡◌, ◌+◌, ◌<◌, ◌++◌, ◌∷◌, [], ℕ, List, length, All, refl, sym, ap, subst, arith, length-append}
use Rattle.std.proofs.lemmas.List.Elements.{All-push}
use Rattle.osc_model.specs.Enrolled.{callers_in}
use Rattle.osc_turn.specs.declared.view.View.{View}
use Rattle.osc_turn.specs.History.{StartsWith, own}
use Rattle.osc_turn.specs.Passes.{view}
use Rattle.osc_turn.proofs.Histories.{starts_on}
use Rattle.osc_live.specs.declared.caller.Caller.{Caller}
use Rattle.osc_live.specs.Seen.{IsTokenOf, history_of}
use Rattle.osc_life.specs.Crews.{IsCrewFrom, HasCallers}
use Rattle.osc_life.proofs.Enrolling.{CountsCallers, own_before, crew_more, crew_refused}
use Rattle.osc_life.proofs.crew.enrol_more.Goals as goal

-- what is alone then was alone before, and had as many callers
still_counted : (v first : View) → HasCallers first.made first → StartsWith v.seen first.seen → own 0 v.seen ≡ v.seen
    → callers_in (history_of first) ≡ first.made
still_counted v first opened starts alone = opened.counted (own_before 0 v.seen first.seen starts alone)

pub returns-in-Err-clause-enrolled : goal.returns-in-Err-clause-enrolled
returns-in-Err-clause-enrolled g c =
    let inv = c.loop.invariant in
    let counted = c.callers_are_counted.ensures in
    let counts : CountsCallers = record { after = counted.after; enrolled = counted.enrolled } in
    let so_far = length c.loop.callers.items in
    let called = rw c.in-Err.is at c.enrol_next-next.ensures.call in
    let below = c.loop-test.true in
    let first = view c.args.first.pass in
    let next = first.made in
    let few : next + so_far < c.args.live.now.caps.callers = omega (arith, below, inv.so_many, c.requires.few) in
    let start = history_of first in
    let both = crew_refused next c.args.live.now.caps start (next + so_far) (view c.loop.first.pass) (view c.enrol_next-next.result.0.pass) c.loop.callers.items
    inv.crew
    (still_counted (view c.loop.first.pass) first c.requires.opened inv.seen) counts c.in-Err.refused.0 called few in (
      subst (λ (n : ℕ). IsCrewFrom next start n (view c.enrol_next-next.result.0.pass) c.loop.callers.items) (omega arith) both.0,
      omega (arith, below, inv.so_many),
      both.1,
    )

pub loop-preserved : goal.loop-preserved
loop-preserved g c =
    let inv = c.loop.invariant in
    let counted = c.callers_are_counted.ensures in
    let counts : CountsCallers = record { after = counted.after; enrolled = counted.enrolled } in
    let callers = c.loop.callers.items in
    let new = c.in-Ok.caller in
    let w = view c.enrol_next-next.result.0.pass in
    let items = c.in_ok-push-in-Ok.ensures.items in
    let longer : length (callers ++ new ∷ []) ≡ length callers + 1 = length-append callers (new ∷ []) in
    let first = view c.args.first.pass in
    let next = first.made in
    let start = history_of first in
    let more = crew_more next c.args.live.now.caps start (next + length callers) (view c.loop.first.pass) w callers inv.crew
    (still_counted (view c.loop.first.pass) first c.requires.opened inv.seen) counts new
    (rw c.in-Ok.is at c.enrol_next-next.ensures.call) refl (rw c.in-Ok.is at c.enrol_next-next.ensures.token)
    (rw c.in-Ok.is at c.enrol_next-next.ensures.silent) in
    let Ours : Caller → Type 0 = λ one. IsTokenOf c.args.live.now.turn c.args.live.now.caps one.pass in
    record {
      ours = c.enrol_next-next.ensures.ours;
      number = c.enrol_next-next.ensures.number;
      callers_ours = subst (All Ours) (sym items) (All-push Ours callers new inv.callers_ours (rw c.in-Ok.is at c.enrol_next-next.ensures.new_ours));
      seen = starts_on (view c.enrol_next-next.result.0.pass).seen (view c.loop.first.pass).seen first.seen
          c.enrol_next-next.ensures.call.goes_on inv.seen;
      crew = subst (λ (l : List Caller). IsCrewFrom next start (next + length l) w l) (sym items)
          (subst (λ (n : ℕ). IsCrewFrom next start n w (callers ++ new ∷ [])) (omega (arith, longer)) more);
      so_many = omega (arith, ap length items, longer, inv.so_many);
    }
