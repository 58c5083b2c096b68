use Rattle.std.proofs.Common.{◌≡◌, true, is_some, refl, ap, ◌∙◌, arith, rules}
use Rattle.std.specs.Option.{option_map}
use Rattle.osc_record.specs.Shown.{room_of}
use Rattle.osc_turn.proofs.Histories.{none_long}
use Rattle.osc_script.specs.Adds.{count_adds}
use Rattle.osc_lanes.specs.Performs.{told_of}
use Rattle.osc_lanes.proofs.Going.{goes_on, goes_to, goes_over, played_by, no_stop, some_stop}
use Rattle.osc_lanes.proofs.worker.play_lines.Goals as goal

pub returns-then-is_some-clause-plays : goal.returns-then-is_some-clause-plays
returns-then-is_some-clause-plays g c =
    let inv = c.loop-line.invariant in
    let stop = c.play_line.new.lane.told.stop in
    let some : is_some stop ≡ true = search rules in
    let played = played_by g.M.Method.keep g.M.Method.heard _ _ _ _ _ _ _ _ _ _ inv.holder c.in_ok-caller.ensures.played in
    goes_to g.M.Method.keep g.M.Method.heard _ _ _ (told_of c.args.lane.now.told) _ c.in-Some.line _ _ _ _ _ _ _ _ inv.so_far
    c.in-Some.ensures.steps.0 played (option_map room_of stop) refl (some_stop stop some)

pub loop-line-preserved : goal.loop-line-preserved
loop-line-preserved g c =
    let inv = c.loop-line.invariant in
    let none = no_stop c.play_line.new.lane.told.stop (search rules) in
    let played = played_by g.M.Method.keep g.M.Method.heard _ _ _ _ _ _ _ _ _ _ inv.holder c.in_ok-caller.ensures.played in
    record {
      ours = c.in_ok-caller.ensures.ours;
      holder = c.in_ok-caller.ensures.holder ∙ inv.holder;
      made = c.in_ok-caller.ensures.made ∙ inv.made;
      handed = omega (arith, inv.handed, ap count_adds c.in-Some.ensures.steps.0, c.in_ok-caller.ensures.handed);
      begun = none;
      number = c.in_ok-caller.ensures.number ∙ inv.number;
      so_far = goes_on g.M.Method.keep g.M.Method.heard _ _ _ (told_of c.args.lane.now.told) _ c.in-Some.line _ _ _ _ _ _ _ _ inv.so_far
          c.in-Some.ensures.steps.0 played (ap (option_map room_of) none);
    }

pub returns-clause-plays : goal.returns-clause-plays
returns-clause-plays g c =
    goes_over g.M.Method.keep g.M.Method.heard _ _ _ (told_of c.args.lane.now.told) _ _ _ (told_of c.loop-line.lane.told) _ c.loop-line.invariant.so_far
    (none_long _ (omega (arith, c.in-None.ensures.steps.0, c.loop-line.line-iterator.rest.ok.0))) (ap (option_map room_of) c.loop-line.invariant.begun)

pub returns-then-is_some-clause-made : goal.returns-then-is_some-clause-made
returns-then-is_some-clause-made g c = c.in_ok-caller.ensures.made ∙ c.loop-line.invariant.made

pub returns-clause-made : goal.returns-clause-made
returns-clause-made g c = c.loop-line.invariant.made
