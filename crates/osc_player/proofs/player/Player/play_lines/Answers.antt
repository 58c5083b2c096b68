use Rattle.std.proofs.Common.{◌≡◌, true, false, [], is_some, arith, rules}
use Rattle.std.specs.Vec.Iter.{into_iter_items}
use Rattle.std.proofs.lemmas.List.{nil_from_length}
use Rattle.osc_player.proofs.Places.{at_none, at_done, at_over}
use Rattle.osc_player.proofs.Runs.{run_begins, run_on, run_ends, run_stops}
use Rattle.osc_player.proofs.player.Player.play_lines.Goals as goal

pub loop-line-init : goal.loop-line-init
loop-line-init g c =
    let all : into_iter_items c.into_iter-line-iterator.result ≡ c.args.lines.items = search rules in
    record {
      run = run_begins c.args.self.now.core.performance c.args.self.now.faults c.args.lines.items _ _ all c.requires.caller c.requires.handed;
      boxes = λ bank at. at;
    }

pub loop-line-preserved : goal.loop-line-preserved
loop-line-preserved g c =
    let done = c.in_ok-stop.ensures in
    let none : is_some c.in_ok-stop.stop ≡ false = search rules in
    record {
      run = run_on c.args.self.now.core.performance c.args.self.now.faults c.args.lines.items _ c.in-Some.line _ c.in-Some.ensures.steps.0
          c.loop-line.self.core.performance c.loop-line.self.faults _ c.loop-line.invariant.run _ c.play_act.new.self.faults done.performance done.faults _
          c.in_ok-stop.stop none done.stop done.waiting;
      boxes = λ bank at. at_none _ bank c.in_ok-stop.stop none _ _ _ _ _ (done.boxes bank (c.loop-line.invariant.boxes bank at));
    }

pub returns-then-is_some : goal.returns-then-is_some
returns-then-is_some g c =
    let done = c.in_ok-stop.ensures in
    let some : is_some c.in_ok-stop.stop ≡ true = search rules in
    let ran = run_stops c.args.self.now.core.performance c.args.self.now.faults c.args.lines.items _ c.in-Some.line _ c.in-Some.ensures.steps.0
    c.loop-line.self.core.performance c.loop-line.self.faults _ c.loop-line.invariant.run _ c.play_act.new.self.faults done.performance done.faults
    c.in_ok-stop.stop some done.stop in
    record {
      performance = ran.on;
      faults = ran.listed;
      stop = ran.stopped;
      boxes = λ bank at. at_done _ bank c.in_ok-stop.stop _ _ _ _ _ (done.boxes bank (c.loop-line.invariant.boxes bank at));
    }

pub returns : goal.returns
returns g c =
    let none : into_iter_items c.loop-line.line-iterator ≡ [] =
    nil_from_length _ (omega (arith, c.in-None.ensures.steps.0, c.loop-line.line-iterator.rest.ok.0)) in
    let ran = run_ends c.args.self.now.core.performance c.args.self.now.faults c.args.lines.items _ _ _ _ none c.loop-line.invariant.run in
    record {
      performance = ran.on;
      faults = ran.listed;
      stop = ran.stopped;
      boxes = λ bank at. at_over _ bank _ _ _ _ _ (c.loop-line.invariant.boxes bank at);
    }
