use Rattle.osc_life.specs.Works.{PlaysOn, CanGoOn}
use Rattle.osc_life.proofs.beside.go_on.Given as goal

abbrev pub invariant-loop : goal.invariant-loop
invariant-loop g l = record {
  plays : PlaysOn l.desk.live.now g.T.Meanwhile.rounds l.initial.on l.on l.initial.meanwhile l.meanwhile l.fn.caller l.caller;
  goes : CanGoOn l.desk.live.now g.T.Meanwhile.rounds l.on l.meanwhile l.caller;
}
