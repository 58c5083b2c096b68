use Rattle.std.proofs.Common.{rules, ◌≡◌, ◌%◌, sym, ap, subst}
use Rattle.osc_turn.specs.Passes.{view}
use Rattle.osc_turn.proofs.Acting.{Waits, waits_here, waits_on, took_turn}
use Rattle.osc_turn.proofs.turn.Turn.try_act.Goals as goal

pub returns-clause-entries : goal.returns-clause-entries
returns-clause-entries g c = let here = subst (Waits (view c.args.pass)) (sym (ap (λ m. m.0) c.into_seat-seat.ensures.1)) (waits_here (view c.args.pass)) in
    let waited = waits_on (view c.args.pass) _ _ _ here c.look-word.ensures.finds in let same : c.take-found.result ≡ c.look-word.result = search rules in
    let even : c.take-found.result % 2 ≡ 0 = search rules in
    (took_turn g.J.Job.did c.args.job.now c.run-ran.new.job
    (view c.args.pass) c.look-word.new.seat.me.0 c.take-found.new.seat.me.0 c.run-ran.new.seat.me.0 _ c.take-found.result _ c.into_seat-seat.ensures.2
    waited even (c.take-found.ensures.tries.0 same).0 c.run-ran.ensures.gives c.of-2.ensures.1 c.run-ran.ensures.did).entries

pub returns-clause-ran : goal.returns-clause-ran
returns-clause-ran g c = let here = subst (Waits (view c.args.pass)) (sym (ap (λ m. m.0) c.into_seat-seat.ensures.1)) (waits_here (view c.args.pass)) in
    let waited = waits_on (view c.args.pass) _ _ _ here c.look-word.ensures.finds in let same : c.take-found.result ≡ c.look-word.result = search rules in
    let even : c.take-found.result % 2 ≡ 0 = search rules in
    (took_turn g.J.Job.did c.args.job.now c.run-ran.new.job
    (view c.args.pass) c.look-word.new.seat.me.0 c.take-found.new.seat.me.0 c.run-ran.new.seat.me.0 _ c.take-found.result _ c.into_seat-seat.ensures.2
    waited even (c.take-found.ensures.tries.0 same).0 c.run-ran.ensures.gives c.of-2.ensures.1 c.run-ran.ensures.did).ran_so
