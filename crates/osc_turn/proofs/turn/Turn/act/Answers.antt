use Rattle.std.proofs.Common.{rules, ◌≡◌, ◌%◌, [], refl, sym, ap, subst, Option}
use Rattle.atomic_table.specs.declared.shared.Seat.{Seat}
use Rattle.osc_turn.specs.declared.view.View.{View}
use Rattle.osc_turn.specs.History.{texts}
use Rattle.osc_turn.specs.Passes.{view}
use Rattle.osc_turn.proofs.Acting.{Waits, waits_here, waits_on, took_turn}
use Rattle.osc_turn.proofs.turn.Turn.act.Goals as goal
use Rattle.osc_turn.proofs.turn.Turn.act.Goals.{else-word-eq0-via-then-word-eq0+else-take-word, else-word-eq0-via-else-word-eq0}

pub loop-init : goal.loop-init
loop-init g c = let e = c.into_seat-seat.ensures.1 in
    (refl, ap (λ m. m.1) e, subst (Waits (view c.args.pass)) (sym (ap (λ m. m.0) e)) (waits_here (view c.args.pass)), refl)

pub returns-then-take-word-clause-seen : goal.returns-then-take-word-clause-seen
returns-then-take-word-clause-seen g c = let waited = waits_on (view c.args.pass) _ _ _ c.loop.invariant.2 c.look-word.ensures.finds in
    let even : c.take.result % 2 ≡ 0 = search rules in
    let did = subst (λ (z : g.row.J.Denot). g.J.Job.did z c.run-ran.new.job (texts c.take.new.seat.me.0.seen) (texts c.run-ran.new.seat.me.0.seen))
    c.loop.invariant.3 c.run-ran.ensures.did in
    (took_turn g.J.Job.did c.args.job.now c.run-ran.new.job (view c.args.pass) _ _ _ _ _ _ c.into_seat-seat.ensures.2 waited even
    (c.take.ensures.tries.0 c.if-take-word.true).0 c.run-ran.ensures.gives c.of.ensures.1 did).seen

pub returns-then-take-word-clause-counted : goal.returns-then-take-word-clause-counted
returns-then-take-word-clause-counted g c = let waited = waits_on (view c.args.pass) _ _ _ c.loop.invariant.2 c.look-word.ensures.finds in
    let even : c.take.result % 2 ≡ 0 = search rules in
    let did = subst (λ (z : g.row.J.Denot). g.J.Job.did z c.run-ran.new.job (texts c.take.new.seat.me.0.seen) (texts c.run-ran.new.seat.me.0.seen))
    c.loop.invariant.3 c.run-ran.ensures.did in
    (took_turn g.J.Job.did c.args.job.now c.run-ran.new.job (view c.args.pass) _ _ _ _ _ _ c.into_seat-seat.ensures.2 waited even
    (c.take.ensures.tries.0 c.if-take-word.true).0 c.run-ran.ensures.gives c.of.ensures.1 did).counted

pub returns-then-take-word-clause-entries : goal.returns-then-take-word-clause-entries
returns-then-take-word-clause-entries g c = let waited = waits_on (view c.args.pass) _ _ _ c.loop.invariant.2 c.look-word.ensures.finds in
    let even : c.take.result % 2 ≡ 0 = search rules in
    let did = subst (λ (z : g.row.J.Denot). g.J.Job.did z c.run-ran.new.job (texts c.take.new.seat.me.0.seen) (texts c.run-ran.new.seat.me.0.seen))
    c.loop.invariant.3 c.run-ran.ensures.did in
    (took_turn g.J.Job.did c.args.job.now c.run-ran.new.job (view c.args.pass) _ _ _ _ _ _ c.into_seat-seat.ensures.2 waited even
    (c.take.ensures.tries.0 c.if-take-word.true).0 c.run-ran.ensures.gives c.of.ensures.1 did).entries

pub returns-then-take-word-clause-ran : goal.returns-then-take-word-clause-ran
returns-then-take-word-clause-ran g c = let waited = waits_on (view c.args.pass) _ _ _ c.loop.invariant.2 c.look-word.ensures.finds in
    let even : c.take.result % 2 ≡ 0 = search rules in
    let did = subst (λ (z : g.row.J.Denot). g.J.Job.did z c.run-ran.new.job (texts c.take.new.seat.me.0.seen) (texts c.run-ran.new.seat.me.0.seen))
    c.loop.invariant.3 c.run-ran.ensures.did in
    (took_turn g.J.Job.did c.args.job.now c.run-ran.new.job (view c.args.pass) _ _ _ _ _ _ c.into_seat-seat.ensures.2 waited even
    (c.take.ensures.tries.0 c.if-take-word.true).0 c.run-ran.ensures.gives c.of.ensures.1 did).ran_so

pub loop-preserved : goal.loop-preserved
loop-preserved g c = let inv = c.loop.invariant in elim c.else-word-eq0.branch [
  | else-word-eq0-via-then-word-eq0+else-take-word w ↦ let looked = w.take.ensures.tries.1 (search rules) in
      subst (λ (s : Seat (Option g.row.S.Denot) View). (s.table_id ≡ c.into_seat-seat.result.table_id) × (s.me.1 ≡ []) × Waits (view c.args.pass) s.me.0
      × (c.loop.job ≡ c.args.job.now)) (sym w.seat-is)
      (search rules, search rules, waits_on _ _ _ _ (waits_on _ _ _ _ inv.2 c.look-word.ensures.finds) looked.0, inv.3)
  | else-word-eq0-via-else-word-eq0 w ↦
      subst (λ (s : Seat (Option g.row.S.Denot) View). (s.table_id ≡ c.into_seat-seat.result.table_id) × (s.me.1 ≡ []) × Waits (view c.args.pass) s.me.0
      × (c.loop.job ≡ c.args.job.now)) (sym w.seat-is)
      (search rules, search rules, waits_on _ _ _ _ inv.2 c.look-word.ensures.finds, inv.3)
]
