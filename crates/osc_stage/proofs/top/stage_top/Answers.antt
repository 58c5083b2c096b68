use Rattle.std.proofs.Common.{refl}
use Rattle.osc_ends.specs.Sinks.{change}
use Rattle.osc_links.specs.Ticks.{clock_read}
use Rattle.osc_stage.proofs.Hosting.{staged_so, history_so, cause_so, written_on}
use Rattle.osc_stage.proofs.top.stage_top.Goals as goal

pub returns-clause-staged : goal.returns-clause-staged
returns-clause-staged g c =
    let done = c.settle.ensures in
    let clock = clock_read g.C.Clock.left g.C.Clock.faults c.args.clock.now c.run_links.new.clock in
    staged_so _ _ g.L.Link.left g.L.Link.faults c.args.stage clock c.in_ok-hosted.hosted c.in_ok-hosted.ensures.hosts c.settle.result done.recording
    done.relays done.opening done.links done.faults done.ended

pub returns-clause-one_history : goal.returns-clause-one_history
returns-clause-one_history g c =
    let done = c.settle.ensures in
    let clock = clock_read g.C.Clock.left g.C.Clock.faults c.args.clock.now c.run_links.new.clock in
    let rec_change = change g.R.Sink c.args.rec.now c.settle.new.rec in
    history_so _ _ g.L.Link.left g.L.Link.faults c.args.stage clock c.in_ok-hosted.hosted c.in_ok-hosted.ensures.hosts g.O.Outlet.sent g.O.Outlet.losses
    rec_change (λ relay. relay.relayed) (λ caps history told address room sent losses legal hears few has.
    c.what_was_sent_is_what_the_history_called.ensures caps history told address room sent losses legal hears few has)
    (record {
      all = c.a_legal_history_is_recordable.ensures.all;
      within = c.a_legal_history_is_recordable.ensures.within;
      again = c.a_written_entry_is_read_again.ensures;
    }) (λ relay. refl)
    c.settle.result done.recording done.relays (written_on c.settle.result _ c.args.rec.now _ done.written c.in_ok-hosted.ensures.grown)

pub returns-clause-cause : goal.returns-clause-cause
returns-clause-cause g c =
    let done = c.settle.ensures in
    let clock = clock_read g.C.Clock.left g.C.Clock.faults c.args.clock.now c.run_links.new.clock in
    let rec_change = change g.R.Sink c.args.rec.now c.settle.new.rec in
    cause_so _ _ g.L.Link.left g.L.Link.faults c.args.stage clock c.in_ok-hosted.hosted c.in_ok-hosted.ensures.hosts rec_change c.settle.result done.links
    done.ended (written_on c.settle.result _ c.args.rec.now _ done.written c.in_ok-hosted.ensures.grown)
