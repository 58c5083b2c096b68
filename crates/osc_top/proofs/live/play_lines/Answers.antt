use Rattle.std.proofs.Common.{◌≡◌, ◌<◌, ◌≤◌, true, map, length, refl, sym, subst, ◌∙◌, arith, rules}
use Rattle.osc_core.specs.Ids.{is_ascending}
use Rattle.osc_words.specs.declared.command.LiveCommand.TheVariants as live
use Rattle.osc_script.specs.Adds.{count_adds}
use Rattle.osc_top.proofs.LiveEnds.{ends_short, lanes_end, line_decided, links_end, both_played}
use Rattle.osc_top.proofs.Staged.{lanes_ascending, links_ascending}
use Rattle.osc_ends.specs.Sinks.{change}
use Rattle.osc_growing.proofs.Growths.{grown_none, grown_within}
use Rattle.osc_top.proofs.live.play_lines.Goals as goal

pub returns-then-len-need-clause-ends : goal.returns-then-len-need-clause-ends
returns-then-len-need-clause-ends g c = λ script is.
    let have : c.len-then-len-need.result ≡ length c.args.performers.bank.items = search rules in
    let need : c.count_adds-need.result ≡ count_adds c.args.plan.lines.items = search rules in
    let few : c.len-then-len-need.result < c.count_adds-need.result = search rules in
    ends_short _ _ script _ _ _ c.args.plan.lines.items is _ c.bank_short-status.result c.count_adds-need.result c.len-then-len-need.result
    c.unplayed.ensures.status c.bank_short-status.ensures have need few

pub returns-then-len-need-clause-sink : goal.returns-then-len-need-clause-sink
returns-then-len-need-clause-sink g c = λ five.
    absurd (line_decided 8 _ _ _ _ c.bank_short-status.ensures (λ eight. omega (arith, eight)) c.unplayed.ensures.status five)

pub returns-in-Ok-clause-ends : goal.returns-in-Ok-clause-ends
returns-in-Ok-clause-ends g c = λ script is.
    let enough : count_adds c.args.plan.lines.items ≤ length c.args.performers.bank.items = search rules in
    let staged = c.in-Ok.ensures in
    lanes_end _ _ _ _ c.args.plan.command c.live_limits.result _ script _ _ _ _ _ _ _ _ _ _ c.args.plan.lines.items _ _ _ is c.end.ensures.heard
    c.end.ensures.left enough c.in-Lanes.caps c.in-Lanes.watch c.in-Lanes.is c.live_limits.ensures staged
    (c.end.ensures.ends c.args.rec.now c.live_limits.result staged.history
    (grown_none (g.R.Sink.held c.args.rec.now) (g.R.Sink.faults c.args.rec.now) c.in-Ok.played.recorded.bytes.items) staged.recording_of)

pub returns-in-Ok-stage_links-clause-ends : goal.returns-in-Ok-stage_links-clause-ends
returns-in-Ok-stage_links-clause-ends g c = λ script is.
    let enough : count_adds c.args.plan.lines.items ≤ length c.args.performers.bank.items = search rules in
    let staged = c.in-Ok-stage_links.ensures.staged in
    let grown = c.in-Ok-stage_links.ensures.grown in
    let end = c.end-in-Ok-stage_links.ensures in
    let limits = c.live_limits-caps.result in
    links_end _ _ _ _ c.args.plan.command limits _ script _ _ _ _ _ _ _ _ _ _ c.args.plan.lines.items _ _ _ is end.heard end.left enough
    c.in-Serve.transport c.in-Serve.port c.in-Serve.links c.in-Serve.count c.in-Serve.idle c.in-Serve.caps c.in-Serve.is c.live_limits-caps.ensures staged
    (end.ends c.args.rec.now limits staged.history grown staged.recording_of)

pub end-requires-in-Ok-stage_links-clause-within : goal.end-requires-in-Ok-stage_links-clause-within
end-requires-in-Ok-stage_links-clause-within g c =
    grown_within c.in-Ok-stage_links.growth (change g.R.Sink c.args.rec.now c.stage_links.new.rec) c.in-Ok-stage_links.played.recorded.bytes.items
    c.in-Ok-stage_links.ensures.grown

pub returns-in-Ok-clause-back : goal.returns-in-Ok-clause-back
returns-in-Ok-clause-back g c =
    let staged = c.in-Ok.ensures in
    let end = c.end.ensures in
    let none = grown_none (g.R.Sink.held c.args.rec.now) (g.R.Sink.faults c.args.rec.now) c.in-Ok.played.recorded.bytes.items in
    let both = end.ends c.args.rec.now c.live_limits.result staged.history none staged.recording_of in
    record {
      ascending =
          subst (λ l. is_ascending (map (λ one. one.0) l) ≡ true) (sym end.heard)
          (lanes_ascending _ _ _ _ _ _ _ _ _ _ _ staged.played);
      none_heard = λ unplayed. absurd (both_played _ _ _ _ _ _ both unplayed);
      all_left = λ unplayed. absurd (both_played _ _ _ _ _ _ both unplayed);
    }

pub returns-in-Ok-clause-alone : goal.returns-in-Ok-clause-alone
returns-in-Ok-clause-alone g c =
    let staged = c.in-Ok.ensures in
    let none = grown_none (g.R.Sink.held c.args.rec.now) (g.R.Sink.faults c.args.rec.now) c.in-Ok.played.recorded.bytes.items in
    let both = c.end.ensures.ends c.args.rec.now c.live_limits.result staged.history none staged.recording_of in
    record {
      unrecorded = λ unplayed. absurd (both_played _ _ _ _ _ _ both unplayed);
      unserved = λ unplayed. absurd (both_played _ _ _ _ _ _ both unplayed);
      lanes_serve_none = λ caps watch lanes. (refl, refl);
    }

pub returns-in-Ok-stage_links-clause-back : goal.returns-in-Ok-stage_links-clause-back
returns-in-Ok-stage_links-clause-back g c =
    let staged = c.in-Ok-stage_links.ensures.staged in
    let grown = c.in-Ok-stage_links.ensures.grown in
    let end = c.end-in-Ok-stage_links.ensures in
    let both = end.ends c.args.rec.now c.live_limits-caps.result staged.history grown staged.recording_of in
    record {
      ascending =
          subst (λ l. is_ascending (map (λ one. one.0) l) ≡ true) (sym end.heard)
          (links_ascending _ _ _ _ _ _ _ _ _ _ _ _ _ _ _ _ staged.played);
      none_heard = λ unplayed. absurd (both_played _ _ _ _ _ _ both unplayed);
      all_left = λ unplayed. absurd (both_played _ _ _ _ _ _ both unplayed);
    }

pub returns-in-Ok-stage_links-clause-alone : goal.returns-in-Ok-stage_links-clause-alone
returns-in-Ok-stage_links-clause-alone g c =
    let staged = c.in-Ok-stage_links.ensures.staged in
    let grown = c.in-Ok-stage_links.ensures.grown in
    let end = c.end-in-Ok-stage_links.ensures in
    let both = end.ends c.args.rec.now c.live_limits-caps.result staged.history grown staged.recording_of in
    record {
      unrecorded = λ unplayed. absurd (both_played _ _ _ _ _ _ both unplayed);
      unserved = λ unplayed. absurd (both_played _ _ _ _ _ _ both unplayed);
      lanes_serve_none =
          λ caps watch lanes.
          let clash : live.Serve c.in-Serve.transport c.in-Serve.port c.in-Serve.links c.in-Serve.count c.in-Serve.idle c.in-Serve.caps
          ≡ live.Lanes caps watch =
          sym c.in-Serve.is ∙ lanes in
          absurd (cc);
    }
