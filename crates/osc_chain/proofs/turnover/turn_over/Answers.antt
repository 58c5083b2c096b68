use Rattle.std.proofs.Common.{◌≡◌, ◌∙◌, true, nat_le, Ok, List, ap, subst, sym, rules}
use Rattle.osc_chain.specs.Rooms.{carried_most}
use Rattle.osc_chain.specs.Seams.{Reads}
use Rattle.osc_lanes.specs.Performs.{Part}
use Rattle.osc_relay.specs.declared.relay.Relay.{Relay}
use Rattle.osc_chain.proofs.Turning.{carries_so}
use Rattle.osc_chain.proofs.turnover.turn_over.Goals as goal

pub returns : goal.returns
returns g c =
    let made = c.in_ok-carry_on.ensures in
    let (bytes, script, is, read) = subst (Reads (λ lines. lines.items) c.deref.result.now) c.in-Ok.is c.in_ok-lines.ensures in
    let room : nat_le (carried_most c.args.caps) c.args.caps.recording ≡ true = search rules in
    record {
      turns = record {
        over = record {
          caps_are = made.caps;
          bounds_are = made.bounds;
          links_are = made.links;
          relays_are = ap (λ (part : Part (Relay _ _)). part.boxes) made.opening;
        };
        whole = made.whole;
        own = made.own;
        carries = carries_so _ _ g.L.Link.left g.L.Link.faults g.O.Outlet.sent g.O.Outlet.losses c.a_stage_turns_over.ensures c.args.caps c.args.staged
            c.in_ok-carry_on.field-0 c.deref.result.now script c.in-Ok.lines.items c.deref.ensures.value bytes is read made.caps room made.opening;
      };
    }
