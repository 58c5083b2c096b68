use Rattle.std.proofs.Common.{◌≡◌, None}
use Rattle.std.specs.List.{fold}
use Rattle.std.specs.Option.{option_map}
use Rattle.osc_core.specs.Invoked.{calls_left, last_calls}
use Rattle.osc_uses.specs.Host.{later_message}
use Rattle.osc_uses.proofs.host_round.last_message.Given as goal

-- whatever the calls that are left make of what was found, all of them make of nothing
abbrev pub invariant-loop-called : goal.invariant-loop-called
invariant-loop-called g l = record {
  can : (goal.iterator-loop-called g).can_next l.called-iterator;
  finite : (goal.iterator-loop-called g).is_finite l.called-iterator;
  found : fold (later_message l.id) (option_map (λ message. message.now) l.last) (calls_left l.called-iterator)
      ≡ fold (later_message l.id) None (last_calls l.core.performance);
}
