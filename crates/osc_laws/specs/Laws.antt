-- The four laws of a history.
use Rattle.std.specs.Prelude.{List}
use Rattle.std.specs.List.{AllByRecursion}
use Rattle.osc_model.specs.Limits.{Limits}
use Rattle.osc_model.specs.State.{opening}
use Rattle.osc_model.specs.Events.{Entry}
use Rattle.osc_model.specs.History.{after, invocations}
use Rattle.osc_laws.specs.Consecutive.{AreConsecutive}
use Rattle.osc_laws.specs.Exactly.{IsInTime, AreExact}
use Rattle.osc_laws.specs.Once.{AreReleasedOnce}

-- What a musician can rely on. The messages of a bundle are called one after another and in order;
-- none before its tag by the clock that was handed in; on exactly the methods that match when it is
-- released; and each accepted unit once.
pub record KeepsTheLaws (caps : Limits) (history : List Entry) : Type 0 where
  pub consecutive : AreConsecutive (invocations (opening caps) history)
  pub in_time : AllByRecursion (IsInTime history) (invocations (opening caps) history)
  pub exact : AreExact history (invocations (opening caps) history)
  pub once : AreReleasedOnce caps.late history (after (opening caps) history).queue
