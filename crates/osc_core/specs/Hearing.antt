-- Inside the crate: that boxes have heard a history has one proof at most, so a server can keep it.
use Rattle.std.specs.Prelude.{ℕ, List, Option}
use Rattle.std.specs.List.{AllByRecursion-prop}
use Rattle.std.specs.Coded.{coded_ℕ, coded_list, coded_option}
use base.Stored.{Coded-set}
use Rattle.osc_model.specs.Events.{Invocation}
use Rattle.osc_model.specs.Heard.{Told}
use Rattle.osc_model.specs.History.{HasHeard, Performance, HaveHeard, invoked_in}

texts_set : IsSet (Option (List ℕ))
texts_set = Coded-set (coded_option (coded_list coded_ℕ))

ids_set : IsSet (List ℕ)
ids_set = Coded-set (coded_list coded_ℕ)

pub HasHeard-prop : (invocations : List Invocation) (told : Told)
    → IsProp (HasHeard invocations told)
HasHeard-prop invocations told = texts_set _ _

pub HaveHeard-prop : (performance : Performance) (boxes : List Told)
    → IsProp (HaveHeard performance boxes)
HaveHeard-prop performance boxes x y = λ i. record {
  ids = ids_set _ _ x.ids y.ids i;
  heard = AllByRecursion-prop _ (HasHeard-prop (invoked_in performance)) boxes x.heard y.heard i;
}
