use Rattle.std.proofs.Common.{◌≡◌, ℕ, List, map, Some, ap, ◌∙◌, subst, arith}
use Rattle.std.specs.Prelude.{count_by}
use Rattle.std.specs.Option.{option_map}
use Rattle.std.specs.Coded.{coded_ℕ, coded_list, coded_option}
use Rattle.std.proofs.lemmas.Option.{same_Some}
use Rattle.std.proofs.Math.Logic.{∥∥₁_elim, ∥∥₁_map}
use base.Stored.{Coded-set}
use Rattle.osc_method.specs.Heard.{last_of}
use Rattle.osc_relay.specs.Relayed.{relayed}
use Rattle.osc_relay.specs.Sent.{calls_text, Relaying, is_failed, Relays, HasRelayed}
use Rattle.osc_relay.proofs.Apart.{called_alike}
use Rattle.osc_relay.proofs.Relaying.{all_sent}
use Rattle.osc_relay.proofs.laws.what_was_sent_is_what_was_called.Goals as goal

pub returns-clause-each : goal.returns-clause-each
returns-clause-each c address room keep calls sent losses short few has =
    ∥∥₁_map has (λ (one : HasRelayed address room keep (Some (last_of keep (calls_text calls))) sent losses).
    subst (λ (messages : List (List ℕ)). Relays address room messages sent losses)
    (called_alike keep calls one.calls short one.short few
    (same_Some (last_of keep (calls_text calls)) (last_of keep (calls_text one.calls)) one.bytes)) one.relays)

pub returns-clause-all : goal.returns-clause-all
returns-clause-all c address room messages sent relays =
    ∥∥₁_elim relays (Coded-set (coded_option (coded_list (coded_list coded_ℕ))) _ _) (λ (one : Relays address room messages sent 0).
    let none : count_by (λ (one : Relaying). is_failed one.sending) one.relayings ≡ 0 = omega (arith, one.lost) in
    one.datagrams ∙ ap (λ (l : List (List ℕ)). option_map (λ (was : List (List ℕ)). l) sent)
    (all_sent address one.relayings none ∙ ap (map (relayed address)) one.each))
