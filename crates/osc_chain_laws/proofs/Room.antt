-- How much room is enough for what carries a history on.
use Rattle.std.proofs.Common.{◌≡◌, ◌+◌, ◌*◌, ◌≤◌, List, length, ap, arith}
use Rattle.osc_model.specs.Counts.{queued_blocks}
use Rattle.osc_model.specs.Limits.{Limits}
use Rattle.osc_model.specs.State.{State, opening}
use Rattle.osc_model.specs.Events.{Entry}
use Rattle.osc_model.specs.History.{IsSound, Legal, after}
use Rattle.osc_model.proofs.Recordable.{after_caps}
use Rattle.osc_carry.specs.Carried.{carried_size}

-- what is known of servers, and of what carries them on
abbrev pub AreSound : Type 0
AreSound = (caps : Limits) (history : List Entry) → Legal caps history → IsSound (after (opening caps) history)

abbrev pub IsSmall : Type 0
IsSmall = (caps : Limits) (history : List Entry) → Legal caps history
    → carried_size (after (opening caps) history)
    ≤ 108 + 299 * length (after (opening caps) history).methods + 119 * length (after (opening caps) history).queue
    + 64 * queued_blocks (after (opening caps) history).queue

pub limits_enough : AreSound → IsSmall → (caps : Limits) (history : List Entry) → Legal caps history
    → carried_size (after (opening caps) history) ≤ 108 + 299 * caps.methods + 119 * caps.units + 64 * caps.blocks
limits_enough sound small caps history legal =
    let state : State = after (opening caps) history in
    let is : IsSound state = sound caps history legal in
    let few = small caps history legal in
    let same : state.caps ≡ caps = after_caps (opening caps) history in
    let methods : length state.methods ≤ state.caps.methods = (is.methods).few_methods in
    let units : length state.queue ≤ state.caps.units = is.few_units in
    let blocks : queued_blocks state.queue ≤ state.caps.blocks = is.few_blocks in
    let m : state.caps.methods ≡ caps.methods = ap (λ (c : Limits). c.methods) same in
    let u : state.caps.units ≡ caps.units = ap (λ (c : Limits). c.units) same in
    let b : state.caps.blocks ≡ caps.blocks = ap (λ (c : Limits). c.blocks) same in
    omega (arith, few, methods, units, blocks, m, u, b)
