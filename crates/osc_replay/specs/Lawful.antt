-- Inside the crate: events whose packets and addresses are lawful.
use Rattle.osc_atoms.specs.declared.limits.TheConstants.{MAX_PACKET}
use Rattle.std.specs.Prelude.{Bool, true, nat_lt, ◌^◌}
use Rattle.osc_pattern.specs.Addresses.{is_address}
use Rattle.osc_packet.specs.Reading.{is_packet}
use Rattle.osc_model.specs.Events.{Event, enrol, submit, add, remove, tick, release}

-- whether a caller can hand the event in
abbrev pub is_lawful : Event → Bool
is_lawful enrol = true
is_lawful (submit packet) = is_packet MAX_PACKET packet
is_lawful (add address) = is_address address
is_lawful (remove address) = is_address address
is_lawful (tick now) = nat_lt now (2 ^ 64)
is_lawful release = true
