use Rattle.std.proofs.Common.{◌≡◌, None, rules, arith}
use Rattle.std.proofs.lemmas.Bool.Decides.{nat_tests}
use Rattle.osc_packet.specs.Reading.{element_fault, message_fault_at}
use Rattle.osc_packet.proofs.Steps.{element_fault_is}
use Rattle.osc_packet.proofs.checks.check_packet.Goals as goal

pub returns-then-bytes-eq47 : goal.returns-then-bytes-eq47
returns-then-bytes-eq47 c =
    let one : message_fault_at 0 c.args.bytes.now ≡ element_fault 16 None 0 c.args.bytes.now
    = rw (element_fault_is 16 None 0 c.args.bytes.now) (grind (arith, nat_tests)) in
    search (rules, one)
