use Rattle.std.proofs.Common.{◌≡◌, Some, None, Err, refl, ap, ◌∙◌, arith, rules}
use Rattle.std.proofs.lemmas.Bool.{false≢true}
use Rattle.osc_atoms.specs.declared.fault.Fault.{Fault}
use Rattle.osc_packet.specs.Reading.{packet_fault}
use Rattle.osc_packet.proofs.Found.{packet_found}
use Rattle.osc_packet.proofs.Whole.{told_first, refused_exact, refused_first, accepted_first}
use Rattle.osc_packet.proofs.packet.Packet.check.Goals as goal

pub returns-in_err-check_packet-clause-exact : goal.returns-in_err-check_packet-clause-exact
returns-in_err-check_packet-clause-exact c =
    let fault : Fault = c.in_err-check_packet.field-0.0 in
    let is : c.from_residual.result ≡ Err fault = search rules in
    let read : packet_fault c.args.max c.args.bytes.now ≡ Some fault = search rules in
    rw is (
      λ e. absurd (false≢true e),
      λ packet.
          absurd (refused_exact c.of_messages.ensures c.args.max c.args.bytes.now (λ i. omega (arith, c.type_inv.bytes i)) c.requires fault read packet),
    )

pub returns-in_err-check_packet-clause-fault : goal.returns-in_err-check_packet-clause-fault
returns-in_err-check_packet-clause-fault c =
    let fault : Fault = c.in_err-check_packet.field-0.0 in
    let is : c.from_residual.result ≡ Err fault = search rules in
    let read : packet_fault c.args.max c.args.bytes.now ≡ Some fault = search rules in
    rw is (told_first c.of_messages.ensures c.args.max c.args.bytes.now (λ i. omega (arith, c.type_inv.bytes i)) fault read)

pub returns-in_err-check_packet-clause-first : goal.returns-in_err-check_packet-clause-first
returns-in_err-check_packet-clause-first c other found =
    let fault : Fault = c.in_err-check_packet.field-0.0 in
    let is : c.from_residual.result ≡ Err fault = search rules in
    let read : packet_fault c.args.max c.args.bytes.now ≡ Some fault = search rules in
    is ∙ ap (λ (f : Fault). Err f)
    (refused_first c.of_messages.ensures c.args.max c.args.bytes.now (λ i. omega (arith, c.type_inv.bytes i)) c.requires fault other read found)

pub returns-clause-exact : goal.returns-clause-exact
returns-clause-exact c =
    let read : packet_fault c.args.max c.args.bytes.now ≡ None = search rules in
    (λ e. packet_found c.of_messages.ensures c.args.max c.args.bytes.now (λ i. omega (arith, c.type_inv.bytes i)) read, λ packet. refl)

pub returns-clause-first : goal.returns-clause-first
returns-clause-first c other found =
    let read : packet_fault c.args.max c.args.bytes.now ≡ None = search rules in
    absurd (accepted_first c.of_messages.ensures c.args.max c.args.bytes.now (λ i. omega (arith, c.type_inv.bytes i)) c.requires other read found)
