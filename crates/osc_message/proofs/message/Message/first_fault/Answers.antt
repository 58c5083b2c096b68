use Rattle.std.proofs.Common.{◌≡◌, ℕ, Result, Err, rules, arith}
use Rattle.std.specs.Result.{result_err}
use Rattle.osc_atoms.specs.declared.fault.Fault.{Fault}
use Rattle.osc_message.specs.Reading.{limited_read}
use Rattle.osc_message.proofs.Checks.{within_of}
use Rattle.osc_message.proofs.message.Message.first_fault.Goals as goal

pub returns-in-Err-clause-within : goal.returns-in-Err-clause-within
returns-in-Err-clause-within c =
    let told : Result ℕ Fault = Err c.in-Err.fault in
    let same : result_err told ≡ result_err (limited_read c.args.max c.args.bytes.now) = search rules in
    within_of told c.args.max c.args.bytes.now (λ i. omega (arith, c.type_inv.bytes i)) same
