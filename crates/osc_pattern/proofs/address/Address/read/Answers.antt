use Rattle.std.proofs.Common.{sym}
use Rattle.osc_pattern.proofs.AddressLaws.{address_fault-none, IsAddress-read}
use Rattle.osc_pattern.proofs.address.Address.read.Goals as goal

pub returns-in-Some-clause-complete : goal.returns-in-Some-clause-complete
returns-in-Some-clause-complete c = λ lawful. (let none = IsAddress-read c.args.bytes.now lawful in let some = c.in-Some.ensures in absurd (cc))

pub returns-in-Ok-clause-sound : goal.returns-in-Ok-clause-sound
returns-in-Ok-clause-sound c = λ ok. address_fault-none c.args.bytes.now (sym c.in_default.ensures)
