-- Limits and addresses in C.
use Rattle.std.specs.Prelude.{Bool, true, false, ℕ, Option, Some, None}
use Rattle.osc_pattern.specs.declared.faults.AddressFault.{AddressFault}
use Rattle.osc_pattern.specs.declared.faults.AddressFault.TheVariants.{NoSlash, EmptyName, BadByte}
use Rattle.osc_pattern.specs.declared.faults.AddressFault.TheVariants.{NameLong, AddressLong}
use Rattle.osc_pattern.specs.declared.faults.AddressFault.TheVariants.{TooManyParts, NoMemory}
use Rattle.osc_model.specs.declared.late.Late.{Late}
use Rattle.osc_model.specs.declared.late.Late.TheVariants.{Deliver, Discard}
use Rattle.osc_model.specs.Limits as model
use Rattle.osc_model.specs.History.{Performance}
use Rattle.osc_c.specs.declared.answer.Answer.{Answer}
use Rattle.osc_c.specs.declared.limits.Limits.{Limits}
use Rattle.osc_c.specs.Answers.{bare}

-- what becomes of late units
abbrev pub late_of : Bool → Late
late_of true = Discard
late_of false = Deliver

-- the limits
abbrev pub caps_of : Limits → model.Limits
caps_of l =
    model.limits_of l.units l.blocks l.methods l.nodes l.callers l.recording
    (late_of l.discards_late)

-- a fault of an address, or out of memory
abbrev pub address_number : AddressFault → Answer
address_number NoSlash = record (bare 13) { number = 1 }
address_number EmptyName = record (bare 13) { number = 2 }
address_number BadByte = record (bare 13) { number = 3 }
address_number NameLong = record (bare 13) { number = 4 }
address_number AddressLong = record (bare 13) { number = 5 }
address_number TooManyParts = record (bare 13) { number = 6 }
address_number NoMemory = bare 15

-- what an opening is answered, by what is open already and by the first limit outside its range
abbrev pub open_answered : Option Performance → Option ℕ → Answer
open_answered (Some performance) fault = bare 17
open_answered None (Some field) = record (bare 14) { number = field }
open_answered None None = bare 0
