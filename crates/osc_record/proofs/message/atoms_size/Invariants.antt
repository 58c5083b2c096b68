use Rattle.std.proofs.Common.{◌≡◌, ◌+◌, length, drop}
use Rattle.std.specs.List.{flat_map}
use Rattle.osc_message.specs.Messages.{atom_of}
use Rattle.osc_record.specs.Shown.{listed}
use Rattle.osc_record.proofs.message.atoms_size.Given as goal

-- the size so far and that of the arguments that are left are the size of all
abbrev pub invariant-loop-arg : goal.invariant-loop-arg
invariant-loop-arg l = l.size + length (flat_map atom_of (listed (drop l.arg-index l.args))) ≡ length (flat_map atom_of (listed l.args))
