use Rattle.std.proofs.Common.{◌≡◌, ◌+◌, ◌≤◌, ◌++◌, length, drop}
use Rattle.std.specs.List.{flat_map}
use Rattle.std.specs.Vec.{vec_len, vec_capacity}
use Rattle.osc_message.specs.Messages.{atom_of, AllFit}
use Rattle.osc_record.specs.Shown.{listed}
use Rattle.osc_record.proofs.message.append_atoms.Given as goal

-- the bytes so far and those of the arguments that are left are all, and there is room for these
abbrev pub invariant-loop-arg : goal.invariant-loop-arg
invariant-loop-arg l = record {
  fit : AllFit (listed (drop l.arg-index l.args));
  out : l.out.items ++ flat_map atom_of (listed (drop l.arg-index l.args)) ≡ l.initial.out.items ++ flat_map atom_of (listed l.args);
  small : length (flat_map atom_of (listed (drop l.arg-index l.args))) ≤ 1073741824;
  room : vec_len l.out + length (flat_map atom_of (listed (drop l.arg-index l.args))) ≤ vec_capacity l.out;
  capacity : vec_capacity l.initial.out ≤ vec_capacity l.out;
}
