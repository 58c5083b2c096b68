-- What stands at the place is read, and what is read stands there.
use Rattle.std.proofs.Common.{◌+◌, length, arith, length-drop}
use Rattle.osc_atoms.specs.Atoms.{string}
use Rattle.osc_atoms.specs.Standing.{StartsWithString, NamesStringFault}
use Rattle.osc_atoms.proofs.Outcomes.{ok_stands, err_names, ok_is_given, err_is_given}
use Rattle.osc_atoms.proofs.Strings.{string_again, string_fault_again, string_seen}
use Rattle.osc_atoms.proofs.string.string_at.Goals as goal

pub returns-clause-ok : goal.returns-clause-ok
returns-clause-ok c =
    ok_stands (StartsWithString c.args.bytes.now c.args.at) (λ text. c.args.at + length (string text)) (NamesStringFault c.args.bytes.now c.args.at) _ _
    (string_seen c.args.bytes.now c.args.at (omega (arith, length-drop c.args.at c.args.bytes.now))) c.read_string.ensures

pub returns-clause-complete : goal.returns-clause-complete
returns-clause-complete c = λ text stands. ok_is_given _ _ text _ (string_again c.args.bytes.now c.args.at text stands) c.read_string.ensures

pub returns-clause-fault : goal.returns-clause-fault
returns-clause-fault c =
    err_names (StartsWithString c.args.bytes.now c.args.at) (λ text. c.args.at + length (string text)) (NamesStringFault c.args.bytes.now c.args.at) _ _
    (string_seen c.args.bytes.now c.args.at (omega (arith, length-drop c.args.at c.args.bytes.now))) c.read_string.ensures

pub returns-clause-exact : goal.returns-clause-exact
returns-clause-exact c = λ fault names. err_is_given _ _ fault (string_fault_again c.args.bytes.now c.args.at fault names) c.read_string.ensures
