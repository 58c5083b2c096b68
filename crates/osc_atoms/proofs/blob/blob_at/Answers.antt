-- What stands at the place is read, and what is read stands there.
use Rattle.std.proofs.Common.{◌+◌, length, arith, length-drop}
use Rattle.osc_atoms.specs.Atoms.{blob}
use Rattle.osc_atoms.specs.Standing.{StartsWithBlob, NamesBlobFault}
use Rattle.osc_atoms.proofs.Outcomes.{ok_stands, err_names, ok_is_given, err_is_given}
use Rattle.osc_atoms.proofs.Blobs.{blob_again, blob_fault_again, blob_seen}
use Rattle.osc_atoms.proofs.blob.blob_at.Goals as goal

pub returns-clause-ok : goal.returns-clause-ok
returns-clause-ok c =
    ok_stands (StartsWithBlob c.args.bytes.now c.args.at) (λ content. c.args.at + length (blob content)) (NamesBlobFault c.args.bytes.now c.args.at) _ _
    (blob_seen c.args.bytes.now c.args.at (λ i. omega (arith, c.type_inv.bytes i)) (omega (arith, length-drop c.args.at c.args.bytes.now)))
    c.read_blob.ensures

pub returns-clause-complete : goal.returns-clause-complete
returns-clause-complete c = λ content stands. ok_is_given _ _ content _ (blob_again c.args.bytes.now c.args.at content stands) c.read_blob.ensures

pub returns-clause-fault : goal.returns-clause-fault
returns-clause-fault c =
    err_names (StartsWithBlob c.args.bytes.now c.args.at) (λ content. c.args.at + length (blob content)) (NamesBlobFault c.args.bytes.now c.args.at) _ _
    (blob_seen c.args.bytes.now c.args.at (λ i. omega (arith, c.type_inv.bytes i)) (omega (arith, length-drop c.args.at c.args.bytes.now)))
    c.read_blob.ensures

pub returns-clause-exact : goal.returns-clause-exact
returns-clause-exact c =
    λ fault names. err_is_given _ _ fault (blob_fault_again c.args.bytes.now c.args.at fault (omega (arith, length-drop c.args.at c.args.bytes.now)) names)
    c.read_blob.ensures
