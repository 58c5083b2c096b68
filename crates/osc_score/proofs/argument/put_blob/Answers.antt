use Rattle.osc_score.proofs.Arguments.{blob_few}
use Rattle.osc_score.proofs.argument.put_blob.Goals as goal

pub put_argument-requires-clause-small : goal.put_argument-requires-clause-small
put_argument-requires-clause-small c = rw c.deref.ensures.value (blob_few c.args.value.now c.in-Ok.bytes.items c.in-Ok.ensures.ok c.requires)
