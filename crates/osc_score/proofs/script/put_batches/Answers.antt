use Rattle.std.proofs.Common.{◌<◌, length, arith, rules}
use Rattle.std.proofs.lemmas.Bool.Decides.{nat_tests}
use Rattle.osc_score.proofs.Batching.{batch_off}
use Rattle.osc_score.proofs.script.put_batches.Goals as goal

pub loop-rest-preserved : goal.loop-rest-preserved
loop-rest-preserved c =
    let some : 0 < length c.loop-rest.rest.now = grind (arith, nat_tests) in
    batch_off c.loop-rest.rest.now c.split_at.result.0.now c.split_at.result.1.now c.min.result c.loop-rest.script.items c.put_batch.new.script.items _
    some (search rules) c.split_at.ensures.front c.split_at.ensures.back c.in_ok-put_batch.ensures c.loop-rest.invariant
