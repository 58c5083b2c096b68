use Rattle.std.proofs.Common.{◌+◌, List, ℕ, length, sym, ap, subst, ◌∙◌}
use Rattle.osc_packet.specs.Units.{TimedUnit}
use Rattle.osc_pool.specs.Holding.{blocks_for, used_blocks}
use Rattle.osc_queue.specs.Timed.{Item}
use Rattle.osc_core.specs.Frames.{messages_in}
use Rattle.osc_core.specs.Views.{AreKept}
use Rattle.osc_core.specs.declared.store.Stored.{Stored}
use Rattle.osc_core.proofs.Waits.{is_alone, settled}
use Rattle.osc_core.proofs.backlog.Backlog.settle.Goals as goal

pub returns-clause-waiting : goal.returns-clause-waiting
returns-clause-waiting c =
    let old = c.args.self.now in
    let lone = c.in-Some.lone in
    let put = c.put_framed-stored in
    let alone = is_alone old.lone lone old.bytes.items old.queue.items old.queue.limit (length old.store) c.in-Some.is c.requires.alone in
    let bytes = c.as_slice.ensures.value in
    let is = settled lone old.bytes.items old.store put.new.self old.queue.items old.queue.limit (length old.store) put.result alone c.requires.kept
    put.ensures.stored (put.ensures.value ∙ ap (λ (l : List ℕ). record { tag = lone.tag; messages = messages_in l }) bytes)
    (put.ensures.used ∙ ap (λ (l : List ℕ). used_blocks old.store + blocks_for (length l)) bytes) in
    record {
      kept = subst (λ (l : List (Item Stored)). AreKept put.new.self l) (sym c.enter.ensures.items) is.kept;
      alone = tt;
      room = c.requires.room;
    }
