use Rattle.std.proofs.Common.{◌≡◌, ◌<◌, ℕ, List, length, get_or, refl, sym, ◌∙◌, subst, min, arith}
use Rattle.std.proofs.lemmas.Bool.{eqb-false}
use Rattle.osc_pool.specs.Paths.{filled_up}
use Rattle.osc_pool.proofs.Reached.{length-filled, filled_path}
use Rattle.osc_pool.proofs.Writing.{IsWriting, writing_inside, writing_more, writing_others}
use Rattle.osc_pool.proofs.links.write.Goals as goal

pub put-requires-clause-room : goal.put-requires-clause-room
put-requires-clause-room c =
    let some = eqb-false (length c.loop-rest.rest.now) 0 (sym c.is_empty.ensures ∙ c.loop-rest-test.true) in
    let is = c.loop-rest.invariant in
    let limit = length c.args.next.now in
    let path = filled_path limit c.args.blocks.now.items c.args.next.now _ c.args.first c.requires.linked c.requires.path in
    omega (arith, writing_inside is.writing path (omega arith), length-filled limit _ is.few, c.requires.room, is.capacity)

pub bounds-next-block : goal.bounds-next-block
bounds-next-block c =
    let some = eqb-false (length c.loop-rest.rest.now) 0 (sym c.is_empty.ensures ∙ c.loop-rest-test.true) in
    let is = c.loop-rest.invariant in
    let limit = length c.args.next.now in
    let path = filled_path limit c.args.blocks.now.items c.args.next.now _ c.args.first c.requires.linked c.requires.path in
    omega (arith, writing_inside is.writing path (omega arith), length-filled limit _ is.few)

pub loop-rest-preserved : goal.loop-rest-preserved
loop-rest-preserved c =
    let some = eqb-false (length c.loop-rest.rest.now) 0 (sym c.is_empty.ensures ∙ c.loop-rest-test.true) in
    let is = c.loop-rest.invariant in
    let limit = length c.args.next.now in
    let piece = c.split_at.result.0.now in
    let others = c.split_at.result.1.now in
    let path = filled_path limit c.args.blocks.now.items c.args.next.now _ c.args.first c.requires.linked c.requires.path in
    let inside : c.loop-rest.block < limit =
    omega (arith, writing_inside is.writing path (omega arith), length-filled limit _ is.few) in
    let put = c.put.ensures.put limit inside is.few in
    let long : length piece ≡ min 64 (length c.loop-rest.rest.now) = omega (arith, c.min.ensures, c.split_at.ensures.front_len) in
    record {
      writing = subst (λ (now : List (List ℕ)). IsWriting (filled_up limit c.args.blocks.now.items) now c.args.next.now c.args.first
          (get_or c.args.next.now c.loop-rest.block 0) c.args.bytes.now others) (sym put.is)
          (writing_more is.writing path (omega arith) piece others put.filled c.split_at.ensures.by_index.0 long put.taken put.long _ refl);
      reached = λ b above. is.reached b (omega (arith, above, put.more))
          ∙ writing_others is.writing path (omega arith) piece others put.filled c.split_at.ensures.by_index.0 long put.taken put.long b
          (λ same. omega (arith, same, put.there, above));
      more = omega (arith, is.more, put.more);
      few = put.few;
      capacity = omega (arith, is.capacity, c.put.ensures.capacity);
    }
