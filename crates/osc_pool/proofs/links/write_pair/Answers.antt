use Rattle.std.proofs.Common.{◌≡◌, ◌<◌, ◌++◌, [], ℕ, List, length, get_or, refl, sym, subst, min, arith, append-nil}
use Rattle.osc_pool.specs.Paths.{filled_up, IsWritten}
use Rattle.osc_pool.proofs.Reached.{length-filled, filled_path}
use Rattle.osc_pool.proofs.Writing.{writing_begins, writing_inside, writing_more, writing_others, writing_ends}
use Rattle.osc_pool.proofs.links.write_pair.Goals as goal

pub put_pair-requires-clause-room : goal.put_pair-requires-clause-room
put_pair-requires-clause-room c =
    let bytes : List ℕ = c.args.head.now ++ c.args.bytes.now in
    let limit = length c.args.next.now in
    let path = filled_path limit c.args.blocks.now.items c.args.next.now _ c.args.first c.requires.linked c.requires.path in
    let begins = writing_begins (filled_up limit c.args.blocks.now.items) c.args.next.now c.args.first bytes c.requires.whole in
    omega (arith, writing_inside begins path c.requires.some, length-filled limit c.args.blocks.now.items c.requires.linked, c.requires.room)

pub bounds-next-first : goal.bounds-next-first
bounds-next-first c =
    let bytes : List ℕ = c.args.head.now ++ c.args.bytes.now in
    let limit = length c.args.next.now in
    let path = filled_path limit c.args.blocks.now.items c.args.next.now _ c.args.first c.requires.linked c.requires.path in
    let begins = writing_begins (filled_up limit c.args.blocks.now.items) c.args.next.now c.args.first bytes c.requires.whole in
    omega (arith, writing_inside begins path c.requires.some, length-filled limit c.args.blocks.now.items c.requires.linked)

pub returns-clause-written : goal.returns-clause-written
returns-clause-written c =
    let bytes : List ℕ = c.args.head.now ++ c.args.bytes.now in
    let next : List ℕ = c.args.next.now in
    let limit = length next in
    let before = filled_up limit c.args.blocks.now.items in
    let path = filled_path limit c.args.blocks.now.items next _ c.args.first c.requires.linked c.requires.path in
    let begins = writing_begins before next c.args.first bytes c.requires.whole in
    let inside : c.args.first < limit = omega (arith, writing_inside begins path c.requires.some, length-filled limit c.args.blocks.now.items c.requires.linked) in
    let put = c.put_pair.ensures.put limit inside c.requires.linked in
    let long : length bytes ≡ min 64 (length bytes) = omega (arith, c.requires.fits) in
    let more = writing_more begins path c.requires.some bytes [] put.filled (sym (append-nil bytes)) long put.taken put.long (get_or next c.args.first 0) refl in
    subst (λ (now : List (List ℕ)). IsWritten before now next c.args.first (get_or next c.args.first 0) bytes) (sym put.is) (writing_ends more refl)

pub returns-clause-reached : goal.returns-clause-reached
returns-clause-reached c =
    let bytes : List ℕ = c.args.head.now ++ c.args.bytes.now in
    let next : List ℕ = c.args.next.now in
    let limit = length next in
    let before = filled_up limit c.args.blocks.now.items in
    let path = filled_path limit c.args.blocks.now.items next _ c.args.first c.requires.linked c.requires.path in
    let begins = writing_begins before next c.args.first bytes c.requires.whole in
    let inside : c.args.first < limit = omega (arith, writing_inside begins path c.requires.some, length-filled limit c.args.blocks.now.items c.requires.linked) in
    let put = c.put_pair.ensures.put limit inside c.requires.linked in
    let long : length bytes ≡ min 64 (length bytes) = omega (arith, c.requires.fits) in
    record {
      within = λ b above. writing_others begins path c.requires.some bytes [] put.filled (sym (append-nil bytes)) long put.taken put.long b
          (λ same. omega (arith, same, put.there, above));
      more = put.more;
      few = put.few;
    }
