use Rattle.std.proofs.Common.{◌≡◌, ◌++◌, ◌+◌, ◌≤◌, ℕ, List, length, sym, ap, subst, ◌∙◌, arith, length-append}
use Rattle.osc_pool.specs.Holding.{blocks_for, used_blocks}
use Rattle.osc_pool.specs.Paths.{path, times, AreReached}
use Rattle.osc_pool.proofs.Reached.{length-filled}
use Rattle.osc_pool.proofs.Stored.{free_is_left, free_path, first_inside, sums_stored, stored_as}
use Rattle.osc_pool.proofs.pool.Pool.store_pair.Goals as goal

pub write_pair-self-inside-requires-clause-path : goal.write_pair-self-inside-requires-clause-path
write_pair-self-inside-requires-clause-path c =
    let bytes : List ℕ = c.args.head.now ++ c.args.bytes.now in
    let sized : 4 + length c.args.bytes.now ≡ length bytes = omega (arith, length-append c.args.head.now c.args.bytes.now, c.told-head) in
    let one : 1 ≡ blocks_for (length bytes) = omega (arith, c.requires.fits) in
    let left = subst (λ (l : List (List ℕ)). c.self.inside.free + used_blocks l ≡ length l) c.self.view_is (free_is_left c.self.invariant.sound) in
    let free : 1 ≤ c.self.inside.free = omega (arith, c.requires.room) in
    rw (c.deref.ensures.value, ← length-filled (length c.self.inside.next.items) c.self.inside.blocks.items c.self.invariant.few)
    (free_path c.self.invariant.sound (blocks_for (length bytes)) (omega arith))

pub overflow_sub-self : goal.overflow_sub-self
overflow_sub-self c =
    let bytes : List ℕ = c.args.head.now ++ c.args.bytes.now in
    let sized : 4 + length c.args.bytes.now ≡ length bytes = omega (arith, length-append c.args.head.now c.args.bytes.now, c.told-head) in
    let one : 1 ≡ blocks_for (length bytes) = omega (arith, c.requires.fits) in
    let left = subst (λ (l : List (List ℕ)). c.self.inside.free + used_blocks l ≡ length l) c.self.view_is (free_is_left c.self.invariant.sound) in
    let free : 1 ≤ c.self.inside.free = omega (arith, c.requires.room) in
    omega arith

pub index_mut-requires : goal.index_mut-requires
index_mut-requires c =
    let bytes : List ℕ = c.args.head.now ++ c.args.bytes.now in
    let sized : 4 + length c.args.bytes.now ≡ length bytes = omega (arith, length-append c.args.head.now c.args.bytes.now, c.told-head) in
    let one : 1 ≡ blocks_for (length bytes) = omega (arith, c.requires.fits) in
    let left = subst (λ (l : List (List ℕ)). c.self.inside.free + used_blocks l ≡ length l) c.self.view_is (free_is_left c.self.invariant.sound) in
    let free : 1 ≤ c.self.inside.free = omega (arith, c.requires.room) in
    let inside = first_inside c.self.invariant.sound (omega arith) in
    omega (arith, c.self.inside.sizes.ok.0, c.self.invariant.sound.sized)

pub invariant_of-self : goal.invariant_of-self
invariant_of-self c =
    let bytes : List ℕ = c.args.head.now ++ c.args.bytes.now in
    let sized : 4 + length c.args.bytes.now ≡ length bytes = omega (arith, length-append c.args.head.now c.args.bytes.now, c.told-head) in
    let one : 1 ≡ blocks_for (length bytes) = omega (arith, c.requires.fits) in
    let left = subst (λ (l : List (List ℕ)). c.self.inside.free + used_blocks l ≡ length l) c.self.view_is (free_is_left c.self.invariant.sound) in
    let free : 1 ≤ c.self.inside.free = omega (arith, c.requires.room) in
    let links = c.deref.ensures.value in
    let reached = subst (λ (n : List ℕ). AreReached (path n (blocks_for (length bytes)) c.self.inside.first) (length c.self.inside.blocks.items)
    (length c.write_pair-self-inside.new.blocks.items) (length n)) links c.write_pair-self-inside.ensures.reached in
    record {
      sound = (stored_as c.self.inside.blocks.items c.write_pair-self-inside.new.blocks.items c.args.self.now bytes (4 + length c.args.bytes.now) sized
          c.self.invariant.sound c.self.view_is (omega arith) one free c.deref.ensures.value c.write_pair-self-inside.ensures.written).sound;
      few = reached.few;
      room = omega (arith, c.self.invariant.room, c.write_pair-self-inside.ensures.capacity);
      reached = λ b above. omega (
        arith,
        sums_stored c.self.invariant.sound (4 + length c.args.bytes.now) b (omega arith),
        ap (λ n. times b (path c.self.inside.next.items (blocks_for n) c.self.inside.first)) sized,
        c.self.invariant.reached b (omega (arith, above, reached.more)),
        reached.within b above,
      );
    }

pub returns-clause-stored : goal.returns-clause-stored
returns-clause-stored c =
    let bytes : List ℕ = c.args.head.now ++ c.args.bytes.now in
    let sized : 4 + length c.args.bytes.now ≡ length bytes = omega (arith, length-append c.args.head.now c.args.bytes.now, c.told-head) in
    let one : 1 ≡ blocks_for (length bytes) = omega (arith, c.requires.fits) in
    let left = subst (λ (l : List (List ℕ)). c.self.inside.free + used_blocks l ≡ length l) c.self.view_is (free_is_left c.self.invariant.sound) in
    let free : 1 ≤ c.self.inside.free = omega (arith, c.requires.room) in
    (stored_as c.self.inside.blocks.items c.write_pair-self-inside.new.blocks.items c.args.self.now bytes (4 + length c.args.bytes.now) sized
    c.self.invariant.sound c.self.view_is (omega arith) one free c.deref.ensures.value c.write_pair-self-inside.ensures.written).stored

pub returns-clause-new : goal.returns-clause-new
returns-clause-new c =
    let bytes : List ℕ = c.args.head.now ++ c.args.bytes.now in
    let sized : 4 + length c.args.bytes.now ≡ length bytes = omega (arith, length-append c.args.head.now c.args.bytes.now, c.told-head) in
    let one : 1 ≡ blocks_for (length bytes) = omega (arith, c.requires.fits) in
    let left = subst (λ (l : List (List ℕ)). c.self.inside.free + used_blocks l ≡ length l) c.self.view_is (free_is_left c.self.invariant.sound) in
    let free : 1 ≤ c.self.inside.free = omega (arith, c.requires.room) in
    (stored_as c.self.inside.blocks.items c.write_pair-self-inside.new.blocks.items c.args.self.now bytes (4 + length c.args.bytes.now) sized
    c.self.invariant.sound c.self.view_is (omega arith) one free c.deref.ensures.value c.write_pair-self-inside.ensures.written).new

pub returns-clause-kept : goal.returns-clause-kept
returns-clause-kept c =
    let bytes : List ℕ = c.args.head.now ++ c.args.bytes.now in
    let sized : 4 + length c.args.bytes.now ≡ length bytes = omega (arith, length-append c.args.head.now c.args.bytes.now, c.told-head) in
    let one : 1 ≡ blocks_for (length bytes) = omega (arith, c.requires.fits) in
    let left = subst (λ (l : List (List ℕ)). c.self.inside.free + used_blocks l ≡ length l) c.self.view_is (free_is_left c.self.invariant.sound) in
    let free : 1 ≤ c.self.inside.free = omega (arith, c.requires.room) in
    (stored_as c.self.inside.blocks.items c.write_pair-self-inside.new.blocks.items c.args.self.now bytes (4 + length c.args.bytes.now) sized
    c.self.invariant.sound c.self.view_is (omega arith) one free c.deref.ensures.value c.write_pair-self-inside.ensures.written).kept

pub returns-clause-ok : goal.returns-clause-ok
returns-clause-ok c =
    let bytes : List ℕ = c.args.head.now ++ c.args.bytes.now in
    let sized : 4 + length c.args.bytes.now ≡ length bytes = omega (arith, length-append c.args.head.now c.args.bytes.now, c.told-head) in
    let one : 1 ≡ blocks_for (length bytes) = omega (arith, c.requires.fits) in
    let left = subst (λ (l : List (List ℕ)). c.self.inside.free + used_blocks l ≡ length l) c.self.view_is (free_is_left c.self.invariant.sound) in
    let free : 1 ≤ c.self.inside.free = omega (arith, c.requires.room) in
    (stored_as c.self.inside.blocks.items c.write_pair-self-inside.new.blocks.items c.args.self.now bytes (4 + length c.args.bytes.now) sized
    c.self.invariant.sound c.self.view_is (omega arith) one free c.deref.ensures.value c.write_pair-self-inside.ensures.written).ok

pub returns-clause-used : goal.returns-clause-used
returns-clause-used c =
    let bytes : List ℕ = c.args.head.now ++ c.args.bytes.now in
    let sized : 4 + length c.args.bytes.now ≡ length bytes = omega (arith, length-append c.args.head.now c.args.bytes.now, c.told-head) in
    let one : 1 ≡ blocks_for (length bytes) = omega (arith, c.requires.fits) in
    let left = subst (λ (l : List (List ℕ)). c.self.inside.free + used_blocks l ≡ length l) c.self.view_is (free_is_left c.self.invariant.sound) in
    let free : 1 ≤ c.self.inside.free = omega (arith, c.requires.room) in
    (stored_as c.self.inside.blocks.items c.write_pair-self-inside.new.blocks.items c.args.self.now bytes (4 + length c.args.bytes.now) sized
    c.self.invariant.sound c.self.view_is (omega arith) one free c.deref.ensures.value c.write_pair-self-inside.ensures.written).used ∙ ap (λ (n : ℕ). used_blocks c.args.self.now + n) (sym one)

pub returns-clause-limit : goal.returns-clause-limit
returns-clause-limit c =
    let bytes : List ℕ = c.args.head.now ++ c.args.bytes.now in
    let sized : 4 + length c.args.bytes.now ≡ length bytes = omega (arith, length-append c.args.head.now c.args.bytes.now, c.told-head) in
    let one : 1 ≡ blocks_for (length bytes) = omega (arith, c.requires.fits) in
    let left = subst (λ (l : List (List ℕ)). c.self.inside.free + used_blocks l ≡ length l) c.self.view_is (free_is_left c.self.invariant.sound) in
    let free : 1 ≤ c.self.inside.free = omega (arith, c.requires.room) in
    (stored_as c.self.inside.blocks.items c.write_pair-self-inside.new.blocks.items c.args.self.now bytes (4 + length c.args.bytes.now) sized
    c.self.invariant.sound c.self.view_is (omega arith) one free c.deref.ensures.value c.write_pair-self-inside.ensures.written).limit
