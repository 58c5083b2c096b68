use Rattle.std.proofs.Common.{◌≡◌, ℕ, ◌+◌, List, length, refl, sym, subst, ◌∙◌, arith}
use Rattle.std.proofs.lemmas.Bool.{eqb-false}
use Rattle.osc_pool.specs.Holding.{blocks_for, used_blocks}
use Rattle.osc_pool.specs.Paths.{path, AreReached}
use Rattle.osc_pool.proofs.Reached.{length-filled}
use Rattle.osc_pool.proofs.Stored.{free_is_left, free_path, first_inside, sums_stored, stored}
use Rattle.osc_pool.proofs.pool.Pool.store.Goals as goal

pub returns-then-need-self-clause-full : goal.returns-then-need-self-clause-full
returns-then-need-self-clause-full c =
    let free = subst (λ (l : List (List ℕ)). c.self.inside.free + used_blocks l ≡ length l) c.self.view_is (free_is_left c.self.invariant.sound) in
    (λ _. omega (arith, c.blocks_for-need.ensures), λ _. refl)

pub returns-then-need-self-clause-free : goal.returns-then-need-self-clause-free
returns-then-need-self-clause-free c =
    let free = subst (λ (l : List (List ℕ)). c.self.inside.free + used_blocks l ≡ length l) c.self.view_is (free_is_left c.self.invariant.sound) in
    omega (arith, c.new.ensures.free)

pub returns-then-is_empty-clause-full : goal.returns-then-is_empty-clause-full
returns-then-is_empty-clause-full c =
    let free = subst (λ (l : List (List ℕ)). c.self.inside.free + used_blocks l ≡ length l) c.self.view_is (free_is_left c.self.invariant.sound) in
    (λ e. absurd (cc), λ full. absurd (omega (arith, c.blocks_for-need.ensures)))

pub write-self-inside-requires-clause-path : goal.write-self-inside-requires-clause-path
write-self-inside-requires-clause-path c =
    rw (c.deref.ensures.value, ← length-filled (length c.self.inside.next.items) c.self.inside.blocks.items c.self.invariant.few)
    (free_path c.self.invariant.sound (blocks_for (length c.args.bytes.now)) (omega (arith, c.blocks_for-need.ensures)))

pub index_mut-requires : goal.index_mut-requires
index_mut-requires c =
    let some = eqb-false (length c.args.bytes.now) 0 (sym c.is_empty.ensures ∙ c.if-is_empty.false) in
    let inside = first_inside c.self.invariant.sound (omega (arith, c.blocks_for-need.ensures)) in
    omega (arith, c.self.inside.sizes.ok.0, c.self.invariant.sound.sized)

pub invariant_of-self : goal.invariant_of-self
invariant_of-self c =
    let some = eqb-false (length c.args.bytes.now) 0 (sym c.is_empty.ensures ∙ c.if-is_empty.false) in
    let links = c.deref.ensures.value in
    let reached = subst (λ (n : List ℕ). AreReached (path n (blocks_for (length c.args.bytes.now)) c.self.inside.first) (length c.self.inside.blocks.items)
    (length c.write-self-inside.new.blocks.items) (length n)) links c.write-self-inside.ensures.reached in
    record {
      sound = (stored c.self.inside.blocks.items c.write-self-inside.new.blocks.items c.args.self.now c.args.bytes.now c.self.invariant.sound c.self.view_is
          (omega arith) c.blocks_for-need.ensures (omega arith)
          c.deref.ensures.value c.write-self-inside.ensures.written).sound;
      few = reached.few;
      room = omega (arith, c.self.invariant.room, c.write-self-inside.ensures.capacity);
      reached = λ b above. omega (
        arith,
        sums_stored c.self.invariant.sound (length c.args.bytes.now) b (omega (arith, c.blocks_for-need.ensures)),
        c.self.invariant.reached b (omega (arith, above, reached.more)),
        reached.within b above,
      );
    }

pub returns-clause-full : goal.returns-clause-full
returns-clause-full c =
    let free = subst (λ (l : List (List ℕ)). c.self.inside.free + used_blocks l ≡ length l) c.self.view_is (free_is_left c.self.invariant.sound) in
    (λ e. absurd (cc), λ full. absurd (omega (arith, c.blocks_for-need.ensures)))

pub returns-clause-stored : goal.returns-clause-stored
returns-clause-stored c =
    let some = eqb-false (length c.args.bytes.now) 0 (sym c.is_empty.ensures ∙ c.if-is_empty.false) in
    (stored c.self.inside.blocks.items c.write-self-inside.new.blocks.items c.args.self.now c.args.bytes.now c.self.invariant.sound c.self.view_is
    (omega arith) c.blocks_for-need.ensures (omega arith)
    c.deref.ensures.value c.write-self-inside.ensures.written).stored

pub returns-clause-new : goal.returns-clause-new
returns-clause-new c =
    let some = eqb-false (length c.args.bytes.now) 0 (sym c.is_empty.ensures ∙ c.if-is_empty.false) in
    (stored c.self.inside.blocks.items c.write-self-inside.new.blocks.items c.args.self.now c.args.bytes.now c.self.invariant.sound c.self.view_is
    (omega arith) c.blocks_for-need.ensures (omega arith)
    c.deref.ensures.value c.write-self-inside.ensures.written).new

pub returns-clause-kept : goal.returns-clause-kept
returns-clause-kept c =
    let some = eqb-false (length c.args.bytes.now) 0 (sym c.is_empty.ensures ∙ c.if-is_empty.false) in
    (stored c.self.inside.blocks.items c.write-self-inside.new.blocks.items c.args.self.now c.args.bytes.now c.self.invariant.sound c.self.view_is
    (omega arith) c.blocks_for-need.ensures (omega arith)
    c.deref.ensures.value c.write-self-inside.ensures.written).kept

pub returns-clause-ok : goal.returns-clause-ok
returns-clause-ok c =
    let some = eqb-false (length c.args.bytes.now) 0 (sym c.is_empty.ensures ∙ c.if-is_empty.false) in
    (stored c.self.inside.blocks.items c.write-self-inside.new.blocks.items c.args.self.now c.args.bytes.now c.self.invariant.sound c.self.view_is
    (omega arith) c.blocks_for-need.ensures (omega arith)
    c.deref.ensures.value c.write-self-inside.ensures.written).ok

pub returns-clause-used : goal.returns-clause-used
returns-clause-used c =
    let some = eqb-false (length c.args.bytes.now) 0 (sym c.is_empty.ensures ∙ c.if-is_empty.false) in
    (stored c.self.inside.blocks.items c.write-self-inside.new.blocks.items c.args.self.now c.args.bytes.now c.self.invariant.sound c.self.view_is
    (omega arith) c.blocks_for-need.ensures (omega arith)
    c.deref.ensures.value c.write-self-inside.ensures.written).used

pub returns-clause-limit : goal.returns-clause-limit
returns-clause-limit c =
    let some = eqb-false (length c.args.bytes.now) 0 (sym c.is_empty.ensures ∙ c.if-is_empty.false) in
    (stored c.self.inside.blocks.items c.write-self-inside.new.blocks.items c.args.self.now c.args.bytes.now c.self.invariant.sound c.self.view_is
    (omega arith) c.blocks_for-need.ensures (omega arith)
    c.deref.ensures.value c.write-self-inside.ensures.written).limit
