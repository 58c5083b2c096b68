use Rattle.std.proofs.Common.{ℕ, List, sym, subst, arith}
use Rattle.std.proofs.lemmas.List.{length-set}
use Rattle.osc_pool.specs.Holding.{IsLive}
use Rattle.osc_pool.proofs.Stored.{live_path, live_inside, last_within, given, given_sums}
use Rattle.osc_pool.proofs.pool.Pool.give.Goals as goal

pub last_of-last-requires-clause-path : goal.last_of-last-requires-clause-path
last_of-last-requires-clause-path c =
    let live = subst (λ (l : List (List ℕ)). IsLive c.args.chain l) (sym c.self.view_is) c.requires in
    rw (c.deref.ensures.value, c.blocks_for-count.ensures, c.self.invariant.sound.linked) (live_path c.self.invariant.sound c.args.chain live)

pub index_mut-requires : goal.index_mut-requires
index_mut-requires c =
    let within = last_within c.args.chain c.args.self.now c.self.invariant.sound c.self.view_is c.requires c.if-chain-eq0.false c.blocks_for-count.ensures
    c.deref.ensures.value c.last_of-last.ensures in
    omega (arith, c.self.inside.next.ok.0)

pub index_mut-requires-2 : goal.index_mut-requires-2
index_mut-requires-2 c =
    let live = subst (λ (l : List (List ℕ)). IsLive c.args.chain l) (sym c.self.view_is) c.requires in
    let within = live_inside c.self.invariant.sound c.args.chain live c.if-chain-eq0.false in
    omega (arith, c.self.inside.sizes.ok.0)

pub invariant_of-self : goal.invariant_of-self
invariant_of-self c = record {
  sound = (given c.self.inside.blocks.items c.args.chain c.args.self.now c.self.invariant.sound c.self.view_is c.requires c.if-chain-eq0.false
      c.blocks_for-count.ensures
      c.deref.ensures.value c.last_of-last.ensures).sound;
  few = omega (arith, c.self.invariant.few, length-set c.self.inside.next.items c.last_of-last.result c.self.inside.first);
  room = omega (arith, c.self.invariant.room, length-set c.self.inside.next.items c.last_of-last.result c.self.inside.first);
  reached = λ b above. omega (
    arith,
    c.self.invariant.reached b above,
    given_sums c.args.chain c.args.self.now c.self.invariant.sound c.self.view_is c.requires c.if-chain-eq0.false c.blocks_for-count.ensures
        c.deref.ensures.value c.last_of-last.ensures b,
  );
}

pub returns-clause-given : goal.returns-clause-given
returns-clause-given c =
    (given c.self.inside.blocks.items c.args.chain c.args.self.now c.self.invariant.sound c.self.view_is c.requires c.if-chain-eq0.false
    c.blocks_for-count.ensures
    c.deref.ensures.value c.last_of-last.ensures).given

pub returns-clause-kept : goal.returns-clause-kept
returns-clause-kept c =
    (given c.self.inside.blocks.items c.args.chain c.args.self.now c.self.invariant.sound c.self.view_is c.requires c.if-chain-eq0.false
    c.blocks_for-count.ensures
    c.deref.ensures.value c.last_of-last.ensures).kept

pub returns-clause-used : goal.returns-clause-used
returns-clause-used c =
    (given c.self.inside.blocks.items c.args.chain c.args.self.now c.self.invariant.sound c.self.view_is c.requires c.if-chain-eq0.false
    c.blocks_for-count.ensures
    c.deref.ensures.value c.last_of-last.ensures).used

pub returns-clause-limit : goal.returns-clause-limit
returns-clause-limit c =
    (given c.self.inside.blocks.items c.args.chain c.args.self.now c.self.invariant.sound c.self.view_is c.requires c.if-chain-eq0.false
    c.blocks_for-count.ensures
    c.deref.ensures.value c.last_of-last.ensures).limit
