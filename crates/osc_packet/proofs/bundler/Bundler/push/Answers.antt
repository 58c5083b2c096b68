use Rattle.std.proofs.Common.{arith, ◌<◌, ℕ, List, length, sym, ap, subst}
use Rattle.osc_atoms.specs.declared.limits.TheConstants.{MAX_PACKET}
use Rattle.osc_packet.specs.Bundling.{Bundling, with_message, bundled, bundling_of}
use Rattle.osc_packet.proofs.Bundlings.{pushed_on, size_on}
use Rattle.osc_packet.proofs.bundler.Bundler.push.Goals as goal

pub invariant_of-self-2 : goal.invariant_of-self-2
invariant_of-self-2 c =
    (pushed_on c.self.inside.bytes.items c.add_element.new.bytes.items c.spelled-bytes.result.now c.self.invariant c.spelled-bytes.ensures.message
    c.in_ok-add_element.ensures.ok (omega (arith, c.len.ensures, c.if-len-bytes.false))).kept

pub returns-clause-ok : goal.returns-clause-ok
returns-clause-ok c =
    let done = (pushed_on c.self.inside.bytes.items c.add_element.new.bytes.items c.spelled-bytes.result.now c.self.invariant c.spelled-bytes.ensures.message
    c.in_ok-add_element.ensures.ok (omega (arith, c.len.ensures, c.if-len-bytes.false))).stands in
    rw (← c.self.view_is, ← c.spelled-bytes.ensures.value) done

pub returns-clause-refused : goal.returns-clause-refused
returns-clause-refused c long =
    let here : MAX_PACKET < length (bundled (with_message (bundling_of c.self.inside.bytes.items) c.args.message.now)) =
    subst (λ (b : Bundling). MAX_PACKET < length (bundled (with_message b c.args.message.now))) (sym c.self.view_is) long in
    absurd
    (omega (
      arith,
      size_on c.self.inside.bytes.items c.args.message.now c.self.invariant,
      c.len.ensures,
      c.if-len-bytes.false,
      ap (λ (l : List ℕ). length l) c.spelled-bytes.ensures.value,
    ))
