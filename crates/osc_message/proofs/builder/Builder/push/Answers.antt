-- What is kept after a push, and what is refused.
use Rattle.std.proofs.Common.{◌≡◌, None, rules, arith, inl}
use Rattle.osc_message.specs.Building.{null_in}
use Rattle.osc_message.specs.Shown.{shown}
use Rattle.osc_message.proofs.Buildings.{pushed_on, refused_long, not_refused}
use Rattle.osc_message.proofs.builder.Builder.push.Goals as goal

pub returns-then-finished_size-gt-MAX_BUILT-clause-cause : goal.returns-then-finished_size-gt-MAX_BUILT-clause-cause
returns-then-finished_size-gt-MAX_BUILT-clause-cause c =
    let none : null_in (shown c.args.arg) ≡ None = search rules in
    let size = rw (c.deref.ensures.value, c.deref-2.ensures.value, c.deref-3.ensures.value) at c.finished_size.ensures in
    inl (rw (← c.self.view_is)
    (refused_long c.self.inside.pattern.items c.self.inside.tags.items c.self.inside.atoms.items (shown c.args.arg) c.self.invariant none
    (omega (arith, size))))

pub returns-in_err-add_argument-clause-refused : goal.returns-in_err-add_argument-clause-refused
returns-in_err-add_argument-clause-refused c fault is =
    let none : null_in (shown c.args.arg) ≡ None = search rules in
    let size = rw (c.deref.ensures.value, c.deref-2.ensures.value, c.deref-3.ensures.value) at c.finished_size.ensures in
    let allowed = not_refused c.self.inside.pattern.items c.self.inside.tags.items c.self.inside.atoms.items (shown c.args.arg) c.self.invariant none
    (omega (arith, size)) in
    absurd (cc (allowed, is, c.self.view_is))

pub invariant_of-self-2 : goal.invariant_of-self-2
invariant_of-self-2 c =
    let size = rw (c.deref.ensures.value, c.deref-2.ensures.value, c.deref-3.ensures.value) at c.finished_size.ensures in
    let done = c.in_ok-add_argument.ensures in
    (pushed_on c.self.inside.pattern.items c.self.inside.tags.items c.self.inside.atoms.items c.add_argument.new.tags.items c.add_argument.new.atoms.items
    (shown c.args.arg) done.bytes c.self.invariant done.fits done.tags done.atoms (omega (arith, size))).kept

pub returns-clause-ok : goal.returns-clause-ok
returns-clause-ok c =
    let size = rw (c.deref.ensures.value, c.deref-2.ensures.value, c.deref-3.ensures.value) at c.finished_size.ensures in
    let done = c.in_ok-add_argument.ensures in
    rw (← c.self.view_is)
    (pushed_on c.self.inside.pattern.items c.self.inside.tags.items c.self.inside.atoms.items c.add_argument.new.tags.items c.add_argument.new.atoms.items
    (shown c.args.arg) done.bytes c.self.invariant done.fits done.tags done.atoms (omega (arith, size))).stands

pub returns-clause-refused : goal.returns-clause-refused
returns-clause-refused c fault is =
    let none : null_in (shown c.args.arg) ≡ None = search rules in
    let size = rw (c.deref.ensures.value, c.deref-2.ensures.value, c.deref-3.ensures.value) at c.finished_size.ensures in
    let allowed = not_refused c.self.inside.pattern.items c.self.inside.tags.items c.self.inside.atoms.items (shown c.args.arg) c.self.invariant none
    (omega (arith, size)) in
    absurd (cc (allowed, is, c.self.view_is))
