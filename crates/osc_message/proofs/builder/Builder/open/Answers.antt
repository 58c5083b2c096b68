-- What is refused, in order, and what is kept.
use Rattle.std.proofs.Common.{◌≡◌, Some, None, rules, arith}
use Rattle.osc_pattern.specs.Patterns.{IsPattern, pattern_fault}
use Rattle.osc_message.specs.Building.{null_of}
use Rattle.osc_message.proofs.Openings.{open_long, open_null, open_pattern, only, none_refused, opened}
use Rattle.osc_message.proofs.builder.Builder.open.Goals as goal

pub returns-then-pattern-gt-MAX_BUILT_PATTERN-clause-refused : goal.returns-then-pattern-gt-MAX_BUILT_PATTERN-clause-refused
returns-then-pattern-gt-MAX_BUILT_PATTERN-clause-refused c fault is =
    only c.args.pattern.now _ fault (open_long c.args.pattern.now (omega (arith, c.if-pattern-gt-MAX_BUILT_PATTERN.true))) is

pub returns-in-Some-clause-refused : goal.returns-in-Some-clause-refused
returns-in-Some-clause-refused c fault is =
    let null : null_of c.args.pattern.now ≡ Some c.in-Some.at = search rules in
    only c.args.pattern.now _ fault (open_null c.args.pattern.now c.in-Some.at (omega (arith, c.if-pattern-gt-MAX_BUILT_PATTERN.false)) null) is

pub returns-in-Err-clause-refused : goal.returns-in-Err-clause-refused
returns-in-Err-clause-refused c fault is =
    let null : null_of c.args.pattern.now ≡ None = search rules in
    let first : pattern_fault c.args.pattern.now ≡ Some c.in-Err.fault = search rules in
    only c.args.pattern.now _ fault (open_pattern c.args.pattern.now (Some c.in-Err.fault) (omega (arith, c.if-pattern-gt-MAX_BUILT_PATTERN.false)) null first)
    is

pub returns-in_err-from_slice-clause-refused : goal.returns-in_err-from_slice-clause-refused
returns-in_err-from_slice-clause-refused c fault is =
    let null : null_of c.args.pattern.now ≡ None = search rules in
    let first : pattern_fault c.args.pattern.now ≡ None = search rules in
    absurd (none_refused c.args.pattern.now fault (open_pattern c.args.pattern.now None (omega (arith, c.if-pattern-gt-MAX_BUILT_PATTERN.false)) null first) is)

pub returns-in_err-from_slice-2-clause-refused : goal.returns-in_err-from_slice-2-clause-refused
returns-in_err-from_slice-2-clause-refused c fault is =
    let null : null_of c.args.pattern.now ≡ None = search rules in
    let first : pattern_fault c.args.pattern.now ≡ None = search rules in
    absurd (none_refused c.args.pattern.now fault (open_pattern c.args.pattern.now None (omega (arith, c.if-pattern-gt-MAX_BUILT_PATTERN.false)) null first) is)

pub returns-clause-refused : goal.returns-clause-refused
returns-clause-refused c fault is =
    let null : null_of c.args.pattern.now ≡ None = search rules in
    let first : pattern_fault c.args.pattern.now ≡ None = search rules in
    absurd (none_refused c.args.pattern.now fault (open_pattern c.args.pattern.now None (omega (arith, c.if-pattern-gt-MAX_BUILT_PATTERN.false)) null first) is)

pub invariant_of-result : goal.invariant_of-result
invariant_of-result c =
    let lawful : IsPattern c.args.pattern.now = search rules in
    opened c.args.pattern.now c.in_ok-from_slice.field-0.items c.in_ok-from_slice-2.field-0.items c.new.result.items (search rules) (search rules)
    (search rules) lawful (omega (arith, c.if-pattern-gt-MAX_BUILT_PATTERN.false))
