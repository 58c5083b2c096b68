use Rattle.std.proofs.Common.{sym, rules}
use Rattle.osc_pattern.proofs.BarePatterns.{bare_pattern}
use Rattle.osc_pattern.proofs.check.first_fault.Goals as goal

pub returns-then-is_bare : goal.returns-then-is_bare
returns-then-is_bare c = sym (bare_pattern c.args.bytes.now (search rules) (c.is_bare.ensures c.if-is_bare.true))
