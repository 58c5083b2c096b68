use Rattle.std.proofs.Common.{◌≡◌, fold, map, drop}
use Rattle.clap.specs.Words.{app_of, with_rule}
use Rattle.osc_words.specs.Options.{rule_for}
use Rattle.osc_words.proofs.parser.with_options.Given as goal

abbrev pub invariant-loop-option : goal.invariant-loop-option
invariant-loop-option l =
    fold with_rule (app_of l.command) (map rule_for (drop l.option-index l.options)) ≡ fold with_rule (app_of l.fn.command) (map rule_for l.options)
