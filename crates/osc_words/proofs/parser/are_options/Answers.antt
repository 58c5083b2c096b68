use Rattle.std.proofs.Common.{◌∙◌, map, string_bytes}
use Rattle.clap.specs.Words.{app_of}
use Rattle.osc_words.proofs.Findings.{options_taken, options_refused}
use Rattle.osc_words.proofs.parser.are_options.Goals as goal

pub returns-in-Ok : goal.returns-in-Ok
returns-in-Ok c = options_taken (app_of c.in_ok-command.command) (map string_bytes c.args.words.now) c.in-Ok.field-0
    c.in_ok-command.ensures c.in-Ok.ensures.kinds

pub returns : goal.returns
returns c = options_refused (app_of c.in_ok-command.command) (map string_bytes c.args.words.now) c.in-Err.error
    c.in_ok-command.ensures c.in-Err.ensures.kinds
    (λ memory. c.in_default.not-OutOfMemory (c.kind.ensures ∙ memory))
