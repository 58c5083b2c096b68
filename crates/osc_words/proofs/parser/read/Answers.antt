use Rattle.std.proofs.Common.{◌∙◌, ap, map, string_bytes}
use Rattle.clap.specs.Words.{app_of}
use Rattle.osc_words.specs.Reading.{app_with}
use Rattle.osc_words.proofs.Findings.{taken, refused}
use Rattle.osc_words.proofs.parser.read.Goals as goal

pub returns-in-Ok : goal.returns-in-Ok
returns-in-Ok c = taken c.args.verb (app_of c.in_ok-command.command)
    (map string_bytes c.args.words.now) c.in-Ok.matches (c.in_ok-command.ensures ∙ ap app_with c.options.ensures)
    c.in-Ok.ensures.kinds c.in-Ok.ensures.matches

pub returns : goal.returns
returns c = refused c.args.verb (app_of c.in_ok-command.command)
    (map string_bytes c.args.words.now) c.in-Err.error (c.in_ok-command.ensures ∙ ap app_with c.options.ensures)
    c.in-Err.ensures.kinds (λ memory. c.in_default.not-OutOfMemory (c.kind.ensures ∙ memory))
