use Rattle.std.proofs.Common.{ap, ◌∙◌}
use Rattle.osc_replay.specs.Unlawful.{first_unlawful_in}
use Rattle.osc_replay.proofs.Unlawful.{unformed_in, never_unlawful, formed_all, same_entries}
use Rattle.osc_replay.proofs.old.well_formed_old.Goals as goal

pub returns-in-Some-clause-first : goal.returns-in-Some-clause-first
returns-in-Some-clause-first c =
    let old = c.in-Ok.old in
    unformed_in c.args.bytes.now c.in-Some.at old.caps old.entries c.in-Ok.ensures.written.0 c.in-Ok.ensures.written.1 c.in-Ok.ensures.complete
    (c.in-Some.ensures ∙ ap first_unlawful_in c.entries.ensures)

pub returns-in-Some-clause-complete : goal.returns-in-Some-clause-complete
returns-in-Some-clause-complete c = λ caps entries is.
    (let old = c.in-Ok.old in
    absurd (never_unlawful c.args.bytes.now c.in-Some.at old.caps caps old.entries entries c.in-Ok.ensures.complete is
    (c.in-Some.ensures ∙ ap first_unlawful_in c.entries.ensures)))

pub returns-in-None-clause-ok : goal.returns-in-None-clause-ok
returns-in-None-clause-ok c =
    let old = c.in-Ok.old in
    formed_all c.args.bytes.now old.caps old.entries c.in-Ok.ensures.written.0 c.in-Ok.ensures.written.1 c.in-Ok.ensures.complete
    (c.in-None.ensures ∙ ap first_unlawful_in c.entries.ensures)

pub returns-in-None-clause-complete : goal.returns-in-None-clause-complete
returns-in-None-clause-complete c = λ caps entries is.
    same_entries c.args.bytes.now c.in-Ok.old.caps caps c.in-Ok.old.entries entries c.in-Ok.ensures.complete is

pub returns-in-Err-clause-complete : goal.returns-in-Err-clause-complete
returns-in-Err-clause-complete c = λ caps entries is. absurd (c.in-Err.ensures.complete caps entries is.formed.record_ is.text)
