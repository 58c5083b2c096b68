use Rattle.std.proofs.Common.{◌≡◌, ◌∙◌, [], Err, inl, inr, rules}
use Rattle.osc_replay.proofs.Formed.{never_err, opened, no_place, read_formed}
use Rattle.osc_replay.proofs.OnePlace.{told_is}
use Rattle.osc_replay.proofs.form.well_formed.Goals as goal

pub returns-in_err-unread-clause-first : goal.returns-in_err-unread-clause-first
returns-in_err-unread-clause-first c =
    let same : c.from_residual.result ≡ Err c.in_err-unread.field-0.0 = search rules in
    rw same (inl c.in_err-unread.ensures.err)

pub returns-in_err-unread-clause-complete : goal.returns-in_err-unread-clause-complete
returns-in_err-unread-clause-complete c = λ limits entries formed text.
    absurd (no_place c.args.bytes.now c.in_err-unread.field-0.0.at limits entries formed text (inl c.in_err-unread.ensures.err))

pub returns-in-Some-clause-first : goal.returns-in-Some-clause-first
returns-in-Some-clause-first c =
    let unread = c.in_ok-unread.unread in
    inr (c.in-Some.ensures.some c.args.bytes.now unread.caps [] (opened c.args.bytes.now unread c.in_ok-unread.ensures.ok))

pub returns-in-Some-clause-complete : goal.returns-in-Some-clause-complete
returns-in-Some-clause-complete c = λ limits entries formed text.
    (let unread = c.in_ok-unread.unread in
    absurd (no_place c.args.bytes.now c.in-Some.at limits entries formed text
    (inr (c.in-Some.ensures.some c.args.bytes.now unread.caps [] (opened c.args.bytes.now unread c.in_ok-unread.ensures.ok)))))

pub returns-in-None-clause-ok : goal.returns-in-None-clause-ok
returns-in-None-clause-ok c =
    let unread = c.in_ok-unread.unread in
    let all = c.in-None.ensures.none c.args.bytes.now unread.caps [] (opened c.args.bytes.now unread c.in_ok-unread.ensures.ok) in
    read_formed c.args.bytes.now unread.caps all.0 c.check.result all.1 all.2 (c.check.ensures.complete unread.caps all.0 all.1.record_ all.2)

pub returns-in-None-clause-first : goal.returns-in-None-clause-first
returns-in-None-clause-first c =
    let unread = c.in_ok-unread.unread in
    let all = c.in-None.ensures.none c.args.bytes.now unread.caps [] (opened c.args.bytes.now unread c.in_ok-unread.ensures.ok) in
    never_err _ _ c.check.result (c.check.ensures.complete unread.caps all.0 all.1.record_ all.2)

pub returns-in-None-clause-complete : goal.returns-in-None-clause-complete
returns-in-None-clause-complete c = λ limits entries formed text. c.check.ensures.complete limits entries formed.record_ text

pub returns-in_err-unread-clause-exact : goal.returns-in_err-unread-clause-exact
returns-in_err-unread-clause-exact c = λ at unformed.
    let same : c.from_residual.result ≡ Err c.in_err-unread.field-0.0 = search rules in
    same ∙ told_is c.args.bytes.now c.in_err-unread.field-0.0.at at (inl c.in_err-unread.ensures.err) unformed

pub returns-in-Some-clause-exact : goal.returns-in-Some-clause-exact
returns-in-Some-clause-exact c = λ at unformed.
    let unread = c.in_ok-unread.unread in
    told_is c.args.bytes.now c.in-Some.at at
    (inr (c.in-Some.ensures.some c.args.bytes.now unread.caps [] (opened c.args.bytes.now unread c.in_ok-unread.ensures.ok))) unformed

pub returns-in-None-clause-exact : goal.returns-in-None-clause-exact
returns-in-None-clause-exact c = λ at unformed.
    let unread = c.in_ok-unread.unread in
    let all = c.in-None.ensures.none c.args.bytes.now unread.caps [] (opened c.args.bytes.now unread c.in_ok-unread.ensures.ok) in
    absurd (no_place c.args.bytes.now at unread.caps all.0 all.1 all.2 unformed)
