use Rattle.std.proofs.Common.{ℕ, ◌+◌, ◌≤◌, List, length, sym, ap, subst, ◌∙◌}
use Rattle.osc_atoms.specs.Atoms.{blob_end}
use Rattle.osc_model.specs.Recordings.{IsRecordable}
use Rattle.osc_record.specs.Writing.{recording_text, appended}
use Rattle.osc_model.specs.Events.{submit, adds_entry}
use Rattle.osc_record.specs.Shown.{answer_of}
use Rattle.osc_core.proofs.Played.{others_add, refuses, plays, enrolled_in}
use Rattle.osc_core.proofs.performance.Performance.submit.Goals as goal

pub returns-in-Some : goal.returns-in-Some
returns-in-Some c =
    let s = c.self.inside in
    let full = refuses c.a_performance_is_played.ensures.full s.server s.recorder s.entries c.args.caller
    (submit c.args.packet.now) c.in-Some.room c.submit_size.result c.args.self.now c.self.invariant c.self.view_is
    (others_add s.server (submit c.args.packet.now) (λ other. cc))
    (c.submit_size.ensures ∙ ap (λ (b : List ℕ). 52 + (length b + blob_end (length b))) c.bytes-bytes.ensures.value) c.in-Some.ensures in
    record { answer = sym full.answer; performance = sym full.stays }

pub invariant_of-self : goal.invariant_of-self
invariant_of-self c =
    let s = c.self.inside in
    let played = c.a_performance_is_played.ensures.played s.server s.recorder s.entries c.args.caller (submit c.args.packet.now)
    (answer_of c.submit_answer.result) c.self.invariant (enrolled_in s.recorder c.args.self.now c.args.caller c.self.view_is c.requires)
    (c.bytes-bytes.ensures.read) (c.submit_answer.ensures ∙ c.submit-submitted.ensures.answer)
    (ap adds_entry c.submit_answer.ensures ∙ c.submit-submitted.ensures.entry)
    (subst (λ (n : ℕ). length (recording_text s.recorder) + n ≤ s.recorder.caps.recording)
    (c.submit_size.ensures ∙ ap (λ (b : List ℕ). 52 + (length b + blob_end (length b))) c.bytes-bytes.ensures.value) c.in_default.ensures) in
    let on = plays s.server s.recorder s.entries c.args.caller (submit c.args.packet.now)
    (answer_of c.submit_answer.result) c.submit-submitted.new.self c.put.new.self c.args.self.now played c.self.view_is c.submit-submitted.ensures.state
    (c.put.ensures
    ∙ ap (λ (b : List ℕ). appended s.recorder (record { caller = c.args.caller; event = submit b; answer = answer_of c.submit_answer.result }))
    c.bytes-bytes.ensures.value) in
    on.playing

pub returns-clause-answer : goal.returns-clause-answer
returns-clause-answer c =
    let s = c.self.inside in
    let played = c.a_performance_is_played.ensures.played s.server s.recorder s.entries c.args.caller (submit c.args.packet.now)
    (answer_of c.submit_answer.result) c.self.invariant (enrolled_in s.recorder c.args.self.now c.args.caller c.self.view_is c.requires)
    (c.bytes-bytes.ensures.read) (c.submit_answer.ensures ∙ c.submit-submitted.ensures.answer)
    (ap adds_entry c.submit_answer.ensures ∙ c.submit-submitted.ensures.entry)
    (subst (λ (n : ℕ). length (recording_text s.recorder) + n ≤ s.recorder.caps.recording)
    (c.submit_size.ensures ∙ ap (λ (b : List ℕ). 52 + (length b + blob_end (length b))) c.bytes-bytes.ensures.value) c.in_default.ensures) in
    let on = plays s.server s.recorder s.entries c.args.caller (submit c.args.packet.now)
    (answer_of c.submit_answer.result) c.submit-submitted.new.self c.put.new.self c.args.self.now played c.self.view_is c.submit-submitted.ensures.state
    (c.put.ensures
    ∙ ap (λ (b : List ℕ). appended s.recorder (record { caller = c.args.caller; event = submit b; answer = answer_of c.submit_answer.result }))
    c.bytes-bytes.ensures.value) in
    sym (on.answer_is ∙ c.submit_answer.ensures)

pub returns-clause-performance : goal.returns-clause-performance
returns-clause-performance c =
    let s = c.self.inside in
    let played = c.a_performance_is_played.ensures.played s.server s.recorder s.entries c.args.caller (submit c.args.packet.now)
    (answer_of c.submit_answer.result) c.self.invariant (enrolled_in s.recorder c.args.self.now c.args.caller c.self.view_is c.requires)
    (c.bytes-bytes.ensures.read) (c.submit_answer.ensures ∙ c.submit-submitted.ensures.answer)
    (ap adds_entry c.submit_answer.ensures ∙ c.submit-submitted.ensures.entry)
    (subst (λ (n : ℕ). length (recording_text s.recorder) + n ≤ s.recorder.caps.recording)
    (c.submit_size.ensures ∙ ap (λ (b : List ℕ). 52 + (length b + blob_end (length b))) c.bytes-bytes.ensures.value) c.in_default.ensures) in
    let on = plays s.server s.recorder s.entries c.args.caller (submit c.args.packet.now)
    (answer_of c.submit_answer.result) c.submit-submitted.new.self c.put.new.self c.args.self.now played c.self.view_is c.submit-submitted.ensures.state
    (c.put.ensures
    ∙ ap (λ (b : List ℕ). appended s.recorder (record { caller = c.args.caller; event = submit b; answer = answer_of c.submit_answer.result }))
    c.bytes-bytes.ensures.value) in
    on.performance

pub put-requires-clause-lawful : goal.put-requires-clause-lawful
put-requires-clause-lawful c =
    let s = c.self.inside in
    let played = c.a_performance_is_played.ensures.played s.server s.recorder s.entries c.args.caller (submit c.args.packet.now)
    (answer_of c.submit_answer.result) c.self.invariant (enrolled_in s.recorder c.args.self.now c.args.caller c.self.view_is c.requires)
    (c.bytes-bytes.ensures.read) (c.submit_answer.ensures ∙ c.submit-submitted.ensures.answer)
    (ap adds_entry c.submit_answer.ensures ∙ c.submit-submitted.ensures.entry)
    (subst (λ (n : ℕ). length (recording_text s.recorder) + n ≤ s.recorder.caps.recording)
    (c.submit_size.ensures ∙ ap (λ (b : List ℕ). 52 + (length b + blob_end (length b))) c.bytes-bytes.ensures.value) c.in_default.ensures) in
    subst (λ (b : List ℕ). IsRecordable c.args.caller (submit b) (answer_of c.submit_answer.result)) (sym c.bytes-bytes.ensures.value) played.recordable
