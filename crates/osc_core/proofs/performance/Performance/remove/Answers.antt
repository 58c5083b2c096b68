use Rattle.std.proofs.Common.{◌≡◌, ℕ, ◌+◌, ◌≤◌, IsTrue, List, length, map, refl, sym, ap, subst, ◌∙◌}
use Rattle.osc_atoms.specs.Atoms.{string}
use Rattle.osc_pattern.specs.Addresses.{is_address}
use Rattle.osc_pattern.specs.Methods.{Method}
use Rattle.osc_model.specs.Recordings.{IsRecordable}
use Rattle.osc_record.specs.Writing.{recording_text, appended}
use Rattle.osc_model.specs.Events.{remove, adds_entry}
use Rattle.osc_model.specs.History.{state_of}
use Rattle.osc_core.specs.Ids.{without}
use Rattle.osc_core.specs.Answers.{OnRemoved}
use Rattle.osc_core.specs.Playing.{performance_of}
use Rattle.osc_record.specs.Shown.{answer_of}
use Rattle.osc_core.proofs.Played.{others_add, refuses, plays, enrolled_in, methods_are}
use Rattle.osc_core.proofs.performance.Performance.remove.Goals as goal

pub returns-in-Some-clause-answer : goal.returns-in-Some-clause-answer
returns-in-Some-clause-answer c =
    let s = c.self.inside in
    let full = refuses c.a_performance_is_played.ensures.full s.server s.recorder s.entries c.args.caller
    (remove c.args.address.now) c.in-Some.room c.remove_size.result c.args.self.now c.self.invariant c.self.view_is
    (others_add s.server (remove c.args.address.now) (λ other. cc))
    (c.remove_size.ensures ∙ ap (λ (b : List ℕ). 36 + length (string b)) c.bytes-bytes.ensures.value) c.in-Some.ensures in
    sym full.answer

pub returns-in-Some-clause-performance : goal.returns-in-Some-clause-performance
returns-in-Some-clause-performance c =
    let s = c.self.inside in
    let full = refuses c.a_performance_is_played.ensures.full s.server s.recorder s.entries c.args.caller
    (remove c.args.address.now) c.in-Some.room c.remove_size.result c.args.self.now c.self.invariant c.self.view_is
    (others_add s.server (remove c.args.address.now) (λ other. cc))
    (c.remove_size.ensures ∙ ap (λ (b : List ℕ). 36 + length (string b)) c.bytes-bytes.ensures.value) c.in-Some.ensures in
    sym full.stays

pub invariant_of-self : goal.invariant_of-self
invariant_of-self c =
    let s = c.self.inside in
    let played = c.a_performance_is_played.ensures.played s.server s.recorder s.entries c.args.caller (remove c.args.address.now)
    (answer_of c.remove_answer.result) c.self.invariant (enrolled_in s.recorder c.args.self.now c.args.caller c.self.view_is c.requires)
    (subst (λ (b : List ℕ). IsTrue (is_address b)) c.bytes-bytes.ensures.value c.bytes-bytes.ensures.test)
    (c.remove_answer.ensures ∙ c.remove-removing.ensures.answer) (ap adds_entry c.remove_answer.ensures ∙ c.remove-removing.ensures.entry)
    (subst (λ (n : ℕ). length (recording_text s.recorder) + n ≤ s.recorder.caps.recording)
    (c.remove_size.ensures ∙ ap (λ (b : List ℕ). 36 + length (string b)) c.bytes-bytes.ensures.value) c.in_default.ensures) in
    let on = plays s.server s.recorder s.entries c.args.caller (remove c.args.address.now)
    (answer_of c.remove_answer.result) c.remove-removing.new.self c.put.new.self c.args.self.now played c.self.view_is c.remove-removing.ensures.state
    (c.put.ensures
    ∙ ap (λ (b : List ℕ). appended s.recorder (record { caller = c.args.caller; event = remove b; answer = answer_of c.remove_answer.result }))
    c.bytes-bytes.ensures.value) in
    on.playing

pub returns-clause-answer : goal.returns-clause-answer
returns-clause-answer c =
    let s = c.self.inside in
    let played = c.a_performance_is_played.ensures.played s.server s.recorder s.entries c.args.caller (remove c.args.address.now)
    (answer_of c.remove_answer.result) c.self.invariant (enrolled_in s.recorder c.args.self.now c.args.caller c.self.view_is c.requires)
    (subst (λ (b : List ℕ). IsTrue (is_address b)) c.bytes-bytes.ensures.value c.bytes-bytes.ensures.test)
    (c.remove_answer.ensures ∙ c.remove-removing.ensures.answer) (ap adds_entry c.remove_answer.ensures ∙ c.remove-removing.ensures.entry)
    (subst (λ (n : ℕ). length (recording_text s.recorder) + n ≤ s.recorder.caps.recording)
    (c.remove_size.ensures ∙ ap (λ (b : List ℕ). 36 + length (string b)) c.bytes-bytes.ensures.value) c.in_default.ensures) in
    let on = plays s.server s.recorder s.entries c.args.caller (remove c.args.address.now)
    (answer_of c.remove_answer.result) c.remove-removing.new.self c.put.new.self c.args.self.now played c.self.view_is c.remove-removing.ensures.state
    (c.put.ensures
    ∙ ap (λ (b : List ℕ). appended s.recorder (record { caller = c.args.caller; event = remove b; answer = answer_of c.remove_answer.result }))
    c.bytes-bytes.ensures.value) in
    sym (on.answer_is ∙ c.remove_answer.ensures)

pub returns-clause-performance : goal.returns-clause-performance
returns-clause-performance c =
    let s = c.self.inside in
    let played = c.a_performance_is_played.ensures.played s.server s.recorder s.entries c.args.caller (remove c.args.address.now)
    (answer_of c.remove_answer.result) c.self.invariant (enrolled_in s.recorder c.args.self.now c.args.caller c.self.view_is c.requires)
    (subst (λ (b : List ℕ). IsTrue (is_address b)) c.bytes-bytes.ensures.value c.bytes-bytes.ensures.test)
    (c.remove_answer.ensures ∙ c.remove-removing.ensures.answer) (ap adds_entry c.remove_answer.ensures ∙ c.remove-removing.ensures.entry)
    (subst (λ (n : ℕ). length (recording_text s.recorder) + n ≤ s.recorder.caps.recording)
    (c.remove_size.ensures ∙ ap (λ (b : List ℕ). 36 + length (string b)) c.bytes-bytes.ensures.value) c.in_default.ensures) in
    let on = plays s.server s.recorder s.entries c.args.caller (remove c.args.address.now)
    (answer_of c.remove_answer.result) c.remove-removing.new.self c.put.new.self c.args.self.now played c.self.view_is c.remove-removing.ensures.state
    (c.put.ensures
    ∙ ap (λ (b : List ℕ). appended s.recorder (record { caller = c.args.caller; event = remove b; answer = answer_of c.remove_answer.result }))
    c.bytes-bytes.ensures.value) in
    on.performance

pub put-requires-clause-lawful : goal.put-requires-clause-lawful
put-requires-clause-lawful c =
    let s = c.self.inside in
    let played = c.a_performance_is_played.ensures.played s.server s.recorder s.entries c.args.caller (remove c.args.address.now)
    (answer_of c.remove_answer.result) c.self.invariant (enrolled_in s.recorder c.args.self.now c.args.caller c.self.view_is c.requires)
    (subst (λ (b : List ℕ). IsTrue (is_address b)) c.bytes-bytes.ensures.value c.bytes-bytes.ensures.test)
    (c.remove_answer.ensures ∙ c.remove-removing.ensures.answer) (ap adds_entry c.remove_answer.ensures ∙ c.remove-removing.ensures.entry)
    (subst (λ (n : ℕ). length (recording_text s.recorder) + n ≤ s.recorder.caps.recording)
    (c.remove_size.ensures ∙ ap (λ (b : List ℕ). 36 + length (string b)) c.bytes-bytes.ensures.value) c.in_default.ensures) in
    subst (λ (b : List ℕ). IsRecordable c.args.caller (remove b) (answer_of c.remove_answer.result)) (sym c.bytes-bytes.ensures.value) played.recordable

pub returns-clause-others : goal.returns-clause-others
returns-clause-others c =
    let s = c.self.inside in
    let played = c.a_performance_is_played.ensures.played s.server s.recorder s.entries c.args.caller (remove c.args.address.now)
    (answer_of c.remove_answer.result) c.self.invariant (enrolled_in s.recorder c.args.self.now c.args.caller c.self.view_is c.requires)
    (subst (λ (b : List ℕ). IsTrue (is_address b)) c.bytes-bytes.ensures.value c.bytes-bytes.ensures.test)
    (c.remove_answer.ensures ∙ c.remove-removing.ensures.answer) (ap adds_entry c.remove_answer.ensures ∙ c.remove-removing.ensures.entry)
    (subst (λ (n : ℕ). length (recording_text s.recorder) + n ≤ s.recorder.caps.recording)
    (c.remove_size.ensures ∙ ap (λ (b : List ℕ). 36 + length (string b)) c.bytes-bytes.ensures.value) c.in_default.ensures) in
    let on = plays s.server s.recorder s.entries c.args.caller (remove c.args.address.now)
    (answer_of c.remove_answer.result) c.remove-removing.new.self c.put.new.self c.args.self.now played c.self.view_is c.remove-removing.ensures.state
    (c.put.ensures
    ∙ ap (λ (b : List ℕ). appended s.recorder (record { caller = c.args.caller; event = remove b; answer = answer_of c.remove_answer.result }))
    c.bytes-bytes.ensures.value) in
    let left = c.remove-removing.result in
    let ids = λ (l : List Method). map (λ method. method.id) l in
    subst (λ (l : List Method). OnRemoved left (λ id _. ids l ≡ without id (ids (state_of c.args.self.now).methods)))
    (methods_are c.remove-removing.new.self c.put.new.self (s.entries + 1) (performance_of c.put.new.self) on.playing refl)
    (subst (λ (l : List Method). OnRemoved left (λ id _. ids c.remove-removing.new.self.methods ≡ without id (ids l)))
    (methods_are s.server s.recorder s.entries c.args.self.now c.self.invariant c.self.view_is) c.remove-removing.ensures.others)
