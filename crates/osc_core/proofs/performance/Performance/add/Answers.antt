use Rattle.std.proofs.Common.{◌≡◌, ℕ, ◌+◌, ◌<◌, ◌≤◌, IsTrue, List, [], ◌∷◌, ◌++◌, length, map, Option, unwrap_or, refl, sym, ap, subst, ◌∙◌}
use Rattle.osc_atoms.specs.Atoms.{string}
use Rattle.osc_pattern.specs.Addresses.{is_address}
use Rattle.osc_pattern.specs.Methods.{Method}
use Rattle.osc_model.specs.Events.{add, added, adds_entry}
use Rattle.osc_model.specs.Recordings.{IsRecordable, entry_size}
use Rattle.osc_model.specs.History.{state_of}
use Rattle.osc_record.specs.Shown.{answer_of}
use Rattle.osc_record.specs.Writing.{recording_text, appended}
use Rattle.osc_core.specs.Playing.{performance_of}
use Rattle.osc_core.proofs.Played.{others_add, refuses, plays, enrolled_in, methods_are, method_limit_is}
use Rattle.osc_core.proofs.performance.Performance.add.Goals as goal

pub returns-in-Some-clause-refused : goal.returns-in-Some-clause-refused
returns-in-Some-clause-refused c =
    let s = c.self.inside in
    let full = refuses c.a_performance_is_played.ensures.full s.server s.recorder s.entries c.args.caller
    (add c.args.address) c.in-Some.room c.add_size.result c.args.self.now c.self.invariant c.self.view_is
    (others_add s.server (add c.args.address) (λ other. cc))
    (c.add_size.ensures ∙ ap (λ (b : List ℕ). 40 + length (string b)) c.bytes.ensures.value) c.in-Some.ensures in
    full.answer

pub returns-in-Some-clause-performance : goal.returns-in-Some-clause-performance
returns-in-Some-clause-performance c =
    let s = c.self.inside in
    let full = refuses c.a_performance_is_played.ensures.full s.server s.recorder s.entries c.args.caller
    (add c.args.address) c.in-Some.room c.add_size.result c.args.self.now c.self.invariant c.self.view_is
    (others_add s.server (add c.args.address) (λ other. cc))
    (c.add_size.ensures ∙ ap (λ (b : List ℕ). 40 + length (string b)) c.bytes.ensures.value) c.in-Some.ensures in
    sym full.stays

pub put-requires-clause-lawful : goal.put-requires-clause-lawful
put-requires-clause-lawful c =
    let s = c.self.inside in
    let event = add c.args.address in
    let sized : entry_size event (added c.in-Ok.id) ≡ c.add_size.result =
    sym (c.add_size.ensures ∙ ap (λ (b : List ℕ). 40 + length (string b)) c.bytes.ensures.value) in
    let played = c.a_performance_is_played.ensures.played s.server s.recorder s.entries c.args.caller event (added c.in-Ok.id) c.self.invariant
    (enrolled_in s.recorder c.args.self.now c.args.caller c.self.view_is c.requires)
    (subst (λ (b : List ℕ). IsTrue (is_address b)) c.bytes.ensures.value c.bytes.ensures.test) (sym c.in-Ok.ensures.added) refl
    (subst (λ (n : ℕ). length (recording_text s.recorder) + n ≤ s.recorder.caps.recording) (sym sized) c.in_default.ensures) in
    let found : c.address_of-address.result.now ≡ c.args.address =
    ap (λ (o : Option (List ℕ)). unwrap_or o []) (c.address_of-address.ensures ∙ c.in-Ok.ensures.found) in
    subst (λ (b : List ℕ). IsRecordable c.args.caller (add b) (added c.in-Ok.id)) (sym found) played.recordable

pub invariant_of-self : goal.invariant_of-self
invariant_of-self c =
    let s = c.self.inside in
    let event = add c.args.address in
    let sized : entry_size event (added c.in-Ok.id) ≡ c.add_size.result =
    sym (c.add_size.ensures ∙ ap (λ (b : List ℕ). 40 + length (string b)) c.bytes.ensures.value) in
    let played = c.a_performance_is_played.ensures.played s.server s.recorder s.entries c.args.caller event (added c.in-Ok.id) c.self.invariant
    (enrolled_in s.recorder c.args.self.now c.args.caller c.self.view_is c.requires)
    (subst (λ (b : List ℕ). IsTrue (is_address b)) c.bytes.ensures.value c.bytes.ensures.test) (sym c.in-Ok.ensures.added) refl
    (subst (λ (n : ℕ). length (recording_text s.recorder) + n ≤ s.recorder.caps.recording) (sym sized) c.in_default.ensures) in
    let found : c.address_of-address.result.now ≡ c.args.address =
    ap (λ (o : Option (List ℕ)). unwrap_or o []) (c.address_of-address.ensures ∙ c.in-Ok.ensures.found) in
    let on = plays s.server s.recorder s.entries c.args.caller event
    (added c.in-Ok.id) c.add.new.self c.put.new.self c.args.self.now played c.self.view_is c.add.ensures.state
    (c.put.ensures ∙ ap (λ (b : List ℕ). appended s.recorder (record { caller = c.args.caller; event = add b; answer = added c.in-Ok.id })) found) in
    on.playing

pub returns-in-Ok-clause-added : goal.returns-in-Ok-clause-added
returns-in-Ok-clause-added c =
    let s = c.self.inside in
    let event = add c.args.address in
    let sized : entry_size event (added c.in-Ok.id) ≡ c.add_size.result =
    sym (c.add_size.ensures ∙ ap (λ (b : List ℕ). 40 + length (string b)) c.bytes.ensures.value) in
    let played = c.a_performance_is_played.ensures.played s.server s.recorder s.entries c.args.caller event (added c.in-Ok.id) c.self.invariant
    (enrolled_in s.recorder c.args.self.now c.args.caller c.self.view_is c.requires)
    (subst (λ (b : List ℕ). IsTrue (is_address b)) c.bytes.ensures.value c.bytes.ensures.test) (sym c.in-Ok.ensures.added) refl
    (subst (λ (n : ℕ). length (recording_text s.recorder) + n ≤ s.recorder.caps.recording) (sym sized) c.in_default.ensures) in
    let found : c.address_of-address.result.now ≡ c.args.address =
    ap (λ (o : Option (List ℕ)). unwrap_or o []) (c.address_of-address.ensures ∙ c.in-Ok.ensures.found) in
    let on = plays s.server s.recorder s.entries c.args.caller event
    (added c.in-Ok.id) c.add.new.self c.put.new.self c.args.self.now played c.self.view_is c.add.ensures.state
    (c.put.ensures ∙ ap (λ (b : List ℕ). appended s.recorder (record { caller = c.args.caller; event = add b; answer = added c.in-Ok.id })) found) in
    on.answer_is

pub returns-in-Ok-clause-performance : goal.returns-in-Ok-clause-performance
returns-in-Ok-clause-performance c =
    let s = c.self.inside in
    let event = add c.args.address in
    let sized : entry_size event (added c.in-Ok.id) ≡ c.add_size.result =
    sym (c.add_size.ensures ∙ ap (λ (b : List ℕ). 40 + length (string b)) c.bytes.ensures.value) in
    let played = c.a_performance_is_played.ensures.played s.server s.recorder s.entries c.args.caller event (added c.in-Ok.id) c.self.invariant
    (enrolled_in s.recorder c.args.self.now c.args.caller c.self.view_is c.requires)
    (subst (λ (b : List ℕ). IsTrue (is_address b)) c.bytes.ensures.value c.bytes.ensures.test) (sym c.in-Ok.ensures.added) refl
    (subst (λ (n : ℕ). length (recording_text s.recorder) + n ≤ s.recorder.caps.recording) (sym sized) c.in_default.ensures) in
    let found : c.address_of-address.result.now ≡ c.args.address =
    ap (λ (o : Option (List ℕ)). unwrap_or o []) (c.address_of-address.ensures ∙ c.in-Ok.ensures.found) in
    let on = plays s.server s.recorder s.entries c.args.caller event
    (added c.in-Ok.id) c.add.new.self c.put.new.self c.args.self.now played c.self.view_is c.add.ensures.state
    (c.put.ensures ∙ ap (λ (b : List ℕ). appended s.recorder (record { caller = c.args.caller; event = add b; answer = added c.in-Ok.id })) found) in
    on.performance

pub returns-in-Ok-clause-ids : goal.returns-in-Ok-clause-ids
returns-in-Ok-clause-ids c =
    let s = c.self.inside in
    let event = add c.args.address in
    let sized : entry_size event (added c.in-Ok.id) ≡ c.add_size.result =
    sym (c.add_size.ensures ∙ ap (λ (b : List ℕ). 40 + length (string b)) c.bytes.ensures.value) in
    let played = c.a_performance_is_played.ensures.played s.server s.recorder s.entries c.args.caller event (added c.in-Ok.id) c.self.invariant
    (enrolled_in s.recorder c.args.self.now c.args.caller c.self.view_is c.requires)
    (subst (λ (b : List ℕ). IsTrue (is_address b)) c.bytes.ensures.value c.bytes.ensures.test) (sym c.in-Ok.ensures.added) refl
    (subst (λ (n : ℕ). length (recording_text s.recorder) + n ≤ s.recorder.caps.recording) (sym sized) c.in_default.ensures) in
    let found : c.address_of-address.result.now ≡ c.args.address =
    ap (λ (o : Option (List ℕ)). unwrap_or o []) (c.address_of-address.ensures ∙ c.in-Ok.ensures.found) in
    let on = plays s.server s.recorder s.entries c.args.caller event
    (added c.in-Ok.id) c.add.new.self c.put.new.self c.args.self.now played c.self.view_is c.add.ensures.state
    (c.put.ensures ∙ ap (λ (b : List ℕ). appended s.recorder (record { caller = c.args.caller; event = add b; answer = added c.in-Ok.id })) found) in
    let ids = λ (l : List Method). map (λ method. method.id) l in
    subst (λ (l : List Method). ids l ≡ ids (state_of c.args.self.now).methods ++ c.in-Ok.id ∷ [])
    (methods_are c.add.new.self c.put.new.self (s.entries + 1) (performance_of c.put.new.self) on.playing refl)
    (subst (λ (l : List Method). ids c.add.new.self.methods ≡ ids l ++ c.in-Ok.id ∷ [])
    (methods_are s.server s.recorder s.entries c.args.self.now c.self.invariant c.self.view_is) c.in-Ok.ensures.ids)

pub returns-in-Ok-clause-room : goal.returns-in-Ok-clause-room
returns-in-Ok-clause-room c =
    let s = c.self.inside in
    subst (λ (n : ℕ). length (state_of c.args.self.now).methods < n)
    (method_limit_is s.server s.recorder s.entries c.args.self.now c.self.invariant c.self.view_is)
    (subst (λ (l : List Method). length l < s.server.caps.methods)
    (methods_are s.server s.recorder s.entries c.args.self.now c.self.invariant c.self.view_is) c.in-Ok.ensures.room)

pub put-requires-in-Err-clause-lawful : goal.put-requires-in-Err-clause-lawful
put-requires-in-Err-clause-lawful c =
    let s = c.self.inside in
    let event = add c.args.address in
    let answer = answer_of c.from-answer.result in
    let sized : entry_size event answer ≡ c.add_size.result = sym (c.add_size.ensures ∙ ap (λ (b : List ℕ). 40 + length (string b)) c.bytes.ensures.value) in
    let played = c.a_performance_is_played.ensures.played s.server s.recorder s.entries c.args.caller event answer c.self.invariant
    (enrolled_in s.recorder c.args.self.now c.args.caller c.self.view_is c.requires)
    (subst (λ (b : List ℕ). IsTrue (is_address b)) c.bytes.ensures.value c.bytes.ensures.test) (c.from-answer.ensures.value ∙ sym c.in-Err.ensures.refused)
    (ap adds_entry c.from-answer.ensures.value)
    (subst (λ (n : ℕ). length (recording_text s.recorder) + n ≤ s.recorder.caps.recording) (sym sized) c.in_default.ensures) in
    let found : c.bytes-in-Err.result.now ≡ c.args.address = c.bytes-in-Err.ensures.value ∙ c.in-Err.ensures.handed_back in
    subst (λ (b : List ℕ). IsRecordable c.args.caller (add b) answer) (sym found) played.recordable

pub invariant_of-self-in-Err : goal.invariant_of-self-in-Err
invariant_of-self-in-Err c =
    let s = c.self.inside in
    let event = add c.args.address in
    let answer = answer_of c.from-answer.result in
    let sized : entry_size event answer ≡ c.add_size.result = sym (c.add_size.ensures ∙ ap (λ (b : List ℕ). 40 + length (string b)) c.bytes.ensures.value) in
    let played = c.a_performance_is_played.ensures.played s.server s.recorder s.entries c.args.caller event answer c.self.invariant
    (enrolled_in s.recorder c.args.self.now c.args.caller c.self.view_is c.requires)
    (subst (λ (b : List ℕ). IsTrue (is_address b)) c.bytes.ensures.value c.bytes.ensures.test) (c.from-answer.ensures.value ∙ sym c.in-Err.ensures.refused)
    (ap adds_entry c.from-answer.ensures.value)
    (subst (λ (n : ℕ). length (recording_text s.recorder) + n ≤ s.recorder.caps.recording) (sym sized) c.in_default.ensures) in
    let found : c.bytes-in-Err.result.now ≡ c.args.address = c.bytes-in-Err.ensures.value ∙ c.in-Err.ensures.handed_back in
    let on = plays s.server s.recorder s.entries c.args.caller event answer c.add.new.self c.put-in-Err.new.self c.args.self.now played c.self.view_is
    c.add.ensures.state
    (c.put-in-Err.ensures ∙ ap (λ (b : List ℕ). appended s.recorder (record { caller = c.args.caller; event = add b; answer = answer })) found) in
    on.playing

pub returns-in-Err-clause-refused : goal.returns-in-Err-clause-refused
returns-in-Err-clause-refused c =
    let s = c.self.inside in
    let event = add c.args.address in
    let answer = answer_of c.from-answer.result in
    let sized : entry_size event answer ≡ c.add_size.result = sym (c.add_size.ensures ∙ ap (λ (b : List ℕ). 40 + length (string b)) c.bytes.ensures.value) in
    let played = c.a_performance_is_played.ensures.played s.server s.recorder s.entries c.args.caller event answer c.self.invariant
    (enrolled_in s.recorder c.args.self.now c.args.caller c.self.view_is c.requires)
    (subst (λ (b : List ℕ). IsTrue (is_address b)) c.bytes.ensures.value c.bytes.ensures.test) (c.from-answer.ensures.value ∙ sym c.in-Err.ensures.refused)
    (ap adds_entry c.from-answer.ensures.value)
    (subst (λ (n : ℕ). length (recording_text s.recorder) + n ≤ s.recorder.caps.recording) (sym sized) c.in_default.ensures) in
    let found : c.bytes-in-Err.result.now ≡ c.args.address = c.bytes-in-Err.ensures.value ∙ c.in-Err.ensures.handed_back in
    let on = plays s.server s.recorder s.entries c.args.caller event answer c.add.new.self c.put-in-Err.new.self c.args.self.now played c.self.view_is
    c.add.ensures.state
    (c.put-in-Err.ensures ∙ ap (λ (b : List ℕ). appended s.recorder (record { caller = c.args.caller; event = add b; answer = answer })) found) in
    on.answer_is ∙ c.from-answer.ensures.value ∙ sym c.refusal_in_words.ensures

pub returns-in-Err-clause-performance : goal.returns-in-Err-clause-performance
returns-in-Err-clause-performance c =
    let s = c.self.inside in
    let event = add c.args.address in
    let answer = answer_of c.from-answer.result in
    let sized : entry_size event answer ≡ c.add_size.result = sym (c.add_size.ensures ∙ ap (λ (b : List ℕ). 40 + length (string b)) c.bytes.ensures.value) in
    let played = c.a_performance_is_played.ensures.played s.server s.recorder s.entries c.args.caller event answer c.self.invariant
    (enrolled_in s.recorder c.args.self.now c.args.caller c.self.view_is c.requires)
    (subst (λ (b : List ℕ). IsTrue (is_address b)) c.bytes.ensures.value c.bytes.ensures.test) (c.from-answer.ensures.value ∙ sym c.in-Err.ensures.refused)
    (ap adds_entry c.from-answer.ensures.value)
    (subst (λ (n : ℕ). length (recording_text s.recorder) + n ≤ s.recorder.caps.recording) (sym sized) c.in_default.ensures) in
    let found : c.bytes-in-Err.result.now ≡ c.args.address = c.bytes-in-Err.ensures.value ∙ c.in-Err.ensures.handed_back in
    let on = plays s.server s.recorder s.entries c.args.caller event answer c.add.new.self c.put-in-Err.new.self c.args.self.now played c.self.view_is
    c.add.ensures.state
    (c.put-in-Err.ensures ∙ ap (λ (b : List ℕ). appended s.recorder (record { caller = c.args.caller; event = add b; answer = answer })) found) in
    on.performance
