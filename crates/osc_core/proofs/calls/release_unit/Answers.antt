use Rattle.std.proofs.Common.{◌≡◌, ℕ, ◌+◌, ◌*◌, ◌≤◌, List, length, map, take, sym, ap, subst, ◌∙◌}
use Rattle.osc_method.specs.declared.call.Call.{Call as CodeCall}
use Rattle.osc_model.specs.Step.{calls_of, hits_of, invocations_of}
use Rattle.osc_record.specs.Writing.{Recording, recording_text, with_release}
use Rattle.osc_model.specs.Calls.{call_by}
use Rattle.osc_core.specs.Recorded.{with_hits}
use Rattle.osc_core.proofs.Calling.{as_many_calls, hit, invoked, only_calls}
use Rattle.osc_core.proofs.Hearing.{hear_same}
use Rattle.osc_core.proofs.calls.release_unit.Goals as goal

pub returns-clause-recorder : goal.returns-clause-recorder
returns-clause-recorder g c =
    let message = c.in-Some.message in
    let methods = c.args.tree.now.methods in
    let old = c.args.recorder.now in
    let count = c.count_hits-count.result in
    let call : CodeCall = record { unit = c.args.due.unit; index = 0; message = message } in
    let ids = take count c.ids.result.now in
    let only = only_calls methods message c.args.due.messages c.in-Some.ensures in
    let same : c.in_ok-calls-2.calls ≡ count = c.in_ok-calls-2.ensures.count in
    let calls : map (call_by methods 0 message) ids ≡ calls_of methods 0 message =
    ap (λ (l : List ℕ). map (call_by methods 0 message) (take count l)) c.ids.ensures ∙ c.count_hits-count.ensures.calls 0 in (
      same ∙ c.count_hits-count.ensures.count ∙ sym (as_many_calls methods 0 message) ∙ sym (ap length only),
      subst (λ (n : ℕ). length (recording_text old) + (44 + 8 * n) ≤ old.caps.recording) (sym same) c.in_ok-calls-2.ensures.fits,
      c.invoke_ids.ensures.recorder
          ∙ ap (λ (r : Recording). with_hits r (map (λ id. record { index = 0; id = id }) ids)) c.in_ok-calls-2.ensures.begun
          ∙ ap (λ (n : ℕ). with_hits (with_release old c.args.due.caller c.args.due.unit n) (map (λ id. record { index = 0; id = id }) ids)) (sym same)
          ∙ ap (with_hits (with_release old c.args.due.caller c.args.due.unit c.in_ok-calls-2.calls)) (hit methods call ids ∙ ap hits_of (calls ∙ sym only)),
    )

pub returns-clause-boxes : goal.returns-clause-boxes
returns-clause-boxes g c =
    let message = c.in-Some.message in
    let methods = c.args.tree.now.methods in
    let count = c.count_hits-count.result in
    let call : CodeCall = record { unit = c.args.due.unit; index = 0; message = message } in
    let ids = take count c.ids.result.now in
    let only = only_calls methods message c.args.due.messages c.in-Some.ensures in
    let calls : map (call_by methods 0 message) ids ≡ calls_of methods 0 message =
    ap (λ (l : List ℕ). map (call_by methods 0 message) (take count l)) c.ids.ensures ∙ c.count_hits-count.ensures.calls 0 in
    hear_same _ _ _ _ (c.invoke_ids.ensures.boxes methods) (invoked methods call ids ∙ ap (invocations_of c.args.due.unit) (calls ∙ sym only))
