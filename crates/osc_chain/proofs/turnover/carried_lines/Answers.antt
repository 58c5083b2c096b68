use Rattle.std.proofs.Common.{◌≡◌, ◌≤◌, ◌<◌, ℕ, true, nat_lt, List, length, Ok, arith, rules, subst, sym}
use Rattle.std.proofs.lemmas.Bool.Decides.{nat_tests}
use Rattle.osc_model.specs.History.{after}
use Rattle.osc_model.specs.Limits.{max_recording}
use Rattle.osc_model.specs.State.{opening}
use Rattle.osc_script.specs.declared.mode.Mode.TheVariants.{Plain}
use Rattle.osc_script.specs.Scripts.{script_of}
use Rattle.osc_carry.specs.Carried.{carried, carried_size}
use Rattle.osc_chain.proofs.turnover.carried_lines.Goals as goal

pub returns-then-recording : goal.returns-then-recording
returns-then-recording c =
    λ caps history is.
    let over : nat_lt max_recording (length c.args.recording.now) ≡ true = search rules in
    let above : max_recording < length c.args.recording.now = grind (arith, nat_tests, over) in
    let within : length c.args.recording.now ≤ caps.recording =
    subst (λ (l : List ℕ). length l ≤ caps.recording) (sym is.text) (c.a_legal_history_is_recordable.ensures.within caps history is.legal) in
    let most : caps.recording ≤ max_recording = is.legal.0.recording.below in
    absurd (omega (arith, above, within, most))

pub lines_of-requires : goal.lines_of-requires
lines_of-requires c =
    let (caps, history, is, same) = c.in-Ok.ensures.ok in
    let leads = c.in-Ok.ensures.leads caps history (carried_size (after (opening caps) history)) is (omega arith) in
    (carried caps history, subst (λ (l : List ℕ). script_of Plain l ≡ Ok (carried caps history)) (sym c.deref.ensures.value) leads.read)
