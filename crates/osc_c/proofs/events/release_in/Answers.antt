use Rattle.std.proofs.Common.{◌≡◌, List, true, length, sym, ap, subst, ◌∙◌, arith}
use Rattle.std.proofs.lemmas.List.{drop_all}
use Rattle.std.specs.List.{list_all}
use Rattle.osc_model.specs.History.{Performance, state_of}
use Rattle.osc_core.specs.Invoked.{Call, last_calls}
use Rattle.osc_c.specs.Reading.{left_of}
use Rattle.osc_c.specs.Short.{is_short}
use Rattle.osc_c.proofs.Reading.{released_last, waiting_last, short_released}
use Rattle.osc_c.proofs.events.release_in.Goals as goal
use Rattle.osc_c.proofs.events.release_in.Goals.{in-Released, in_default}

pub returns-clause-unread : goal.returns-clause-unread
returns-clause-unread c =
    let old = c.args.state.now in
    let next = c.release-releasing.new.self.performance in
    elim c.match-releasing.branch [
      | in-Released w ↦
          ap left_of w.state-is
          ∙ (released_last c.release-releasing.result w.in-Released.unit w.in-Released.calls old.core.performance next c.args.caller w.in-Released.is
          c.release-releasing.ensures.answer c.release-releasing.ensures.performance).are
      | in_default w ↦
          let left = waiting_last c.release-releasing.result old.core.performance next c.args.caller c.release-releasing.ensures.answer
          w.in_default.not-Released c.release-releasing.ensures.performance in
          let counted = old.counted in
          ap left_of w.state-is ∙ drop_all old.calls (last_calls next) (omega (arith, counted, ap (λ (p : Performance). length (last_calls p)) left.same))
          ∙ sym left.none
    ]

pub invariant_of-state : goal.invariant_of-state
invariant_of-state c =
    let old = c.args.state.now.core.performance in
    let next = c.release-releasing.new.self.performance in
    let left = released_last c.release-releasing.result c.in-Released.unit c.in-Released.calls old next c.args.caller c.in-Released.is
    c.release-releasing.ensures.answer c.release-releasing.ensures.performance in
    record {
      counted = left.many;
      within = omega arith;
      short = subst (λ (l : List Call). list_all is_short l ≡ true) (sym left.are)
          (short_released (state_of old) (c.a_server_stays_sound.ensures.after old.caps old.history c.bytes.ensures.legal));
    }
