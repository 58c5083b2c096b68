use Rattle.std.proofs.Common.{◌≡◌, rules, Err, sym, subst, arith}
use Rattle.osc_carry.specs.Answers.{OnTooLong}
use Rattle.osc_carry.proofs.Carrying.{Stands, stands_of, stand_short, text_of, answer_ok, answer_leads, answer_long, answer_complete, answer_malformed}
use Rattle.osc_carry.proofs.Carrying.{answer_disagrees, none_long, IsTooLong}
use Rattle.osc_carry.proofs.script.carry.Goals as goal

pub returns-in_err-story-clause-too_long : goal.returns-in_err-story-clause-too_long
returns-in_err-story-clause-too_long c =
    let is : c.from_residual.result ≡ Err (c.in_err-story.field-0).0 = search rules in
    none_long c.from_residual.result (IsTooLong c.args.recording.now) (subst (λ r. OnTooLong r ⊥) (sym is) c.in_err-story.ensures.short)

pub script_of-requires : goal.script_of-requires
script_of-requires c =
    let stands : Stands c.args.recording.now c.in_ok-story.story =
    stands_of (record {
      all = c.a_legal_history_is_recordable.ensures.all;
      within = c.a_legal_history_is_recordable.ensures.within;
      apart = c.texts_differ.ensures;
    }) c.entries_show_the_state.ensures c.args.recording.now c.in_ok-story.story (λ i. omega (arith, c.type_inv.recording i))
    c.in_ok-story.ensures.ok in
    stand_short c.args.recording.now c.in_ok-story.story stands c.a_waiting_unit_is_short.ensures

pub returns-clause-ok : goal.returns-clause-ok
returns-clause-ok c =
    let stands : Stands c.args.recording.now c.in_ok-story.story =
    stands_of (record {
      all = c.a_legal_history_is_recordable.ensures.all;
      within = c.a_legal_history_is_recordable.ensures.within;
      apart = c.texts_differ.ensures;
    }) c.entries_show_the_state.ensures c.args.recording.now c.in_ok-story.story (λ i. omega (arith, c.type_inv.recording i))
    c.in_ok-story.ensures.ok in
    answer_ok (λ script. script.items) c.args.recording.now c.in_ok-story.story stands c.script_of.result c.script_of.ensures

pub returns-clause-leads : goal.returns-clause-leads
returns-clause-leads c =
    let stands : Stands c.args.recording.now c.in_ok-story.story =
    stands_of (record {
      all = c.a_legal_history_is_recordable.ensures.all;
      within = c.a_legal_history_is_recordable.ensures.within;
      apart = c.texts_differ.ensures;
    }) c.entries_show_the_state.ensures c.args.recording.now c.in_ok-story.story (λ i. omega (arith, c.type_inv.recording i))
    c.in_ok-story.ensures.ok in
    answer_leads (λ script. script.items) c.args.recording.now c.in_ok-story.story stands c.a_carried_script_leads_there.ensures
    c.script_of.result c.script_of.ensures

pub returns-clause-too_long : goal.returns-clause-too_long
returns-clause-too_long c =
    let stands : Stands c.args.recording.now c.in_ok-story.story =
    stands_of (record {
      all = c.a_legal_history_is_recordable.ensures.all;
      within = c.a_legal_history_is_recordable.ensures.within;
      apart = c.texts_differ.ensures;
    }) c.entries_show_the_state.ensures c.args.recording.now c.in_ok-story.story (λ i. omega (arith, c.type_inv.recording i))
    c.in_ok-story.ensures.ok in
    answer_long (λ script. script.items) c.args.recording.now c.in_ok-story.story stands c.script_of.result c.script_of.ensures

pub returns-clause-complete : goal.returns-clause-complete
returns-clause-complete c =
    let stands : Stands c.args.recording.now c.in_ok-story.story =
    stands_of (record {
      all = c.a_legal_history_is_recordable.ensures.all;
      within = c.a_legal_history_is_recordable.ensures.within;
      apart = c.texts_differ.ensures;
    }) c.entries_show_the_state.ensures c.args.recording.now c.in_ok-story.story (λ i. omega (arith, c.type_inv.recording i))
    c.in_ok-story.ensures.ok in
    answer_complete (λ script. script.items) c.args.recording.now c.in_ok-story.story stands c.script_of.result c.script_of.ensures

pub returns-clause-malformed : goal.returns-clause-malformed
returns-clause-malformed c = answer_malformed (λ script. script.items) c.script_of.result (text_of c.in_ok-story.story) _ c.script_of.ensures

pub returns-clause-disagrees : goal.returns-clause-disagrees
returns-clause-disagrees c = answer_disagrees (λ script. script.items) c.script_of.result (text_of c.in_ok-story.story) _ c.script_of.ensures
