use Rattle.std.proofs.Common.{ap, ◌∙◌}
use Rattle.std.proofs.lemmas.Simd.{map-map}
use Rattle.osc_model.specs.Heard.{Told}
use Rattle.osc_core.specs.Ids.{is_ascending}
use Rattle.osc_core.proofs.Texts.{TextLaws, own_texts}
use Rattle.osc_core.proofs.kept.CoreKept.entries.Goals as goal

pub returns-clause-stands : goal.returns-clause-stands
returns-clause-stands g c =
    let laws : TextLaws =
    record {
      all = c.a_legal_history_is_recordable.ensures.all;
      within = c.a_legal_history_is_recordable.ensures.within;
      again = c.a_written_entry_is_read_again.ensures;
    } in
    let core = c.args.self.now in
    own_texts laws core.performance _ (ap is_ascending (map-map (λ (told : Told). told.id) _ core.boxes.items) ∙ core.ascending) c.bytes.ensures.legal
    core.heard
