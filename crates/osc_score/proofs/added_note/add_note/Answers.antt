use Rattle.std.proofs.Common.{Result, refl, subst}
use Rattle.osc_packet.specs.Bundling.{Bundling}
use Rattle.osc_script.specs.declared.fault.LineRefusal.{LineRefusal}
use Rattle.osc_score.specs.declared.fault.ScoreFaultKind.{ScoreFaultKind}
use Rattle.osc_score.specs.Scores.{groups_of}
use Rattle.osc_score.specs.Reading.{extended}
use Rattle.osc_score.specs.Keeping.{PushesNote}
use Rattle.osc_score.proofs.Noted.{id_new, few_addresses, refused_goes, runs_kept, note_kept}
use Rattle.osc_score.proofs.added_note.add_note.Goals as goal

pub register-requires-clause-new : goal.register-requires-clause-new
register-requires-clause-new c = id_new c.args.reader.now c.requires

pub register-requires-clause-few : goal.register-requires-clause-few
register-requires-clause-few c = few_addresses c.args.reader.now c.requires

pub returns-in-Err : goal.returns-in-Err
returns-in-Err c notes note keeps tag_is address_is text_is =
    refused_goes notes note _ (extended (groups_of notes) note) c.push_message.new.runs.items c.in-Err.refusal
    (subst (λ (r : Result Bundling (LineRefusal ScoreFaultKind)).
    PushesNote r (groups_of notes) (extended (groups_of notes) note) note c.push_message.new.runs.items)
    c.in-Err.is
    (c.push_message.ensures (groups_of notes) note (runs_kept c.args.reader.now notes c.take-last.result keeps c.take-last.ensures.value) tag_is text_is))

pub returns : goal.returns
returns c notes note keeps tag_is address_is text_is =
    note_kept notes note c.args.reader.now _ c.args.tag c.args.address c.in-Ok.bundler c.register.result c.requires keeps tag_is address_is
    (subst (λ (r : Result Bundling (LineRefusal ScoreFaultKind)).
    PushesNote r (groups_of notes) (extended (groups_of notes) note) note c.push_message.new.runs.items) c.in-Ok.is
    (c.push_message.ensures (groups_of notes) note (runs_kept c.args.reader.now notes c.take-last.result keeps c.take-last.ensures.value) tag_is text_is))
    refl refl c.register.ensures
