use Rattle.std.proofs.Common.{◌∙◌, length, ap}
use Rattle.std.proofs.lemmas.Result.{IfOk-weaker}
use Rattle.osc_record.specs.Left.{entries_left}
use Rattle.osc_replay.specs.declared.counts.Counts.{Counts}
use Rattle.osc_replay.specs.Counted.{counts_text}
use Rattle.osc_replay.proofs.Replayed.{formed_of}
use Rattle.osc_replay.proofs.Tallies.{is_light, summed}
use Rattle.osc_replay.proofs.sums.summary.Goals as goal

pub unreachable-requires : goal.unreachable-requires
unreachable-requires c =
    let laws = c.a_legal_history_is_recordable.ensures in
    let is = c.requires.2 in
    c.in_default.ensures.complete c.requires.0 c.requires.1 (formed_of laws.all laws.within c.requires.0 c.requires.1 is.legal).record_ is.text

pub count_entries-counts-requires : goal.count_entries-counts-requires
count_entries-counts-requires c =
    let laws = c.a_legal_history_is_recordable.ensures in
    let is = c.requires.2 in
    let read = c.in-Ok.ensures.complete c.requires.0 c.requires.1 (formed_of laws.all laws.within c.requires.0 c.requires.1 is.legal).record_ is.text in
    is_light laws.all laws.within c.args.recording.now (entries_left c.entries.result) c.requires.0 c.requires.1 is (c.entries.ensures ∙ read.1)

pub returns : goal.returns
returns c = λ caps history is.
    (let laws = c.a_legal_history_is_recordable.ensures in
    let read = c.in-Ok.ensures.complete caps history (formed_of laws.all laws.within caps history is.legal).record_ is.text in
    IfOk-weaker c.counts_text.result _ _
    (λ text e. summed c.args.recording.now text (entries_left c.entries.result) caps history is (c.entries.ensures ∙ read.1)
    (e ∙ ap (λ (k : Counts). counts_text k (length c.args.recording.now)) c.count_entries-counts.ensures))
    c.counts_text.ensures)
