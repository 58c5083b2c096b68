use Rattle.osc_record.specs.Reading.{unplaced}
use Rattle.osc_carry.proofs.Carrying.{OfRecordings, is_record, recording_read}
use Rattle.osc_carry.proofs.recording.story_of.Goals as goal

pub unreachable-requires : goal.unreachable-requires
unreachable-requires c =
    let known : OfRecordings = record {
      all = c.a_legal_history_is_recordable.ensures.all;
      within = c.a_legal_history_is_recordable.ensures.within;
      apart = c.texts_differ.ensures;
    } in
    let (caps, history, is, counts) = c.in_ok-check.ensures.ok in
    c.in-Err.ensures.complete caps history (is_record known caps history is.legal) is.text

pub seen-requires : goal.seen-requires
seen-requires c =
    let known : OfRecordings = record {
      all = c.a_legal_history_is_recordable.ensures.all;
      within = c.a_legal_history_is_recordable.ensures.within;
      apart = c.texts_differ.ensures;
    } in
    let (caps, history, is, counts) = c.in_ok-check.ensures.ok in
    let entries = unplaced c.in-Ok.reader.entries in
    let (read, text) = c.in-Ok.ensures.written in
    let recorded = recording_read known c.args.recording.now caps c.in-Ok.reader.caps history entries is read text in
    c.a_legal_history_agrees.ensures c.in-Ok.reader.caps entries recorded.legal

pub returns-clause-ok : goal.returns-clause-ok
returns-clause-ok c =
    let known : OfRecordings = record {
      all = c.a_legal_history_is_recordable.ensures.all;
      within = c.a_legal_history_is_recordable.ensures.within;
      apart = c.texts_differ.ensures;
    } in
    let (caps, history, is, counts) = c.in_ok-check.ensures.ok in
    let entries = unplaced c.in-Ok.reader.entries in
    let (read, text) = c.in-Ok.ensures.written in (
      c.in-Ok.reader.caps,
      entries,
      recording_read known c.args.recording.now caps c.in-Ok.reader.caps history entries is read text,
      c.in_ok-seen-in-Ok.ensures,
    )
