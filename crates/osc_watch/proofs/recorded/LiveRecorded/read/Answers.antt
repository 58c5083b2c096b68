use Rattle.osc_turn.specs.Passes.{view}
use Rattle.osc_live.specs.Seen.{history_of}
use Rattle.osc_live.proofs.Looked.{looked_once}
use Rattle.osc_watch.proofs.ServerReads.{goes_on, recorded, risen}
use Rattle.osc_watch.proofs.recorded.LiveRecorded.read.Goals as goal

pub returns-clause-goes_on : goal.returns-clause-goes_on
returns-clause-goes_on g c = goes_on (view c.args.token.pass) (view c.read.result.0.pass) c.read.ensures.read.goes_on

pub returns-clause-recorded : goal.returns-clause-recorded
returns-clause-recorded g c =
    recorded c.args.self.now.caps (history_of (view c.read.result.0.pass)) c.a_legal_history_is_recordable.ensures.all
    c.a_legal_history_is_recordable.ensures.within
    c.read.ensures.read.legal

pub returns-clause-writes : goal.returns-clause-writes
returns-clause-writes g c = record { bytes = c.read.ensures.read.writes.bytes; counted = c.read.ensures.read.writes.counted }

pub returns-clause-taken : goal.returns-clause-taken
returns-clause-taken g c = risen (view c.args.token.pass) (view c.read.result.0.pass) c.read.ensures.read.once

pub returns-clause-looks : goal.returns-clause-looks
returns-clause-looks g c =
    let read = c.read.ensures.read in
    looked_once (view c.args.token.pass) (view c.read.result.0.pass) read.once read.goes_on read.own_same
