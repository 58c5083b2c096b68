use Rattle.std.proofs.Common.{◌≡◌, ℕ, ◌+◌, Bool, cond, Err, refl, sym, subst, ap, ◌∙◌, arith, rules}
use Rattle.osc_model.specs.Events.{is_added}
use Rattle.osc_record.specs.Left.{placed_of}
use Rattle.osc_record.specs.Unread.{Reads}
use Rattle.osc_replay.specs.Onward.{IsReplayedTo}
use Rattle.osc_replay.specs.Printed.{printed}
use Rattle.osc_replay.specs.declared.row.Row.{Row}
use Rattle.osc_replay.specs.declared.fault.ReplayFault.TheVariants.{Malformed}
use Rattle.osc_replay.proofs.Formed.{of_some, of_none, row_lawful}
use Rattle.osc_replay.proofs.Replayed.{reached, few_played, stops_disagreeing, stops_short, next_unformed, later_unformed, none_malformed}
use Rattle.osc_replay.proofs.Further.{played_of, replayed_more, few_counted, replayed_all, short_at_most}
use Rattle.osc_replay.proofs.played.Played.play_rest.Goals as goal

pub loop-row-init : goal.loop-row-init
loop-row-init c = record { replayed = c.requires.replayed; recording = refl; caps = refl; printed = c.requires.printed }

pub returns-in_err-row-clause-malformed : goal.returns-in_err-row-clause-malformed
returns-in_err-row-clause-malformed c =
    let at = c.in_err-row.field-0.0.at in
    let same : c.from_residual.result ≡ Err (Malformed at) = search rules in
    rw same (next_unformed c.args.self.now.recording.now c.loop-row.unread c.loop-row.self.server c.loop-row.self.text c.loop-row.self.entries at
    (played_of c.args.self.now.recording.now c.loop-row.unread c.loop-row.self.server c.loop-row.self.text c.loop-row.self.entries
    c.loop-row.self.adds c.loop-row.invariant.replayed) c.in_err-row.ensures.err)

pub returns-in_err-row-clause-complete : goal.returns-in_err-row-clause-complete
returns-in_err-row-clause-complete c =
    let at = c.in_err-row.field-0.0.at in
    let same : c.from_residual.result ≡ Err (Malformed at) = search rules in
    λ caps history is. rw same
    (none_malformed c.a_legal_history_is_recordable.ensures.all c.a_legal_history_is_recordable.ensures.within c.args.self.now.recording.now at caps history
    (next_unformed c.args.self.now.recording.now c.loop-row.unread c.loop-row.self.server c.loop-row.self.text c.loop-row.self.entries at
    (played_of c.args.self.now.recording.now c.loop-row.unread c.loop-row.self.server c.loop-row.self.text c.loop-row.self.entries
    c.loop-row.self.adds c.loop-row.invariant.replayed) c.in_err-row.ensures.err)
    is)

pub replay_row-requires-clause-reached : goal.replay_row-requires-clause-reached
replay_row-requires-clause-reached c =
    reached c.args.self.now.recording.now c.loop-row.unread c.loop-row.self.server c.loop-row.self.text c.loop-row.self.entries
    (played_of c.args.self.now.recording.now c.loop-row.unread c.loop-row.self.server c.loop-row.self.text c.loop-row.self.entries
    c.loop-row.self.adds c.loop-row.invariant.replayed)

pub replay_row-requires-clause-printed : goal.replay_row-requires-clause-printed
replay_row-requires-clause-printed c = c.loop-row.invariant.printed

pub returns-in-Some-first_malformed-clause-malformed : goal.returns-in-Some-first_malformed-clause-malformed
returns-in-Some-first_malformed-clause-malformed c =
    let row = c.in-Some.row in
    let reads = of_some (λ (row : Row). Reads c.loop-row.unread (placed_of row.entry) c.next_row.new.unread) c.in_ok-row.field-0 c.in-Some.row c.in-Some.is
    c.in_ok-row.ensures.read in
    later_unformed c.args.self.now.recording.now c.loop-row.unread c.next_row.new.unread
    (placed_of row.entry) c.loop-row.self.server c.loop-row.self.text c.loop-row.self.entries c.in-Some-first_malformed.at
    (played_of c.args.self.now.recording.now c.loop-row.unread c.loop-row.self.server c.loop-row.self.text c.loop-row.self.entries
    c.loop-row.self.adds c.loop-row.invariant.replayed) reads
    (row_lawful row) c.in-Some-first_malformed.ensures.some

pub returns-in-Some-first_malformed-clause-complete : goal.returns-in-Some-first_malformed-clause-complete
returns-in-Some-first_malformed-clause-complete c = λ caps history is.
    (let row = c.in-Some.row in
    let reads = of_some (λ (row : Row). Reads c.loop-row.unread (placed_of row.entry) c.next_row.new.unread) c.in_ok-row.field-0 c.in-Some.row c.in-Some.is
    c.in_ok-row.ensures.read in
    none_malformed c.a_legal_history_is_recordable.ensures.all c.a_legal_history_is_recordable.ensures.within c.args.self.now.recording.now
    c.in-Some-first_malformed.at caps history
    (later_unformed c.args.self.now.recording.now c.loop-row.unread c.next_row.new.unread
    (placed_of row.entry) c.loop-row.self.server c.loop-row.self.text c.loop-row.self.entries c.in-Some-first_malformed.at
    (played_of c.args.self.now.recording.now c.loop-row.unread c.loop-row.self.server c.loop-row.self.text c.loop-row.self.entries
    c.loop-row.self.adds c.loop-row.invariant.replayed) reads
    (row_lawful row) c.in-Some-first_malformed.ensures.some) is)

pub returns-in-Err-clause-disagrees : goal.returns-in-Err-clause-disagrees
returns-in-Err-clause-disagrees c =
    let row = c.in-Some.row in
    let reads = of_some (λ (row : Row). Reads c.loop-row.unread (placed_of row.entry) c.next_row.new.unread) c.in_ok-row.field-0 c.in-Some.row c.in-Some.is
    c.in_ok-row.ensures.read in
    stops_disagreeing (Unit {0}) c.args.self.now.recording.now c.loop-row.unread c.next_row.new.unread
    (placed_of row.entry) c.loop-row.self.server c.loop-row.self.text c.loop-row.self.entries c.in-Err.fault
    (played_of c.args.self.now.recording.now c.loop-row.unread c.loop-row.self.server c.loop-row.self.text c.loop-row.self.entries
    c.loop-row.self.adds c.loop-row.invariant.replayed)
    reads (row_lawful row) c.in_default-first_malformed.ensures.none c.in-Err.ensures.differs

pub returns-in-Err-clause-complete : goal.returns-in-Err-clause-complete
returns-in-Err-clause-complete c = λ caps history is.
    (let row = c.in-Some.row in
    let reads = of_some (λ (row : Row). Reads c.loop-row.unread (placed_of row.entry) c.next_row.new.unread) c.in_ok-row.field-0 c.in-Some.row c.in-Some.is
    c.in_ok-row.ensures.read in
    short_at_most (Unit {0}) c.in-Err.fault (printed caps history)
    (stops_short c.a_legal_history_is_recordable.ensures.all c.a_legal_history_is_recordable.ensures.within c.args.self.now.recording.now c.loop-row.unread
    c.next_row.new.unread caps history (placed_of row.entry) c.loop-row.self.server c.loop-row.self.text c.loop-row.self.entries c.in-Err.fault
    (played_of c.args.self.now.recording.now c.loop-row.unread c.loop-row.self.server c.loop-row.self.text c.loop-row.self.entries
    c.loop-row.self.adds c.loop-row.invariant.replayed)
    reads (row_lawful row) c.in_default-first_malformed.ensures.none c.in-Err.ensures.differs is))

pub overflow_add-self : goal.overflow_add-self
overflow_add-self c =
    let small = c.loop-row.invariant.replayed.small in
    omega (
      arith,
      small,
      few_played c.args.self.now.recording.now c.loop-row.unread c.loop-row.self.server c.loop-row.self.text c.loop-row.self.entries
          (played_of c.args.self.now.recording.now c.loop-row.unread c.loop-row.self.server c.loop-row.self.text c.loop-row.self.entries
          c.loop-row.self.adds c.loop-row.invariant.replayed),
    )

pub one_more-self-requires : goal.one_more-self-requires
one_more-self-requires c =
    let small = c.loop-row.invariant.replayed.small in
    omega (
      arith,
      small,
      few_counted c.args.self.now.recording.now c.loop-row.unread c.loop-row.self.server c.loop-row.self.text c.loop-row.self.entries
          c.loop-row.self.adds c.loop-row.invariant.replayed,
      few_played c.args.self.now.recording.now c.loop-row.unread c.loop-row.self.server c.loop-row.self.text c.loop-row.self.entries
          (played_of c.args.self.now.recording.now c.loop-row.unread c.loop-row.self.server c.loop-row.self.text c.loop-row.self.entries
          c.loop-row.self.adds c.loop-row.invariant.replayed),
    )

pub loop-row-smaller : goal.loop-row-smaller
loop-row-smaller c =
    let row = c.in-Some.row in
    let reads = of_some (λ (row : Row). Reads c.loop-row.unread (placed_of row.entry) c.next_row.new.unread) c.in_ok-row.field-0 c.in-Some.row c.in-Some.is
    c.in_ok-row.ensures.read in
    reads.shorter

pub loop-row-preserved : goal.loop-row-preserved
loop-row-preserved c =
    let row = c.in-Some.row in
    let reads = of_some (λ (row : Row). Reads c.loop-row.unread (placed_of row.entry) c.next_row.new.unread) c.in_ok-row.field-0 c.in-Some.row c.in-Some.is
    c.in_ok-row.ensures.read in
    let more : c.one_more-self.result ≡ c.loop-row.self.adds + cond (is_added (placed_of row.entry).entry.answer) 1 0 =
    c.one_more-self.ensures ∙ ap (λ (t : Bool). c.loop-row.self.adds + cond t 1 0) c.is_added-added.ensures in
    record {
      replayed = subst (λ (n : ℕ). IsReplayedTo c.args.self.now.recording.now c.next_row.new.unread c.replay_row.new.server c.replay_row.new.text
          (c.loop-row.self.entries + 1) n)
          (sym more)
          (replayed_more c.args.self.now.recording.now c.loop-row.unread c.next_row.new.unread
          (placed_of row.entry) c.loop-row.self.server c.replay_row.new.server c.loop-row.self.text c.replay_row.new.text c.loop-row.self.entries
          c.loop-row.self.adds c.loop-row.invariant.replayed
          reads (row_lawful row) c.in_default-replay_row.ensures.ok);
      recording = c.loop-row.invariant.recording;
      caps = reads.caps_stay ∙ c.loop-row.invariant.caps;
      printed = c.replay_row.ensures.printed;
    }

pub returns-clause-ok : goal.returns-clause-ok
returns-clause-ok c =
    replayed_all c.args.self.now.recording.now c.loop-row.unread c.args.unread.caps c.loop-row.self.server c.loop-row.self.text
    c.loop-row.self.entries c.loop-row.self.adds c.loop-row.self.calls.prints c.loop-row.invariant.replayed c.loop-row.invariant.caps
    (of_none c.in_ok-row.field-0 c.in_default.not-Some c.in_ok-row.ensures.end) c.loop-row.invariant.printed

pub returns-clause-recording : goal.returns-clause-recording
returns-clause-recording c = c.loop-row.invariant.recording
