use Rattle.std.proofs.Common.{◌≡◌, ℕ, ◌+◌, Bool, cond, sym, subst, Err, inl, refl, ap, ◌∙◌, arith, rules}
use Rattle.osc_model.specs.State.{opening}
use Rattle.osc_record.specs.Left.{placed_of}
use Rattle.osc_record.specs.Unread.{Reads}
use Rattle.osc_replay.specs.declared.row.Row.{Row}
use Rattle.osc_replay.specs.declared.fault.ReplayFault.TheVariants.{Malformed}
use Rattle.osc_replay.proofs.Formed.{of_some, of_none, row_lawful}
use Rattle.osc_replay.specs.Printed.{printed}
use Rattle.osc_replay.specs.declared.checked.Checked.{Checked}
use Rattle.osc_model.specs.Events.{is_added}
use Rattle.osc_replay.proofs.Tallying.{IsCheckedTo, checked_none, checked_more, few_added, checked_all, one_checked, short_so}
use Rattle.osc_replay.proofs.Replayed.{reached, few_played, played_all, stops_disagreeing, stops_short, next_unformed}
use Rattle.osc_replay.proofs.Replayed.{later_unformed, none_malformed}
use Rattle.osc_replay.proofs.checked.check.Goals as goal

pub returns-in_err-unread-clause-complete : goal.returns-in_err-unread-clause-complete
returns-in_err-unread-clause-complete c =
    let at = c.in_err-unread.field-0.0.at in
    let same : c.from_residual.result ≡ Err (Malformed at) = search rules in
    λ caps history is.
    rw same (none_malformed c.a_legal_history_is_recordable.ensures.all c.a_legal_history_is_recordable.ensures.within c.args.recording.now at caps history
    (inl c.in_err-unread.ensures.err) is)

pub loop-calls-init : goal.loop-calls-init
loop-calls-init c =
    let unread = c.in_ok-unread.unread in
    let opened : c.in_ok-server.server ≡ opening unread.caps = c.in_ok-server.ensures ∙ ap opening c.caps-caps.ensures in
    record { checked = rw opened (checked_none c.args.recording.now unread c.in_ok-unread.ensures.ok); caps = c.caps-caps.ensures; unprinted = search rules }

pub returns-in_err-row-clause-malformed : goal.returns-in_err-row-clause-malformed
returns-in_err-row-clause-malformed c =
    let at = c.in_err-row.field-0.0.at in
    let same : c.from_residual-in_err-row.result ≡ Err (Malformed at) = search rules in
    rw same (next_unformed c.args.recording.now c.loop-calls.unread c.loop-calls.server c.loop-calls.invariant.checked.text c.loop-calls.entries at
    c.loop-calls.invariant.checked.played c.in_err-row.ensures.err)

pub returns-in_err-row-clause-complete : goal.returns-in_err-row-clause-complete
returns-in_err-row-clause-complete c =
    let at = c.in_err-row.field-0.0.at in
    let same : c.from_residual-in_err-row.result ≡ Err (Malformed at) = search rules in
    λ caps history is. rw same
    (none_malformed c.a_legal_history_is_recordable.ensures.all c.a_legal_history_is_recordable.ensures.within c.args.recording.now at caps history
    (next_unformed c.args.recording.now c.loop-calls.unread c.loop-calls.server c.loop-calls.invariant.checked.text c.loop-calls.entries at
    c.loop-calls.invariant.checked.played c.in_err-row.ensures.err)
    is)

pub check_row-requires-clause-reached : goal.check_row-requires-clause-reached
check_row-requires-clause-reached c =
    reached c.args.recording.now c.loop-calls.unread c.loop-calls.server c.loop-calls.invariant.checked.text c.loop-calls.entries
    c.loop-calls.invariant.checked.played

pub returns-in-Some-first_malformed-clause-malformed : goal.returns-in-Some-first_malformed-clause-malformed
returns-in-Some-first_malformed-clause-malformed c =
    let row = c.in-Some.row in
    let reads = of_some (λ (row : Row). Reads c.loop-calls.unread (placed_of row.entry) c.next_row.new.unread) c.in_ok-row.field-0 c.in-Some.row c.in-Some.is
    c.in_ok-row.ensures.read in
    later_unformed c.args.recording.now c.loop-calls.unread c.next_row.new.unread
    (placed_of row.entry) c.loop-calls.server c.loop-calls.invariant.checked.text c.loop-calls.entries c.in-Some-first_malformed.at
    c.loop-calls.invariant.checked.played reads (row_lawful row) c.in-Some-first_malformed.ensures.some

pub returns-in-Some-first_malformed-clause-complete : goal.returns-in-Some-first_malformed-clause-complete
returns-in-Some-first_malformed-clause-complete c = λ caps history is.
    (let row = c.in-Some.row in
    let reads = of_some (λ (row : Row). Reads c.loop-calls.unread (placed_of row.entry) c.next_row.new.unread) c.in_ok-row.field-0 c.in-Some.row c.in-Some.is
    c.in_ok-row.ensures.read in
    none_malformed c.a_legal_history_is_recordable.ensures.all c.a_legal_history_is_recordable.ensures.within c.args.recording.now c.in-Some-first_malformed.at
    caps history
    (later_unformed c.args.recording.now c.loop-calls.unread c.next_row.new.unread
    (placed_of row.entry) c.loop-calls.server c.loop-calls.invariant.checked.text c.loop-calls.entries c.in-Some-first_malformed.at
    c.loop-calls.invariant.checked.played reads (row_lawful row) c.in-Some-first_malformed.ensures.some) is)

pub returns-in-Err-clause-disagrees : goal.returns-in-Err-clause-disagrees
returns-in-Err-clause-disagrees c =
    let row = c.in-Some.row in
    let reads = of_some (λ (row : Row). Reads c.loop-calls.unread (placed_of row.entry) c.next_row.new.unread) c.in_ok-row.field-0 c.in-Some.row c.in-Some.is
    c.in_ok-row.ensures.read in
    stops_disagreeing Checked c.args.recording.now c.loop-calls.unread c.next_row.new.unread
    (placed_of row.entry) c.loop-calls.server c.loop-calls.invariant.checked.text c.loop-calls.entries c.in-Err.fault
    c.loop-calls.invariant.checked.played reads (row_lawful row) c.in_default-first_malformed.ensures.none c.in-Err.ensures.differs

pub returns-in-Err-clause-complete : goal.returns-in-Err-clause-complete
returns-in-Err-clause-complete c = λ caps history is.
    (let row = c.in-Some.row in
    let reads = of_some (λ (row : Row). Reads c.loop-calls.unread (placed_of row.entry) c.next_row.new.unread) c.in_ok-row.field-0 c.in-Some.row c.in-Some.is
    c.in_ok-row.ensures.read in
    short_so c.in-Err.fault (printed caps history) caps history
    (stops_short c.a_legal_history_is_recordable.ensures.all c.a_legal_history_is_recordable.ensures.within c.args.recording.now c.loop-calls.unread
    c.next_row.new.unread caps history (placed_of row.entry) c.loop-calls.server c.loop-calls.invariant.checked.text c.loop-calls.entries c.in-Err.fault
    c.loop-calls.invariant.checked.played reads (row_lawful row) c.in_default-first_malformed.ensures.none c.in-Err.ensures.differs is))

pub overflow_add-entries : goal.overflow_add-entries
overflow_add-entries c =
    omega (
      arith,
      c.requires,
      few_played c.args.recording.now c.loop-calls.unread c.loop-calls.server c.loop-calls.invariant.checked.text c.loop-calls.entries
          c.loop-calls.invariant.checked.played,
    )

pub one_more-adds-requires : goal.one_more-adds-requires
one_more-adds-requires c =
    omega (
      arith,
      c.requires,
      few_added c.args.recording.now c.loop-calls.unread c.loop-calls.server c.loop-calls.entries c.loop-calls.adds c.loop-calls.invariant.checked,
      few_played c.args.recording.now c.loop-calls.unread c.loop-calls.server c.loop-calls.invariant.checked.text c.loop-calls.entries
          c.loop-calls.invariant.checked.played,
    )

pub loop-calls-preserved : goal.loop-calls-preserved
loop-calls-preserved c =
    let row = c.in-Some.row in
    let reads = of_some (λ (row : Row). Reads c.loop-calls.unread (placed_of row.entry) c.next_row.new.unread) c.in_ok-row.field-0 c.in-Some.row c.in-Some.is
    c.in_ok-row.ensures.read in
    let more : c.one_more-adds.result ≡ c.loop-calls.adds + cond (is_added (placed_of row.entry).entry.answer) 1 0 =
    c.one_more-adds.ensures ∙ ap (λ (t : Bool). c.loop-calls.adds + cond t 1 0) c.is_added-added.ensures in
    record {
      checked = subst (λ (n : ℕ). IsCheckedTo c.args.recording.now c.next_row.new.unread c.check_row.new.server (c.loop-calls.entries + 1) n) (sym more)
          (checked_more c.args.recording.now c.loop-calls.unread c.next_row.new.unread
          (placed_of row.entry) c.loop-calls.server c.check_row.new.server c.loop-calls.entries c.loop-calls.adds c.loop-calls.invariant.checked
          reads (row_lawful row) c.in_default-check_row.ensures.ok);
      caps = search rules;
      unprinted = c.check_row.ensures.unprinted;
    }

pub returns-clause-ok : goal.returns-clause-ok
returns-clause-ok c =
    let is = c.loop-calls.invariant.checked in (
      is.played.caps,
      is.played.before,
      played_all c.args.recording.now c.loop-calls.unread c.loop-calls.server is.text c.loop-calls.entries is.played
          (of_none c.in_ok-row.field-0 c.in_default.not-Some c.in_ok-row.ensures.end),
      checked_all c.args.recording.now c.loop-calls.unread c.loop-calls.server c.loop-calls.entries c.loop-calls.adds _ is
          (c.loop-calls.invariant.caps ∙ is.played.formed.caps_are) refl refl c.callers.ensures,
    )

pub returns-clause-complete : goal.returns-clause-complete
returns-clause-complete c = λ caps history recording.
    (let is = c.loop-calls.invariant.checked in
    one_checked c.a_legal_history_is_recordable.ensures.all c.a_legal_history_is_recordable.ensures.within c.args.recording.now _ is.played.caps caps
    is.played.before history
    (played_all c.args.recording.now c.loop-calls.unread c.loop-calls.server is.text c.loop-calls.entries is.played
    (of_none c.in_ok-row.field-0 c.in_default.not-Some c.in_ok-row.ensures.end))
    (checked_all c.args.recording.now c.loop-calls.unread c.loop-calls.server c.loop-calls.entries c.loop-calls.adds _ is
    (c.loop-calls.invariant.caps ∙ is.played.formed.caps_are) refl refl c.callers.ensures) recording)
