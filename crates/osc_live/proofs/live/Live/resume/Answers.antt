use Rattle.std.proofs.Common.{◌≡◌, ◌+◌, ◌-◌, ◌≤◌, List, [], length, sym, ap, subst, ◌∙◌, arith}
use Rattle.std.specs.VecDeque.{deque_capacity}
use Rattle.osc_model.specs.Limits.{Limits}
use Rattle.osc_model.specs.State.{opening}
use Rattle.osc_model.specs.Events.{Entry as Recorded}
use Rattle.osc_model.specs.Enrolled.{callers_in}
use Rattle.osc_model.specs.History.{Legal, Performance, state_of, after}
use Rattle.osc_record.specs.Reading.{IsRecord, unplaced}
use Rattle.osc_core.specs.Standing.{history_in, texts_of, StandsFor}
use Rattle.osc_core.specs.Telling.{told}
use Rattle.osc_model.specs.Events.{is_added}
use Rattle.std.proofs.lemmas.List.{length-drop}
use Rattle.std.proofs.lemmas.List.Sums.{count_by-le-length}
use Rattle.osc_live.specs.Seen.{past_of}
use Rattle.osc_live.specs.Resuming.{added_in}
use Rattle.osc_model.specs.Heard.{Told}
use Rattle.osc_live.specs.Redone.{IsOut, IsRedone}
use Rattle.osc_live.proofs.Roomier.{IsPast, is_past, few_callers, few_in}
use Rattle.osc_live.proofs.Resumed.{performance_is, resumed, heard_all, fewer_added, is_out}
use Rattle.osc_live.proofs.live.Live.resume.Goals as goal

pub open-caps-requires-clause-recording : goal.open-caps-requires-clause-recording
open-caps-requires-clause-recording g c =
    let can = c.requires.recording in (
      can.0,
      can.1,
      record {
        lawful = can.2.legal.0;
        all = c.a_legal_history_is_recordable.ensures.all can.0 can.1 can.2.legal;
        fits = c.a_legal_history_is_recordable.ensures.within can.0 can.1 can.2.legal;
      },
      can.2.text,
    )

pub redo_all-redone-requires-clause-legal : goal.redo_all-redone-requires-clause-legal
redo_all-redone-requires-clause-legal g c =
    let can = c.requires.recording in
    let is_record : IsRecord can.0 can.1 =
    record {
      lawful = can.2.legal.0;
      all = c.a_legal_history_is_recordable.ensures.all can.0 can.1 can.2.legal;
      fits = c.a_legal_history_is_recordable.ensures.within can.0 can.1 can.2.legal;
    } in
    let same = c.open-caps.ensures can.0 can.1 is_record can.2.text in
    let limits = c.with_room-caps.result in
    let past : IsPast limits c.open-caps.result.1 can.0 c.args.room can.1 =
    is_past limits c.open-caps.result.0 can.0 c.open-caps.result.1 c.args.room can.1 c.requires.room.1 can.2.legal same
    c.with_room-caps.ensures in
    let entries : unplaced c.open-caps.result.1 ≡ can.1 = past.entries_are in
    let opened_core = c.in-Ok.ensures.core in
    let limits_are : c.in-Ok.stage.core.performance.caps ≡ limits = ap (λ (p : Performance). p.caps) opened_core.0 in
    subst (λ (z : Limits × List Recorded). Legal z.0 z.1) (λ i. (sym limits_are i, sym entries i)) past.legal

pub redo_all-redone-requires-clause-bank : goal.redo_all-redone-requires-clause-bank
redo_all-redone-requires-clause-bank g c =
    let can = c.requires.recording in
    let is_record : IsRecord can.0 can.1 =
    record {
      lawful = can.2.legal.0;
      all = c.a_legal_history_is_recordable.ensures.all can.0 can.1 can.2.legal;
      fits = c.a_legal_history_is_recordable.ensures.within can.0 can.1 can.2.legal;
    } in
    let same = c.open-caps.ensures can.0 can.1 is_record can.2.text in
    let limits = c.with_room-caps.result in
    let past : IsPast limits c.open-caps.result.1 can.0 c.args.room can.1 =
    is_past limits c.open-caps.result.0 can.0 c.open-caps.result.1 c.args.room can.1 c.requires.room.1 can.2.legal same
    c.with_room-caps.ensures in
    let entries : unplaced c.open-caps.result.1 ≡ can.1 = past.entries_are in
    let opened_core = c.in-Ok.ensures.core in
    let limits_are : c.in-Ok.stage.core.performance.caps ≡ limits = ap (λ (p : Performance). p.caps) opened_core.0 in
    omega (arith, can.3, ap added_in entries, ap length c.from_vec-bank.ensures.items)

pub hand_tokens-callers-requires-clause-room : goal.hand_tokens-callers-requires-clause-room
hand_tokens-callers-requires-clause-room g c =
    let can = c.requires.recording in
    let is_record : IsRecord can.0 can.1 =
    record {
      lawful = can.2.legal.0;
      all = c.a_legal_history_is_recordable.ensures.all can.0 can.1 can.2.legal;
      fits = c.a_legal_history_is_recordable.ensures.within can.0 can.1 can.2.legal;
    } in
    let same = c.open-caps.ensures can.0 can.1 is_record can.2.text in
    let limits = c.with_room-caps.result in
    let past : IsPast limits c.open-caps.result.1 can.0 c.args.room can.1 =
    is_past limits c.open-caps.result.0 can.0 c.open-caps.result.1 c.args.room can.1 c.requires.room.1 can.2.legal same
    c.with_room-caps.ensures in
    let entries : unplaced c.open-caps.result.1 ≡ can.1 = past.entries_are in
    let opened_core = c.in-Ok.ensures.core in
    let limits_are : c.in-Ok.stage.core.performance.caps ≡ limits = ap (λ (p : Performance). p.caps) opened_core.0 in
    let keep = g.M.Method.keep in
    let heard = g.M.Method.heard in
    let bank = c.args.bank.items in
    let core = c.redo_all-redone.new.core in
    let boxes = told keep heard core.boxes.items in
    let redone : IsRedone keep heard limits can.1 bank [] core.performance boxes c.redo_all-redone.new.bank.items
    c.redo_all-redone.new.removed.items =
    subst (λ (z : Limits × List Recorded × List g.row.M.Denot). IsRedone keep heard z.0 z.1 z.2 [] core.performance boxes
    c.redo_all-redone.new.bank.items c.redo_all-redone.new.removed.items) (λ i. (limits_are i, entries i, c.from_vec-bank.ensures.items i))
    c.in_default.ensures.redone in
    let whole : core.performance ≡ record { caps = limits; history = can.1 } =
    performance_is keep heard limits can.1 bank core.performance boxes c.redo_all-redone.new.bank.items c.redo_all-redone.new.removed.items
    redone in
    let count : c.callers-count.result ≡ (after (opening limits) can.1).callers =
    c.callers-count.ensures.value ∙ ap (λ (p : Performance). (state_of p).callers) whole in
    let few = few_callers c.a_server_stays_sound.ensures.after limits can.1 past.legal in
    let room = c.in-Ok.ensures.callers in
    omega (arith, count, few.0, room.1)

pub hand_tokens-callers-requires-clause-few : goal.hand_tokens-callers-requires-clause-few
hand_tokens-callers-requires-clause-few g c =
    let can = c.requires.recording in
    let is_record : IsRecord can.0 can.1 =
    record {
      lawful = can.2.legal.0;
      all = c.a_legal_history_is_recordable.ensures.all can.0 can.1 can.2.legal;
      fits = c.a_legal_history_is_recordable.ensures.within can.0 can.1 can.2.legal;
    } in
    let same = c.open-caps.ensures can.0 can.1 is_record can.2.text in
    let limits = c.with_room-caps.result in
    let past : IsPast limits c.open-caps.result.1 can.0 c.args.room can.1 =
    is_past limits c.open-caps.result.0 can.0 c.open-caps.result.1 c.args.room can.1 c.requires.room.1 can.2.legal same
    c.with_room-caps.ensures in
    let entries : unplaced c.open-caps.result.1 ≡ can.1 = past.entries_are in
    let opened_core = c.in-Ok.ensures.core in
    let limits_are : c.in-Ok.stage.core.performance.caps ≡ limits = ap (λ (p : Performance). p.caps) opened_core.0 in
    let keep = g.M.Method.keep in
    let heard = g.M.Method.heard in
    let bank = c.args.bank.items in
    let core = c.redo_all-redone.new.core in
    let boxes = told keep heard core.boxes.items in
    let redone : IsRedone keep heard limits can.1 bank [] core.performance boxes c.redo_all-redone.new.bank.items
    c.redo_all-redone.new.removed.items =
    subst (λ (z : Limits × List Recorded × List g.row.M.Denot). IsRedone keep heard z.0 z.1 z.2 [] core.performance boxes
    c.redo_all-redone.new.bank.items c.redo_all-redone.new.removed.items) (λ i. (limits_are i, entries i, c.from_vec-bank.ensures.items i))
    c.in_default.ensures.redone in
    let whole : core.performance ≡ record { caps = limits; history = can.1 } =
    performance_is keep heard limits can.1 bank core.performance boxes c.redo_all-redone.new.bank.items c.redo_all-redone.new.removed.items
    redone in
    let count : c.callers-count.result ≡ (after (opening limits) can.1).callers =
    c.callers-count.ensures.value ∙ ap (λ (p : Performance). (state_of p).callers) whole in
    let few = few_callers c.a_server_stays_sound.ensures.after limits can.1 past.legal in
    omega (arith, count, few.0, few.1)

pub hand_tokens-callers-requires-clause-enrolled : goal.hand_tokens-callers-requires-clause-enrolled
hand_tokens-callers-requires-clause-enrolled g c =
    let can = c.requires.recording in
    let is_record : IsRecord can.0 can.1 =
    record {
      lawful = can.2.legal.0;
      all = c.a_legal_history_is_recordable.ensures.all can.0 can.1 can.2.legal;
      fits = c.a_legal_history_is_recordable.ensures.within can.0 can.1 can.2.legal;
    } in
    let same = c.open-caps.ensures can.0 can.1 is_record can.2.text in
    let limits = c.with_room-caps.result in
    let past : IsPast limits c.open-caps.result.1 can.0 c.args.room can.1 =
    is_past limits c.open-caps.result.0 can.0 c.open-caps.result.1 c.args.room can.1 c.requires.room.1 can.2.legal same
    c.with_room-caps.ensures in
    let entries : unplaced c.open-caps.result.1 ≡ can.1 = past.entries_are in
    let opened_core = c.in-Ok.ensures.core in
    let limits_are : c.in-Ok.stage.core.performance.caps ≡ limits = ap (λ (p : Performance). p.caps) opened_core.0 in
    let keep = g.M.Method.keep in
    let heard = g.M.Method.heard in
    let bank = c.args.bank.items in
    let core = c.redo_all-redone.new.core in
    let boxes = told keep heard core.boxes.items in
    let redone : IsRedone keep heard limits can.1 bank [] core.performance boxes c.redo_all-redone.new.bank.items
    c.redo_all-redone.new.removed.items =
    subst (λ (z : Limits × List Recorded × List g.row.M.Denot). IsRedone keep heard z.0 z.1 z.2 [] core.performance boxes
    c.redo_all-redone.new.bank.items c.redo_all-redone.new.removed.items) (λ i. (limits_are i, entries i, c.from_vec-bank.ensures.items i))
    c.in_default.ensures.redone in
    let whole : core.performance ≡ record { caps = limits; history = can.1 } =
    performance_is keep heard limits can.1 bank core.performance boxes c.redo_all-redone.new.bank.items c.redo_all-redone.new.removed.items
    redone in
    let count : c.callers-count.result ≡ (after (opening limits) can.1).callers =
    c.callers-count.ensures.value ∙ ap (λ (p : Performance). (state_of p).callers) whole in
    let opened : past_of c.in-Ok-reopen.turn ≡ texts_of boxes core.performance.history =
    ap (λ x. texts_of (told keep heard x.boxes.items) x.performance.history) c.in-Ok-reopen.ensures.opened in
    let stands : StandsFor core.performance boxes (past_of c.in-Ok-reopen.turn) =
    subst (StandsFor core.performance boxes) (sym opened) c.reopen.ensures.stands in
    let read : history_in (past_of c.in-Ok-reopen.turn) ≡ can.1 = stands.read ∙ ap (λ (p : Performance). p.history) whole in
    omega (arith, count, c.callers_are_counted.ensures.after limits can.1 past.legal, ap callers_in read)

pub returns-in-Ok-reopen-clause-resumes : goal.returns-in-Ok-reopen-clause-resumes
returns-in-Ok-reopen-clause-resumes g c caps history records =
    let is_record : IsRecord caps history =
    record {
      lawful = records.legal.0;
      all = c.a_legal_history_is_recordable.ensures.all caps history records.legal;
      fits = c.a_legal_history_is_recordable.ensures.within caps history records.legal;
    } in
    let same = c.open-caps.ensures caps history is_record records.text in
    let limits = c.with_room-caps.result in
    let past : IsPast limits c.open-caps.result.1 caps c.args.room history =
    is_past limits c.open-caps.result.0 caps c.open-caps.result.1 c.args.room history c.requires.room.1 records.legal same
    c.with_room-caps.ensures in
    let entries : unplaced c.open-caps.result.1 ≡ history = past.entries_are in
    let opened_core = c.in-Ok.ensures.core in
    let limits_are : c.in-Ok.stage.core.performance.caps ≡ limits = ap (λ (p : Performance). p.caps) opened_core.0 in
    let keep = g.M.Method.keep in
    let heard = g.M.Method.heard in
    let bank = c.args.bank.items in
    let core = c.redo_all-redone.new.core in
    let boxes = told keep heard core.boxes.items in
    let redone : IsRedone keep heard limits history bank [] core.performance boxes c.redo_all-redone.new.bank.items
    c.redo_all-redone.new.removed.items =
    subst (λ (z : Limits × List Recorded × List g.row.M.Denot). IsRedone keep heard z.0 z.1 z.2 [] core.performance boxes
    c.redo_all-redone.new.bank.items c.redo_all-redone.new.removed.items) (λ i. (limits_are i, entries i, c.from_vec-bank.ensures.items i))
    c.in_default.ensures.redone in
    let whole : core.performance ≡ record { caps = limits; history = history } =
    performance_is keep heard limits history bank core.performance boxes c.redo_all-redone.new.bank.items c.redo_all-redone.new.removed.items
    redone in
    let count : c.callers-count.result ≡ (after (opening limits) history).callers =
    c.callers-count.ensures.value ∙ ap (λ (p : Performance). (state_of p).callers) whole in
    let opened : past_of c.in-Ok-reopen.turn ≡ texts_of boxes core.performance.history =
    ap (λ x. texts_of (told keep heard x.boxes.items) x.performance.history) c.in-Ok-reopen.ensures.opened in
    let stands : StandsFor core.performance boxes (past_of c.in-Ok-reopen.turn) =
    subst (StandsFor core.performance boxes) (sym opened) c.reopen.ensures.stands in
    resumed keep heard caps limits c.args.room history bank core.performance boxes c.redo_all-redone.new.bank.items
    c.into_vec.result.items c.redo_all-redone.new.removed.items (past_of c.in-Ok-reopen.turn) _ c.callers-count.result past.limits_are past.legal redone stands
    c.hand_tokens-callers.ensures.tokens (count ∙ c.callers_are_counted.ensures.after limits history past.legal) c.into_vec.ensures.items

pub returns-in-Ok-reopen-clause-heard : goal.returns-in-Ok-reopen-clause-heard
returns-in-Ok-reopen-clause-heard g c caps history records =
    let is_record : IsRecord caps history =
    record {
      lawful = records.legal.0;
      all = c.a_legal_history_is_recordable.ensures.all caps history records.legal;
      fits = c.a_legal_history_is_recordable.ensures.within caps history records.legal;
    } in
    let same = c.open-caps.ensures caps history is_record records.text in
    let limits = c.with_room-caps.result in
    let past : IsPast limits c.open-caps.result.1 caps c.args.room history =
    is_past limits c.open-caps.result.0 caps c.open-caps.result.1 c.args.room history c.requires.room.1 records.legal same
    c.with_room-caps.ensures in
    let entries : unplaced c.open-caps.result.1 ≡ history = past.entries_are in
    let opened_core = c.in-Ok.ensures.core in
    let limits_are : c.in-Ok.stage.core.performance.caps ≡ limits = ap (λ (p : Performance). p.caps) opened_core.0 in
    let keep = g.M.Method.keep in
    let heard = g.M.Method.heard in
    let bank = c.args.bank.items in
    let core = c.redo_all-redone.new.core in
    let boxes = told keep heard core.boxes.items in
    let redone : IsRedone keep heard limits history bank [] core.performance boxes c.redo_all-redone.new.bank.items
    c.redo_all-redone.new.removed.items =
    subst (λ (z : Limits × List Recorded × List g.row.M.Denot). IsRedone keep heard z.0 z.1 z.2 [] core.performance boxes
    c.redo_all-redone.new.bank.items c.redo_all-redone.new.removed.items) (λ i. (limits_are i, entries i, c.from_vec-bank.ensures.items i))
    c.in_default.ensures.redone in
    let whole : core.performance ≡ record { caps = limits; history = history } =
    performance_is keep heard limits history bank core.performance boxes c.redo_all-redone.new.bank.items c.redo_all-redone.new.removed.items
    redone in
    heard_all keep heard c.a_method_is_called_while_it_is_registered.ensures.removed limits history bank core.performance boxes
    c.redo_all-redone.new.bank.items c.redo_all-redone.new.removed.items past.legal redone

pub overflow_cast-taken : goal.overflow_cast-taken
overflow_cast-taken g c =
    let can = c.requires.recording in
    let is_record : IsRecord can.0 can.1 =
    record {
      lawful = can.2.legal.0;
      all = c.a_legal_history_is_recordable.ensures.all can.0 can.1 can.2.legal;
      fits = c.a_legal_history_is_recordable.ensures.within can.0 can.1 can.2.legal;
    } in
    let same = c.open-caps.ensures can.0 can.1 is_record can.2.text in
    let limits = c.with_room-caps.result in
    let past : IsPast limits c.open-caps.result.1 can.0 c.args.room can.1 =
    is_past limits c.open-caps.result.0 can.0 c.open-caps.result.1 c.args.room can.1 c.requires.room.1 can.2.legal same
    c.with_room-caps.ensures in
    let few = few_in c.a_server_stays_sound.ensures.counted limits can.1 past.legal in
    let added = count_by-le-length (λ (e : Recorded). is_added e.answer) can.1 in
    let redone = c.in-Err-redone.ensures.stopped.1 in
    let taken = fewer_added can.1 redone.before _ (sym past.entries_are ∙ redone.all) in
    omega (
      arith,
      few,
      added,
      taken,
      ap length redone.rest_is,
      ap length c.from_vec-bank.ensures.items,
      length-drop (added_in redone.before) c.from_vec-bank.result.items,
      c.len-whole.ensures,
      c.len.ensures,
      c.args.bank.ok,
      c.redo_all-redone.new.bank.ok.0,
    )

pub returns-in-Err-redone-clause-back : goal.returns-in-Err-redone-clause-back
returns-in-Err-redone-clause-back g c =
    let can = c.requires.recording in
    let is_record : IsRecord can.0 can.1 =
    record {
      lawful = can.2.legal.0;
      all = c.a_legal_history_is_recordable.ensures.all can.0 can.1 can.2.legal;
      fits = c.a_legal_history_is_recordable.ensures.within can.0 can.1 can.2.legal;
    } in
    let same = c.open-caps.ensures can.0 can.1 is_record can.2.text in
    let limits = c.with_room-caps.result in
    let past : IsPast limits c.open-caps.result.1 can.0 c.args.room can.1 =
    is_past limits c.open-caps.result.0 can.0 c.open-caps.result.1 c.args.room can.1 c.requires.room.1 can.2.legal same
    c.with_room-caps.ensures in
    let entries : unplaced c.open-caps.result.1 ≡ can.1 = past.entries_are in
    let limits_are : c.in-Ok.stage.core.performance.caps ≡ limits = ap (λ (p : Performance). p.caps) c.in-Ok.ensures.core.0 in
    let keep = g.M.Method.keep in
    let heard = g.M.Method.heard in
    let bank = c.args.bank.items in
    let core = c.redo_all-redone.new.core in
    let boxes = told keep heard core.boxes.items in
    let redone : IsRedone keep heard limits can.1 bank c.in-Err-redone.ensures.stopped.0 core.performance boxes c.redo_all-redone.new.bank.items
    c.redo_all-redone.new.removed.items =
    subst (λ (z : Limits × List Recorded × List g.row.M.Denot). IsRedone keep heard z.0 z.1 z.2 c.in-Err-redone.ensures.stopped.0 core.performance boxes
    c.redo_all-redone.new.bank.items c.redo_all-redone.new.removed.items) (λ i. (limits_are i, entries i, c.from_vec-bank.ensures.items i))
    c.in-Err-redone.ensures.stopped.1 in
    let fewer : length c.redo_all-redone.new.bank.items ≤ length bank =
    omega (arith, ap length redone.rest_is, length-drop (added_in redone.before) bank) in
    let whole_len : c.len-whole.result ≡ length bank = omega (arith, c.len-whole.ensures, c.args.bank.ok) in
    let rest_len : c.len.result ≡ length c.redo_all-redone.new.bank.items = omega (arith, c.len.ensures, c.redo_all-redone.new.bank.ok.0) in
    let counted : (c.len-whole.result - c.len.result) + length c.redo_all-redone.new.bank.items ≡ length bank =
    omega (arith, fewer, whole_len, rest_len) in
    let fits : length bank ≤ deque_capacity c.redo_all-redone.new.bank =
    omega (arith, c.redo_all-redone.ensures.capacity, c.from_vec-bank.ensures.capacity, c.args.bank.ok, c.args.bank.small) in
    let out = is_out keep heard limits can.1 bank c.in-Err-redone.ensures.stopped.0 core.performance boxes c.redo_all-redone.new.bank.items
    c.redo_all-redone.new.removed.items
    (c.len-whole.result - c.len.result) (deque_capacity c.redo_all-redone.new.bank) can.3 redone counted fits in
    c.put_back.ensures bank out

pub overflow_cast-taken-in-Err-reopen : goal.overflow_cast-taken-in-Err-reopen
overflow_cast-taken-in-Err-reopen g c =
    let can = c.requires.recording in
    let is_record : IsRecord can.0 can.1 =
    record {
      lawful = can.2.legal.0;
      all = c.a_legal_history_is_recordable.ensures.all can.0 can.1 can.2.legal;
      fits = c.a_legal_history_is_recordable.ensures.within can.0 can.1 can.2.legal;
    } in
    let same = c.open-caps.ensures can.0 can.1 is_record can.2.text in
    let limits = c.with_room-caps.result in
    let past : IsPast limits c.open-caps.result.1 can.0 c.args.room can.1 =
    is_past limits c.open-caps.result.0 can.0 c.open-caps.result.1 c.args.room can.1 c.requires.room.1 can.2.legal same
    c.with_room-caps.ensures in
    let few = few_in c.a_server_stays_sound.ensures.counted limits can.1 past.legal in
    let added = count_by-le-length (λ (e : Recorded). is_added e.answer) can.1 in
    let redone = c.in_default.ensures.redone in
    let taken = fewer_added can.1 redone.before _ (sym past.entries_are ∙ redone.all) in
    omega (
      arith,
      few,
      added,
      taken,
      ap length redone.rest_is,
      ap length c.from_vec-bank.ensures.items,
      length-drop (added_in redone.before) c.from_vec-bank.result.items,
      c.len-whole.ensures,
      c.len-in-Err-reopen.ensures,
      c.args.bank.ok,
      c.redo_all-redone.new.bank.ok.0,
    )

pub returns-in-Err-reopen-clause-back : goal.returns-in-Err-reopen-clause-back
returns-in-Err-reopen-clause-back g c =
    let can = c.requires.recording in
    let is_record : IsRecord can.0 can.1 =
    record {
      lawful = can.2.legal.0;
      all = c.a_legal_history_is_recordable.ensures.all can.0 can.1 can.2.legal;
      fits = c.a_legal_history_is_recordable.ensures.within can.0 can.1 can.2.legal;
    } in
    let same = c.open-caps.ensures can.0 can.1 is_record can.2.text in
    let limits = c.with_room-caps.result in
    let past : IsPast limits c.open-caps.result.1 can.0 c.args.room can.1 =
    is_past limits c.open-caps.result.0 can.0 c.open-caps.result.1 c.args.room can.1 c.requires.room.1 can.2.legal same
    c.with_room-caps.ensures in
    let entries : unplaced c.open-caps.result.1 ≡ can.1 = past.entries_are in
    let limits_are : c.in-Ok.stage.core.performance.caps ≡ limits = ap (λ (p : Performance). p.caps) c.in-Ok.ensures.core.0 in
    let keep = g.M.Method.keep in
    let heard = g.M.Method.heard in
    let bank = c.args.bank.items in
    let core = c.redo_all-redone.new.core in
    let boxes = told keep heard core.boxes.items in
    let redone : IsRedone keep heard limits can.1 bank [] core.performance boxes c.redo_all-redone.new.bank.items c.redo_all-redone.new.removed.items =
    subst (λ (z : Limits × List Recorded × List g.row.M.Denot). IsRedone keep heard z.0 z.1 z.2 [] core.performance boxes
    c.redo_all-redone.new.bank.items c.redo_all-redone.new.removed.items) (λ i. (limits_are i, entries i, c.from_vec-bank.ensures.items i))
    c.in_default.ensures.redone in
    let fewer : length c.redo_all-redone.new.bank.items ≤ length bank =
    omega (arith, ap length redone.rest_is, length-drop (added_in redone.before) bank) in
    let whole_len : c.len-whole.result ≡ length bank = omega (arith, c.len-whole.ensures, c.args.bank.ok) in
    let rest_len : c.len-in-Err-reopen.result ≡ length c.redo_all-redone.new.bank.items = omega
    (arith, c.len-in-Err-reopen.ensures, c.redo_all-redone.new.bank.ok.0) in
    let counted : (c.len-whole.result - c.len-in-Err-reopen.result) + length c.redo_all-redone.new.bank.items ≡ length bank =
    omega (arith, fewer, whole_len, rest_len) in
    let fits : length bank ≤ deque_capacity c.redo_all-redone.new.bank =
    omega (arith, c.redo_all-redone.ensures.capacity, c.from_vec-bank.ensures.capacity, c.args.bank.ok, c.args.bank.small) in
    let out = is_out keep heard limits can.1 bank [] core.performance boxes c.redo_all-redone.new.bank.items c.redo_all-redone.new.removed.items
    (c.len-whole.result - c.len-in-Err-reopen.result) (deque_capacity c.redo_all-redone.new.bank) can.3 redone counted fits in
    let same_core : c.in-Err-reopen.core ≡ core = c.in-Err-reopen.ensures.err in
    c.put_back-in-Err-reopen.ensures bank
    (subst (λ (l : List Told). IsOut keep heard bank l c.redo_all-redone.new.removed.items c.redo_all-redone.new.bank.items
    (c.len-whole.result - c.len-in-Err-reopen.result) (deque_capacity c.redo_all-redone.new.bank)) (sym (ap (λ x. told keep heard x.boxes.items) same_core))
    out)
