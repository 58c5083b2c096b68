use Rattle.std.proofs.Common.{◌≡◌, ◌≢◌, ℕ, ◌<◌, ◌^◌, Option, Some, None, IfSome, length, sym, subst, ◌∙◌, arith, rules}
use Rattle.osc_growing.proofs.Growths.{grown_none}
use Rattle.osc_live.specs.Resuming.{roomier}
use Rattle.osc_top.specs.After.{CanGoOn}
use Rattle.osc_top.proofs.ResumeEnds.{can_go_on, few_told, reaches_all, reaches_so, resumed_back, resumed_end, resumed_few, resumed_onward, staged_recorded}
use Rattle.osc_top.proofs.after.play_after.Goals as goal

pub refuse_short-requires : goal.refuse_short-requires
refuse_short-requires g c =
    let past = c.requires.past in
    let small : length c.args.taken.lines.items < 2 ^ 63 = omega (arith, c.args.taken.lines.ok.0, c.args.taken.lines.ok.1, c.args.taken.lines.small) in
    rw c.deref.ensures.value
    (record {
      few = few_told c.a_server_stays_sound.ensures.after c.a_server_stays_sound.ensures.counted c.checked-checked.result c.args.taken.lines.items past.0
          past.1 past.2.legal (c.checked-checked.ensures past.0 past.1 past.2) c.requires.lanes small;
    })

pub returns-in-Some-clause-ends : goal.returns-in-Some-clause-ends
returns-in-Some-clause-ends g c = λ script is.
    let past = c.requires.past in
    let boxes : c.len.result ≡ length c.args.bank.items = search rules in
    resumed_few _ c.args.taken.past script (length c.args.bank.items) _ _ c.args.taken.lines.items is past.0 past.1 past.2
    c.callers_are_counted.ensures.after c.checked-checked.result c.checked-checked.ensures _ c.in-Some.status c.unplayed.ensures.status
    (reaches_so c.refuse_short.result (Some c.in-Some.status) c.checked-checked.result c.deref.result.now c.args.taken.lines.items c.len.result
    (length c.args.bank.items) _ c.in-Some.is c.deref.ensures.value boxes c.refuse_short.ensures.reaches)

pub returns-in-Some-clause-sink : goal.returns-in-Some-clause-sink
returns-in-Some-clause-sink g c = λ five.
    let sound : c.in-Some.status ≢ 5 =
    subst (λ (r : Option ℕ). IfSome r (λ status. status ≢ 5)) c.in-Some.is c.refuse_short.ensures.decided in
    absurd (sound (sym c.unplayed.ensures.status ∙ five))

pub stage_after-requires-clause-enough : goal.stage_after-requires-clause-enough
stage_after-requires-clause-enough g c _ _ =
    let past = c.requires.past in
    let boxes : c.len.result ≡ length c.args.bank.items = search rules in
    let none : c.refuse_short.result ≡ None = search rules in (
      past.0,
      past.1,
      rw c.recording.ensures
          (can_go_on c.callers_are_counted.ensures.after c.args.taken.past c.checked-checked.result c.checked-checked.ensures c.args.taken.lines.items past.0
          past.1 past.2 (length c.args.bank.items)
          (reaches_all c.refuse_short.result c.checked-checked.result c.deref.result.now c.args.taken.lines.items c.len.result
          (length c.args.bank.items) _ none c.deref.ensures.value boxes c.refuse_short.ensures.reaches)),
    )

pub end-requires-clause-printed : goal.end-requires-clause-printed
end-requires-clause-printed g c =
    let past = c.requires.past in
    let boxes : c.len.result ≡ length c.args.bank.items = search rules in
    let none : c.refuse_short.result ≡ None = search rules in
    let can : CanGoOn c.args.taken.past c.args.taken.lines.items (length c.args.bank.items) past.0 past.1 =
    can_go_on c.callers_are_counted.ensures.after c.args.taken.past c.checked-checked.result c.checked-checked.ensures c.args.taken.lines.items past.0
    past.1 past.2 (length c.args.bank.items)
    (reaches_all c.refuse_short.result c.checked-checked.result c.deref.result.now c.args.taken.lines.items c.len.result
    (length c.args.bank.items) _ none c.deref.ensures.value boxes c.refuse_short.ensures.reaches) in
    let staged = c.in-Ok.ensures past.0 past.1
    (subst (λ b. CanGoOn b c.args.taken.lines.items (length c.args.bank.items) past.0 past.1) (sym c.recording.ensures) can) in
    resumed_onward _ _ c.args.room c.args.bank.items _ _ c.args.taken.lines.items past.0 past.1 c.args.taken.past _ _ _ past.2 staged.played

pub returns-in-Ok-clause-ends : goal.returns-in-Ok-clause-ends
returns-in-Ok-clause-ends g c = λ script is.
    let past = c.requires.past in
    let boxes : c.len.result ≡ length c.args.bank.items = search rules in
    let none : c.refuse_short.result ≡ None = search rules in
    let can : CanGoOn c.args.taken.past c.args.taken.lines.items (length c.args.bank.items) past.0 past.1 =
    can_go_on c.callers_are_counted.ensures.after c.args.taken.past c.checked-checked.result c.checked-checked.ensures c.args.taken.lines.items past.0
    past.1 past.2 (length c.args.bank.items)
    (reaches_all c.refuse_short.result c.checked-checked.result c.deref.result.now c.args.taken.lines.items c.len.result
    (length c.args.bank.items) _ none c.deref.ensures.value boxes c.refuse_short.ensures.reaches) in
    let staged = c.in-Ok.ensures past.0 past.1
    (subst (λ b. CanGoOn b c.args.taken.lines.items (length c.args.bank.items) past.0 past.1) (sym c.recording.ensures) can) in
    let same : c.refuse_short.new.out ≡ c.args.out.now = c.refuse_short.ensures.unwritten none in
    rw (← same)
    (resumed_end _ _ c.args.room c.args.bank.items _ _ _ _ _ c.args.taken.past _ _ c.args.taken.lines.items past.0 past.1 _ _ _
    c.end.ensures.heard c.end.ensures.left staged
    (c.end.ensures.ends c.args.rec.now (roomier past.0 c.args.room) staged.history
    (grown_none (g.R.Sink.held c.args.rec.now) (g.R.Sink.faults c.args.rec.now) c.in-Ok.played.recorded.bytes.items) staged.recording_of) can script is)

pub returns-in-Ok-clause-sink : goal.returns-in-Ok-clause-sink
returns-in-Ok-clause-sink g c =
    let none : c.refuse_short.result ≡ None = search rules in
    let same : c.refuse_short.new.out ≡ c.args.out.now = c.refuse_short.ensures.unwritten none in
    rw (← same) c.end.ensures.sink

pub returns-in-Ok-clause-back : goal.returns-in-Ok-clause-back
returns-in-Ok-clause-back g c =
    let past = c.requires.past in
    let boxes : c.len.result ≡ length c.args.bank.items = search rules in
    let none : c.refuse_short.result ≡ None = search rules in
    let can : CanGoOn c.args.taken.past c.args.taken.lines.items (length c.args.bank.items) past.0 past.1 =
    can_go_on c.callers_are_counted.ensures.after c.args.taken.past c.checked-checked.result c.checked-checked.ensures c.args.taken.lines.items past.0
    past.1 past.2 (length c.args.bank.items)
    (reaches_all c.refuse_short.result c.checked-checked.result c.deref.result.now c.args.taken.lines.items c.len.result
    (length c.args.bank.items) _ none c.deref.ensures.value boxes c.refuse_short.ensures.reaches) in
    let staged = c.in-Ok.ensures past.0 past.1
    (subst (λ b. CanGoOn b c.args.taken.lines.items (length c.args.bank.items) past.0 past.1) (sym c.recording.ensures) can) in
    resumed_back _ _ c.args.room c.args.bank.items _ _ _ _ _ c.args.taken.past _ _ c.args.taken.lines.items past.0 past.1 _ _ _
    c.end.ensures.heard c.end.ensures.left staged
    (c.end.ensures.ends c.args.rec.now (roomier past.0 c.args.room) staged.history
    (grown_none (g.R.Sink.held c.args.rec.now) (g.R.Sink.faults c.args.rec.now) c.in-Ok.played.recorded.bytes.items) staged.recording_of)

pub returns-in-Ok-clause-unrecorded : goal.returns-in-Ok-clause-unrecorded
returns-in-Ok-clause-unrecorded g c = λ unresumed.
    let past = c.requires.past in
    let boxes : c.len.result ≡ length c.args.bank.items = search rules in
    let none : c.refuse_short.result ≡ None = search rules in
    let can : CanGoOn c.args.taken.past c.args.taken.lines.items (length c.args.bank.items) past.0 past.1 =
    can_go_on c.callers_are_counted.ensures.after c.args.taken.past c.checked-checked.result c.checked-checked.ensures c.args.taken.lines.items past.0
    past.1 past.2 (length c.args.bank.items)
    (reaches_all c.refuse_short.result c.checked-checked.result c.deref.result.now c.args.taken.lines.items c.len.result
    (length c.args.bank.items) _ none c.deref.ensures.value boxes c.refuse_short.ensures.reaches) in
    let staged = c.in-Ok.ensures past.0 past.1
    (subst (λ b. CanGoOn b c.args.taken.lines.items (length c.args.bank.items) past.0 past.1) (sym c.recording.ensures) can) in
    absurd
    (staged_recorded _ _ c.args.room c.args.bank.items _ _ _ _ _ c.args.taken.past _ _ c.args.taken.lines.items past.0 past.1 _ _ _
    c.end.ensures.heard c.end.ensures.left staged
    (c.end.ensures.ends c.args.rec.now (roomier past.0 c.args.room) staged.history
    (grown_none (g.R.Sink.held c.args.rec.now) (g.R.Sink.faults c.args.rec.now) c.in-Ok.played.recorded.bytes.items) staged.recording_of) unresumed)
