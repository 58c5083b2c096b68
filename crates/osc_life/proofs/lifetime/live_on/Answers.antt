use Rattle.std.proofs.Common.{◌≡◌, ◌+◌, ◌∷◌, List, [], length, length-append, map, All, refl, sym, ap, subst, ◌∙◌, arith}
use Rattle.std.proofs.lemmas.List.{length-map}
use Rattle.std.proofs.lemmas.List.Elements.{recursion_from_All}
use Rattle.std.proofs.lemmas.Slice.Zip.{AllZip-long}
use Rattle.osc_model.specs.Events.{record_full}
use Rattle.osc_record.specs.Shown.{room_of}
use Rattle.osc_core.specs.Telling.{told}
use Rattle.osc_turn.specs.declared.view.View.{View}
use Rattle.osc_turn.specs.History.{StartsWith, own}
use Rattle.osc_turn.specs.Rule.{number_of}
use Rattle.osc_turn.specs.Passes.{view}
use Rattle.osc_live.specs.Enrolments.{refusal_of}
use Rattle.osc_live.specs.Seen.{past_of, history_of}
use Rattle.osc_life.specs.declared.life.Played.TheVariants.{Each, NoRoom}
use Rattle.osc_life.specs.Crews.{names_of, IsCrewFrom, IsSilent, HasSeen}
use Rattle.osc_life.specs.Holders.{Holder, Stays, holder_of, holder_at, seen_by}
use Rattle.osc_life.specs.Lives.{AreShares, HasNoRoomToEnrol}
use Rattle.osc_life.specs.Works.{IsDone, caller_of, caller_in}
use Rattle.osc_life.proofs.Ending.{Finishes, lives_each, lives_none, full_none, never_both}
use Rattle.osc_life.proofs.Finishing.{names_many, known_many, all_playable, zeroth, finishes}
use Rattle.osc_life.proofs.lifetime.live_on.Goals as goal
use Rattle.osc_life.proofs.lifetime.live_on.Goals.{In_ok-first-in-None, In_ok-jobs-in-None, In_ok-crew-in-None, In_ok-crew, In_ok-push-in-Some, In_ok-closed-in-Some}

-- All callers were enrolled.

crew_each : (g : _) (c : In_ok-first-in-None g)
    → IsCrewFrom (view c.args.life.first.pass).made (history_of (view c.args.life.first.pass))
    ((view c.args.life.first.pass).made + length c.in_ok-crew.crew.callers.items) (view c.in_ok-crew.crew.first.pass) c.in_ok-crew.crew.callers.items
crew_each g c = (rw c.in-None.is at c.in_ok-crew.ensures.enrolled).0

many_each : (g : _) (c : In_ok-first-in-None g) → length c.in_ok-crew.crew.callers.items ≡ length c.args.works.items
many_each g c = let enrolled = rw c.in-None.is at c.in_ok-crew.ensures.enrolled in omega (arith, enrolled.1, c.len.ensures, c.args.works.ok.0)

zero_each : (g : _) (c : In_ok-first-in-None g)
    → holder_of c.args.life.live.caps c.in_ok-first-in-None.field-0.first ≡ holder_at c.args.life.live.caps 0
zero_each g c =
    zeroth c.args.life.live.caps c.in_ok-first-in-None.field-0.first (c.in_ok-first-in-None.ensures.number ∙ c.in_ok-crew.ensures.number)
    (ap number_of c.in_ok-first-in-None.ensures.same ∙ (crew_each g c).token)

-- nothing was played yet
played_each : (g : _) (c : In_ok-first-in-None g)
    → g.T.Meanwhile.rounds c.args.on.now c.args.on.now c.args.meanwhile (holder_at c.args.life.live.caps 0)
    (view c.in_ok-first-in-None.field-0.first.pass) (view c.in_ok-first-in-None.field-0.first.pass)
played_each g c =
    c.requires.begun (view c.in_ok-first-in-None.field-0.first.pass)
    (subst (λ (v : View). StartsWith v.seen (view c.args.life.first.pass).seen) (sym c.in_ok-first-in-None.ensures.same) c.in_ok-crew.ensures.seen)

pub make_jobs-requires : goal.make_jobs-requires
make_jobs-requires g c =
    names_many c.in_ok-first-in-None.field-0.callers.items c.in_ok-crew.crew.callers.items c.in_ok-first-in-None.ensures.names
    ∙ many_each g (goal.at.make_jobs-requires g c).In_ok-first-in-None

pub play_beside-requires-clause-jobs : goal.play_beside-requires-clause-jobs
play_beside-requires-clause-jobs g c κs within =
    all_playable c.args.life.live g.P.Worker.ready c.in_ok-jobs-in-None.jobs.items c.in_ok-first-in-None.field-0.callers.items c.args.works.items
    c.in_ok-jobs-in-None.ensures.callers c.in_ok-jobs-in-None.ensures.works c.in_ok-first-in-None.ensures.callers_ours c.requires.ready

pub play_beside-requires-clause-goes : goal.play_beside-requires-clause-goes
play_beside-requires-clause-goes g c κs within =
    let at = (goal.at.play_beside-requires-clause-goes g c).In_ok-first-in-None in
    let met = c.in_ok-first-in-None.field-0.first in
    record {
      ours = c.in_ok-first-in-None.ensures.ours;
      before = c.args.on.now;
      start = view met.pass;
      played = subst (λ (h : Holder). g.T.Meanwhile.rounds c.args.on.now c.args.on.now c.args.meanwhile h (view met.pass) (view met.pass))
          (sym (zero_each g at)) (played_each g at);
    }

-- as many callers come back as were enrolled
back_each : (g : _) (c : In_ok-crew-in-None g) → length c.in_ok-crew-in-None.field-0.crew.callers.items ≡ length c.in_ok-crew.crew.callers.items
back_each g c =
    let jobs = c.in_ok-jobs-in-None.jobs.items in
    let both = c.in_ok-crew-in-None.ensures in
    omega (
      arith,
      known_many c.in_ok-crew-in-None.field-0.crew.callers.items (map caller_in both.all) both.over.same,
      length-map both.all caller_in,
      AllZip-long (IsDone g.P.Worker.plays c.args.life.live.caps) jobs both.all both.done,
      ap length c.in_ok-jobs-in-None.ensures.callers,
      length-map jobs caller_of,
      names_many c.in_ok-first-in-None.field-0.callers.items c.in_ok-crew.crew.callers.items c.in_ok-first-in-None.ensures.names,
    )

pub hand_in-requires-clause-number : goal.hand_in-requires-clause-number
hand_in-requires-clause-number g c =
    ap (λ (h : Holder). h.caller) (c.in_ok-crew-in-None.ensures.over.holder ∙ zero_each g (goal.at.hand_in-requires-clause-number g c).In_ok-first-in-None)

pub hand_in-requires-clause-few : goal.hand_in-requires-clause-few
hand_in-requires-clause-few g c =
    let at = goal.at.hand_in-requires-clause-few g c in
    omega (arith, back_each g at.In_ok-crew-in-None, many_each g at.In_ok-first-in-None, ap length c.new.ensures.items, c.requires.few)

pub hand_in-requires-clause-all_in : goal.hand_in-requires-clause-all_in
hand_in-requires-clause-all_in g c =
    let at = goal.at.hand_in-requires-clause-all_in g c in
    c.in_ok-crew-in-None.ensures.over.made ∙ ap (λ (v : View). v.made) c.in_ok-first-in-None.ensures.same ∙ (crew_each g at.In_ok-first-in-None).made_is
    ∙ omega (arith, back_each g at.In_ok-crew-in-None, ap length c.new.ensures.items, c.requires.whole.counted.made_is)

pub returns-in_ok-closed-in-None : goal.returns-in_ok-closed-in-None
returns-in_ok-closed-in-None g c =
    let at = goal.at.returns-in_ok-closed-in-None g c in
    let plays = g.P.Worker.plays in
    let ends = g.T.Meanwhile.ends in
    let rounds = g.T.Meanwhile.rounds in
    let live = c.args.life.live in
    let caps = live.caps in
    let past = past_of live.turn in
    let v0 = view c.args.life.first.pass in
    let crew = c.in_ok-crew.crew in
    let v = view crew.first.pass in
    let met = c.in_ok-first-in-None.field-0 in
    let start = view met.first.pass in
    let olds = c.args.life.others.items in
    let enrolled = crew.callers.items in
    let jobs = c.in_ok-jobs-in-None.jobs.items in
    let out = c.in_ok-crew-in-None.field-0 in
    let both = c.in_ok-crew-in-None.ensures in
    let others = map caller_in both.all in
    let tokens = map seen_by others in
    let works = c.args.works.items in
    let closed = c.in_ok-closed-in-None.closed in
    let kept = told g.M.Method.keep g.M.Method.heard closed.kept.items in
    let before = c.args.on.now in
    let after = c.play_beside.new.on in
    let guests = c.new.result.items in
    let done =
    finishes live rounds ends past before after c.args.meanwhile out.end met.first out.crew.first others out.crew.callers.items olds guests closed.bytes.items kept
    (c.in_ok-first-in-None.ensures.number ∙ c.in_ok-crew.ensures.number) (zero_each g at.In_ok-first-in-None) both.over before start
    (played_each g at.In_ok-first-in-None) c.in_ok-closed-in-None.ensures in
    let none : Finishes (λ w. ends before after out.end (holder_at caps 0) tokens start w) caps past olds others [] closed.bytes.items kept =
    rw c.new.ensures.items at done in
    let stays : Stays v (view none.last.pass) =
    subst (λ (u : View). Stays u (view none.last.pass)) c.in_ok-first-in-None.ensures.same
    (c.requires.stays after out.end tokens start (view none.last.pass) none.ended) in
    let callers_are = c.in_ok-jobs-in-None.ensures.callers in
    lives_each plays ends caps past c.a_server_stays_sound.ensures.step c.a_server_stays_sound.ensures.opening v0 v start olds enrolled c.requires.whole.old
    c.requires.whole.counted.made_is c.in_ok-crew.ensures.seen before after closed.bytes.items kept out.end works (Each out.ends) (v0.made + length enrolled)
    (crew_each g at.In_ok-first-in-None)
    jobs both.all (ap names_of callers_are ∙ c.in_ok-first-in-None.ensures.names)
    (sym (length-map jobs caller_of) ∙ ap length callers_are
    ∙ names_many met.callers.items enrolled c.in_ok-first-in-None.ensures.names)
    (recursion_from_All IsSilent (map caller_of jobs) (subst (All IsSilent) (sym callers_are) c.in_ok-first-in-None.ensures.silent))
    (recursion_from_All (HasSeen v.seen) (map caller_of jobs) (subst (All (HasSeen v.seen)) (sym callers_are) c.in_ok-first-in-None.ensures.told))
    both.done none stays
    (λ history shares. (
      many_each g at.In_ok-first-in-None,
      subst (λ (q : List g.row.P.Denot × List g.row.P-End.Denot). AreShares plays caps (own 0 history) history v0.made q.0 q.1 tokens)
          (λ i. (c.in_ok-jobs-in-None.ensures.works i, sym both.ends_are i)) shares,
    ))

-- There was no room for an enrolment.

pub last_round-requires-clause-goes : goal.last_round-requires-clause-goes
last_round-requires-clause-goes g c κs within =
    let crew = c.in_ok-crew.crew.first in
    let enrolled = rw c.in-Some.is at c.in_ok-crew.ensures.enrolled in
    let zero = zeroth c.args.life.live.caps crew c.in_ok-crew.ensures.number enrolled.0.token in
    record {
      ours = c.in_ok-crew.ensures.ours;
      before = c.args.on.now;
      start = view crew.pass;
      played = subst (λ (h : Holder). g.T.Meanwhile.rounds c.args.on.now c.args.on.now c.args.meanwhile h (view crew.pass) (view crew.pass)) (sym zero)
          (c.requires.begun (view crew.pass) c.in_ok-crew.ensures.seen);
    }

-- as many callers come back
back_none : (g : _) (c : In_ok-push-in-Some g) → length c.in_ok-crew-in-Some.crew.callers.items ≡ length c.in_ok-crew.crew.callers.items
back_none g c = known_many c.in_ok-crew-in-Some.crew.callers.items c.in_ok-crew.crew.callers.items c.in_ok-crew-in-Some.ensures.same

pub hand_in-requires-in-Some-clause-few : goal.hand_in-requires-in-Some-clause-few
hand_in-requires-in-Some-clause-few g c =
    let at = (goal.at.hand_in-requires-in-Some-clause-few g c).In_ok-push-in-Some in
    let enrolled = rw c.in-Some.is at c.in_ok-crew.ensures.enrolled in
    omega (
      arith,
      back_none g at,
      enrolled.1,
      c.len.ensures,
      c.args.works.ok.0,
      ap length c.in_ok-push-in-Some.ensures.items,
      length-append c.in_ok-guests-in-Some.guests.items (c.in-Some.guest ∷ []),
      ap length c.in_ok-guests-in-Some.ensures.items,
      c.requires.few,
    )

pub hand_in-requires-in-Some-clause-all_in : goal.hand_in-requires-in-Some-clause-all_in
hand_in-requires-in-Some-clause-all_in g c =
    let at = (goal.at.hand_in-requires-in-Some-clause-all_in g c).In_ok-push-in-Some in
    let enrolled = rw c.in-Some.is at c.in_ok-crew.ensures.enrolled in
    c.in_ok-crew-in-Some.ensures.made ∙ enrolled.0.made_is
    ∙ omega (
      arith,
      back_none g at,
      ap length c.in_ok-push-in-Some.ensures.items,
      length-append c.in_ok-guests-in-Some.guests.items (c.in-Some.guest ∷ []),
      ap length c.in_ok-guests-in-Some.ensures.items,
      c.requires.whole.counted.made_is,
    )

-- what the close comes to
finishes_none : (g : _) (c : In_ok-closed-in-Some g)
    → Finishes
    (λ w. g.T.Meanwhile.ends c.args.on.now c.last_round.new.on c.in_ok-crew-in-Some.end (holder_at c.args.life.live.caps 0)
    (map seen_by c.in_ok-crew.crew.callers.items) (view c.in_ok-crew.crew.first.pass) w) c.args.life.live.caps (past_of c.args.life.live.turn)
    c.args.life.others.items
    c.in_ok-crew.crew.callers.items
    c.push.new.self.items
    c.in_ok-closed-in-Some.closed.bytes.items (told g.M.Method.keep g.M.Method.heard c.in_ok-closed-in-Some.closed.kept.items)
finishes_none g c =
    let live = c.args.life.live in
    let first = c.in_ok-crew.crew.first in
    let facts = rw c.in-Some.is at c.in_ok-crew.ensures.enrolled in
    let after = c.in_ok-crew-in-Some.crew in
    finishes live g.T.Meanwhile.rounds g.T.Meanwhile.ends (past_of live.turn) c.args.on.now c.last_round.new.on c.args.meanwhile c.in_ok-crew-in-Some.end
    first after.first c.in_ok-crew.crew.callers.items after.callers.items c.args.life.others.items c.push.new.self.items
    c.in_ok-closed-in-Some.closed.bytes.items (told g.M.Method.keep g.M.Method.heard c.in_ok-closed-in-Some.closed.kept.items)
    c.in_ok-crew.ensures.number (zeroth live.caps first c.in_ok-crew.ensures.number facts.0.token) c.in_ok-crew-in-Some.ensures c.args.on.now
    (view first.pass) (c.requires.begun (view first.pass) c.in_ok-crew.ensures.seen) c.in_ok-closed-in-Some.ensures

stays_none : (g : _) (c : In_ok-closed-in-Some g) → Stays (view c.in_ok-crew.crew.first.pass) (view (finishes_none g c).last.pass)
stays_none g c =
    let done = finishes_none g c in
    c.requires.stays c.last_round.new.on c.in_ok-crew-in-Some.end (map seen_by c.in_ok-crew.crew.callers.items) (view c.in_ok-crew.crew.first.pass)
    (view done.last.pass) done.ended

pub room_in-requires : goal.room_in-requires
room_in-requires g c =
    let at = (goal.at.room_in-requires g c).In_ok-closed-in-Some in
    let crew = c.in_ok-crew.crew in
    let v0 = view c.args.life.first.pass in
    let facts = rw c.in-Some.is at c.in_ok-crew.ensures.enrolled in
    let full =
    full_none c.args.life.live.caps (past_of c.args.life.live.turn) v0 (view crew.first.pass) c.args.life.others.items crew.callers.items
    c.requires.whole.old c.requires.whole.counted.made_is c.in_ok-closed-in-Some.closed.bytes.items
    (told g.M.Method.keep g.M.Method.heard c.in_ok-closed-in-Some.closed.kept.items) _ (v0.made + 1 + length crew.callers.items) facts.0 c.in-Some.why
    facts.2 c.push.new.self.items (finishes_none g at) (stays_none g at) in
    λ is. never_both full.0 c.in-Some.why is full.1

pub returns-in_ok-closed-in-Some : goal.returns-in_ok-closed-in-Some
returns-in_ok-closed-in-Some g c =
    let at = (goal.at.returns-in_ok-closed-in-Some g c).In_ok-closed-in-Some in
    let caps = c.args.life.live.caps in
    let room = c.room_in.result in
    let crew = c.in_ok-crew.crew in
    let v0 = view c.args.life.first.pass in
    let v = view crew.first.pass in
    let facts = rw c.in-Some.is at c.in_ok-crew.ensures.enrolled in
    let done =
    lives_none g.P.Worker.plays g.T.Meanwhile.ends caps (past_of c.args.life.live.turn) c.a_server_stays_sound.ensures.step
    c.a_server_stays_sound.ensures.opening
    v0 v v c.args.life.others.items crew.callers.items
    c.requires.whole.old c.requires.whole.counted.made_is c.in_ok-crew.ensures.seen c.args.on.now c.last_round.new.on c.in_ok-closed-in-Some.closed.bytes.items
    (told g.M.Method.keep g.M.Method.heard c.in_ok-closed-in-Some.closed.kept.items) c.in_ok-crew-in-Some.end
    c.args.works.items (NoRoom room c.args.works) (v0.made + 1 + length crew.callers.items) facts.0 c.in-Some.why facts.2 c.push.new.self.items
    (finishes_none g at) (stays_none g at) in
    let is : record_full (room_of room) ≡ record_full done.0 = sym (ap refusal_of c.room_in.ensures) ∙ done.1 in
    let same : done.0 ≡ room_of room = cc in
    done.2
    (λ history none. (
      omega (arith, facts.1, c.len.ensures, c.args.works.ok.0),
      subst (HasNoRoomToEnrol caps history) same none,
      refl,
    ))
