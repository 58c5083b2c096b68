use Rattle.std.proofs.Common.{◌≡◌, ◌+◌, ◌∷◌, ◌++◌, ℕ, List, [], length, map, All, None, Some, refl, sym, ap, subst, ◌∙◌, arith, length-append}
use Rattle.std.specs.List.{AllByRecursion}
use Rattle.std.proofs.lemmas.List.{length-map}
use Rattle.std.proofs.lemmas.List.Elements.{All-head, All-push, All-from_recursion, recursion_from_All}
use Rattle.std.proofs.lemmas.Slice.Zip.{AllZip-long}
use Rattle.osc_model.specs.Events.{record_full}
use Rattle.osc_record.specs.Shown.{room_of}
use Rattle.osc_core.specs.Telling.{told}
use Rattle.osc_turn.specs.declared.view.View.{View}
use Rattle.osc_turn.specs.History.{StartsWith, own}
use Rattle.osc_turn.specs.Rule.{number_of}
use Rattle.osc_turn.specs.Passes.{view}
use Rattle.osc_turn.proofs.Histories.{starts_here, starts_on}
use Rattle.osc_live.specs.declared.caller.Caller.{Caller}
use Rattle.osc_live.specs.declared.guest.Guest.{Guest}
use Rattle.osc_live.specs.Closing.{known, views_of, Closes}
use Rattle.osc_live.specs.Enrolments.{refusal_of}
use Rattle.osc_live.specs.Seen.{past_of, IsTokenOf, history_of}
use Rattle.osc_life.specs.declared.life.Played.TheVariants.{Each, NoRoom}
use Rattle.osc_life.specs.Crews.{names_of, IsCrewFrom, IsSilent, HasSeen}
use Rattle.osc_life.specs.Holders.{Stays, holder_of, holder_at, seen_by}
use Rattle.osc_life.specs.Lives.{AreShares, HasNoRoomToEnrol, IsUnder}
use Rattle.osc_life.specs.Works.{IsDone, caller_of, work_of, caller_in}
use Rattle.osc_life.proofs.Ending.{all_split, known_joined, never_both}
use Rattle.osc_life.proofs.Finishing.{names_many, known_many, all_playable, closed_with}
use Rattle.osc_life.proofs.Looks.{closed_before}
use Rattle.osc_life.proofs.Under.{under_each, under_none, full_under}
use Rattle.osc_life.proofs.lifetime.live_under.Goals as goal
use Rattle.osc_life.proofs.lifetime.live_under.Goals.{In_ok-first-in-None, In_ok-players-in-None, In_ok-callers-in-None}

-- caller 0's view is that of before
same_stays : (v w : View) → w ≡ v → Stays v w
same_stays v w is = record {
  token = ap number_of is;
  starts = subst (λ (u : View). StartsWith u.seen v.seen) (sym is) (starts_here v.seen);
  own_same = ap (λ (u : View). own (number_of v) u.seen) is;
}

-- All callers were enrolled.

crew_each : (g : _) (c : In_ok-first-in-None g)
    → IsCrewFrom (view c.args.life.first.pass).made (history_of (view c.args.life.first.pass))
    ((view c.args.life.first.pass).made + length c.in_ok-crew.crew.callers.items) (view c.in_ok-crew.crew.first.pass) c.in_ok-crew.crew.callers.items
crew_each g c = (rw c.in-None.is at c.in_ok-crew.ensures.enrolled).0

many_each : (g : _) (c : In_ok-first-in-None g) → length c.in_ok-crew.crew.callers.items ≡ length c.args.tasks.works.items + 1
many_each g c = let enrolled = rw c.in-None.is at c.in_ok-crew.ensures.enrolled in omega (arith, enrolled.1, c.len.ensures, c.args.tasks.works.ok.0)

-- the callers of the works, and one more
parted : (g : _) (c : In_ok-players-in-None g)
    → c.in_ok-first-in-None.field-0.callers.items
    ≡ map caller_of c.in_ok-players-in-None.players.jobs.items ++ c.in_ok-players-in-None.players.caller ∷ []
parted g c = c.in_ok-players-in-None.ensures.callers

jobs_many : (g : _) (c : In_ok-players-in-None g)
    → length c.in_ok-players-in-None.players.jobs.items + 1 ≡ length c.in_ok-crew.crew.callers.items
jobs_many g c =
    let players = c.in_ok-players-in-None.players in
    omega (
      arith,
      ap length (parted g c),
      length-append (map caller_of players.jobs.items) (players.caller ∷ []),
      length-map players.jobs.items caller_of,
      names_many c.in_ok-first-in-None.field-0.callers.items c.in_ok-crew.crew.callers.items c.in_ok-first-in-None.ensures.names,
    )

both_ours : (g : _) (c : In_ok-players-in-None g)
    → AllByRecursion (λ (one : Caller). IsTokenOf c.args.life.live.turn c.args.life.live.caps one.pass)
    (map caller_of c.in_ok-players-in-None.players.jobs.items)
    × AllByRecursion (λ (one : Caller). IsTokenOf c.args.life.live.turn c.args.life.live.caps one.pass) (c.in_ok-players-in-None.players.caller ∷ [])
both_ours g c =
    let Ours : Caller → Type 0 = λ one. IsTokenOf c.args.life.live.turn c.args.life.live.caps one.pass in
    let callers = map caller_of c.in_ok-players-in-None.players.jobs.items in
    let own = c.in_ok-players-in-None.players.caller ∷ [] in
    all_split Ours callers own (recursion_from_All Ours (callers ++ own) (subst (All Ours) (parted g c) c.in_ok-first-in-None.ensures.callers_ours))

-- nothing was played meanwhile
begun : (g : _) (c : In_ok-players-in-None g)
    → g.T.Meanwhile.rounds c.args.on.now c.args.on.now c.in_ok-players-in-None.players.meanwhile
    (holder_of c.args.life.live.caps c.in_ok-players-in-None.players.caller)
    (view c.in_ok-players-in-None.players.caller.pass)
    (view c.in_ok-players-in-None.players.caller.pass)
begun g c =
    let own = c.in_ok-players-in-None.players.caller in
    subst (λ (m : g.row.T.Denot). g.T.Meanwhile.rounds c.args.on.now c.args.on.now m (holder_of c.args.life.live.caps own) (view own.pass) (view own.pass))
    (sym c.in_ok-players-in-None.ensures.meanwhile) (c.requires.begun (holder_of c.args.life.live.caps own) (view own.pass))

pub cast-requires : goal.cast-requires
cast-requires g c =
    names_many c.in_ok-first-in-None.field-0.callers.items c.in_ok-crew.crew.callers.items c.in_ok-first-in-None.ensures.names
    ∙ many_each g (goal.at.cast-requires g c).In_ok-first-in-None

pub play_seen-requires-clause-begins : goal.play_seen-requires-clause-begins
play_seen-requires-clause-begins g c κs within =
    let at = (goal.at.play_seen-requires-clause-begins g c).In_ok-players-in-None in
    let Ours : Caller → Type 0 = λ one. IsTokenOf c.args.life.live.turn c.args.life.live.caps one.pass in
    let players = c.in_ok-players-in-None.players in
    record {
      jobs = all_playable c.args.life.live g.P.Worker.ready players.jobs.items (map caller_of players.jobs.items) c.args.tasks.works.items refl
          c.in_ok-players-in-None.ensures.works (All-from_recursion Ours (map caller_of players.jobs.items) (both_ours g at).0) c.requires.ready;
      goes = record { ours = (both_ours g at).1.0; before = c.args.on.now; start = view players.caller.pass; played = begun g at };
    }

pub hand_in-requires-clause-ours : goal.hand_in-requires-clause-ours
hand_in-requires-clause-ours g c = c.in_ok-both-in-None.ensures.back.ours

pub hand_in-requires-clause-number : goal.hand_in-requires-clause-number
hand_in-requires-clause-number g c =
    c.in_ok-both-in-None.ensures.back.number ∙ c.in_ok-first-in-None.ensures.number ∙ c.in_ok-crew.ensures.number

pub hand_in-requires-clause-callers_ours : goal.hand_in-requires-clause-callers_ours
hand_in-requires-clause-callers_ours g c =
    let live = c.args.life.live in
    let Ours : Caller → Type 0 = λ one. IsTokenOf live.turn live.caps one.pass in
    let out = c.in_ok-both-in-None.both in
    let over = c.in_ok-both-in-None.ensures.played.over in
    subst (All Ours) (sym c.in_ok-callers-in-None.ensures) (All-push Ours out.crew.callers.items out.crew.first over.others_ours over.ours)

-- there are as many callers as were enrolled
back_each : (g : _) (c : In_ok-callers-in-None g)
    → length c.in_ok-players-in-None.players.jobs.items + 1 ≡ length c.in_ok-crew.crew.callers.items
    → length c.in_ok-callers-in-None.callers.items ≡ length c.in_ok-crew.crew.callers.items
back_each g c many =
    let out = c.in_ok-both-in-None.both in
    let both = c.in_ok-both-in-None.ensures.played in
    omega (
      arith,
      ap length c.in_ok-callers-in-None.ensures,
      length-append out.crew.callers.items (out.crew.first ∷ []),
      known_many out.crew.callers.items (map caller_in both.all) both.over.same,
      length-map both.all caller_in,
      AllZip-long (IsDone g.P.Worker.plays c.args.life.live.caps) c.in_ok-players-in-None.players.jobs.items both.all both.done,
      many,
    )

pub hand_in-requires-clause-few : goal.hand_in-requires-clause-few
hand_in-requires-clause-few g c =
    let at = goal.at.hand_in-requires-clause-few g c in
    omega (arith, back_each g at.In_ok-callers-in-None (jobs_many g at.In_ok-players-in-None), many_each g at.In_ok-first-in-None, ap length c.new.ensures.items, c.requires.few)

pub hand_in-requires-clause-all_in : goal.hand_in-requires-clause-all_in
hand_in-requires-clause-all_in g c =
    let at = goal.at.hand_in-requires-clause-all_in g c in
    ap (λ (v : View). v.made) c.in_ok-both-in-None.ensures.back.looked.same ∙ ap (λ (v : View). v.made) c.in_ok-first-in-None.ensures.same ∙ (crew_each g at.In_ok-first-in-None).made_is
    ∙ omega (arith, back_each g at.In_ok-callers-in-None (jobs_many g at.In_ok-players-in-None), ap length c.new.ensures.items, c.requires.whole.counted.made_is)

pub returns-in_ok-closed-in-None-clause-lives : goal.returns-in_ok-closed-in-None-clause-lives
returns-in_ok-closed-in-None-clause-lives g c =
    let at = goal.at.returns-in_ok-closed-in-None-clause-lives g c in
    let live = c.args.life.live in
    let caps = live.caps in
    let past = past_of live.turn in
    let v0 = view c.args.life.first.pass in
    let crew = c.in_ok-crew.crew in
    let v = view crew.first.pass in
    let first = c.in_ok-first-in-None.field-0.first in
    let met = c.in_ok-first-in-None.field-0.callers.items in
    let olds = c.args.life.others.items in
    let enrolled = crew.callers.items in
    let jobs = c.in_ok-players-in-None.players.jobs.items in
    let out = c.in_ok-both-in-None.both in
    let both = c.in_ok-both-in-None.ensures.played in
    let over = both.over in
    let others = map caller_in both.all in
    let heard = out.crew.callers.items in
    let own0 = c.in_ok-players-in-None.players.caller in
    let own1 = out.crew.first in
    let works = c.args.tasks.works.items in
    let closed = c.in_ok-closed-in-None.closed in
    let kept = told g.M.Method.keep g.M.Method.heard closed.kept.items in
    let before = c.args.on.now in
    let after = c.play_seen.new.on in
    let same = c.in_ok-first-in-None.ensures.same in
    let these : met ≡ map caller_of jobs ++ own0 ∷ [] = parted g at.In_ok-players-in-None in
    let has = recursion_from_All (HasSeen v.seen) (map caller_of jobs ++ own0 ∷ []) (subst (All (HasSeen v.seen)) these c.in_ok-first-in-None.ensures.told) in
    let knows_first : StartsWith (seen_by own1) (seen_by first) =
    starts_on (seen_by own1) (seen_by own0) (seen_by first) over.starts
    (subst (λ (u : View). StartsWith (seen_by own0) u.seen) (sym same) (all_split (HasSeen v.seen) (map caller_of jobs) (own0 ∷ []) has).1.0) in
    let known_is : known (heard ++ own1 ∷ []) ≡ known (others ++ own1 ∷ []) =
    known_joined heard (own1 ∷ []) ∙ (λ i. over.same i ++ known (own1 ∷ [])) ∙ sym (known_joined others (own1 ∷ [])) in
    let seen = c.in_ok-both-in-None.first in
    let closes =
    closed_before caps past first seen (olds ++ (others ++ own1 ∷ [])) [] closed.bytes.items kept c.in_ok-both-in-None.ensures.back.number
    c.in_ok-both-in-None.ensures.back.looked
    (closed_with caps past seen olds (heard ++ own1 ∷ []) (others ++ own1 ∷ []) [] closed.bytes.items kept known_is
    (subst (λ (q : List Caller × List Guest). Closes caps past (known (seen ∷ (olds ++ q.0))) (views_of (seen ∷ (olds ++ q.0)) q.1) closed.bytes.items kept)
    (λ i. (c.in_ok-callers-in-None.ensures i, c.new.ensures.items i)) c.in_ok-closed-in-None.ensures)) in
    let count : length jobs ≡ length works =
    omega (arith, ap length c.in_ok-players-in-None.ensures.works, length-map jobs work_of) in
    under_each g.P.Worker.plays g.T.Meanwhile.ends caps past c.a_server_stays_sound.ensures.step c.a_server_stays_sound.ensures.opening v0 v olds enrolled
    c.requires.whole.old c.requires.whole.counted.made_is c.in_ok-crew.ensures.seen before after closed.bytes.items kept works (Each out.ends) (Some out.end) first
    (c.in_ok-first-in-None.ensures.number ∙ c.in_ok-crew.ensures.number) (same_stays v (view first.pass) same) (v0.made + length enrolled)
    (crew_each g at.In_ok-first-in-None) jobs both.all own0 own1 out.end (ap names_of (sym these) ∙ c.in_ok-first-in-None.ensures.names)
    (omega (arith, count, many_each g at.In_ok-first-in-None))
    (recursion_from_All IsSilent (map caller_of jobs ++ own0 ∷ []) (subst (All IsSilent) these c.in_ok-first-in-None.ensures.silent)) has
    both.done over.holder over.starts knows_first over.told
    (over.ended before (view own0.pass) (begun g at.In_ok-players-in-None)) closes
    (λ history shared under. (
      many_each g at.In_ok-first-in-None,
      map seen_by others,
      subst (λ (q : List g.row.P.Denot × List g.row.P-End.Denot). AreShares g.P.Worker.plays caps (own 0 history) history v0.made q.0 q.1 (map seen_by others))
          (λ i. (c.in_ok-players-in-None.ensures.works i, sym both.ends_are i)) shared,
      subst (λ (n : ℕ). IsUnder g.T.Meanwhile.ends (holder_at caps (v0.made + n)) (own 0 history) history (map seen_by others) before after out.end) count under,
    ))

-- There was no room for an enrolment.

pub room_in-requires : goal.room_in-requires
room_in-requires g c =
    let crew = c.in_ok-crew.crew in
    let v0 = view c.args.life.first.pass in
    let facts = rw c.in-Some.is at c.in_ok-crew.ensures.enrolled in
    let full =
    full_under c.args.life.live.caps (past_of c.args.life.live.turn) v0 (view crew.first.pass) c.args.life.others.items crew.callers.items
    c.requires.whole.old c.requires.whole.counted.made_is c.in_ok-closed-in-Some.closed.bytes.items
    (told g.M.Method.keep g.M.Method.heard c.in_ok-closed-in-Some.closed.kept.items) crew.first c.in_ok-crew.ensures.number
    (same_stays (view crew.first.pass) (view crew.first.pass) refl) (v0.made + 1 + length crew.callers.items) facts.0 c.in-Some.why facts.2
    c.push.new.self.items c.in_ok-closed-in-Some.ensures in
    λ is. never_both full.0 c.in-Some.why is full.1

pub returns-in_ok-closed-in-Some-clause-lives : goal.returns-in_ok-closed-in-Some-clause-lives
returns-in_ok-closed-in-Some-clause-lives g c =
    let caps = c.args.life.live.caps in
    let room = c.room_in.result in
    let crew = c.in_ok-crew.crew in
    let v0 = view c.args.life.first.pass in
    let v = view crew.first.pass in
    let facts = rw c.in-Some.is at c.in_ok-crew.ensures.enrolled in
    let done =
    under_none g.P.Worker.plays g.T.Meanwhile.ends caps (past_of c.args.life.live.turn) c.a_server_stays_sound.ensures.step
    c.a_server_stays_sound.ensures.opening v0 v c.args.life.others.items crew.callers.items c.requires.whole.old c.requires.whole.counted.made_is c.in_ok-crew.ensures.seen
    c.args.on.now c.args.on.now c.in_ok-closed-in-Some.closed.bytes.items
    (told g.M.Method.keep g.M.Method.heard c.in_ok-closed-in-Some.closed.kept.items) c.args.tasks.works.items (NoRoom room c.args.tasks.works) None crew.first
    c.in_ok-crew.ensures.number (same_stays v v refl) (v0.made + 1 + length crew.callers.items) facts.0 c.in-Some.why facts.2
    c.push.new.self.items c.in_ok-closed-in-Some.ensures in
    let is : record_full (room_of room) ≡ record_full done.0 = sym (ap refusal_of c.room_in.ensures) ∙ done.1 in
    let same : done.0 ≡ room_of room = cc in
    done.2
    (λ history none. (
      omega (arith, facts.1, c.len.ensures, c.args.tasks.works.ok.0),
      subst (HasNoRoomToEnrol caps history) same none,
      refl,
      refl,
    ))

-- What was looked at.

pub returns-in_ok-closed-in-None-clause-looked : goal.returns-in_ok-closed-in-None-clause-looked
returns-in_ok-closed-in-None-clause-looked g c =
    let closes = c.in_ok-closed-in-None.ensures in
    let seen = c.in_ok-both-in-None.first in (
      view seen.pass,
      closes.history,
      c.in_ok-both-in-None.ensures.back.came,
      All-head (λ (v : View). StartsWith closes.history v.seen) (view seen.pass)
          (views_of (c.args.life.others.items ++ c.in_ok-callers-in-None.callers.items) c.new.result.items) closes.carried,
      closes.recorded,
    )
