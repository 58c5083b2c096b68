-- A chain of recordings invokes what one server without end invokes.
use Rattle.std.proofs.Common.{◌≡◌, List, [], ◌∷◌, ◌++◌, length, map, drop, None, refl, sym, ap, subst, ◌∙◌, append_assoc}
use Rattle.std.proofs.Math.Seq.{drop-append_seam}
use Rattle.std.proofs.lemmas.List.{map-append}
use Rattle.osc_model.specs.Limits.{Limits, header_size}
use Rattle.osc_model.specs.State.{State, AreNumbered, opening}
use Rattle.osc_model.specs.Events.{Event, Answer, record_full, nothing_due, Entry, Invocation, room_in}
use Rattle.osc_model.specs.History.{AddsEntry, LegalFrom, Legal, after, invocations}
use Rattle.osc_model.specs.Step.{step, decided}
use Rattle.osc_model.proofs.Onward.{after_more, invoked_more, legal_split}
use Rattle.osc_turn.specs.History.{StartsWith}
use Rattle.osc_alike.specs.Alike.{bare_call, AreAlike, HaveRoom, invoked_by, after_events, ideal_by, ideal_after, PlaysAlike}
use Rattle.osc_alike.proofs.Steps.{ideal_numbers}
use Rattle.osc_carry.specs.Carried.{carried, renewed}
use Rattle.osc_carry.specs.Leading.{with_room, played_on, CarriesOn}
use Rattle.osc_carry.specs.Chains.{Part, all_events, HaveRooms, chain_invoked, chain_after, ChainsAlike}
use Rattle.osc_carry.proofs.Chained.{StayAlike, renewed_alike, renewed_numbers}
use Rattle.osc_chain_laws.specs.Reels.{Reel, events_of, entries_since, AreChained, later_events, later_invoked, later_moments, last_state, PlaysAsOne}
use Rattle.osc_chain_laws.specs.Moments.{Moment, bare_moment, moments, event_moments, ideal_moments}
use Rattle.osc_chain_laws.proofs.Timed.{StepsAlike, entries_moments, moments_more, ideal_moments_more, silent_moments, alike_moments}
use Rattle.osc_chain_laws.proofs.Roomy.{have_room_for}
use Rattle.osc_chain_laws.proofs.Silent.{lines_silent, carried_none}

-- what is known of chains
abbrev pub PlayAsOne : Type 0
PlayAsOne =
    (ideal real : State) (parts : List Part) → AreNumbered ideal.next_unit ideal.queue → AreAlike ideal real → HaveRooms real parts
    → ChainsAlike ideal real parts

-- An entry found room.
room_none : (answer : Answer) → AddsEntry answer → room_in answer ≡ None
room_none (record_full room) adds = absurd adds
room_none (nothing_due next) adds = absurd adds
room_none _ adds = refl

have_room : (state : State) (entries : List Entry) → LegalFrom state entries → HaveRoom state (events_of entries)
have_room state [] legal = tt
have_room state (entry ∷ entries) legal = (
  subst (λ (a : Answer). room_in a ≡ None) legal.3 (room_none entry.answer legal.2),
  have_room (step state entry.event).state entries legal.4,
)

-- what entries invoke, and where they lead, is what their events do
events_invoked : (state : State) (entries : List Entry) → invoked_by state (events_of entries) ≡ invocations state entries
events_invoked state [] = refl
events_invoked state (entry ∷ entries) =
    ap (λ (l : List Invocation). (step state entry.event).invocations ++ l) (events_invoked (step state entry.event).state entries)

events_there : (state : State) (entries : List Entry) → after_events state (events_of entries) ≡ after state entries
events_there state [] = refl
events_there state (entry ∷ entries) = events_there (step state entry.event).state entries

-- the recordings as parts of a chain
abbrev parts_of : Limits → List Entry → List Reel → List Part
parts_of caps old [] = []
parts_of caps old (reel ∷ reels) =
    record { room = reel.room; events = events_of (entries_since caps old reel) } ∷ parts_of (with_room caps reel.room) reel.history reels

events_are : (caps : Limits) (old : List Entry) (reels : List Reel) → all_events (parts_of caps old reels) ≡ later_events caps old reels
events_are caps old [] = refl
events_are caps old (reel ∷ reels) =
    ap (λ (l : List Event). events_of (entries_since caps old reel) ++ l) (events_are (with_room caps reel.room) reel.history reels)

-- what a recording does after what carries the old one on
record Goes (caps : Limits) (old : List Entry) (reel : Reel) : Type 0 where
  room : HaveRoom (renewed reel.room (after (opening caps) old)) (events_of (entries_since caps old reel))
  invoked : invoked_by (renewed reel.room (after (opening caps) old)) (events_of (entries_since caps old reel))
      ≡ invocations (opening (with_room caps reel.room)) reel.history
  moments_are : event_moments (renewed reel.room (after (opening caps) old)) (events_of (entries_since caps old reel))
      ≡ moments (opening (with_room caps reel.room)) reel.history
  there : after_events (renewed reel.room (after (opening caps) old)) (events_of (entries_since caps old reel))
      ≡ after (opening (with_room caps reel.room)) reel.history

reel_goes : (caps : Limits) (old : List Entry) (reel : Reel) → Legal (with_room caps reel.room) reel.history → CarriesOn caps old reel.room
    → StartsWith reel.history (played_on caps old reel.room).history → Goes caps old reel
reel_goes caps old reel legal carries starts =
    let start : State = opening (with_room caps reel.room) in
    let front : List Entry = (played_on caps old reel.room).history in
    let rest : List Entry = starts.0 in
    let whole : reel.history ≡ front ++ rest = starts.1 in
    let since : entries_since caps old reel ≡ rest = ap (drop (length front)) whole ∙ drop-append_seam front rest in
    let middle : State = renewed reel.room (after (opening caps) old) in
    let at : after start front ≡ middle = carries.state in
    let legal_rest : LegalFrom middle rest =
    subst (λ (s : State). LegalFrom s rest) at (legal_split start front rest (subst (LegalFrom start) whole legal.1)).1 in
    let silent : invocations start front ≡ [] = lines_silent start (carried caps old) (carried_none (after (opening caps) old)) in
    record {
      room = subst (λ (l : List Entry). HaveRoom middle (events_of l)) (sym since) (have_room middle rest legal_rest);
      invoked = ap (λ (l : List Entry). invoked_by middle (events_of l)) since
          ∙ events_invoked middle rest
          ∙ ap (λ (s : State). invocations s rest) (sym at)
          ∙ ap (λ (l : List Invocation). l ++ invocations (after start front) rest) (sym silent)
          ∙ sym (invoked_more start front rest)
          ∙ ap (invocations start) (sym whole);
      moments_are = ap (λ (l : List Entry). event_moments middle (events_of l)) since
          ∙ entries_moments middle rest
          ∙ ap (λ (s : State). moments s rest) (sym at)
          ∙ ap (λ (l : List Moment). l ++ moments (after start front) rest) (sym (silent_moments start front silent))
          ∙ sym (moments_more start front rest)
          ∙ ap (moments start) (sym whole);
      there = ap (λ (l : List Entry). after_events middle (events_of l)) since
          ∙ events_there middle rest
          ∙ ap (λ (s : State). after s rest) (sym at)
          ∙ sym (after_more start front rest)
          ∙ ap (after start) (sym whole);
    }

-- what the recordings do one after another
record GoOn (caps : Limits) (old : List Entry) (reels : List Reel) : Type 0 where
  rooms : HaveRooms (after (opening caps) old) (parts_of caps old reels)
  invoked : chain_invoked (after (opening caps) old) (parts_of caps old reels) ≡ later_invoked caps reels
  there : chain_after (after (opening caps) old) (parts_of caps old reels) ≡ last_state caps old reels

reels_go : (caps : Limits) (old : List Entry) (reels : List Reel) → AreChained caps old reels → GoOn caps old reels
reels_go caps old [] chained = record { rooms = tt; invoked = refl; there = refl }
reels_go caps old (reel ∷ reels) chained =
    let new : Limits = with_room caps reel.room in
    let one : Goes caps old reel = reel_goes caps old reel chained.0 chained.1 chained.2 in
    let more : GoOn new reel.history reels = reels_go new reel.history reels chained.3 in
    let parts : List Part = parts_of new reel.history reels in
    record {
      rooms = (one.room, subst (λ (s : State). HaveRooms s parts) (sym one.there) more.rooms);
      invoked = ap (λ (s : State). invoked_by (renewed reel.room (after (opening caps) old)) (events_of (entries_since caps old reel)) ++ chain_invoked s parts)
          one.there
          ∙ ap (λ (l : List Invocation). l ++ chain_invoked (after (opening new) reel.history) parts) one.invoked
          ∙ ap (λ (l : List Invocation). invocations (opening new) reel.history ++ l) more.invoked;
      there = ap (λ (s : State). chain_after s parts) one.there ∙ more.there;
    }

-- one server invokes at the same moments as the recordings do
alike_on : (one two three : State) → AreAlike one two → AreAlike two three → AreAlike one three
alike_on one two three p q =
    record { caps = p.caps ∙ q.caps; methods = p.methods ∙ q.methods; queue = p.queue ∙ q.queue; clock = p.clock ∙ q.clock }

reels_moments : StayAlike → StepsAlike → (ideal : State) (caps : Limits) (old : List Entry) (reels : List Reel) → AreNumbered ideal.next_unit ideal.queue
    → AreAlike ideal (after (opening caps) old) → AreChained caps old reels
    → map bare_moment (ideal_moments ideal (later_events caps old reels)) ≡ map bare_moment (later_moments caps reels)
reels_moments stay steps ideal caps old [] numbers alike chained = refl
reels_moments stay steps ideal caps old (reel ∷ reels) numbers alike chained =
    let new : Limits = with_room caps reel.room in
    let events : List Event = events_of (entries_since caps old reel) in
    let before : State = after (opening caps) old in
    let start : State = renewed reel.room before in
    let there : State = after (opening new) reel.history in
    let middle : State = ideal_after ideal events in
    let more : List Event = later_events new reel.history reels in
    let goes : Goes caps old reel = reel_goes caps old reel chained.0 chained.1 chained.2 in
    let begins : AreAlike ideal start = alike_on ideal before start alike (renewed_alike reel.room before) in
    let one : PlaysAlike ideal start events = stay ideal start events numbers (renewed_numbers reel.room before) begins goes.room in
    let ends : AreAlike middle there = subst (AreAlike middle) goes.there one.state in
    let now = alike_moments steps ideal start events numbers (renewed_numbers reel.room before) begins goes.room in
    let rest = reels_moments stay steps middle new reel.history reels (ideal_numbers ideal events numbers) ends chained.3 in
    ap (map bare_moment) (ideal_moments_more ideal events more)
    ∙ map-append bare_moment (ideal_moments ideal events) (ideal_moments middle more)
    ∙ ap (λ (l : List Moment). l ++ map bare_moment (ideal_moments middle more)) (now ∙ ap (map bare_moment) goes.moments_are)
    ∙ ap (λ (l : List Moment). map bare_moment (moments (opening new) reel.history) ++ l) rest
    ∙ sym (map-append bare_moment (moments (opening new) reel.history) (later_moments new reels))

ideal_on : (state : State) (first more : List Event) → ideal_by state (first ++ more) ≡ ideal_by state first ++ ideal_by (ideal_after state first) more
ideal_on state [] more = refl
ideal_on state (event ∷ first) more =
    ap (λ (l : List Invocation). (decided state event).invocations ++ l) (ideal_on (decided state event).state first more)
    ∙ sym (append_assoc (decided state event).invocations (ideal_by (decided state event).state first)
    (ideal_by (ideal_after (decided state event).state first) more))

ideal_there : (state : State) (first more : List Event) → ideal_after state (first ++ more) ≡ ideal_after (ideal_after state first) more
ideal_there state [] more = refl
ideal_there state (event ∷ first) more = ideal_there (decided state event).state first more

same_alike : (state : State) → AreAlike state state
same_alike state = record { caps = refl; methods = refl; queue = refl; clock = refl }

pub plays_as_one : StayAlike → StepsAlike → PlayAsOne → (caps : Limits) (first : List Entry) (reels : List Reel) → Legal caps first → AreChained caps first reels
    → PlaysAsOne caps first reels
plays_as_one stay steps as_one caps first reels legal chained =
    let start : State = opening caps in
    let there : State = after start first in
    let middle : State = ideal_after start (events_of first) in
    let parts : List Part = parts_of caps first reels in
    let goes : GoOn caps first reels = reels_go caps first reels chained in
    let one : PlaysAlike start start (events_of first) = stay start start (events_of first) tt tt (same_alike start) (have_room start first legal.1) in
    let at : AreAlike middle there = subst (AreAlike middle) (events_there start first) one.state in
    let all : ChainsAlike middle there parts = as_one middle there parts (ideal_numbers start (events_of first) tt) at goes.rooms in
    let are : all_events parts ≡ later_events caps first reels = events_are caps first reels in
    let events : List Event = events_of first ++ later_events caps first reels in
    let invoked : map bare_call (ideal_by start events) ≡ map bare_call (invocations start first ++ later_invoked caps reels) =
    ap (λ (l : List Event). map bare_call (ideal_by start (events_of first ++ l))) (sym are)
    ∙ ap (map bare_call) (ideal_on start (events_of first) (all_events parts))
    ∙ map-append bare_call (ideal_by start (events_of first)) (ideal_by middle (all_events parts))
    ∙ ap (λ (l : List Invocation). l ++ map bare_call (ideal_by middle (all_events parts))) (one.invocations ∙ ap (map bare_call) (events_invoked start first))
    ∙ ap (λ (l : List Invocation). map bare_call (invocations start first) ++ l) (all.invocations ∙ ap (map bare_call) goes.invoked)
    ∙ sym (map-append bare_call (invocations start first) (later_invoked caps reels)) in
    let when : map bare_moment (ideal_moments start events) ≡ map bare_moment (moments start first ++ later_moments caps reels) =
    ap (map bare_moment) (ideal_moments_more start (events_of first) (later_events caps first reels))
    ∙ map-append bare_moment (ideal_moments start (events_of first)) (ideal_moments middle (later_events caps first reels))
    ∙ ap (λ (l : List Moment). l ++ map bare_moment (ideal_moments middle (later_events caps first reels)))
    (alike_moments steps start start (events_of first) tt tt (same_alike start) (have_room start first legal.1)
    ∙ ap (map bare_moment) (entries_moments start first))
    ∙ ap (λ (l : List Moment). map bare_moment (moments start first) ++ l)
    (reels_moments stay steps middle caps first reels (ideal_numbers start (events_of first) tt) at chained)
    ∙ sym (map-append bare_moment (moments start first) (later_moments caps reels)) in
    record {
      invocations_are = invoked;
      moments_are = when;
      state_is = subst (λ (l : List Event). AreAlike (ideal_after start (events_of first ++ l)) (last_state caps first reels)) are
          (subst (AreAlike (ideal_after start (events_of first ++ all_events parts))) goes.there
          (subst (λ (s : State). AreAlike s (chain_after there parts)) (sym (ideal_there start (events_of first) (all_events parts))) all.state));
      on_one_server = λ room enough.
          sym (alike_moments steps start (opening (with_room caps room)) events tt tt
          (record { caps = refl; methods = refl; queue = refl; clock = refl }) (have_room_for room header_size start events enough)) ∙ when;
    }
