-- Rounds of the ticker, one after another.
use Rattle.std.proofs.Common.{◌≡◌, ℕ, Bool, true, List, [], ◌∷◌, Option, Some, None, All, refl, sym, ap, ◌∙◌, subst}
use Rattle.std.specs.Prelude.{if◌then◌else◌}
use Rattle.std.specs.Option.{option_map}
use Rattle.std.proofs.lemmas.List.Elements.{All-nil}
use Rattle.osc_atoms.specs.declared.room.Room.{Room as CodeRoom}
use Rattle.osc_edge.specs.declared.clock.Moment.TheVariants.{At}
use Rattle.osc_edge.specs.Clock.{GivesMoment}
use Rattle.osc_edge.specs.Faults.{Rose}
use Rattle.osc_method.specs.Heard.{Fixed}
use Rattle.osc_record.specs.Shown.{room_of}
use Rattle.osc_script.specs.declared.act.Act.TheVariants.{Tick, Pump}
use Rattle.osc_turn.specs.declared.view.Entry.{Entry as Seen}
use Rattle.osc_turn.specs.History.{StartsWith}
use Rattle.osc_turn.proofs.Histories.{starts_here, starts_on}
use Rattle.osc_links.specs.declared.served.TickerEnd.{TickerEnd}
use Rattle.osc_links.specs.declared.served.TickerEnd.TheVariants.{Done, ClockFailed, Full}
use Rattle.osc_links.specs.declared.ticker.Round.TheVariants as round
use Rattle.osc_life.specs.Holders.{Holder, Onward}
use Rattle.osc_lanes.specs.Shares.{Account, then_told, ended, Plays}
use Rattle.osc_lanes.specs.Tells.{TellsAct}
use Rattle.osc_lanes.proofs.Going.{stop_told}
use Rattle.osc_links.specs.Ticks.{is_later, last_after, tick_line, pump_line, Reads, ClockRead, PlaysRound, PlaysRounds, EndsTicks}
use Rattle.osc_links.specs.Ticks.{Ticks}
use Rattle.osc_links.specs.Rounds.{IsRound, TicksMeanwhile, RoundsGoOn}

pub onward_same : (token : ℕ) (here : List Seen) → Onward token here here
onward_same token here = (starts_here here, refl)

pub onward_on : (token : ℕ) (a b c : List Seen) → Onward token a b → Onward token b c → Onward token a c
onward_on token a b c p q = (starts_on c b a q.0 p.0, q.1 ∙ p.1)

module _ {M : Type 0} (keep : M → Fixed) (heard : M → Option (List ℕ)) (holder : Holder) where
  -- a pump alone
  pub pumps : (stop : Option CodeRoom) (here there : List Seen)
      → TellsAct keep heard holder 0 Pump [] [] (ended [] None) (ended [] (option_map room_of stop)) here there
      → Plays keep heard holder (pump_line ∷ []) [] (ended [] (option_map room_of stop)) here there
  pumps None here there p =
      ([], p.first, there, p.plays, rw (stop_told p) (ended [] None, ap (λ (a : Account M). then_told a (ended [] None)) p.told_is, (refl, refl)))
  pumps (Some room) here there p =
      ([], p.first, there, p.plays, rw (stop_told p) (ap (λ (a : Account M). then_told a (ended [] (Some (room_of room)))) p.told_is, refl))

  -- a tick that leaves room, and a pump
  pub ticks_on : (moment : ℕ) (stop : Option CodeRoom) (here place there : List Seen)
      → TellsAct keep heard holder 0 (Tick moment) [] [] (ended [] None) (ended [] None) here place
      → Plays keep heard holder (pump_line ∷ []) [] (ended [] (option_map room_of stop)) place there
      → Plays keep heard holder (tick_line moment ∷ pump_line ∷ []) [] (ended [] (option_map room_of stop)) here there
  ticks_on moment stop here place there p rest = (
    [],
    p.first,
    place,
    p.plays,
    rw (stop_told p)
        (ended [] (option_map room_of stop), ap (λ (a : Account M). then_told a (ended [] (option_map room_of stop))) p.told_is, rest),
  )

  pub rounds_on : (start : Option (List ℕ)) (here : List Seen) (last later : Option ℕ) (moment : ℕ) (left between : Option (List ℕ)) (now place : List Seen)
      → RoundsGoOn keep heard holder start here last left now → GivesMoment left between (At moment) → PlaysRound keep heard holder last moment None now place
      → later ≡ last_after last moment → RoundsGoOn keep heard holder start here later between place
  rounds_on start here last later moment left between now place goes gives plays is more final after there reads rest =
      goes (moment ∷ more) final after there (between, gives, reads)
      (place, plays, subst (λ (l : Option ℕ). PlaysRounds keep heard holder l more final place there) is rest)

  -- no round is left
  pub rounds_over : (start : Option (List ℕ)) (here : List Seen) (last : Option ℕ) (left : Option (List ℕ)) (now : List Seen)
      → RoundsGoOn keep heard holder start here last left now
      → (moments : List ℕ) × Reads start moments left × PlaysRounds keep heard holder None moments last here now
  rounds_over start here last left now goes = goes [] last left now refl (refl, refl)

  -- how a ticker ends says nothing of what its clock had before
  same_end : (last : Option ℕ) (tokens : List (List Seen)) (between before other after : Option (List ℕ)) (faults now : ℕ) (end : TickerEnd)
      (here there : List Seen)
      → EndsTicks keep heard holder last tokens between (record { before = before; after = after; faults = faults; now = now }) end here there
      → EndsTicks keep heard holder last tokens between (record { before = other; after = after; faults = faults; now = now }) end here there
  same_end last tokens between before other after faults now Done here there ends = ends
  same_end last tokens between before other after faults now ClockFailed here there ends = ends
  same_end last tokens between before other after faults now (Full room) here there ends = ends

  -- the ticker ends in a round
  pub rounds_end : (start : Option (List ℕ)) (here : List Seen) (last : Option ℕ) (left after : Option (List ℕ)) (first faults now : ℕ) (end : TickerEnd)
      (place there : List Seen) → RoundsGoOn keep heard holder start here last left place → faults ≡ first
      → IsRound keep heard holder last (record { before = left; after = after; faults = faults; now = now }) (round.Over end) place there
      → TicksMeanwhile keep heard holder (record { before = start; after = after; faults = first; now = now }) (round.Over end) here there
  rounds_end start here last left after first faults now end place there goes same ends = let all = rounds_over start here last left place goes in (
    ends.0,
    record {
      moments = all.0;
      last = last;
      between = left;
      place = place;
      reads = all.1;
      rounds = all.2;
      ends = same_end last [] left left start after first now end place there
          (subst (λ (n : ℕ). EndsTicks keep heard holder last [] left
          (record { before = left; after = after; faults = n; now = now }) end place there) same ends.1);
    },
  )

  -- the ticker ended before its last round
  pub ended_early : (tokens : List (List Seen)) (clock : ClockRead) (end : TickerEnd) (here there : List Seen)
      → TicksMeanwhile keep heard holder clock (round.Over end) here there → Ticks keep heard holder tokens clock end here there
  ended_early tokens clock Done here there ticks = absurd (ticks.0 refl)
  ended_early tokens clock ClockFailed here there ticks = let t = ticks.1 in
      record { moments = t.moments; last = t.last; between = t.between; place = t.place; reads = t.reads; rounds = t.rounds; ends = t.ends }
  ended_early tokens clock (Full room) here there ticks = let t = ticks.1 in
      record { moments = t.moments; last = t.last; between = t.between; place = t.place; reads = t.reads; rounds = t.rounds; ends = t.ends }

  -- the last round was played, or the ticker has ended in it
  pub ended_last : (tokens : List (List Seen)) (before between after : Option (List ℕ)) (first faults now : ℕ) (last : Option ℕ)
      (here place start there : List Seen)
      → TicksMeanwhile keep heard holder (record { before = before; after = between; faults = first; now = faults }) (round.Played last) here place
      → Onward holder.token place start → All (StartsWith start) tokens → (later : Option ℕ)
      → IsRound keep heard holder last (record { before = between; after = after; faults = faults; now = now }) (round.Played later) start there
      → Ticks keep heard holder tokens (record { before = before; after = after; faults = first; now = now }) Done here there
  ended_last tokens before between after first faults now last here place start there ticks onward all later one = record {
    moments = ticks.1;
    last = last;
    between = between;
    place = place;
    reads = ticks.2;
    rounds = ticks.3;
    ends = (one.0 ∙ ticks.0, (one.1, start, one.2, onward, all, one.3));
  }

  pub ended_in_last : (tokens : List (List Seen)) (before between after : Option (List ℕ)) (first faults now : ℕ) (last : Option ℕ)
      (here place start there : List Seen)
      → TicksMeanwhile keep heard holder (record { before = before; after = between; faults = first; now = faults }) (round.Played last) here place
      → Onward holder.token place start → (end : TickerEnd)
      → IsRound keep heard holder last (record { before = between; after = after; faults = faults; now = now }) (round.Over end) start there
      → Ticks keep heard holder tokens (record { before = before; after = after; faults = first; now = now }) end here there
  ended_in_last tokens before between after first faults now last here place start there ticks onward Done one = absurd (one.0 refl)
  ended_in_last tokens before between after first faults now last here place start there ticks onward ClockFailed one = record {
    moments = ticks.1;
    last = last;
    between = between;
    place = place;
    reads = ticks.2;
    rounds = ticks.3;
    ends = (subst (λ (n : ℕ). Rose n now) ticks.0 one.1.0, one.1.1, onward_on holder.token place start there onward one.1.2);
  }
  ended_in_last tokens before between after first faults now last here place start there ticks onward (Full room) one = record {
    moments = ticks.1;
    last = last;
    between = between;
    place = place;
    reads = ticks.2;
    rounds = ticks.3;
    ends = (
      one.1.0 ∙ ticks.0,
      (one.1.1.0, one.1.1.1, one.1.1.2, onward_on holder.token place start one.1.1.1 onward one.1.1.3, one.1.1.4, one.1.1.5),
    );
  }

  -- what one round came to

  pub round_plays : (last after : Option ℕ) (before left : Option (List ℕ)) (faults now moment : ℕ) (stop : Option CodeRoom) (here there : List Seen)
      → now ≡ faults → GivesMoment before left (At moment) → stop ≡ None → PlaysRound keep heard holder last moment (option_map room_of stop) here there
      → after ≡ last_after last moment
      → IsRound keep heard holder last (record { before = before; after = left; faults = faults; now = now }) (round.Played after) here there
  round_plays last after before left faults now moment stop here there same gives none plays is = (
    same,
    moment,
    gives,
    subst (λ (s : Option CodeRoom). PlaysRound keep heard holder last moment (option_map room_of s) here there) none plays,
    is,
  )

  pub round_full : (last : Option ℕ) (before left : Option (List ℕ)) (faults now moment : ℕ) (stop : Option CodeRoom) (room : CodeRoom) (here there : List Seen)
      → now ≡ faults → GivesMoment before left (At moment) → stop ≡ Some room
      → PlaysRound keep heard holder last moment (option_map room_of stop) here there
      → IsRound keep heard holder last (record { before = before; after = left; faults = faults; now = now }) (round.Over (Full room)) here there
  round_full last before left faults now moment stop room here there same gives some plays = (
    (λ e. absurd (cc)),
    (
      same,
      (
        moment,
        here,
        gives,
        onward_same holder.token here,
        All-nil (StartsWith here),
        subst (λ (s : Option CodeRoom). PlaysRound keep heard holder last moment (option_map room_of s) here there) some plays,
      ),
    ),
  )

  pub round_fails : (last : Option ℕ) (before left : Option (List ℕ)) (faults now : ℕ) (here : List Seen) → Rose faults now → left ≡ before
      → IsRound keep heard holder last (record { before = before; after = left; faults = faults; now = now }) (round.Over ClockFailed) here here
  round_fails last before left faults now here rose same = ((λ e. absurd (cc)), (rose, same, onward_same holder.token here))

  -- a round that hands its moment in
  pub round_later : (last : Option ℕ) (moment : ℕ) (other : Holder) (tick stop : Option CodeRoom) (here place there : List Seen)
      → is_later last moment ≡ true → tick ≡ None
      → TellsAct keep heard holder 0 (Tick moment) [] [] (ended [] None) (ended [] (option_map room_of tick)) here place → other ≡ holder
      → TellsAct keep heard other 0 Pump [] [] (ended [] None) (ended [] (option_map room_of stop)) place there
      → PlaysRound keep heard holder last moment (option_map room_of stop) here there
  round_later last moment other tick stop here place there is none ticked same pumped = subst
      (λ (b : Bool). Plays keep heard holder (if b then tick_line moment ∷ pump_line ∷ [] else pump_line ∷ []) []
      (ended [] (option_map room_of stop)) here there)
      (sym is)
      (ticks_on moment stop here place there
      (subst (λ (s : Option CodeRoom). TellsAct keep heard holder 0 (Tick moment) [] [] (ended [] None)
      (ended [] (option_map room_of s)) here place) none ticked)
      (pumps stop place there
      (subst (λ (q : Holder). TellsAct keep heard q 0 Pump [] [] (ended [] None) (ended [] (option_map room_of stop)) place there) same pumped)))
