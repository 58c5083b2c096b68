-- The entries of a lane come to no more than its lines do; and where it stops, so do they with the event that finds no
-- room.
use Rattle.std.proofs.Common.{◌≡◌, ℕ, zero, suc, ◌+◌, ◌≤◌, Bool, true, false, List, [], ◌∷◌, ◌++◌, Option, Some, None, MatchBool, sum_by, refl, sym, ap, subst}
use Rattle.std.proofs.Common.{◌∙◌, arith}
use Rattle.std.specs.Prelude.{MatchOption}
use Rattle.std.specs.Option.{option_map_or}
use Rattle.std.proofs.lemmas.List.Sums.{sum_by-cons, sum_by_push}
use Rattle.osc_atoms.specs.declared.fault.Fault.{Fault}
use Rattle.osc_atoms.specs.declared.limits.TheConstants.{MAX_PACKET}
use Rattle.osc_packet.specs.Reading.{packet_fault}
use Rattle.osc_method.specs.Heard.{Fixed}
use Rattle.osc_model.specs.Events.{Event, Answer, Entry, Room, adds_entry, add, remove, submit, tick, release, released, record_full, room_in}
use Rattle.osc_model.specs.History.{stepped_in}
use Rattle.osc_script.specs.declared.act.Act.{Act}
use Rattle.osc_script.specs.declared.act.Act.TheVariants.{Add, Remove, Send, Tick, Pump}
use Rattle.osc_script.specs.declared.line.Line.{Line}
use Rattle.osc_turn.specs.declared.view.Entry.{Entry as Seen}
use Rattle.osc_turn.specs.History.{StartsWith, texts, entry, own}
use Rattle.osc_turn.proofs.Histories.{own_append, own_of_mine}
use Rattle.osc_live.specs.Seen.{performance_in}
use Rattle.osc_life.specs.Holders.{Holder}
use Rattle.osc_lanes.specs.Shares.{Account, EntersOne, Answered, Releases, then_told, ended, PlaysAct, Plays, LaneOf}
use Rattle.osc_lanes.proofs.Weights.{weighs, weighed}

-- an answer that tells a stop is that the recording is full, and adds no entry
full_adds_none : (answer : Answer) (room : Room) → room_in answer ≡ Some room → (adds_entry answer ≡ false) × (record_full room ≡ answer)
full_adds_none (record_full other) room is = (refl, let same : other ≡ room = cc in ap record_full (sym same))
full_adds_none _ room is = absurd (cc)

module _ (weight : Event → ℕ) where
  -- each act takes what its event comes to
  pub record Covers (takes : Act → ℕ) : Type 0 where
    pub adds : (address : List ℕ) → weight (add address) ≤ takes (Add address)
    pub removes : (address : List ℕ) → weight (remove address) ≤ takes (Remove address)
    pub sends : (packet : List ℕ) → packet_fault MAX_PACKET packet ≡ None → weight (submit packet) ≤ takes (Send packet)
    pub ticks : (moment : ℕ) → weight (tick moment) ≤ takes (Tick moment)
    pub releases : weight release ≡ 0

  module _ (holder : Holder) where
    -- what the token's entries come to
    abbrev weighs_own : List Seen → ℕ
    weighs_own history = weighed weight (own holder.token history)

    -- an event finds no room at the place, and has been counted besides
    pub record Fills (taken : ℕ) (here there : List Seen) (room : Room) : Type 0 where
      pub event : Event
      pub full : record_full room ≡ (stepped_in (performance_in holder.caps (texts there)) event).answer
      pub counted : weight event + weighs_own there ≤ taken + weighs_own here

    -- From one place to the next the token's entries come to at most so much, an event that finds no room included.
    pub record Spends (taken : ℕ) (here there : List Seen) (stop : Option Room) : Type 0 where
      pub most : weighs_own there ≤ taken + weighs_own here
      pub full : MatchOption stop (Unit {0}) (λ room. Fills taken here there room)

    -- what came before is added
    spends_after : (first taken whole : ℕ) (here place there : List Seen) (stop : Option Room) → weighs_own place ≤ first + weighs_own here
        → first + taken ≤ whole → Spends taken place there stop → Spends whole here there stop
    spends_after first taken whole here place there stop few fits spends = record { most = omega (arith, spends.most); full = go stop spends.full } where
      go : (stop : Option Room) → MatchOption stop (Unit {0}) (λ room. Fills taken place there room)
          → MatchOption stop (Unit {0}) (λ room. Fills whole here there room)
      go None full = full
      go (Some room) full = record { event = full.event; full = full.full; counted = omega (arith, full.counted) }

    spends_none : (here there : List Seen) → there ≡ here → Spends 0 here there None
    spends_none here there same = record { most = omega (arith, ap weighs_own same); full = tt }

    -- An event.

    entered_weighs : (one : Entry) (found there : List Seen) → EntersOne holder.token one found there
        → weighs_own there ≡ weighs_own found + weight one.event
    entered_weighs one found there enters =
        ap weighs_own enters.last
        ∙ ap (weighed weight)
        (own_append holder.token found (entry holder.token enters.text ∷ [])
        ∙ ap (λ (l : List Seen). own holder.token found ++ l) (own_of_mine holder.token (entry holder.token enters.text) refl))
        ∙ sum_by_push (weighs weight) (own holder.token found) (entry holder.token enters.text)
        ∙ ap (λ (read : Option Entry). weighs_own found + option_map_or (λ entry. weight entry.event) read 0) enters.read

    answered_spends : (event : Event) (answer : Answer) (taken : ℕ) (here there : List Seen) → weight event ≤ taken → Answered holder event answer here there
        → Spends taken here there (room_in answer)
    answered_spends event answer taken here there few answered =
        record { most = most (adds_entry answer) answered.then_seen; full = full (room_in answer) refl }
      where
        same : weighs_own answered.found ≡ weighs_own here
        same = ap (weighed weight) answered.onward.1

        most : (t : Bool)
            → MatchBool t (EntersOne holder.token (record { caller = holder.caller; event = event; answer = answer }) answered.found there)
            (there ≡ answered.found) → weighs_own there ≤ taken + weighs_own here
        most true enters = omega (arith, entered_weighs _ answered.found there enters, same)
        most false stays = omega (arith, ap weighs_own stays, same)

        full : (stop : Option Room) → room_in answer ≡ stop → MatchOption stop (Unit {0}) (λ room. Fills taken here there room)
        full None is = tt
        full (Some room) is =
            let none = full_adds_none answer room is in
            let stays : there ≡ answered.found =
            subst (λ (t : Bool). MatchBool t (EntersOne holder.token (record { caller = holder.caller; event = event; answer = answer }) answered.found there)
            (there ≡ answered.found)) none.0 answered.then_seen in
            record {
              event = event;
              full = none.1
                  ∙ (answered.decided ∙ ap (λ (l : List Seen). (stepped_in (performance_in holder.caps (texts l)) event).answer) (sym stays));
              counted = omega (arith, ap weighs_own stays, same);
            }

    releases_spend : weight release ≡ 0 → (count : ℕ) (here there : List Seen) → Releases holder count here there → weighs_own there ≤ weighs_own here
    releases_spend free zero here there same = omega (arith, ap weighs_own same)
    releases_spend free (suc count) here there (place, unit, hits, earlier, one) =
        let last = answered_spends release (released unit hits) 0 place there (omega (arith, free)) one in
        omega (arith, last.most, releases_spend free count here place earlier)

  -- An act, and lines.

  module _ (takes : Act → ℕ) (covers : Covers takes) {M : Type 0} (keep : M → Fixed) (heard : M → Option (List ℕ)) (holder : Holder) where
    -- an answered event, whose stop the account tells
    told_spends : (event : Event) (answer : Answer) (taken : ℕ) (account : Account M) (here there : List Seen) → weight event ≤ taken
        → Answered holder event answer here there → account.stop ≡ room_in answer → Spends holder taken here there account.stop
    told_spends event answer taken account here there few answered is =
        subst (Spends holder taken here there) (sym is) (answered_spends holder event answer taken here there few answered)

    act_spends : (number : ℕ) (act : Act) (boxes left : List M) (account : Account M) (here there : List Seen)
        → PlaysAct keep heard holder number act boxes left account here there → Spends holder (takes act) here there account.stop
    act_spends number (Add address) boxes left account here there (box, answer, is, answered, marked, told) =
        told_spends (add address) answer (takes (Add address)) account here there (covers.adds address) answered (ap (λ (a : Account M). a.stop) told)
    act_spends number (Remove address) boxes left account here there (out, answer, is, answered, ids, removed, told) =
        told_spends (remove address) answer (takes (Remove address)) account here there (covers.removes address) answered
        (ap (λ (a : Account M). a.stop) told)
    act_spends number (Send packet) boxes left account here there (is, plays) = go (packet_fault MAX_PACKET packet) refl plays where
      go : (fault : Option Fault) → packet_fault MAX_PACKET packet ≡ fault
          → MatchOption fault
          ((answer : Answer) × Answered holder (submit packet) answer here there × (account ≡ ended [] (room_in answer)))
          (λ fault. (there ≡ here) × (account ≡ record { faults = (number, fault) ∷ []; removed = []; back = []; stop = None }))
          → Spends holder (takes (Send packet)) here there account.stop
      go None valid (answer, answered, told) =
          told_spends (submit packet) answer (takes (Send packet)) account here there (covers.sends packet valid) answered
          (ap (λ (a : Account M). a.stop) told)
      go (Some fault) valid (same, told) =
          subst (Spends holder (takes (Send packet)) here there) (sym (ap (λ (a : Account M). a.stop) told))
          (record { most = omega (arith, ap (weighs_own holder) same); full = tt })
    act_spends number (Tick moment) boxes left account here there (is, answer, answered, told) =
        told_spends (tick moment) answer (takes (Tick moment)) account here there (covers.ticks moment) answered (ap (λ (a : Account M). a.stop) told)
    act_spends number Pump boxes left account here there (is, count, place, answer, releases, answered, ends, told) =
        spends_after holder 0 (takes Pump) (takes Pump) here place there account.stop
        (omega (arith, releases_spend holder covers.releases count here place releases)) (omega arith)
        (told_spends release answer (takes Pump) account place there (omega (arith, covers.releases)) answered (ap (λ (a : Account M). a.stop) told))

    -- what lines take
    abbrev pub taken_by : List Line → ℕ
    taken_by lines = sum_by (λ line. takes line.act) lines

    lines_spend : (lines : List Line) (boxes : List M) (account : Account M) (here there : List Seen) → Plays keep heard holder lines boxes account here there
        → Spends holder (taken_by lines) here there account.stop
    lines_spend [] boxes account here there (told, same) =
        subst (Spends holder 0 here there) (sym (ap (λ (a : Account M). a.stop) told)) (spends_none holder here there same)
    lines_spend (line ∷ lines) boxes account here there (left, first, place, plays, rest) =
        go first.stop (act_spends line.number line.act boxes left first here place plays)
        (λ more plays. lines_spend lines left more place there plays) rest
      where
        fits : takes line.act + taken_by lines ≤ taken_by (line ∷ lines)
        fits = omega (arith, sum_by-cons (λ (line : Line). takes line.act) line lines)

        go : (stop : Option Room) → Spends holder (takes line.act) here place stop
            → ((more : Account M) → Plays keep heard holder lines left more place there → Spends holder (taken_by lines) place there more.stop)
            → MatchOption stop ((more : Account M) × (account ≡ then_told first more) × Plays keep heard holder lines left more place there)
            (λ room. (account ≡ then_told first (ended left (Some room))) × (there ≡ place))
            → Spends holder (taken_by (line ∷ lines)) here there account.stop
        go None one later (more, told, plays) =
            subst (Spends holder (taken_by (line ∷ lines)) here there) (sym (ap (λ (a : Account M). a.stop) told))
            (spends_after holder (takes line.act) (taken_by lines) (taken_by (line ∷ lines)) here place there more.stop one.most fits (later more plays))
        go (Some room) one later (told, same) =
            subst (Spends holder (taken_by (line ∷ lines)) here there) (sym (ap (λ (a : Account M). a.stop) told))
            (subst (λ (l : List Seen). Spends holder (taken_by (line ∷ lines)) here l (Some room)) (sym same)
            (spends_after holder 0 (takes line.act) (taken_by (line ∷ lines)) here here place (Some room) (omega arith) (omega (arith, fits)) one))

    -- A lane, of a whole history.

    -- an event finds no room at a place of the history, and has been counted with all of the token's entries
    pub record FillsIn (history : List Seen) (taken : ℕ) (room : Room) : Type 0 where
      pub event : Event
      pub there : List Seen
      pub starts : StartsWith history there
      pub full : record_full room ≡ (stepped_in (performance_in holder.caps (texts there)) event).answer
      pub counted : weight event + weighed weight (own holder.token history) ≤ taken

    pub record SpendsIn (history : List Seen) (taken : ℕ) (stop : Option Room) : Type 0 where
      pub most : weighed weight (own holder.token history) ≤ taken
      pub full : MatchOption stop (Unit {0}) (λ room. FillsIn history taken room)

    pub lane_spends : (lines : List Line) (boxes : List M) (account : Account M) (history : List Seen) → LaneOf keep heard holder lines boxes account history
        → SpendsIn history (taken_by lines) account.stop
    lane_spends lines boxes account history (here, there, none, plays, onward) =
        record { most = omega (arith, spends.most, same, empty); full = go account.stop spends.full }
      where
        spends : Spends holder (taken_by lines) here there account.stop
        spends = lines_spend lines boxes account here there plays

        same : weighed weight (own holder.token history) ≡ weighs_own holder there
        same = ap (weighed weight) onward.1

        empty : weighs_own holder here ≡ 0
        empty = ap (weighed weight) none

        go : (stop : Option Room) → MatchOption stop (Unit {0}) (λ room. Fills holder (taken_by lines) here there room)
            → MatchOption stop (Unit {0}) (λ room. FillsIn history (taken_by lines) room)
        go None full = full
        go (Some room) full =
            record { event = full.event; there = there; starts = onward.0; full = full.full; counted = omega (arith, full.counted, same, empty) }
