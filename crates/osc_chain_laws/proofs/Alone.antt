-- Caller 0 alone plays lines on a new server.
use Rattle.std.proofs.Common.{◌≡◌, ℕ, zero, suc, Bool, true, false, cond, List, [], ◌∷◌, ◌++◌, length, Option, Some, None, MatchBool, refl, sym, ap, subst}
use Rattle.std.proofs.Common.{◌∙◌, arith, append-nil, append_assoc}
use Rattle.std.specs.Prelude.{MatchOption, is_none}
use Rattle.std.proofs.lemmas.List.{map-append}
use Rattle.osc_atoms.specs.declared.fault.Fault.{Fault}
use Rattle.osc_atoms.specs.declared.limits.TheConstants.{MAX_PACKET}
use Rattle.osc_packet.specs.Reading.{packet_fault}
use Rattle.osc_method.specs.Heard.{Fixed}
use Rattle.osc_model.specs.Limits.{Limits}
use Rattle.osc_model.specs.State.{State, opening}
use Rattle.osc_model.specs.Events.{Event, submit, add, remove, tick, release, Answer, released, nothing_due, record_full, adds_entry, Entry, Room, room_in, Hit}
use Rattle.osc_model.specs.History.{after}
use Rattle.osc_model.specs.Step.{step}
use Rattle.osc_model.proofs.Onward.{after_more}
use Rattle.osc_core.specs.Standing.{history_in}
use Rattle.osc_core.proofs.Texts.{read_more}
use Rattle.osc_script.specs.declared.act.Act.{Act}
use Rattle.osc_script.specs.declared.act.Act.TheVariants.{Add, Remove, Send, Tick, Pump}
use Rattle.osc_script.specs.declared.line.Line.{Line}
use Rattle.osc_player.specs.Plain.{entry_of, entry_if, is_released, pump, sent, stop_sent, entries_of, stop_of, fault_at, act_faults, LineFault, Played, followed, plain_from}
use Rattle.osc_turn.specs.declared.view.Entry.{Entry as Seen}
use Rattle.osc_turn.specs.History.{StartsWith, texts, entry, own}
use Rattle.osc_turn.proofs.Histories.{starts_here, starts_on}
use Rattle.osc_live.proofs.Answered.{texts_more}
use Rattle.osc_life.specs.Holders.{Holder, holder_at}
use Rattle.osc_life.proofs.Enrolling.{own_before}
use Rattle.osc_lanes.specs.Shares.{Answered, EntersOne, EndsPump, Releases, Account, then_told, ended, PlaysAct, Plays}
use Rattle.osc_links.proofs.Opening.{counts_plays}
use Rattle.osc_chain_laws.specs.Openings.{told_faults}
use Rattle.osc_chain_laws.proofs.Pumping.{released_for, AreReleased, one_more, all_more, pumped_is}

-- caller 0's entry
abbrev entry_with : Event → Answer → Entry
entry_with event answer = record { caller = 0; event = event; answer = answer }

-- the entry that an answer adds, if it adds one
entry_added : (event : Event) (answer other : Answer) → answer ≡ other → adds_entry answer ≡ true
    → entry_with event answer ∷ [] ≡ cond (adds_entry other) (entry_with event other ∷ []) []
entry_added event answer other same adds =
    subst (λ (a : Answer). entry_with event answer ∷ [] ≡ cond (adds_entry a) (entry_with event a ∷ []) []) same
    (sym (ap (λ (t : Bool). cond {A = List Entry} t (entry_with event answer ∷ []) []) adds))

entry_none : (event : Event) (answer other : Answer) → answer ≡ other → adds_entry answer ≡ false
    → [] ≡ cond {A = List Entry} (adds_entry other) (entry_with event other ∷ []) []
entry_none event answer other same none =
    subst (λ (a : Answer). [] ≡ cond {A = List Entry} (adds_entry a) (entry_with event a ∷ []) []) same
    (sym (ap (λ (t : Bool). cond {A = List Entry} t (entry_with event answer ∷ []) []) none))

-- the entry of an event that was released
released_entry : (state : State) (unit : ℕ) (hits : List Hit) → released unit hits ≡ (step state release).answer
    → (entry_if state release ≡ entry_of state release ∷ []) × (is_released (step state release).answer ≡ true)
released_entry state unit hits is =
    (ap (λ (t : Bool). cond {A = List Entry} t (entry_of state release ∷ []) []) (ap adds_entry (sym is)), ap is_released (sym is))

-- where a pump ends, nothing is added, and no unit was taken
ends_none : (answer : Answer) → EndsPump answer → (adds_entry answer ≡ false) × (is_released answer ≡ false)
ends_none (nothing_due next) ends = (refl, refl)
ends_none (record_full room) ends = (refl, refl)
ends_none _ ends = absurd ends

module _ (caps : Limits) where
  abbrev holder : Holder
  holder = holder_at caps 0

  -- the state of the server after what is seen
  abbrev pub state_at : List Seen → State
  state_at seen = after (opening caps) (history_in (texts seen))

  -- these entries come after those that were seen
  abbrev pub Adds : List Seen → List Entry → List Seen → Type 0
  Adds here entries there = history_in (texts there) ≡ history_in (texts here) ++ entries

  adds_none : (here there : List Seen) → there ≡ here → Adds here [] there
  adds_none here there same = ap (λ (l : List Seen). history_in (texts l)) same ∙ sym (append-nil (history_in (texts here)))

  adds_on : (here place there : List Seen) (first more : List Entry) → Adds here first place → Adds place more there → Adds here (first ++ more) there
  adds_on here place there first more one two =
      two ∙ ap (λ (l : List Entry). l ++ more) one ∙ append_assoc (history_in (texts here)) first more

  -- the state after them
  pub state_on : (here place : List Seen) (entries : List Entry) → Adds here entries place → state_at place ≡ after (state_at here) entries
  state_on here place entries adds = ap (after (opening caps)) adds ∙ after_more (opening caps) (history_in (texts here)) entries

  -- What was seen is a front of what is seen then.

  starts_event : (event : Event) (answer : Answer) (here there : List Seen) → Answered holder event answer here there → StartsWith there here
  starts_event event answer here there a = go (adds_entry answer) a.then_seen where
    go : (t : Bool) → MatchBool t (EntersOne 0 (record { caller = 0; event = event; answer = answer }) a.found there) (there ≡ a.found) → StartsWith there here
    go true enters = starts_on there a.found here (_, enters.last) a.onward.0
    go false same = subst (λ (l : List Seen). StartsWith l here) (sym same) a.onward.0

  starts_same : (here there : List Seen) → there ≡ here → StartsWith there here
  starts_same here there same = subst (λ (l : List Seen). StartsWith l here) (sym same) (starts_here here)

  starts_releases : (count : ℕ) (here there : List Seen) → Releases holder count here there → StartsWith there here
  starts_releases zero here there same = starts_same here there same
  starts_releases (suc count) here there (place, unit, hits, first, last) =
      starts_on there place here (starts_event release (released unit hits) place there last) (starts_releases count here place first)

  -- An event that caller 0 alone plays is answered in the state that it has seen.
  pub event_alone : (event : Event) (answer : Answer) (here there : List Seen) → Answered holder event answer here there → own 0 there ≡ there
      → Adds here (entry_if (state_at here) event) there × (answer ≡ (step (state_at here) event).answer)
  event_alone event answer here there a alone = go (adds_entry answer) refl a.then_seen where
    one : Entry
    one = record { caller = 0; event = event; answer = answer }

    found_here : own 0 a.found ≡ a.found → a.found ≡ here
    found_here mine = sym mine ∙ a.onward.1 ∙ own_before 0 a.found here a.onward.0 mine

    decided : a.found ≡ here → answer ≡ (step (state_at here) event).answer
    decided same = a.decided ∙ ap (λ (l : List Seen). (step (state_at l) event).answer) same

    go : (t : Bool) → adds_entry answer ≡ t → MatchBool t (EntersOne 0 one a.found there) (there ≡ a.found)
        → Adds here (entry_if (state_at here) event) there × (answer ≡ (step (state_at here) event).answer)
    go true adds enters =
        let same : a.found ≡ here = found_here (own_before 0 there a.found (_, enters.last) alone) in
        let is : answer ≡ (step (state_at here) event).answer = decided same in (
          ap (λ (l : List Seen). history_in (texts l)) enters.last
              ∙ ap history_in (texts_more a.found (entry 0 enters.text))
              ∙ read_more (texts a.found) enters.text one enters.read
              ∙ ap (λ (l : List Seen). history_in (texts l) ++ one ∷ []) same
              ∙ ap (λ (l : List Entry). history_in (texts here) ++ l)
              (entry_added event answer (step (state_at here) event).answer is adds),
          is,
        )
    go false none still =
        let same : a.found ≡ here = found_here (subst (λ (l : List Seen). own 0 l ≡ l) still alone) in
        let is : answer ≡ (step (state_at here) event).answer = decided same in (
          adds_none here there (still ∙ same)
              ∙ ap (λ (l : List Entry). history_in (texts here) ++ l)
              (entry_none event answer (step (state_at here) event).answer is none),
          is,
        )

  releases_alone : (count : ℕ) (here there : List Seen) → Releases holder count here there → own 0 there ≡ there
      → Adds here (released_for count (state_at here)) there × AreReleased count (state_at here)
  releases_alone zero here there same alone = (adds_none here there same, tt)
  releases_alone (suc count) here there (place, unit, hits, first, last) alone =
      let state : State = state_at here in
      let entries : List Entry = released_for count state in
      let mine : own 0 place ≡ place = own_before 0 there place (starts_event release (released unit hits) place there last) alone in
      let before = releases_alone count here place first mine in
      let now = event_alone release (released unit hits) place there last alone in
      let same : state_at place ≡ after state entries = state_on here place entries before.0 in
      let one = released_entry (state_at place) unit hits now.1 in
      let made : entry_if (state_at place) release ≡ entry_of (after state entries) release ∷ [] =
      one.0 ∙ ap (λ (s : State). entry_of s release ∷ []) same in (
        adds_on here place there entries (entry_if (state_at place) release) before.0 now.0
            ∙ ap (λ (l : List Entry). history_in (texts here) ++ (entries ++ l)) made
            ∙ ap (λ (l : List Entry). history_in (texts here) ++ l) (one_more count state),
        all_more count state before.1 (subst (λ (s : State). is_released (step s release).answer ≡ true) same one.1),
      )

  module _ {M : Type 0} where
    -- what a line that caller 0 alone plays adds and tells
    pub record Does (here : List Seen) (number : ℕ) (act : Act) (told : Account M) (there : List Seen) : Type 0 where
      pub adds : Adds here (entries_of (state_at here) act) there
      pub stop : told.stop ≡ stop_of (state_at here) act
      pub faults : told.faults ≡ told_faults (act_faults number act)

    -- what lines do that caller 0 alone plays
    pub record Runs (here : List Seen) (played : Played) (told : Account M) (there : List Seen) : Type 0 where
      pub adds : Adds here played.history there
      pub stop : told.stop ≡ played.stop
      pub faults : told.faults ≡ told_faults played.faults

    sent_does : (here : List Seen) (number : ℕ) (bytes : List ℕ) (told : Account M) (there : List Seen)
        → Adds here (entries_of (state_at here) (Send bytes)) there × (told.stop ≡ stop_of (state_at here) (Send bytes))
        × (told.faults ≡ told_faults (act_faults number (Send bytes))) → Does here number (Send bytes) told there
    sent_does here number bytes told there does = record { adds = does.0; stop = does.1; faults = does.2 }

    stop_is : (first : Account M) (faults : List (ℕ × Fault)) (removed : List (ℕ × M)) (back : List M) (answer other : Answer)
        → first ≡ record { faults = faults; removed = removed; back = back; stop = room_in answer } → answer ≡ other
        → (first.stop ≡ room_in other) × (first.faults ≡ faults)
    stop_is first faults removed back answer other is same =
        (ap (λ (a : Account M). a.stop) is ∙ ap room_in same, ap (λ (a : Account M). a.faults) is)

    runs_none : (here there : List Seen) (boxes : List M) (account : Account M) (stop : Option Room)
        → account ≡ ended boxes stop → there ≡ here → Runs here (record { history = []; faults = []; stop = stop }) account there
    runs_none here there boxes account stop is same = record {
      adds = adds_none here there same;
      stop = ap (λ (a : Account M). a.stop) is;
      faults = ap (λ (a : Account M). a.faults) is;
    }

    -- lines after the first
    runs_on : (here place there : List Seen) (entries : List Entry) (found : List LineFault) (later : Played) (account first rest : Account M)
        → account ≡ then_told first rest → Adds here entries place → first.faults ≡ told_faults found → Runs place later rest there
        → Runs here (followed entries found None later) account there
    runs_on here place there entries found later account first rest is adds faults runs = record {
      adds = adds_on here place there entries later.history adds runs.adds;
      stop = ap (λ (a : Account M). a.stop) is ∙ runs.stop;
      faults = ap (λ (a : Account M). a.faults) is
          ∙ ap (λ (l : List (ℕ × Fault)). l ++ rest.faults) faults
          ∙ ap (λ (l : List (ℕ × Fault)). told_faults found ++ l) runs.faults
          ∙ sym (map-append (λ (f : LineFault). (f.line, f.fault)) found later.faults);
    }

    -- the first line stops the rest
    runs_out : (here place there : List Seen) (entries : List Entry) (found : List LineFault) (later : Played) (account first : Account M)
        (left : List M) (room : Room) → account ≡ then_told first (ended left (Some room)) → there ≡ place → Adds here entries place
        → first.faults ≡ told_faults found → Runs here (followed entries found (Some room) later) account there
    runs_out here place there entries found later account first left room is same adds faults = record {
      adds = ap (λ (l : List Seen). history_in (texts l)) same ∙ adds;
      stop = ap (λ (a : Account M). a.stop) is;
      faults = ap (λ (a : Account M). a.faults) is ∙ append-nil first.faults ∙ faults;
    }

    module _ (keep : M → Fixed) (heard : M → Option (List ℕ)) where
      starts_act : (number : ℕ) (act : Act) (boxes left : List M) (first : Account M) (here there : List Seen)
          → PlaysAct keep heard holder number act boxes left first here there → StartsWith there here
      starts_act number (Add address) boxes left first here there (box, answer, same, a, marked, is) = starts_event (add address) answer here there a
      starts_act number (Remove address) boxes left first here there (out, answer, same, a, ids, are, is) =
          starts_event (remove address) answer here there a
      starts_act number (Send bytes) boxes left first here there (same, sent_so) = go (packet_fault MAX_PACKET bytes) sent_so where
        go : (fault : Option Fault)
            → MatchOption fault ((answer : Answer) × Answered holder (submit bytes) answer here there × (first ≡ ended [] (room_in answer)))
            (λ one. (there ≡ here) × (first ≡ record { faults = (number, one) ∷ []; removed = []; back = []; stop = None }))
            → StartsWith there here
        go None (answer, a, is) = starts_event (submit bytes) answer here there a
        go (Some fault) (still, is) = starts_same here there still
      starts_act number (Tick moment) boxes left first here there (same, answer, a, is) = starts_event (tick moment) answer here there a
      starts_act number Pump boxes left first here there (same, count, place, answer, takes, a, ends, is) =
          starts_on there place here (starts_event release answer place there a) (starts_releases count here place takes)

      pub act_alone : (number : ℕ) (act : Act) (boxes left : List M) (first : Account M) (here there : List Seen)
          → PlaysAct keep heard holder number act boxes left first here there → own 0 there ≡ there → Does here number act first there
      act_alone number (Add address) boxes left first here there (box, answer, same, a, marked, is) alone =
          let does = event_alone (add address) answer here there a alone in
          let stops = stop_is first [] [] _ answer (step (state_at here) (add address)).answer is does.1 in
          record { adds = does.0; stop = stops.0; faults = stops.1 }
      act_alone number (Remove address) boxes left first here there (out, answer, same, a, ids, are, is) alone =
          let does = event_alone (remove address) answer here there a alone in
          let stops = stop_is first [] out [] answer (step (state_at here) (remove address)).answer is does.1 in
          record { adds = does.0; stop = stops.0; faults = stops.1 }
      act_alone number (Send bytes) boxes left first here there (same, sent_so) alone =
          sent_does here number bytes first there (go (packet_fault MAX_PACKET bytes) sent_so) where
            go : (fault : Option Fault)
                → MatchOption fault ((answer : Answer) × Answered holder (submit bytes) answer here there × (first ≡ ended [] (room_in answer)))
                (λ one. (there ≡ here) × (first ≡ record { faults = (number, one) ∷ []; removed = []; back = []; stop = None }))
                → Adds here (sent (state_at here) bytes (is_none fault)) there × (first.stop ≡ stop_sent (state_at here) bytes (is_none fault))
                × (first.faults ≡ told_faults (fault_at number fault))
            go None (answer, a, is) =
                let does = event_alone (submit bytes) answer here there a alone in
                let stops = stop_is first [] [] [] answer (step (state_at here) (submit bytes)).answer is does.1 in
                (does.0, stops.0, stops.1)
            go (Some fault) (still, is) = (adds_none here there still, ap (λ (a : Account M). a.stop) is, ap (λ (a : Account M). a.faults) is)
      act_alone number (Tick moment) boxes left first here there (same, answer, a, is) alone =
          let does = event_alone (tick moment) answer here there a alone in
          let stops = stop_is first [] [] [] answer (step (state_at here) (tick moment)).answer is does.1 in
          record { adds = does.0; stop = stops.0; faults = stops.1 }
      act_alone number Pump boxes left first here there (same, count, place, answer, takes, a, ends, is) alone =
          let state : State = state_at here in
          let entries : List Entry = released_for count state in
          let mine : own 0 place ≡ place = own_before 0 there place (starts_event release answer place there a) alone in
          let before = releases_alone count here place takes mine in
          let now = event_alone release answer place there a alone in
          let at : state_at place ≡ after state entries = state_on here place entries before.0 in
          let none = ends_none answer ends in
          let decided : answer ≡ (step (after state entries) release).answer = now.1 ∙ ap (λ (s : State). (step s release).answer) at in
          let pumps : pump state ≡ entries =
          pumped_is (length state.queue) count state before.1 (ap is_released (sym decided) ∙ none.1) (omega arith) in
          let adds_nothing : entry_if (state_at place) release ≡ [] = sym (entry_none release answer (step (state_at place) release).answer now.1 none.0) in
          let stops = stop_is first [] [] [] answer (step (after state entries) release).answer is decided in
          record {
            adds = now.0
                ∙ ap (λ (l : List Entry). history_in (texts place) ++ l) adds_nothing
                ∙ append-nil (history_in (texts place))
                ∙ before.0
                ∙ ap (λ (l : List Entry). history_in (texts here) ++ l) (sym pumps);
            stop = stops.0 ∙ ap (λ (l : List Entry). room_in (step (after state l) release).answer) (sym pumps);
            faults = stops.1;
          }

      -- lines that caller 0 alone plays are played as the rules say
      pub plays_alone : (lines : List Line) (boxes : List M) (account : Account M) (here there : List Seen)
          → Plays keep heard holder lines boxes account here there → own 0 there ≡ there → Runs here (plain_from (state_at here) lines) account there
      plays_alone [] boxes account here there (is, same) alone = runs_none here there boxes account None is same
      plays_alone (line ∷ lines) boxes account here there (left, first, place, one, more) alone =
          go first.stop refl more (λ rest plays mine. plays_alone lines left rest place there plays mine) where
            entries : List Entry
            entries = entries_of (state_at here) line.act

            found : List LineFault
            found = act_faults line.number line.act

            go : (stop : Option Room) → first.stop ≡ stop
                → MatchOption stop ((rest : Account M) × (account ≡ then_told first rest) × Plays keep heard holder lines left rest place there)
                (λ room. (account ≡ then_told first (ended left (Some room))) × (there ≡ place))
                → ((rest : Account M) → Plays keep heard holder lines left rest place there → own 0 there ≡ there
                → Runs place (plain_from (state_at place) lines) rest there)
                → Runs here (followed entries found (stop_of (state_at here) line.act) (plain_from (after (state_at here) entries) lines)) account there
            go None stops (rest, is, plays) later =
                let starts : StartsWith there place = (counts_plays holder keep heard lines left rest place there plays).0 in
                let does = act_alone line.number line.act boxes left first here place one (own_before 0 there place starts alone) in
                let same : state_at place ≡ after (state_at here) entries = state_on here place entries does.adds in
                let runs : Runs place (plain_from (after (state_at here) entries) lines) rest there =
                subst (λ (s : State). Runs place (plain_from s lines) rest there) same (later rest plays alone) in
                subst (λ (o : Option Room). Runs here (followed entries found o (plain_from (after (state_at here) entries) lines)) account there)
                (sym stops ∙ does.stop)
                (runs_on here place there entries found (plain_from (after (state_at here) entries) lines) account first rest is does.adds does.faults runs)
            go (Some room) stops (is, same) later =
                let mine : own 0 place ≡ place = subst (λ (l : List Seen). own 0 l ≡ l) same alone in
                let does = act_alone line.number line.act boxes left first here place one mine in
                subst (λ (o : Option Room). Runs here (followed entries found o (plain_from (after (state_at here) entries) lines)) account there)
                (sym stops ∙ does.stop)
                (runs_out here place there entries found (plain_from (after (state_at here) entries) lines) account first left room is same does.adds does.faults)
