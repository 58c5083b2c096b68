-- Each method that a token's own entries add has the box of its line.
use Rattle.std.proofs.Common.{◌≡◌, ℕ, zero, suc, Bool, true, false, List, [], ◌∷◌, ◌++◌, Option, Some, None, MatchBool, refl, sym, ap, subst, ◌∙◌}
use Rattle.std.specs.Prelude.{MatchOption, drop}
use Rattle.std.specs.List.{AllByRecursion}
use Rattle.osc_atoms.specs.declared.fault.Fault.{Fault}
use Rattle.osc_atoms.specs.declared.limits.TheConstants.{MAX_PACKET}
use Rattle.osc_packet.specs.Reading.{packet_fault}
use Rattle.osc_method.specs.Heard.{Fixed}
use Rattle.osc_model.specs.Events.{Event, add, remove, submit, tick, release, Answer, added, released, adds_entry, Entry, Room, room_in}
use Rattle.osc_model.specs.History.{state_of}
use Rattle.osc_model.specs.Refusals.{IsRefusal}
use Rattle.osc_model.specs.State.{State}
use Rattle.osc_model.specs.Step.{Stepped, step, decided}
use Rattle.osc_model.proofs.Calls.{all_append}
use Rattle.osc_model.proofs.Stepping.{step_so, decided_so}
use Rattle.osc_core.specs.Standing.{history_in, CarriesMark, mark_of}
use Rattle.osc_core.proofs.Texts.{read_more}
use Rattle.osc_script.specs.declared.act.Act.{Act}
use Rattle.osc_script.specs.declared.act.Act.TheVariants.{Add, Remove, Send, Tick, Pump}
use Rattle.osc_script.specs.declared.line.Line.{Line}
use Rattle.osc_turn.specs.declared.view.Entry.{Entry as Seen}
use Rattle.osc_turn.specs.History.{StartsWith, texts, entry, own}
use Rattle.osc_turn.proofs.Histories.{own_append, own_of_mine}
use Rattle.osc_live.specs.Seen.{performance_in}
use Rattle.osc_live.proofs.Answered.{texts_more}
use Rattle.osc_life.specs.Holders.{Holder, Onward}
use Rattle.osc_lanes.specs.Shares.{Answered, EntersOne, Releases, Account, then_told, ended, known_of, IsMarkedBy, PlaysAct, Plays}
use Rattle.osc_lanes.proofs.Staying.{answered_starts, mark_still}

-- No event but an add adds a method.

pub only_adds : (state : State) (event : Event) (id : ℕ) → (step state event).answer ≡ added id → (address : List ℕ) × (event ≡ add address)
only_adds state event id =
    step_so (λ (s : Stepped). s.answer ≡ added id → (address : List ℕ) × (event ≡ add address)) state event
    (record { silent = λ none is. here is; full = λ some full is. absurd (cc); room = λ some fits is. here is })
  where
    here : (decided state event).answer ≡ added id → (address : List ℕ) × (event ≡ add address)
    here =
        decided_so (λ (e : Event) (s : Stepped). s.answer ≡ added id → (address : List ℕ) × (e ≡ add address)) state event
        (record {
          refused = λ event answer is adds. absurd (subst IsRefusal adds is);
          enrolled = λ adds. absurd (cc);
          queued = λ packet adds. absurd (cc);
          added = λ address adds. (address, refl);
          removed = λ address id adds. absurd (cc);
          ticked = λ now on adds. absurd (cc);
          released = λ unit units is adds. absurd (cc);
        })

abbrev is_adding : Event → Bool
is_adding (add address) = true
is_adding _ = false

-- the own entries of a token after one more of it
own_one_more : (token : ℕ) (one : Entry) (found there : List Seen) → EntersOne token one found there
    → history_in (texts (own token there)) ≡ history_in (texts (own token found)) ++ one ∷ []
own_one_more token one found there enters =
    let last : Seen = entry token enters.text in
    ap (λ (l : List Seen). history_in (texts (own token l))) enters.last
    ∙ ap (λ (l : List Seen). history_in (texts l)) (own_append token found (last ∷ []))
    ∙ ap (λ (l : List Seen). history_in (texts (own token found ++ l))) (own_of_mine token last refl)
    ∙ ap history_in (texts_more (own token found) last)
    ∙ read_more (texts (own token found)) enters.text one enters.read

module _ {M : Type 0} where
  -- the boxes that an act leaves
  abbrev pub boxes_after : Act → List M → List M
  boxes_after (Add address) boxes = drop 1 boxes
  boxes_after _ boxes = boxes

  module _ (P : List ℕ → M → Type 0) where
    -- an act that adds a method does so at an address that fits its box
    abbrev pub ActFits : Act → List M → Type 0
    ActFits (Add address) boxes = (box : M) (left : List M) → boxes ≡ box ∷ left → P address box
    ActFits _ boxes = Unit {0}

    -- so it is with each of these lines
    abbrev pub LinesFit : List Line → List M → Type 0
    LinesFit [] boxes = Unit {0}
    LinesFit (line ∷ lines) boxes = ActFits line.act boxes × LinesFit lines (boxes_after line.act boxes)

module _ {M : Type 0} (keep : M → Fixed) (heard : M → Option (List ℕ)) (P : List ℕ → M → Type 0) where
  -- the method was added with a box, at an address for which this holds, and the entry has the mark of the box
  pub record HasBox (there : List Seen) (id : ℕ) (one : Entry) : Type 0 where
    pub box : M
    pub address : List ℕ
    pub event_is : one.event ≡ add address
    pub fits : P address box
    pub marked : CarriesMark (texts there) id (mark_of (known_of keep heard id box))

  abbrev pub AddsItsBox : List Seen → Entry → Type 0
  AddsItsBox there one = (id : ℕ) → one.answer ≡ added id → HasBox there id one

  -- so it is with each of a token's own entries
  abbrev pub AddTheirBoxes : ℕ → List Seen → Type 0
  AddTheirBoxes token there = AllByRecursion (AddsItsBox there) (history_in (texts (own token there)))

  pub all_later : (here there : List Seen) → StartsWith there here → (entries : List Entry) → AllByRecursion (AddsItsBox here) entries
      → AllByRecursion (AddsItsBox there) entries
  all_later here there starts [] all = tt
  all_later here there starts (one ∷ entries) all = (λ id is. later id (all.0 id is), all_later here there starts entries all.1) where
    later : (id : ℕ) → HasBox here id one → HasBox there id one
    later id has = record {
      box = has.box;
      address = has.address;
      event_is = has.event_is;
      fits = has.fits;
      marked = mark_still there here id _ starts has.marked;
    }

  pub boxes_onward : (token : ℕ) (here there : List Seen) → Onward token here there → AddTheirBoxes token here → AddTheirBoxes token there
  boxes_onward token here there onward all =
      subst (λ (l : List Seen). AllByRecursion (AddsItsBox there) (history_in (texts l))) (sym onward.1)
      (all_later here there onward.0 (history_in (texts (own token here))) all)

  pub boxes_same : (token : ℕ) (here there : List Seen) → there ≡ here → AddTheirBoxes token here → AddTheirBoxes token there
  boxes_same token here there same all = subst (AddTheirBoxes token) (sym same) all

  module _ (holder : Holder) where
    boxes_event : (event : Event) (answer : Answer) (here there : List Seen) → Answered holder event answer here there
        → AddsItsBox there (record { caller = holder.caller; event = event; answer = answer }) → AddTheirBoxes holder.token here
        → AddTheirBoxes holder.token there
    boxes_event event answer here there a has all = go (adds_entry answer) a.then_seen where
      one : Entry
      one = record { caller = holder.caller; event = event; answer = answer }

      go : (t : Bool) → MatchBool t (EntersOne holder.token one a.found there) (there ≡ a.found) → AddTheirBoxes holder.token there
      go true enters =
          let entries : List Entry = history_in (texts (own holder.token here)) in
          subst (AllByRecursion (AddsItsBox there))
          (sym (own_one_more holder.token one a.found there enters
          ∙ ap (λ (l : List Seen). history_in (texts l) ++ one ∷ []) a.onward.1))
          (all_append (AddsItsBox there) entries (one ∷ [])
          (all_later here there (answered_starts holder event answer here there a) entries all) (has, tt))
      go false same = boxes_same holder.token a.found there same (boxes_onward holder.token here a.found a.onward all)

    -- an event that is no add
    boxes_still : (event : Event) (answer : Answer) (here there : List Seen) → is_adding event ≡ false → Answered holder event answer here there
        → AddTheirBoxes holder.token here → AddTheirBoxes holder.token there
    boxes_still event answer here there other a all = boxes_event event answer here there a none all where
      none : AddsItsBox there (record { caller = holder.caller; event = event; answer = answer })
      none id is =
          let adds = only_adds (state_of (performance_in holder.caps (texts a.found))) event id (sym a.decided ∙ is) in
          let test : is_adding event ≡ true = ap is_adding adds.1 in
          absurd (cc)

    boxes_released : (count : ℕ) (here there : List Seen) → Releases holder count here there → AddTheirBoxes holder.token here
        → AddTheirBoxes holder.token there
    boxes_released zero here there same all = boxes_same holder.token here there same all
    boxes_released (suc count) here there (place, unit, hits, first, last) all =
        boxes_still release (released unit hits) place there refl last (boxes_released count here place first all)

    pub boxes_act : (number : ℕ) (act : Act) (boxes left : List M) (account : Account M) (here there : List Seen)
        → PlaysAct keep heard holder number act boxes left account here there → ActFits P act boxes → AddTheirBoxes holder.token here
        → AddTheirBoxes holder.token there × (left ≡ boxes_after act boxes)
    boxes_act number (Add address) boxes left account here there (box, answer, same, a, marked, is) fits all =
        (boxes_event (add address) answer here there a has all, sym (ap (drop 1) same)) where
          has : AddsItsBox there (record { caller = holder.caller; event = add address; answer = answer })
          has id adds = record {
            box = box;
            address = address;
            event_is = refl;
            fits = fits box left same;
            marked = subst (λ (a : Answer). IsMarkedBy keep heard box a there) adds marked;
          }
    boxes_act number (Remove address) boxes left account here there (out, answer, same, a, ids, are, is) fits all =
        (boxes_still (remove address) answer here there refl a all, same)
    boxes_act number (Send bytes) boxes left account here there (same, sent) fits all = (go (packet_fault MAX_PACKET bytes) sent, same) where
      go : (fault : Option Fault)
          → MatchOption fault ((answer : Answer) × Answered holder (submit bytes) answer here there × (account ≡ ended [] (room_in answer)))
          (λ one. (there ≡ here) × (account ≡ record { faults = (number, one) ∷ []; removed = []; back = []; stop = None }))
          → AddTheirBoxes holder.token there
      go None (answer, a, is) = boxes_still (submit bytes) answer here there refl a all
      go (Some fault) (still, is) = boxes_same holder.token here there still all
    boxes_act number (Tick moment) boxes left account here there (same, answer, a, is) fits all =
        (boxes_still (tick moment) answer here there refl a all, same)
    boxes_act number Pump boxes left account here there (same, count, place, answer, releases, a, ends, is) fits all =
        (boxes_still release answer place there refl a (boxes_released count here place releases all), same)

    pub boxes_played : (lines : List Line) (boxes : List M) (account : Account M) (here there : List Seen)
        → Plays keep heard holder lines boxes account here there → LinesFit P lines boxes → AddTheirBoxes holder.token here
        → AddTheirBoxes holder.token there
    boxes_played [] boxes account here there (is, same) fits all = boxes_same holder.token here there same all
    boxes_played (line ∷ lines) boxes account here there (left, first, place, one, more) fits all =
        let now = boxes_act line.number line.act boxes left first here place one fits.0 all in
        go first.stop more now.0
        (λ rest plays. boxes_played lines left rest place there plays (subst (LinesFit P lines) (sym now.1) fits.1) now.0)
      where
        go : (stop : Option Room)
            → MatchOption stop ((rest : Account M) × (account ≡ then_told first rest) × Plays keep heard holder lines left rest place there)
            (λ room. (account ≡ then_told first (ended left (Some room))) × (there ≡ place))
            → AddTheirBoxes holder.token place
            → ((rest : Account M) → Plays keep heard holder lines left rest place there → AddTheirBoxes holder.token there)
            → AddTheirBoxes holder.token there
        go None (rest, is, plays) here_all later = later rest plays
        go (Some room) (is, same) here_all later = boxes_same holder.token place there same here_all
