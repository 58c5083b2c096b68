-- Caller 0 alone plays lines on a new server: it enrols none.
use Rattle.std.proofs.Common.{◌≡◌, ℕ, zero, suc, ◌+◌, Bool, true, false, cond, List, [], ◌∷◌, ◌++◌, Option, Some, None, MatchBool, refl, sym, ap, subst, ◌∙◌}
use Rattle.std.specs.Prelude.{MatchOption}
use Rattle.osc_atoms.specs.declared.fault.Fault.{Fault}
use Rattle.osc_atoms.specs.declared.limits.TheConstants.{MAX_PACKET}
use Rattle.osc_packet.specs.Reading.{packet_fault}
use Rattle.osc_method.specs.Heard.{Fixed}
use Rattle.osc_model.specs.Enrolled.{callers_in, enrols}
use Rattle.osc_model.specs.Events.{Event, enrol, submit, add, remove, tick, release, Answer, released, adds_entry, Entry, Room, room_in}
use Rattle.osc_model.specs.Events as events
use Rattle.osc_model.specs.History.{state_of}
use Rattle.osc_model.specs.Refusals.{IsRefusal}
use Rattle.osc_model.specs.State.{State}
use Rattle.osc_model.specs.Step.{Stepped, step, decided}
use Rattle.osc_model.proofs.Stepping.{step_so, decided_so}
use Rattle.osc_core.specs.Standing.{history_in}
use Rattle.osc_core.proofs.Texts.{read_more}
use Rattle.osc_script.specs.declared.act.Act.{Act}
use Rattle.osc_script.specs.declared.act.Act.TheVariants.{Add, Remove, Send, Tick, Pump}
use Rattle.osc_script.specs.declared.line.Line.{Line}
use Rattle.osc_turn.specs.declared.view.Entry.{Entry as Seen}
use Rattle.osc_turn.specs.History.{StartsWith, texts, entry, own}
use Rattle.osc_turn.proofs.Histories.{starts_here, starts_on}
use Rattle.osc_live.specs.Seen.{performance_in}
use Rattle.osc_live.proofs.Answered.{texts_more}
use Rattle.osc_model.specs.Limits.{Limits}
use Rattle.osc_life.specs.Holders.{holder_at}
use Rattle.osc_life.specs.Holders.{Holder}
use Rattle.osc_lanes.specs.Shares.{Answered, EntersOne, Releases, Account, then_told, ended, PlaysAct, Plays}
use Rattle.osc_life.proofs.Enrolling.{own_before}

-- An event that isn't an enrolment enrols none.

abbrev is_enrolment : Event → Bool
is_enrolment enrol = true
is_enrolment _ = false

refusals_enrol_none : (answer : Answer) → IsRefusal answer → enrols answer ≡ false
refusals_enrol_none (events.number caller) is = absurd is
refusals_enrol_none _ is = refl

enrols_none : (state : State) (event : Event) → is_enrolment event ≡ false → enrols (step state event).answer ≡ false
enrols_none state event other =
    step_so (λ stepped. enrols stepped.answer ≡ false) state event
    (record { silent = λ none. here; full = λ some full. refl; room = λ some fits. here })
  where
    here : enrols (decided state event).answer ≡ false
    here =
        decided_so (λ (e : Event) (s : Stepped). is_enrolment e ≡ false → enrols s.answer ≡ false) state event
        (record {
          refused = λ event answer is none. refusals_enrol_none answer is;
          enrolled = λ none. absurd (cc);
          queued = λ packet none. refl;
          added = λ address none. refl;
          removed = λ address id none. refl;
          ticked = λ now on none. refl;
          released = λ unit units is none. refl;
        })
        other

counts_more : (history : List Entry) (one : Entry) → enrols one.answer ≡ false → callers_in (history ++ one ∷ []) ≡ callers_in history
counts_more [] one none = ap (λ t. cond t (callers_in [] + 1) (callers_in [])) none
counts_more (first ∷ history) one none = ap (λ (n : ℕ). cond (enrols first.answer) (n + 1) n) (counts_more history one none)

module _ (holder : Holder) where
  -- What is seen goes on; and where all of it is the holder's own, as many callers are enrolled as before.
  abbrev pub Counts : List Seen → List Seen → Type 0
  Counts here there = StartsWith there here
      × (own holder.token there ≡ there → callers_in (history_in (texts there)) ≡ callers_in (history_in (texts here)))

  counts_same : (here there : List Seen) → there ≡ here → Counts here there
  counts_same here there same = (
    subst (λ (l : List Seen). StartsWith l here) (sym same) (starts_here here),
    λ alone. ap (λ (l : List Seen). callers_in (history_in (texts l))) same,
  )

  counts_on : (here place there : List Seen) → Counts here place → Counts place there → Counts here there
  counts_on here place there first then = (
    starts_on there place here then.0 first.0,
    λ alone. then.1 alone ∙ first.1 (own_before holder.token there place then.0 alone),
  )

  counts_event : (event : Event) (answer : Answer) (here there : List Seen) → is_enrolment event ≡ false → Answered holder event answer here there
      → Counts here there
  counts_event event answer here there other a = go (adds_entry answer) a.then_seen where
    one : Entry
    one = record { caller = holder.caller; event = event; answer = answer }

    none : enrols answer ≡ false
    none = ap enrols a.decided ∙ enrols_none (state_of (performance_in holder.caps (texts a.found))) event other

    -- where all that was found is the holder's own, nothing was found
    alone_found : own holder.token a.found ≡ a.found → a.found ≡ here
    alone_found alone = sym alone ∙ a.onward.1 ∙ own_before holder.token a.found here a.onward.0 alone

    go : (t : Bool) → MatchBool t (EntersOne holder.token one a.found there) (there ≡ a.found) → Counts here there
    go true enters =
        let starts : StartsWith there a.found = (_, enters.last) in (
          starts_on there a.found here starts a.onward.0,
          λ alone.
              let found = alone_found (own_before holder.token there a.found starts alone) in
              ap (λ (l : List Seen). callers_in (history_in (texts l))) enters.last
              ∙ ap (λ (l : List (List ℕ)). callers_in (history_in l)) (texts_more a.found (entry holder.token enters.text))
              ∙ ap callers_in (read_more (texts a.found) enters.text one enters.read)
              ∙ counts_more (history_in (texts a.found)) one none
              ∙ ap (λ (l : List Seen). callers_in (history_in (texts l))) found,
        )
    go false same = (
      subst (λ (l : List Seen). StartsWith l here) (sym same) a.onward.0,
      λ alone.
          let found = alone_found (subst (λ (l : List Seen). own holder.token l ≡ l) same alone) in
          ap (λ (l : List Seen). callers_in (history_in (texts l))) (same ∙ found),
    )

  counts_releases : (count : ℕ) (here there : List Seen) → Releases holder count here there → Counts here there
  counts_releases zero here there same = counts_same here there same
  counts_releases (suc count) here there (place, unit, hits, first, last) =
      counts_on here place there (counts_releases count here place first) (counts_event release (released unit hits) place there refl last)

  module _ {M : Type 0} (keep : M → Fixed) (heard : M → Option (List ℕ)) where
    counts_act : (number : ℕ) (act : Act) (boxes left : List M) (account : Account M) (here there : List Seen)
        → PlaysAct keep heard holder number act boxes left account here there → Counts here there
    counts_act number (Add address) boxes left account here there (box, answer, first, a, marked, is) =
        counts_event (add address) answer here there refl a
    counts_act number (Remove address) boxes left account here there (out, answer, same, a, ids, are, is) =
        counts_event (remove address) answer here there refl a
    counts_act number (Send bytes) boxes left account here there (same, sent) = go (packet_fault MAX_PACKET bytes) sent where
      go : (fault : Option Fault)
          → MatchOption fault ((answer : Answer) × Answered holder (submit bytes) answer here there × (account ≡ ended [] (room_in answer)))
          (λ one. (there ≡ here) × (account ≡ record { faults = (number, one) ∷ []; removed = []; back = []; stop = None }))
          → Counts here there
      go None (answer, a, is) = counts_event (submit bytes) answer here there refl a
      go (Some fault) (still, is) = counts_same here there still
    counts_act number (Tick moment) boxes left account here there (same, answer, a, is) = counts_event (tick moment) answer here there refl a
    counts_act number Pump boxes left account here there (same, count, place, answer, releases, a, ends, is) =
        counts_on here place there (counts_releases count here place releases) (counts_event release answer place there refl a)

    pub counts_plays : (lines : List Line) (boxes : List M) (account : Account M) (here there : List Seen)
        → Plays keep heard holder lines boxes account here there → Counts here there
    counts_plays [] boxes account here there (is, same) = counts_same here there same
    counts_plays (line ∷ lines) boxes account here there (left, first, place, one, more) =
        go first.stop more (λ rest plays. counts_plays lines left rest place there plays) where
          go : (stop : Option Room)
              → MatchOption stop ((rest : Account M) × (account ≡ then_told first rest) × Plays keep heard holder lines left rest place there)
              (λ room. (account ≡ then_told first (ended left (Some room))) × (there ≡ place))
              → ((rest : Account M) → Plays keep heard holder lines left rest place there → Counts place there) → Counts here there
          go None (rest, is, plays) counts =
              counts_on here place there (counts_act line.number line.act boxes left first here place one) (counts rest plays)
          go (Some room) (is, same) counts =
              counts_on here place there (counts_act line.number line.act boxes left first here place one) (counts_same place there same)

-- lines that caller 0 has played enrol none
pub plays_enrol_none : {M : Type 0} (keep : M → Fixed) (heard : M → Option (List ℕ)) (caps : Limits) (lines : List Line) (boxes : List M) (account : Account M)
    (here there : List Seen) → Plays keep heard (holder_at caps 0) lines boxes account here there → own 0 there ≡ there
    → (own 0 here ≡ here) × (callers_in (history_in (texts there)) ≡ callers_in (history_in (texts here)))
plays_enrol_none keep heard caps lines boxes account here there plays alone =
    let counts = counts_plays (holder_at caps 0) keep heard lines boxes account here there plays in
    (own_before 0 there here counts.0 alone, counts.1 alone)
