-- The ids that a lane's own entries remove are those of the boxes that it tells.
use Rattle.std.proofs.Common.{◌≡◌, inl, inr, ℕ, zero, suc, ◌+◌, Bool, true, false, List, [], ◌∷◌, ◌++◌, map, length, flat_map, Option, Some, None, MatchBool}
use Rattle.std.proofs.Common.{refl, sym, ap, ◌∙◌, append_assoc, append-nil}
use Rattle.std.specs.Prelude.{MatchOption}
use Rattle.std.specs.Option.{option_map_or}
use Rattle.std.proofs.lemmas.List.{map-append}
use Rattle.std.proofs.lemmas.List.Concat.{flat_map-append}
use Rattle.osc_atoms.specs.declared.fault.Fault.{Fault}
use Rattle.osc_atoms.specs.declared.limits.TheConstants.{MAX_PACKET}
use Rattle.osc_packet.specs.Reading.{packet_fault}
use Rattle.osc_method.specs.Heard.{Fixed}
use Rattle.osc_model.specs.State.{State}
use Rattle.osc_model.specs.Events.{Event, submit, add, remove, tick, release, Answer, released, nothing_due, record_full, adds_entry, Entry, Room, room_in}
use Rattle.osc_model.specs.Step.{step}
use Rattle.osc_model.specs.History.{state_of}
use Rattle.osc_model.proofs.Changes.{Changes, changes}
use Rattle.osc_record.specs.Reading.{entry_in}
use Rattle.osc_core.specs.Standing.{history_in}
use Rattle.osc_script.specs.declared.act.Act.{Act}
use Rattle.osc_script.specs.declared.act.Act.TheVariants.{Add, Remove, Send, Tick, Pump}
use Rattle.osc_script.specs.declared.line.Line.{Line}
use Rattle.osc_turn.specs.declared.view.Entry.{Entry as Seen}
use Rattle.osc_turn.specs.History.{texts, entry, own}
use Rattle.osc_turn.proofs.Histories.{own_append, own_of_mine}
use Rattle.osc_live.specs.Seen.{performance_in}
use Rattle.osc_life.specs.Holders.{Holder}
use Rattle.osc_life.specs.Lives.{id_in}
use Rattle.osc_lanes.specs.Shares.{Answered, EntersOne, Releases, Account, then_told, ended, PlaysAct, Plays, LaneOf}
use Rattle.osc_life.specs.Lives.{Numbered}
use Rattle.osc_lanes.specs.Performs.{Part, removed_ids}
use Rattle.osc_life.proofs.Balance.{gone_ids, unchanged}
use Rattle.osc_lanes.proofs.Parting.{given_by, given_in}

-- the id of the method that an entry removes, if one is
abbrev pub gone : Seen → List ℕ
gone one = option_map_or (λ entry. id_in entry.answer) (entry_in one.text) []

pub gone_in : (history : List Seen) → flat_map gone history ≡ gone_ids (history_in (texts history))
gone_in [] = refl
gone_in (one ∷ history) = go (entry_in one.text) refl (gone_in history) where
  go : (read : Option Entry) → entry_in one.text ≡ read → flat_map gone history ≡ gone_ids (history_in (texts history))
      → gone one ++ flat_map gone history ≡ gone_ids (history_in (texts (one ∷ history)))
  go None is rest = rw is rest
  go (Some entry) is rest = rw is (ap (λ (l : List ℕ). id_in entry.answer ++ l) rest)

-- what adds no entry removes nothing
not_entered : (answer : Answer) → adds_entry answer ≡ false → id_in answer ≡ []
not_entered (nothing_due next) is = refl
not_entered (record_full room) is = refl
not_entered _ is = absurd (cc)

-- only a `remove` is answered by a removal
abbrev removes : Event → Bool
removes (remove address) = true
removes _ = false

only_removes : (state : State) (event : Event) → removes event ≡ false → id_in (step state event).answer ≡ []
only_removes state event other = go (changes state event) where
  go : Changes state event (step state event) → id_in (step state event).answer ≡ []
  go (inl keeps) = (unchanged (step state event).answer keeps.answer).1
  go (inr (inl adds)) = ap id_in adds.answer
  go (inr (inr loses)) = let is = loses.event_is in let yes : removes event ≡ true = ap removes is in absurd (cc)

module _ (holder : Holder) where
  -- the ids that the holder's own entries remove, in order
  abbrev pub own_gone : List Seen → List ℕ
  own_gone history = given_by gone history holder.token

  answered_gone : (event : Event) (answer : Answer) (here there : List Seen) → Answered holder event answer here there
      → own_gone there ≡ own_gone here ++ id_in answer
  answered_gone event answer here there a = go (adds_entry answer) refl a.then_seen where
    one : Entry
    one = record { caller = holder.caller; event = event; answer = answer }

    go : (t : Bool) → adds_entry answer ≡ t → MatchBool t (EntersOne holder.token one a.found there) (there ≡ a.found)
        → own_gone there ≡ own_gone here ++ id_in answer
    go true is enters =
        let last = entry holder.token enters.text in
        let reads : gone last ++ [] ≡ id_in answer =
        append-nil (gone last) ∙ ap (λ (r : Option Entry). option_map_or (λ entry. id_in entry.answer) r []) enters.read in
        ap own_gone enters.last
        ∙ ap (flat_map gone) (own_append holder.token a.found (last ∷ []) ∙ (λ i. a.onward.1 i ++ own_of_mine holder.token last refl i))
        ∙ flat_map-append gone (own holder.token here) (last ∷ [])
        ∙ ap (λ (l : List ℕ). own_gone here ++ l) reads
    go false is same =
        ap own_gone same ∙ ap (flat_map gone) a.onward.1 ∙ sym (append-nil (own_gone here))
        ∙ ap (λ (l : List ℕ). own_gone here ++ l) (sym (not_entered answer is))

  -- an event that removes nothing
  kept_gone : (event : Event) (answer : Answer) (here there : List Seen) → removes event ≡ false → Answered holder event answer here there
      → own_gone there ≡ own_gone here
  kept_gone event answer here there other a =
      let none : id_in answer ≡ [] =
      ap id_in a.decided ∙ only_removes (state_of (performance_in holder.caps (texts a.found))) event other in
      answered_gone event answer here there a ∙ ap (λ (l : List ℕ). own_gone here ++ l) none ∙ append-nil (own_gone here)

  releases_gone : (count : ℕ) (here there : List Seen) → Releases holder count here there → own_gone there ≡ own_gone here
  releases_gone zero here there same = ap own_gone same
  releases_gone (suc count) here there (place, unit, hits, first, last) =
      kept_gone release (released unit hits) place there refl last ∙ releases_gone count here place first

  module _ {M : Type 0} (keep : M → Fixed) (heard : M → Option (List ℕ)) where
    abbrev pub ids_told : Account M → List ℕ
    ids_told account = map (λ one. one.0) account.removed

    -- what is played and removes nothing
    pub nothing_told : (account : Account M) (here there : List Seen) → account.removed ≡ [] → own_gone there ≡ own_gone here
        → own_gone there ≡ own_gone here ++ ids_told account
    nothing_told account here there none same =
        same ∙ sym (append-nil (own_gone here)) ∙ ap (λ (l : List (ℕ × M)). own_gone here ++ map (λ one. one.0) l) (sym none)

    pub act_gone : (number : ℕ) (act : Act) (boxes left : List M) (account : Account M) (here there : List Seen)
        → PlaysAct keep heard holder number act boxes left account here there → own_gone there ≡ own_gone here ++ ids_told account
    act_gone number (Add address) boxes left account here there (box, answer, first, a, marked, is) =
        nothing_told account here there (ap (λ (one : Account M). one.removed) is) (kept_gone (add address) answer here there refl a)
    act_gone number (Remove address) boxes left account here there (out, answer, same, a, ids, are, is) =
        answered_gone (remove address) answer here there a
        ∙ ap (λ (l : List ℕ). own_gone here ++ l) (sym ids ∙ ap (map (λ (one : ℕ × M). one.0)) (sym (ap (λ (one : Account M). one.removed) is)))
    act_gone number (Send bytes) boxes left account here there (same, sent) = go (packet_fault MAX_PACKET bytes) sent where
      go : (fault : Option Fault)
          → MatchOption fault ((answer : Answer) × Answered holder (submit bytes) answer here there × (account ≡ ended [] (room_in answer)))
          (λ one. (there ≡ here) × (account ≡ record { faults = (number, one) ∷ []; removed = []; back = []; stop = None }))
          → own_gone there ≡ own_gone here ++ ids_told account
      go None (answer, a, is) =
          nothing_told account here there (ap (λ (one : Account M). one.removed) is) (kept_gone (submit bytes) answer here there refl a)
      go (Some fault) (still, is) = nothing_told account here there (ap (λ (one : Account M). one.removed) is) (ap own_gone still)
    act_gone number (Tick moment) boxes left account here there (same, answer, a, is) =
        nothing_told account here there (ap (λ (one : Account M). one.removed) is) (kept_gone (tick moment) answer here there refl a)
    act_gone number Pump boxes left account here there (same, count, place, answer, releases, a, ends, is) =
        nothing_told account here there (ap (λ (one : Account M). one.removed) is)
        (kept_gone release answer place there refl a ∙ releases_gone count here place releases)

    -- a part that is played, and then the rest
    pub gone_on : (account first rest : Account M) (here place there : List Seen) → account.removed ≡ first.removed ++ rest.removed
        → own_gone place ≡ own_gone here ++ ids_told first → own_gone there ≡ own_gone place ++ ids_told rest
        → own_gone there ≡ own_gone here ++ ids_told account
    gone_on account first rest here place there is one more =
        more ∙ ap (λ (l : List ℕ). l ++ ids_told rest) one ∙ append_assoc (own_gone here) (ids_told first) (ids_told rest)
        ∙ ap (λ (l : List ℕ). own_gone here ++ l)
        (sym (map-append (λ (one : ℕ × M). one.0) first.removed rest.removed) ∙ ap (map (λ (one : ℕ × M). one.0)) (sym is))

    pub plays_gone : (lines : List Line) (boxes : List M) (account : Account M) (here there : List Seen)
        → Plays keep heard holder lines boxes account here there → own_gone there ≡ own_gone here ++ ids_told account
    plays_gone [] boxes account here there (is, same) =
        nothing_told account here there (ap (λ (one : Account M). one.removed) is) (ap own_gone same)
    plays_gone (line ∷ lines) boxes account here there (left, first, place, one, more) =
        go first.stop more (λ rest plays. plays_gone lines left rest place there plays) where
          go : (stop : Option Room)
              → MatchOption stop ((rest : Account M) × (account ≡ then_told first rest) × Plays keep heard holder lines left rest place there)
              (λ room. (account ≡ then_told first (ended left (Some room))) × (there ≡ place))
              → ((rest : Account M) → Plays keep heard holder lines left rest place there → own_gone there ≡ own_gone place ++ ids_told rest)
              → own_gone there ≡ own_gone here ++ ids_told account
          go None (rest, is, plays) goes =
              gone_on account first rest here place there (ap (λ (one : Account M). one.removed) is)
              (act_gone line.number line.act boxes left first here place one) (goes rest plays)
          go (Some room) (is, same) goes =
              gone_on account first (ended left (Some room)) here place there (ap (λ (one : Account M). one.removed) is)
              (act_gone line.number line.act boxes left first here place one)
              (nothing_told (ended left (Some room)) place there refl (ap own_gone same))

    -- the ids that a lane's share of a history removes
    pub lane_gone : (lines : List Line) (boxes : List M) (account : Account M) (history : List Seen)
        → LaneOf keep heard holder lines boxes account history → own_gone history ≡ ids_told account
    lane_gone lines boxes account history (here, there, none, plays, on) =
        ap (flat_map gone) on.1 ∙ plays_gone lines boxes account here there plays
        ∙ ap (λ (l : List Seen). flat_map gone l ++ ids_told account) none

-- the ids that lanes removed are those that the own entries of their tokens remove
pub told_ids : {M : Type 0} (history : List Seen) (first : ℕ) (parts : List (Part M)) (accounts : List (Account M))
    → Numbered (λ number part account. given_by gone history number ≡ map (λ one. one.0) account.removed) first parts accounts
    → given_in gone history first (length parts) ≡ removed_ids accounts
told_ids history first [] [] all = refl
told_ids history first [] (account ∷ accounts) all = absurd all
told_ids history first (part ∷ parts) [] all = absurd all
told_ids history first (part ∷ parts) (account ∷ accounts) all = λ i. all.0 i ++ told_ids history (first + 1) parts accounts all.1 i
