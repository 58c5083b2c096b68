-- What the opening adds, and what it removes.
use Rattle.std.proofs.Common.{◌≡◌, ℕ, ◌+◌, Bool, true, false, not, List, [], ◌∷◌, ◌++◌, map, filter, length, Option, Some, None}
use Rattle.std.proofs.Common.{cond, refl, ap, ◌∙◌, arith}
use Rattle.std.specs.Prelude.{MatchOption}
use Rattle.osc_atoms.specs.declared.fault.Fault.{Fault}
use Rattle.osc_atoms.specs.declared.limits.TheConstants.{MAX_PACKET}
use Rattle.osc_packet.specs.Reading.{packet_fault}
use Rattle.osc_method.specs.Heard.{Fixed}
use Rattle.osc_model.specs.Events.{Answer, Room, submit, room_in}
use Rattle.osc_turn.specs.declared.view.Entry.{Entry as Seen}
use Rattle.osc_life.specs.Holders.{Holder}
use Rattle.osc_script.specs.declared.act.Act.{Act}
use Rattle.osc_script.specs.declared.act.Act.TheVariants.{Add, Remove, Send, Tick, Pump}
use Rattle.osc_script.specs.declared.line.Line.{Line}
use Rattle.osc_script.specs.Adds.{count_adds, is_add, adds_of as adds_in}
use Rattle.osc_lanes.specs.Performs.{IsWhole}
use Rattle.osc_lanes.specs.Shares.{Account, Answered, Plays, PlaysAct, ended, then_told}
use Rattle.osc_relay.specs.declared.outlet.Outlet.{Ghosts}
use Rattle.osc_relay.specs.declared.relay.Relay.{Relay}
use Rattle.osc_stage.specs.Lines.{added_in}
use Rattle.osc_stage.specs.Stages.{add_line, adds_of, carried_on, is_other, is_removal, AddsAtOwn, RemoveNone}

-- lines that add nothing add at no address
others_add_none : (lines : List Line) → added_in (filter is_other lines) ≡ []
others_add_none [] = refl
others_add_none (line ∷ lines) = go line.act (others_add_none lines) where
  go : (act : Act) → added_in (filter is_other lines) ≡ []
      → added_in (cond (not (is_add act)) (record line { act = act } ∷ filter is_other lines) (filter is_other lines)) ≡ []
  go (Add address) rest = rest
  go (Remove address) rest = rest
  go (Send bytes) rest = rest
  go (Tick moment) rest = rest
  go Pump rest = rest

-- lines that add nothing
others_counted : (lines : List Line) → count_adds (filter is_other lines) ≡ 0
others_counted [] = refl
others_counted (line ∷ lines) = go (is_add line.act) refl (others_counted lines) where
  go : (is : Bool) → is_add line.act ≡ is → count_adds (filter is_other lines) ≡ 0
      → count_adds (cond (not is) (line ∷ filter is_other lines) (filter is_other lines)) ≡ 0
  go true is rest = rest
  go false is rest = let none : adds_in line.act ≡ 0 = ap (λ (b : Bool). cond b 1 0) is in omega (arith, rest, none)

counted_append : (some others : List Line) → count_adds (some ++ others) ≡ count_adds some + count_adds others
counted_append [] others = omega arith
counted_append (line ∷ some) others = omega (arith, counted_append some others)

module _ {O : Type 0} {G : Ghosts O} where
  adds_counted : (relays : List (Relay O G)) → count_adds (map add_line relays) ≡ length relays
  adds_counted [] = refl
  adds_counted (relay ∷ relays) = omega (arith, adds_counted relays)

  -- each relay has its line
  pub adds_whole : (relays : List (Relay O G)) → IsWhole (adds_of relays)
  adds_whole relays = omega (arith, adds_counted relays)

  -- and no other line adds a method
  pub carried_whole : (relays : List (Relay O G)) (lines : List Line) → IsWhole (carried_on relays lines)
  carried_whole relays lines =
      omega (arith, adds_counted relays, counted_append (map add_line relays) (filter is_other lines), others_counted lines)

  -- each relay is added at its own address
  pub adds_own : (relays : List (Relay O G)) → AddsAtOwn (adds_of relays)
  adds_own [] = refl
  adds_own (relay ∷ relays) = ap (λ (l : List (List ℕ)). relay.address ∷ l) (adds_own relays)

  pub carried_own : (relays : List (Relay O G)) (lines : List Line) → AddsAtOwn (carried_on relays lines)
  carried_own [] lines = others_add_none lines
  carried_own (relay ∷ relays) lines = ap (λ (l : List (List ℕ)). relay.address ∷ l) (carried_own relays lines)

  module _ (keep : Relay O G → Fixed) (heard : Relay O G → Option (List ℕ)) (holder : Holder) where
    sent_none : (fault : Option Fault) (number : ℕ) (bytes : List ℕ) (first : Account (Relay O G)) (here there : List Seen)
        → MatchOption fault
        ((answer : Answer) × Answered holder (submit bytes) answer here there × (first ≡ ended [] (room_in answer)))
        (λ fault. (there ≡ here) × (first ≡ record { faults = (number, fault) ∷ []; removed = []; back = []; stop = None }))
        → first.removed ≡ []
    sent_none None number bytes first here there sent = ap (λ (a : Account (Relay O G)). a.removed) sent.2
    sent_none (Some fault) number bytes first here there sent = ap (λ (a : Account (Relay O G)). a.removed) sent.1

    act_none : (number : ℕ) (act : Act) (boxes left : List (Relay O G)) (first : Account (Relay O G)) (here there : List Seen)
        → is_removal act ≡ false → PlaysAct keep heard holder number act boxes left first here there → first.removed ≡ []
    act_none number (Add address) boxes left first here there keeps plays = ap (λ (a : Account (Relay O G)). a.removed) plays.5
    act_none number (Remove address) boxes left first here there keeps plays = absurd (cc)
    act_none number (Send bytes) boxes left first here there keeps plays =
        sent_none (packet_fault MAX_PACKET bytes) number bytes first here there plays.1
    act_none number (Tick moment) boxes left first here there keeps plays = ap (λ (a : Account (Relay O G)). a.removed) plays.3
    act_none number Pump boxes left first here there keeps plays = ap (λ (a : Account (Relay O G)). a.removed) plays.7

    -- lines that remove no method leave none removed
    pub none_removed : (lines : List Line) (boxes : List (Relay O G)) (account : Account (Relay O G)) (here there : List Seen)
        → Plays keep heard holder lines boxes account here there → RemoveNone lines → account.removed ≡ []
    none_removed [] boxes account here there plays keeps = ap (λ (a : Account (Relay O G)). a.removed) plays.0
    none_removed (line ∷ lines) boxes account here there plays keeps =
        let left = plays.0 in
        let first = plays.1 in
        let place = plays.2 in
        let none = act_none line.number line.act boxes left first here place keeps.0 plays.3 in
        go left first place none first.stop plays.4 (λ rest plays. none_removed lines left rest place there plays keeps.1) where
          go : (left : List (Relay O G)) (first : Account (Relay O G)) (place : List Seen) → first.removed ≡ [] → (stop : Option Room)
              → MatchOption stop
              ((rest : Account (Relay O G)) × (account ≡ then_told first rest) × Plays keep heard holder lines left rest place there)
              (λ room. (account ≡ then_told first (ended left (Some room))) × (there ≡ place))
              → ((rest : Account (Relay O G)) → Plays keep heard holder lines left rest place there → rest.removed ≡ [])
              → account.removed ≡ []
          go left first place none None (rest, is, plays) later =
              ap (λ (a : Account (Relay O G)). a.removed) is ∙ ap (λ (l : List (ℕ × Relay O G)). l ++ rest.removed) none ∙ later rest plays
          go left first place none (Some room) (is, same) later =
              ap (λ (a : Account (Relay O G)). a.removed) is ∙ ap (λ (l : List (ℕ × Relay O G)). l ++ []) none
