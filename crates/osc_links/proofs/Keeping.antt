-- Links and the ticker remove no method.
use Rattle.std.proofs.Common.{◌≡◌, ℕ, ◌+◌, List, [], ◌∷◌, ◌++◌, map, flat_map, Option, Some, None, sym, ap, ◌∙◌, append-nil}
use Rattle.std.specs.Prelude.{MatchOption}
use Rattle.osc_method.specs.Heard.{Fixed}
use Rattle.osc_model.specs.Events.{Room}
use Rattle.osc_record.specs.Shown.{room_of}
use Rattle.osc_script.specs.declared.act.Act.TheVariants.{Send}
use Rattle.osc_turn.specs.declared.view.Entry.{Entry as Seen}
use Rattle.osc_links.specs.declared.link_work.Over.{Over}
use Rattle.osc_links.specs.declared.served.Bounds.{Bounds}
use Rattle.osc_links.specs.declared.served.TickerEnd.{TickerEnd}
use Rattle.osc_links.specs.declared.served.TickerEnd.TheVariants.{Done, ClockFailed, Full}
use Rattle.osc_life.specs.Holders.{Holder, Onward}
use Rattle.osc_lanes.specs.Shares.{Account, then_told, ended}
use Rattle.osc_links.specs.Links.{LinkTurn, stop_by, PlaysTurns}
use Rattle.osc_links.specs.Ticks.{ClockRead, round_lines, last_after, PlaysRound, PlaysRounds, EndsTicks, Ticks}
use Rattle.osc_lanes.proofs.Removals.{gone, own_gone, ids_told, nothing_told, act_gone, gone_on, plays_gone}

module _ (holder : Holder) where
  onward_gone : (here there : List Seen) → Onward holder.token here there → own_gone holder there ≡ own_gone holder here
  onward_gone here there on = ap (flat_map gone) on.1

  module _ {M : Type 0} (keep : M → Fixed) (heard : M → Option (List ℕ)) where
    turns_gone : (bounds : Bounds) (taken quiets : ℕ) (turns : List LinkTurn) (over : Over) (account : Account M) (here there : List Seen)
        → PlaysTurns keep heard holder bounds taken quiets turns over account here there
        → own_gone holder there ≡ own_gone holder here ++ ids_told holder keep heard account
    turns_gone bounds taken quiets [] over account here there (ends, is, same) =
        nothing_told holder keep heard account here there (ap (λ (one : Account M). one.removed) is) (ap (own_gone holder) same)
    turns_gone bounds taken quiets (None ∷ turns) over account here there (within, plays) =
        turns_gone bounds taken (quiets + 1) turns over account here there plays
    turns_gone bounds taken quiets (Some bytes ∷ turns) over account here there (within, first, place, one, more) =
        go first.stop more (λ rest plays. turns_gone bounds (taken + 1) 0 turns over rest place there plays) where
          sent : own_gone holder place ≡ own_gone holder here ++ ids_told holder keep heard first
          sent = act_gone holder keep heard (taken + 1) (Send bytes) [] [] first here place one

          go : (stop : Option Room)
              → MatchOption stop
              ((rest : Account M) × (account ≡ then_told first rest) × PlaysTurns keep heard holder bounds (taken + 1) 0 turns over rest place there)
              (λ room. (turns ≡ []) × (stop_by over ≡ Some room) × (account ≡ first) × (there ≡ place))
              → ((rest : Account M) → PlaysTurns keep heard holder bounds (taken + 1) 0 turns over rest place there
              → own_gone holder there ≡ own_gone holder place ++ ids_told holder keep heard rest)
              → own_gone holder there ≡ own_gone holder here ++ ids_told holder keep heard account
          go None (rest, is, plays) goes =
              gone_on holder keep heard account first rest here place there (ap (λ (one : Account M). one.removed) is) sent (goes rest plays)
          go (Some room) (none, full, is, same) goes =
              ap (own_gone holder) same ∙ sent ∙ ap (λ (one : Account M). own_gone holder here ++ ids_told holder keep heard one) (sym is)

    -- a link's turns, of which only faults are told
    pub link_gone : (bounds : Bounds) (turns : List LinkTurn) (over : Over) (account : Account M) (here there : List Seen) → account.removed ≡ []
        → PlaysTurns keep heard holder bounds 0 0 turns over account here there → own_gone holder there ≡ own_gone holder here
    link_gone bounds turns over account here there none plays =
        turns_gone bounds 0 0 turns over account here there plays
        ∙ ap (λ (l : List (ℕ × M)). own_gone holder here ++ map (λ (one : ℕ × M). one.0) l) none ∙ append-nil (own_gone holder here)

    round_gone : (last : Option ℕ) (moment : ℕ) (stop : Option Room) (here there : List Seen) → PlaysRound keep heard holder last moment stop here there
        → own_gone holder there ≡ own_gone holder here
    round_gone last moment stop here there plays =
        plays_gone holder keep heard (round_lines last moment) [] (ended [] stop) here there plays ∙ append-nil (own_gone holder here)

    rounds_gone : (first : Option ℕ) (moments : List ℕ) (last : Option ℕ) (here there : List Seen) → PlaysRounds keep heard holder first moments last here there
        → own_gone holder there ≡ own_gone holder here
    rounds_gone first [] last here there (is, same) = ap (own_gone holder) same
    rounds_gone first (moment ∷ moments) last here there (place, one, more) =
        rounds_gone (last_after first moment) moments last place there more ∙ round_gone first moment None here place one

    end_gone : (last : Option ℕ) (tokens : List (List Seen)) (between : Option (List ℕ)) (clock : ClockRead) (end : TickerEnd) (here there : List Seen)
        → EndsTicks keep heard holder last tokens between clock end here there → own_gone holder there ≡ own_gone holder here
    end_gone last tokens between clock Done here there (steady, (moment, start, gives, on, all, plays)) =
        round_gone last moment None start there plays ∙ onward_gone here start on
    end_gone last tokens between clock ClockFailed here there (rose, gives, on) = onward_gone here there on
    end_gone last tokens between clock (Full room) here there (steady, (moment, start, gives, on, all, plays)) =
        round_gone last moment (Some (room_of room)) start there plays ∙ onward_gone here start on

    pub ticks_gone : (tokens : List (List Seen)) (clock : ClockRead) (end : TickerEnd) (here there : List Seen)
        → Ticks keep heard holder tokens clock end here there → own_gone holder there ≡ own_gone holder here
    ticks_gone tokens clock end here there ticks =
        end_gone ticks.last tokens ticks.between clock end ticks.place there ticks.ends
        ∙ rounds_gone None ticks.moments ticks.last here ticks.place ticks.rounds
