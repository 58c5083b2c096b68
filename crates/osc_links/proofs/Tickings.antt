-- The ticker's rounds, while links are served.
use Rattle.std.proofs.Common.{◌≡◌, ℕ, zero, suc, List, Option, None, All, refl, sym, ap, subst, ◌∙◌}
use Rattle.osc_method.specs.Heard.{Fixed}
use Rattle.osc_model.specs.Limits.{Limits}
use Rattle.osc_turn.specs.declared.view.Entry.{Entry as Seen}
use Rattle.osc_turn.specs.declared.view.View.{View}
use Rattle.osc_turn.specs.History.{StartsWith, own}
use Rattle.osc_turn.specs.Rule.{number_of}
use Rattle.osc_turn.proofs.Histories.{starts_here, starts_on}
use Rattle.osc_live.specs.Calls.{Calls}
use Rattle.osc_live.specs.Pumps.{Releases, Pumps}
use Rattle.osc_live.specs.declared.pumped.Pumped.{Pumped}
use Rattle.osc_model.specs.Events.{Event, Answer}
use Rattle.osc_life.specs.Holders.{Holder, Learns, Onward}
use Rattle.osc_links.specs.declared.ticker.Round.{Round}
use Rattle.osc_links.specs.declared.ticker.Round.TheVariants as round
use Rattle.osc_links.specs.Ticks.{Ticks}
use Rattle.osc_links.specs.Rounds.{IsRound, TicksMeanwhile, HasTicked, Keeps, end_of}
use Rattle.osc_links.proofs.Ticking.{rounds_on, rounds_over, rounds_end, ended_last, ended_in_last}

-- What calls leave of a token.

pub keeps_here : (v : View) → Keeps v v
keeps_here v = record { starts = starts_here v.seen; made = refl }

pub keeps_on : (v w u : View) → Keeps v w → Keeps w u → Keeps v u
keeps_on v w u first next = record { starts = starts_on u.seen w.seen v.seen next.starts first.starts; made = next.made ∙ first.made }

pub keeps_call : (caps : Limits) (caller : ℕ) (event : Event) (answer : Answer) (v w : View) → Calls caps caller event answer v w → Keeps v w
keeps_call caps caller event answer v w call = record { starts = call.goes_on; made = ap (λ (z : View). z.made) call.once }

keeps_releases : (caps : Limits) (caller count calls : ℕ) (v w : View) → Releases caps caller count calls v w → Keeps v w
keeps_releases caps caller zero calls v w all = subst (λ (u : View). Keeps v u) (sym all.0) (keeps_here v)
keeps_releases caps caller (suc count) calls v w (between, before, last, sum, rest, (unit, hits, number, call)) =
    keeps_on v between w (keeps_releases caps caller count before v between rest) (keeps_call caps caller _ _ between w call)

pub keeps_pump : (caps : Limits) (caller : ℕ) (pumped : Pumped) (v w : View) → Pumps caps caller pumped v w → Keeps v w
keeps_pump caps caller pumped v w pumps =
    keeps_on v pumps.between w (keeps_releases caps caller pumped.released pumped.calls v pumps.between pumps.releases)
    (keeps_call caps caller _ _ pumps.between w pumps.last)

-- who was told goes on from what was seen
pub onward_told : (v w : View) → Learns v w → Onward (number_of w) v.seen w.seen
onward_told v w learns =
    (learns.goes_on, subst (λ (n : ℕ). own n w.seen ≡ own n v.seen) (sym (ap number_of learns.same)) learns.own_same)

module _ {M : Type 0} (keep : M → Fixed) (heard : M → Option (List ℕ)) (holder : Holder) where
  -- no round was played
  pub none_ticked : (left : Option (List ℕ)) (faults : ℕ) (here : List Seen)
      → HasTicked keep heard holder (record { before = left; after = left; faults = faults; now = faults }) (round.Played None) here here
  none_ticked left faults here = (refl, λ more later after there reads rounds. (more, reads, rounds))

  -- a round more
  pub ticked_on : (last : Option ℕ) (before left after : Option (List ℕ)) (first faults now : ℕ) (came : Round) (here place there : List Seen)
      → HasTicked keep heard holder (record { before = before; after = left; faults = first; now = faults }) (round.Played last) here place
      → IsRound keep heard holder last (record { before = left; after = after; faults = faults; now = now }) came place there
      → HasTicked keep heard holder (record { before = before; after = after; faults = first; now = now }) came here there
  ticked_on last before left after first faults now (round.Played later) here place there ticked one =
      (one.0 ∙ ticked.0, rounds_on keep heard holder before here last later one.1 left after place there ticked.1 one.2 one.3 one.4)
  ticked_on last before left after first faults now (round.Over end) here place there ticked one =
      rounds_end keep heard holder before here last left after first faults now end place there ticked.1 ticked.0 one

  -- no round is left
  ticked_over : (last : Option ℕ) (before left : Option (List ℕ)) (first faults : ℕ) (here place : List Seen)
      → HasTicked keep heard holder (record { before = before; after = left; faults = first; now = faults }) (round.Played last) here place
      → TicksMeanwhile keep heard holder (record { before = before; after = left; faults = first; now = faults }) (round.Played last) here place
  ticked_over last before left first faults here place ticked =
      let all = rounds_over keep heard holder before here last left place ticked.1 in (ticked.0, all.0, all.1, all.2)

  -- the last round, after all that these tokens have seen
  pub ticked_last : (tokens : List (List Seen)) (last : Option ℕ) (before left after : Option (List ℕ)) (first faults now : ℕ) (came : Round)
      (here place start there : List Seen)
      → HasTicked keep heard holder (record { before = before; after = left; faults = first; now = faults }) (round.Played last) here place
      → Onward holder.token place start → All (StartsWith start) tokens
      → IsRound keep heard holder last (record { before = left; after = after; faults = faults; now = now }) came start there
      → Ticks keep heard holder tokens (record { before = before; after = after; faults = first; now = now }) (end_of came) here there
  ticked_last tokens last before left after first faults now (round.Played later) here place start there ticked onward all one =
      ended_last keep heard holder tokens before left after first faults now last here place start there
      (ticked_over last before left first faults here place ticked) onward all later one
  ticked_last tokens last before left after first faults now (round.Over end) here place start there ticked onward all one =
      ended_in_last keep heard holder tokens before left after first faults now last here place start there
      (ticked_over last before left first faults here place ticked) onward end one
