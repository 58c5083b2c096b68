-- What a token knows that only looks.
use Rattle.std.proofs.Common.{◌≡◌, sym, ap, ◌∙◌, arith}
use Rattle.osc_turn.specs.declared.view.View.{View}
use Rattle.osc_turn.specs.History.{StartsWith}
use Rattle.osc_turn.specs.Passes.{met_by}
use Rattle.osc_turn.specs.Answers.{KeepsOwn}
use Rattle.osc_turn.proofs.Histories.{starts_on}
use Rattle.osc_live.proofs.Looked.{looked_on}
use Rattle.osc_live.specs.Looks.{HasLooked}
use Rattle.osc_live.specs.Seen.{history_of}
use Rattle.osc_model.specs.Limits.{Limits}
use Rattle.osc_watch.specs.declared.board.Board.{Board}
use Rattle.osc_watch.specs.Refreshing.{HasReadPart, GoesOn}
use Rattle.osc_watch.specs.Watching.{noted}
use Rattle.osc_watch.proofs.Begun.{self, onward}
use Rattle.osc_watch.proofs.ServerReads.{goes_on}

-- what another had seen is told
pub looked_told : (v w other : View) → w ≡ met_by v other → StartsWith w.seen v.seen → KeepsOwn v w → HasLooked v w
looked_told v w other is starts own_same = record {
  same = is ∙ (λ i. record v {
    seen = sym (ap (λ (z : View). z.seen) is) i;
    olds = sym (ap (λ (z : View). z.olds) is) i;
    words = sym (ap (λ (z : View). z.words) is) i;
    taken = sym (ap (λ (z : View). z.taken) is) i;
  });
  goes_on = starts;
  own_same = own_same;
}

-- a board that has read a beginning of what was seen has read one of what is seen then
pub read_on : (caps : Limits) (board : Board) (v w : View) → StartsWith w.seen v.seen → HasReadPart caps board (history_of v) → HasReadPart caps board (history_of w)
read_on caps board v w starts (read, has, begins) =
    (read, has, starts_on (history_of w) (history_of v) read (goes_on v w starts) begins)

-- a board goes on from where it was, at first
pub stands_here : (board : Board) → GoesOn board board
stands_here board = (self (noted board), omega arith)

-- and again
pub stands_on : (board between after : Board) → GoesOn board between → GoesOn between after → GoesOn board after
stands_on board between after first next =
    (onward (noted board) (noted between) (noted after) next.0 first.0, omega (arith, first.1, next.1))

pub ruleset looking = (looked_on, stands_here, stands_on)
