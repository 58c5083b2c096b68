use Rattle.std.proofs.Common.{All, sym, subst}
use Rattle.std.proofs.lemmas.List.Elements.{All-nil}
use Rattle.osc_model.specs.Recordings.{header_text}
use Rattle.osc_turn.specs.Passes.{view}
use Rattle.osc_live.specs.declared.caller.Caller.{Caller}
use Rattle.osc_live.specs.Seen.{past_of, IsTokenOf}
use Rattle.osc_life.specs.Crews.{IsLeft}
use Rattle.osc_life.proofs.Resumed.{opened_left, left_whole}
use Rattle.osc_life.proofs.life.Life.open.Goals as goal
use Rattle.osc_life.proofs.life.Life.open.Goals.{After-new}

left : (g : _) (c : After-new g) → IsLeft (past_of c.in_ok-live.live.turn) (view c.in_ok-live.first.pass) c.new.result.items
left g c =
    opened_left (past_of c.in_ok-live.live.turn) (header_text c.args.caps) (view c.in_ok-live.first.pass) c.new.result.items c.in_ok-live.ensures.empty
    c.new.ensures.items c.in_ok-live.ensures.first

pub returns-clause-left : goal.returns-clause-left
returns-clause-left g c = left g (goal.at.returns-clause-left g c).After-new

pub returns-clause-whole : goal.returns-clause-whole
returns-clause-whole g c =
    let live = c.in_ok-live.live in
    let Ours : Caller → Type 0 = λ one. IsTokenOf live.turn live.caps one.pass in
    let is = left g (goal.at.returns-clause-whole g c).After-new in
    record {
      ours = c.in_ok-live.ensures.ours;
      others_ours = subst (All Ours) (sym c.new.ensures.items) (All-nil Ours);
      number = c.in_ok-live.ensures.number;
      counted = left_whole (past_of live.turn) (view c.in_ok-live.first.pass) c.new.result.items is;
      old = is.old;
    }
