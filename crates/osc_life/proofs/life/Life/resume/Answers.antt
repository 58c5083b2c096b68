use Rattle.std.proofs.Common.{◌≡◌, ◌∷◌, length, All, sym, ap, subst, ◌∙◌, arith}
use Rattle.std.proofs.lemmas.List.Elements.{All-head, All-rest}
use Rattle.osc_turn.specs.Passes.{view}
use Rattle.osc_live.specs.declared.caller.Caller.{Caller}
use Rattle.osc_live.specs.Seen.{past_of, IsTokenOf}
use Rattle.osc_live.specs.Closing.{known}
use Rattle.osc_life.specs.Crews.{IsLeft}
use Rattle.osc_life.proofs.Resumed.{first_taken, resumed_some, resumed_left, left_whole}
use Rattle.osc_life.proofs.life.Life.resume.Goals as goal
use Rattle.osc_life.proofs.life.Life.resume.Goals.{After-remove-first}

pub remove-first-requires : goal.remove-first-requires
remove-first-requires g c =
    omega (arith, c.args.callers.ok.0, resumed_some c.args.live.caps (past_of c.args.live.turn) c.args.callers.items c.requires.tokens)

-- caller 0's token, and the others
taken : (g : _) (c : After-remove-first g) → c.args.callers.items ≡ c.remove-first.result ∷ c.remove-first.new.self.items
taken g c =
    first_taken c.args.callers.items c.remove-first.new.self.items c.remove-first.result
    (resumed_some c.args.live.caps (past_of c.args.live.turn) c.args.callers.items c.requires.tokens) c.remove-first.ensures.value c.remove-first.ensures.items

left : (g : _) (c : After-remove-first g)
    → (c.remove-first.result.number ≡ 0) × IsLeft (past_of c.args.live.turn) (view c.remove-first.result.pass) c.remove-first.new.self.items
left g c =
    resumed_left c.args.live.caps (past_of c.args.live.turn) c.remove-first.result c.remove-first.new.self.items
    (sym (ap known (taken g c)) ∙ c.requires.tokens)

pub returns-clause-many : goal.returns-clause-many
returns-clause-many g c = omega (arith, ap length (taken g (goal.at.returns-clause-many g c).After-remove-first))

pub returns-clause-left : goal.returns-clause-left
returns-clause-left g c = (left g (goal.at.returns-clause-left g c).After-remove-first).1

pub returns-clause-whole : goal.returns-clause-whole
returns-clause-whole g c =
    let live = c.args.live in
    let Ours : Caller → Type 0 = λ one. IsTokenOf live.turn live.caps one.pass in
    let at = (goal.at.returns-clause-whole g c).After-remove-first in
    let all = taken g at in
    let is = left g at in
    let first = c.remove-first.result in
    let rest = c.remove-first.new.self.items in
    record {
      ours = All-head Ours first rest (subst (All Ours) all c.requires.ours);
      others_ours = All-rest Ours first rest c.args.callers.items all c.requires.ours;
      number = is.0;
      counted = left_whole (past_of live.turn) (view first.pass) rest is.1;
      old = is.1.old;
    }
