use Rattle.std.proofs.Common.{◌≡◌, Bool, Some, nat_lt, sym, ap, subst, ◌∙◌}
use Rattle.osc_turn.specs.History.{texts}
use Rattle.osc_turn.specs.Jobs.{IsNext, StandsNext}
use Rattle.osc_turn.specs.Passes.{view}
use Rattle.osc_model.specs.Limits.{Limits}
use Rattle.osc_model.specs.Events.{adds_entry}
use Rattle.osc_model.specs.History.{Performance, stepped_in}
use Rattle.osc_model.specs.Recordings.{header_text}
use Rattle.osc_model.proofs.Onward.{caps_stay}
use Rattle.osc_core.specs.Standing.{StandsFor}
use Rattle.osc_core.specs.Telling.{told as told_of}
use Rattle.osc_live.proofs.Asks.{enrolled_there, plays, grows_by_one, next_starts, did_so}
use Rattle.osc_live.proofs.play.PlayingJobCore.run.Goals as goal

pub ask-answer-requires : goal.ask-answer-requires
ask-answer-requires g c =
    let asking = c.args.self.now.asking in
    enrolled_there c.callers_are_counted.ensures.grows c.callers_are_counted.ensures.after c.args.state.now.performance _ c.requires.base.0
    (texts (view asking.was.value).seen) asking.caller c.requires.base.1 c.requires.base.2 asking.enrolled

pub returns-clause-kind : goal.returns-clause-kind
returns-clause-kind g c =
    ap (λ (p : Performance). header_text p.caps) c.ask-answer.ensures.performance
    ∙ ap header_text (caps_stay c.args.state.now.performance c.args.self.now.asking.caller (g.A.Ask.event c.in-Some.asked))

pub returns-clause-stands : goal.returns-clause-stands
returns-clause-stands g c before one starts =
    let now = c.args.state.now.performance in
    let new = c.ask-answer.new.core.performance in
    let event = g.A.Ask.event c.in-Some.asked in
    let grown : nat_lt c.entries-entries.result c.entries.result ≡ adds_entry (stepped_in now event).answer =
    grows_by_one now new c.args.self.now.asking.caller event _ _ c.ask-answer.ensures.performance c.entries-entries.ensures c.entries.ensures in
    subst (λ (t : Bool). StandsNext (StandsFor new (told_of g.M.Method.keep g.M.Method.heard c.ask-answer.new.core.boxes.items)) t before) (sym grown)
    (c.ask-answer.ensures.stands before one)

pub returns-clause-did : goal.returns-clause-did
returns-clause-did g c before after one starts two next =
    let old = c.args.self.now in
    let asking = old.asking in
    let now = c.args.state.now.performance in
    let new = c.ask-answer.new.core.performance in
    let asked : old.asked ≡ Some c.in-Some.asked = sym c.take.ensures.value ∙ c.in-Some.is in
    let answer = c.ask-answer.ensures.answer in
    let limits : now.caps ≡ asking.caps = c.headers_differ.ensures now.caps asking.caps one.legal.0 c.units.ensures.range c.requires.kind in
    let event = g.A.Ask.event c.in-Some.asked in
    let onwards = c.ask-answer.ensures.performance in
    let same : new.caps ≡ now.caps = ap (λ (p : Performance). p.caps) onwards ∙ caps_stay now asking.caller event in
    let grown : nat_lt c.entries-entries.result c.entries.result ≡ adds_entry (stepped_in now event).answer =
    grows_by_one now new asking.caller event _ _ onwards c.entries-entries.ensures c.entries.ensures in
    let adds = subst (λ (t : Bool). IsNext t before after) (grown ∙ ap adds_entry (sym answer.2)) next in
    let told = subst (λ (l : Limits). g.A.Ask.tells c.in-Some.asked c.ask-answer.result l after) limits
    (c.ask-answer.ensures.tells before after one two (next_starts (adds_entry answer.0) before after adds)) in
    did_so g.A.Ask.event g.A.Ask.says g.A.Ask.tells asking.caps asking.caller _ _ c.in-Some.asked c.ask-answer.result before after asked
    c.replace.ensures.after
    (answer.0, answer.1, plays asking.caps now new _ _ asking.caller event answer.0 before after one two limits onwards answer.2 same adds, told)
