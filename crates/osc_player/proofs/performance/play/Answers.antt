use Rattle.std.proofs.Common.{◌≡◌, rules}
use Rattle.osc_player.specs.Plain.{plain}
use Rattle.osc_player.proofs.Endings.{accounted}
use Rattle.osc_player.proofs.performance.play.Goals as goal

pub returns-clause-accounted : goal.returns-clause-accounted
returns-clause-accounted g c =
    let performance = c.play_lines.new.self.core.performance in
    let lines = c.args.lines.items in
    let is : performance ≡ record { caps = c.args.caps; history = (plain c.args.caps lines).history } = search rules in
    let over = c.in_ok-stop.ensures.boxes c.args.bank.items c.in_ok-player.ensures.boxes in
    let done = c.in_ok-played.ensures in
    accounted g.M.Method.keep g.M.Method.heard c.args.caps lines performance c.args.bank.items _ _ is c.requires.enough
    c.every_history_keeps_the_laws.ensures done.legal (done.boxes c.args.bank.items over)

pub returns-clause-ascending : goal.returns-clause-ascending
returns-clause-ascending g c =
    let over = c.in_ok-stop.ensures.boxes c.args.bank.items c.in_ok-player.ensures.boxes in
    (c.in_ok-played.ensures.boxes c.args.bank.items over).ascending
