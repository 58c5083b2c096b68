use Rattle.std.proofs.Common.{◌≡◌, ℕ, List, take, drop, ap, subst, sym, ◌∙◌, rules}
use Rattle.osc_ends.specs.Sinks.{change}
use Rattle.osc_growing.specs.Growing.{HasGrown}
use Rattle.osc_links.specs.Hosts.{Hosts}
use Rattle.osc_links.specs.Ticks.{clock_read}
use Rattle.osc_script.specs.Adds.{count_adds}
use Rattle.osc_top.proofs.Staged.{adds_whole, links_staged}
use Rattle.osc_top.proofs.links.stage_links.Goals as goal

pub run_links-requires-clause-whole : goal.run_links-requires-clause-whole
run_links-requires-clause-whole g c _ _ =
    let adds : c.count_adds.result ≡ count_adds c.args.host.opening.lines.items = search rules in
    adds_whole c.args.host.opening.lines.items c.args.host.opening.boxes.items _ c.requires.enough
    (c.in_ok-rest.ensures.items ∙ ap (λ (n : ℕ). take n c.args.host.opening.boxes.items) adds)

pub returns-clause-staged : goal.returns-clause-staged
returns-clause-staged g c =
    let keep = g.M.Method.keep in
    let heard = g.M.Method.heard in
    let turns = g.L.Link.left in
    let faults = g.L.Link.faults in
    let caps = c.args.host.caps in
    let bounds = c.args.host.links.bounds in
    let links = c.args.host.links.from.items in
    let lines = c.args.host.opening.lines.items in
    let bank = c.args.host.opening.boxes.items in
    let clock = clock_read g.C.Clock.left g.C.Clock.faults c.args.clock.now c.run_links.new.clock in
    let hosted = c.in_ok-hosted.hosted in
    let done = c.in_ok-settled.ensures in
    let adds : c.count_adds.result ≡ count_adds lines = search rules in
    let boxes = c.in_ok-rest.ensures.items ∙ ap (λ (n : ℕ). take n bank) adds in
    let hosts =
    subst (λ (l : List g.row.M.Denot). Hosts turns faults keep heard caps bounds (record { lines = lines; boxes = l }) links clock hosted)
    boxes c.in_ok-hosted.ensures.hosts in
    links_staged keep heard turns faults caps bounds lines bank links clock hosted _ hosts done.each done.ascending _ _ _ _ _ _
    done.bytes done.left (c.in_ok-rest.ensures.tail ∙ ap (λ (n : ℕ). drop n bank) adds) done.links done.faults done.outcome

pub returns-clause-grown : goal.returns-clause-grown
returns-clause-grown g c =
    subst (HasGrown c.in_ok-hosted.hosted.growth (change g.R.Sink c.args.rec.now c.run_links.new.rec)) (sym c.in_ok-settled.ensures.bytes)
    c.in_ok-hosted.ensures.grown
