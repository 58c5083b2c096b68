use Rattle.std.proofs.Common.{◌<◌, List, ◌∷◌, length, sym, subst, arith}
use Rattle.osc_turn.specs.declared.pass.Pass.{Pass}
use Rattle.osc_live.specs.Seen.{past_of}
use Rattle.osc_turn.proofs.Gathering.{parted}
use Rattle.osc_live.proofs.Closings.{some_first, handed, all_ours, kind_is, alike, starts_still, closes, closes_still}
use Rattle.osc_live.proofs.live.Live.close.Goals as goal

pub close-requires-clause-ours : goal.close-requires-clause-ours
close-requires-clause-ours g c =
    let callers = c.args.callers.items in
    let others = c.remove.new.self.items in
    let one = c.remove.result in
    let is = parted callers others one (some_first callers c.requires.first) c.remove.ensures.value c.remove.ensures.items in
    let all = handed _ _ _ _ others c.count-first.result.0 c.args.guests.items c.in-Ok.ensures.items c.in-Ok-insert.ensures.items c.hand_callers.ensures.items
    c.hand_guests.ensures.items in
    all_ours c.args.self.turn c.args.self.caps callers others one c.count-first.result.0 c.args.guests.items _ is c.requires.callers_ours c.requires.guests_ours
    c.count-first.ensures.ours.0 all

pub returns-clause-closes : goal.returns-clause-closes
returns-clause-closes g c =
    let callers = c.args.callers.items in
    let guests = c.args.guests.items in
    let others = c.remove.new.self.items in
    let one = c.remove.result in
    let back = c.count-first.result.0 in
    let is = parted callers others one (some_first callers c.requires.first) c.remove.ensures.value c.remove.ensures.items in
    let all = handed _ _ _ _ others back guests c.in-Ok.ensures.items c.in-Ok-insert.ensures.items c.hand_callers.ensures.items c.hand_guests.ensures.items in
    let turn = c.in-Ok-close.ensures.closes in
    let core = c.in-Ok-close.core in
    let kind = kind_is c.args.self.turn c.args.self.caps _ callers others one back guests _ is c.requires.callers_ours c.count-first.ensures.same all
    c.in-Ok-close.ensures.kind in
    let limits = c.headers_differ.ensures core.performance.caps c.args.self.caps turn.stands_for.legal.0 c.units.ensures.range kind in
    let ours = all_ours c.args.self.turn c.args.self.caps callers others one back c.args.guests.items _ is c.requires.callers_ours c.requires.guests_ours
    c.count-first.ensures.ours.0 all in
    let some = subst (λ (l : List Pass). 0 < length l) (sym all) (omega arith) in
    let opened = past_of c.args.self.turn in
    closes_still c.args.self.caps opened callers others one back guests _ _ is c.count-first.ensures.number c.count-first.ensures.same
    (closes c.args.self.caps core.performance _ _ _ (back ∷ others) guests _ opened turn.history turn.begins.0 all turn.stands_for limits turn.begins.1
    (alike c.args.self.turn opened _ ours some c.in-Ok-close.ensures.opened)
    (starts_still callers others one back is c.count-first.ensures.number c.requires.first) turn.carried turn.each_once
    c.close-in-Ok-close.ensures.text c.close-in-Ok-close.ensures.laws c.close-in-Ok-close.ensures.kept)
