use Rattle.std.proofs.Common.{◌≡◌, ◌+◌, ◌<◌, ◌≤◌, refl, ap, arith, rules}
use Rattle.osc_script.specs.Adds.{count_adds}
use Rattle.osc_top.specs.After.{boxes_told, callers_told}
use Rattle.osc_top.specs.Lanes.{lane_count}
use Rattle.osc_top.proofs.LiveEnds.{line_decided}
use Rattle.osc_top.proofs.ResumeEnds.{too_few, too_many}
use Rattle.osc_top.proofs.after.refuse_short.Goals as goal

pub overflow_add-need : goal.overflow_add-need
overflow_add-need g c =
    let count : c.count_adds.result ≡ count_adds c.args.lines.now = c.count_adds.ensures in
    omega (arith, count, c.requires.few.0)

pub overflow_add-need-2 : goal.overflow_add-need-2
overflow_add-need-2 g c =
    let count : c.lane_count.result ≡ lane_count c.args.lines.now = c.lane_count.ensures in
    omega (arith, count, c.requires.few.1)

pub returns-then-boxes-need-clause-reaches : goal.returns-then-boxes-need-clause-reaches
returns-then-boxes-need-clause-reaches g c =
    let need = c.args.checked.adds + c.count_adds.result in
    let all : c.args.checked.adds + c.count_adds.result ≡ boxes_told c.args.checked c.args.lines.now = ap (λ n. c.args.checked.adds + n) c.count_adds.ensures in
    let less : c.args.boxes < c.args.checked.adds + c.count_adds.result = search rules in
    too_few c.args.checked c.args.lines.now c.args.boxes need c.bank_short.result _ all less c.bank_short.ensures

pub returns-then-boxes-need-clause-decided : goal.returns-then-boxes-need-clause-decided
returns-then-boxes-need-clause-decided g c = line_decided 8 _ _ _ _ c.bank_short.ensures (λ eight. omega (arith, eight)) refl

pub returns-then-have-need-clause-decided : goal.returns-then-have-need-clause-decided
returns-then-have-need-clause-decided g c = line_decided 9 _ _ _ _ c.callers_full.ensures (λ nine. omega (arith, nine)) refl

pub returns-then-have-need-clause-reaches : goal.returns-then-have-need-clause-reaches
returns-then-have-need-clause-reaches g c =
    let need = c.args.checked.callers + c.lane_count.result in
    let boxes : c.args.checked.adds + c.count_adds.result ≡ boxes_told c.args.checked c.args.lines.now =
    ap (λ n. c.args.checked.adds + n) c.count_adds.ensures in
    let all : c.args.checked.callers + c.lane_count.result ≡ callers_told c.args.checked c.args.lines.now =
    ap (λ n. c.args.checked.callers + n) c.lane_count.ensures in
    let enough : c.args.checked.adds + c.count_adds.result ≤ c.args.boxes = search rules in
    let less : c.callers-have.result < c.args.checked.callers + c.lane_count.result = search rules in
    too_many c.args.checked c.args.lines.now c.args.boxes need c.callers-have.result c.callers_full.result _ all c.callers-have.ensures.value
    (omega (arith, enough, boxes)) less c.callers_full.ensures
