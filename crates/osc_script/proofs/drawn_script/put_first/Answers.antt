use Rattle.std.proofs.Common.{◌≡◌, ◌∙◌, ◌++◌, ◌+◌, ◌-◌, ◌/◌, ◌%◌, ℕ, List, ap, sym, rules}
use Rattle.osc_script.specs.declared.act.Act.TheVariants.{Add}
use Rattle.osc_script.specs.Written.{act_line, written}
use Rattle.osc_script.specs.Generated.{member_of, first_acts}
use Rattle.osc_script.proofs.Going.{first_more, first_end}
use Rattle.osc_script.proofs.drawn_script.put_first.Goals as goal

pub loop-k-preserved : goal.loop-k-preserved
loop-k-preserved c =
    let line : c.put_line.new.script.items ≡ c.loop-k.script.items ++ act_line (Add (member_of (c.loop-k.k % 8) (c.loop-k.k / 8))) = search rules in
    ap (λ (text : List ℕ). text ++ written (first_acts (c.args.lines - (c.loop-k.k + 1)) (c.loop-k.k + 1))) line
    ∙ first_more c.args.lines c.loop-k.k c.loop-k.script.items c.loop-k-test.true ∙ c.loop-k.invariant

pub returns : goal.returns
returns c = sym (first_end c.args.lines c.loop-k.k c.loop-k.script.items c.loop-k-test.false) ∙ c.loop-k.invariant
