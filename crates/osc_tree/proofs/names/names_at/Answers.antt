use Rattle.std.proofs.Common.{◌-◌, ◌+◌, drop, sym, ◌∙◌, ap, arith, add-one}
use Rattle.std.specs.List.{slice_split}
use Rattle.osc_pattern.specs.Items.{is_slash}
use Rattle.osc_tree.proofs.Onward.{names_letter, names_slash}
use Rattle.osc_tree.proofs.names.names_at.Goals.{then-names-at-eq47, else-names-at-eq47}
use Rattle.osc_tree.proofs.names.names_at.Goals as goal

pub loop-at-preserved : goal.loop-at-preserved
loop-at-preserved c =
    let names = c.args.names.now in
    let at = c.loop-at.at in
    let on = ap (λ n. slice_split is_slash (drop n names)) (sym (add-one at)) in
    elim c.if-names-at-eq47.branch [
      | then-names-at-eq47 w ↦ record {
        cut = ap (λ n. drop n (slice_split is_slash (drop (at + 1) names))) w.left-is
            ∙ ap (λ n. drop (c.loop-at.left - 1) (slice_split is_slash (drop n names))) (add-one at)
            ∙ sym (names_slash names at c.loop-at.left (omega arith) (omega arith) w.if-names-at-eq47.true) ∙ c.loop-at.invariant.cut;
      }
      | else-names-at-eq47 w ↦ record {
        cut = ap (λ n. drop n (slice_split is_slash (drop (at + 1) names))) w.left-is
            ∙ ap (λ n. drop c.loop-at.left (slice_split is_slash (drop n names))) (add-one at)
            ∙ sym (names_letter names at c.loop-at.left (omega arith) (omega arith) w.if-names-at-eq47.false) ∙ c.loop-at.invariant.cut;
      }
    ]
