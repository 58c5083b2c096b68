use Rattle.std.proofs.Common.{◌≡◌, ◌∷◌, [], All, false, subst, refl, rules}
use Rattle.std.specs.List.{list_any, slice_split}
use Rattle.std.proofs.lemmas.List.Elements.{All-tail}
use Rattle.osc_pattern.specs.Items.{is_comma, is_slash}
use Rattle.osc_tree.proofs.Onward.{low_end}
use Rattle.osc_tree.proofs.Choices.{pieces_none, tried_none, tried_more, tried_all}
use Rattle.osc_tree.proofs.aim.least_text.Goals as goal

pub loop-aim-init : goal.loop-aim-init
loop-aim-init c = record {
  ahead = low_end c.args.rest.now c.requires.low;
  one = refl;
  pieces = pieces_none _ c.args.texts.now c.requires.one;
  tried = tried_none c.args.rest.now c.args.end c.args.texts.now _;
}

pub returns-in_default-clause-reach : goal.returns-in_default-clause-reach
returns-in_default-clause-reach c =
    let cut : slice_split is_comma c.loop-aim.left.now ≡ c.first_text.result.0.now ∷ [] = search rules in
    tried_all c.args.rest.now c.args.end c.args.texts.now c.loop-aim.left.now c.first_text.result.0.now c.loop-aim.aim.now c.in_ok-aim.aim.now cut
    c.in_ok-aim.ensures.nearer c.in_ok-aim.ensures.reach c.loop-aim.invariant.tried

pub loop-aim-preserved : goal.loop-aim-preserved
loop-aim-preserved c =
    let more = c.in-Some.more.now in
    let cut : slice_split is_comma c.loop-aim.left.now ≡ c.first_text.result.0.now ∷ slice_split is_comma more = search rules in
    record {
      ahead = c.in_ok-aim.ensures.ahead;
      one = c.in_ok-aim.ensures.one;
      pieces = All-tail (λ text. list_any is_slash text ≡ false) c.first_text.result.0.now (slice_split is_comma more)
          (subst (All (λ text. list_any is_slash text ≡ false)) cut c.loop-aim.invariant.pieces);
      tried = tried_more c.args.rest.now c.args.end c.args.texts.now c.loop-aim.left.now c.first_text.result.0.now (slice_split is_comma more)
          c.loop-aim.aim.now c.in_ok-aim.aim.now more cut refl c.in_ok-aim.ensures.nearer c.in_ok-aim.ensures.reach c.loop-aim.invariant.tried;
    }
