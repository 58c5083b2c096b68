use Rattle.std.proofs.Common.{◌≡◌, ◌≤◌, ◌++◌, length}
use Rattle.osc_picture.specs.Captions.{captions}
use Rattle.osc_picture.proofs.caption.add_captions.Given as goal

-- what is added, and what the rest adds, is all
abbrev pub invariant-loop-said : goal.invariant-loop-said
invariant-loop-said l = record {
  said : l.out.items ++ captions l.frame l.y l.free l.rest ≡ l.initial.out.items ++ captions l.frame l.y 0 l.texts;
  small : l.free ≤ 10000;
}

abbrev pub decreases-loop-said : goal.decreases-loop-said
decreases-loop-said l = length l.rest
