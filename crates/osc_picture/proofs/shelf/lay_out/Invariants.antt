use Rattle.std.proofs.Common.{◌≡◌, ◌++◌, [], length}
use Rattle.osc_picture.specs.Shelves.{laid_out, end_of}
use Rattle.osc_picture.proofs.shelf.lay_out.Given as goal

-- the rows so far and those that are left are all
abbrev pub invariant-loop-row : goal.invariant-loop-row
invariant-loop-row l = record {
  shelves : l.shelves.items ++ laid_out l.y l.before l.rest ≡ laid_out l.top [] l.rows;
  end : end_of l.y l.before l.rest ≡ end_of l.top [] l.rows;
}

abbrev pub decreases-loop-row : goal.decreases-loop-row
decreases-loop-row l = length l.rest
