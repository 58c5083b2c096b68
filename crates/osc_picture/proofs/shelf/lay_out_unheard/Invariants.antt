use Rattle.std.proofs.Common.{◌≡◌, ◌++◌, length}
use Rattle.osc_picture.specs.Shelves.{lower, unheard_out, unheard_end}
use Rattle.osc_picture.proofs.shelf.lay_out_unheard.Given as goal

-- the rows so far and those that are left are all
abbrev pub invariant-loop-others : goal.invariant-loop-others
invariant-loop-others l = record {
  shelves : l.shelves.items ++ unheard_out l.y l.rest ≡ unheard_out (lower l.fn.end 230) l.rows;
  end : unheard_end l.y l.rest ≡ unheard_end (lower l.fn.end 230) l.rows;
}

abbrev pub decreases-loop-others : goal.decreases-loop-others
decreases-loop-others l = length l.rest
