use Rattle.std.proofs.Common.{◌≡◌, length}
use Rattle.std.specs.List.{list_all}
use Rattle.osc_model.specs.Recordings.{hits_in}
use Rattle.osc_story.specs.Standings.{is_call}
use Rattle.osc_story.proofs.calls.are_calls.Given as goal

-- all are calls where those that are left are
abbrev pub invariant-loop-index : goal.invariant-loop-index
invariant-loop-index l =
    list_all (is_call l.methods l.messages) (hits_in l.rest) ≡ list_all (is_call l.fn.methods l.fn.messages) (hits_in l.fn.hits)

abbrev pub decreases-loop-index : goal.decreases-loop-index
decreases-loop-index l = length l.rest
