use Rattle.std.specs.Prelude.{IsSomeAnd}
use Rattle.osc_chain.specs.Shows.{CanPlay}
use Rattle.osc_chain.proofs.Growing.{IsNext, fixed_of, heard_of}
use Rattle.osc_chain.proofs.show.play_show.Given as goal

-- what is left to be played can be played, and is the first stage or carries the one before it on
abbrev pub invariant-loop : goal.invariant-loop
invariant-loop g l =
    (goal.iterator-loop g).can_next l.iterator' × (goal.iterator-loop g).is_finite l.iterator'
    × IsSomeAnd l.left
    (λ stage. CanPlay stage
    × IsNext fixed_of heard_of g.L.Link.left g.L.Link.faults g.O.Outlet.sent g.O.Outlet.losses l.fn.stage stage)
