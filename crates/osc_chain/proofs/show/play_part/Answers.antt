use Rattle.std.proofs.Common.{◌≤◌, ◌+◌, ℕ, refl, subst, sym}
use Rattle.osc_links.specs.declared.limits.TheConstants.{MAX_LINKS}
use Rattle.osc_links.specs.Ticks.{clock_read}
use Rattle.osc_chain.proofs.Growing.{fixed_of, heard_of, parts_played}
use Rattle.osc_chain.proofs.Kept.{links_kept}
use Rattle.osc_chain.proofs.show.play_part.Goals as goal

pub returns-then-not-goes_on : goal.returns-then-not-goes_on
returns-then-not-goes_on g c = (
  record {
    stage = c.args.stage;
    clock = clock_read g.C.Clock.left g.C.Clock.faults c.args.clock.now c.stage_top.new.clock;
    staged = c.in_ok-staged.staged;
  },
  refl,
  record { staged = c.in_ok-staged.ensures.staged; rec = _; records = c.in_ok-staged.ensures.one_history },
  refl,
  tt,
)

pub returns : goal.returns
returns g c =
    parts_played _ _ g.L.Link.left g.L.Link.faults g.O.Outlet.sent g.O.Outlet.losses c.args.stage
    (record {
      stage = c.args.stage;
      clock = clock_read g.C.Clock.left g.C.Clock.faults c.args.clock.now c.stage_top.new.clock;
      staged = c.in_ok-staged.staged;
    })
    refl (record { staged = c.in_ok-staged.ensures.staged; rec = _; records = c.in_ok-staged.ensures.one_history }) c.next_part.result
    c.next_part.ensures

pub next_part-requires-clause-callers : goal.next_part-requires-clause-callers
next_part-requires-clause-callers g c =
    subst (λ (n : ℕ). n + 2 ≤ c.args.stage.caps.callers)
    (sym (links_kept fixed_of heard_of g.L.Link.left g.L.Link.faults c.args.stage _ c.in_ok-staged.staged c.in_ok-staged.ensures.staged)) c.requires.callers

pub next_part-requires-clause-few : goal.next_part-requires-clause-few
next_part-requires-clause-few g c =
    subst (λ (n : ℕ). n ≤ MAX_LINKS)
    (sym (links_kept fixed_of heard_of g.L.Link.left g.L.Link.faults c.args.stage _ c.in_ok-staged.staged c.in_ok-staged.ensures.staged)) c.requires.few
