use Rattle.std.proofs.Common.{ℕ, ◌+◌, refl, sym, subst, ◌∙◌, arith}
use Rattle.osc_model.specs.Events.{release, released}
use Rattle.osc_turn.specs.Passes.{view}
use Rattle.osc_live.specs.Pumps.{Releases, ReleasesOne}
use Rattle.osc_live.proofs.Pumping.{released_more, count_few, told_released}
use Rattle.osc_live.proofs.live.Live.pump.Goals as goal

pub overflow_add-released : goal.overflow_add-released
overflow_add-released g c =
    let caps = c.args.self.now.caps in
    let v = view c.args.caller.pass in
    let between = view c.loop.caller.pass in
    let w = view c.release-after.result.0.pass in
    let one : ReleasesOne caps c.args.caller.number c.in-Released.made between w =
    subst (λ (n : ℕ). ReleasesOne caps n c.in-Released.made between w) c.loop.invariant.number
    (told_released caps c.loop.caller.number c.in-Released.unit c.in-Released.made c.release-after.result.1 between w c.in-Released.is
    c.release-after.ensures.call)
    in
    let few = count_few caps c.args.caller.number c.loop.released c.loop.calls release
    (released one.0 one.1) v between w c.loop.invariant.releases one.3 refl in
    omega (arith, few)

pub loop-preserved : goal.loop-preserved
loop-preserved g c =
    let caps = c.args.self.now.caps in
    let v = view c.args.caller.pass in
    let between = view c.loop.caller.pass in
    let w = view c.release-after.result.0.pass in
    let one : ReleasesOne caps c.args.caller.number c.in-Released.made between w =
    subst (λ (n : ℕ). ReleasesOne caps n c.in-Released.made between w) c.loop.invariant.number
    (told_released caps c.loop.caller.number c.in-Released.unit c.in-Released.made c.release-after.result.1 between w c.in-Released.is
    c.release-after.ensures.call)
    in
    let few = c.loop.invariant.few in
    record {
      ours = c.release-after.ensures.ours;
      number = c.release-after.ensures.number ∙ c.loop.invariant.number;
      releases = subst (λ (n : ℕ). Releases caps c.args.caller.number (c.loop.released + 1) (c.loop.calls + n) v w) (sym c.from-calls.ensures)
          (released_more caps c.args.caller.number c.loop.released c.loop.calls c.in-Released.made v between w c.loop.invariant.releases one);
      few = omega (arith, few, c.from-calls.ensures);
    }
