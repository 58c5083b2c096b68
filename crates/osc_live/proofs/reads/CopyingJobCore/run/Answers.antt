use Rattle.std.proofs.Common.{refl}
use Rattle.osc_live.proofs.Copies.{copied}
use Rattle.osc_live.proofs.reads.CopyingJobCore.run.Goals as goal

pub returns-clause-did : goal.returns-clause-did
returns-clause-did g c before after one starts two same =
    let old = c.args.self.now in
    let now = c.args.state.now.performance in (
      refl,
      copied now old.caps old.from _ _ _ before after c.bytes.result.now
          (c.headers_differ.ensures now.caps old.caps one.legal.0 c.units.ensures.range c.requires.kind)
          two.legal two.written two.read c.bytes.ensures.text c.copy_part-self.ensures same,
    )
