use Rattle.std.proofs.Common.{arith}
use Rattle.osc_script.specs.Words.{lines_of}
use Rattle.osc_score.proofs.Lines.{line_few}
use Rattle.osc_score.proofs.Going.{on_line}
use Rattle.osc_score.proofs.score_lines.read_lines.Goals as goal

pub read_line-requires-clause-short : goal.read_line-requires-clause-short
read_line-requires-clause-short c =
    omega (
      arith,
      line_few c.loop-rest.rest.now c.first_line.result.0.now c.first_line.result.1.now c.first_line.ensures.lines,
      c.loop-rest.invariant.few,
      c.requires,
    )

pub loop-rest-preserved : goal.loop-rest-preserved
loop-rest-preserved c =
    let few = line_few c.loop-rest.rest.now c.first_line.result.0.now c.first_line.result.1.now c.first_line.ensures.lines in
    record {
      on = on_line c.tests_are_exact.ensures.address c.loop-rest.reader c.read_line.new.reader c.loop-rest.number c.loop-rest.rest.now
          c.first_line.result.0.now c.first_line.result.1.now (lines_of c.args.bytes.now) c.loop-rest.invariant.on c.first_line.ensures.lines
          (omega (arith, few, c.loop-rest.invariant.few, c.requires)) c.in-Ok.ensures;
      few = omega (arith, c.first_line.ensures.shorter, c.loop-rest.invariant.few);
      numbered = omega (arith, c.first_line.ensures.shorter, c.loop-rest.invariant.numbered);
    }
