use Rattle.std.proofs.Common.{inl, refl, rules, length}
use Rattle.osc_ends.specs.Sinks.{change}
use Rattle.osc_plain.specs.Runs.{EndsLines}
use Rattle.osc_plain.proofs.ScoreEnds.{moved}
use Rattle.osc_plain.proofs.Tops.{refused_can, run_can, run_read, run_refused}
use Rattle.osc_plain.proofs.run.run.Goals as goal

pub returns-in-Ok-clause-end : goal.returns-in-Ok-clause-end
returns-in-Ok-clause-end g c = record {
  known = search rules;
  said = search rules;
  input = search rules;
  unwritten = search rules;
  ends = λ _.
      run_read _ _ c.run_lines.result.status c.args.bank.items _ _ _ _ c.args.report c.args.caps c.in-Ok.lines.items c.in-Ok.ensures.lines (
        moved (c.in-Ok.ensures.unwritten (inl refl))
            (λ before. EndsLines c.args.report c.args.caps c.run_lines.result.status (length c.args.bank.items) c.in-Ok.lines.items
            (change g.O.Sink before c.run_lines.new.out)) c.run_lines.ensures.ends.0,
        c.run_lines.ensures.ends.1,
      );
  sink = search rules;
  steady = search rules;
  ended = search rules;
  complete = λ can sound.
      run_can c.args.report (g.S.Source.left c.args.input.now) c.in-Ok.lines.items (length c.args.bank.items) c.args.caps c.run_lines.result.status _
      c.in-Ok.ensures.lines c.run_lines.ensures.ends.0 can;
}

pub returns-in-Err-clause-end : goal.returns-in-Err-clause-end
returns-in-Err-clause-end g c = record {
  known = search rules;
  said = search rules;
  input = search rules;
  unwritten = search rules;
  ends = run_refused _ c.unplayed.result.status c.in-Err.status _ _ c.unplayed.ensures.status c.in-Err.ensures.refused;
  sink = search rules;
  steady = search rules;
  ended = search rules;
  complete = λ can sound.
      refused_can (g.S.Source.left c.args.input.now) c.unplayed.result.status c.in-Err.status (length c.args.bank.items) c.args.caps _ _
      c.unplayed.ensures.status c.in-Err.ensures.refused c.in-Err.ensures.input.source can sound;
}
