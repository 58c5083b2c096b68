use Rattle.std.proofs.Common.{inl, refl, rules}
use Rattle.osc_ends.specs.Ends.{EndsText}
use Rattle.osc_ends.specs.Sinks.{change}
use Rattle.osc_score.specs.Scripted.{score_script}
use Rattle.osc_plain.specs.Scores.{EndsScore}
use Rattle.osc_plain.proofs.ScoreEnds.{ScoreLaws, moved, refused_ends, score_ends}
use Rattle.osc_plain.proofs.scores.write_score.Goals as goal

pub returns-in-Ok : goal.returns-in-Ok
returns-in-Ok g c =
    let read = c.in-Ok.ensures.score in
    let laws : ScoreLaws = record {
      kept = c.what_is_kept_plays_the_score.ensures;
      scored = c.what_is_read_is_a_score.ensures;
      scripted = c.a_score_script_is_read.ensures;
    } in
    let ends = score_ends laws read.0 read.2.0 c.in-Ok.score read.2.1 read.2.2 c.write_script.result _ c.write_script.ensures in
    record {
      end = record {
        known = search rules;
        said = search rules;
        input = search rules;
        unwritten = search rules;
        ends = λ _. (
          read.0,
          read.1,
          moved (c.in-Ok.ensures.unwritten (inl refl))
              (λ before. EndsScore c.write_script.result read.0 (change g.O.Sink before c.write_script.new.out)) ends,
        );
        sink = search rules;
        steady = search rules;
        ended = search rules;
        complete = search rules;
      };
    }

pub returns-in-Err : goal.returns-in-Err
returns-in-Err g c =
    let out = change g.O.Sink c.args.out.now c.read_score.new.out in
    record {
      end = record {
        known = search rules;
        said = search rules;
        input = search rules;
        unwritten = search rules;
        ends = refused_ends (λ score notes. EndsText 0 c.in-Err.status (score_script notes) out) c.in-Err.status _ out
            c.in-Err.ensures.refused;
        sink = search rules;
        steady = search rules;
        ended = search rules;
        complete = search rules;
      };
    }
