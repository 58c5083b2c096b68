use Rattle.std.proofs.Common.{◌≤◌, inl, length, IsOkAnd, refl, rules}
use Rattle.osc_ends.specs.Sinks.{change}
use Rattle.osc_score.specs.Scores.{addresses_of}
use Rattle.osc_score.specs.Reading.{score_of}
use Rattle.osc_score_laws.specs.Heard.{score_lines}
use Rattle.osc_plain.specs.Commands.{default_limits}
use Rattle.osc_plain.specs.Runs.{EndsLines}
use Rattle.osc_plain.specs.declared.report.Report.TheVariants.{Text}
use Rattle.osc_plain.proofs.ScoreEnds.{ScoreLaws, can_play, moved, play_ends, played_so, roomy, score_refused, script_with}
use Rattle.osc_plain.proofs.Tops.{some_bytes}
use Rattle.osc_plain.proofs.scores.play_score.Goals as goal

pub play_script-requires : goal.play_script-requires
play_script-requires g c =
    let read = c.in-Ok.ensures.score in
    let laws : ScoreLaws = record {
      kept = c.what_is_kept_plays_the_score.ensures;
      scored = c.what_is_read_is_a_score.ensures;
      scripted = c.a_score_script_is_read.ensures;
    } in
    (score_lines read.2.0, script_with laws read.0 read.2.0 c.in-Ok.score read.2.1 read.2.2)

pub returns-in-Ok-clause-end : goal.returns-in-Ok-clause-end
returns-in-Ok-clause-end g c =
    let read = c.in-Ok.ensures.score in
    let notes = read.2.0 in
    let laws : ScoreLaws = record {
      kept = c.what_is_kept_plays_the_score.ensures;
      scored = c.what_is_read_is_a_score.ensures;
      scripted = c.a_score_script_is_read.ensures;
    } in
    let spelled = script_with laws read.0 notes c.in-Ok.score read.2.1 read.2.2 in
    let plays = played_so read.0 notes read.2.1 (c.a_read_score_is_played.ensures default_limits read.0 roomy) in
    let over = c.play_script.ensures.ends (score_lines notes) spelled in
    let run = moved (c.in-Ok.ensures.unwritten (inl refl))
    (λ before. EndsLines Text default_limits c.play_script.result.status (length c.args.bank.items) (score_lines notes)
    (change g.O.Sink before c.play_script.new.out)) over.0 in
    let adds = c.a_score_adds_its_addresses.ensures notes in
    record {
      known = search rules;
      said = search rules;
      input = search rules;
      unwritten = search rules;
      ends = λ _. (
        read.0,
        read.1,
        play_ends read.0 notes c.play_script.result.status (length c.args.bank.items) _ plays adds run _ (run, over.1) laws c.in-Ok.score read.2.1
            read.2.2,
      );
      sink = search rules;
      steady = search rules;
      ended = search rules;
      complete = λ can steady.
          can_play read.0 notes c.play_script.result.status (length c.args.bank.items) _ plays adds run read.2.1
          (some_bytes _ read.0 (λ score. IsOkAnd (score_of score) (λ notes. length (addresses_of notes) ≤ length c.args.bank.items)) read.1 can);
    }

pub returns-in-Err-clause-end : goal.returns-in-Err-clause-end
returns-in-Err-clause-end g c = record {
  known = search rules;
  said = search rules;
  input = search rules;
  unwritten = search rules;
  ends = score_refused _ c.unplayed.result.status c.in-Err.status _ _ c.unplayed.ensures.status c.in-Err.ensures.refused;
  sink = search rules;
  steady = search rules;
  ended = search rules;
  complete = search rules;
}
