use Rattle.osc_words.specs.declared.command.Reading.TheVariants.{Replay, Dump, Upgrade, Score}
use Rattle.osc_ends.specs.Recordings.{EndsRecording, DumpsTo, RefusesForm, RefusesRecording, RefusesUpgrade, ReplaysTo, UpgradesTo}
use Rattle.osc_plain.specs.Scores.{EndsScore}
use Rattle.osc_plain.proofs.Tops.{run_said, score_said, unplayed_said}
use Rattle.osc_plain.proofs.top.follow.Goals as goal

pub returns-in-Run-clause-end : goal.returns-in-Run-clause-end
returns-in-Run-clause-end g c =
    run_said _ _ _ _ _ _ _ _ c.args.bank.items _ _ c.run.result.status c.in-Run.output c.in-Run.caps c.args.reading c.report_of.result
    c.plain_limits.result c.in-Run.is
    c.report_of.ensures c.plain_limits.ensures c.run.ensures.end

pub returns-in-Replay-clause-end : goal.returns-in-Replay-clause-end
returns-in-Replay-clause-end g c =
    unplayed_said _ _ _ _ _ _ _ _ _ _ _ _ (EndsRecording ReplaysTo RefusesRecording)
    c.args.reading Replay c.replay.result c.in-Replay.is c.unplayed.ensures.status c.unplayed.ensures.heard
    c.unplayed.ensures.left (λ all so back. (so, back)) c.replay.ensures.end

pub returns-in-Dump-clause-end : goal.returns-in-Dump-clause-end
returns-in-Dump-clause-end g c =
    unplayed_said _ _ _ _ _ _ _ _ _ _ _ _ (EndsRecording DumpsTo RefusesForm)
    c.args.reading Dump c.dump.result c.in-Dump.is c.unplayed-in-Dump.ensures.status c.unplayed-in-Dump.ensures.heard
    c.unplayed-in-Dump.ensures.left (λ all so back. (so, back)) c.dump.ensures.end

pub returns-in-Upgrade-clause-end : goal.returns-in-Upgrade-clause-end
returns-in-Upgrade-clause-end g c =
    unplayed_said _ _ _ _ _ _ _ _ _ _ _ _ (EndsRecording UpgradesTo RefusesUpgrade)
    c.args.reading Upgrade c.upgrade.result c.in-Upgrade.is c.unplayed-in-Upgrade.ensures.status
    c.unplayed-in-Upgrade.ensures.heard c.unplayed-in-Upgrade.ensures.left (λ all so back. (so, back)) c.upgrade.ensures.end

pub returns-in-Score-clause-end : goal.returns-in-Score-clause-end
returns-in-Score-clause-end g c =
    unplayed_said _ _ _ _ _ _ _ _ _ _ _ _ EndsScore c.args.reading Score c.write_score.result c.in-Score.is c.unplayed-in-Score.ensures.status
    c.unplayed-in-Score.ensures.heard c.unplayed-in-Score.ensures.left (λ all so back. (so, back)) c.write_score.ensures.end

pub returns-in-PlayScore-clause-end : goal.returns-in-PlayScore-clause-end
returns-in-PlayScore-clause-end g c = score_said _ _ _ _ _ _ _ _ _ _ _ _ c.args.reading c.in-PlayScore.is c.play_score.ensures.end
