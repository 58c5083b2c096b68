use Rattle.std.proofs.Common.{◌≡◌, inr, Some, map, length, string_bytes, rules}
use Rattle.osc_words.specs.Commands as said
use Rattle.osc_model.specs.Limits.{max_recording}
use Rattle.osc_script.specs.declared.script.TheConstants.{MAX_SCRIPT}
use Rattle.osc_ends.proofs.Said.{of_said}
use Rattle.osc_top.proofs.Inputs.{any_inputs, both_so, past_of, refused_or_short, unjudged}
use Rattle.osc_top.proofs.ResumeEnds.{of_taken, past_so, resumed_cut_by, resumed_history, resumed_known, resumed_none, resumed_others, resumed_refused}
use Rattle.osc_top.proofs.ResumeEnds.{resumed_steady, taken_ends, was_read}
use Rattle.osc_top.proofs.resume.resume_top.Goals as goal

pub judge_both-requires : goal.judge_both-requires
judge_both-requires g c = past_of _ _ _ _ c.in-Ok.ensures.read

-- Where a past and a script were taken.

pub play_after-requires-clause-past : goal.play_after-requires-clause-past
play_after-requires-clause-past g c _ _ =
    of_taken _ _ c.in-Ok-judge_both.taken _
    (both_so _ _ _ _ (λ bytes script read. c.in-Ok-judge_both.ensures.taken bytes script read.0 read.1) c.in-Ok.ensures.read)

pub returns-in-Ok-judge_both-clause-known : goal.returns-in-Ok-judge_both-clause-known
returns-in-Ok-judge_both-clause-known g c =
    let taken = both_so _ _ _ _ (λ bytes script read. c.in-Ok-judge_both.ensures.taken bytes script read.0 read.1) c.in-Ok.ensures.read in
    let ends = taken_ends _ _ c.in-Ok-judge_both.taken _ _ _ _ _ _ c.play_after.ensures.ends taken in
    resumed_known _ ends.0 ends.1 _ _ _ _ ends.4

pub returns-in-Ok-judge_both-clause-past_read : goal.returns-in-Ok-judge_both-clause-past_read
returns-in-Ok-judge_both-clause-past_read g c =
    let said : Some c.in-Ok-Some.command ≡ said.resume_command_of (map string_bytes c.args.words.now) = search rules in
    of_said _ _ c.in-Ok-Some.command said (was_read max_recording _ (g.P.Source.left c.args.past.now) _ c.in-Ok.ensures.past_read)

pub returns-in-Ok-judge_both-clause-input_read : goal.returns-in-Ok-judge_both-clause-input_read
returns-in-Ok-judge_both-clause-input_read g c =
    let said : Some c.in-Ok-Some.command ≡ said.resume_command_of (map string_bytes c.args.words.now) = search rules in
    of_said _ _ c.in-Ok-Some.command said (was_read MAX_SCRIPT _ (g.S.Source.left c.args.input.now) _ c.in-Ok.ensures.input_read)

pub returns-in-Ok-judge_both-clause-ends : goal.returns-in-Ok-judge_both-clause-ends
returns-in-Ok-judge_both-clause-ends g c =
    let same : c.judge_both.new.out ≡ c.args.out.now = c.in-Ok-judge_both.ensures.unwritten in
    let said : Some c.in-Ok-Some.command ≡ said.resume_command_of (map string_bytes c.args.words.now) = search rules in
    let taken = both_so _ _ _ _ (λ bytes script read. c.in-Ok-judge_both.ensures.taken bytes script read.0 read.1) c.in-Ok.ensures.read in
    rw (← same)
    (of_said _ _ c.in-Ok-Some.command said
    (λ read. taken_ends _ _ c.in-Ok-judge_both.taken _ _ _ _ _ _ c.play_after.ensures.ends taken))

pub returns-in-Ok-judge_both-clause-one_history : goal.returns-in-Ok-judge_both-clause-one_history
returns-in-Ok-judge_both-clause-one_history g c =
    let same : c.judge_both.new.out ≡ c.args.out.now = c.in-Ok-judge_both.ensures.unwritten in
    let said : Some c.in-Ok-Some.command ≡ said.resume_command_of (map string_bytes c.args.words.now) = search rules in
    let taken = both_so _ _ _ _ (λ bytes script read. c.in-Ok-judge_both.ensures.taken bytes script read.0 read.1) c.in-Ok.ensures.read in
    let ends = taken_ends _ _ c.in-Ok-judge_both.taken _ _ _ _ _ _ c.play_after.ensures.ends taken in
    rw (← same)
    (of_said _ _ c.in-Ok-Some.command said
    (λ resumed. past_so _ _ _ _
    (λ bytes script all. resumed_history _ _ c.in-Ok-Some.command.room c.args.bank.items _ _ _ bytes script (length c.args.bank.items) _ _ all resumed) ends))

pub returns-in-Ok-judge_both-clause-sink : goal.returns-in-Ok-judge_both-clause-sink
returns-in-Ok-judge_both-clause-sink g c =
    let same : c.judge_both.new.out ≡ c.args.out.now = c.in-Ok-judge_both.ensures.unwritten in
    let taken = both_so _ _ _ _ (λ bytes script read. c.in-Ok-judge_both.ensures.taken bytes script read.0 read.1) c.in-Ok.ensures.read in
    let ends = taken_ends _ _ c.in-Ok-judge_both.taken _ _ _ _ _ _ c.play_after.ensures.ends taken in
    rw (← same) (resumed_cut_by _ ends.0 ends.1 _ _ _ _ _ ends.4 c.play_after.ensures.sink)

pub returns-in-Ok-judge_both-clause-steady : goal.returns-in-Ok-judge_both-clause-steady
returns-in-Ok-judge_both-clause-steady g c =
    let same : c.judge_both.new.out ≡ c.args.out.now = c.in-Ok-judge_both.ensures.unwritten in
    let taken = both_so _ _ _ _ (λ bytes script read. c.in-Ok-judge_both.ensures.taken bytes script read.0 read.1) c.in-Ok.ensures.read in
    let ends = taken_ends _ _ c.in-Ok-judge_both.taken _ _ _ _ _ _ c.play_after.ensures.ends taken in
    rw (← same) (resumed_steady _ ends.0 ends.1 _ _ _ _ ends.4)

pub returns-in-Ok-judge_both-clause-usage : goal.returns-in-Ok-judge_both-clause-usage
returns-in-Ok-judge_both-clause-usage g c = λ two.
    let taken = both_so _ _ _ _ (λ bytes script read. c.in-Ok-judge_both.ensures.taken bytes script read.0 read.1) c.in-Ok.ensures.read in
    let ends = taken_ends _ _ c.in-Ok-judge_both.taken _ _ _ _ _ _ c.play_after.ensures.ends taken in
    absurd ((resumed_others _ ends.0 ends.1 _ _ _ _ ends.4).0 two)

pub returns-in-Ok-judge_both-clause-usage_text : goal.returns-in-Ok-judge_both-clause-usage_text
returns-in-Ok-judge_both-clause-usage_text g c = λ two.
    let taken = both_so _ _ _ _ (λ bytes script read. c.in-Ok-judge_both.ensures.taken bytes script read.0 read.1) c.in-Ok.ensures.read in
    let ends = taken_ends _ _ c.in-Ok-judge_both.taken _ _ _ _ _ _ c.play_after.ensures.ends taken in
    absurd ((resumed_others _ ends.0 ends.1 _ _ _ _ ends.4).0 two)

pub returns-in-Ok-judge_both-clause-source : goal.returns-in-Ok-judge_both-clause-source
returns-in-Ok-judge_both-clause-source g c = λ four.
    let taken = both_so _ _ _ _ (λ bytes script read. c.in-Ok-judge_both.ensures.taken bytes script read.0 read.1) c.in-Ok.ensures.read in
    let ends = taken_ends _ _ c.in-Ok-judge_both.taken _ _ _ _ _ _ c.play_after.ensures.ends taken in
    absurd ((resumed_others _ ends.0 ends.1 _ _ _ _ ends.4).1 four)

pub returns-in-Ok-judge_both-clause-unwritten : goal.returns-in-Ok-judge_both-clause-unwritten
returns-in-Ok-judge_both-clause-unwritten g c = λ four.
    let taken = both_so _ _ _ _ (λ bytes script read. c.in-Ok-judge_both.ensures.taken bytes script read.0 read.1) c.in-Ok.ensures.read in
    let ends = taken_ends _ _ c.in-Ok-judge_both.taken _ _ _ _ _ _ c.play_after.ensures.ends taken in
    absurd ((resumed_others _ ends.0 ends.1 _ _ _ _ ends.4).1 four)

-- Where one of them was refused.

pub returns-clause-ends : goal.returns-clause-ends
returns-clause-ends g c =
    let said : Some c.in-Ok-Some.command ≡ said.resume_command_of (map string_bytes c.args.words.now) = search rules in
    of_said _ _ c.in-Ok-Some.command said
    (λ read. both_so _ _ _ _
    (λ bytes script whole.
    let takes = c.in-Err-judge_both.ensures.taken bytes script whole.0 whole.1 in
    resumed_refused _ bytes script (length c.args.bank.items) _ _ _ c.in-Err-judge_both.status c.unplayed-in-Err-judge_both.ensures.status
    (refused_or_short c.in-Err-judge_both.status c.in-Err-judge_both.ensures.known) read takes.refused takes.complete)
    c.in-Ok.ensures.read)

-- Where one of them wasn't read.

pub returns-in-Err-read_both-clause-ends : goal.returns-in-Err-read_both-clause-ends
returns-in-Err-read_both-clause-ends g c =
    let said : Some c.in-Ok-Some.command ≡ said.resume_command_of (map string_bytes c.args.words.now) = search rules in
    of_said _ _ c.in-Ok-Some.command said
    (λ read. any_inputs _ _ _
    (λ bytes script.
    let takes = unjudged bytes script _ c.in-Err-read_both.status c.in-Err-read_both.ensures.known in
    resumed_refused _ bytes script (length c.args.bank.items) _ _ _ c.in-Err-read_both.status c.unplayed-in-Err-read_both.ensures.status
    (inr c.in-Err-read_both.ensures.known) read takes.refused takes.complete))

pub returns-in-Err-clause-ends : goal.returns-in-Err-clause-ends
returns-in-Err-clause-ends g c = resumed_none _ _ c.args.bank.items _ _ _ (length c.args.bank.items) _ _ _ _ _ c.unplayed-in-Err.ensures.status
