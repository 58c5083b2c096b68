use Rattle.std.proofs.Common.{ap, arith, length, length-append}
use Rattle.osc_record.specs.Unread.{Remaining}
use Rattle.osc_replay.proofs.Formed.{texts}
use Rattle.osc_replay.proofs.Passed.{ahead_of, passed}
use Rattle.osc_replay.proofs.onward.pass.Goals as goal

pub pass-requires : goal.pass-requires
pass-requires c =
    let q = c.requires in
    let ahead = ahead_of q.0 q.1 q.2 q.3 c.args.unread.now c.args.end q.4 in
    omega (
      arith,
      ahead.end_is,
      q.4.header.at_is,
      q.4.small,
      ap length ahead.rest_is,
      length-append (texts q.2) (texts q.3),
    )

pub returns : goal.returns
returns c bytes caps before since is =
    let ahead = ahead_of bytes caps before since c.args.unread.now c.args.end is in
    passed bytes caps before since c.args.unread.now c.pass.new.self c.args.end _ is
    (omega (arith, ahead.end_is, is.header.at_is, is.small))
    (ap (λ (r : Remaining). r.caps) c.pass.ensures)
    (ap (λ (r : Remaining). r.at) c.pass.ensures)
    (ap (λ (r : Remaining). r.rest) c.pass.ensures)
