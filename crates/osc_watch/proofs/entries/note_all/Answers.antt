use Rattle.std.proofs.Common.{◌≤◌, length, refl, sym, ap, subst, ◌∙◌, arith, length-append}
use Rattle.osc_model.specs.Limits.{Limits}
use Rattle.osc_model.specs.Recordings.{header_text}
use Rattle.osc_watch.specs.Watching.{noted}
use Rattle.osc_watch.proofs.EntriesRead.{begins, limits_are, reads_on, stops, read_total, read_low, stop_place}
use Rattle.osc_watch.proofs.entries.note_all.Goals as goal

pub unreachable-requires : goal.unreachable-requires
unreachable-requires c = let (caps, rest, stand, text) = c.requires.within in c.in_default.ensures.err.none caps rest stand.lawful text

pub loop-stop-init : goal.loop-stop-init
loop-stop-init c =
    let header = c.in-Ok.ensures.ok in
    let size = c.sizes.ensures.header c.in-Ok.unread.caps in
    record {
      board = ((refl, refl), refl);
      published = refl;
      low = omega (arith, header.at_is);
      total = omega (arith, header.at_is, size, ap length header.text, length-append (header_text c.in-Ok.unread.caps) c.in-Ok.unread.rest);
      within = limits_are c.sizes.ensures.header c.headers_differ.ensures c.args.bytes.now c.in-Ok.unread header c.requires.within;
      looks = begins c.args.bytes.now (noted c.args.board.now) c.in-Ok.unread header c.sizes.ensures.header;
    }

pub returns-in-Some-clause-notes : goal.returns-in-Some-clause-notes
returns-in-Some-clause-notes c =
    stops c.args.bytes.now _ _ _ c.loop-stop.unread c.note_next.new.unread c.in-Some.stop c.loop-stop.invariant.within c.loop-stop.invariant.looks
    c.in-Some.ensures.notes

pub returns-in-Some-clause-place : goal.returns-in-Some-clause-place
returns-in-Some-clause-place c =
    stop_place c.args.bytes.now _ _ c.loop-stop.unread c.note_next.new.unread c.in-Some.stop c.loop-stop.invariant.low c.loop-stop.invariant.total
    c.in-Some.ensures.notes

pub loop-stop-smaller : goal.loop-stop-smaller
loop-stop-smaller c = c.in-None.ensures.notes.1.shorter

pub loop-stop-preserved : goal.loop-stop-preserved
loop-stop-preserved c =
    let before = c.loop-stop.invariant in
    let board = c.in-None.ensures.board in
    let reads = c.in-None.ensures.notes.1 in
    record {
      board = ((before.board.0.0 ∙ board.0.0, before.board.0.1 ∙ board.0.1), before.board.1 ∙ board.1);
      published = c.in-None.ensures.published ∙ before.published;
      low = read_low _ _ _ reads before.low;
      total = read_total c.args.bytes.now _ _ _ reads before.total;
      within = subst (λ (limits : Limits). length c.args.bytes.now ≤ limits.recording) (sym reads.caps_stay) before.within;
      looks = reads_on c.a_written_entry_is_read_again.ensures c.args.bytes.now _ _ _ c.loop-stop.unread c.note_next.new.unread before.looks
          c.in-None.ensures.notes;
    }
