use Rattle.std.proofs.Common.{◌≡◌, ℕ, List, [], ◌++◌, length, take, drop, length-append, refl, sym, ap, ◌∙◌, arith}
use Rattle.std.proofs.lemmas.List.{append-nil, length-take}
use Rattle.std.proofs.Math.Seq.{take-append_seam}
use Rattle.osc_model.specs.Events.{Entry}
use Rattle.osc_model.specs.Limits.{Limits, header_size}
use Rattle.osc_model.specs.Recordings.{header_text, record_text}
use Rattle.osc_watch.specs.Parts.{Writes, part, text_of}
use Rattle.osc_watch.proofs.Begun.{onward}
use Rattle.osc_watch.proofs.Looking.{stands_here}
use Rattle.osc_watch.proofs.PartsRead.{nothing, same_length}
use Rattle.osc_watch.proofs.refresh.read_all.Goals as goal

-- where bytes are put back into a list of their own length, it keeps that length
put_back : (size : ℕ) (old new : List ℕ) → length new ≡ size → length (take size (new ++ drop (length new) old)) ≡ size
put_back size old new is =
    omega (arith, is, length-take size (new ++ drop (length new) old), length-append new (drop (length new) old))

-- where a header's bytes were read over a list of their length, and put back, the list is the header
header_put : (caps : Limits) (seen : List Entry) (size count : ℕ) (into old new : List ℕ) → length into ≡ size → size ≡ header_size
    → length (header_text caps) ≡ header_size → length new ≡ size → Writes (record_text caps seen) 0 into new count
    → take size (new ++ drop (length new) old) ≡ header_text caps
header_put caps seen size count into old new whole is sized long writes =
    let text = record_text caps seen in
    let room : length into ≡ length (header_text caps) = whole ∙ (is ∙ sym sized) in
    let first : part text 0 into ≡ header_text caps =
    ap (λ (n : ℕ). take n text) room ∙ take-append_seam (header_text caps) (text_of seen) in
    let gone : drop (length (part text 0 into)) into ≡ [] =
    nothing (length (part text 0 into)) into (omega (arith, ap length first, room)) in
    let now : new ≡ header_text caps =
    writes.bytes ∙ (ap (λ (l : List ℕ). part text 0 into ++ l) gone ∙ (append-nil (part text 0 into) ∙ first)) in
    ap (λ (n : ℕ). take n (new ++ drop (length new) old)) (sym long) ∙ (take-append_seam new (drop (length new) old) ∙ now)

pub loop-init : goal.loop-init
loop-init g c =
    let h = c.requires.read in
    let token = c.read-token.ensures in
    let seen = g.S.Recorded.seen c.read-token.result.0 in
    record {
      ours = token.ours;
      board = (refl, refl);
      published = refl;
      goes_on = token.goes_on;
      onward = stands_here c.args.board.now;
      read = (h.0, h.1, onward h.0 (g.S.Recorded.seen c.args.token) seen token.goes_on h.2);
      taken = token.taken;
      number = token.number;
      looks = token.looks;
      header = put_back c.in-Ok.header.len c.in-Ok.header.items c.read-token.new.into
          (same_length _ _ _ _ _ token.writes ∙ c.as_mut_slice.ensures.len)
          ∙ c.in-Ok.ensures.len;
      text = header_put (g.S.Recorded.caps c.args.server.now) seen c.in-Ok.header.len c.read-token.result.1 _ c.in-Ok.header.items c.read-token.new.into
          c.as_mut_slice.ensures.len c.in-Ok.ensures.len (c.sizes.ensures.header (g.S.Recorded.caps c.args.server.now))
          (same_length _ _ _ _ _ token.writes ∙ c.as_mut_slice.ensures.len) token.writes;
    }
