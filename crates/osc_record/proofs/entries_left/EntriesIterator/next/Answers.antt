use Rattle.std.proofs.Common.{◌≡◌, ◌<◌, ◌+◌, suc, Some, length, drop, sym, ap, ◌∙◌, arith, length-drop}
use Rattle.osc_record.specs.Reading.{entry_first, entries_at, placed_in}
use Rattle.osc_record.specs.Shown.{parts_of}
use Rattle.osc_record.proofs.Walks.{rest_read, left_first, slice_rest}
use Rattle.osc_record.proofs.entries_left.EntriesIterator.next.Goals as goal

pub invariant_of-self : goal.invariant_of-self
invariant_of-self c =
    let s = c.args.self.now in
    let inside = s.inside in
    let some : s.at < length s.bytes.now = omega (arith, c.if-self.false) in
    let found : entry_first s.version s.limit s.at (drop s.at s.bytes.now) ≡ Some (parts_of c.in-Some.parts, c.in-Some.size) =
    ap (entry_first s.version s.limit s.at) (sym (slice_rest s.at s.bytes.now)) ∙ sym c.in-Some.ensures.value in
    record {
      small = s.small;
      inside = omega (arith, c.in-Some.ensures.within, length-drop s.at s.bytes.now);
      readable = rest_read s.version s.limit s.at s.bytes.now (parts_of c.in-Some.parts, c.in-Some.size) some found s.readable;
    }

pub returns-clause-steps : goal.returns-clause-steps
returns-clause-steps c =
    let s = c.args.self.now in
    let inside = s.inside in
    let some : s.at < length s.bytes.now = omega (arith, c.if-self.false) in
    let found : entry_first s.version s.limit s.at (drop s.at s.bytes.now) ≡ Some (parts_of c.in-Some.parts, c.in-Some.size) =
    ap (entry_first s.version s.limit s.at) (sym (slice_rest s.at s.bytes.now)) ∙ sym c.in-Some.ensures.value in
    left_first s.version s.limit s.at s.bytes.now (parts_of c.in-Some.parts, c.in-Some.size) some found s.readable

pub returns-clause-goes : goal.returns-clause-goes
returns-clause-goes c =
    let s = c.args.self.now in
    let inside = s.inside in
    let some : s.at < length s.bytes.now = omega (arith, c.if-self.false) in
    let found : entry_first s.version s.limit s.at (drop s.at s.bytes.now) ≡ Some (parts_of c.in-Some.parts, c.in-Some.size) =
    ap (entry_first s.version s.limit s.at) (sym (slice_rest s.at s.bytes.now)) ∙ sym c.in-Some.ensures.value in
    let size : length (placed_in (entries_at s.version s.limit s.at (drop s.at s.bytes.now)))
    ≡ suc (length (placed_in (entries_at s.version s.limit (s.at + c.in-Some.size) (drop (s.at + c.in-Some.size) s.bytes.now)))) =
    ap length (left_first s.version s.limit s.at s.bytes.now (parts_of c.in-Some.parts, c.in-Some.size) some found s.readable) in
    record { on = λ f. (tt, tt, omega arith); keeps = tt; rests = λ f. tt }
