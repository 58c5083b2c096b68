use Rattle.std.proofs.Common.{◌≡◌, ◌≤◌, ◌<◌, ◌+◌, ◌^◌, ℕ, List, length, take, drop, sym, ap, subst, ◌∙◌, arith}
use Rattle.std.specs.Int.{w32, from_be_bytes}
use Rattle.std.specs.List.{AllByRecursion}
use Rattle.osc_turn.specs.Passes.{view}
use Rattle.osc_live.specs.Reads.{Writes}
use Rattle.osc_live.specs.Seen.{history_of}
use Rattle.osc_ends.specs.Sinks.{change}
use Rattle.osc_growing.specs.declared.growth.Growth.{Growth}
use Rattle.osc_growing.specs.declared.growth.Growth.TheVariants.{Written}
use Rattle.osc_growing.specs.Entries.{HasEndIn, HoldsWhole, IsEndIn, joined, texts_of}
use Rattle.osc_growing.specs.Growing.{HasGrown, recorded}
use Rattle.osc_growing.proofs.Ends.{end_later, end_within, joined_is, joined_recorded, texts_are, written_ends}
use Rattle.osc_growing.proofs.Fronts.{part_is, piece_is, piece_long, space_same}
use Rattle.osc_growing.proofs.Growths.{recorded_on, read_of, grown_as}
use Rattle.osc_growing.proofs.Wholes.{IsText, ends_whole, ends_large}
use Rattle.osc_growing.proofs.pieces.write_new.Goals as goal
use Rattle.osc_growing.proofs.pieces.write_new.Goals.{After-read-caller}

-- the texts of what is recorded then
texts_then : (g : _) (c : After-read-caller g) → AllByRecursion IsText (texts_of c.args.live.now.caps (history_of (view c.read-caller.result.0.pass)))
texts_then g c =
    let caps = c.args.live.now.caps in
    let history = history_of (view c.read-caller.result.0.pass) in
    let legal = c.read-caller.ensures.read.legal in
    texts_are caps history (c.a_legal_history_is_recordable.ensures.all caps history legal)
    (omega (arith, c.a_legal_history_is_recordable.ensures.within caps history legal, legal.0.recording.below))

writes_then : (g : _) (c : After-read-caller g)
    → Writes (recorded c.args.live.now.caps (view c.read-caller.result.0.pass)) c.in-Written.from c.args.space.now c.read-caller.new.into c.read-caller.result.1
writes_then g c =
    read_of c.args.live.now.caps c.in-Written.from c.read-caller.result.1 c.args.space.now c.read-caller.new.into (view c.args.caller.pass)
    (view c.read-caller.result.0.pass) c.read-caller.ensures.read

-- where what was written ends
end_then : (g : _) (c : After-read-caller g) → IsEndIn (texts_of c.args.live.now.caps (history_of (view c.read-caller.result.0.pass))) c.in-Written.from
end_then g c =
    let caps = c.args.live.now.caps in
    let v = view c.args.caller.pass in
    end_later caps v (view c.read-caller.result.0.pass) c.in-Written.from c.read-caller.ensures.read.goes_on
    (subst (λ (t : Growth). HasEndIn t (texts_of caps (history_of v))) c.in-Written.is c.requires.between)

-- how many bytes are recorded then
long_then : (g : _) (c : After-read-caller g)
    → (length (recorded c.args.live.now.caps (view c.read-caller.result.0.pass)) ≤ 1073741824)
    × (c.in-Written.from ≤ length (recorded c.args.live.now.caps (view c.read-caller.result.0.pass)))
long_then g c =
    let caps = c.args.live.now.caps in
    let w = view c.read-caller.result.0.pass in
    let history = history_of w in
    let legal = c.read-caller.ensures.read.legal in
    let same = ap length (joined_recorded caps w) in (
      omega (
        arith,
        same,
        ap length (joined_is caps history),
        c.a_legal_history_is_recordable.ensures.within caps history legal,
        legal.0.recording.below,
      ),
      omega (arith, same, end_within (texts_of caps history) c.in-Written.from (end_then g c)),
    )

-- what was read are bytes of these texts
piece_then : (g : _) (c : After-read-caller g)
    → take c.read-caller.result.1 c.read-caller.new.into
    ≡ take (length c.args.space.now) (drop c.in-Written.from (joined (texts_of c.args.live.now.caps (history_of (view c.read-caller.result.0.pass)))))
piece_then g c =
    let caps = c.args.live.now.caps in
    let w = view c.read-caller.result.0.pass in
    piece_is (recorded caps w) c.args.space.now c.read-caller.new.into c.in-Written.from c.read-caller.result.1 (writes_then g c)
    ∙ ap (λ (l : List ℕ). take (length c.args.space.now) (drop c.in-Written.from l)) (sym (joined_recorded caps w))

-- where the whole entries of it end
whole_then : (g : _) (c : After-read-caller g) (whole : ℕ) → HoldsWhole (take c.read-caller.result.1 c.read-caller.new.into) whole
    → IsEndIn (texts_of c.args.live.now.caps (history_of (view c.read-caller.result.0.pass))) (c.in-Written.from + whole)
whole_then g c whole holds =
    (ends_whole (texts_of c.args.live.now.caps (history_of (view c.read-caller.result.0.pass))) (texts_then g c) c.in-Written.from
    (length c.args.space.now) whole (end_then g c) (subst (λ (l : List ℕ). HoldsWhole l whole) (piece_then g c) holds)).0

-- where an entry ends that is larger
large_then : (g : _) (c : After-read-caller g) → c.read-caller.result.1 ≡ length c.read-caller.new.into
    → IsEndIn (texts_of c.args.live.now.caps (history_of (view c.read-caller.result.0.pass)))
    (c.in-Written.from + (4 + from_be_bytes w32 (take 4 (take c.read-caller.result.1 c.read-caller.new.into))))
    × (c.in-Written.from + (4 + from_be_bytes w32 (take 4 (take c.read-caller.result.1 c.read-caller.new.into)))
    ≤ length (recorded c.args.live.now.caps (view c.read-caller.result.0.pass)))
large_then g c full =
    let caps = c.args.live.now.caps in
    let w = view c.read-caller.result.0.pass in
    let texts = texts_of caps (history_of w) in
    let from = c.in-Written.from in
    let piece = piece_then g c in
    let writes = writes_then g c in
    let many : length (take (length c.args.space.now) (drop from (joined texts))) ≡ length c.args.space.now =
    ap length (sym piece) ∙ (piece_long (recorded caps w) c.args.space.now c.read-caller.new.into from c.read-caller.result.1 writes).1 ∙ full
    ∙ space_same (recorded caps w) c.args.space.now c.read-caller.new.into from c.read-caller.result.1 writes in
    let ends =
    subst (λ (l : List ℕ). IsEndIn texts (from + (4 + from_be_bytes w32 (take 4 l))) × (from + (4 + from_be_bytes w32 (take 4 l)) ≤ length (joined texts)))
    (sym piece) (ends_large texts (texts_then g c) from (length c.args.space.now) (end_then g c) c.requires.space many) in
    (ends.0, omega (arith, ends.1, ap length (joined_recorded caps w)))

-- what was written before was written of what is recorded then
grown_then : (g : _) (c : After-read-caller g) (start : _)
    → HasGrown c.args.growth (change g.R.Sink start c.args.rec.now) (recorded c.args.live.now.caps (view c.args.caller.pass))
    → HasGrown (Written c.in-Written.from) (change g.R.Sink start c.args.rec.now)
    (recorded c.args.live.now.caps (view c.read-caller.result.0.pass))
grown_then g c start grown =
    let caps = c.args.live.now.caps in
    let v = view c.args.caller.pass in
    let w = view c.read-caller.result.0.pass in
    let sink = change g.R.Sink start c.args.rec.now in
    let on = recorded_on caps v w c.read-caller.ensures.read.goes_on in
    grown_as (Written c.in-Written.from) sink (recorded caps v) (recorded caps w) on.0 on.1
    (subst (λ (t : Growth). HasGrown t sink (recorded caps v)) c.in-Written.is grown)

-- the part that is written
part_then : (g : _) (c : After-read-caller g) (whole : ℕ) → whole ≤ length (take c.read-caller.result.1 c.read-caller.new.into)
    → (length (take whole c.read-caller.new.into) ≡ whole)
    × (take whole c.read-caller.new.into
    ≡ take (length (take whole c.read-caller.new.into)) (drop c.in-Written.from (recorded c.args.live.now.caps (view c.read-caller.result.0.pass))))
    × (c.in-Written.from + length (take whole c.read-caller.new.into) ≤ length (recorded c.args.live.now.caps (view c.read-caller.result.0.pass)))
part_then g c whole less =
    let text = recorded c.args.live.now.caps (view c.read-caller.result.0.pass) in
    let writes = writes_then g c in
    let long = piece_long text c.args.space.now c.read-caller.new.into c.in-Written.from c.read-caller.result.1 writes in
    part_is text c.args.space.now c.read-caller.new.into c.in-Written.from c.read-caller.result.1 whole writes (omega (arith, less, long.1)) (long_then g c).1

-- the size that was read is that of a part of what is recorded
small_size : (from size long : ℕ) → from + (4 + size) ≤ long → long ≤ 1073741824 → 4 + size < 2 ^ 32
small_size from size long within small = omega (arith, within, small)

small_end : (from told size long : ℕ) → told ≡ 4 + size → from + (4 + size) ≤ long → long ≤ 1073741824 → (from + told ≤ long) × (from + told < 2 ^ 32)
small_end from told size long is within small = (omega (arith, is, within), omega (arith, is, within, small))

pub told_size-requires-clause-small : goal.told_size-requires-clause-small
told_size-requires-clause-small g c =
    let at = (goal.at.told_size-requires-clause-small g c).After-read-caller in
    small_size c.in-Written.from (from_be_bytes w32 (take 4 (take c.read-caller.result.1 c.read-caller.new.into)))
    (length (recorded c.args.live.now.caps (view c.read-caller.result.0.pass))) (large_then g at c.if-full.true).1 (long_then g at).0

pub overflow_add-end : goal.overflow_add-end
overflow_add-end g c =
    let at = (goal.at.overflow_add-end g c).After-read-caller in
    let small = small_end c.in-Written.from c.told_size.result (from_be_bytes w32 (take 4 (take c.read-caller.result.1 c.read-caller.new.into)))
    (length (recorded c.args.live.now.caps (view c.read-caller.result.0.pass))) c.told_size.ensures (large_then g at c.if-full.true).1 (long_then g at).0 in
    omega (arith, small.1)

pub write_large-caller-requires-clause-within : goal.write_large-caller-requires-clause-within
write_large-caller-requires-clause-within g c =
    let at = (goal.at.write_large-caller-requires-clause-within g c).After-read-caller in
    (small_end c.in-Written.from c.told_size.result (from_be_bytes w32 (take 4 (take c.read-caller.result.1 c.read-caller.new.into)))
    (length (recorded c.args.live.now.caps (view c.read-caller.result.0.pass))) c.told_size.ensures (large_then g at c.if-full.true).1 (long_then g at).0).0

pub returns-then-full-clause-between : goal.returns-then-full-clause-between
returns-then-full-clause-between g c =
    let at = (goal.at.returns-then-full-clause-between g c).After-read-caller in
    let caps = c.args.live.now.caps in
    let w = view c.read-caller.result.0.pass in
    let last = view c.write_large-caller.result.0.pass in
    let end = c.in-Written.from + c.told_size.result in
    let ends : IsEndIn (texts_of caps (history_of w)) end =
    subst (λ (n : ℕ). IsEndIn (texts_of caps (history_of w)) (c.in-Written.from + n)) (sym c.told_size.ensures) (large_then g at c.if-full.true).0 in
    written_ends c.write_large-caller.result.1 (texts_of caps (history_of last)) end c.write_large-caller.ensures.place
    (end_later caps w last end c.write_large-caller.ensures.looked.goes_on ends)

pub returns-then-full-clause-grown : goal.returns-then-full-clause-grown
returns-then-full-clause-grown g c = λ start grown.
    c.write_large-caller.ensures.grown start (grown_then g (goal.at.returns-then-full-clause-grown g c).After-read-caller start grown)

pub returns-clause-between : goal.returns-clause-between
returns-clause-between g c =
    let at = (goal.at.returns-clause-between g c).After-read-caller in
    let whole = c.whole_entries-whole.result in
    let texts = texts_of c.args.live.now.caps (history_of (view c.read-caller.result.0.pass)) in
    let part = part_then g at whole c.whole_entries-whole.ensures.within in
    let end = c.in-Written.from + length (take whole c.read-caller.new.into) in
    written_ends c.write_piece-then.result texts end c.write_piece-then.ensures.place
    (subst (λ (n : ℕ). IsEndIn texts (c.in-Written.from + n)) (sym part.0) (whole_then g at whole c.whole_entries-whole.ensures.whole))

pub returns-clause-grown : goal.returns-clause-grown
returns-clause-grown g c = λ start grown.
    let at = (goal.at.returns-clause-grown g c).After-read-caller in
    let part = part_then g at c.whole_entries-whole.result c.whole_entries-whole.ensures.within in
    c.write_piece-then.ensures.grown start (recorded c.args.live.now.caps (view c.read-caller.result.0.pass)) part.2 part.1 (grown_then g at start grown)
