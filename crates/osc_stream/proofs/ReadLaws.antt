-- What one read more makes of the frames that are left.
use Rattle.std.proofs.Common.{◌≡◌, ℕ, ◌+◌, ◌-◌, ◌^◌, ◌≤◌, ◌<◌, Bool, true, false, ltb, leb, List, [], ◌++◌, length, take, drop, Option, Some, None, refl, sym}
use Rattle.std.proofs.Common.{ap}
use Rattle.std.proofs.Common.{◌∙◌, subst, arith, append_assoc, length-append, length-take, length-drop, inl, inr}
use Rattle.std.proofs.lemmas.Bool.{ltb-true, ltb-false, lt-ltb, le-ltb, leb-true, and_parts, cond-true, cond-false, cases_lt}
use Rattle.std.proofs.lemmas.List.{take_all, take-append-drop}
use Rattle.std.specs.Prelude.{IsTrue, option_map, nat_lt, ◌==◌, ◌%◌}
use Rattle.osc_edge.specs.declared.source.Taken.TheVariants.{Bytes}
use Rattle.osc_edge.specs.Source.{TakesFront}
use Rattle.osc_stream.specs.declared.fed.Fed.{Fed}
use Rattle.osc_stream.specs.declared.fed.Fed.TheVariants.{More, Ready, Broken as BrokenWord}
use Rattle.osc_stream.specs.declared.front.Front.TheVariants.{Short}
use Rattle.osc_stream.specs.declared.state.StreamState.{StreamState}
use Rattle.osc_stream.specs.declared.state.StreamState.TheVariants.{Going, Clean, Cut, Broken, SourceFailed}
use Rattle.osc_stream.specs.Frames.{Framing, ends, with_packet, is_length, first_word, front, wanted, frames}
use Rattle.osc_stream.specs.Frames.{Broken as BrokenEnd}
use Rattle.osc_stream.specs.Feeding.{StreamView, taken, IsFed}
use Rattle.osc_stream.specs.Links.{frames_left, framing_left, is_below, found_of, HasFound, HasRead, HasSourceCause}
use Rattle.osc_stream.proofs.Fronts.{whole_parts, bad_parts, short_parts, word_stays}
use Rattle.osc_stream.proofs.FrameLaws.{frames_whole, frames_bad}

both : (b : Bool) → b ≡ true → b ≡ false → ⊥
both true t f = absurd cc
both false t f = absurd cc

wanted_short : (held : List ℕ) → length held < 4 → wanted held ≡ 4 - length held
wanted_short held less = cond-true (ltb (length held) 4) _ _ (lt-ltb (length held) 4 less)

wanted_long : (held : List ℕ) → 4 ≤ length held → is_length (first_word held) ≡ true → wanted held ≡ 4 + first_word held - length held
wanted_long held long lawful = cond-false (ltb (length held) 4) _ _ (le-ltb (length held) 4 long)
    ∙ cond-true (is_length (first_word held)) _ _ lawful

small_word : (word : ℕ) → is_length word ≡ true → word ≤ 65504
small_word word lawful = leb-true word 65504 (and_parts (word % 4 == 0) (leb word 65504) lawful).1

-- less than a frame lacks a byte at least, and is shorter than the longest frame
pub short_below : (held : List ℕ) → front held ≡ Short → (length held < 65508) × (0 < wanted held) × (wanted held ≤ 65508)
short_below held short = elim (cases_lt (length held) 4) [
  | inl less ↦ let w = wanted_short held less in (omega (arith, less), omega (arith, less, w), omega (arith, less, w))
  | inr long ↦
      let p = short_parts held short long in
      let w = wanted_long held long p.0 in
      let few = small_word (first_word held) p.0 in
      (omega (arith, p.1, few), omega (arith, p.1, w), omega (arith, w, few))
]

-- the size of what is held and taken
held_size : (held piece : List ℕ) (took : ℕ) → took ≤ length piece → length (held ++ take took piece) ≡ length held + took
held_size held piece took le = length-append held (take took piece) ∙ omega (arith, length-take took piece, le)

-- a piece of no more bytes than are wanted is taken whole
took_all : (fed : Fed) (took : ℕ) (piece : List ℕ) (old new : StreamView) → front old.held ≡ Short → length piece ≤ wanted old.held → took ≤ length piece
    → IsFed fed took piece old new → took ≡ length piece
took_all More took piece old new short fits le f = f.0
took_all Ready took piece old new short fits le f =
    let whole = old.held ++ take took piece in
    let size = held_size old.held piece took le in
    elim (cases_lt (length old.held) 4) [
      | inl less ↦ omega (arith, f.2, size, fits, le, wanted_short old.held less, less)
      | inr long ↦
          let p = short_parts old.held short long in
          let q = whole_parts whole f.0 f.1 in
          omega (arith, f.2, size, fits, le, wanted_long old.held long p.0, q.3, word_stays old.held (take took piece) long)
    ]
took_all (BrokenWord at word) took piece old new short fits le f =
    let whole = old.held ++ take took piece in
    let size = held_size old.held piece took le in
    elim (cases_lt (length old.held) 4) [
      | inl less ↦ omega (arith, f.2, size, fits, le, wanted_short old.held less, less)
      | inr long ↦
          let p = short_parts old.held short long in
          let q = bad_parts whole word f.1 in
          let lawful : is_length (first_word whole) ≡ true = ap is_length (word_stays old.held (take took piece) long) ∙ p.0 in
          absurd (both (is_length (first_word whole)) lawful q.1)
    ]

-- the bytes left, as the piece and what is left behind it
joined : (held left piece : List ℕ) (count : ℕ) → piece ≡ take count left → held ++ left ≡ (held ++ piece) ++ drop count left
joined held left piece count is = ap (λ (l : List ℕ). held ++ l) (sym (take-append-drop count left))
    ∙ ap (λ (p : List ℕ). held ++ (p ++ drop count left)) (sym is) ∙ sym (append_assoc held piece (drop count left))

-- a relation of frames by lists is one by what is told
by_told : (f : Framing → Framing) (old new : StreamView) (before after : Option (List ℕ)) (count : ℕ) (into : List ℕ)
    → TakesFront before after (Bytes count) into
    → ((left : List ℕ) → take count into ≡ take count left → frames old.place (old.held ++ left) ≡ f (frames new.place (new.held ++ drop count left)))
    → frames_left old before ≡ option_map f (frames_left new after)
by_told f old new None after count into takes same = ap (λ a. option_map f (frames_left new a)) (sym takes)
by_told f old new (Some left) after count into takes same =
    ap Some (same left takes.1) ∙ ap (λ a. option_map f (frames_left new a)) (sym takes.0)

abbrev same_frames : Framing → Framing
same_frames framing = framing

same_left : (new : StreamView) (after : Option (List ℕ)) → option_map same_frames (frames_left new after) ≡ frames_left new after
same_left new None = refl
same_left new (Some left) = refl

bad_left : (at size : ℕ) (new : StreamView) (after : Option (List ℕ))
    → option_map (λ (f : Framing). ends (BrokenEnd at size)) (frames_left new after) ≡ framing_left (Broken at size) new after
bad_left at size new None = refl
bad_left at size new (Some left) = refl

-- some bytes were read, and taken
pub read_bytes : (fed : Fed) (took count : ℕ) (old new : StreamView) (before after : Option (List ℕ)) (into : List ℕ)
    → front old.held ≡ Short → 0 < count → count ≤ length into → length into ≤ wanted old.held
    → took ≤ length (take count into) → TakesFront before after (Bytes count) into → IsFed fed took (take count into) old new
    → HasRead (found_of fed) old new before after
read_bytes More took count old new before after into short some within fits le takes f =
    let piece = take count into in
    let next : StreamView = record { held = old.held ++ piece; packet = None; place = old.place } in
    subst (λ n. HasRead None old n before after) (sym f.2) (
      by_told same_frames old next before after count into takes
          (λ left is. ap (frames old.place) (joined old.held left piece count is)) ∙ same_left next after,
      f.1,
      omega (arith, length-append old.held piece, length-take count into, some, within),
    )
read_bytes Ready took count old new before after into short some within fits le takes f =
    let piece = take count into in
    let all = took_all Ready took piece old new short (omega (arith, length-take count into, fits, within)) le f in
    let taken_is : take took piece ≡ piece = take_all took piece (omega (arith, all)) in
    let x = old.held ++ take took piece in
    let p = whole_parts x f.0 f.1 in
    let small = small_word (first_word x) p.1 in
    let next : StreamView = record { held = []; packet = Some (drop 4 x); place = old.place + (4 + f.0) } in
    subst (λ n. HasRead (Some Going) old n before after) (sym f.3) (
      (
        drop 4 x,
        refl,
        omega (arith, length-drop 4 x, f.2, p.3, small),
        by_told (with_packet (drop 4 x)) old next before after count into takes
            (λ left is. ap (frames old.place) (joined old.held left (take took piece) count (taken_is ∙ is))
            ∙ frames_whole old.place x (drop count left) f.0 f.1 f.2),
      ),
      refl,
    )
read_bytes (BrokenWord at word) took count old new before after into short some within fits le takes f =
    let piece = take count into in
    let all = took_all (BrokenWord at word) took piece old new short (omega (arith, length-take count into, fits, within)) le f in
    let taken_is : take took piece ≡ piece = take_all took piece (omega (arith, all)) in
    let x = old.held ++ take took piece in
    let next : StreamView = record { held = x; packet = None; place = old.place } in
    subst (λ n. HasRead (Some (Broken at word)) old n before after) (sym f.3) (
      by_told (λ (g : Framing). ends (BrokenEnd at word)) old next before after count into takes
          (λ left is. ap (frames old.place) (joined old.held left (take took piece) count (taken_is ∙ is))
          ∙ frames_bad old.place x (drop count left) word f.1 ∙ ap (λ a. ends (BrokenEnd a word)) (sym f.0))
          ∙ bad_left at word next after,
      refl,
    )

-- how many bytes were taken then
taken_more : (fed : Fed) (took : ℕ) (piece : List ℕ) (old new : StreamView) → took ≤ length piece → IsFed fed took piece old new → taken new ≡ taken old + took
taken_more More took piece old new le f = ap taken f.2 ∙ omega (arith, length-append old.held piece, f.0)
taken_more Ready took piece old new le f = ap taken f.3 ∙ omega (arith, held_size old.held piece took le, f.2)
taken_more (BrokenWord at word) took piece old new le f = ap taken f.3 ∙ omega (arith, held_size old.held piece took le)

pub told_bytes : (fed : Fed) (took count : ℕ) (old new : StreamView) (before after : Option (List ℕ)) (into : List ℕ) → count ≤ length into
    → took ≤ length (take count into) → TakesFront before after (Bytes count) into → IsFed fed took (take count into) old new
    → IsTrue (is_below old before) → IsTrue (is_below new after)
told_bytes fed took count old new None after into within le takes f below = subst (λ a. IsTrue (is_below new a)) (sym takes) refl
told_bytes fed took count old new (Some left) after into within le takes f below =
    let more = taken_more fed took (take count into) old new le f in
    let less = ltb-true (taken old + length left) (2 ^ 63) below in
    subst (λ a. IsTrue (is_below new a)) (sym takes.0)
    (lt-ltb (taken new + length (drop count left)) (2 ^ 63)
    (omega (arith, more, less, le, length-take count into, within, length-drop count left, takes.2)))

-- what was found since an earlier place
pub found_since : (found : StreamState) (first old new : StreamView) (start before after : Option (List ℕ)) → frames_left first start ≡ frames_left old before
    → HasFound found old new before after → HasFound found first new start after
found_since Going first old new start before after so h = (h.0, h.1, h.2, so ∙ h.3)
found_since Clean first old new start before after so h = so ∙ h
found_since (Cut at) first old new start before after so h = so ∙ h
found_since (Broken at size) first old new start before after so h = so ∙ h
found_since SourceFailed first old new start before after so h = so ∙ h

pub cause_since : (found : StreamState) (first before now : ℕ) → before ≡ first → HasSourceCause found before now → HasSourceCause found first now
cause_since found first before now so h = subst (λ n. HasSourceCause found n now) so h

-- as many bytes as can be counted were taken only from a source that doesn't tell
pub stopped : (first stream : StreamView) (start left : Option (List ℕ)) → frames_left first start ≡ frames_left stream left → IsTrue (is_below stream left)
    → nat_lt (taken stream) (2 ^ 63) ≡ false → frames_left first start ≡ framing_left Clean stream left
stopped first stream start None so below full = so
stopped first stream start (Some left) so below full =
    absurd (omega (arith, ltb-true (taken stream + length left) (2 ^ 63) below, ltb-false (taken stream) (2 ^ 63) full))

pub ruleset reads = (short_below, found_since, cause_since, stopped)
