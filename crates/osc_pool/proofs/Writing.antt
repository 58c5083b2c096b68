-- Bytes that are written into blocks and read out of them, one block after another.
use Rattle.std.proofs.Common.{◌≡◌, ◌≢◌, ℕ, suc, ◌+◌, ◌-◌, ◌<◌, ◌≤◌, min, inl, inr, List, [], ◌∷◌, ◌++◌, length, get_or, set, take, drop, refl, sym, ap, ◌∙◌}
use Rattle.std.proofs.Common.{subst, arith, length-append}
use Rattle.std.proofs.lemmas.Bool.{cases_eq}
use Rattle.std.proofs.lemmas.List.{length-set, length-take, length-drop, get_or-set_same, get_or-set_other, append_assoc, append-nil, take_all}
use Rattle.std.proofs.lemmas.Slice.{take-put_mid}
use borrow.Rule.Slice.PartMut.{put_mid, post_of}
use Rattle.osc_pool.specs.Holding.{blocks_for}
use Rattle.osc_pool.specs.Paths.{path, block_after, text, times, IsPath, IsWritten, AreWhole}
use Rattle.osc_pool.proofs.Counts.{times_head, times_none, times_other}
use Rattle.osc_pool.proofs.Walks.{path_inside}

-- one block more is needed than for what a block doesn't hold
pub blocks_more : (size : ℕ) → 0 < size → blocks_for size ≡ suc (blocks_for (size - 64))
blocks_more size some = omega arith

-- what is left of the bytes lies on what is left of the path; once it is written, all bytes are
pub record IsWriting (before now : List (List ℕ)) (next : List ℕ) (first block : ℕ) (bytes rest : List ℕ) : Type 0 where
  pub left : (b : ℕ) → times b (path next (blocks_for (length rest)) block) ≤ times b (path next (blocks_for (length bytes)) first)
  pub ends : block_after next (blocks_for (length rest)) block ≡ block_after next (blocks_for (length bytes)) first
  pub whole : AreWhole now
  pub long : length now ≡ length before
  pub others : (b : ℕ) → times b (path next (blocks_for (length bytes)) first) ≡ 0 → get_or now b [] ≡ get_or before b []
  pub ahead : (later : List (List ℕ)) → ((b : ℕ) → times b (path next (blocks_for (length rest)) block) ≡ 0 → get_or later b [] ≡ get_or now b [])
      → text later next (blocks_for (length rest)) block (length rest) ≡ rest
      → text later next (blocks_for (length bytes)) first (length bytes) ≡ bytes

pub writing_begins : (before : List (List ℕ)) (next : List ℕ) (first : ℕ) (bytes : List ℕ) → AreWhole before
    → IsWriting before before next first first bytes bytes
writing_begins before next first bytes whole = record {
  left = λ b. omega arith;
  ends = refl;
  whole = whole;
  long = refl;
  others = λ b none. refl;
  ahead = λ later same written. written;
}

-- the next block is filled with the next piece
module _ {before now : List (List ℕ)} {next : List ℕ} {first block : ℕ} {bytes rest : List ℕ} (is : IsWriting before now next first block bytes rest)
    (path_is : IsPath next (blocks_for (length bytes)) first (length before)) (some : 0 < length rest) where
  pub writing_inside : block < length now
  writing_inside =
      let below : block < length before =
      path_inside next (blocks_for (length bytes)) first (length before) (blocks_for (length rest)) block path_is (omega arith) is.left in
      omega (arith, is.long)

  module _ (piece others filled : List ℕ) (split : rest ≡ piece ++ others) (piece_long : length piece ≡ min 64 (length rest))
      (taken : take (length piece) filled ≡ piece) (filled_long : length filled ≡ 64) where
    fewer : length rest - 64 ≡ length others
    fewer = omega (arith, ap length split, length-append piece others)

    blocks_fewer : blocks_for (length rest) ≡ suc (blocks_for (length others))
    blocks_fewer = blocks_more (length rest) some ∙ ap (λ n. suc (blocks_for n)) fewer

    rest_times : (b : ℕ) → times b (path next (blocks_for (length rest)) block)
        ≡ times b (block ∷ path next (blocks_for (length others)) (get_or next block 0))
    rest_times b = ap (λ n. times b (path next n block)) blocks_fewer

    block_once : times block (path next (blocks_for (length others)) (get_or next block 0)) ≡ 0
    block_once =
        omega (arith, rest_times block, times_head block (path next (blocks_for (length others)) (get_or next block 0)), is.left block, path_is.once block)

    outside : (b : ℕ) → times b (path next (blocks_for (length bytes)) first) ≡ 0 → b ≢ block
    outside b none same =
        let others_path = path next (blocks_for (length others)) (get_or next block 0) in
        let there : times b (block ∷ others_path) ≡ times b (b ∷ others_path) = ap (λ n. times b (n ∷ others_path)) (sym same) in
        omega (arith, is.left b, rest_times b, there, times_head b others_path)

    filled_whole : AreWhole (set now block filled)
    filled_whole b within = elim (cases_eq b block) [
      | inl same ↦
          ap (λ (n : ℕ). length (get_or (set now block filled) n [])) same ∙ ap length (get_or-set_same now block filled [] writing_inside) ∙ filled_long
      | inr differs ↦ ap length (get_or-set_other now block b filled [] differs) ∙ is.whole b (omega (arith, length-set now block filled))
    ]

    filled_ahead : (later : List (List ℕ))
        → ((b : ℕ) → times b (path next (blocks_for (length others)) (get_or next block 0)) ≡ 0 → get_or later b [] ≡ get_or (set now block filled) b [])
        → text later next (blocks_for (length others)) (get_or next block 0) (length others) ≡ others
        → text later next (blocks_for (length bytes)) first (length bytes) ≡ bytes
    filled_ahead later same written =
        let here : get_or later block [] ≡ filled = same block block_once ∙ get_or-set_same now block filled [] writing_inside in
        let front : take (min 64 (length rest)) (get_or later block []) ≡ piece = rw (here, ← piece_long) taken in
        is.ahead later
        (λ b none. (
        let apart = times_none b block (path next (blocks_for (length others)) (get_or next block 0)) (sym (rest_times b) ∙ none) in
        same b apart.1 ∙ get_or-set_other now block b filled [] apart.0))
        (ap (λ n. text later next n block (length rest)) blocks_fewer ∙ rw (front, fewer, written) (sym split))

    -- another block lies on what is left of the path as often as before
    pub writing_others : (b : ℕ) → (b ≡ block → ⊥)
        → times b (path next (blocks_for (length rest)) block) ≡ times b (path next (blocks_for (length others)) (get_or next block 0))
    writing_others b differs = rest_times b ∙ times_other b block (path next (blocks_for (length others)) (get_or next block 0)) differs

    pub writing_more : (later_block : ℕ) → later_block ≡ get_or next block 0 → IsWriting before (set now block filled) next first later_block bytes others
    writing_more later_block follows = subst (λ (n : ℕ). IsWriting before (set now block filled) next first n bytes others) (sym follows) record {
      left = λ b. omega (arith, is.left b, rest_times b);
      ends = ap (λ n. block_after next n block) (sym blocks_fewer) ∙ is.ends;
      whole = filled_whole;
      long = length-set now block filled ∙ is.long;
      others = λ b none. get_or-set_other now block b filled [] (outside b none) ∙ is.others b none;
      ahead = filled_ahead;
    }

-- at the end all bytes are written
pub writing_ends : {before now : List (List ℕ)} {next : List ℕ} {first block : ℕ} {bytes rest : List ℕ} → IsWriting before now next first block bytes rest
    → length rest ≡ 0 → IsWritten before now next first block bytes
writing_ends {now = now} {next = next} {block = block} {rest = rest} is none = record {
  ends = ap (λ (n : ℕ). block_after next (blocks_for n) block) (sym none) ∙ is.ends;
  written = is.ahead now (λ b _. refl) (ap (λ (n : ℕ). text now next (blocks_for n) block n) none ∙ sym (empty rest none));
  others = is.others;
  whole = is.whole;
  long = is.long;
}
  where
    empty : (bytes : List ℕ) → length bytes ≡ 0 → bytes ≡ []
    empty [] _ = refl
    empty (one ∷ bytes) some = absurd (omega arith)

-- what is read so far and what is left of the path are all bytes
pub record IsReading (blocks : List (List ℕ)) (next : List ℕ) (first block size done : ℕ) (out : List ℕ) : Type 0 where
  pub left : (b : ℕ) → times b (path next (blocks_for (size - done)) block) ≤ times b (path next (blocks_for size) first)
  pub within : done ≤ size
  pub long : length out ≡ size
  pub said : take done out ++ text blocks next (blocks_for (size - done)) block (size - done) ≡ text blocks next (blocks_for size) first size

pub reading_begins : (blocks : List (List ℕ)) (next : List ℕ) (first size : ℕ) (out : List ℕ) → length out ≡ size → IsReading blocks next first first size 0 out
reading_begins blocks next first size out long =
    let whole : size - 0 ≡ size = omega arith in
    record {
      left = λ b. rw whole (omega arith);
      within = omega arith;
      long = long;
      said = ap (λ (n : ℕ). text blocks next (blocks_for n) first n) whole;
    }

module _ {blocks : List (List ℕ)} {next : List ℕ} {first block size done : ℕ} {out : List ℕ} (is : IsReading blocks next first block size done out)
    (path_is : IsPath next (blocks_for size) first (length blocks)) (some : done < size) where
  pub reading_inside : block < length blocks
  reading_inside = path_inside next (blocks_for size) first (length blocks) (blocks_for (size - done)) block path_is (omega arith) is.left

  -- the next piece is read out of the next block
  pub reading_more : (end : ℕ) (piece : List ℕ) → AreWhole blocks → end ≡ min size (done + 64) → piece ≡ take (end - done) (get_or blocks block [])
      → IsReading blocks next first (get_or next block 0) size end (put_mid done (end - done) out piece)
  reading_more end piece whole ends reads =
      let fewer : size - done - 64 ≡ size - end = omega arith in
      let blocks_fewer : blocks_for (size - done) ≡ suc (blocks_for (size - end)) =
      blocks_more (size - done) (omega arith) ∙ ap (λ n. suc (blocks_for n)) fewer in
      let large : end - done ≡ min 64 (size - done) = omega arith in
      let piece_long : length piece ≡ end - done =
      omega (arith, ap length reads, length-take (end - done) (get_or blocks block []), whole block reading_inside) in
      let times_left : (b : ℕ) → times b (path next (blocks_for (size - done)) block)
      ≡ times b (block ∷ path next (blocks_for (size - end)) (get_or next block 0)) =
      λ b. ap (λ n. times b (path next n block)) blocks_fewer in
      let rest = text blocks next (blocks_for (size - end)) (get_or next block 0) (size - end) in
      let text_left : text blocks next (blocks_for (size - done)) block (size - done) ≡ piece ++ rest =
      ap (λ n. text blocks next n block (size - done)) blocks_fewer ∙ rw (fewer, reads, large) refl in
      record {
        left = λ b. omega (arith, is.left b, times_left b);
        within = omega arith;
        long = length-append (take done out) (piece ++ post_of done (end - done) out)
            ∙ omega (
              arith,
              is.long,
              piece_long,
              length-append piece (post_of done (end - done) out),
              length-take done out,
              length-drop done out,
              length-drop (end - done) (drop done out),
            );
        said =
            ap (λ (l : List ℕ). l ++ rest) (take-put_mid done (end - done) out piece end (omega arith) (omega (arith, is.long, is.within)))
            ∙ append_assoc (take done out) piece rest ∙ ap (λ (l : List ℕ). take done out ++ l) (sym text_left) ∙ is.said;
      }

-- at the end all bytes are read
pub reading_ends : {blocks : List (List ℕ)} {next : List ℕ} {first block size done : ℕ} {out : List ℕ} → IsReading blocks next first block size done out
    → size ≤ done → out ≡ text blocks next (blocks_for size) first size
reading_ends {blocks} {next} {first} {block} {size} {done} {out} is ends =
    let none : size - done ≡ 0 = omega arith in
    sym (append-nil out) ∙ ap (λ (l : List ℕ). l ++ []) (sym (take_all done out (omega (arith, is.long))))
    ∙ ap (λ (n : ℕ). take done out ++ text blocks next (blocks_for n) block n) (sym none) ∙ is.said
