-- A pool before and after bytes are stored and given back.
use Rattle.std.proofs.Common.{◌≡◌, ◌≢◌, ℕ, ◌+◌, ◌-◌, ◌<◌, ◌≤◌, inl, inr, List, [], ◌∷◌, ◌++◌, length, get_or, set, sum_by, refl, sym, ap, ◌∙◌, subst, arith}
use Rattle.std.proofs.Common.{zero-add}
use Rattle.std.proofs.lemmas.Bool.{cases_eq, cases_lt}
use Rattle.std.proofs.lemmas.List.{length-set, get_or-set_same, get_or-set_other, get_or_past, ext_get_or}
use Rattle.std.proofs.lemmas.List.Sums.{sum_by-set}
use Rattle.osc_pool.specs.declared.chain.Chain.{Chain}
use Rattle.osc_pool.specs.Holding.{blocks_for, used_blocks, held_by, with_chain, IsLive, IsNew, KeepsLive, KeepsOthers}
use Rattle.osc_pool.specs.Paths.{path, block_after, filled_up, text, paths_from, texts_from, times, uses, IsPath, AreWhole, IsWritten, IsSound}
use Rattle.osc_pool.proofs.Counts.{times-append, times_head, times_part, times_parts}
use Rattle.osc_pool.proofs.Live.{held_none, held_some, with_some, is_new, keeps_live, keeps_others, holds}
use Rattle.osc_pool.proofs.Walks.{path-add, block_after-add, path_kept, block_after_kept, text_relinked, text_same, length-text, length-paths, length-texts, path_at}
use Rattle.osc_pool.proofs.Walks.{text_at, times_first, paths_set, paths_same, used-texts}

module _ {blocks : List (List ℕ)} {next sizes : List ℕ} {first free : ℕ} (is : IsSound blocks next sizes first free) where
  -- the blocks of the chain that begins at a block, found among all chains
  chain_part : (b i : ℕ) → times b (path next (blocks_for (get_or sizes i 0)) i) ≤ sum_by (times b) (paths_from next 0 sizes)
  chain_part b i =
      let at : get_or (paths_from next 0 sizes) i [] ≡ path next (blocks_for (get_or sizes i 0)) i = rw zero-add at (path_at next 0 sizes i) in
      let same : times b (get_or (paths_from next 0 sizes) i []) ≡ times b (path next (blocks_for (get_or sizes i 0)) i) = ap (times b) at in
      omega (arith, times_part b (paths_from next 0 sizes) i)

  chain_parts : (b i j : ℕ) → i < length sizes → j ≢ i
      → times b (path next (blocks_for (get_or sizes i 0)) i) + times b (path next (blocks_for (get_or sizes j 0)) j)
      ≤ sum_by (times b) (paths_from next 0 sizes)
  chain_parts b i j within apart =
      let at : get_or (paths_from next 0 sizes) i [] ≡ path next (blocks_for (get_or sizes i 0)) i = rw zero-add at (path_at next 0 sizes i) in
      let other : get_or (paths_from next 0 sizes) j [] ≡ path next (blocks_for (get_or sizes j 0)) j = rw zero-add at (path_at next 0 sizes j) in
      let same : times b (get_or (paths_from next 0 sizes) i []) ≡ times b (path next (blocks_for (get_or sizes i 0)) i) = ap (times b) at in
      let same' : times b (get_or (paths_from next 0 sizes) j []) ≡ times b (path next (blocks_for (get_or sizes j 0)) j) = ap (times b) other in
      omega (arith, times_parts b (paths_from next 0 sizes) i j (omega (arith, length-paths next 0 sizes)) apart)

  -- a block of a chain lies in the pool
  chain_inside : (b i : ℕ) → 0 < times b (path next (blocks_for (get_or sizes i 0)) i) → b < length blocks
  chain_inside b i stands = elim (cases_lt b (length blocks)) [
    | inl below ↦ below
    | inr above ↦ absurd (omega (arith, is.inside b above, chain_part b i))
  ]

  -- a chain has as many bytes as its size says
  chain_long : (i : ℕ) → length (text blocks next (blocks_for (get_or sizes i 0)) i (get_or sizes i 0)) ≡ get_or sizes i 0
  chain_long i = length-text blocks next (blocks_for (get_or sizes i 0)) i (get_or sizes i 0)
      (λ b stands. is.whole b (chain_inside b i stands)) (omega arith)

  -- what the pool holds from a block on
  pub held_at : (i : ℕ) → get_or (texts_from blocks next 0 sizes) i [] ≡ text blocks next (blocks_for (get_or sizes i 0)) i (get_or sizes i 0)
  held_at i = rw zero-add at (text_at blocks next 0 sizes i)

  pub held_long : (i : ℕ) → length (get_or (texts_from blocks next 0 sizes) i []) ≡ get_or sizes i 0
  held_long i = ap length (held_at i) ∙ chain_long i

  -- the chains take the blocks that aren't free
  pub used_is : free + used_blocks (texts_from blocks next 0 sizes) ≡ length blocks
  used_is = omega (arith, is.counted, used-texts blocks next 0 sizes (λ i. rw zero-add (chain_long i)))

  -- so the free blocks and those that the chains take are all
  pub free_is_left : free + used_blocks (texts_from blocks next 0 sizes) ≡ length (texts_from blocks next 0 sizes)
  free_is_left = used_is ∙ sym (length-texts blocks next 0 sizes ∙ is.sized)

  pub limit_is : length (texts_from blocks next 0 sizes) ≡ length blocks
  limit_is = length-texts blocks next 0 sizes ∙ is.sized

  -- free blocks are a path
  pub free_path : (count : ℕ) → count ≤ free → IsPath next count first (length blocks)
  free_path count few =
      let parts : path next free first ≡ path next count first ++ path next (free - count) (block_after next count first) =
      (let e : free ≡ count + (free - count) = omega arith in ap (λ n. path next n first) e ∙ path-add next count (free - count) first) in
      let counts : (b : ℕ) → times b (path next free first) ≡ times b (path next count first) + times b (path next (free - count) (block_after next count first)) =
      λ b. ap (times b) parts ∙ times-append b _ _ in
      record {
        once = λ b. omega (arith, counts b, is.apart b);
        inside = λ b above. omega (arith, counts b, is.inside b above);
      }

  -- the blocks of a chain are a path
  pub chain_path : (i : ℕ) → IsPath next (blocks_for (get_or sizes i 0)) i (length blocks)
  chain_path i = record {
    once = λ b. omega (arith, is.apart b, chain_part b i);
    inside = λ b above. omega (arith, is.inside b above, chain_part b i);
  }

  -- a live chain that holds bytes begins where the pool has a chain of its size
  pub live_size : (chain : Chain) → IsLive chain (texts_from blocks next 0 sizes) → (chain.len ≡ 0 → ⊥) → get_or sizes chain.first 0 ≡ chain.len
  live_size chain live some = sym (held_long chain.first) ∙ ap length (sym (held_some chain (texts_from blocks next 0 sizes) some)) ∙ live

  pub live_inside : (chain : Chain) → IsLive chain (texts_from blocks next 0 sizes) → (chain.len ≡ 0 → ⊥) → chain.first < length sizes
  live_inside chain live some = elim (cases_lt chain.first (length sizes)) [
    | inl below ↦ below
    | inr above ↦ absurd (omega (arith, live_size chain live some, get_or_past sizes chain.first 0 above, some))
  ]

  -- the blocks of a live chain are a path
  pub live_path : (chain : Chain) → IsLive chain (texts_from blocks next 0 sizes) → IsPath next (blocks_for chain.len) chain.first (length blocks)
  live_path chain live = elim (cases_eq chain.len 0) [
    | inl none ↦ subst (λ (n : ℕ). IsPath next (blocks_for n) chain.first (length blocks)) (sym none)
        (record { once = λ b. omega arith; inside = λ b above. refl })
    | inr some ↦ subst (λ (n : ℕ). IsPath next (blocks_for n) chain.first (length blocks)) (live_size chain live some) (chain_path chain.first)
  ]

  -- among those that were reached
  pub live_reached : (chain : Chain) (count : ℕ) → IsLive chain (texts_from blocks next 0 sizes)
      → ((b : ℕ) → count ≤ b → sum_by (times b) (paths_from next 0 sizes) ≡ 0) → IsPath next (blocks_for chain.len) chain.first count
  live_reached chain count live reached = elim (cases_eq chain.len 0) [
    | inl none ↦ subst (λ (n : ℕ). IsPath next (blocks_for n) chain.first count) (sym none) (record { once = λ b. omega arith; inside = λ b above. refl })
    | inr some ↦ subst (λ (n : ℕ). IsPath next (blocks_for n) chain.first count) (live_size chain live some) (record {
      once = (chain_path chain.first).once;
      inside = λ b above. omega (arith, reached b above, chain_part b chain.first);
    })
  ]

  -- and have its bytes
  pub live_text : (chain : Chain) → IsLive chain (texts_from blocks next 0 sizes)
      → text blocks next (blocks_for chain.len) chain.first chain.len ≡ held_by chain (texts_from blocks next 0 sizes)
  live_text chain live = elim (cases_eq chain.len 0) [
    | inl none ↦ ap (λ (n : ℕ). text blocks next (blocks_for n) chain.first n) none ∙ sym (held_none chain (texts_from blocks next 0 sizes) none)
    | inr some ↦
        ap (λ (n : ℕ). text blocks next (blocks_for n) chain.first n) (sym (live_size chain live some)) ∙ sym (held_at chain.first)
        ∙ sym (held_some chain (texts_from blocks next 0 sizes) some)
  ]

  -- where a block is free, no chain begins at the first free one
  pub first_vacant : 0 < free → get_or sizes first 0 ≡ 0
  first_vacant some = elim (cases_eq (get_or sizes first 0) 0) [
    | inl none ↦ none
    | inr size ↦ absurd (omega (
      arith,
      is.apart first,
      times_first next free first some,
      times_first next (blocks_for (get_or sizes first 0)) first (omega arith),
      chain_part first first,
    ))
  ]

  pub first_inside : 0 < free → first < length blocks
  first_inside some = elim (cases_lt first (length blocks)) [
    | inl below ↦ below
    | inr above ↦ absurd (omega (arith, is.inside first above, times_first next free first some))
  ]

  -- where a chain comes to begin at the first free block, its blocks stand in the chains besides
  pub sums_stored : (size b : ℕ) → 0 < free
      → sum_by (times b) (paths_from next 0 (set sizes first size)) ≡ sum_by (times b) (paths_from next 0 sizes) + times b (path next (blocks_for size) first)
  sums_stored size b some =
      let paths = paths_from next 0 sizes in
      let taken = path next (blocks_for size) first in
      let set_is : paths_from next 0 (set sizes first size) ≡ set paths first taken = rw zero-add at (paths_set next 0 sizes first size) in
      let none : get_or paths first [] ≡ [] = path_at next 0 sizes first ∙ rw (first_vacant some) refl in
      let none' : times b (get_or paths first []) ≡ 0 = ap (times b) none in
      let sums : sum_by (times b) (paths_from next 0 (set sizes first size)) ≡ sum_by (times b) (set paths first taken) = ap (sum_by (times b)) set_is in
      let inside : first < length paths = omega (arith, first_inside some, is.sized, length-paths next 0 sizes) in
      omega (arith, sums, none', sum_by-set (times b) paths first taken [] inside)

  -- bytes that are written on the first free blocks
  module _ (later : List (List ℕ)) (bytes : List ℕ) (some : 0 < length bytes) (few : blocks_for (length bytes) ≤ free)
      (written : text later next (blocks_for (length bytes)) first (length bytes) ≡ bytes)
      (others : (b : ℕ) → times b (path next (blocks_for (length bytes)) first) ≡ 0 → get_or later b [] ≡ get_or blocks b []) where
    taken_part : (b : ℕ) → times b (path next free first)
        ≡ times b (path next (blocks_for (length bytes)) first)
        + times b (path next (free - blocks_for (length bytes)) (block_after next (blocks_for (length bytes)) first))
    taken_part b =
        let e : free ≡ blocks_for (length bytes) + (free - blocks_for (length bytes)) = omega arith in
        ap (λ n. times b (path next n first)) e
        ∙ ap (times b) (path-add next (blocks_for (length bytes)) (free - blocks_for (length bytes)) first) ∙ times-append b _ _

    text_stays : (i : ℕ) → text later next (blocks_for (get_or sizes i 0)) i (get_or sizes i 0)
        ≡ text blocks next (blocks_for (get_or sizes i 0)) i (get_or sizes i 0)
    text_stays i = text_same blocks later next (blocks_for (get_or sizes i 0)) i (get_or sizes i 0)
        (λ b stands. others b (omega (arith, is.apart b, taken_part b, chain_part b i)))

    pub stored_view : texts_from later next 0 (set sizes first (length bytes)) ≡ set (texts_from blocks next 0 sizes) first bytes
    stored_view =
        let long : length (texts_from later next 0 (set sizes first (length bytes))) ≡ length (set (texts_from blocks next 0 sizes) first bytes) =
        omega (
          arith,
          length-texts later next 0 (set sizes first (length bytes)),
          length-set sizes first (length bytes),
          length-texts blocks next 0 sizes,
          length-set (texts_from blocks next 0 sizes) first bytes,
        ) in
        let inside : first < length sizes = omega (arith, first_inside (omega arith), is.sized) in
        ext_get_or [] _ _ long (λ i _. elim (cases_eq i first) [
          | inl same ↦
              let size : get_or (set sizes first (length bytes)) i 0 ≡ length bytes = rw same (get_or-set_same sizes first (length bytes) 0 inside) in
              text_at later next 0 (set sizes first (length bytes)) i ∙ rw (zero-add, size, same) written
              ∙ sym (get_or-set_same (texts_from blocks next 0 sizes) first bytes [] (omega (arith, length-texts blocks next 0 sizes)))
              ∙ ap (λ (n : ℕ). get_or (set (texts_from blocks next 0 sizes) first bytes) n []) (sym same)
          | inr differs ↦
              let size : get_or (set sizes first (length bytes)) i 0 ≡ get_or sizes i 0 = get_or-set_other sizes first i (length bytes) 0 differs in
              text_at later next 0 (set sizes first (length bytes)) i ∙ rw (zero-add, size) (text_stays i) ∙ sym (held_at i)
              ∙ sym (get_or-set_other (texts_from blocks next 0 sizes) first i bytes [] differs)
        ])

    uses_stored : (b : ℕ) → uses next (set sizes first (length bytes)) (block_after next (blocks_for (length bytes)) first) (free - blocks_for (length bytes)) b
        ≡ uses next sizes first free b
    uses_stored b = omega (arith, taken_part b, sums_stored (length bytes) b (omega arith))

    pub stored_sound : AreWhole later → length later ≡ length blocks
        → IsSound later next (set sizes first (length bytes)) (block_after next (blocks_for (length bytes)) first) (free - blocks_for (length bytes))
    stored_sound whole same =
        let inside : first < length sizes = omega (arith, first_inside (omega arith), is.sized) in
        let none : blocks_for (get_or sizes first 0) ≡ 0 = ap blocks_for (first_vacant (omega arith)) in
        record {
          linked = is.linked ∙ sym same;
          sized = length-set sizes first (length bytes) ∙ is.sized ∙ sym same;
          few = omega (arith, is.few);
          whole = whole;
          apart = λ b. omega (arith, uses_stored b, is.apart b);
          inside = λ b above. omega (arith, uses_stored b, is.inside b (omega arith));
          counted = omega (arith, is.counted, none, sum_by-set blocks_for sizes first (length bytes) 0 inside);
        }

  -- the chain that begins at a block is given back, whose last block is this one
  module _ (i last : ℕ) (within : i < length sizes) (some : 0 < get_or sizes i 0) (ends : last ≡ block_after next (blocks_for (get_or sizes i 0) - 1) i) where
    front : List ℕ
    front = path next (blocks_for (get_or sizes i 0) - 1) i

    whole_is : path next (blocks_for (get_or sizes i 0)) i ≡ path next (blocks_for (get_or sizes i 0) - 1) i ++ last ∷ []
    whole_is =
        let e : blocks_for (get_or sizes i 0) ≡ blocks_for (get_or sizes i 0) - 1 + 1 = omega arith in
        ap (λ n. path next n i) e ∙ path-add next (blocks_for (get_or sizes i 0) - 1) 1 i ∙ rw ends refl

    whole_counts : (b : ℕ) → times b (path next (blocks_for (get_or sizes i 0)) i)
        ≡ times b (path next (blocks_for (get_or sizes i 0) - 1) i) + times b (last ∷ [])
    whole_counts b = ap (times b) whole_is ∙ times-append b _ _

    last_there : 1 ≤ times last (path next (blocks_for (get_or sizes i 0)) i)
    last_there = omega (arith, whole_counts last, times_head last [])

    pub last_inside : last < length blocks
    last_inside = chain_inside last i last_there

    -- the links of the front, of the free blocks and of the other chains stay
    front_apart : times last (path next (blocks_for (get_or sizes i 0) - 1) i) ≡ 0
    front_apart = omega (arith, whole_counts last, times_head last [], chain_part last i, is.apart last)

    free_apart : times last (path next free first) ≡ 0
    free_apart = omega (arith, last_there, chain_part last i, is.apart last)

    other_apart : (j : ℕ) → j ≢ i → times last (path next (blocks_for (get_or sizes j 0)) j) ≡ 0
    other_apart j apart = omega (arith, last_there, chain_parts last i j within apart, is.apart last)

    linked_last : get_or (set next last first) last 0 ≡ first
    linked_last = get_or-set_same next last first 0 (omega (arith, last_inside, is.linked))

    front_after : block_after (set next last first) (blocks_for (get_or sizes i 0) - 1) i ≡ last
    front_after = block_after_kept next last first (blocks_for (get_or sizes i 0) - 1) i front_apart ∙ sym ends

    chain_stays : path (set next last first) (blocks_for (get_or sizes i 0)) i ≡ path next (blocks_for (get_or sizes i 0)) i
    chain_stays =
        let e : blocks_for (get_or sizes i 0) ≡ blocks_for (get_or sizes i 0) - 1 + 1 = omega arith in
        ap (λ n. path (set next last first) n i) e ∙ path-add (set next last first) (blocks_for (get_or sizes i 0) - 1) 1 i
        ∙ rw (front_after, path_kept next last first (blocks_for (get_or sizes i 0) - 1) i front_apart) refl ∙ sym whole_is

    chain_after : block_after (set next last first) (blocks_for (get_or sizes i 0)) i ≡ first
    chain_after =
        let e : blocks_for (get_or sizes i 0) ≡ blocks_for (get_or sizes i 0) - 1 + 1 = omega arith in
        ap (λ n. block_after (set next last first) n i) e ∙ block_after-add (set next last first) (blocks_for (get_or sizes i 0) - 1) 1 i
        ∙ rw front_after linked_last

    free_is : path (set next last first) (free + blocks_for (get_or sizes i 0)) i
        ≡ path next (blocks_for (get_or sizes i 0)) i ++ path next free first
    free_is =
        let e : free + blocks_for (get_or sizes i 0) ≡ blocks_for (get_or sizes i 0) + free = omega arith in
        ap (λ n. path (set next last first) n i) e ∙ path-add (set next last first) (blocks_for (get_or sizes i 0)) free i
        ∙ rw (chain_stays, chain_after, path_kept next last first free first free_apart) refl

    path_stays : (j : ℕ) → path (set next last first) (blocks_for (get_or sizes j 0)) j ≡ path next (blocks_for (get_or sizes j 0)) j
    path_stays j = elim (cases_eq j i) [
      | inl same ↦ rw same chain_stays
      | inr differs ↦ path_kept next last first (blocks_for (get_or sizes j 0)) j (other_apart j differs)
    ]

    uses_given : (b : ℕ) → uses (set next last first) (set sizes i 0) i (free + blocks_for (get_or sizes i 0)) b ≡ uses next sizes first free b
    uses_given b =
        let paths = paths_from next 0 sizes in
        let set_is : paths_from (set next last first) 0 (set sizes i 0) ≡ set paths i [] =
        paths_set (set next last first) 0 sizes i 0 ∙ ap (λ (l : List (List ℕ)). set l i []) (paths_same next (set next last first) sizes path_stays) in
        let here : get_or paths i [] ≡ path next (blocks_for (get_or sizes i 0)) i = rw zero-add at (path_at next 0 sizes i) in
        let here' : times b (get_or paths i []) ≡ times b (path next (blocks_for (get_or sizes i 0)) i) = ap (times b) here in
        let sums : sum_by (times b) (paths_from (set next last first) 0 (set sizes i 0)) ≡ sum_by (times b) (set paths i []) = ap (sum_by (times b)) set_is in
        let frees : times b (path (set next last first) (free + blocks_for (get_or sizes i 0)) i)
        ≡ times b (path next (blocks_for (get_or sizes i 0)) i) + times b (path next free first) =
        ap (times b) free_is ∙ times-append b _ _ in
        omega (arith, sums, here', frees, sum_by-set (times b) paths i [] [] (omega (arith, length-paths next 0 sizes)))

    pub sums_given : (b : ℕ) → sum_by (times b) (paths_from (set next last first) 0 (set sizes i 0)) ≤ sum_by (times b) (paths_from next 0 sizes)
    sums_given b =
        omega (arith, uses_given b, ap (times b) free_is, times-append b (path next (blocks_for (get_or sizes i 0)) i) (path next free first))

    pub given_sound : IsSound blocks (set next last first) (set sizes i 0) i (free + blocks_for (get_or sizes i 0))
    given_sound = record {
      linked = length-set next last first ∙ is.linked;
      sized = length-set sizes i 0 ∙ is.sized;
      few = is.few;
      whole = is.whole;
      apart = λ b. omega (arith, uses_given b, is.apart b);
      inside = λ b above. omega (arith, uses_given b, is.inside b above);
      counted = omega (arith, is.counted, sum_by-set blocks_for sizes i 0 0 within);
    }

    pub given_view : texts_from blocks (set next last first) 0 (set sizes i 0) ≡ set (texts_from blocks next 0 sizes) i []
    given_view =
        let long : length (texts_from blocks (set next last first) 0 (set sizes i 0)) ≡ length (set (texts_from blocks next 0 sizes) i []) =
        omega (
          arith,
          length-texts blocks (set next last first) 0 (set sizes i 0),
          length-set sizes i 0,
          length-texts blocks next 0 sizes,
          length-set (texts_from blocks next 0 sizes) i [],
        ) in
        ext_get_or [] _ _ long (λ j _. elim (cases_eq j i) [
          | inl same ↦
              let size : get_or (set sizes i 0) j 0 ≡ 0 = rw same (get_or-set_same sizes i 0 0 within) in
              text_at blocks (set next last first) 0 (set sizes i 0) j ∙ ap (λ (n : ℕ). text blocks (set next last first) (blocks_for n) (0 + j) n) size
              ∙ sym (get_or-set_same (texts_from blocks next 0 sizes) i [] [] (omega (arith, length-texts blocks next 0 sizes)))
              ∙ ap (λ (n : ℕ). get_or (set (texts_from blocks next 0 sizes) i []) n []) (sym same)
          | inr differs ↦
              let size : get_or (set sizes i 0) j 0 ≡ get_or sizes j 0 = get_or-set_other sizes i j 0 0 differs in
              text_at blocks (set next last first) 0 (set sizes i 0) j
              ∙ rw (zero-add, size) (text_relinked blocks next last first (blocks_for (get_or sizes j 0)) j (get_or sizes j 0) (other_apart j differs))
              ∙ sym (held_at j) ∙ sym (get_or-set_other (texts_from blocks next 0 sizes) i j [] [] differs)
        ])

-- a pool in which a chain has come to hold bytes
pub record IsStored (blocks : List (List ℕ)) (next sizes : List ℕ) (first free : ℕ) (chain : Chain) (bytes : List ℕ) (old : List (List ℕ)) : Type 0 where
  pub sound : IsSound blocks next sizes first free
  pub ok : texts_from blocks next 0 sizes ≡ with_chain chain bytes old
  pub stored : held_by chain (texts_from blocks next 0 sizes) ≡ bytes
  pub new : IsNew chain old
  pub kept : KeepsLive old (texts_from blocks next 0 sizes)
  pub used : used_blocks (texts_from blocks next 0 sizes) ≡ used_blocks old + blocks_for (length bytes)
  pub limit : length (texts_from blocks next 0 sizes) ≡ length old

stored_is : {blocks now : List (List ℕ)} {next sizes : List ℕ} {first free after_it : ℕ} (old : List (List ℕ)) (bytes : List ℕ)
    → IsSound blocks next sizes first free → texts_from blocks next 0 sizes ≡ old → 0 < length bytes → blocks_for (length bytes) ≤ free
    → IsWritten blocks now next first after_it bytes
    → IsStored now next (set sizes first (length bytes)) after_it (free - blocks_for (length bytes)) (record { first = first; len = length bytes }) bytes old
stored_is {blocks} {now} {next} {sizes} {first} {free} {after_it} old bytes is view some few written =
    let chain : Chain = record { first = first; len = length bytes } in
    let sound = subst (λ (n : ℕ). IsSound now next (set sizes first (length bytes)) n (free - blocks_for (length bytes))) (sym written.ends)
    (stored_sound is now bytes some few written.written written.others written.whole written.long) in
    let vacant : get_or old first [] ≡ [] =
    ap (λ (l : List (List ℕ)). get_or l first []) (sym view) ∙ held_at is first
    ∙ ap (λ (n : ℕ). text blocks next (blocks_for n) first n) (first_vacant is (omega arith)) in
    let inside : first < length old = omega (arith, ap length view, limit_is is, first_inside is (omega arith)) in
    let ok : texts_from now next 0 (set sizes first (length bytes)) ≡ with_chain chain bytes old =
    stored_view is now bytes some few written.written written.others ∙ ap (λ (l : List (List ℕ)). set l first bytes) view
    ∙ sym (with_some chain bytes old (λ none. absurd (omega arith))) in
    record {
      sound = sound;
      ok = ok;
      stored = ap (held_by chain) ok ∙ holds chain bytes old refl (λ _. inside);
      new = is_new chain old (λ _. vacant);
      kept = λ other live. ap (held_by other) ok ∙ keeps_live chain bytes old (λ _. vacant) other live;
      used = omega (arith, used_is is, used_is sound, ap used_blocks view, written.long);
      limit = omega (arith, limit_is is, limit_is sound, ap length view, written.long);
    }

-- the same, as it is seen through slices
pub stored : {next links sizes : List ℕ} {first free after_it need : ℕ} (blocks now old : List (List ℕ)) (bytes : List ℕ)
    → IsSound (filled_up (length next) blocks) next sizes first free → texts_from (filled_up (length next) blocks) next 0 sizes ≡ old → 0 < length bytes
    → need ≡ blocks_for (length bytes) → need ≤ free → links ≡ next
    → IsWritten (filled_up (length links) blocks) (filled_up (length links) now) links first after_it bytes
    → IsStored (filled_up (length next) now) next (set sizes first (length bytes)) after_it (free - need)
    (record { first = first; len = length bytes }) bytes old
stored {first = first} {after_it = after_it} blocks now old bytes is view some needs few links_are written =
    rw needs (stored_is old bytes is view some (omega arith)
    (subst (λ (n : List ℕ). IsWritten (filled_up (length n) blocks) (filled_up (length n) now) n first after_it bytes) links_are written))

-- a pool in which the chain that began here holds nothing more
pub record IsGiven (blocks : List (List ℕ)) (next sizes : List ℕ) (first free : ℕ) (chain : Chain) (old : List (List ℕ)) : Type 0 where
  pub sound : IsSound blocks next sizes first free
  pub given : texts_from blocks next 0 sizes ≡ with_chain chain [] old
  pub kept : KeepsOthers chain old (texts_from blocks next 0 sizes)
  pub used : used_blocks (texts_from blocks next 0 sizes) + blocks_for chain.len ≡ used_blocks old
  pub limit : length (texts_from blocks next 0 sizes) ≡ length old

given_is : {blocks : List (List ℕ)} {next sizes : List ℕ} {first free last : ℕ} (chain : Chain) → (is : IsSound blocks next sizes first free)
    → IsLive chain (texts_from blocks next 0 sizes) → (chain.len ≡ 0 → ⊥) → last ≡ block_after next (blocks_for chain.len - 1) chain.first
    → IsGiven blocks (set next last first) (set sizes chain.first 0) chain.first (free + blocks_for chain.len) chain (texts_from blocks next 0 sizes)
given_is {blocks} {next} {sizes} {first} {free} {last} chain is live some ends =
    let size : get_or sizes chain.first 0 ≡ chain.len = live_size is chain live some in
    let inside = live_inside is chain live some in
    let ends' : last ≡ block_after next (blocks_for (get_or sizes chain.first 0) - 1) chain.first = rw size ends in
    let some' : 0 < get_or sizes chain.first 0 = omega arith in
    let sound : IsSound blocks (set next last first) (set sizes chain.first 0) chain.first (free + blocks_for chain.len) =
    subst (λ (n : ℕ). IsSound blocks (set next last first) (set sizes chain.first 0) chain.first (free + blocks_for n)) size
    (given_sound is chain.first last inside some' ends') in
    let given : texts_from blocks (set next last first) 0 (set sizes chain.first 0) ≡ with_chain chain [] (texts_from blocks next 0 sizes) =
    given_view is chain.first last inside some' ends' ∙ sym (with_some chain [] (texts_from blocks next 0 sizes) some) in
    record {
      sound = sound;
      given = given;
      kept = λ other apart. ap (held_by other) given ∙ keeps_others chain [] (texts_from blocks next 0 sizes) other apart;
      used = omega (arith, used_is is, used_is sound);
      limit = omega (arith, limit_is is, limit_is sound);
    }

pub given : {next links sizes : List ℕ} {first free last count : ℕ} (blocks : List (List ℕ)) (chain : Chain) (old : List (List ℕ))
    → IsSound (filled_up (length next) blocks) next sizes first free → texts_from (filled_up (length next) blocks) next 0 sizes ≡ old → IsLive chain old
    → (chain.len ≡ 0 → ⊥) → count ≡ blocks_for chain.len → links ≡ next → last ≡ block_after links (count - 1) chain.first
    → IsGiven (filled_up (length (set next last first)) blocks) (set next last first) (set sizes chain.first 0) chain.first (free + count) chain old
given {next} {links} {sizes} {first} {free} {last} {count} blocks chain old is view live some counts links_are ends =
    let ends' : last ≡ block_after next (blocks_for chain.len - 1) chain.first = ends ∙ rw (links_are, counts) refl in
    subst (λ (l : List (List ℕ)). IsGiven (filled_up (length (set next last first)) blocks) (set next last first) (set sizes chain.first 0) chain.first
    (free + count) chain l) view
    (subst (λ (n : ℕ). IsGiven (filled_up n blocks) (set next last first) (set sizes chain.first 0) chain.first (free + count) chain
    (texts_from (filled_up (length next) blocks) next 0 sizes)) (sym (length-set next last first))
    (rw counts (given_is chain is (subst (λ (l : List (List ℕ)). IsLive chain l) (sym view) live) some ends')))

-- no block stands in the chains that are left more often
pub given_sums : {blocks : List (List ℕ)} {next links sizes : List ℕ} {first free last count : ℕ} (chain : Chain) (old : List (List ℕ))
    → IsSound blocks next sizes first free → texts_from blocks next 0 sizes ≡ old → IsLive chain old → (chain.len ≡ 0 → ⊥)
    → count ≡ blocks_for chain.len → links ≡ next → last ≡ block_after links (count - 1) chain.first
    → (b : ℕ) → sum_by (times b) (paths_from (set next last first) 0 (set sizes chain.first 0)) ≤ sum_by (times b) (paths_from next 0 sizes)
given_sums {blocks} {next} {links} {sizes} {first} {free} {last} {count} chain old is view live some counts links_are ends =
    let live' = subst (λ (l : List (List ℕ)). IsLive chain l) (sym view) live in
    let size : get_or sizes chain.first 0 ≡ chain.len = live_size is chain live' some in
    let ends' : last ≡ block_after next (blocks_for (get_or sizes chain.first 0) - 1) chain.first = ends ∙ rw (links_are, counts, size) refl in
    sums_given is chain.first last (live_inside is chain live' some) (omega arith) ends'

-- the last block of a chain lies in the pool
pub last_within : {blocks : List (List ℕ)} {next links sizes : List ℕ} {first free last count : ℕ} (chain : Chain) (old : List (List ℕ))
    → IsSound blocks next sizes first free → texts_from blocks next 0 sizes ≡ old → IsLive chain old → (chain.len ≡ 0 → ⊥)
    → count ≡ blocks_for chain.len → links ≡ next → last ≡ block_after links (count - 1) chain.first → last < length next
last_within {blocks} {next} {links} {sizes} {first} {free} {last} {count} chain old is view live some counts links_are ends =
    let live' = subst (λ (l : List (List ℕ)). IsLive chain l) (sym view) live in
    let size : get_or sizes chain.first 0 ≡ chain.len = live_size is chain live' some in
    let ends' : last ≡ block_after next (blocks_for (get_or sizes chain.first 0) - 1) chain.first = ends ∙ rw (links_are, counts, size) refl in
    omega (arith, is.linked, last_inside is chain.first last (live_inside is chain live' some) (omega arith) ends')

-- the same, where the size is known otherwise
pub stored_as : {next links sizes : List ℕ} {first free after_it need : ℕ} (blocks now old : List (List ℕ)) (bytes : List ℕ) (size : ℕ) → size ≡ length bytes
    → IsSound (filled_up (length next) blocks) next sizes first free → texts_from (filled_up (length next) blocks) next 0 sizes ≡ old → 0 < length bytes
    → need ≡ blocks_for (length bytes) → need ≤ free → links ≡ next
    → IsWritten (filled_up (length links) blocks) (filled_up (length links) now) links first after_it bytes
    → IsStored (filled_up (length next) now) next (set sizes first size) after_it (free - need) (record { first = first; len = size }) bytes old
stored_as blocks now old bytes size sized is view some needs few links_are written = rw sized (stored blocks now old bytes is view some needs few links_are written)
