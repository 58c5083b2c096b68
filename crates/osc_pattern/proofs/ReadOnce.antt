-- Items whose lists are read once: the sets of their bytes, and what they match.
use Rattle.std.proofs.Common.{◌≡◌, ℕ, ◌+◌, ◌*◌, ◌/◌, ◌%◌, ◌^◌, ◌<◌, ◌≤◌, Bool, true, false, ◌||◌, ◌==◌, not}
use Rattle.std.proofs.Common.{List, [], ◌∷◌, ◌++◌, ◌-◌, length, take, drop, refl, arith, sym, ap, ◌∙◌}
use Rattle.std.specs.Prelude.{if◌then◌else◌, set as with_set}
use Rattle.std.specs.Bool.{beq}
use Rattle.std.specs.Int.{bit_at}
use Rattle.std.specs.Int.RustNames.{bit_or}
use Rattle.std.specs.List.{list_any}
use Rattle.std.proofs.Math.ListN.{get_or}
use Rattle.std.proofs.lemmas.List.{get_or-set_same, get_or-set_other, take_rest}
use Rattle.std.proofs.lemmas.Bool.Decides.{nat_tests}
use Rattle.std.proofs.Math.Nat.{mul_comm}
use Rattle.osc_pattern.specs.Items.{is_in_set, set}
use Rattle.osc_pattern.specs.Cuts.{any_rest, after_byte}
use Rattle.osc_pattern.specs.Reading.{match_part}
use Rattle.osc_pattern.specs.declared.bytes.ByteSet.{ByteSet}
use Rattle.osc_pattern.specs.ReadyParts.{is_one_of, is_as, after_one, after_ready, match_ready, ready_size, all_ready_size, IsReady}
use Rattle.osc_pattern.specs.declared.ready.Ready.{Ready}
use Rattle.osc_pattern.proofs.Reaches.{bits-added, next_row, rows_split}
use Rattle.std.proofs.Common.{nat_eq}
use Rattle.osc_pattern.proofs.Matches.{star_matches}
use Rattle.osc_pattern.proofs.Moves.{same_any, rows_less}

-- one byte is added
pub one_added : (words : List ℕ) (byte : ℕ) → length words ≡ 4 → byte < 256 → (other : ℕ)
    → (bit_at (get_or (with_set words (byte / 64) (bit_or (get_or words (byte / 64) 0) (1 * 2 ^ (byte % 64) % 2 ^ 64))) (other / 64) 0) (other % 64) == 1)
    ≡ (other == byte || bit_at (get_or words (other / 64) 0) (other % 64) == 1)
one_added words byte size small other = go (other / 64 == byte / 64) refl where
  new : ℕ
  new = bit_or (get_or words (byte / 64) 0) (1 * 2 ^ (byte % 64) % 2 ^ 64)

  go : (t : Bool) → (other / 64 == byte / 64) ≡ t
      → (bit_at (get_or (with_set words (byte / 64) (bit_or (get_or words (byte / 64) 0) (1 * 2 ^ (byte % 64) % 2 ^ 64))) (other / 64) 0) (other % 64) == 1)
      ≡ (other == byte || bit_at (get_or words (other / 64) 0) (other % 64) == 1)
  go true e =
      let same : other / 64 ≡ byte / 64 = grind (arith, nat_tests) in
      let own : (other % 64 == byte % 64) ≡ (other == byte) = grind (arith, nat_tests) in
      rw same (ap (λ n. bit_at n (other % 64) == 1) (get_or-set_same words (byte / 64) new 0 (omega arith))
      ∙ bits-added (get_or words (byte / 64) 0) (byte % 64) (omega arith) (other % 64)
      ∙ ap (λ t. t || bit_at (get_or words (byte / 64) 0) (other % 64) == 1) own)
  go false e =
      let apart : (other == byte) ≡ false = grind (arith, nat_tests) in
      ap (λ n. bit_at n (other % 64) == 1) (get_or-set_other words (byte / 64) (other / 64) new 0
      (λ same. (let h : (other / 64 == byte / 64) ≡ true = grind (arith, nat_tests) in cc)))
      ∙ ap (λ t. t || bit_at (get_or words (other / 64) 0) (other % 64) == 1) (sym apart)

-- one item more is ready
pub ready_more : (items : List Ready) (item : Ready) (rest left : List ℕ)
    → ((name : List ℕ) → list_any (match_part left) (after_ready item name) ≡ match_part rest name)
    → (name : List ℕ) → match_ready (items ++ item ∷ []) left name ≡ match_ready items rest name
ready_more [] item rest left same name = same name
ready_more (first ∷ items) item rest left same name =
    same_any (match_ready (items ++ item ∷ []) left) (match_ready items rest) (λ name. ready_more items item rest left same name) (after_ready first name)

pub size_more : (items : List Ready) (item : Ready) → all_ready_size (items ++ item ∷ []) ≡ all_ready_size items + ready_size item
size_more [] item = omega arith
size_more (first ∷ items) item = omega (arith, size_more items item)

pub ready_next : (items : List Ready) (item : Ready) (rest left part : List ℕ)
    → ((name : List ℕ) → list_any (match_part left) (after_ready item name) ≡ match_part rest name)
    → ready_size item + length left ≤ length rest → IsReady items rest part → IsReady (items ++ item ∷ []) left part
ready_next items item rest left part same less ready = record {
  same = λ name. ready_more items item rest left same name ∙ ready.same name;
  size = omega (arith, size_more items item, ready.size);
}

pub as_is : (bytes : ByteSet) (within : Bool) (byte : ℕ) (has same : Bool) → has ≡ is_one_of bytes byte → beq has within ≡ same → is_as bytes within byte ≡ same
as_is bytes true byte true same e is = sym e ∙ is
as_is bytes true byte false same e is = sym e ∙ is
as_is bytes false byte true same e is = ap not (sym e) ∙ is
as_is bytes false byte false same e is = ap not (sym e) ∙ is

pub ready_rows : (places size part : ℕ) → size ≤ part → (places + 1) * size + 1 ≤ (part + 1) * (places + 1)
ready_rows places size part less =
    let more = rows_less (places + 1) size part less in
    let row = next_row part (places + 1) in
    let turned : (places + 1) * part ≡ part * (places + 1) = mul_comm (places + 1) part in
    omega arith

-- the first item, and then the others
pub first_ready : (items : List Ready) (first : Ready) (rest name : List ℕ) (places : ℕ → Bool) → 1 ≤ length items
    → any_rest (match_ready items rest) places 0 name
    ≡ any_rest (λ left. list_any (match_ready (take (length items - 1) (drop 1 items)) rest) (after_ready (get_or items 0 first) left)) places 0 name
first_ready [] first rest name places some = absurd (omega arith)
first_ready (item ∷ items) first rest name places some =
    ap (λ others. any_rest (λ left. list_any (match_ready others rest) (after_ready item left)) places 0 name) (sym (take_rest (item ∷ items) 1))

first_size : (items : List Ready) (first : Ready) → 1 ≤ length items
    → all_ready_size items ≡ ready_size (get_or items 0 first) + all_ready_size (take (length items - 1) (drop 1 items))
first_size [] first some = absurd (omega arith)
first_size (item ∷ items) first some = ap (λ others. ready_size item + all_ready_size others) (sym (take_rest (item ∷ items) 1))

-- the steps of the first item and those of the others
pub ready_spent : (items : List Ready) (first : Ready) (places rest old new most : ℕ) → 1 ≤ length items
    → new ≤ old + places * ready_size (get_or items 0 first) → old + places * (all_ready_size items + rest) ≤ most
    → new + places * (all_ready_size (take (length items - 1) (drop 1 items)) + rest) ≤ most
ready_spent items first places rest old new most some spent bound =
    let own = ready_size (get_or items 0 first) in
    let others = all_ready_size (take (length items - 1) (drop 1 items)) in
    let size = first_size items first some in
    let rows = rows_split places own (others + rest) (all_ready_size items + rest) (omega arith) in
    omega arith

-- what a set matches alone
pub set_read : (own : ℕ → Bool) (list : List ℕ) → ((byte : ℕ) → own byte ≡ is_in_set list byte)
    → (name : List ℕ) → after_one own name ≡ after_byte (set list) name
set_read own list same [] = refl
set_read own list same (byte ∷ name) = ap (λ t. if t then name ∷ [] else []) (same byte)

-- a part that is a star alone matches each name
pub star_ready : (items : List Ready) (rest name : List ℕ) → length items ≡ 0 → length rest ≡ 1 → (nat_eq (get_or rest 0 0) 42) ≡ true
    → match_ready items rest name ≡ true
star_ready [] rest name none one is =
    let first : get_or rest 0 0 ≡ 42 = (let h : nat_eq (get_or rest 0 0) 42 ≡ true = is in grind (arith, nat_tests)) in
    star_matches rest name one first
star_ready (item ∷ items) rest name none one is = absurd (omega arith)
