-- Fronts of texts that grow.
use Rattle.std.proofs.Common.{◌≡◌, ◌≤◌, ◌+◌, ◌-◌, ℕ, List, ◌++◌, length, take, drop, min, Option, Some, None, IfSome, sym, ap, subst, ◌∙◌, inl, inr, arith}
use Rattle.std.proofs.Common.{append_assoc, length-append, length-drop, length-take}
use Rattle.std.proofs.Math.Seq.{take-add}
use Rattle.std.proofs.lemmas.Bool.{cases_lt}
use Rattle.std.proofs.lemmas.List.{append-nil, take-append-le, take_all, take-take, take_at, take_min, length-take-le}
use Rattle.osc_live.specs.Reads.{part, Writes}

-- what an option holds has gained a text, or some front of it
abbrev pub Gained : Option (List ℕ) → Option (List ℕ) → List ℕ → Type 0
Gained held after text = IfSome held (λ before. after ≡ Some (before ++ text))

abbrev pub Front : Option (List ℕ) → Option (List ℕ) → List ℕ → Type 0
Front held after text = IfSome held (λ before. (count : ℕ) × (after ≡ Some (before ++ take count text)))

pub gained_none : (held : Option (List ℕ)) (text : List ℕ) → Gained held held (take 0 text)
gained_none None text = tt
gained_none (Some before) text = ap Some (sym (append-nil before))

-- one text after another
pub gained_both : (held mid after : Option (List ℕ)) (one other : List ℕ) → Gained held mid one → Gained mid after other → Gained held after (one ++ other)
gained_both None mid after one other first then = tt
gained_both (Some before) mid after one other first then =
    let added : Gained (Some (before ++ one)) after other = subst (λ (m : Option (List ℕ)). Gained m after other) first then in
    added ∙ ap Some (append_assoc before one other)

-- a whole text, and then a front of what follows it
pub front_both : (held mid after : Option (List ℕ)) (text : List ℕ) (at size : ℕ) → Gained held mid (take at text)
    → Front mid after (take size (drop at text)) → Front held after text
front_both None mid after text at size first then = tt
front_both (Some before) mid after text at size first then =
    let added : Front (Some (before ++ take at text)) after (take size (drop at text)) =
    subst (λ (m : Option (List ℕ)). Front m after (take size (drop at text))) first then in
    let count = min added.0 size in (
      at + count,
      added.1 ∙ ap Some (append_assoc before (take at text) (take added.0 (take size (drop at text)))
          ∙ ap (λ (l : List ℕ). before ++ l) (ap (λ (l : List ℕ). take at text ++ l) (twice added.0 size (drop at text)) ∙ sym (take-add at count text))),
    )
  where
    twice : (m n : ℕ) (l : List ℕ) → take m (take n l) ≡ take (min m n) l
    twice m n l = elim (cases_lt m n) [
      | inl less ↦ take-take m n l (omega (arith, less)) ∙ ap (λ (k : ℕ). take k l) (omega (arith, less))
      | inr more ↦ take_all m (take n l) (omega (arith, more, length-take n l)) ∙ ap (λ (k : ℕ). take k l) (omega (arith, more))
    ]

-- a front of a text is one of the text and more
pub front_on : (held after : Option (List ℕ)) (text more : List ℕ) → Front held after text → Front held after (text ++ more)
front_on None after text more front = tt
front_on (Some before) after text more front =
    let count = min front.0 (length text) in
    (count, front.1 ∙ ap (λ (l : List ℕ). Some (before ++ l)) (sym (take_min front.0 text) ∙ sym (take-append-le count text more (omega arith))))

-- the bytes that were read
pub piece_is : (text old new : List ℕ) (from count : ℕ) → Writes text from old new count → take count new ≡ take (length old) (drop from text)
piece_is text old new from count writes =
    ap (λ (l : List ℕ). take count l) writes.bytes
    ∙ take_at (part text from old) (drop (length (part text from old)) old) count (sym writes.counted)

-- how many they are
pub piece_long : (text old new : List ℕ) (from count : ℕ) → Writes text from old new count → (count ≡ min (length old) (length text - from)) × (length (take count new) ≡ count)
piece_long text old new from count writes =
    let size = length-take (length old) (drop from text) in
    let end = length-drop from text in
    (omega (arith, writes.counted, size, end), ap length (piece_is text old new from count writes) ∙ sym writes.counted)

-- the first bytes of those that were read
pub part_is : (text old new : List ℕ) (from count size : ℕ) → Writes text from old new count → size ≤ count → from ≤ length text
    → (length (take size new) ≡ size) × (take size new ≡ take (length (take size new)) (drop from text)) × (from + length (take size new) ≤ length text)
part_is text old new from count size writes less within =
    let long = piece_long text old new from count writes in
    let same : take size new ≡ take size (drop from text) =
    sym (take-take size count new less) ∙ ap (take size) (piece_is text old new from count writes)
    ∙ take-take size (length old) (drop from text) (omega (arith, long.0, less)) in
    let end = length-drop from text in
    let size_is : length (take size new) ≡ size = ap length same ∙ length-take-le size (drop from text) (omega (arith, long.0, less, end)) in (
      size_is,
      same ∙ ap (λ (n : ℕ). take n (drop from text)) (sym size_is),
      omega (arith, size_is, long.0, less, within),
    )

-- what was read into keeps its length
pub space_same : (text old new : List ℕ) (from count : ℕ) → Writes text from old new count → length new ≡ length old
space_same text old new from count writes =
    let bytes = part text from old in
    omega (
      arith,
      ap length writes.bytes,
      length-append bytes (drop (length bytes) old),
      length-drop (length bytes) old,
      length-take (length old) (drop from text),
    )
