-- Array brackets: what is read of them is what the relations name.
use Rattle.std.proofs.Common.{◌≡◌, ◌⊎◌, ℕ, zero, suc, ◌+◌, ◌-◌, ◌<◌, ◌≤◌, Bool, true, false, cond, ◌==◌, List, [], ◌∷◌, ◌++◌, length, Ok, Err, refl, sym, ◌∙◌}
use Rattle.std.proofs.Common.{ap, subst, inl, inr, arith, eqb-true, eq-eqb, add-zero}
use Rattle.std.proofs.lemmas.Bool.{cond-true, cond-false, ne_eqb}
use Rattle.std.proofs.lemmas.List.Sums.{sum_by-cons}
use Rattle.osc_atoms.specs.declared.fault.Fault.{Fault}
use Rattle.osc_message.specs.Tags.{opens, closes, ClosesOpenOnes, Balanced}
use Rattle.osc_message.specs.Faults.{brackets}
use Rattle.osc_message.specs.Reading.{brackets_read}
use Rattle.osc_message.specs.Wants.{ClosesNothing, NeverCloses}

-- the same of tags before which so many brackets are open
abbrev NestedFrom : ℕ → List ℕ → Type 0
NestedFrom depth tags = (front back : List ℕ) → tags ≡ front ++ back → closes front ≤ depth + opens front

record BalancedFrom (depth : ℕ) (tags : List ℕ) : Type 0 where
  nested : NestedFrom depth tags
  even : closes tags ≡ depth + opens tags

-- how many are open after one more tag
abbrev Turn : ℕ → ℕ → ℕ → Type 0
Turn depth tag more = depth + cond (tag == 91) 1 0 ≡ more + cond (tag == 93) 1 0

closes_more : (tag : ℕ) (tags : List ℕ) → closes (tag ∷ tags) ≡ cond (tag == 93) 1 0 + closes tags
closes_more tag tags = sum_by-cons (λ x. cond (x == 93) 1 0) tag tags

opens_more : (tag : ℕ) (tags : List ℕ) → opens (tag ∷ tags) ≡ cond (tag == 91) 1 0 + opens tags
opens_more tag tags = sum_by-cons (λ x. cond (x == 91) 1 0) tag tags

positive : (n : ℕ) → (n == 0) ≡ false → 0 < n
positive zero is = absurd (cc)
positive (suc n) is = omega arith

heads : (x y : ℕ) (xs ys : List ℕ) → x ∷ xs ≡ y ∷ ys → (x ≡ y) × (xs ≡ ys)
heads x y xs ys is = (cc, cc)

nested_onto : (depth tag more : ℕ) (tags : List ℕ) → Turn depth tag more → NestedFrom more tags → NestedFrom depth (tag ∷ tags)
nested_onto depth tag more tags turn nested [] back is = omega arith
nested_onto depth tag more tags turn nested (x ∷ front) back is =
    let same = heads tag x tags (front ++ back) is in
    let here = nested front back same.1 in
    let step : closes (tag ∷ front) ≤ depth + opens (tag ∷ front) = omega (arith, closes_more tag front, opens_more tag front) in
    subst (λ y. closes (y ∷ front) ≤ depth + opens (y ∷ front)) same.0 step

nested_off : (depth tag more : ℕ) (tags : List ℕ) → Turn depth tag more → NestedFrom depth (tag ∷ tags) → NestedFrom more tags
nested_off depth tag more tags turn nested front back is =
    let here : closes (tag ∷ front) ≤ depth + opens (tag ∷ front) = nested (tag ∷ front) back (ap (λ (l : List ℕ). tag ∷ l) is) in
    omega (arith, closes_more tag front, opens_more tag front)

balanced_onto : (depth tag more : ℕ) (tags : List ℕ) → Turn depth tag more → BalancedFrom more tags → BalancedFrom depth (tag ∷ tags)
balanced_onto depth tag more tags turn b =
    record { nested = nested_onto depth tag more tags turn b.nested; even = let e = b.even in omega (arith, closes_more tag tags, opens_more tag tags) }

balanced_off : (depth tag more : ℕ) (tags : List ℕ) → Turn depth tag more → BalancedFrom depth (tag ∷ tags) → BalancedFrom more tags
balanced_off depth tag more tags turn b =
    record {
      nested = nested_off depth tag more tags turn b.nested;
      even = let e : closes (tag ∷ tags) ≡ depth + opens (tag ∷ tags) = b.even in
          omega (arith, closes_more tag tags, opens_more tag tags);
    }

nested_nil : (depth : ℕ) → NestedFrom depth []
nested_nil depth [] back is = omega arith
nested_nil depth (x ∷ front) back is = absurd (cc)

balanced_nil : (depth : ℕ) → depth ≡ 0 → BalancedFrom depth []
balanced_nil depth is = record { nested = nested_nil depth; even = omega arith }

-- how the reading goes on after a tag
record Onward (depth outer tag : ℕ) (tags : List ℕ) (place : ℕ) : Type 0 where
  more : ℕ
  out : ℕ
  turn : Turn depth tag more
  is : brackets_read depth outer (tag ∷ tags) place ≡ brackets_read more out tags (place + 1)
  kept : 0 < depth → out ≡ outer
  fresh : depth ≡ 0 → (more ≡ 0) ⊎ ((tag ≡ 91) × (more ≡ 1) × (out ≡ place))

turned : (depth tag more : ℕ) (a b : Bool) → (tag == 91) ≡ a → (tag == 93) ≡ b → depth + cond a 1 0 ≡ more + cond b 1 0 → Turn depth tag more
turned depth tag more a b is_a is_b turn = rw (is_a, is_b) turn

not_both : (tag : ℕ) → (tag == 91) ≡ true → (tag == 93) ≡ false
not_both tag is = ne_eqb tag 93 (λ e. let other : tag ≡ 91 = eqb-true tag 91 is in omega arith)

onward : (depth outer tag : ℕ) (tags : List ℕ) (place : ℕ) → Onward depth outer tag tags place ⊎ ((depth ≡ 0) × (tag ≡ 93))
onward depth outer tag tags place = by_tag (tag == 91) refl (tag == 93) refl where
  by_tag : (a : Bool) → (tag == 91) ≡ a → (b : Bool) → (tag == 93) ≡ b → Onward depth outer tag tags place ⊎ ((depth ≡ 0) × (tag ≡ 93))
  by_tag true is b other = inl (record {
    more = depth + 1;
    out = cond (depth == 0) place outer;
    turn = turned depth tag (depth + 1) true false is (not_both tag is) (omega arith);
    is = cond-true _ _ _ is;
    kept = λ some. cond-false _ _ _ (ne_eqb depth 0 (λ e. omega arith));
    fresh = λ none. inr (eqb-true tag 91 is, omega arith, cond-true _ _ _ (eq-eqb depth 0 none));
  })
  by_tag false is false other = inl (record {
    more = depth;
    out = outer;
    turn = turned depth tag depth false false is other refl;
    is = cond-false _ _ _ is ∙ cond-false _ _ _ other;
    kept = λ some. refl;
    fresh = λ none. inl none;
  })
  by_tag false is true other = by_depth (depth == 0) refl where
    by_depth : (c : Bool) → (depth == 0) ≡ c → Onward depth outer tag tags place ⊎ ((depth ≡ 0) × (tag ≡ 93))
    by_depth true none = inr (eqb-true depth 0 none, eqb-true tag 93 other)
    by_depth false some = inl (record {
      more = depth - 1;
      out = outer;
      turn = turned depth tag (depth - 1) false true is other (omega (arith, positive depth some));
      is = cond-false _ _ _ is ∙ cond-true _ _ _ other ∙ cond-false _ _ _ some;
      kept = λ _. refl;
      fresh = λ none. inl (omega arith);
    })

no_stray : (depth tag : ℕ) (tags : List ℕ) → depth ≡ 0 → tag ≡ 93 → NestedFrom depth (tag ∷ tags) → ⊥
no_stray depth tag tags none is nested =
    let here : closes (tag ∷ []) ≤ depth + opens (tag ∷ []) = nested (tag ∷ []) tags refl in
    let plain : closes (93 ∷ []) ≤ depth + opens (93 ∷ []) = subst (λ t. closes (t ∷ []) ≤ depth + opens (t ∷ [])) is here in
    omega arith

named : (a b : ℕ) → a ≡ b → ◌≡◌ {A = Fault} (brackets a) (brackets b)
named a b is = ap brackets is

balanced_again : (depth outer : ℕ) (tags : List ℕ) (place : ℕ) → BalancedFrom depth tags → brackets_read depth outer tags place ≡ Ok tt
balanced_again depth outer [] place b = cond-true _ _ _ (eq-eqb depth 0 (let e : 0 ≡ depth + 0 = b.even in omega arith))
balanced_again depth outer (tag ∷ tags) place b = elim (onward depth outer tag tags place) [
  | inl on ↦ on.is ∙ balanced_again on.more on.out tags (place + 1) (balanced_off depth tag on.more tags on.turn b)
  | inr stray ↦ absurd (no_stray depth tag tags stray.0 stray.1 b.nested)
]

-- a bracket that is open before the tags, and that they never close
pending_again : (rest depth outer : ℕ) (tags : List ℕ) (place : ℕ) → depth ≡ rest + 1 → NestedFrom rest tags
    → brackets_read depth outer tags place ≡ Err (brackets outer)
pending_again rest depth outer [] place is nested = cond-false _ _ _ (ne_eqb depth 0 (λ e. omega arith))
pending_again rest depth outer (tag ∷ tags) place is nested = elim (onward depth outer tag tags place) [
  | inl on ↦
      let turn : depth + cond (tag == 91) 1 0 ≡ on.more + cond (tag == 93) 1 0 = on.turn in
      let here : closes (tag ∷ []) ≤ rest + opens (tag ∷ []) = nested (tag ∷ []) tags refl in
      let one_closes : closes (tag ∷ []) ≡ cond (tag == 93) 1 0 + 0 = closes_more tag [] in
      let one_opens : opens (tag ∷ []) ≡ cond (tag == 91) 1 0 + 0 = opens_more tag [] in
      let some : on.more ≡ (on.more - 1) + 1 = omega arith in
      let less : Turn rest tag (on.more - 1) = omega arith in
      on.is ∙ pending_again (on.more - 1) on.more on.out tags (place + 1) some (nested_off rest tag (on.more - 1) tags less nested)
      ∙ ap (λ (n : ℕ). Err (brackets n)) (on.kept (omega arith))
  | inr stray ↦ absurd (omega (arith, stray.0))
]

none_open : (depth : ℕ) → BalancedFrom depth [] → depth ≡ 0
none_open depth b = let e : 0 ≡ depth + 0 = b.even in omega arith

stray_again : (depth outer : ℕ) (before after : List ℕ) (place : ℕ) → BalancedFrom depth before
    → brackets_read depth outer (before ++ 93 ∷ after) place ≡ Err (brackets (place + length before))
stray_again depth outer [] after place b = cond-true _ _ _ (eq-eqb depth 0 (none_open depth b)) ∙ ap (λ (n : ℕ). Err (brackets n)) (sym (add-zero place))
stray_again depth outer (tag ∷ before) after place b = elim (onward depth outer tag (before ++ 93 ∷ after) place) [
  | inl on ↦ on.is ∙ stray_again on.more on.out before after (place + 1) (balanced_off depth tag on.more before on.turn b)
      ∙ ap (λ (n : ℕ). Err (brackets n)) (omega arith)
  | inr stray ↦ absurd (no_stray depth tag before stray.0 stray.1 b.nested)
]

open_again : (depth outer : ℕ) (before after : List ℕ) (place : ℕ) → BalancedFrom depth before → NestedFrom 0 after
    → brackets_read depth outer (before ++ 91 ∷ after) place ≡ Err (brackets (place + length before))
open_again depth outer [] after place b nested =
    pending_again 0 (depth + 1) (cond (depth == 0) place outer) after (place + 1) (let e = none_open depth b in omega arith) nested
    ∙ ap (λ (n : ℕ). Err (brackets n)) (cond-true _ _ _ (eq-eqb depth 0 (none_open depth b)) ∙ sym (add-zero place))
open_again depth outer (tag ∷ before) after place b nested = elim (onward depth outer tag (before ++ 91 ∷ after) place) [
  | inl on ↦ on.is ∙ open_again on.more on.out before after (place + 1) (balanced_off depth tag on.more before on.turn b) nested
      ∙ ap (λ (n : ℕ). Err (brackets n)) (omega arith)
  | inr stray ↦ absurd (no_stray depth tag before stray.0 stray.1 b.nested)
]

-- what tags can be, before which so many brackets are open
data Seen (depth : ℕ) (tags : List ℕ) : Type 0 where
  even_out : BalancedFrom depth tags → Seen depth tags
  pending : (rest : ℕ) → depth ≡ rest + 1 → NestedFrom rest tags → Seen depth tags
  stray : (before after : List ℕ) → BalancedFrom depth before → tags ≡ before ++ 93 ∷ after → Seen depth tags
  unclosed : (before after : List ℕ) → BalancedFrom depth before → tags ≡ before ++ 91 ∷ after → NestedFrom 0 after → Seen depth tags

seen_onto : (depth tag : ℕ) (tags : List ℕ) (on : Onward depth 0 tag tags 0) → Seen on.more tags → Seen depth (tag ∷ tags)
seen_onto depth tag tags on (even_out b) = even_out (balanced_onto depth tag on.more tags on.turn b)
seen_onto depth tag tags on (stray before after b is) =
    stray (tag ∷ before) after (balanced_onto depth tag on.more before on.turn b) (ap (λ (l : List ℕ). tag ∷ l) is)
seen_onto depth tag tags on (unclosed before after b is nested) =
    unclosed (tag ∷ before) after (balanced_onto depth tag on.more before on.turn b) (ap (λ (l : List ℕ). tag ∷ l) is) nested
seen_onto zero tag tags on (pending rest is nested) = elim (on.fresh refl) [
  | inl none ↦ absurd (omega arith)
  | inr new ↦
      let last : rest ≡ 0 = omega (arith, new.1) in
      unclosed [] tags (balanced_nil zero refl) (ap (λ (t : ℕ). t ∷ tags) new.0) (subst (λ (n : ℕ). NestedFrom n tags) last nested)
]
seen_onto (suc depth) tag tags on (pending rest is nested) =
    let turn : suc depth + cond (tag == 91) 1 0 ≡ on.more + cond (tag == 93) 1 0 = on.turn in
    let less : Turn depth tag rest = omega arith in
    pending depth (omega arith) (nested_onto depth tag rest tags less nested)

brackets_seen : (depth : ℕ) (tags : List ℕ) → Seen depth tags
brackets_seen zero [] = even_out (balanced_nil zero refl)
brackets_seen (suc depth) [] = pending depth (omega arith) (nested_nil depth)
brackets_seen depth (tag ∷ tags) = elim (onward depth 0 tag tags 0) [
  | inl on ↦ seen_onto depth tag tags on (brackets_seen on.more tags)
  | inr found ↦ stray [] tags (balanced_nil depth found.0) (ap (λ (t : ℕ). t ∷ tags) found.1)
]

from_zero : (tags : List ℕ) → NestedFrom 0 tags → ClosesOpenOnes tags
from_zero tags nested front back is = let here = nested front back is in omega arith

to_zero : (tags : List ℕ) → ClosesOpenOnes tags → NestedFrom 0 tags
to_zero tags nested front back is = let here = nested front back is in omega arith

balanced_from_zero : (tags : List ℕ) → BalancedFrom 0 tags → Balanced tags
balanced_from_zero tags b = record { nested = from_zero tags b.nested; even = let e = b.even in omega arith }

balanced_to_zero : (tags : List ℕ) → Balanced tags → BalancedFrom 0 tags
balanced_to_zero tags b = record { nested = to_zero tags b.nested; even = let e = b.even in omega arith }

-- tags whose brackets balance, or the fault that is named
pub balance_seen : (place : ℕ) (tags : List ℕ) → Balanced tags ⊎ ((fault : Fault) × (ClosesNothing place tags fault ⊎ NeverCloses place tags fault))
balance_seen place tags = go (brackets_seen 0 tags) where
  go : Seen 0 tags → Balanced tags ⊎ ((fault : Fault) × (ClosesNothing place tags fault ⊎ NeverCloses place tags fault))
  go (even_out b) = inl (balanced_from_zero tags b)
  go (pending rest is nested) = absurd (omega arith)
  go (stray before after b is) =
      inr (brackets (place + length before), inl (record { before = before; after = after; balanced = balanced_from_zero before b; parts = is; named = refl }))
  go (unclosed before after b is nested) =
      inr (
        brackets (place + length before),
        inr
            (record { before = before; after = after; balanced = balanced_from_zero before b; parts = is; unclosed = from_zero after nested; named = refl }),
      )

pub balance_again : (place : ℕ) (tags : List ℕ) → Balanced tags → brackets_read 0 place tags place ≡ Ok tt
balance_again place tags b = balanced_again 0 place tags place (balanced_to_zero tags b)

pub bracket_fault_again : (place : ℕ) (tags : List ℕ) (fault : Fault) → ClosesNothing place tags fault ⊎ NeverCloses place tags fault
    → brackets_read 0 place tags place ≡ Err fault
bracket_fault_again place tags fault (inl names) =
    ap (λ (l : List ℕ). brackets_read 0 place l place) names.parts
    ∙ stray_again 0 place names.before names.after place (balanced_to_zero names.before names.balanced) ∙ ap (λ (f : Fault). Err f) (sym names.named)
bracket_fault_again place tags fault (inr names) =
    ap (λ (l : List ℕ). brackets_read 0 place l place) names.parts
    ∙ open_again 0 place names.before names.after place (balanced_to_zero names.before names.balanced) (to_zero names.after names.unclosed)
    ∙ ap (λ (f : Fault). Err f) (sym names.named)
