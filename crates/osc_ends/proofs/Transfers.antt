-- One more call of a sink or a source.
use Rattle.std.proofs.Common.{◌≡◌, ℕ, ◌+◌, ◌<◌, ◌≤◌, List, [], ◌++◌, length, take, drop, Option, Some, None, IfSome, refl, sym, ap, subst, ◌∙◌, arith}
use Rattle.std.proofs.Common.{append_assoc, length-append, length-drop}
use Rattle.std.proofs.Math.Seq.{take-add}
use Rattle.std.proofs.lemmas.List.{append-nil, drop-drop, drop_all, length-take-le}
use Rattle.osc_edge.specs.declared.sink.Put.TheVariants.{Took, Failed}
use Rattle.osc_edge.specs.declared.source.Taken.TheVariants.{Bytes}
use Rattle.osc_edge.specs.Sink.{AddsToEnd}
use Rattle.osc_edge.specs.Source.{TakesFront}
use Rattle.osc_ends.specs.Ends.{left_behind}
use Rattle.osc_ends.specs.Whole.{ReadSoFar}

-- what a sink holds has gained this text, or some front of it
abbrev Gained : Option (List ℕ) → Option (List ℕ) → List ℕ → Type 0
Gained held after text = IfSome held (λ before. after ≡ Some (before ++ text))

abbrev Front : Option (List ℕ) → Option (List ℕ) → List ℕ → Type 0
Front held after text = IfSome held (λ before. (count : ℕ) × (after ≡ Some (before ++ take count text)))

pub gains_none : (held : Option (List ℕ)) → Gained held held []
gains_none None = tt
gains_none (Some before) = ap Some (sym (append-nil before))

pub gains_more : (held mid after : Option (List ℕ)) (bytes : List ℕ) (at count : ℕ) → Gained held mid (take at bytes)
    → AddsToEnd mid after (Took count) (drop at bytes) → Gained held after (take (at + count) bytes)
gains_more None mid after bytes at count so adds = tt
gains_more (Some before) mid after bytes at count so adds =
    let added : AddsToEnd (Some (before ++ take at bytes)) after (Took count) (drop at bytes) =
    subst (λ m. AddsToEnd m after (Took count) (drop at bytes)) so adds in
    added ∙ ap Some (append_assoc before (take at bytes) (take count (drop at bytes)) ∙ ap (λ l. before ++ l) (sym (take-add at count bytes)))

-- a call that takes nothing leaves a front
pub front_same : (held mid after : Option (List ℕ)) (bytes : List ℕ) (at : ℕ) → Gained held mid (take at bytes) → AddsToEnd mid after Failed (drop at bytes)
    → Front held after bytes
front_same None mid after bytes at so adds = tt
front_same (Some before) mid after bytes at so adds =
    let same : AddsToEnd (Some (before ++ take at bytes)) after Failed (drop at bytes) = subst (λ m. AddsToEnd m after Failed (drop at bytes)) so adds in
    (at, same)

pub read_none : (left : Option (List ℕ)) → ReadSoFar left left []
read_none None = tt
read_none (Some all) = (refl, refl, omega arith)

pub read_more : (left mid after : Option (List ℕ)) (bytes into : List ℕ) (count : ℕ) → ReadSoFar left mid bytes → TakesFront mid after (Bytes count) into
    → count ≤ length into → ReadSoFar left after (bytes ++ take count into)
read_more None mid after bytes into count so takes within = tt
read_more (Some all) mid after bytes into count so takes within =
    let n = length bytes in
    let taken : TakesFront (Some (drop n all)) after (Bytes count) into = subst (λ m. TakesFront m after (Bytes count) into) so.0 takes in
    let size : length (bytes ++ take count into) ≡ n + count = length-append bytes (take count into) ∙ ap (λ k. n + k) (length-take-le count into within) in (
      taken.0 ∙ ap Some (drop-drop count n all ∙ ap (λ k. drop k all) (sym size)),
      ap (λ k. take k all) size ∙ take-add n count all ∙ ap (λ l. l ++ take count (drop n all)) so.1 ∙ ap (λ l. bytes ++ l) (sym taken.1),
      omega (arith, size, taken.2, length-drop n all, so.2),
    )

-- more than the limit was left
pub read_long : (most : ℕ) (left mid : Option (List ℕ)) (bytes : List ℕ) → ReadSoFar left mid bytes → most < length bytes → length bytes ≤ most + 1
    → IfSome left (λ all. (most < length all) × (mid ≡ Some (left_behind most all)))
read_long most None mid bytes so long within = tt
read_long most (Some all) mid bytes so long within =
    let size : length bytes ≡ most + 1 = omega arith in
    (omega (arith, so.2), so.0 ∙ ap (λ (n : ℕ). Some (drop n all)) size)

-- after a whole input nothing is left
pub left_whole : (most : ℕ) (left after : Option (List ℕ)) (bytes : List ℕ) (P Q : Type 0) → IfSome left (λ all. (bytes ≡ all) × (after ≡ Some []))
    → length bytes ≤ most → IfSome left (λ all. P → Q → after ≡ Some (left_behind most all))
left_whole most None after bytes P Q is few = tt
left_whole most (Some all) after bytes P Q is few =
    λ p q. is.1 ∙ ap Some (sym (drop_all (most + 1) all (omega (arith, few, ap (λ (l : List ℕ). length l) is.0))))
