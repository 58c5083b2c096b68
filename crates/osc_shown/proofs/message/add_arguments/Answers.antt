use Rattle.std.proofs.Common.{◌≡◌, ℕ, Bool, List, [], ◌∷◌, ◌++◌, refl, sym, ap, subst, ◌∙◌, append_assoc}
use Rattle.std.proofs.lemmas.List.{append-nil}
use Rattle.osc_message.specs.Messages.{Argument}
use Rattle.osc_message.specs.Left.{left}
use Rattle.osc_shown.specs.Arguments.{AreWords, AddsSpaced, AddsWords}
use Rattle.osc_shown.proofs.message.add_arguments.Goals as goal

-- whatever is said of the arguments that are left
abbrev GoesOn : Bool → List Argument → List ℕ → List Argument → List ℕ → Type 0
GoesOn whole all begun arguments text =
    (others : List ℕ) → AreWords whole arguments others → (said : List ℕ) × AreWords whole all said × (text ++ others ≡ begun ++ said)

-- one more argument
one_more : (whole : Bool) (all : List Argument) (begun : List ℕ) (argument : Argument) (before arguments : List Argument) (text after : List ℕ)
    → before ≡ argument ∷ arguments → GoesOn whole all begun before text → AddsSpaced whole argument text after → GoesOn whole all begun arguments after
one_more whole all begun argument before arguments text after is goes adds others words =
    let first = subst (λ (l : List Argument). GoesOn whole all begun l text) is goes in
    let then = first ((32 ∷ adds.0) ++ others) (adds.0, others, adds.1, words, refl) in
    (then.0, then.1, ap (λ (l : List ℕ). l ++ others) adds.2 ∙ append_assoc text (32 ∷ adds.0) others ∙ then.2)

-- none is left
all_said : (whole : Bool) (all : List Argument) (begun : List ℕ) (arguments : List Argument) (text : List ℕ) → arguments ≡ []
    → GoesOn whole all begun arguments text → AddsWords whole all begun text
all_said whole all begun arguments text none goes =
    let last = subst (λ (l : List Argument). GoesOn whole all begun l text) none goes [] refl in
    (last.0, last.1, sym (append-nil text) ∙ last.2)

pub loop-argument-preserved : goal.loop-argument-preserved
loop-argument-preserved c =
    let inv = c.loop-argument.invariant in
    record {
      can = tt;
      finite = tt;
      goes = one_more c.args.whole (left c.into_iter-argument-iterator.result) c.args.out.now.items _ (left c.loop-argument.argument-iterator) (left c.next.new.self)
          c.loop-argument.out.items c.add_spaced.new.out.items c.in-Some.ensures.steps inv.goes c.in_ok-add_spaced.ensures;
    }

pub returns : goal.returns
returns c =
    subst (λ (l : List Argument). AddsWords c.args.whole l c.args.out.now.items c.loop-argument.out.items)
    (ap left c.into_iter-argument-iterator.ensures.into_iter_gives ∙ c.args-argument-items.ensures)
    (all_said c.args.whole (left c.into_iter-argument-iterator.result) c.args.out.now.items (left c.loop-argument.argument-iterator) c.loop-argument.out.items
    c.in-None.ensures.steps.0 c.loop-argument.invariant.goes)
