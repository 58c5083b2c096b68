use Rattle.std.proofs.Common.{◌≡◌, ◌==◌, ℕ, Bool, true, false, List, [], ◌∷◌, ◌++◌, length, refl, sym, ap, subst, ◌∙◌, append_assoc, arith}
use Rattle.std.proofs.lemmas.List.{append-nil}
use Rattle.osc_shown.specs.Added.{report_in, AddsMessageLine, AddsMessageLines}
use Rattle.osc_shown.specs.Lines.{Reported, IsMessageLine, AreMessageLines, join_of}
use Rattle.osc_shown.proofs.unit.add_messages.Goals as goal

-- whatever lines the messages that are left have
abbrev GoesOn : Reported → List (List ℕ) → List ℕ → Bool → List (List ℕ) → List ℕ → Type 0
GoesOn report all begun first messages text =
    (others : List ℕ) → AreMessageLines report first messages others
    → (lines : List ℕ) × AreMessageLines report true all lines × (text ++ others ≡ begun ++ lines)

-- one more message
one_more : (report : Reported) (all : List (List ℕ)) (begun : List ℕ)
    (first : Bool) (message : List ℕ) (before messages : List (List ℕ)) (join : ℕ) (text after : List ℕ)
    → before ≡ message ∷ messages → join ≡ join_of first (length messages == 0)
    → GoesOn report all begun first before text
    → AddsMessageLine report join message text after
    → GoesOn report all begun false messages after
one_more report all begun first message before messages join text after is join_is goes adds others lines =
    let began = subst (λ (l : List (List ℕ)). GoesOn report all begun first l text) is goes in
    let one = subst (λ (n : ℕ). IsMessageLine report n message adds.0) join_is adds.1 in
    let then = began (adds.0 ++ others) (adds.0, others, one, lines, refl) in
    (then.0, then.1, ap (λ (l : List ℕ). l ++ others) adds.2 ∙ append_assoc text adds.0 others ∙ then.2)

-- none is left
all_lines : (report : Reported) (all : List (List ℕ)) (begun : List ℕ)
    (first : Bool) (messages : List (List ℕ)) (text : List ℕ) → messages ≡ []
    → GoesOn report all begun first messages text
    → AddsMessageLines report true all begun text
all_lines report all begun first messages text none goes =
    let last = subst (λ (l : List (List ℕ)). GoesOn report all begun first l text) none goes [] refl in
    (last.0, last.1, sym (append-nil text) ∙ last.2)

pub loop-message-preserved : goal.loop-message-preserved
loop-message-preserved c =
    let inv = c.loop-message.invariant in
    let is = c.in-Some.ensures.steps in
    let counted : c.saturating_sub-left.result ≡ length c.next.new.self = omega (arith, ap length is, inv.counted, c.saturating_sub-left.ensures) in
    record {
      can = tt;
      finite = tt;
      counted = counted;
      goes = one_more (report_in c.args.report) c.into_iter-message-iterator.result c.args.out.now.items c.loop-message.first c.in-Some.message
          c.loop-message.message-iterator c.next.new.self c.join_of.result c.loop-message.out.items c.add_message_line.new.out.items is
          (c.join_of.ensures ∙ ap (λ (n : ℕ). join_of c.loop-message.first (n == 0)) counted) inv.goes c.in_ok-add_message_line.ensures;
    }

pub returns : goal.returns
returns c =
    subst (λ (l : List (List ℕ)). AddsMessageLines (report_in c.args.report) true l c.args.out.now.items c.loop-message.out.items)
    (c.into_iter-message-iterator.ensures.into_iter_gives ∙ c.messages-message-items.ensures)
    (all_lines (report_in c.args.report) c.into_iter-message-iterator.result c.args.out.now.items c.loop-message.first
    c.loop-message.message-iterator c.loop-message.out.items c.in-None.ensures.steps.0 c.loop-message.invariant.goes)
