-- The arguments are those under the tags, where all of them are known.
use Rattle.std.proofs.Common.{◌≡◌, ◌∙◌, ap, rules, sym, subst, IsTrue, List, ℕ, [], true, false, is_ok}
use Rattle.std.specs.Prelude.{unwrap_or, is_some}
use Rattle.osc_message.specs.ArgumentReading.{arguments_end, arguments_of}
use Rattle.osc_message.specs.Arguments.{message_arguments}
use Rattle.osc_message.specs.Seen.{seen}
use Rattle.osc_message.proofs.UnknownTags.{none_under_unknown, all_under_known, known_read}
use Rattle.osc_message.proofs.message.Message.args.Goals as goal

pub returns-then-is_some : goal.returns-then-is_some
returns-then-is_some c =
    let slices = c.self.inside.slices in
    let some : is_some slices.unknown ≡ true = search rules in
    let none : message_arguments c.self.inside.bytes.now ≡ [] =
    none_under_unknown c.self.inside.bytes.now (seen slices) slices.unknown c.self.invariant.0.read c.self.invariant.1 some in
    rw (← c.self.view_is) (c.new.ensures ∙ sym none)

pub new-requires-2-clause-readable : goal.new-requires-2-clause-readable
new-requires-2-clause-readable c =
    let slices = c.self.inside.slices in
    let none : is_some slices.unknown ≡ false = search rules in
    let tags : unwrap_or (seen slices).tags [] ≡ c.unwrap_or-tags.result.now = search rules in
    subst (λ (l : List ℕ). IsTrue (is_ok (arguments_end l c.self.inside.bytes.now slices.place))) tags
    (known_read c.self.inside.bytes.now (seen slices) slices.unknown c.self.invariant.0.arguments c.self.invariant.1 none)

pub returns : goal.returns
returns c =
    let slices = c.self.inside.slices in
    let none : is_some slices.unknown ≡ false = search rules in
    let tags : c.unwrap_or-tags.result.now ≡ unwrap_or (seen slices).tags [] = search rules in
    let all : message_arguments c.self.inside.bytes.now ≡ arguments_of (unwrap_or (seen slices).tags []) c.self.inside.bytes.now slices.place =
    all_under_known c.self.inside.bytes.now (seen slices) slices.unknown c.self.invariant.0.read c.self.invariant.1 none in
    rw (← c.self.view_is) (c.new-2.ensures ∙ ap (λ (l : List ℕ). arguments_of l c.self.inside.bytes.now slices.place) tags ∙ sym all)
