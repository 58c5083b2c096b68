use Rattle.std.proofs.Common.{◌≡◌, ◌↔◌, ℕ, false, IsTrue, List, [], ◌∷◌, ◌++◌, length, position, Option, Some, None, sym, ap, subst, ◌∙◌, arith}
use Rattle.std.specs.List.{list_any}
use Rattle.std.specs.Option.{option_to_list}
use Rattle.osc_pattern.specs.Addresses.{IsAddress}
use Rattle.osc_pattern.specs.Patterns.{IsPattern, Match, is_special, matches}
use Rattle.osc_pattern.specs.Methods.{IsMethodList}
use Rattle.osc_tree.specs.declared.registered.Registered.{Registered}
use Rattle.osc_tree.specs.Registry.{id_at}
use Rattle.osc_tree.specs.Matching.{matching_ids}
use Rattle.osc_tree.specs.Views.{methods_of}
use Rattle.osc_tree.proofs.Lists.{none_placed}
use Rattle.osc_tree.proofs.Lookups.{some_place}
use Rattle.osc_tree.proofs.Spelled.{spelled_ids}
use Rattle.osc_tree.proofs.matches.add_spelled.Goals as goal

pub add_id-requires : goal.add_id-requires
add_id-requires c =
    let some = some_place c.args.methods.now c.args.places.now c.bytes.result.now c.in-Some.id c.requires.order (sym c.id_at.ensures ∙ c.in-Some.is) in
    omega (arith, ap length c.requires.empty, c.requires.room)

pub returns-in-Some-clause-len : goal.returns-in-Some-clause-len
returns-in-Some-clause-len c =
    let some = some_place c.args.methods.now c.args.places.now c.bytes.result.now c.in-Some.id c.requires.order (sym c.id_at.ensures ∙ c.in-Some.is) in
    omega (arith, ap length c.requires.empty, c.add_id.ensures.len)

-- the id that is looked up is the one that the pattern matches
looked_up : (text pattern : List ℕ) (registered : List Registered) (found : Option ℕ) → IsMethodList (methods_of registered) → IsPattern text
    → position is_special pattern ≡ None → text ≡ pattern
    → ((pattern address : List ℕ) → IsPattern pattern → IsAddress address → list_any is_special pattern ≡ false → (Match pattern address ↔ (pattern ≡ address)))
    → ((pattern address : List ℕ) → (IsTrue (matches pattern address) ↔ Match pattern address))
    → found ≡ id_at (methods_of registered) text → option_to_list found ≡ matching_ids pattern (methods_of registered)
looked_up text pattern registered found list lawful plain same alone exact is =
    ap option_to_list (is ∙ ap (id_at (methods_of registered)) same)
    ∙ sym (spelled_ids pattern (methods_of registered) list
    (λ address spelled. alone pattern address (subst IsPattern same lawful) spelled (none_placed is_special pattern plain))
    (exact pattern))

pub returns-in-Some-clause-ids : goal.returns-in-Some-clause-ids
returns-in-Some-clause-ids c =
    c.add_id.ensures.ids ∙ ap (λ l. l ++ c.in-Some.id ∷ []) c.requires.empty
    ∙ looked_up c.bytes.result.now c.args.pattern.now c.args.methods.now (Some c.in-Some.id) c.requires.list c.bytes.ensures.lawful c.requires.plain
    c.bytes.ensures.value c.plain_pattern.ensures c.tests_are_exact.ensures.whole (sym c.in-Some.is ∙ c.id_at.ensures)

pub returns-in_default-clause-ids : goal.returns-in_default-clause-ids
returns-in_default-clause-ids c =
    c.requires.empty
    ∙ looked_up c.bytes.result.now c.args.pattern.now c.args.methods.now None c.requires.list c.bytes.ensures.lawful c.requires.plain
    c.bytes.ensures.value c.plain_pattern.ensures c.tests_are_exact.ensures.whole (sym c.in_default.is ∙ c.id_at.ensures)
