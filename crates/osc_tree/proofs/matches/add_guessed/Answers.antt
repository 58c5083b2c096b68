use Rattle.std.proofs.Common.{[], ◌∷◌, ◌++◌, sym, ap, subst, ◌∙◌}
use Rattle.std.specs.Option.{option_to_list}
use Rattle.osc_pattern.specs.Addresses.{IsAddress}
use Rattle.osc_tree.specs.Registry.{id_at}
use Rattle.osc_tree.specs.Views.{methods_of}
use Rattle.osc_tree.proofs.Spelled.{spelled_ids}
use Rattle.osc_tree.proofs.matches.add_guessed.Goals as goal

pub returns-clause-ids : goal.returns-clause-ids
returns-clause-ids c =
    let pattern = c.args.pattern.now in
    let methods = methods_of c.args.methods.now in
    let same = c.bytes.ensures.value in
    let found = c.in-Some.ensures in
    let lawful : IsAddress pattern = subst IsAddress same found.lawful in
    c.add_id.ensures.ids ∙ ap (λ l. l ++ c.in-Some.id ∷ []) c.requires.empty
    ∙ sym (spelled_ids pattern methods c.requires.list
    (λ address spelled. c.an_address_is_a_pattern.ensures.itself_alone pattern address lawful spelled)
    (λ address. c.tests_are_exact.ensures.whole pattern address)
    ∙ ap option_to_list (ap (id_at methods) (sym same) ∙ found.id))
