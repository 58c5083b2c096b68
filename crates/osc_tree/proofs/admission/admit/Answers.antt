use Rattle.std.proofs.Common.{◌≡◌, ℕ, ◌-◌, ◌<◌, ◌≤◌, List, length, Some, None, true, false, sym, ap, subst, ◌∙◌, arith}
use Rattle.std.specs.List.{list_any}
use Rattle.std.proofs.lemmas.List.{length-map}
use Rattle.osc_pattern.specs.Addresses.{is_proper_prefix}
use Rattle.osc_tree.specs.declared.registered.Registered.{Registered}
use Rattle.osc_tree.specs.Registry.{id_at, id_above}
use Rattle.osc_tree.specs.Adding.{Refusal, Refuses, add_refusal, nodes_full}
use Rattle.osc_tree.specs.Nodes.{new_nodes, free_nodes}
use Rattle.osc_tree.specs.Order.{IsSearched}
use Rattle.osc_tree.specs.Views.{method_of, methods_of, methods_at, registry_of}
use Rattle.osc_tree.proofs.Lines.{first_line, second_line, third_line, fourth_line, fifth_line, no_line, apart_is, ReadsApart}
use Rattle.osc_tree.proofs.Refusing.{first_refuses, none_addable}
use Rattle.osc_tree.proofs.admission.admit.Goals as goal

-- what is read off the list is why the address is refused
refuses : (registered : List Registered) (method_limit node_limit : ℕ) (address : List ℕ) (refusal : Refusal) → length registered ≤ method_limit
    → add_refusal (registry_of registered method_limit node_limit) address ≡ Some refusal
    → Refuses (registry_of registered method_limit node_limit) address refusal
refuses registered method_limit node_limit address refusal few read =
    first_refuses (registry_of registered method_limit node_limit) address refusal (omega (arith, length-map registered method_of)) read

pub returns-in-Some-clause-read : goal.returns-in-Some-clause-read
returns-in-Some-clause-read c =
    let methods = methods_of c.args.methods.now in
    let tree = registry_of c.args.methods.now c.args.method_limit c.args.node_limit in
    let at : id_at methods c.args.address.now ≡ Some c.in-Some.id =
    ap (id_at methods) (sym c.bytes-bytes.ensures.value) ∙ sym c.id_there.ensures ∙ c.in-Some.is in
    first_line tree c.args.address.now c.in-Some.id at

pub returns-in-Some-clause-refused : goal.returns-in-Some-clause-refused
returns-in-Some-clause-refused c =
    refuses c.args.methods.now c.args.method_limit c.args.node_limit c.args.address.now _ c.requires.few_methods (returns-in-Some-clause-read c)

pub returns-in-Some-id_above-clause-read : goal.returns-in-Some-id_above-clause-read
returns-in-Some-id_above-clause-read c =
    let methods = methods_of c.args.methods.now in
    let tree = registry_of c.args.methods.now c.args.method_limit c.args.node_limit in
    let at : id_at methods c.args.address.now ≡ None =
    ap (id_at methods) (sym c.bytes-bytes.ensures.value) ∙ sym c.id_there.ensures ∙ c.in_default.is in
    let above : id_above methods c.args.address.now ≡ Some c.in-Some-id_above.id =
    ap (id_above methods) (sym c.bytes-bytes.ensures.value) ∙ sym c.id_above.ensures ∙ c.in-Some-id_above.is in
    second_line tree c.args.address.now c.in-Some-id_above.id at above

pub returns-in-Some-id_above-clause-refused : goal.returns-in-Some-id_above-clause-refused
returns-in-Some-id_above-clause-refused c =
    refuses c.args.methods.now c.args.method_limit c.args.node_limit c.args.address.now _ c.requires.few_methods (returns-in-Some-id_above-clause-read c)

pub returns-then-has_below-clause-read : goal.returns-then-has_below-clause-read
returns-then-has_below-clause-read c =
    let methods = methods_of c.args.methods.now in
    let tree = registry_of c.args.methods.now c.args.method_limit c.args.node_limit in
    let at : id_at methods c.args.address.now ≡ None =
    ap (id_at methods) (sym c.bytes-bytes.ensures.value) ∙ sym c.id_there.ensures ∙ c.in_default.is in
    let above : id_above methods c.args.address.now ≡ None =
    ap (id_above methods) (sym c.bytes-bytes.ensures.value) ∙ sym c.id_above.ensures ∙ c.in_default-id_above.is in
    let below : list_any (λ method. is_proper_prefix c.args.address.now method.address) methods ≡ true =
    ap (λ a. list_any (λ method. is_proper_prefix a method.address) methods) (sym c.bytes-bytes.ensures.value)
    ∙ sym c.has_below.ensures ∙ c.if-has_below.true in
    third_line tree c.args.address.now at above below

pub returns-then-has_below-clause-refused : goal.returns-then-has_below-clause-refused
returns-then-has_below-clause-refused c =
    refuses c.args.methods.now c.args.method_limit c.args.node_limit c.args.address.now _ c.requires.few_methods (returns-then-has_below-clause-read c)

pub returns-then-methods-method_limit-clause-read : goal.returns-then-methods-method_limit-clause-read
returns-then-methods-method_limit-clause-read c =
    let methods = methods_of c.args.methods.now in
    let tree = registry_of c.args.methods.now c.args.method_limit c.args.node_limit in
    let at : id_at methods c.args.address.now ≡ None =
    ap (id_at methods) (sym c.bytes-bytes.ensures.value) ∙ sym c.id_there.ensures ∙ c.in_default.is in
    let above : id_above methods c.args.address.now ≡ None =
    ap (id_above methods) (sym c.bytes-bytes.ensures.value) ∙ sym c.id_above.ensures ∙ c.in_default-id_above.is in
    let below : list_any (λ method. is_proper_prefix c.args.address.now method.address) methods ≡ false =
    ap (λ a. list_any (λ method. is_proper_prefix a method.address) methods) (sym c.bytes-bytes.ensures.value)
    ∙ sym c.has_below.ensures ∙ c.if-has_below.false in
    let apart : ReadsApart tree c.args.address.now = record { at = at; above = above; below = below } in
    let long = length-map c.args.methods.now method_of in
    fourth_line tree c.args.address.now apart (long ∙ c.if-methods-method_limit.true)

pub returns-then-methods-method_limit-clause-refused : goal.returns-then-methods-method_limit-clause-refused
returns-then-methods-method_limit-clause-refused c =
    refuses c.args.methods.now c.args.method_limit c.args.node_limit c.args.address.now _ c.requires.few_methods
    (returns-then-methods-method_limit-clause-read c)

pub new_nodes-need-requires-clause-apart : goal.new_nodes-need-requires-clause-apart
new_nodes-need-requires-clause-apart c =
    let methods = methods_of c.args.methods.now in
    let tree = registry_of c.args.methods.now c.args.method_limit c.args.node_limit in
    let at : id_at methods c.args.address.now ≡ None =
    ap (id_at methods) (sym c.bytes-bytes.ensures.value) ∙ sym c.id_there.ensures ∙ c.in_default.is in
    let above : id_above methods c.args.address.now ≡ None =
    ap (id_above methods) (sym c.bytes-bytes.ensures.value) ∙ sym c.id_above.ensures ∙ c.in_default-id_above.is in
    let below : list_any (λ method. is_proper_prefix c.args.address.now method.address) methods ≡ false =
    ap (λ a. list_any (λ method. is_proper_prefix a method.address) methods) (sym c.bytes-bytes.ensures.value)
    ∙ sym c.has_below.ensures ∙ c.if-has_below.false in
    let apart : ReadsApart tree c.args.address.now = record { at = at; above = above; below = below } in
    apart_is tree c.args.address.now apart

pub new_nodes-need-requires-clause-searched : goal.new_nodes-need-requires-clause-searched
new_nodes-need-requires-clause-searched c =
    subst (λ (text : List ℕ). IsSearched text (methods_at c.args.methods.now c.args.places.now) c.count_before-at.result c.count_before-at.result)
    c.bytes-bytes.ensures.value c.count_before-at.ensures.searched

pub returns-then-free-need-clause-read : goal.returns-then-free-need-clause-read
returns-then-free-need-clause-read c =
    let methods = methods_of c.args.methods.now in
    let tree = registry_of c.args.methods.now c.args.method_limit c.args.node_limit in
    let at : id_at methods c.args.address.now ≡ None =
    ap (id_at methods) (sym c.bytes-bytes.ensures.value) ∙ sym c.id_there.ensures ∙ c.in_default.is in
    let above : id_above methods c.args.address.now ≡ None =
    ap (id_above methods) (sym c.bytes-bytes.ensures.value) ∙ sym c.id_above.ensures ∙ c.in_default-id_above.is in
    let below : list_any (λ method. is_proper_prefix c.args.address.now method.address) methods ≡ false =
    ap (λ a. list_any (λ method. is_proper_prefix a method.address) methods) (sym c.bytes-bytes.ensures.value)
    ∙ sym c.has_below.ensures ∙ c.if-has_below.false in
    let apart : ReadsApart tree c.args.address.now = record { at = at; above = above; below = below } in
    let long = length-map c.args.methods.now method_of in
    let few = c.requires.few_methods in
    let not_full = c.if-methods-method_limit.false in
    let room : length methods < c.args.method_limit = omega arith in
    let need : new_nodes methods c.args.address.now ≡ c.new_nodes-need.result = sym c.new_nodes-need.ensures in
    let free : free_nodes tree ≡ c.args.node_limit - c.args.node_count = ap (λ (n : ℕ). c.args.node_limit - n) (sym c.requires.counted) in
    let same_need : new_nodes methods c.args.address.now ≡ c.new.result.need = omega (arith, c.new.ensures.need) in
    let same_free : free_nodes tree ≡ c.new.result.free = omega (arith, c.new.ensures.free) in
    fifth_line tree c.args.address.now apart room (omega arith) ∙ ap (λ n. Some (nodes_full n (free_nodes tree))) same_need
    ∙ ap (λ n. Some (nodes_full c.new.result.need n)) same_free

pub returns-then-free-need-clause-refused : goal.returns-then-free-need-clause-refused
returns-then-free-need-clause-refused c =
    refuses c.args.methods.now c.args.method_limit c.args.node_limit c.args.address.now _ c.requires.few_methods (returns-then-free-need-clause-read c)

pub returns-clause-none : goal.returns-clause-none
returns-clause-none c =
    let methods = methods_of c.args.methods.now in
    let tree = registry_of c.args.methods.now c.args.method_limit c.args.node_limit in
    let at : id_at methods c.args.address.now ≡ None =
    ap (id_at methods) (sym c.bytes-bytes.ensures.value) ∙ sym c.id_there.ensures ∙ c.in_default.is in
    let above : id_above methods c.args.address.now ≡ None =
    ap (id_above methods) (sym c.bytes-bytes.ensures.value) ∙ sym c.id_above.ensures ∙ c.in_default-id_above.is in
    let below : list_any (λ method. is_proper_prefix c.args.address.now method.address) methods ≡ false =
    ap (λ a. list_any (λ method. is_proper_prefix a method.address) methods) (sym c.bytes-bytes.ensures.value)
    ∙ sym c.has_below.ensures ∙ c.if-has_below.false in
    let apart : ReadsApart tree c.args.address.now = record { at = at; above = above; below = below } in
    let long = length-map c.args.methods.now method_of in
    let few = c.requires.few_methods in
    let not_full = c.if-methods-method_limit.false in
    let room : length methods < c.args.method_limit = omega arith in
    let need : new_nodes methods c.args.address.now ≡ c.new_nodes-need.result = sym c.new_nodes-need.ensures in
    let free : free_nodes tree ≡ c.args.node_limit - c.args.node_count = ap (λ (n : ℕ). c.args.node_limit - n) (sym c.requires.counted) in
    no_line tree c.args.address.now apart room (omega arith)

pub returns-clause-accepted : goal.returns-clause-accepted
returns-clause-accepted c =
    none_addable (registry_of c.args.methods.now c.args.method_limit c.args.node_limit) c.args.address.now
    (let few = c.requires.few_methods in omega (arith, length-map c.args.methods.now method_of)) (returns-clause-none c)

pub returns-clause-at : goal.returns-clause-at
returns-clause-at c =
    subst (λ (text : List ℕ). IsSearched text (methods_at c.args.methods.now c.args.places.now) c.count_before-at.result c.count_before-at.result)
    c.bytes-bytes.ensures.value c.count_before-at.ensures.searched
