-- The nodes of a tree: the prefixes by parts of its methods' addresses.
use Rattle.std.specs.Prelude.{ℕ, ◌-◌, Bool, not, List, count_by}
use Rattle.std.specs.List.{list_any}
use Rattle.std.specs.Str.{bytes_eq}
use Rattle.osc_pattern.specs.Methods.{Method, prefixes_of, nodes}
use Rattle.osc_tree.specs.Registry.{Registry}

-- whether a text is a prefix by parts of a method's address
abbrev pub has_node : List Method → List ℕ → Bool
has_node methods prefix =
    list_any (λ method. list_any (bytes_eq prefix) (prefixes_of method.address)) methods

-- how many prefixes by parts of an address no method's address has
abbrev pub new_nodes : List Method → List ℕ → ℕ
new_nodes methods address = count_by (λ prefix. not (has_node methods prefix)) (prefixes_of address)

-- how many more nodes there may be
abbrev pub free_nodes : Registry → ℕ
free_nodes tree = tree.node_limit - nodes tree.methods
