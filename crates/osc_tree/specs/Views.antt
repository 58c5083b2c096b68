-- What the parts of a tree stand for.
use Rattle.std.specs.Prelude.{◌≡◌, ℕ, ◌≤◌, List, [], map, length, get_or}
use Rattle.osc_pattern.specs.Methods.{Method, IsMethodList, nodes}
use Rattle.osc_tree.specs.Registry.{Registry}
use Rattle.osc_tree.specs.declared.registered.Registered.{Registered}

-- a registered method
abbrev pub method_of : Registered → Method
method_of registered = record { id = registered.id; address = registered.address }

-- registered methods, in the order of adding
abbrev pub methods_of : List Registered → List Method
methods_of = map method_of

-- a tree that keeps these methods and has these limits
abbrev pub registry_of : List Registered → ℕ → ℕ → Registry
registry_of registered method_limit node_limit =
    record { methods = methods_of registered; method_limit = method_limit; node_limit = node_limit }

-- the methods are a lawful list, no more than their limit, with room reserved for as many as that,
-- and their nodes are counted and no more than theirs
pub record IsKept (methods : List Method)
    (method_limit node_limit node_count capacity : ℕ) : Type 0 where
  pub list : IsMethodList methods
  pub few_methods : length methods ≤ method_limit
  pub reserved : method_limit ≤ capacity
  pub counted : node_count ≡ nodes methods
  pub few_nodes : node_count ≤ node_limit

-- the method at a place; the number 0 and no address where there is none
abbrev pub method_at : List Registered → ℕ → Method
method_at registered place = get_or (methods_of registered) place (record { id = 0; address = [] })

-- the methods at these places
abbrev pub methods_at : List Registered → List ℕ → List Method
methods_at registered = map (method_at registered)
