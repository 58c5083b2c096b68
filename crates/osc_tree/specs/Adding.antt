-- Which addresses can be added, and why others can't.
use Rattle.std.specs.Prelude.{◌≡◌, ℕ, ◌<◌, ◌≤◌, ◌==◌, nat_lt, if◌then◌else◌, List, length, Option}
use Rattle.std.specs.Prelude.{Some, None}
use Rattle.std.specs.Option.{option_map, option_or}
use Rattle.std.specs.List.{list_any}
use Rattle.osc_pattern.specs.Addresses.{is_proper_prefix}
use Rattle.osc_pattern.specs.Methods.{Method}
use Rattle.osc_tree.specs.declared.refusals.TreeRefusal.{TreeRefusal}
use Rattle.osc_tree.specs.declared.refusals.TreeRefusal.TheVariants.{Taken, UnderMethod}
use Rattle.osc_tree.specs.declared.refusals.TreeRefusal.TheVariants.{IsContainer, MethodsFull}
use Rattle.osc_tree.specs.declared.refusals.TreeRefusal.TheVariants.{NodesFull}
use Rattle.osc_tree.specs.Registry.{Registry, IsAt, IsAbove, HasBelow, NoneAt, NoneAbove, NoneBelow}
use Rattle.osc_tree.specs.Registry.{id_at, id_above}
use Rattle.osc_tree.specs.Nodes.{new_nodes, free_nodes}

-- no method is at the address, above it or below it
pub record IsApart (methods : List Method) (address : List ℕ) : Type 0 where
  pub none_at : NoneAt methods address
  pub none_above : NoneAbove methods address
  pub none_below : NoneBelow methods address

-- an address can be added where no method is at it, above it or below it, one more method may be
-- there, and the new nodes are no more than the free ones
pub record IsAddable (tree : Registry) (address : List ℕ) : Type 0 where
  pub apart : IsApart tree.methods address
  pub method_room : length tree.methods < tree.method_limit
  pub node_room : new_nodes tree.methods address ≤ free_nodes tree

-- the refusals as plain values; the last has the nodes that are needed and those that are free
pub data Refusal : Type 0 where
  taken : ℕ → Refusal
  under_method : ℕ → Refusal
  is_container : Refusal
  methods_full : ℕ → Refusal
  nodes_full : ℕ → ℕ → Refusal

-- the same refusal as a plain value
abbrev pub refusal_of : TreeRefusal → Refusal
refusal_of (Taken id) = taken id
refusal_of (UnderMethod id) = under_method id
refusal_of IsContainer = is_container
refusal_of (MethodsFull limit) = methods_full limit
refusal_of (NodesFull room) = nodes_full room.need room.free

-- why an address can't be added: the first of five lines that applies, so each but the first says
-- that none before it does
abbrev pub Refuses : Registry → List ℕ → Refusal → Type 0
Refuses tree address (taken id) = IsAt tree.methods id address
Refuses tree address (under_method id) =
    NoneAt tree.methods address × IsAbove tree.methods id address
Refuses tree address is_container =
    NoneAt tree.methods address × NoneAbove tree.methods address × HasBelow tree.methods address
Refuses tree address (methods_full limit) =
    IsApart tree.methods address × (length tree.methods ≡ tree.method_limit)
    × (limit ≡ tree.method_limit)
Refuses tree address (nodes_full need free) =
    IsApart tree.methods address × (length tree.methods < tree.method_limit)
    × (need ≡ new_nodes tree.methods address) × (free ≡ free_nodes tree) × (free < need)

abbrev pub IsRefused : Registry → List ℕ → TreeRefusal → Type 0
IsRefused tree address refusal = Refuses tree address (refusal_of refusal)

-- the refusal for want of room, if there is one
abbrev pub full_refusal : Registry → List ℕ → Option Refusal
full_refusal tree address =
    if length tree.methods == tree.method_limit then Some (methods_full tree.method_limit)
    else (if nat_lt (free_nodes tree) (new_nodes tree.methods address)
    then Some (nodes_full (new_nodes tree.methods address) (free_nodes tree)) else None)

-- the refusal of an address, if there is one: what is there, what is above it, what is below it, or
-- want of room
abbrev pub add_refusal : Registry → List ℕ → Option Refusal
add_refusal tree address =
    option_or (option_map taken (id_at tree.methods address))
    (option_or (option_map under_method (id_above tree.methods address))
    (if list_any (λ method. is_proper_prefix address method.address) tree.methods
    then Some is_container else full_refusal tree address))
