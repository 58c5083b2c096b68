-- The refusal of an address is the first of the five lines that applies.
use Rattle.std.proofs.Common.{◌≡◌, ℕ, ◌<◌, ◌≤◌, ◌==◌, Bool, true, false, cond, nat_lt, List, length, Option, Some, None, refl, ap, subst, arith}
use Rattle.std.specs.List.{list_any}
use Rattle.std.specs.Option.{option_map, option_or}
use Rattle.std.proofs.lemmas.Bool.{ltb-true, ltb-false}
use Rattle.std.proofs.lemmas.Bool.Decides.{nat_tests}
use Rattle.osc_pattern.specs.Addresses.{is_proper_prefix}
use Rattle.osc_tree.specs.Registry.{Registry, NoneAbove, NoneBelow, id_at, id_above}
use Rattle.osc_pattern.specs.Methods.{Method}
use Rattle.std.proofs.lemmas.List.Folds.{list_any_none}
use Rattle.osc_tree.proofs.Lists.{none-find}
use Rattle.osc_tree.specs.Nodes.{new_nodes, free_nodes}
use Rattle.osc_tree.specs.Adding.{IsApart, IsAddable, Refusal, Refuses, taken, under_method, is_container, methods_full, nodes_full, full_refusal, add_refusal}
use Rattle.osc_tree.proofs.Lines.{id_at-some, id_at-none, id_above-some, id_above-none, below-some, none-id_at, ReadsApart, apart_is, no_line}

none-id_above : (methods : List Method) (address : List ℕ) → NoneAbove methods address → id_above methods address ≡ None
none-id_above methods address none = ap (option_map (λ method. method.id)) (none-find (λ method. is_proper_prefix method.address address) methods none)

none-below : (methods : List Method) (address : List ℕ) → NoneBelow methods address
    → list_any (λ method. is_proper_prefix address method.address) methods ≡ false
none-below methods address none = list_any_none (λ method. is_proper_prefix address method.address) methods none

-- what the lines read say
abbrev IsSaid : Registry → List ℕ → Option Refusal → Type 0
IsSaid tree address None = IsAddable tree address
IsSaid tree address (Some refusal) = Refuses tree address refusal

full_said : (tree : Registry) (address : List ℕ) → length tree.methods ≤ tree.method_limit → IsApart tree.methods address
    → IsSaid tree address (full_refusal tree address)
full_said tree address few apart = go (length tree.methods == tree.method_limit) refl where
  more : (t : Bool) → nat_lt (free_nodes tree) (new_nodes tree.methods address) ≡ t → length tree.methods < tree.method_limit
      → IsSaid tree address (cond t (Some (nodes_full (new_nodes tree.methods address) (free_nodes tree))) None)
  more true short room = (apart, room, refl, refl, ltb-true _ _ short)
  more false enough room = record { apart = apart; method_room = room; node_room = ltb-false _ _ enough }

  go : (t : Bool) → (length tree.methods == tree.method_limit) ≡ t
      → IsSaid tree address
      (cond t (Some (methods_full tree.method_limit))
      (cond (nat_lt (free_nodes tree) (new_nodes tree.methods address)) (Some (nodes_full (new_nodes tree.methods address) (free_nodes tree))) None))
  go true is = (apart, grind (arith, nat_tests), refl)
  go false is = more (nat_lt (free_nodes tree) (new_nodes tree.methods address)) refl (grind (arith, nat_tests))

said : (tree : Registry) (address : List ℕ) → length tree.methods ≤ tree.method_limit → IsSaid tree address (add_refusal tree address)
said tree address few = at (id_at tree.methods address) refl where
  below : (t : Bool) → list_any (λ method. is_proper_prefix address method.address) tree.methods ≡ t → id_at tree.methods address ≡ None
      → id_above tree.methods address ≡ None
      → IsSaid tree address (cond t (Some is_container) (full_refusal tree address))
  below true is none roof = (id_at-none tree.methods address none, id_above-none tree.methods address roof, below-some tree.methods address is)
  below false is none roof = full_said tree address few (apart_is tree address (record { at = none; above = roof; below = is }))

  above : (o : Option ℕ) → id_above tree.methods address ≡ o → id_at tree.methods address ≡ None
      → IsSaid tree address
      (option_or (option_map under_method o)
      (cond (list_any (λ method. is_proper_prefix address method.address) tree.methods) (Some is_container) (full_refusal tree address)))
  above None is none = below (list_any (λ method. is_proper_prefix address method.address) tree.methods) refl none is
  above (Some id) is none = (id_at-none tree.methods address none, id_above-some tree.methods address id is)

  at : (o : Option ℕ) → id_at tree.methods address ≡ o
      → IsSaid tree address
      (option_or (option_map taken o)
      (option_or (option_map under_method (id_above tree.methods address))
      (cond (list_any (λ method. is_proper_prefix address method.address) tree.methods) (Some is_container) (full_refusal tree address))))
  at None is = above (id_above tree.methods address) refl is
  at (Some id) is = id_at-some tree.methods address id is

pub first_refuses : (tree : Registry) (address : List ℕ) (refusal : Refusal) → length tree.methods ≤ tree.method_limit → add_refusal tree address ≡ Some refusal
    → Refuses tree address refusal
first_refuses tree address refusal few is = subst (IsSaid tree address) is (said tree address few)

pub none_addable : (tree : Registry) (address : List ℕ) → length tree.methods ≤ tree.method_limit → add_refusal tree address ≡ None → IsAddable tree address
none_addable tree address few none = subst (IsSaid tree address) none (said tree address few)

pub addable_none : (tree : Registry) (address : List ℕ) → IsAddable tree address → add_refusal tree address ≡ None
addable_none tree address can =
    let apart : ReadsApart tree address =
    record {
      at = none-id_at tree.methods address can.apart.none_at;
      above = none-id_above tree.methods address can.apart.none_above;
      below = none-below tree.methods address can.apart.none_below;
    } in
    no_line tree address apart can.method_room can.node_room
