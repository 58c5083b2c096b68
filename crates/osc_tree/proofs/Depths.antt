-- The most names of an address, with one method more and with one fewer.
use Rattle.std.proofs.Common.{ℕ, suc, ◌≤◌, List, [], ◌∷◌, ◌++◌, length, take, drop, All, sym, subst, arith}
use Rattle.std.specs.List.{remove}
use Rattle.std.proofs.lemmas.List.{map_push}
use Rattle.std.proofs.lemmas.List.Elements.{All-append, All-drop, All-push, All-take}
use Rattle.osc_pattern.specs.Methods.{Method}
use Rattle.osc_pattern.specs.Patterns.{parts_of}
use Rattle.osc_tree.specs.declared.registered.Registered.{Registered}
use Rattle.osc_tree.specs.Order.{IsDepth}
use Rattle.osc_tree.specs.Views.{method_of, methods_of}
use Rattle.osc_tree.proofs.Lawful.{map-remove}

-- one more method, whose names are counted
pub one_more_depth : (registered : List Registered) (id : ℕ) (address : List ℕ) (depth most : ℕ) → IsDepth (methods_of registered) depth → depth ≤ most
    → length (parts_of address) ≤ most → most ≤ 16 → IsDepth (methods_of (registered ++ record { id = id; address = address } ∷ [])) most
one_more_depth registered id address depth most deep more levels few =
    let method : Method = record { id = id; address = address } in
    subst (λ (l : List Method). IsDepth l most) (sym (map_push method_of registered (record { id = id; address = address })))
    (record {
      names = All-push (λ (m : Method). length (parts_of m.address) ≤ most) (methods_of registered) method
          (λ k d lt. (let own = deep.names k d lt in omega arith)) levels;
      few = few;
    })

-- one method fewer
pub one_fewer_depth : (registered : List Registered) (place depth : ℕ) → IsDepth (methods_of registered) depth
    → IsDepth (methods_of (remove registered place)) depth
one_fewer_depth registered place depth deep =
    let ms = methods_of registered in
    record {
      names = subst (All (λ (m : Method). length (parts_of m.address) ≤ depth)) (sym (map-remove method_of registered place))
          (All-append (λ (m : Method). length (parts_of m.address) ≤ depth) (take place ms) (drop (suc place) ms)
          (All-take (λ (m : Method). length (parts_of m.address) ≤ depth) place ms deep.names)
          (All-drop (λ (m : Method). length (parts_of m.address) ≤ depth) (suc place) ms deep.names));
      few = deep.few;
    }

-- no method has a name
pub no_depth : IsDepth [] 0
no_depth = record { names = λ k d lt. absurd (omega arith); few = omega arith }
