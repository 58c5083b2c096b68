-- The addresses of a score are added, and none is refused.
use Rattle.std.proofs.Common.{◌≡◌, ◌≢◌, ℕ, ◌+◌, ◌<◌, ◌≤◌, false, List, [], ◌∷◌, ◌++◌, length, get_or, None, All, AllPairs, refl, sym, ap, ◌∙◌, subst, subst₂}
use Rattle.std.proofs.Common.{append_assoc, append-nil, length-append, arith, get_or-append-add}
use Rattle.std.proofs.lemmas.Grind.{common_steps}
use Rattle.osc_atoms.specs.Atoms.{string}
use Rattle.osc_pattern.specs.Addresses.{is_proper_prefix}
use Rattle.osc_pattern.specs.Methods.{Method, IsMethodList, nodes}
use Rattle.osc_tree.specs.Nodes.{new_nodes}
use Rattle.osc_tree.specs.Adding.{IsAddable, add_refusal}
use Rattle.osc_tree.proofs.Counts.{one_more_method}
use Rattle.osc_tree.proofs.Refusing.{addable_none}
use Rattle.osc_model.specs.Limits.{Limits}
use Rattle.osc_model.specs.State.{State, Queued, registry}
use Rattle.osc_model.specs.Events.{add}
use Rattle.osc_model.specs.Step.{step, add_at}
use Rattle.osc_model.proofs.Stepping.{noted}
use Rattle.osc_script.specs.declared.act.Act.TheVariants.{Add}
use Rattle.osc_score.specs.Scores.{methods_from}
use Rattle.osc_score.proofs.Acts.{adds}
use Rattle.osc_score_laws.proofs.Steps.{step_is}
use Rattle.osc_score_laws.proofs.Plays.{Plays, none_plays, plays_on, one_plays}

-- a server with one caller, whose methods have the ids from 0 on
abbrev pub server : Limits → List Method → List Queued → ℕ → ℕ → ℕ → State
server caps methods queue clock next recorded = record {
  caps = caps;
  methods = methods;
  queue = queue;
  clock = clock;
  next_id = length methods;
  next_unit = next;
  callers = 1;
  recorded = recorded;
}

-- how many bytes are recorded of the adds
abbrev pub adds_size : List (List ℕ) → ℕ
adds_size [] = 0
adds_size (address ∷ addresses) = 40 + length (string address) + adds_size addresses

-- nodes are no fewer with more methods
nodes_grow : (front back : List Method) → nodes front ≤ nodes (front ++ back)
nodes_grow front [] = subst (λ (l : List Method). nodes front ≤ nodes l) (sym (append-nil front)) (omega arith)
nodes_grow front (method ∷ back) = omega (arith, nodes_grow front back, one_more_method method front back)

one_more_nodes : (methods : List Method) (method : Method) → nodes (methods ++ method ∷ []) ≡ nodes methods + new_nodes methods method.address
one_more_nodes methods method = one_more_method method methods [] ∙ ap (λ l. nodes l + new_nodes l method.address) (append-nil methods)

nodes_fewer : (methods : List Method) (method : Method) (rest : List Method) → nodes (methods ++ method ∷ []) ≤ nodes (methods ++ method ∷ rest)
nodes_fewer methods method rest =
    subst (λ (l : List Method). nodes (methods ++ method ∷ []) ≤ nodes l) (append_assoc methods (method ∷ []) rest) (nodes_grow (methods ++ method ∷ []) rest)

front_at : {X : Type 0} (xs ys : List X) (i : ℕ) (d : X) → i < length xs → get_or (xs ++ ys) i d ≡ get_or xs i d
front_at xs ys i d below = grind (arith, common_steps)

middle_at : {X : Type 0} (xs : List X) (y : X) (ys : List X) (d : X) → get_or (xs ++ y ∷ ys) (length xs) d ≡ y
middle_at xs y ys d =
    let same : length xs ≡ length xs + 0 = omega arith in
    ap (λ (n : ℕ). get_or (xs ++ y ∷ ys) n d) same ∙ get_or-append-add xs (y ∷ ys) 0 d

pub pairs_before : {X : Type 0} (R : X → X → Type 0) (xs : List X) (y : X) (ys : List X) → AllPairs R (xs ++ y ∷ ys) → All (λ x. R x y) xs
pairs_before R xs y ys all i d below =
    subst₂ R (front_at xs (y ∷ ys) i d below) (middle_at xs y ys d) (all i (length xs) d below (omega (arith, length-append xs (y ∷ ys))))

-- the next address can be added
next_addable : (caps : Limits) (methods : List Method) (method : Method) (rest : List Method) → IsMethodList (methods ++ method ∷ rest)
    → length (methods ++ method ∷ rest) ≤ caps.methods → nodes (methods ++ method ∷ rest) ≤ caps.nodes
    → IsAddable (record { methods = methods; method_limit = caps.methods; node_limit = caps.nodes }) method.address
next_addable caps methods method rest list few few_nodes =
    let pairs : All (λ other. (is_proper_prefix other.address method.address ≡ false) × (is_proper_prefix method.address other.address ≡ false)) methods =
    pairs_before (λ a b. (is_proper_prefix a.address b.address ≡ false) × (is_proper_prefix b.address a.address ≡ false)) methods method rest list.apart in
    record {
      apart = record {
        none_at = pairs_before (λ a b. a.address ≢ b.address) methods method rest list.addresses;
        none_above = λ k d below. (pairs k d below).0;
        none_below = λ k d below. (pairs k d below).1;
      };
      method_room = omega (arith, length-append methods (method ∷ rest));
      node_room = omega (arith, one_more_nodes methods method, nodes_fewer methods method rest);
    }

pub adds_play : (caps : Limits) (methods : List Method) (addresses : List (List ℕ)) (clock next recorded : ℕ)
    → IsMethodList (methods ++ methods_from (length methods) addresses) → length (methods ++ methods_from (length methods) addresses) ≤ caps.methods
    → nodes (methods ++ methods_from (length methods) addresses) ≤ caps.nodes → recorded + adds_size addresses ≤ caps.recording
    → Plays (server caps methods [] clock next recorded) (adds addresses)
    (server caps (methods ++ methods_from (length methods) addresses) [] clock next (recorded + adds_size addresses)) []
adds_play caps methods [] clock next recorded list few few_nodes fits =
    let same : recorded ≡ recorded + 0 = omega arith in
    subst₂ (λ (l : List Method) (n : ℕ). Plays (server caps methods [] clock next recorded) [] (server caps l [] clock next n) [])
    (sym (append-nil methods)) same (none_plays (server caps methods [] clock next recorded))
adds_play caps methods (address ∷ addresses) clock next recorded list few few_nodes fits =
    let method : Method = record { id = length methods; address = address } in
    let state : State = server caps methods [] clock next recorded in
    let size : ℕ = 40 + length (string address) in
    let more : List Method = methods ++ method ∷ [] in
    let count : length methods + 1 ≡ length more = omega (arith, length-append methods (method ∷ [])) in
    let there : State = server caps more [] clock next (recorded + size) in
    let fine : add_refusal (registry state) address ≡ None =
    addable_none (registry state) address (next_addable caps methods method (methods_from (length methods + 1) addresses) list few few_nodes) in
    let is : step state (add address) ≡ noted state size (add_at state address None) =
    step_is state (add address) (add_at state address None) (ap (add_at state address) fine) refl (omega arith) in
    let one : Plays state (Add address ∷ []) (noted state size (add_at state address None)).state [] =
    one_plays state (Add address) (add address) (noted state size (add_at state address None)) refl refl is
    (record { adds = refl; fine = λ no. no; room = refl; silent = refl }) in
    let moved : Plays state (Add address ∷ []) there [] =
    subst (λ (n : ℕ). Plays state (Add address ∷ []) (record there { next_id = n }) []) count one in
    let whole : more ++ methods_from (length more) addresses ≡ methods ++ method ∷ methods_from (length methods + 1) addresses =
    ap (λ (n : ℕ). more ++ methods_from n addresses) (sym count) ∙ append_assoc methods (method ∷ []) (methods_from (length methods + 1) addresses) in
    let sum : recorded + size + adds_size addresses ≡ recorded + (size + adds_size addresses) = omega arith in
    let rest : Plays there (adds addresses)
    (server caps (more ++ methods_from (length more) addresses) [] clock next (recorded + size + adds_size addresses)) [] =
    adds_play caps more addresses clock next (recorded + size) (subst IsMethodList (sym whole) list)
    (subst (λ (l : List Method). length l ≤ caps.methods) (sym whole) few) (subst (λ (l : List Method). nodes l ≤ caps.nodes) (sym whole) few_nodes)
    (omega arith) in
    plays_on state there (server caps (methods ++ method ∷ methods_from (length methods + 1) addresses) [] clock next (recorded + (size + adds_size addresses)))
    (Add address ∷ []) (adds addresses) [] [] moved
    (subst₂ (λ (l : List Method) (n : ℕ). Plays there (adds addresses) (server caps l [] clock next n) []) whole sum rest)
