-- What the nodes of a list of methods weigh with one more method, and how many they are.
use Rattle.std.proofs.Common.{◌≡◌, ◌≤◌, ℕ, ◌+◌, Bool, true, false, not, cond, ◌||◌, List, [], ◌∷◌, ◌++◌, length, map, filter, fold, take, drop, refl, sym, ap}
use Rattle.std.proofs.Common.{subst, ◌∙◌, arith}
use Rattle.std.specs.Prelude.{sum_by}
use Rattle.std.specs.List.{list_any, flat_map, position_or_len}
use Rattle.std.specs.Str.{bytes_eq}
use Rattle.std.proofs.lemmas.Cmp.{nat_eq_equiv, nat_list_eq_equiv}
use Rattle.std.proofs.lemmas.Slice.Eq.{bytes_eq-Decides}
use Rattle.std.proofs.lemmas.Grind.{flat_map-append}
use Rattle.std.proofs.lemmas.List.Folds.{list_any-append}
use Rattle.std.proofs.lemmas.List.Sums.{sum_by-cons}
use Rattle.std.proofs.lemmas.Map.Steps.{list_any_congr}
use Rattle.std.proofs.lemmas.List.{append_assoc, take-append-drop}
use Rattle.osc_pattern.specs.Patterns.{parts_of}
use Rattle.osc_pattern.specs.Methods.{Method, runs_of, prefixes_of, distinct, nodes}
use Rattle.osc_tree.specs.Matching.{in_place, is_below}
use Rattle.osc_tree.specs.Nodes.{has_node, new_nodes}
use Rattle.osc_tree.specs.Walking.{node_steps, most_steps}

grown : (f : List ℕ → ℕ) (t : Bool) (text : List ℕ) (texts : List (List ℕ))
    → sum_by f (cond t texts (text ∷ texts)) ≡ cond t (sum_by f texts) (f text + sum_by f texts)
grown f true text texts = refl
grown f false text texts = sum_by-cons f text texts

-- a text joins others: its weight, if it is new among them
insert_one : (f : List ℕ → ℕ) (text : List ℕ) (front back : List (List ℕ))
    → sum_by f (distinct (front ++ text ∷ back)) ≡ sum_by f (distinct (front ++ back)) + cond (list_any (bytes_eq text) (front ++ back)) 0 (f text)
insert_one f text [] back = grown f (list_any (bytes_eq text) back) text (distinct back) ∙ go (list_any (bytes_eq text) back) where
  go : (t : Bool) → cond t (sum_by f (distinct back)) (f text + sum_by f (distinct back)) ≡ sum_by f (distinct back) + cond t 0 (f text)
  go true = omega arith
  go false = omega arith
insert_one f text (first ∷ front) back =
    ap (λ (t : Bool). sum_by f (cond t (distinct (front ++ text ∷ back)) (first ∷ distinct (front ++ text ∷ back)))) (among first)
    ∙ grown f (list_any (bytes_eq first) (front ++ back) || bytes_eq first text) first (distinct (front ++ text ∷ back))
    ∙ go (list_any (bytes_eq first) (front ++ back)) (bytes_eq first text) (list_any (bytes_eq text) (front ++ back)) _ _ (f first) (f text)
    (insert_one f text front back)
    (list_any_congr nat_list_eq_equiv first text (front ++ back))
    (λ same. ap f ((bytes_eq-Decides first text).0 same))
    ∙ ap (λ (n : ℕ). n + cond (bytes_eq first text || list_any (bytes_eq text) (front ++ back)) 0 (f text))
    (sym (grown f (list_any (bytes_eq first) (front ++ back)) first (distinct (front ++ back))))
    ∙ ap (λ (t : Bool). sum_by f (distinct (first ∷ front ++ back)) + cond (t || list_any (bytes_eq text) (front ++ back)) 0 (f text))
    (nat_list_eq_equiv.symm first text)
  where
    turn : (a b c : Bool) → (a || (b || c)) ≡ ((a || c) || b)
    turn true b c = refl
    turn false true true = refl
    turn false true false = refl
    turn false false true = refl
    turn false false false = refl

    among : (other : List ℕ) → list_any (bytes_eq other) (front ++ text ∷ back) ≡ (list_any (bytes_eq other) (front ++ back) || bytes_eq other text)
    among other =
        list_any-append (bytes_eq other) front (text ∷ back)
        ∙ turn (list_any (bytes_eq other) front) (bytes_eq other text) (list_any (bytes_eq other) back)
        ∙ ap (λ (t : Bool). t || bytes_eq other text) (sym (list_any-append (bytes_eq other) front back))

    go : (a b c : Bool) (n m v w : ℕ) → n ≡ m + cond c 0 w → (b ≡ true → a ≡ c) → (b ≡ true → v ≡ w)
        → cond (a || b) n (v + n) ≡ cond a m (v + m) + cond (b || c) 0 w
    go true true true n m v w more same weigh = omega arith
    go true true false n m v w more same weigh = absurd (let clash = same refl in cc)
    go true false true n m v w more same weigh = omega arith
    go true false false n m v w more same weigh = omega arith
    go false true true n m v w more same weigh = absurd (let clash = same refl in cc)
    go false true false n m v w more same weigh = let is = weigh refl in omega arith
    go false false true n m v w more same weigh = omega arith
    go false false false n m v w more same weigh = omega arith

-- no text stands in the list twice
abbrev AreDistinct : List (List ℕ) → Type 0
AreDistinct [] = Unit {0}
AreDistinct (text ∷ texts) = (list_any (bytes_eq text) texts ≡ false) × AreDistinct texts

-- distinct texts join others: the weights of those that aren't among them
insert_all : (f : List ℕ → ℕ) (new : List ℕ → Bool) (texts front back : List (List ℕ))
    → ((text : List ℕ) → new text ≡ not (list_any (bytes_eq text) (front ++ back))) → AreDistinct texts
    → sum_by f (distinct (front ++ (texts ++ back))) ≡ sum_by f (distinct (front ++ back)) + sum_by (λ text. cond (new text) (f text) 0) texts
insert_all f new [] front back is apart = omega arith
insert_all f new (text ∷ texts) front back is apart =
    let one = insert_one f text front (texts ++ back) in
    let more = insert_all f new texts front back is apart.1 in
    let among : list_any (bytes_eq text) (front ++ (texts ++ back)) ≡ list_any (bytes_eq text) (front ++ back) =
    list_any-append (bytes_eq text) front (texts ++ back)
    ∙ ap (λ (t : Bool). list_any (bytes_eq text) front || t)
    (list_any-append (bytes_eq text) texts back ∙ ap (λ (t : Bool). t || list_any (bytes_eq text) back) apart.0)
    ∙ sym (list_any-append (bytes_eq text) front back) in
    go (list_any (bytes_eq text) (front ++ back)) _ _ _ _ _ (f text)
    (one ∙ ap (λ (t : Bool). sum_by f (distinct (front ++ (texts ++ back))) + cond t 0 (f text)) among) more
    (sum_by-cons (λ x. cond {A = ℕ} (new x) (f x) 0) text texts
    ∙ ap (λ (t : Bool). cond {A = ℕ} t (f text) 0 + sum_by (λ x. cond {A = ℕ} (new x) (f x) 0) texts) (is text))
  where
    go : (t : Bool) (n m k a b w : ℕ) → n ≡ m + cond t 0 w → m ≡ k + a → b ≡ cond (not t) w 0 + a → n ≡ k + b
    go true n m k a b w one more both = omega arith
    go false n m k a b w one more both = omega arith

none_empty : (byte : ℕ) (name : List ℕ) (texts : List (List ℕ)) → list_any (bytes_eq []) (map (λ more. (byte ∷ name) ++ more) texts) ≡ false
none_empty byte name [] = refl
none_empty byte name (text ∷ texts) = none_empty byte name texts

runs_not_empty : (names : List (List ℕ)) → list_any (bytes_eq []) (runs_of names) ≡ false
runs_not_empty [] = refl
runs_not_empty (name ∷ names) = none_empty 47 name (runs_of names)

same_front : (front a b : List ℕ) → bytes_eq (front ++ a) (front ++ b) ≡ bytes_eq a b
same_front [] a b = refl
same_front (x ∷ front) a b = rw (nat_eq_equiv.refl x) (same_front front a b)

own_front : (front a : List ℕ) → bytes_eq front (front ++ a) ≡ bytes_eq [] a
own_front [] a = refl
own_front (x ∷ front) a = rw (nat_eq_equiv.refl x) (own_front front a)

any_own_front : (front : List ℕ) (texts : List (List ℕ)) → list_any (bytes_eq front) (map (λ more. front ++ more) texts) ≡ list_any (bytes_eq []) texts
any_own_front front [] = refl
any_own_front front (text ∷ texts) = rw (own_front front text, any_own_front front texts) refl

any_same_front : (front text : List ℕ) (texts : List (List ℕ))
    → list_any (bytes_eq (front ++ text)) (map (λ more. front ++ more) texts) ≡ list_any (bytes_eq text) texts
any_same_front front text [] = refl
any_same_front front text (other ∷ texts) = rw (same_front front text other, any_same_front front text texts) refl

stay_distinct : (front : List ℕ) (texts : List (List ℕ)) → AreDistinct texts → AreDistinct (map (λ more. front ++ more) texts)
stay_distinct front [] apart = tt
stay_distinct front (text ∷ texts) apart = (any_same_front front text texts ∙ apart.0, stay_distinct front texts apart.1)

-- the prefixes of an address are distinct
runs_distinct : (names : List (List ℕ)) → AreDistinct (runs_of names)
runs_distinct [] = tt
runs_distinct (name ∷ names) =
    (any_own_front (47 ∷ name) (runs_of names) ∙ runs_not_empty names, stay_distinct (47 ∷ name) (runs_of names) (runs_distinct names))

has_node_is : (prefix : List ℕ) (methods : List Method)
    → has_node methods prefix ≡ list_any (bytes_eq prefix) (flat_map (λ method. prefixes_of method.address) methods)
has_node_is prefix [] = refl
has_node_is prefix (method ∷ methods) =
    ap (λ (t : Bool). list_any (bytes_eq prefix) (prefixes_of method.address) || t) (has_node_is prefix methods)
    ∙ sym (list_any-append (bytes_eq prefix) (prefixes_of method.address) (flat_map (λ method. prefixes_of method.address) methods))

-- what the nodes of the methods weigh
abbrev weight : (List ℕ → ℕ) → List Method → ℕ
weight f methods = sum_by f (distinct (flat_map (λ method. prefixes_of method.address) methods))

-- what the prefixes of an address weigh that no method's address has
abbrev new_weight : (List ℕ → ℕ) → List Method → List ℕ → ℕ
new_weight f methods address = sum_by (λ prefix. cond (not (has_node methods prefix)) (f prefix) 0) (prefixes_of address)

-- a list with one more method, wherever it stands, weighs what the others do and what the method's address adds
one_more_weight : (f : List ℕ → ℕ) (method : Method) (front back : List Method)
    → weight f (front ++ method ∷ back) ≡ weight f (front ++ back) + new_weight f (front ++ back) method.address
one_more_weight f method front back =
    let of : List Method → List (List ℕ) = flat_map (λ method. prefixes_of method.address) in
    ap (λ l. sum_by f (distinct l)) (flat_map-append (λ method. prefixes_of method.address) front (method ∷ back))
    ∙ insert_all f (λ prefix. not (has_node (front ++ back) prefix)) (prefixes_of method.address) (of front) (of back)
    (λ text. ap not (has_node_is text (front ++ back) ∙ ap (list_any (bytes_eq text)) (flat_map-append (λ method. prefixes_of method.address) front back)))
    (runs_distinct (parts_of method.address))
    ∙ ap (λ l. sum_by f (distinct l) + new_weight f (front ++ back) method.address)
    (sym (flat_map-append (λ method. prefixes_of method.address) front back))

ones : (texts : List (List ℕ)) → sum_by (λ text. 1) texts ≡ length texts
ones [] = refl
ones (text ∷ texts) = omega (arith, ones texts, sum_by-cons (λ (text : List ℕ). 1) text texts)

-- where each node weighs 1, as many nodes as before and those that are new
pub one_more_method : (method : Method) (front back : List Method)
    → nodes (front ++ method ∷ back) ≡ nodes (front ++ back) + new_nodes (front ++ back) method.address
one_more_method method front back =
    let of : List Method → List (List ℕ) = flat_map (λ method. prefixes_of method.address) in
    sym (ones (distinct (of (front ++ method ∷ back)))) ∙ one_more_weight (λ text. 1) method front back
    ∙ ap (λ (n : ℕ). n + new_nodes (front ++ back) method.address) (ones (distinct (of (front ++ back))))

-- the steps that the new nodes of an address may cost
abbrev pub new_steps : List ℕ → List Method → List ℕ → ℕ
new_steps pattern = new_weight (node_steps pattern)

pub one_more_steps : (pattern : List ℕ) (method : Method) (front back : List Method)
    → most_steps pattern (front ++ method ∷ back) ≡ most_steps pattern (front ++ back) + new_steps pattern (front ++ back) method.address
one_more_steps pattern = one_more_weight (node_steps pattern)

-- the methods in another order have the same nodes
pub folded_steps : (pattern : List ℕ) (methods more : List Method)
    → most_steps pattern (fold in_place methods more) ≡ most_steps pattern (more ++ methods)
folded_steps pattern methods [] = refl
folded_steps pattern methods (method ∷ more) =
    let place = position_or_len (is_below method) methods in
    let whole : (more ++ take place methods) ++ drop place methods ≡ more ++ methods =
    append_assoc more (take place methods) (drop place methods) ∙ ap (λ l. more ++ l) (take-append-drop place methods) in
    folded_steps pattern (in_place methods method) more
    ∙ ap (most_steps pattern) (sym (append_assoc more (take place methods) (method ∷ drop place methods)))
    ∙ one_more_steps pattern method (more ++ take place methods) (drop place methods)
    ∙ ap (λ l. most_steps pattern l + new_steps pattern l method.address) whole
    ∙ sym (one_more_steps pattern method [] (more ++ methods))

-- some of the methods have no more nodes than all
pub some_steps : (pattern : List ℕ) (test : Method → Bool) (front methods : List Method)
    → most_steps pattern (front ++ filter test methods) ≤ most_steps pattern (front ++ methods)
some_steps pattern test front [] = omega arith
some_steps pattern test front (method ∷ methods) =
    go (test method) (some_steps pattern test (front ++ method ∷ []) methods) (some_steps pattern test front methods)
  where
    go : (t : Bool) → most_steps pattern ((front ++ method ∷ []) ++ filter test methods) ≤ most_steps pattern ((front ++ method ∷ []) ++ methods)
        → most_steps pattern (front ++ filter test methods) ≤ most_steps pattern (front ++ methods)
        → most_steps pattern (front ++ cond t (method ∷ filter test methods) (filter test methods)) ≤ most_steps pattern (front ++ method ∷ methods)
    go true kept left =
        subst (λ l. most_steps pattern l ≤ most_steps pattern (front ++ method ∷ methods)) (append_assoc front (method ∷ []) (filter test methods))
        (subst (λ l. most_steps pattern ((front ++ method ∷ []) ++ filter test methods) ≤ most_steps pattern l) (append_assoc front (method ∷ []) methods) kept)
    go false kept left = let one = one_more_steps pattern method front methods in omega (arith, one)
