-- The places of methods that stand in the order of their addresses.
use Rattle.std.proofs.Common.{◌≡◌, ◌≢◌, ℕ, ◌+◌, ◌<◌, Bool, true, false, cond, List, [], ◌∷◌, ◌++◌, length, filter, take, drop, insert, get_or, fold, All, refl}
use Rattle.std.proofs.Common.{sym, ap, subst, ◌∙◌, arith, length-append}
use Rattle.std.specs.List.{position_or_len}
use Rattle.std.specs.List.{before_first}
use Rattle.std.proofs.lemmas.List.{length-map, get_or-map, map_push}
use Rattle.std.proofs.lemmas.List.Edits.{length-insert}
use Rattle.std.proofs.lemmas.List.Elements.{All-head, All-tail, All-nil, All-cons, All-append, All-take, All-drop, recursion_from_All, All-from_recursion}
use Rattle.std.proofs.Math.ListN.{get_or-append}
use Rattle.std.proofs.Math.Seq.{get_or-append_seam}
use Rattle.osc_pattern.specs.Patterns.{begins_with_slash, is_special, matches}
use Rattle.osc_pattern.specs.Methods.{Method, IsMethodList}
use Rattle.osc_tree.specs.declared.registered.Registered.{Registered}
use Rattle.osc_tree.specs.Matching.{is_below, in_place, matching, IsAscending}
use Rattle.osc_tree.specs.Registry.{NoneAt}
use Rattle.osc_tree.specs.Views.{method_of, methods_of, method_at, methods_at}
use Rattle.osc_tree.specs.Order.{IsOrder, IsSearched, ordered, begins_with}
use Rattle.osc_tree.proofs.Lists.{position_or_len-bound, insert-map}
use Rattle.osc_tree.proofs.Literals.{matched_starts}
use Rattle.osc_tree.proofs.Places.{method_at-get}
use Rattle.osc_tree.proofs.Sorting.{filter_ordered, ordered_ascend}
use Rattle.osc_tree.proofs.Searches.{enters_there}
use Rattle.osc_tree.proofs.Apart.{all_folded}

pub methods_at-length : (registered : List Registered) (places : List ℕ) → length (methods_at registered places) ≡ length places
methods_at-length registered places = length-map places (method_at registered)

pub methods_at-get : (registered : List Registered) (places : List ℕ) (k : ℕ) (d : Method) → k < length places
    → get_or (methods_at registered places) k d ≡ method_at registered (get_or places k 0)
methods_at-get registered places k d within = get_or-map (method_at registered) places k 0 d within

length-placed : (methods : List Method) (method : Method) → length (in_place methods method) ≡ length methods + 1
length-placed methods method = length-insert methods (position_or_len (is_below method) methods) method (position_or_len-bound (is_below method) methods)

length-folded : (methods more : List Method) → length (fold in_place methods more) ≡ length methods + length more
length-folded methods [] = omega arith
length-folded methods (method ∷ more) = omega (arith, length-folded (in_place methods method) more, length-placed methods method)

-- there are as many places as methods
pub order_length : (registered : List Registered) (places : List ℕ) → IsOrder registered places → length places ≡ length registered
order_length registered places order =
    omega (arith, methods_at-length registered places, ap length order.all, length-folded [] (methods_of registered), length-map registered method_of)

pub order_ascends : (registered : List Registered) (places : List ℕ) → IsOrder registered places → IsAscending (methods_at registered places)
order_ascends registered places order = subst IsAscending (sym order.all) (ordered_ascend (methods_of registered))

-- no place is there before a method is
pub none_ordered : IsOrder [] []
none_ordered = record { within = All-nil (λ place. place < 0); all = refl }

filter_twice : {X : Type 0} (p q : X → Bool) (xs : List X) → All (λ x. p x ≡ true → q x ≡ true) xs → filter p (filter q xs) ≡ filter p xs
filter_twice p q [] all = refl
filter_twice p q (x ∷ xs) all = go (p x) (q x) refl refl (filter_twice p q xs (All-tail (λ x. p x ≡ true → q x ≡ true) x xs all)) where
  go : (s t : Bool) → p x ≡ s → q x ≡ t → filter p (filter q xs) ≡ filter p xs
      → filter p (cond t (x ∷ filter q xs) (filter q xs)) ≡ cond s (x ∷ filter p xs) (filter p xs)
  go true true e f more = rw e (ap (λ l. x ∷ l) more)
  go true false e f more = absurd (let is = All-head (λ x. p x ≡ true → q x ≡ true) x xs all e in cc)
  go false true e f more = rw e more
  go false false e f more = more

-- the matching methods are those that match of the methods that begin with the pattern's literal front
pub found_is : (pattern text : List ℕ) (registered : List Registered) (places : List ℕ) → IsMethodList (methods_of registered) → IsOrder registered places
    → begins_with_slash pattern ≡ true → text ≡ before_first is_special pattern
    → filter (λ method. matches pattern method.address) (filter (begins_with text) (methods_at registered places)) ≡ matching pattern (methods_of registered)
found_is pattern text registered places list order slash is =
    let test : Method → Bool = λ method. matches pattern method.address in
    let methods = methods_of registered in
    ap (λ l. filter test (filter (begins_with text) l)) order.all
    ∙ ap (filter test) (filter_ordered (begins_with text) methods)
    ∙ filter_ordered test (filter (begins_with text) methods)
    ∙ ap ordered
    (filter_twice test (begins_with text) methods
    (λ k d within e. subst (λ l. begins_with l (get_or methods k d) ≡ true) (sym is)
    (matched_starts pattern (get_or methods k d).address slash (list.lawful k d within).slash e)))

fold-push : {X A : Type 0} (f : A → X → A) (a : A) (xs : List X) (x : X) → fold f a (xs ++ x ∷ []) ≡ f (fold f a xs) x
fold-push f a [] x = refl
fold-push f a (y ∷ xs) x = fold-push f (f a y) xs x

-- the places mean what they did once more methods follow
methods_at-push : (registered : List Registered) (one : Registered) (places : List ℕ) → All (λ place. place < length registered) places
    → methods_at (registered ++ one ∷ []) places ≡ methods_at registered places
methods_at-push registered one [] all = refl
methods_at-push registered one (place ∷ places) all =
    let within = All-head (λ place. place < length registered) place places all in
    let here : method_at (registered ++ one ∷ []) place ≡ method_at registered place =
    method_at-get (registered ++ one ∷ []) place one (omega (arith, length-append registered (one ∷ [])))
    ∙ ap method_of (get_or-append registered (one ∷ []) one place within) ∙ sym (method_at-get registered place one within) in
    ap (λ l. method_at (registered ++ one ∷ []) place ∷ l)
    (methods_at-push registered one places (All-tail (λ place. place < length registered) place places all))
    ∙ ap (λ (m : Method). m ∷ methods_at registered places) here

last_method : (registered : List Registered) (one : Registered) → method_at (registered ++ one ∷ []) (length registered) ≡ method_of one
last_method registered one = method_at-get (registered ++ one ∷ []) (length registered) one (omega (arith, length-append registered (one ∷ [])))
    ∙ ap method_of (get_or-append_seam registered one [] one)

none_in_order : (methods : List Method) (address : List ℕ) → NoneAt methods address → NoneAt (ordered methods) address
none_in_order methods address none =
    let P : Method → Type 0 = λ method. method.address ≢ address in
    All-from_recursion P (ordered methods) (all_folded P [] methods tt (recursion_from_All P methods none))

all_inserted : {X : Type 0} (P : X → Type 0) (xs : List X) (n : ℕ) (x : X) → All P xs → P x → All P (insert xs n x)
all_inserted P xs n x all here = All-append P (take n xs) (x ∷ drop n xs) (All-take P n xs all) (All-cons P x (drop n xs) here (All-drop P n xs all))

-- the last method's place enters where the search for its address came to
pub one_more_ordered : (registered : List Registered) (one : Registered) (places : List ℕ) (at : ℕ) → IsOrder registered places
    → NoneAt (methods_of registered) one.address → IsSearched one.address (methods_at registered places) at at
    → IsOrder (registered ++ one ∷ []) (insert places at (length registered))
one_more_ordered registered one places at order none so =
    let all = registered ++ one ∷ [] in
    let method = method_of one in
    let ms = methods_at registered places in
    let long = length-append registered (one ∷ []) in
    record {
      within = all_inserted (λ place. place < length all) places at (length registered)
          (λ k d lt. let within = order.within k d lt in omega arith) (omega arith);
      all = insert-map (method_at all) at (length registered) places
          ∙ ap (λ l. insert l at (method_at all (length registered))) (methods_at-push registered one places order.within)
          ∙ ap (insert ms at) (last_method registered one)
          ∙ ap (λ (n : ℕ). insert ms n method)
          (sym (enters_there method ms at so (subst (λ l. NoneAt l one.address) (sym order.all) (none_in_order (methods_of registered) one.address none))))
          ∙ ap (λ l. in_place l method) order.all
          ∙ sym (ap ordered (map_push method_of registered one) ∙ fold-push in_place [] (methods_of registered) method);
    }
