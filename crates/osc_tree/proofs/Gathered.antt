-- The methods at the addresses that the texts of a choice make, one text after another.
use Rattle.std.proofs.Common.{◌≡◌, ℕ, suc, ◌+◌, ◌<◌, ◌≤◌, Bool, true, false, cond, ◌||◌, nat_eq, List, []}
use Rattle.std.proofs.Common.{◌∷◌, ◌++◌, length, take, drop, map, filter, find}
use Rattle.std.proofs.Common.{Bor, MatchOption, get_or, All, Option, Some, None, position, is_some, drop-cons, add-one, ◌==◌}
use Rattle.std.proofs.Common.{refl, sym, ap, subst, ◌∙◌, arith, length-append}
use Rattle.std.specs.List.{slice_split, starts_with}
use Rattle.std.specs.Option.{option_map, option_to_list}
use Rattle.std.specs.Str.{bytes_eq}
use Rattle.std.proofs.lemmas.Bool.{both_ways}
use Rattle.std.proofs.lemmas.Bool.Decides.{nat_tests}
use Rattle.std.proofs.lemmas.List.{append-nil, append_assoc, map-append, length-map, take_at, take-append-drop, length-take}
use Rattle.std.proofs.lemmas.Slice.{take-put_mid}
use borrow.Rule.Slice.PartMut.{put_mid}
use Rattle.std.proofs.lemmas.List.Elements.{All-cons, All-head, All-tail, All-nil}
use Rattle.std.proofs.lemmas.Slice.Eq.{bytes_eq-Decides}
use Rattle.osc_pattern.specs.Items.{is_comma, is_choice_end}
use Rattle.osc_pattern.specs.Methods.{Method, IsMethodList}
use Rattle.osc_pattern.specs.Patterns.{begins_with_slash, is_special, matches}
use Rattle.osc_pattern.specs.Reading.{cut_at}
use Rattle.osc_pattern.proofs.Cutting.{CutAt, cut_at-cuts}
use Rattle.osc_tree.specs.declared.registered.Registered.{Registered}
use Rattle.osc_tree.specs.Choosing.{is_chosen, is_odd, spelled, IsChain, AreInOrder, IsPlainChoice}
use Rattle.osc_tree.specs.Matching.{is_below, matching_ids, IsAscending}
use Rattle.osc_tree.specs.Order.{IsOrder, ordered}
use Rattle.osc_tree.specs.Registry.{id_at}
use Rattle.osc_tree.specs.Views.{methods_of, methods_at}
use Rattle.osc_tree.proofs.Chosen.{choice_matches}
use Rattle.osc_tree.proofs.InOrder.{order_ascends, methods_at-length}
use Rattle.osc_tree.proofs.Lawful.{once}
use Rattle.osc_tree.proofs.Lists.{filter_few, list_any-some, none-find, none_placed, position-some}
use Rattle.osc_tree.proofs.Onward.{lower_prefix, plain_front}
use Rattle.osc_tree.proofs.Ranges.{lower, lower_order, lower_more, lower_longer, ascend_far}
use Rattle.osc_tree.proofs.Sorting.{filter_ordered}
use Rattle.osc_tree.proofs.Spelled.{filter_one, filter_alike}

-- what passes the second test stands after all that pass the first
abbrev Behind : {X : Type 0} → (X → Bool) → (X → Bool) → List X → Type 0
Behind {X} f g xs = (i j : ℕ) (d : X) → i ≤ j → j < length xs → g (get_or xs i d) ≡ true → f (get_or xs j d) ≡ false

filter_none : {X : Type 0} (f : X → Bool) (xs : List X) → All (λ x. f x ≡ false) xs → filter f xs ≡ []
filter_none f [] all = refl
filter_none f (x ∷ xs) all = rw (All-head (λ x. f x ≡ false) x xs all) (filter_none f xs (All-tail (λ x. f x ≡ false) x xs all))

filter_both : {X : Type 0} (f g : X → Bool) (xs : List X) → Behind f g xs → filter (λ x. f x || g x) xs ≡ filter f xs ++ filter g xs
filter_both f g [] behind = refl
filter_both f g (x ∷ xs) behind =
    go (f x) (g x) refl refl (filter_both f g xs (λ i j d le lt e. behind (suc i) (suc j) d (omega arith) (omega arith) e))
  where
    go : (s t : Bool) → f x ≡ s → g x ≡ t → filter (λ x. f x || g x) xs ≡ filter f xs ++ filter g xs
        → cond (s || t) (x ∷ filter (λ x. f x || g x) xs) (filter (λ x. f x || g x) xs)
        ≡ cond s (x ∷ filter f xs) (filter f xs) ++ cond t (x ∷ filter g xs) (filter g xs)
    go true true e h more = absurd (both_ways (f x) (behind 0 0 x (omega arith) (omega arith) h) e)
    go true false e h more = ap (λ l. x ∷ l) more
    go false true e h more =
        let none : filter f xs ≡ [] = filter_none f xs (λ k d lt. behind 0 (suc k) d (omega arith) (omega arith) h) in
        ap (λ l. x ∷ l) (more ∙ ap (λ l. l ++ filter g xs) none) ∙ sym (ap (λ l. l ++ x ∷ filter g xs) none)
    go false false e h more = more

trans_lower : (a b c : List ℕ) → lower a b ≡ true → lower b c ≡ true → lower a c ≡ true
trans_lower a b c e f = go (lower a c) refl where
  go : (t : Bool) → lower a c ≡ t → lower a c ≡ true
  go true is = is
  go false is = absurd (let no = lower_order.chain a c b is (lower_order.one_way b c f) in cc)

-- a text with what follows it is before all that come after it
chain_ahead : (back text : List ℕ) (texts : List (List ℕ)) → IsChain back text texts → All (λ other. lower (text ++ back) other ≡ true) texts
chain_ahead back text [] chain = All-nil (λ other. lower (text ++ back) other ≡ true)
chain_ahead back text (next ∷ texts) chain =
    let more = chain_ahead back next texts chain.1 in
    All-cons (λ other. lower (text ++ back) other ≡ true) next texts chain.0
    (λ k d lt. trans_lower (text ++ back) (next ++ back) (get_or texts k d) (lower_longer (text ++ back) next back chain.0) (more k d lt))

-- so is the address that it makes
spelled_ahead : (front back text other : List ℕ) → lower (text ++ back) other ≡ true → lower (spelled front back text) (spelled front back other) ≡ true
spelled_ahead front back text other e = lower_prefix front (text ++ back) (other ++ back) ∙ lower_longer (text ++ back) other back e

chosen_ahead : (front back text : List ℕ) (texts : List (List ℕ)) (address : List ℕ) → All (λ other. lower (text ++ back) other ≡ true) texts
    → is_chosen front back texts address ≡ true → lower (spelled front back text) address ≡ true
chosen_ahead front back text texts address all e =
    let found = list_any-some (λ other. bytes_eq address (spelled front back other)) texts e in
    let there = found.1 in
    let ahead : lower (text ++ back) found.0 ≡ true =
    subst (λ l. lower (text ++ back) l ≡ true) there.2 (all there.0 found.0 there.1) in
    subst (λ l. lower (spelled front back text) l ≡ true) (sym ((bytes_eq-Decides address (spelled front back found.0)).0 found.2))
    (spelled_ahead front back text found.0 ahead)

-- the methods at the address that the first text makes come before those of the others
first_chosen : (front back text : List ℕ) (texts : List (List ℕ)) (ms : List Method) → IsAscending ms → IsChain back text texts
    → filter (λ method. is_chosen front back (text ∷ texts) method.address) ms
    ≡ filter (λ method. bytes_eq method.address (spelled front back text)) ms ++ filter (λ method. is_chosen front back texts method.address) ms
first_chosen front back text texts ms up chain =
    filter_both (λ method. bytes_eq method.address (spelled front back text)) (λ method. is_chosen front back texts method.address) ms
    (λ i j d le lt e. other (get_or ms i d) (get_or ms j d) (ascend_far ms i j d up le lt)
    (chosen_ahead front back text texts (get_or ms i d).address (chain_ahead back text texts chain) e))
  where
    other : (first second : Method) → is_below second first ≡ false → lower (spelled front back text) first.address ≡ true
        → bytes_eq second.address (spelled front back text) ≡ false
    other first second up ahead = go (bytes_eq second.address (spelled front back text)) refl where
      go : (t : Bool) → bytes_eq second.address (spelled front back text) ≡ t → bytes_eq second.address (spelled front back text) ≡ false
      go false is = is
      go true is =
          let same = (bytes_eq-Decides second.address (spelled front back text)).0 is in
          absurd (both_ways (lower second.address first.address) up (subst (λ l. lower l first.address ≡ true) (sym same) ahead))

-- the id of the one method at an address
pub named_ids : (registered : List Registered) (places address : List ℕ) → IsMethodList (methods_of registered) → IsOrder registered places
    → map (λ (method : Method). method.id) (filter (λ method. bytes_eq method.address address) (methods_at registered places))
    ≡ option_to_list (id_at (methods_of registered) address)
named_ids registered places address list order =
    ap (λ l. map (λ (method : Method). method.id) (filter here l)) order.all
    ∙ ap (map (λ (method : Method). method.id)) (filter_ordered here (methods_of registered)
    ∙ ap ordered (filter_one here (methods_of registered) (once (methods_of registered) address list)))
    ∙ last (find here (methods_of registered))
  where
    here : Method → Bool
    here method = bytes_eq method.address address

    last : (o : Option Method) → map (λ (method : Method). method.id) (ordered (option_to_list o))
        ≡ option_to_list (option_map (λ (method : Method). method.id) o)
    last None = refl
    last (Some method) = refl

-- the ids at the addresses that texts make
abbrev pub chosen_ids : List Registered → List ℕ → List ℕ → List ℕ → List (List ℕ) → List ℕ
chosen_ids registered places front back texts =
    map (λ (method : Method). method.id) (filter (λ method. is_chosen front back texts method.address) (methods_at registered places))

pub first_ids : (registered : List Registered) (places front back text : List ℕ) (texts : List (List ℕ)) → IsMethodList (methods_of registered)
    → IsOrder registered places → IsChain back text texts
    → chosen_ids registered places front back (text ∷ texts)
    ≡ option_to_list (id_at (methods_of registered) (spelled front back text)) ++ chosen_ids registered places front back texts
first_ids registered places front back text texts list order chain =
    ap (map (λ (method : Method). method.id)) (first_chosen front back text texts (methods_at registered places) (order_ascends registered places order) chain)
    ∙ map-append (λ (method : Method). method.id) (filter (λ method. bytes_eq method.address (spelled front back text)) (methods_at registered places))
    (filter (λ method. is_chosen front back texts method.address) (methods_at registered places))
    ∙ ap (λ l. l ++ chosen_ids registered places front back texts) (named_ids registered places (spelled front back text) list order)

pub no_ids_left : (registered : List Registered) (places front back : List ℕ) → chosen_ids registered places front back [] ≡ []
no_ids_left registered places front back =
    ap (map (λ (method : Method). method.id)) (filter_none (λ (method : Method). false) (methods_at registered places) (λ k d lt. refl))

pub few_chosen : (registered : List Registered) (places front back : List ℕ) (texts : List (List ℕ))
    → length (chosen_ids registered places front back texts) ≤ length places
few_chosen registered places front back texts =
    let few = filter_few (λ (method : Method). is_chosen front back texts method.address) (methods_at registered places) in
    omega (
      arith,
      few,
      length-map (filter (λ (method : Method). is_chosen front back texts method.address) (methods_at registered places)) (λ (method : Method). method.id),
      methods_at-length registered places,
    )

-- what a text and more of it are before
pub starts_rest : (text back other : List ℕ) → starts_with nat_eq other text ≡ true → lower back (drop (length text) other) ≡ lower (text ++ back) other
starts_rest [] back other e = refl
starts_rest (x ∷ text) back [] e = absurd (cc)
starts_rest (x ∷ text) back (y ∷ other) e =
    let more = starts_rest text back other in
    let is = lower_more x y (text ++ back) other in
    grind (arith, nat_tests)

pub starts_otherwise : (text back other : List ℕ) → starts_with nat_eq other text ≡ false → lower text other ≡ lower (text ++ back) other
starts_otherwise [] back [] e = absurd (cc)
starts_otherwise [] back (y ∷ other) e = absurd (cc)
starts_otherwise (x ∷ text) back [] e = refl
starts_otherwise (x ∷ text) back (y ∷ other) e =
    let more = starts_otherwise text back other in
    let is = lower_more x y text other in
    let longer = lower_more x y (text ++ back) other in
    grind (arith, nat_tests)

-- the texts of a choice in order, one after another
pub one_in_order : (back text : List ℕ) (texts : List (List ℕ)) → texts ≡ text ∷ [] → AreInOrder back texts
one_in_order back text texts cut = subst (AreInOrder back) (sym cut) tt

pub chain_of : (back text : List ℕ) (texts more : List (List ℕ)) → texts ≡ text ∷ more → AreInOrder back texts → IsChain back text more
chain_of back text texts more cut order = subst (AreInOrder back) cut order

pub order_of : (back text : List ℕ) (more : List (List ℕ)) → IsChain back text more → AreInOrder back more
order_of back text [] chain = tt
order_of back text (next ∷ more) chain = chain.1

pub linked : (back last text : List ℕ) (texts more : List (List ℕ)) → texts ≡ text ∷ more → lower (last ++ back) text ≡ true → IsChain back text more
    → IsChain back last texts
linked back last text texts more cut ahead chain = subst (IsChain back last) (sym cut) (ahead, chain)

-- one text less is left
pub ids_left : (registered : List Registered) (places front back text was is : List ℕ) (texts more all : List (List ℕ)) → IsMethodList (methods_of registered)
    → IsOrder registered places → texts ≡ text ∷ more → AreInOrder back texts
    → is ≡ was ++ option_to_list (id_at (methods_of registered) (spelled front back text))
    → was ++ chosen_ids registered places front back texts ≡ chosen_ids registered places front back all
    → is ++ chosen_ids registered places front back more ≡ chosen_ids registered places front back all
ids_left registered places front back text was is texts more all list order cut up e so =
    ap (λ l. l ++ chosen_ids registered places front back more) e
    ∙ append_assoc was (option_to_list (id_at (methods_of registered) (spelled front back text))) (chosen_ids registered places front back more)
    ∙ ap (λ l. was ++ l)
    (sym (ap (chosen_ids registered places front back) cut
    ∙ first_ids registered places front back text more list order (chain_of back text texts more cut up)))
    ∙ so

pub room_left : (registered : List Registered) (places front back text was : List ℕ) (texts more all : List (List ℕ)) → IsMethodList (methods_of registered)
    → IsOrder registered places → texts ≡ text ∷ more → AreInOrder back texts
    → was ++ chosen_ids registered places front back texts ≡ chosen_ids registered places front back all
    → length (was ++ option_to_list (id_at (methods_of registered) (spelled front back text))) ≤ length places
room_left registered places front back text was texts more all list order cut up so =
    let one = option_to_list (id_at (methods_of registered) (spelled front back text)) in
    let whole = ids_left registered places front back text was (was ++ one) texts more all list order cut up refl so in
    omega (arith, ap length whole, length-append (was ++ one) (chosen_ids registered places front back more), few_chosen registered places front back all)

-- no method has an address that is too long
pub too_long : (methods : List Method) (front back text : List ℕ) → IsMethodList methods → 255 < length front + length back + length text
    → None ≡ id_at methods (spelled front back text)
too_long methods front back text list long =
    sym (ap (option_map (λ (method : Method). method.id)) (none-find (λ (method : Method). bytes_eq method.address (spelled front back text)) methods
    (λ k d lt. other (get_or methods k d).address (list.lawful k d lt).short)))
  where
    other : (address : List ℕ) → length address ≤ 255 → bytes_eq address (spelled front back text) ≡ false
    other address short = go (bytes_eq address (spelled front back text)) refl where
      go : (t : Bool) → bytes_eq address (spelled front back text) ≡ t → bytes_eq address (spelled front back text) ≡ false
      go false is = is
      go true is =
          let same = ap length ((bytes_eq-Decides address (spelled front back text)).0 is) in
          absurd (omega (arith, same, short, long, length-append front (text ++ back), length-append text back))

-- three texts written one after another
pub written : (front text back a t b p : List ℕ) (k n : ℕ) → a ≡ front → t ≡ text → b ≡ back
    → take (length front + length back + length text) (put_mid (length front + length text) n (put_mid (length front) k (a ++ p) t) b)
    ≡ spelled front back text
written front text back a t b p k n e f g =
    let whole = length-append a p in
    let inner = put_mid (length front) k (a ++ p) t in
    let first : take (length front + length text) inner ≡ a ++ t =
    take-put_mid (length front) k (a ++ p) t (length front + length text) (omega (arith, ap length f)) (omega (arith, whole, ap length e))
    ∙ ap (λ l. l ++ t) (take_at a p (length front) (ap length e)) in
    take-put_mid (length front + length text) n inner b (length front + length back + length text) (omega (arith, ap length g))
    (omega (arith, ap length first, length-append a t, ap length e, ap length f, length-take (length front + length text) inner))
    ∙ ap (λ l. l ++ b) first ∙ append_assoc a t b
    ∙ ap (λ l. l ++ (t ++ b)) e ∙ ap (λ l. front ++ (l ++ b)) f ∙ ap (λ l. front ++ (text ++ l)) g

-- the choice that is found
pub found_choice : (pattern texts back : List ℕ) (end : ℕ) → position is_special pattern ≡ Some end → get_or pattern end 0 ≡ 123
    → cut_at is_choice_end (drop (end + 1) pattern) ≡ Some (texts, back) → position is_odd texts ≡ None → position is_special back ≡ None
    → AreInOrder back (slice_split is_comma texts) → IsPlainChoice pattern (take end pattern) texts back
found_choice pattern texts back end found brace cut plain behind order =
    let within = (position-some is_special pattern end found).1 in
    let opened : drop end pattern ≡ 123 ∷ drop (end + 1) pattern =
    drop-cons pattern end 0 within ∙ ap (λ b. b ∷ drop (suc end) pattern) brace ∙ ap (λ (n : ℕ). 123 ∷ drop n pattern) (sym (add-one end)) in
    let (byte, is, last, closed) = subst (CutAt is_choice_end (drop (end + 1) pattern)) cut (cut_at-cuts is_choice_end (drop (end + 1) pattern)) in
    let brace_end : byte ≡ 125 = (let h : (byte == 125) ≡ true = last in grind (arith, nat_tests)) in
    record {
      is = sym (take-append-drop end pattern) ∙ ap (λ l. take end pattern ++ l) opened ∙ ap (λ l. take end pattern ++ 123 ∷ l) is
          ∙ ap (λ (b : ℕ). take end pattern ++ 123 ∷ (texts ++ b ∷ back)) brace_end;
      before = plain_front pattern end found;
      closed = closed;
      plain = none_placed is_odd texts plain;
      behind = none_placed is_special back behind;
      order = order;
    }

pub none_some : (o : Option ℕ) (t : Bool) → t ≡ is_some o → t ≡ false → o ≡ None
none_some None t e f = refl
none_some (Some x) t e f = absurd (cc)

-- the ids that the pattern matches
pub chosen_is : (registered : List Registered) (places pattern front texts back : List ℕ) → IsMethodList (methods_of registered)
    → IsOrder registered places → begins_with_slash pattern ≡ true → IsPlainChoice pattern front texts back
    → chosen_ids registered places front back (slice_split is_comma texts) ≡ matching_ids pattern (methods_of registered)
chosen_is registered places pattern front texts back list order slash so =
    ap (λ l. map (λ (method : Method). method.id) (filter chosen l)) order.all
    ∙ ap (map (λ (method : Method). method.id))
    (filter_ordered chosen (methods_of registered)
    ∙ ap ordered (filter_alike chosen matched_by (methods_of registered)
    (λ k d lt. sym (choice_matches pattern front texts back (get_or (methods_of registered) k d).address so slash (list.lawful k d lt).slash))))
  where
    chosen : Method → Bool
    chosen method = is_chosen front back (slice_split is_comma texts) method.address

    matched_by : Method → Bool
    matched_by method = matches pattern method.address

-- a choice has a first text
pub some_text : (left text : List ℕ) (o : Option (Bor (List ℕ))) → MatchOption o (slice_split is_comma left ≡ text ∷ [])
    (λ rest. slice_split is_comma left ≡ text ∷ slice_split is_comma rest.now) → (more : List (List ℕ)) × (slice_split is_comma left ≡ text ∷ more)
some_text left text None cut = ([], cut)
some_text left text (Some rest) cut = (slice_split is_comma rest.now, cut)

pub room_within : (xs : List ℕ) (few some most : ℕ) → length xs ≤ few → few ≤ some → some ≤ most → length xs ≤ most
room_within xs few some most a b c = omega arith

pub last_ids : (registered : List Registered) (places front back text was is : List ℕ) (texts all : List (List ℕ)) → IsMethodList (methods_of registered)
    → IsOrder registered places → texts ≡ text ∷ [] → AreInOrder back texts
    → is ≡ was ++ option_to_list (id_at (methods_of registered) (spelled front back text))
    → was ++ chosen_ids registered places front back texts ≡ chosen_ids registered places front back all → is ≡ chosen_ids registered places front back all
last_ids registered places front back text was is texts all list order cut up e so =
    sym (append-nil is) ∙ ap (λ l. is ++ l) (sym (no_ids_left registered places front back))
    ∙ ids_left registered places front back text was is texts [] all list order cut up e so
