-- Where a walk goes on after a name that a part with a choice doesn't match.
use Rattle.std.proofs.Common.{◌≡◌, ℕ, zero, suc, ◌+◌, ◌<◌, ◌⊎◌, inl, inr, Bool, true, false, cond, ◌||◌, nat_eq, nat_lt}
use Rattle.std.proofs.Common.{List, [], ◌∷◌, ◌++◌, length, take, drop, position, Some}
use Rattle.std.proofs.Common.{append_assoc, drop-cons, add-one, get_or, All, refl, sym, ap, subst, ◌∙◌, arith, Contains}
use Rattle.std.specs.List.{list_any, slice_split, onto_first, flat_map, starts_with}
use Rattle.std.specs.Option.{option_map}
use Rattle.std.specs.Str.{bytes_eq}
use Rattle.std.proofs.lemmas.List.{take-append-drop, length-take-le}
use Rattle.std.proofs.lemmas.List.Concat.{flat_map-cons}
use Rattle.std.proofs.lemmas.List.Elements.{All-cons, All-head, All-tail, All-nil}
use Rattle.std.proofs.lemmas.List.Folds.{list_any-append}
use Rattle.std.proofs.lemmas.Bool.{both_ways, or_parts, and_parts}
use Rattle.std.proofs.lemmas.Bool.Decides.{nat_tests}
use Rattle.std.proofs.lemmas.Slice.Eq.{bytes_eq-Decides}
use Rattle.osc_pattern.specs.Cuts.{after_text}
use Rattle.osc_pattern.specs.Items.{choice, is_comma, is_choice_end, is_slash}
use Rattle.osc_pattern.specs.Patterns.{is_special}
use Rattle.osc_pattern.specs.Reading.{cut_at, first_item, match_part}
use Rattle.osc_pattern.proofs.Cutting.{CutAt, cut_at-cuts}
use Rattle.osc_pattern.proofs.Matches.{match_part-item}
use Rattle.osc_pattern.proofs.Parts.{split-cons}
use Rattle.osc_tree.specs.Walking.{is_ahead, IsAim, IsReached}
use Rattle.osc_tree.proofs.Lists.{position-some, contains_later}
use Rattle.osc_tree.proofs.Literals.{empty_part}
use Rattle.osc_tree.proofs.Onward.{IsBetween, part_front, front_between, plain_front, none_taken, one_piece}
use Rattle.osc_tree.proofs.Onward.{lower_prefix, low_behind, low_end}
use Rattle.osc_tree.proofs.Ranges.{lower, lower_order, lower_more}

-- a choice's texts have no slash where it has none
pub pieces_none : (test : ℕ → Bool) (xs : List ℕ) → list_any test xs ≡ false → All (λ text. list_any test text ≡ false) (slice_split is_comma xs)
pieces_none test [] e = All-cons (λ text. list_any test text ≡ false) [] [] refl (All-nil (λ text. list_any test text ≡ false))
pieces_none test (x ∷ xs) e = go (is_comma x) (split-commas xs) (pieces_none test xs (or_parts (test x) (list_any test xs) e).1) where
  split-commas : (bytes : List ℕ) → (part : List ℕ) × (parts : List (List ℕ)) × (slice_split is_comma bytes ≡ part ∷ parts)
  split-commas [] = ([], [], refl)
  split-commas (b ∷ bytes) = more (is_comma b) (split-commas bytes) where
    more : (t : Bool) → (part : List ℕ) × (parts : List (List ℕ)) × (slice_split is_comma bytes ≡ part ∷ parts)
        → (part : List ℕ) × (parts : List (List ℕ)) × (cond t ([] ∷ slice_split is_comma bytes) (onto_first b (slice_split is_comma bytes)) ≡ part ∷ parts)
    more true found = ([], slice_split is_comma bytes, refl)
    more false (part, parts, f) = (b ∷ part, parts, ap (onto_first b) f)

  fine : List ℕ → Type 0
  fine text = list_any test text ≡ false

  go : (t : Bool) → (part : List ℕ) × (parts : List (List ℕ)) × (slice_split is_comma xs ≡ part ∷ parts) → All fine (slice_split is_comma xs)
      → All fine (cond t ([] ∷ slice_split is_comma xs) (onto_first x (slice_split is_comma xs)))
  go true found all = All-cons fine [] (slice_split is_comma xs) refl all
  go false (part, parts, f) all =
      let those : All fine (part ∷ parts) = subst (All fine) f all in
      let first : fine (x ∷ part) = rw (or_parts (test x) (list_any test xs) e).0 (All-head fine part parts those) in
      subst (λ l. All fine (onto_first x l)) (sym f) (All-cons fine (x ∷ part) parts first (All-tail fine part parts those))

-- what a part with a choice matches begins with one of the texts
record Picked (test : List ℕ → Bool) (texts : List (List ℕ)) (name : List ℕ) : Type 0 where
  text : List ℕ
  stands : Contains texts text
  rest : List ℕ
  is : name ≡ text ++ rest
  passes : test rest ≡ true

pick : (test : List ℕ → Bool) (texts : List (List ℕ)) (name : List ℕ) → list_any test (flat_map (after_text name) texts) ≡ true → Picked test texts name
pick test [] name e = absurd (cc)
pick test (text ∷ texts) name e =
    go (bytes_eq (take (length text) name) text) refl (test (drop (length text) name)) refl
    (sym (ap (list_any test) (flat_map-cons (after_text name) text texts) ∙ list_any-append test (after_text name text) (flat_map (after_text name) texts)) ∙ e)
    (pick test texts name)
  where
    later : Picked test texts name → Picked test (text ∷ texts) name
    later so = record { text = so.text; stands = contains_later so.text text texts so.stands; rest = so.rest; is = so.is; passes = so.passes }

    go : (t : Bool) → bytes_eq (take (length text) name) text ≡ t → (s : Bool) → test (drop (length text) name) ≡ s
        → (list_any test (cond t (drop (length text) name ∷ []) []) || list_any test (flat_map (after_text name) texts)) ≡ true
        → (list_any test (flat_map (after_text name) texts) ≡ true → Picked test texts name) → Picked test (text ∷ texts) name
    go true same true is e more = record {
      text = text;
      stands = (0, omega arith, refl);
      rest = drop (length text) name;
      is = sym (take-append-drop (length text) name)
          ∙ ap (λ l. l ++ drop (length text) name) ((bytes_eq-Decides (take (length text) name) text).0 same);
      passes = is;
    }
    go true same false is e more = later (more (subst (λ b. ((b || false) || list_any test (flat_map (after_text name) texts)) ≡ true) is e))
    go false same s is e more = later (more e)

-- a text is its first name, and then nothing or a slash
record Ended (tail name : List ℕ) : Type 0 where
  rest : List ℕ
  is : tail ≡ name ++ rest
  low : lower rest (48 ∷ []) ≡ true

name_ended : (tail name : List ℕ) (names : List (List ℕ)) → slice_split is_slash tail ≡ name ∷ names → Ended tail name
name_ended [] name names cut =
    let none : [] ≡ name = ap (λ l. get_or l 0 []) cut in
    record { rest = []; is = ap (λ l. l ++ []) none; low = refl }
name_ended (x ∷ tail) name names cut = go (is_slash x) refl (split-cons tail) cut (name_ended tail) where
  go : (t : Bool) → is_slash x ≡ t → (n : List ℕ) × (ns : List (List ℕ)) × (slice_split is_slash tail ≡ n ∷ ns)
      → cond t ([] ∷ slice_split is_slash tail) (onto_first x (slice_split is_slash tail)) ≡ name ∷ names
      → ((name : List ℕ) (names : List (List ℕ)) → slice_split is_slash tail ≡ name ∷ names → Ended tail name) → Ended (x ∷ tail) name
  go true is found cut more =
      let none : [] ≡ name = ap (λ l. get_or l 0 []) cut in
      let less : nat_lt x 48 ≡ true = (let h : is_slash x ≡ true = is in grind (arith, nat_tests)) in
      let longer = lower_more x 48 tail [] in
      record { rest = x ∷ tail; is = ap (λ l. l ++ x ∷ tail) none; low = grind (arith, nat_tests) }
  go false is (n, ns, f) cut more =
      let first : x ∷ n ≡ name = ap (λ l. get_or l 0 []) (sym (ap (onto_first x) f) ∙ cut) in
      let so = more n ns f in
      record { rest = so.rest; is = ap (λ l. x ∷ l) so.is ∙ ap (λ l. l ++ so.rest) first; low = so.low }

-- the byte after the texts of a choice, by what follows it
pub record IsLast (behind : List ℕ) (last : ℕ) : Type 0 where
  pub either : (last ≡ 127) ⊎ ((last ≡ 48) × (behind ≡ []))

record Chosen (front texts other : List ℕ) (last : ℕ) : Type 0 where
  tail : List ℕ
  is : other ≡ front ++ tail
  text : List ℕ
  stands : Contains (slice_split is_comma texts) text
  between : IsBetween tail text (text ++ last ∷ [])

choice_between : (part texts behind other name : List ℕ) (names : List (List ℕ)) (end last : ℕ) → position is_special part ≡ Some end
    → get_or part end 0 ≡ 123 → cut_at is_choice_end (drop (end + 1) part) ≡ Some (texts, behind) → IsLast behind last → list_any is_slash part ≡ false
    → All (λ byte. byte < 127) other → slice_split is_slash other ≡ name ∷ names → match_part part name ≡ true → Chosen (take end part) texts other last
choice_between part texts behind other name names end last found brace cut ends slash low named e =
    let front = take end part in
    let within = (position-some is_special part end found).1 in
    let so = part_front front (drop end part) other name names (plain_front part end found) (none_taken part end slash) named
    (ap (λ l. match_part l name) (take-append-drop end part) ∙ e) in
    let opened : drop end part ≡ 123 ∷ drop (end + 1) part =
    drop-cons part end 0 within ∙ ap (λ b. b ∷ drop (suc end) part) brace ∙ ap (λ (n : ℕ). 123 ∷ drop n part) (sym (add-one end)) in
    let item : first_item (123 ∷ drop (end + 1) part) ≡ Some (choice texts, behind) = ap (option_map (λ cut. (choice cut.0, cut.1))) cut in
    let picked = pick (match_part behind) (slice_split is_comma texts) so.last
    (sym (match_part-item (123 ∷ drop (end + 1) part) (choice texts) behind so.last item) ∙ ap (λ l. match_part l so.last) (sym opened) ∙ so.matched) in
    let ended = name_ended so.tail so.last names so.cut in
    let whole : so.tail ≡ picked.text ++ (picked.rest ++ ended.rest) =
    ended.is ∙ ap (λ l. l ++ ended.rest) picked.is ∙ append_assoc picked.text picked.rest ended.rest in
    let small = low_behind picked.text (picked.rest ++ ended.rest) so.tail whole (low_behind front so.tail other so.is low) in
    record {
      tail = so.tail;
      is = so.is;
      text = picked.text;
      stands = picked.stands;
      between = front_between picked.text (picked.rest ++ ended.rest) so.tail last whole
          (less ends.either picked.rest ended.rest picked.passes ended.low small);
    }
  where
    less : (last ≡ 127) ⊎ ((last ≡ 48) × (behind ≡ [])) → (rest more : List ℕ) → match_part behind rest ≡ true → lower more (48 ∷ []) ≡ true
        → All (λ byte. byte < 127) (rest ++ more) → lower (rest ++ more) (last ∷ []) ≡ true
    less (inl is) rest more passes ended small = subst (λ (n : ℕ). lower (rest ++ more) (n ∷ []) ≡ true) (sym is) (low_end (rest ++ more) small)
    less (inr (is, none)) [] more passes ended small = subst (λ (n : ℕ). lower more (n ∷ []) ≡ true) (sym is) ended
    less (inr (is, none)) (x ∷ rest) more passes ended small =
        absurd (both_ways (match_part behind (x ∷ rest)) (ap (λ l. match_part l (x ∷ rest)) none ∙ empty_part x rest) passes)

any_none : (test : ℕ → Bool) (xs ys : List ℕ) → list_any test xs ≡ false → list_any test ys ≡ false → list_any test (xs ++ ys) ≡ false
any_none test xs ys e f = list_any-append test xs ys ∙ rw (e, f) refl

-- a text that begins with the first bytes of another
front_of : (rest front : List ℕ) → starts_with nat_eq rest front ≡ true → take (length front) rest ≡ front
front_of rest [] e = refl
front_of [] (y ∷ front) e = absurd (cc)
front_of (x ∷ rest) (y ∷ front) e =
    let both = and_parts (nat_eq y x) (starts_with nat_eq rest front) e in
    let same : x ≡ y = (let h : nat_eq y x ≡ true = both.0 in grind (arith, nat_tests)) in
    ap (λ b. b ∷ take (length front) rest) same ∙ ap (λ l. y ∷ l) (front_of rest front both.1)

pub choice_aims : (part texts behind rest aim : List ℕ) (end last : ℕ) → position is_special part ≡ Some end → get_or part end 0 ≡ 123
    → cut_at is_choice_end (drop (end + 1) part) ≡ Some (texts, behind) → IsLast behind last → list_any is_slash part ≡ false
    → starts_with nat_eq rest (take end part) ≡ true → is_ahead (drop end rest) aim ≡ true → list_any is_slash aim ≡ false
    → ((text : List ℕ) → Contains (slice_split is_comma texts) text → IsReached (drop end rest) last text aim) → IsAim part rest (take end rest ++ aim)
choice_aims part texts behind rest aim end last found brace cut ends slash begun ahead one reach =
    let own = front in
    record {
      ahead = ap (λ l. lower l (take end rest ++ aim)) (sym (take-append-drop end rest)) ∙ lower_prefix (take end rest) (drop end rest) aim ∙ ahead;
      one = ap length (one_piece (take end rest ++ aim) (any_none is_slash (take end rest) aim (ap (list_any is_slash) own ∙ none_taken part end slash) one));
      reach = λ other name names low named e later.
          let so = choice_between part texts behind other name names end last found brace cut ends slash low named e in
          let is : other ≡ take end rest ++ so.tail = so.is ∙ ap (λ l. l ++ so.tail) (sym own) in
          let behind' : lower so.tail (drop end rest) ≡ false =
          sym (lower_prefix (take end rest) so.tail (drop end rest)) ∙ ap (λ l. lower l (take end rest ++ drop end rest)) (sym is)
          ∙ ap (lower other) (take-append-drop end rest) ∙ later in
          ap (λ l. lower l (take end rest ++ aim)) is ∙ lower_prefix (take end rest) so.tail aim
          ∙ reach so.text so.stands so.tail so.between.first so.between.last behind';
    }
  where
    front : take end rest ≡ take end part
    front =
        let within = (position-some is_special part end found).1 in
        ap (λ (n : ℕ). take n rest) (sym (length-take-le end part (omega arith))) ∙ front_of rest (take end part) begun

-- the texts of a choice that were tried
abbrev pub Tried : List ℕ → ℕ → List ℕ → List ℕ → List ℕ → Type 0
Tried rest end texts left aim = (text : List ℕ) → Contains (slice_split is_comma texts) text
    → Contains (slice_split is_comma left) text ⊎ IsReached rest end text aim

pub tried_none : (rest : List ℕ) (end : ℕ) (texts aim : List ℕ) → Tried rest end texts texts aim
tried_none rest end texts aim text stands = inl stands

-- what is nearer is after no text that was tried
reached_nearer : (rest : List ℕ) (end : ℕ) (text aim next : List ℕ) → lower aim next ≡ false → IsReached rest end text aim → IsReached rest end text next
reached_nearer rest end text aim next nearer so other first last later = lower_order.chain other aim next (so other first last later) nearer

pub tried_more : (rest : List ℕ) (end : ℕ) (texts left text : List ℕ) (more : List (List ℕ)) (aim next after : List ℕ) → slice_split is_comma left ≡ text ∷ more
    → slice_split is_comma after ≡ more → lower aim next ≡ false → IsReached rest end text next → Tried rest end texts left aim
    → Tried rest end texts after next
tried_more rest end texts left text more aim next after cut behind nearer here so other stands = go (so other stands) where
  go : Contains (slice_split is_comma left) other ⊎ IsReached rest end other aim → Contains (slice_split is_comma after) other ⊎ IsReached rest end other next
  go (inr reached) = inr (reached_nearer rest end other aim next nearer reached)
  go (inl found) = split (subst (λ l. Contains l other) cut found) where
    split : Contains (text ∷ more) other → Contains (slice_split is_comma after) other ⊎ IsReached rest end other next
    split (zero, within, is) = inr (subst (λ l. IsReached rest end l next) is here)
    split (suc k, within, is) = inl (subst (λ l. Contains l other) (sym behind) (k, omega arith, is))

pub tried_all : (rest : List ℕ) (end : ℕ) (texts left text aim next : List ℕ) → slice_split is_comma left ≡ text ∷ [] → lower aim next ≡ false
    → IsReached rest end text next → Tried rest end texts left aim
    → (other : List ℕ) → Contains (slice_split is_comma texts) other → IsReached rest end other next
tried_all rest end texts left text aim next cut nearer here so other stands = go (so other stands) where
  go : Contains (slice_split is_comma left) other ⊎ IsReached rest end other aim → IsReached rest end other next
  go (inr reached) = reached_nearer rest end other aim next nearer reached
  go (inl found) = split (subst (λ l. Contains l other) cut found) where
    split : Contains (text ∷ []) other → IsReached rest end other next
    split (zero, within, is) = subst (λ l. IsReached rest end l next) is here
    split (suc k, within, is) = absurd (omega arith)

pub last_is : (behind : List ℕ) (last : ℕ) → last ≡ cond (nat_eq (length behind) 0) 48 127 → IsLast behind last
last_is [] last e = record { either = inr (e, refl) }
last_is (x ∷ behind) last e =
    let some : nat_eq (length (x ∷ behind)) 0 ≡ false = grind (arith, nat_tests) in
    record { either = inl (e ∙ ap (λ (t : Bool). cond t 48 127) some) }

pub texts_none : (part texts behind : List ℕ) (end : ℕ) → list_any is_slash part ≡ false
    → cut_at is_choice_end (drop (end + 1) part) ≡ Some (texts, behind) → list_any is_slash texts ≡ false
texts_none part texts behind end slash cut =
    let rest : list_any is_slash (drop (end + 1) part) ≡ false =
    (or_parts (list_any is_slash (take (end + 1) part)) (list_any is_slash (drop (end + 1) part))
    (sym (list_any-append is_slash (take (end + 1) part) (drop (end + 1) part)) ∙ ap (list_any is_slash) (take-append-drop (end + 1) part) ∙ slash)).1 in
    let cuts : CutAt is_choice_end (drop (end + 1) part) (Some (texts, behind)) =
    subst (CutAt is_choice_end (drop (end + 1) part)) cut (cut_at-cuts is_choice_end (drop (end + 1) part)) in
    (or_parts (list_any is_slash texts) (list_any is_slash (cuts.0 ∷ behind))
    (sym (list_any-append is_slash texts (cuts.0 ∷ behind)) ∙ ap (list_any is_slash) (sym cuts.1) ∙ rest)).0
