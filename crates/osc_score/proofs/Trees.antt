-- The tree of the distinct addresses, with one more note.
use Rattle.std.proofs.Common.{◌≡◌, ◌≢◌, ℕ, zero, suc, ◌+◌, ◌<◌, ◌||◌, Bool, true, false, cond, List, [], ◌∷◌, ◌++◌, length, get_or, Some, None, refl, sym, ap}
use Rattle.std.proofs.Common.{◌∙◌, subst, arith}
use Rattle.std.proofs.Common.{append_assoc, append-nil}
use Rattle.std.specs.List.{list_any}
use Rattle.std.specs.Str.{bytes_eq}
use Rattle.std.proofs.lemmas.Bool.{false_from_ne_true}
use Rattle.std.proofs.lemmas.Slice.Eq.{bytes_eq-Decides}
use Rattle.osc_pattern.specs.Addresses.{IsAddress}
use Rattle.osc_pattern.specs.Methods.{Method}
use Rattle.osc_tree.specs.Registry.{IsLawful, IsNewId, IsAt}
use Rattle.osc_tree.specs.Adding.{IsAddable, add_refusal, taken}
use Rattle.osc_tree.proofs.Refusing.{first_refuses, none_addable}
use Rattle.osc_tree.proofs.Lawful.{added_lawful}
use Rattle.osc_score.specs.Scores.{Note, first_uses, addresses_of, methods_from, tree_of}

-- the address, where it isn't among those before
abbrev new_one : List (List ℕ) → List ℕ → List (List ℕ)
new_one before address = cond (list_any (bytes_eq address) before) [] (address ∷ [])

uses_on : (before : List (List ℕ)) (notes : List Note) (note : Note)
    → first_uses before (notes ++ note ∷ []) ≡ first_uses before notes ++ new_one (before ++ first_uses before notes) note.address
uses_on before [] note =
    ap (λ (l : List (List ℕ)). new_one l note.address) (sym (append-nil before))
uses_on before (first ∷ notes) note = go (list_any (bytes_eq first.address) before) (uses_on before notes note)
    (uses_on (before ++ first.address ∷ []) notes note) where
      go : (t : Bool) → first_uses before (notes ++ note ∷ []) ≡ first_uses before notes ++ new_one (before ++ first_uses before notes) note.address
          → first_uses (before ++ first.address ∷ []) (notes ++ note ∷ [])
          ≡ first_uses (before ++ first.address ∷ []) notes
          ++ new_one ((before ++ first.address ∷ []) ++ first_uses (before ++ first.address ∷ []) notes) note.address
          → cond t (first_uses before (notes ++ note ∷ [])) (first.address ∷ first_uses (before ++ first.address ∷ []) (notes ++ note ∷ []))
          ≡ cond t (first_uses before notes) (first.address ∷ first_uses (before ++ first.address ∷ []) notes)
          ++ new_one (before ++ cond t (first_uses before notes) (first.address ∷ first_uses (before ++ first.address ∷ []) notes)) note.address
      go true old new = old
      go false old new =
          let later : List (List ℕ) = first_uses (before ++ first.address ∷ []) notes in
          ap (λ (l : List (List ℕ)). first.address ∷ l) new
          ∙ ap (λ (l : List (List ℕ)). first.address ∷ (later ++ new_one l note.address)) (append_assoc before (first.address ∷ []) later)

methods_on : (id : ℕ) (addresses : List (List ℕ)) (address : List ℕ)
    → methods_from id (addresses ++ address ∷ []) ≡ methods_from id addresses ++ record { id = id + length addresses; address = address } ∷ []
methods_on id [] address =
    let same : id ≡ id + 0 = omega arith in ap (λ (n : ℕ). let m : Method = record { id = n; address = address } in m ∷ []) same
methods_on id (first ∷ addresses) address =
    let same : id + 1 + length addresses ≡ id + suc (length addresses) = omega arith in
    ap (λ (l : List Method). record { id = id; address = first } ∷ l) (methods_on (id + 1) addresses address)
    ∙ ap (λ (n : ℕ). let m : Method = record { id = n; address = address } in record { id = id; address = first }
    ∷ (methods_from (id + 1) addresses ++ m ∷ [])) same

-- each id is below the number of addresses

ids_below : (id : ℕ) (addresses : List (List ℕ)) (k : ℕ) (d : Method) → k < length (methods_from id addresses)
    → (get_or (methods_from id addresses) k d).id < id + length addresses
ids_below id [] k d below = absurd (omega arith)
ids_below id (first ∷ addresses) zero d below = omega arith
ids_below id (first ∷ addresses) (suc k) d below = omega (arith, ids_below (id + 1) addresses k d (omega arith))

pub new_id : (addresses : List (List ℕ)) → IsNewId (methods_from 0 addresses) (length addresses)
new_id addresses k d below same = omega (arith, ids_below 0 addresses k d below)

-- an address is used where a method stands at it

at_used : (id number : ℕ) (addresses : List (List ℕ)) (address : List ℕ) → IsAt (methods_from id addresses) number address
    → list_any (bytes_eq address) addresses ≡ true
at_used id number [] address (k, below, is) = absurd (omega arith)
at_used id number (first ∷ addresses) address (zero, below, is) =
    let same : address ≡ first = ap (λ (m : Method). m.address) (sym is) in
    ap (λ (t : Bool). t || list_any (bytes_eq address) addresses) ((bytes_eq-Decides address first).1 same)
at_used id number (first ∷ addresses) address (suc k, below, is) =
    ap (λ (t : Bool). bytes_eq address first || t) (at_used (id + 1) number addresses address (k, omega arith, is)) ∙ or_true (bytes_eq address first) where
      or_true : (t : Bool) → (t || true) ≡ true
      or_true true = refl
      or_true false = refl

none_used : (id : ℕ) (addresses : List (List ℕ)) (address : List ℕ)
    → ((k : ℕ) (d : Method) → k < length (methods_from id addresses) → (get_or (methods_from id addresses) k d).address ≢ address)
    → list_any (bytes_eq address) addresses ≡ false
none_used id [] address none = refl
none_used id (first ∷ addresses) address none =
    let own : bytes_eq address first ≡ false =
    false_from_ne_true (bytes_eq address first)
    (λ e. none 0 (record { id = id; address = first }) (omega arith) (sym ((bytes_eq-Decides address first).0 e)))
    in
    ap (λ (t : Bool). t || list_any (bytes_eq address) addresses) own
    ∙ none_used (id + 1) addresses address (λ k d below. none (suc k) d (omega arith))

-- where the address is there already, the tree stays

pub tree_same : (notes : List Note) (note : Note) (id : ℕ) → IsLawful (tree_of notes) → add_refusal (tree_of notes) note.address ≡ Some (taken id)
    → IsLawful (tree_of (notes ++ note ∷ []))
tree_same notes note id lawful is =
    let here : list_any (bytes_eq note.address) (addresses_of notes) ≡ true =
    at_used 0 id (addresses_of notes) note.address (first_refuses (tree_of notes) note.address (taken id) lawful.few_methods is) in
    let same : addresses_of (notes ++ note ∷ []) ≡ addresses_of notes =
    uses_on [] notes note ∙ ap (λ (t : Bool). addresses_of notes ++ cond t [] (note.address ∷ [])) here ∙ append-nil (addresses_of notes) in
    subst (λ (l : List (List ℕ)). IsLawful (record { methods = methods_from 0 l; method_limit = 1024; node_limit = 4096 })) (sym same) lawful

-- where it can be added, it stands last

pub tree_more : (notes : List Note) (note : Note) → IsLawful (tree_of notes) → IsAddress note.address → add_refusal (tree_of notes) note.address ≡ None
    → IsLawful (tree_of (notes ++ note ∷ []))
tree_more notes note lawful spelled none =
    let addresses : List (List ℕ) = addresses_of notes in
    let can : IsAddable (tree_of notes) note.address = none_addable (tree_of notes) note.address lawful.few_methods none in
    let unused : list_any (bytes_eq note.address) addresses ≡ false = none_used 0 addresses note.address (λ k d below. can.apart.none_at k d below) in
    let more : addresses_of (notes ++ note ∷ []) ≡ addresses ++ note.address ∷ [] =
    uses_on [] notes note ∙ ap (λ (t : Bool). addresses ++ cond t [] (note.address ∷ [])) unused in
    let methods : methods_from 0 (addresses_of (notes ++ note ∷ []))
    ≡ methods_from 0 addresses ++ record { id = length addresses; address = note.address } ∷ [] =
    ap (methods_from 0) more ∙ methods_on 0 addresses note.address ∙ zero_on in
    subst (λ (l : List Method). IsLawful (record { methods = l; method_limit = 1024; node_limit = 4096 })) (sym methods)
    (added_lawful (tree_of notes) (length addresses) note.address lawful (new_id addresses) spelled can) where
      zero_on : methods_from 0 (addresses_of notes) ++ record { id = 0 + length (addresses_of notes); address = note.address } ∷ []
          ≡ methods_from 0 (addresses_of notes) ++ record { id = length (addresses_of notes); address = note.address } ∷ []
      zero_on =
          let same : 0 + length (addresses_of notes) ≡ length (addresses_of notes) = omega arith in
          ap (λ (n : ℕ). let m : Method = record { id = n; address = note.address } in methods_from 0 (addresses_of notes) ++ m ∷ []) same

pub as_many : (id : ℕ) (addresses : List (List ℕ)) → length (methods_from id addresses) ≡ length addresses
as_many id [] = refl
as_many id (first ∷ addresses) = ap suc (as_many (id + 1) addresses)

-- what becomes of the addresses and of the tree

pub uses_same : (notes : List Note) (note : Note) (id : ℕ) → IsLawful (tree_of notes) → add_refusal (tree_of notes) note.address ≡ Some (taken id)
    → addresses_of (notes ++ note ∷ []) ≡ addresses_of notes
uses_same notes note id lawful is =
    let here : list_any (bytes_eq note.address) (addresses_of notes) ≡ true =
    at_used 0 id (addresses_of notes) note.address (first_refuses (tree_of notes) note.address (taken id) lawful.few_methods is) in
    uses_on [] notes note ∙ ap (λ (t : Bool). addresses_of notes ++ cond t [] (note.address ∷ [])) here ∙ append-nil (addresses_of notes)

pub uses_more : (notes : List Note) (note : Note) → IsLawful (tree_of notes) → add_refusal (tree_of notes) note.address ≡ None
    → addresses_of (notes ++ note ∷ []) ≡ addresses_of notes ++ note.address ∷ []
uses_more notes note lawful none =
    let can : IsAddable (tree_of notes) note.address = none_addable (tree_of notes) note.address lawful.few_methods none in
    let unused : list_any (bytes_eq note.address) (addresses_of notes) ≡ false =
    none_used 0 (addresses_of notes) note.address (λ k d below. can.apart.none_at k d below) in
    uses_on [] notes note ∙ ap (λ (t : Bool). addresses_of notes ++ cond t [] (note.address ∷ [])) unused

pub methods_more : (addresses : List (List ℕ)) (address : List ℕ)
    → methods_from 0 (addresses ++ address ∷ []) ≡ methods_from 0 addresses ++ record { id = length addresses; address = address } ∷ []
methods_more addresses address =
    let same : 0 + length addresses ≡ length addresses = omega arith in
    methods_on 0 addresses address
    ∙ ap (λ (n : ℕ). let m : Method = record { id = n; address = address } in methods_from 0 addresses ++ m ∷ []) same
