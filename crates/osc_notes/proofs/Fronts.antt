-- The notes before the last of a score are a score too, and the last one can be added to them.
use Rattle.osc_atoms.specs.declared.limits.TheConstants.{MAX_PACKET}
use Rattle.std.proofs.Common.{◌≡◌, ◌≢◌, ◌∙◌, ℕ, suc, ◌+◌, ◌<◌, ◌≤◌, ◌==◌, ◌||◌, Bool, true, false, cond, List, [], ◌∷◌, ◌++◌, length}
use Rattle.std.proofs.Common.{fold, get_or, Option, Some, None, Result, Ok, Err, refl, sym, ap, subst, arith}
use Rattle.std.proofs.Common.{append_assoc, append-nil, length-append}
use Rattle.std.specs.List.{AllByRecursion, AllPairs, list_any}
use Rattle.std.specs.Str.{bytes_eq}
use Rattle.std.proofs.lemmas.Bool.{false_from_ne_true, le-ltb}
use Rattle.std.proofs.lemmas.Slice.Eq.{bytes_eq-Decides}
use Rattle.std.proofs.lemmas.List.{get_or_append_left}
use Rattle.std.proofs.Math.Seq.{get_or-append_seam}
use Rattle.osc_atoms.specs.Atoms.{word, tag}
use Rattle.osc_pattern.specs.Addresses.{IsAddress, is_proper_prefix}
use Rattle.osc_pattern.specs.Methods.{Method, IsMethodList}
use Rattle.osc_message.specs.Messages.{message_text}
use Rattle.osc_packet.specs.Packets.{bundle_word, elements_text}
use Rattle.osc_tree.specs.Registry.{Registry, IsLawful, NoneAt}
use Rattle.osc_tree.specs.Adding.{Refusal, taken, under_method, is_container, methods_full, nodes_full, Refuses, add_refusal}
use Rattle.osc_tree.proofs.Refusing.{first_refuses}
use Rattle.osc_tree.proofs.Lawful.{one_more_nodes}
use Rattle.osc_score.specs.declared.fault.ScoreFaultKind.{ScoreFaultKind}
use Rattle.osc_score.specs.declared.fault.ScoreFaultKind.TheVariants as kinds
use Rattle.osc_score.specs.Scores.{Note, Group, alone, groups_of, elements_of, bundle_text, first_uses, addresses_of, methods_from}
use Rattle.osc_score.specs.Scores.{tree_of, message_of, IsNote, IsOrdered, IsShort, IsScore}
use Rattle.osc_score.specs.Reading.{run_with, extended, unless_refused, note_added}
use Rattle.osc_score.proofs.Grouping.{groups_on}
use Rattle.osc_score.proofs.Trees.{methods_more}

module _ {X : Type 0} (P : X → Type 0) where
  all_front : (front back : List X) → AllByRecursion P (front ++ back) → AllByRecursion P front
  all_front [] back all = tt
  all_front (x ∷ front) back all = (all.0, all_front front back all.1)

  pub one_behind : (front : List X) (x : X) (back : List X) → AllByRecursion P (front ++ x ∷ back) → P x
  one_behind [] x back all = all.0
  one_behind (first ∷ front) x back all = one_behind front x back all.1

-- Tags.

ordered_front : (least : ℕ) (front back : List Note) → IsOrdered least (front ++ back) → IsOrdered least front
ordered_front least [] back ordered = tt
ordered_front least (first ∷ front) back ordered = (ordered.0, ordered_front first.tag front back ordered.1)

pub last_before : (least : ℕ) (front : List Note) (note : Note) (back : List Note) → IsOrdered least (front ++ note ∷ back)
    → fold (λ (last : ℕ) (other : Note). other.tag) least front ≤ note.tag
last_before least [] note back ordered = ordered.0
last_before least (first ∷ front) note back ordered = last_before first.tag front note back ordered.1

-- Runs.

elements_grow : (notes : List Note) (note : Note)
    → length (elements_text (elements_of notes)) ≤ length (elements_text (elements_of (notes ++ note ∷ [])))
elements_grow [] note = omega arith
elements_grow (first ∷ notes) note =
    let text : List ℕ = message_text (message_of first) in
    let size : List ℕ = word (length text) in
    omega (
      arith,
      elements_grow notes note,
      length-append size (text ++ elements_text (elements_of notes)),
      length-append text (elements_text (elements_of notes)),
      length-append size (text ++ elements_text (elements_of (notes ++ note ∷ []))),
      length-append text (elements_text (elements_of (notes ++ note ∷ []))),
    )

run_grows : (group : Group) (note : Note) → IsShort (record { tag = group.tag; notes = group.notes ++ note ∷ [] }) → IsShort group
run_grows group note short =
    let old : List ℕ = elements_text (elements_of group.notes) in
    let new : List ℕ = elements_text (elements_of (group.notes ++ note ∷ [])) in
    omega (
      arith,
      short,
      elements_grow group.notes note,
      length-append bundle_word (tag group.tag ++ old),
      length-append (tag group.tag) old,
      length-append bundle_word (tag group.tag ++ new),
      length-append (tag group.tag) new,
    )

shorter : (groups : List Group) (note : Note) → AllByRecursion IsShort (extended groups note)
    → AllByRecursion IsShort groups × IsShort (run_with groups note)
shorter [] note all = (tt, all.0)
shorter (group ∷ []) note all = go (group.tag == note.tag) all where
  go : (t : Bool) → AllByRecursion IsShort (cond t (record { tag = group.tag; notes = group.notes ++ note ∷ [] } ∷ [])
      (group ∷ alone note ∷ []))
      → AllByRecursion IsShort (group ∷ []) × IsShort (cond t (record { tag = group.tag; notes = group.notes ++ note ∷ [] }) (alone note))
  go true all = ((run_grows group note all.0, tt), all.0)
  go false all = ((all.0, tt), (all.1).0)
shorter (group ∷ next ∷ groups) note all = let rest = shorter (next ∷ groups) note all.1 in ((all.0, rest.0), rest.1)

runs_short : (notes : List Note) (note : Note) → AllByRecursion IsShort (groups_of (notes ++ note ∷ []))
    → AllByRecursion IsShort (groups_of notes) × IsShort (run_with (groups_of notes) note)
runs_short notes note all = shorter (groups_of notes) note (subst (AllByRecursion IsShort) (groups_on notes note) all)

-- Addresses.

-- the address, where it isn't among those before
abbrev new_one : List (List ℕ) → List ℕ → List (List ℕ)
new_one before address = cond (list_any (bytes_eq address) before) [] (address ∷ [])

uses_on : (before : List (List ℕ)) (notes : List Note) (note : Note)
    → first_uses before (notes ++ note ∷ []) ≡ first_uses before notes ++ new_one (before ++ first_uses before notes) note.address
uses_on before [] note =
    ap (λ (l : List (List ℕ)). new_one l note.address) (sym (append-nil before))
uses_on before (first ∷ notes) note = go (list_any (bytes_eq first.address) before) (uses_on before notes note)
    (uses_on (before ++ first.address ∷ []) notes note) where
      go : (t : Bool) → first_uses before (notes ++ note ∷ []) ≡ first_uses before notes ++ new_one (before ++ first_uses before notes)
          note.address
          → first_uses (before ++ first.address ∷ []) (notes ++ note ∷ [])
          ≡ first_uses (before ++ first.address ∷ []) notes
          ++ new_one ((before ++ first.address ∷ []) ++ first_uses (before ++ first.address ∷ []) notes) note.address
          → cond t (first_uses before (notes ++ note ∷ [])) (first.address ∷ first_uses (before ++ first.address ∷ []) (notes ++ note ∷ []))
          ≡ cond t (first_uses before notes) (first.address ∷ first_uses (before ++ first.address ∷ []) notes)
          ++ new_one (before ++ cond t (first_uses before notes) (first.address ∷ first_uses (before ++ first.address ∷ []) notes))
          note.address
      go true old new = old
      go false old new =
          let later : List (List ℕ) = first_uses (before ++ first.address ∷ []) notes in
          ap (λ (l : List (List ℕ)). first.address ∷ l) new
          ∙ ap (λ (l : List (List ℕ)). first.address ∷ (later ++ new_one l note.address)) (append_assoc before (first.address ∷ []) later)

-- a score's tree of methods
abbrev tree_with : List Method → Registry
tree_with methods = record { methods = methods; method_limit = 1024; node_limit = 4096 }

pairs_front : (R : Method → Method → Type 0) (methods : List Method) (method : Method) → AllPairs R (methods ++ method ∷ [])
    → AllPairs R methods
pairs_front R methods method all i j d less below =
    let far : j < length (methods ++ method ∷ []) = omega (arith, length-append methods (method ∷ [])) in
    subst (λ (x : Method). R x (get_or methods j d)) (get_or_append_left methods (method ∷ []) d i (omega arith))
    (subst (λ (x : Method). R (get_or (methods ++ method ∷ []) i d) x) (get_or_append_left methods (method ∷ []) d j below)
    (all i j d less far))

less_list : (methods : List Method) (method : Method) → IsMethodList (methods ++ method ∷ []) → IsMethodList methods
less_list methods method list = record {
  ids = pairs_front (λ a b. a.id ≢ b.id) methods method list.ids;
  lawful = λ k d below.
      let far : k < length (methods ++ method ∷ []) = omega (arith, length-append methods (method ∷ [])) in
      subst (λ (m : Method). IsAddress m.address) (get_or_append_left methods (method ∷ []) d k below) (list.lawful k d far);
  addresses = pairs_front (λ a b. a.address ≢ b.address) methods method list.addresses;
  apart = pairs_front (λ a b. (is_proper_prefix a.address b.address ≡ false) × (is_proper_prefix b.address a.address ≡ false)) methods
      method list.apart;
}

less_methods : (methods : List Method) (method : Method) → IsLawful (tree_with (methods ++ method ∷ [])) → IsLawful (tree_with methods)
less_methods methods method lawful =
    let few = lawful.few_methods in
    let nodes_few = lawful.few_nodes in
    record {
      list = less_list methods method lawful.list;
      few_methods = omega (arith, length-append methods (method ∷ []));
      few_nodes = omega (arith, one_more_nodes methods method);
    }

-- the last of a lawful list is apart from those before it
last_apart : (methods : List Method) (method : Method) → IsMethodList (methods ++ method ∷ []) → (k : ℕ) (d : Method) → k < length methods
    → (is_proper_prefix (get_or methods k d).address method.address ≡ false) ×
    (is_proper_prefix method.address (get_or methods k d).address ≡ false)
last_apart methods method list k d below =
    let R : Method → Method → Type 0 =
    λ a b. (is_proper_prefix a.address b.address ≡ false) × (is_proper_prefix b.address a.address ≡ false) in
    let far : length methods < length (methods ++ method ∷ []) = omega (arith, length-append methods (method ∷ [])) in
    subst (λ (x : Method). R x method) (get_or_append_left methods (method ∷ []) d k below)
    (subst (λ (x : Method). R (get_or (methods ++ method ∷ []) k d) x) (get_or-append_seam methods method [] d)
    (list.apart k (length methods) d below far))

-- it can be added to them
none_refuses : (methods : List Method) (method : Method) (refusal : Refusal) → IsLawful (tree_with (methods ++ method ∷ []))
    → Refuses (tree_with methods) method.address refusal → ((id : ℕ) → refusal ≡ taken id → ⊥) → ⊥
none_refuses methods method (taken id) lawful refuses other = other id refl
none_refuses methods method (under_method id) lawful (none, (above, (k, below, is), prefix)) other =
    let apart = last_apart methods method lawful.list k (record { id = id; address = above }) below in
    let same : is_proper_prefix above method.address ≡ false = ap (λ (m : Method). is_proper_prefix m.address method.address) (sym is)
    ∙ apart.0 in
    absurd (cc)
none_refuses methods method is_container lawful (none, roof, (id, under, (k, below, is), prefix)) other =
    let apart = last_apart methods method lawful.list k (record { id = id; address = under }) below in
    let same : is_proper_prefix method.address under ≡ false = ap (λ (m : Method). is_proper_prefix method.address m.address) (sym is)
    ∙ apart.1 in
    absurd (cc)
none_refuses methods method (methods_full limit) lawful (apart, full, is) other =
    let few = lawful.few_methods in omega (arith, length-append methods (method ∷ []))
none_refuses methods method (nodes_full need free) lawful (apart, room, needs, frees, less) other =
    let few = lawful.few_nodes in omega (arith, one_more_nodes methods method)

-- an address that no method has is new
unused : (id : ℕ) (addresses : List (List ℕ)) (address : List ℕ) → NoneAt (methods_from id addresses) address
    → list_any (bytes_eq address) addresses ≡ false
unused id [] address none = refl
unused id (first ∷ addresses) address none =
    let own : bytes_eq address first ≡ false =
    false_from_ne_true (bytes_eq address first)
    (λ e. none 0 (record { id = id; address = first }) (omega arith) (sym ((bytes_eq-Decides address first).0 e))) in
    ap (λ (t : Bool). t || list_any (bytes_eq address) addresses) own
    ∙ unused (id + 1) addresses address (λ k d below. none (suc k) d (omega arith))

-- the method that a note adds
abbrev method_for : List Note → Note → Method
method_for notes note = record { id = length (addresses_of notes); address = note.address }

methods_for : (notes : List Note) (note : Note) → list_any (bytes_eq note.address) (addresses_of notes) ≡ false
    → methods_from 0 (addresses_of (notes ++ note ∷ [])) ≡ methods_from 0 (addresses_of notes) ++ method_for notes note ∷ []
methods_for notes note new =
    ap (methods_from 0) (uses_on [] notes note ∙ ap (λ (t : Bool). addresses_of notes ++ cond t [] (note.address ∷ [])) new)
    ∙ methods_more (addresses_of notes) note.address

less_tree : (notes : List Note) (note : Note) → IsLawful (tree_of (notes ++ note ∷ [])) → IsLawful (tree_of notes)
less_tree notes note lawful = go (list_any (bytes_eq note.address) (addresses_of notes)) refl where
  go : (t : Bool) → list_any (bytes_eq note.address) (addresses_of notes) ≡ t → IsLawful (tree_of notes)
  go true e =
      subst (λ (l : List (List ℕ)). IsLawful (tree_with (methods_from 0 l)))
      (uses_on [] notes note ∙ ap (λ (t : Bool). addresses_of notes ++ cond t [] (note.address ∷ [])) e
      ∙ append-nil (addresses_of notes)) lawful
  go false e =
      less_methods (methods_from 0 (addresses_of notes)) (method_for notes note)
      (subst (λ (l : List Method). IsLawful (tree_with l)) (methods_for notes note e) lawful)

-- what refuses an address but that it is there already
stands : (notes : List Note) (note : Note) → IsLawful (tree_of notes) → IsLawful (tree_of (notes ++ note ∷ []))
    → unless_refused (add_refusal (tree_of notes) note.address) (notes ++ note ∷ []) ≡ Ok (notes ++ note ∷ [])
stands notes note old new = go (add_refusal (tree_of notes) note.address) refl where
  clash : (refusal : Refusal) → add_refusal (tree_of notes) note.address ≡ Some refusal
      → NoneAt (methods_from 0 (addresses_of notes)) note.address
      → ((id : ℕ) → refusal ≡ taken id → ⊥) → ⊥
  clash refusal is none other =
      none_refuses (methods_from 0 (addresses_of notes)) (method_for notes note) refusal
      (subst (λ (l : List Method). IsLawful (tree_with l)) (methods_for notes note (unused 0 (addresses_of notes) note.address none)) new)
      (first_refuses (tree_of notes) note.address refusal old.few_methods is) other

  go : (o : Option Refusal) → add_refusal (tree_of notes) note.address ≡ o → unless_refused o (notes ++ note ∷ []) ≡ Ok (notes ++ note ∷ [])
  go None is = refl
  go (Some (taken id)) is = refl
  go (Some (under_method id)) is =
      absurd (clash (under_method id) is (first_refuses (tree_of notes) note.address (under_method id) old.few_methods is).0 (λ n e. cc))
  go (Some is_container) is =
      absurd (clash is_container is (first_refuses (tree_of notes) note.address is_container old.few_methods is).0 (λ n e. cc))
  go (Some (methods_full limit)) is =
      absurd (clash (methods_full limit) is (first_refuses (tree_of notes) note.address (methods_full limit) old.few_methods
      is).0.none_at (λ n e. cc))
  go (Some (nodes_full need free)) is =
      absurd (clash (nodes_full need free) is (first_refuses (tree_of notes) note.address (nodes_full need free) old.few_methods
      is).0.none_at (λ n e. cc))

-- Whole scores.

pub less_score : (notes : List Note) (note : Note) → IsScore (notes ++ note ∷ []) → IsScore notes
less_score notes note is = record {
  lawful = all_front IsNote notes (note ∷ []) is.lawful;
  ordered = ordered_front 2 notes (note ∷ []) is.ordered;
  short = (runs_short notes note is.short).0;
  tree = less_tree notes note is.tree;
}

pub front_score : (front back : List Note) → IsScore (front ++ back) → IsScore front
front_score front [] is = subst IsScore (append-nil front) is
front_score front (note ∷ back) is =
    less_score front note (front_score (front ++ note ∷ []) back (subst IsScore (sym (append_assoc front (note ∷ []) back)) is))

pub score_added : (notes : List Note) (note : Note) → IsScore (notes ++ note ∷ []) → note_added notes note ≡ Ok (notes ++ note ∷ [])
score_added notes note is =
    let short : IsShort (run_with (groups_of notes) note) = (runs_short notes note is.short).1 in
    ap (λ (t : Bool). cond {A = Result (List Note) ScoreFaultKind} t (Err kinds.Bundle)
    (unless_refused (add_refusal (tree_of notes) note.address) (notes ++ note ∷ [])))
    (le-ltb MAX_PACKET (length (bundle_text (run_with (groups_of notes) note))) short)
    ∙ stands notes note (less_tree notes note is.tree) is.tree
