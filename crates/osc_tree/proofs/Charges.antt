-- What is matched for a method costs no more than the nodes that no method before it has.
use Rattle.std.proofs.Common.{◌≡◌, ◌≤◌, ◌<◌, ℕ, zero, suc, ◌+◌, ◌-◌, ◌*◌, Bool, true, false, not, cond, ◌||◌, nat_eq, nat_lt, List, [], ◌∷◌, ◌++◌, length, take}
use Rattle.std.proofs.Common.{get_or, refl, sym, ap, ◌∙◌, arith}
use Rattle.std.specs.List.{list_any, starts_with}
use Rattle.std.specs.Str.{bytes_eq}
use Rattle.std.proofs.Math.Seq.{take-suc}
use Rattle.std.proofs.lemmas.List.{append-nil, get_or-take, length-take-le, take_all}
use Rattle.std.proofs.lemmas.Option.{unwrap_or-slice_get}
use Rattle.std.proofs.lemmas.Bool.Decides.{nat_tests}
use Rattle.std.proofs.lemmas.Slice.Eq.{bytes_eq-Decides}
use Rattle.osc_pattern.specs.Addresses.{is_proper_prefix}
use Rattle.osc_pattern.specs.Patterns.{parts_of, begins_with_slash}
use Rattle.osc_pattern.specs.Methods.{Method, prefixes_of}
use Rattle.osc_tree.specs.Nodes.{has_node}
use Rattle.osc_tree.specs.Walking.{shared, spent, known_at, node_steps, most_steps, IsSorted}
use Rattle.osc_tree.proofs.Lists.{list_any-some}
use Rattle.osc_tree.proofs.Places.{any_default}
use Rattle.osc_tree.proofs.Prefixes.{has_prefix_is}
use Rattle.osc_tree.proofs.Ranges.{lower, lower_order, begun_not_before, begun_no_more, ascend_far}
use Rattle.osc_tree.proofs.Alike.{prefixes_long, prefix_names, prefix_slash, node_shares, shares_node, shared_first, shared_turn, shared_all, spent_within}
use Rattle.osc_tree.proofs.Counts.{new_steps, one_more_steps}

-- what stands between two that begin with a text begins with it
pub begun_between : (text first middle last : List ℕ) → lower middle first ≡ false → lower last middle ≡ false → starts_with nat_eq first text ≡ true
    → starts_with nat_eq last text ≡ true → starts_with nat_eq middle text ≡ true
begun_between text first middle last up more e f = go (starts_with nat_eq middle text) refl where
  go : (t : Bool) → starts_with nat_eq middle text ≡ t → starts_with nat_eq middle text ≡ true
  go true is = is
  go false is =
      absurd (let none = begun_no_more text middle last is (lower_order.chain middle first text up (begun_not_before text first e)) more in cc)

-- neither of two addresses is the other or below it
pub record AreApart (a b : List ℕ) : Type 0 where
  pub differ : bytes_eq a b ≡ false
  pub above : is_proper_prefix a b ≡ false
  pub below : is_proper_prefix b a ≡ false

-- what stands between two that have names in common has them too
pub shared_between : (first middle last : List ℕ) (k : ℕ) → begins_with_slash first ≡ true → begins_with_slash middle ≡ true → begins_with_slash last ≡ true
    → lower middle first ≡ false → lower last middle ≡ false → AreApart first last
    → k ≤ shared (parts_of first) (parts_of last) → k ≤ shared (parts_of middle) (parts_of last)
shared_between first middle last zero one two three up more apart le = omega arith
shared_between first middle last (suc k) one two three up more apart le =
    let most = shared_first (parts_of last) (parts_of first) in
    let turned = shared_turn (parts_of first) (parts_of last) in
    let lt : k < length (parts_of last) = omega arith in
    let node : List ℕ = get_or (prefixes_of last) k [] in
    let slash = prefix_slash last k three lt in
    let has_first : (bytes_eq node first || is_proper_prefix node first) ≡ true =
    sym (has_prefix_is node first slash one) ∙ shares_node first last k one three le in
    let has_last : (bytes_eq node last || is_proper_prefix node last) ≡ true =
    sym (has_prefix_is node last slash three) ∙ shares_node last last k three three (omega (arith, shared_all (parts_of last))) in
    node_shares middle last k two three lt
    (has_prefix_is node middle slash two
    ∙ go node (bytes_eq node first) refl (bytes_eq node last) refl (is_proper_prefix node first) refl (is_proper_prefix node last) refl has_first has_last)
  where
    either : (t : Bool) → (t || true) ≡ true
    either true = refl
    either false = refl

    go : (node : List ℕ) → (a : Bool) → bytes_eq node first ≡ a → (b : Bool) → bytes_eq node last ≡ b → (c : Bool) → is_proper_prefix node first ≡ c
        → (d : Bool) → is_proper_prefix node last ≡ d → (a || c) ≡ true → (b || d) ≡ true
        → (bytes_eq node middle || is_proper_prefix node middle) ≡ true
    go node true a true b c d' d e f g =
        absurd (let same = (bytes_eq-Decides first last).1 (sym ((bytes_eq-Decides node first).0 a) ∙ (bytes_eq-Decides node last).0 b) in
        let other = apart.differ in cc)
    go node true a false b c d' true e f g =
        absurd (let is : is_proper_prefix first last ≡ true = ap (λ l. is_proper_prefix l last) (sym ((bytes_eq-Decides node first).0 a)) ∙ e in
        let other = apart.above in cc)
    go node true a false b c d' false e f g = absurd (cc)
    go node false a true b true c' d e f g =
        absurd (let is : is_proper_prefix last first ≡ true = ap (λ l. is_proper_prefix l first) (sym ((bytes_eq-Decides node last).0 b)) ∙ c' in
        let other = apart.below in cc)
    go node false a true b false c' d e f g = absurd (cc)
    go node false a false b false c' d e f g = absurd (cc)
    go node false a false b true c' false e f g = absurd (cc)
    go node false a false b true c' true e f g =
        ap (λ (t : Bool). bytes_eq node middle || t) (begun_between (node ++ 47 ∷ []) first middle last up more c' e) ∙ either (bytes_eq node middle)

pub at_slash : (methods : List Method) (k : ℕ) (d : Method) → IsSorted methods → k < length methods → begins_with_slash (get_or methods k d).address ≡ true
at_slash methods k d sorted lt = (sorted.list.lawful k d lt).slash

pub at_apart : (methods : List Method) (i j : ℕ) (d : Method) → IsSorted methods → i < j → j < length methods
    → AreApart (get_or methods i d).address (get_or methods j d).address
at_apart methods i j d sorted lt within = record {
  differ = go (bytes_eq (get_or methods i d).address (get_or methods j d).address) refl;
  above = (sorted.list.apart i j d lt within).0;
  below = (sorted.list.apart i j d lt within).1;
} where
  go : (t : Bool) → bytes_eq (get_or methods i d).address (get_or methods j d).address ≡ t
      → bytes_eq (get_or methods i d).address (get_or methods j d).address ≡ false
  go true is = absurd (sorted.list.addresses i j d lt within ((bytes_eq-Decides (get_or methods i d).address (get_or methods j d).address).0 is))
  go false is = is

-- with no method before it a method has more names in common than with the last
pub nearest : (methods : List Method) (i at : ℕ) (d : Method) → IsSorted methods → i < at → at < length methods
    → shared (parts_of (get_or methods i d).address) (parts_of (get_or methods at d).address) ≤ known_at methods at d
nearest methods i zero d sorted lt within = absurd (omega arith)
nearest methods i (suc at) d sorted lt within = go (nat_eq i at) refl where
  go : (t : Bool) → nat_eq i at ≡ t
      → shared (parts_of (get_or methods i d).address) (parts_of (get_or methods (suc at) d).address)
      ≤ shared (parts_of (get_or methods at d).address) (parts_of (get_or methods (suc at) d).address)
  go true is = let same : i ≡ at = (let h : nat_eq i at ≡ true = is in grind (arith, nat_tests)) in rw same (omega arith)
  go false is =
      let before : i < at = (let h : nat_eq i at ≡ false = is in grind (arith, nat_tests)) in
      shared_between (get_or methods i d).address (get_or methods at d).address (get_or methods (suc at) d).address _
      (at_slash methods i d sorted (omega arith)) (at_slash methods at d sorted (omega arith)) (at_slash methods (suc at) d sorted within)
      (ascend_far methods i at d sorted.ascending (omega arith) (omega arith)) (ascend_far methods at (suc at) d sorted.ascending (omega arith) within)
      (at_apart methods i (suc at) d sorted (omega arith) within) (omega arith)

-- what isn't in common with the last is a node of none before
pub new_node : (methods : List Method) (at k : ℕ) (d : Method) → IsSorted methods → at < length methods → known_at methods at d ≤ k
    → k < length (parts_of (get_or methods at d).address)
    → has_node (take at methods) (get_or (prefixes_of (get_or methods at d).address) k []) ≡ false
new_node methods at k d sorted within known lt = go (has_node (take at methods) (get_or (prefixes_of (get_or methods at d).address) k [])) refl where
  go : (t : Bool) → has_node (take at methods) (get_or (prefixes_of (get_or methods at d).address) k []) ≡ t
      → has_node (take at methods) (get_or (prefixes_of (get_or methods at d).address) k []) ≡ false
  go false is = is
  go true is =
      let found = list_any-some
      (λ (method : Method). list_any (bytes_eq (get_or (prefixes_of (get_or methods at d).address) k [])) (prefixes_of method.address))
      (take at methods) is in
      let i = found.1.0 in
      let inside : i < length (take at methods) = found.1.1 in
      let before : i < at = omega (arith, length-take-le at methods (omega arith)) in
      let same : found.0 ≡ get_or methods i d =
      sym found.1.2 ∙ get_or-take at methods i found.0 before ∙ any_default methods i found.0 d (omega arith) in
      let has : list_any (bytes_eq (get_or (prefixes_of (get_or methods at d).address) k [])) (prefixes_of (get_or methods i d).address) ≡ true =
      ap (λ (method : Method). list_any (bytes_eq (get_or (prefixes_of (get_or methods at d).address) k [])) (prefixes_of method.address)) (sym same)
      ∙ found.2 in
      let shares = node_shares (get_or methods i d).address (get_or methods at d).address k (at_slash methods i d sorted (omega arith))
      (at_slash methods at d sorted within) lt has in
      let most = nearest methods i at d sorted before within in
      absurd (omega arith)

node_at_depth : (pattern node : List ℕ) (k : ℕ) → length (parts_of node) ≡ suc k → k < length (parts_of pattern)
    → node_steps pattern node ≡ 64 * (length (get_or (parts_of pattern) k []) + 1)
node_at_depth pattern node k deep lt =
    let h : nat_lt (length (parts_of pattern)) (length (parts_of node)) ≡ false = grind (arith, nat_tests) in
    let back : length (parts_of node) - 1 ≡ k = omega arith in
    rw (h, back) (ap (λ l. 64 * (length l + 1)) (unwrap_or-slice_get (parts_of pattern) k []))

-- what a method's parts may cost, but for those that it has in common with the one before
pub charged : (pattern : List ℕ) (methods : List Method) (at : ℕ) (d : Method) → IsSorted methods → at < length methods
    → spent (known_at methods at d) (parts_of pattern) (parts_of (get_or methods at d).address) + most_steps pattern (take at methods)
    ≤ most_steps pattern (take (suc at) methods)
charged pattern methods at d sorted within =
    let address = (get_or methods at d).address in
    let f : List ℕ → ℕ = λ prefix. cond (not (has_node (take at methods) prefix)) (node_steps pattern prefix) 0 in
    let spends = spent_within f (known_at methods at d) (parts_of pattern) (parts_of address) (prefixes_of address) (sym (prefixes_long address))
    (λ k le lt in'. let inside : k < length (parts_of address) = omega (arith, prefixes_long address) in
    let none = new_node methods at k d sorted within le inside in
    let deep : length (parts_of (get_or (prefixes_of address) k [])) ≡ suc k =
    ap length (prefix_names address k (at_slash methods at d sorted within) inside) ∙ length-take-le (suc k) (parts_of address) (omega arith) in
    let cost : f (get_or (prefixes_of address) k []) ≡ 64 * (length (get_or (parts_of pattern) k []) + 1) =
    ap (λ (t : Bool). cond {A = ℕ} (not t) (node_steps pattern (get_or (prefixes_of address) k [])) 0) none
    ∙ node_at_depth pattern (get_or (prefixes_of address) k []) k deep lt in
    omega arith) in
    let more : most_steps pattern (take (suc at) methods) ≡ most_steps pattern (take at methods) + new_steps pattern (take at methods) address =
    ap (most_steps pattern) (take-suc methods at d within) ∙ one_more_steps pattern (get_or methods at d) (take at methods) []
    ∙ ap (λ l. most_steps pattern l + new_steps pattern l address) (append-nil (take at methods)) in
    omega arith

one_further : (pattern : List ℕ) (methods : List Method) (at : ℕ) → most_steps pattern (take at methods) ≤ most_steps pattern (take (suc at) methods)
one_further pattern methods at = go (nat_lt at (length methods)) refl where
  go : (t : Bool) → nat_lt at (length methods) ≡ t → most_steps pattern (take at methods) ≤ most_steps pattern (take (suc at) methods)
  go true is =
      let within : at < length methods = (let h : nat_lt at (length methods) ≡ true = is in grind (arith, nat_tests)) in
      let d : Method = record { id = 0; address = [] } in
      let more : most_steps pattern (take (suc at) methods) ≡ most_steps pattern (take at methods ++ [])
      + new_steps pattern (take at methods ++ []) (get_or methods at d).address =
      ap (most_steps pattern) (take-suc methods at d within) ∙ one_more_steps pattern (get_or methods at d) (take at methods) [] in
      let whole = ap (most_steps pattern) (append-nil (take at methods)) in
      omega arith
  go false is =
      let past : length methods ≤ at = (let h : nat_lt at (length methods) ≡ false = is in grind (arith, nat_tests)) in
      let same : most_steps pattern (take at methods) ≡ most_steps pattern (take (suc at) methods) =
      ap (most_steps pattern) (take_all at methods past) ∙ sym (ap (most_steps pattern) (take_all (suc at) methods (omega arith))) in
      omega arith

-- more methods have no fewer nodes
pub further : (pattern : List ℕ) (methods : List Method) (low high : ℕ) → low ≤ high
    → most_steps pattern (take low methods) ≤ most_steps pattern (take high methods)
further pattern methods low zero le = let same : low ≡ 0 = omega arith in rw same (omega arith)
further pattern methods low (suc high) le = go (nat_eq low (suc high)) refl (further pattern methods low high) where
  go : (t : Bool) → nat_eq low (suc high) ≡ t → (low ≤ high → most_steps pattern (take low methods) ≤ most_steps pattern (take high methods))
      → most_steps pattern (take low methods) ≤ most_steps pattern (take (suc high) methods)
  go true is more = let same : low ≡ suc high = (let h : nat_eq low (suc high) ≡ true = is in grind (arith, nat_tests)) in rw same (omega arith)
  go false is more =
      let below : low ≤ high = (let h : nat_eq low (suc high) ≡ false = is in grind (arith, nat_tests)) in
      let so_far = more below in let one = one_further pattern methods high in omega arith
