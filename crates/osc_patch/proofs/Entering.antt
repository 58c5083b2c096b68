-- An entry at the place of its method, or after all methods.
use Rattle.std.proofs.Common.{◌≡◌, ◌∙◌, ℕ, suc, ◌+◌, ◌<◌, ◌≤◌, Bool, true, false, not, cond, nat_lt, List, [], ◌∷◌, ◌++◌, length, get_or, set, position, Some}
use Rattle.std.proofs.Common.{None, refl, sym, ap, arith, one-add}
use Rattle.std.proofs.Common.{Result, Ok, Err, OnOk, option_to_list}
use Rattle.std.specs.List.{position_or_len}
use Rattle.std.proofs.lemmas.Bool.{ltb-false, ltb-true}
use Rattle.std.proofs.lemmas.Option.{cond_some}
use Rattle.osc_patch.specs.declared.entry.Entry.{Entry}
use Rattle.osc_patch.specs.declared.method.PatchMethod.{PatchMethod}
use Rattle.osc_patch.specs.declared.method.Route.{Route}
use Rattle.osc_patch.specs.Patches.{is_at, with_route, alone, entered}

at_place : (methods : List PatchMethod) (entry : Entry) (d : PatchMethod) → position_or_len (is_at entry.address) methods < length methods
    → set methods (position_or_len (is_at entry.address) methods) (with_route entry.route (get_or methods (position_or_len (is_at entry.address) methods) d))
    ≡ entered methods entry
at_place [] entry d lt = absurd (omega arith)
at_place (method ∷ methods) entry d lt = go (is_at entry.address method) lt (at_place methods entry d) where
  go : (t : Bool) → cond (not t) (1 + position_or_len (is_at entry.address) methods) 0 < suc (length methods)
      → (position_or_len (is_at entry.address) methods < length methods
      → set methods (position_or_len (is_at entry.address) methods) (with_route entry.route (get_or methods (position_or_len (is_at entry.address) methods) d))
      ≡ entered methods entry)
      → set (method ∷ methods) (cond (not t) (1 + position_or_len (is_at entry.address) methods) 0)
      (with_route entry.route (get_or (method ∷ methods) (cond (not t) (1 + position_or_len (is_at entry.address) methods) 0) d))
      ≡ cond t (with_route entry.route method ∷ methods) (method ∷ entered methods entry)
  go true lt more = refl
  go false lt more = rw one-add (ap (λ l. method ∷ l) (more (omega arith)))

after_all : (methods : List PatchMethod) (entry : Entry) → length methods ≤ position_or_len (is_at entry.address) methods
    → methods ++ alone entry ∷ [] ≡ entered methods entry
after_all [] entry le = refl
after_all (method ∷ methods) entry le = go (is_at entry.address method) le (after_all methods entry) where
  go : (t : Bool) → suc (length methods) ≤ cond (not t) (1 + position_or_len (is_at entry.address) methods) 0
      → (length methods ≤ position_or_len (is_at entry.address) methods → methods ++ alone entry ∷ [] ≡ entered methods entry)
      → method ∷ (methods ++ alone entry ∷ []) ≡ cond t (with_route entry.route method ∷ methods) (method ∷ entered methods entry)
  go true le more = absurd (omega arith)
  go false le more = ap (λ l. method ∷ l) (more (omega arith))

pub entered_at : (methods : List PatchMethod) (entry : Entry) (k : ℕ) (d : PatchMethod) → Some k ≡ position (is_at entry.address) methods
    → set methods k (with_route entry.route (get_or methods k d)) ≡ entered methods entry
entered_at methods entry k d is =
    let place : ℕ = position_or_len (is_at entry.address) methods in
    let found = cond_some (nat_lt place (length methods)) place k (sym is) in
    ap (λ n. set methods n (with_route entry.route (get_or methods n d))) (sym found.1)
    ∙ at_place methods entry d (ltb-true place (length methods) found.0)

pub entered_last : (methods : List PatchMethod) (entry : Entry) → None ≡ position (is_at entry.address) methods
    → methods ++ alone entry ∷ [] ≡ entered methods entry
entered_last methods entry is = go (position_or_len (is_at entry.address) methods) (nat_lt (position_or_len (is_at entry.address) methods) (length methods)) refl (sym is)
    (after_all methods entry) where
      go : (k : ℕ) (t : Bool) → nat_lt k (length methods) ≡ t → cond t (Some k) None ≡ None
          → (length methods ≤ k → methods ++ alone entry ∷ [] ≡ entered methods entry) → methods ++ alone entry ∷ [] ≡ entered methods entry
      go k true lt e more = absurd (cc)
      go k false lt e more = more (ltb-false k (length methods) lt)

-- the same of what is read back and changed there
pub added_at : {E : Type 0} (methods : List PatchMethod) (entry : Entry) (k : ℕ) (method : PatchMethod) (routes : List Route) (r : Result (Unit {0}) E)
    → method ≡ get_or methods k method → Some k ≡ position (is_at entry.address) methods
    → OnOk r (routes ≡ method.routes ++ option_to_list entry.route)
    → OnOk r (set methods k (record { address = method.address; line = method.line; routes = routes }) ≡ entered methods entry)
added_at methods entry k method routes (Err e) value is added = tt
added_at methods entry k method routes (Ok u) value is added =
    ap (λ (l : List Route). set methods k (record { address = method.address; line = method.line; routes = l })) added
    ∙ ap (λ (m : PatchMethod). set methods k (with_route entry.route m)) value
    ∙ entered_at methods entry k method is
