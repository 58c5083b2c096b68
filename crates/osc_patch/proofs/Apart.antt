-- The addresses of a patch differ, and none lies under another.
use Rattle.std.proofs.Common.{◌≡◌, ◌≢◌, ℕ, ◌+◌, ◌<◌, ◌≤◌, ◌||◌, ◌==◌, Bool, true, false, cond, nat_le, nat_lt, rules, List, [], ◌∷◌, ◌++◌, length, find, Option}
use Rattle.std.proofs.Common.{Some, None, Result, Ok, Err, IfOk, refl, sym, ap, subst, arith, length-append}
use Rattle.std.specs.Str.{bytes_eq}
use Rattle.std.specs.List.{AllPairs, AllByRecursion}
use Rattle.std.proofs.lemmas.Bool.{leb-false}
use Rattle.std.proofs.lemmas.Bool.Decides.{nat_tests}
use Rattle.std.proofs.lemmas.List.{length-map}
use Rattle.std.proofs.lemmas.List.Elements.{All-from_recursion}
use Rattle.std.proofs.lemmas.List.Quantifiers.{all_pairs_push}
use Rattle.std.proofs.lemmas.Slice.Eq.{bytes_eq-Decides}
use Rattle.osc_pattern.specs.Addresses.{is_proper_prefix}
use Rattle.osc_patch.specs.declared.patch.TheConstants.{MAX_PATCH}
use Rattle.osc_patch.specs.declared.fault.Fault.{Fault}
use Rattle.osc_patch.specs.declared.fault.Fault.TheVariants.{TooMany}
use Rattle.osc_patch.specs.declared.fault.WrongLine.{WrongLine}
use Rattle.osc_patch.specs.declared.fault.PatchError.{PatchError}
use Rattle.osc_patch.specs.declared.fault.PatchError.TheVariants.{TooLong}
use Rattle.osc_patch.specs.declared.entry.Entry.{Entry}
use Rattle.osc_patch.specs.declared.method.PatchMethod.{PatchMethod}
use Rattle.osc_patch.specs.declared.draft.Draft.{Draft}
use Rattle.osc_patch.specs.Answers.{Reads}
use Rattle.osc_patch.specs.Words.{lines_of}
use Rattle.osc_patch.specs.Entries.{line_says}
use Rattle.osc_patch.specs.Patches.{is_at, is_nested, with_route, clash, clash_with, refused, entered, settled, after_line, read_from, unread, outcome}
use Rattle.osc_patch.specs.Patches.{outcome_of, patch_of, IsApart, ArePatched, addresses_of}

-- The addresses with an entry more.

same_addresses : (methods : List PatchMethod) (entry : Entry) (method : PatchMethod) → find (is_at entry.address) methods ≡ Some method
    → addresses_of (entered methods entry) ≡ addresses_of methods
same_addresses [] entry method found = absurd (cc)
same_addresses (first ∷ methods) entry method found = go (is_at entry.address first) found (same_addresses methods entry method) where
  go : (t : Bool) → cond t (Some first) (find (is_at entry.address) methods) ≡ Some method
      → (find (is_at entry.address) methods ≡ Some method → addresses_of (entered methods entry) ≡ addresses_of methods)
      → addresses_of (cond t (with_route entry.route first ∷ methods) (first ∷ entered methods entry)) ≡ first.address ∷ addresses_of methods
  go true is more = refl
  go false is more = ap (λ l. first.address ∷ l) (more is)

more_addresses : (methods : List PatchMethod) (entry : Entry) → find (is_at entry.address) methods ≡ None
    → addresses_of (entered methods entry) ≡ addresses_of methods ++ entry.address ∷ []
more_addresses [] entry none = refl
more_addresses (first ∷ methods) entry none = go (is_at entry.address first) none (more_addresses methods entry) where
  go : (t : Bool) → cond t (Some first) (find (is_at entry.address) methods) ≡ None
      → (find (is_at entry.address) methods ≡ None → addresses_of (entered methods entry) ≡ addresses_of methods ++ entry.address ∷ [])
      → addresses_of (cond t (with_route entry.route first ∷ methods) (first ∷ entered methods entry)) ≡ first.address ∷ (addresses_of methods ++ entry.address ∷ [])
  go true is more = absurd (cc)
  go false is more = ap (λ l. first.address ∷ l) (more is)

-- A method that neither is there nor lies above or under another is apart from all.

differ : (a b : List ℕ) → bytes_eq a b ≡ false → a ≢ b
differ a b is = let decides = bytes_eq-Decides a b in search rules

neither : (a b : Bool) → (a || b) ≡ false → (a ≡ false) × (b ≡ false)
neither true b e = absurd (cc)
neither false b e = (refl, e)

is_apart : (method : PatchMethod) (address : List ℕ) → is_at address method ≡ false → is_nested address method ≡ false → IsApart method.address address
is_apart method address other beside =
    let parts = neither (is_proper_prefix method.address address) (is_proper_prefix address method.address) beside in
    record { other = differ method.address address other; above = parts.0; under = parts.1 }

none_passes : (t : Bool) (method : PatchMethod) (rest : Option PatchMethod) → cond t (Some method) rest ≡ None → (t ≡ false) × (rest ≡ None)
none_passes true method rest none = absurd (cc)
none_passes false method rest none = (refl, none)

all_apart : (methods : List PatchMethod) (address : List ℕ) → find (is_at address) methods ≡ None → find (is_nested address) methods ≡ None
    → AllByRecursion (λ other. IsApart other address) (addresses_of methods)
all_apart [] address there beside = tt
all_apart (method ∷ methods) address there beside =
    let at = none_passes (is_at address method) method (find (is_at address) methods) there in
    let nested = none_passes (is_nested address method) method (find (is_nested address) methods) beside in
    (is_apart method address at.0 nested.0, all_apart methods address at.1 nested.1)

-- Each line keeps this.

record Kept (limit : ℕ) (addresses : List (List ℕ)) : Type 0 where
  few : length addresses ≤ limit
  apart : AllPairs IsApart addresses

pushed : (limit : ℕ) (methods : List PatchMethod) (address : List ℕ) → Kept limit (addresses_of methods) → length methods < limit
    → AllByRecursion (λ other. IsApart other address) (addresses_of methods) → Kept limit (addresses_of methods ++ address ∷ [])
pushed limit methods address kept few apart = record {
  few = omega (arith, length-append (addresses_of methods) (address ∷ []), length-map methods (λ (method : PatchMethod). method.address));
  apart = all_pairs_push IsApart (addresses_of methods) address kept.apart
      (λ k d lt. All-from_recursion (λ other. IsApart other address) (addresses_of methods) apart k d lt);
}

kept_new : (limit : ℕ) (methods : List PatchMethod) (entry : Entry) (nested : Option PatchMethod) → Kept limit (addresses_of methods)
    → find (is_at entry.address) methods ≡ None → find (is_nested entry.address) methods ≡ nested → refused limit methods nested ≡ None
    → Kept limit (addresses_of (entered methods entry))
kept_new limit methods entry (Some method) kept none found clear = absurd (cc)
kept_new limit methods entry None kept none found clear = go (nat_le limit (length methods)) refl clear where
  go : (t : Bool) → nat_le limit (length methods) ≡ t → cond t (Some (TooMany limit)) None ≡ None → Kept limit (addresses_of (entered methods entry))
  go true is e = absurd (cc)
  go false is e = subst (Kept limit) (sym (more_addresses methods entry none))
      (pushed limit methods entry.address kept (leb-false limit (length methods) is) (all_apart methods entry.address none found))

kept_with : (limit : ℕ) (methods : List PatchMethod) (entry : Entry) (there : Option PatchMethod) → Kept limit (addresses_of methods)
    → find (is_at entry.address) methods ≡ there → clash_with limit methods entry there ≡ None → Kept limit (addresses_of (entered methods entry))
kept_with limit methods entry (Some method) kept found clear = subst (Kept limit) (sym (same_addresses methods entry method found)) kept
kept_with limit methods entry None kept found clear =
    kept_new limit methods entry (find (is_nested entry.address) methods) kept found refl clear

kept_entry : (limit : ℕ) (reading : Draft) (entry : Entry) (fault : Option Fault) → Kept limit (addresses_of reading.methods)
    → clash limit reading.methods entry ≡ fault → Kept limit (addresses_of (settled reading entry fault).methods)
kept_entry limit reading entry (Some fault) kept is = kept
kept_entry limit reading entry None kept is =
    kept_with limit reading.methods entry (find (is_at entry.address) reading.methods) kept refl is

kept_line : (limit : ℕ) (reading : Draft) (said : Result (Option Entry) WrongLine) → Kept limit (addresses_of reading.methods)
    → Kept limit (addresses_of (after_line limit reading said).methods)
kept_line limit reading (Ok None) kept = kept
kept_line limit reading (Ok (Some entry)) kept = kept_entry limit reading entry (clash limit reading.methods entry) kept refl
kept_line limit reading (Err line) kept = kept

kept_from : (limit number : ℕ) (reading : Draft) (texts : List (List ℕ)) → Kept limit (addresses_of reading.methods)
    → Kept limit (addresses_of (read_from limit number reading texts).methods)
kept_from limit number reading [] kept = kept
kept_from limit number reading (text ∷ texts) kept =
    kept_from limit (number + 1) (after_line limit reading (line_says number text)) texts (kept_line limit reading (line_says number text) kept)

patched_if : (limit : ℕ) (methods : List PatchMethod) (wrong : List WrongLine) → Kept limit (addresses_of methods)
    → IfOk (outcome methods wrong) (ArePatched limit)
patched_if limit methods (line ∷ lines) kept = tt
patched_if limit [] [] kept = tt
patched_if limit (method ∷ methods) [] kept = record {
  some = omega arith;
  few = omega (arith, kept.few, length-map methods (λ (method : PatchMethod). method.address));
  apart = kept.apart;
}

nothing : (limit : ℕ) → Kept limit []
nothing limit = record { few = omega arith; apart = λ i j d lt within. absurd (omega arith) }

pub patched : (limit : ℕ) (bytes : List ℕ) → IfOk (patch_of limit bytes) (ArePatched limit)
patched limit bytes = go (nat_lt MAX_PATCH (length bytes)) where
  go : (t : Bool) → IfOk (cond t (Err TooLong) (outcome_of (read_from limit 1 unread (lines_of bytes)))) (ArePatched limit)
  go true = tt
  go false =
      let reading = read_from limit 1 unread (lines_of bytes) in
      patched_if limit reading.methods reading.wrong (kept_from limit 1 unread (lines_of bytes) (nothing limit))

pub patched_read : (limit : ℕ) (bytes : List ℕ) (result : Result (List PatchMethod) PatchError) → Reads result (patch_of limit bytes)
    → IfOk result (ArePatched limit)
patched_read limit bytes (Ok methods) reads = subst (λ r. IfOk r (ArePatched limit)) reads (patched limit bytes)
patched_read limit bytes (Err fault) reads = tt

-- what is answered where there are methods and no wrong line
pub read_is : (limit : ℕ) (bytes : List ℕ) (reading : Draft) (methods : List PatchMethod) → reading ≡ read_from limit 1 unread (lines_of bytes)
    → methods ≡ reading.methods → (length methods == 0) ≡ false → ArePatched limit reading.methods
read_is limit bytes reading methods is same some =
    let kept = subst (λ (r : Draft). Kept limit (addresses_of r.methods)) (sym is) (kept_from limit 1 unread (lines_of bytes) (nothing limit)) in
    record {
      some = omega (arith, ap length same, some_if (length methods) some);
      few = omega (arith, kept.few, length-map reading.methods (λ (method : PatchMethod). method.address));
      apart = kept.apart;
    }
  where
    some_if : (n : ℕ) → (n == 0) ≡ false → 0 < n
    some_if n is = grind (arith, nat_tests)
