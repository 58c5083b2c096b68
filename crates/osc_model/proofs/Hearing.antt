-- What boxes hear of invocations.
use Rattle.std.proofs.Common.{◌≡◌, inl, inr, ℕ, ◌+◌, ◌-◌, ◌≤◌, ◌==◌, Bool, true, false, cond, List, [], ◌∷◌, ◌++◌, length, length-append, length-drop, drop}
use Rattle.std.proofs.Common.{filter, Option, Some, None, refl, sym, ap, ◌∙◌, arith, append_assoc}
use Rattle.std.specs.Prelude.{IfSome}
use Rattle.std.specs.Option.{option_map}
use Rattle.std.specs.List.{flat_map}
use Rattle.std.proofs.lemmas.Bool.{cases_lt}
use Rattle.std.proofs.lemmas.List.{append-nil, drop-append-le, drop-drop}
use Rattle.osc_method.specs.Heard.{last_of, after_call}
use Rattle.osc_model.specs.Events.{Invocation}
use Rattle.osc_model.specs.Heard.{Told, bytes_of, calls_bytes, heard_of, reset, hear, hear_all, IsWithin}

-- the last bytes of what follows last bytes are those of the whole
last_of-append : (keep : ℕ) (xs ys : List ℕ) → last_of keep (last_of keep xs ++ ys) ≡ last_of keep (xs ++ ys)
last_of-append keep xs ys = elim (cases_lt keep (length xs)) [
  | inl long ↦
      let cut : ℕ = length xs - keep in
      let size : length (drop cut xs ++ ys) - keep ≡ length ys = omega (arith, length-append (drop cut xs) ys, length-drop cut xs, long) in
      let whole : length (xs ++ ys) - keep ≡ cut + length ys = omega (arith, length-append xs ys, long) in
      ap (λ (n : ℕ). drop n (drop cut xs ++ ys)) size
      ∙ ap (drop (length ys)) (sym (drop-append-le cut xs ys (omega arith)))
      ∙ drop-drop (length ys) cut (xs ++ ys)
      ∙ ap (λ (n : ℕ). drop n (xs ++ ys)) (sym whole)
  | inr short ↦
      let none : length xs - keep ≡ 0 = omega (arith, short) in
      ap (λ (n : ℕ). last_of keep (drop n xs ++ ys)) none
]

-- few bytes are kept whole
last_of-all : (keep : ℕ) (xs : List ℕ) → length xs ≤ keep → last_of keep xs ≡ xs
last_of-all keep xs few = let none : length xs - keep ≡ 0 = omega arith in ap (λ (n : ℕ). drop n xs) none

last_of-short : (keep : ℕ) (xs : List ℕ) → length (last_of keep xs) ≤ keep
last_of-short keep xs = omega (arith, length-drop (length xs - keep) xs)

none_more : (keep : ℕ) (heard : Option (List ℕ)) → IfSome heard (λ bytes. length bytes ≤ keep) → heard ≡ after_call keep [] heard
none_more keep None within = refl
none_more keep (Some bytes) within = ap Some (sym (ap (last_of keep) (append-nil bytes) ∙ last_of-all keep bytes within))

more_twice : (keep : ℕ) (call calls : List ℕ) (heard : Option (List ℕ))
    → after_call keep calls (after_call keep call heard) ≡ after_call keep (call ++ calls) heard
more_twice keep call calls None = refl
more_twice keep call calls (Some bytes) = ap Some (last_of-append keep (bytes ++ call) calls ∙ ap (last_of keep) (append_assoc bytes call calls))

more_within : (keep : ℕ) (call : List ℕ) (heard : Option (List ℕ)) → IfSome (after_call keep call heard) (λ bytes. length bytes ≤ keep)
more_within keep call None = tt
more_within keep call (Some bytes) = last_of-short keep (bytes ++ call)

-- a box with other bytes told
abbrev telling : Told → Option (List ℕ) → Told
telling told heard = record told { heard = heard }

hear_within : (told : Told) (invocation : Invocation) → IsWithin told → IsWithin (hear told invocation)
hear_within told invocation within = go (invocation.call.id == told.id) where
  go : (t : Bool) → IsWithin (cond t (telling told (after_call told.keep.most (bytes_of invocation) told.heard)) told)
  go true = more_within told.keep.most (bytes_of invocation) told.heard
  go false = within

pub all_within : (told : Told) (invocations : List Invocation) → IsWithin told → IsWithin (hear_all invocations told)
all_within told [] within = within
all_within told (invocation ∷ invocations) within = all_within (hear told invocation) invocations (hear_within told invocation within)

pub all_heard : (told : Told) (invocations : List Invocation) → IsWithin told
    → hear_all invocations told ≡ telling told (after_call told.keep.most (calls_bytes invocations told.id) told.heard)
all_heard told [] within = ap (telling told) (none_more told.keep.most told.heard within)
all_heard told (invocation ∷ invocations) within =
    go (invocation.call.id == told.id)
    (all_heard (telling told (after_call told.keep.most (bytes_of invocation) told.heard)) invocations (more_within told.keep.most (bytes_of invocation) told.heard))
    (all_heard told invocations within)
  where
    go : (t : Bool)
        → hear_all invocations (telling told (after_call told.keep.most (bytes_of invocation) told.heard))
        ≡ telling told (after_call told.keep.most (calls_bytes invocations told.id) (after_call told.keep.most (bytes_of invocation) told.heard))
        → hear_all invocations told ≡ telling told (after_call told.keep.most (calls_bytes invocations told.id) told.heard)
        → hear_all invocations (cond t (telling told (after_call told.keep.most (bytes_of invocation) told.heard)) told)
        ≡ telling told
        (after_call told.keep.most
        (flat_map bytes_of
        (cond t (invocation ∷ filter (λ other. other.call.id == told.id) invocations) (filter (λ other. other.call.id == told.id) invocations))) told.heard)
    go true hears keeps = hears ∙ ap (telling told) (more_twice told.keep.most (bytes_of invocation) (calls_bytes invocations told.id) told.heard)
    go false hears keeps = keeps

reset_within : (keep : ℕ) (heard : Option (List ℕ)) → IfSome (option_map (λ (_ : List ℕ). let none : List ℕ = [] in none) heard) (λ bytes. length bytes ≤ keep)
reset_within keep None = tt
reset_within keep (Some bytes) = omega arith

fresh_told : (keep : ℕ) (calls : List ℕ) (heard : Option (List ℕ))
    → after_call keep calls (option_map (λ (_ : List ℕ). let none : List ℕ = [] in none) heard) ≡ option_map (λ _. last_of keep calls) heard
fresh_told keep calls None = refl
fresh_told keep calls (Some bytes) = refl

pub fresh_heard : (told : Told) (invocations : List Invocation)
    → hear_all invocations (reset told) ≡ telling told (option_map (λ _. heard_of invocations told.id told.keep.most) told.heard)
fresh_heard told invocations =
    all_heard (reset told) invocations (reset_within told.keep.most told.heard)
    ∙ ap (telling told) (fresh_told told.keep.most (calls_bytes invocations told.id) told.heard)

pub heard_on : (told : Told) (first more : List Invocation) → hear_all (first ++ more) told ≡ hear_all more (hear_all first told)
heard_on told [] more = refl
heard_on told (invocation ∷ first) more = heard_on (hear told invocation) first more
