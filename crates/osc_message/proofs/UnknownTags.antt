-- An unknown tag is found where there is one, and then no argument is read.
use Rattle.std.proofs.Common.{◌≡◌, ℕ, Bool, true, false, List, [], ◌∷◌, Option, None, Some, ◌||◌, IsTrue, is_ok, refl, sym, ap, ◌∙◌}
use Rattle.std.specs.Prelude.{find, is_some, option_and_then, unwrap_or}
use Rattle.std.specs.Option.{option_map_or}
use Rattle.std.specs.List.{list_any}
use Rattle.std.proofs.lemmas.Bool.{cond-true, cond-false}
use Rattle.osc_message.specs.Tags.{is_unknown}
use Rattle.osc_message.specs.ArgumentReading.{arguments_end, arguments_of}
use Rattle.osc_message.specs.Reading.{Parts, parts_of, are_read, has_arguments}
use Rattle.osc_message.specs.Arguments.{known_arguments, arguments_in, message_arguments}
use Rattle.osc_message.specs.Seen.{unknown_in}

go : {X : Type 0} (p : X → Bool) (x : X) (xs : List X) → (test : Bool) → p x ≡ test → is_some (find p xs) ≡ list_any p xs
    → is_some (find p (x ∷ xs)) ≡ list_any p (x ∷ xs)
go p x xs true is later = rw is refl
go p x xs false is later = rw is later

pub some_found : {X : Type 0} (p : X → Bool) (xs : List X) → is_some (find p xs) ≡ list_any p xs
some_found p [] = refl
some_found p (x ∷ xs) = go p x xs (p x) refl (some_found p xs)

some_unknown : (tags : List ℕ) → is_some (find is_unknown tags) ≡ true → list_any is_unknown tags ≡ true
some_unknown tags some = sym (some_found is_unknown tags) ∙ some

-- the arguments are those in the parts
arguments_told : (bytes : List ℕ) (parts : Parts) → parts_of bytes ≡ Some parts → message_arguments bytes ≡ arguments_in bytes parts
arguments_told bytes parts is = ap (λ (o : Option Parts). option_map_or (arguments_in bytes) o []) is

-- under an unknown tag there are none
pub none_under_unknown : (bytes : List ℕ) (parts : Parts) (unknown : Option ℕ) → parts_of bytes ≡ Some parts → unknown ≡ unknown_in parts
    → is_some unknown ≡ true → message_arguments bytes ≡ []
none_under_unknown bytes parts unknown is kept some = arguments_told bytes parts is ∙ go parts.tags (ap is_some (sym kept) ∙ some) where
  go : (tags : Option (List ℕ)) → is_some (option_and_then (λ tags. find is_unknown tags) tags) ≡ true
      → option_map_or (λ tags. known_arguments tags bytes parts.place) tags [] ≡ []
  go None some = refl
  go (Some tags) some = cond-true _ _ _ (some_unknown tags some)

-- else they are those under the tags
pub all_under_known : (bytes : List ℕ) (parts : Parts) (unknown : Option ℕ) → parts_of bytes ≡ Some parts → unknown ≡ unknown_in parts → is_some unknown ≡ false
    → message_arguments bytes ≡ arguments_of (unwrap_or parts.tags []) bytes parts.place
all_under_known bytes parts unknown is kept none = arguments_told bytes parts is ∙ go parts.tags (ap is_some (sym kept) ∙ none) where
  go : (tags : Option (List ℕ)) → is_some (option_and_then (λ tags. find is_unknown tags) tags) ≡ false
      → option_map_or (λ tags. known_arguments tags bytes parts.place) tags [] ≡ arguments_of (unwrap_or tags []) bytes parts.place
  go None none = refl
  go (Some tags) none = cond-false _ _ _ (sym (some_found is_unknown tags) ∙ none)

-- and are read to their end
pub known_read : (bytes : List ℕ) (parts : Parts) (unknown : Option ℕ) → IsTrue (has_arguments bytes parts) → unknown ≡ unknown_in parts
    → is_some unknown ≡ false → IsTrue (is_ok (arguments_end (unwrap_or parts.tags []) bytes parts.place))
known_read bytes parts unknown read kept none = go parts.tags read (ap is_some (sym kept) ∙ none) where
  or : (unknown : Bool) → unknown ≡ false → (read : Bool) → IsTrue (unknown || read) → IsTrue read
  or true is read done = absurd (cc)
  or false is read done = done

  go : (tags : Option (List ℕ)) → IsTrue (option_map_or (λ tags. are_read bytes tags parts.place) tags true)
      → is_some (option_and_then (λ tags. find is_unknown tags) tags) ≡ false → IsTrue (is_ok (arguments_end (unwrap_or tags []) bytes parts.place))
  go None read none = refl
  go (Some tags) read none = or (list_any is_unknown tags) (sym (some_found is_unknown tags) ∙ none) _ read
