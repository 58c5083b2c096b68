-- How a patch is written.
use Rattle.std.specs.Prelude.{ℕ, ◌+◌, ◌<◌, IsTrue, List, [], ◌∷◌, ◌++◌, codes, Option, Some, None}
use Rattle.std.specs.Prelude.{option_map, flat_map, IfSome}
use Rattle.std.specs.Fmt.{decimal}
use Rattle.osc_pattern.specs.Addresses.{is_address}
use Rattle.osc_patch.specs.declared.entry.Entry.{Entry}
use Rattle.osc_patch.specs.declared.draft.Draft.{Draft}
use Rattle.osc_patch.specs.Hosts.{is_host}
use Rattle.osc_patch.specs.Patches.{clash, settled}

-- a line to be written: an address, and a host and a port where it has them
pub record Form : Type 0 where
  pub address : List ℕ
  pub to : Option (List ℕ × ℕ)

abbrev pub to_words : Option (List ℕ × ℕ) → List (List ℕ)
to_words None = []
to_words (Some to) = to.0 ∷ decimal to.1 ∷ []

abbrev pub form_words : Form → List (List ℕ)
form_words form = codes "add" ∷ form.address ∷ to_words form.to

-- a space before each word
abbrev pub spaces : List (List ℕ) → List ℕ
spaces words = flat_map (λ word. 32 ∷ word) words

-- words with a space between each two
abbrev pub spaced : List (List ℕ) → List ℕ
spaced [] = []
spaced (word ∷ words) = word ++ spaces words

-- a form's line
abbrev pub form_line : Form → List ℕ
form_line form = spaced (form_words form) ++ 10 ∷ []

-- a patch of these forms, a line each
abbrev pub written : List Form → List ℕ
written forms = flat_map form_line forms

-- what the line of this number says by its form
abbrev pub entry_at : ℕ → Form → Entry
entry_at line form = record {
  line = line;
  address = form.address;
  route = option_map (λ to. record { host = to.0; port = to.1; line = line }) form.to;
}

-- what is read after these forms, counted from a number on
abbrev pub settled_all : ℕ → ℕ → Draft → List Form → Draft
settled_all limit number reading [] = reading
settled_all limit number reading (form ∷ forms) =
    settled_all limit (number + 1)
    (settled reading (entry_at number form) (clash limit reading.methods (entry_at number form)))
    forms

-- a form that a line can say
pub record IsForm (form : Form) : Type 0 where
  pub address : IsTrue (is_address form.address)
  pub host : IfSome form.to (λ to. IsTrue (is_host to.0))
  pub some : IfSome form.to (λ to. 0 < to.1)
  pub port : IfSome form.to (λ to. to.1 < 65536)
