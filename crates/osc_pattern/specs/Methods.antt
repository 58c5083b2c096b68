-- Lists of methods, and how many nodes a tree of them has.
use Rattle.std.specs.Prelude.{◌≡◌, ◌≢◌, ℕ, false, if◌then◌else◌, List, [], ◌∷◌, ◌++◌, length, map}
use Rattle.std.specs.Prelude.{All, AllPairs, flat_map}
use Rattle.std.specs.List.{list_any}
use Rattle.std.specs.Str.{bytes_eq}
use Rattle.osc_pattern.specs.Patterns.{parts_of}
use Rattle.osc_pattern.specs.Addresses.{IsAddress, is_proper_prefix}

-- a method, by its number and its address
pub record Method : Type 0 where
  pub id : ℕ
  pub address : List ℕ

-- ids differ, addresses are lawful and differ, and none is a proper prefix of another
pub record IsMethodList (methods : List Method) : Type 0 where
  pub ids : AllPairs (λ a b. a.id ≢ b.id) methods
  pub lawful : All (λ method. IsAddress method.address) methods
  pub addresses : AllPairs (λ a b. a.address ≢ b.address) methods
  pub apart : AllPairs
      (λ a b. (is_proper_prefix a.address b.address ≡ false)
      × (is_proper_prefix b.address a.address ≡ false)) methods

-- the first name with a slash before it, the first two, and so on, up to all of them
abbrev pub runs_of : List (List ℕ) → List (List ℕ)
runs_of [] = []
runs_of (name ∷ names) = (47 ∷ name) ∷ map (λ more. (47 ∷ name) ++ more) (runs_of names)

-- the nonempty prefixes of an address by parts, the whole address among them
abbrev pub prefixes_of : List ℕ → List (List ℕ)
prefixes_of address = runs_of (parts_of address)

-- a list without those of its texts that stand in it again later
abbrev pub distinct : List (List ℕ) → List (List ℕ)
distinct [] = []
distinct (text ∷ texts) = if list_any (bytes_eq text) texts then distinct texts
    else text ∷ distinct texts

-- how many distinct nonempty prefixes by parts the methods' addresses have
abbrev pub nodes : List Method → ℕ
nodes methods = length (distinct (flat_map (λ method. prefixes_of method.address) methods))
