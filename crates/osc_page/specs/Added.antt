-- What is added to a text of JSON.
use Rattle.std.specs.Prelude.{◌≡◌, ℕ, List, ◌++◌}
use Rattle.json.specs.Token.{Token}
use Rattle.json.specs.Written.{Written}

-- these tokens are added, and what stood before the text stays
pub record Adds (old new : Written) (tokens : List Token) : Type 0 where
  pub tokens_are : new.tokens ≡ old.tokens ++ tokens
  pub before : new.before ≡ old.before

-- these bytes are added
pub record Grows (old new bytes : List ℕ) : Type 0 where
  pub bytes_are : new ≡ old ++ bytes
