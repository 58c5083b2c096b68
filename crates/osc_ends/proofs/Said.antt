-- What holds of what the words say.
use Rattle.std.proofs.Common.{◌≡◌, Option, Some, IfSome, subst}

module _ {X : Type 0} (P : X → Type 0) where
  pub of_said : (said : Option X) (one : X) → Some one ≡ said → P one → IfSome said P
  of_said said one is holds = subst (λ (o : Option X). IfSome o P) is holds
