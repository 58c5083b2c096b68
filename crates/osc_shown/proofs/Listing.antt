-- How the addresses of a pattern are listed.
use Rattle.std.proofs.Common.{◌≡◌, ℕ, suc, Bool, List, ◌∷◌, ◌++◌, nat_lt, sym, ap, ◌∙◌, append_assoc}
use Rattle.osc_shown.specs.declared.route.Route.{Route}
use Rattle.osc_shown.specs.Places.{listed, run_end, before_next}

-- one address more is listed
pub listed_on : (most left : ℕ) (hit : Route) (more found : List Route) (text after all : List ℕ) → most ≡ suc left → found ≡ hit ∷ more
    → text ++ listed most found ≡ all
    → after ≡ text ++ (hit.address ++ run_end hit more ++ before_next (nat_lt 0 left) more)
    → after ++ listed left more ≡ all
listed_on most left hit more found text after all most_is found_is is adds =
    let said = hit.address ++ run_end hit more ++ before_next (nat_lt 0 left) more in
    let whole : listed most found ≡ said ++ listed left more =
    ap (λ (n : ℕ). listed n found) most_is ∙ ap (listed (suc left)) found_is
    in ap (λ (l : List ℕ). l ++ listed left more) adds ∙ append_assoc text said (listed left more)
    ∙ ap (λ (l : List ℕ). text ++ l) (sym whole) ∙ is

-- an address is added, and what stands after it where these are found next
pub hit_said : (hit : Route) (goes_on : Bool) (found more : List Route) (before mid after : List ℕ) → found ≡ more
    → mid ≡ before ++ hit.address → after ≡ mid ++ (run_end hit more ++ before_next goes_on more)
    → after ≡ before ++ (hit.address ++ run_end hit found ++ before_next goes_on found)
hit_said hit goes_on found more before mid after found_is mid_is then =
    let ends = run_end hit more ++ before_next goes_on more in
    then ∙ ap (λ (l : List ℕ). l ++ ends) mid_is ∙ append_assoc before hit.address ends
    ∙ ap (λ (l : List ℕ). before ++ l) (sym (append_assoc hit.address (run_end hit more) (before_next goes_on more)))
    ∙ ap (λ (l : List Route). before ++ (hit.address ++ run_end hit l ++ before_next goes_on l)) (sym found_is)
