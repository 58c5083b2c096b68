use Rattle.std.proofs.Common.{◌≡◌, ℕ, List, [], ◌∷◌, ◌++◌, ◌+◌, sym, subst, arith, rules}
use Rattle.std.specs.Prelude.{OnOk}
use Rattle.std.proofs.lemmas.Bool.Decides.{nat_tests}
use Rattle.std.proofs.lemmas.Fmt.{decimal_digit}
use Rattle.std.proofs.lemmas.List.{append_assoc}
use Rattle.osc_print.proofs.text.Text.space_number.Goals as goal

pub returns-then-number-lt10-clause-ok : goal.returns-then-number-lt10-clause-ok
returns-then-number-lt10-clause-ok c =
    let old = c.args.self.now in
    let digit = 48 + c.args.number in
    let last = c.byte-then-number-lt10 in
    let spaced : c.byte.new.self ≡ old ++ 32 ∷ [] = search rules in
    subst (λ (digits : List ℕ). OnOk last.result (last.new.self ≡ old ++ 32 ∷ digits)) (sym (decimal_digit c.args.number (grind (arith, nat_tests))))
    (subst (λ (text : List ℕ). OnOk last.result (last.new.self ≡ text)) (append_assoc old (32 ∷ []) (digit ∷ []))
    (subst (λ (text : List ℕ). OnOk last.result (last.new.self ≡ text ++ digit ∷ [])) spaced last.ensures.ok))
