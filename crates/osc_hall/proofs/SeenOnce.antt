-- A visitor that is heard and told in a round.
use Rattle.std.proofs.Common.{◌≡◌, List, ℕ, Option, Bool, true, false, refl, sym, subst}
use Rattle.osc_hall.specs.Turns.{Seen, longer, IsSeen, Hears, Tells}

pub seen_then : {V : Type 0} (left taken : V → Option (List ℕ)) (page state : List ℕ) (before next heard after : Seen V) (stays goes : Bool)
    → next ≡ longer before → Hears left taken page state next.answer next heard goes → goes ≡ true → Tells left taken heard.answer heard after stays
    → IsSeen left taken page state before after stays
seen_then left taken page state before next heard after stays goes is hears on tells = record {
  heard = heard;
  goes = true;
  hears = subst (λ n. Hears left taken page state n.answer n heard true) is
      (subst (λ b. Hears left taken page state next.answer next heard b) on hears);
  tells = tells;
}

pub seen_not : {V : Type 0} (left taken : V → Option (List ℕ)) (page state : List ℕ) (before next heard : Seen V) (goes : Bool)
    → next ≡ longer before → Hears left taken page state next.answer next heard goes → goes ≡ false
    → IsSeen left taken page state before heard goes
seen_not left taken page state before next heard goes is hears off = subst (λ b. IsSeen left taken page state before heard b) (sym off) (record {
  heard = heard;
  goes = false;
  hears = subst (λ n. Hears left taken page state n.answer n heard false) is
      (subst (λ b. Hears left taken page state next.answer next heard b) off hears);
  tells = (refl, refl);
})
