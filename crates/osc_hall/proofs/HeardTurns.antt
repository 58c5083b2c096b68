-- What a turn keeps of what was heard of a visitor.
use Rattle.std.proofs.Common.{◌≡◌, ℕ, List, ◌++◌, take, Option, Some, None, Bool, true, false, refl, sym, ap, subst, ◌∙◌, append_assoc, nat_lt}
use Rattle.std.specs.Prelude.{option_map, is_some, ◌||◌}
use Rattle.osc_door.specs.declared.door.Said.{Said}
use Rattle.osc_door.specs.Visitors.{SaysFront}
use Rattle.osc_hall.specs.declared.limits.TheConstants.{PATIENCE}
use Rattle.osc_hall.specs.Turns.{Seen, Turn, IsTurn, SeesSo, Hears, IsHeardAs, Tells, TellsThen, longer}
use Rattle.osc_hall.specs.Served.{IsHeardOf}

longer_heard : (says before after : Option (List ℕ)) (heard piece : List ℕ) → says ≡ option_map (λ (rest : List ℕ). heard ++ rest) before
    → before ≡ option_map (λ (left : List ℕ). piece ++ left) after
    → says ≡ option_map (λ (rest : List ℕ). (heard ++ piece) ++ rest) after
longer_heard says before None heard piece is front = is ∙ ap (λ (o : Option (List ℕ)). option_map (λ (rest : List ℕ). heard ++ rest) o) front
longer_heard says before (Some rest) heard piece is front =
    is ∙ ap (λ (o : Option (List ℕ)). option_map (λ (rest : List ℕ). heard ++ rest) o) front
    ∙ ap (λ (l : List ℕ). Some l) (sym (append_assoc heard piece rest))

same_heard : (says before after : Option (List ℕ)) (heard new : List ℕ) → says ≡ option_map (λ (rest : List ℕ). heard ++ rest) before
    → after ≡ before → new ≡ heard → says ≡ option_map (λ (rest : List ℕ). new ++ rest) after
same_heard says before after heard new is left_is heard_is =
    subst (λ (l : List ℕ). says ≡ option_map (λ (rest : List ℕ). l ++ rest) after) (sym heard_is)
    (subst (λ (o : Option (List ℕ)). says ≡ option_map (λ (rest : List ℕ). heard ++ rest) o) (sym left_is) is)

heard_as : {V : Type 0} (left : V → Option (List ℕ)) (says : Option (List ℕ)) (page state : List ℕ) (said : Said) (into : List ℕ)
    (before after : Seen V) (goes : Bool) → IsHeardAs page state said into before after goes
    → SaysFront (left before.visitor) (left after.visitor) said into → (goes || is_some after.answer) ≡ true → IsHeardOf left says before
    → IsHeardOf left says after
heard_as left says page state (Said.Bytes count) into before after true comes front may of =
    subst (λ (l : List ℕ). says ≡ option_map (λ (rest : List ℕ). l ++ rest) (left after.visitor)) (sym comes.0)
    (longer_heard says (left before.visitor) (left after.visitor) before.heard (take count into) of front)
heard_as left says page state (Said.Bytes count) into before after false comes front may of =
    let none : is_some after.answer ≡ false = ap (λ (a : Option (List ℕ)). is_some a) comes in
    absurd (cc)
heard_as left says page state Said.Quiet into before after goes comes front may of =
    same_heard says (left before.visitor) (left after.visitor) before.heard after.heard of front comes.0
heard_as left says page state Said.Gone into before after goes comes front may of =
    same_heard says (left before.visitor) (left after.visitor) before.heard after.heard of front comes.0

heard_hears : {V : Type 0} (left taken : V → Option (List ℕ)) (says : Option (List ℕ)) (page state : List ℕ) (answer : Option (List ℕ))
    (before after : Seen V) (goes : Bool) → Hears left taken page state answer before after goes → (goes || is_some after.answer) ≡ true
    → IsHeardOf left says before → IsHeardOf left says after
heard_hears left taken says page state None before after goes hears may of =
    heard_as left says page state hears.said hears.into before after goes hears.comes_of_it hears.says may of
heard_hears left taken says page state (Some text) before after goes hears may of = subst (λ s. IsHeardOf left says s) (sym hears.0) of

heard_tells : {V : Type 0} (left taken : V → Option (List ℕ)) (says : Option (List ℕ)) (answer : Option (List ℕ)) (before after : Seen V)
    (goes : Bool) → Tells left taken answer before after goes → IsHeardOf left says before → IsHeardOf left says after
heard_tells left taken says None before after goes tells of = subst (λ s. IsHeardOf left says s) (sym tells.0) of
heard_tells left taken says (Some text) before after goes tells of =
    same_heard says (left before.visitor) (left after.visitor) before.heard after.heard of tells.left_is tells.heard_is

heard_then : {V : Type 0} (left taken : V → Option (List ℕ)) (says : Option (List ℕ)) (page state : List ℕ) (answer : Option (List ℕ))
    (before heard after : Seen V) (goes stays : Bool) → Hears left taken page state answer before heard goes
    → TellsThen left taken goes heard after stays → (stays || is_some after.answer) ≡ true → IsHeardOf left says before
    → IsHeardOf left says after
heard_then left taken says page state answer before heard after true stays hears tells may of =
    heard_tells left taken says heard.answer heard after stays tells
    (heard_hears left taken says page state answer before heard true hears refl of)
heard_then left taken says page state answer before heard after false stays hears tells may of =
    let none : (false || is_some heard.answer) ≡ true =
    subst (λ (b : Bool). (b || is_some heard.answer) ≡ true) tells.1
    (subst (λ s. (stays || is_some s.answer) ≡ true) tells.0 may) in
    subst (λ s. IsHeardOf left says s) (sym tells.0) (heard_hears left taken says page state answer before heard false hears none of)

heard_so : {V : Type 0} (left taken : V → Option (List ℕ)) (says : Option (List ℕ)) (page state : List ℕ) (longer_may : Bool)
    (before after : Seen V) (stays : Bool) → SeesSo left taken page state longer_may before after stays
    → (stays || is_some after.answer) ≡ true → IsHeardOf left says before → IsHeardOf left says after
heard_so left taken says page state true before after stays sees may of =
    heard_then left taken says page state before.answer (longer before) sees.heard after sees.goes stays sees.hears sees.tells may of
heard_so left taken says page state false before after stays sees may of = subst (λ s. IsHeardOf left says s) (sym sees.0) of

-- what was heard stays a front of what a visitor says
pub heard_turn : {V : Type 0} (left taken : V → Option (List ℕ)) (page state : List ℕ) (says : Option (List ℕ)) (turn : Turn V)
    → IsTurn left taken page state turn → (turn.stays || is_some turn.after.answer) ≡ true → IsHeardOf left says turn.before
    → IsHeardOf left says turn.after
heard_turn left taken page state says turn is may of =
    heard_so left taken says page state (nat_lt turn.before.rounds PATIENCE) turn.before turn.after turn.stays is may of
