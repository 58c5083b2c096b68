-- The numbers of accepted units have no gap, and each unit is released once, waits, or was discarded.
use Rattle.std.proofs.Common.{◌≡◌, ℕ, List, [], ◌∷◌, ◌++◌, map, refl, sym, ap, subst, ◌∙◌, append_assoc}
use Rattle.std.specs.List.Sorted.{IsPermutation}
use Rattle.std.proofs.lemmas.List.{map-append}
use Rattle.std.proofs.lemmas.List.Sorted.{IsPermutation-map, IsPermutation-refl, IsPermutation-trans, IsPermutation-append, IsPermutation-append_comm}
use Rattle.std.proofs.lemmas.List.Sorted.{IsPermutation-append_left, IsPermutation-append_right}
use Rattle.osc_queue.specs.Timed.{unit_of}
use Rattle.osc_queue.proofs.Orders.{all_mapped}
use Rattle.osc_model.specs.Limits.{Limits}
use Rattle.osc_model.specs.State.{State, Queued, opening}
use Rattle.osc_model.specs.Events.{Answer, Entry}
use Rattle.osc_model.specs.Step.{step}
use Rattle.osc_model.specs.Passing.{entering, dropping, leaving, all_entering, all_dropping, all_leaving, queued_in, released_in}
use Rattle.osc_model.specs.History.{LegalFrom, Legal, after}
use Rattle.osc_model.proofs.Passing.{history_passes, enters_told, leaves_told}
use Rattle.osc_laws.specs.Once.{given_in, numbers_released, AreReleasedOnce}
use Rattle.osc_laws.proofs.ReadOff.{numbers_given}
use Rattle.osc_laws.proofs.Units.{IsWaiting, units_are}
use Rattle.osc_laws.proofs.Discarded.{discarded_is}

-- the numbers of queued units
abbrev numbers_of : List Queued → List ℕ
numbers_of queue = map (λ (item : Queued). unit_of item) queue

-- two pairs of lists, one after the other, are the first ones and then the second ones
regrouped : (a b c d : List ℕ) → IsPermutation ((a ++ b) ++ (c ++ d)) ((a ++ c) ++ (b ++ d))
regrouped a b c d =
    let inner : IsPermutation (b ++ (c ++ d)) (c ++ (b ++ d)) = subst (λ (l : List ℕ). IsPermutation (b ++ (c ++ d)) l) (append_assoc c b d)
    (subst (λ (l : List ℕ). IsPermutation l ((c ++ b) ++ d)) (append_assoc b c d)
    (IsPermutation-append_left d (b ++ c) (c ++ b) (IsPermutation-append_comm b c))) in
    let moved : IsPermutation (a ++ (b ++ (c ++ d))) (a ++ (c ++ (b ++ d))) = IsPermutation-append_right a (b ++ (c ++ d)) (c ++ (b ++ d)) inner in
    subst (λ (l : List ℕ). IsPermutation ((a ++ b) ++ (c ++ d)) l) (sym (append_assoc a c (b ++ d)))
    (subst (λ (l : List ℕ). IsPermutation l (a ++ (c ++ (b ++ d)))) (sym (append_assoc a b (c ++ d))) moved)

-- the answers of a history tell the numbers of the units that it queues and of those that it drops
entered_are : (state : State) (history : List Entry) → LegalFrom state history
    → IsPermutation (given_in history) (numbers_of (all_entering state history) ++ numbers_of (all_dropping state history))
entered_are state [] legal = IsPermutation-refl []
entered_are state (entry ∷ entries) legal =
    let next = (step state entry.event).state in
    let enters : List ℕ = numbers_of (entering state entry.event) in
    let drops : List ℕ = numbers_of (dropping state entry.event) in
    let more : List ℕ = numbers_of (all_entering next entries) in
    let others : List ℕ = numbers_of (all_dropping next entries) in
    let here : IsPermutation (queued_in entry.answer) (enters ++ drops) =
    subst (λ (a : Answer). IsPermutation (queued_in a) (enters ++ drops)) (sym legal.3) (enters_told state entry.event) in
    let all : IsPermutation (given_in (entry ∷ entries)) ((enters ++ drops) ++ (more ++ others)) =
    IsPermutation-append (queued_in entry.answer) (enters ++ drops) (given_in entries) (more ++ others) here (entered_are next entries legal.4) in
    let grouped : IsPermutation (given_in (entry ∷ entries)) ((enters ++ more) ++ (drops ++ others)) =
    IsPermutation-trans _ _ _ all (regrouped enters drops more others) in
    subst (λ (l : List ℕ). IsPermutation (given_in (entry ∷ entries)) l)
    (λ i. sym (map-append (λ (item : Queued). unit_of item) (entering state entry.event) (all_entering next entries)) i
    ++ sym (map-append (λ (item : Queued). unit_of item) (dropping state entry.event) (all_dropping next entries)) i) grouped

-- and the numbers of those that it releases
left_are : (state : State) (history : List Entry) → LegalFrom state history → numbers_of (all_leaving state history) ≡ numbers_released history
left_are state [] legal = refl
left_are state (entry ∷ entries) legal =
    let next = (step state entry.event).state in
    let here : numbers_of (leaving state entry.event) ≡ released_in entry.answer = leaves_told state entry.event ∙ ap released_in (sym legal.3) in
    map-append (λ (item : Queued). unit_of item) (leaving state entry.event) (all_leaving next entries) ∙ (λ i. here i ++ left_are next entries legal.4 i)

-- the numbers that are given are, each once, those that are released, those that wait and those that are dropped
numbers_pass : (caps : Limits) (history : List Entry) → Legal caps history
    → IsPermutation (given_in history)
    (numbers_released history ++ (numbers_of (after (opening caps) history).queue ++ numbers_of (all_dropping (opening caps) history)))
numbers_pass caps history legal =
    let state = opening caps in
    let queue = (after state history).queue in
    let drops : List ℕ = numbers_of (all_dropping state history) in
    let passed = IsPermutation-map (λ (item : Queued). unit_of item) (all_entering state history) (all_leaving state history ++ queue)
    (history_passes state history) in
    let left = map-append (λ (item : Queued). unit_of item) (all_leaving state history) queue
    ∙ ap (λ (l : List ℕ). l ++ numbers_of queue) (left_are state history legal.1) in
    let pass : IsPermutation (numbers_of (all_entering state history)) (numbers_released history ++ numbers_of queue) =
    subst (λ (l : List ℕ). IsPermutation (numbers_of (all_entering state history)) l) left passed in
    subst (λ (l : List ℕ). IsPermutation (given_in history) l) (append_assoc (numbers_released history) (numbers_of queue) drops)
    (IsPermutation-trans _ _ _ (entered_are state history legal.1)
    (IsPermutation-append_left drops (numbers_of (all_entering state history)) (numbers_released history ++ numbers_of queue) pass))

pub all_once : (caps : Limits) (history : List Entry) → Legal caps history → AreReleasedOnce caps.late history (after (opening caps) history).queue
all_once caps history legal =
    let queue = (after (opening caps) history).queue in
    let given = numbers_given (opening caps) history legal.1 in
    record {
      count = given.count;
      given = given.numbers;
      discarded = numbers_of (all_dropping (opening caps) history);
      discarded_are = λ number. discarded_is caps history number legal;
      once = subst (λ (l : List ℕ). IsPermutation l (numbers_released history ++ (numbers_of queue ++ numbers_of (all_dropping (opening caps) history))))
          given.numbers (numbers_pass caps history legal);
      waiting = all_mapped queue (λ (item : Queued) (is : IsWaiting history item). is.0) (units_are caps history legal);
    }
