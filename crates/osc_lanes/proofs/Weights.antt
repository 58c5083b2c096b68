-- What the entries of a history come to, by their events: of each token, and of all.
use Rattle.std.proofs.Common.{◌≡◌, ℕ, zero, suc, ◌+◌, ◌*◌, ◌<◌, ◌≤◌, List, [], ◌∷◌, flat_map, Option, Some, None, sum_by, refl, sym, ap, ◌∙◌, arith}
use Rattle.std.specs.List.{AllByRecursion, cons_option}
use Rattle.std.specs.Option.{option_map_or}
use Rattle.std.proofs.lemmas.List.Sums.{sum_by-cons, sum_by-append}
use Rattle.std.proofs.lemmas.List.Sorted.{sum_by-IsPermutation}
use Rattle.osc_record.specs.Reading.{entry_in}
use Rattle.osc_model.specs.Events.{Event, Entry, enrol, number}
use Rattle.osc_core.specs.Standing.{history_in}
use Rattle.osc_turn.specs.declared.view.Entry.{Entry as Seen}
use Rattle.osc_turn.specs.History.{StartsWith, texts, own}
use Rattle.osc_life.specs.Crews.{enrolments}
use Rattle.osc_script.proofs.Costs.{spent}
use Rattle.osc_lanes.proofs.Parting.{given_by, given_in, parted}

module _ (weight : Event → ℕ) where
  -- what the entry of a text comes to
  abbrev pub weighs : Seen → ℕ
  weighs one = option_map_or (λ entry. weight entry.event) (entry_in one.text) 0

  abbrev pub weighed : List Seen → ℕ
  weighed history = sum_by weighs history

  -- what the own entries of so many numbers come to, from this one on
  abbrev pub weighed_in : List Seen → ℕ → ℕ → ℕ
  weighed_in history first zero = 0
  weighed_in history first (suc count) = weighed (own first history) + weighed_in history (first + 1) count

  pub weighed_read : (history : List Seen) → spent weight (history_in (texts history)) ≡ weighed history
  weighed_read [] = refl
  weighed_read (one ∷ history) = go (entry_in one.text) (weighed_read history) ∙ sym (sum_by-cons weighs one history) where
    go : (read : Option Entry) → spent weight (history_in (texts history)) ≡ weighed history
        → spent weight (cons_option read (history_in (texts history))) ≡ option_map_or (λ entry. weight entry.event) read 0 + weighed history
    go None same = omega (arith, same)
    go (Some entry) same =
        sum_by-cons (λ (one : Entry). weight one.event) entry (history_in (texts history)) ∙ ap (λ (n : ℕ). weight entry.event + n) same

  pub weighed_starts : (all seen : List Seen) → StartsWith all seen → weighed seen ≤ weighed all
  weighed_starts all seen (rest, is) = omega (arith, ap weighed is, sum_by-append weighs seen rest)

  pub enrolments_weigh : (first count : ℕ) → spent weight (enrolments first count) ≡ count * weight enrol
  enrolments_weigh first zero = omega arith
  enrolments_weigh first (suc count) =
      let one : Entry = record { caller = 0; event = enrol; answer = number first } in
      omega (
        arith,
        sum_by-cons (λ (entry : Entry). weight entry.event) one (enrolments (first + 1) count),
        enrolments_weigh (first + 1) count,
      )

  -- All entries come to what those of each number do.

  abbrev gives : Seen → List ℕ
  gives one = weighs one ∷ []

  singles : (history : List Seen) → sum_by (λ (n : ℕ). n) (flat_map gives history) ≡ weighed history
  singles [] = refl
  singles (one ∷ history) =
      sum_by-cons (λ (n : ℕ). n) (weighs one) (flat_map gives history) ∙ ap (λ (n : ℕ). weighs one + n) (singles history)
      ∙ sym (sum_by-cons weighs one history)

  given_weighs : (history : List Seen) (first count : ℕ) → sum_by (λ (n : ℕ). n) (given_in gives history first count) ≡ weighed_in history first count
  given_weighs history first zero = refl
  given_weighs history first (suc count) =
      sum_by-append (λ (n : ℕ). n) (given_by gives history first) (given_in gives history (first + 1) count)
      ∙ (λ i. singles (own first history) i + given_weighs history (first + 1) count i)

  pub all_weigh : (count : ℕ) (history : List Seen) → AllByRecursion (λ one. one.number < count) history → weighed history ≡ weighed_in history 0 count
  all_weigh count history all =
      sym (singles history)
      ∙ sym (sum_by-IsPermutation (λ (n : ℕ). n) (flat_map gives history) (given_in gives history 0 count) (parted gives count history all))
      ∙ given_weighs history 0 count
