-- Where no one does anything more.
use Rattle.std.proofs.Common.{◌≡◌, ℕ, ◌≤◌, List, [], ◌∷◌, ◌++◌, length, ap, sym, subst, ◌∙◌, arith, length-append, append-nil}
use Rattle.std.specs.List.{AllByRecursion}
use Rattle.std.proofs.lemmas.List.Elements.{All-from_recursion, All-contains}
use Rattle.osc_turn.specs.declared.view.Entry.{Entry as Seen}
use Rattle.osc_turn.specs.declared.view.View.{View}
use Rattle.osc_turn.specs.History.{StartsWith, own}
use Rattle.osc_turn.specs.Rule.{number_of}
use Rattle.osc_turn.proofs.Histories.{starts_own, own_append, own_of_mine}
use Rattle.osc_life.proofs.Enrolments.{IsOfToken}

all_after : {X : Type 0} (P : X → Type 0) (xs ys : List X) → AllByRecursion P (xs ++ ys) → AllByRecursion P ys
all_after P [] ys all = all
all_after P (x ∷ xs) ys all = all_after P xs ys all.1

-- the token has no more own entries in a history than in what was seen in the end
abbrev pub IsWithin : List Seen → List Seen → ℕ × View → Type 0
IsWithin history there one = length (own (number_of one.1) history) ≤ length (own (number_of one.1) there)

-- so it is where that begins with what the token has seen, which holds all its entries
pub within_seen : (history there : List Seen) (one : ℕ × View) → StartsWith there one.1.seen
    → own (number_of one.1) history ≡ own (number_of one.1) one.1.seen → IsWithin history there one
within_seen history there one starts same =
    let seen = starts_own (number_of one.1) there one.1.seen starts in
    omega (arith, ap length same, ap length seen.1, length-append (own (number_of one.1) one.1.seen) seen.0)

-- and where it has none
pub within_none : (history there : List Seen) (one : ℕ × View) → own (number_of one.1) history ≡ [] → IsWithin history there one
within_none history there one none = omega (arith, ap length none)

module _ (knows : List (ℕ × View)) (there : List Seen) where
  -- an entry after what was seen in the end isn't a caller's
  none_after : (history : List Seen) (one : Seen) (more : List Seen) → history ≡ there ++ one ∷ more → AllByRecursion (IsWithin history there) knows
      → IsOfToken knows one → ⊥
  none_after history one more is within (caller, among, same) =
      let number = number_of caller.1 in
      let at = All-contains (IsWithin history there) knows caller (All-from_recursion (IsWithin history there) knows within) among in
      let all : own number history ≡ own number there ++ own number (one ∷ more) = ap (own number) is ∙ own_append number there (one ∷ more) in
      let mine : own number (one ∷ more) ≡ one ∷ own number more =
      own_append number (one ∷ []) more ∙ ap (λ (l : List Seen). l ++ own number more) (own_of_mine number one (sym same)) in
      omega (arith, at, ap length all, length-append (own number there) (own number (one ∷ more)), ap length mine)

  pub nothing_after : (history : List Seen) → StartsWith history there → AllByRecursion (IsWithin history there) knows
      → AllByRecursion (IsOfToken knows) history → history ≡ there
  nothing_after history (more, is) within of = go more is where
    go : (rest : List Seen) → history ≡ there ++ rest → history ≡ there
    go [] same = same ∙ append-nil there
    go (one ∷ rest) same =
        absurd (none_after history one rest same within
        (all_after (IsOfToken knows) there (one ∷ rest) (subst (AllByRecursion (IsOfToken knows)) same of)).0)
