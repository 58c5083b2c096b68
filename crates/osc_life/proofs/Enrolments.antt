-- What stands before all lanes: the enrolments, and nothing else.
use Rattle.std.proofs.Common.{◌≡◌, ◌≢◌, ◌⊎◌, inl, inr, ℕ, zero, suc, ◌+◌, ◌≤◌, Bool, true, false, cond, eqb, List, [], ◌∷◌, ◌++◌, get_or, All, Contains}
use Rattle.std.proofs.Common.{refl, sym, ap, subst, ◌∙◌, arith, eq-eqb}
use Rattle.std.specs.List.{AllByRecursion}
use Rattle.std.proofs.lemmas.List.Elements.{All-nil, All-cons, All-contains, All-from_recursion, recursion_from_All}
use Rattle.osc_model.specs.Limits.{Limits}
use Rattle.osc_model.specs.Events.{Entry}
use Rattle.osc_model.specs.Heard.{Told}
use Rattle.osc_laws.proofs.Members.{head_or_behind}
use Rattle.osc_turn.specs.declared.view.Entry.{Entry as Seen}
use Rattle.osc_turn.specs.declared.view.View.{View}
use Rattle.osc_turn.specs.History.{StartsWith, entries_of, own}
use Rattle.osc_turn.specs.Rule.{number_of}
use Rattle.osc_turn.specs.Passes.{view}
use Rattle.osc_live.specs.declared.caller.Caller.{Caller}
use Rattle.osc_live.specs.Seen.{names}
use Rattle.osc_live.specs.Closing.{known, IsOfFirst, IsOfCaller, Closes}
use Rattle.osc_model.proofs.Calls.{all_append}
use Rattle.osc_life.specs.Crews.{names_of, same_names, IsCrewFrom}

-- a history with no own entries of a number names it nowhere
pub none_named : (number : ℕ) (history : List Seen) → own number history ≡ [] → All (λ one. one.number ≢ number) history
none_named number [] none = All-nil (λ (one : Seen). one.number ≢ number)
none_named number (one ∷ history) none = go (eqb one.number number) refl none (λ rest. none_named number history rest) where
  go : (t : Bool) → eqb one.number number ≡ t → cond t (one ∷ own number history) (own number history) ≡ []
      → (own number history ≡ [] → All (λ other. other.number ≢ number) history) → All (λ other. other.number ≢ number) (one ∷ history)
  go true is none rest = absurd (cc)
  go false is none rest =
      All-cons (λ (other : Seen). other.number ≢ number) one history
      (λ same. let yes = eq-eqb one.number number same in absurd (cc)) (rest none)

-- where all entries are of a number, they are its own
pub all_own : (number : ℕ) (history : List Seen) → AllByRecursion (λ one. one.number ≡ number) history → own number history ≡ history
all_own number [] all = refl
all_own number (one ∷ history) all =
    ap (λ t. cond t (one ∷ own number history) (own number history)) (eq-eqb one.number number all.0)
    ∙ ap (λ (l : List Seen). one ∷ l) (all_own number history all.1)

pub all_before : {X : Type 0} (P : X → Type 0) (xs ys zs : List X) → zs ≡ xs ++ ys → AllByRecursion P zs → AllByRecursion P xs
all_before P xs ys zs is all = go xs (subst (AllByRecursion P) is all) where
  go : (us : List _) → AllByRecursion P (us ++ ys) → AllByRecursion P us
  go [] all = tt
  go (u ∷ us) all = (all.0, go us all.1)

-- the entry is one of a token's
abbrev pub IsOfToken : List (ℕ × View) → Seen → Type 0
IsOfToken callers one = (caller : ℕ × View) × Contains callers caller × (number_of caller.1 ≡ one.number)

of_first : (callers : List (ℕ × View)) (one : Seen) → IsOfFirst callers one → IsOfToken callers one
of_first callers one (caller, there, same, zero_is) = (caller, there, same)

of_caller : (callers : List (ℕ × View)) (one : Seen) → IsOfCaller callers one → IsOfToken callers one
of_caller callers one (caller, there, same, named) = (caller, there, same)

-- each entry of a server that is closed is one of a token's
pub all_of_tokens : {caps : Limits} {past : List (List ℕ)} {callers : List (ℕ × View)} {views : List View} {bytes : List ℕ} {kept : List Told}
    (closes : Closes caps past callers views bytes kept) → AllByRecursion (IsOfToken callers) closes.history
all_of_tokens {past = past} {callers = callers} closes =
    subst (AllByRecursion (IsOfToken callers)) (sym closes.begins)
    (all_append (IsOfToken callers) (entries_of past) closes.since
    (recursion_from_All (IsOfToken callers) (entries_of past) (λ k d within. of_first callers (get_or (entries_of past) k d) (closes.first k d within)))
    (recursion_from_All (IsOfToken callers) closes.since (λ k d within. of_caller callers (get_or closes.since k d) (closes.named k d within))))

-- where each entry is of one of these tokens, and no token but the first has entries, all are the first's
pub only_first : (first : ℕ × View) (others : List (ℕ × View)) (seen : List Seen) → number_of first.1 ≡ 0
    → AllByRecursion (λ other. own (number_of other.1) seen ≡ []) others → AllByRecursion (IsOfToken (first ∷ others)) seen
    → own 0 seen ≡ seen
only_first first others seen zero_is none of =
    all_own 0 seen
    (recursion_from_All (λ one. one.number ≡ 0) seen
    (λ k d within. go (get_or seen k d) (λ number empty. none_named number seen empty k d within)
    (All-from_recursion (IsOfToken (first ∷ others)) seen of k d within)))
  where
    go : (one : Seen) → ((number : ℕ) → own number seen ≡ [] → one.number ≢ number) → IsOfToken (first ∷ others) one → one.number ≡ 0
    go one off (caller, there, same) = cases (head_or_behind first caller others there) where
      cases : (first ≡ caller) ⊎ Contains others caller → one.number ≡ 0
      cases (inl is) = sym same ∙ (ap (λ (c : ℕ × View). number_of c.1) (sym is) ∙ zero_is)
      cases (inr later) =
          absurd (off (number_of caller.1)
          (All-contains (λ (other : ℕ × View). own (number_of other.1) seen ≡ []) others caller
          (All-from_recursion (λ (other : ℕ × View). own (number_of other.1) seen ≡ []) others none) later) (sym same))

-- the caller has its token's number, which is one of the first so many
abbrev pub IsNamed : ℕ → ℕ × View → Type 0
IsNamed count caller = (caller.0 ≡ number_of caller.1) × (number_of caller.1 ≤ count)

pub all_named : (first count most : ℕ) (callers : List Caller) → names_of callers ≡ same_names first count → first + count ≤ suc most
    → AllByRecursion (IsNamed most) (known callers)
all_named first count most [] are few = tt
all_named first zero most (caller ∷ callers) are few = absurd (cc)
all_named first (suc count) most (caller ∷ callers) are few =
    let head : ◌≡◌ {A = ℕ × ℕ} (caller.number, number_of (view caller.pass)) (first, first) = cc in
    let rest : names_of callers ≡ same_names (first + 1) count = cc in
    let number : caller.number ≡ first = ap (λ (p : ℕ × ℕ). p.0) head in
    let token : number_of (view caller.pass) ≡ first = ap (λ (p : ℕ × ℕ). p.1) head in
    ((number ∙ sym token, omega (arith, token)), all_named (first + 1) count most callers rest (omega arith))

module _ (caps : Limits) (start : List Entry) (v : View) (callers : List Caller) (next made : ℕ) (crew : IsCrewFrom next start made v callers)
    (history : List Seen) where
  -- all that caller 0 has seen is its own
  pub alone_from : (first : ℕ × View) (others : List Caller) → number_of first.1 ≡ 0
      → AllByRecursion (λ other. own (number_of other.1) v.seen ≡ []) (known others)
      → StartsWith history v.seen → AllByRecursion (IsOfToken (first ∷ known others)) history → own 0 v.seen ≡ v.seen
  alone_from first others zero_is none starts of =
      only_first first (known others) v.seen zero_is none
      (all_before (IsOfToken (first ∷ known others)) v.seen starts.0 history starts.1 of)

  -- each entry is of the caller whose number its token has
  pub each_named : (count : ℕ) (knows : List (ℕ × View)) → AllByRecursion (IsNamed count) knows → (one : Seen) → IsOfCaller knows one
      → (names one.number one ≡ true) × (one.number ≤ count)
  each_named count knows all one (caller, there, same, named) =
      let is = All-contains (IsNamed count) knows caller (All-from_recursion (IsNamed count) knows all) there in
      (subst (λ (n : ℕ). names n one ≡ true) (is.0 ∙ same) named, omega (arith, is.1, same))
