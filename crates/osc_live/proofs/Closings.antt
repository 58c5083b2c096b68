-- The history of a server that is closed.
use Rattle.std.proofs.Common.{◌≡◌, ℕ, zero, suc, ◌+◌, ◌<◌, ◌==◌, Bool, true, false, cond, ◌&&◌, List, [], ◌∷◌, ◌++◌, length, map, drop, get_or, All, Contains}
use Rattle.std.proofs.Common.{inl}
use Rattle.std.proofs.Common.{inr, ◌⊎◌, refl, sym, ap, subst, ◌∙◌, arith, eq-eqb, ne_eqb}
use Rattle.std.specs.List.{list_all, insert}
use Rattle.std.proofs.lemmas.Bool.{eqb-true}
use Rattle.std.proofs.lemmas.List.Elements.{All-contains, All-append, All-cons, All-map, Contains-append_cases, Contains-get_or}
use Rattle.osc_turn.specs.declared.pass.Pass.{Pass}
use Rattle.osc_turn.specs.declared.view.Entry.{Entry as Seen}
use Rattle.std.proofs.lemmas.List.{map-append}
use Rattle.std.proofs.lemmas.Simd.{map-map}
use Rattle.osc_tree.proofs.Lists.{contains_later}
use Rattle.osc_turn.specs.declared.turn.Turn.{Turn}
use Rattle.osc_turn.specs.declared.view.View.{View}
use Rattle.osc_turn.specs.History.{StartsWith, entry, entries_of, texts, own}
use Rattle.osc_turn.specs.Numbers.{times}
use Rattle.osc_turn.specs.Rule.{number_of}
use Rattle.osc_turn.specs.Passes.{view, IsPassOf}
use Rattle.osc_turn.proofs.Histories.{own_append, own_of_mine, own_of_other}
use Rattle.osc_turn.specs.Closing.{Carries, IsOwnOfOne}
use Rattle.osc_turn.specs.Closing as turn
use Rattle.osc_model.specs.Limits.{Limits}
use Rattle.osc_model.specs.Recordings.{header_text, record_text}
use Rattle.osc_model.specs.Heard.{Told}
use Rattle.osc_model.specs.History.{Legal, Performance, HaveHeard}
use Rattle.osc_laws.specs.Laws.{KeepsTheLaws}
use Rattle.osc_laws.proofs.Members.{none_in, sent, sent_from}
use Rattle.osc_core.specs.Standing.{history_in, AreMarked, StandsFor}
use Rattle.osc_live.specs.declared.caller.Caller.{Caller}
use Rattle.osc_live.specs.declared.guest.Guest.{Guest}
use Rattle.osc_live.specs.Seen.{names, old_own, own_since, performance_in, IsTokenOf}
use Rattle.osc_live.specs.Closing.{known, views_of, StartsAtZero, IsOfFirst, IsOfCaller, Closes}

-- a number that stands among those of passes is a pass's
times_in : (n : ℕ) (passes : List Pass) → 0 < times n (map turn.number passes) → (p : Pass) × Contains passes p × (turn.number p ≡ n)
times_in n [] some = absurd (omega arith)
times_in n (p ∷ passes) some = go (turn.number p == n) refl some (times_in n passes) where
  go : (t : Bool) → (turn.number p == n) ≡ t → 0 < cond t 1 0 + times n (map turn.number passes)
      → (0 < times n (map turn.number passes) → (q : Pass) × Contains passes q × (turn.number q ≡ n))
      → (q : Pass) × Contains (p ∷ passes) q × (turn.number q ≡ n)
  go true is some more = (p, (0, omega arith, refl), eqb-true (turn.number p) n is)
  go false is some more = let found = more (omega arith) in (found.0, contains_later found.0 p passes found.1, found.2)

own_holds : (history : List Seen) (one : Seen) → Contains history one → Contains (own one.number history) one
own_holds [] one (k, within, is) = absurd (omega arith)
own_holds (first ∷ history) one (zero, within, is) =
    subst (λ (t : Bool). Contains (cond t (first ∷ own one.number history) (own one.number history)) one)
    (sym (eq-eqb first.number one.number (ap (λ (e : Seen). e.number) is))) (0, omega arith, is)
own_holds (first ∷ history) one (suc k, within, is) = go (first.number == one.number) (own_holds history one (k, omega arith, is)) where
  go : (t : Bool) → Contains (own one.number history) one → Contains (cond t (first ∷ own one.number history) (own one.number history)) one
  go true there = contains_later one first (own one.number history) there
  go false there = there

all_hold : (p : Seen → Bool) (xs : List Seen) (x : Seen) → list_all p xs ≡ true → Contains xs x → p x ≡ true
all_hold p [] x all (k, within, is) = absurd (omega arith)
all_hold p (y ∷ xs) x all there = go (p y) refl all there (all_hold p xs x) where
  go : (t : Bool) → p y ≡ t → (t && list_all p xs) ≡ true → Contains (y ∷ xs) x → (list_all p xs ≡ true → Contains xs x → p x ≡ true) → p x ≡ true
  go true one all (zero, within, is) rest = sym (ap p is) ∙ one
  go true one all (suc k, within, is) rest = rest all (k, omega arith, is)
  go false one all there rest = absurd (cc)

abbrev passes_of : List Caller → List Guest → List Pass
passes_of callers guests = map (λ (caller : Caller). caller.pass) callers ++ map (λ (guest : Guest). guest.pass) guests

-- The entries that were there when the turn was opened are the first pass's.

pub own_first : (opened : List (List ℕ)) → own 0 (entries_of opened) ≡ entries_of opened
own_first [] = refl
own_first (text ∷ opened) =
    own_append 0 (entry 0 text ∷ []) (entries_of opened)
    ∙ (ap (λ (l : List Seen). l ++ own 0 (entries_of opened)) (own_of_mine 0 (entry 0 text) refl) ∙ ap (λ (l : List Seen). entry 0 text ∷ l) (own_first opened))

own_none : (n : ℕ) (opened : List (List ℕ)) → own (suc n) (entries_of opened) ≡ []
own_none n [] = refl
own_none n (text ∷ opened) =
    own_append (suc n) (entry 0 text ∷ []) (entries_of opened)
    ∙ (ap (λ (l : List Seen). l ++ own (suc n) (entries_of opened)) (own_of_other (suc n) (entry 0 text) (λ (e : 0 ≡ suc n). omega arith)) ∙ own_none n opened)

behind_entries : (opened : List (List ℕ)) (since : List Seen) → drop (length opened) (entries_of opened ++ since) ≡ since
behind_entries [] since = refl
behind_entries (text ∷ opened) since = behind_entries opened since

pub own_later : (n : ℕ) (opened : List (List ℕ)) (since : List Seen) → drop (cond (n == 0) (length opened) 0) (own n (entries_of opened ++ since)) ≡ own n since
own_later zero opened since =
    let is : (zero == 0) ≡ true = eq-eqb zero 0 refl in
    (λ i. drop (cond (is i) (length opened) 0) (own 0 (entries_of opened ++ since)))
    ∙ (ap (drop (length opened)) (own_append 0 (entries_of opened) since ∙ ap (λ (l : List Seen). l ++ own 0 since) (own_first opened))
    ∙ behind_entries opened (own 0 since))
own_later (suc n) opened since =
    let other : (suc n == 0) ≡ false = ne_eqb (suc n) 0 (λ (e : suc n ≡ 0). omega arith) in
    (λ i. drop (cond (other i) (length opened) 0) (own (suc n) (entries_of opened ++ since)))
    ∙ (own_append (suc n) (entries_of opened) since ∙ ap (λ (l : List Seen). l ++ own (suc n) since) (own_none n opened))

-- each pass knows how many they are
abbrev pub AreAlike : List (List ℕ) → List Pass → Type 0
AreAlike opened passes = All (λ (p : Pass). (view p).opened_at ≡ length opened) passes

pub alike : {S : Type 0} (turn_of : Turn S) (opened : List (List ℕ)) (passes : List Pass) → All (IsPassOf turn_of) passes
    → 0 < length passes → (turn.first_view passes).opened_at ≡ length opened → AreAlike opened passes
alike turn_of opened [] ours some first = absurd (omega arith)
alike turn_of opened (p ∷ passes) ours some first = λ k d within.
    let here : (view (get_or (p ∷ passes) k d)).opened_at ≡ turn_of.table.shared.key.value.1 = (ours k d within).1 in
    let there : (view p).opened_at ≡ turn_of.table.shared.key.value.1 = (ours 0 p (omega arith)).1 in
    here ∙ (sym there ∙ first)

since_of : (opened : List (List ℕ)) (history since : List Seen) (v : View) → history ≡ entries_of opened ++ since → v.opened_at ≡ length opened
    → own (number_of v) history ≡ own (number_of v) v.seen → own_since v ≡ own (number_of v) since
since_of opened history since v begins count mine =
    (λ i. drop (cond (number_of v == 0) (count i) 0) (sym mine i))
    ∙ ap (λ (l : List Seen). drop (cond (number_of v == 0) (length opened) 0) (own (number_of v) l)) begins
    ∙ own_later (number_of v) opened since

none_since : (v : View) → own (number_of v) v.seen ≡ [] → own_since v ≡ []
none_since v none = go (old_own v) (own (number_of v) v.seen) none where
  go : (k : ℕ) (xs : List Seen) → xs ≡ [] → drop k xs ≡ []
  go zero xs e = e
  go (suc k) [] e = refl
  go (suc k) (x ∷ xs) e = absurd (cc)

-- they are of caller 0's token
first_of : (callers : List Caller) (opened : List (List ℕ)) → StartsAtZero callers → All (IsOfFirst (known callers)) (entries_of opened)
first_of [] opened none = absurd none
first_of (caller ∷ callers) opened is =
    All-map (IsOfFirst (known (caller ∷ callers))) (entry 0) opened
    (λ k d within. ((caller.number, view caller.pass), (0, omega arith, refl), caller.first is, is))

-- each entry since then is a caller's, and names it
named : (callers : List Caller) (guests : List Guest) (opened : List (List ℕ)) (history since : List Seen) → history ≡ entries_of opened ++ since
    → AreAlike opened (passes_of callers guests) → All (Carries history) (passes_of callers guests)
    → All (IsOwnOfOne (passes_of callers guests)) since → All (IsOfCaller (known callers)) since
named callers guests opened history since begins counts carried once k d within =
    go (times_in one.number (passes_of callers guests) (omega (arith, once k d within))) where
      one : Seen
      one = get_or since k d

      here : Contains since one
      here = Contains-get_or since k d within

      go : (p : Pass) × Contains (passes_of callers guests) p × (turn.number p ≡ one.number) → IsOfCaller (known callers) one
      go (p, there, same) =
          cases (Contains-append_cases (map (λ (caller : Caller). caller.pass) callers) (map (λ (guest : Guest). guest.pass) guests) p there) where
            mine : own (turn.number p) history ≡ own (turn.number p) (view p).seen
            mine = (All-contains (Carries history) (passes_of callers guests) p carried there).1

            held : Contains (own_since (view p)) one
            held = subst (λ (l : List Seen). Contains l one)
                (sym (since_of opened history since (view p) begins
                (All-contains (λ (q : Pass). (view q).opened_at ≡ length opened) (passes_of callers guests) p counts there) mine))
                (subst (λ (n : ℕ). Contains (own n since) one) (sym same) (own_holds since one here))

            cases : Contains (map (λ (caller : Caller). caller.pass) callers) p ⊎ Contains (map (λ (guest : Guest). guest.pass) guests) p
                → IsOfCaller (known callers) one
            cases (inl caller) =
                let found = sent_from (λ (caller : Caller). caller.pass) callers p caller in
                let c : Caller = found.0 in (
                  (c.number, view c.pass),
                  sent (λ (caller : Caller). (caller.number, view caller.pass)) callers c found.1,
                  ap (λ (q : Pass). turn.number q) found.2 ∙ same,
                  all_hold (names c.number) (own_since (view c.pass)) one c.named
                      (subst (λ (q : Pass). Contains (own_since (view q)) one) (sym found.2) held),
                )
            cases (inr guest) =
                let found = sent_from (λ (guest : Guest). guest.pass) guests p guest in
                absurd (none_in one
                (subst (λ (l : List Seen). Contains l one) (none_since (view found.0.pass) found.0.none_own)
                (subst (λ (q : Pass). Contains (own_since (view q)) one) (sym found.2) held)))

views_same : (callers : List Caller) (guests : List Guest) → map view (passes_of callers guests) ≡ views_of callers guests
views_same callers guests =
    map-append view (map (λ (caller : Caller). caller.pass) callers) (map (λ (guest : Guest). guest.pass) guests)
    ∙ (λ i. map-map view (λ (caller : Caller). caller.pass) callers i ++ map-map view (λ (guest : Guest). guest.pass) guests i)

numbers_same : (passes : List Pass) → map turn.number passes ≡ map number_of (map view passes)
numbers_same [] = refl
numbers_same (p ∷ passes) = ap (λ (l : List ℕ). turn.number p ∷ l) (numbers_same passes)

All-behind : {X : Type 0} (P : X → Type 0) (xs ys : List X) → All P (xs ++ ys) → All P ys
All-behind P [] ys all = all
All-behind P (x ∷ xs) ys all = All-behind P xs ys (λ k d within. all (suc k) d (omega arith))

pub closes : (caps : Limits) (performance : Performance) (boxes kept : List Told) (bytes : List ℕ) (callers : List Caller) (guests : List Guest)
    (passes : List Pass) (opened : List (List ℕ)) (history since : List Seen) → passes ≡ passes_of callers guests → StandsFor performance boxes (texts history)
    → performance.caps ≡ caps → history ≡ entries_of opened ++ since → AreAlike opened passes → StartsAtZero callers
    → All (Carries history) passes → All (IsOwnOfOne passes) history → bytes ≡ record_text performance.caps performance.history
    → KeepsTheLaws performance.caps performance.history → kept ≡ boxes → Closes caps opened (known callers) (views_of callers guests) bytes kept
closes caps performance boxes kept bytes callers guests passes opened history since all stands limits begins counts starts carried once recorded laws
    is = record {
      history = history;
      since = since;
      begins = begins;
      legal = subst (λ (l : Limits). Legal l (history_in (texts history))) limits (subst (Legal performance.caps) (sym stands.read) stands.legal);
      laws = subst (λ (l : Limits). KeepsTheLaws l (history_in (texts history))) limits (subst (KeepsTheLaws performance.caps) (sym stands.read) laws);
      recorded = recorded ∙ (λ i. record_text (limits i) (sym stands.read i));
      carried = subst (λ (l : List View). All (λ v. StartsWith history v.seen) l) (ap (map view) all ∙ views_same callers guests)
          (All-map (λ (v : View). StartsWith history v.seen) view passes (λ k d within. (carried k d within).0));
      owned = subst (λ (l : List View). All (λ v. own (number_of v) history ≡ own (number_of v) v.seen) l) (ap (map view) all ∙ views_same callers guests)
          (All-map (λ (v : View). own (number_of v) history ≡ own (number_of v) v.seen) view passes (λ k d within. (carried k d within).1));
      each_once = λ k d within. ap (λ (l : List ℕ). times (get_or history k d).number l)
          (sym (numbers_same passes ∙ ap (map number_of) (ap (map view) all ∙ views_same callers guests))) ∙ once k d within;
      first = first_of callers opened starts;
      named = named callers guests opened history since begins (subst (AreAlike opened) all counts) (subst (All (Carries history)) all carried)
          (All-behind (IsOwnOfOne (passes_of callers guests)) (entries_of opened) since
          (subst (λ (l : List Seen). All (IsOwnOfOne (passes_of callers guests)) l) begins (subst (λ (l : List Pass). All (IsOwnOfOne l) history) all once)));
      heard = subst (HaveHeard (performance_in caps (texts history))) (sym is) (subst (λ (p : Performance). HaveHeard p boxes) whole stands.heard);
      marked = subst (λ (l : List Told). AreMarked (texts history) l) (sym is) stands.marked;
    }
  where
    whole : performance ≡ performance_in caps (texts history)
    whole = λ i. record { caps = limits i; history = sym stands.read i }

-- The first token was looked at, and came back.

pub still_known : (callers others : List Caller) (one back : Caller) → callers ≡ one ∷ others → back.number ≡ one.number → view back.pass ≡ view one.pass
    → known (back ∷ others) ≡ known callers
still_known callers others one back is number same = (λ i. (number i, same i) ∷ known others) ∙ ap known (sym is)

pub still_viewed : (callers others : List Caller) (guests : List Guest) (one back : Caller) → callers ≡ one ∷ others → view back.pass ≡ view one.pass
    → views_of (back ∷ others) guests ≡ views_of callers guests
still_viewed callers others guests one back is same = (λ i. same i ∷ views_of others guests) ∙ ap (λ (l : List Caller). views_of l guests) (sym is)

pub all_ours : {S : Type 0} (turn_of : Turn S) (caps : Limits) (callers others : List Caller) (one back : Caller) (guests : List Guest) (passes : List Pass)
    → callers ≡ one ∷ others → All (λ caller. IsTokenOf turn_of caps caller.pass) callers → All (λ guest. IsTokenOf turn_of caps guest.pass) guests
    → IsPassOf turn_of back.pass → passes ≡ passes_of (back ∷ others) guests → All (IsPassOf turn_of) passes
all_ours turn_of caps callers others one back guests passes is ours these first all =
    let rest = subst (λ (l : List Caller). All (λ caller. IsTokenOf turn_of caps caller.pass) l) is ours in
    subst (All (IsPassOf turn_of)) (sym all)
    (All-append (IsPassOf turn_of) (map (λ (caller : Caller). caller.pass) (back ∷ others)) (map (λ (guest : Guest). guest.pass) guests)
    (All-cons (IsPassOf turn_of) back.pass (map (λ (caller : Caller). caller.pass) others) first
    (All-map (IsPassOf turn_of) (λ (caller : Caller). caller.pass) others (λ k d within. (rest (suc k) d (omega arith)).0)))
    (All-map (IsPassOf turn_of) (λ (guest : Guest). guest.pass) guests (λ k d within. (these k d within).0)))

pub some_first : (callers : List Caller) → StartsAtZero callers → 0 < length callers
some_first [] none = absurd none
some_first (caller ∷ callers) is = omega arith

pub inserted_first : {X : Type 0} (xs : List X) (x : X) → insert xs 0 x ≡ x ∷ xs
inserted_first [] x = refl
inserted_first (y ∷ xs) x = refl

pub handed : (start between all : List Pass) (again others : List Caller) (back : Caller) (guests : List Guest) → start ≡ [] → again ≡ insert others 0 back
    → between ≡ start ++ map (λ (caller : Caller). caller.pass) again → all ≡ between ++ map (λ (guest : Guest). guest.pass) guests
    → all ≡ passes_of (back ∷ others) guests
handed start between all again others back guests none inserted first then =
    then ∙ ap (λ (l : List Pass). l ++ map (λ (guest : Guest). guest.pass) guests)
    (first ∙ (λ i. none i ++ map (λ (caller : Caller). caller.pass) ((inserted ∙ inserted_first others back) i)))

-- the kind of the value is the header of the limits
pub kind_is : {S : Type 0} (turn_of : Turn S) (caps : Limits) (kind : List ℕ) (callers others : List Caller) (one back : Caller) (guests : List Guest)
    (passes : List Pass) → callers ≡ one ∷ others → All (λ caller. IsTokenOf turn_of caps caller.pass) callers → view back.pass ≡ view one.pass
    → passes ≡ passes_of (back ∷ others) guests → kind ≡ (turn.first_view passes).kind → kind ≡ header_text caps
kind_is turn_of caps kind callers others one back guests passes is ours same all kinds =
    kinds ∙ ap (λ (l : List Pass). (turn.first_view l).kind) all ∙ ap (λ (v : View). v.kind) same
    ∙ (subst (λ (l : List Caller). All (λ caller. IsTokenOf turn_of caps caller.pass) l) is ours 0 one (omega arith)).1

pub closes_still : (caps : Limits) (opened : List (List ℕ)) (callers others : List Caller) (one back : Caller) (guests : List Guest) (bytes : List ℕ)
    (kept : List Told) → callers ≡ one ∷ others → back.number ≡ one.number → view back.pass ≡ view one.pass
    → Closes caps opened (known (back ∷ others)) (views_of (back ∷ others) guests) bytes kept
    → Closes caps opened (known callers) (views_of callers guests) bytes kept
closes_still caps opened callers others one back guests bytes kept is number same closed =
    subst (λ (l : List (ℕ × View)). Closes caps opened l (views_of callers guests) bytes kept) (still_known callers others one back is number same)
    (subst (λ (l : List View). Closes caps opened (known (back ∷ others)) l bytes kept) (still_viewed callers others guests one back is same) closed)

pub starts_still : (callers others : List Caller) (one back : Caller) → callers ≡ one ∷ others → back.number ≡ one.number → StartsAtZero callers
    → StartsAtZero (back ∷ others)
starts_still callers others one back is number starts = number ∙ subst StartsAtZero is starts
