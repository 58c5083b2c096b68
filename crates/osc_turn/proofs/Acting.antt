-- Several steps in a row, as one call makes them.
use Rattle.std.proofs.Common.{MatchBool, ◌≡◌, ◌≢◌, ℕ, ◌+◌, ◌/◌, ◌%◌, ◌<◌, Bool, true, false, List, [], ◌∷◌, ◌++◌, length, sym, refl, ap, ◌∙◌, subst, inr, arith}
use Rattle.std.proofs.Common.{append_assoc, append-nil, length-append}
use Rattle.osc_turn.specs.declared.view.Entry.{Entry}
use Rattle.osc_turn.specs.declared.view.View.{View}
use Rattle.osc_turn.specs.History.{StartsWith, entry, texts, own}
use Rattle.osc_turn.specs.Numbers.{times}
use Rattle.osc_turn.specs.Rule.{number_of, Rests}
use Rattle.osc_turn.specs.Steps.{Grows, found_at, Finds, holding, Takes, given, Gives}
use Rattle.osc_turn.specs.Answers.{TakesOnce, TakesNone, FindsFree, FindsTaken, AddsOwn, KeepsOwn, Ran}
use Rattle.osc_turn.proofs.Histories.{starts_here, starts_on, times_one, own_append, own_of_mine}

-- the view after these words were found, where this was the history at last
abbrev pub looking : View → List Entry → List ℕ → View
looking v log more = record v { seen = log; words = v.words ++ more }

-- words were found, and the history only went on
abbrev pub Waits : View → View → Type 0
Waits v w = (more : List ℕ) × (w ≡ looking v w.seen more) × Grows v w.seen

pub grows_on : (v w : View) (log : List Entry) → w.numbers ≡ v.numbers → Grows v w.seen → Grows w log → Grows v log
grows_on v w log same a b = (starts_on log w.seen v.seen b.0 a.0, λ n p. b.1 n (subst (λ l. 0 < times n l) (sym same) p) ∙ a.1 n p)

pub waits_here : (v : View) → Waits v v
waits_here v = ([], ap (λ ws. record v { words = ws }) (sym (append-nil v.words)), (starts_here v.seen, λ n _. refl))

pub waits_on : (v w w' : View) (r : ℕ) → Waits v w → Finds w r w' → Waits v w'
waits_on v w w' r a b = (
  a.0 ++ r ∷ [],
  b.0 ∙ (ap (λ z. found_at z w'.seen r) a.1 ∙ ap (λ ws. record v { seen = w'.seen; words = ws }) (append_assoc v.words a.0 (r ∷ []))),
  grows_on v w w'.seen (ap (λ z. z.numbers) a.1) a.2 b.1,
)

pub finds_rests : (v w : View) (r : ℕ) → Rests v → Finds v r w → Rests w
finds_rests v w r a b = subst Rests (sym b.0) a

pub waits_rests : (v w : View) → Rests v → Waits v w → Rests w
waits_rests v w a b = subst Rests (sym b.1) a

pub gives_rests : (v w w1 w2 : View) (word : ℕ) (ran : Bool) → Rests v → Waits v w → Takes w word w1 → Gives w1 ran w2 → Rests w2
gives_rests v w w1 w2 word true a b c d =
    subst Rests (sym (d.1 ∙ ap (λ z. given z (w1.seen ++ entry (number_of w1) d.0 ∷ [])) (c.0 ∙ ap (λ z. holding z w1.seen word) b.1)))
    (a.0, a.1, refl, a.3, a.4)
gives_rests v w w1 w2 word false a b c d =
    subst Rests (sym (d ∙ ap (λ z. given z w1.seen) (c.0 ∙ ap (λ z. holding z w1.seen word) b.1))) (a.0, a.1, refl, a.3, a.4)

pub has_one : (v : View) → Rests v → 0 < length v.numbers
has_one v a = omega (arith, ap length a.0)

-- the first pass has the number 0
pub has_first : (v : View) → Rests v → number_of v ≡ 0 → 0 < times 0 v.numbers
has_first v a e = omega (arith, times_one 0 v.numbers (a.0 ∙ ap (λ n. n ∷ []) e))

pub keeps_own : (v : View) (log : List Entry) → Rests v → Grows v log → own (number_of v) log ≡ own (number_of v) v.seen
keeps_own v log a b = b.1 (number_of v) (omega (arith, times_one (number_of v) v.numbers a.0))

-- The turn was taken from a view after waiting and given back: the words found, the list found, and what is seen then.
pub record Acts (v : View) (log : List Entry) (ran : Bool) (w : View) : Type 0 where
  pub more : List ℕ
  pub word : ℕ
  pub view_is : w ≡ record v { seen = w.seen; words = (v.words ++ more) ++ word ∷ []; taken = v.taken + 1 }
  pub grows : Grows v log
  pub counted : length log ≡ word / 2
  pub was_free : word % 2 ≡ 0
  pub added : MatchBool ran ((text : List ℕ) × (w.seen ≡ log ++ entry (number_of v) text ∷ [])) (w.seen ≡ log)

acted : (v w w1 w2 : View) (word : ℕ) (log : List Entry) → v.holds ≡ false → (b : Waits v w) → Takes w word w1 → w2 ≡ given w1 log
    → w2 ≡ record v { seen = w2.seen; words = (v.words ++ b.0) ++ word ∷ []; taken = v.taken + 1 }
acted v w w1 w2 word log free b c d = let e = d ∙ ap (λ z. given z log) (c.0 ∙ ap (λ z. holding z w1.seen word) b.1) in
    e ∙ ap (λ (z : List Entry × Bool). record v { seen = z.0; words = (v.words ++ b.0) ++ word ∷ []; taken = v.taken + 1; holds = z.1 })
    (λ k. (sym (ap (λ (z : View). z.seen) e) k, sym free k))

pub acts : (v w w1 w2 : View) (word : ℕ) (ran : Bool) → Rests v → Waits v w → word % 2 ≡ 0 → Takes w word w1 → Gives w1 ran w2 → Acts v w1.seen ran w2
acts v w w1 w2 word true a b even c d = record {
  more = b.0;
  word = word;
  view_is = acted v w w1 w2 word (w1.seen ++ entry (number_of w1) d.0 ∷ []) a.2 b c d.1;
  grows = grows_on v w w1.seen (ap (λ z. z.numbers) b.1) b.2 c.1;
  counted = c.2;
  was_free = even;
  added = (d.0, ap (λ z. z.seen) d.1 ∙ ap (λ n. w1.seen ++ entry n d.0 ∷ []) (ap number_of (c.0 ∙ ap (λ z. holding z w1.seen word) b.1)));
}
acts v w w1 w2 word false a b even c d = record {
  more = b.0;
  word = word;
  view_is = acted v w w1 w2 word w1.seen a.2 b c d;
  grows = grows_on v w w1.seen (ap (λ z. z.numbers) b.1) b.2 c.1;
  counted = c.2;
  was_free = even;
  added = ap (λ z. z.seen) d;
}

once : (v : View) (log : List Entry) (ran : Bool) (w : View) → Acts v log ran w → TakesOnce v w
once v log ran w a = a.view_is ∙ ap (λ ws. record v { seen = w.seen; words = ws; taken = v.taken + 1 }) (sym (ap (λ (z : View). z.words) a.view_is))

-- own entries are the earlier ones and this one
own_once : (v : View) (log : List Entry) (text : List ℕ) (seen : List Entry) → own (number_of v) log ≡ own (number_of v) v.seen
    → seen ≡ log ++ entry (number_of v) text ∷ []
    → own (number_of v) seen ≡ own (number_of v) v.seen ++ entry (number_of v) text ∷ []
own_once v log text seen same is = let e = entry (number_of v) text in
    ap (own (number_of v)) is
    ∙ (own_append (number_of v) log (e ∷ [])
    ∙ (ap (λ l. l ++ own (number_of v) (e ∷ [])) same ∙ ap (λ l. own (number_of v) v.seen ++ l) (own_of_mine (number_of v) e refl)))

-- the clauses of a call that took the turn
pub record Took {J : Type 0} (did : J → J → List (List ℕ) → List (List ℕ) → Type 0) (old new : J) (ran : Bool) (v w : View) : Type 0 where
  pub seen : StartsWith w.seen v.seen
  pub once : TakesOnce v w
  pub counted : FindsFree ran v w
  pub entries : AddsOwn ran v w
  pub ran_so : Ran did old new ran v w

took : {J : Type 0} (did : J → J → List (List ℕ) → List (List ℕ) → Type 0) (old new : J) (v : View) (log : List Entry) (ran : Bool) (w : View) → Rests v
    → Acts v log ran w → did old new (texts log) (texts w.seen)
    → Took did old new ran v w
took did old new v log true w a b c = let e = entry (number_of v) b.added.0 in record {
  seen = starts_on w.seen log v.seen (e ∷ [], b.added.1) b.grows.0;
  once = once v log true w b;
  counted = (b.more, b.word, ap (λ (z : View). z.words) b.view_is, b.was_free, omega (arith, ap length b.added.1, length-append log (e ∷ []), b.counted));
  entries = (b.added.0, own_once v log b.added.0 w.seen (keeps_own v log a b.grows) b.added.1);
  ran_so = record { found = log; goes_on = b.grows.0; no_other_own = keeps_own v log a b.grows; then_seen = b.added; did_so = c };
}
took did old new v log false w a b c = record {
  seen = subst (λ l. StartsWith l v.seen) (sym b.added) b.grows.0;
  once = once v log false w b;
  counted = (b.more, b.word, ap (λ (z : View). z.words) b.view_is, b.was_free, omega (arith, ap length b.added, b.counted));
  entries = ap (own (number_of v)) b.added ∙ keeps_own v log a b.grows;
  ran_so = record { found = log; goes_on = b.grows.0; no_other_own = keeps_own v log a b.grows; then_seen = b.added; did_so = c };
}

-- a call waited, took the turn, ran its job and gave the turn back, and its pass is then `z`
pub took_turn : {J : Type 0} (did : J → J → List (List ℕ) → List (List ℕ) → Type 0) (old new : J) (v w w1 w2 z : View) (word : ℕ) (ran : Bool) → Rests v
    → Waits v w → word % 2 ≡ 0 → Takes w word w1 → Gives w1 ran w2 → z ≡ w2
    → did old new (texts w1.seen) (texts w2.seen) → Took did old new ran v z
took_turn did old new v w w1 w2 z word ran a b even c d is e =
    subst (Took did old new ran v) (sym is) (took did old new v w1.seen ran w2 a (acts v w w1 w2 word ran a b even c d) e)

-- the clauses of a call that did not take the turn
pub waits_none : (v w : View) → Waits v w → TakesNone v w
waits_none v w a = a.1 ∙ ap (λ ws. record v { seen = w.seen; words = ws }) (sym (ap (λ (z : View). z.words) a.1))

pub waits_own : (v w : View) → Rests v → Waits v w → KeepsOwn v w
waits_own v w a b = keeps_own v w.seen a b.2

pub taken_then : (v w w' : View) (first found : ℕ) → Finds v first w → first % 2 ≡ 0 → Finds w found w' → found ≢ first → FindsTaken found v w'
taken_then v w w' first found a even b other = let more = b.1.0 in
    inr (
      first,
      ap (λ (z : View). z.words) b.0 ∙ (ap (λ (z : View). z.words ++ found ∷ []) a.0 ∙ append_assoc v.words (first ∷ []) (found ∷ [])),
      even,
      let l = a.2 in let l' = b.2 in let longer = ap length more.1 in omega (arith, length-append w.seen more.0),
    )
