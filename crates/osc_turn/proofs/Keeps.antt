-- Each step of the turn keeps its rule.
use Rattle.std.proofs.Common.{◌≡◌, ◌≢◌, ℕ, zero, suc, ◌+◌, ◌*◌, ◌/◌, ◌%◌, ◌<◌, ◌≤◌, eqb, true, List, [], ◌∷◌, ◌++◌, length, get_or, set, sym, refl, ap, ◌∙◌}
use Rattle.std.proofs.Common.{subst, inr, ⊎_elim, arith, append-nil, length-append, length-set, get_or-set_other, get_or-set_same, Option, Some, None}
use mathlib.Core.Option.{some, none, some-injective, some-ne-none}
use mathlib.Core.Option as maybe
use mathlib.Core.Logic.{dite}
use native.Mathlib.Decide.{ℕ_discrete}
use lib.ListN.{get_elem?}
use lib.Seq.{set-get_or}
use prog.Atomic.{either}
use Rattle.atomic_table.specs.Table.{State, Me, keeps, takes, gives, stepped, Allows, Act, Valid, put_back, rest, carried_after}
use Rattle.atomic_table.proofs.Lists.{set_else, exchanged}
use Rattle.osc_turn.specs.declared.view.Entry.{Entry}
use Rattle.osc_turn.specs.declared.view.View.{View}
use Rattle.osc_turn.specs.History.{StartsWith, entry, entries_of, texts, own}
use Rattle.osc_turn.specs.Numbers.{weigh, only, times, numbers_of}
use Rattle.osc_turn.specs.Rule.{number_of, Rests, Fits, Standing, Turns}
use Rattle.osc_turn.specs.Steps.{found_at, Finds, holding, given, Looks, Tries, GivesEntry, GivesBack, Has}
use Rattle.osc_turn.proofs.Histories.{starts_here, starts_on, texts_append, own_append, own_of_other, weigh_append, total_set, total_at, total_two, none_below}
use Rattle.osc_turn.proofs.Histories.{one_below, times_one, views_stay}

abbrev pub IsOne : View → Type 0
IsOne v = v.numbers ≡ number_of v ∷ []

pub here : (views : List View) (i : ℕ) (v w : View) → get_elem? views i ≡ some v → get_elem? (set views i w) i ≡ some w
here [] i v w e = absurd (some-ne-none v (sym e))
here (x ∷ xs) zero v w e = refl
here (x ∷ xs) (suc i) v w e = here xs i v w e

-- a view with a number is not spent
pub lives : (log : List Entry) (kind : List ℕ × ℕ) (t d : ℕ) (v : View) → Fits log kind t d v → 0 < length v.numbers → (v.kind, v.opened_at) ≡ kind
lives log kind t d v f some_number = ⊎_elim (λ e. absurd (let z = ap (λ (u : View). length u.numbers) e in omega arith)) (λ k. k) f.alike

pub alive : (log : List Entry) (kind : List ℕ × ℕ) (t d : ℕ) (v : View) → Fits log kind t d v → IsOne v → (v.kind, v.opened_at) ≡ kind
alive log kind t d v f one = lives log kind t d v f (omega (arith, ap length one))

-- whoever holds the turn still does, where a view changes otherwise
pub still_held : (views : List View) (i : ℕ) (v w : View) (holder : ℕ) → get_elem? views i ≡ some v → w.holds ≡ v.holds
    → (u : View) × (get_elem? views holder ≡ some u) × (u.holds ≡ true)
    → (u : View) × (get_elem? (set views i w) holder ≡ some u) × (u.holds ≡ true)
still_held views i v w holder at same h = dite (ℕ_discrete holder i)
    (λ e. let same_view : h.0 ≡ v = some-injective h.0 v (sym h.1 ∙ (ap (get_elem? views) e ∙ at)) in
    (w, ap (get_elem? (set views i w)) e ∙ here views i v w at, same ∙ (sym (ap (λ (u : View). u.holds) same_view) ∙ h.2)))
    (λ other. (h.0, set_else views i holder w other ∙ h.1, h.2))

pub found_fits : (log : List Entry) (kind : List ℕ × ℕ) (t d r : ℕ) (v : View) → Fits log kind t d v → IsOne v → Fits log kind t d (found_at v log r)
found_fits log kind t d r v f one = record {
  seen = starts_here log;
  own_seen = λ n _. refl;
  fresh = f.fresh;
  holder = λ h. let o = f.holder h in (o.0, refl, o.2, o.3);
  olds = λ k a e. starts_on log v.seen a.seen f.seen (f.olds k a e);
  covers = f.covers;
  first = f.first;
  later = f.later;
  alike = inr (alive log kind t d v f one);
}

-- a view that does not hold the turn, when the turn changes hands
pub fits_other : (log : List Entry) (kind : List ℕ × ℕ) (t t' d : ℕ) (v : View) → Fits log kind t d v → (v.holds ≡ true → ⊥) → Fits log kind t' d v
fits_other log kind t t' d v f free = record {
  seen = f.seen;
  own_seen = f.own_seen;
  fresh = f.fresh;
  holder = λ h. absurd (free h);
  olds = f.olds;
  covers = f.covers;
  first = f.first;
  later = f.later;
  alike = f.alike;
}

-- a view that has none of the numbers of what is added to the history
pub fits_longer : (log added : List Entry) (kind : List ℕ × ℕ) (t t' d : ℕ) (v : View) → Fits log kind t d v → (v.holds ≡ true → ⊥)
    → ((n : ℕ) → 0 < times n (numbers_of v) → own n added ≡ []) → Fits (log ++ added) kind t' d v
fits_longer log added kind t t' d v f free others = record {
  seen = starts_on (log ++ added) log v.seen (added, refl) f.seen;
  own_seen = λ n p. f.own_seen n p ∙ sym (stays n (omega (arith, weigh_append (only n) v.numbers v.spare)));
  fresh = λ n p. stays n (omega (arith, weigh_append (only n) v.numbers v.spare)) ∙ f.fresh n p;
  holder = λ h. absurd (free h);
  olds = f.olds;
  covers = f.covers;
  first = f.first;
  later = f.later;
  alike = f.alike;
}
  where
    stays : (n : ℕ) → 0 < times n (numbers_of v) → own n (log ++ added) ≡ own n log
    stays n p = own_append n log added ∙ (ap (λ l. own n log ++ l) (others n p) ∙ append-nil (own n log))

module _ {S : Type 0} (stands : S → List (List ℕ) → Type 0) (kind_of : S → List ℕ) (opened : List (List ℕ)) where
  abbrev pub Rule : State (Option S) View → Type 0
  Rule = Turns stands kind_of opened

  abbrev pub Stands : List (maybe.Option (Option S)) → List View → List Entry → List ℕ × ℕ → ℕ → ℕ → ℕ → Type 0
  Stands = Standing stands kind_of

  -- a number stands in one view
  pub apart : (homes : List (maybe.Option (Option S))) (views : List View) (log : List Entry) (kind : List ℕ × ℕ) (holder t d : ℕ)
      → Stands homes views log kind holder t d
      → (i j : ℕ) (v u : View) → get_elem? views i ≡ some v → get_elem? views j ≡ some u → i ≢ j → (n : ℕ) → 0 < times n (numbers_of v)
      → 0 < times n (numbers_of u) → ⊥
  apart homes views log kind holder t d r i j v u a b other n p q =
      omega (arith, total_two (λ w. times n (numbers_of w)) views i j v u other a b, r.numbered (only n), one_below n d)

  -- a number that stands in a view was drawn
  pub drawn_below : (homes : List (maybe.Option (Option S))) (views : List View) (log : List Entry) (kind : List ℕ × ℕ) (holder t d : ℕ)
      → Stands homes views log kind holder t d
      → (i : ℕ) (v : View) → get_elem? views i ≡ some v → (n : ℕ) → 0 < times n (numbers_of v) → d ≤ n → ⊥
  drawn_below homes views log kind holder t d r i v a n p far =
      omega (arith, total_at (λ w. times n (numbers_of w)) views i v a, r.numbered (only n), none_below n d far)

  -- a view changes, and neither its numbers nor who holds the turn
  pub view_changes : (homes : List (maybe.Option (Option S))) (views : List View) (log : List Entry) (kind : List ℕ × ℕ) (holder t d : ℕ)
      → Stands homes views log kind holder t d
      → (i : ℕ) (v w : View) → get_elem? views i ≡ some v → Fits log kind t d w → numbers_of w ≡ numbers_of v → w.holds ≡ v.holds
      → Stands homes (set views i w) log kind holder t d
  view_changes homes views log kind holder t d r i v w at fits same held = record {
    counted = r.counted;
    at_home = r.at_home;
    away = r.away;
    held = λ odd. still_held views i v w holder at held (r.held odd);
    one_holder = views_stay (λ j u. u.holds ≡ true → j ≡ holder) views i w (λ h. r.one_holder i v at (sym held ∙ h)) (λ j u _ a. r.one_holder j u a);
    each_view = views_stay (λ _ u. Fits log kind t d u) views i w fits (λ j u _ a. r.each_view j u a);
    numbered = λ h. omega (arith, total_set (λ u. weigh h (numbers_of u)) views i v w at, r.numbered h, ap (weigh h) same);
    few = r.few;
    named = r.named;
  }

  -- the rule after a step that leaves the words
  pub stays : (s : State (Option S) View) (r : Rule s) (i id : ℕ) (cs : List (ℕ × Option S)) (w : View)
      → Stands s.homes (set s.views id w) r.log r.kind r.holder (get_or s.words 0 0) (get_or s.words 1 0)
      → Rule (stepped s i (get_or s.words i 0) id cs w keeps)
  stays s r i id cs w r' = subst (λ (ws : List ℕ). Rule record { words = ws; homes = s.homes; views = set s.views id w }) (sym (set-get_or s.words i 0))
      record { log = r.log; kind = r.kind; holder = r.holder; two_words = r.two_words; begun = r.begun; counted = r.counted; standing = r' }

  -- the rule after the turn becomes x
  pub turned : (s : State (Option S) View) (r : Rule s) (x : ℕ) (homes : List (maybe.Option (Option S))) (views : List View) (log : List Entry) (holder : ℕ)
      → StartsWith log (entries_of opened) → Stands homes views log r.kind holder x (get_or s.words 1 0)
      → Rule record { words = set s.words 0 x; homes = homes; views = views }
  turned s r x homes views log holder begun r' = let wide = r.two_words in record {
    log = log;
    kind = r.kind;
    holder = holder;
    two_words = length-set s.words 0 x ∙ r.two_words;
    begun = begun;
    counted = r.counted;
    standing = subst (λ (z : ℕ × ℕ). Stands homes views log r.kind holder z.0 z.1)
        (λ k. (sym (get_or-set_same s.words 0 x 0 (omega arith)) k, sym (get_or-set_other s.words 0 1 x 0 (λ e. omega arith)) k)) r';
  }

  abbrev finds_tells : (log : List Entry) (kind : List ℕ × ℕ) (t d : ℕ) (v : View) → Fits log kind t d v → t / 2 ≡ length log → Finds v t (found_at v log t)
  finds_tells log kind t d v f counted = (refl, (f.seen, λ n p. sym (f.own_seen n p)), sym counted)

  pub looks : (slots id : ℕ) (me : Me (Option S) View) → IsOne me.0 → Allows Rule slots id me 0 (λ n. n) (Looks me)
  looks slots id me one s r _ at _ = let f = r.standing.each_view id me.0 at in let t : ℕ = get_or s.words 0 0 in let d : ℕ = get_or s.words 1 0 in
      let w = found_at me.0 r.log t in (
        w,
        keeps,
        tt,
        stays s r 0 id me.1 w (view_changes s.homes s.views r.log r.kind r.holder t d r.standing id me.0 w at (found_fits r.log r.kind t d t me.0 f one) refl
            refl),
        (finds_tells r.log r.kind t d me.0 f r.standing.counted, refl),
      )

  holding_stands : (homes : List (maybe.Option (Option S))) (views : List View) (log : List Entry) (kind : List ℕ × ℕ) (holder t d : ℕ)
      → Stands homes views log kind holder t d
      → (i : ℕ) (v : View) → get_elem? views i ≡ some v → IsOne v → v.spare ≡ [] → t % 2 ≡ 0
      → Stands (none ∷ []) (set views i (holding v log t)) log kind i (t + 1) d
  holding_stands homes views log kind holder t d r i v at one bare even = let f = r.each_view i v at in let w = holding v log t in record {
    counted = let c = r.counted in omega arith;
    at_home = λ e. absurd (omega arith);
    away = λ _. refl;
    held = λ _. (w, here views i v w at, refl);
    one_holder =
        views_stay (λ j u. u.holds ≡ true → j ≡ i) views i w (λ _. refl) (λ j u _ a h. absurd (let o = ((r.each_view j u a).holder h).0 in omega arith));
    each_view = views_stay (λ _ u. Fits log kind (t + 1) d u) views i w
        record {
          seen = starts_here log;
          own_seen = λ n _. refl;
          fresh = f.fresh;
          holder = λ _. (omega arith, refl, one, bare);
          olds = λ k a e. starts_on log v.seen a.seen f.seen (f.olds k a e);
          covers = f.covers;
          first = f.first;
          later = f.later;
          alike = inr (alive log kind t d v f one);
        }
        (λ j u _ a. let g = r.each_view j u a in fits_other log kind t (t + 1) d u g (λ h. let o = (g.holder h).0 in omega arith));
    numbered = λ h. omega (arith, total_set (λ u. weigh h (numbers_of u)) views i v w at, r.numbered h);
    few = r.few;
    named = r.named;
  }

  pub takes_turn : (slots id : ℕ) (me : Me (Option S) View) (old : ℕ) → Rests me.0 → me.1 ≡ [] → old % 2 ≡ 0
      → Allows Rule slots id me 0 (λ n. either (eqb n old) (old + 1) n) (Tries stands kind_of old me)
  takes_turn slots id me old resting bare even s r _ at _ =
      exchanged t old (old + 1)
      (λ x. (w : View) × (a : Act (Option S)) × Valid s.homes me.1 a × Rule (stepped s 0 x id me.1 w a)
      × Tries stands kind_of old me t (w, carried_after me.1 a))
      (λ e. let even_now : t % 2 ≡ 0 = ap (λ z. z % 2) e ∙ even in let home = r.standing.at_home even_now in let w = holding v r.log t in (
        w,
        takes 0 (Some home.0),
        ap (λ hs. get_elem? hs 0) home.1,
        turned s r (old + 1) (set s.homes 0 none) (set s.views id w) r.log id r.begun
            (subst (λ (z : List (maybe.Option (Option S)) × ℕ). Stands z.0 (set s.views id w) r.log r.kind id (z.1 + 1) d)
            (λ k. (sym (ap (λ hs. set hs 0 none) home.1) k, e k))
            (holding_stands s.homes s.views r.log r.kind r.holder t d r.standing id v at resting.0 resting.1 even_now)),
        (
          λ _. (
            (refl, (f.seen, λ n p. sym (f.own_seen n p)), sym r.standing.counted),
            (home.0, (ap (λ cs. (0, Some home.0) ∷ cs) bare, home.2, home.3 ∙ sym (ap (λ (z : List ℕ × ℕ). z.0) (alive r.log r.kind t d v f resting.0)))),
          ),
          λ ne. absurd (ne e),
        ),
      ))
      (λ ne. let w = found_at v r.log t in (
        w,
        keeps,
        tt,
        stays s r 0 id me.1 w
            (view_changes s.homes s.views r.log r.kind r.holder t d r.standing id v w at (found_fits r.log r.kind t d t v f resting.0) refl refl),
        (λ e. absurd (ne e), λ _. (finds_tells r.log r.kind t d v f r.standing.counted, refl)),
      ))
    where
      t : ℕ
      t = get_or s.words 0 0

      d : ℕ
      d = get_or s.words 1 0

      v : View
      v = me.0

      f : Fits r.log r.kind t d v
      f = r.standing.each_view id v at

  pub has_number : (v : View) → IsOne v → 0 < times (number_of v) (numbers_of v)
  has_number v one = omega (arith, weigh_append (only (number_of v)) v.numbers v.spare, times_one (number_of v) v.numbers one)

  given_stands : (homes : List (maybe.Option (Option S))) (views : List View) (log : List Entry) (kind : List ℕ × ℕ) (holder t d : ℕ)
      → Stands homes views log kind holder t d
      → (i : ℕ) (v : View) → get_elem? views i ≡ some v → v.holds ≡ true → (added : List Entry) → ((n : ℕ) → n ≢ number_of v → own n added ≡ [])
      → (x : S) → stands x (texts (log ++ added)) → kind_of x ≡ kind.0 → (t' : ℕ) → t' ≡ 2 * length (log ++ added)
      → Stands (some (Some x) ∷ []) (set views i (given v (log ++ added))) (log ++ added) kind holder t' d
  given_stands homes views log kind holder t d r i v at held added mine x stands_now alike t' is = record {
    counted = omega arith;
    at_home = λ _. (x, refl, stands_now, alike);
    away = λ odd. absurd (omega arith);
    held = λ odd. absurd (omega arith);
    one_holder = views_stay (λ j u. u.holds ≡ true → j ≡ holder) views i w (λ h. absurd (cc)) (λ j u _ a. r.one_holder j u a);
    each_view = views_stay (λ _ u. Fits (log ++ added) kind t' d u) views i w
        record {
          seen = starts_here (log ++ added);
          own_seen = λ n _. refl;
          fresh = λ n p. absurd (omega (arith, ap (times n) o.3));
          holder = λ h. absurd (cc);
          olds = λ k a e. starts_on (log ++ added) log a.seen (added, refl) (subst (λ l. StartsWith l a.seen) o.1 (f.olds k a e));
          covers = f.covers;
          first = f.first;
          later = f.later;
          alike = inr (alive log kind t d v f o.2);
        }
        (λ j u other a. fits_longer log added kind t t' d u (r.each_view j u a) (λ h. other (r.one_holder j u a h ∙ sym (r.one_holder i v at held)))
        (λ n p. mine n
        (λ e. apart homes views log kind holder t d r i j v u at a (λ same. other (sym same)) n
        (subst (λ z. 0 < times z (numbers_of v)) (sym e) (has_number v o.2)) p)));
    numbered = λ h. omega (arith, total_set (λ u. weigh h (numbers_of u)) views i v w at, r.numbered h);
    few = r.few;
    named = λ n far. own_append n log added ∙ (ap (λ l. l ++ own n added) (r.named n far)
        ∙ mine n (λ e. drawn_below homes views log kind holder t d r i v at n (subst (λ z. 0 < times z (numbers_of v)) (sym e) (has_number v o.2)) far));
  }
    where
      f : Fits log kind t d v
      f = r.each_view i v at

      o : (t % 2 ≡ 1) × (v.seen ≡ log) × IsOne v × (v.spare ≡ [])
      o = f.holder held

      w : View
      w = given v (log ++ added)

  value_or : Option S → List (ℕ × Option S) → Option S
  value_or o [] = o
  value_or o (c ∷ cs) = c.1

  same_value : (x y : S) (cs : List (ℕ × Option S)) → cs ≡ (0, Some x) ∷ [] → cs ≡ (0, Some y) ∷ [] → x ≡ y
  unfolding value_or
  same_value x y cs p q = let e : Some x ≡ Some y = ap (value_or (Some x)) (sym p ∙ q) in cc

  gives_turn : (slots id : ℕ) (me : Me (Option S) View) → me.0.holds ≡ true → (x : S) → me.1 ≡ (0, Some x) ∷ [] → kind_of x ≡ me.0.kind
      → (added : List Entry) → ((n : ℕ) → n ≢ number_of me.0 → own n added ≡ []) → stands x (texts (me.0.seen ++ added)) → (new : ℕ)
      → new ≡ 2 * length (me.0.seen ++ added)
      → (Q : Me (Option S) View → Type 0) → Q (given me.0 (me.0.seen ++ added), []) → Allows Rule slots id me 0 (λ _. new) (λ _. Q)
  gives_turn slots id me held x at_hand alike added mine stands_now new is Q q s r _ at _ = (
    given v (r.log ++ added),
    gives,
    tt,
    turned s r new (put_back s.homes me.1) (set s.views id (given v (r.log ++ added))) (r.log ++ added) r.holder
        (starts_on (r.log ++ added) r.log (entries_of opened) (added, refl) r.begun)
        (subst (λ hs. Stands hs (set s.views id (given v (r.log ++ added))) (r.log ++ added) r.kind r.holder new (get_or s.words 1 0)) (sym back)
        (given_stands s.homes s.views r.log r.kind r.holder (get_or s.words 0 0) (get_or s.words 1 0) r.standing id v at held added mine x
        (subst (λ l. stands x (texts (l ++ added))) o.1 stands_now)
        (alike ∙ ap (λ (z : List ℕ × ℕ). z.0) (alive r.log r.kind (get_or s.words 0 0) (get_or s.words 1 0) v f o.2)) new
        (is ∙ ap (λ l. 2 * length (l ++ added)) o.1))),
    subst (λ (z : List Entry × List (ℕ × Option S)). Q (given v (z.0 ++ added), z.1)) (λ k. (o.1 k, sym (ap rest at_hand) k)) q,
  )
    where
      v : View
      v = me.0

      f : Fits r.log r.kind (get_or s.words 0 0) (get_or s.words 1 0) v
      f = r.standing.each_view id v at

      o : (get_or s.words 0 0 % 2 ≡ 1) × (v.seen ≡ r.log) × IsOne v × (v.spare ≡ [])
      o = f.holder held

      back : put_back s.homes me.1 ≡ some (Some x) ∷ []
      back = ap (put_back s.homes) at_hand ∙ ap (λ hs. set hs 0 (some (Some x))) (r.standing.away o.0)

  pub gives_back : (slots id : ℕ) (me : Me (Option S) View) (new : ℕ) (x : S) → me.0.holds ≡ true → Has stands kind_of x me.0 me.1 → new ≡ 2 * length me.0.seen
      → Allows Rule slots id me 0 (λ _. new) (λ _. GivesBack me)
  gives_back slots id me new x held has is =
      gives_turn slots id me held x has.0 has.2 [] (λ _ _. refl) (subst (λ l. stands x (texts l)) (sym (append-nil me.0.seen)) has.1) new
      (is ∙ ap (λ l. 2 * length l) (sym (append-nil me.0.seen)))
      (GivesBack me) (ap (given me.0) (append-nil me.0.seen), refl)

  pub gives_entry : (slots id : ℕ) (me : Me (Option S) View) (new : ℕ) (x : S) → me.0.holds ≡ true → me.1 ≡ (0, Some x) ∷ [] → kind_of x ≡ me.0.kind
      → (text : List ℕ) → stands x (texts me.0.seen ++ text ∷ []) → new ≡ 2 * length me.0.seen + 2
      → Allows Rule slots id me 0 (λ _. new) (λ _. GivesEntry stands kind_of me)
  gives_entry slots id me new x held at_hand alike text stands_now is =
      gives_turn slots id me held x at_hand alike (e ∷ []) (λ n other. own_of_other n e (λ same. other (sym same))) stands_then new
      (omega (arith, length-append me.0.seen (e ∷ [])))
      (GivesEntry stands kind_of me)
      (text, refl, refl, λ y at. subst (λ z. stands z (texts (me.0.seen ++ e ∷ []))) (same_value x y me.1 at_hand at) stands_then)
    where
      e : Entry
      e = entry (number_of me.0) text

      stands_then : stands x (texts (me.0.seen ++ e ∷ []))
      stands_then = subst (stands x) (sym (texts_append me.0.seen (e ∷ []))) stands_now

-- the value was taken out of the slot, and another put in
pub swapped : {S : Type 0} (x : S) (m m' m'' : Me (Option S) View) (y : S) → m.1 ≡ (0, Some x) ∷ [] → m' ≡ (m.0, (0, None) ∷ rest m.1)
    → m'' ≡ (m'.0, (0, Some y) ∷ rest m'.1) → m'' ≡ (m.0, (0, Some y) ∷ [])
swapped x m m' m'' y slots out back = back ∙ (ap (λ n. (n.0, (0, Some y) ∷ rest n.1)) out ∙ ap (λ cs. (m.0, (0, Some y) ∷ rest cs)) slots)
