-- How one view is joined into another.
use Rattle.std.proofs.Common.{◌≡◌, ◌≢◌, ℕ, zero, suc, ◌+◌, ◌<◌, ◌≤◌, cond, true, false, List, [], ◌∷◌, ◌++◌, length, get_or, set, sym, refl, ap, ◌∙◌, subst}
use Rattle.std.proofs.Common.{inl, inr, ◌⊎◌, ⊎_elim, arith, Option}
use mathlib.Core.Option.{some, none, some-injective, some-ne-none}
use mathlib.Core.Option as maybe
use mathlib.Core.Logic.{dite}
use native.Mathlib.Decide.{ℕ_discrete}
use lib.ListN.{get_elem?}
use lib.Dec.{leb}
use Rattle.std.proofs.lemmas.Bool.Decides.{leb_tells}
use Rattle.atomic_table.specs.Table.{Joins}
use Rattle.atomic_table.proofs.Lists.{set_else}
use Rattle.osc_turn.specs.declared.view.Entry.{Entry}
use Rattle.osc_turn.specs.declared.view.Past.{Past}
use Rattle.osc_turn.specs.declared.view.View.{View}
use Rattle.osc_turn.specs.History.{StartsWith, own}
use Rattle.osc_turn.specs.Numbers.{weigh, only, times, numbers_of}
use Rattle.osc_turn.specs.Rule.{spent, Covers, Fits}
use Rattle.osc_turn.specs.Steps.{longer, past, joined, Remembers, Grows}
use Rattle.osc_turn.proofs.Histories.{starts_here, starts_own, starts_order, same_between, same_both, weigh_append, total_set, total_two, one_below, times_none}
use Rattle.osc_turn.proofs.Histories.{views_stay}
use Rattle.osc_turn.proofs.Keeps.{lives, still_held, Rule, Stands}

pub longer_cases : (P : List Entry → Type 0) (a b : List Entry) → (length a ≤ length b → P b) → (length b ≤ length a → P a) → P (longer a b)
longer_cases P a b second first = ⊎_elim
    (λ (t : (leb (length a) (length b) ≡ true) × (length a ≤ length b)). subst (λ c. P (cond c b a)) (sym t.0) (second t.1))
    (λ (t : (leb (length a) (length b) ≡ false) × (length b < length a)). let l = t.1 in subst (λ c. P (cond c b a)) (sym t.0) (first (omega arith)))
    (leb_tells (length a) (length b))

two_cases : (P : Past → Type 0) (p q : Past) → P p → P q → (k : ℕ) (a : Past) → get_elem? (p ∷ q ∷ []) k ≡ some a → P a
two_cases P p q one two zero a e = subst P (some-injective p a e) one
two_cases P p q one two (suc zero) a e = subst P (some-injective q a e) two
two_cases P p q one two (suc (suc k)) a e = absurd (some-ne-none a (sym e))

covers_from : (log : List Entry) (a b : Past) → ((n : ℕ) → 0 < times n a.numbers → own n a.seen ≡ own n log) → StartsWith log b.seen → Covers a b
covers_from log a b mine s n p = subst (λ z. StartsWith z (own n b.seen)) (sym (mine n p)) (starts_own n log b.seen s)

own_of_longer : (n : ℕ) (log a b : List Entry) → StartsWith log a → StartsWith log b → (own n a ≡ own n log) ⊎ (own n b ≡ own n log)
    → own n (longer a b) ≡ own n log
own_of_longer n log a b p q e = longer_cases (λ l. own n l ≡ own n log) a b
    (λ le. ⊎_elim (λ x. same_between n log b a q (starts_order log a b p q le) x) (λ y. y) e)
    (λ le. ⊎_elim (λ x. x) (λ y. same_between n log a b p (starts_order log b a q p le) y) e)

pub starts_longer : (log a b : List Entry) → StartsWith log a → StartsWith log b → StartsWith (longer a b) a × StartsWith (longer a b) b
starts_longer log a b p q =
    longer_cases (λ l. StartsWith l a × StartsWith l b) a b (λ le. (starts_order log a b p q le, starts_here b))
    (λ le. (starts_here a, starts_order log b a q p le))

spent_fits : (log : List Entry) (kind : List ℕ × ℕ) (t d : ℕ) → Fits log kind t d spent
spent_fits log kind t d = record {
  seen = (log, refl);
  own_seen = λ n p. absurd (omega arith);
  fresh = λ n p. absurd (omega arith);
  holder = λ h. absurd (cc);
  olds = λ k a e. absurd (some-ne-none a (sym e));
  covers = λ k l a b e _. absurd (some-ne-none a (sym e));
  first = λ p. absurd (omega arith);
  later = λ _. (refl, refl);
  alike = inl refl;
}

joined_fits : (log : List Entry) (kind : List ℕ × ℕ) (t d : ℕ) (v w : View) → Fits log kind t d v → Fits log kind t d w → 0 < length v.numbers → v.holds ≡ false
    → v.spare ≡ [] → w.spare ≡ []
    → times 0 v.numbers + times 0 w.numbers ≤ 1 → Fits log kind t d (joined v w)
joined_fits log kind t d v w f g some_number free bare bare' once = record {
  seen = longer_cases (StartsWith log) v.seen w.seen (λ _. g.seen) (λ _. f.seen);
  own_seen = λ n p. own_of_longer n log v.seen w.seen f.seen g.seen (dite (ℕ_discrete (times n v.numbers) 0)
      (λ e. inr (g.own_seen n (omega (arith, weigh_append (only n) v.numbers w.numbers)))) (λ other. inl (f.own_seen n (omega arith))));
  fresh = λ n p. absurd (omega (arith, times_none n v.spare bare));
  holder = λ h. absurd (cc);
  olds = let s = starts_longer log v.seen w.seen f.seen g.seen in two_cases (λ a. StartsWith (longer v.seen w.seen) a.seen) (past v) (past w) s.0 s.1;
  covers = λ k l a b e e'. two_cases (λ x. Covers x b) (past v) (past w)
      (two_cases (λ y. Covers (past v) y) (past v) (past w) (covers_from log (past v) (past v) f.own_seen f.seen)
      (covers_from log (past v) (past w) f.own_seen g.seen) l b e')
      (two_cases (λ y. Covers (past w) y) (past v) (past w) (covers_from log (past w) (past v) g.own_seen f.seen)
      (covers_from log (past w) (past w) g.own_seen g.seen) l b e') k a e;
  first = λ p. dite (ℕ_discrete (times 0 v.numbers) 0)
      (λ e. let made = (f.later e).0 in let made' = g.first (omega (arith, weigh_append (only 0) v.numbers w.numbers)) in omega arith)
      (λ other. let made = f.first (omega arith) in let made' = (g.later (omega arith)).0 in omega arith);
  later = λ e. let sum = weigh_append (only 0) v.numbers w.numbers in let made = (f.later (omega arith)).0 in let made' = (g.later (omega arith)).0 in
      (omega arith, bare);
  alike = inr (lives log kind t d v f some_number);
}

-- what a look tells after a join
pub remembered : (v w u : View) → u ≡ joined v w → Remembers u → Grows v u.seen × Grows w u.seen
remembered v w u is m = subst (λ (z : View). Remembers z → Grows v z.seen × Grows w z.seen) (sym is) (λ r.
    let starts_v : StartsWith (longer v.seen w.seen) v.seen = r.0 0 (past v) refl in
    let starts_w : StartsWith (longer v.seen w.seen) w.seen = r.0 1 (past w) refl in (
      (
        starts_v,
        λ n p. same_both (own n (longer v.seen w.seen)) (own n v.seen) (starts_own n (longer v.seen w.seen) v.seen starts_v)
            (longer_cases (λ l. StartsWith (own n v.seen) (own n l)) v.seen w.seen (λ _. r.1 0 1 (past v) (past w) refl refl n p)
            (λ _. r.1 0 0 (past v) (past v) refl refl n p)),
      ),
      (
        starts_w,
        λ n p. same_both (own n (longer v.seen w.seen)) (own n w.seen) (starts_own n (longer v.seen w.seen) w.seen starts_w)
            (longer_cases (λ l. StartsWith (own n w.seen) (own n l)) v.seen w.seen (λ _. r.1 1 1 (past w) (past w) refl refl n p)
            (λ _. r.1 1 0 (past w) (past v) refl refl n p)),
      ),
    )) m

module _ {S : Type 0} (stands : S → List (List ℕ) → Type 0) (kind_of : S → List ℕ) (opened : List (List ℕ)) where
  joined_stands : (homes : List (maybe.Option (Option S))) (views : List View) (log : List Entry) (kind : List ℕ × ℕ) (holder t d : ℕ)
      → Stands stands kind_of opened homes views log kind holder t d
      → (i j : ℕ) (v w : View) → get_elem? views i ≡ some v → get_elem? views j ≡ some w → j ≢ i → 0 < length v.numbers → v.holds ≡ false → w.holds ≡ false
      → v.spare ≡ [] → w.spare ≡ []
      → Stands stands kind_of opened homes (set (set views i (joined v w)) j spent) log kind holder t d
  joined_stands homes views log kind holder t d r i j v w at at' other some_number free free' bare bare' = record {
    counted = r.counted;
    at_home = r.at_home;
    away = r.away;
    held = λ odd. still_held (set views i u) j w spent holder at_then (sym free') (still_held views i v u holder at refl (r.held odd));
    one_holder = views_stay (λ k x. x.holds ≡ true → k ≡ holder) (set views i u) j spent (λ h. absurd (cc))
        (λ k x _ a. views_stay (λ k' x'. x'.holds ≡ true → k' ≡ holder) views i u (λ h. absurd (cc)) (λ k' x' _ b. r.one_holder k' x' b) k x a);
    each_view = views_stay (λ _ x. Fits log kind t d x) (set views i u) j spent (spent_fits log kind t d)
        (λ k x _ a. views_stay (λ _ x'. Fits log kind t d x') views i u
        (joined_fits log kind t d v w (r.each_view i v at) (r.each_view j w at') some_number free bare bare'
        (omega (
          arith,
          total_two (λ x. times 0 (numbers_of x)) views i j v w (λ e. other (sym e)) at at',
          r.numbered (only 0),
          one_below 0 d,
          weigh_append
              (only 0) v.numbers v.spare,
          weigh_append (only 0) w.numbers w.spare,
        )))
        (λ k' x' _ b. r.each_view k' x' b) k x a);
    numbered = λ h. omega (
      arith,
      total_set (λ x. weigh h (numbers_of x)) (set views i u) j w spent at_then,
      total_set (λ x. weigh h (numbers_of x)) views i v u at,
      r.numbered h,
      weigh_append h v.numbers v.spare,
      weigh_append h w.numbers w.spare,
      weigh_append h (v.numbers ++ w.numbers) v.spare,
      weigh_append h v.numbers w.numbers,
      ap (weigh h) bare,
      ap (weigh h) bare',
    );
    few = r.few;
    named = r.named;
  }
    where
      u : View
      u = joined v w

      at_then : get_elem? (set views i (joined v w)) j ≡ some w
      at_then = set_else views i j (joined v w) other ∙ at'

  pub joins : (id other : ℕ) (v w : View) → 0 < length v.numbers → v.holds ≡ false → w.holds ≡ false → v.spare ≡ [] → w.spare ≡ []
      → Joins (Rule stands kind_of opened) id v other w (joined v w) spent
  joins id other v w some_number free free' bare bare' s r at apart at_then = record {
    log = r.log;
    kind = r.kind;
    holder = r.holder;
    two_words = r.two_words;
    begun = r.begun;
    counted = r.counted;
    standing = joined_stands s.homes s.views r.log r.kind r.holder (get_or s.words 0 0) (get_or s.words 1 0) r.standing id other v w at
        (sym (set_else s.views id other (joined v w) apart) ∙ at_then) apart some_number free free' bare bare';
  }
