-- How another pass is made: the number of passes is read, a number is drawn, and the view is split.
use Rattle.std.proofs.Common.{le_refl, ◌≡◌, ℕ, ◌+◌, ◌%◌, ◌^◌, ◌<◌, ◌≤◌, true, false, List, [], ◌∷◌, ◌++◌, length, get_or, set, sym, refl, ap, ◌∙◌, subst, inr}
use Rattle.std.proofs.Common.{⊎_elim, arith, length-set, get_or-set_other, get_or-set_same, Option}
use mathlib.Core.Option.{some, none, some-injective, some-ne-none}
use mathlib.Core.Option as maybe
use mathlib.Core.Logic.{dite}
use native.Mathlib.Decide.{ℕ_discrete}
use lib.ListN.{get_elem?}
use Rattle.atomic_table.specs.Table.{State, Me, keeps, Allows, Splits}
use Rattle.atomic_table.proofs.Lists.{at_snoc, at_longer}
use Rattle.osc_turn.specs.declared.view.Entry.{Entry}
use Rattle.osc_turn.specs.declared.view.View.{View}
use Rattle.osc_turn.specs.Numbers.{weigh, only, times, numbers_of}
use Rattle.osc_turn.specs.Rule.{Fits}
use Rattle.osc_turn.specs.Steps.{drew, kept_of, split_off, Counts, Draws}
use Rattle.osc_turn.proofs.Histories.{weigh_append, total_set, total_at, total_snoc, one_below, only_other, times_some, times_none, none_begun, below_more}
use Rattle.osc_turn.proofs.Histories.{views_stay}
use Rattle.osc_turn.proofs.Keeps.{lives, still_held, Rule, Stands, apart, view_changes, stays}

module _ {S : Type 0} (stands : S → List (List ℕ) → Type 0) (kind_of : S → List ℕ) (opened : List (List ℕ)) where
  pub counts : (slots id : ℕ) (me : Me (Option S) View) → Allows (Rule stands kind_of opened) slots id me 1 (λ n. n) (Counts me)
  counts slots id me s r _ at _ = let f = r.standing.each_view id me.0 at in (
    me.0,
    keeps,
    tt,
    stays stands kind_of opened s r 1 id me.1 me.0
        (view_changes stands kind_of opened s.homes s.views r.log r.kind r.holder (get_or s.words 0 0) (get_or s.words 1 0) r.standing id me.0 me.0 at f
        refl refl),
    (
      refl,
      λ p. sym (f.first p),
      r.standing.few,
      λ n. omega (
        arith,
        total_at (λ u. times n (numbers_of u)) s.views id me.0 at,
        r.standing.numbered (only n),
        one_below n (get_or s.words 1 0),
        weigh_append
            (only n) me.0.numbers me.0.spare,
      ),
      (f.olds, f.covers),
    ),
  )

  -- the rule after the number of passes becomes x
  drawn : (s : State (Option S) View) (r : Rule stands kind_of opened s) (x : ℕ) (views : List View)
      → Stands stands kind_of opened s.homes views r.log r.kind r.holder (get_or s.words 0 0) x
      → Rule stands kind_of opened record { words = set s.words 1 x; homes = s.homes; views = views }
  drawn s r x views r' = let wide = r.two_words in record {
    log = r.log;
    kind = r.kind;
    holder = r.holder;
    two_words = length-set s.words 1 x ∙ r.two_words;
    begun = r.begun;
    counted = r.counted;
    standing = subst (λ (z : ℕ × ℕ). Stands stands kind_of opened s.homes views r.log r.kind r.holder z.0 z.1)
        (λ k. (sym (get_or-set_other s.words 1 0 x 0 (λ e. omega arith)) k, sym (get_or-set_same s.words 1 x 0 (omega arith)) k)) r';
  }

  drawn_stands : (homes : List (maybe.Option (Option S))) (views : List View) (log : List Entry) (kind : List ℕ × ℕ) (holder t d : ℕ)
      → Stands stands kind_of opened homes views log kind holder t d
      → (i : ℕ) (v : View) → get_elem? views i ≡ some v → v.holds ≡ false → v.spare ≡ [] → 0 < times 0 v.numbers → d < 65536
      → Stands stands kind_of opened homes (set views i (drew v d)) log kind holder t (d + 1)
  drawn_stands homes views log kind holder t d r i v at free bare first few = let f = r.each_view i v at in let w = drew v d in record {
    counted = r.counted;
    at_home = r.at_home;
    away = r.away;
    held = λ odd. still_held views i v w holder at refl (r.held odd);
    one_holder = views_stay (λ j u. u.holds ≡ true → j ≡ holder) views i w (λ h. r.one_holder i v at h) (λ j u _ a. r.one_holder j u a);
    each_view = views_stay (λ _ u. Fits log kind t (d + 1) u) views i w
        record {
          seen = f.seen;
          own_seen = f.own_seen;
          fresh = λ n p. dite (ℕ_discrete d n) (λ e. r.named n (omega arith)) (λ other. absurd (omega (arith, only_other n d other)));
          holder = λ h. absurd (cc);
          olds = f.olds;
          covers = f.covers;
          first = λ _. refl;
          later = λ none_here. absurd (omega arith);
          alike = inr (lives log kind t d v f (times_some 0 v.numbers first));
        }
        (λ j u other a. let g = r.each_view j u a in record {
          seen = g.seen;
          own_seen = g.own_seen;
          fresh = g.fresh;
          holder = g.holder;
          olds = g.olds;
          covers = g.covers;
          first = λ p.
              absurd (apart stands kind_of opened homes views log kind holder t d r i j v u at a (λ e. other (sym e)) 0
              (omega (arith, weigh_append (only 0) v.numbers v.spare)) (omega (arith, weigh_append (only 0) u.numbers u.spare)));
          later = g.later;
          alike = g.alike;
        });
    numbered = λ h.
        omega (
          arith,
          below_more h d,
          total_set (λ u. weigh h (numbers_of u)) views i v w at,
          r.numbered h,
          weigh_append h v.numbers v.spare,
          weigh_append h
              v.numbers (d ∷ []),
          ap (weigh h) bare,
        );
    few = omega arith;
    named = λ n far. r.named n (omega arith);
  }

  pub draws : (slots id : ℕ) (me : Me (Option S) View) → me.0.holds ≡ false → me.0.spare ≡ [] → 0 < times 0 me.0.numbers → me.0.made < 65536
      → Allows (Rule stands kind_of opened) slots id me 1 (λ n. (n + 1) % 2 ^ 64) (Draws me)
  draws slots id me free bare first few s r _ at _ = (
    drew me.0 d,
    keeps,
    tt,
    subst (λ (x : ℕ). Rule stands kind_of opened record { words = set s.words 1 x; homes = s.homes; views = set s.views id (drew me.0 d) }) (sym small)
        (drawn s r (d + 1) (set s.views id (drew me.0 d))
        (drawn_stands s.homes s.views r.log r.kind r.holder (get_or s.words 0 0) d r.standing id me.0 at free bare first (omega (arith, made)))),
    (sym made, none_begun d r.log me.0.seen (r.standing.each_view id me.0 at).seen (r.standing.named d (le_refl d)), refl),
  )
    where
      d : ℕ
      d = get_or s.words 1 0

      made : me.0.made ≡ d
      made = (r.standing.each_view id me.0 at).first first

      small : (d + 1) % 2 ^ 64 ≡ d + 1
      small = omega arith

  -- what is split off fits, since no entry has a number that was spare
  split_fits : (log : List Entry) (kind : List ℕ × ℕ) (t d : ℕ) (v : View) → Fits log kind t d v → 0 < length v.numbers → times 0 (numbers_of v) ≤ 1
      → Fits log kind t d (split_off v)
  split_fits log kind t d v f some_number once = record {
    seen = f.seen;
    own_seen = λ n p. none_begun n log v.seen f.seen (f.fresh n p) ∙ sym (f.fresh n p);
    fresh = λ n p. absurd (omega arith);
    holder = λ h. absurd (cc);
    olds = λ k a e. absurd (some-ne-none a (sym e));
    covers = λ k l a b e _. absurd (some-ne-none a (sym e));
    first = λ p. dite (ℕ_discrete (times 0 v.numbers) 0) (λ e. absurd (omega (arith, times_none 0 v.spare (f.later e).1)))
        (λ other. absurd (omega (arith, weigh_append (only 0) v.numbers v.spare)));
    later = λ _. (refl, refl);
    alike = inr (lives log kind t d v f some_number);
  }

  kept_fits : (log : List Entry) (kind : List ℕ × ℕ) (t d : ℕ) (v : View) → Fits log kind t d v → 0 < length v.numbers → Fits log kind t d (kept_of v)
  kept_fits log kind t d v f some_number = record {
    seen = f.seen;
    own_seen = f.own_seen;
    fresh = λ n p. absurd (omega arith);
    holder = λ h. let o = f.holder h in (o.0, o.1, o.2, refl);
    olds = f.olds;
    covers = f.covers;
    first = f.first;
    later = λ e. ((f.later e).0, refl);
    alike = inr (lives log kind t d v f some_number);
  }

  split_stands : (homes : List (maybe.Option (Option S))) (views : List View) (log : List Entry) (kind : List ℕ × ℕ) (holder t d : ℕ)
      → Stands stands kind_of opened homes views log kind holder t d
      → (i : ℕ) (v : View) → get_elem? views i ≡ some v → 0 < length v.numbers
      → Stands stands kind_of opened homes (set views i (kept_of v) ++ split_off v ∷ []) log kind holder t d
  split_stands homes views log kind holder t d r i v at some_number = let f = r.each_view i v at in let w = kept_of v in let u' = split_off v in record {
    counted = r.counted;
    at_home = r.at_home;
    away = r.away;
    held = λ odd. let h = still_held views i v w holder at refl (r.held odd) in (h.0, at_longer (set views i w) (u' ∷ []) holder h.0 h.1, h.2);
    one_holder =
        λ j u a. ⊎_elim (λ b. views_stay (λ k x. x.holds ≡ true → k ≡ holder) views i w (λ h. r.one_holder i v at h) (λ k x _ c. r.one_holder k x c) j u b)
        (λ (e : u' ≡ u) h. absurd (let no = ap (λ (x : View). x.holds) e in cc)) (at_snoc (set views i w) u' u j a);
    each_view = λ j u a.
        ⊎_elim (λ b. views_stay (λ _ x. Fits log kind t d x) views i w (kept_fits log kind t d v f some_number) (λ k x _ c. r.each_view k x c) j u b)
        (λ (e : u' ≡ u). subst (Fits log kind t d) e
        (split_fits log kind t d v f some_number (omega (arith, total_at (λ x. times 0 (numbers_of x)) views i v at, r.numbered (only 0), one_below 0 d))))
        (at_snoc (set views i w) u' u j a);
    numbered = λ h.
        omega (
          arith,
          total_snoc (λ u. weigh h (numbers_of u)) (set views i w) u',
          total_set
              (λ u. weigh h (numbers_of u)) views i v w at,
          r.numbered h,
          weigh_append h v.numbers v.spare,
          weigh_append h v.numbers [],
          weigh_append h v.spare [],
        );
    few = r.few;
    named = r.named;
  }

  pub splits : (id : ℕ) (v : View) → 0 < length v.numbers → Splits (Rule stands kind_of opened) id v (kept_of v) (split_off v)
  splits id v some_number s r at = record {
    log = r.log;
    kind = r.kind;
    holder = r.holder;
    two_words = r.two_words;
    begun = r.begun;
    counted = r.counted;
    standing = split_stands s.homes s.views r.log r.kind r.holder (get_or s.words 0 0) (get_or s.words 1 0) r.standing id v at some_number;
  }
