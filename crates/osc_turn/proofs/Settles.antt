-- The turn as it is closed with a view that has every number that was drawn.
use Rattle.std.proofs.Common.{zero, suc, All, ◌≡◌, ◌≢◌, ℕ, ◌%◌, ◌<◌, false, List, [], ◌∷◌, ◌++◌, length, get_or, sym, refl, ap, ◌∙◌, subst, arith, append-nil}
use Rattle.std.proofs.Common.{length-append, Option, Some}
use mathlib.Core.Option.{some, none, some-injective}
use mathlib.Core.Option as maybe
use mathlib.Core.Logic.{dite}
use native.Mathlib.Decide.{ℕ_discrete, dec_le}
use lib.ListN.{get_elem?}
use Rattle.atomic_table.specs.Table.{State, Final, Seen}
use Rattle.osc_turn.specs.declared.view.Entry.{Entry}
use Rattle.osc_turn.specs.declared.view.View.{View}
use Rattle.osc_turn.specs.History.{StartsWith, entries_of, texts, own}
use Rattle.osc_turn.specs.Numbers.{weigh, only, times, numbers_of}
use Rattle.osc_turn.proofs.Histories.{no_append, own_append, own_of_mine, weigh_append, weigh_ones, ones_below, some_below, total_two, total_alone, times_some}
use Rattle.osc_turn.proofs.Histories.{none_long}
use Rattle.osc_turn.proofs.Keeps.{lives, Rule, Stands}

-- where a list has no entry of a number, what follows its first entry has none
none_after : (n : ℕ) (e : Entry) (es : List Entry) → own n (e ∷ es) ≡ [] → own n es ≡ []
none_after n e es no_entry_there = (no_append (own n (e ∷ [])) (own n es) (sym (own_append n (e ∷ []) es) ∙ no_entry_there)).1

-- a list with no entry of a number below n, and none of any other number, is empty
no_entry : (rest : List Entry) → ((n : ℕ) → own n rest ≡ []) → rest ≡ []
no_entry [] none_here = refl
no_entry (e ∷ rest) none_here = absurd (let there = ap length (none_here e.number) in let split = ap length (own_append e.number (e ∷ []) rest) in
    omega (arith, there, split, length-append (own e.number (e ∷ [])) (own e.number rest), ap length (own_of_mine e.number e refl)))

-- what holds of each number that has an entry holds of each entry's number
all_own : (P : ℕ → Type 0) (es : List Entry) → ((n : ℕ) → own n es ≢ [] → P n) → All (λ e. P e.number) es
all_own P [] f k d l = absurd (omega arith)
all_own P (e ∷ es) f zero d l = f e.number (λ nothing. absurd (let there = ap length nothing in let split = ap length (own_append e.number (e ∷ []) es) in
    omega (arith, there, split, length-append (own e.number (e ∷ [])) (own e.number es), ap length (own_of_mine e.number e refl))))
all_own P (e ∷ es) f (suc k) d l = all_own P es (λ n some_entry. f n (λ nothing. some_entry (none_after n e es nothing))) k d (omega arith)

module _ {S : Type 0} (stands : S → List (List ℕ) → Type 0) (kind_of : S → List ℕ) (opened : List (List ℕ)) where
  -- the view has every number
  abbrev pub IsWhole : View → Type 0
  IsWhole v = (v.holds ≡ false) × (v.spare ≡ []) × (0 < times 0 v.numbers) × (length v.numbers ≡ v.made)

  module _ (homes : List (maybe.Option (Option S))) (views : List View) (log : List Entry) (kind : List ℕ × ℕ) (holder t d : ℕ)
      (r : Stands stands kind_of opened homes views log kind holder t d)
      (i : ℕ) (v : View) (at : get_elem? views i ≡ some v)
      (whole : (v.holds ≡ false) × (v.spare ≡ []) × (0 < times 0 v.numbers) × (length v.numbers ≡ v.made)) where
    others_bare : (j : ℕ) (u : View) → j ≢ i → get_elem? views j ≡ some u → length (numbers_of u) ≡ 0
    others_bare j u other a = let made = (r.each_view i v at).first whole.2 in omega (
      arith,
      total_two (λ x. weigh (λ _. 1) (numbers_of x)) views i j v u (λ e. other (sym e)) at a,
      r.numbered (λ _. 1),
      ones_below d,
      weigh_ones (numbers_of u),
      weigh_ones (numbers_of v),
      length-append v.numbers v.spare,
    )

    bare_times : (n : ℕ) (xs : List ℕ) → length xs ≡ 0 → times n xs ≡ 0
    bare_times n [] e = refl
    bare_times n (x ∷ xs) e = absurd (omega arith)

    has_each : (n : ℕ) → n < d → times n v.numbers ≡ 1
    has_each n l = omega (
      arith,
      total_alone (λ x. times n (numbers_of x)) views i v at (λ j u other a. bare_times n (numbers_of u) (others_bare j u other a)),
      r.numbered (only n),
      some_below n d l,
      weigh_append (only n) v.numbers v.spare,
      ap (times n) whole.1,
    )

    is_even : t % 2 ≡ 0
    is_even = dite (ℕ_discrete (t % 2) 0) (λ e. e) (λ other. let h = r.held (omega arith) in absurd (dite (ℕ_discrete holder i)
        (λ e. let same : h.0 ≡ v = some-injective h.0 v (sym h.1 ∙ (ap (get_elem? views) e ∙ at)) in let no = ap (λ (x : View). x.holds) same in
        cc (h.2, no, whole.0))
        (λ apart. let one = ((r.each_view holder h.0 h.1).holder h.2).2 in
        omega (arith, others_bare holder h.0 apart h.1, length-append h.0.numbers h.0.spare, ap length one))))

    is_drawn : (n : ℕ) → own n log ≢ [] → n < d
    is_drawn n some_entry = dite (dec_le d n) (λ far. absurd (some_entry (r.named n far))) (λ near. omega arith)

    sees_all : log ≡ v.seen
    sees_all = let f = r.each_view i v at in f.seen.1 ∙ (ap (λ l. v.seen ++ l) (no_entry f.seen.0 (λ n. dite (dec_le d n)
        (λ far. none_long (own n f.seen.0)
        (omega (
          arith,
          ap length (r.named n far),
          ap length (ap (own n) f.seen.1),
          ap length (own_append n v.seen f.seen.0),
          length-append (own n v.seen)
              (own n f.seen.0),
        )))
        (λ near. none_long (own n f.seen.0)
        (omega (
          arith,
          ap length (f.own_seen n (let h = has_each n (omega arith) in omega arith)),
          ap length (ap (own n) f.seen.1),
          ap length
              (own_append n v.seen f.seen.0),
          length-append (own n v.seen) (own n f.seen.0),
        )))))
        ∙ append-nil v.seen)

  -- the value lies in the slot, and stands for what the view has seen
  abbrev pub Settled : View → List (Option S) → Type 0
  Settled v slots = (x : S) × (get_elem? slots 0 ≡ some (Some x)) × stands x (texts v.seen) × (kind_of x ≡ v.kind)
      × All (λ e. times e.number v.numbers ≡ 1) v.seen
      × StartsWith v.seen (entries_of opened) × (v.opened_at ≡ length opened)

  pub settles : (id : ℕ) (v : View) (words : List ℕ) (slots : List (Option S)) → IsWhole v → Final (Seen (Rule stands kind_of opened) id v) words slots
      → Settled v slots
  settles id v words slots whole final = (
    home.0,
    final.4 0 (Some home.0) (ap (λ hs. get_elem? hs 0) home.1),
    subst (λ l. stands home.0 (texts l)) same home.2,
    home.3 ∙ sym (ap (λ (z : List ℕ × ℕ). z.0) alike),
    all_own (λ n. times n v.numbers ≡ 1) v.seen
        (λ n some_entry. has_each s.homes s.views rule.log rule.kind rule.holder t d r id v at whole n
        (is_drawn s.homes s.views rule.log rule.kind rule.holder t d r id v at whole n (λ e. some_entry (ap (own n) (sym same) ∙ e)))),
    subst (λ l. StartsWith l (entries_of opened)) same rule.begun,
    ap (λ (z : List ℕ × ℕ). z.1) alike ∙ rule.counted,
  )
    where
      s : State (Option S) View
      s = final.0

      rule : Rule stands kind_of opened s
      rule = final.1.0

      at : get_elem? s.views id ≡ some v
      at = final.1.1

      t : ℕ
      t = get_or s.words 0 0

      d : ℕ
      d = get_or s.words 1 0

      r : Stands stands kind_of opened s.homes s.views rule.log rule.kind rule.holder t d
      r = rule.standing

      home : (x : S) × (s.homes ≡ some (Some x) ∷ []) × stands x (texts rule.log) × (kind_of x ≡ rule.kind.0)
      home = r.at_home (is_even s.homes s.views rule.log rule.kind rule.holder t d r id v at whole)

      alike : (v.kind, v.opened_at) ≡ rule.kind
      alike = lives rule.log rule.kind t d v (r.each_view id v at) (times_some 0 v.numbers whole.2)

      same : rule.log ≡ v.seen
      same = sees_all s.homes s.views rule.log rule.kind rule.holder t d r id v at whole
