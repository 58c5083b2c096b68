-- Passes are joined into the first one, one after another.
use Rattle.std.proofs.Common.{◌≡◌, ℕ, zero, suc, ◌+◌, ◌<◌, ◌≤◌, false, List, [], ◌∷◌, length, map, sym, refl, ap, ◌∙◌, subst, arith, All, remove, get_or}
use Rattle.std.proofs.lemmas.List.{length-map}
use Rattle.osc_turn.specs.declared.pass.Pass.{Pass}
use Rattle.osc_turn.specs.declared.view.Entry.{Entry}
use Rattle.osc_turn.specs.declared.view.View.{View}
use Rattle.osc_turn.specs.History.{StartsWith, entries_of, texts}
use Rattle.osc_turn.specs.Numbers.{weigh, only, times}
use Rattle.osc_turn.specs.Rule.{number_of, Rests}
use Rattle.osc_turn.specs.Steps.{Grows, joined, Remembers}
use Rattle.osc_turn.specs.Passes.{view}
use Rattle.osc_turn.specs.Closing.{number, Absorbs, Gathers, Carries, IsOwnOfOne, Closes}
use Rattle.osc_turn.proofs.Histories.{starts_here, starts_on, weigh_append, weigh_ones, times_one}
use Rattle.osc_turn.proofs.Acting.{has_first}
use Rattle.osc_turn.proofs.Joins.{remembered}

pub all_cons : {X : Type 0} (P : X → Type 0) (x : X) (xs : List X) → P x → All P xs → All P (x ∷ xs)
all_cons P x xs here rest zero d l = here
all_cons P x xs here rest (suc k) d l = rest k d (omega arith)

pub all_map : {X : Type 0} (P Q : X → Type 0) (xs : List X) → ((x : X) → P x → Q x) → All P xs → All Q xs
all_map P Q xs f all k d l = f _ (all k d l)

pub gathered_none : (v : View) → Rests v → Gathers v [] v
gathered_none v a = record {
  free = a.2;
  bare = a.1;
  same_made = refl;
  same_kind = refl;
  same_opened = refl;
  numbers = λ h. omega arith;
  first = ((starts_here v.seen, λ n _. refl), λ n p. p);
  others = λ k d l. absurd (omega arith);
}

pub gathered_first : (v w : View) (done : List Pass) → Rests v → number_of v ≡ 0 → Gathers v done w → 0 < times 0 w.numbers
gathered_first v w done a e g = omega (arith, g.numbers (only 0), has_first v a e)

absorbs_on : (w u z : View) → Absorbs w z → Grows w u.seen → ((n : ℕ) → 0 < times n w.numbers → 0 < times n u.numbers) → Absorbs u z
absorbs_on w u z a b more = ((starts_on u.seen w.seen z.seen b.0 a.0.0, λ n p. b.1 n (a.1 n p) ∙ a.0.1 n p), λ n p. more n (a.1 n p))

pub gathered_one : (v w u : View) (p : Pass) (done : List Pass) → Rests v → number_of v ≡ 0 → Gathers v done w → Rests (view p) → u ≡ joined w (view p)
    → Remembers u → ((n : ℕ) → times n u.numbers ≤ 1)
    → Gathers v (p ∷ done) u
gathered_one v w u p done a e g b is m once = record {
  free = ap (λ (z : View). z.holds) is ∙ g.free;
  bare = ap (λ (z : View). z.spare) is ∙ g.bare;
  same_made = let mine : (view p).made ≡ 0 =
      b.4 (λ z. omega (arith, once 0, weighs (only 0), gathered_first v w done a e g, times_one 0 (view p).numbers (b.0 ∙ ap (λ n. n ∷ []) z))) in
      let now = ap (λ (z : View). z.made) is in let before = g.same_made in omega arith;
  same_kind = ap (λ (z : View). z.kind) is ∙ g.same_kind;
  same_opened = ap (λ (z : View). z.opened_at) is ∙ g.same_opened;
  numbers = λ h. omega (arith, weighs h, g.numbers h, ap (weigh h) b.0);
  first = absorbs_on w u v g.first told.0 (λ n q. omega (arith, weighs (only n)));
  others = all_cons (λ q. Absorbs u (view q)) p done (told.1, λ n q. omega (arith, weighs (only n)))
      (all_map (λ q. Absorbs w (view q)) (λ q. Absorbs u (view q)) done
      (λ q x. absorbs_on w u (view q) x told.0 (λ n y. omega (arith, weighs (only n)))) g.others);
}
  where
    told : Grows w u.seen × Grows (view p) u.seen
    told = remembered w (view p) u is m

    weighs : (h : ℕ → ℕ) → weigh h u.numbers ≡ weigh h w.numbers + weigh h (view p).numbers
    weighs h = ap (λ (z : View). weigh h z.numbers) is ∙ weigh_append h w.numbers (view p).numbers

pub gathered_whole : (v w : View) (others : List Pass) → Rests v → number_of v ≡ 0 → Gathers v others w → v.made ≡ suc (length others)
    → (w.holds ≡ false) × (w.spare ≡ []) × (0 < times 0 w.numbers) × (length w.numbers ≡ w.made)
gathered_whole v w others a e g made = (
  g.free,
  g.bare,
  gathered_first v w others a e g,
  omega (
    arith,
    weigh_ones w.numbers,
    g.numbers (λ _. 1),
    weigh_ones v.numbers,
    weigh_ones
        (map number others),
    length-map others number,
    ap length a.0,
    g.same_made,
  ),
)

carries : (w : View) (p : Pass) → Absorbs w (view p) → Carries w.seen p
carries w p a = (a.0.0, a.0.1 (number p) (omega (arith, times_one (number p) (view p).numbers p.rests.0)))

pub closes : {S : Type 0} (stands : S → List (List ℕ) → Type 0) (opened : List (List ℕ)) (x : S) (passes : List Pass) (p : Pass) (others : List Pass) (w : View)
    → passes ≡ p ∷ others → Gathers (view p) others w → stands x (texts w.seen)
    → All (λ e. times e.number w.numbers ≡ 1) w.seen → StartsWith w.seen (entries_of opened) → Closes stands opened x passes
closes stands opened x passes p others w is g stands_now each begins = subst (Closes stands opened x) (sym is) record {
  history = w.seen;
  stands_for = stands_now;
  begins = begins;
  carried = all_cons (Carries w.seen) p others (carries w p g.first) (all_map (λ q. Absorbs w (view q)) (Carries w.seen) others (λ q. carries w q) g.others);
  each_once = all_map (λ (e : Entry). times e.number w.numbers ≡ 1) (IsOwnOfOne (p ∷ others)) w.seen
      (λ e one. omega (arith, one, g.numbers (only e.number), ap (times e.number) p.rests.0)) each;
}

pub parted : {X : Type 0} (xs ys : List X) (r : X) → 0 < length xs → r ≡ get_or xs 0 r → ys ≡ remove xs 0 → xs ≡ r ∷ ys
parted [] ys r l a b = absurd (omega arith)
parted (x ∷ xs) ys r l a b = ap (λ z. z ∷ xs) (sym a) ∙ ap (λ zs. r ∷ zs) (sym b)
