-- A close where a token has only looked.
use Rattle.std.proofs.Common.{◌≡◌, ℕ, zero, suc, ◌<◌, List, [], ◌∷◌, map, All, inl, inr, refl, sym, ap, subst, ◌∙◌, arith}
use Rattle.std.specs.Prelude.{Contains, slice_index_or}
use Rattle.std.proofs.lemmas.List.Elements.{All-cons, All-head, All-tail, All-weaker, Contains-append_cases, Contains-append_left, Contains-append_right}
use Rattle.osc_model.specs.Limits.{Limits}
use Rattle.osc_model.specs.Heard.{Told}
use Rattle.osc_turn.specs.declared.view.Entry.{Entry as Seen}
use Rattle.osc_turn.specs.declared.view.View.{View}
use Rattle.osc_turn.specs.History.{StartsWith, entries_of, own}
use Rattle.osc_turn.specs.Numbers.{times}
use Rattle.osc_turn.specs.Passes.{view}
use Rattle.osc_turn.specs.Rule.{number_of}
use Rattle.osc_turn.proofs.Histories.{starts_on}
use Rattle.osc_live.specs.declared.caller.Caller.{Caller}
use Rattle.osc_live.specs.declared.guest.Guest.{Guest}
use Rattle.osc_live.specs.Closing.{known, views_of, IsOfCaller, IsOfFirst, Closes}
use Rattle.osc_live.specs.Seen.{names}
use Rattle.osc_live.specs.Looks.{HasLooked}
use Rattle.osc_live.proofs.Looked.{same_number}

-- a token that knows more, among those that know, and the one that it was
among : (v w : View) (number : ℕ) (knows : List (ℕ × View)) (one : ℕ × View) → number_of w ≡ number_of v → Contains ((number, w) ∷ knows) one
    → (was : ℕ × View) × Contains ((number, v) ∷ knows) was × (was.0 ≡ one.0) × (number_of was.1 ≡ number_of one.1)
among v w number knows one same of =
    elim (Contains-append_cases ((number, w) ∷ []) knows one of) [
      | inl here ↦
          let is : (number, w) ≡ one = go one here.0 here.1 here.2 in (
            (number, v),
            Contains-append_left ((number, v) ∷ []) knows (number, v) (0, omega arith, refl),
            ap (λ (p : ℕ × View). p.0) is,
            sym same ∙ ap (λ (p : ℕ × View). number_of p.1) is,
          )
      | inr there ↦ (one, Contains-append_right ((number, v) ∷ []) knows one there, refl, refl)
    ]
  where
    go : (y : ℕ × View) (k : ℕ) → k < 1 → slice_index_or ((number, w) ∷ []) k y ≡ y → (number, w) ≡ y
    go y zero within is = is
    go y (suc k) within is = absurd (omega arith)

-- whoever has the entries of one that knows more has them
of_caller : (v w : View) (number : ℕ) (knows : List (ℕ × View)) (one : Seen) → number_of w ≡ number_of v
    → IsOfCaller ((number, w) ∷ knows) one → IsOfCaller ((number, v) ∷ knows) one
of_caller v w number knows one same of =
    let was = among v w number knows of.0 same of.1 in
    (was.0, was.1, was.3 ∙ of.2, ap (λ (n : ℕ). names n one) was.2 ∙ of.3)

of_first : (v w : View) (number : ℕ) (knows : List (ℕ × View)) (one : Seen) → number_of w ≡ number_of v
    → IsOfFirst ((number, w) ∷ knows) one → IsOfFirst ((number, v) ∷ knows) one
of_first v w number knows one same of =
    let was = among v w number knows of.0 same of.1 in
    (was.0, was.1, was.3 ∙ of.2, was.2 ∙ of.3)

-- a close with the token as it was before it looked
pub closed_before : (caps : Limits) (past : List (List ℕ)) (old new : Caller) (others : List Caller) (guests : List Guest) (bytes : List ℕ) (kept : List Told)
    → new.number ≡ old.number → HasLooked (view old.pass) (view new.pass)
    → Closes caps past (known (new ∷ others)) (views_of (new ∷ others) guests) bytes kept
    → Closes caps past (known (old ∷ others)) (views_of (old ∷ others) guests) bytes kept
closed_before caps past old new others guests bytes kept number looked closes =
    let v = view old.pass in
    let w = view new.pass in
    let rest = views_of others guests in
    let history = closes.history in
    let same = same_number v w looked in
    let Begins : View → Type 0 = λ u. StartsWith history u.seen in
    let Owns : View → Type 0 = λ u. own (number_of u) history ≡ own (number_of u) u.seen in
    let owned : own (number_of v) history ≡ own (number_of v) v.seen =
    subst (λ (n : ℕ). own n history ≡ own n w.seen) same (All-head Owns w rest closes.owned) ∙ looked.own_same in
    record {
      history = history;
      since = closes.since;
      begins = closes.begins;
      legal = closes.legal;
      laws = closes.laws;
      recorded = closes.recorded;
      carried = All-cons Begins v rest (starts_on history w.seen v.seen (All-head Begins w rest closes.carried) looked.goes_on)
          (All-tail Begins w rest closes.carried);
      owned = All-cons Owns v rest owned (All-tail Owns w rest closes.owned);
      each_once = subst (λ (n : ℕ). All (λ (one : Seen). times one.number (n ∷ map number_of rest) ≡ 1) history) same closes.each_once;
      first = All-weaker (IsOfFirst (known (new ∷ others))) (IsOfFirst (known (old ∷ others)))
          (λ one of. of_first v w old.number (known others) one same
          (subst (λ (n : ℕ). IsOfFirst ((n, w) ∷ known others) one) number of)) (entries_of past) closes.first;
      named = All-weaker (IsOfCaller (known (new ∷ others))) (IsOfCaller (known (old ∷ others)))
          (λ one of. of_caller v w old.number (known others) one same
          (subst (λ (n : ℕ). IsOfCaller ((n, w) ∷ known others) one) number of)) closes.since closes.named;
      heard = closes.heard;
      marked = closes.marked;
    }
