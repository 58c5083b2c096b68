-- The tokens of a server that goes on from a past, or of a new one.
use Rattle.std.proofs.Common.{◌≡◌, ℕ, zero, suc, ◌+◌, ◌<◌, Bool, true, false, cond, List, [], ◌∷◌, length, slice_index_or, refl, sym, ap, subst, ◌∙◌, arith, ne_eqb}
use Rattle.std.specs.List.{AllByRecursion, remove}
use Rattle.std.proofs.lemmas.List.Elements.{All-from_recursion}
use Rattle.osc_model.specs.Limits.{Limits}
use Rattle.osc_model.specs.Enrolled.{callers_in, enrols}
use Rattle.osc_model.specs.Events.{Entry}
use Rattle.osc_core.specs.Standing.{history_in}
use Rattle.osc_turn.specs.declared.view.View.{View}
use Rattle.osc_turn.specs.History.{entry, entries_of, own}
use Rattle.osc_turn.specs.Rule.{number_of}
use Rattle.osc_turn.specs.Rule as rule
use Rattle.osc_turn.specs.Passes.{view}
use Rattle.osc_live.specs.declared.caller.Caller.{Caller}
use Rattle.osc_live.specs.Resuming.{first_resumed, other_resumed, others_resumed, all_resumed}
use Rattle.osc_live.specs.Closing.{known}
use Rattle.osc_life.specs.Crews.{names_of, same_names, IsSilent, IsLeft, HasCallers}
use Rattle.osc_life.proofs.Enrolling.{left_counted, new_left}

-- how many callers there were at the end of a past
abbrev old_callers : List (List ℕ) → ℕ
old_callers past = callers_in (history_in past)

-- caller 0 knows how many there are
pub left_whole : (past : List (List ℕ)) (v : View) (others : List Caller) → IsLeft past v others → HasCallers (1 + length others) v
left_whole past v others left = record {
  token = left.token;
  made_is = left.made_is;
  counted = λ alone. (left_counted past v others left).counted alone ∙ left.made_is;
}

-- a new server has no past
pub opened_left : (past : List (List ℕ)) (kind : List ℕ) (v : View) (others : List Caller) → past ≡ [] → others ≡ [] → v ≡ rule.opening kind
    → IsLeft past v others
opened_left past kind v others none alone is =
    subst (λ (q : List (List ℕ) × List Caller). IsLeft q.0 v q.1) (λ i. (sym none i, sym alone i)) (new_left kind v is)

pub some_callers : (history : List Entry) → (n : ℕ) × (callers_in history ≡ suc n)
some_callers [] = (0, refl)
some_callers (one ∷ history) = let more = some_callers history in go (enrols one.answer) more.0 more.1 where
  go : (t : Bool) (n : ℕ) → callers_in history ≡ suc n → (m : ℕ) × (cond t (callers_in history + 1) (callers_in history) ≡ suc m)
  go true n is = (suc n, omega (arith, is))
  go false n is = (n, is)

none_old : (n : ℕ) (past : List (List ℕ)) → own (suc n) (entries_of past) ≡ []
none_old n [] = refl
none_old n (text ∷ past) =
    ap (λ t. cond t (entry 0 text ∷ own (suc n) (entries_of past)) (own (suc n) (entries_of past)))
    (ne_eqb 0 (suc n) (λ (e : 0 ≡ suc n). omega (arith, e)))
    ∙ none_old n past

others_old : (caps : Limits) (past : List (List ℕ)) (number count : ℕ) (callers : List Caller) → known callers ≡ others_resumed caps past (suc number) count
    → (length callers ≡ count) × (names_of callers ≡ same_names (suc number) count) × AllByRecursion IsSilent callers
others_old caps past number zero [] is = (refl, refl, tt)
others_old caps past number zero (caller ∷ callers) is = absurd (cc)
others_old caps past number (suc count) [] is = absurd (cc)
others_old caps past number (suc count) (caller ∷ callers) is =
    let head : ◌≡◌ {A = ℕ × View} (caller.number, view caller.pass) (suc number, other_resumed caps past (suc number)) = cc in
    let tail : known callers ≡ others_resumed caps past (suc number + 1) count = cc in
    let next : suc number + 1 ≡ suc (suc number) = omega arith in
    let rest = others_old caps past (suc number) count callers (tail ∙ ap (λ (n : ℕ). others_resumed caps past n count) next) in
    let number_is : caller.number ≡ suc number = ap (λ (p : ℕ × View). p.0) head in
    let sees : view caller.pass ≡ other_resumed caps past (suc number) = ap (λ (p : ℕ × View). p.1) head in
    let named : names_of callers ≡ same_names (suc number + 1) count = rest.1 ∙ ap (λ (n : ℕ). same_names n count) (sym next) in (
      ap suc rest.0,
      λ i. (number_is i, number_of (sees i)) ∷ named i,
      (subst (λ (u : View). own (number_of u) u.seen ≡ []) (sym sees) (none_old number past), rest.2),
    )

-- what caller 0's token and the others know
pub resumed_left : (caps : Limits) (past : List (List ℕ)) (first : Caller) (others : List Caller)
    → known (first ∷ others) ≡ all_resumed caps past (old_callers past) → (first.number ≡ 0) × IsLeft past (view first.pass) others
resumed_left caps past first others is =
    let some = some_callers (history_in past) in
    let n = some.0 in
    let all : known (first ∷ others) ≡ (0, first_resumed caps past (suc n)) ∷ others_resumed caps past 1 n = is ∙ ap (all_resumed caps past) some.1 in
    let head : ◌≡◌ {A = ℕ × View} (first.number, view first.pass) (0, first_resumed caps past (suc n)) = cc in
    let tail : known others ≡ others_resumed caps past 1 n = cc in
    let rest = others_old caps past 0 n others tail in
    let sees : view first.pass ≡ first_resumed caps past (suc n) = ap (λ (p : ℕ × View). p.1) head in (
      ap (λ (p : ℕ × View). p.0) head,
      record {
        token = ap number_of sees;
        made_is = omega (arith, ap (λ (u : View). u.made) sees, rest.0);
        seen_is = ap (λ (u : View). u.seen) sees;
        old = record {
          counted = omega (arith, some.1, rest.0);
          named = rest.1 ∙ ap (same_names 1) (sym rest.0);
          silent = All-from_recursion IsSilent others rest.2;
        };
      },
    )

-- the first of a list, and what is left after it
pub first_taken : (callers rest : List Caller) (first : Caller) → 0 < length callers → first ≡ slice_index_or callers 0 first
    → rest ≡ remove callers 0 → callers ≡ first ∷ rest
first_taken [] rest first some value left = absurd (omega arith)
first_taken (caller ∷ callers) rest first some value left = λ i. sym value i ∷ sym left i

-- there is caller 0
pub resumed_some : (caps : Limits) (past : List (List ℕ)) (callers : List Caller) → known callers ≡ all_resumed caps past (old_callers past)
    → 0 < length callers
resumed_some caps past [] is =
    let some = some_callers (history_in past) in
    let all : known [] ≡ (0, first_resumed caps past (suc some.0)) ∷ others_resumed caps past 1 some.0 = is ∙ ap (all_resumed caps past) some.1 in
    absurd (cc)
resumed_some caps past (caller ∷ callers) is = omega arith
