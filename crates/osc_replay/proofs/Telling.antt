-- The hits and the lines of calls, some behind others.
use Rattle.std.proofs.Common.{◌≡◌, ℕ, ◌+◌, ◌<◌, Bool, List, [], ◌∷◌, ◌++◌, length, map, take, get_or, sym, ap, ◌∙◌, append_assoc}
use Rattle.std.proofs.lemmas.Grind.{flat_map-append}
use Rattle.std.proofs.lemmas.List.{map-append, take_more}
use Rattle.std.specs.List.{flat_map}
use Rattle.osc_model.specs.Events.{Call, Hit, Invocation}
use Rattle.osc_model.specs.Recordings.{hit_text}
use Rattle.osc_replay.specs.Calls.{hits_bytes, line_where, call_lines}

pub hits-append : (xs ys : List Call) → hits_bytes (xs ++ ys) ≡ hits_bytes xs ++ hits_bytes ys
hits-append xs ys =
    let hit : Call → Hit = λ call. record { index = call.index; id = call.id } in
    ap (λ (l : List Hit). flat_map hit_text l) (map-append hit xs ys) ∙ flat_map-append hit_text (map hit xs) (map hit ys)

pub lines-append : (prints : Bool) (unit : ℕ) (xs ys : List Call)
    → call_lines prints unit (xs ++ ys) ≡ call_lines prints unit xs ++ call_lines prints unit ys
lines-append prints unit xs ys =
    let of : Call → Invocation = λ call. record { unit = unit; call = call } in
    ap (λ (l : List Invocation). flat_map (line_where prints) l) (map-append of xs ys) ∙ flat_map-append (line_where prints) (map of xs) (map of ys)

-- what is told of some calls, and then of one more
pub one_more : (tell : List Call → List ℕ) (joined : (xs ys : List Call) → tell (xs ++ ys) ≡ tell xs ++ tell ys) (f : ℕ → Call) (ids : List ℕ) (i : ℕ)
    (old now new : List ℕ) → i < length ids
    → now ≡ old ++ tell (map f (take i ids)) → new ≡ now ++ tell (f (get_or ids i 0) ∷ []) → new ≡ old ++ tell (map f (take (i + 1) ids))
one_more tell joined f ids i old now new below so is =
    is ∙ ap (λ (l : List ℕ). l ++ tell (f (get_or ids i 0) ∷ [])) so
    ∙ append_assoc old (tell (map f (take i ids))) (tell (f (get_or ids i 0) ∷ []))
    ∙ ap (λ (l : List ℕ). old ++ l)
    (sym (joined (map f (take i ids)) (f (get_or ids i 0) ∷ []))
    ∙ ap tell (sym (ap (map f) (take_more ids i 0 below) ∙ map-append f (take i ids) (get_or ids i 0 ∷ []))))
