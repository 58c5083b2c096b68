use Rattle.std.proofs.Common.{◌≡◌, ℕ, zero, suc, ◌+◌, ◌≤◌, ◌||◌, Bool, true, cond, List, [], ◌∷◌, map, length, get_or, Option, Some, None, codes, string_bytes}
use Rattle.std.proofs.Common.{sym, ap, ◌∙◌, arith}
use Rattle.std.specs.Str.{bytes_eq}
use Rattle.osc_top.specs.Commands.{last_of, name_in}
use Rattle.osc_top.proofs.name.recording_name.Goals as goal

-- the last of some words
last_at : {X : Type 0} (f : X → List ℕ) (xs : List X) (k : ℕ) (x : X) → x ≡ get_or xs k x → k + 1 ≡ length xs → last_of (map f xs) ≡ Some (f x)
last_at f [] k x is long = absurd (omega arith)
last_at f (y ∷ []) zero x is long = ap (λ a. Some (f a)) (sym is)
last_at f (y ∷ []) (suc k) x is long = absurd (omega arith)
last_at f (y ∷ z ∷ zs) zero x is long = absurd (omega arith)
last_at f (y ∷ z ∷ zs) (suc k) x is long = last_at f (z ∷ zs) k x is (omega arith)

abbrev names : List ℕ → Bool
names word = bytes_eq word (codes "lanes") || bytes_eq word (codes "serve")

name_at : {X : Type 0} (f : X → List ℕ) (xs : List X) (k : ℕ) (word name : X) → word ≡ get_or xs 0 word → name ≡ get_or xs k name → k + 1 ≡ length xs
    → 2 ≤ length xs → names (f word) ≡ true → name_in (map f xs) ≡ Some (f name)
name_at f [] k word name is last long two test = absurd (omega arith)
name_at f (y ∷ []) k word name is last long two test = absurd (omega arith)
name_at f (y ∷ z ∷ zs) zero word name is last long two test = absurd (omega arith)
name_at f (y ∷ z ∷ zs) (suc k) word name is last long two test =
    ap (λ (t : Bool). cond {A = Option (List ℕ)} t (last_of (map f (z ∷ zs))) None) (ap (λ w. names (f w)) (sym is) ∙ test)
    ∙ last_at f (z ∷ zs) k name last (omega arith)

pub returns-in-len2-up : goal.returns-in-len2-up
returns-in-len2-up c =
    let test = sym c.names_recording.ensures ∙ c.if-names_recording.true in
    ap Some c.as_str-in-len2-up.ensures.value
    ∙ sym (name_at string_bytes c.args.words.now _ c.word-item.result c.name-item.result c.word-item.is c.name-item.is (omega arith)
    c.in-len2-up.len_at_least (ap names (sym c.as_str.ensures.value) ∙ test))
