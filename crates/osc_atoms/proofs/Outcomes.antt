-- What a reading gives: a value that stands there, or a fault that is named.
use Rattle.std.proofs.Common.{◌≡◌, ◌⊎◌, ℕ, List, Result, Ok, Err, sym, ◌∙◌, ap, subst, inl, inr}
use Rattle.std.specs.Prelude.{IfOk, IfErr, IsOkAnd}
use Rattle.std.specs.Result.{result_map_both}
use denote.Ref.{Bor}
use Rattle.osc_atoms.specs.declared.fault.Fault.{Fault}

pub record Given {X : Type 0} (Stands : X → Type 0) (next : X → ℕ) (read : Result (X × ℕ) Fault) : Type 0 where
  pub value : X
  pub stands : Stands value
  pub is : read ≡ Ok (value, next value)

pub record Refused {X : Type 0} (Names : Fault → Type 0) (read : Result (X × ℕ) Fault) : Type 0 where
  pub fault : Fault
  pub names : Names fault
  pub is : read ≡ Err fault

-- the reading gives a value that stands there and the place after it, or a fault that is named
abbrev pub Outcome : {X : Type 0} → (X → Type 0) → (X → ℕ) → (Fault → Type 0) → Result (X × ℕ) Fault → Type 0
Outcome Stands next Names read = Given Stands next read ⊎ Refused Names read

pub ok_is : {X : Type 0} (x y : X) → ◌≡◌ {A = Result X Fault} (Ok x) (Ok y) → x ≡ y
ok_is x y e = cc

err_is : {X : Type 0} (f g : Fault) → ◌≡◌ {A = Result X Fault} (Err f) (Err g) → f ≡ g
err_is f g e = cc

clash : {X : Type 0} (x : X) (f : Fault) → ◌≡◌ {A = Result X Fault} (Ok x) (Err f) → ⊥
clash x f e = cc

pub given_stands : {X : Type 0} (Stands : X → Type 0) (next : X → ℕ) (Names : Fault → Type 0) (read : Result (X × ℕ) Fault) (x : X × ℕ)
    → Outcome Stands next Names read → read ≡ Ok x → Stands x.0 × (x.1 ≡ next x.0)
given_stands {X} Stands next Names read x (inl given) e =
    let both : x ≡ (given.value, next given.value) = ok_is _ _ (sym e ∙ given.is) in
    let value : x.0 ≡ given.value = ap (λ (p : X × ℕ). p.0) both in
    (subst Stands (sym value) given.stands, ap (λ (p : X × ℕ). p.1) both ∙ ap next (sym value))
given_stands Stands next Names read x (inr refused) e = absurd (clash x refused.fault (sym e ∙ refused.is))

pub refused_names : {X : Type 0} (Stands : X → Type 0) (next : X → ℕ) (Names : Fault → Type 0) (read : Result (X × ℕ) Fault) (f : Fault)
    → Outcome Stands next Names read → read ≡ Err f → Names f
refused_names Stands next Names read f (inl given) e = absurd (clash (given.value, next given.value) f (sym given.is ∙ e))
refused_names {X} Stands next Names read f (inr refused) e = subst Names (err_is {X = X × ℕ} refused.fault f (sym refused.is ∙ e)) refused.names

-- the result without where its bytes lie in memory
abbrev pub seen : Result (Bor (List ℕ) × ℕ) Fault → Result (List ℕ × ℕ) Fault
seen r = result_map_both (λ x. (x.0.now, x.1)) (λ fault. fault) r

pub ok_stands : (Stands : List ℕ → Type 0) (next : List ℕ → ℕ) (Names : Fault → Type 0) (read : Result (List ℕ × ℕ) Fault) (r : Result (Bor (List ℕ) × ℕ) Fault)
    → Outcome Stands next Names read → seen r ≡ read → IfOk r (λ x. Stands x.0.now × (x.1 ≡ next x.0.now))
ok_stands Stands next Names read (Ok x) outcome e = given_stands Stands next Names read (x.0.now, x.1) outcome (sym e)
ok_stands Stands next Names read (Err f) outcome e = tt

pub err_names : (Stands : List ℕ → Type 0) (next : List ℕ → ℕ) (Names : Fault → Type 0) (read : Result (List ℕ × ℕ) Fault) (r : Result (Bor (List ℕ) × ℕ) Fault)
    → Outcome Stands next Names read → seen r ≡ read → IfErr r Names
err_names Stands next Names read (Ok x) outcome e = tt
err_names Stands next Names read (Err f) outcome e = refused_names Stands next Names read f outcome (sym e)

pub ok_is_given : (read : Result (List ℕ × ℕ) Fault) (r : Result (Bor (List ℕ) × ℕ) Fault) (x : List ℕ) (n : ℕ) → read ≡ Ok (x, n) → seen r ≡ read
    → IsOkAnd r (λ y. (y.0.now ≡ x) × (y.1 ≡ n))
ok_is_given read (Ok y) x n is e =
    let both : (y.0.now, y.1) ≡ (x, n) = ok_is _ _ (e ∙ is) in
    (ap (λ (p : List ℕ × ℕ). p.0) both, ap (λ (p : List ℕ × ℕ). p.1) both)
ok_is_given read (Err f) x n is e = clash (x, n) f (sym (e ∙ is))

pub err_is_given : (read : Result (List ℕ × ℕ) Fault) (r : Result (Bor (List ℕ) × ℕ) Fault) (f : Fault) → read ≡ Err f → seen r ≡ read → r ≡ Err f
err_is_given read (Ok y) f is e = absurd (clash (y.0.now, y.1) f (e ∙ is))
err_is_given read (Err g) f is e = ap (λ (h : Fault). Err h) (err_is {X = List ℕ × ℕ} g f (e ∙ is))
