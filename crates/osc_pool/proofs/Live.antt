-- What chains hold before and after one of them changes.
use Rattle.std.proofs.Common.{◌≡◌, ℕ, ◌<◌, inl, inr, Bool, cond, List, [], ◌∷◌, length, get_or, set, sym, ap, ◌∙◌, arith}
use Rattle.std.proofs.lemmas.Bool.{cases_eq, eq-eqb, ne_eqb}
use Rattle.std.proofs.lemmas.List.{get_or-set_same, get_or-set_other}
use Rattle.osc_pool.specs.declared.chain.Chain.{Chain}
use Rattle.osc_pool.specs.Holding.{held_by, with_chain, IsNew, KeepsLive, KeepsOthers}

pub held_none : (chain : Chain) (held : List (List ℕ)) → chain.len ≡ 0 → held_by chain held ≡ []
held_none chain held none = ap (λ (b : Bool). cond b [] (get_or held chain.first [])) (eq-eqb chain.len 0 none)

pub held_some : (chain : Chain) (held : List (List ℕ)) → (chain.len ≡ 0 → ⊥) → held_by chain held ≡ get_or held chain.first []
held_some chain held some = ap (λ (b : Bool). cond b [] (get_or held chain.first [])) (ne_eqb chain.len 0 some)

pub with_none : (chain : Chain) (bytes : List ℕ) (held : List (List ℕ)) → chain.len ≡ 0 → with_chain chain bytes held ≡ held
with_none chain bytes held none = ap (λ (b : Bool). cond b held (set held chain.first bytes)) (eq-eqb chain.len 0 none)

pub with_some : (chain : Chain) (bytes : List ℕ) (held : List (List ℕ)) → (chain.len ≡ 0 → ⊥) → with_chain chain bytes held ≡ set held chain.first bytes
with_some chain bytes held some = ap (λ (b : Bool). cond b held (set held chain.first bytes)) (ne_eqb chain.len 0 some)

-- a chain that begins where none did is new
pub is_new : (chain : Chain) (held : List (List ℕ)) → (0 < chain.len → get_or held chain.first [] ≡ []) → IsNew chain held
is_new chain held vacant other live some other_some same =
    let there : get_or held other.first [] ≡ [] = ap (λ (n : ℕ). get_or held n []) (sym same) ∙ vacant some in
    let long : length (get_or held other.first []) ≡ 0 = ap length there in
    let live' : length (get_or held other.first []) ≡ other.len = ap length (sym (held_some other held (λ e. absurd (omega arith)))) ∙ live in
    omega arith

-- what a chain comes to hold changes no chain that is apart from it
pub keeps_others : (chain : Chain) (bytes : List ℕ) (held : List (List ℕ)) → KeepsOthers chain held (with_chain chain bytes held)
keeps_others chain bytes held other apart = elim (cases_eq chain.len 0) [
  | inl none ↦ ap (held_by other) (with_none chain bytes held none)
  | inr some ↦ elim (cases_eq other.len 0) [
    | inl none ↦ held_none other (with_chain chain bytes held) none ∙ sym (held_none other held none)
    | inr there ↦
        held_some other (with_chain chain bytes held) there ∙ ap (λ (l : List (List ℕ)). get_or l other.first []) (with_some chain bytes held some)
        ∙ get_or-set_other held chain.first other.first bytes [] (λ e. apart (omega arith) (omega arith) e) ∙ sym (held_some other held there)
  ]
]

pub keeps_live : (chain : Chain) (bytes : List ℕ) (held : List (List ℕ)) → (0 < chain.len → get_or held chain.first [] ≡ [])
    → KeepsLive held (with_chain chain bytes held)
keeps_live chain bytes held vacant other live =
    keeps_others chain bytes held other (λ some more same. is_new chain held vacant other live more some (sym same))

-- a chain holds the bytes that it came to hold
pub holds : (chain : Chain) (bytes : List ℕ) (held : List (List ℕ)) → chain.len ≡ length bytes → (0 < chain.len → chain.first < length held)
    → held_by chain (with_chain chain bytes held) ≡ bytes
holds chain [] held long within = held_none chain (with_chain chain [] held) long
holds chain (byte ∷ bytes) held long within =
    let some : chain.len ≡ 0 → ⊥ = λ e. absurd (omega arith) in
    held_some chain (with_chain chain (byte ∷ bytes) held) some
    ∙ ap (λ (l : List (List ℕ)). get_or l chain.first []) (with_some chain (byte ∷ bytes) held some)
    ∙ get_or-set_same held chain.first (byte ∷ bytes) [] (within (omega arith))
