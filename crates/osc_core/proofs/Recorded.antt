-- Hits that are recorded one after another.
use Rattle.std.proofs.Common.{◌≡◌, ◌≢◌, ℕ, ◌+◌, ◌-◌, ◌<◌, ◌≤◌, ◌==◌, Bool, true, false, cond, List, [], ◌∷◌, ◌++◌, length, map, drop, get_or, Option, Some}
use Rattle.std.proofs.Common.{None, refl, sym, ap, ◌∙◌, append_assoc, arith}
use Rattle.std.proofs.lemmas.Bool.Decides.{nat_tests}
use Rattle.std.proofs.lemmas.List.{append-nil, drop_more}
use Rattle.osc_model.specs.Events.{Hit, release, released}
use Rattle.osc_record.specs.Writing.{Begun, Recording, appended, settled, with_release, with_hit}
use Rattle.osc_core.proofs.Hearing.{dropped}
use Rattle.osc_core.specs.Recorded.{owed_in, owed_by, with_hits}

-- who is owed a hit has begun a release
pub owes : (recording : Recording) → 0 < owed_by recording → recording.begun ≢ None
owes recording some none = omega (arith, ap owed_in none)

owed_settled : (recording : Recording) (begun : Begun) → owed_by (settled recording begun) ≡ begun.owed
owed_settled recording begun = go (begun.owed == 0) refl where
  go : (t : Bool) → (begun.owed == 0) ≡ t
      → owed_by (cond t
      (record {
        caps = recording.caps;
        entries = recording.entries ++ record { caller = begun.caller; event = release; answer = released begun.unit begun.hits } ∷ [];
        begun = None;
      })
      (record { caps = recording.caps; entries = recording.entries; begun = Some begun })) ≡ begun.owed
  go true e = let z : begun.owed ≡ 0 = grind (arith, nat_tests) in sym z
  go false e = refl

-- with each hit one fewer is owed
pub owed_after : (recording : Recording) (hit : Hit) → owed_by (with_hit recording hit) ≡ owed_by recording - 1
owed_after recording hit = go recording.begun refl where
  go : (o : Option Begun) → recording.begun ≡ o → owed_by (with_hit recording hit) ≡ owed_in o - 1
  go None e = let none : owed_in recording.begun ≡ 0 = ap owed_in e in let same : with_hit recording hit ≡ recording = rw e refl in
      omega (arith, ap owed_by same, none)
  go (Some begun) e =
      let next : Begun = record { caller = begun.caller; unit = begun.unit; hits = begun.hits ++ hit ∷ []; owed = begun.owed - 1 } in
      let same : with_hit recording hit ≡ settled recording next = rw e refl in
      ap owed_by same ∙ owed_settled recording next

pub owed_begun : (recording : Recording) (caller unit hits : ℕ) → owed_by (with_release recording caller unit hits) ≡ hits
owed_begun recording caller unit hits = owed_settled recording (record { caller = caller; unit = unit; hits = []; owed = hits })

-- a release that has all its hits is an entry
hits_settle : (recording : Recording) (caller unit : ℕ) (hits before : List Hit) → recording.begun ≡ None
    → with_hits (settled recording (record { caller = caller; unit = unit; hits = before; owed = length hits })) hits
    ≡ appended recording (record { caller = caller; event = release; answer = released unit (before ++ hits) })
hits_settle recording caller unit [] before none = rw (append-nil before, none) refl
hits_settle recording caller unit (hit ∷ hits) before none =
    let some : (length (hit ∷ hits) == 0) ≡ false = grind (arith, nat_tests) in
    let one : length (hit ∷ hits) - 1 ≡ length hits = omega arith in
    let more = hits_settle recording caller unit hits (before ++ hit ∷ []) none in
    rw some
    (ap (λ (n : ℕ). with_hits (settled recording (record { caller = caller; unit = unit; hits = before ++ hit ∷ []; owed = n })) hits) one
    ∙ more
    ∙ ap (λ (l : List Hit). appended recording (record { caller = caller; event = release; answer = released unit l })) (append_assoc before (hit ∷ []) hits))

pub all_put : (recording : Recording) (caller unit calls : ℕ) (hits : List Hit) → recording.begun ≡ None → calls ≡ length hits
    → with_hits (with_release recording caller unit calls) hits ≡ appended recording (record { caller = caller; event = release; answer = released unit hits })
all_put recording caller unit calls hits none is =
    ap (λ (n : ℕ). with_hits (with_release recording caller unit n) hits) is ∙ hits_settle recording caller unit hits [] none

-- hits in two goes
pub with_more : (recording : Recording) (first more : List Hit) → with_hits recording (first ++ more) ≡ with_hits (with_hits recording first) more
with_more recording [] more = refl
with_more recording (hit ∷ first) more = with_more (with_hit recording hit) first more

pub owed_left : (recording : Recording) (hits : List Hit) → owed_by (with_hits recording hits) ≡ owed_by recording - length hits
owed_left recording [] = omega arith
owed_left recording (hit ∷ hits) = omega (arith, owed_left (with_hit recording hit) hits, owed_after recording hit)

-- ids whose hits are put one after another
pub hit_put : (old new : Recording) (hit_of : ℕ → Hit) (ids : List ℕ) (i : ℕ) → i < length ids → new ≡ with_hit old (hit_of (get_or ids i 0))
    → with_hits new (map hit_of (drop (i + 1) ids)) ≡ with_hits old (map hit_of (drop i ids))
hit_put old new hit_of ids i within put =
    ap (λ (r : Recording). with_hits r (map hit_of (drop (i + 1) ids))) put ∙ ap (λ (l : List ℕ). with_hits old (map hit_of l)) (sym (drop_more ids i 0 within))

pub hits_all_put : (recording : Recording) (hit_of : ℕ → Hit) (ids : List ℕ) (i : ℕ) → length ids ≤ i
    → recording ≡ with_hits recording (map hit_of (drop i ids))
hits_all_put recording hit_of ids i past = ap (λ (l : List ℕ). with_hits recording (map hit_of l)) (sym (dropped ids i past))

pub owed_put : (old new : Recording) (hit : Hit) (ids : List ℕ) (i : ℕ) → i < length ids → new ≡ with_hit old hit → length (drop i ids) ≤ owed_by old
    → length (drop (i + 1) ids) ≤ owed_by new
owed_put old new hit ids i within put owed = omega (arith, ap owed_by put, owed_after old hit, ap length (drop_more ids i 0 within))
