-- What holds of the bytes that an input had left.
use Rattle.std.proofs.Common.{◌≡◌, ◌⊎◌, inl, inr, ℕ, ◌+◌, ◌<◌, ◌≤◌, List, [], length, replicate, Option, Some, None, IfSome, Result, Ok, Err, refl}
use Rattle.std.proofs.Common.{subst, arith}
use Rattle.std.specs.Prelude.{IfErr}
use Rattle.std.proofs.lemmas.List.{length-replicate}
use Rattle.osc_ends.specs.Ends.{left_behind}
use Rattle.osc_ends.specs.Inputs.{OfInput, ReadsInput, RefusesInput, SourceOf, read_status}
use Rattle.osc_ends.proofs.Transfers.{left_whole}

-- the input was read to its end
pub whole_bytes : (left now : Option (List ℕ)) (bytes : List ℕ) (P : List ℕ → Type 0) → IfSome left (λ all. (bytes ≡ all) × (now ≡ Some [])) → P bytes
    → OfInput left P
whole_bytes None now bytes P whole holds = (bytes, tt, holds)
whole_bytes (Some all) now bytes P whole holds = (bytes, whole.0, holds)

longer : (most : ℕ) → (bytes : List ℕ) × (most < length bytes)
longer most = (replicate (most + 1) 0, omega (arith, length-replicate {A = ℕ} (most + 1) 0))

-- there was more than the limit
pub long_bytes : (most : ℕ) (left now : Option (List ℕ)) (P : List ℕ → Type 0)
    → IfSome left (λ all. (most < length all) × (now ≡ Some (left_behind most all))) → ((all : List ℕ) → most < length all → P all) → OfInput left P
long_bytes most None now P long holds = let bytes = longer most in (bytes.0, tt, holds bytes.0 bytes.1)
long_bytes most (Some all) now P long holds = (all, refl, holds all long.0)

pub any_bytes : (left : Option (List ℕ)) (P : List ℕ → Type 0) → ((bytes : List ℕ) → P bytes) → OfInput left P
any_bytes None P holds = ([], tt, holds [])
any_bytes (Some all) P holds = (all, refl, holds all)

-- what follows of them
pub of_so : (left : Option (List ℕ)) (P Q : List ℕ → Type 0) → ((bytes : List ℕ) → P bytes → Q bytes) → OfInput left P → OfInput left Q
of_so left P Q so (bytes, is, holds) = (bytes, is, so bytes holds)

pub if_so : (left : Option (List ℕ)) (P Q : List ℕ → Type 0) → ((bytes : List ℕ) → P bytes → Q bytes) → OfInput left P → IfSome left Q
if_so None P Q so of = tt
if_so (Some all) P Q so (bytes, is, holds) = subst Q is (so bytes holds)

-- and where they are told
pub if_bytes : (left : Option (List ℕ)) (bytes : List ℕ) (P : List ℕ → Type 0) → IfSome left (λ all. bytes ≡ all) → P bytes → IfSome left P
if_bytes None bytes P is holds = tt
if_bytes (Some all) bytes P is holds = subst P is holds

pub if_any : (left : Option (List ℕ)) (P : List ℕ → Type 0) → ((bytes : List ℕ) → P bytes) → IfSome left P
if_any None P holds = tt
if_any (Some all) P holds = holds all

-- a source that was read to its end didn't fail
pub reads_whole : {S : Type 0} (source_of : SourceOf S) (most status : ℕ) (before after : S) (bytes : List ℕ) → (status ≡ 4 → ⊥)
    → IfSome (source_of.left before) (λ all. (bytes ≡ all) × (source_of.left after ≡ Some [])) → length bytes ≤ most
    → source_of.faults after ≡ source_of.faults before → ReadsInput source_of most status before after
reads_whole source_of most status before after bytes sound whole few same = record {
  source = λ four. absurd (sound four);
  sound = λ _ _. same;
  read = left_whole most (source_of.left before) (source_of.left after) bytes _ _ whole few;
}

-- what becomes of its bytes is no failure of it
pub read_sound : {X : Type 0} (read : Result X ℕ) → IfErr read (λ status. (status ≡ 1) ⊎ (status ≡ 3)) → read_status read ≡ 4 → ⊥
read_sound (Ok value) known four = omega arith
read_sound (Err status) (inl one) four = omega arith
read_sound (Err status) (inr three) four = omega arith

-- what comes of an input of which nothing came
pub refused_bytes : (status : ℕ) (left : Option (List ℕ)) (Refuses P : List ℕ → Type 0) → RefusesInput Refuses status left
    → ((bytes : List ℕ) → status ≡ 1 → Refuses bytes → P bytes) → ((bytes : List ℕ) → status ≡ 3 → P bytes) → (status ≡ 4 → ⊥) → OfInput left P
refused_bytes status left Refuses P refuses refused short read = go refuses.known where
  go : (status ≡ 1) ⊎ (status ≡ 3) ⊎ (status ≡ 4) → OfInput left P
  go (inl one) = of_so left Refuses P (λ bytes. refused bytes one) (refuses.refused one)
  go (inr (inl three)) = any_bytes left P (λ bytes. short bytes three)
  go (inr (inr four)) = absurd (read four)

-- an input that is too long is refused
pub long_refused : (most status : ℕ) (left after : Option (List ℕ)) (Refuses : List ℕ → Type 0) → (status ≡ 1) ⊎ (status ≡ 3)
    → IfSome left (λ all. (most < length all) × (after ≡ Some (left_behind most all)))
    → ((all : List ℕ) → most < length all → status ≡ 1 → Refuses all) → RefusesInput Refuses status left
long_refused most status left after Refuses known long refused = record {
  known = go known;
  refused = λ one. long_bytes most left after Refuses long (λ all more. refused all more one);
} where
  go : (status ≡ 1) ⊎ (status ≡ 3) → (status ≡ 1) ⊎ (status ≡ 3) ⊎ (status ≡ 4)
  go (inl one) = inl one
  go (inr three) = inr (inl three)
