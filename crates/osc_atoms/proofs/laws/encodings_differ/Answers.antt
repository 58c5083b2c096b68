-- What is encoded alike is read as one value.
use Rattle.std.proofs.Common.{◌≡◌, ℕ, List, [], Result, Ok, sym, ◌∙◌, ap}
use Rattle.std.proofs.lemmas.List.{append-nil}
use Rattle.osc_atoms.specs.declared.fault.Fault.{Fault}
use Rattle.osc_atoms.specs.Atoms.{string, blob}
use Rattle.osc_atoms.proofs.Strings.{string_again}
use Rattle.osc_atoms.proofs.Blobs.{blob_again}
use Rattle.osc_atoms.proofs.laws.encodings_differ.Goals as goal

one_value : (a b : List ℕ) (m n : ℕ) (read : Result (List ℕ × ℕ) Fault) → read ≡ Ok (a, m) → read ≡ Ok (b, n) → a ≡ b
one_value a b m n read first second = ap (λ (p : List ℕ × ℕ). p.0) (value_is (a, m) (b, n) (sym first ∙ second)) where
  value_is : (x y : List ℕ × ℕ) → ◌≡◌ {A = Result (List ℕ × ℕ) Fault} (Ok x) (Ok y) → x ≡ y
  value_is x y e = cc

pub returns-clause-of_strings : goal.returns-clause-of_strings
returns-clause-of_strings c = λ a b plain_a plain_b same.
    one_value a b _ _ _
    (string_again (string a) 0 a (record { no_zero = plain_a; written = record { rest = []; parts = sym (append-nil (string a)) } }))
    (string_again (string a) 0 b (record { no_zero = plain_b; written = record { rest = []; parts = same ∙ sym (append-nil (string b)) } }))

pub returns-clause-of_blobs : goal.returns-clause-of_blobs
returns-clause-of_blobs c = λ a b small_a small_b same.
    one_value a b _ _ _
    (blob_again (blob a) 0 a (record { fits = small_a; written = record { rest = []; parts = sym (append-nil (blob a)) } }))
    (blob_again (blob a) 0 b (record { fits = small_b; written = record { rest = []; parts = same ∙ sym (append-nil (blob b)) } }))
