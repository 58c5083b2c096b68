-- A bundle's first 16 bytes.
use Rattle.std.proofs.Common.{◌≡◌, ℕ, ◌+◌, ◌<◌, ◌≤◌, ◌^◌, Bool, true, false, cond, not, nat_lt, ◌==◌, List, ◌++◌, length, take, drop, Option, Some, None}
use Rattle.std.proofs.Common.{Result, Ok, Err, refl, sym, ◌∙◌, ap, inl, inr, arith, take-append-drop, length-drop}
use Rattle.std.specs.List.{starts_with}
use Rattle.std.proofs.lemmas.Bool.{ltb-false, cases_eq, not-false}
use Rattle.std.proofs.lemmas.Bool.Decides.{Decides-eqb, nat_tests}
use Rattle.std.proofs.lemmas.Slice.Eq.{starts_is}
use Rattle.std.proofs.lemmas.List.{length-take-le}
use Rattle.std.proofs.lemmas.Nat.{be_bytes_4, be_bytes_8}
use Rattle.osc_atoms.specs.declared.fault.Fault.{Fault}
use Rattle.osc_atoms.specs.Atoms.{AreBytes, word, tag}
use Rattle.osc_atoms.proofs.AllBytes.{front_bytes, rest_bytes}
use Rattle.osc_packet.specs.Packets.{bundle_word, effective_tag, IsInTime}
use Rattle.osc_packet.specs.Faults.{no_bundle_word, no_bundle_head, too_deep, tag_before}
use Rattle.osc_packet.specs.Reading.{head_read, is_early, bundle_tag, first_size}

-- a text begins with the bundle word where its first eight bytes are that
pub word_there : (own : List ℕ) → starts_with ◌==◌ own bundle_word ≡ true → take 8 own ≡ bundle_word
word_there own is =
    let parts : own ≡ bundle_word ++ drop 8 own = (starts_is Decides-eqb own bundle_word (starts_with ◌==◌ own bundle_word) refl).0 is in
    ap (take 8) parts

pub word_again : (own : List ℕ) → take 8 own ≡ bundle_word → starts_with ◌==◌ own bundle_word ≡ true
word_again own is =
    (starts_is Decides-eqb own bundle_word (starts_with ◌==◌ own bundle_word) refl).1 (drop 8 own)
    (sym (take-append-drop 8 own) ∙ ap (λ (l : List ℕ). l ++ drop 8 own) is)

pub in_time_is : (outer : Option ℕ) (own : ℕ) → is_early outer own ≡ false → IsInTime outer own
in_time_is None own is = tt
in_time_is (Some outer) own is = elim (cases_eq own 1) [
  | inl same ↦ inl same
  | inr other ↦ inr (grind (arith, nat_tests))
]

pub early_is : (outer : Option ℕ) (own : ℕ) → is_early outer own ≡ true → IsInTime outer own → ⊥
early_is None own is time = absurd (cc)
early_is (Some outer) own is (inl same) = grind (arith, nat_tests)
early_is (Some outer) own is (inr order) = grind (arith, nat_tests)

pub not_early : (outer : Option ℕ) (own : ℕ) → IsInTime outer own → is_early outer own ≡ false
not_early None own time = refl
not_early (Some outer) own (inl same) = grind (arith, nat_tests)
not_early (Some outer) own (inr order) = grind (arith, nat_tests)

pub some_left : (left : ℕ) → (left == 0) ≡ false → 0 < left
some_left left is = grind (arith, nat_tests)

-- what a head that is read has
pub record Head (left : ℕ) (outer : Option ℕ) (bytes : List ℕ) (effective : ℕ) : Type 0 where
  pub named : take 8 bytes ≡ bundle_word
  pub long : 16 ≤ length bytes
  pub room : 0 < left
  pub time : IsInTime outer (bundle_tag bytes)
  pub is : effective ≡ effective_tag outer (bundle_tag bytes)

err_ok : {f : Fault} {n : ℕ} → ◌≡◌ {A = Result ℕ Fault} (Err f) (Ok n) → ⊥
err_ok e = cc

ok_is : {m n : ℕ} → ◌≡◌ {A = Result ℕ Fault} (Ok m) (Ok n) → m ≡ n
ok_is e = cc

pub head_ok : (left : ℕ) (outer : Option ℕ) (at : ℕ) (bytes : List ℕ) (effective : ℕ) → head_read left outer at bytes ≡ Ok effective
    → Head left outer bytes effective
head_ok left outer at bytes effective =
    go (not (starts_with ◌==◌ bytes bundle_word)) (nat_lt (length bytes) 16) (left == 0) (is_early outer (bundle_tag bytes)) refl refl refl refl where
      go : (a b c d : Bool) → not (starts_with ◌==◌ bytes bundle_word) ≡ a → nat_lt (length bytes) 16 ≡ b → (left == 0) ≡ c → is_early outer (bundle_tag bytes)
          ≡ d
          → cond a (Err (no_bundle_word at))
          (cond b (Err (no_bundle_head (at + 8)))
          (cond c (Err (too_deep at)) (cond d (Err (tag_before (at + 8))) (Ok (effective_tag outer (bundle_tag bytes)))))) ≡ Ok effective
          → Head left outer bytes effective
      go true b c d is_a is_b is_c is_d e = absurd (err_ok e)
      go false true c d is_a is_b is_c is_d e = absurd (err_ok e)
      go false false true d is_a is_b is_c is_d e = absurd (err_ok e)
      go false false false true is_a is_b is_c is_d e = absurd (err_ok e)
      go false false false false is_a is_b is_c is_d e = record {
        named = word_there bytes (not-false _ is_a);
        long = ltb-false (length bytes) 16 is_b;
        room = some_left left is_c;
        time = in_time_is outer (bundle_tag bytes) is_d;
        is = sym (ok_is e);
      }

-- a size that is read was written
pub size_written : (bytes : List ℕ) → AreBytes bytes → 4 ≤ length bytes → word (first_size bytes) ≡ take 4 bytes
size_written bytes small long =
    be_bytes_4 (take 4 bytes) (first_size bytes) (length-take-le 4 bytes long) (front_bytes 4 bytes small) refl

-- a tag that is read was written
pub tag_written : (bytes : List ℕ) → AreBytes bytes → 16 ≤ length bytes → tag (bundle_tag bytes) ≡ take 8 (drop 8 bytes)
tag_written bytes small long =
    be_bytes_8 (take 8 (drop 8 bytes)) (bundle_tag bytes) (length-take-le 8 (drop 8 bytes) (omega (arith, length-drop 8 bytes)))
    (front_bytes 8 (drop 8 bytes) (rest_bytes 8 bytes small)) refl

pub tag_fits : (bytes : List ℕ) → AreBytes bytes → bundle_tag bytes < 2 ^ 64
tag_fits bytes small =
    let each : AreBytes (take 8 (drop 8 bytes)) = front_bytes 8 (drop 8 bytes) (rest_bytes 8 bytes small) in
    omega (arith, each 0, each 1, each 2, each 3, each 4, each 5, each 6, each 7)
