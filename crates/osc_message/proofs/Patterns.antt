-- The pattern of a message is what stands before the first zero byte.
use Rattle.std.proofs.Common.{◌≡◌, ℕ, ◌+◌, ◌%◌, ◌≤◌, Bool, true, false, cond, ◌==◌, List, length, take, drop, position, Option, Some, None, Result, Ok, Err}
use Rattle.std.proofs.Common.{is_ok, is_none, refl, sym, ◌∙◌, ap, arith}
use Rattle.std.specs.List.{before_first, position_or_len}
use Rattle.std.specs.Result.{result_ok}
use Rattle.std.proofs.lemmas.List.{length-take}
use Rattle.std.proofs.lemmas.Option.{cond_some}
use Rattle.osc_atoms.specs.declared.fault.Fault.{Fault}
use Rattle.osc_atoms.specs.Atoms.{string_end}
use Rattle.osc_atoms.specs.Reading.{and_then, is_zero, padding_read, text_read, string_read}
use Rattle.osc_pattern.specs.declared.faults.PatternFault.{PatternFault}
use Rattle.osc_pattern.specs.Patterns.{pattern_fault, is_pattern}
use Rattle.osc_atoms.specs.Faults.{start}
use Rattle.osc_atoms.proofs.Outcomes.{ok_is}
use Rattle.osc_message.specs.Faults.{no_tags}
use Rattle.osc_message.specs.Reading.{Parts, begins, tags_read, tagged_read, comma_read, unless_fault, lawful_read, message_read, parts_of}

pattern_kept_tags : (bytes pattern : List ℕ) (at : ℕ) (parts : Parts) (r : Result (List ℕ × ℕ) Fault)
    → and_then r
    (λ string. and_then (tags_read bytes (at + 1) (drop 1 string.0) string.1)
    (λ _. Ok (record { pattern = pattern; tags = Some (drop 1 string.0); place = string.1 }))) ≡ Ok parts → parts.pattern ≡ pattern
pattern_kept_tags bytes pattern at parts (Err f) is = absurd (cc)
pattern_kept_tags bytes pattern at parts (Ok string) is = go (tags_read bytes (at + 1) (drop 1 string.0) string.1) is where
  go : (r : Result (Unit {0}) Fault) → and_then {Y = Parts} r (λ _. Ok (record { pattern = pattern; tags = Some (drop 1 string.0); place = string.1 }))
      ≡ Ok parts → parts.pattern ≡ pattern
  go (Err f) e = absurd (cc)
  go (Ok u) e = sym (ap (λ (p : Parts). p.pattern) (ok_is _ parts e))

pattern_kept : (bytes pattern : List ℕ) (at : ℕ) (parts : Parts) (a b : Bool)
    → cond a (Ok (record { pattern = pattern; tags = None; place = at })) (cond b (tagged_read bytes pattern at) (Err (no_tags at))) ≡ Ok parts
    → parts.pattern ≡ pattern
pattern_kept bytes pattern at parts true b is = sym (ap (λ (p : Parts). p.pattern) (ok_is _ parts is))
pattern_kept bytes pattern at parts false true is = pattern_kept_tags bytes pattern at parts (string_read bytes at) is
pattern_kept bytes pattern at parts false false is = absurd (cc)

lawful_kept : (bytes pattern : List ℕ) (at end : ℕ) (parts : Parts) (o : Option PatternFault) → pattern_fault pattern ≡ o
    → unless_fault at o (comma_read bytes pattern end) ≡ Ok parts → (parts.pattern ≡ pattern) × (pattern_fault parts.pattern ≡ None)
lawful_kept bytes pattern at end parts None none is =
    let kept = pattern_kept bytes pattern end parts (end == length bytes) (begins 44 (drop end bytes)) is in
    (kept, ap pattern_fault kept ∙ none)
lawful_kept bytes pattern at end parts (Some f) some is = absurd (cc)

-- the text of a string at the front is what stands before the first zero byte
text_first : (bytes : List ℕ) (read : List ℕ × ℕ) (o : Option ℕ) → position is_zero bytes ≡ o → text_read bytes 0 o ≡ Ok read
    → read.0 ≡ before_first is_zero bytes
text_first bytes read None place is = absurd (cc)
text_first bytes read (Some size) place is = go (padding_read bytes (0 + size) (string_end size)) is where
  go : (r : Result ℕ Fault) → and_then {Y = List ℕ × ℕ} r (λ next. Ok (take size bytes, next)) ≡ Ok read → read.0 ≡ before_first is_zero bytes
  go (Err f) e = absurd (cc)
  go (Ok next) e = sym (ap (λ (p : List ℕ × ℕ). p.0) (ok_is _ read e)) ∙ ap (λ (n : ℕ). take n bytes) (sym (cond_some _ _ _ place).1)

-- the pattern that is read has no fault, and stands before the first zero byte
read_pattern : (bytes : List ℕ) (parts : Parts) → parts_of bytes ≡ Some parts
    → (parts.pattern ≡ before_first is_zero bytes) × (pattern_fault parts.pattern ≡ None)
unfolding message_read
read_pattern bytes parts is = go (length bytes % 4 == 0) is where
  with_string : (r : Result (List ℕ × ℕ) Fault) → string_read bytes 0 ≡ r → and_then r (λ string. lawful_read bytes 0 string.0 string.1) ≡ Ok parts
      → (parts.pattern ≡ before_first is_zero bytes) × (pattern_fault parts.pattern ≡ None)
  with_string (Err f) same e = absurd (cc)
  with_string (Ok read) same e =
      let kept = lawful_kept bytes read.0 0 read.1 parts (pattern_fault read.0) refl e in
      (kept.0 ∙ text_first bytes read (position is_zero bytes) refl same, kept.1)

  with_slash : (b : Bool) → cond b (and_then (string_read bytes 0) (λ string. lawful_read bytes 0 string.0 string.1)) (Err (start 0)) ≡ Ok parts
      → (parts.pattern ≡ before_first is_zero bytes) × (pattern_fault parts.pattern ≡ None)
  with_slash true e = with_string (string_read bytes 0) refl e
  with_slash false e = absurd (cc)

  ok_of : (r : Result Parts Fault) → result_ok r ≡ Some parts → r ≡ Ok parts
  ok_of (Ok p) e = ap (λ (q : Parts). Ok q) (some_is p parts e) where
    some_is : (a b : Parts) → ◌≡◌ {A = Option Parts} (Some a) (Some b) → a ≡ b
    some_is a b e = cc
  ok_of (Err f) e = absurd (cc)

  go : (b : Bool) → cond b (result_ok (message_read bytes 0)) None ≡ Some parts
      → (parts.pattern ≡ before_first is_zero bytes) × (pattern_fault parts.pattern ≡ None)
  go true e = with_slash (begins 47 bytes) (ok_of (message_read bytes 0) e)
  go false e = absurd (cc)

pub pattern_read : (bytes : List ℕ) (parts : Parts) → parts_of bytes ≡ Some parts → parts.pattern ≡ before_first is_zero bytes
pattern_read bytes parts is = (read_pattern bytes parts is).0

pub pattern_lawful : (bytes : List ℕ) (parts : Parts) → parts_of bytes ≡ Some parts → is_pattern parts.pattern ≡ true
pattern_lawful bytes parts is = ap is_none (read_pattern bytes parts is).1

pub not_refused : {X : Type 0} (r : Result X PatternFault) (fault : PatternFault) (test : Bool) → is_ok r ≡ test → test ≡ true → r ≡ Err fault → ⊥
not_refused (Ok x) fault test same is e = absurd (cc)
not_refused (Err f) fault test same is e = absurd (cc (same, is))

pub pattern_short : (bytes : List ℕ) (parts : Parts) → parts_of bytes ≡ Some parts → length parts.pattern ≤ length bytes
pattern_short bytes parts is = let size = ap length (pattern_read bytes parts is) ∙ length-take (position_or_len is_zero bytes) bytes in omega arith
