-- One argument: what stands at a place is read, and what doesn't is named.
use Rattle.std.proofs.Common.{◌≡◌, ◌⊎◌, ℕ, ◌+◌, ◌%◌, ◌^◌, ◌<◌, Bool, true, false, not, ◌||◌, ◌==◌, List, length, drop, replicate, Ok, Err, Result, refl, sym}
use Rattle.std.proofs.Common.{◌∙◌, ap, subst, inl, inr, arith, eqb-true, length-append, add-zero, ℤ}
use Rattle.std.specs.Int.{w32, w64, cast_signed, cast_unsigned}
use Rattle.std.proofs.Math.Facts.{Fits-of_z, Fits-lt-pow}
use Rattle.std.proofs.lemmas.Int.{of_z-to_z, to_z-of_z}
use Rattle.std.proofs.lemmas.List.{length-replicate}
use borrow.Author.Gap.{read_sfits}
use Rattle.osc_atoms.specs.declared.fault.Fault.{Fault}
use Rattle.osc_atoms.specs.Atoms.{AreBytes, word, tag, string, blob, blob_end}
use Rattle.osc_atoms.specs.Reading.{and_then, word_read, tag_read}
use Rattle.osc_atoms.specs.Standing.{StartsWith, StartsWithWord, StartsWithTag}
use Rattle.osc_atoms.proofs.Numbers.{word_again, tag_again, word_seen, tag_seen, word_fault_again, tag_fault_again}
use Rattle.osc_atoms.proofs.Strings.{string_again, string_seen, string_fault_again, length-string}
use Rattle.osc_atoms.proofs.Blobs.{blob_again, blob_seen, blob_fault_again}
use Rattle.osc_message.specs.Messages.{Argument, integer, float, text, content, long, time, double, symbol, character, rgba, midi, true_, false_, nil}
use Rattle.osc_message.specs.Messages.{infinitum, array_start, array_end, tag_of, atom_of}
use Rattle.osc_message.specs.Tags.{is_word_tag, is_long_tag, is_text_tag, is_blob_tag, is_bare_tag, is_unknown}
use Rattle.osc_message.specs.Wants.{StartsWithArgument, NamesArgumentFault, of_word, of_long, of_text, of_blob}
use Rattle.osc_message.specs.ArgumentReading.{argument_read}

-- which tag a known tag is
data WordTag : ℕ → Type 0 where
  i_tag : WordTag 105
  f_tag : WordTag 102
  c_tag : WordTag 99
  r_tag : WordTag 114
  m_tag : WordTag 109

data LongTag : ℕ → Type 0 where
  h_tag : LongTag 104
  t_tag : LongTag 116
  d_tag : LongTag 100

data TextTag : ℕ → Type 0 where
  s_tag : TextTag 115
  big_s_tag : TextTag 83

data BareTag : ℕ → Type 0 where
  true_tag : BareTag 84
  false_tag : BareTag 70
  nil_tag : BareTag 78
  infinitum_tag : BareTag 73
  start_tag : BareTag 91
  end_tag : BareTag 93

-- the last of some tests, or one before it
either : (P : ℕ → Type 0) (tag one : ℕ) (front : Bool) → P one → (front ≡ true → P tag) → (front || (tag == one)) ≡ true → P tag
either P tag one front here there is = go front refl is where
  go : (b : Bool) → front ≡ b → (b || (tag == one)) ≡ true → P tag
  go true e is = there e
  go false e is = subst P (sym (eqb-true tag one is)) here

only : (P : ℕ → Type 0) (tag one : ℕ) → P one → (tag == one) ≡ true → P tag
only P tag one here e = subst P (sym (eqb-true tag one e)) here

word_tag : (tag : ℕ) → is_word_tag tag ≡ true → WordTag tag
word_tag tag is =
    (either WordTag tag 109 (tag == 105 || tag == 102 || tag == 99 || tag == 114) m_tag
    (either WordTag tag 114 (tag == 105 || tag == 102 || tag == 99) r_tag
    (either WordTag tag 99 (tag == 105 || tag == 102) c_tag
    (either WordTag tag 102 (tag == 105) f_tag
    (only WordTag tag 105 i_tag))))) is

long_tag : (tag : ℕ) → is_long_tag tag ≡ true → LongTag tag
long_tag tag is =
    (either LongTag tag 100 (tag == 104 || tag == 116) d_tag
    (either LongTag tag 116 (tag == 104) t_tag
    (only LongTag tag 104 h_tag))) is

text_tag : (tag : ℕ) → is_text_tag tag ≡ true → TextTag tag
text_tag tag is =
    (either TextTag tag 83 (tag == 115) big_s_tag
    (only TextTag tag 115 s_tag)) is

bare_tag : (tag : ℕ) → is_bare_tag tag ≡ true → BareTag tag
bare_tag tag is =
    (either BareTag tag 93 (tag == 84 || tag == 70 || tag == 78 || tag == 73 || tag == 91) end_tag
    (either BareTag tag 91 (tag == 84 || tag == 70 || tag == 78 || tag == 73) start_tag
    (either BareTag tag 73 (tag == 84 || tag == 70 || tag == 78) infinitum_tag
    (either BareTag tag 78 (tag == 84 || tag == 70) nil_tag
    (either BareTag tag 70 (tag == 84) false_tag
    (only BareTag tag 84 true_tag)))))) is

-- the five kinds of tags
data Kind (tag : ℕ) : Type 0 where
  a_word : is_word_tag tag ≡ true → Kind tag
  a_long : is_long_tag tag ≡ true → Kind tag
  a_text : is_text_tag tag ≡ true → Kind tag
  a_blob : is_blob_tag tag ≡ true → Kind tag
  a_bare : is_bare_tag tag ≡ true → Kind tag

kind_of : (tag : ℕ) → is_unknown tag ≡ false → Kind tag
kind_of tag known = go (is_word_tag tag) refl (is_long_tag tag) refl (is_text_tag tag) refl (is_blob_tag tag) refl (is_bare_tag tag) refl known where
  go : (a : Bool) → is_word_tag tag ≡ a → (b : Bool) → is_long_tag tag ≡ b → (c : Bool) → is_text_tag tag ≡ c → (d : Bool) → is_blob_tag tag ≡ d → (e : Bool)
      → is_bare_tag tag ≡ e → not (a || b || c || d || e) ≡ false → Kind tag
  go true p b q c r d s e t is = a_word p
  go false p true q c r d s e t is = a_long q
  go false p false q true r d s e t is = a_text r
  go false p false q false r true s e t is = a_blob s
  go false p false q false r false s true t is = a_bare t
  go false p false q false r false s false t is = absurd (cc)

-- every atom has a size that is a multiple of 4
pub string_fours : (bytes : List ℕ) → length (string bytes) % 4 ≡ 0
string_fours bytes = omega (arith, length-string bytes)

blob_fours : (bytes : List ℕ) → length (blob bytes) % 4 ≡ 0
blob_fours bytes = omega (arith, length-append bytes (replicate (blob_end (length bytes)) 0), length-replicate {A = ℕ} (blob_end (length bytes)) 0)

pub atom_fours : (argument : Argument) → length (atom_of argument) % 4 ≡ 0
atom_fours (integer number) = refl
atom_fours (float bits) = refl
atom_fours (text bytes) = string_fours bytes
atom_fours (content bytes) = blob_fours bytes
atom_fours (long number) = refl
atom_fours (time number) = refl
atom_fours (double bits) = refl
atom_fours (symbol bytes) = string_fours bytes
atom_fours (character number) = refl
atom_fours (rgba number) = refl
atom_fours (midi number) = refl
atom_fours true_ = refl
atom_fours false_ = refl
atom_fours nil = refl
atom_fours infinitum = refl
atom_fours array_start = refl
atom_fours array_end = refl

-- what is read, as an argument
abbrev kept : {X : Type 0} → (X → Argument) → Result (X × ℕ) Fault → Result (Argument × ℕ) Fault
kept make r = and_then r (λ x. Ok (make x.0, x.1))

-- what stands is read
word_case : (make : ℕ → Argument) (bytes : List ℕ) (at number : ℕ) → number < 2 ^ 32 → StartsWith bytes at (word number)
    → kept make (word_read bytes at) ≡ Ok (make number, at + 4)
word_case make bytes at number fits written = ap (kept make) (word_again bytes at number (record { fits = fits; written = written }))

long_case : (make : ℕ → Argument) (bytes : List ℕ) (at number : ℕ) → number < 2 ^ 64 → StartsWith bytes at (tag number)
    → kept make (tag_read bytes at) ≡ Ok (make number, at + 8)
long_case make bytes at number fits written = ap (kept make) (tag_again bytes at number (record { fits = fits; written = written }))

bare_case : (argument : Argument) (at : ℕ) → ◌≡◌ {A = Result (Argument × ℕ) Fault} (Ok (argument, at)) (Ok (argument, at + 0))
bare_case argument at = ap (λ (n : ℕ). Ok (argument, n)) (sym (add-zero at))

pub argument_again : (bytes : List ℕ) (at : ℕ) (argument : Argument) → StartsWithArgument bytes at argument
    → argument_read (tag_of argument) bytes at ≡ Ok (argument, at + length (atom_of argument))
argument_again bytes at (integer number) stands =
    word_case (λ n. integer (cast_signed w32 n)) bytes at (cast_unsigned w32 number) (Fits-lt-pow (Fits-of_z {w = w32} {z = number} stands.fits)) stands.written
    ∙ ap (λ (z : ℤ). Ok (integer z, at + 4)) (to_z-of_z w32 number stands.fits)
argument_again bytes at (float bits) stands = word_case float bytes at bits stands.fits stands.written
argument_again bytes at (text t) stands = ap (kept text) (string_again bytes at t (record { no_zero = stands.fits; written = stands.written }))
argument_again bytes at (content b) stands = ap (kept content) (blob_again bytes at b (record { fits = stands.fits; written = stands.written }))
argument_again bytes at (long number) stands =
    long_case (λ n. long (cast_signed w64 n)) bytes at (cast_unsigned w64 number) (Fits-lt-pow (Fits-of_z {w = w64} {z = number} stands.fits)) stands.written
    ∙ ap (λ (z : ℤ). Ok (long z, at + 8)) (to_z-of_z w64 number stands.fits)
argument_again bytes at (time number) stands = long_case time bytes at number stands.fits stands.written
argument_again bytes at (double bits) stands = long_case double bytes at bits stands.fits stands.written
argument_again bytes at (symbol t) stands = ap (kept symbol) (string_again bytes at t (record { no_zero = stands.fits; written = stands.written }))
argument_again bytes at (character number) stands = word_case character bytes at number stands.fits stands.written
argument_again bytes at (rgba number) stands = word_case rgba bytes at number stands.fits stands.written
argument_again bytes at (midi number) stands = word_case midi bytes at number stands.fits stands.written
argument_again bytes at true_ stands = bare_case true_ at
argument_again bytes at false_ stands = bare_case false_ at
argument_again bytes at nil stands = bare_case nil at
argument_again bytes at infinitum stands = bare_case infinitum at
argument_again bytes at array_start stands = bare_case array_start at
argument_again bytes at array_end stands = bare_case array_end at

-- what doesn't stand is named

pub argument_fault_again : (tag : ℕ) (bytes : List ℕ) (at : ℕ) (fault : Fault) → length (drop at bytes) % 4 ≡ 0 → NamesArgumentFault tag bytes at fault
    → argument_read tag bytes at ≡ Err fault
argument_fault_again tag bytes at fault whole (of_word is names) = go tag (word_tag tag is) where
  go : (t : ℕ) → WordTag t → argument_read t bytes at ≡ Err fault
  go t i_tag = ap (kept (λ n. integer (cast_signed w32 n))) (word_fault_again bytes at fault names)
  go t f_tag = ap (kept float) (word_fault_again bytes at fault names)
  go t c_tag = ap (kept character) (word_fault_again bytes at fault names)
  go t r_tag = ap (kept rgba) (word_fault_again bytes at fault names)
  go t m_tag = ap (kept midi) (word_fault_again bytes at fault names)
argument_fault_again tag bytes at fault whole (of_long is names) = go tag (long_tag tag is) where
  go : (t : ℕ) → LongTag t → argument_read t bytes at ≡ Err fault
  go t h_tag = ap (kept (λ n. long (cast_signed w64 n))) (tag_fault_again bytes at fault names)
  go t t_tag = ap (kept time) (tag_fault_again bytes at fault names)
  go t d_tag = ap (kept double) (tag_fault_again bytes at fault names)
argument_fault_again tag bytes at fault whole (of_text is names) = go tag (text_tag tag is) where
  go : (t : ℕ) → TextTag t → argument_read t bytes at ≡ Err fault
  go t s_tag = ap (kept text) (string_fault_again bytes at fault names)
  go t big_s_tag = ap (kept symbol) (string_fault_again bytes at fault names)
argument_fault_again tag bytes at fault whole (of_blob is names) =
    ap (λ t. argument_read t bytes at) (eqb-true tag 98 is) ∙ ap (kept content) (blob_fault_again bytes at fault whole names)

-- the argument of a tag stands, or its fault is named
pub record Standing (tag : ℕ) (bytes : List ℕ) (at : ℕ) : Type 0 where
  pub argument : Argument
  pub tagged : tag_of argument ≡ tag
  pub stands : StartsWithArgument bytes at argument

pub record Failing (tag : ℕ) (bytes : List ℕ) (at : ℕ) : Type 0 where
  pub fault : Fault
  pub names : NamesArgumentFault tag bytes at fault

abbrev pub ArgumentSeen : ℕ → List ℕ → ℕ → Type 0
ArgumentSeen tag bytes at = Standing tag bytes at ⊎ Failing tag bytes at

signed_word : (bytes : List ℕ) (at number : ℕ) → StartsWithWord bytes at number → StartsWith bytes at (word (cast_unsigned w32 (cast_signed w32 number)))
signed_word bytes at number stands = subst (λ (n : ℕ). StartsWith bytes at (word n)) (sym (of_z-to_z w32 number stands.fits)) stands.written

signed_tag : (bytes : List ℕ) (at number : ℕ) → StartsWithTag bytes at number → StartsWith bytes at (tag (cast_unsigned w64 (cast_signed w64 number)))
signed_tag bytes at number stands = subst (λ (n : ℕ). StartsWith bytes at (tag n)) (sym (of_z-to_z w64 number stands.fits)) stands.written

standing_word : (t : ℕ) (bytes : List ℕ) (at number : ℕ) → WordTag t → StartsWithWord bytes at number → Standing t bytes at
standing_word t bytes at number i_tag s =
    record {
      argument = integer (cast_signed w32 number);
      tagged = refl;
      stands = record { fits = read_sfits w32 number; written = signed_word bytes at number s };
    }
standing_word t bytes at number f_tag s = record { argument = float number; tagged = refl; stands = record { fits = s.fits; written = s.written } }
standing_word t bytes at number c_tag s = record { argument = character number; tagged = refl; stands = record { fits = s.fits; written = s.written } }
standing_word t bytes at number r_tag s = record { argument = rgba number; tagged = refl; stands = record { fits = s.fits; written = s.written } }
standing_word t bytes at number m_tag s = record { argument = midi number; tagged = refl; stands = record { fits = s.fits; written = s.written } }

standing_long : (t : ℕ) (bytes : List ℕ) (at number : ℕ) → LongTag t → StartsWithTag bytes at number → Standing t bytes at
standing_long t bytes at number h_tag s =
    record { argument = long (cast_signed w64 number); tagged = refl; stands = record { fits = read_sfits w64 number; written = signed_tag bytes at number s } }
standing_long t bytes at number t_tag s = record { argument = time number; tagged = refl; stands = record { fits = s.fits; written = s.written } }
standing_long t bytes at number d_tag s = record { argument = double number; tagged = refl; stands = record { fits = s.fits; written = s.written } }

standing_bare : (t : ℕ) (bytes : List ℕ) (at : ℕ) → BareTag t → Standing t bytes at
standing_bare t bytes at true_tag =
    record { argument = true_; tagged = refl; stands = record { fits = tt; written = record { rest = drop at bytes; parts = refl } } }
standing_bare t bytes at false_tag =
    record { argument = false_; tagged = refl; stands = record { fits = tt; written = record { rest = drop at bytes; parts = refl } } }
standing_bare t bytes at nil_tag =
    record { argument = nil; tagged = refl; stands = record { fits = tt; written = record { rest = drop at bytes; parts = refl } } }
standing_bare t bytes at infinitum_tag =
    record { argument = infinitum; tagged = refl; stands = record { fits = tt; written = record { rest = drop at bytes; parts = refl } } }
standing_bare t bytes at start_tag =
    record { argument = array_start; tagged = refl; stands = record { fits = tt; written = record { rest = drop at bytes; parts = refl } } }
standing_bare t bytes at end_tag =
    record { argument = array_end; tagged = refl; stands = record { fits = tt; written = record { rest = drop at bytes; parts = refl } } }

pub argument_seen : (tag : ℕ) (bytes : List ℕ) (at : ℕ) → is_unknown tag ≡ false → AreBytes bytes → length (drop at bytes) % 4 ≡ 0 → ArgumentSeen tag bytes at
argument_seen tag bytes at known small whole = go (kind_of tag known) where
  go : Kind tag → ArgumentSeen tag bytes at
  go (a_word is) = elim (word_seen bytes at small) [
    | inl given ↦ inl (standing_word tag bytes at given.value (word_tag tag is) given.stands)
    | inr refused ↦ inr (record { fault = refused.fault; names = of_word is refused.names })
  ]
  go (a_long is) = elim (tag_seen bytes at small) [
    | inl given ↦ inl (standing_long tag bytes at given.value (long_tag tag is) given.stands)
    | inr refused ↦ inr (record { fault = refused.fault; names = of_long is refused.names })
  ]
  go (a_text is) = elim (string_seen bytes at whole) [
    | inl given ↦ inl (standing_text tag (text_tag tag is) given.value (record { fits = given.stands.no_zero; written = given.stands.written }))
    | inr refused ↦ inr (record { fault = refused.fault; names = of_text is refused.names })
  ]
    where
      standing_text : (t : ℕ) → TextTag t → (s : List ℕ) → StartsWithArgument bytes at (text s) → Standing t bytes at
      standing_text t s_tag s stands = record { argument = text s; tagged = refl; stands = stands }
      standing_text t big_s_tag s stands = record { argument = symbol s; tagged = refl; stands = record { fits = stands.fits; written = stands.written } }
  go (a_blob is) = elim (blob_seen bytes at small whole) [
    | inl given ↦ inl
        (record {
          argument = content given.value;
          tagged = sym (eqb-true tag 98 is);
          stands = record { fits = given.stands.fits; written = given.stands.written };
        })
    | inr refused ↦ inr (record { fault = refused.fault; names = of_blob is refused.names })
  ]
  go (a_bare is) = inl (standing_bare tag bytes at (bare_tag tag is))
