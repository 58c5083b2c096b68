-- The word of any argument is read as this argument.
use Rattle.std.proofs.Common.{◌≡◌, ℕ, ◌<◌, ◌^◌, ◌&&◌, Bool, true, false, cond, nat_le, List, [], ◌∷◌, ◌++◌, length, take, Option, Result, Ok, refl, sym, ap, subst, ◌∙◌}
use Rattle.std.proofs.Common.{append_assoc}
use Rattle.std.specs.Prelude.{codes}
use Rattle.std.specs.Fmt.{decimal}
use Rattle.std.proofs.lemmas.Bool.{cond-true}
use Rattle.hex.specs.Hex.{encode_lower, encode_with}
use lib.Ieee.{binary32, binary64}
use Rattle.osc_atoms.specs.Atoms.{word, tag, AreBytes, has_no_zero}
use Rattle.osc_message.specs.Messages.{Argument, integer, float, text, content, long, time, double, symbol, character, rgba, midi, true_, false_, nil, infinitum}
use Rattle.osc_message.specs.Messages.{array_start, array_end, Fits}
use Rattle.osc_shown.specs.Texts.{quoted, all_shown, text_word as shown_text}
use Rattle.osc_shown.specs.Arguments.{is_finite, IsFloat, IsDouble, blob_text, character_text, IsWord}
use Rattle.osc_cues.specs.declared.fault.Fault.TheVariants.{NotText, NotBlob, NotCharacter, NotEight, NotSixteen}
use Rattle.osc_cues.specs.declared.fault.WordFault.{WordFault}
use Rattle.osc_cues.specs.Faults.{made, wrong_at}
use Rattle.osc_cues.specs.Numbers.{eight_read, sixteen_read, float_or, double_or}
use Rattle.osc_cues.specs.Quoted.{quoted_read, value_text}
use Rattle.osc_cues.specs.Arguments.{value_or, character_read, argument_read}
use Rattle.osc_shown_laws.specs.WholeArguments.{IsOfBytes, is_short, is_whole, cut_fault}
use Rattle.osc_shown_laws.proofs.Numbers.{long_64}
use Rattle.osc_shown_laws.proofs.NumberWords.{int_again}
use Rattle.osc_shown_laws.proofs.HexDigits.{eight_again, sixteen_again, blob_whole, blob_cut}
use Rattle.osc_shown_laws.proofs.QuotedTexts.{quote_first, text_whole, text_cut, uncut_read}
use Rattle.osc_shown_laws.proofs.FloatTexts.{float_again}
use Rattle.osc_shown_laws.proofs.DoubleTexts.{double_again}

-- the argument, where it is shown whole; else what is wrong with its word
abbrev pub read_again : Argument → Result Argument WordFault
read_again argument = cond (is_whole argument) (Ok argument) (cut_fault argument)

float_word : (bits : ℕ) (said : List ℕ) → bits < 2 ^ 32 → IsFloat bits said → argument_read said ≡ Ok (float bits)
float_word bits said small is = go (is_finite binary32 bits) refl where
  go : (t : Bool) → is_finite binary32 bits ≡ t → argument_read said ≡ Ok (float bits)
  go true finite = float_again bits said small finite (is.finite finite)
  go false other =
      ap argument_read (is.other other)
      ∙ ap (λ (read : Option ℕ). made float (float_or read 2 (encode_lower (word bits)))) (eight_again bits small)

double_word : (bits : ℕ) (said : List ℕ) → bits < 2 ^ 64 → IsDouble bits said → argument_read said ≡ Ok (double bits)
double_word bits said small is = go (is_finite binary64 bits) refl where
  go : (t : Bool) → is_finite binary64 bits ≡ t → argument_read said ≡ Ok (double bits)
  go true finite =
      let number = is.finite finite in
      ap argument_read number.2 ∙ ap (made double) (double_again bits number.0 small finite number.1)
  go false other =
      ap argument_read (is.other other)
      ∙ ap (λ (read : Option ℕ). made double (double_or read 2 (encode_lower (tag bits)))) (sixteen_again bits small)

-- texts

as_text : (word rest : List ℕ) → word ≡ 34 ∷ rest → argument_read word ≡ made text (quoted_read 0 word)
as_text word rest is = subst (λ (l : List ℕ). argument_read l ≡ made text (quoted_read 0 l)) (sym is) refl

as_value : (at : ℕ) (word rest : List ℕ) → word ≡ 34 ∷ rest → value_text at word ≡ quoted_read at word
as_value at word rest is = subst (λ (l : List ℕ). value_text at l ≡ quoted_read at l) (sym is) refl

text_word : (bytes : List ℕ) → has_no_zero bytes ≡ true → AreBytes bytes → argument_read (quoted bytes) ≡ read_again (text bytes)
text_word bytes none each =
    let first = quote_first bytes none each in
    as_text (quoted bytes) first.0 first.1 ∙ go (is_short bytes) refl where
      go : (t : Bool) → is_short bytes ≡ t → made text (quoted_read 0 (quoted bytes)) ≡ cond t (Ok (text bytes)) (wrong_at 0 NotText)
      go true short = ap (made text) (text_whole 0 bytes none each short)
      go false cut = ap (made text) (text_cut 0 bytes none each cut)

symbol_word : (bytes : List ℕ) → has_no_zero bytes ≡ true → AreBytes bytes
    → argument_read (codes "S:" ++ quoted bytes) ≡ read_again (symbol bytes)
symbol_word bytes none each =
    let first = quote_first bytes none each in
    ap (made symbol) (as_value 2 (quoted bytes) first.0 first.1) ∙ go (is_short bytes) refl where
      go : (t : Bool) → is_short bytes ≡ t → made symbol (quoted_read 2 (quoted bytes)) ≡ cond t (Ok (symbol bytes)) (wrong_at 2 NotText)
      go true short = ap (made symbol) (text_whole 2 bytes none each short)
      go false cut = ap (made symbol) (text_cut 2 bytes none each cut)

-- texts that are shown uncut

uncut_text : (bytes : List ℕ) → has_no_zero bytes ≡ true → AreBytes bytes → argument_read (shown_text true bytes) ≡ Ok (text bytes)
uncut_text bytes none each =
    as_text (shown_text true bytes) (all_shown bytes ++ 34 ∷ []) refl ∙ ap (made text) (uncut_read 0 bytes none each)

uncut_symbol : (bytes : List ℕ) → has_no_zero bytes ≡ true → AreBytes bytes → argument_read (codes "S:" ++ shown_text true bytes) ≡ Ok (symbol bytes)
uncut_symbol bytes none each =
    ap (made symbol) (as_value 2 (shown_text true bytes) (all_shown bytes ++ 34 ∷ []) refl ∙ uncut_read 2 bytes none each)

-- blobs

pub cut_word : (front size : List ℕ) → codes "b:" ++ front ++ codes ".." ++ size ≡ codes "b:" ++ (front ++ 46 ∷ 46 ∷ size)
cut_word front size = ap (λ (l : List ℕ). codes "b:" ++ l) (append_assoc front (46 ∷ 46 ∷ []) size)

blob_word : (bytes : List ℕ) → AreBytes bytes → argument_read (blob_text bytes) ≡ read_again (content bytes)
blob_word bytes each = go (nat_le (length bytes) 8) where
  go : (t : Bool)
      → argument_read (cond t (codes "b:" ++ encode_lower bytes) (codes "b:" ++ encode_lower (take 8 bytes) ++ codes ".." ++ decimal (length bytes)))
      ≡ cond t (Ok (content bytes)) (wrong_at 2 NotBlob)
  go true = ap (made content) (blob_whole bytes each)
  go false =
      ap argument_read (cut_word (encode_lower (take 8 bytes)) (decimal (length bytes)))
      ∙ ap (made content) (blob_cut (encode_lower (take 8 bytes)) (46 ∷ decimal (length bytes)))

-- characters

long_character : (number : ℕ) → character_read (encode_lower (word number)) ≡ eight_read (encode_lower (word number))
unfolding encode_with
long_character number = refl

character_word : (number : ℕ) → number < 2 ^ 32 → argument_read (character_text number) ≡ Ok (character number)
character_word number small = go (nat_le 33 number && nat_le number 126) refl where
  go : (t : Bool) → (nat_le 33 number && nat_le number 126) ≡ t
      → argument_read (cond t (codes "c:" ++ number ∷ []) (codes "c:" ++ encode_lower (word number))) ≡ Ok (character number)
  go true is = ap (λ (read : Option ℕ). made character (value_or NotCharacter read)) (cond-true _ _ _ is)
  go false is =
      ap (λ (read : Option ℕ). made character (value_or NotCharacter read)) (long_character number ∙ eight_again number small)

eight_word : (make : ℕ → Argument) (number : ℕ) → number < 2 ^ 32
    → made make (value_or NotEight (eight_read (encode_lower (word number)))) ≡ Ok (make number)
eight_word make number small = ap (λ (read : Option ℕ). made make (value_or NotEight read)) (eight_again number small)

time_word : (number : ℕ) → number < 2 ^ 64
    → made time (value_or NotSixteen (sixteen_read (encode_lower (tag number)))) ≡ Ok (time number)
time_word number small = ap (λ (read : Option ℕ). made time (value_or NotSixteen read)) (sixteen_again number small)

-- all kinds

pub word_again : (argument : Argument) (said : List ℕ) → Fits argument → IsOfBytes argument → IsWord false argument said
    → argument_read said ≡ read_again argument
word_again (integer number) said fits bytes is = ap argument_read is ∙ int_again number fits
word_again (float bits) said fits bytes is = float_word bits said fits is
word_again (text letters) said fits bytes is = ap argument_read is ∙ text_word letters fits bytes
word_again (content blob) said fits bytes is = ap argument_read is ∙ blob_word blob bytes
word_again (long number) said fits bytes is = ap argument_read is ∙ ap (made long) (long_64 2 number fits)
word_again (time number) said fits bytes is = ap argument_read is ∙ time_word number fits
word_again (double bits) said fits bytes is = double_word bits said fits is
word_again (symbol letters) said fits bytes is = ap argument_read is ∙ symbol_word letters fits bytes
word_again (character number) said fits bytes is = ap argument_read is ∙ character_word number fits
word_again (rgba number) said fits bytes is = ap argument_read is ∙ eight_word rgba number fits
word_again (midi number) said fits bytes is = ap argument_read is ∙ eight_word midi number fits
word_again true_ said fits bytes is = ap argument_read is
word_again false_ said fits bytes is = ap argument_read is
word_again nil said fits bytes is = ap argument_read is
word_again infinitum said fits bytes is = ap argument_read is
word_again array_start said fits bytes is = ap argument_read is
word_again array_end said fits bytes is = ap argument_read is

-- the same of words that are shown uncut, none of which is wrong

pub word_uncut : (argument : Argument) (said : List ℕ) → Fits argument → IsOfBytes argument → IsWord true argument said → argument_read said ≡ Ok argument
word_uncut (integer number) said fits bytes is = word_again (integer number) said fits bytes is
word_uncut (float bits) said fits bytes is = word_again (float bits) said fits bytes is
word_uncut (text letters) said fits bytes is = ap argument_read is ∙ uncut_text letters fits bytes
word_uncut (content blob) said fits bytes is = ap argument_read is ∙ ap (made content) (blob_whole blob bytes)
word_uncut (long number) said fits bytes is = word_again (long number) said fits bytes is
word_uncut (time number) said fits bytes is = word_again (time number) said fits bytes is
word_uncut (double bits) said fits bytes is = word_again (double bits) said fits bytes is
word_uncut (symbol letters) said fits bytes is = ap argument_read is ∙ uncut_symbol letters fits bytes
word_uncut (character number) said fits bytes is = word_again (character number) said fits bytes is
word_uncut (rgba number) said fits bytes is = word_again (rgba number) said fits bytes is
word_uncut (midi number) said fits bytes is = word_again (midi number) said fits bytes is
word_uncut true_ said fits bytes is = word_again true_ said fits bytes is
word_uncut false_ said fits bytes is = word_again false_ said fits bytes is
word_uncut nil said fits bytes is = word_again nil said fits bytes is
word_uncut infinitum said fits bytes is = word_again infinitum said fits bytes is
word_uncut array_start said fits bytes is = word_again array_start said fits bytes is
word_uncut array_end said fits bytes is = word_again array_end said fits bytes is
