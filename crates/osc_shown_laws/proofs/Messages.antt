-- The text of a message, read.
use Rattle.std.proofs.Common.{◌≡◌, ℕ, List, [], ◌++◌, length, drop, map, Option, Some, None, Result, Ok, refl, sym, ap, subst, ◌∙◌}
use Rattle.std.proofs.Common.{drop_at}
use Rattle.std.proofs.Common.{true, false, ◌∷◌}
use Rattle.std.specs.Prelude.{is_ok, is_some}
use Rattle.osc_message.specs.Messages.{Argument, tag_of, AllFit, bare, known, IsLawful, message_text}
use Rattle.osc_message.specs.Tags.{Balanced}
use Rattle.osc_message.specs.Reading.{pattern_of}
use Rattle.osc_message.specs.Arguments.{tags_of, unknown_of, message_arguments}
use Rattle.osc_shown.specs.Arguments.{AreWords}
use Rattle.osc_shown.specs.Lines.{IsMessageText}
use Rattle.osc_cues.specs.declared.fault.WordFault.{WordFault}
use Rattle.osc_cues.specs.Words.{spans_of, unscanned, scanned}
use Rattle.osc_cues.specs.Cues.{and_then, address_read, words_say}
use Rattle.osc_cues.proofs.BracketWords.{balanced}
use Rattle.osc_shown_laws.specs.WholeArguments.{AreOfBytes, are_whole}
use Rattle.osc_shown_laws.specs.Lines.{EndsBetween, said_after}
use Rattle.osc_shown_laws.proofs.Scans.{Span}
use Rattle.osc_shown_laws.proofs.ShownLines.{Says, message_after, says_message, says_none}

-- what a message is read as
abbrev pub IsReadAs : List ℕ → List ℕ → Option (List ℕ) → List Argument → Type 0
IsReadAs message pattern tags arguments =
    (pattern_of message ≡ pattern) × (tags_of message ≡ tags) × (message_arguments message ≡ arguments) × (unknown_of message ≡ None)

-- the words of such a message
pub record HasWords (pattern words : List ℕ) (arguments : List Argument) : Type 0 where
  pub said : List ℕ
  pub are : AreWords false arguments said
  pub whole : words ≡ pattern ++ said

pub has_words : (message pattern words : List ℕ) (tags : Option (List ℕ)) (arguments : List Argument)
    → IsReadAs message pattern tags arguments → IsMessageText false message words → HasWords pattern words arguments
has_words message pattern words tags arguments read is = record {
  said = is.said;
  are = subst (λ (l : List Argument). AreWords false l is.said) read.2 (is.known (ap is_some read.3));
  whole = is.text ∙ ap (λ (l : List ℕ). l ++ is.said) read.0;
}

pub words_after : (methods : List (List ℕ)) (front pattern words : List ℕ) (arguments : List Argument) → EndsBetween front → AllFit arguments
    → AreOfBytes arguments → address_read methods pattern ≡ Ok pattern → HasWords pattern words arguments
    → Says (front ++ words) pattern arguments (scanned 0 unscanned front).spans
words_after methods front pattern words arguments between fit bytes address is =
    subst (λ (l : List ℕ). Says (front ++ l) pattern arguments (scanned 0 unscanned front).spans)
    (sym is.whole) (message_after methods front pattern is.said arguments between address fit bytes is.are)

-- the words after a line's front
after_is : (methods : List (List ℕ)) (front words : List ℕ) (spans : List Span)
    → spans_of (front ++ words) ≡ Ok ((scanned 0 unscanned front).spans ++ spans)
    → said_after methods front words ≡ words_say methods (front ++ words) spans
after_is methods front words spans is =
    let before : List Span = (scanned 0 unscanned front).spans in
    ap (λ (read : Result (List Span) WordFault). and_then read (λ spans. words_say methods (front ++ words) (drop (length before) spans))) is
    ∙ ap (λ (spans : List Span). words_say methods (front ++ words) spans) (drop_at before spans (length before) refl)

message_is : (methods : List (List ℕ)) (front words pattern : List ℕ) (arguments : List Argument) → EndsBetween front → AllFit arguments
    → AreOfBytes arguments → are_whole arguments ≡ true → Balanced (map tag_of arguments) → address_read methods pattern ≡ Ok pattern
    → HasWords pattern words arguments → said_after methods front words ≡ Ok (message_text (known pattern arguments))
message_is methods front words pattern arguments between fit bytes whole even address has =
    let is = words_after methods front pattern words arguments between fit bytes address has in
    let says = says_message methods (front ++ words) pattern arguments (scanned 0 unscanned front).spans is address fit bytes whole even in
    after_is methods front words says.spans says.found ∙ says.says

pub known_again : {pattern : List ℕ} {arguments : List Argument}
    → IsReadAs (message_text (known pattern arguments)) pattern (Some (map tag_of arguments)) arguments
    → (methods : List (List ℕ)) (front words : List ℕ) → EndsBetween front → IsLawful (known pattern arguments) → AreOfBytes arguments
    → are_whole arguments ≡ true → address_read methods pattern ≡ Ok pattern → IsMessageText false (message_text (known pattern arguments)) words
    → said_after methods front words ≡ Ok (message_text (known pattern arguments))
known_again {pattern} {arguments} read methods front words between lawful bytes whole address is =
    message_is methods front words pattern arguments between lawful.1 bytes whole lawful.2 address
    (has_words (message_text (known pattern arguments)) pattern words (Some (map tag_of arguments)) arguments read is)

pub known_cut : {pattern : List ℕ} {arguments : List Argument}
    → IsReadAs (message_text (known pattern arguments)) pattern (Some (map tag_of arguments)) arguments
    → (methods : List (List ℕ)) (front words : List ℕ) → EndsBetween front → IsLawful (known pattern arguments) → AreOfBytes arguments
    → are_whole arguments ≡ false → address_read methods pattern ≡ Ok pattern → IsMessageText false (message_text (known pattern arguments)) words
    → is_ok (said_after methods front words) ≡ false
known_cut {pattern} {arguments} read methods front words between lawful bytes cut address is =
    let has = has_words (message_text (known pattern arguments)) pattern words (Some (map tag_of arguments)) arguments read is in
    let says = words_after methods front pattern words arguments between lawful.1 bytes address has in
    ap is_ok (after_is methods front words (says.first ∷ says.spans) says.found)
    ∙ says_none methods (front ++ words) pattern arguments (scanned 0 unscanned front).spans says address lawful.1 bytes cut

pub none_even : Balanced []
none_even = balanced [] [] [] refl refl

pub bare_again : {pattern : List ℕ} → IsReadAs (message_text (bare pattern)) pattern None []
    → (methods : List (List ℕ)) (front words : List ℕ) → EndsBetween front → address_read methods pattern ≡ Ok pattern
    → IsMessageText false (message_text (bare pattern)) words → said_after methods front words ≡ Ok (message_text (known pattern []))
bare_again {pattern} read methods front words between address is =
    message_is methods front words pattern [] between tt tt refl none_even address
    (has_words (message_text (bare pattern)) pattern words None [] read is)

-- a message without a tag string is shown as one with an empty one
pub bare_alike : {pattern : List ℕ} → IsReadAs (message_text (bare pattern)) pattern None []
    → IsReadAs (message_text (known pattern [])) pattern (Some []) [] → (words : List ℕ) → IsMessageText false (message_text (bare pattern)) words
    → IsMessageText false (message_text (known pattern [])) words
bare_alike {pattern} read other words is =
    let has = has_words (message_text (bare pattern)) pattern words None [] read is in
    record {
      said = has.said;
      known = λ none. subst (λ (l : List Argument). AreWords false l has.said) (sym other.2) has.are;
      unknown = λ some. absurd (let none = ap is_some other.3 in cc (none, some));
      text = has.whole ∙ ap (λ (l : List ℕ). l ++ has.said) (sym other.0);
    }
