-- The words of a message, found in a line and read.
use Rattle.std.proofs.Common.{◌≡◌, ℕ, suc, ◌+◌, ◌≤◌, ◌&&◌, ◌||◌, Bool, true, false, cond, nat_lt, List, [], ◌∷◌, ◌++◌, length, map, Option, Some, None, Result, Ok, refl, sym, ap, subst, ◌∙◌}
use Rattle.std.proofs.Common.{Err, arith, eqb-true, append_assoc, length-append}
use Rattle.osc_shown.specs.Arguments.{IsWord}
use Rattle.std.specs.Prelude.{is_ok, position}
use Rattle.std.specs.List.{list_all, list_any, position_or_len}
use Rattle.std.proofs.lemmas.Bool.Decides.{nat_tests}
use Rattle.osc_pattern.specs.Patterns.{begins_with_slash}
use Rattle.osc_pattern.proofs.Cutting.{none_past}
use Rattle.osc_message.specs.Messages.{Argument, tag_of, AllFit, known, message_text}
use Rattle.osc_message.specs.Tags.{Balanced}
use Rattle.osc_shown.specs.Arguments.{AreWords}
use Rattle.osc_cues.specs.declared.fault.Fault.TheVariants.{NotAddress}
use Rattle.osc_cues.specs.declared.fault.WordFault.{WordFault}
use Rattle.osc_cues.specs.Words.{unscanned, scanned, step, finished_at, spans_of, word_at}
use Rattle.osc_cues.specs.Cues.{and_then, moved, arguments_at, is_bad, name_fault, address_fault, answered, address_read, fault_at, unless, brackets_fault, message_at, words_say}
use Rattle.osc_shown_laws.specs.WholeArguments.{AreOfBytes, are_whole}
use Rattle.osc_shown_laws.proofs.Scans.{Scan, Mode, Span, Between, state, span, is_solid, BeginsPlain, IsFound, found_plain}
use Rattle.osc_shown_laws.proofs.FoundWords.{word_placed}
use Rattle.osc_shown_laws.proofs.Lines.{AreBrackets, HaveWords, read_whole, read_cut, follow, word_is}
use Rattle.osc_shown_laws.proofs.NestedBrackets.{no_fault}

-- The words of arguments alone.

-- what a line of such words has
pub record SaysArguments (said : List ℕ) (arguments : List Argument) : Type 0 where
  pub spans : List Span
  pub found : spans_of said ≡ Ok spans
  pub words : HaveWords said arguments spans

none_are : (said : List ℕ) → said ≡ [] → SaysArguments said []
none_are said is = subst (λ (l : List ℕ). SaysArguments l []) (sym is) (record { spans = []; found = refl; words = tt })

pub arguments_said : (arguments : List Argument) (said : List ℕ) → AllFit arguments → AreOfBytes arguments → AreWords false arguments said
    → SaysArguments said arguments
arguments_said [] said fit bytes are = none_are said are
arguments_said (argument ∷ arguments) said fit bytes are =
    let one : List ℕ = are.0 in
    let others : List ℕ = are.1 in
    let said_is : said ≡ 32 ∷ (one ++ others) = are.4 in
    let placed = word_placed argument one fit.0 bytes.0 are.2 in
    let found = placed.found 1 0 0 [] in
    let rest = follow arguments others fit.1 bytes.1 are.3 said (32 ∷ one) (1 + length one) 1 found.quote [] said_is (omega arith) in
    let here : word_at said (span 1 (1 + length one)) ≡ one =
    word_is (32 ∷ []) one others said 1 (1 + length one) said_is refl refl in
    record {
      spans = span 1 (1 + length one) ∷ rest.more;
      found =
          ap (λ (l : List ℕ). finished_at (scanned 0 unscanned l) (length said)) said_is
          ∙ ap (λ (s : Scan). finished_at s (length said)) (found.is others) ∙ rest.found;
      words = (subst (IsWord false argument) (sym here) are.2, rest.words);
    }

pub arguments_again : (arguments : List Argument) (said : List ℕ) → AllFit arguments → AreOfBytes arguments → are_whole arguments ≡ true
    → AreWords false arguments said → and_then (spans_of said) (λ spans. arguments_at said spans) ≡ Ok arguments
arguments_again arguments said fit bytes whole are =
    let is = arguments_said arguments said fit bytes are in
    ap (λ (read : Result (List Span) WordFault). and_then read (λ spans. arguments_at said spans)) is.found
    ∙ read_whole said arguments is.spans fit bytes whole is.words

pub arguments_cut : (arguments : List Argument) (said : List ℕ) → AllFit arguments → AreOfBytes arguments → are_whole arguments ≡ false
    → AreWords false arguments said → is_ok (and_then (spans_of said) (λ spans. arguments_at said spans)) ≡ false
arguments_cut arguments said fit bytes cut are =
    let is = arguments_said arguments said fit bytes are in
    ap (λ (read : Result (List Span) WordFault). is_ok (and_then read (λ spans. arguments_at said spans))) is.found
    ∙ read_cut said arguments is.spans fit bytes cut is.words

-- An address that a sheet takes is one word.

not_below : (m n : ℕ) → nat_lt m n ≡ false → n ≤ m
not_below m n is = grind (arith, nat_tests)

no_place : (word : List ℕ) → position is_bad word ≡ None → list_any is_bad word ≡ false
no_place word none = none_past is_bad word (go (nat_lt (position_or_len is_bad word) (length word)) refl none) where
  go : (t : Bool) → nat_lt (position_or_len is_bad word) (length word) ≡ t
      → cond t (Some (position_or_len is_bad word)) None ≡ None → length word ≤ position_or_len is_bad word
  go true is none = absurd (cc)
  go false is none = not_below (position_or_len is_bad word) (length word) is

good_solid : (byte : ℕ) → is_bad byte ≡ false → is_solid byte ≡ true
good_solid byte is = grind (arith, nat_tests)

pub all_solid : (word : List ℕ) → list_any is_bad word ≡ false → list_all is_solid word ≡ true
all_solid [] none = refl
all_solid (byte ∷ word) none = go (is_bad byte) refl none (all_solid word) where
  go : (t : Bool) → is_bad byte ≡ t → (t || list_any is_bad word) ≡ false → (list_any is_bad word ≡ false → list_all is_solid word ≡ true)
      → (is_solid byte && list_all is_solid word) ≡ true
  go true is none later = absurd (cc)
  go false is none later = ap (λ (b : Bool). b && list_all is_solid word) (good_solid byte is) ∙ later none

pub no_fault_of : (methods : List (List ℕ)) (word address : List ℕ) → address_read methods word ≡ Ok address → address_fault word ≡ None
no_fault_of methods word address is = go (address_fault word) refl is where
  go : (fault : Option WordFault) → address_fault word ≡ fault → answered methods word fault ≡ Ok address → fault ≡ None
  go None same read = refl
  go (Some fault) same read = absurd (cc)

pub record IsClean (word : List ℕ) : Type 0 where
  pub slash : begins_with_slash word ≡ true
  pub good : list_any is_bad word ≡ false

pub clean : (word : List ℕ) → address_fault word ≡ None → IsClean word
clean word none = go (begins_with_slash word) (position is_bad word) refl refl none where
  go : (t : Bool) (place : Option ℕ) → begins_with_slash word ≡ t → position is_bad word ≡ place
      → cond t (name_fault word place) (Some (fault_at 0 NotAddress)) ≡ None → IsClean word
  go true None one other none = record { slash = one; good = no_place word other }
  go true (Some place) one other none = absurd (cc)
  go false place one other none = absurd (cc)

slash_plain : (first : ℕ) → first ≡ 47 → BeginsPlain first
slash_plain first is = subst BeginsPlain (sym is) (record { blank = refl; hash = refl; mode = refl; solid = refl })

rest_good : (t u : Bool) → (t || u) ≡ false → u ≡ false
rest_good true u is = absurd (cc)
rest_good false u is = is

address_found : (word : List ℕ) → IsClean word → IsFound word
address_found [] is = absurd (let slash = is.slash in cc slash)
address_found (first ∷ rest) is =
    found_plain first rest (slash_plain first (eqb-true first 47 is.slash))
    (all_solid rest (rest_good (is_bad first) (list_any is_bad rest) is.good))

-- The words of a message, after others.

scanned_on : (front rest : List ℕ) (place : ℕ) (scan : Scan)
    → scanned place scan (front ++ rest) ≡ scanned (place + length front) (scanned place scan front) rest
scanned_on [] rest place scan = ap (λ (n : ℕ). scanned n scan rest) (omega arith)
scanned_on (byte ∷ front) rest place scan =
    let sum : place + 1 + length front ≡ place + suc (length front) = omega arith in
    scanned_on front rest (place + 1) (step scan.mode scan place byte)
    ∙ ap (λ (n : ℕ). scanned n (scanned (place + 1) (step scan.mode scan place byte) front) rest) sum

-- what a line has after its front
pub record Says (line pattern : List ℕ) (arguments : List Argument) (before : List Span) : Type 0 where
  pub first : Span
  pub spans : List Span
  pub found : spans_of line ≡ Ok (before ++ (first ∷ spans))
  pub here : word_at line first ≡ pattern
  pub words : HaveWords line arguments spans
  pub brackets : AreBrackets line arguments spans

pub message_after : (methods : List (List ℕ)) (front pattern said : List ℕ) (arguments : List Argument)
    → (scanned 0 unscanned front).mode ≡ Between → address_read methods pattern ≡ Ok pattern → AllFit arguments → AreOfBytes arguments
    → AreWords false arguments said → Says (front ++ (pattern ++ said)) pattern arguments (scanned 0 unscanned front).spans
message_after methods front pattern said arguments between address fit bytes are =
    let line : List ℕ = front ++ (pattern ++ said) in
    let scan : Scan = scanned 0 unscanned front in
    let place : ℕ = length front in
    let next : ℕ = place + length pattern in
    let found = address_found pattern (clean pattern (no_fault_of methods pattern pattern address)) place scan.begun scan.opened scan.spans in
    let before : List ℕ = front ++ pattern in
    let rest = follow arguments said fit bytes are line before next place found.quote scan.spans (sym (append_assoc front pattern said))
    (sym (length-append front pattern)) in
    let settled : scan ≡ state Between scan.begun scan.opened scan.spans =
    ap (λ (m : Mode). state m scan.begun scan.opened scan.spans) between in
    let start : 0 + place ≡ place = omega arith in
    record {
      first = span place next;
      spans = rest.more;
      found =
          ap (λ (s : Scan). finished_at s (length line))
          (scanned_on front (pattern ++ said) 0 unscanned
          ∙ ap (λ (n : ℕ). scanned n scan (pattern ++ said)) start
          ∙ ap (λ (s : Scan). scanned place s (pattern ++ said)) settled
          ∙ found.is said)
          ∙ rest.found
          ∙ ap (λ (l : List Span). Ok l) (append_assoc scan.spans (span place next ∷ []) rest.more);
      here = word_is front pattern said line place next refl refl refl;
      words = rest.words;
      brackets = rest.brackets;
    }

-- the message that they say
pub record SaysMessage (methods : List (List ℕ)) (line message : List ℕ) (before : List Span) : Type 0 where
  pub spans : List Span
  pub found : spans_of line ≡ Ok (before ++ spans)
  pub says : words_say methods line spans ≡ Ok message

address_first : (methods : List (List ℕ)) (line pattern : List ℕ) (first : Span) (spans : List Span) → word_at line first ≡ pattern
    → address_read methods pattern ≡ Ok pattern → words_say methods line (first ∷ spans) ≡ message_at line spans pattern
address_first methods line pattern first spans is address =
    ap (λ (read : Result (List ℕ) WordFault). and_then (moved first.from read) (message_at line spans)) (ap (address_read methods) is ∙ address)

pub says_message : (methods : List (List ℕ)) (line pattern : List ℕ) (arguments : List Argument) (before : List Span)
    → Says line pattern arguments before → address_read methods pattern ≡ Ok pattern → AllFit arguments → AreOfBytes arguments
    → are_whole arguments ≡ true → Balanced (map tag_of arguments)
    → SaysMessage methods line (message_text (known pattern arguments)) before
says_message methods line pattern arguments before is address fit bytes whole even = record {
  spans = is.first ∷ is.spans;
  found = is.found;
  says =
      address_first methods line pattern is.first is.spans is.here address
      ∙ ap (λ (read : Result (List Argument) WordFault).
      and_then read (λ arguments. unless (brackets_fault line is.spans) (message_text (known pattern arguments))))
      (read_whole line arguments is.spans fit bytes whole is.words)
      ∙ ap (λ (fault : Option WordFault). unless fault (message_text (known pattern arguments)))
      (no_fault line arguments is.spans is.brackets even);
}

wrong_then : {X Y : Type 0} (read : Result X WordFault) (next : X → Result Y WordFault) → is_ok read ≡ false → is_ok (and_then read next) ≡ false
wrong_then (Ok value) next isnt = absurd (cc)
wrong_then (Err wrong) next isnt = refl

-- or none, where a word was cut short
pub says_none : (methods : List (List ℕ)) (line pattern : List ℕ) (arguments : List Argument) (before : List Span)
    → (is : Says line pattern arguments before) → address_read methods pattern ≡ Ok pattern → AllFit arguments → AreOfBytes arguments
    → are_whole arguments ≡ false → is_ok (words_say methods line (is.first ∷ is.spans)) ≡ false
says_none methods line pattern arguments before is address fit bytes cut =
    ap is_ok (address_first methods line pattern is.first is.spans is.here address)
    ∙ wrong_then (arguments_at line is.spans) (λ arguments. unless (brackets_fault line is.spans) (message_text (known pattern arguments)))
    (read_cut line arguments is.spans fit bytes cut is.words)
