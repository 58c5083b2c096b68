-- The words of arguments, found in a line and read.
use Rattle.std.proofs.Common.{◌≡◌, ℕ, ◌+◌, ◌-◌, ◌==◌, true, min, List, [], ◌∷◌, ◌++◌, length, take, drop, Result, Ok, refl, sym, ap, ◌∙◌}
use Rattle.std.specs.Prelude.{is_ok}
use Rattle.osc_message.specs.Messages.{integer, float, text, content, long, time, double, symbol, character, rgba, midi, true_, false_, nil, infinitum}
use Rattle.osc_message.specs.Messages.{array_start, array_end}
use Rattle.std.proofs.Common.{Err, subst, ◌&&◌, Bool, true, false, arith, append_assoc, append-nil, length-append, take_at, drop_at}
use Rattle.std.specs.Prelude.{codes, bytes_eq}
use Rattle.std.proofs.lemmas.Bool.{cond-false, cond-true}
use Rattle.osc_message.specs.Messages.{Argument, tag_of, Fits, AllFit}
use Rattle.osc_shown.specs.Arguments.{IsWord, AreWords}
use Rattle.osc_cues.specs.declared.fault.WordFault.{WordFault}
use Rattle.osc_cues.specs.Faults.{made}
use Rattle.osc_cues.specs.Words.{scanned, finished_at, word_at}
use Rattle.osc_cues.specs.Arguments.{argument_read}
use Rattle.osc_cues.specs.Cues.{and_then, moved, arguments_at}
use Rattle.osc_shown_laws.specs.WholeArguments.{IsOfBytes, is_whole, cut_fault, AreOfBytes, are_whole}
use Rattle.osc_shown_laws.proofs.Scans.{Scan, Span, Plain, state, span}
use Rattle.osc_shown_laws.proofs.Words.{read_again, word_again}
use Rattle.osc_shown_laws.proofs.FoundWords.{IsPlaced, word_placed}

-- the word of a whole argument is read as it
pub whole_again : (argument : Argument) (said : List ℕ) → Fits argument → IsOfBytes argument → is_whole argument ≡ true → IsWord false argument said
    → argument_read said ≡ Ok argument
whole_again argument said fits bytes whole is = word_again argument said fits bytes is ∙ cond-true _ _ _ whole

-- the word at its place
pub word_is : (front one rest line : List ℕ) (from to : ℕ) → line ≡ front ++ (one ++ rest) → from ≡ length front → to ≡ length front + length one
    → word_at line (span from to) ≡ one
word_is front one rest line from to is begins ends =
    let long : length line ≡ length front + (length one + length rest) =
    ap length is ∙ length-append front (one ++ rest) ∙ ap (λ (n : ℕ). length front + n) (length-append one rest) in
    let end : min to (length line) ≡ length front + length one = omega (arith, ends, long) in
    let start : min from (min to (length line)) ≡ length front = omega (arith, begins, end) in
    let size : min to (length line) - min from (min to (length line)) ≡ length one = omega (arith, start, end) in
    ap (λ (n : ℕ). take n (drop (min from (min to (length line))) line)) size
    ∙ ap (λ (n : ℕ). take (length one) (drop n line)) start
    ∙ ap (λ (l : List ℕ). take (length one) (drop (length front) l)) is
    ∙ ap (take (length one)) (drop_at front (one ++ rest) (length front) refl)
    ∙ take_at one rest (length one) refl

-- the words at these places are brackets where the arguments are
abbrev pub AreBrackets : List ℕ → List Argument → List Span → Type 0
AreBrackets line [] [] = Unit {0}
AreBrackets line (argument ∷ arguments) (one ∷ spans) =
    (bytes_eq (word_at line one) (codes "[") ≡ (tag_of argument == 91))
    × (bytes_eq (word_at line one) (codes "]") ≡ (tag_of argument == 93)) × AreBrackets line arguments spans
AreBrackets line [] (one ∷ spans) = ⊥
AreBrackets line (argument ∷ arguments) [] = ⊥

-- the words at these places are those of the arguments
abbrev pub HaveWords : List ℕ → List Argument → List Span → Type 0
HaveWords line [] [] = Unit {0}
HaveWords line (argument ∷ arguments) (one ∷ spans) = IsWord false argument (word_at line one) × HaveWords line arguments spans
HaveWords line [] (one ∷ spans) = ⊥
HaveWords line (argument ∷ arguments) [] = ⊥

-- Reading them.

both_true : (t u : Bool) → (t && u) ≡ true → (t ≡ true) × (u ≡ true)
both_true true u is = (refl, is)
both_true false u is = absurd (cc)

one_read : (line : List ℕ) (one : Span) (spans : List Span) (read : Result Argument WordFault) → argument_read (word_at line one) ≡ read
    → arguments_at line (one ∷ spans)
    ≡ and_then (moved one.from read) (λ argument. made (λ arguments. argument ∷ arguments) (arguments_at line spans))
one_read line one spans read is =
    ap (λ (read : Result Argument WordFault).
    and_then (moved one.from read) (λ argument. made (λ arguments. argument ∷ arguments) (arguments_at line spans))) is

pub read_whole : (line : List ℕ) (arguments : List Argument) (spans : List Span) → AllFit arguments → AreOfBytes arguments
    → are_whole arguments ≡ true → HaveWords line arguments spans → arguments_at line spans ≡ Ok arguments
read_whole line [] [] fit bytes whole have = refl
read_whole line [] (one ∷ spans) fit bytes whole have = absurd have
read_whole line (argument ∷ arguments) [] fit bytes whole have = absurd have
read_whole line (argument ∷ arguments) (one ∷ spans) fit bytes whole have =
    let parts = both_true (is_whole argument) (are_whole arguments) whole in
    one_read line one spans (Ok argument) (whole_again argument (word_at line one) fit.0 bytes.0 parts.0 have.0)
    ∙ ap (made (λ (others : List Argument). argument ∷ others)) (read_whole line arguments spans fit.1 bytes.1 parts.1 have.1)

cut_wrong : (argument : Argument) → is_ok (cut_fault argument) ≡ false
cut_wrong (integer number) = refl
cut_wrong (float bits) = refl
cut_wrong (text letters) = refl
cut_wrong (content blob) = refl
cut_wrong (long number) = refl
cut_wrong (time number) = refl
cut_wrong (double bits) = refl
cut_wrong (symbol letters) = refl
cut_wrong (character number) = refl
cut_wrong (rgba number) = refl
cut_wrong (midi number) = refl
cut_wrong true_ = refl
cut_wrong false_ = refl
cut_wrong nil = refl
cut_wrong infinitum = refl
cut_wrong array_start = refl
cut_wrong array_end = refl

made_wrong : {X Y : Type 0} (f : X → Y) (read : Result X WordFault) → is_ok read ≡ false → is_ok (made f read) ≡ false
made_wrong f (Ok value) isnt = absurd (cc)
made_wrong f (Err wrong) isnt = refl

then_wrong : {X Y : Type 0} (from : ℕ) (read : Result X WordFault) (next : X → Result Y WordFault) → is_ok read ≡ false
    → is_ok (and_then (moved from read) next) ≡ false
then_wrong from (Ok value) next isnt = absurd (cc)
then_wrong from (Err wrong) next isnt = refl

pub read_cut : (line : List ℕ) (arguments : List Argument) (spans : List Span) → AllFit arguments → AreOfBytes arguments
    → are_whole arguments ≡ false → HaveWords line arguments spans → is_ok (arguments_at line spans) ≡ false
read_cut line [] spans fit bytes cut have = absurd (cc)
read_cut line (argument ∷ arguments) [] fit bytes cut have = absurd have
read_cut line (argument ∷ arguments) (one ∷ spans) fit bytes cut have =
    go (is_whole argument) refl cut (λ later. read_cut line arguments spans fit.1 bytes.1 later have.1) where
      word : List ℕ
      word = word_at line one

      again : argument_read word ≡ read_again argument
      again = word_again argument word fit.0 bytes.0 have.0

      go : (t : Bool) → is_whole argument ≡ t → (t && are_whole arguments) ≡ false
          → (are_whole arguments ≡ false → is_ok (arguments_at line spans) ≡ false) → is_ok (arguments_at line (one ∷ spans)) ≡ false
      go true whole cut later =
          ap is_ok (one_read line one spans (Ok argument) (again ∙ cond-true _ _ _ whole))
          ∙ made_wrong (λ (others : List Argument). argument ∷ others) (arguments_at line spans) (later cut)
      go false short cut later =
          ap is_ok (one_read line one spans (cut_fault argument) (again ∙ cond-false _ _ _ short))
          ∙ then_wrong one.from (cut_fault argument) (λ argument. made (λ arguments. argument ∷ arguments) (arguments_at line spans)) (cut_wrong argument)

-- Finding them.

-- the words of arguments after a word, which ends before them
pub record Follow (line : List ℕ) (arguments : List Argument) (said : List ℕ) (place begun opened : ℕ) (spans : List Span) : Type 0 where
  pub more : List Span
  pub found : finished_at (scanned place (state Plain begun opened spans) said) (length line) ≡ Ok ((spans ++ span begun place ∷ []) ++ more)
  pub words : HaveWords line arguments more
  pub brackets : AreBrackets line arguments more

follow_none : (line before said : List ℕ) (place begun opened : ℕ) (spans : List Span) → line ≡ before ++ said → place ≡ length before → said ≡ []
    → Follow line [] said place begun opened spans
follow_none line before said place begun opened spans line_is place_is none =
    let long : length line ≡ place = ap length line_is ∙ length-append before said ∙ omega (arith, ap length none, place_is) in
    record {
      more = [];
      found =
          ap (λ (l : List ℕ). finished_at (scanned place (state Plain begun opened spans) l) (length line)) none
          ∙ ap (λ (n : ℕ). Ok (spans ++ span begun n ∷ [])) long
          ∙ ap (λ (l : List Span). Ok l) (sym (append-nil (spans ++ span begun place ∷ [])));
      words = tt;
      brackets = tt;
    }

-- the word of one more argument
pub bracket_is : (line one : List ℕ) (argument : Argument) (first : Span) → word_at line first ≡ one → IsPlaced argument one
    → (bytes_eq (word_at line first) (codes "[") ≡ (tag_of argument == 91)) × (bytes_eq (word_at line first) (codes "]") ≡ (tag_of argument == 93))
bracket_is line one argument first is placed = (
  ap (λ (l : List ℕ). bytes_eq l (codes "[")) is ∙ placed.opens,
  ap (λ (l : List ℕ). bytes_eq l (codes "]")) is ∙ placed.closes,
)

pub follow : (arguments : List Argument) (said : List ℕ) → AllFit arguments → AreOfBytes arguments → AreWords false arguments said
    → (line before : List ℕ) (place begun opened : ℕ) (spans : List Span) → line ≡ before ++ said → place ≡ length before
    → Follow line arguments said place begun opened spans
follow [] said fit bytes are line before place begun opened spans line_is place_is =
    follow_none line before said place begun opened spans line_is place_is are
follow (argument ∷ arguments) said fit bytes are line before place begun opened spans line_is place_is =
    let one : List ℕ = are.0 in
    let others : List ℕ = are.1 in
    let said_is : said ≡ 32 ∷ (one ++ others) = are.4 in
    let placed = word_placed argument one fit.0 bytes.0 are.2 in
    let shown : List Span = spans ++ span begun place ∷ [] in
    let found = placed.found (place + 1) begun opened shown in
    let next : ℕ = place + 1 + length one in
    let front : List ℕ = before ++ 32 ∷ one in
    let front_is : line ≡ front ++ others =
    line_is ∙ ap (λ (l : List ℕ). before ++ l) said_is ∙ sym (append_assoc before (32 ∷ one) others) in
    let next_is : next ≡ length front = omega (arith, length-append before (32 ∷ one), place_is) in
    let rest = follow arguments others fit.1 bytes.1 are.3 line front next (place + 1) found.quote shown front_is next_is in
    let blank : List ℕ = before ++ 32 ∷ [] in
    let cut : line ≡ blank ++ (one ++ others) =
    line_is ∙ ap (λ (l : List ℕ). before ++ l) said_is ∙ sym (append_assoc before (32 ∷ []) (one ++ others)) in
    let blank_long : place + 1 ≡ length blank = omega (arith, length-append before (32 ∷ []), place_is) in
    let here : word_at line (span (place + 1) next) ≡ one =
    word_is blank one others line (place + 1) next cut blank_long (omega (arith, blank_long)) in
    let bracket = bracket_is line one argument (span (place + 1) next) here placed in
    record {
      more = span (place + 1) next ∷ rest.more;
      found =
          ap (λ (l : List ℕ). finished_at (scanned place (state Plain begun opened spans) l) (length line)) said_is
          ∙ ap (λ (s : Scan). finished_at s (length line)) (found.is others)
          ∙ rest.found
          ∙ ap (λ (l : List Span). Ok l) (append_assoc shown (span (place + 1) next ∷ []) rest.more);
      words = (subst (IsWord false argument) (sym here) are.2, rest.words);
      brackets = (bracket.0, bracket.1, rest.brackets);
    }
