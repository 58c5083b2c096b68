-- One line of a sheet: a time tag and the words of a message.
use Rattle.std.proofs.Common.{◌≡◌, ℕ, suc, ◌+◌, ◌/◌, ◌%◌, ◌^◌, ◌<◌, ◌==◌, ◌&&◌, Bool, true, false, nat_le, List, [], ◌∷◌, ◌++◌, length, Option, Some, None, Result, Ok, refl, ap, ◌∙◌}
use Rattle.std.proofs.Common.{arith}
use Rattle.std.specs.Prelude.{codes, bytes_eq, slice_index, is_none}
use Rattle.std.specs.List.{list_all}
use Rattle.std.proofs.lemmas.Bool.{cond-true, cond-false}
use Rattle.std.proofs.lemmas.Bool.Decides.{nat_tests}
use Rattle.std.proofs.lemmas.Slice.Eq.{bytes_eq-Decides}
use Rattle.hex.specs.Hex.{IsBytes, encode_lower, encode_with, lower_digits, hex_digit_value}
use Rattle.hex.proofs.HexLemmas.{IsDigits-lower_digits, length-encode_with}
use Rattle.osc_atoms.specs.Atoms.{tag}
use Rattle.osc_cues.specs.declared.setting.Setting.{Setting}
use Rattle.osc_cues.specs.declared.setting.Tempo.{Tempo}
use Rattle.osc_cues.specs.declared.fault.Fault.{Fault}
use Rattle.osc_cues.specs.declared.fault.WordFault.{WordFault}
use Rattle.osc_cues.specs.Faults.{made}
use Rattle.osc_cues.specs.Words.{front_mode, unscanned, scanned, word_at}
use Rattle.osc_cues.specs.Cues.{and_then}
use Rattle.osc_cues.specs.Moments.{moment_at, tag_of, moment_read}
use Rattle.osc_cues.specs.Sheets.{unread, moment_in, at_word, is_word, order_fault, has_gone, gone_fault, or_fault, time_fault, message_unless, cue_says, spans_say, with_cue, room_at, entered, settled, after_said, after_line}
use Rattle.osc_shown_laws.proofs.HexDigits.{bytes_small, sixteen_again}
use Rattle.osc_shown_laws.proofs.Scans.{type_of, Scan, Span, Between, Plain, state, span, is_solid, BeginsPlain, IsFound, found_plain, blank_after}
use Rattle.osc_shown_laws.proofs.FoundWords.{hex_solid}
use Rattle.osc_shown_laws.proofs.Lines.{word_is}
use Rattle.osc_shown_laws.proofs.ShownLines.{SaysMessage}

abbrev pub Draft : Type 0
Draft = type_of unread

-- The word of a time tag.

digit_begins : (byte digit : ℕ) → hex_digit_value byte ≡ Some digit → BeginsPlain byte
digit_begins byte digit is = record {
  blank = grind (arith, nat_tests);
  hash = grind (arith, nat_tests);
  mode = mode_is (grind (arith, nat_tests)) (grind (arith, nat_tests)) (grind (arith, nat_tests));
  solid = grind (arith, nat_tests);
} where
  mode_is : byte == 34 ≡ false → byte == 115 ≡ false → byte == 83 ≡ false → front_mode byte ≡ Plain
  mode_is quote lower upper = rw (quote, lower, upper) refl

hex_found : (bytes : List ℕ) → 0 < length bytes → IsBytes bytes → IsFound (encode_lower bytes)
unfolding encode_with
hex_found [] some each = absurd (omega arith)
hex_found (byte ∷ bytes) some each =
    let small : byte < 256 = each 0 in
    let high : ℕ = slice_index lower_digits (byte / 16) in
    let low : ℕ = slice_index lower_digits (byte % 16) in
    let second = digit_begins low (byte % 16) (IsDigits-lower_digits (byte % 16) (omega arith)) in
    found_plain high (low ∷ encode_lower bytes) (digit_begins high (byte / 16) (IsDigits-lower_digits (byte / 16) (omega arith)))
    (ap (λ (b : Bool). b && list_all is_solid (encode_lower bytes)) second.solid ∙ hex_solid bytes (λ k. each (suc k)))

tag_found : (number : ℕ) → IsFound (encode_lower (tag number))
tag_found number = hex_found (tag number) (omega arith) (bytes_small 8 number)

tag_long : (number : ℕ) → length (encode_lower (tag number)) ≡ 16
tag_long number = length-encode_with lower_digits (tag number)

-- it is no other word
other_word : (word other : List ℕ) → (length word ≡ length other → ⊥) → bytes_eq word other ≡ false
other_word word other isnt = go (bytes_eq word other) refl where
  go : (t : Bool) → bytes_eq word other ≡ t → t ≡ false
  go true same = absurd (isnt (ap length ((bytes_eq-Decides word other).0 same)))
  go false same = refl

-- what stands before the words of a message
pub record IsFront (front : List ℕ) (size : ℕ) : Type 0 where
  pub between : (scanned 0 unscanned front).mode ≡ Between
  pub spans : (scanned 0 unscanned front).spans ≡ span 0 size ∷ []

pub front_of : (number : ℕ) → IsFront (encode_lower (tag number) ++ 32 ∷ []) (0 + length (encode_lower (tag number)))
front_of number =
    let found = tag_found number 0 0 0 [] in
    let size : ℕ = 0 + length (encode_lower (tag number)) in
    let all : scanned 0 unscanned (encode_lower (tag number) ++ 32 ∷ []) ≡ state Between 0 found.quote (span 0 size ∷ []) =
    found.is (32 ∷ []) ∙ blank_after size 0 found.quote [] [] in
    record { between = ap (λ (s : Scan). s.mode) all; spans = ap (λ (s : Scan). s.spans) all }

-- What a line says.

told_tag : (number : ℕ) → number < 2 ^ 64 → (setting : Setting) (before : Option ℕ) (tempo : Option Tempo)
    → moment_read setting before tempo (encode_lower (tag number)) ≡ Ok (moment_at number)
told_tag number small setting before tempo =
    rw (other_word (encode_lower (tag number)) (codes "now") (λ same. omega (arith, tag_long number, same)), sixteen_again number small) refl

made_ok : {X Y E : Type 0} (f : X → Y) (read : Result X E) (value : X) → read ≡ Ok value → made f read ≡ Ok (f value)
made_ok f read value is = ap (made f) is

cue_said : (methods : List (List ℕ)) (setting : Setting) (draft : Draft) (number moment : ℕ) (line : List ℕ) (first : Span) (spans : List Span)
    → moment_in setting draft line first ≡ Ok moment
    → after_said setting draft number line (cue_says methods setting draft line first spans)
    ≡ settled setting (record draft { before = Some moment }) number line moment
    (message_unless (time_fault setting draft.before moment) methods line first spans)
cue_said methods setting draft number moment line first spans is =
    ap (after_said setting draft number line) (made_ok _ (moment_in setting draft line first) moment is)

pub record IsTime (setting : Setting) (before : Option ℕ) (moment : ℕ) : Type 0 where
  pub after : order_fault before moment ≡ None
  pub coming : has_gone setting moment ≡ false

no_time_fault : (setting : Setting) (before : Option ℕ) (moment : ℕ) → IsTime setting before moment → time_fault setting before moment ≡ None
no_time_fault setting before moment is =
    ap (λ (fault : Option Fault). or_fault fault (gone_fault setting moment)) is.after
    ∙ cond-false _ _ _ (ap (λ (b : Bool). b && is_none setting.skip) is.coming)

same_tag : (number : ℕ) → tag_of (moment_at number) ≡ number
same_tag number = omega arith

pub one_line : (methods : List (List ℕ)) (setting : Setting) (draft : Draft) (number time : ℕ) (line words message : List ℕ)
    → line ≡ encode_lower (tag time) ++ 32 ∷ words → time < 2 ^ 64 → IsTime setting draft.before (moment_at time)
    → SaysMessage methods line message (span 0 (0 + length (encode_lower (tag time))) ∷ [])
    → nat_le (length message + 4) (room_at draft time) ≡ true
    → after_line methods setting draft number line ≡ with_cue (record draft { before = Some (moment_at time) }) time message
one_line methods setting draft number time line words message is small coming says room =
    let word : List ℕ = encode_lower (tag time) in
    let size : ℕ = 0 + length word in
    let first : Span = span 0 size in
    let moment : ℕ = moment_at time in
    let begun : Draft = record draft { before = Some moment } in
    let here : word_at line first ≡ word = word_is [] word (32 ∷ words) line 0 size is refl refl in
    let read : moment_in setting draft line first ≡ Ok moment =
    ap (λ (l : List ℕ). at_word 0 (moment_read setting draft.before draft.tempo l)) here
    ∙ ap (λ (read : Result ℕ Fault). at_word 0 read) (told_tag time small setting draft.before draft.tempo) in
    let other : is_word line first (codes "tempo") ≡ false =
    ap (λ (l : List ℕ). bytes_eq l (codes "tempo")) here
    ∙ other_word word (codes "tempo") (λ same. omega (arith, tag_long time, same)) in
    ap (λ (read : Result (List Span) WordFault).
    after_said setting draft number line (and_then read (λ spans. spans_say methods setting draft line spans))) says.found
    ∙ ap (after_said setting draft number line) (cond-false _ _ _ other)
    ∙ cue_said methods setting draft number moment line first says.spans read
    ∙ ap (λ (fault : Option Fault). settled setting begun number line moment (message_unless fault methods line first says.spans))
    (no_time_fault setting draft.before moment coming)
    ∙ ap (settled setting begun number line moment) says.says
    ∙ cond-false _ _ _ coming.coming
    ∙ ap (λ (n : ℕ). entered begun number line n message) (same_tag time)
    ∙ cond-true _ _ _ room
