-- The lines of cues, read one after another.
use Rattle.osc_atoms.specs.declared.limits.TheConstants.{MAX_PACKET}
use Rattle.osc_cues.specs.declared.limits.TheConstants.{MAX_SHEET}
use Rattle.std.proofs.Common.{◌≡◌, ℕ, ◌+◌, ◌-◌, ◌/◌, ◌^◌, ◌<◌, ◌≤◌, ◌==◌, Bool, true, false, cond, nat_lt, nat_le, List, [], ◌∷◌, ◌++◌, length, map, Option, Some, None, Ok, refl, sym, ap, subst, ◌∙◌}
use Rattle.std.proofs.Common.{arith, eqb-true, eq-eqb, append_assoc, append-nil}
use Rattle.std.specs.Prelude.{slice_index, nat_eq}
use Rattle.std.specs.List.{list_all, slice_split, starts_with, AllByRecursion}
use Rattle.std.proofs.lemmas.Bool.{cond-true, cond-false}
use Rattle.std.proofs.lemmas.Bool.Decides.{nat_tests}
use Rattle.hex.specs.Hex.{IsBytes, encode_lower, encode_with, lower_digits, hex_digit_value}
use Rattle.hex.proofs.HexLemmas.{IsDigits-lower_digits}
use Rattle.osc_atoms.specs.Atoms.{tag}
use Rattle.osc_packet.specs.Bundling.{Bundling, with_message, bundled}
use Rattle.osc_message.specs.Messages.{Argument, tag_of, AllFit, known, IsLawful, message_text}
use Rattle.osc_shown.specs.Arguments.{AreWords}
use Rattle.osc_shown.specs.Lines.{IsMessageText}
use Rattle.osc_cues.specs.declared.cue.Cue.{Cue}
use Rattle.osc_cues.specs.declared.setting.Setting.{Setting}
use Rattle.osc_cues.specs.Words.{unscanned, scanned, is_line_feed, without_mark, without_return}
use Rattle.osc_cues.specs.Moments.{moment_at}
use Rattle.osc_cues.specs.Bundles.{IsOrdered, FitsPacket, opening, moments_from, moments_of}
use Rattle.osc_cues.specs.Sheets.{unread, least_of, room_at, after_line, read_from, outcome_of, sheet_of}
use Rattle.osc_cues.proofs.Groups.{longer, open_fits}
use Rattle.osc_shown_laws.specs.WholeArguments.{AreOfBytes}
use Rattle.osc_shown_laws.specs.Sheets.{IsShowable, IsCueLine, AreCueLines}
use Rattle.osc_shown_laws.proofs.HexDigits.{bytes_small}
use Rattle.osc_shown_laws.proofs.Scans.{span}
use Rattle.osc_shown_laws.proofs.VisibleBytes.{IsVisible, visible_both, visible_solid, line_kept, line_cut}
use Rattle.osc_shown_laws.proofs.FoundWords.{word_placed, hex_solid}
use Rattle.osc_shown_laws.proofs.ShownLines.{SaysMessage, says_message, clean, no_fault_of, all_solid}
use Rattle.osc_shown_laws.proofs.Messages.{IsReadAs, has_words, words_after}
use Rattle.osc_shown_laws.proofs.SheetLines.{Draft, front_of, IsTime, one_line}

-- what is known of messages that are written
abbrev pub Rereads : Type 0
Rereads =
    (pattern : List ℕ) (arguments : List Argument) → IsLawful (known pattern arguments)
    → IsReadAs (message_text (known pattern arguments)) pattern (Some (map tag_of arguments)) arguments

-- No line has a control character.

said_visible : (arguments : List Argument) (said : List ℕ) → AllFit arguments → AreOfBytes arguments → AreWords false arguments said → IsVisible said
said_visible [] said fit bytes are = ap (λ (l : List ℕ). list_all (nat_le 32) l) are
said_visible (argument ∷ arguments) said fit bytes are =
    let one = (word_placed argument are.0 fit.0 bytes.0 are.2).visible in
    ap (λ (l : List ℕ). list_all (nat_le 32) l) are.4
    ∙ visible_both are.0 are.1 one (said_visible arguments are.1 fit.1 bytes.1 are.3)

-- a line of a cue, as its parts
record IsShownLine (methods : List (List ℕ)) (cue : Cue) (line : List ℕ) : Type 0 where
  words : List ℕ
  is : line ≡ encode_lower (tag cue.tag) ++ 32 ∷ words
  visible : IsVisible line
  says : SaysMessage methods line cue.message (span 0 (0 + length (encode_lower (tag cue.tag))) ∷ [])

line_visible : (number : ℕ) (words : List ℕ) → IsVisible words → IsVisible (encode_lower (tag number) ++ 32 ∷ words)
line_visible number words all =
    visible_both (encode_lower (tag number)) (32 ∷ words) (visible_solid (encode_lower (tag number)) (hex_solid (tag number) (bytes_small 8 number))) all

shown_line : (methods : List (List ℕ)) (cue : Cue) (line : List ℕ) → Rereads → IsShowable methods cue → IsCueLine cue line
    → IsShownLine methods cue line
shown_line methods cue line rereads showable is =
    let words : List ℕ = is.0 in
    let number : List ℕ = encode_lower (tag cue.tag) in
    let front : List ℕ = number ++ 32 ∷ [] in
    let begun = front_of cue.tag in
    let text : IsMessageText false (message_text (known showable.pattern showable.arguments)) words =
    subst (λ (l : List ℕ). IsMessageText false l words) showable.spelled is.1 in
    let has = has_words (message_text (known showable.pattern showable.arguments)) showable.pattern words
    (Some (map tag_of showable.arguments)) showable.arguments
    (rereads showable.pattern showable.arguments showable.lawful) text in
    let address = clean showable.pattern (no_fault_of methods showable.pattern showable.pattern showable.taken) in
    let all : IsVisible words =
    ap (λ (l : List ℕ). list_all (nat_le 32) l) has.whole
    ∙ visible_both showable.pattern has.said (visible_solid showable.pattern (all_solid showable.pattern address.good))
    (said_visible showable.arguments has.said showable.lawful.1 showable.bytes has.are) in
    let found = words_after methods front showable.pattern words showable.arguments begun.between showable.lawful.1 showable.bytes
    showable.taken has in
    let says = says_message methods (front ++ words) showable.pattern showable.arguments (scanned 0 unscanned front).spans found showable.taken
    showable.lawful.1 showable.bytes showable.whole showable.lawful.2 in
    let line_is : line ≡ front ++ words = is.2 ∙ sym (append_assoc number (32 ∷ []) words) in
    record {
      words = words;
      is = is.2;
      visible = ap (λ (l : List ℕ). list_all (nat_le 32) l) is.2 ∙ line_visible cue.tag words all;
      says =
          subst (λ (l : List ℕ). SaysMessage methods line l (span 0 (0 + length number) ∷ [])) (sym showable.spelled)
          (subst (λ (l : List ℕ). SaysMessage methods l (message_text (known showable.pattern showable.arguments)) (span 0 (0 + length number) ∷ []))
          (sym line_is)
          (subst (SaysMessage methods (front ++ words) (message_text (known showable.pattern showable.arguments))) begun.spans says));
    }

-- What is read so far.

abbrev drafted : Option ℕ → ℕ → ℕ → List Cue → Draft
drafted before last room cues =
    record { before = before; tempo = None; first = None; last = last; room = room; cues = cues; wrong = [] }

cue_step : (methods : List (List ℕ)) (setting : Setting) (before : Option ℕ) (last room left number : ℕ) (done : List Cue) (cue : Cue) (line : List ℕ)
    → IsShownLine methods cue line → cue.tag < 2 ^ 64 → IsTime setting before (moment_at cue.tag)
    → room_at (drafted before last room done) cue.tag ≡ left → length cue.message + 4 ≤ left
    → after_line methods setting (drafted before last room done) number (without_return line)
    ≡ drafted (Some (moment_at cue.tag)) cue.tag (left - (length cue.message + 4)) (done ++ cue ∷ [])
cue_step methods setting before last room left number done cue line is small coming same few =
    let draft : Draft = drafted before last room done in
    let fits : nat_le (length cue.message + 4) (room_at draft cue.tag) ≡ true =
    ap (nat_le (length cue.message + 4)) same ∙ enough (length cue.message + 4) left few in
    ap (after_line methods setting draft number) (line_kept line is.visible)
    ∙ one_line methods setting draft number cue.tag line is.words cue.message is.is small coming is.says fits
    ∙ ap (λ (n : ℕ). drafted (Some (moment_at cue.tag)) cue.tag (n - (length cue.message + 4)) (done ++ cue ∷ [])) same where
      enough : (m n : ℕ) → m ≤ n → nat_le m n ≡ true
      enough m n few = grind (arith, nat_tests)

not_gone : (m n : ℕ) → n ≤ m → nat_lt m n ≡ false
not_gone m n late = grind (arith, nat_tests)

in_time : (setting : Setting) (last time : ℕ) → last ≤ time → least_of setting ≤ time → IsTime setting (Some (moment_at last)) (moment_at time)
in_time setting last time later coming = record {
  after = cond-false _ _ _ (not_gone (moment_at time) (moment_at last) (omega (arith, later)));
  coming = not_gone (moment_at time) (moment_at (least_of setting)) (omega (arith, coming));
}

-- the moment of the next cue, for which there is room
record Next (moment : Bundling) (cue : Cue) (cues : List Cue) (room : ℕ) : Type 0 where
  left : ℕ
  messages : List (List ℕ)
  room_is : cond (moment.tag == cue.tag) room 65_488 ≡ left
  few : length cue.message + 4 ≤ left
  size : length (bundled (record { tag = cue.tag; messages = messages })) + (left - (length cue.message + 4)) ≡ MAX_PACKET
  fits : AllByRecursion FitsPacket (moments_from (record { tag = cue.tag; messages = messages }) cues)

own_size : (cue : Cue) → length (bundled (opening cue)) ≡ 16 + (4 + length cue.message)
own_size cue = let parts = longer (record { tag = cue.tag; messages = [] }) cue.message in omega (arith, parts)

unlike : (m n : ℕ) → m == n ≡ false → n == m ≡ false
unlike m n isnt = grind (arith, nat_tests)

next_of : (moment : Bundling) (cue : Cue) (cues : List Cue) (room : ℕ) → length (bundled moment) + room ≡ MAX_PACKET
    → AllByRecursion FitsPacket (moments_from moment (cue ∷ cues)) → Next moment cue cues room
next_of moment cue cues room size fits = go (cue.tag == moment.tag) refl fits where
  go : (t : Bool) → (cue.tag == moment.tag) ≡ t
      → AllByRecursion FitsPacket (cond t (moments_from (with_message moment cue.message) cues) (moment ∷ moments_from (opening cue) cues))
      → Next moment cue cues room
  go true same fits =
      let equal : cue.tag ≡ moment.tag = eqb-true cue.tag moment.tag same in
      let more : Bundling = record { tag = cue.tag; messages = moment.messages ++ cue.message ∷ [] } in
      let more_is : with_message moment cue.message ≡ more =
      ap (λ (n : ℕ). record { tag = n; messages = moment.messages ++ cue.message ∷ [] }) (sym equal) in
      let all : AllByRecursion FitsPacket (moments_from more cues) =
      subst (λ (b : Bundling). AllByRecursion FitsPacket (moments_from b cues)) more_is fits in
      let long : length (bundled more) ≡ length (bundled moment) + (4 + length cue.message) =
      ap (λ (b : Bundling). length (bundled b)) (sym more_is) ∙ longer moment cue.message in
      let short : length (bundled more) ≤ MAX_PACKET = open_fits more cues all in
      record {
        left = room;
        messages = moment.messages ++ cue.message ∷ [];
        room_is = cond-true _ _ _ (eq-eqb moment.tag cue.tag (sym equal));
        few = omega (arith, short, long, size);
        size = omega (arith, short, long, size);
        fits = all;
      }
  go false other fits =
      let short : length (bundled (opening cue)) ≤ MAX_PACKET = open_fits (opening cue) cues fits.1 in
      record {
        left = 65_488;
        messages = cue.message ∷ [];
        room_is = cond-false _ _ _ (unlike cue.tag moment.tag other);
        few = omega (arith, short, own_size cue);
        size = omega (arith, short, own_size cue);
        fits = fits.1;
      }

-- the lines of cues after others
none_left : (methods : List (List ℕ)) (setting : Setting) (number last room : ℕ) (before : Option ℕ) (done : List Cue) (bytes : List ℕ) → bytes ≡ []
    → outcome_of (read_from methods setting number (drafted before last room done) (slice_split is_line_feed bytes))
    ≡ Ok (record { cues = done ++ []; tempo = None })
none_left methods setting number last room before done bytes is =
    ap (λ (l : List ℕ). outcome_of (read_from methods setting number (drafted before last room done) (slice_split is_line_feed l))) is
    ∙ ap (λ (l : List Cue). Ok (record { cues = l; tempo = None })) (sym (append-nil done))

read_on : (methods : List (List ℕ)) (setting : Setting) (cues : List Cue) (bytes : List ℕ) (number room : ℕ) (done : List Cue) (moment : Bundling)
    → Rereads → AllByRecursion (IsShowable methods) cues → least_of setting ≤ moment.tag → IsOrdered moment.tag cues
    → AllByRecursion FitsPacket (moments_from moment cues) → length (bundled moment) + room ≡ MAX_PACKET → AreCueLines cues bytes
    → outcome_of (read_from methods setting number (drafted (Some (moment_at moment.tag)) moment.tag room done) (slice_split is_line_feed bytes))
    ≡ Ok (record { cues = done ++ cues; tempo = None })
read_on methods setting [] bytes number room done moment rereads showable least ordered fits size are =
    none_left methods setting number moment.tag room (Some (moment_at moment.tag)) done bytes are
read_on methods setting (cue ∷ cues) bytes number room done moment rereads showable least ordered fits size are =
    let line : List ℕ = are.0 in
    let others : List ℕ = are.1 in
    let is = shown_line methods cue line rereads showable.0 are.2 in
    let next = next_of moment cue cues room size fits in
    let coming : least_of setting ≤ cue.tag = omega (arith, least, ordered.0) in
    let draft : Draft = drafted (Some (moment_at moment.tag)) moment.tag room done in
    let step = cue_step methods setting (Some (moment_at moment.tag)) moment.tag room next.left number done cue line is showable.0.fits
    (in_time setting moment.tag cue.tag ordered.0 coming) next.room_is next.few in
    ap (λ (l : List ℕ). outcome_of (read_from methods setting number draft (slice_split is_line_feed l))) are.4
    ∙ ap (λ (l : List (List ℕ)). outcome_of (read_from methods setting number draft l)) (line_cut line others is.visible)
    ∙ ap (λ (d : Draft). outcome_of (read_from methods setting (number + 1) d (slice_split is_line_feed others))) step
    ∙ read_on methods setting cues others (number + 1) (next.left - (length cue.message + 4)) (done ++ cue ∷ [])
    (record { tag = cue.tag; messages = next.messages }) rereads showable.1 coming ordered.1 next.fits next.size are.3
    ∙ ap (λ (l : List Cue). Ok (record { cues = l; tempo = None })) (append_assoc done (cue ∷ []) cues)

-- The first line.

first_time : (setting : Setting) (time : ℕ) → least_of setting ≤ time → IsTime setting None (moment_at time)
first_time setting time coming = record {
  after = refl;
  coming = not_gone (moment_at time) (moment_at (least_of setting)) (omega (arith, coming));
}

first_room : (time : ℕ) → room_at unread time ≡ 65_488
first_room time = either (0 == time) where
  either : (t : Bool) → cond {A = ℕ} t 65_488 65_488 ≡ 65_488
  either true = refl
  either false = refl

all_read : (methods : List (List ℕ)) (setting : Setting) (cues : List Cue) (bytes : List ℕ) → Rereads → AllByRecursion (IsShowable methods) cues
    → IsOrdered (least_of setting) cues → AllByRecursion FitsPacket (moments_of cues) → AreCueLines cues bytes
    → outcome_of (read_from methods setting 1 unread (slice_split is_line_feed bytes)) ≡ Ok (record { cues = cues; tempo = None })
all_read methods setting [] bytes rereads showable ordered fits are = none_left methods setting 1 0 65_488 None [] bytes are
all_read methods setting (cue ∷ cues) bytes rereads showable ordered fits are =
    let line : List ℕ = are.0 in
    let others : List ℕ = are.1 in
    let is = shown_line methods cue line rereads showable.0 are.2 in
    let short : length (bundled (opening cue)) ≤ MAX_PACKET = open_fits (opening cue) cues fits in
    let few : length cue.message + 4 ≤ 65_488 = omega (arith, short, own_size cue) in
    let size : length (bundled (opening cue)) + (65_488 - (length cue.message + 4)) ≡ MAX_PACKET = omega (arith, short, own_size cue) in
    let step = cue_step methods setting None 0 65_488 65_488 1 [] cue line is showable.0.fits (first_time setting cue.tag ordered.0)
    (first_room cue.tag) few in
    ap (λ (l : List ℕ). outcome_of (read_from methods setting 1 unread (slice_split is_line_feed l))) are.4
    ∙ ap (λ (l : List (List ℕ)). outcome_of (read_from methods setting 1 unread l)) (line_cut line others is.visible)
    ∙ ap (λ (d : Draft). outcome_of (read_from methods setting 2 d (slice_split is_line_feed others))) step
    ∙ read_on methods setting cues others 2 (65_488 - (length cue.message + 4)) (cue ∷ []) (opening cue) rereads showable.1 ordered.0 ordered.1
    fits size are.3

-- The start of a sheet.

not_mark : (byte digit : ℕ) → hex_digit_value byte ≡ Some digit → 239 == byte ≡ false
not_mark byte digit is = grind (arith, nat_tests)

hex_unmarked : (bytes rest : List ℕ) → 0 < length bytes → IsBytes bytes
    → starts_with nat_eq (encode_lower bytes ++ rest) (239 ∷ 187 ∷ 191 ∷ []) ≡ false
unfolding encode_with
hex_unmarked [] rest some each = absurd (omega arith)
hex_unmarked (byte ∷ bytes) rest some each =
    let small : byte < 256 = each 0 in
    let isnt : 239 == slice_index lower_digits (byte / 16) ≡ false =
    not_mark (slice_index lower_digits (byte / 16)) (byte / 16) (IsDigits-lower_digits (byte / 16) (omega arith)) in
    rw (isnt) refl

unmarked : (methods : List (List ℕ)) (cues : List Cue) (bytes : List ℕ) → AreCueLines cues bytes → without_mark bytes ≡ bytes
unmarked methods [] bytes are = subst (λ (l : List ℕ). without_mark l ≡ l) (sym are) refl
unmarked methods (cue ∷ cues) bytes are =
    let number : List ℕ = encode_lower (tag cue.tag) in
    let rest : List ℕ = (32 ∷ are.2.0) ++ 10 ∷ are.1 in
    let is : bytes ≡ number ++ rest =
    are.4 ∙ ap (λ (l : List ℕ). l ++ 10 ∷ are.1) are.2.2 ∙ append_assoc number (32 ∷ are.2.0) (10 ∷ are.1) in
    subst (λ (l : List ℕ). without_mark l ≡ l) (sym is)
    (cond-false _ _ _ (hex_unmarked (tag cue.tag) rest (omega arith) (bytes_small 8 cue.tag)))

not_long : (size : ℕ) → size ≤ MAX_SHEET → nat_lt MAX_SHEET size ≡ false
not_long size few = grind (arith, nat_tests)

pub sheet_again : (methods : List (List ℕ)) (setting : Setting) (cues : List Cue) (bytes : List ℕ) → Rereads
    → AllByRecursion (IsShowable methods) cues → IsOrdered (least_of setting) cues → AllByRecursion FitsPacket (moments_of cues)
    → AreCueLines cues bytes → length bytes ≤ MAX_SHEET → sheet_of methods setting bytes ≡ Ok (record { cues = cues; tempo = None })
sheet_again methods setting cues bytes rereads showable ordered fits are few =
    cond-false _ _ _ (not_long (length bytes) few)
    ∙ ap (λ (l : List ℕ). outcome_of (read_from methods setting 1 unread (slice_split is_line_feed l))) (unmarked methods cues bytes are)
    ∙ all_read methods setting cues bytes rereads showable ordered fits are
