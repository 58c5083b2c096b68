-- Bundles of messages: what their bytes stand for, and that they are packets of one unit.
use Rattle.osc_atoms.specs.declared.limits.TheConstants.{MAX_PACKET}
use Rattle.osc_atoms.specs.declared.limits.TheConstants.{MAX_BYTES}
use Rattle.std.proofs.Common.{◌≡◌, ℕ, ◌+◌, ◌<◌, ◌≤◌, ◌^◌, max, true, List, [], ◌∷◌, ◌++◌, length, map, Result, Ok, Err, is_ok, None, refl, sym, ap, ◌∙◌, subst}
use Rattle.std.proofs.Common.{arith}
use Rattle.std.proofs.Common.{append_assoc, append-nil, length-append}
use Rattle.std.specs.Prelude.{is_none}
use Rattle.std.specs.Result.{result_err}
use Rattle.std.specs.List.{flat_map, AllByRecursion}
use Rattle.std.proofs.lemmas.List.Concat.{flat_map-append}
use Rattle.std.proofs.lemmas.Nat.{from_be_bytes-to_be_bytes_8}
use Rattle.osc_atoms.specs.declared.fault.Fault.{Fault}
use Rattle.osc_atoms.specs.Atoms.{AreBytes, word, tag}
use Rattle.osc_message.specs.Messages.{Form, message_text}
use Rattle.osc_message.specs.Reading.{is_message, limited_read}
use Rattle.osc_packet.specs.Packets.{Packet, Elements, message, bundle, none, more, packet_text, elements_text, elements_depth, AreLawfulIn, bundle_word}
use Rattle.osc_packet.specs.Packets.{IsValid, IsPacket}
use Rattle.osc_packet.specs.Units.{TimedUnit, own_messages, enclosed_units}
use Rattle.osc_packet.specs.Reading.{bundle_tag, elements_in, is_packet, units_read, after_first}
use Rattle.osc_packet.specs.Bundling.{Bundling, with_message, sized, bundled, elements_of, bundling_of, IsSpelled, IsBundling}
use Rattle.osc_packet.specs.Known.{OfMessages}
use Rattle.osc_packet.proofs.Steps.{in_step, in_end}
use Rattle.osc_packet.proofs.Silent.{element_again, rest_again, valid_silent}
use Rattle.osc_packet.proofs.Again.{units_again}

no_err : {X : Type 0} (r : Result X Fault) → is_ok r ≡ true → result_err r ≡ None
no_err (Ok x) e = refl
no_err (Err f) e = cc

pub spelled_is : OfMessages → (bytes : List ℕ) → AreBytes bytes → is_message MAX_BYTES bytes ≡ true → IsSpelled bytes
spelled_is known bytes small is =
    let read = known.read MAX_BYTES bytes small (no_err (limited_read MAX_BYTES bytes) is) in
    record { form = read.form; lawful = read.lawful; spelled = read.spelled; short = omega arith }

-- What is written is read again.

elements_again : (messages : List (List ℕ)) → length (flat_map sized messages) < 2 ^ 32 → elements_in (flat_map sized messages) ≡ messages
elements_again [] small = in_end [] refl
elements_again (bytes ∷ messages) small =
    let rest : List ℕ = flat_map sized messages in
    let whole : flat_map sized (bytes ∷ messages) ≡ word (length bytes) ++ (bytes ++ rest) = append_assoc (word (length bytes)) bytes rest in
    let one : length bytes < 2 ^ 32 = omega (arith, ap length whole, length-append bytes rest) in
    ap elements_in whole ∙ in_step (word (length bytes) ++ (bytes ++ rest)) (omega arith)
    ∙ ap (λ (l : List ℕ). l ∷ elements_in (after_first (word (length bytes) ++ (bytes ++ rest)))) (element_again bytes rest one)
    ∙ ap (λ (l : List ℕ). bytes ∷ elements_in l) (rest_again bytes rest one)
    ∙ ap (λ (l : List (List ℕ)). bytes ∷ l) (elements_again messages (omega (arith, ap length whole, length-append bytes rest)))

tag_there : (bundling : Bundling) → bundling.tag < 2 ^ 64 → bundle_tag (bundled bundling) ≡ bundling.tag
tag_there bundling fits = from_be_bytes-to_be_bytes_8 bundling.tag fits

pub bundling_again : (bundling : Bundling) → bundling.tag < 2 ^ 64 → length (bundled bundling) ≤ MAX_PACKET → bundling_of (bundled bundling) ≡ bundling
bundling_again bundling fits short =
    ap (λ (n : ℕ). let b : Bundling = record { tag = n; messages = elements_in (flat_map sized bundling.messages) } in b) (tag_there bundling fits)
    ∙ ap (λ (l : List (List ℕ)). let b : Bundling = record { tag = bundling.tag; messages = l } in b)
    (elements_again bundling.messages (omega arith))

pub bundling_kept : (bundling : Bundling) → bundling.tag < 2 ^ 64 → AllByRecursion IsSpelled bundling.messages → length (bundled bundling) ≤ MAX_PACKET
    → IsBundling (bundled bundling)
bundling_kept bundling fits messages short =
    let again : bundling_of (bundled bundling) ≡ bundling = bundling_again bundling fits short in
    record {
      spelled = sym (ap bundled again);
      fits = subst (λ (n : ℕ). n < 2 ^ 64) (sym (tag_there bundling fits)) fits;
      messages = subst (λ (b : Bundling). AllByRecursion IsSpelled b.messages) (sym again) messages;
      short = short;
    }

-- What was pushed stands last.

pub bundled_on : (bundling : Bundling) (bytes : List ℕ) → bundled (with_message bundling bytes) ≡ bundled bundling ++ sized bytes
bundled_on bundling bytes =
    ap (λ (l : List ℕ). bundle_word ++ (tag bundling.tag ++ l))
    (flat_map-append sized bundling.messages (bytes ∷ []) ∙ ap (λ (l : List ℕ). flat_map sized bundling.messages ++ l) (append-nil (sized bytes)))

all_on : (messages : List (List ℕ)) (bytes : List ℕ) → AllByRecursion IsSpelled messages → IsSpelled bytes → AllByRecursion IsSpelled (messages ++ bytes ∷ [])
all_on [] bytes all one = (one, tt)
all_on (first ∷ messages) bytes all one = (all.0, all_on messages bytes all.1 one)

-- what is kept after a push
pub record Pushes (old new bytes : List ℕ) : Type 0 where
  pub kept : IsBundling new
  pub stands : bundling_of new ≡ with_message (bundling_of old) bytes

pub pushed_on : (old new bytes : List ℕ) → IsBundling old → IsSpelled bytes → new ≡ old ++ sized bytes → length old + 4 + length bytes ≤ MAX_PACKET
    → Pushes old new bytes
pushed_on old new bytes kept one is short =
    let before : Bundling = bundling_of old in
    let after : Bundling = with_message before bytes in
    let spelled : new ≡ bundled after = is ∙ ap (λ (l : List ℕ). l ++ sized bytes) kept.spelled ∙ sym (bundled_on before bytes) in
    let size : length new ≡ length old + length (sized bytes) = ap length is ∙ length-append old (sized bytes) in
    let few : length (bundled after) ≤ MAX_PACKET = subst (λ (l : List ℕ). length l ≤ MAX_PACKET) spelled (omega arith) in
    let again : IsBundling (bundled after) = bundling_kept after kept.fits (all_on before.messages bytes kept.messages one) few in
    record {
      kept = subst IsBundling (sym spelled) again;
      stands = ap bundling_of spelled ∙ bundling_again after kept.fits few;
    }

pub size_on : (old bytes : List ℕ) → IsBundling old → length (bundled (with_message (bundling_of old) bytes)) ≡ length old + 4 + length bytes
size_on old bytes kept =
    let whole : bundled (with_message (bundling_of old) bytes) ≡ old ++ sized bytes =
    bundled_on (bundling_of old) bytes ∙ ap (λ (l : List ℕ). l ++ sized bytes) (sym kept.spelled) in
    omega (arith, ap length whole, length-append old (sized bytes))

-- a bundle without messages
pub record Opens (own : ℕ) (bytes : List ℕ) : Type 0 where
  pub kept : IsBundling bytes
  pub stands : bundling_of bytes ≡ record { tag = own; messages = [] }

pub opened : (own : ℕ) (bytes : List ℕ) → own < 2 ^ 64 → bytes ≡ bundle_word ++ tag own → Opens own bytes
opened own bytes fits is =
    let first : Bundling = record { tag = own; messages = [] } in
    let few : length (bundled first) ≤ MAX_PACKET = omega arith in
    let spelled : bytes ≡ bundled first = is in
    record {
      kept = subst IsBundling (sym spelled) (bundling_kept first fits tt few);
      stands = ap bundling_of spelled ∙ bundling_again first fits few;
    }

-- The bytes of a bundle are a packet of one unit.

-- the elements that messages are
record Holds (messages : List (List ℕ)) (outer : ℕ) : Type 0 where
  elements : Elements
  text : elements_text elements ≡ flat_map sized messages
  flat : elements_depth elements ≡ 0
  lawful : AreLawfulIn outer elements
  own : own_messages elements ≡ messages
  enclosed : enclosed_units outer elements ≡ []

held : (messages : List (List ℕ)) (outer : ℕ) → AllByRecursion IsSpelled messages → Holds messages outer
held [] outer all = record { elements = none; text = refl; flat = refl; lawful = tt; own = refl; enclosed = refl }
held (bytes ∷ messages) outer all =
    let rest : Holds messages outer = held messages outer all.1 in
    let form : Form = (all.0).form in
    let is : bytes ≡ message_text form = (all.0).spelled in
    record {
      elements = more (message form) rest.elements;
      text = ap (λ (l : List ℕ). word (length l) ++ (l ++ elements_text rest.elements)) (sym is)
          ∙ ap (λ (l : List ℕ). word (length bytes) ++ (bytes ++ l)) rest.text
          ∙ sym (append_assoc (word (length bytes)) bytes (flat_map sized messages));
      flat = ap (λ (n : ℕ). max 0 n) rest.flat;
      lawful = ((all.0).lawful, rest.lawful);
      own = ap (λ (l : List ℕ). l ∷ own_messages rest.elements) (sym is) ∙ ap (λ (l : List (List ℕ)). bytes ∷ l) rest.own;
      enclosed = rest.enclosed;
    }

-- the packet that a bundle's bytes are
pub record IsOneUnit (bundling : Bundling) : Type 0 where
  pub packet : IsPacket MAX_PACKET (bundled bundling)
  pub read : is_packet MAX_PACKET (bundled bundling) ≡ true
  pub unit : units_read (bundled bundling) ≡ record { tag = bundling.tag; messages = bundling.messages } ∷ []

small_most : MAX_PACKET < 2 ^ 32
small_most = omega arith

pub one_unit : OfMessages → (bundling : Bundling) → bundling.tag < 2 ^ 64 → AllByRecursion IsSpelled bundling.messages → length (bundled bundling) ≤ MAX_PACKET
    → IsOneUnit bundling
one_unit known bundling fits all short =
    let holds : Holds bundling.messages bundling.tag = held bundling.messages bundling.tag all in
    let whole : Packet = bundle bundling.tag holds.elements in
    let text : bundled bundling ≡ packet_text whole = ap (λ (l : List ℕ). bundle_word ++ (tag bundling.tag ++ l)) (sym holds.text) in
    let few : length (packet_text whole) ≤ MAX_PACKET = subst (λ (l : List ℕ). length l ≤ MAX_PACKET) text short in
    let valid : IsValid MAX_PACKET whole = record {
      short = few;
      shallow = omega (arith, holds.flat);
      lawful = (fits, tt, holds.lawful);
    } in
    let packet : IsPacket MAX_PACKET (bundled bundling) = record { packet = whole; valid = valid; spelled = text } in
    record {
      packet = packet;
      read = ap is_none (valid_silent known MAX_PACKET (bundled bundling) small_most packet);
      unit = ap units_read text ∙ units_again known whole valid.shallow valid.lawful (omega arith)
          ∙ ap (λ (l : List TimedUnit). record { tag = bundling.tag; messages = own_messages holds.elements } ∷ l) holds.enclosed
          ∙ ap (λ (m : List (List ℕ)). let u : TimedUnit = record { tag = bundling.tag; messages = m } in u ∷ []) holds.own;
    }

pub kept_unit : OfMessages → (bytes : List ℕ) → IsBundling bytes → IsOneUnit (bundling_of bytes)
kept_unit known bytes kept =
    one_unit known (bundling_of bytes) kept.fits kept.messages (subst (λ (l : List ℕ). length l ≤ MAX_PACKET) kept.spelled kept.short)

texts_are : (forms : List Form) → flat_map sized (map message_text forms) ≡ elements_text (elements_of forms)
texts_are [] = refl
texts_are (form ∷ forms) =
    let text : List ℕ = message_text form in
    append_assoc (word (length text)) text (flat_map sized (map message_text forms))
    ∙ ap (λ (l : List ℕ). word (length text) ++ (text ++ l)) (texts_are forms)

pub text_is : (own : ℕ) (forms : List Form)
    → bundled (record { tag = own; messages = map message_text forms }) ≡ packet_text (bundle own (elements_of forms))
text_is own forms = ap (λ (l : List ℕ). bundle_word ++ (tag own ++ l)) (texts_are forms)

-- the text of a bundling whose messages are written from forms
pub written_is : (bundling : Bundling) (forms : List Form) → bundling.messages ≡ map message_text forms
    → bundled bundling ≡ packet_text (bundle bundling.tag (elements_of forms))
written_is bundling forms are =
    ap (λ (l : List (List ℕ)). bundle_word ++ (tag bundling.tag ++ flat_map sized l)) are ∙ text_is bundling.tag forms
