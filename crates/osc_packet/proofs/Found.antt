-- Bytes that are read without a fault are the text of a packet.
use Rattle.std.proofs.Common.{◌≡◌, ℕ, zero, suc, ◌+◌, ◌-◌, ◌%◌, ◌<◌, ◌≤◌, Bool, true, false, cond, nat_lt, ◌==◌, List, ◌++◌, length, take, drop, Option, Some}
use Rattle.std.proofs.Common.{None, Result, Ok, Err, refl, sym, ◌∙◌, ap, subst, inl, inr, arith, take-append-drop, length-drop}
use Rattle.std.specs.Prelude.{slice_index, option_map}
use Rattle.std.specs.Option.{option_or}
use Rattle.std.proofs.lemmas.Bool.{cases_lt, ltb-false}
use Rattle.std.proofs.lemmas.List.{drop-drop, length-take-le, nil_from_length}
use Rattle.osc_atoms.specs.declared.fault.Fault.{Fault}
use Rattle.osc_atoms.specs.Atoms.{AreBytes, word, tag}
use Rattle.osc_message.specs.Reading.{message_fault}
use Rattle.osc_packet.specs.Packets.{Packet, Elements, message, bundle, none, more, packet_text, elements_text, depth, elements_depth, bundle_word, IsLawfulIn}
use Rattle.osc_packet.specs.Packets.{AreLawfulIn, IsPacket}
use Rattle.osc_atoms.specs.Faults.{empty, not_four, too_long, start}
use Rattle.osc_atoms.proofs.AllBytes.{front_bytes, rest_bytes}
use Rattle.osc_packet.specs.Faults.{element_size, moved}
use Rattle.osc_packet.specs.Wants.{IsSize}
use Rattle.osc_packet.specs.Reading.{packet_fault, element_fault, body_fault, message_fault_at, fault_or, head_read, bundle_tag, first_size, first_element}
use Rattle.osc_packet.specs.Reading.{after_first, begins_with_size}
use Rattle.osc_packet.specs.Known.{OfMessages}
use Rattle.osc_packet.proofs.Steps.{joined, body_step, element_fault_is, some_none}
use Rattle.osc_packet.proofs.Heads.{Head, head_ok, size_written, tag_written, tag_fits}
use Rattle.osc_packet.proofs.Told.{is_size}
use Rattle.osc_packet.proofs.Bodies.{both_none}

pub record PacketIn (left : ℕ) (outer : Option ℕ) (bytes : List ℕ) : Type 0 where
  pub packet : Packet
  pub spelled : bytes ≡ packet_text packet
  pub shallow : depth packet ≤ left
  pub lawful : IsLawfulIn outer packet

pub record ElementsIn (left effective : ℕ) (bytes : List ℕ) : Type 0 where
  pub elements : Elements
  pub spelled : bytes ≡ elements_text elements
  pub shallow : elements_depth elements ≤ left
  pub lawful : AreLawfulIn effective elements

-- an element that is read without a fault is a packet's text
abbrev pub ElementFound : ℕ → Type 0
ElementFound left = (outer : Option ℕ) (at : ℕ) (bytes : List ℕ) → AreBytes bytes → element_fault left outer at bytes ≡ None → PacketIn left outer bytes

-- an element and those after it
one_more : (left effective : ℕ) (bytes : List ℕ) → AreBytes bytes → IsSize (first_size bytes) (length bytes - 4)
    → PacketIn left (Some effective) (first_element bytes) → ElementsIn left effective (after_first bytes) → ElementsIn left effective bytes
one_more left effective bytes small size one rest =
    let long : length (first_element bytes) ≡ first_size bytes =
    length-take-le (first_size bytes) (drop 4 bytes) (omega (arith, length-drop 4 bytes, size.inside)) in
    let text_size : length (packet_text one.packet) ≡ first_size bytes = ap length (sym one.spelled) ∙ long in
    let size_same : take 4 bytes ≡ word (length (packet_text one.packet)) =
    sym (size_written bytes small (omega (arith, size.inside, size.positive))) ∙ ap word (sym text_size) in
    record {
      elements = more one.packet rest.elements;
      spelled =
          sym (take-append-drop 4 bytes)
          ∙ ap (λ (l : List ℕ). l ++ drop 4 bytes) size_same
          ∙ ap (λ (l : List ℕ). word (length (packet_text one.packet)) ++ l)
          (sym (take-append-drop (first_size bytes) (drop 4 bytes)) ∙ ap (λ (l : List ℕ). l ++ after_first bytes) one.spelled
          ∙ ap (λ (l : List ℕ). packet_text one.packet ++ l) rest.spelled);
      shallow = omega (arith, one.shallow, rest.shallow);
      lawful = (one.lawful, rest.lawful);
    }

first_found : (left : ℕ) → ElementFound left → (effective at : ℕ) (bytes : List ℕ) → AreBytes bytes
    → joined (element_fault left (Some effective)) at bytes (body_fault (element_fault left (Some effective)) (at + 4 + first_size bytes) (after_first bytes))
    ≡ None
    → (body_fault (element_fault left (Some effective)) (at + 4 + first_size bytes) (after_first bytes) ≡ None → ElementsIn left effective (after_first bytes))
    → ElementsIn left effective bytes
first_found left found effective at bytes small silent rest = go (begins_with_size bytes) refl silent where
  go : (test : Bool) → begins_with_size bytes ≡ test
      → cond test (option_or (element_fault left (Some effective) (at + 4) (first_element bytes))
      (body_fault (element_fault left (Some effective)) (at + 4 + first_size bytes) (after_first bytes))) (Some (element_size at)) ≡ None
      → ElementsIn left effective bytes
  go false is e = absurd (some_none e)
  go true is e =
      let both = both_none (element_fault left (Some effective) (at + 4) (first_element bytes))
      (body_fault (element_fault left (Some effective)) (at + 4 + first_size bytes) (after_first bytes)) e in
      one_more left effective bytes small (is_size (first_size bytes) (length bytes - 4) is)
      (found (Some effective) (at + 4) (first_element bytes) (front_bytes (first_size bytes) (drop 4 bytes) (rest_bytes 4 bytes small)) both.0)
      (rest both.1)

elements_found : (left : ℕ) → ElementFound left → (bound effective at : ℕ) (bytes : List ℕ) → AreBytes bytes → length bytes ≤ bound
    → body_fault (element_fault left (Some effective)) at bytes ≡ None → ElementsIn left effective bytes
elements_found left found zero effective at bytes small few silent =
    record { elements = none; spelled = nil_from_length bytes (omega arith); shallow = omega arith; lawful = tt }
elements_found left found (suc bound) effective at bytes small few silent = elim (cases_lt 0 (length bytes)) [
  | inr empty ↦ record { elements = none; spelled = nil_from_length bytes (omega arith); shallow = omega arith; lawful = tt }
  | inl some ↦ first_found left found effective at bytes small (sym (body_step (element_fault left (Some effective)) at bytes some) ∙ silent)
      (elements_found left found bound effective (at + 4 + first_size bytes) (after_first bytes)
      (rest_bytes (first_size bytes) (drop 4 bytes) (rest_bytes 4 bytes small))
      (omega (arith, length-drop (first_size bytes) (drop 4 bytes), length-drop 4 bytes)))
]

-- a bundle, by its head and its elements
bundle_found : (left : ℕ) (outer : Option ℕ) (bytes : List ℕ) (effective : ℕ) → AreBytes bytes → Head left outer bytes effective
    → ElementsIn (left - 1) effective (drop 16 bytes) → PacketIn left outer bytes
bundle_found left outer bytes effective small head inner = record {
  packet = bundle (bundle_tag bytes) inner.elements;
  spelled =
      sym (take-append-drop 8 bytes)
      ∙ ap (λ (l : List ℕ). l ++ drop 8 bytes) head.named
      ∙ ap (λ (l : List ℕ). bundle_word ++ l)
      (sym (take-append-drop 8 (drop 8 bytes)) ∙ ap (λ (l : List ℕ). l ++ drop 8 (drop 8 bytes)) (sym (tag_written bytes small head.long))
      ∙ ap (λ (l : List ℕ). tag (bundle_tag bytes) ++ l) (drop-drop 8 8 bytes ∙ inner.spelled));
  shallow = omega (arith, inner.shallow, head.room);
  lawful = (tag_fits bytes small, head.time, subst (λ (n : ℕ). AreLawfulIn n inner.elements) head.is inner.lawful);
}

none_of : (at : ℕ) (r : Option Fault) → option_map (moved at) r ≡ None → r ≡ None
none_of at None e = refl
none_of at (Some f) e = absurd (some_none e)

found_by : OfMessages → (left : ℕ) → (0 < left → ElementFound (left - 1)) → ElementFound left
found_by known left found outer at bytes small silent =
    go (slice_index bytes 0 == 47) (slice_index bytes 0 == 35) refl refl (sym (element_fault_is left outer at bytes) ∙ silent)
  where
    inner : ℕ → Option Fault
    inner effective = body_fault (element_fault (left - 1) (Some effective)) (at + 16) (drop 16 bytes)

    in_head : (r : Result ℕ Fault) → head_read left outer at bytes ≡ r → fault_or r inner ≡ None → PacketIn left outer bytes
    in_head (Err fault) is e = absurd (some_none e)
    in_head (Ok effective) is e =
        let head = head_ok left outer at bytes effective is in
        bundle_found left outer bytes effective small head
        (elements_found (left - 1) (found head.room) (length (drop 16 bytes)) effective (at + 16) (drop 16 bytes) (rest_bytes 16 bytes small)
        (omega arith) e)

    go : (s h : Bool) → (slice_index bytes 0 == 47) ≡ s → (slice_index bytes 0 == 35) ≡ h
        → cond s (message_fault_at at bytes) (cond h (fault_or (head_read left outer at bytes) inner) (Some (start at))) ≡ None → PacketIn left outer bytes
    go true h is_s is_h e =
        let read = known.read (length bytes) bytes small (none_of at (message_fault (length bytes) bytes) e) in
        record { packet = message read.form; spelled = read.spelled; shallow = omega arith; lawful = read.lawful }
    go false true is_s is_h e = in_head (head_read left outer at bytes) refl e
    go false false is_s is_h e = absurd (some_none e)

element_found : OfMessages → (left : ℕ) → ElementFound left
element_found known zero = found_by known zero (λ room. absurd (omega arith))
element_found known (suc left) = found_by known (suc left) (λ room. subst ElementFound (omega arith) (element_found known left))

-- a packet that is read without a fault is a valid one
pub packet_found : OfMessages → (most : ℕ) (bytes : List ℕ) → AreBytes bytes → packet_fault most bytes ≡ None → IsPacket most bytes
packet_found known most bytes small = go (length bytes == 0) (nat_lt most (length bytes)) (length bytes % 4 == 0) refl where
  go : (a b c : Bool) → nat_lt most (length bytes) ≡ b
      → cond a (Some empty) (cond b (Some (too_long most)) (cond c (element_fault 16 None 0 bytes) (Some (not_four (length bytes))))) ≡ None
      → IsPacket most bytes
  go true b c is e = absurd (some_none e)
  go false true c is e = absurd (some_none e)
  go false false false is e = absurd (some_none e)
  go false false true is e =
      let one = element_found known 16 None 0 bytes small e in
      let short : length (packet_text one.packet) ≤ most = omega (arith, ap length one.spelled, ltb-false most (length bytes) is) in
      record { packet = one.packet; valid = record { short = short; shallow = one.shallow; lawful = one.lawful }; spelled = one.spelled }
