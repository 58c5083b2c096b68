-- A packet's text is read as its units.
use Rattle.std.proofs.Common.{◌≡◌, ℕ, ◌+◌, ◌-◌, ◌<◌, ◌≤◌, ◌^◌, Bool, true, false, cond, not, ◌==◌, List, [], ◌∷◌, ◌++◌, length, Option, Some, None, refl, sym}
use Rattle.std.proofs.Common.{◌∙◌, ap, arith, length-append, append-nil}
use Rattle.std.specs.Prelude.{slice_index}
use Rattle.std.specs.List.{filter, flat_map}
use Rattle.std.proofs.lemmas.Bool.{cond-true, cond-false}
use Rattle.osc_atoms.specs.Atoms.{word}
use Rattle.osc_message.specs.Messages.{Form, message_text, IsLawful}
use Rattle.osc_packet.specs.Packets.{Packet, Elements, message, bundle, none, more, packet_text, elements_text, depth, elements_depth, effective_tag}
use Rattle.osc_packet.specs.Packets.{IsLawfulIn, AreLawfulIn}
use Rattle.osc_packet.specs.Units.{TimedUnit, own_messages, bundle_units, enclosed_units, units_of}
use Rattle.osc_packet.specs.Reading.{is_bundle, bundle_tag, elements_in, messages_in, bundle_read, enclosed_read, units_read}
use Rattle.osc_packet.specs.Known.{OfMessages}
use Rattle.osc_packet.proofs.Steps.{in_step, in_end, bundle_step}
use Rattle.osc_packet.proofs.Silent.{is_message_text, element_again, rest_again, tag_again}

-- the texts of the elements
abbrev element_texts : Elements → List (List ℕ)
element_texts none = []
element_texts (more packet elements) = packet_text packet ∷ element_texts elements

texts_again : (elements : Elements) → length (elements_text elements) < 2 ^ 32 → elements_in (elements_text elements) ≡ element_texts elements
texts_again none small = in_end [] refl
texts_again (more packet elements) small =
    let front : List ℕ = packet_text packet in
    let rest : List ℕ = elements_text elements in
    let text : List ℕ = word (length front) ++ (front ++ rest) in
    let long : length text ≡ 4 + (length front + length rest) = omega (arith, length-append front rest) in
    let few : length front < 2 ^ 32 = omega arith in
    let one = element_again front rest few in
    let others = ap elements_in (rest_again front rest few) ∙ texts_again elements (omega arith) in
    in_step text (omega arith) ∙ (λ i. one i ∷ others i)

no_hash : OfMessages → (form : Form) → IsLawful form → is_bundle (message_text form) ≡ false
no_hash known form lawful =
    let slash : slice_index (message_text form) 0 ≡ 47 = known.slash _ _ (is_message_text form lawful) in
    ap (λ (n : ℕ). n == 35) slash

messages_again : OfMessages → (elements : Elements) (effective : ℕ) → AreLawfulIn effective elements
    → filter (λ (element : List ℕ). not (is_bundle element)) (element_texts elements) ≡ own_messages elements
messages_again known none effective lawful = refl
messages_again known (more (message form) elements) effective lawful =
    cond-true _ _ _ (ap not (no_hash known form lawful.0))
    ∙ ap (λ (l : List (List ℕ)). message_text form ∷ l) (messages_again known elements effective lawful.1)
messages_again known (more (bundle own inner) elements) effective lawful = messages_again known elements effective lawful.1

one_and_more : (f : List ℕ → List TimedUnit) (x : List ℕ) (xs : List (List ℕ))
    → flat_map f (filter is_bundle (x ∷ xs)) ≡ flat_map f (filter is_bundle (x ∷ [])) ++ flat_map f (filter is_bundle xs)
one_and_more f x xs = go (is_bundle x) where
  go : (test : Bool) → flat_map f (cond test (x ∷ filter is_bundle xs) (filter is_bundle xs))
      ≡ flat_map f (cond test (x ∷ []) []) ++ flat_map f (filter is_bundle xs)
  go true = ap (λ (l : List TimedUnit). l ++ flat_map f (filter is_bundle xs)) (sym (append-nil (f x)))
  go false = refl

mutual
  packet_again : OfMessages → (packet : Packet) (left : ℕ) (outer : Option ℕ) → depth packet ≤ left → IsLawfulIn outer packet
      → length (packet_text packet) < 2 ^ 32 → flat_map (bundle_read left outer) (filter is_bundle (packet_text packet ∷ [])) ≡ bundle_units outer packet
  packet_again known (message form) left outer shallow lawful small = ap (flat_map (bundle_read left outer)) (cond-false _ _ _ (no_hash known form lawful))
  packet_again known (bundle own elements) left outer shallow lawful small =
      let text : List ℕ = packet_text (bundle own elements) in
      let tags : effective_tag outer (bundle_tag text) ≡ effective_tag outer own = ap (effective_tag outer) (tag_again own elements lawful.0) in
      let texts = texts_again elements (omega arith) in
      let mine : messages_in (elements_text elements) ≡ own_messages elements =
      ap (filter (λ (element : List ℕ). not (is_bundle element))) texts ∙ messages_again known elements (effective_tag outer own) lawful.2 in
      let others : enclosed_read (left - 1) (effective_tag outer (bundle_tag text)) (elements_text elements)
      ≡ enclosed_units (effective_tag outer own) elements =
      ap (λ (n : ℕ). enclosed_read (left - 1) n (elements_text elements)) tags
      ∙ ap (λ (l : List (List ℕ)). flat_map (bundle_read (left - 1) (Some (effective_tag outer own))) (filter is_bundle l)) texts
      ∙ enclosed_again known elements (left - 1) (effective_tag outer own) (omega arith) lawful.2 (omega arith) in
      append-nil (bundle_read left outer text) ∙ bundle_step left outer text (omega arith) ∙ (λ i. record { tag = tags i; messages = mine i } ∷ others i)

  enclosed_again : OfMessages → (elements : Elements) (left effective : ℕ) → elements_depth elements ≤ left → AreLawfulIn effective elements
      → length (elements_text elements) < 2 ^ 32
      → flat_map (bundle_read left (Some effective)) (filter is_bundle (element_texts elements)) ≡ enclosed_units effective elements
  enclosed_again known none left effective shallow lawful small = refl
  enclosed_again known (more packet elements) left effective shallow lawful small =
      let long = length-append (packet_text packet) (elements_text elements) in
      let one = packet_again known packet left (Some effective) (omega arith) lawful.0 (omega arith) in
      let others = enclosed_again known elements left effective (omega arith) lawful.1 (omega arith) in
      one_and_more (bundle_read left (Some effective)) (packet_text packet) (element_texts elements) ∙ (λ i. one i ++ others i)

-- a packet's text is read as its units
pub units_again : OfMessages → (packet : Packet) → depth packet ≤ 16 → IsLawfulIn None packet → length (packet_text packet) < 2 ^ 32
    → units_read (packet_text packet) ≡ units_of packet
units_again known (message form) shallow lawful small = cond-false _ _ _ (no_hash known form lawful)
units_again known (bundle own elements) shallow lawful small =
    sym (append-nil (bundle_read 16 None (packet_text (bundle own elements)))) ∙ packet_again known (bundle own elements) 16 None shallow lawful small
