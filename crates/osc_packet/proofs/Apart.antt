-- No two packets have one text.
use Rattle.std.proofs.Common.{◌≡◌, ℕ, ◌<◌, ◌^◌, List, ◌++◌, length, take, drop, Option, Some, refl, sym, ◌∙◌, ap, arith, length-append}
use Rattle.std.specs.Prelude.{slice_index}
use Rattle.std.specs.Int.{w32, w64, from_be_bytes}
use Rattle.std.proofs.lemmas.List.{take_at, drop_at}
use Rattle.std.proofs.lemmas.Nat.{from_be_bytes-to_be_bytes_4, from_be_bytes-to_be_bytes_8}
use Rattle.osc_message.specs.Messages.{message_text}
use Rattle.osc_packet.specs.Packets.{Packet, Elements, message, bundle, none, more, packet_text, elements_text, effective_tag, IsLawfulIn, AreLawfulIn}
use Rattle.osc_packet.specs.Known.{OfMessages}
use Rattle.osc_packet.proofs.Silent.{is_message_text}

mutual
  pub packets_same : OfMessages → (a b : Packet) (outer other : Option ℕ) → IsLawfulIn outer a → IsLawfulIn other b → length (packet_text a) < 2 ^ 32
      → packet_text a ≡ packet_text b → a ≡ b
  packets_same known (message f) (message g) outer other first second small same = ap message (known.apart f g first second same)
  packets_same known (message f) (bundle own elements) outer other first second small same =
      let slash : slice_index (message_text f) 0 ≡ 47 = known.slash _ _ (is_message_text f first) in
      let hash : slice_index (message_text f) 0 ≡ 35 = ap (λ (l : List ℕ). slice_index l 0) same in
      absurd (omega arith)
  packets_same known (bundle own elements) (message g) outer other first second small same =
      let slash : slice_index (message_text g) 0 ≡ 47 = known.slash _ _ (is_message_text g second) in
      let hash : slice_index (message_text g) 0 ≡ 35 = ap (λ (l : List ℕ). slice_index l 0) (sym same) in
      absurd (omega arith)
  packets_same known (bundle own elements) (bundle also others) outer other first second small same =
      let tags : own ≡ also = sym (from_be_bytes-to_be_bytes_8 own first.0) ∙ ap (λ (l : List ℕ). from_be_bytes w64 (take 8 (drop 8 l))) same
      ∙ from_be_bytes-to_be_bytes_8 also second.0 in
      let inner : elements_text elements ≡ elements_text others = ap (drop 16) same in
      let both = elements_same known elements others (effective_tag outer own) (effective_tag other also) first.2 second.2 (omega arith) inner in
      λ i. bundle (tags i) (both i)

  elements_same : OfMessages → (a b : Elements) (outer other : ℕ) → AreLawfulIn outer a → AreLawfulIn other b → length (elements_text a) < 2 ^ 32
      → elements_text a ≡ elements_text b → a ≡ b
  elements_same known none none outer other first second small same = refl
  elements_same known none (more b bs) outer other first second small same =
      let long : 0 ≡ length (elements_text (more b bs)) = ap length same in
      absurd (omega arith)
  elements_same known (more a as_) none outer other first second small same =
      let long : length (elements_text (more a as_)) ≡ 0 = ap length same in
      absurd (omega arith)
  elements_same known (more a as_) (more b bs) outer other first second small same =
      let long = length-append (packet_text a) (elements_text as_) in
      let total : length (packet_text a ++ elements_text as_) ≡ length (packet_text b ++ elements_text bs) = ap (λ (l : List ℕ). length (drop 4 l)) same in
      let longer = length-append (packet_text b) (elements_text bs) in
      let sizes : length (packet_text a) ≡ length (packet_text b) =
      sym (from_be_bytes-to_be_bytes_4 (length (packet_text a)) (omega arith)) ∙ ap (λ (l : List ℕ). from_be_bytes w32 (take 4 l)) same
      ∙ from_be_bytes-to_be_bytes_4 (length (packet_text b)) (omega arith) in
      let inner : packet_text a ++ elements_text as_ ≡ packet_text b ++ elements_text bs = ap (drop 4) same in
      let one : packet_text a ≡ packet_text b = sym (take_at (packet_text a) (elements_text as_) (length (packet_text a)) refl)
      ∙ ap (take (length (packet_text a))) inner ∙ take_at (packet_text b) (elements_text bs) (length (packet_text a)) (sym sizes) in
      let rest : elements_text as_ ≡ elements_text bs = sym (drop_at (packet_text a) (elements_text as_) (length (packet_text a)) refl)
      ∙ ap (drop (length (packet_text a))) inner ∙ drop_at (packet_text b) (elements_text bs) (length (packet_text a)) (sym sizes) in
      let same_one = packets_same known a b (Some outer) (Some other) first.0 second.0 (omega arith) one in
      let same_rest = elements_same known as_ bs outer other first.1 second.1 (omega arith) rest in
      λ i. more (same_one i) (same_rest i)
