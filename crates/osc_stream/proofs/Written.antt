-- Packets that are written are the packets of the frames.
use Rattle.std.proofs.Common.{◌≡◌, ℕ, ◌+◌, ◌≤◌, true, leb, List, [], ◌∷◌, ◌++◌, length, refl, ap, ◌∙◌, arith, append_assoc, length-append}
use Rattle.std.proofs.lemmas.Bool.{le-ltb, leb-true, and_parts}
use Rattle.std.proofs.lemmas.List.{take_at, drop_at}
use Rattle.std.proofs.lemmas.Nat.{from_be_bytes-to_be_bytes_4}
use Rattle.std.specs.Prelude.{IsTrue, ◌==◌, ◌%◌}
use Rattle.std.specs.Int.{w32, from_be_bytes}
use Rattle.osc_atoms.specs.Atoms.{word}
use Rattle.osc_stream.specs.declared.front.Front.TheVariants.{Whole}
use Rattle.osc_stream.specs.Frames.{frame, front, frames, first_word, is_length, with_packet, with_packets}
use Rattle.osc_stream.specs.Written.{written, are_lawful}
use Rattle.osc_stream.proofs.FrameLaws.{frames_whole}

whole_from : (bytes : List ℕ) (size : ℕ) → first_word bytes ≡ size → is_length size ≡ true → 4 + size ≤ length bytes → front bytes ≡ Whole size
whole_from bytes size is lawful long =
    rw (is, le-ltb (length bytes) 4 (omega (arith, long)), lawful, le-ltb (length bytes) (4 + size) long) refl

frame_size : (packet : List ℕ) → length (frame packet) ≡ 4 + length packet
frame_size packet = length-append (word (length packet)) packet

front_frame : (packet : List ℕ) → is_length (length packet) ≡ true → front (frame packet) ≡ Whole (length packet)
front_frame packet lawful =
    let size = length packet in
    let small : size ≤ 65504 = leb-true size 65504 (and_parts (size % 4 == 0) (leb size 65504) lawful).1 in
    let same : first_word (frame packet) ≡ size =
    ap (from_be_bytes w32) (take_at (word size) packet 4 refl) ∙ from_be_bytes-to_be_bytes_4 size (omega (arith, small)) in
    whole_from (frame packet) size same lawful (omega (arith, frame_size packet))

written_from : (packets : List (List ℕ)) (at : ℕ) (rest : List ℕ) → IsTrue (are_lawful packets)
    → frames at (written packets ++ rest) ≡ with_packets packets (frames (at + length (written packets)) rest)
written_from [] at rest lawful = let e : at ≡ at + 0 = omega arith in ap (λ n. frames n rest) e
written_from (packet ∷ packets) at rest lawful =
    let both = and_parts (is_length (length packet)) (are_lawful packets) lawful in
    let behind = written packets ++ rest in
    let place : at + (4 + length packet) + length (written packets) ≡ at + length (frame packet ++ written packets) =
    omega (arith, length-append (frame packet) (written packets), frame_size packet) in
    ap (frames at) (append_assoc (frame packet) (written packets) rest)
    ∙ frames_whole at (frame packet) behind (length packet) (front_frame packet both.0) (frame_size packet)
    ∙ ap (λ (p : List ℕ). with_packet p (frames (at + (4 + length packet)) behind)) (drop_at (word (length packet)) packet 4 refl)
    ∙ ap (with_packet packet) (written_from packets (at + (4 + length packet)) rest both.1
    ∙ ap (λ n. with_packets packets (frames n rest)) place)

pub written_frames : (packets : List (List ℕ)) (rest : List ℕ) → IsTrue (are_lawful packets)
    → frames 0 (written packets ++ rest) ≡ with_packets packets (frames (length (written packets)) rest)
written_frames packets rest lawful =
    let e : 0 + length (written packets) ≡ length (written packets) = omega arith in
    written_from packets 0 rest lawful ∙ ap (λ n. with_packets packets (frames n rest)) e
