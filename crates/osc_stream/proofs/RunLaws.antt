-- However bytes are cut into pieces, a stream answers their packets.
use Rattle.std.proofs.Common.{◌≡◌, ℕ, List, [], ◌∷◌, ◌++◌, take, Option, Some, None, refl, sym, ap, ◌∙◌, arith}
use Rattle.std.proofs.Common.{append_assoc, append-nil}
use Rattle.std.proofs.lemmas.List.{take_all}
use Rattle.osc_stream.specs.declared.fed.Fed.{Fed}
use Rattle.osc_stream.specs.declared.fed.Fed.TheVariants.{More, Ready, Broken}
use Rattle.osc_stream.specs.Frames.{Framing, Frames, frames, with_packet, with_packets}
use Rattle.osc_stream.specs.Feeding.{StreamView, at_start, IsFed}
use Rattle.osc_stream.specs.Runs.{Feed, IsRun, bytes_taken, packets_answered, ready_packets}
use Rattle.osc_stream.proofs.FrameLaws.{frames_bad, frames_short, frames_whole}

abbrev then_frames : Fed → List ℕ → StreamView → Framing
then_frames fed rest stream = with_packets (ready_packets fed stream.packet) (frames stream.place (stream.held ++ rest))

-- the packets of what is held
abbrev packets_held : StreamView → List (List ℕ)
packets_held stream = (frames stream.place stream.held).packets

ready_first : (fed : Fed) (packet : Option (List ℕ)) (packets : List (List ℕ)) (others : Framing)
    → with_packets (ready_packets fed packet ++ packets) others ≡ with_packets (ready_packets fed packet) (with_packets packets others)
ready_first More packet packets others = refl
ready_first Ready None packets others = refl
ready_first Ready (Some packet) packets others = refl
ready_first (Broken at size) packet packets others = refl

-- one call
run_step : (fed : Fed) (count : ℕ) (piece rest : List ℕ) (old next : StreamView) → IsFed fed count piece old next
    → frames old.place (old.held ++ (take count piece ++ rest)) ≡ then_frames fed rest next
run_step More count piece rest old next f =
    ap (λ (p : List ℕ). frames old.place (old.held ++ (p ++ rest))) (take_all count piece (omega (arith, f.0)))
    ∙ ap (frames old.place) (sym (append_assoc old.held piece rest)) ∙ ap (then_frames More rest) (sym f.2)
run_step Ready count piece rest old next f =
    ap (frames old.place) (sym (append_assoc old.held (take count piece) rest))
    ∙ frames_whole old.place (old.held ++ take count piece) rest f.0 f.1 f.2 ∙ ap (then_frames Ready rest) (sym f.3)
run_step (Broken at size) count piece rest old next f =
    ap (frames old.place) (sym (append_assoc old.held (take count piece) rest)) ∙ ap (then_frames (Broken at size) rest) (sym f.3)

pub run_frames : (feeds : List Feed) (old new : StreamView) (more : List ℕ) → IsRun old feeds new
    → frames old.place (old.held ++ (bytes_taken feeds ++ more)) ≡ with_packets (packets_answered feeds) (frames new.place (new.held ++ more))
run_frames [] old new more h = ap (λ (s : StreamView). frames s.place (s.held ++ more)) h
run_frames (feed ∷ feeds) old new more h =
    ap (λ (b : List ℕ). frames old.place (old.held ++ b)) (append_assoc (take feed.count feed.piece) (bytes_taken feeds) more)
    ∙ run_step feed.fed feed.count feed.piece (bytes_taken feeds ++ more) old feed.next h.0
    ∙ ap (with_packets (ready_packets feed.fed feed.next.packet)) (run_frames feeds feed.next new more h.1)
    ∙ sym (ready_first feed.fed feed.next.packet (packets_answered feeds) (frames new.place (new.held ++ more)))

-- what is held has no packet
held_none : (fed : Fed) (count : ℕ) (piece : List ℕ) (old next : StreamView) → IsFed fed count piece old next → packets_held next ≡ []
held_none More count piece old next f =
    ap packets_held f.2 ∙ ap (λ (g : Framing). g.packets) (frames_short old.place (old.held ++ piece) f.1)
held_none Ready count piece old next f = ap packets_held f.3
held_none (Broken at size) count piece old next f =
    ap packets_held f.3 ∙ ap (λ (b : List ℕ). (frames old.place b).packets) (sym (append-nil (old.held ++ take count piece)))
    ∙ ap (λ (g : Framing). g.packets) (frames_bad old.place (old.held ++ take count piece) [] size f.1)

run_none : (feeds : List Feed) (old new : StreamView) → packets_held old ≡ [] → IsRun old feeds new → packets_held new ≡ []
run_none [] old new none h = ap packets_held (sym h) ∙ none
run_none (feed ∷ feeds) old new none h =
    run_none feeds feed.next new (held_none feed.fed feed.count feed.piece old feed.next h.0) h.1

packets_with : (packets : List (List ℕ)) (others : Framing) → (with_packets packets others).packets ≡ packets ++ others.packets
packets_with [] others = refl
packets_with (packet ∷ packets) others = ap (λ (more : List (List ℕ)). packet ∷ more) (packets_with packets others)

pub run_packets : (feeds : List Feed) (new : StreamView) → IsRun at_start feeds new → packets_answered feeds ≡ (Frames (bytes_taken feeds)).packets
run_packets feeds new h =
    let held : packets_held new ≡ [] = run_none feeds at_start new refl h in
    let told : (Frames (bytes_taken feeds ++ [])).packets ≡ packets_answered feeds ++ (frames new.place (new.held ++ [])).packets =
    ap (λ (g : Framing). g.packets) (run_frames feeds at_start new [] h) ∙ packets_with (packets_answered feeds) (frames new.place (new.held ++ [])) in
    sym (append-nil (packets_answered feeds)) ∙ ap (λ (p : List (List ℕ)). packets_answered feeds ++ p) (sym held)
    ∙ ap (λ (b : List ℕ). packets_answered feeds ++ (frames new.place b).packets) (sym (append-nil new.held)) ∙ sym told
    ∙ ap (λ (b : List ℕ). (Frames b).packets) (append-nil (bytes_taken feeds))
