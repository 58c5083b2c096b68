-- The frames of bytes, step by step.
use Rattle.std.proofs.Common.{◌≡◌, ℕ, zero, suc, ◌+◌, ◌≤◌, List, [], ◌∷◌, ◌++◌, length, take, drop, refl, ap}
use Rattle.std.proofs.Common.{◌∙◌, arith, length-drop}
use Rattle.std.proofs.lemmas.List.{take_at, drop_at, drop-append-le}
use Rattle.osc_stream.specs.declared.front.Front.{Front}
use Rattle.osc_stream.specs.declared.front.Front.TheVariants.{Short, Whole, Bad}
use Rattle.osc_stream.specs.Frames.{front, Framing, Broken, ends, rest_ending, with_packet, next_frames, frames_in, frames}
use Rattle.osc_stream.proofs.Fronts.{whole_stays, bad_stays}

-- the frames behind the first one are all that counts
next_same : (found : Front) (at : ℕ) (bytes : List ℕ) (g h : ℕ → List ℕ → Framing)
    → ((place size : ℕ) → g place (drop (4 + size) bytes) ≡ h place (drop (4 + size) bytes)) → next_frames found at bytes g ≡ next_frames found at bytes h
next_same Short at bytes g h same = refl
next_same (Whole size) at bytes g h same = ap (with_packet (take size (drop 4 bytes))) (same (at + (4 + size)) size)
next_same (Bad size) at bytes g h same = refl

-- as many steps as there are bytes are enough
enough : (m n at : ℕ) (bytes : List ℕ) → length bytes ≤ m → length bytes ≤ n → frames_in m at bytes ≡ frames_in n at bytes
enough zero zero at bytes le lf = refl
enough zero (suc n) at [] le lf = refl
enough (suc m) zero at [] le lf = refl
enough zero (suc n) at (b ∷ bytes) le lf = absurd (omega (arith, le))
enough (suc m) zero at (b ∷ bytes) le lf = absurd (omega (arith, lf))
enough (suc m) (suc n) at bytes le lf = next_same (front bytes) at bytes (frames_in m) (frames_in n)
    (λ place size. enough m n place (drop (4 + size) bytes) (omega (arith, length-drop (4 + size) bytes, le)) (omega (arith, length-drop (4 + size) bytes, lf)))

-- the frames from a place on, by what stands there
pub frames_step : (at : ℕ) (bytes : List ℕ) → frames at bytes ≡ next_frames (front bytes) at bytes frames
frames_step at [] = refl
frames_step at (b ∷ bytes) = next_same (front (b ∷ bytes)) at (b ∷ bytes) (frames_in (length bytes)) frames
    (λ place size. enough (length bytes) (length (drop (4 + size) (b ∷ bytes))) place (drop (4 + size) (b ∷ bytes))
    (omega (arith, length-drop (4 + size) (b ∷ bytes))) (omega arith))

-- a whole frame, and what comes behind it
pub frames_whole : (at : ℕ) (bytes more : List ℕ) (size : ℕ) → front bytes ≡ Whole size → length bytes ≡ 4 + size
    → frames at (bytes ++ more) ≡ with_packet (drop 4 bytes) (frames (at + (4 + size)) more)
frames_whole at bytes more size found is =
    let front_is = whole_stays bytes more size found in
    let packet : take size (drop 4 (bytes ++ more)) ≡ drop 4 bytes =
    ap (take size) (drop-append-le 4 bytes more (omega (arith, is))) ∙ take_at (drop 4 bytes) more size (omega (arith, is, length-drop 4 bytes)) in
    let behind : drop (4 + size) (bytes ++ more) ≡ more = drop_at bytes more (4 + size) is in
    frames_step at (bytes ++ more) ∙ ap (λ (f : Front). next_frames f at (bytes ++ more) frames) front_is
    ∙ ap (λ (p : List ℕ). with_packet p (frames (at + (4 + size)) (drop (4 + size) (bytes ++ more)))) packet
    ∙ ap (λ (r : List ℕ). with_packet (drop 4 bytes) (frames (at + (4 + size)) r)) behind

-- a word that is no size, whatever comes behind it
pub frames_bad : (at : ℕ) (bytes more : List ℕ) (size : ℕ) → front bytes ≡ Bad size → frames at (bytes ++ more) ≡ ends (Broken at size)
frames_bad at bytes more size found =
    frames_step at (bytes ++ more) ∙ ap (λ (f : Front). next_frames f at (bytes ++ more) frames) (bad_stays bytes more size found)

-- less than a frame
pub frames_short : (at : ℕ) (bytes : List ℕ) → front bytes ≡ Short → frames at bytes ≡ ends (rest_ending at bytes)
frames_short at bytes found = frames_step at bytes ∙ ap (λ (f : Front). next_frames f at bytes frames) found
