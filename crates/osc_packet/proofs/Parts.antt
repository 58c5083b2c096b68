-- Parts of bytes, from a place to another.
use Rattle.std.proofs.Common.{◌≡◌, ℕ, ◌+◌, ◌-◌, ◌<◌, ◌≤◌, List, length, take, drop, get_or, ◌∙◌, ap, arith, length-drop}
use Rattle.std.proofs.lemmas.List.{length-take-le, drop-drop, drop-take, take-take, get_or-take, get_or-drop}
use Rattle.osc_packet.specs.Wants.{part}

pub part_length : (bytes : List ℕ) (place end : ℕ) → end ≤ length bytes → length (part bytes place end) ≡ end - place
part_length bytes place end inside = length-take-le (end - place) (drop place bytes) (omega (arith, length-drop place bytes))

-- the front of a part
pub part_front : (bytes : List ℕ) (place end n : ℕ) → place + n ≤ end → take n (part bytes place end) ≡ part bytes place (place + n)
part_front bytes place end n inside =
    take-take n (end - place) (drop place bytes) (omega arith) ∙ ap (λ (k : ℕ). take k (drop place bytes)) (omega arith)

-- the front of a part, taken from all
pub part_taken : (bytes : List ℕ) (place end n : ℕ) → place + n ≤ end → take n (part bytes place end) ≡ take n (drop place bytes)
part_taken bytes place end n inside = take-take n (end - place) (drop place bytes) (omega arith)

-- the rest of a part
pub part_rest : (bytes : List ℕ) (place end n : ℕ) → place + n ≤ end → drop n (part bytes place end) ≡ part bytes (place + n) end
part_rest bytes place end n inside =
    ap (λ (k : ℕ). drop n (take k (drop place bytes))) (omega arith)
    ∙ drop-take n (end - (place + n)) (drop place bytes)
    ∙ ap (take (end - (place + n))) (drop-drop n place bytes)

-- the first byte of a part
pub part_first : (bytes : List ℕ) (place end : ℕ) → place < end → get_or (part bytes place end) 0 0 ≡ get_or bytes place 0
part_first bytes place end some =
    get_or-take (end - place) (drop place bytes) 0 0 (omega arith) ∙ get_or-drop place bytes 0 0 ∙ ap (λ (k : ℕ). get_or bytes k 0) (omega arith)
