-- Numbers that are all bytes, one after another.
use Rattle.std.proofs.Common.{ℕ, zero, suc, ◌<◌, List, [], ◌∷◌, ◌++◌, length, lit<, arith}
use Rattle.std.specs.List.{AllByRecursion, flat_map}
use Rattle.osc_atoms.specs.Atoms.{AreBytes, word, tag}
use Rattle.osc_packet.specs.Packets.{bundle_word}
use Rattle.osc_packet.specs.Bundling.{sized, bundled}

pub fore_bytes : (front back : List ℕ) → AreBytes (front ++ back) → AreBytes front
fore_bytes [] back all i = lit< tt
fore_bytes (b ∷ front) back all zero = all 0
fore_bytes (b ∷ front) back all (suc i) = fore_bytes front back (λ k. all (suc k)) i

pub back_bytes : (front back : List ℕ) → AreBytes (front ++ back) → AreBytes back
back_bytes [] back all = all
back_bytes (b ∷ front) back all = back_bytes front back (λ k. all (suc k))

pub both_bytes : (front back : List ℕ) → AreBytes front → AreBytes back → AreBytes (front ++ back)
both_bytes [] back one two i = two i
both_bytes (b ∷ front) back one two zero = one 0
both_bytes (b ∷ front) back one two (suc i) = both_bytes front back (λ k. one (suc k)) two i

abbrev AreSmall : List ℕ → Type 0
AreSmall bytes = AllByRecursion (λ byte. byte < 256) bytes

of_small : (bytes : List ℕ) → AreSmall bytes → AreBytes bytes
of_small [] small i = lit< tt
of_small (byte ∷ bytes) small zero = small.0
of_small (byte ∷ bytes) small (suc i) = of_small bytes small.1 i

word_bytes : (n : ℕ) → AreBytes (word n)
word_bytes n = of_small (word n) (omega arith, (omega arith, (omega arith, (omega arith, tt))))

tag_bytes : (n : ℕ) → AreBytes (tag n)
tag_bytes n =
    of_small (tag n) (omega arith, (omega arith, (omega arith, (omega arith, (omega arith, (omega arith, (omega arith, (omega arith, tt))))))))

head_bytes : AreBytes bundle_word
head_bytes =
    of_small bundle_word (omega arith, (omega arith, (omega arith, (omega arith, (omega arith, (omega arith, (omega arith, (omega arith, tt))))))))

elements_bytes : (messages : List (List ℕ)) → AllByRecursion AreBytes messages → AreBytes (flat_map sized messages)
elements_bytes [] all = of_small [] tt
elements_bytes (message ∷ messages) all =
    both_bytes (sized message) (flat_map sized messages) (both_bytes (word (length message)) message (word_bytes (length message)) all.0)
    (elements_bytes messages all.1)

pub bundle_bytes : (own : ℕ) (messages : List (List ℕ)) → AllByRecursion AreBytes messages → AreBytes (bundled (record { tag = own; messages = messages }))
bundle_bytes own messages all =
    both_bytes bundle_word (tag own ++ flat_map sized messages) head_bytes
    (both_bytes (tag own) (flat_map sized messages) (tag_bytes own) (elements_bytes messages all))
