-- The messages of a unit in a list of bytes.
use Rattle.std.proofs.Common.{◌≡◌, ℕ, zero, suc, ◌+◌, ◌<◌, ◌≤◌, ◌^◌, Bool, true, false, cond, ◌==◌, IsTrue, List, [], ◌∷◌, ◌++◌, length, take, drop, refl, ap}
use Rattle.std.proofs.Common.{subst, sym, ◌∙◌, arith, length-append}
use Rattle.std.specs.Prelude.{nat_le, Result, Err, is_ok}
use Rattle.std.specs.List.{list_all}
use Rattle.std.proofs.lemmas.Bool.{leb-true, and_parts}
use Rattle.std.proofs.lemmas.List.{take_at, drop_at}
use Rattle.std.proofs.lemmas.Nat.{from_be_bytes-to_be_bytes_4}
use Rattle.osc_atoms.specs.Atoms.{word}
use Rattle.osc_atoms.specs.declared.fault.Fault.{Fault}
use Rattle.osc_atoms.specs.Faults.{empty, too_long}
use Rattle.osc_message.specs.Reading.{Parts, is_message, fourfold_read}
use Rattle.osc_packet.specs.Units.{stored_size}
use Rattle.osc_packet.proofs.Bodies.{count_stored}
use Rattle.osc_core.specs.Frames.{framed, first_length, first_framed, after_framed, messages_from, messages_in, BeginsFramed, AreFramed}

-- a message that can be read is small
pub message_small : (bytes : List ℕ) → IsTrue (is_message 1073741824 bytes) → length bytes < 2 ^ 32
message_small bytes is = go (fourfold_read bytes) (length bytes == 0) (nat_le (length bytes) 1073741824) refl is where
  go : (read : Result Parts Fault) (none within : Bool) → nat_le (length bytes) 1073741824 ≡ within
      → is_ok (cond {A = Result Parts Fault} none (Err empty) (cond {A = Result Parts Fault} within read (Err (too_long 1073741824)))) ≡ true
      → length bytes < 2 ^ 32
  go read true within same is = absurd (cc)
  go read false true same is = let few : length bytes ≤ 1073741824 = leb-true (length bytes) 1073741824 same in omega arith
  go read false false same is = absurd (cc)

-- framed messages take the size that is told
pub length-framed : (messages : List (List ℕ)) → length (framed messages) ≡ stored_size messages
length-framed [] = refl
length-framed (message ∷ messages) =
    omega (arith, length-framed messages, length-append message (framed messages), length-append (word (length message)) (message ++ framed messages))

-- the length of a message is read again, and the message and what follows it
first_again : (message rest : List ℕ) → length message < 2 ^ 32 → first_length (word (length message) ++ (message ++ rest)) ≡ length message
first_again message rest small = from_be_bytes-to_be_bytes_4 (length message) small

pub message_again : (message rest : List ℕ) → length message < 2 ^ 32 → first_framed (word (length message) ++ (message ++ rest)) ≡ message
message_again message rest small = ap (λ (n : ℕ). take n (message ++ rest)) (first_again message rest small) ∙ take_at message rest (length message) refl

pub rest_again : (message rest : List ℕ) → length message < 2 ^ 32 → after_framed (word (length message) ++ (message ++ rest)) ≡ rest
rest_again message rest small = ap (λ (n : ℕ). drop n (message ++ rest)) (first_again message rest small) ∙ drop_at message rest (length message) refl

-- where there are bytes, there is a first message
from_some : (most : ℕ) (bytes : List ℕ) → 0 < length bytes → messages_from (suc most) bytes ≡ first_framed bytes ∷ messages_from most (after_framed bytes)
from_some most [] some = absurd (omega arith)
from_some most (byte ∷ bytes) some = refl

-- messages are read again
read_again : (most : ℕ) (messages : List (List ℕ)) → length (framed messages) ≤ most → IsTrue (list_all (is_message 1073741824) messages)
    → messages_from most (framed messages) ≡ messages
read_again most [] few read = refl
read_again zero (message ∷ messages) few read = absurd (omega (arith, few, length-framed (message ∷ messages)))
read_again (suc most) (message ∷ messages) few read =
    let parts = and_parts (is_message 1073741824 message) (list_all (is_message 1073741824) messages) read in
    let small = message_small message parts.0 in
    let bytes = framed (message ∷ messages) in
    let size : length bytes ≡ 4 + length message + stored_size messages = length-framed (message ∷ messages) in
    from_some most bytes (omega arith) ∙ ap (λ (l : List ℕ). l ∷ messages_from most (after_framed bytes)) (message_again message (framed messages) small)
    ∙ ap (λ (l : List ℕ). message ∷ messages_from most l) (rest_again message (framed messages) small)
    ∙ ap (λ (l : List (List ℕ)). message ∷ l) (read_again most messages (omega (arith, few, length-framed messages)) parts.1)

pub messages-framed : (messages : List (List ℕ)) → IsTrue (list_all (is_message 1073741824) messages) → messages_in (framed messages) ≡ messages
messages-framed messages read = read_again (length (framed messages)) messages (omega arith) read

pub framed_few : {bytes : List ℕ} → AreFramed bytes → length (messages_in bytes) < 2 ^ 32
framed_few {bytes} is =
    let same : messages_in bytes ≡ is.messages = ap messages_in is.is ∙ messages-framed is.messages is.read in
    omega (arith, is.few, ap length same, ap length is.is, length-framed is.messages, count_stored is.messages)

-- bytes that are messages, split behind the first
pub record IsSplit (bytes message rest : List ℕ) : Type 0 where
  pub begins : BeginsFramed bytes
  pub others : AreFramed rest
  pub shows : messages_in bytes ≡ message ∷ messages_in rest

split_framed : (message : List ℕ) (messages : List (List ℕ)) → length (framed (message ∷ messages)) ≤ 65508
    → IsTrue (list_all (is_message 1073741824) (message ∷ messages))
    → IsSplit (framed (message ∷ messages)) (first_framed (framed (message ∷ messages))) (after_framed (framed (message ∷ messages)))
split_framed message messages few read =
    let parts = and_parts (is_message 1073741824 message) (list_all (is_message 1073741824) messages) read in
    let small = message_small message parts.0 in
    let bytes = framed (message ∷ messages) in
    let size : length bytes ≡ 4 + length message + stored_size messages = length-framed (message ∷ messages) in
    let first : first_framed bytes ≡ message = message_again message (framed messages) small in
    let after : after_framed bytes ≡ framed messages = rest_again message (framed messages) small in
    record {
      begins = (
        omega (arith, size, first_again message (framed messages) small),
        subst (λ (l : List ℕ). IsTrue (is_message 1073741824 l)) (sym first) parts.0,
      );
      others = record { messages = messages; is = after; read = parts.1; few = omega (arith, few, size, ap length after, length-framed messages) };
      shows = messages-framed (message ∷ messages) read ∙ ap (λ (l : List (List ℕ)). message ∷ l) (sym (messages-framed messages parts.1))
          ∙ ap (λ (l : List ℕ). message ∷ messages_in l) (sym after) ∙ ap (λ (l : List ℕ). l ∷ messages_in (after_framed bytes)) (sym first);
    }

pub split_is : {bytes : List ℕ} → AreFramed bytes → 0 < length bytes → IsSplit bytes (first_framed bytes) (after_framed bytes)
split_is {bytes} is some = go is.messages is.is is.read where
  go : (messages : List (List ℕ)) → bytes ≡ framed messages → IsTrue (list_all (is_message 1073741824) messages)
      → IsSplit bytes (first_framed bytes) (after_framed bytes)
  go [] e read = absurd (omega (arith, some, ap length e))
  go (message ∷ messages) e read = subst (λ (l : List ℕ). IsSplit l (first_framed l) (after_framed l)) (sym e)
      (split_framed message messages (subst (λ (l : List ℕ). length l ≤ 65508) e is.few) read)

pub split_next : {bytes : List ℕ} (message rest : List ℕ) → AreFramed bytes → 0 < length bytes → message ≡ first_framed bytes → rest ≡ after_framed bytes
    → IsSplit bytes message rest
split_next message rest is some first after = rw (first, after) (split_is is some)
