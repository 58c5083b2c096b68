-- What can be read is a message of a size that places can count.
use Rattle.std.proofs.Common.{◌≡◌, ℕ, ◌%◌, Bool, true, false, cond, ◌==◌, nat_le, IsTrue, List, [], ◌∷◌, length, Some, None, Result, Ok, Err, is_ok, refl}
use Rattle.std.proofs.Common.{arith}
use Rattle.std.specs.Result.{result_ok}
use Rattle.std.proofs.lemmas.Bool.Decides.{nat_tests}
use Rattle.osc_atoms.specs.declared.fault.Fault.{Fault}
use Rattle.osc_atoms.specs.Faults.{empty, not_four, too_long}
use Rattle.osc_message.specs.Reading.{Parts, IsReadable, message_read, is_message}

read_ok : (read : Result Parts Fault) (parts : Parts) → result_ok read ≡ Some parts → is_ok read ≡ true
read_ok (Ok found) parts is = refl
read_ok (Err fault) parts is = absurd (cc)

whole_ok : (whole : Bool) (size : ℕ) (read : Result Parts Fault) (parts : Parts) → cond whole (result_ok read) None ≡ Some parts
    → is_ok (cond {A = Result Parts Fault} whole read (Err (not_four size))) ≡ true
whole_ok true size read parts is = read_ok read parts is
whole_ok false size read parts is = absurd (cc)

within_ok : (none within : Bool) (size : ℕ) (read : Result Parts Fault) → none ≡ false → within ≡ true → is_ok read ≡ true
    → is_ok (cond {A = Result Parts Fault} none (Err empty) (cond {A = Result Parts Fault} within read (Err (too_long size)))) ≡ true
within_ok true within size read some few is = absurd (cc)
within_ok false true size read some few is = is
within_ok false false size read some few is = absurd (cc)

pub readable_message : (bytes : List ℕ) (parts : Parts) → IsReadable bytes parts → IsTrue (is_message 1073741824 bytes)
unfolding message_read
readable_message [] parts is = let read = is.read in absurd (cc)
readable_message (byte ∷ bytes) parts is =
    let all : List ℕ = byte ∷ bytes in
    let small = is.small in
    within_ok (length all == 0) (nat_le (length all) 1073741824) 1073741824
    (cond {A = Result Parts Fault} (length all % 4 == 0) (message_read all 0) (Err (not_four (length all))))
    (grind (arith, nat_tests)) (grind (arith, nat_tests))
    (whole_ok (length all % 4 == 0) (length all) (message_read all 0) parts is.read)
