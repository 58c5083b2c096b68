-- What words and operands are refused, and which digits are read.
use Rattle.std.proofs.Common.{◌≡◌, ◌↔◌, ℕ, zero, suc, ◌%◌, ◌<◌, ◌^◌, Bool, true, false, ◌||◌, cond, eqb, List, [], ◌∷◌, length, Result, Ok, Err, IsOk, codes}
use Rattle.std.proofs.Common.{refl, ap, ◌∙◌, arith}
use Rattle.std.proofs.lemmas.List.{append-nil}
use Rattle.std.proofs.lemmas.Nat.{from_be_bytes-to_be_bytes_8}
use Rattle.std.specs.List.{AllPass, concat}
use Rattle.std.specs.Int.{w64, byte_at, bytes_high_first, to_be_bytes, from_be_bytes}
use Rattle.std.specs.Str.{bytes_eq}
use Rattle.hex.specs.Hex.{is_hex_digit, decode_of, decode_sized, encode_lower, encode_upper, IsBytes}
use Rattle.hex.specs.declared.error.FromHexError.{FromHexError}
use Rattle.hex.proofs.HexLemmas.{decode_of-ok, decode_of-digits, IsOk-decode_sized, decode_of-encode_lower, decode_of-encode_upper, decode_sized-encode_lower}
use Rattle.osc_script.specs.declared.act.Act.{Act}
use Rattle.osc_script.specs.declared.act.Act.TheVariants.{Add, Remove, Send, Tick}
use Rattle.osc_script.specs.declared.fault.ScriptFaultKind.{ScriptFaultKind}
use Rattle.osc_script.specs.declared.fault.ScriptFaultKind.TheVariants as kinds
use Rattle.osc_script.specs.Acts.{and_then, only_of, pump_of, decoded, address_of, packet_of, moment_of, act_of, is_known, has_count}

pub unknown_word : (word : List ℕ) (operands : List (List ℕ)) → is_known word ≡ false → act_of word operands ≡ Err kinds.Word
unfolding act_of
unknown_word word operands unknown =
    go (bytes_eq word (codes "add")) (bytes_eq word (codes "remove")) (bytes_eq word (codes "send")) (bytes_eq word (codes "tick"))
    (bytes_eq word (codes "pump")) unknown where
      go : (adds removes sends ticks pumps : Bool) → (adds || (removes || (sends || (ticks || (pumps || false))))) ≡ false
          → cond adds (and_then (address_of operands) (λ address. Ok (Add address)))
          (cond removes (and_then (address_of operands) (λ address. Ok (Remove address)))
          (cond sends (and_then (packet_of operands) (λ packet. Ok (Send packet)))
          (cond ticks (and_then (moment_of operands) (λ moment. Ok (Tick moment)))
          (cond {A = Result Act ScriptFaultKind} pumps (pump_of operands) (Err kinds.Word)))))
          ≡ Err kinds.Word
      go false false false false false known = refl
      go true removes sends ticks pumps known = absurd (cc)
      go false true sends ticks pumps known = absurd (cc)
      go false false true ticks pumps known = absurd (cc)
      go false false false true pumps known = absurd (cc)
      go false false false false true known = absurd (cc)

not_one : (operands : List (List ℕ)) → eqb (length operands) 1 ≡ false → only_of operands ≡ Err kinds.Count
not_one [] many = refl
not_one (operand ∷ []) many = absurd (cc)
not_one (operand ∷ next ∷ operands) many = refl

some_for_pump : (operands : List (List ℕ)) → eqb (length operands) 0 ≡ false → pump_of operands ≡ Err kinds.Count
some_for_pump [] many = absurd (cc)
some_for_pump (operand ∷ operands) many = refl

stays : {X Y K : Type 0} (read : Result X K) (next : X → Result Y K) (kind : K) → read ≡ Err kind → and_then read next ≡ Err kind
stays (Ok x) next kind is = absurd (cc)
stays (Err other) next kind is = let same : other ≡ kind = cc in ap Err same

pub wrong_count : (word : List ℕ) (operands : List (List ℕ)) → is_known word ≡ true → has_count word (length operands) ≡ false
    → act_of word operands ≡ Err kinds.Count
unfolding act_of
wrong_count word operands known many =
    go (bytes_eq word (codes "add")) (bytes_eq word (codes "remove")) (bytes_eq word (codes "send")) (bytes_eq word (codes "tick"))
    (bytes_eq word (codes "pump")) known many where
      go : (adds removes sends ticks pumps : Bool) → (adds || (removes || (sends || (ticks || (pumps || false))))) ≡ true
          → cond adds (eqb (length operands) 1)
          (cond removes (eqb (length operands) 1) (cond sends true (cond ticks (eqb (length operands) 1) (eqb (length operands) 0)))) ≡ false
          → cond adds (and_then (address_of operands) (λ address. Ok (Add address)))
          (cond removes (and_then (address_of operands) (λ address. Ok (Remove address)))
          (cond sends (and_then (packet_of operands) (λ packet. Ok (Send packet)))
          (cond ticks (and_then (moment_of operands) (λ moment. Ok (Tick moment)))
          (cond {A = Result Act ScriptFaultKind} pumps (pump_of operands) (Err kinds.Word)))))
          ≡ Err kinds.Count
      go true removes sends ticks pumps is other =
          stays (address_of operands) (λ address. Ok (Add address)) kinds.Count (stays (only_of operands) _ kinds.Count (not_one operands other))
      go false true sends ticks pumps is other =
          stays (address_of operands) (λ address. Ok (Remove address)) kinds.Count (stays (only_of operands) _ kinds.Count (not_one operands other))
      go false false true ticks pumps is other = absurd (cc)
      go false false false true pumps is other =
          stays (moment_of operands) (λ moment. Ok (Tick moment)) kinds.Count (stays (only_of operands) _ kinds.Count (not_one operands other))
      go false false false false true is other = some_for_pump operands other
      go false false false false false is other = absurd (cc)

-- digits are decoded where they are read
decoded_is_ok : (kind : ScriptFaultKind) (read : Result (List ℕ) FromHexError) → IsOk (decoded kind read) ↔ ((bytes : List ℕ) × (read ≡ Ok bytes))
decoded_is_ok kind (Ok bytes) = (λ is. (bytes, refl), λ is. refl)
decoded_is_ok kind (Err fault) = (λ is. absurd (cc), λ is. absurd (cc is.1))

pub packet_digits : (words : List (List ℕ)) → IsOk (packet_of words) ↔ ((length (concat words) % 2 ≡ 0) × AllPass is_hex_digit (concat words))
packet_digits words = (
  λ is.
      let got = (decoded_is_ok kinds.Hex (decode_of (concat words))).0 is in
      let parts = decode_of-ok (concat words) got.0 got.1 in
      (parts.0, parts.1),
  λ digits. (decoded_is_ok kinds.Hex (decode_of (concat words))).1 (decode_of-digits (concat words) digits.0 digits.1),
)

moment_is_ok : (read : Result (List ℕ) FromHexError) → IsOk (and_then (decoded kinds.Tag read) (λ bytes. Ok (from_be_bytes w64 bytes))) ↔ IsOk read
moment_is_ok (Ok bytes) = (λ is. refl, λ is. refl)
moment_is_ok (Err fault) = (λ is. absurd (cc is), λ is. absurd (cc is))

pub moment_digits : (word : List ℕ) → IsOk (moment_of (word ∷ [])) ↔ ((length word ≡ 16) × AllPass is_hex_digit word)
moment_digits word = (
  λ is. (IsOk-decode_sized word 8).0 ((moment_is_ok (decode_sized word 8)).0 is),
  λ digits. (moment_is_ok (decode_sized word 8)).1 ((IsOk-decode_sized word 8).1 digits),
)

pub lower_again : (bytes : List ℕ) → IsBytes bytes → packet_of (encode_lower bytes ∷ []) ≡ Ok bytes
lower_again bytes each =
    ap (λ l. decoded kinds.Hex (decode_of l)) (append-nil (encode_lower bytes)) ∙ ap (decoded kinds.Hex) (decode_of-encode_lower bytes each)

pub upper_again : (bytes : List ℕ) → IsBytes bytes → packet_of (encode_upper bytes ∷ []) ≡ Ok bytes
upper_again bytes each =
    ap (λ l. decoded kinds.Hex (decode_of l)) (append-nil (encode_upper bytes)) ∙ ap (decoded kinds.Hex) (decode_of-encode_upper bytes each)

byte_before : (byte : ℕ) (bytes : List ℕ) → byte < 256 → IsBytes bytes → IsBytes (byte ∷ bytes)
byte_before byte bytes small each zero = small
byte_before byte bytes small each (suc i) = each i

byte_small : (i n : ℕ) → byte_at i n < 256
byte_small zero n = omega arith
byte_small (suc i) n = omega arith

pub high_first_bytes : (k n : ℕ) → IsBytes (bytes_high_first k n)
high_first_bytes zero n = λ i. omega arith
high_first_bytes (suc k) n = byte_before (byte_at k n) (bytes_high_first k n) (byte_small k n) (high_first_bytes k n)

pub moment_again : (moment : ℕ) → moment < 2 ^ 64 → moment_of (encode_lower (to_be_bytes w64 moment) ∷ []) ≡ Ok moment
moment_again moment small =
    ap (λ read. and_then (decoded kinds.Tag read) (λ bytes. Ok (from_be_bytes w64 bytes)))
    (decode_sized-encode_lower (to_be_bytes w64 moment) 8 refl (high_first_bytes 8 moment))
    ∙ ap Ok (from_be_bytes-to_be_bytes_8 moment small)
