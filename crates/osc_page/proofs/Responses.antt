-- Each answer is a response of HTTP's grammar.
use Rattle.std.proofs.Common.{◌≡◌, ℕ, ◌^◌, ◌<◌, List, [], ◌∷◌, length, true, refl, arith, All}
use Rattle.std.specs.Prelude.{codes, decimal}
use Rattle.std.specs.Char.{digit_value, is_ascii_digit}
use Rattle.std.specs.List.{list_all}
use Rattle.std.specs.Str.Parse.{AllDigits, digits_value}
use Rattle.std.proofs.lemmas.Bool.{and_from}
use Rattle.std.proofs.lemmas.Bool.Decides.{nat_tests}
use Rattle.std.proofs.lemmas.Fmt.{decimal_is_IsNumeral}
use Rattle.std.proofs.lemmas.List.Elements.{All-nil, All-cons}
use Rattle.std.proofs.lemmas.List.Sums.{AllPass-from_list_all}
use Rattle.httparse.specs.Ascii.{space}
use Rattle.httparse.specs.Grammar.{is_token_byte, is_value_byte, Field, IsField, IsResponseHead}
use Rattle.osc_page.specs.declared.request.Want.TheVariants as want
use Rattle.osc_page.specs.declared.request.Heard.{Heard}
use Rattle.osc_page.specs.declared.request.Heard.TheVariants.{More, Asks, Bad, Large}
use Rattle.osc_page.specs.Replies.{field, standing, head, answer, IsResponse, reply_to, status_of, body_of}

digit_is_value : (c : ℕ) → digit_value c < 10 → is_value_byte c ≡ true
digit_is_value c small = grind (arith, nat_tests)

digits_are_values : (text : List ℕ) → AllDigits 10 text → list_all is_value_byte text ≡ true
digits_are_values [] all = refl
digits_are_values (c ∷ cs) all = and_from _ _ (digit_is_value c all.0) (digits_are_values cs all.1)

lawful : (name value : List ℕ) → 0 < length name → list_all is_token_byte name ≡ true → list_all is_value_byte value ≡ true → IsField (field name value)
lawful name value some token values = record {
  name = (some, AllPass-from_list_all is_token_byte name token);
  raw = AllPass-from_list_all is_value_byte (space ∷ value) values;
}

first : (name value : List ℕ) (rest : List Field) → 0 < length name → list_all is_token_byte name ≡ true → list_all is_value_byte value ≡ true
    → All IsField rest → All IsField (field name value ∷ rest)
first name value rest some token values others = All-cons IsField (field name value) rest (lawful name value some token values) others

standing_lawful : All IsField standing
unfolding standing is_token_byte
standing_lawful =
    first (codes "Connection") (codes "close") (field (codes "Allow") (codes "GET") ∷ field (codes "Cache-Control") (codes "no-store") ∷ field (codes "X-Content-Type-Options") (codes "nosniff") ∷ field (codes "Content-Security-Policy") (codes "default-src 'none'; script-src 'unsafe-inline'; style-src 'unsafe-inline'; img-src data:; connect-src 'self'; base-uri 'none'; form-action 'none'; frame-ancestors 'none'") ∷ []) (omega arith) refl refl
    (first (codes "Allow") (codes "GET") (field (codes "Cache-Control") (codes "no-store") ∷ field (codes "X-Content-Type-Options") (codes "nosniff") ∷ field (codes "Content-Security-Policy") (codes "default-src 'none'; script-src 'unsafe-inline'; style-src 'unsafe-inline'; img-src data:; connect-src 'self'; base-uri 'none'; form-action 'none'; frame-ancestors 'none'") ∷ []) (omega arith) refl refl
    (first (codes "Cache-Control") (codes "no-store") (field (codes "X-Content-Type-Options") (codes "nosniff") ∷ field (codes "Content-Security-Policy") (codes "default-src 'none'; script-src 'unsafe-inline'; style-src 'unsafe-inline'; img-src data:; connect-src 'self'; base-uri 'none'; form-action 'none'; frame-ancestors 'none'") ∷ []) (omega arith) refl refl
    (first (codes "X-Content-Type-Options") (codes "nosniff") (field (codes "Content-Security-Policy") (codes "default-src 'none'; script-src 'unsafe-inline'; style-src 'unsafe-inline'; img-src data:; connect-src 'self'; base-uri 'none'; form-action 'none'; frame-ancestors 'none'") ∷ []) (omega arith) refl refl
    (first (codes "Content-Security-Policy") (codes "default-src 'none'; script-src 'unsafe-inline'; style-src 'unsafe-inline'; img-src data:; connect-src 'self'; base-uri 'none'; form-action 'none'; frame-ancestors 'none'") [] (omega arith) refl refl
    (All-nil IsField)))))

head_lawful : (status reason kind : List ℕ) (size : ℕ) → size < 2 ^ 64 → length status ≡ 3 → list_all is_ascii_digit status ≡ true
    → list_all is_value_byte reason ≡ true → list_all is_value_byte kind ≡ true → IsResponseHead (head status reason kind size)
unfolding head is_token_byte
head_lawful status reason kind size small three digits reasons kinds = record {
  minor = omega arith;
  digits = (three, AllPass-from_list_all is_ascii_digit status digits);
  reason = AllPass-from_list_all is_value_byte reason reasons;
  fields = first (codes "Content-Type") kind (field (codes "Content-Length") (decimal size) ∷ standing) (omega arith) refl kinds
      (first (codes "Content-Length") (decimal size) standing (omega arith) refl (digits_are_values (decimal size) (decimal_is_IsNumeral size small).0.1) standing_lawful);
}

response : (status reason kind body : List ℕ) → length body < 2 ^ 64 → length status ≡ 3 → list_all is_ascii_digit status ≡ true
    → list_all is_value_byte reason ≡ true → list_all is_value_byte kind ≡ true → IsResponse (answer status reason kind body) (digits_value 10 status) body
unfolding answer head
response status reason kind body small three digits reasons kinds = record {
  heading = head status reason kind (length body);
  reads = (head_lawful status reason kind (length body) small three digits reasons kinds, refl);
  status_is = refl;
}

pub responses : (page state : List ℕ) (heard : Heard) → length page < 2 ^ 64 → length state < 2 ^ 64
    → IsResponse (reply_to page state heard) (status_of heard) (body_of page state heard)
responses page state (Asks want.Page) small short = response (codes "200") (codes "OK") (codes "text/html; charset=utf-8") page small refl refl refl refl
responses page state (Asks want.State) small short = response (codes "200") (codes "OK") (codes "application/json") state short refl refl refl refl
responses page state (Asks want.Other) small short = response (codes "404") (codes "Not Found") (codes "text/plain") (codes "not found") (omega arith) refl refl refl refl
responses page state (Asks want.Act) small short = response (codes "405") (codes "Method Not Allowed") (codes "text/plain") (codes "only GET") (omega arith) refl refl refl refl
responses page state Bad small short = response (codes "400") (codes "Bad Request") (codes "text/plain") (codes "no request") (omega arith) refl refl refl refl
responses page state More small short = response (codes "431") (codes "Request Header Fields Too Large") (codes "text/plain") (codes "too large") (omega arith) refl refl refl refl
responses page state Large small short = response (codes "431") (codes "Request Header Fields Too Large") (codes "text/plain") (codes "too large") (omega arith) refl refl refl refl
