-- Each line that is written is read as its form.
use Rattle.osc_patch.specs.declared.patch.TheConstants.{MAX_PATCH}
use Rattle.std.proofs.Common.{◌≡◌, ◌∙◌, ℕ, ◌+◌, ◌<◌, ◌≤◌, ◌^◌, ◌&&◌, true, false, cond, nat_lt, List, [], ◌∷◌, ◌++◌, map, length, take, filter, Option, Some}
use Rattle.std.proofs.Common.{None, Ok, Err, refl, ap, ap₂, arith, one-add, append_assoc, codes, decimal, IfSome}
use Rattle.std.specs.List.{AllByRecursion, list_all, slice_split, prefix_len, take_while}
use Rattle.std.specs.Str.Parse.{digits_value}
use Rattle.std.proofs.lemmas.Bool.{le-ltb, lt-ltb}
use Rattle.std.proofs.lemmas.List.{append-nil}
use Rattle.std.proofs.lemmas.List.Folds.{list_all-append}
use Rattle.std.proofs.lemmas.List.Splits.{slice_split_at, slice_split_none}
use Rattle.std.proofs.lemmas.Fmt.{digits_decimal, digits_value-decimal}
use Rattle.osc_pattern.specs.Addresses.{is_address}
use Rattle.osc_patch.specs.declared.fault.PatchError.TheVariants.{TooLong}
use Rattle.osc_patch.specs.declared.fault.Fault.TheVariants.{Host}
use Rattle.osc_patch.specs.declared.draft.Draft.{Draft}
use Rattle.osc_patch.specs.Words.{is_blank, is_line_feed, is_word, is_said, words_of, lines_of}
use Rattle.osc_patch.specs.Hosts.{is_host, port_of, within_ports}
use Rattle.osc_patch.specs.Entries.{address_of, host_of, port_at, port_or, and_then, wrong_line, address_fault, operands_say, words_say, line_says}
use Rattle.osc_patch.specs.Patches.{after_line, read_from, unread, outcome_of, patch_of}
use Rattle.osc_patch.specs.Written.{Form, IsForm, to_words, form_words, spaces, spaced, written, entry_at, settled_all}
use Rattle.osc_patch.proofs.Ports.{digits}
use Rattle.osc_patch.proofs.Plain.{is_inside, all_inside, no_blanks, no_feeds, kept_whole, IsToken, address_token, host_token, number_token}

-- The words of a line of tokens.

abbrev said_words : List (List ℕ) → List (List ℕ)
said_words parts = take_while is_said (filter is_word parts)

took : (word : List ℕ) (words : List (List ℕ)) → is_said word ≡ true → take_while is_said (word ∷ words) ≡ word ∷ take_while is_said words
took word words said = ap (λ b. take (cond b (1 + prefix_len is_said words) 0) (word ∷ words)) said ∙ rw one-add refl

kept : (word : List ℕ) (parts : List (List ℕ)) → IsToken word → said_words (word ∷ parts) ≡ word ∷ said_words parts
kept word parts token =
    ap (λ b. take_while is_said (cond b (word ∷ filter is_word parts) (filter is_word parts))) token.some ∙ took word (filter is_word parts) token.said

cut_words : (word : List ℕ) (words : List (List ℕ)) → IsToken word → AllByRecursion IsToken words
    → said_words (slice_split is_blank (word ++ spaces words)) ≡ word ∷ words
cut_words word [] token all =
    ap (λ l. said_words (slice_split is_blank l)) (append-nil word) ∙ ap said_words (slice_split_none is_blank word (no_blanks word token.plain)) ∙ kept word [] token
cut_words word (next ∷ words) token all =
    ap said_words (slice_split_at is_blank word 32 (next ++ spaces words) (no_blanks word token.plain) refl)
    ∙ kept word (slice_split is_blank (next ++ spaces words)) token
    ∙ ap (λ l. word ∷ l) (cut_words next words all.0 all.1)

all_of : (word : List ℕ) (words : List (List ℕ)) → IsToken word → AllByRecursion IsToken words → list_all is_inside (word ++ spaces words) ≡ true
all_of word [] token all = ap (list_all is_inside) (append-nil word) ∙ all_inside word token.plain
all_of word (next ∷ words) token all =
    list_all-append is_inside word (32 ∷ (next ++ spaces words)) ∙ ap₂ (λ a b. a && b) (all_inside word token.plain) (all_of next words all.0 all.1)

-- The words of a form.

to_tokens : (to : Option (List ℕ × ℕ)) → IfSome to (λ to. is_host to.0 ≡ true) → IfSome to (λ to. to.1 < 65536) → AllByRecursion IsToken (to_words to)
to_tokens None host port = tt
to_tokens (Some to) host port = (host_token to.0 host, (number_token to.1 port, tt))

add_token : IsToken (codes "add")
add_token = record { plain = refl; some = refl; said = refl }

tokens : (form : Form) → IsForm form → AllByRecursion IsToken (form.address ∷ to_words form.to)
tokens form is = (address_token form.address is.address, to_tokens form.to is.host is.port)

words_are : (form : Form) → IsForm form → words_of (spaced (form_words form)) ≡ form_words form
words_are form is =
    ap (λ l. said_words (slice_split is_blank l))
    (kept_whole (spaced (form_words form)) (all_of (codes "add") (form.address ∷ to_words form.to) add_token (tokens form is)))
    ∙ cut_words (codes "add") (form.address ∷ to_words form.to) add_token (tokens form is)

-- What they say.

address_again : (line : ℕ) (address : List ℕ) → is_address address ≡ true → address_of line address ≡ Ok address
address_again line address is = ap (λ b. cond b (Ok address) (Err (wrong_line line (address_fault address) address))) is

host_again : (line : ℕ) (host : List ℕ) → is_host host ≡ true → host_of line host ≡ Ok host
host_again line host is = ap (λ b. cond b (Ok host) (Err (wrong_line line Host host))) is

port_again : (port : ℕ) → 0 < port → port < 65536 → port_of (decimal port) ≡ Some port
port_again port some low =
    let small : port < 2 ^ 64 = omega arith in
    ap (λ b. cond b (within_ports (digits_value 10 (decimal port))) None) (digits_decimal digits port small)
    ∙ ap within_ports (digits_value-decimal digits port small)
    ∙ ap₂ (λ a b. cond (a && b) (Some port) None) (lt-ltb 0 port some) (lt-ltb port 65536 low)

operands_again : (line : ℕ) (address : List ℕ) (to : Option (List ℕ × ℕ)) → is_address address ≡ true → IfSome to (λ to. is_host to.0 ≡ true)
    → IfSome to (λ to. 0 < to.1) → IfSome to (λ to. to.1 < 65536)
    → operands_say line (address ∷ to_words to) ≡ Ok (entry_at line (record { address = address; to = to }))
operands_again line address None is host some port =
    ap (λ r. and_then r (λ address. Ok (record { line = line; address = address; route = None }))) (address_again line address is)
operands_again line address (Some to) is host some port =
    ap (λ r. and_then r (λ address. and_then (host_of line to.0) (λ host. and_then (port_at line (decimal to.1)) (λ port.
    Ok (record { line = line; address = address; route = Some (record { host = host; port = port; line = line }) }))))) (address_again line address is)
    ∙ ap (λ r. and_then r (λ host. and_then (port_at line (decimal to.1)) (λ port.
    Ok (record { line = line; address = address; route = Some (record { host = host; port = port; line = line }) })))) (host_again line to.0 host)
    ∙ ap (λ o. and_then (port_or line (decimal to.1) o) (λ port.
    Ok (record { line = line; address = address; route = Some (record { host = to.0; port = port; line = line }) }))) (port_again to.1 some port)

form_says : (line : ℕ) (form : Form) → IsForm form → line_says line (spaced (form_words form)) ≡ Ok (Some (entry_at line form))
form_says line form is =
    ap (words_say line) (words_are form is)
    ∙ ap (λ r. and_then r (λ entry. Ok (Some entry))) (operands_again line form.address form.to is.address is.host is.some is.port)

-- Line by line.

abbrev form_text : Form → List ℕ
form_text form = spaced (form_words form)

lines_are : (forms : List Form) → AllByRecursion IsForm forms → lines_of (written forms) ≡ map form_text forms ++ [] ∷ []
lines_are [] all = refl
lines_are (form ∷ forms) all =
    let inside = all_of (codes "add") (form.address ∷ to_words form.to) add_token (tokens form all.0) in
    ap lines_of (append_assoc (form_text form) (10 ∷ []) (written forms))
    ∙ slice_split_at is_line_feed (form_text form) 10 (written forms) (no_feeds (form_text form) inside) refl
    ∙ ap (λ l. form_text form ∷ l) (lines_are forms all.1)

all_settled : (limit number : ℕ) (reading : Draft) (forms : List Form) → AllByRecursion IsForm forms
    → read_from limit number reading (map form_text forms ++ [] ∷ []) ≡ settled_all limit number reading forms
all_settled limit number reading [] all = refl
all_settled limit number reading (form ∷ forms) all =
    ap (λ r. read_from limit (number + 1) (after_line limit reading r) (map form_text forms ++ [] ∷ [])) (form_says number form all.0)
    ∙ all_settled limit (number + 1) (after_line limit reading (Ok (Some (entry_at number form)))) forms all.1

pub patch_again : (limit : ℕ) (forms : List Form) → AllByRecursion IsForm forms → length (written forms) ≤ MAX_PATCH
    → patch_of limit (written forms) ≡ outcome_of (settled_all limit 1 unread forms)
patch_again limit forms all short =
    let fits : nat_lt MAX_PATCH (length (written forms)) ≡ false = le-ltb MAX_PATCH (length (written forms)) short in
    ap (λ b. cond b (Err TooLong) (outcome_of (read_from limit 1 unread (lines_of (written forms))))) fits
    ∙ ap (λ l. outcome_of (read_from limit 1 unread l)) (lines_are forms all)
    ∙ ap outcome_of (all_settled limit 1 unread forms all)
