-- What is written of an answer is its head and its body.
use Rattle.std.proofs.Common.{◌≡◌, ℕ, List, [], ◌∷◌, ◌++◌, length, Some, refl, sym, ap, ◌∙◌, append_assoc}
use Rattle.std.specs.Prelude.{codes, decimal}
use Rattle.std.specs.List.{flat_map}
use Rattle.httparse.specs.Ascii.{space, crlf_bytes}
use Rattle.httparse.specs.Grammar.{Field, crlf, print_end, print_field, print_response}
use Rattle.osc_page.specs.declared.replies.TheConstants.{STANDING}
use Rattle.osc_page.specs.Replies.{field, standing, head, answer}
use Rattle.osc_page.specs.Added.{Grows}

standing_text : STANDING.now ≡ flat_map print_field standing ++ print_end crlf
unfolding standing
standing_text = refl

grown : {u v w a b : List ℕ} → Grows u v a → Grows v w b → Grows u w (a ++ b)
grown {u} {v} {w} {a} {b} first second = record {
  bytes_are = second.bytes_are ∙ ap (λ (l : List ℕ). l ++ b) first.bytes_are ∙ append_assoc u a b;
}

regroup : (line one two rest last body : List ℕ) → line ++ (one ++ (two ++ ((rest ++ last) ++ body))) ≡ (line ++ ((one ++ (two ++ rest)) ++ last)) ++ body
regroup line one two rest last body = simp append_assoc

line_first : (status reason : List ℕ) (fields : List Field)
    → print_response (record { blank = []; minor = 1; digits = status; reason = Some reason; line_end = crlf; fields = fields; last = crlf })
    ≡ (codes "HTTP/1.1 " ++ status ++ (space ∷ reason) ++ crlf_bytes) ++ (flat_map print_field fields ++ print_end crlf)
unfolding print_response
line_first status reason fields = refl

general : (status reason : List ℕ) (one two : Field) (rest : List Field) (body : List ℕ)
    → (codes "HTTP/1.1 " ++ status ++ (space ∷ reason) ++ crlf_bytes)
    ++ (print_field one ++ (print_field two ++ ((flat_map print_field rest ++ print_end crlf) ++ body)))
    ≡ print_response (record { blank = []; minor = 1; digits = status; reason = Some reason; line_end = crlf; fields = one ∷ two ∷ rest; last = crlf }) ++ body
general status reason one two rest body =
    regroup (codes "HTTP/1.1 " ++ status ++ (space ∷ reason) ++ crlf_bytes) (print_field one) (print_field two) (flat_map print_field rest) (print_end crlf) body
    ∙ ap (λ (l : List ℕ). l ++ body) (sym (line_first status reason (one ∷ two ∷ rest)))

printed : (status reason kind body size : List ℕ) → size ≡ decimal (length body)
    → (codes "HTTP/1.1 " ++ status ++ (space ∷ reason) ++ crlf_bytes) ++ (print_field (field (codes "Content-Type") kind)
    ++ (print_field (field (codes "Content-Length") size) ++ (STANDING.now ++ body))) ≡ answer status reason kind body
unfolding answer head
printed status reason kind body size is =
    ap (λ (l : List ℕ). (codes "HTTP/1.1 " ++ status ++ (space ∷ reason) ++ crlf_bytes) ++ (print_field (field (codes "Content-Type") kind)
    ++ (print_field (field (codes "Content-Length") l) ++ (STANDING.now ++ body)))) is
    ∙ ap (λ (l : List ℕ). (codes "HTTP/1.1 " ++ status ++ (space ∷ reason) ++ crlf_bytes) ++ (print_field (field (codes "Content-Type") kind)
    ++ (print_field (field (codes "Content-Length") (decimal (length body))) ++ (l ++ body)))) standing_text
    ∙ general status reason (field (codes "Content-Type") kind) (field (codes "Content-Length") (decimal (length body))) standing body

pub whole : (status reason kind body size : List ℕ) {v w x y z : List ℕ} → size ≡ decimal (length body)
    → Grows [] v (codes "HTTP/1.1 " ++ status ++ (space ∷ reason) ++ crlf_bytes) → Grows v w (print_field (field (codes "Content-Type") kind))
    → Grows w x (print_field (field (codes "Content-Length") size)) → Grows x y STANDING.now → Grows y z body
    → z ≡ answer status reason kind body
whole status reason kind body size is line one two then last =
    (grown line (grown one (grown two (grown then last)))).bytes_are ∙ printed status reason kind body size is
