-- What a visitor is answered.
use Rattle.std.specs.Prelude.{◌≡◌, ℕ, List, [], ◌∷◌, ◌++◌, length, decimal, codes, Some}
use Rattle.httparse.specs.Ascii.{space}
use Rattle.httparse.specs.Grammar.{Field, crlf, ResponseHead, print_response, ReadsResponse}
use Rattle.httparse.specs.Grammar.{status_code}
use Rattle.osc_page.specs.declared.request.Want.TheVariants as want
use Rattle.osc_page.specs.declared.request.Heard.{Heard}
use Rattle.osc_page.specs.declared.request.Heard.TheVariants.{More, Asks, Bad, Large}

abbrev pub field : List ℕ → List ℕ → Field
field name value = record { name = name; raw = space ∷ value; end = crlf }

-- The fields of each answer: no visitor keeps its connection, no answer is kept, and the page
-- reaches nothing but the address that it came from.
unfoldable pub standing : List Field
standing =
    field (codes "Connection") (codes "close")
    ∷ field (codes "Allow") (codes "GET")
    ∷ field (codes "Cache-Control") (codes "no-store")
    ∷ field (codes "X-Content-Type-Options") (codes "nosniff")
    ∷ field (codes "Content-Security-Policy")
    (codes "default-src 'none'; script-src 'unsafe-inline'; style-src 'unsafe-inline'; "
    ++ codes "img-src data:; connect-src 'self'; base-uri 'none'; form-action 'none'; "
    ++ codes "frame-ancestors 'none'")
    ∷ []

-- the head of an answer: its status, and what kind its body is and how long
unfoldable pub head : List ℕ → List ℕ → List ℕ → ℕ → ResponseHead
head status reason kind size = record {
  blank = [];
  minor = 1;
  digits = status;
  reason = Some reason;
  line_end = crlf;
  fields = field (codes "Content-Type") kind
      ∷ field (codes "Content-Length") (decimal size) ∷ standing;
  last = crlf;
}

-- an answer: the head, and the body
unfoldable pub answer : List ℕ → List ℕ → List ℕ → List ℕ → List ℕ
answer status reason kind body = print_response (head status reason kind (length body)) ++ body

-- The answer to what was heard, with this page and this state. Before a request is whole it is
-- answered as one that is too large.
abbrev pub reply_to : List ℕ → List ℕ → Heard → List ℕ
reply_to page state (Asks want.Page) =
    answer (codes "200") (codes "OK") (codes "text/html; charset=utf-8") page
reply_to page state (Asks want.State) =
    answer (codes "200") (codes "OK") (codes "application/json") state
reply_to page state (Asks want.Other) =
    answer (codes "404") (codes "Not Found") (codes "text/plain") (codes "not found")
reply_to page state (Asks want.Act) =
    answer (codes "405") (codes "Method Not Allowed") (codes "text/plain") (codes "only GET")
reply_to page state Bad =
    answer (codes "400") (codes "Bad Request") (codes "text/plain") (codes "no request")
reply_to page state More =
    answer (codes "431") (codes "Request Header Fields Too Large") (codes "text/plain")
    (codes "too large")
reply_to page state Large =
    answer (codes "431") (codes "Request Header Fields Too Large") (codes "text/plain")
    (codes "too large")

-- the text is read as a response with this status and this body, and nothing is left
pub record IsResponse (text : List ℕ) (status : ℕ) (body : List ℕ) : Type 0 where
  pub heading : ResponseHead
  pub reads : ReadsResponse text heading body
  pub status_is : status_code heading ≡ status

-- the status of the answer
abbrev pub status_of : Heard → ℕ
status_of (Asks want.Page) = 200
status_of (Asks want.State) = 200
status_of (Asks want.Other) = 404
status_of (Asks want.Act) = 405
status_of Bad = 400
status_of More = 431
status_of Large = 431

-- the body of the answer
abbrev pub body_of : List ℕ → List ℕ → Heard → List ℕ
body_of page state (Asks want.Page) = page
body_of page state (Asks want.State) = state
body_of page state (Asks want.Other) = codes "not found"
body_of page state (Asks want.Act) = codes "only GET"
body_of page state Bad = codes "no request"
body_of page state More = codes "too large"
body_of page state Large = codes "too large"
