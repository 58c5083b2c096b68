-- What a visitor is told.
use Rattle.std.specs.Prelude.{◌≡◌, ℕ, List, [], length, take, Option, Some, None, option_map}
use Rattle.std.specs.Prelude.{if◌then◌else◌, nat_lt}
use Rattle.osc_page.specs.declared.limits.TheConstants.{MAX_HEAD}
use Rattle.osc_page.specs.declared.request.Heard.{Heard}
use Rattle.osc_page.specs.declared.request.Heard.TheVariants.{More, Asks, Bad, Large}
use Rattle.osc_page.specs.Requests.{Says}
use Rattle.osc_page.specs.Replies.{reply_to}

-- What was heard is answered once its head is whole, or is none, or is too large.
abbrev pub answer_to : List ℕ → List ℕ → List ℕ → Heard → Option (List ℕ)
answer_to page state bytes More =
    if nat_lt (length bytes) MAX_HEAD then None else Some (reply_to page state More)
answer_to page state bytes (Asks want) = Some (reply_to page state (Asks want))
answer_to page state bytes Bad = Some (reply_to page state Bad)
answer_to page state bytes Large = Some (reply_to page state Large)

-- what was heard has this answer, or none yet
pub record HasAnswer (page state bytes : List ℕ) (answer : Option (List ℕ)) : Type 0 where
  pub said : Heard
  pub says : Says bytes said
  pub answer_is : answer ≡ answer_to page state bytes said

-- the bytes of an answer, none before there is one
abbrev pub text_of : Option (List ℕ) → List ℕ
text_of None = []
text_of (Some text) = text

-- What a visitor has taken, where it tells, is so many bytes from the front of the answer.
abbrev pub IsToldSoFar : Option (List ℕ) → ℕ → Option (List ℕ) → Type 0
IsToldSoFar taken told answer = taken ≡ option_map (λ t. take told (text_of answer)) taken
