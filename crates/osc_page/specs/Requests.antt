-- What a request asks for.
use Rattle.std.specs.Prelude.{◌≡◌, ℕ, List, if◌then◌else◌, codes}
use Rattle.std.specs.Str.{bytes_eq}
use Rattle.httparse.specs.Grammar.{RequestHead, ReadsRequest, HasNoRequest, MayBecomeRequest}
use Rattle.httparse.specs.Grammar.{NeverHasRequest}
use Rattle.httparse.specs.Spans.{RequestExceeds}
use Rattle.osc_page.specs.declared.limits.TheConstants.{MAX_FIELDS}
use Rattle.osc_page.specs.declared.request.Want.{Want}
use Rattle.osc_page.specs.declared.request.Want.TheVariants.{Page, State, Other, Act}
use Rattle.osc_page.specs.declared.request.Heard.{Heard}
use Rattle.osc_page.specs.declared.request.Heard.TheVariants.{More, Asks, Bad, Large}

-- what a method and a target ask for
unfoldable pub wanted : List ℕ → List ℕ → Want
wanted method target =
    if bytes_eq method (codes "GET")
    then (if bytes_eq target (codes "/") then Page
    else if bytes_eq target (codes "/state.json") then State
    else Other)
    else Act

-- the bytes begin with the head of a request that asks for this
pub record AsksFor (bytes : List ℕ) (want : Want) : Type 0 where
  pub head : RequestHead
  pub rest : List ℕ
  pub reads : ReadsRequest bytes head rest
  pub want_is : want ≡ wanted head.method head.target

-- What the bytes that have come say, by the grammar of HTTP: so far no head of a request stands
-- there whole, and one may yet; or one does; or none can, whatever follows; or a front of them has
-- more fields than there may be.
abbrev pub Says : List ℕ → Heard → Type 0
Says bytes More = HasNoRequest bytes × MayBecomeRequest bytes
Says bytes (Asks want) = AsksFor bytes want
Says bytes Bad = NeverHasRequest bytes
Says bytes Large = RequestExceeds MAX_FIELDS bytes
