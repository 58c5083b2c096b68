-- The moments of cues, and the bundles that are made of them one after another.
use Rattle.osc_atoms.specs.declared.limits.TheConstants.{MAX_PACKET}
use Rattle.std.proofs.Common.{◌≡◌, ℕ, ◌+◌, ◌≤◌, ◌==◌, Bool, true, false, cond, List, [], ◌∷◌, ◌++◌, length, map, IsTrue, refl, sym, ap}
use Rattle.std.proofs.Common.{◌∙◌, subst, arith, eq-eqb}
use Rattle.std.proofs.Common.{append_assoc, append-nil, length-append}
use Rattle.std.specs.List.{AllByRecursion}
use Rattle.std.proofs.lemmas.Bool.{cond-true, cond-false}
use Rattle.osc_packet.specs.Bundling.{Bundling, with_message, bundled, sized}
use Rattle.osc_packet.specs.Reading.{is_packet}
use Rattle.osc_packet.proofs.Bundlings.{bundled_on}
use Rattle.osc_cues.specs.declared.cue.Cue.{Cue}
use Rattle.osc_cues.specs.declared.bundle.Bundle.{Bundle}
use Rattle.osc_cues.specs.Bundles.{opening, moments_from, moments_of, bundle_of, bundles_of, IsSent, FitsPacket, IsSendable}
use Rattle.osc_cues.specs.BundleAnswers.{IsFirst}

-- a message more is no shorter
pub longer : (moment : Bundling) (message : List ℕ)
    → length (bundled (with_message moment message)) ≡ length (bundled moment) + (4 + length message)
longer moment message =
    let parts = ap length (bundled_on moment message) ∙ length-append (bundled moment) (sized message) in omega (arith, parts)

-- the first moment fits, as all do
pub open_fits : (moment : Bundling) (cues : List Cue) → AllByRecursion FitsPacket (moments_from moment cues) → FitsPacket moment
open_fits moment [] fits = fits.0
open_fits moment (cue ∷ cues) fits = go (cue.tag == moment.tag) fits (open_fits (with_message moment cue.message) cues) where
  go : (t : Bool)
      → AllByRecursion FitsPacket (cond t (moments_from (with_message moment cue.message) cues) (moment ∷ moments_from (opening cue) cues))
      → (AllByRecursion FitsPacket (moments_from (with_message moment cue.message) cues) → FitsPacket (with_message moment cue.message))
      → FitsPacket moment
  go true fit more = let one = more fit in omega (arith, one, longer moment cue.message)
  go false fit more = fit.0

-- a cue of this moment
pub same_on : (moment : Bundling) (cue : Cue) (cues : List Cue) → (cue.tag == moment.tag) ≡ true
    → moments_from moment (cue ∷ cues) ≡ moments_from (with_message moment cue.message) cues
same_on moment cue cues is = cond-true _ _ _ is

-- a cue of another moment
pub other_on : (moment : Bundling) (cue : Cue) (cues : List Cue) → (cue.tag == moment.tag) ≡ false
    → moments_from moment (cue ∷ cues) ≡ moment ∷ moments_of (cue ∷ cues)
other_on moment cue cues is = cond-false _ _ _ is

pub none_on : (moment : Bundling) (cues : List Cue) → cues ≡ [] → moments_from moment cues ≡ moment ∷ moments_of cues
none_on moment cues is = ap (λ (l : List Cue). moments_from moment l) is ∙ ap (λ (l : List Cue). moment ∷ moments_of l) (sym is)

pub all_on : {X : Type 0} (P : X → Type 0) (xs : List X) (x : X) → AllByRecursion P xs → P x → AllByRecursion P (xs ++ x ∷ [])
all_on P [] x all one = (one, tt)
all_on P (y ∷ xs) x all one = (all.0, all_on P xs x all.1 one)

-- there is room for a cue of this moment
pub room_on : (moment : Bundling) (cue : Cue) (cues rest : List Cue) (message : List ℕ)
    → AllByRecursion FitsPacket (moments_from moment rest)
    → rest ≡ cue ∷ cues → cue.tag ≡ moment.tag → message ≡ cue.message → FitsPacket (with_message moment message)
room_on moment cue cues rest message fits is same bytes =
    let all : AllByRecursion FitsPacket (moments_from moment (cue ∷ cues)) =
    subst (λ (l : List Cue). AllByRecursion FitsPacket (moments_from moment l)) is fits in
    let here : AllByRecursion FitsPacket (moments_from (with_message moment cue.message) cues) =
    subst (AllByRecursion FitsPacket) (same_on moment cue cues (eq-eqb cue.tag moment.tag same)) all in
    subst (λ (l : List ℕ). FitsPacket (with_message moment l)) (sym bytes) (open_fits (with_message moment cue.message) cues here)

-- there is room for the first
pub first_room : (moment : Bundling) (cue : Cue) (cues : List Cue) (message : List ℕ) → moment ≡ record { tag = cue.tag; messages = [] }
    → message ≡ cue.message → AllByRecursion FitsPacket (moments_from (opening cue) cues) → FitsPacket (with_message moment message)
first_room moment cue cues message none bytes fits =
    subst (λ (b : Bundling). FitsPacket (with_message b message)) (sym none)
    (subst (λ (l : List ℕ). let b : Bundling = record { tag = cue.tag; messages = l ∷ [] } in FitsPacket b) (sym bytes)
    (open_fits (opening cue) cues fits))

-- the moment then
pub first_opens : (moment after : Bundling) (cue : Cue) (message : List ℕ) → moment ≡ record { tag = cue.tag; messages = [] }
    → message ≡ cue.message → after ≡ with_message moment message → after ≡ opening cue
first_opens moment after cue message none bytes is =
    is ∙ ap (λ (b : Bundling). with_message b message) none
    ∙ ap (λ (l : List ℕ). let b : Bundling = record { tag = cue.tag; messages = l ∷ [] } in b) bytes

-- the bundle of the first moment
pub first_is : (first : Cue) (cues rest : List Cue) (full : Bundling) (bundle : Bundle)
    → AllByRecursion FitsPacket (moments_from (opening first) cues)
    → moments_from (opening first) cues ≡ full ∷ moments_of rest → full.tag ≡ first.tag → bundle.tag ≡ first.tag
    → bundle.packet ≡ bundled full
    → IsTrue (is_packet MAX_PACKET (bundled full)) → AllByRecursion IsSent rest → length rest ≤ length cues → IsFirst first cues bundle rest
first_is first cues rest full bundle fits are own tagged packet read messages few =
    let same : bundle_of full ≡ bundle = λ i. record { tag = (own ∙ sym tagged) i; packet = sym packet i } in
    let all : AllByRecursion FitsPacket (full ∷ moments_of rest) = subst (AllByRecursion FitsPacket) are fits in
    record {
      bundles = ap (λ (l : List Bundling). map bundle_of l) are ∙ ap (λ (b : Bundle). b ∷ bundles_of rest) same;
      messages = messages;
      fits = all.1;
      packet = subst (λ (l : List ℕ). IsTrue (is_packet MAX_PACKET l)) (sym packet) read;
      few = few;
    }

-- one bundle more
pub bundles_on : (bundles after : List Bundle) (bundle : Bundle) (first : Cue) (cues rest left all : List Cue)
    → after ≡ bundles ++ bundle ∷ []
    → left ≡ first ∷ cues → IsFirst first cues bundle rest → bundles ++ bundles_of left ≡ bundles_of all
    → after ++ bundles_of rest ≡ bundles_of all
bundles_on bundles after bundle first cues rest left all more split is so_far =
    ap (λ (l : List Bundle). l ++ bundles_of rest) more ∙ append_assoc bundles (bundle ∷ []) (bundles_of rest)
    ∙ ap (λ (l : List Bundle). bundles ++ l) (sym is.bundles) ∙ ap (λ (l : List Cue). bundles ++ bundles_of l) (sym split) ∙ so_far
