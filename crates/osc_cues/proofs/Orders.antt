-- What holds of the cues, line after line.
use Rattle.osc_atoms.specs.declared.limits.TheConstants.{MAX_PACKET}
use Rattle.osc_cues.specs.declared.limits.TheConstants.{ROOM}
use Rattle.std.proofs.Common.{◌≡◌, ℕ, zero, suc, ◌+◌, ◌-◌, ◌*◌, ◌/◌, ◌<◌, ◌≤◌, ◌==◌, ◌&&◌, Bool, true, false, cond, nat_le, nat_lt}
use Rattle.std.proofs.Common.{List, [], ◌∷◌, ◌++◌, length, map, codes, Option, Some, None}
use Rattle.std.proofs.Common.{Result, Ok, Err, IfOk, OnOk, IfSome, refl, sym, ap, ◌∙◌, subst, arith, eqb-true, eq-eqb}
use Rattle.std.specs.Prelude.{is_none}
use Rattle.std.specs.List.{AllByRecursion}
use Rattle.std.proofs.lemmas.Bool.{cond-true, cond-false}
use Rattle.std.proofs.lemmas.Bool.Decides.{nat_tests}
use Rattle.osc_message.specs.Messages.{IsMessage}
use Rattle.osc_packet.specs.Bundling.{Bundling, with_message, bundled, IsSpelled}
use Rattle.osc_cues.specs.declared.fault.Fault.{Fault}
use Rattle.osc_cues.specs.declared.fault.Fault.TheVariants.{BeforeLine, LargeMoment}
use Rattle.osc_cues.specs.declared.fault.WordFault.{WordFault}
use Rattle.osc_cues.specs.declared.setting.Setting.{Setting}
use Rattle.osc_cues.specs.declared.setting.Tempo.{Tempo}
use Rattle.osc_cues.specs.declared.scan.Span.{Span}
use Rattle.osc_cues.specs.declared.cue.Cue.{Cue}
use Rattle.osc_cues.specs.declared.wrong_line.WrongLine.{WrongLine}
use Rattle.osc_cues.specs.declared.said.Said.{Said}
use Rattle.osc_cues.specs.declared.said.Said.TheVariants.{Nothing, Counted, Cued}
use Rattle.osc_cues.specs.declared.draft.Draft.{Draft}
use Rattle.osc_cues.specs.Faults.{made}
use Rattle.osc_cues.specs.Moments.{tag_of}
use Rattle.osc_cues.specs.Words.{spans_of}
use Rattle.osc_cues.specs.Cues.{and_then, words_say}
use Rattle.osc_cues.specs.Sheets.{order_fault, gone_fault, or_fault, time_fault, message_unless, cue_says, spans_say, line_says}
use Rattle.osc_cues.specs.Sheets.{has_gone, tempo_says, is_word, moment_in}
use Rattle.osc_cues.specs.Sheets.{with_wrong, room_at, with_cue, entered, settled, after_said, unread, IsSaid}
use Rattle.osc_cues.specs.Bundles.{opening, moments_from, moments_of, IsOrdered, IsSent, FitsPacket, IsSheet}
use Rattle.osc_cues.specs.Order.{last_from, Ends, IsLate, Holds, IsSound}
use Rattle.osc_cues.proofs.Groups.{all_on, longer}

-- A cue after others.

-- the tags still don't descend
ordered_on : (moment : Bundling) (cues : List Cue) (cue : Cue) → IsOrdered moment.tag cues → (last_from moment cues).tag ≤ cue.tag
    → IsOrdered moment.tag (cues ++ cue ∷ [])
ordered_on moment [] cue ordered last = (last, tt)
ordered_on moment (first ∷ cues) cue ordered last = (
  ordered.0,
  go (first.tag == moment.tag) refl last (λ all end. ordered_on (with_message moment first.message) cues cue all end)
      (λ end. ordered_on (opening first) cues cue ordered.1 end),
) where
  go : (t : Bool) → (first.tag == moment.tag) ≡ t
      → (cond t (last_from (with_message moment first.message) cues) (last_from (opening first) cues)).tag ≤ cue.tag
      → (IsOrdered moment.tag cues → (last_from (with_message moment first.message) cues).tag ≤ cue.tag
      → IsOrdered moment.tag (cues ++ cue ∷ []))
      → ((last_from (opening first) cues).tag ≤ cue.tag → IsOrdered first.tag (cues ++ cue ∷ []))
      → IsOrdered first.tag (cues ++ cue ∷ [])
  go true is last here other =
      let same : first.tag ≡ moment.tag = eqb-true first.tag moment.tag is in
      subst (λ (n : ℕ). IsOrdered n (cues ++ cue ∷ [])) (sym same) (here (subst (λ (n : ℕ). IsOrdered n cues) same ordered.1) last)
  go false is last here other = other last

-- there is room for it at the last moment, or it begins a moment of its own
record HasRoom (moment : Bundling) (cue : Cue) : Type 0 where
  here : cue.tag ≡ moment.tag → FitsPacket (with_message moment cue.message)
  own : FitsPacket (opening cue)

-- all moments still fit
fits_on : (moment : Bundling) (cues : List Cue) (cue : Cue) → AllByRecursion FitsPacket (moments_from moment cues)
    → HasRoom (last_from moment cues) cue
    → AllByRecursion FitsPacket (moments_from moment (cues ++ cue ∷ []))
fits_on moment [] cue fits room = go (cue.tag == moment.tag) refl where
  go : (t : Bool) → (cue.tag == moment.tag) ≡ t
      → AllByRecursion FitsPacket (cond t (with_message moment cue.message ∷ []) (moment ∷ opening cue ∷ []))
  go true is = (room.here (eqb-true cue.tag moment.tag is), tt)
  go false is = (fits.0, (room.own, tt))
fits_on moment (first ∷ cues) cue fits room =
    go (first.tag == moment.tag) fits room (fits_on (with_message moment first.message) cues cue) (fits_on (opening first) cues cue) where
      go : (t : Bool)
          → AllByRecursion FitsPacket
          (cond t (moments_from (with_message moment first.message) cues) (moment ∷ moments_from (opening first) cues))
          → HasRoom (cond t (last_from (with_message moment first.message) cues) (last_from (opening first) cues)) cue
          → (AllByRecursion FitsPacket (moments_from (with_message moment first.message) cues)
          → HasRoom (last_from (with_message moment first.message) cues) cue
          → AllByRecursion FitsPacket (moments_from (with_message moment first.message) (cues ++ cue ∷ [])))
          → (AllByRecursion FitsPacket (moments_from (opening first) cues) → HasRoom (last_from (opening first) cues) cue
          → AllByRecursion FitsPacket (moments_from (opening first) (cues ++ cue ∷ [])))
          → AllByRecursion FitsPacket (cond t (moments_from (with_message moment first.message) (cues ++ cue ∷ []))
          (moment ∷ moments_from (opening first) (cues ++ cue ∷ [])))
      go true fits room same other = same fits room
      go false fits room same other = (fits.0, other fits.1 room)

-- the last moment goes
last_on : (moment : Bundling) (cues : List Cue) (cue : Cue)
    → last_from moment (cues ++ cue ∷ [])
    ≡ cond (cue.tag == (last_from moment cues).tag) (with_message (last_from moment cues) cue.message) (opening cue)
last_on moment [] cue = refl
last_on moment (first ∷ cues) cue =
    go (first.tag == moment.tag) (last_on (with_message moment first.message) cues cue) (last_on (opening first) cues cue) where
      goes : Bundling → Bundling
      goes last = cond (cue.tag == last.tag) (with_message last cue.message) (opening cue)

      go : (t : Bool)
          → last_from (with_message moment first.message) (cues ++ cue ∷ []) ≡ goes (last_from (with_message moment first.message) cues)
          → last_from (opening first) (cues ++ cue ∷ []) ≡ goes (last_from (opening first) cues)
          → cond t (last_from (with_message moment first.message) (cues ++ cue ∷ [])) (last_from (opening first) (cues ++ cue ∷ []))
          ≡ goes (cond t (last_from (with_message moment first.message) cues) (last_from (opening first) cues))
      go true same other = same
      go false same other = other

-- the size of a moment with one cue
own_size : (cue : Cue) → length (bundled (opening cue)) ≡ 16 + (4 + length cue.message)
own_size cue = let parts = longer (record { tag = cue.tag; messages = [] }) cue.message in omega (arith, parts)

-- what is left of the packet
record Left (cues : List Cue) (cue : Cue) (last room : ℕ) : Type 0 where
  sheet : IsSheet (cues ++ cue ∷ [])
  ends : Ends (cues ++ cue ∷ []) cue.tag (cond (last == cue.tag) room ROOM - (length cue.message + 4))

-- a cue for which there is room, and which isn't before the last
cue_on : (cues : List Cue) (cue : Cue) (last room : ℕ) → IsSheet cues → Ends cues last room → last ≤ cue.tag → IsSpelled cue.message
    → length cue.message + 4 ≤ cond (last == cue.tag) room ROOM → Left cues cue last room
cue_on cues cue last room sheet ends late message few = go cues sheet ends where
  sent : length cue.message ≤ MAX_PACKET → IsSent cue
  sent short = record { form = message.form; lawful = message.lawful; spelled = message.spelled; short = short }

  small : room ≤ ROOM → length cue.message + 4 ≤ ROOM
  small within = pick (last == cue.tag) few where
    pick : (t : Bool) → length cue.message + 4 ≤ cond t room ROOM → length cue.message + 4 ≤ ROOM
    pick true few = omega arith
    pick false few = few

  go : (cues : List Cue) → IsSheet cues → Ends cues last room → Left cues cue last room
  go [] sheet ends =
      let size = own_size cue in
      let all : length cue.message + 4 ≤ ROOM = small (omega (arith, ends.1)) in
      let fit : FitsPacket (opening cue) = omega (arith, size, all) in
      let whole : cond (last == cue.tag) room ROOM ≡ ROOM = either (last == cue.tag) ends.1 in
      record {
        sheet = record { ordered = (omega arith, tt); messages = (sent (omega (arith, all)), tt); fits = (fit, tt) };
        ends = (
          refl,
          subst (λ (n : ℕ). length (bundled (opening cue)) + (n - (length cue.message + 4)) ≡ MAX_PACKET) (sym whole)
              (omega (arith, size, all)),
        );
      } where
        either : (t : Bool) → room ≡ ROOM → cond t room ROOM ≡ ROOM
        either true is = is
        either false is = refl
  go (first ∷ cues) sheet ends =
      let size = own_size cue in
      let ending : Bundling = last_from (opening first) cues in
      let most : 16 ≤ length (bundled ending) = omega arith in
      let all : length cue.message + 4 ≤ ROOM = small (omega (arith, ends.1, most)) in
      let fit : FitsPacket (opening cue) = omega (arith, size, all) in
      let more = longer ending cue.message in
      record {
        sheet = record {
          ordered = (
            sheet.ordered.0,
            ordered_on (opening first) cues cue sheet.ordered.1
                (subst (λ (n : ℕ). n ≤ cue.tag) (sym ends.0) late),
          );
          messages = all_on IsSent (first ∷ cues) cue sheet.messages (sent (omega (arith, all)));
          fits = fits_on (opening first) cues cue sheet.fits (record { here = here (last == cue.tag) refl few; own = fit });
        };
        ends = subst (λ (b : Bundling). (b.tag ≡ cue.tag) ×
            (length (bundled b) + (cond (last == cue.tag) room ROOM - (length cue.message + 4)) ≡ MAX_PACKET))
            (sym (last_on (opening first) cues cue)) (after (last == cue.tag) refl few);
      } where
        open_at : Bundling
        open_at = last_from (opening first) cues

        here : (t : Bool) → (last == cue.tag) ≡ t → length cue.message + 4 ≤ cond t room ROOM → cue.tag ≡ open_at.tag
            → FitsPacket (with_message open_at cue.message)
        here true is few same = let more = longer open_at cue.message in omega (arith, ends.1, more, few)
        here false is few same = absurd
            (let own = ends.0 in let unlike : (last == cue.tag) ≡ true = eq-eqb last cue.tag (sym own ∙ sym same) in cc (is, unlike))

        after : (t : Bool) → (last == cue.tag) ≡ t → length cue.message + 4 ≤ cond t room ROOM
            → let b : Bundling = cond (cue.tag == open_at.tag) (with_message open_at cue.message) (opening cue) in
            (b.tag ≡ cue.tag) × (length (bundled b) + (cond t room ROOM - (length cue.message + 4)) ≡ MAX_PACKET)
        after true is few =
            let same : cue.tag ≡ open_at.tag = sym (ends.0 ∙ eqb-true last cue.tag is) in
            let more = longer open_at cue.message in
            subst (λ (b : Bundling). (b.tag ≡ cue.tag) × (length (bundled b) + (room - (length cue.message + 4)) ≡ MAX_PACKET))
            (sym (cond-true _ _ _ (eq-eqb cue.tag open_at.tag same)))
            (sym same, omega (arith, ends.1, more, few))
        after false is few =
            let size = own_size cue in
            let unlike : (cue.tag == open_at.tag) ≡ false = differs (cue.tag == open_at.tag) refl in
            subst (λ (b : Bundling). (b.tag ≡ cue.tag) × (length (bundled b) + (ROOM - (length cue.message + 4)) ≡ MAX_PACKET))
            (sym (cond-false _ _ _ unlike)) (refl, omega (arith, size, few)) where
              differs : (u : Bool) → (cue.tag == open_at.tag) ≡ u → u ≡ false
              differs false e = refl
              differs true e = absurd (
                  let same : last ≡ cue.tag = sym ends.0 ∙ sym (eqb-true cue.tag open_at.tag e) in
                  let known : (last == cue.tag) ≡ true = eq-eqb last cue.tag same in cc (is, known)
                  )

-- A line after others.

-- a moment that isn't before another has no tag before it
tags_on : (one other : ℕ) → one ≤ other → tag_of one ≤ tag_of other
tags_on one other few = omega arith

order_kept : (before : Option ℕ) (moment : ℕ) → order_fault before moment ≡ None → IfSome before (λ b. b ≤ moment)
order_kept None moment none = tt
order_kept (Some before) moment none = go (nat_lt moment before) refl none where
  go : (t : Bool) → nat_lt moment before ≡ t → cond t (Some (BeforeLine (tag_of before))) None ≡ None → before ≤ moment
  go true e none = absurd (cc)
  go false e none = grind (arith, nat_tests)

first_none : (one other : Option Fault) → or_fault one other ≡ None → one ≡ None
first_none None other is = refl
first_none (Some fault) other is = absurd (cc)

unless_none : (wrong : Option Fault) (methods : List (List ℕ)) (line : List ℕ) (first : Span) (spans : List Span) (message : List ℕ)
    → message_unless wrong methods line first spans ≡ Ok message → wrong ≡ None
unless_none None methods line first spans message is = refl
unless_none (Some fault) methods line first spans message is = absurd (cc)

-- a cue's moment isn't before that of the line before
in_order : (methods : List (List ℕ)) (setting : Setting) (draft : Draft) (line : List ℕ) (moment : ℕ) (message : List ℕ)
    → line_says methods setting draft line ≡ Ok (Cued moment (Ok message)) → IfSome draft.before (λ b. b ≤ moment)
in_order methods setting draft line moment message is = go (spans_of line) is where
  cued : (first : Span) (spans : List Span) (read : Result ℕ WordFault)
      → made (λ m. Cued m (message_unless (time_fault setting draft.before m) methods line first spans)) read
      ≡ Ok (Cued moment (Ok message))
      → IfSome draft.before (λ b. b ≤ moment)
  cued first spans (Err wrong) so = absurd (cc)
  cued first spans (Ok m) so =
      let same : m ≡ moment = cc in
      let read : message_unless (time_fault setting draft.before m) methods line first spans ≡ Ok message = cc in
      let none = unless_none (time_fault setting draft.before m) methods line first spans message read in
      subst (λ (n : ℕ). IfSome draft.before (λ b. b ≤ n)) same
      (order_kept draft.before m (first_none (order_fault draft.before m) (gone_fault setting m) none))

  words : (first : Span) (spans : List Span) (t : Bool)
      → cond t (made (λ (tempo : Tempo). Counted tempo) (tempo_says setting draft line first spans))
      (cue_says methods setting draft line first spans)
      ≡ Ok (Cued moment (Ok message))
      → IfSome draft.before (λ b. b ≤ moment)
  words first spans true so = absurd (counts (tempo_says setting draft line first spans) so) where
    counts : (read : Result Tempo WordFault) → made (λ (tempo : Tempo). Counted tempo) read ≡ Ok (Cued moment (Ok message)) → ⊥
    counts (Err wrong) so = cc
    counts (Ok tempo) so = cc
  words first spans false so = cued first spans (moment_in setting draft line first) so

  go : (read : Result (List Span) WordFault)
      → and_then read (λ spans. spans_say methods setting draft line spans) ≡ Ok (Cued moment (Ok message))
      → IfSome draft.before (λ b. b ≤ moment)
  go (Err wrong) so = absurd (cc)
  go (Ok []) so = absurd (cc)
  go (Ok (first ∷ spans)) so = words first spans (is_word line first (codes "tempo")) so

wrong_some : (lines : List WrongLine) (line : WrongLine) → lines ++ line ∷ [] ≡ [] → ⊥
wrong_some [] line is = cc
wrong_some (first ∷ lines) line is = cc

-- the last cue isn't after this moment either
late_on : (before : Option ℕ) (moment last : ℕ) → IsLate before last → IfSome before (λ b. b ≤ moment) → last ≤ tag_of moment
late_on None moment last late order = omega (arith, late)
late_on (Some before) moment last late order = let tags = tags_on before moment order in omega (arith, late, tags)

settled_on : (setting : Setting) (draft : Draft) (number : ℕ) (line : List ℕ) (moment : ℕ) (message : List ℕ)
    → Holds draft → IfSome draft.before (λ b. b ≤ moment) → IsSpelled message
    → IsSound (settled setting (record draft { before = Some moment }) number line moment (Ok message))
settled_on setting draft number line moment message holds order spelled = gone (has_gone setting moment) where
  after : Draft
  after = record draft { before = Some moment }

  late : draft.last ≤ tag_of moment
  late = late_on draft.before moment draft.last holds.late order

  enters : (t : Bool) → nat_le (length message + 4) (room_at after (tag_of moment)) ≡ t
      → IsSound (cond t (with_cue after (tag_of moment) message) (with_wrong after number line (record { at = 0; fault = LargeMoment })))
  enters false few none = absurd (wrong_some draft.wrong _ none)
  enters true few none =
      let room : length message + 4 ≤ cond (draft.last == tag_of moment) draft.room ROOM = grind (arith, nat_tests) in
      let next = cue_on draft.cues
      (record { tag = tag_of moment; message = message }) draft.last draft.room holds.sheet holds.ends late spelled room in
      record { sheet = next.sheet; ends = next.ends; late = omega arith }

  gone : (t : Bool) → IsSound (cond t after (entered after number line (tag_of moment) message))
  gone true none = record { sheet = holds.sheet; ends = holds.ends; late = late }
  gone false none = enters (nat_le (length message + 4) (room_at after (tag_of moment))) refl none

-- after a line that says this
pub said_on : (methods : List (List ℕ)) (setting : Setting) (draft : Draft) (number : ℕ) (line : List ℕ) (said : Said)
    → IsSound draft → line_says methods setting draft line ≡ Ok said → IsSaid said
    → IsSound (after_said setting draft number line (Ok said))
said_on methods setting draft number line Nothing sound is fact none = sound none
said_on methods setting draft number line (Counted tempo) sound is fact none =
    let holds = sound none in record { sheet = holds.sheet; ends = holds.ends; late = holds.late }
said_on methods setting draft number line (Cued moment (Err wrong)) sound is fact none = absurd (wrong_some draft.wrong _ none)
said_on methods setting draft number line (Cued moment (Ok message)) sound is fact none =
    let clear : draft.wrong ≡ [] = before (has_gone setting moment) (nat_le (length message + 4) (room_at after (tag_of moment))) none in
    settled_on setting draft number line moment message (sound clear)
    (in_order methods setting draft line moment message is) fact.1 none where
      after : Draft
      after = record draft { before = Some moment }

      before : (t u : Bool)
          → (cond t after (cond u (with_cue after (tag_of moment) message)
          (with_wrong after number line (record { at = 0; fault = LargeMoment })))).wrong ≡ []
          → draft.wrong ≡ []
      before true u none = none
      before false true none = none
      before false false none = absurd (wrong_some draft.wrong _ none)

pub wrong_on : (draft : Draft) (number : ℕ) (line : List ℕ) (wrong : WordFault) → IsSound (with_wrong draft number line wrong)
wrong_on draft number line wrong none = absurd (wrong_some draft.wrong _ none)

pub unread_on : IsSound unread
unread_on none = record { sheet = record { ordered = tt; messages = tt; fits = tt }; ends = (refl, refl); late = refl }

-- after a line that was taken
pub said_in : {E : Type 0} (result : Result (Unit {0}) E) (methods : List (List ℕ)) (setting : Setting) (draft new : Draft) (number : ℕ)
    (line : List ℕ)
    (said : Said) → OnOk result (new ≡ after_said setting draft number line (Ok said)) → IsSound draft
    → line_says methods setting draft line ≡ Ok said
    → IsSaid said → OnOk result (IsSound new)
said_in (Err error) methods setting draft new number line said is sound says fact = tt
said_in (Ok done) methods setting draft new number line said is sound says fact =
    subst IsSound (sym is) (said_on methods setting draft number line said sound says fact)

-- after one that is wrong
pub wrong_in : {E : Type 0} (result : Result (Unit {0}) E) (draft new : Draft) (number : ℕ) (line : List ℕ) (wrong : WordFault)
    → OnOk result (new ≡ with_wrong draft number line wrong) → OnOk result (IsSound new)
wrong_in (Err error) draft new number line wrong is = tt
wrong_in (Ok done) draft new number line wrong is = subst IsSound (sym is) (wrong_on draft number line wrong)

-- the cues, where no line is wrong
pub sheet_in : (draft : Draft) (lines : List WrongLine) → IsSound draft → lines ≡ draft.wrong → length lines ≡ 0 → IsSheet draft.cues
sheet_in draft [] sound is none = (sound (sym is)).sheet
sheet_in draft (line ∷ lines) sound is none = absurd (omega arith)
