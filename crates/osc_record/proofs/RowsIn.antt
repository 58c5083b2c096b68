-- What is read as an entry in either version was written as one in it.
use Rattle.std.proofs.Common.{◌≡◌, ℕ, Bool, true, false, cond, pos, List, [], ◌∷◌, Option, Some, None, refl, sym, ap, ◌∙◌, subst, codes}
use Rattle.std.specs.Prelude.{option_map}
use Rattle.std.specs.List.{flat_map}
use Rattle.std.specs.Str.{bytes_eq}
use Rattle.std.proofs.lemmas.Slice.Eq.{bytes_eq-Decides}
use Rattle.std.proofs.lemmas.Bool.{both_ways}
use Rattle.std.proofs.lemmas.Option.{same_Some, none-some}
use Rattle.osc_atoms.specs.Atoms.{AreBytes}
use Rattle.osc_message.specs.Messages.{Argument, content, long, atom_of}
use Rattle.osc_model.specs.Events.{Event, enrol, submit, add, remove, tick, release, Answer, number, callers_full, queued, units_full, pool_full, added}
use Rattle.osc_model.specs.Events.{refused, removed, not_there, ticked, clock_back, released, nothing_due, record_full, Entry as Recorded}
use Rattle.osc_model.specs.Recordings.{Row, int, submitted, row_of, submit_row, FitsRow, IsSound}
use Rattle.osc_record.specs.declared.version.Version.{Version}
use Rattle.osc_record.specs.declared.version.Version.TheVariants.{First, Second}
use Rattle.osc_record.specs.Versions.{old_submit_row, old_row_of, row_in, DropsNone, IsRecordableIn}
use Rattle.osc_record.specs.Reading.{int_first, long_first, content_first, later_first, submit_answer, enrol_read, submit_read, add_read, remove_read}
use Rattle.osc_record.specs.Reading.{tick_read}
use Rattle.osc_record.specs.Reading.{release_read, row_read}
use Rattle.osc_record.proofs.ArgumentsRead.{int_was, long_was, content_was, end_was}
use Rattle.osc_record.proofs.Spelled.{read_then, mapped}
use Rattle.osc_record.proofs.RowsRead.{Was, SubmitTold, submit_told, enrol_was, add_was, remove_was, tick_was, release_was}

abbrev submits : List ℕ
submits = codes "/osc/submit"

-- no unit is dropped where the version can't tell one
abbrev pub Drops : Version → Answer → Type 0
Drops First answer = DropsNone answer
Drops Second answer = Unit {0}

-- an entry whose message has this address and these arguments
abbrev pub WasIn : Version → List ℕ → List Argument → Recorded → Type 0
WasIn version address arguments e =
    (row_in version e.caller e.event e.answer ≡ Some (record { address = address; arguments = arguments })) × IsSound e.answer × Drops version e.answer

-- what is put together is what an entry has to be
pub recordable_in : (version : Version) (caller : ℕ) (event : Event) (answer : Answer) → FitsRow (row_in version caller event answer) → IsSound answer
    → Drops version answer → IsRecordableIn version caller event answer
recordable_in First caller event answer fits sound drops = record { fits = fits; sound = sound; drops = drops }
recordable_in Second caller event answer fits sound drops = record { fits = fits; sound = sound }

-- an answer to another event drops nothing
drops_none : (caller : ℕ) (event : Event) (answer : Answer) (row : Row) → ((packet : List ℕ) → event ≡ submit packet → ⊥)
    → row_of caller event answer ≡ Some row → DropsNone answer
drops_none caller enrol (queued first count late) row other is = absurd (none-some row is)
drops_none caller (submit packet) (queued first count late) row other is = absurd (other packet refl)
drops_none caller (add address) (queued first count late) row other is = absurd (none-some row is)
drops_none caller (remove address) (queued first count late) row other is = absurd (none-some row is)
drops_none caller (tick moment) (queued first count late) row other is = absurd (none-some row is)
drops_none caller release (queued first count late) row other is = absurd (none-some row is)
drops_none caller event (number n) row other is = tt
drops_none caller event callers_full row other is = tt
drops_none caller event (units_full room) row other is = tt
drops_none caller event (pool_full room) row other is = tt
drops_none caller event (added id) row other is = tt
drops_none caller event (refused why) row other is = tt
drops_none caller event (removed id) row other is = tt
drops_none caller event not_there row other is = tt
drops_none caller event ticked row other is = tt
drops_none caller event (clock_back kept) row other is = tt
drops_none caller event (released unit hits) row other is = tt
drops_none caller event (nothing_due next) row other is = tt
drops_none caller event (record_full room) row other is = tt

-- an entry whose row has another address has that row in the first version too
other_old : (caller : ℕ) (event : Event) (answer : Answer) (row : Row) → bytes_eq row.address submits ≡ false → row_of caller event answer ≡ Some row
    → (old_row_of caller event answer ≡ Some row) × DropsNone answer
other_old caller (submit packet) answer row other is = go (submitted answer) is where
  go : (o : Option (ℕ × ℕ × ℕ × ℕ)) → option_map (submit_row caller packet) o ≡ Some row
      → (old_row_of caller (submit packet) answer ≡ Some row) × DropsNone answer
  go None e = absurd (none-some row e)
  go (Some told) e =
      let address : submits ≡ row.address = ap (λ (r : Row). r.address) (same_Some (submit_row caller packet told) row e) in
      absurd (both_ways (bytes_eq row.address submits) other (sym (ap (λ (a : List ℕ). bytes_eq a submits) address)))
other_old caller enrol answer row other is = (is, drops_none caller enrol answer row (λ packet same. cc) is)
other_old caller (add address) answer row other is = (is, drops_none caller (add address) answer row (λ packet same. cc) is)
other_old caller (remove address) answer row other is = (is, drops_none caller (remove address) answer row (λ packet same. cc) is)
other_old caller (tick moment) answer row other is = (is, drops_none caller (tick moment) answer row (λ packet same. cc) is)
other_old caller release answer row other is = (is, drops_none caller release answer row (λ packet same. cc) is)

other_was : (version : Version) (name : List ℕ) (arguments : List Argument) (e : Recorded) → bytes_eq name submits ≡ false → Was name arguments e
    → WasIn version name arguments e
other_was First name arguments e other was =
    let old = other_old e.caller e.event e.answer (record { address = name; arguments = arguments }) other was.0 in
    (old.0, was.1, old.1)
other_was Second name arguments e other was = (was.0, was.1, tt)

-- an answer that is told with a third number of 0 drops no unit
told_none : (answer : Answer) (told : ℕ × ℕ × ℕ × ℕ) → submitted answer ≡ Some told → told.3 ≡ 0 → DropsNone answer
told_none (queued first count late) told is none = ap (λ (t : ℕ × ℕ × ℕ × ℕ). t.3) (same_Some (0, first, count, late) told is) ∙ none
told_none (number n) told is none = tt
told_none callers_full told is none = tt
told_none (units_full room) told is none = tt
told_none (pool_full room) told is none = tt
told_none (added id) told is none = tt
told_none (refused why) told is none = tt
told_none (removed id) told is none = tt
told_none not_there told is none = tt
told_none ticked told is none = tt
told_none (clock_back kept) told is none = tt
told_none (released unit hits) told is none = tt
told_none (nothing_due next) told is none = tt
told_none (record_full room) told is none = tt

-- the arguments of a submit before its third number
abbrev front : ℕ → List ℕ → ℕ → ℕ → ℕ → List Argument → List Argument
front caller packet code first second tail = int caller ∷ content packet ∷ int code ∷ long (pos first) ∷ int second ∷ tail

submitted_in : (version : Version) (arguments tail : List Argument) (caller : ℕ) (packet : List ℕ) (code first second : ℕ) (third : ℕ × List Argument)
    (answer : Answer) → arguments ≡ front caller packet code first second tail → later_first version tail ≡ Some third → third.1 ≡ []
    → SubmitTold code first second third.0 answer → WasIn version submits arguments (record { caller = caller; event = submit packet; answer = answer })
submitted_in First arguments tail caller packet code first second third answer same later none told =
    let both : (0, tail) ≡ third = same_Some (0, tail) third later in
    let end : tail ≡ [] = ap (λ (p : ℕ × List Argument). p.1) both ∙ none in (
      ap (option_map (old_submit_row caller packet)) told.0
          ∙ (λ i. Some (record { address = submits; arguments = sym (same ∙ ap (front caller packet code first second) end) i })),
      told.1,
      told_none answer (code, first, second, third.0) told.0 (sym (ap (λ (p : ℕ × List Argument). p.0) both)),
    )
submitted_in Second arguments tail caller packet code first second third answer same later none told = (
  ap (option_map (submit_row caller packet)) told.0
      ∙ (λ i. Some (record {
        address = submits;
        arguments = sym (same ∙ ap (front caller packet code first second) (int_was tail third later ∙ ap (λ (l : List Argument). int third.0 ∷ l) none)) i;
      })),
  told.1,
  tt,
)

submit_was : (version : Version) (arguments : List Argument) (e : Recorded) → submit_read version arguments ≡ Some e → WasIn version submits arguments e
submit_was version arguments e is =
    let caller = read_then _ (int_first arguments) e is in
    let packet = read_then _ (content_first caller.0.1) e caller.1.1 in
    let code = read_then _ (int_first packet.0.1) e packet.1.1 in
    let first = read_then _ (long_first code.0.1) e code.1.1 in
    let second = read_then _ (int_first first.0.1) e first.1.1 in
    let third = read_then _ (later_first version second.0.1) e second.1.1 in
    let last = end_was third.0.1
    (option_map (λ a. record { caller = caller.0.0; event = submit packet.0.0; answer = a }) (submit_answer code.0.0 first.0.0 second.0.0 third.0.0)) e
    third.1.1 in
    let found = mapped (λ a. record { caller = caller.0.0; event = submit packet.0.0; answer = a })
    (submit_answer code.0.0 first.0.0 second.0.0 third.0.0) e last.1 in
    let told = submit_told code.0.0 first.0.0 second.0.0 third.0.0 found.0 found.1.0 in
    let same = int_was arguments caller.0 caller.1.0
    ∙ ap (λ (l : List Argument). int caller.0.0 ∷ l)
    (content_was caller.0.1 packet.0 packet.1.0
    ∙ ap (λ (l : List Argument). content packet.0.0 ∷ l)
    (int_was packet.0.1 code.0 code.1.0 ∙ ap (λ (l : List Argument). int code.0.0 ∷ l)
    (long_was code.0.1 first.0 first.1.0 ∙ ap (λ (l : List Argument). long (pos first.0.0) ∷ l) (int_was first.0.1 second.0 second.1.0)))) in
    subst (WasIn version submits arguments) found.1.1
    (submitted_in version arguments second.0.1 caller.0.0 packet.0.0 code.0.0 first.0.0 second.0.0 third.0 found.0 same third.1.0 last.0 told)

-- what is read of a message to an address with these arguments
pub row_was : (version : Version) (address : List ℕ) (arguments : List Argument) (e : Recorded) → AreBytes (flat_map atom_of arguments)
    → row_read version address arguments ≡ Some e → WasIn version address arguments e
row_was version address arguments e all is =
    go (bytes_eq address (codes "/osc/enrol")) (bytes_eq address submits) (bytes_eq address (codes "/osc/add"))
    (bytes_eq address (codes "/osc/remove")) (bytes_eq address (codes "/osc/tick"))
    (bytes_eq address (codes "/osc/release")) refl refl refl refl refl refl is
  where
    named_as : (name : List ℕ) → bytes_eq address name ≡ true → WasIn version name arguments e → WasIn version address arguments e
    named_as name t w = subst (λ (n : List ℕ). WasIn version n arguments e) (sym ((bytes_eq-Decides address name).0 t)) w

    other : (name : List ℕ) → bytes_eq name submits ≡ false → bytes_eq address name ≡ true → Was name arguments e → WasIn version address arguments e
    other name differs t was = named_as name t (other_was version name arguments e differs was)

    go : (b1 b2 b3 b4 b5 b6 : Bool) → bytes_eq address (codes "/osc/enrol") ≡ b1 → bytes_eq address submits ≡ b2
        → bytes_eq address (codes "/osc/add") ≡ b3 → bytes_eq address (codes "/osc/remove") ≡ b4 → bytes_eq address (codes "/osc/tick") ≡ b5
        → bytes_eq address (codes "/osc/release") ≡ b6
        → cond b1 (enrol_read arguments)
        (cond b2 (submit_read version arguments)
        (cond b3 (add_read arguments) (cond b4 (remove_read arguments) (cond b5 (tick_read arguments) (cond b6 (release_read arguments) None))))) ≡ Some e
        → WasIn version address arguments e
    go true b2 b3 b4 b5 b6 p q r s t u i = other (codes "/osc/enrol") refl p (enrol_was arguments e i)
    go false true b3 b4 b5 b6 p q r s t u i = named_as submits q (submit_was version arguments e i)
    go false false true b4 b5 b6 p q r s t u i = other (codes "/osc/add") refl r (add_was arguments e i)
    go false false false true b5 b6 p q r s t u i = other (codes "/osc/remove") refl s (remove_was arguments e i)
    go false false false false true b6 p q r s t u i = other (codes "/osc/tick") refl t (tick_was arguments e i)
    go false false false false false true p q r s t u i = other (codes "/osc/release") refl u (release_was arguments e all i)
    go false false false false false false p q r s t u i = absurd (none-some e i)
