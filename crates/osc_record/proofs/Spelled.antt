-- A message that is read as a header was written as one.
use Rattle.std.proofs.Common.{◌≡◌, ◌⊎◌, ℕ, ◌%◌, ◌&&◌, ◌≤◌, Bool, true, false, cond, List, [], ◌∷◌, length, take, drop, Option, Some, None, refl, sym}
use Rattle.std.proofs.Common.{ap, ◌∙◌, subst, inl, inr, arith, codes, eqb-true}
use Rattle.std.specs.Prelude.{option_and_then, option_map, is_none, ◌==◌, nat_lt, nat_le}
use Rattle.std.specs.Str.{bytes_eq}
use Rattle.std.specs.Int.{w32, from_be_bytes}
use Rattle.std.proofs.lemmas.Slice.Eq.{bytes_eq-Decides}
use Rattle.std.proofs.lemmas.Bool.{and_parts}
use Rattle.std.proofs.lemmas.Option.{same_Some, none-some}
use Rattle.osc_atoms.specs.Atoms.{AreBytes}
use Rattle.osc_atoms.proofs.AllBytes.{front_bytes, rest_bytes}
use Rattle.osc_message.specs.Messages.{Argument, Form, bare, known, unknown, IsLawful, IsMessage, message_text}
use Rattle.osc_message.specs.Reading.{limited_read, is_message, pattern_of}
use Rattle.osc_message.specs.Arguments.{message_arguments}
use Rattle.osc_message.proofs.Checks.{exact_of}
use Rattle.osc_message.proofs.TextLaws.{pattern_again, bare_arguments, known_arguments_again, unknown_arguments_again}
use Rattle.osc_model.specs.Limits.{Limits}
use Rattle.osc_model.specs.declared.late.Late.{Late}
use Rattle.osc_model.specs.declared.late.Late.TheVariants.{Deliver, Discard}
use Rattle.osc_model.specs.Recordings.{int, late_code, row_text}
use Rattle.osc_record.specs.declared.version.Version.{Version}
use Rattle.osc_record.specs.declared.version.Version.TheVariants.{First, Second}
use Rattle.osc_record.specs.Versions.{version_number, header_size_of, header_row_in, header_text_in, limit_fault_in}
use Rattle.osc_record.specs.Reading.{limits_told, late_told, lawful_limits, header_of, header_told, header_read, message_first, bytes_of_size, int_first}
use Rattle.osc_record.specs.Reading.{later_first}
use Rattle.osc_record.proofs.Again.{message_more, cond_gives}
use Rattle.osc_record.proofs.ArgumentsRead.{int_was, end_was}
use Rattle.osc_record.proofs.Written.{header_length}

-- a message with arguments, which are those that are read
pub record Spelled (message : List ℕ) : Type 0 where
  pub lawful : IsLawful (known (pattern_of message) (message_arguments message))
  pub text : message ≡ message_text (known (pattern_of message) (message_arguments message))

pub spelled : (message : List ℕ) → AreBytes message → is_message 1073741824 message ≡ true → Spelled message ⊎ (message_arguments message ≡ [])
spelled message small is = go ((exact_of (limited_read 1073741824 message) 1073741824 message small refl).0 is) where
  go : IsMessage 1073741824 message → Spelled message ⊎ (message_arguments message ≡ [])
  go m = by_form m.form m.lawful m.spelled where
    by_form : (form : Form) → IsLawful form → message ≡ message_text form → Spelled message ⊎ (message_arguments message ≡ [])
    by_form (bare pattern) lawful same = inr (ap message_arguments same ∙ bare_arguments pattern lawful)
    by_form (unknown pattern tags rest) lawful same = inr (ap message_arguments same ∙ unknown_arguments_again pattern tags rest lawful)
    by_form (known pattern listed) lawful same =
        let name : pattern_of message ≡ pattern = ap pattern_of same ∙ pattern_again (known pattern listed) lawful in
        let arguments : message_arguments message ≡ listed = ap message_arguments same ∙ known_arguments_again pattern listed lawful in
        inl (record {
          lawful = subst (λ (p : List ℕ × List Argument). IsLawful (known p.0 p.1)) (λ i. (sym name i, sym arguments i)) lawful;
          text = same ∙ (λ i. message_text (known (sym name i) (sym arguments i)));
        })

-- the message that bytes begin with is of bytes
pub message_bytes : (bytes message : List ℕ) → AreBytes bytes → message_first bytes ≡ Some message → AreBytes message
message_bytes bytes message all is =
    let size = from_be_bytes w32 (take 4 bytes) in
    let outer = cond_gives (nat_le 4 (length bytes)) (bytes_of_size size (drop 4 bytes)) message is in
    let inner = cond_gives (nat_lt 0 size && size % 4 == 0 && nat_le size (length (drop 4 bytes))) (Some (take size (drop 4 bytes))) message outer.1 in
    subst AreBytes (same_Some (take size (drop 4 bytes)) message inner.1) (front_bytes size (drop 4 bytes) (rest_bytes 4 bytes all))

-- the first of a chain of readings
pub read_then : {X Y : Type 0} (f : X → Option Y) (o : Option X) (y : Y) → option_and_then f o ≡ Some y → (x : X) × ((o ≡ Some x) × (f x ≡ Some y))
read_then f None y is = absurd (cc)
read_then f (Some x) y is = (x, (refl, is))

pub mapped : {X Y : Type 0} (f : X → Y) (o : Option X) (y : Y) → option_map f o ≡ Some y → (x : X) × ((o ≡ Some x) × (f x ≡ y))
mapped f None y is = absurd (none-some y is)
mapped f (Some x) y is = (x, (refl, same_Some (f x) y is))

pub lawful_is : (version : Version) (limits read : Limits) → lawful_limits version limits ≡ Some read
    → (limits ≡ read) × (limit_fault_in version limits ≡ None)
lawful_is version limits read is = go (limit_fault_in version limits) refl is where
  go : (o : Option ℕ) → limit_fault_in version limits ≡ o → cond (is_none o) (Some limits) None ≡ Some read
      → (limits ≡ read) × (limit_fault_in version limits ≡ None)
  go None e i = (same_Some limits read i, e)
  go (Some field) e i = absurd (cc)

late_was : (code : ℕ) (late : Late) → late_told code ≡ Some late → code ≡ late_code late
late_was code late is = go (code == 0) (code == 1) refl refl is where
  go : (t u : Bool) → (code == 0) ≡ t → (code == 1) ≡ u → cond t (Some Deliver) (cond u (Some Discard) None) ≡ Some late → code ≡ late_code late
  go true u e f i = eqb-true code 0 e ∙ ap late_code (same_Some Deliver late i)
  go false true e f i = eqb-true code 1 f ∙ ap late_code (same_Some Discard late i)
  go false false e f i = absurd (none-some late i)

-- late units are delivered where the version can't tell
abbrev pub Delivers : Version → Late → Type 0
Delivers First late = late ≡ Deliver
Delivers Second late = Unit {0}

-- the arguments of a header before what becomes of late units
abbrev fields : ℕ → ℕ → ℕ → ℕ → ℕ → ℕ → ℕ → List Argument → List Argument
fields number units blocks methods nodes callers recording tail =
    int number ∷ int units ∷ int blocks ∷ int methods ∷ int nodes ∷ int callers ∷ int recording ∷ tail

-- the arguments of the header of some limits
abbrev HeaderWere : Version → List Argument → Limits → Type 0
HeaderWere version arguments limits = (arguments ≡ (header_row_in version limits).arguments) × Delivers version limits.late

header_in : (version : Version) (arguments tail : List Argument) (number : ℕ) (limits : Limits) (late : ℕ × List Argument)
    → arguments ≡ fields number limits.units limits.blocks limits.methods limits.nodes limits.callers limits.recording tail
    → later_first version tail ≡ Some late → late.1 ≡ [] → number ≡ version_number version → late_told late.0 ≡ Some limits.late
    → HeaderWere version arguments limits
header_in First arguments tail number limits late same later none number_is told =
    let both : (0, tail) ≡ late = same_Some (0, tail) late later in
    let end : tail ≡ [] = ap (λ (p : ℕ × List Argument). p.1) both ∙ none in
    let zero : late.0 ≡ 0 = sym (ap (λ (p : ℕ × List Argument). p.0) both) in (
      same
          ∙ (λ i. fields (number_is i) limits.units limits.blocks limits.methods limits.nodes limits.callers limits.recording (end i)),
      sym (same_Some Deliver limits.late (sym (ap late_told zero) ∙ told)),
    )
header_in Second arguments tail number limits late same later none number_is told =
    let end : tail ≡ int (late_code limits.late) ∷ [] =
    int_was tail late later ∙ (λ i. int (late_was late.0 limits.late told i) ∷ none i) in (
      same
          ∙ (λ i. fields (number_is i) limits.units limits.blocks limits.methods limits.nodes limits.callers limits.recording (end i)),
      tt,
    )

-- the arguments of a header
pub limits_were : (version : Version) (arguments : List Argument) (limits : Limits) → limits_told version arguments ≡ Some limits
    → HeaderWere version arguments limits
limits_were version arguments limits is =
    let number = read_then _ (int_first arguments) limits is in
    let units = read_then _ (int_first number.0.1) limits number.1.1 in
    let blocks = read_then _ (int_first units.0.1) limits units.1.1 in
    let methods = read_then _ (int_first blocks.0.1) limits blocks.1.1 in
    let nodes = read_then _ (int_first methods.0.1) limits methods.1.1 in
    let callers = read_then _ (int_first nodes.0.1) limits nodes.1.1 in
    let recording = read_then _ (int_first callers.0.1) limits callers.1.1 in
    let late = read_then _ (later_first version recording.0.1) limits recording.1.1 in
    let told : Late → Limits = λ policy.
    record {
      units = units.0.0;
      blocks = blocks.0.0;
      methods = methods.0.0;
      nodes = nodes.0.0;
      callers = callers.0.0;
      recording = recording.0.0;
      late = policy;
    } in
    let read : Option Limits = option_map told (late_told late.0.0) in
    let last = end_was late.0.1 (cond (number.0.0 == version_number version) read None) limits late.1.1 in
    let first = cond_gives (number.0.0 == version_number version) read limits last.1 in
    let number_is : number.0.0 ≡ version_number version = eqb-true number.0.0 (version_number version) first.0 in
    let policy = mapped told (late_told late.0.0) limits first.1 in
    let same : arguments ≡ fields number.0.0 units.0.0 blocks.0.0 methods.0.0 nodes.0.0 callers.0.0 recording.0.0 recording.0.1 =
    int_was arguments number.0 number.1.0
    ∙ ap (λ (l : List Argument). int number.0.0 ∷ l) (int_was number.0.1 units.0 units.1.0
    ∙ ap (λ (l : List Argument). int units.0.0 ∷ l) (int_was units.0.1 blocks.0 blocks.1.0
    ∙ ap (λ (l : List Argument). int blocks.0.0 ∷ l) (int_was blocks.0.1 methods.0 methods.1.0
    ∙ ap (λ (l : List Argument). int methods.0.0 ∷ l) (int_was methods.0.1 nodes.0 nodes.1.0
    ∙ ap (λ (l : List Argument). int nodes.0.0 ∷ l) (int_was nodes.0.1 callers.0 callers.1.0
    ∙ ap (λ (l : List Argument). int callers.0.0 ∷ l) (int_was callers.0.1 recording.0 recording.1.0)))))) in
    subst (HeaderWere version arguments) policy.1.1
    (header_in version arguments recording.0.1 number.0.0 (told policy.0) late.0 same late.1.0 last.0 number_is policy.1.0)

-- what is read as a header is one
pub header_was : (version : Version) (message : List ℕ) (limits : Limits) → AreBytes message → header_of version message ≡ Some limits
    → (message ≡ row_text (header_row_in version limits)) × Delivers version limits.late
header_was version message limits small is =
    let inner = cond_gives (is_message 1073741824 message && bytes_eq (pattern_of message) (codes "/osc/rec"))
    (limits_told version (message_arguments message)) limits is in
    let tests = and_parts (is_message 1073741824 message) (bytes_eq (pattern_of message) (codes "/osc/rec")) inner.0 in
    let name : pattern_of message ≡ codes "/osc/rec" = (bytes_eq-Decides (pattern_of message) (codes "/osc/rec")).0 tests.1 in
    let were = limits_were version (message_arguments message) limits inner.1 in
    go (spelled message small tests.0) name were
  where
    no_arguments : (version : Version) → [] ≡ (header_row_in version limits).arguments → ⊥
    no_arguments First e = cc
    no_arguments Second e = cc

    named : (version : Version) → (header_row_in version limits).address ≡ codes "/osc/rec"
    named First = refl
    named Second = refl

    go : Spelled message ⊎ (message_arguments message ≡ []) → pattern_of message ≡ codes "/osc/rec" → HeaderWere version (message_arguments message) limits
        → (message ≡ row_text (header_row_in version limits)) × Delivers version limits.late
    go (inl s) name were = (s.text ∙ (λ i. message_text (known ((name ∙ sym (named version)) i) (were.0 i))), were.1)
    go (inr none) name were = absurd (no_arguments version (sym none ∙ were.0))

-- the header that bytes begin with is one, so they are long enough for it
pub header_long : (version : Version) (bytes : List ℕ) (limits : Limits) → AreBytes bytes → header_read version bytes ≡ Some limits
    → header_size_of version ≤ length bytes
header_long version bytes limits small is =
    let told = read_then (lawful_limits version) (header_told version bytes) limits is in
    go (message_first bytes) refl told.0 told.1.0
  where
    go : (o : Option (List ℕ)) → message_first bytes ≡ o → (told : Limits) → option_and_then (header_of version) o ≡ Some told
        → header_size_of version ≤ length bytes
    go None found told e = absurd (none-some told e)
    go (Some message) found told e =
        let was = header_was version message told (message_bytes bytes message small found) e in
        let size : length message ≡ length (row_text (header_row_in version told)) = ap length was.0 in
        let whole : length (header_text_in version told) ≡ header_size_of version = header_length version told in
        let more = (message_more bytes [] message found).1 in
        omega arith
