-- From a want on there is a fault, or the bytes are those of a message.
use Rattle.std.proofs.Common.{◌≡◌, ◌⊎◌, ℕ, ◌+◌, ◌%◌, ◌<◌, ◌≤◌, Bool, true, false, ◌==◌, List, [], ◌∷◌, ◌++◌, length, drop, map, Option, Some, None, refl, sym}
use Rattle.std.proofs.Common.{◌∙◌, ap, subst, inl, inr, arith, eqb-true}
use Rattle.std.specs.List.{list_any, flat_map}
use Rattle.std.proofs.lemmas.Bool.{cond-false, eqb-false, cases_eq, cases_lt}
use Rattle.osc_atoms.specs.declared.fault.Fault.{Fault}
use Rattle.osc_atoms.specs.Atoms.{AreBytes, string, has_no_zero}
use Rattle.osc_atoms.specs.Standing.{StartsWithString}
use Rattle.osc_atoms.proofs.Strings.{string_seen}
use Rattle.osc_atoms.proofs.Paddings.{after_place}
use Rattle.osc_pattern.specs.declared.faults.PatternFault.{PatternFault}
use Rattle.osc_pattern.specs.Patterns.{IsPattern, pattern_fault}
use Rattle.osc_pattern.proofs.PatternLaws.{IsFound, pattern_fault-found}
use Rattle.osc_message.specs.Tags.{is_unknown, Balanced}
use Rattle.osc_message.specs.Messages.{Argument, tag_of, atom_of, AllFit, Form, bare, known, unknown, IsLawful, IsMessage, tag_string, message_text}
use Rattle.osc_atoms.specs.Faults.{empty, not_four, too_long, start}
use Rattle.osc_message.specs.Faults.{of_pattern, no_tags, left_over}
use Rattle.osc_message.specs.Wants.{Want, some_byte, within, fourfold, slash, pattern, lawful, comma, tag_text, brackets_balance, arguments, done, Leads, Names}
use Rattle.osc_message.specs.Wants.{Reaches, first, later, FaultFrom}
use Rattle.osc_message.proofs.ArrayBrackets.{balance_seen}
use Rattle.osc_message.proofs.ArgumentAtoms.{argument_seen, string_fours}
use Rattle.osc_message.proofs.Steps.{Placed, placed_on, Ready, fault_at, leads_same, names_told, named_fails, names_within, ready_next, known_head, tags_before}
use Rattle.osc_message.proofs.Steps.{text_before}

-- a fault that is reached is the one that is read
reached : (bytes : List ℕ) (from want : Want) → Ready bytes from → Reaches bytes from want → Ready bytes want × (fault_at bytes from ≡ fault_at bytes want)
reached bytes from want ready first = (ready, refl)
reached bytes from want ready (later {want = before} reaches leads) =
    let so_far = reached bytes from before ready reaches in
    (ready_next bytes before want so_far.0 leads, so_far.1 ∙ leads_same bytes before want so_far.0 leads)

pub fault_is_read : (bytes : List ℕ) (from : Want) (fault : Fault) → Ready bytes from → FaultFrom bytes from fault → fault_at bytes from ≡ Some fault
fault_is_read bytes from fault ready found =
    let there = reached bytes from found.want ready found.reached in
    there.1 ∙ names_told bytes found.want fault there.0 found.named

pub fault_within : (bytes : List ℕ) (from : Want) (fault : Fault) → Ready bytes from → FaultFrom bytes from fault → fault.at ≤ length bytes
fault_within bytes from fault ready found = names_within bytes found.want fault (reached bytes from found.want ready found.reached).0 found.named

prepended : (bytes : List ℕ) (from next want : Want) → Leads bytes from next → Reaches bytes next want → Reaches bytes from want
prepended bytes from next want leads first = later first leads
prepended bytes from next want leads (later {want = before} reaches last) = later (prepended bytes from next before leads reaches) last

-- a fault from a want on
pub record Found (bytes : List ℕ) (from : Want) : Type 0 where
  pub fault : Fault
  pub found : FaultFrom bytes from fault

here : (bytes : List ℕ) (want : Want) (fault : Fault) → Ready bytes want → Names bytes want fault → Found bytes want
here bytes want fault ready names =
    record {
      fault = fault;
      found = record { want = want; reached = first; fails = λ stands. named_fails bytes want stands.0 fault ready names stands.1; named = names };
    }

onward : (bytes : List ℕ) (from next : Want) → Leads bytes from next → Found bytes next → Found bytes from
onward bytes from next leads later_on =
    let f = later_on.found in
    record {
      fault = later_on.fault;
      found = record { want = f.want; reached = prepended bytes from next f.want leads f.reached; fails = f.fails; named = f.named };
    }

-- the arguments that stand under tags at a place, up to the end
pub record ArgumentsStand (bytes tags : List ℕ) (at : ℕ) : Type 0 where
  pub listed : List Argument
  pub tagged : map tag_of listed ≡ tags
  pub fit : AllFit listed
  pub parts : drop at bytes ≡ flat_map atom_of listed

pub arguments_end_in : (bytes : List ℕ) → AreBytes bytes → (tags : List ℕ) (at : ℕ) → Ready bytes (arguments tags at)
    → Found bytes (arguments tags at) ⊎ ArgumentsStand bytes tags at
arguments_end_in bytes small [] at ready = go (drop at bytes) refl where
  go : (l : List ℕ) → drop at bytes ≡ l → Found bytes (arguments [] at) ⊎ ArgumentsStand bytes [] at
  go [] is = inr (record { listed = []; tagged = refl; fit = tt; parts = is })
  go (x ∷ rest) is = inl (here bytes (arguments [] at) (left_over at) ready (omega (arith, ap length is), refl))
arguments_end_in bytes small (tag ∷ tags) at ready = elim (argument_seen tag bytes at (known_head tag tags ready.0).0 small ready.1.whole) [
  | inr failing ↦ inl (here bytes (arguments (tag ∷ tags) at) failing.fault ready failing.names)
  | inl standing ↦
      let argument = standing.argument in
      let next = at + length (atom_of argument) in
      let leads : Leads bytes (arguments (tag ∷ tags) at) (arguments tags next) = (argument, standing.tagged, standing.stands, refl) in
      elim (arguments_end_in bytes small tags next (ready_next bytes (arguments (tag ∷ tags) at) (arguments tags next) ready leads)) [
        | inl found ↦ inl (onward bytes (arguments (tag ∷ tags) at) (arguments tags next) leads found)
        | inr all ↦
            let rest = standing.stands.written.rest in
            let behind : rest ≡ flat_map atom_of all.listed =
            sym (after_place bytes at (length (atom_of argument)) (atom_of argument) rest standing.stands.written.parts refl) ∙ all.parts in
            inr (record {
              listed = argument ∷ all.listed;
              tagged = λ i. standing.tagged i ∷ all.tagged i;
              fit = (standing.stands.fits, all.fit);
              parts = standing.stands.written.parts ∙ ap (λ (l : List ℕ). atom_of argument ++ l) behind;
            })
      ]
]

-- what stands after a pattern
data After (bytes : List ℕ) (at : ℕ) : Type 0 where
  nothing : drop at bytes ≡ [] → After bytes at
  all_known : (listed : List Argument) → AllFit listed → Balanced (map tag_of listed)
      → drop at bytes ≡ tag_string (map tag_of listed) ++ flat_map atom_of listed → After bytes at
  some_unknown : (tags rest : List ℕ) → has_no_zero tags ≡ true → list_any is_unknown tags ≡ true → length rest % 4 ≡ 0
      → drop at bytes ≡ tag_string tags ++ rest → After bytes at

no_zero_tail : (tags : List ℕ) → has_no_zero (44 ∷ tags) ≡ true → has_no_zero tags ≡ true
no_zero_tail tags is = is

tagged_in : (bytes : List ℕ) → AreBytes bytes → (at : ℕ) (tags : List ℕ) → Placed bytes at → StartsWithString bytes at (44 ∷ tags)
    → Found bytes (tag_text at) ⊎ After bytes at
tagged_in bytes small at tags placed stands = go (list_any is_unknown tags) refl where
  after : Placed bytes (at + length (tag_string tags))
  after = placed_on bytes at (tag_string tags) stands.written.rest placed stands.written.parts (string_fours (44 ∷ tags))

  rest_is : drop (at + length (tag_string tags)) bytes ≡ stands.written.rest
  rest_is = after_place bytes at (length (tag_string tags)) (tag_string tags) stands.written.rest stands.written.parts refl

  go : (b : Bool) → list_any is_unknown tags ≡ b → Found bytes (tag_text at) ⊎ After bytes at
  go true is =
      inr (some_unknown tags stands.written.rest (no_zero_tail tags stands.no_zero) is
      (subst (λ (l : List ℕ). length l % 4 ≡ 0) rest_is after.whole) stands.written.parts)
  go false is = elim (balance_seen (at + 1) tags) [
    | inr fault ↦ inl
        (to_brackets is (here bytes (brackets_balance (at + 1) tags (at + length (tag_string tags))) fault.0 (is, after, tags_before at tags) fault.1))
    | inl balanced ↦ elim (arguments_end_in bytes small tags (at + length (tag_string tags)) (is, after)) [
      | inl found ↦ inl
          (to_brackets is
          (onward bytes (brackets_balance (at + 1) tags (at + length (tag_string tags))) (arguments tags (at + length (tag_string tags)))
          (balanced, refl) found))
      | inr all ↦ inr
          (all_known all.listed all.fit (subst Balanced (sym all.tagged) balanced)
          (stands.written.parts ∙ ap (λ (l : List ℕ). tag_string tags ++ l) (sym rest_is ∙ all.parts)
          ∙ ap (λ (l : List ℕ). tag_string l ++ flat_map atom_of all.listed) (sym all.tagged)))
    ]
  ]
    where
      to_brackets : list_any is_unknown tags ≡ false → Found bytes (brackets_balance (at + 1) tags (at + length (tag_string tags))) → Found bytes (tag_text at)
      to_brackets isnt found =
          onward bytes (tag_text at) (brackets_balance (at + 1) tags (at + length (tag_string tags)))
          (tags, stands, sym (cond-false (list_any is_unknown tags) done (brackets_balance (at + 1) tags (at + length (tag_string tags))) isnt)) found

-- the first byte of a string that begins with a comma
comma_first : (text rest tail : List ℕ) → string text ++ rest ≡ 44 ∷ tail → (tags : List ℕ) × (text ≡ 44 ∷ tags)
comma_first [] rest tail is = absurd (cc)
comma_first (x ∷ tags) rest tail is = (tags, ap (λ (n : ℕ). n ∷ tags) (cc))

tag_text_in : (bytes : List ℕ) → AreBytes bytes → (at : ℕ) (tail : List ℕ) → Placed bytes at → drop at bytes ≡ 44 ∷ tail
    → Found bytes (tag_text at) ⊎ After bytes at
tag_text_in bytes small at tail placed parts = elim (string_seen bytes at placed.whole) [
  | inr refused ↦ inl (here bytes (tag_text at) refused.fault placed refused.names)
  | inl given ↦
      let tags = comma_first given.value given.stands.written.rest tail (sym given.stands.written.parts ∙ parts) in
      tagged_in bytes small at tags.0 placed (subst (StartsWithString bytes at) tags.1 given.stands)
]

comma_in : (bytes : List ℕ) → AreBytes bytes → (at : ℕ) → Placed bytes at → Found bytes (comma at) ⊎ After bytes at
comma_in bytes small at placed = go (drop at bytes) refl where
  go : (l : List ℕ) → drop at bytes ≡ l → Found bytes (comma at) ⊎ After bytes at
  go [] is = inr (nothing is)
  go (x ∷ rest) is = elim (cases_eq x 44) [
    | inr other ↦ inl (here bytes (comma at) (no_tags at) placed (record { byte = x; rest = rest; other = other; parts = is }, refl))
    | inl same ↦
        let parts : drop at bytes ≡ 44 ∷ rest = is ∙ ap (λ (n : ℕ). n ∷ rest) same in
        elim (tag_text_in bytes small at rest placed parts) [
          | inl found ↦ inl (onward bytes (comma at) (tag_text at) (inr (rest, parts, refl)) found)
          | inr after ↦ inr after
        ]
  ]

-- the message that stands at a place, up to the end
pub record MessageStands (bytes : List ℕ) (at : ℕ) : Type 0 where
  pub form : Form
  pub lawful : IsLawful form
  pub parts : drop at bytes ≡ message_text form

whole_of : (bytes : List ℕ) (at : ℕ) (text rest : List ℕ) → IsPattern text → drop at bytes ≡ string text ++ rest → After bytes (at + length (string text))
    → MessageStands bytes at
whole_of bytes at text rest is parts after = go after where
  behind : (l : List ℕ) → drop (at + length (string text)) bytes ≡ l → drop at bytes ≡ string text ++ l
  behind l e = parts ∙ ap (λ (r : List ℕ). string text ++ r) (sym (after_place bytes at (length (string text)) (string text) rest parts refl) ∙ e)

  go : After bytes (at + length (string text)) → MessageStands bytes at
  go (nothing none) = record { form = bare text; lawful = is; parts = behind [] none ∙ append_nil (string text) } where
    append_nil : (l : List ℕ) → l ++ [] ≡ l
    append_nil [] = refl
    append_nil (x ∷ l) = ap (λ (r : List ℕ). x ∷ r) (append_nil l)
  go (all_known listed fit balanced e) = record { form = known text listed; lawful = (is, fit, balanced); parts = behind _ e }
  go (some_unknown tags more no_zero some fours e) = record { form = unknown text tags more; lawful = (is, no_zero, some, fours); parts = behind _ e }

pub pattern_in : (bytes : List ℕ) → AreBytes bytes → (at : ℕ) → Placed bytes at → Found bytes (pattern at) ⊎ MessageStands bytes at
pattern_in bytes small at placed = elim (string_seen bytes at placed.whole) [
  | inr refused ↦ inl (here bytes (pattern at) refused.fault placed refused.names)
  | inl given ↦ with_text given.value given.stands
]
  where
    with_text : (text : List ℕ) → StartsWithString bytes at text → Found bytes (pattern at) ⊎ MessageStands bytes at
    with_text text stands = go (pattern_fault text) (pattern_fault-found text) where
      after : Placed bytes (at + length (string text))
      after = placed_on bytes at (string text) stands.written.rest placed stands.written.parts (string_fours text)

      go : (o : Option PatternFault) → IsFound text o → Found bytes (pattern at) ⊎ MessageStands bytes at
      go (Some f) is =
          inl (onward bytes (pattern at) (lawful at text (at + length (string text))) (text, stands, refl)
          (here bytes (lawful at text (at + length (string text))) (of_pattern at f.kind f.at) (after, text_before bytes at text after)
          (record { kind = f.kind; place = f.at; first = is; named = refl })))
      go None is = elim (comma_in bytes small (at + length (string text)) after) [
        | inl found ↦ inl
            (onward bytes (pattern at) (lawful at text (at + length (string text))) (text, stands, refl)
            (onward bytes (lawful at text (at + length (string text))) (comma (at + length (string text))) (is, refl) found))
        | inr rest ↦ inr (whole_of bytes at text stands.written.rest is stands.written.parts rest)
      ]

pub slash_in : (bytes : List ℕ) → AreBytes bytes → (at : ℕ) → Placed bytes at → Found bytes (slash at) ⊎ MessageStands bytes at
slash_in bytes small at placed = go (drop at bytes) refl where
  go : (l : List ℕ) → drop at bytes ≡ l → Found bytes (slash at) ⊎ MessageStands bytes at
  go [] is = inl (here bytes (slash at) (start at) placed (inl is, refl))
  go (x ∷ rest) is = elim (cases_eq x 47) [
    | inr other ↦ inl (here bytes (slash at) (start at) placed (inr (record { byte = x; rest = rest; other = other; parts = is }), refl))
    | inl same ↦ elim (pattern_in bytes small at placed) [
      | inl found ↦ inl (onward bytes (slash at) (pattern at) (rest, is ∙ ap (λ (n : ℕ). n ∷ rest) same, refl) found)
      | inr message ↦ inr message
    ]
  ]

-- bytes are a message of at most so many, or have a first fault
pub message_seen : (most : ℕ) (bytes : List ℕ) → AreBytes bytes → Found bytes (some_byte most) ⊎ IsMessage most bytes
message_seen most bytes small = elim (cases_lt 0 (length bytes)) [
  | inr none ↦ inl (here bytes (some_byte most) empty tt (no_bytes bytes none, refl))
  | inl some ↦ elim (cases_lt most (length bytes)) [
    | inl long ↦ inl (onward bytes (some_byte most) (within most) (some, refl) (here bytes (within most) (too_long most) tt (long, refl)))
    | inr short ↦ inside some short
  ]
]
  where
    no_bytes : (l : List ℕ) → length l ≤ 0 → l ≡ []
    no_bytes [] e = refl
    no_bytes (x ∷ l) e = absurd (omega arith)

    inside : 0 < length bytes → length bytes ≤ most → Found bytes (some_byte most) ⊎ IsMessage most bytes
    inside some short = go (length bytes % 4 == 0) refl where
      from_fourfold : Found bytes fourfold → Found bytes (some_byte most)
      from_fourfold found = onward bytes (some_byte most) (within most) (some, refl) (onward bytes (within most) fourfold (short, refl) found)

      go : (b : Bool) → (length bytes % 4 == 0) ≡ b → Found bytes (some_byte most) ⊎ IsMessage most bytes
      go false isnt = inl (from_fourfold (here bytes fourfold (not_four (length bytes)) tt (eqb-false (length bytes % 4) 0 isnt, refl)))
      go true is =
          let four : length bytes % 4 ≡ 0 = eqb-true (length bytes % 4) 0 is in
          elim (slash_in bytes small 0 (record { inside = omega arith; whole = four })) [
            | inl found ↦ inl (from_fourfold (onward bytes fourfold (slash 0) (four, refl) found))
            | inr message ↦ inr (record { form = message.form; lawful = message.lawful; spelled = message.parts; short = short })
          ]
