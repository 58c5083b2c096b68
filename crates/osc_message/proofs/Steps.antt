-- One want: what is read where it stands, and where it doesn't.
use Rattle.std.proofs.Common.{◌≡◌, ◌⊎◌, ℕ, suc, ◌+◌, ◌-◌, ◌%◌, ◌≤◌, Bool, true, false, cond, ◌==◌, List, [], ◌∷◌, ◌++◌, length, drop, replicate, Option, Some}
use Rattle.std.proofs.Common.{None, Result, Ok, Err, refl, sym, ◌∙◌, ap, subst, inl, inr, arith, length-append, length-drop, eq-eqb, le-leb}
use Rattle.std.specs.List.{list_any}
use Rattle.std.specs.Result.{result_err}
use Rattle.std.proofs.lemmas.Bool.{cond-true, cond-false, ne_eqb, lt-leb, cases_Bool}
use Rattle.std.proofs.lemmas.List.{length-replicate}
use Rattle.osc_atoms.specs.declared.fault.Fault.{Fault}
use Rattle.osc_atoms.specs.Atoms.{string}
use Rattle.osc_atoms.specs.Reading.{and_then, string_read}
use Rattle.osc_atoms.specs.Standing.{StartsWithString, NamesStringFault, NamesBlobFault}
use Rattle.osc_atoms.proofs.Strings.{string_again, string_fault_again, length-string}
use Rattle.osc_pattern.specs.declared.faults.PatternFault.{PatternFault}
use Rattle.osc_pattern.specs.Patterns.{pattern_fault}
use Rattle.osc_pattern.proofs.PatternLaws.{IsPattern-read, IsFault-read}
use Rattle.osc_message.specs.Tags.{is_unknown}
use Rattle.osc_message.specs.Messages.{Argument, tag_of, atom_of, tag_string}
use Rattle.osc_atoms.specs.Faults.{start}
use Rattle.osc_message.specs.Faults.{no_tags, brackets, left_over}
use Rattle.osc_message.specs.Wants.{Want, some_byte, within, fourfold, slash, pattern, lawful, comma, tag_text, brackets_balance, arguments, done, after_tags}
use Rattle.osc_message.specs.Wants.{Leads, Names, NamesOtherByte, StartsWithArgument, NamesArgumentFault, of_word, of_long, of_text, of_blob, ClosesNothing}
use Rattle.osc_message.specs.Wants.{NeverCloses}
use Rattle.osc_message.specs.ArgumentReading.{argument_read, arguments_end}
use Rattle.osc_message.specs.Reading.{Parts, begins, brackets_read, arguments_read, tags_read, tagged_read, comma_read, unless_fault, lawful_read, message_read}
use Rattle.osc_message.specs.Reading.{fourfold_read, within_read, limited_read}
use Rattle.osc_message.proofs.LawfulPatterns.{pattern_fault_within}
use Rattle.osc_message.proofs.ArrayBrackets.{balance_again, bracket_fault_again}
use Rattle.osc_message.proofs.ArgumentAtoms.{argument_again, argument_fault_again, atom_fours, string_fours}

-- a place within the bytes, a multiple of 4 before their end
pub record Placed (bytes : List ℕ) (at : ℕ) : Type 0 where
  pub inside : at ≤ length bytes
  pub whole : length (drop at bytes) % 4 ≡ 0

pub placed_on : (bytes : List ℕ) (at : ℕ) (front back : List ℕ) → Placed bytes at → drop at bytes ≡ front ++ back → length front % 4 ≡ 0
    → Placed bytes (at + length front)
placed_on bytes at front back placed parts fours =
    let here = placed.whole in
    let inside = placed.inside in
    let left : length bytes - at ≡ length front + length back = sym (length-drop at bytes) ∙ ap length parts ∙ length-append front back in
    let now : length (drop at bytes) ≡ length bytes - at = length-drop at bytes in
    let then : length (drop (at + length front) bytes) ≡ length bytes - (at + length front) = length-drop (at + length front) bytes in
    record { inside = omega arith; whole = omega arith }

pub ends_there : (bytes : List ℕ) (at : ℕ) → Placed bytes at → drop at bytes ≡ [] → at ≡ length bytes
ends_there bytes at placed none =
    let inside = placed.inside in
    let left : length bytes - at ≡ 0 = sym (length-drop at bytes) ∙ ap length none in
    omega arith

pub goes_on : (bytes : List ℕ) (at byte : ℕ) (rest : List ℕ) → drop at bytes ≡ byte ∷ rest → at ≡ length bytes → ⊥
goes_on bytes at byte rest parts is =
    let left : length bytes - at ≡ length (byte ∷ rest) = sym (length-drop at bytes) ∙ ap length parts in
    omega arith

-- where a want may be met
abbrev pub Ready : List ℕ → Want → Type 0
Ready bytes (some_byte most) = Unit {0}
Ready bytes (within most) = Unit {0}
Ready bytes fourfold = Unit {0}
Ready bytes (slash at) = Placed bytes at
Ready bytes (pattern at) = Placed bytes at
Ready bytes (lawful at text end) = Placed bytes end × (at + length text ≤ length bytes)
Ready bytes (comma at) = Placed bytes at
Ready bytes (tag_text at) = Placed bytes at
Ready bytes (brackets_balance place tags at) = (list_any is_unknown tags ≡ false) × Placed bytes at × (place + length tags ≤ at)
Ready bytes (arguments tags at) = (list_any is_unknown tags ≡ false) × Placed bytes at
Ready bytes done = Unit {0}

-- the fault that is read from a want on
abbrev pub fault_at : List ℕ → Want → Option Fault
fault_at bytes (some_byte most) = result_err (limited_read most bytes)
fault_at bytes (within most) = result_err (within_read most bytes)
fault_at bytes fourfold = result_err (fourfold_read bytes)
fault_at bytes (slash at) = result_err (message_read bytes at)
fault_at bytes (pattern at) = result_err (and_then (string_read bytes at) (λ string. lawful_read bytes at string.0 string.1))
fault_at bytes (lawful at text end) = result_err (lawful_read bytes at text end)
fault_at bytes (comma at) = result_err (comma_read bytes [] at)
fault_at bytes (tag_text at) = result_err (tagged_read bytes [] at)
fault_at bytes (brackets_balance place tags at) = result_err (and_then (brackets_read 0 place tags place) (λ _. arguments_read bytes tags at))
fault_at bytes (arguments tags at) = result_err (arguments_read bytes tags at)
fault_at bytes done = None

err_kept : {X Y : Type 0} (r : Result X Fault) (value : X → Y) → result_err (and_then r (λ x. Ok (value x))) ≡ result_err r
err_kept (Ok x) value = refl
err_kept (Err f) value = refl

pub message_slash : (bytes : List ℕ) (at : ℕ) → begins 47 (drop at bytes) ≡ true
    → message_read bytes at ≡ and_then (string_read bytes at) (λ string. lawful_read bytes at string.0 string.1)
unfolding message_read
message_slash bytes at is = cond-true _ _ _ is

pub message_other : (bytes : List ℕ) (at : ℕ) → begins 47 (drop at bytes) ≡ false → message_read bytes at ≡ Err (start at)
unfolding message_read
message_other bytes at is = cond-false _ _ _ is

begins_other : (byte : ℕ) (bytes : List ℕ) (at : ℕ) → NamesOtherByte byte bytes at → begins byte (drop at bytes) ≡ false
begins_other byte bytes at names = ap (begins byte) names.parts ∙ ne_eqb names.byte byte names.other

pub comma_ends : (bytes text : List ℕ) (at : ℕ) → at ≡ length bytes → comma_read bytes text at ≡ Ok (record { pattern = text; tags = None; place = at })
comma_ends bytes text at is = cond-true _ _ _ (eq-eqb at (length bytes) is)

pub comma_goes_on : (bytes text : List ℕ) (at : ℕ) (rest : List ℕ) → drop at bytes ≡ 44 ∷ rest → comma_read bytes text at ≡ tagged_read bytes text at
comma_goes_on bytes text at rest parts =
    cond-false _ _ _ (ne_eqb at (length bytes) (goes_on bytes at 44 rest parts)) ∙ cond-true _ _ _ (ap (begins 44) parts)

comma_other : (bytes text : List ℕ) (at : ℕ) → NamesOtherByte 44 bytes at → comma_read bytes text at ≡ Err (no_tags at)
comma_other bytes text at names =
    cond-false _ _ _ (ne_eqb at (length bytes) (goes_on bytes at names.byte names.rest names.parts)) ∙ cond-false _ _ _ (begins_other 44 bytes at names)

-- what follows the tag string that is read
abbrev parts_with : List ℕ → List ℕ × ℕ → Parts
parts_with text read = record { pattern = text; tags = Some (drop 1 read.0); place = read.1 }

abbrev tagged_from : List ℕ → List ℕ → ℕ → Result (List ℕ × ℕ) Fault → Result Parts Fault
tagged_from bytes text at r = and_then r (λ read. and_then (tags_read bytes (at + 1) (drop 1 read.0) read.1) (λ _. Ok (parts_with text read)))

-- the fault of what follows the pattern doesn't lie in the pattern
tagged_same : (bytes a b : List ℕ) (at : ℕ) → result_err (tagged_read bytes a at) ≡ result_err (tagged_read bytes b at)
tagged_same bytes a b at = go (string_read bytes at) where
  go : (r : Result (List ℕ × ℕ) Fault) → result_err (tagged_from bytes a at r) ≡ result_err (tagged_from bytes b at r)
  go (Err f) = refl
  go (Ok read) =
      err_kept (tags_read bytes (at + 1) (drop 1 read.0) read.1) (λ _. parts_with a read)
      ∙ sym (err_kept (tags_read bytes (at + 1) (drop 1 read.0) read.1) (λ _. parts_with b read))

comma_same : (bytes a b : List ℕ) (at : ℕ) → result_err (comma_read bytes a at) ≡ result_err (comma_read bytes b at)
comma_same bytes a b at = go (at == length bytes) (begins 44 (drop at bytes)) where
  go : (x y : Bool)
      → result_err (cond x (Ok (record { pattern = a; tags = None; place = at })) (cond y (tagged_read bytes a at) (Err (no_tags at))))
      ≡ result_err (cond x (Ok (record { pattern = b; tags = None; place = at })) (cond y (tagged_read bytes b at) (Err (no_tags at))))
  go true y = refl
  go false false = refl
  go false true = tagged_same bytes a b at

-- a tag string that stands
pub tagged_again : (bytes text : List ℕ) (at : ℕ) (tags : List ℕ) → StartsWithString bytes at (44 ∷ tags)
    → tagged_read bytes text at ≡ and_then (tags_read bytes (at + 1) tags (at + length (tag_string tags)))
    (λ _. Ok (record { pattern = text; tags = Some tags; place = at + length (tag_string tags) }))
tagged_again bytes text at tags stands =
    ap (tagged_from bytes text at) (string_again bytes at (44 ∷ tags) stands)

pub arguments_step : (bytes : List ℕ) (tag : ℕ) (tags : List ℕ) (at next : ℕ) (argument : Argument) → argument_read tag bytes at ≡ Ok (argument, next)
    → arguments_read bytes (tag ∷ tags) at ≡ arguments_read bytes tags next
arguments_step bytes tag tags at next argument is =
    ap (λ r. and_then (and_then r (λ x. arguments_end tags bytes x.1)) (λ end. cond (end == length bytes) (Ok tt) (Err (left_over end)))) is

arguments_stop : (bytes : List ℕ) (tag : ℕ) (tags : List ℕ) (at : ℕ) (fault : Fault) → argument_read tag bytes at ≡ Err fault
    → arguments_read bytes (tag ∷ tags) at ≡ Err fault
arguments_stop bytes tag tags at fault is =
    ap (λ r. and_then (and_then r (λ x. arguments_end tags bytes x.1)) (λ end. cond (end == length bytes) (Ok tt) (Err (left_over end)))) is

argument_stands : (bytes : List ℕ) (tag at : ℕ) (argument : Argument) → tag_of argument ≡ tag → StartsWithArgument bytes at argument
    → argument_read tag bytes at ≡ Ok (argument, at + length (atom_of argument))
argument_stands bytes tag at argument tagged stands = ap (λ (t : ℕ). argument_read t bytes at) (sym tagged) ∙ argument_again bytes at argument stands

after_tags_same : (bytes : List ℕ) (place : ℕ) (tags : List ℕ) (at : ℕ) → result_err (tags_read bytes place tags at) ≡ fault_at bytes (after_tags place tags at)
after_tags_same bytes place tags at = elim (cases_Bool (list_any is_unknown tags)) [
  | inl is ↦ ap result_err (cond-true _ _ _ is) ∙ sym (ap (fault_at bytes) (cond-true (list_any is_unknown tags) done (brackets_balance place tags at) is))
  | inr isnt ↦ ap result_err (cond-false _ _ _ isnt)
      ∙ sym (ap (fault_at bytes) (cond-false (list_any is_unknown tags) done (brackets_balance place tags at) isnt))
]

-- a want that stands gives the fault of the next
pub leads_same : (bytes : List ℕ) (want next : Want) → Ready bytes want → Leads bytes want next → fault_at bytes want ≡ fault_at bytes next
leads_same bytes (some_byte most) next ready leads =
    let some = leads.0 in
    ap result_err (cond-false _ _ _ (ne_eqb (length bytes) 0 (λ e. omega arith))) ∙ sym (ap (fault_at bytes) leads.1)
leads_same bytes (within most) next ready leads = ap result_err (cond-true _ _ _ (le-leb (length bytes) most leads.0)) ∙ sym (ap (fault_at bytes) leads.1)
leads_same bytes fourfold next ready leads = ap result_err (cond-true _ _ _ (eq-eqb (length bytes % 4) 0 leads.0)) ∙ sym (ap (fault_at bytes) leads.1)
leads_same bytes (slash at) next ready leads = ap result_err (message_slash bytes at (ap (begins 47) leads.1)) ∙ sym (ap (fault_at bytes) leads.2)
leads_same bytes (pattern at) next ready leads =
    ap (λ r. result_err (and_then r (λ string. lawful_read bytes at string.0 string.1))) (string_again bytes at leads.0 leads.1)
    ∙ sym (ap (fault_at bytes) leads.2)
leads_same bytes (lawful at text end) next ready leads =
    ap (λ (o : Option PatternFault). result_err (unless_fault at o (comma_read bytes text end))) (IsPattern-read text leads.0) ∙ comma_same bytes text [] end
    ∙ sym (ap (fault_at bytes) leads.1)
leads_same bytes (comma at) next ready (inl leads) =
    ap result_err (comma_ends bytes [] at (ends_there bytes at ready leads.0)) ∙ sym (ap (fault_at bytes) leads.1)
leads_same bytes (comma at) next ready (inr leads) = ap result_err (comma_goes_on bytes [] at leads.0 leads.1) ∙ sym (ap (fault_at bytes) leads.2)
leads_same bytes (tag_text at) next ready leads =
    let tags = leads.0 in
    ap result_err (tagged_again bytes [] at tags leads.1)
    ∙ err_kept (tags_read bytes (at + 1) tags (at + length (tag_string tags))) (λ _. parts_with [] (44 ∷ tags, at + length (tag_string tags)))
    ∙ after_tags_same bytes (at + 1) tags (at + length (tag_string tags))
    ∙ sym (ap (fault_at bytes) leads.2)
leads_same bytes (brackets_balance place tags at) next ready leads =
    ap (λ r. result_err (and_then r (λ _. arguments_read bytes tags at))) (balance_again place tags leads.0) ∙ sym (ap (fault_at bytes) leads.1)
leads_same bytes (arguments [] at) next ready leads =
    ap result_err (cond-true _ _ _ (eq-eqb at (length bytes) (ends_there bytes at ready.1 leads.0))) ∙ sym (ap (fault_at bytes) leads.1)
leads_same bytes (arguments (tag ∷ tags) at) next ready leads =
    ap result_err (arguments_step bytes tag tags at (at + length (atom_of leads.0)) leads.0 (argument_stands bytes tag at leads.0 leads.1 leads.2))
    ∙ sym (ap (fault_at bytes) leads.3)
leads_same bytes done next ready leads = absurd leads

-- a want that is named gives its fault
pub names_told : (bytes : List ℕ) (want : Want) (fault : Fault) → Ready bytes want → Names bytes want fault → fault_at bytes want ≡ Some fault
names_told bytes (some_byte most) fault ready names =
    ap result_err (cond-true _ _ _ (eq-eqb (length bytes) 0 (ap length names.0))) ∙ ap (λ (f : Fault). Some f) (sym names.1)
names_told bytes (within most) fault ready names =
    ap result_err (cond-false _ _ _ (lt-leb (length bytes) most names.0)) ∙ ap (λ (f : Fault). Some f) (sym names.1)
names_told bytes fourfold fault ready names = ap result_err (cond-false _ _ _ (ne_eqb (length bytes % 4) 0 names.0)) ∙ ap (λ (f : Fault). Some f) (sym names.1)
names_told bytes (slash at) fault ready names = ap result_err (message_other bytes at (other names.0)) ∙ ap (λ (f : Fault). Some f) (sym names.1) where
  other : (drop at bytes ≡ []) ⊎ NamesOtherByte 47 bytes at → begins 47 (drop at bytes) ≡ false
  other (inl none) = ap (begins 47) none
  other (inr byte) = begins_other 47 bytes at byte
names_told bytes (pattern at) fault ready names =
    ap (λ r. result_err (and_then r (λ string. lawful_read bytes at string.0 string.1))) (string_fault_again bytes at fault names)
names_told bytes (lawful at text end) fault ready names =
    ap (λ (o : Option PatternFault). result_err (unless_fault at o (comma_read bytes text end))) (IsFault-read text names.kind names.place names.first)
    ∙ ap (λ (f : Fault). Some f) (sym names.named)
names_told bytes (comma at) fault ready names = ap result_err (comma_other bytes [] at names.0) ∙ ap (λ (f : Fault). Some f) (sym names.1)
names_told bytes (tag_text at) fault ready names =
    ap (λ r. result_err (tagged_from bytes [] at r)) (string_fault_again bytes at fault names)
names_told bytes (brackets_balance place tags at) fault ready names =
    ap (λ r. result_err (and_then r (λ _. arguments_read bytes tags at))) (bracket_fault_again place tags fault names)
names_told bytes (arguments [] at) fault ready names =
    let some = names.0 in
    ap result_err (cond-false _ _ _ (ne_eqb at (length bytes) (λ e. omega (arith, length-drop at bytes)))) ∙ ap (λ (f : Fault). Some f) (sym names.1)
names_told bytes (arguments (tag ∷ tags) at) fault ready names =
    ap result_err (arguments_stop bytes tag tags at fault (argument_fault_again tag bytes at fault ready.1.whole names))
names_told bytes done fault ready names = absurd names

clash : {X : Type 0} (r : Result X Fault) (x : X) (f : Fault) → r ≡ Ok x → r ≡ Err f → ⊥
clash r x f a b = cc

heads : (x y : ℕ) (xs ys zs : List ℕ) → zs ≡ x ∷ xs → zs ≡ y ∷ ys → x ≡ y
heads x y xs ys zs a b = cc

one_fault : (f : PatternFault) (o : Option PatternFault) → o ≡ None → o ≡ Some f → ⊥
one_fault f o a b = cc

pub empty_not : (x : ℕ) (xs zs : List ℕ) → zs ≡ [] → zs ≡ x ∷ xs → ⊥
empty_not x xs zs a b = cc

-- a want that is named doesn't stand
pub named_fails : (bytes : List ℕ) (want next : Want) (fault : Fault) → Ready bytes want → Names bytes want fault → Leads bytes want next → ⊥
named_fails bytes (some_byte most) next fault ready names leads = let some = leads.0 in omega (arith, ap length names.0)
named_fails bytes (within most) next fault ready names leads = let short = leads.0 in let long = names.0 in omega arith
named_fails bytes fourfold next fault ready names leads = names.0 leads.0
named_fails bytes (slash at) next fault ready names leads = other names.0 where
  other : (drop at bytes ≡ []) ⊎ NamesOtherByte 47 bytes at → ⊥
  other (inl none) = empty_not 47 leads.0 (drop at bytes) none leads.1
  other (inr byte) = byte.other (heads byte.byte 47 byte.rest leads.0 (drop at bytes) byte.parts leads.1)
named_fails bytes (pattern at) next fault ready names leads =
    clash (string_read bytes at) _ fault (string_again bytes at leads.0 leads.1) (string_fault_again bytes at fault names)
named_fails bytes (lawful at text end) next fault ready names leads =
    one_fault _ (pattern_fault text) (IsPattern-read text leads.0) (IsFault-read text names.kind names.place names.first)
named_fails bytes (comma at) next fault ready names (inl leads) = empty_not names.0.byte names.0.rest (drop at bytes) leads.0 names.0.parts
named_fails bytes (comma at) next fault ready names (inr leads) =
    names.0.other (heads names.0.byte 44 names.0.rest leads.0 (drop at bytes) names.0.parts leads.1)
named_fails bytes (tag_text at) next fault ready names leads =
    clash (string_read bytes at) _ fault (string_again bytes at (44 ∷ leads.0) leads.1) (string_fault_again bytes at fault names)
named_fails bytes (brackets_balance place tags at) next fault ready names leads =
    clash (brackets_read 0 place tags place) _ fault (balance_again place tags leads.0) (bracket_fault_again place tags fault names)
named_fails bytes (arguments [] at) next fault ready names leads = let some = names.0 in omega (arith, ap length leads.0)
named_fails bytes (arguments (tag ∷ tags) at) next fault ready names leads =
    clash (argument_read tag bytes at) _ fault (argument_stands bytes tag at leads.0 leads.1 leads.2)
    (argument_fault_again tag bytes at fault ready.1.whole names)
named_fails bytes done next fault ready names leads = leads

pub known_head : (tag : ℕ) (tags : List ℕ) → list_any is_unknown (tag ∷ tags) ≡ false → (is_unknown tag ≡ false) × (list_any is_unknown tags ≡ false)
known_head tag tags known = go (is_unknown tag) refl (list_any is_unknown tags) refl where
  go : (a : Bool) → is_unknown tag ≡ a → (b : Bool) → list_any is_unknown tags ≡ b → (is_unknown tag ≡ false) × (list_any is_unknown tags ≡ false)
  go false p false q = (p, q)
  go true p b q = absurd (cc (ap (λ (x : Bool). x) known, p))
  go false p true q = absurd (cc (known, p, q))

-- the tags stand before the end of their string
pub tags_before : (at : ℕ) (tags : List ℕ) → at + 1 + length tags ≤ at + length (tag_string tags)
tags_before at tags = omega (arith, length-string (44 ∷ tags))

-- a text stands before the end of its string
pub text_before : (bytes : List ℕ) (at : ℕ) (text : List ℕ) → Placed bytes (at + length (string text)) → at + length text ≤ length bytes
text_before bytes at text after = let inside = after.inside in omega (arith, length-string text)

-- the next want may be met too
pub ready_next : (bytes : List ℕ) (want next : Want) → Ready bytes want → Leads bytes want next → Ready bytes next
ready_next bytes (some_byte most) next ready leads = subst (Ready bytes) (sym leads.1) tt
ready_next bytes (within most) next ready leads = subst (Ready bytes) (sym leads.1) tt
ready_next bytes fourfold next ready leads = let start : Placed bytes 0 = record { inside = omega arith; whole = leads.0 } in
    subst (Ready bytes) (sym leads.1) start
ready_next bytes (slash at) next ready leads = subst (Ready bytes) (sym leads.2) ready
ready_next bytes (pattern at) next ready leads =
    let after = placed_on bytes at (string leads.0) leads.1.written.rest ready leads.1.written.parts (string_fours leads.0) in
    subst (Ready bytes) (sym leads.2) (after, text_before bytes at leads.0 after)
ready_next bytes (lawful at text end) next ready leads = subst (Ready bytes) (sym leads.1) ready.0
ready_next bytes (comma at) next ready (inl leads) = subst (Ready bytes) (sym leads.1) tt
ready_next bytes (comma at) next ready (inr leads) = subst (Ready bytes) (sym leads.2) ready
ready_next bytes (tag_text at) next ready leads = subst (Ready bytes) (sym leads.2) (after (list_any is_unknown leads.0) refl) where
  after : (b : Bool) → list_any is_unknown leads.0 ≡ b → Ready bytes (after_tags (at + 1) leads.0 (at + length (tag_string leads.0)))
  after true is =
      subst (Ready bytes) (sym (cond-true (list_any is_unknown leads.0) done (brackets_balance (at + 1) leads.0 (at + length (tag_string leads.0))) is)) tt
  after false is =
      let there : Ready bytes (brackets_balance (at + 1) leads.0 (at + length (tag_string leads.0))) =
      (is, placed_on bytes at (tag_string leads.0) leads.1.written.rest ready leads.1.written.parts (string_fours (44 ∷ leads.0)), tags_before at leads.0)
      in
      subst (Ready bytes) (sym (cond-false (list_any is_unknown leads.0) done (brackets_balance (at + 1) leads.0 (at + length (tag_string leads.0))) is)) there
ready_next bytes (brackets_balance place tags at) next ready leads = subst (Ready bytes) (sym leads.1) (ready.0, ready.1)
ready_next bytes (arguments [] at) next ready leads = subst (Ready bytes) (sym leads.1) tt
ready_next bytes (arguments (tag ∷ tags) at) next ready leads =
    let there : Ready bytes (arguments tags (at + length (atom_of leads.0))) =
    ((known_head tag tags ready.0).1, placed_on bytes at (atom_of leads.0) leads.2.written.rest ready.1 leads.2.written.parts (atom_fours leads.0)) in
    subst (Ready bytes) (sym leads.3) there
ready_next bytes done next ready leads = absurd leads

-- a fault stands within the bytes
string_within : (bytes : List ℕ) (at : ℕ) (fault : Fault) → at ≤ length bytes → NamesStringFault bytes at fault → fault.at ≤ length bytes
string_within bytes at fault inside (inl names) = subst (λ (f : Fault). f.at ≤ length bytes) (sym names.named) inside
string_within bytes at fault inside (inr names) =
    let tail : List ℕ = replicate names.zeros 0 ++ names.byte ∷ names.rest in
    let long : length bytes - at ≡ length names.text + length tail = sym (length-drop at bytes) ∙ ap length names.parts ∙ length-append names.text tail in
    let zeros : length tail ≡ names.zeros + suc (length names.rest) =
    length-append (replicate names.zeros 0) (names.byte ∷ names.rest)
    ∙ ap (λ (n : ℕ). n + suc (length names.rest)) (length-replicate {A = ℕ} names.zeros 0) in
    let within_them : at + length names.text + names.zeros ≤ length bytes = omega arith in
    subst (λ (f : Fault). f.at ≤ length bytes) (sym names.named) within_them

blob_within : (bytes : List ℕ) (at : ℕ) (fault : Fault) → at ≤ length bytes → NamesBlobFault bytes at fault → fault.at ≤ length bytes
blob_within bytes at fault inside (inl names) = subst (λ (f : Fault). f.at ≤ length bytes) (sym names.named) inside
blob_within bytes at fault inside (inr (inl names)) = subst (λ (f : Fault). f.at ≤ length bytes) (sym names.named) inside
blob_within bytes at fault inside (inr (inr names)) =
    let tail : List ℕ = replicate names.zeros 0 ++ names.byte ∷ names.rest in
    let zeros : length tail ≡ names.zeros + suc (length names.rest) =
    length-append (replicate names.zeros 0) (names.byte ∷ names.rest)
    ∙ ap (λ (n : ℕ). n + suc (length names.rest)) (length-replicate {A = ℕ} names.zeros 0) in
    let content : length (names.content ++ tail) ≡ length names.content + length tail = length-append names.content tail in
    let long : length bytes - at ≡ 4 + length (names.content ++ tail) = sym (length-drop at bytes) ∙ ap length names.parts ∙ omega arith in
    let within_them : at + 4 + length names.content + names.zeros ≤ length bytes = omega arith in
    subst (λ (f : Fault). f.at ≤ length bytes) (sym names.named) within_them

bracket_within : (bytes : List ℕ) (place : ℕ) (tags before after : List ℕ) (byte : ℕ) (fault : Fault) → place + length tags ≤ length bytes
    → tags ≡ before ++ byte ∷ after → fault ≡ brackets (place + length before) → fault.at ≤ length bytes
bracket_within bytes place tags before after byte fault inside parts named =
    let long : length tags ≡ length before + suc (length after) = ap length parts ∙ length-append before (byte ∷ after) in
    let within_them : place + length before ≤ length bytes = omega arith in
    subst (λ (f : Fault). f.at ≤ length bytes) (sym named) within_them

argument_within : (tag : ℕ) (bytes : List ℕ) (at : ℕ) (fault : Fault) → at ≤ length bytes → NamesArgumentFault tag bytes at fault → fault.at ≤ length bytes
argument_within tag bytes at fault inside (of_word is names) = subst (λ (f : Fault). f.at ≤ length bytes) (sym names.named) inside
argument_within tag bytes at fault inside (of_long is names) = subst (λ (f : Fault). f.at ≤ length bytes) (sym names.named) inside
argument_within tag bytes at fault inside (of_text is names) = string_within bytes at fault inside names
argument_within tag bytes at fault inside (of_blob is names) = blob_within bytes at fault inside names

pub names_within : (bytes : List ℕ) (want : Want) (fault : Fault) → Ready bytes want → Names bytes want fault → fault.at ≤ length bytes
names_within bytes (some_byte most) fault ready names = subst (λ (f : Fault). f.at ≤ length bytes) (sym names.1) (omega arith)
names_within bytes (within most) fault ready names = let long : most ≤ length bytes = let l = names.0 in omega arith in
    subst (λ (f : Fault). f.at ≤ length bytes) (sym names.1) long
names_within bytes fourfold fault ready names = subst (λ (f : Fault). f.at ≤ length bytes) (sym names.1) (omega arith)
names_within bytes (slash at) fault ready names = subst (λ (f : Fault). f.at ≤ length bytes) (sym names.1) ready.inside
names_within bytes (pattern at) fault ready names = string_within bytes at fault ready.inside names
names_within bytes (lawful at text end) fault ready names =
    let inside = ready.1 in
    let within_text = pattern_fault_within text names.kind names.place names.first in
    let within_them : at + names.place ≤ length bytes = omega arith in
    subst (λ (f : Fault). f.at ≤ length bytes) (sym names.named) within_them
names_within bytes (comma at) fault ready names = subst (λ (f : Fault). f.at ≤ length bytes) (sym names.1) ready.inside
names_within bytes (tag_text at) fault ready names = string_within bytes at fault ready.inside names
names_within bytes (brackets_balance place tags at) fault ready names = go names where
  inside : place + length tags ≤ length bytes
  inside = let a = ready.2 in let b = ready.1.inside in omega arith

  go : ClosesNothing place tags fault ⊎ NeverCloses place tags fault → fault.at ≤ length bytes
  go (inl n) = bracket_within bytes place tags n.before n.after 93 fault inside n.parts n.named
  go (inr n) = bracket_within bytes place tags n.before n.after 91 fault inside n.parts n.named
names_within bytes (arguments [] at) fault ready names = subst (λ (f : Fault). f.at ≤ length bytes) (sym names.1) ready.1.inside
names_within bytes (arguments (tag ∷ tags) at) fault ready names = argument_within tag bytes at fault ready.1.inside names
names_within bytes done fault ready names = absurd names
