-- What is read as an entry was written as one.
use Rattle.std.proofs.Common.{◌≡◌, ℕ, ◌%◌, ◌&&◌, ◌<◌, ◌^◌, zero, suc, Bool, true, false, cond, ◌==◌, ℤ, pos, negsuc, List, [], ◌∷◌, ◌++◌, length, Option, Some}
use Rattle.std.proofs.Common.{None, refl, sym, ap, ◌∙◌, subst, arith, codes, eqb-true, ltb-true, leb-true, lit<}
use Rattle.std.specs.Prelude.{option_map, nat_lt, nat_le}
use Rattle.std.specs.Int.{w32, to_be_bytes, from_be_bytes}
use Rattle.std.specs.List.{flat_map, AllByRecursion}
use Rattle.std.proofs.lemmas.Nat.{be_bytes_4}
use Rattle.std.proofs.lemmas.Bool.{and_parts}
use Rattle.std.proofs.lemmas.Option.{same_Some, none-some}
use Rattle.osc_atoms.specs.Atoms.{AreBytes, blob}
use Rattle.osc_atoms.proofs.AllBytes.{front_bytes, rest_bytes}
use Rattle.osc_message.specs.Messages.{Argument, integer, text, content, long, time, atom_of}
use Rattle.osc_model.specs.Events.{enrol, add, remove, tick, release, Answer, number, callers_full, queued, units_full, pool_full, added, refused}
use Rattle.osc_model.specs.Events.{removed, not_there, ticked, clock_back, released}
use Rattle.osc_tree.specs.Adding.{taken, under_method, is_container, methods_full, nodes_full}
use Rattle.osc_model.specs.Events.{Entry as Recorded}
use Rattle.osc_model.specs.Recordings.{int, enrolled, submitted, adding, removing, ticking, hits_text, hits_in, IsHit, IsSound, row_of, enrol_row}
use Rattle.osc_model.specs.Recordings.{add_row, remove_row, tick_row, release_row}
use Rattle.osc_record.specs.Reading.{int_first, signed_first, long_first, time_first, text_first, content_first, answer_if, enrol_answer, submit_answer}
use Rattle.osc_record.specs.Reading.{add_answer, remove_answer, tick_answer, release_answer, enrol_read, add_read, remove_read, tick_read}
use Rattle.osc_record.specs.Reading.{release_read}
use Rattle.osc_record.proofs.Again.{take_front, drop_front}
use Rattle.osc_record.proofs.ArgumentsRead.{int_was, signed_was, long_was, time_was, text_was, content_was, end_was}
use Rattle.osc_record.proofs.Spelled.{read_then, mapped}

-- an answer that is chosen by a test, or else by those after it
chosen : (P : Answer → Type 0) (t : Bool) (a : Answer) (rest : Option Answer) (answer : Answer) → cond t (Some a) rest ≡ Some answer → (t ≡ true → P a)
    → (rest ≡ Some answer → P answer) → P answer
chosen P true a rest answer is here more = subst P (same_Some a answer is) (here refl)
chosen P false a rest answer is here more = more is

-- by a test and a second one
chosen_if : (P : Answer → Type 0) (t u : Bool) (a : Answer) (rest : Option Answer) (answer : Answer) → cond t (answer_if u a) rest ≡ Some answer
    → (t ≡ true → u ≡ true → P a) → (rest ≡ Some answer → P answer) → P answer
chosen_if P true true a rest answer is here more = subst P (same_Some a answer is) (here refl refl)
chosen_if P true false a rest answer is here more = absurd (cc)
chosen_if P false u a rest answer is here more = more is

none_left : (P : Answer → Type 0) (answer : Answer) → ◌≡◌ {A = Option Answer} None (Some answer) → P answer
none_left P answer is = absurd (none-some answer is)

abbrev pub EnrolTold : ℤ → Answer → Type 0
EnrolTold z answer = (enrolled answer ≡ Some z) × IsSound answer

enrol_told : (z : ℤ) (answer : Answer) → enrol_answer z ≡ Some answer → EnrolTold z answer
enrol_told (pos n) answer is = subst (EnrolTold (pos n)) (same_Some (number n) answer is) (refl, tt)
enrol_told (negsuc zero) answer is = subst (EnrolTold (negsuc 0)) (same_Some callers_full answer is) (refl, tt)
enrol_told (negsuc (suc k)) answer is = absurd (none-some answer is)

abbrev pub SubmitTold : ℕ → ℕ → ℕ → ℕ → Answer → Type 0
SubmitTold code first second third answer = (submitted answer ≡ Some (code, first, second, third)) × IsSound answer

pub submit_told : (code first second third : ℕ) (answer : Answer) → submit_answer code first second third ≡ Some answer
    → SubmitTold code first second third answer
submit_told code first second third answer is =
    chosen_if told (code == 0) (nat_le third second) (queued first second third)
    (cond (code == 1) (answer_if (nat_lt second first && third == 0) units) (cond (code == 2) (answer_if (nat_lt second first && third == 0) pool) None))
    answer is
    (λ c u. ((λ i. Some (sym (eqb-true code 0 c) i, first, second, third)), leb-true third second u)) (λ is1.
    chosen_if told (code == 1) (nat_lt second first && third == 0) units (cond (code == 2) (answer_if (nat_lt second first && third == 0) pool) None) answer is1
    (λ c u. full 1 c (and_parts (nat_lt second first) (third == 0) u)) (λ is2.
    chosen_if told (code == 2) (nat_lt second first && third == 0) pool None answer is2
    (λ c u. full 2 c (and_parts (nat_lt second first) (third == 0) u)) (λ is3.
    none_left told answer is3)))
  where
    told : Answer → Type 0
    told = SubmitTold code first second third

    units : Answer
    units = units_full (record { need = first; free = second })

    pool : Answer
    pool = pool_full (record { need = first; free = second })

    full : (k : ℕ) → (code == k) ≡ true → (nat_lt second first ≡ true) × ((third == 0) ≡ true)
        → (◌≡◌ {A = Option (ℕ × ℕ × ℕ × ℕ)} (Some (k, first, second, 0)) (Some (code, first, second, third))) × (second < first)
    full k c both = ((λ i. Some (sym (eqb-true code k c) i, first, second, sym (eqb-true third 0 both.1) i)), ltb-true second first both.0)

abbrev pub AddTold : ℕ → ℕ → ℕ → Answer → Type 0
AddTold code first second answer = (adding answer ≡ Some (code, first, second)) × IsSound answer

add_told : (code first second : ℕ) (answer : Answer) → add_answer code first second ≡ Some answer → AddTold code first second answer
add_told code first second answer is =
    chosen_if (AddTold code first second) (code == 0) (second == 0) (added first)
    (cond (code == 1) (answer_if (second == 0) (refused (taken first)))
    (cond (code == 2) (answer_if (second == 0) (refused (under_method first)))
    (cond (code == 3) (answer_if (first == 0 && second == 0) (refused is_container))
    (cond (code == 4) (answer_if (second == 0) (refused (methods_full first)))
    (cond (code == 5) (answer_if (nat_lt second first) (refused (nodes_full first second))) None))))) answer is
    (λ c u. ((λ i. Some (sym (eqb-true code 0 c) i, first, sym (eqb-true second 0 u) i)), tt)) (λ is1.
    chosen_if (AddTold code first second) (code == 1) (second == 0) (refused (taken first))
    (cond (code == 2) (answer_if (second == 0) (refused (under_method first)))
    (cond (code == 3) (answer_if (first == 0 && second == 0) (refused is_container))
    (cond (code == 4) (answer_if (second == 0) (refused (methods_full first)))
    (cond (code == 5) (answer_if (nat_lt second first) (refused (nodes_full first second))) None)))) answer is1
    (λ c u. ((λ i. Some (sym (eqb-true code 1 c) i, first, sym (eqb-true second 0 u) i)), tt)) (λ is2.
    chosen_if (AddTold code first second) (code == 2) (second == 0) (refused (under_method first))
    (cond (code == 3) (answer_if (first == 0 && second == 0) (refused is_container))
    (cond (code == 4) (answer_if (second == 0) (refused (methods_full first)))
    (cond (code == 5) (answer_if (nat_lt second first) (refused (nodes_full first second))) None))) answer is2
    (λ c u. ((λ i. Some (sym (eqb-true code 2 c) i, first, sym (eqb-true second 0 u) i)), tt)) (λ is3.
    chosen_if (AddTold code first second) (code == 3) (first == 0 && second == 0) (refused is_container)
    (cond (code == 4) (answer_if (second == 0) (refused (methods_full first)))
    (cond (code == 5) (answer_if (nat_lt second first) (refused (nodes_full first second))) None)) answer is3
    (λ c u. (
      (λ i.
          Some (
            sym (eqb-true code 3 c) i,
            sym (eqb-true first 0 (and_parts (first == 0) (second == 0) u).0) i,
            sym
                (eqb-true second 0 (and_parts (first == 0) (second == 0) u).1) i,
          )),
      tt,
    )) (λ is4.
    chosen_if (AddTold code first second) (code == 4) (second == 0) (refused (methods_full first))
    (cond (code == 5) (answer_if (nat_lt second first) (refused (nodes_full first second))) None) answer is4
    (λ c u. ((λ i. Some (sym (eqb-true code 4 c) i, first, sym (eqb-true second 0 u) i)), tt)) (λ is5.
    chosen_if (AddTold code first second) (code == 5) (nat_lt second first) (refused (nodes_full first second)) None answer is5
    (λ c u. ((λ i. Some (sym (eqb-true code 5 c) i, first, second)), ltb-true second first u)) (λ is6.
    none_left (AddTold code first second) answer is6))))))

abbrev pub RemoveTold : ℕ → ℕ → Answer → Type 0
RemoveTold code id answer = (removing answer ≡ Some (code, id)) × IsSound answer

remove_told : (code id : ℕ) (answer : Answer) → remove_answer code id ≡ Some answer → RemoveTold code id answer
remove_told code id answer is =
    chosen (RemoveTold code id) (code == 0) (removed id) (cond (code == 1) (answer_if (id == 0) not_there) None) answer is
    (λ c. ((λ i. Some (sym (eqb-true code 0 c) i, id)), tt)) (λ is1.
    chosen_if (RemoveTold code id) (code == 1) (id == 0) not_there None answer is1
    (λ c u. ((λ i. Some (sym (eqb-true code 1 c) i, sym (eqb-true id 0 u) i)), tt)) (λ is2.
    none_left (RemoveTold code id) answer is2))

abbrev pub TickTold : ℕ → ℕ → ℕ → Answer → Type 0
TickTold moment code clock answer = (ticking moment answer ≡ Some (code, clock)) × IsSound answer

tick_told : (moment code clock : ℕ) (answer : Answer) → tick_answer moment code clock ≡ Some answer → TickTold moment code clock answer
tick_told moment code clock answer is =
    chosen_if (TickTold moment code clock) (code == 0) (clock == moment) ticked (cond (code == 1) (Some (clock_back clock)) None) answer is
    (λ c u. ((λ i. Some (sym (eqb-true code 0 c) i, sym (eqb-true clock moment u) i)), tt)) (λ is1.
    chosen (TickTold moment code clock) (code == 1) (clock_back clock) None answer is1 (λ c. ((λ i. Some (sym (eqb-true code 1 c) i, clock)), tt)) (λ is2.
    none_left (TickTold moment code clock) answer is2))

pub back_bytes : (front back : List ℕ) → AreBytes (front ++ back) → AreBytes back
back_bytes front back all = subst AreBytes (drop_front front back) (rest_bytes (length front) (front ++ back) all)

fore_bytes : (front back : List ℕ) → AreBytes (front ++ back) → AreBytes front
fore_bytes front back all = subst AreBytes (take_front front back) (front_bytes (length front) (front ++ back) all)

four_bytes : (a b c d : ℕ) → a < 256 → b < 256 → c < 256 → d < 256 → AreBytes (a ∷ b ∷ c ∷ d ∷ [])
four_bytes a b c d p q r s zero = p
four_bytes a b c d p q r s (suc zero) = q
four_bytes a b c d p q r s (suc (suc zero)) = r
four_bytes a b c d p q r s (suc (suc (suc zero))) = s
four_bytes a b c d p q r s (suc (suc (suc (suc i)))) = lit< tt

small_word : (a b c d : ℕ) → a < 256 → b < 256 → c < 256 → d < 256 → from_be_bytes w32 (a ∷ b ∷ c ∷ d ∷ []) < 2 ^ 32
small_word a b c d p q r s = omega arith

-- bytes in eights are the hits that they are read as
abbrev pub HitsBack : List ℕ → Type 0
HitsBack bytes = (hits_text (hits_in bytes) ≡ bytes) × AllByRecursion IsHit (hits_in bytes)

pub hits_back : (bytes : List ℕ) → AreBytes bytes → length bytes % 8 ≡ 0 → HitsBack bytes
hits_back [] all whole = (refl, tt)
hits_back (a ∷ []) all whole = absurd (omega arith)
hits_back (a ∷ b ∷ []) all whole = absurd (omega arith)
hits_back (a ∷ b ∷ c ∷ []) all whole = absurd (omega arith)
hits_back (a ∷ b ∷ c ∷ d ∷ []) all whole = absurd (omega arith)
hits_back (a ∷ b ∷ c ∷ d ∷ e ∷ []) all whole = absurd (omega arith)
hits_back (a ∷ b ∷ c ∷ d ∷ e ∷ f ∷ []) all whole = absurd (omega arith)
hits_back (a ∷ b ∷ c ∷ d ∷ e ∷ f ∷ g ∷ []) all whole = absurd (omega arith)
hits_back (a ∷ b ∷ c ∷ d ∷ e ∷ f ∷ g ∷ h ∷ bytes) all whole =
    let more = hits_back bytes (rest_bytes 8 (a ∷ b ∷ c ∷ d ∷ e ∷ f ∷ g ∷ h ∷ bytes) all) (omega arith) in
    let index : to_be_bytes w32 (from_be_bytes w32 (a ∷ b ∷ c ∷ d ∷ [])) ≡ a ∷ b ∷ c ∷ d ∷ [] =
    be_bytes_4 (a ∷ b ∷ c ∷ d ∷ []) (from_be_bytes w32 (a ∷ b ∷ c ∷ d ∷ [])) refl (four_bytes a b c d (all 0) (all 1) (all 2) (all 3)) refl in
    let id : to_be_bytes w32 (from_be_bytes w32 (e ∷ f ∷ g ∷ h ∷ [])) ≡ e ∷ f ∷ g ∷ h ∷ [] =
    be_bytes_4 (e ∷ f ∷ g ∷ h ∷ []) (from_be_bytes w32 (e ∷ f ∷ g ∷ h ∷ [])) refl (four_bytes e f g h (all 4) (all 5) (all 6) (all 7)) refl in (
      (λ i. (index i ++ id i) ++ more.0 i),
      (record { index_fits = small_word a b c d (all 0) (all 1) (all 2) (all 3); id_fits = small_word e f g h (all 4) (all 5) (all 6) (all 7) }, more.1),
    )

-- an entry whose message has this address and these arguments
abbrev pub Was : List ℕ → List Argument → Recorded → Type 0
Was address arguments e = (row_of e.caller e.event e.answer ≡ Some (record { address = address; arguments = arguments })) × IsSound e.answer

pub enrol_was : (arguments : List Argument) (e : Recorded) → enrol_read arguments ≡ Some e → Was (codes "/osc/enrol") arguments e
enrol_was arguments e is =
    let caller = read_then _ (int_first arguments) e is in
    let answer = read_then _ (signed_first caller.0.1) e caller.1.1 in
    let last = end_was answer.0.1 (option_map (λ a. record { caller = caller.0.0; event = enrol; answer = a }) (enrol_answer answer.0.0)) e answer.1.1 in
    let found = mapped (λ a. record { caller = caller.0.0; event = enrol; answer = a }) (enrol_answer answer.0.0) e last.1 in
    let told = enrol_told answer.0.0 found.0 found.1.0 in
    let same = int_was arguments caller.0 caller.1.0
    ∙ ap (λ (l : List Argument). int caller.0.0 ∷ l)
    (signed_was caller.0.1 answer.0 answer.1.0 ∙ ap (λ (l : List Argument). integer answer.0.0 ∷ l) (last.0)) in
    subst (Was (codes "/osc/enrol") arguments) found.1.1 (
      ap (option_map (enrol_row caller.0.0)) told.0
          ∙ ap (λ (l : List Argument). Some (record { address = codes "/osc/enrol"; arguments = l })) (sym same),
      told.1,
    )

pub add_was : (arguments : List Argument) (e : Recorded) → add_read arguments ≡ Some e → Was (codes "/osc/add") arguments e
add_was arguments e is =
    let caller = read_then _ (int_first arguments) e is in
    let address = read_then _ (text_first caller.0.1) e caller.1.1 in
    let code = read_then _ (int_first address.0.1) e address.1.1 in
    let first = read_then _ (int_first code.0.1) e code.1.1 in
    let second = read_then _ (int_first first.0.1) e first.1.1 in
    let last = end_was second.0.1
    (option_map (λ a. record { caller = caller.0.0; event = add address.0.0; answer = a }) (add_answer code.0.0 first.0.0 second.0.0)) e second.1.1 in
    let found = mapped (λ a. record { caller = caller.0.0; event = add address.0.0; answer = a }) (add_answer code.0.0 first.0.0 second.0.0) e last.1 in
    let told = add_told code.0.0 first.0.0 second.0.0 found.0 found.1.0 in
    let same = int_was arguments caller.0 caller.1.0
    ∙ ap (λ (l : List Argument). int caller.0.0 ∷ l)
    (text_was caller.0.1 address.0 address.1.0
    ∙ ap (λ (l : List Argument). text address.0.0 ∷ l)
    (int_was address.0.1 code.0 code.1.0 ∙ ap (λ (l : List Argument). int code.0.0 ∷ l)
    (int_was code.0.1 first.0 first.1.0 ∙ ap (λ (l : List Argument). int first.0.0 ∷ l)
    (int_was first.0.1 second.0 second.1.0 ∙ ap (λ (l : List Argument). int second.0.0 ∷ l) (last.0))))) in
    subst (Was (codes "/osc/add") arguments) found.1.1 (
      ap (option_map (add_row caller.0.0 address.0.0)) told.0
          ∙ ap (λ (l : List Argument). Some (record { address = codes "/osc/add"; arguments = l })) (sym same),
      told.1,
    )

pub remove_was : (arguments : List Argument) (e : Recorded) → remove_read arguments ≡ Some e → Was (codes "/osc/remove") arguments e
remove_was arguments e is =
    let caller = read_then _ (int_first arguments) e is in
    let address = read_then _ (text_first caller.0.1) e caller.1.1 in
    let code = read_then _ (int_first address.0.1) e address.1.1 in
    let id = read_then _ (int_first code.0.1) e code.1.1 in
    let last = end_was id.0.1 (option_map (λ a. record { caller = caller.0.0; event = remove address.0.0; answer = a }) (remove_answer code.0.0 id.0.0)) e
    id.1.1 in
    let found = mapped (λ a. record { caller = caller.0.0; event = remove address.0.0; answer = a }) (remove_answer code.0.0 id.0.0) e last.1 in
    let told = remove_told code.0.0 id.0.0 found.0 found.1.0 in
    let same = int_was arguments caller.0 caller.1.0
    ∙ ap (λ (l : List Argument). int caller.0.0 ∷ l)
    (text_was caller.0.1 address.0 address.1.0
    ∙ ap (λ (l : List Argument). text address.0.0 ∷ l)
    (int_was address.0.1 code.0 code.1.0 ∙ ap (λ (l : List Argument). int code.0.0 ∷ l)
    (int_was code.0.1 id.0 id.1.0 ∙ ap (λ (l : List Argument). int id.0.0 ∷ l) (last.0)))) in
    subst (Was (codes "/osc/remove") arguments) found.1.1 (
      ap (option_map (remove_row caller.0.0 address.0.0)) told.0
          ∙ ap (λ (l : List Argument). Some (record { address = codes "/osc/remove"; arguments = l })) (sym same),
      told.1,
    )

pub tick_was : (arguments : List Argument) (e : Recorded) → tick_read arguments ≡ Some e → Was (codes "/osc/tick") arguments e
tick_was arguments e is =
    let caller = read_then _ (int_first arguments) e is in
    let moment = read_then _ (time_first caller.0.1) e caller.1.1 in
    let code = read_then _ (int_first moment.0.1) e moment.1.1 in
    let clock = read_then _ (time_first code.0.1) e code.1.1 in
    let last = end_was clock.0.1
    (option_map (λ a. record { caller = caller.0.0; event = tick moment.0.0; answer = a }) (tick_answer moment.0.0 code.0.0 clock.0.0)) e clock.1.1 in
    let found = mapped (λ a. record { caller = caller.0.0; event = tick moment.0.0; answer = a }) (tick_answer moment.0.0 code.0.0 clock.0.0) e last.1 in
    let told = tick_told moment.0.0 code.0.0 clock.0.0 found.0 found.1.0 in
    let same = int_was arguments caller.0 caller.1.0
    ∙ ap (λ (l : List Argument). int caller.0.0 ∷ l)
    (time_was caller.0.1 moment.0 moment.1.0
    ∙ ap (λ (l : List Argument). time moment.0.0 ∷ l)
    (int_was moment.0.1 code.0 code.1.0 ∙ ap (λ (l : List Argument). int code.0.0 ∷ l)
    (time_was code.0.1 clock.0 clock.1.0 ∙ ap (λ (l : List Argument). time clock.0.0 ∷ l) (last.0)))) in
    subst (Was (codes "/osc/tick") arguments) found.1.1 (
      ap (option_map (tick_row caller.0.0 moment.0.0)) told.0
          ∙ ap (λ (l : List Argument). Some (record { address = codes "/osc/tick"; arguments = l })) (sym same),
      told.1,
    )

release_told : (unit : ℕ) (hits : List ℕ) (answer : Answer) → release_answer unit hits ≡ Some answer
    → (length hits % 8 ≡ 0) × (released unit (hits_in hits) ≡ answer)
release_told unit hits answer is = go (length hits % 8 == 0) refl is where
  go : (t : Bool) → (length hits % 8 == 0) ≡ t → answer_if t (released unit (hits_in hits)) ≡ Some answer
      → (length hits % 8 ≡ 0) × (released unit (hits_in hits) ≡ answer)
  go true e i = (eqb-true (length hits % 8) 0 e, same_Some (released unit (hits_in hits)) answer i)
  go false e i = absurd (none-some answer i)

pub release_was : (arguments : List Argument) (e : Recorded) → AreBytes (flat_map atom_of arguments) → release_read arguments ≡ Some e
    → Was (codes "/osc/release") arguments e
release_was arguments e all is =
    let caller = read_then _ (int_first arguments) e is in
    let unit = read_then _ (long_first caller.0.1) e caller.1.1 in
    let hits = read_then _ (content_first unit.0.1) e unit.1.1 in
    let last = end_was hits.0.1 (option_map (λ a. record { caller = caller.0.0; event = release; answer = a }) (release_answer unit.0.0 hits.0.0)) e hits.1.1 in
    let found = mapped (λ a. record { caller = caller.0.0; event = release; answer = a }) (release_answer unit.0.0 hits.0.0) e last.1 in
    let told = release_told unit.0.0 hits.0.0 found.0 found.1.0 in
    let same : arguments ≡ int caller.0.0 ∷ long (pos unit.0.0) ∷ content hits.0.0 ∷ [] =
    int_was arguments caller.0 caller.1.0 ∙ ap (λ (l : List Argument). int caller.0.0 ∷ l)
    (long_was caller.0.1 unit.0 unit.1.0 ∙ ap (λ (l : List Argument). long (pos unit.0.0) ∷ l)
    (content_was unit.0.1 hits.0 hits.1.0 ∙ ap (λ (l : List Argument). content hits.0.0 ∷ l) last.0)) in
    let bytes : AreBytes (flat_map atom_of (int caller.0.0 ∷ long (pos unit.0.0) ∷ content hits.0.0 ∷ [])) =
    subst (λ (l : List Argument). AreBytes (flat_map atom_of l)) same all in
    let tail : AreBytes (blob hits.0.0 ++ []) = rest_bytes 12 (flat_map atom_of (int caller.0.0 ∷ long (pos unit.0.0) ∷ content hits.0.0 ∷ [])) bytes in
    let inner : AreBytes hits.0.0 = fore_bytes hits.0.0 _ (rest_bytes 4 (blob hits.0.0) (fore_bytes (blob hits.0.0) [] tail)) in
    let back = hits_back hits.0.0 inner told.0 in
    subst (Was (codes "/osc/release") arguments) (ap (λ (a : Answer). record { caller = caller.0.0; event = release; answer = a }) told.1 ∙ found.1.1) (
      (λ i. Some (release_row caller.0.0 unit.0.0 (back.0 i)))
          ∙ ap (λ (l : List Argument). Some (record { address = codes "/osc/release"; arguments = l })) (sym same),
      back.1,
    )
