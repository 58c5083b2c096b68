-- The messages of an add and a remove, number by number.
use Rattle.std.proofs.Common.{◌≡◌, ℕ, ◌+◌, List, ◌++◌, length, sym, ap, ◌∙◌, arith, append_assoc, append-nil, length-append}
use Rattle.osc_atoms.specs.Atoms.{word, string}
use Rattle.osc_model.specs.Recordings.{row_text, add_row, remove_row, sized}
use Rattle.osc_record.specs.declared.entry_messages.TheConstants.{ADD, REMOVE}

abbrev added : ℕ → List ℕ → ℕ → ℕ → ℕ → List ℕ
added caller address code first second = word caller ++ (string address ++ (word code ++ (word first ++ word second)))

abbrev left : ℕ → List ℕ → ℕ → ℕ → List ℕ
left caller address code id = word caller ++ (string address ++ (word code ++ word id))

added_is : (caller : ℕ) (address : List ℕ) (code first second : ℕ)
    → row_text (add_row caller address (code, first, second)) ≡ ADD ++ added caller address code first second
added_is caller address code first second =
    ap (λ l. ADD ++ (word caller ++ (string address ++ (word code ++ (word first ++ l))))) (append-nil (word second))

left_is : (caller : ℕ) (address : List ℕ) (code id : ℕ) → row_text (remove_row caller address (code, id)) ≡ REMOVE ++ left caller address code id
left_is caller address code id = ap (λ l. REMOVE ++ (word caller ++ (string address ++ (word code ++ l)))) (append-nil (word id))

pub add_size_is : (caller : ℕ) (address : List ℕ) (code first second : ℕ)
    → length (row_text (add_row caller address (code, first, second))) ≡ 36 + length (string address)
add_size_is caller address code first second =
    ap length (added_is caller address code first second) ∙ omega (arith, length-append (string address) (word code ++ (word first ++ word second)))

pub remove_size_is : (caller : ℕ) (address : List ℕ) (code id : ℕ)
    → length (row_text (remove_row caller address (code, id))) ≡ 32 + length (string address)
remove_size_is caller address code id =
    ap length (left_is caller address code id) ∙ omega (arith, length-append (string address) (word code ++ word id))

pub add_shape : (caller : ℕ) (address : List ℕ) (code first second size : ℕ) → size ≡ 36 + length (string address)
    → word size ++ (ADD ++ added caller address code first second) ≡ sized (row_text (add_row caller address (code, first, second)))
add_shape caller address code first second size is =
    let same : size ≡ length (row_text (add_row caller address (code, first, second))) = omega (arith, add_size_is caller address code first second) in
    λ i. word (same i) ++ sym (added_is caller address code first second) i

pub remove_shape : (caller : ℕ) (address : List ℕ) (code id size : ℕ) → size ≡ 32 + length (string address)
    → word size ++ (REMOVE ++ left caller address code id) ≡ sized (row_text (remove_row caller address (code, id)))
remove_shape caller address code id size is =
    let same : size ≡ length (row_text (remove_row caller address (code, id))) = omega (arith, remove_size_is caller address code id) in
    λ i. word (same i) ++ sym (left_is caller address code id) i

-- five pieces, and one and two more
pub five : (o o1 o2 o3 o4 o5 a b c d e : List ℕ) → o1 ≡ o ++ a → o2 ≡ o1 ++ b → o3 ≡ o2 ++ c → o4 ≡ o3 ++ d → o5 ≡ o4 ++ e
    → o5 ≡ o ++ (a ++ (b ++ (c ++ (d ++ e))))
five o o1 o2 o3 o4 o5 a b c d e p1 p2 p3 p4 p5 =
    p5 ∙ ap (λ l. l ++ e) (p4 ∙ ap (λ l. l ++ d) (p3 ∙ ap (λ l. l ++ c) (p2 ∙ ap (λ l. l ++ b) p1))) ∙ regroup
  where
    regroup : ((((o ++ a) ++ b) ++ c) ++ d) ++ e ≡ o ++ (a ++ (b ++ (c ++ (d ++ e))))
    regroup = simp append_assoc

pub one_more : (o o1 o2 a b c d e f : List ℕ) → o1 ≡ o ++ (a ++ (b ++ (c ++ (d ++ e)))) → o2 ≡ o1 ++ f
    → o2 ≡ o ++ (a ++ (b ++ (c ++ (d ++ (e ++ f)))))
one_more o o1 o2 a b c d e f p1 p2 = p2 ∙ ap (λ l. l ++ f) p1 ∙ regroup
  where
    regroup : (o ++ (a ++ (b ++ (c ++ (d ++ e))))) ++ f ≡ o ++ (a ++ (b ++ (c ++ (d ++ (e ++ f)))))
    regroup = simp append_assoc

pub two_more : (o o1 o2 o3 a b c d e f g : List ℕ) → o1 ≡ o ++ (a ++ (b ++ (c ++ (d ++ e)))) → o2 ≡ o1 ++ f → o3 ≡ o2 ++ g
    → o3 ≡ o ++ (a ++ (b ++ (c ++ (d ++ (e ++ (f ++ g))))))
two_more o o1 o2 o3 a b c d e f g p1 p2 p3 = p3 ∙ ap (λ l. l ++ g) (one_more o o1 o2 a b c d e f p1 p2) ∙ regroup
  where
    regroup : (o ++ (a ++ (b ++ (c ++ (d ++ (e ++ f)))))) ++ g ≡ o ++ (a ++ (b ++ (c ++ (d ++ (e ++ (f ++ g))))))
    regroup = simp append_assoc
