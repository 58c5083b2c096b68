-- The message of a submit, number by number.
use Rattle.std.proofs.Common.{◌≡◌, ℕ, ◌+◌, List, ◌++◌, length, sym, ap, ◌∙◌, arith, append_assoc, append-nil, length-append}
use Rattle.osc_atoms.specs.Atoms.{word, tag, blob}
use Rattle.osc_model.specs.Recordings.{row_text, submit_row, sized}
use Rattle.osc_record.specs.declared.entry_messages.TheConstants.{SUBMIT}

abbrev numbers : ℕ → List ℕ → ℕ → ℕ → ℕ → ℕ → List ℕ
numbers caller packet code first second third =
    word caller ++ (blob packet ++ (word code ++ (tag first ++ (word second ++ word third))))

text_is : (caller : ℕ) (packet : List ℕ) (code first second third : ℕ)
    → row_text (submit_row caller packet (code, first, second, third)) ≡ SUBMIT ++ numbers caller packet code first second third
text_is caller packet code first second third =
    ap (λ l. SUBMIT ++ (word caller ++ (blob packet ++ (word code ++ (tag first ++ (word second ++ l)))))) (append-nil (word third))

pub submit_size_is : (caller : ℕ) (packet : List ℕ) (code first second third : ℕ)
    → length (row_text (submit_row caller packet (code, first, second, third))) ≡ 44 + length (blob packet)
submit_size_is caller packet code first second third =
    ap length (text_is caller packet code first second third)
    ∙ omega (arith, length-append (blob packet) (word code ++ (tag first ++ (word second ++ word third))))

pub submit_shape : (caller : ℕ) (packet : List ℕ) (code first second third size : ℕ) → size ≡ 44 + length (blob packet)
    → word size ++ (SUBMIT ++ numbers caller packet code first second third)
    ≡ sized (row_text (submit_row caller packet (code, first, second, third)))
submit_shape caller packet code first second third size is =
    let same : size ≡ length (row_text (submit_row caller packet (code, first, second, third))) =
    omega (arith, submit_size_is caller packet code first second third) in
    λ i. word (same i) ++ sym (text_is caller packet code first second third) i

pub eight : (o o1 o2 o3 o4 o5 o6 o7 o8 a b c d e f g h : List ℕ) → o1 ≡ o ++ a → o2 ≡ o1 ++ b → o3 ≡ o2 ++ c → o4 ≡ o3 ++ d → o5 ≡ o4 ++ e
    → o6 ≡ o5 ++ f → o7 ≡ o6 ++ g → o8 ≡ o7 ++ h
    → o8 ≡ o ++ (a ++ (b ++ (c ++ (d ++ (e ++ (f ++ (g ++ h)))))))
eight o o1 o2 o3 o4 o5 o6 o7 o8 a b c d e f g h p1 p2 p3 p4 p5 p6 p7 p8 =
    p8
    ∙ ap (λ l. l ++ h)
    (p7 ∙ ap (λ l. l ++ g) (p6 ∙ ap (λ l. l ++ f) (p5 ∙ ap (λ l. l ++ e) (p4 ∙ ap (λ l. l ++ d) (p3 ∙ ap (λ l. l ++ c) (p2 ∙ ap (λ l. l ++ b) p1))))))
    ∙ regroup
  where
    regroup : (((((((o ++ a) ++ b) ++ c) ++ d) ++ e) ++ f) ++ g) ++ h ≡ o ++ (a ++ (b ++ (c ++ (d ++ (e ++ (f ++ (g ++ h)))))))
    regroup = simp append_assoc
