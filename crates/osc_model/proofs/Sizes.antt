-- How many bytes the header and each entry of a recording have.
use Rattle.std.proofs.Common.{◌≡◌, ℕ, ◌+◌, ◌-◌, ◌*◌, ◌%◌, ℤ, List, [], ◌∷◌, ◌++◌, length, replicate, codes, Option, Some, None, refl, arith, ap, ◌∙◌}
use Rattle.std.proofs.Common.{length-append, append-nil}
use Rattle.std.specs.Prelude.{option_map}
use Rattle.std.specs.Option.{option_map_or}
use Rattle.std.proofs.lemmas.List.{length-replicate}
use Rattle.osc_atoms.specs.Atoms.{word, tag, string, blob, blob_end}
use Rattle.osc_message.specs.Messages.{tag_string}
use Rattle.osc_model.specs.Events.{Event, enrol, submit, add, remove, tick, release, Hit, Answer}
use Rattle.osc_model.specs.Limits.{Limits}
use Rattle.osc_model.specs.Recordings.{Row, row_of, row_text, sized, header_text, entry_text, entry_size, FitsRow, enrolled, submitted, adding, removing}
use Rattle.osc_model.specs.Recordings.{ticking, releasing, enrol_row, submit_row, add_row, remove_row, tick_row, release_row, hits_text}

pub length-hits_text : (hits : List Hit) → length (hits_text hits) ≡ 8 * length hits
length-hits_text [] = refl
length-hits_text (hit ∷ hits) = omega (arith, length-hits_text hits)

no_padding : (k : ℕ) → blob_end (8 * k) ≡ 0
no_padding k = let whole : (8 * k) % 4 ≡ 0 = omega arith in ap (λ n. (4 - n) % 4) whole

-- a blob of eights
pub eights : (content : List ℕ) (k : ℕ) → length content ≡ 8 * k → blob content ++ [] ≡ word (8 * k) ++ content
eights content k is =
    (λ i. (word (is i) ++ (content ++ replicate (blob_end (is i)) 0)) ++ [])
    ∙ ap (λ n. (word (8 * k) ++ (content ++ replicate n 0)) ++ []) (no_padding k)
    ∙ ap (λ l. (word (8 * k) ++ l) ++ []) (append-nil content)
    ∙ append-nil (word (8 * k) ++ content)

release_size : (caller unit : ℕ) (hits : List Hit) → length (sized (row_text (release_row caller unit (hits_text hits)))) ≡ 44 + 8 * length hits
release_size caller unit hits =
    let k : ℕ = length hits in
    let body : List ℕ = string (codes "/osc/release") ++ (tag_string (codes "ihb") ++ (word caller ++ (tag unit ++ (word (8 * k) ++ hits_text hits)))) in
    let text : row_text (release_row caller unit (hits_text hits)) ≡ body =
    ap (λ l. string (codes "/osc/release") ++ (tag_string (codes "ihb") ++ (word caller ++ (tag unit ++ l))))
    (eights (hits_text hits) k (length-hits_text hits)) in
    omega (arith, ap length text, length-hits_text hits)

abbrev pub text_in : Option Row → List ℕ
text_in o = option_map_or (λ row. sized (row_text row)) o []

pub header_size : (limits : Limits) → length (header_text limits) ≡ 60
header_size limits = refl

pub sizes_are : (caller : ℕ) (event : Event) (answer : Answer) → FitsRow (row_of caller event answer)
    → length (entry_text caller event answer) ≡ entry_size event answer
sizes_are caller enrol answer fits = go (enrolled answer) fits where
  go : (o : Option ℤ) → FitsRow (option_map (enrol_row caller) o) → length (text_in (option_map (enrol_row caller) o)) ≡ 28
  go None f = absurd f
  go (Some z) f = refl
sizes_are caller (submit packet) answer fits = go (submitted answer) fits where
  go : (o : Option (ℕ × ℕ × ℕ × ℕ)) → FitsRow (option_map (submit_row caller packet) o)
      → length (text_in (option_map (submit_row caller packet) o)) ≡ 52 + (length packet + blob_end (length packet))
  go None f = absurd f
  go (Some t) f =
      let zeros : List ℕ = replicate (blob_end (length packet)) 0 in
      let tail : List ℕ = word t.0 ++ (tag t.1 ++ (word t.2 ++ (word t.3 ++ []))) in
      omega (arith, length-append (packet ++ zeros) tail, length-append packet zeros, length-replicate {A = ℕ} (blob_end (length packet)) 0)
sizes_are caller (add address) answer fits = go (adding answer) fits where
  go : (o : Option (ℕ × ℕ × ℕ)) → FitsRow (option_map (add_row caller address) o)
      → length (text_in (option_map (add_row caller address) o)) ≡ 40 + length (string address)
  go None f = absurd f
  go (Some t) f = omega (arith, length-append (string address) (word t.0 ++ (word t.1 ++ (word t.2 ++ []))))
sizes_are caller (remove address) answer fits = go (removing answer) fits where
  go : (o : Option (ℕ × ℕ)) → FitsRow (option_map (remove_row caller address) o)
      → length (text_in (option_map (remove_row caller address) o)) ≡ 36 + length (string address)
  go None f = absurd f
  go (Some t) f = omega (arith, length-append (string address) (word t.0 ++ (word t.1 ++ [])))
sizes_are caller (tick moment) answer fits = go (ticking moment answer) fits where
  go : (o : Option (ℕ × ℕ)) → FitsRow (option_map (tick_row caller moment) o) → length (text_in (option_map (tick_row caller moment) o)) ≡ 48
  go None f = absurd f
  go (Some t) f = refl
sizes_are caller release answer fits = go (releasing answer) fits where
  go : (o : Option (ℕ × List Hit)) → FitsRow (option_map (λ r. release_row caller r.0 (hits_text r.1)) o)
      → length (text_in (option_map (λ r. release_row caller r.0 (hits_text r.1)) o)) ≡ 44 + 8 * length (option_map_or (λ r. r.1) o [])
  go None f = absurd f
  go (Some r) f = release_size caller r.0 r.1
