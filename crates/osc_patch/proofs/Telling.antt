-- Each line that is wrong by itself is told.
use Rattle.osc_patch.specs.declared.patch.TheConstants.{MAX_PATCH}
use Rattle.std.proofs.Common.{◌≡◌, ◌∙◌, ℕ, suc, ◌+◌, ◌≤◌, Bool, true, false, cond, nat_lt, List, [], ◌∷◌, ◌++◌, length, Option, Some, None, Result, Ok, Err}
use Rattle.std.proofs.Common.{refl, sym, ap, subst, arith, append_assoc}
use Rattle.std.proofs.lemmas.Bool.{le-ltb}
use Rattle.std.proofs.lemmas.List.{append-nil}
use Rattle.osc_patch.specs.declared.fault.Fault.{Fault}
use Rattle.osc_patch.specs.declared.fault.WrongLine.{WrongLine}
use Rattle.osc_patch.specs.declared.fault.PatchError.{PatchError}
use Rattle.osc_patch.specs.declared.fault.PatchError.TheVariants.{TooLong, Lines}
use Rattle.osc_patch.specs.declared.entry.Entry.{Entry}
use Rattle.osc_patch.specs.declared.method.PatchMethod.{PatchMethod}
use Rattle.osc_patch.specs.declared.draft.Draft.{Draft}
use Rattle.osc_patch.specs.Words.{lines_of}
use Rattle.osc_patch.specs.Entries.{wrong_line, line_says}
use Rattle.osc_patch.specs.Patches.{clash, settled, with_wrong, after_line, read_from, unread, outcome, outcome_of, patch_of}

-- what is told of the lines after
record Grows (before after : List WrongLine) : Type 0 where
  more : List WrongLine
  is : after ≡ before ++ more

stays : (lines : List WrongLine) → Grows lines lines
stays lines = record { more = []; is = sym (append-nil lines) }

joined : (first second third : List WrongLine) → Grows first second → Grows second third → Grows first third
joined first second third one two = record {
  more = one.more ++ two.more;
  is = two.is ∙ ap (λ l. l ++ two.more) one.is ∙ append_assoc first one.more two.more;
}

settled_grows : (reading : Draft) (entry : Entry) (fault : Option Fault) → Grows reading.wrong (settled reading entry fault).wrong
settled_grows reading entry None = stays reading.wrong
settled_grows reading entry (Some fault) = record { more = wrong_line entry.line fault entry.address ∷ []; is = refl }

line_grows : (limit : ℕ) (reading : Draft) (said : Result (Option Entry) WrongLine) → Grows reading.wrong (after_line limit reading said).wrong
line_grows limit reading (Ok None) = stays reading.wrong
line_grows limit reading (Ok (Some entry)) = settled_grows reading entry (clash limit reading.methods entry)
line_grows limit reading (Err line) = record { more = line ∷ []; is = refl }

grows : (limit number : ℕ) (reading : Draft) (texts : List (List ℕ)) → Grows reading.wrong (read_from limit number reading texts).wrong
grows limit number reading [] = stays reading.wrong
grows limit number reading (text ∷ texts) =
    let next = after_line limit reading (line_says number text) in
    joined reading.wrong next.wrong (read_from limit (number + 1) next texts).wrong (line_grows limit reading (line_says number text))
    (grows limit (number + 1) next texts)

-- a line among those that are told
record Tells (line : WrongLine) (lines : List WrongLine) : Type 0 where
  front : List WrongLine
  rest : List WrongLine
  is : lines ≡ front ++ line ∷ rest

here : (limit number : ℕ) (reading : Draft) (text : List ℕ) (after : List (List ℕ)) (line : WrongLine) → line_says number text ≡ Err line
    → Tells line (read_from limit number reading (text ∷ after)).wrong
here limit number reading text after line says =
    let more = grows limit (number + 1) (with_wrong reading line) after in
    record {
      front = reading.wrong;
      rest = more.more;
      is = ap (λ r. (read_from limit (number + 1) (after_line limit reading r) after).wrong) says ∙ more.is ∙ append_assoc reading.wrong (line ∷ []) more.more;
    }

tells_from : (limit number : ℕ) (reading : Draft) (before : List (List ℕ)) (text : List ℕ) (after : List (List ℕ)) (line : WrongLine)
    → line_says (number + length before) text ≡ Err line → Tells line (read_from limit number reading (before ++ text ∷ after)).wrong
tells_from limit number reading [] text after line says =
    let same : number + 0 ≡ number = omega arith in
    here limit number reading text after line (subst (λ n. line_says n text ≡ Err line) same says)
tells_from limit number reading (first ∷ before) text after line says =
    let same : number + length (first ∷ before) ≡ number + 1 + length before = omega arith in
    tells_from limit (number + 1) (after_line limit reading (line_says number first)) before text after line
    (subst (λ n. line_says n text ≡ Err line) same says)

refused : (methods : List PatchMethod) (front : List WrongLine) (line : WrongLine) (rest : List WrongLine)
    → outcome methods (front ++ line ∷ rest) ≡ Err (Lines (front ++ line ∷ rest))
refused methods [] line rest = refl
refused methods (first ∷ front) line rest = refl

pub each_told : (limit : ℕ) (bytes : List ℕ) (before : List (List ℕ)) (text : List ℕ) (after : List (List ℕ)) (line : WrongLine)
    → lines_of bytes ≡ before ++ text ∷ after → line_says (length before + 1) text ≡ Err line → length bytes ≤ MAX_PATCH
    → (front rest : List WrongLine) × (patch_of limit bytes ≡ Err (Lines (front ++ line ∷ rest)))
each_told limit bytes before text after line cut says short =
    let fits : nat_lt MAX_PATCH (length bytes) ≡ false = le-ltb MAX_PATCH (length bytes) short in
    let same : length before + 1 ≡ 1 + length before = omega arith in
    let tells = tells_from limit 1 unread before text after line (subst (λ n. line_says n text ≡ Err line) same says) in
    let reading = read_from limit 1 unread (before ++ text ∷ after) in (
      tells.front,
      tells.rest,
      ap (λ b. cond b (Err TooLong) (outcome_of (read_from limit 1 unread (lines_of bytes)))) fits
          ∙ ap (λ l. outcome_of (read_from limit 1 unread l)) cut
          ∙ ap (outcome reading.methods) tells.is
          ∙ refused reading.methods tells.front line tells.rest,
    )
