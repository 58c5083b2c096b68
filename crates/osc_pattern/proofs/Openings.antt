-- The place of the first bracket of a part that isn't closed, item by item.
use Rattle.std.proofs.Common.{◌≡◌, ℕ, ◌+◌, ◌-◌, ◌≤◌, Option, Some, None, Result, Ok, Err, List, [], ◌∷◌, length, refl, arith, ap, subst, ◌∙◌}
use Rattle.std.specs.Prelude.{option_map}
use Rattle.std.specs.Result.{result_err}
use Rattle.std.proofs.Math.ListN.{length-append}
use Rattle.osc_pattern.specs.Items.{Item, item_text}
use Rattle.osc_pattern.specs.Reading.{first_item, with_first, read_part}
use Rattle.osc_pattern.proofs.Readings.{FirstItem, first_item-found, read_part-item, read_part-nil, read_part-stuck}

pub read_part-empty : (part : List ℕ) → length part ≡ 0 → result_err (read_part part) ≡ None
read_part-empty [] e = ap result_err read_part-nil
read_part-empty (x ∷ xs) e = absurd (omega arith)

pub read_part-here : (part : List ℕ) → first_item part ≡ None → 1 ≤ length part → result_err (read_part part) ≡ Some 0
read_part-here [] e long = absurd (omega arith)
read_part-here (x ∷ xs) e long = ap result_err (read_part-stuck x xs e)

past_item : (item : Item) (r : Result (List Item) ℕ) (size : ℕ) → size ≡ length (item_text item)
    → result_err (with_first (Some (item, r))) ≡ option_map (λ at. size + at) (result_err r)
past_item item (Ok items) size e = refl
past_item item (Err at) size e = ap (λ n. Some (n + at)) (omega arith)

past_first : (part : List ℕ) (item : Item) (rest : List ℕ) → first_item part ≡ Some (item, rest)
    → result_err (read_part part) ≡ option_map (λ at. (length part - length rest) + at) (result_err (read_part rest))
past_first part item rest e =
    let found : FirstItem part (Some (item, rest)) = subst (FirstItem part) e (first_item-found part) in
    let size : length part - length rest ≡ length (item_text item) = omega (arith, ap length found.0, length-append (item_text item) rest) in
    ap result_err (read_part-item part item rest e) ∙ past_item item (read_part rest) _ size

map_twice : (a b c : ℕ) (o : Option ℕ) → a + b ≡ c → option_map (λ at. a + at) (option_map (λ at. b + at) o) ≡ option_map (λ at. c + at) o
map_twice a b c None e = refl
map_twice a b c (Some n) e = ap Some (omega arith)

-- what is read after so many bytes is read after one item more
pub read_part-past : (whole : ℕ) (part : List ℕ) (item : Item) (rest : List ℕ) → first_item part ≡ Some (item, rest) → length part ≤ whole
    → length rest ≤ length part
    → option_map (λ at. (whole - length part) + at) (result_err (read_part part)) ≡ option_map (λ at. (whole - length rest) + at) (result_err (read_part rest))
read_part-past whole part item rest e within shorter =
    ap (option_map (λ at. (whole - length part) + at)) (past_first part item rest e)
    ∙ map_twice (whole - length part) (length part - length rest) (whole - length rest) (result_err (read_part rest)) (omega arith)
