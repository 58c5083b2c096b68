-- Where bytes were added, if there was memory.
use Rattle.std.proofs.Common.{◌≡◌, ℕ, List}
use Rattle.std.specs.Prelude.{Result, Ok, Err, OnOk, is_ok, if◌then◌else◌}

-- what holds of a text that was added, where it was
pub on_added : {A E P : Type 0} (r : Result A E) (after added before : List ℕ) → (after ≡ added → P) → after ≡ (if is_ok r then added else before) → OnOk r P
on_added (Ok _) after added before so is = so is
on_added (Err _) after added before so is = tt
