-- What is read field by field is what the arguments tell.
use Rattle.std.proofs.Common.{◌≡◌, ℕ, ℤ, pos, negsuc, Bool, true, false, cond, ◌==◌, List, [], ◌∷◌, length, Option, Some, None, Ok}
use Rattle.std.proofs.Common.{Err, Result, refl, ◌∙◌, codes}
use Rattle.std.specs.Prelude.{⊤, option_and_then, option_map, is_ok, if◌then◌else◌}
use Rattle.std.specs.Int.{w32, w64, cast_signed}
use Rattle.std.specs.Result.{result_ok}
use Rattle.osc_atoms.specs.declared.fault.Fault.{Fault}
use Rattle.osc_atoms.specs.Reading.{and_then, word_read, tag_read, blob_read}
use Rattle.osc_message.specs.ArgumentReading.{arguments_end, arguments_of}
use Rattle.osc_message.specs.Faults.{left_over}
use Rattle.osc_message.specs.Messages.{Argument, integer, content, long}
use Rattle.osc_message.specs.Reading.{arguments_read}
use Rattle.osc_model.specs.Events.{Entry as Recorded}
use Rattle.osc_record.specs.declared.version.Version.{Version}
use Rattle.osc_record.specs.declared.version.Version.TheVariants.{First, Second}
use Rattle.osc_record.specs.Fields.{int_at, later_at, long_at, content_at, ended_at, submit_at, release_at}
use Rattle.osc_record.specs.Reading.{natural_of, int_first, later_first, long_first, content_first, at_end, submit_read, release_read}
use Rattle.osc_record.specs.Versions.{submit_tags_in}

-- the arguments under tags from a place on, where they end with the bytes
abbrev told : List ℕ → List ℕ → ℕ → Option (List Argument)
told tags bytes at = cond (is_ok (arguments_read bytes tags at)) (Some (arguments_of tags bytes at)) None

-- whether they do
abbrev ended : Bool → ℕ → Result ⊤ Fault
ended ends end = if ends then Ok tt else Err (left_over end)

-- the same of an argument that is read, and those after it
abbrev told_after : Result (Argument × ℕ) Fault → List ℕ → List ℕ → Option (List Argument)
told_after read tags bytes =
    cond (is_ok (and_then (and_then read (λ a. arguments_end tags bytes a.1)) (λ end. ended (end == length bytes) end)))
    (Some (elim read [ Ok a ↦ a.0 ∷ arguments_of tags bytes a.1 | Err fault ↦ [] ])) None

-- Where what follows is read alike, a field and what follows are.

int_kept : (z : ℤ) (next : ℕ) (ends : Bool) (rest : List Argument) (arguments : ℕ × List Argument → Option Recorded) (fields : ℕ × ℕ → Option Recorded)
    → ((n : ℕ) → fields (n, next) ≡ option_and_then (λ r. arguments (n, r)) (cond ends (Some rest) None))
    → option_and_then fields (option_map (λ n. (n, next)) (natural_of z))
    ≡ option_and_then (λ a. option_and_then arguments (int_first a)) (cond ends (Some (integer z ∷ rest)) None)
int_kept (pos n) next true rest arguments fields same = same n
int_kept (pos n) next false rest arguments fields same = same n
int_kept (negsuc n) next true rest arguments fields same = refl
int_kept (negsuc n) next false rest arguments fields same = refl

long_kept : (z : ℤ) (next : ℕ) (ends : Bool) (rest : List Argument) (arguments : ℕ × List Argument → Option Recorded) (fields : ℕ × ℕ → Option Recorded)
    → ((n : ℕ) → fields (n, next) ≡ option_and_then (λ r. arguments (n, r)) (cond ends (Some rest) None))
    → option_and_then fields (option_map (λ n. (n, next)) (natural_of z))
    ≡ option_and_then (λ a. option_and_then arguments (long_first a)) (cond ends (Some (long z ∷ rest)) None)
long_kept (pos n) next true rest arguments fields same = same n
long_kept (pos n) next false rest arguments fields same = same n
long_kept (negsuc n) next true rest arguments fields same = refl
long_kept (negsuc n) next false rest arguments fields same = refl

content_kept : (bytes : List ℕ) (next : ℕ) (ends : Bool) (rest : List Argument) (arguments : List ℕ × List Argument → Option Recorded)
    (fields : List ℕ × ℕ → Option Recorded)
    → (fields (bytes, next) ≡ option_and_then (λ r. arguments (bytes, r)) (cond ends (Some rest) None))
    → fields (bytes, next) ≡ option_and_then (λ a. option_and_then arguments (content_first a)) (cond ends (Some (content bytes ∷ rest)) None)
content_kept bytes next true rest arguments fields same = same
content_kept bytes next false rest arguments fields same = same

int_step : (bytes tags : List ℕ) (at : ℕ) (arguments : ℕ × List Argument → Option Recorded) (fields : ℕ × ℕ → Option Recorded)
    → ((n next : ℕ) → fields (n, next) ≡ option_and_then (λ r. arguments (n, r)) (told tags bytes next))
    → option_and_then fields (int_at bytes at) ≡ option_and_then (λ a. option_and_then arguments (int_first a)) (told (105 ∷ tags) bytes at)
int_step bytes tags at arguments fields same = go (word_read bytes at) where
  go : (read : Result (ℕ × ℕ) Fault)
      → option_and_then fields (option_and_then (λ word. option_map (λ n. (n, word.1)) (natural_of (cast_signed w32 word.0))) (result_ok read))
      ≡ option_and_then (λ a. option_and_then arguments (int_first a))
      (told_after (and_then read (λ word. Ok (integer (cast_signed w32 word.0), word.1))) tags bytes)
  go (Err fault) = refl
  go (Ok word) =
      int_kept (cast_signed w32 word.0) word.1 (is_ok (arguments_read bytes tags word.1)) (arguments_of tags bytes word.1) arguments fields
      (λ n. same n word.1)

long_step : (bytes tags : List ℕ) (at : ℕ) (arguments : ℕ × List Argument → Option Recorded) (fields : ℕ × ℕ → Option Recorded)
    → ((n next : ℕ) → fields (n, next) ≡ option_and_then (λ r. arguments (n, r)) (told tags bytes next))
    → option_and_then fields (long_at bytes at) ≡ option_and_then (λ a. option_and_then arguments (long_first a)) (told (104 ∷ tags) bytes at)
long_step bytes tags at arguments fields same = go (tag_read bytes at) where
  go : (read : Result (ℕ × ℕ) Fault)
      → option_and_then fields (option_and_then (λ word. option_map (λ n. (n, word.1)) (natural_of (cast_signed w64 word.0))) (result_ok read))
      ≡ option_and_then (λ a. option_and_then arguments (long_first a))
      (told_after (and_then read (λ word. Ok (long (cast_signed w64 word.0), word.1))) tags bytes)
  go (Err fault) = refl
  go (Ok word) =
      long_kept (cast_signed w64 word.0) word.1 (is_ok (arguments_read bytes tags word.1)) (arguments_of tags bytes word.1) arguments fields
      (λ n. same n word.1)

content_step : (bytes tags : List ℕ) (at : ℕ) (arguments : List ℕ × List Argument → Option Recorded) (fields : List ℕ × ℕ → Option Recorded)
    → ((blob : List ℕ) (next : ℕ) → fields (blob, next) ≡ option_and_then (λ r. arguments (blob, r)) (told tags bytes next))
    → option_and_then fields (content_at bytes at) ≡ option_and_then (λ a. option_and_then arguments (content_first a)) (told (98 ∷ tags) bytes at)
content_step bytes tags at arguments fields same = go (blob_read bytes at) where
  go : (read : Result (List ℕ × ℕ) Fault) → option_and_then fields (result_ok read)
      ≡ option_and_then (λ a. option_and_then arguments (content_first a)) (told_after (and_then read (λ blob. Ok (content blob.0, blob.1))) tags bytes)
  go (Err fault) = refl
  go (Ok (blob, next)) =
      content_kept blob next (is_ok (arguments_read bytes tags next)) (arguments_of tags bytes next) arguments fields (same blob next)

-- the tags of what only the second version has
abbrev later_tags : Version → List ℕ
later_tags First = []
later_tags Second = 105 ∷ []

later_step : (version : Version) (bytes : List ℕ) (at : ℕ) (arguments : ℕ × List Argument → Option Recorded) (fields : ℕ × ℕ → Option Recorded)
    → ((n next : ℕ) → fields (n, next) ≡ option_and_then (λ r. arguments (n, r)) (told [] bytes next))
    → option_and_then fields (later_at version bytes at)
    ≡ option_and_then (λ a. option_and_then arguments (later_first version a)) (told (later_tags version) bytes at)
later_step First bytes at arguments fields same = same 0 at
later_step Second bytes at arguments fields same = int_step bytes [] at arguments fields same

end_step : (bytes : List ℕ) (at : ℕ) (read : Option Recorded) → ended_at bytes at read ≡ option_and_then (λ rest. at_end rest read) (told [] bytes at)
end_step bytes at read = go (at == length bytes) where
  go : (ends : Bool) → cond ends read None
      ≡ option_and_then (λ rest. at_end rest read) (cond (is_ok (ended ends at)) (Some []) None)
  go true = refl
  go false = refl

-- what is read of the arguments
opened : (ends : Bool) (arguments : List Argument) (reads : List Argument → Option Recorded)
    → option_and_then reads (cond ends (Some arguments) None) ≡ cond ends (reads arguments) None
opened true arguments reads = refl
opened false arguments reads = refl

pub release_same : (bytes : List ℕ) (at : ℕ) → release_at bytes at
    ≡ (if is_ok (arguments_read bytes (codes "ihb") at) then release_read (arguments_of (codes "ihb") bytes at) else None)
release_same bytes at =
    let read : release_at bytes at ≡ option_and_then release_read (told (codes "ihb") bytes at) =
    int_step bytes (104 ∷ 98 ∷ []) at _ _ (λ caller after.
    long_step bytes (98 ∷ []) after _ _ (λ unit place.
    content_step bytes [] place _ _ (λ hits end.
    end_step bytes end _))) in
    read ∙ opened (is_ok (arguments_read bytes (codes "ihb") at)) (arguments_of (codes "ihb") bytes at) release_read

submit_told : (version : Version) (bytes : List ℕ) (at : ℕ) → submit_at version bytes at
    ≡ option_and_then (submit_read version) (told (105 ∷ 98 ∷ 105 ∷ 104 ∷ 105 ∷ later_tags version) bytes at)
submit_told version bytes at =
    int_step bytes (98 ∷ 105 ∷ 104 ∷ 105 ∷ later_tags version) at _ _ (λ caller a.
    content_step bytes (105 ∷ 104 ∷ 105 ∷ later_tags version) a _ _ (λ packet b.
    int_step bytes (104 ∷ 105 ∷ later_tags version) b _ _ (λ code c.
    long_step bytes (105 ∷ later_tags version) c _ _ (λ first d.
    int_step bytes (later_tags version) d _ _ (λ second e.
    later_step version bytes e _ _ (λ third end.
    end_step bytes end _))))))

pub submit_same : (version : Version) (bytes : List ℕ) (at : ℕ) → submit_at version bytes at
    ≡ (if is_ok (arguments_read bytes (submit_tags_in version) at) then submit_read version (arguments_of (submit_tags_in version) bytes at) else None)
submit_same First bytes at =
    submit_told First bytes at
    ∙ opened (is_ok (arguments_read bytes (submit_tags_in First) at)) (arguments_of (submit_tags_in First) bytes at) (submit_read First)
submit_same Second bytes at =
    submit_told Second bytes at
    ∙ opened (is_ok (arguments_read bytes (submit_tags_in Second) at)) (arguments_of (submit_tags_in Second) bytes at) (submit_read Second)
