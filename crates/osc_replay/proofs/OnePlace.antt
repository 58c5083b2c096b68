-- The place where bytes stop being a recording is the only one, in both versions.
use Rattle.std.proofs.Common.{◌≡◌, ℕ, ◌+◌, ◌<◌, ◌≤◌, List, [], ◌∷◌, ◌++◌, length, drop, Option, Some, inl, inr, refl, sym, ap}
use Rattle.std.proofs.Common.{◌∙◌, arith, length-append, append_assoc}
use Rattle.std.specs.Prelude.{Result, Err}
use Rattle.std.specs.List.{flat_map, AllByRecursion}
use Rattle.osc_model.specs.Limits.{Limits}
use Rattle.osc_model.specs.Events.{Entry}
use Rattle.osc_model.specs.History.{IsLawful}
use Rattle.osc_record.specs.declared.reader.Malformed.{Malformed}
use Rattle.osc_record.specs.declared.version.Version.{Version}
use Rattle.osc_record.specs.declared.version.Version.TheVariants.{First, Second}
use Rattle.osc_record.specs.Versions.{header_size_of, header_text_in, record_text_in, text_in, AreInRangeIn, IsRecordableIn}
use Rattle.osc_record.specs.Reading.{header_read, IsRecordIn, HasNoHeaderIn}
use Rattle.osc_record.proofs.Again.{drop_front}
use Rattle.osc_record.proofs.Readings.{header_again}
use Rattle.osc_record.proofs.Written.{header_length}
use Rattle.osc_replay.specs.Formed.{IsUnformedAt, HasUnformed}
use Rattle.osc_replay.specs.Old.{IsOldUnformedAt, HasOldUnformed}
use Rattle.osc_replay.proofs.Formed.{AreLawful, same_first}

abbrev text_by : Version → Entry → List ℕ
text_by version e = text_in version e.caller e.event e.answer

abbrev texts_by : Version → List Entry → List ℕ
texts_by version entries = flat_map (λ (e : Entry). text_in version e.caller e.event e.answer) entries

-- bytes at a place don't begin with a lawful entry that ends within the limit
abbrev NoneAt : Version → ℕ → ℕ → List ℕ → Type 0
NoneAt version limit at rest = (entry : Entry) (more : List ℕ) → IsRecordableIn version entry.caller entry.event entry.answer → IsLawful entry.event
    → at + length (text_in version entry.caller entry.event entry.answer) ≤ limit
    → rest ≡ text_in version entry.caller entry.event entry.answer ++ more → ⊥

-- entries from a place on up to another, behind which some bytes begin with none
record Reaches (version : Version) (limit place at : ℕ) (entries : List Entry) (rest : List ℕ) : Type 0 where
  pub all : AllByRecursion (λ (e : Entry). IsRecordableIn version e.caller e.event e.answer) entries
  pub lawful : AreLawful entries
  pub fits : place + length (texts_by version entries) ≤ limit
  pub at_is : at ≡ place + length (texts_by version entries)
  pub some : 0 < length rest
  pub none : NoneAt version limit at rest

same_stop : (version : Version) (limit place a b : ℕ) (entries others : List Entry) (rest more : List ℕ) → limit ≤ 1073741824
    → Reaches version limit place a entries rest → Reaches version limit place b others more
    → texts_by version entries ++ rest ≡ texts_by version others ++ more → a ≡ b
same_stop version limit place a b [] [] rest more small one two same = omega (arith, one.at_is, two.at_is)
same_stop version limit place a b [] (o ∷ others) rest more small one two same =
    let own : List ℕ = text_by version o in
    absurd (one.none o (texts_by version others ++ more) two.all.0 two.lawful.0
    (omega (arith, one.at_is, two.fits, length-append own (texts_by version others))) (same ∙ append_assoc own (texts_by version others) more))
same_stop version limit place a b (e ∷ entries) [] rest more small one two same =
    let own : List ℕ = text_by version e in
    absurd (two.none e (texts_by version entries ++ rest) one.all.0 one.lawful.0
    (omega (arith, two.at_is, one.fits, length-append own (texts_by version entries))) (sym same ∙ append_assoc own (texts_by version entries) rest))
same_stop version limit place a b (e ∷ entries) (o ∷ others) rest more small one two same =
    let own : List ℕ = text_by version e in
    let other : List ℕ = text_by version o in
    let split = length-append own (texts_by version entries) in
    let split_other = length-append other (texts_by version others) in
    let joined : own ++ (texts_by version entries ++ rest) ≡ other ++ (texts_by version others ++ more) =
    sym (append_assoc own (texts_by version entries) rest) ∙ same ∙ append_assoc other (texts_by version others) more in
    let first : e ≡ o = same_first version limit place e o (texts_by version entries ++ rest) (texts_by version others ++ more) one.all.0 two.all.0
    (omega (arith, one.fits, split)) (omega (arith, two.fits, split_other)) small joined in
    let text : own ≡ other = ap (λ (x : Entry). text_in version x.caller x.event x.answer) first in
    let behind : texts_by version entries ++ rest ≡ texts_by version others ++ more =
    sym (drop_front own (texts_by version entries ++ rest)) ∙ ap (drop (length own)) joined
    ∙ ap (λ (l : List ℕ). drop (length l) (other ++ (texts_by version others ++ more))) text ∙ drop_front other (texts_by version others ++ more) in
    same_stop version limit (place + length own) a b entries others rest more small
    (record {
      all = one.all.1;
      lawful = one.lawful.1;
      fits = omega (arith, one.fits, split);
      at_is = omega (arith, one.at_is, split);
      some = one.some;
      none = one.none;
    })
    (record {
      all = two.all.1;
      lawful = two.lawful.1;
      fits = omega (arith, two.fits, split_other, ap length text);
      at_is = omega (arith, two.at_is, split_other, ap length text);
      some = two.some;
      none = two.none;
    })
    behind

-- a recording up to a place, of either version
record StopsAt (version : Version) (bytes : List ℕ) (at : ℕ) : Type 0 where
  pub limits : Limits
  pub entries : List Entry
  pub rest : List ℕ
  pub record_ : IsRecordIn version limits entries
  pub lawful : AreLawful entries
  pub text : bytes ≡ record_text_in version limits entries ++ rest
  pub place : at ≡ length (record_text_in version limits entries)
  pub some : 0 < length rest
  pub none : NoneAt version limits.recording at rest

split_text : (version : Version) (bytes : List ℕ) (at : ℕ) (is : StopsAt version bytes at)
    → bytes ≡ header_text_in version is.limits ++ (texts_by version is.entries ++ is.rest)
split_text version bytes at is = is.text ∙ append_assoc (header_text_in version is.limits) (texts_by version is.entries) is.rest

below : (version : Version) (limits : Limits) → AreInRangeIn version limits → limits.recording ≤ 1073741824
below First limits range = range.recording.below
below Second limits range = range.recording.below

reaches : (version : Version) (bytes : List ℕ) (at limit : ℕ) (is : StopsAt version bytes at) → is.limits.recording ≡ limit
    → Reaches version limit (header_size_of version) at is.entries is.rest
reaches version bytes at limit is same =
    let split = length-append (header_text_in version is.limits) (texts_by version is.entries) in
    let header = header_length version is.limits in
    record {
      all = is.record_.all;
      lawful = is.lawful;
      fits = omega (arith, is.record_.fits, split, header, same);
      at_is = omega (arith, is.place, split, header);
      some = is.some;
      none = λ entry more recordable lawful fits text. is.none entry more recordable lawful (omega (arith, fits, same)) text;
    }

stops_once : (version : Version) (bytes : List ℕ) (a b : ℕ) → StopsAt version bytes a → StopsAt version bytes b → a ≡ b
stops_once version bytes a b one two =
    let text = split_text version bytes a one in
    let other = split_text version bytes b two in
    let header : List ℕ = header_text_in version one.limits in
    let second : List ℕ = header_text_in version two.limits in
    let left : List ℕ = texts_by version one.entries ++ one.rest in
    let right : List ℕ = texts_by version two.entries ++ two.rest in
    let limits : one.limits ≡ two.limits = some_is one.limits two.limits
    (sym (header_again version one.limits left one.record_.lawful) ∙ ap (header_read version) (sym text ∙ other)
    ∙ header_again version two.limits right two.record_.lawful) in
    let headers : header ≡ second = ap (header_text_in version) limits in
    let behind : left ≡ right = sym (drop_front header left) ∙ ap (drop (length header)) (sym text ∙ other)
    ∙ ap (λ (l : List ℕ). drop (length l) (second ++ right)) headers ∙ drop_front second right in
    same_stop version two.limits.recording (header_size_of version) a b one.entries two.entries one.rest two.rest
    (below version two.limits two.record_.lawful) (reaches version bytes a two.limits.recording one (ap (λ (l : Limits). l.recording) limits))
    (reaches version bytes b two.limits.recording two refl) behind
  where
    some_is : (x y : Limits) → ◌≡◌ {A = Option Limits} (Some x) (Some y) → x ≡ y
    some_is x y e = cc

no_header : (version : Version) (bytes : List ℕ) (a b : ℕ) → HasNoHeaderIn version bytes a → StopsAt version bytes b → ⊥
no_header version bytes a b none is = none.none is.limits (texts_by version is.entries ++ is.rest) is.record_.lawful (split_text version bytes b is)

today : (bytes : List ℕ) (at : ℕ) → HasUnformed bytes at → StopsAt Second bytes at
today bytes at is = record {
  limits = is.limits;
  entries = is.entries;
  rest = is.rest;
  record_ = is.formed.record_;
  lawful = is.formed.lawful;
  text = is.text;
  place = is.place;
  some = is.some;
  none = is.none;
}

then_ : (bytes : List ℕ) (at : ℕ) → HasOldUnformed bytes at → StopsAt First bytes at
then_ bytes at is = record {
  limits = is.limits;
  entries = is.entries;
  rest = is.rest;
  record_ = is.formed.record_;
  lawful = is.formed.lawful;
  text = is.text;
  place = is.place;
  some = is.some;
  none = is.none;
}

pub one_place : (bytes : List ℕ) (a b : ℕ) → IsUnformedAt bytes a → IsUnformedAt bytes b → a ≡ b
one_place bytes a b (inl one) (inl two) = one.first ∙ sym two.first
one_place bytes a b (inl one) (inr two) = absurd (no_header Second bytes a b one (today bytes b two))
one_place bytes a b (inr one) (inl two) = absurd (no_header Second bytes b a two (today bytes a one))
one_place bytes a b (inr one) (inr two) = stops_once Second bytes a b (today bytes a one) (today bytes b two)

pub one_old_place : (bytes : List ℕ) (a b : ℕ) → IsOldUnformedAt bytes a → IsOldUnformedAt bytes b → a ≡ b
one_old_place bytes a b (inl one) (inl two) = one.first ∙ sym two.first
one_old_place bytes a b (inl one) (inr two) = absurd (no_header First bytes a b one (then_ bytes b two))
one_old_place bytes a b (inr one) (inl two) = absurd (no_header First bytes b a two (then_ bytes a one))
one_old_place bytes a b (inr one) (inr two) = stops_once First bytes a b (then_ bytes a one) (then_ bytes b two)

-- a call that tells a malformed place tells this one
pub told_is : {X : Type 0} (bytes : List ℕ) (told at : ℕ) → IsUnformedAt bytes told → IsUnformedAt bytes at
    → ◌≡◌ {A = Result X Malformed} (Err (record { at = told })) (Err (record { at = at }))
told_is bytes told at one two = ap (λ (n : ℕ). Err (record { at = n })) (one_place bytes told at one two)

pub told_old_is : {X : Type 0} (bytes : List ℕ) (told at : ℕ) → IsOldUnformedAt bytes told → IsOldUnformedAt bytes at
    → ◌≡◌ {A = Result X Malformed} (Err (record { at = told })) (Err (record { at = at }))
told_old_is bytes told at one two = ap (λ (n : ℕ). Err (record { at = n })) (one_old_place bytes told at one two)
