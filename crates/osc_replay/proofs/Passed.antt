-- Entries of a recording that are passed over.
use Rattle.std.proofs.Common.{◌≡◌, ℕ, ◌+◌, ◌-◌, List, [], ◌++◌, length, drop, sym, ap, subst, ◌∙◌, arith, length-append, append_assoc, Option, Some}
use Rattle.osc_model.specs.Limits.{Limits}
use Rattle.osc_model.specs.Events.{Entry}
use Rattle.osc_model.specs.Recordings.{record_text}
use Rattle.osc_record.specs.declared.version.Version.TheVariants.{Second}
use Rattle.osc_record.specs.Reading.{header_read}
use Rattle.osc_record.specs.Unread.{Remaining, HasHeader}
use Rattle.osc_record.proofs.Again.{drop_front}
use Rattle.osc_record.proofs.Readings.{header_again}
use Rattle.osc_replay.specs.Formed.{IsFormed, IsFormedTo}
use Rattle.osc_replay.specs.Onward.{IsPassing}
use Rattle.osc_replay.proofs.Formed.{texts, record_split, opened}

-- the header tells the limits
one_header : (bytes : List ℕ) (caps : Limits) (entries : List Entry) (left : Remaining) → HasHeader bytes left → IsFormed caps entries
    → bytes ≡ record_text caps entries → left.caps ≡ caps
one_header bytes caps entries left is formed text =
    some_is left.caps caps
    (sym (header_again Second left.caps left.rest is.lawful) ∙ ap (header_read Second) (sym is.text ∙ text)
    ∙ header_again Second caps (texts entries) formed.record_.lawful)
  where
    some_is : (x y : Limits) → ◌≡◌ {A = Option Limits} (Some x) (Some y) → x ≡ y
    some_is x y e = cc

-- what is left begins with them
pub record IsAhead (bytes : List ℕ) (caps : Limits) (before since : List Entry) (left : Remaining) (end : ℕ) : Type 0 where
  pub caps_are : left.caps ≡ caps
  pub rest_is : left.rest ≡ texts before ++ texts since
  pub end_is : end ≡ left.at + length (texts before)
  pub parted : record_text caps before ++ texts since ≡ bytes
  pub long : length (record_text caps before) ≡ left.at + length (texts before)

pub ahead_of : (bytes : List ℕ) (caps : Limits) (before since : List Entry) (left : Remaining) (end : ℕ)
    → IsPassing bytes caps before since left end → IsAhead bytes caps before since left end
ahead_of bytes caps before since left end is =
    let same : left.caps ≡ caps = one_header bytes caps (before ++ since) left is.header is.formed is.text in
    let first : IsFormedTo bytes caps [] left = subst (λ (l : Limits). IsFormedTo bytes l [] left) same (opened bytes left is.header) in
    let head : List ℕ = record_text caps [] in
    let front : record_text caps before ≡ head ++ texts before = record_split caps [] before in
    let whole : bytes ≡ record_text caps before ++ texts since = is.text ∙ record_split caps before since in
    let joined : head ++ left.rest ≡ head ++ (texts before ++ texts since) =
    sym first.text ∙ whole ∙ ap (λ (l : List ℕ). l ++ texts since) front ∙ append_assoc head (texts before) (texts since) in
    let long : length (record_text caps before) ≡ left.at + length (texts before) =
    omega (arith, ap length front, length-append head (texts before), first.place) in
    record {
      caps_are = same;
      rest_is = sym (drop_front head left.rest) ∙ ap (drop (length head)) joined ∙ drop_front head (texts before ++ texts since);
      end_is = is.end_is ∙ long;
      parted = sym whole;
      long = long;
    }

-- after so many bytes they are passed
pub passed : (bytes : List ℕ) (caps : Limits) (before since : List Entry) (left new : Remaining) (end count : ℕ)
    (is : IsPassing bytes caps before since left end) → end ≡ left.at + count → new.caps ≡ left.caps → new.at ≡ left.at + count
    → new.rest ≡ drop count left.rest → IsFormedTo bytes caps before new
passed bytes caps before since left new end count is counted caps_stay moved rest =
    let ahead = ahead_of bytes caps before since left end is in
    let size : count ≡ length (texts before) = omega (arith, counted, ahead.end_is) in
    let stays : new.rest ≡ texts since =
    rest ∙ ap (drop count) ahead.rest_is ∙ ap (λ (n : ℕ). drop n (texts before ++ texts since)) size
    ∙ drop_front (texts before) (texts since) in
    record {
      caps_are = caps_stay ∙ ahead.caps_are;
      formed = is.begun;
      text = sym ahead.parted ∙ ap (λ (l : List ℕ). record_text caps before ++ l) (sym stays);
      place = omega (arith, moved, counted, ahead.end_is, ahead.long);
    }
