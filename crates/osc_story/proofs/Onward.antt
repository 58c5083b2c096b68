-- Entries that are seen one after another.
use Rattle.std.proofs.Common.{◌≡◌, ℕ, ◌+◌, List, [], ◌∷◌, ◌++◌, length, length-append, None, refl, sym, ap, subst, ◌∙◌, append_assoc, append-nil, arith}
use Rattle.std.specs.List.{AllByRecursion}
use Rattle.std.proofs.lemmas.Grind.{flat_map-append}
use Rattle.osc_model.specs.Limits.{Limits}
use Rattle.osc_model.specs.Events.{Entry}
use Rattle.osc_record.specs.Reading.{Placed}
use Rattle.osc_record.specs.Unread.{Remaining, Reads}
use Rattle.osc_story.specs.declared.reader.Stop.{Stop}
use Rattle.osc_story.specs.Standings.{Standing, Follows, AgreesAll, disagreement, seen, seen_all}
use Rattle.osc_story.specs.Seen.{CanBe, bytes_of, text_of, HasSeen, StopsFor}

-- of what was left so many entries were seen, and this is left now
pub record SeenSo (old : Standing) (left : Remaining) (new : Standing) (now : Remaining) : Type 0 where
  pub entries : List Entry
  pub text : left.rest ≡ text_of entries ++ now.rest
  pub can_be : AllByRecursion CanBe entries
  pub agree : AgreesAll old entries
  pub becomes : new ≡ seen_all old entries
  pub place : now.at ≡ left.at + length (text_of entries)
  pub caps : now.caps ≡ left.caps

pub none_seen : (standing : Standing) (left : Remaining) → SeenSo standing left standing left
none_seen standing left = record { entries = []; text = refl; can_be = tt; agree = tt; becomes = refl; place = omega arith; caps = refl }

pub all_append : (standing : Standing) (one other : List Entry) → seen_all standing (one ++ other) ≡ seen_all (seen_all standing one) other
all_append standing [] other = refl
all_append standing (entry ∷ entries) other = all_append (seen standing entry) entries other

pub agree_append : (standing : Standing) (one other : List Entry) → AgreesAll standing one → AgreesAll (seen_all standing one) other → AgreesAll standing (one ++ other)
agree_append standing [] other agree more = more
agree_append standing (entry ∷ entries) other agree more = (agree.0, agree_append (seen standing entry) entries other agree.1 more)

pub can_append : (one other : List Entry) → AllByRecursion CanBe one → AllByRecursion CanBe other → AllByRecursion CanBe (one ++ other)
can_append [] other all more = more
can_append (entry ∷ entries) other all more = (all.0, can_append entries other all.1 more)

pub text_append : (one other : List Entry) → text_of (one ++ other) ≡ text_of one ++ text_of other
text_append one other = flat_map-append bytes_of one other

-- one more is read and seen
pub one_more : (old : Standing) (left : Remaining) (was : Standing) (before : Remaining) (placed : Placed) (new : Standing) (now : Remaining) → SeenSo old left was before
    → Reads before placed now → Follows was placed.entry new → SeenSo old left new now
one_more old left was before placed new now so reads follows =
    let entry = placed.entry in
    let one : text_of (so.entries ++ entry ∷ []) ≡ text_of so.entries ++ bytes_of entry =
    text_append so.entries (entry ∷ []) ∙ ap (λ (l : List ℕ). text_of so.entries ++ l) (append-nil (bytes_of entry)) in
    record {
      entries = so.entries ++ entry ∷ [];
      text = so.text ∙ ap (λ (l : List ℕ). text_of so.entries ++ l) reads.text
          ∙ sym (append_assoc (text_of so.entries) (bytes_of entry) now.rest)
          ∙ ap (λ (l : List ℕ). l ++ now.rest) (sym one);
      can_be = can_append so.entries (entry ∷ []) so.can_be (reads.recordable, tt);
      agree = agree_append old so.entries (entry ∷ []) so.agree
          (subst (λ (s : Standing). disagreement s entry ≡ None) so.becomes follows.agrees, tt);
      becomes = follows.becomes ∙ ap (λ (s : Standing). seen s entry) so.becomes ∙ sym (all_append old so.entries (entry ∷ []));
      place = omega (arith, reads.moved, so.place, ap length one, length-append (text_of so.entries) (bytes_of entry));
      caps = reads.caps_stay ∙ so.caps;
    }

-- and no more
pub then_stops : (old : Standing) (left : Remaining) (was : Standing) (now : Remaining) (stop : Stop) (new : Standing) → SeenSo old left was now → new ≡ was
    → StopsFor stop now.caps was now.at now.rest → HasSeen old left stop new
then_stops old left was now stop new so same stops = record {
  entries = so.entries;
  rest = now.rest;
  text = so.text;
  can_be = so.can_be;
  agree = so.agree;
  becomes = same ∙ so.becomes;
  stops = subst (λ (s : Standing). StopsFor stop left.caps s (left.at + length (text_of so.entries)) now.rest) (sym same)
      (subst (λ (at : ℕ). StopsFor stop left.caps was at now.rest) so.place
      (subst (λ (caps : Limits). StopsFor stop caps was now.at now.rest) so.caps stops));
}
