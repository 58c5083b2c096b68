-- The whole entries of bytes are determined, whatever the pieces were in which these came.
use Rattle.std.proofs.Common.{◌≡◌, ℕ, ◌+◌, ◌≤◌, List, [], ◌∷◌, ◌++◌, length, length-append, Some, refl, sym, ap, subst, ◌∙◌, append_assoc}
use Rattle.std.proofs.Common.{append-nil, arith}
use Rattle.std.specs.List.{AllByRecursion}
use Rattle.std.proofs.lemmas.List.{append_cancel_left}
use Rattle.osc_model.specs.Limits.{Limits, AreInRange, header_size, max_recording}
use Rattle.osc_model.specs.Events.{Event, Answer, Entry}
use Rattle.osc_model.specs.Recordings.{IsRecordable, entry_text, header_text, record_text}
use Rattle.osc_record.specs.Reading.{entry_in}
use Rattle.osc_story.specs.Standings.{Standing, opened, standing_after, AgreesAll}
use Rattle.osc_story.specs.Seen.{CanBe, bytes_of, text_of, HasNoEntry}
use Rattle.osc_story.specs.Following.{Following, HasCaughtUp}
use Rattle.osc_story.proofs.Pieces.{Written, fronts, none_in_none}

-- an entry is read again, whatever follows it
abbrev pub IsReadAgain : Type 0
IsReadAgain = (caller : ℕ) (event : Event) (answer : Answer) (rest : List ℕ) → IsRecordable caller event answer
    → length (entry_text caller event answer) ≤ max_recording
    → entry_in (entry_text caller event answer ++ rest) ≡ Some (record { caller = caller; event = event; answer = answer })

-- entries of bytes from a place on, after which no whole one follows
record AreWhole (caps : Limits) (at : ℕ) (bytes : List ℕ) (entries : List Entry) (rest : List ℕ) : Type 0 where
  text : bytes ≡ text_of entries ++ rest
  can_be : AllByRecursion CanBe entries
  none : HasNoEntry caps (at + length (text_of entries)) rest

-- the first of them, and the others
first_text : (bytes : List ℕ) (entry : Entry) (entries : List Entry) (rest : List ℕ) → bytes ≡ text_of (entry ∷ entries) ++ rest
    → bytes ≡ bytes_of entry ++ (text_of entries ++ rest)
first_text bytes entry entries rest is = is ∙ append_assoc (bytes_of entry) (text_of entries) rest

others : (caps : Limits) (at : ℕ) (bytes : List ℕ) (entry : Entry) (entries : List Entry) (rest : List ℕ) → AreWhole caps at bytes (entry ∷ entries) rest
    → AreWhole caps (at + length (bytes_of entry)) (text_of entries ++ rest) entries rest
others caps at bytes entry entries rest whole = record {
  text = refl;
  can_be = whole.can_be.1;
  none = subst (λ (n : ℕ). HasNoEntry caps n rest) (omega (arith, length-append (bytes_of entry) (text_of entries))) whole.none;
}

-- none and some aren't both
not_both : (caps : Limits) (at : ℕ) (bytes : List ℕ) (entry : Entry) (entries : List Entry) (rest left : List ℕ) → at + length bytes ≤ caps.recording
    → AreWhole caps at bytes [] left → AreWhole caps at bytes (entry ∷ entries) rest → ⊥
not_both caps at bytes entry entries rest left within none some =
    let first = first_text bytes entry entries rest some.text in
    none.none entry (text_of entries ++ rest) some.can_be.0
    (omega (arith, within, ap length first, length-append (bytes_of entry) (text_of entries ++ rest))) (sym none.text ∙ first)

some_same : (one other : Entry) → Some one ≡ Some other → one ≡ other
some_same one other e = cc

pub record SameEntries (one other : List Entry) (rest left : List ℕ) : Type 0 where
  pub entries : one ≡ other
  pub rest_is : rest ≡ left

unique : IsReadAgain → (caps : Limits) → caps.recording ≤ max_recording → (at : ℕ) (bytes : List ℕ) (one other : List Entry) (rest left : List ℕ)
    → at + length bytes ≤ caps.recording → AreWhole caps at bytes one rest → AreWhole caps at bytes other left → SameEntries one other rest left
unique again caps small at bytes [] [] rest left within first second = record { entries = refl; rest_is = sym first.text ∙ second.text }
unique again caps small at bytes [] (entry ∷ entries) rest left within first second =
    absurd (not_both caps at bytes entry entries left rest within first second)
unique again caps small at bytes (entry ∷ entries) [] rest left within first second =
    absurd (not_both caps at bytes entry entries rest left within second first)
unique again caps small at bytes (entry ∷ entries) (entry' ∷ entries') rest left within first second =
    let one = first_text bytes entry entries rest first.text in
    let two = first_text bytes entry' entries' left second.text in
    let same : entry ≡ entry' =
    some_same entry entry' (sym (again entry.caller entry.event entry.answer (text_of entries ++ rest) first.can_be.0
    (omega (arith, within, small, ap length one, length-append (bytes_of entry) (text_of entries ++ rest))))
    ∙ ap entry_in (sym one ∙ two)
    ∙ again entry'.caller entry'.event entry'.answer (text_of entries' ++ left) second.can_be.0
    (omega (arith, within, small, ap length two, length-append (bytes_of entry') (text_of entries' ++ left))))
    in
    let back : text_of entries ++ rest ≡ text_of entries' ++ left =
    append_cancel_left (bytes_of entry) (text_of entries ++ rest) (text_of entries' ++ left)
    (sym one ∙ two ∙ ap (λ (e : Entry). bytes_of e ++ (text_of entries' ++ left)) (sym same))
    in
    let behind : AreWhole caps (at + length (bytes_of entry)) (text_of entries' ++ left) entries' left =
    subst (λ (e : Entry). AreWhole caps (at + length (bytes_of e)) (text_of entries' ++ left) entries' left) (sym same)
    (others caps at bytes entry' entries' left second)
    in
    let more = unique again caps small (at + length (bytes_of entry)) (text_of entries ++ rest) entries entries' rest left
    (omega (arith, within, ap length one, length-append (bytes_of entry) (text_of entries ++ rest))) (others caps at bytes entry entries rest first)
    (subst (λ (l : List ℕ). AreWhole caps (at + length (bytes_of entry)) l entries' left) (sym back) behind)
    in
    record {
      entries = ap (λ (e : Entry). e ∷ entries) same ∙ ap (λ (l : List Entry). entry' ∷ l) more.entries;
      rest_is = more.rest_is;
    }

-- those that a follower has seen
whole : Written → (came : List ℕ) (follower : Following) (gone : HasCaughtUp came follower)
    → AreWhole gone.caps header_size (text_of gone.entries ++ gone.rest) gone.entries gone.rest
whole written came follower gone = record {
  text = refl;
  can_be = gone.followed.can_be;
  none = subst (λ (n : ℕ). HasNoEntry gone.caps n gone.rest)
      (omega (arith, length-append (header_text gone.caps) (text_of gone.entries), written.header gone.caps)) gone.begins;
}

came_is : (came : List ℕ) (follower : Following) (gone : HasCaughtUp came follower) → came ≡ header_text gone.caps ++ (text_of gone.entries ++ gone.rest)
came_is came follower gone = gone.followed.text ∙ append_assoc (header_text gone.caps) (text_of gone.entries) gone.rest

record IsSame (one other : Following) : Type 0 where
  bytes : one.bytes ≡ other.bytes
  passed : one.passed ≡ other.passed
  standing : one.standing ≡ other.standing

same_following : (one other : Following) → IsSame one other → one ≡ other
same_following one other same = λ i. record { bytes = same.bytes i; passed = same.passed i; standing = same.standing i }

pub one_following : Written → IsReadAgain → (came : List ℕ) (one other : Following) → HasCaughtUp came one → HasCaughtUp came other → one ≡ other
one_following written again came one other first second =
    let texts : header_text first.caps ++ (text_of first.entries ++ first.rest) ≡ header_text second.caps ++ (text_of second.entries ++ second.rest) =
    sym (came_is came one first) ∙ came_is came other second
    in
    let front = fronts (header_text first.caps) (header_text second.caps) (text_of first.entries ++ first.rest) (text_of second.entries ++ second.rest)
    (written.header first.caps ∙ sym (written.header second.caps)) texts
    in
    let caps : first.caps ≡ second.caps = written.differ first.caps second.caps first.followed.lawful second.followed.lawful front in
    let back : text_of first.entries ++ first.rest ≡ text_of second.entries ++ second.rest =
    append_cancel_left (header_text second.caps) (text_of first.entries ++ first.rest) (text_of second.entries ++ second.rest)
    (ap (λ (l : List ℕ). l ++ (text_of first.entries ++ first.rest)) (sym front) ∙ texts)
    in
    let bytes = text_of first.entries ++ first.rest in
    let behind : AreWhole first.caps header_size bytes second.entries second.rest =
    subst (λ (l : List ℕ). AreWhole first.caps header_size l second.entries second.rest) (sym back)
    (subst (λ (c : Limits). AreWhole c header_size (text_of second.entries ++ second.rest) second.entries second.rest) (sym caps)
    (whole written came other second))
    in
    let within : header_size + length bytes ≤ first.caps.recording =
    omega (arith, first.within, ap length (came_is came one first), length-append (header_text first.caps) bytes, written.header first.caps)
    in
    let same = unique again first.caps first.followed.lawful.recording.below header_size bytes first.entries second.entries first.rest second.rest within
    (whole written came one first) behind
    in
    let stands : first.standing ≡ second.standing =
    first.followed.becomes ∙ ap (λ (c : Limits). standing_after c.late first.entries) caps
    ∙ ap (standing_after second.caps.late) same.entries ∙ sym second.followed.becomes
    in
    same_following one other (record {
      bytes = first.followed.kept ∙ ap (λ (c : Limits). header_text c ++ first.rest) caps ∙ ap (λ (l : List ℕ). header_text second.caps ++ l) same.rest_is
          ∙ sym second.followed.kept;
      passed = first.followed.passed ∙ ap (λ (l : List Entry). length (text_of l)) same.entries ∙ sym second.followed.passed;
      standing = first.stands ∙ ap (λ (s : Standing). Some s) stands ∙ sym second.stands;
    })

-- A whole recording: nothing is left of it.
pub whole_following : Written → (caps : Limits) (history : List Entry) → AreInRange caps → AllByRecursion CanBe history → AgreesAll (opened caps.late) history
    → length (record_text caps history) ≤ caps.recording
    → HasCaughtUp (record_text caps history)
    (record { bytes = header_text caps; passed = length (text_of history); standing = Some (standing_after caps.late history) })
whole_following written caps history lawful can_be agree within = record {
  caps = caps;
  entries = history;
  rest = [];
  standing = standing_after caps.late history;
  stands = refl;
  followed = record {
    lawful = lawful;
    text = sym (append-nil (record_text caps history));
    kept = sym (append-nil (header_text caps));
    passed = refl;
    can_be = can_be;
    agree = agree;
    becomes = refl;
  };
  within = within;
  begins = none_in_none written caps (length (record_text caps history)) [] refl;
}
