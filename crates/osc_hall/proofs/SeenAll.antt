-- The turns of those that are there, one after another.
use Rattle.std.proofs.Common.{◌≡◌, ℕ, ◌+◌, ◌-◌, length-drop, nat_lt, ◌<◌, ◌≤◌, List, [], ◌∷◌, ◌++◌, length, map, Option, Bool, true, false, refl, sym, ap, subst, ◌∙◌, arith, append_assoc, append-nil, length-append}
use Rattle.std.proofs.lemmas.List.{map-append, length-map}
use Rattle.std.specs.Prelude.{if◌then◌else◌}
use Rattle.std.specs.List.{AllByRecursion}
use Rattle.osc_door.specs.Visitors.{IsFresh}
use Rattle.osc_hall.specs.declared.limits.TheConstants.{GUESTS, PATIENCE}
use Rattle.osc_hall.specs.Turns.{Seen, Turn, IsTurn, SeesSo, just_come}
use Rattle.osc_hall.specs.Rounds.{staying, SeesFirst, AreSeen, AreLetIn, with_room, with_comer}
use Rattle.osc_hall.specs.Rounds.{with_comers}

all_push : {X : Type 0} (P : X → Type 0) (xs : List X) (x : X) → AllByRecursion P xs → P x → AllByRecursion P (xs ++ x ∷ [])
all_push P [] x all p = (p, tt)
all_push P (y ∷ ys) x all p = (all.0, all_push P ys x all.1 p)

stays_push : {V : Type 0} (b : Bool) (seen : Seen V) (some more last : List (Seen V)) → more ≡ some ++ last
    → (if b then seen ∷ more else more) ≡ (if b then seen ∷ some else some) ++ last
stays_push true seen some more last is = ap (λ l. seen ∷ l) is
stays_push false seen some more last is = is

staying_push : {V : Type 0} (turns : List (Turn V)) (turn : Turn V) → staying (turns ++ turn ∷ []) ≡ staying turns ++ staying (turn ∷ [])
staying_push [] turn = refl
staying_push (t ∷ turns) turn =
    stays_push t.stays t.after (staying turns) (staying (turns ++ turn ∷ [])) (staying (turn ∷ [])) (staying_push turns turn)

stays_fewer : {V : Type 0} (b : Bool) (seen : Seen V) (some : List (Seen V)) (n : ℕ) → length some ≤ n
    → length (if b then seen ∷ some else some) ≤ n + 1
stays_fewer true seen some n less = omega (arith, less)
stays_fewer false seen some n less = omega (arith, less)

fewer : {V : Type 0} (turns : List (Turn V)) → length (staying turns) ≤ length turns
fewer [] = omega arith
fewer (t ∷ turns) = omega (arith, stays_fewer t.stays t.after (staying turns) (length turns) (fewer turns))

-- no more are there after all are seen
pub no_more : {V : Type 0} (left taken : V → Option (List ℕ)) (page state : List ℕ) (before after : List (Seen V))
    → AreSeen left taken page state before after → length after ≤ length before
no_more left taken page state before after seen =
    omega (arith, ap length seen.after_is, fewer seen.turns, ap length seen.before_is, length-map seen.turns (λ turn. turn.before))

-- So many have had their turn: those of the rest still stand before them that stayed.
pub record SeenSoFar {V : Type 0} (left taken : V → Option (List ℕ)) (page state : List ℕ) (initial : List (Seen V)) (count : ℕ)
    (now : List (Seen V)) : Type 0 where
  pub turns : List (Turn V)
  pub rest : List (Seen V)
  pub each : AllByRecursion (IsTurn left taken page state) turns
  pub before_is : map (λ turn. turn.before) turns ++ rest ≡ initial
  pub now_is : now ≡ rest ++ staying turns
  pub count_is : length turns ≡ count

pub none_seen : {V : Type 0} (left taken : V → Option (List ℕ)) (page state : List ℕ) (initial : List (Seen V))
    → SeenSoFar left taken page state initial 0 initial
none_seen left taken page state initial = record {
  turns = [];
  rest = initial;
  each = tt;
  before_is = refl;
  now_is = sym (append-nil initial);
  count_is = refl;
}

total : {V : Type 0} (turns : List (Turn V)) (rest initial : List (Seen V)) → map (λ turn. turn.before) turns ++ rest ≡ initial
    → length turns + length rest ≡ length initial
total turns rest initial is =
    omega (arith, ap length is, length-append (map (λ turn. turn.before) turns) rest, length-map turns (λ turn. turn.before))

next_seen : {V : Type 0} (left taken : V → Option (List ℕ)) (page state : List ℕ) (initial now next : List (Seen V)) (count : ℕ)
    (turns : List (Turn V)) (rest : List (Seen V)) → AllByRecursion (IsTurn left taken page state) turns
    → map (λ turn. turn.before) turns ++ rest ≡ initial → now ≡ rest ++ staying turns → length turns ≡ count → count < length initial
    → SeesFirst left taken page state now next → SeenSoFar left taken page state initial (count + 1) next
next_seen left taken page state initial now next count turns [] each before_is now_is count_is more sees =
    absurd (omega (arith, total turns [] initial before_is, count_is, more))
next_seen left taken page state initial now next count turns (guest ∷ rest) each before_is now_is count_is more sees =
    let first = subst (λ l. SeesFirst left taken page state l next) now_is sees in
    record {
      turns = turns ++ first.0 ∷ [];
      rest = rest;
      each = all_push (IsTurn left taken page state) turns first.0 each first.1;
      before_is = ap (λ l. l ++ rest) (map-append (λ turn. turn.before) turns (first.0 ∷ []))
          ∙ append_assoc (map (λ turn. turn.before) turns) (first.0.before ∷ []) rest
          ∙ ap (λ g. map (λ turn. turn.before) turns ++ g ∷ rest) first.2 ∙ before_is;
      now_is = first.3 ∙ append_assoc rest (staying turns) (staying (first.0 ∷ []))
          ∙ ap (λ l. rest ++ l) (sym (staying_push turns first.0));
      count_is = omega (arith, count_is, length-append turns (first.0 ∷ []));
    }

pub one_more_seen : {V : Type 0} (left taken : V → Option (List ℕ)) (page state : List ℕ) (initial now next : List (Seen V)) (count : ℕ)
    → SeenSoFar left taken page state initial count now → count < length initial → SeesFirst left taken page state now next
    → SeenSoFar left taken page state initial (count + 1) next
one_more_seen left taken page state initial now next count s more sees =
    next_seen left taken page state initial now next count s.turns s.rest s.each s.before_is s.now_is s.count_is more sees

none_left : {V : Type 0} (turns : List (Turn V)) (rest initial now : List (Seen V)) (count : ℕ) → map (λ turn. turn.before) turns ++ rest ≡ initial
    → now ≡ rest ++ staying turns → length turns ≡ count → length initial ≡ count
    → (map (λ turn. turn.before) turns ≡ initial) × (now ≡ staying turns)
none_left turns [] initial now count before_is now_is count_is all = (sym (append-nil (map (λ turn. turn.before) turns)) ∙ before_is, now_is)
none_left turns (guest ∷ rest) initial now count before_is now_is count_is all =
    absurd (omega (arith, total turns (guest ∷ rest) initial before_is, count_is, all))

pub all_seen : {V : Type 0} (left taken : V → Option (List ℕ)) (page state : List ℕ) (initial now : List (Seen V)) (count : ℕ)
    → SeenSoFar left taken page state initial count now → length initial ≡ count → AreSeen left taken page state initial now
all_seen left taken page state initial now count s all =
    let ends = none_left s.turns s.rest initial now count s.before_is s.now_is s.count_is all in
    record { turns = s.turns; each = s.each; before_is = ends.0; after_is = ends.1 }

-- one more has come in
comers_push : {V : Type 0} (guests : List (Seen V)) (comers : List V) (comer : V)
    → with_comers guests (comers ++ comer ∷ []) ≡ with_comer (with_comers guests comers) comer
comers_push guests [] comer = refl
comers_push guests (c ∷ comers) comer = comers_push (with_comer guests c) comers comer

pub none_let_in : {V : Type 0} (taken : V → Option (List ℕ)) (before : List (Seen V)) (most : ℕ) → AreLetIn taken before most before
none_let_in taken before most = record { comers = []; few = omega arith; fresh = tt; after_is = refl }

pub one_more_let_in : {V : Type 0} (taken : V → Option (List ℕ)) (before now next : List (Seen V)) (most : ℕ) (comer : V)
    → AreLetIn taken before most now → IsFresh (taken comer) → next ≡ with_comer now comer → AreLetIn taken before (most + 1) next
one_more_let_in taken before now next most comer come fresh is = record {
  comers = come.comers ++ comer ∷ [];
  few = omega (arith, come.few, length-append come.comers (comer ∷ []));
  fresh = all_push (λ visitor. IsFresh (taken visitor)) come.comers comer come.fresh fresh;
  after_is = is ∙ ap (λ l. with_comer l comer) come.after_is ∙ sym (comers_push before come.comers comer);
}

come_more : {V : Type 0} (guests : List (Seen V)) (comers : List V) → length (with_comers guests comers) ≤ length guests + length comers
come_more guests [] = omega arith
come_more guests (c ∷ comers) = omega (
  arith,
  come_more (with_comer guests c) comers,
  length-append (with_room guests) (just_come c ∷ []),
  length-drop (length guests + 1 - GUESTS) guests,
)

-- at most so many more are there
pub few_more : {V : Type 0} (left taken : V → Option (List ℕ)) (page state : List ℕ) (before there after : List (Seen V)) (most : ℕ)
    → AreLetIn taken before most there → AreSeen left taken page state there after → length after ≤ length before + most
few_more left taken page state before there after most come seen =
    omega (arith, no_more left taken page state there after seen, ap length come.after_is, come_more before come.comers, come.few)

-- the turn of the first one, who stays
pub first_stays : {V : Type 0} (left taken : V → Option (List ℕ)) (page state : List ℕ) (before rest final : List (Seen V)) (guest after : Seen V)
    (stays : Bool) → before ≡ guest ∷ rest → SeesSo left taken page state (nat_lt guest.rounds PATIENCE) guest after stays → stays ≡ true
    → final ≡ rest ++ after ∷ [] → SeesFirst left taken page state before final
first_stays left taken page state before rest final guest after stays is sees on ends =
    subst (λ l. SeesFirst left taken page state l final) (sym is) (
      record { before = guest; after = after; stays = true },
      subst (λ b. SeesSo left taken page state (nat_lt guest.rounds PATIENCE) guest after b) on sees,
      refl,
      ends,
    )

-- the turn of the first one, who goes
pub first_goes : {V : Type 0} (left taken : V → Option (List ℕ)) (page state : List ℕ) (before rest : List (Seen V)) (guest after : Seen V)
    (stays : Bool) → before ≡ guest ∷ rest → SeesSo left taken page state (nat_lt guest.rounds PATIENCE) guest after stays → stays ≡ false
    → SeesFirst left taken page state before rest
first_goes left taken page state before rest guest after stays is sees off =
    subst (λ l. SeesFirst left taken page state l rest) (sym is) (
      record { before = guest; after = after; stays = false },
      subst (λ b. SeesSo left taken page state (nat_lt guest.rounds PATIENCE) guest after b) off sees,
      refl,
      sym (append-nil rest),
    )
