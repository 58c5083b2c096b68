-- What is printed, piece after piece.
use Rattle.std.proofs.Common.{◌≡◌, ℕ, List, [], ◌∷◌, ◌++◌, sym, ap, subst, ◌∙◌, Option, None, Some}
use Rattle.std.proofs.Common.{IfSome, append_assoc, append-nil, Bool, IsTrue}
use Rattle.osc_ends.specs.Sinks.{SinkOf, change, GainsAll}
use Rattle.osc_console.specs.Printing.{Piece, text_of, TakenFrom, Prints}
use Rattle.rtrb.specs.declared.consumer.Consumer.{Consumer}

gains_both : (a b d : Option (List ℕ)) (t u : List ℕ) → IfSome a (λ x. b ≡ Some (x ++ t))
    → IfSome b (λ x. d ≡ Some (x ++ u)) → IfSome a (λ x. d ≡ Some (x ++ (t ++ u)))
gains_both None b d t u p q = tt
gains_both (Some x) b d t u p q =
    subst (λ y. IfSome y (λ x. d ≡ Some (x ++ u))) p q ∙ ap Some (append_assoc x t u)

-- what is gained twice
pub gains_more : {S : Type 0} (sink : SinkOf S) (one two three : S)
    (t u : List ℕ) → GainsAll (change sink one two) t
    → GainsAll (change sink two three) u → GainsAll (change sink one three) (t ++ u)
gains_more sink one two three t u p q =
    (gains_both (sink.held one) (sink.held two) (sink.held three) t u p.0 q.0, q.1 ∙ p.1)

texts_of : (late early : List Piece) → text_of (late ++ early) ≡ text_of early ++ text_of late
texts_of [] early = sym (append-nil (text_of early))
texts_of (piece ∷ late) early =
    ap (λ text. text ++ piece.bytes) (texts_of late early)
    ∙ append_assoc (text_of early) (text_of late) piece.bytes

module _ {A P : Type 0} where
  -- pieces that came out after others
  taken_more : (late early : List Piece) (one two three : List (Consumer ℕ A P)) → TakenFrom early one two
      → TakenFrom late two three → TakenFrom (late ++ early) one three
  taken_more [] early one two three p q = subst (λ rings. TakenFrom early one rings) (sym q) p
  taken_more (piece ∷ late) early one two three p q =
      (q.0, taken_more late early one two q.0 p q.1, q.2)

  -- a turn at all rings after others
  pub prints_more : {S : Type 0} (sink : SinkOf S) (one two three : S)
      (rings left rest : List (Consumer ℕ A P)) (early late : Bool) (all : Bool)
      → (IsTrue all → IsTrue early × IsTrue late)
      → Prints rings left (change sink one two) early
      → Prints left rest (change sink two three) late
      → Prints rings rest (change sink one three) all
  prints_more sink one two three rings left rest early late all both p q =
      record {
        pieces = q.pieces ++ p.pieces;
        came = taken_more q.pieces p.pieces rings left rest p.came q.came;
        gains = λ whole. subst (GainsAll (change sink one three)) (sym (texts_of q.pieces p.pieces))
            (gains_more sink one two three _ _ (p.gains (both whole).0) (q.gains (both whole).1));
      }
