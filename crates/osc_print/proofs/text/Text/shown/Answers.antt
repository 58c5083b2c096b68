use Rattle.std.proofs.Common.{◌≡◌, ℕ, Bool, true, false, ◌&&◌, cond, List, [], ◌∷◌, ◌++◌, refl, sym, ap, ◌∙◌}
use Rattle.std.specs.List.{flat_map, list_all}
use Rattle.osc_print.specs.Words.{is_shown, shown_byte}
use Rattle.hex.specs.Hex.{encode_lower}
use Rattle.osc_print.proofs.text.Text.shown.Goals as goal

-- a text of bytes that are shown is shown as it is
shown_whole : (text : List ℕ) → list_all is_shown text ≡ true → flat_map shown_byte text ≡ text
shown_whole [] all = refl
shown_whole (byte ∷ text) all = go (is_shown byte) all (shown_whole text) where
  go : (t : Bool) → (t && list_all is_shown text) ≡ true → (list_all is_shown text ≡ true → flat_map shown_byte text ≡ text)
      → cond t (byte ∷ []) (92 ∷ 120 ∷ encode_lower (byte ∷ [])) ++ flat_map shown_byte text ≡ byte ∷ text
  go true more rest = ap (λ (l : List ℕ). byte ∷ l) (rest more)
  go false more rest = absurd (cc)

pub returns-then-is_all_shown-clause-ok : goal.returns-then-is_all_shown-clause-ok
returns-then-is_all_shown-clause-ok c =
    let whole = shown_whole c.args.text.now (sym c.is_all_shown.ensures ∙ c.if-is_all_shown.true) in
    rw whole c.word.ensures.ok
