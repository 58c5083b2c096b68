use Rattle.std.proofs.Common.{◌≡◌, ◌+◌, ◌++◌, ◌∷◌, [], append-nil, rules, ℕ, List, length, refl, sym, ap, ◌∙◌, arith}
use Rattle.osc_pool.specs.Holding.{blocks_for, used_blocks}
use Rattle.osc_core.specs.declared.store.Stored.{Stored}
use Rattle.osc_atoms.specs.Atoms.{word}
use Rattle.osc_packet.specs.Units.{stored_size}
use Rattle.osc_core.specs.Frames.{framed}
use Rattle.osc_core.specs.Stored.{IsStored}
use Rattle.osc_core.proofs.Storing.{length-framed}
use Rattle.osc_core.proofs.Stocks.{stored_messages}
use Rattle.osc_core.proofs.store.Store.put.Goals as goal

pub unreachable-requires : goal.unreachable-requires
unreachable-requires c =
    let size = ap length (c.deref.ensures.value ∙ c.spell.ensures.items) ∙ length-framed c.args.unit.now.messages in
    let full = c.in-Err.ensures.full.0 refl in
    omega (arith, c.requires, ap used_blocks c.self.view_is, ap length c.self.view_is, ap blocks_for size)

pub returns-2-clause-value : goal.returns-2-clause-value
returns-2-clause-value c =
    let one : Stored = record { tag = c.tag-2.result; chain = c.in-Ok.chain } in
    let is : IsStored c.store.new.self one = record {
      messages = c.args.unit.now.messages;
      live = ap length c.in-Ok.ensures.stored ∙ sym c.in-Ok.ensures.len;
      holds = c.in-Ok.ensures.stored ∙ c.deref.ensures.value ∙ c.spell.ensures.items;
      read = c.spell.ensures.read;
      small = c.spell.ensures.small;
    } in
    ap (λ (l : List (List ℕ)). record { tag = c.tag-2.result; messages = l }) (stored_messages is)
    ∙ ap (λ (n : ℕ). record { tag = n; messages = c.args.unit.now.messages }) c.tag-2.ensures

pub returns-2-clause-used : goal.returns-2-clause-used
returns-2-clause-used c =
    let size = ap length (c.deref.ensures.value ∙ c.spell.ensures.items) ∙ length-framed c.args.unit.now.messages in
    omega (arith, c.in-Ok.ensures.used, ap used_blocks c.self.view_is, ap blocks_for size)

pub returns-clause-value : goal.returns-clause-value
returns-clause-value c =
    let one : Stored = record { tag = c.tag.result; chain = c.store_pair.result } in
    let alone : c.args.unit.now.messages ≡ c.in-Some.message.now ∷ [] = c.in-Some.ensures.value in
    let is : IsStored c.store_pair.new.self one = record {
      messages = c.args.unit.now.messages;
      live = ap length c.store_pair.ensures.stored ∙ sym c.store_pair.ensures.len;
      holds = c.store_pair.ensures.stored ∙ ap (λ (h : List ℕ). h ++ c.in-Some.message.now) c.to_be_bytes-size.ensures
          ∙ ap (λ (l : List ℕ). word (length c.in-Some.message.now) ++ l) (sym (append-nil c.in-Some.message.now)) ∙ ap framed (sym alone);
      read = search rules;
      small = search rules;
    } in
    ap (λ (l : List (List ℕ)). record { tag = c.tag.result; messages = l }) (stored_messages is)
    ∙ ap (λ (n : ℕ). record { tag = n; messages = c.args.unit.now.messages }) c.tag.ensures

pub returns-clause-used : goal.returns-clause-used
returns-clause-used c =
    let size : stored_size c.args.unit.now.messages ≡ 4 + length c.in-Some.message.now + 0 = ap stored_size c.in-Some.ensures.value in
    omega (arith, c.store_pair.ensures.used, ap used_blocks c.self.view_is, c.if-message-le-MOST_BESIDE.true)
