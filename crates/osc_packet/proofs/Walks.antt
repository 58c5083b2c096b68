-- The steps of a walk through a packet.
use Rattle.std.proofs.Common.{◌≡◌, ℕ, zero, suc, ◌+◌, ◌-◌, ◌<◌, ◌≤◌, Bool, true, false, cond, List, [], ◌∷◌, ◌++◌, length, take, drop, Some, None, refl, sym}
use Rattle.std.proofs.Common.{◌∙◌, ap, subst, arith, append_assoc, append-nil}
use Rattle.std.specs.List.{filter, flat_map}
use Rattle.std.proofs.Math.Numerals.{sub-one}
use Rattle.osc_packet.specs.declared.walk.OpenBundle.{OpenBundle}
use Rattle.osc_packet.specs.Units.{TimedUnit}
use Rattle.osc_packet.specs.Wants.{part}
use Rattle.osc_packet.specs.Reading.{is_bundle, element_fault, body_fault, first_size, first_element, after_first, elements_in, bundle_read, enclosed_read}
use Rattle.osc_packet.specs.Walks.{bundle_at, units_from, IsWalk, IsNext}
use Rattle.osc_packet.proofs.Steps.{in_step, in_end}
use Rattle.osc_packet.proofs.Parts.{part_length, part_front, part_rest}
use Rattle.osc_packet.proofs.Bodies.{silent_step}

-- the units in the bundles among elements, by the first element
pub enclosed_step : (left effective : ℕ) (bytes : List ℕ) → 0 < length bytes
    → enclosed_read left effective bytes
    ≡ flat_map (bundle_read left (Some effective))
    (cond (is_bundle (first_element bytes)) (first_element bytes ∷ filter is_bundle (elements_in (after_first bytes)))
    (filter is_bundle (elements_in (after_first bytes))))
enclosed_step left effective bytes some = ap (λ (l : List (List ℕ)). flat_map (bundle_read left (Some effective)) (filter is_bundle l)) (in_step bytes some)

pub enclosed_end : (left effective : ℕ) (bytes : List ℕ) → length bytes ≡ 0 → enclosed_read left effective bytes ≡ []
enclosed_end left effective bytes none = ap (λ (l : List (List ℕ)). flat_map (bundle_read left (Some effective)) (filter is_bundle l)) (in_end bytes none)

-- what is known where a bundle is open
pub record Inner (bytes : List ℕ) (bundles : List OpenBundle) (depth place : ℕ) : Type 0 where
  pub order : place ≤ (bundle_at bundles (depth - 1)).end
  pub inside : (bundle_at bundles (depth - 1)).end ≤ length bytes
  pub silent : body_fault (element_fault (16 - depth) (Some (bundle_at bundles (depth - 1)).tag)) place (part bytes place (bundle_at bundles (depth - 1)).end)
      ≡ None
  pub rest : IsWalk bytes bundles (depth - 1) (bundle_at bundles (depth - 1)).end
  pub units : units_from bytes bundles depth place
      ≡ enclosed_read (16 - depth) (bundle_at bundles (depth - 1)).tag (part bytes place (bundle_at bundles (depth - 1)).end)
      ++ units_from bytes bundles (depth - 1) (bundle_at bundles (depth - 1)).end

pub inner : (bytes : List ℕ) (bundles : List OpenBundle) (depth place : ℕ) → 0 < depth → IsWalk bytes bundles depth place → Inner bytes bundles depth place
inner bytes bundles zero place some walk = absurd (omega arith)
inner bytes bundles (suc depth) place some walk = record {
  order = rw (sub-one (suc depth)) walk.0;
  inside = rw (sub-one (suc depth)) walk.1;
  silent = rw (sub-one (suc depth)) walk.2;
  rest = rw (sub-one (suc depth)) walk.3;
  units = rw (sub-one (suc depth)) refl;
}

-- the same, back
pub outer : (bytes : List ℕ) (bundles : List OpenBundle) (depth place : ℕ) → 0 < depth → place ≤ (bundle_at bundles (depth - 1)).end
    → (bundle_at bundles (depth - 1)).end ≤ length bytes
    → body_fault (element_fault (16 - depth) (Some (bundle_at bundles (depth - 1)).tag)) place (part bytes place (bundle_at bundles (depth - 1)).end) ≡ None
    → IsWalk bytes bundles (depth - 1) (bundle_at bundles (depth - 1)).end → IsWalk bytes bundles depth place
outer bytes bundles zero place some order inside silent rest = absurd (omega arith)
outer bytes bundles (suc depth) place some order inside silent rest =
    (rw (sub-one (suc depth)) at order, rw (sub-one (suc depth)) at inside, rw (sub-one (suc depth)) at silent, rw (sub-one (suc depth)) at rest)

-- at the end of a bundle what is around it goes on
pub left_bundle : (bytes : List ℕ) (bundles : List OpenBundle) (depth place : ℕ) → 0 < depth → IsWalk bytes bundles depth place
    → place ≡ (bundle_at bundles (depth - 1)).end
    → (units_from bytes bundles depth place ≡ units_from bytes bundles (depth - 1) place) × IsWalk bytes bundles (depth - 1) place
left_bundle bytes bundles depth place some walk ended =
    let here = inner bytes bundles depth place some walk in
    let none : length (part bytes place (bundle_at bundles (depth - 1)).end) ≡ 0 =
    omega (arith, part_length bytes place (bundle_at bundles (depth - 1)).end here.inside) in (
      here.units
          ∙ ap (λ (l : List TimedUnit). l ++ units_from bytes bundles (depth - 1) (bundle_at bundles (depth - 1)).end)
          (enclosed_end (16 - depth) (bundle_at bundles (depth - 1)).tag (part bytes place (bundle_at bundles (depth - 1)).end) none)
          ∙ ap (units_from bytes bundles (depth - 1)) (sym ended),
      subst (IsWalk bytes bundles (depth - 1)) (sym ended) here.rest,
    )

-- an element in the innermost bundle
pub record Element (bytes : List ℕ) (bundles : List OpenBundle) (depth place size : ℕ) (element : List ℕ) : Type 0 where
  pub order : place + 4 + size ≤ (bundle_at bundles (depth - 1)).end
  pub positive : 4 ≤ size
  pub inside : (bundle_at bundles (depth - 1)).end ≤ length bytes
  pub is : element ≡ part bytes (place + 4) (place + 4 + size)
  pub fine : element_fault (16 - depth) (Some (bundle_at bundles (depth - 1)).tag) (place + 4) element ≡ None
  pub walk : IsWalk bytes bundles depth (place + 4 + size)
  pub units : units_from bytes bundles depth place
      ≡ flat_map (bundle_read (16 - depth) (Some (bundle_at bundles (depth - 1)).tag)) (cond (is_bundle element) (element ∷ []) [])
      ++ units_from bytes bundles depth (place + 4 + size)

pub one_first : (f : List ℕ → List TimedUnit) (test : Bool) (x : List ℕ) (xs : List (List ℕ))
    → flat_map f (cond test (x ∷ xs) xs) ≡ flat_map f (cond test (x ∷ []) []) ++ flat_map f xs
one_first f true x xs = ap (λ (l : List TimedUnit). l ++ flat_map f xs) (sym (append-nil (f x)))
one_first f false x xs = refl

pub element_here : (bytes : List ℕ) (bundles : List OpenBundle) (depth place size : ℕ) (element : List ℕ) → 0 < depth → IsWalk bytes bundles depth place
    → place < (bundle_at bundles (depth - 1)).end
    → size ≡ first_size (part bytes place (bundle_at bundles (depth - 1)).end)
    → element ≡ take size (drop 4 (part bytes place (bundle_at bundles (depth - 1)).end)) → Element bytes bundles depth place size element
element_here bytes bundles depth place size element some walk more is_size is_element =
    let end : ℕ = (bundle_at bundles (depth - 1)).end in
    let left : ℕ = 16 - depth in
    let effective : ℕ = (bundle_at bundles (depth - 1)).tag in
    let own : List ℕ = part bytes place end in
    let here = inner bytes bundles depth place some walk in
    let long : length own ≡ end - place = part_length bytes place end here.inside in
    let filled : 0 < length own = omega arith in
    let step = silent_step (element_fault left (Some effective)) place own filled here.silent in
    let fits : place + 4 + size ≤ end = omega (arith, step.size.inside, step.size.positive, is_size) in
    let first_is : first_element own ≡ element = sym (is_element ∙ ap (λ (n : ℕ). take n (drop 4 own)) is_size) in
    let place_is : element ≡ part bytes (place + 4) (place + 4 + size) =
    is_element ∙ ap (take size) (part_rest bytes place end 4 (omega arith)) ∙ part_front bytes (place + 4) end size (omega arith) in
    let rest_is : after_first own ≡ part bytes (place + 4 + size) end =
    ap (λ (n : ℕ). drop n (drop 4 own)) (sym is_size) ∙ ap (drop size) (part_rest bytes place end 4 (omega arith))
    ∙ part_rest bytes (place + 4) end size (omega arith) in
    let rest_silent : body_fault (element_fault left (Some effective)) (place + 4 + size) (part bytes (place + 4 + size) end) ≡ None =
    ap (λ (l : List ℕ). body_fault (element_fault left (Some effective)) (place + 4 + size) l) (sym rest_is)
    ∙ ap (λ (n : ℕ). body_fault (element_fault left (Some effective)) (place + 4 + n) (after_first own)) is_size ∙ step.rest in
    let next : IsWalk bytes bundles depth (place + 4 + size) = outer bytes bundles depth (place + 4 + size) some fits here.inside rest_silent here.rest in
    let there = inner bytes bundles depth (place + 4 + size) some next in
    record {
      order = fits;
      positive = omega (arith, step.size.positive, is_size);
      inside = here.inside;
      is = place_is;
      fine = ap (element_fault left (Some effective) (place + 4)) (sym first_is) ∙ step.one;
      walk = next;
      units =
          here.units
          ∙ ap (λ (l : List TimedUnit). l ++ units_from bytes bundles (depth - 1) end)
          (enclosed_step left effective own filled
          ∙ one_first (bundle_read left (Some effective)) (is_bundle (first_element own)) (first_element own) (filter is_bundle (elements_in (after_first own)))
          ∙ ap (λ (l : List ℕ). flat_map (bundle_read left (Some effective)) (cond (is_bundle l) (l ∷ []) []) ++ enclosed_read left effective (after_first own))
          first_is
          ∙ ap (λ (l : List ℕ). flat_map (bundle_read left (Some effective)) (cond (is_bundle element) (element ∷ []) []) ++ enclosed_read left effective l)
          rest_is)
          ∙ append_assoc (flat_map (bundle_read left (Some effective)) (cond (is_bundle element) (element ∷ []) []))
          (enclosed_read left effective (part bytes (place + 4 + size) end)) (units_from bytes bundles (depth - 1) end)
          ∙ ap (λ (l : List TimedUnit). flat_map (bundle_read left (Some effective)) (cond (is_bundle element) (element ∷ []) []) ++ l) (sym there.units);
    }

-- before the end of a bundle stands a size and so many bytes
pub sized_here : (bytes : List ℕ) (bundles : List OpenBundle) (depth place : ℕ) → 0 < depth → IsWalk bytes bundles depth place
    → place < (bundle_at bundles (depth - 1)).end
    → (4 ≤ first_size (part bytes place (bundle_at bundles (depth - 1)).end))
    × (first_size (part bytes place (bundle_at bundles (depth - 1)).end) + 4 ≤ length (part bytes place (bundle_at bundles (depth - 1)).end))
sized_here bytes bundles depth place some walk more =
    let own : List ℕ = part bytes place (bundle_at bundles (depth - 1)).end in
    let here = inner bytes bundles depth place some walk in
    let filled : 0 < length own = omega (arith, part_length bytes place (bundle_at bundles (depth - 1)).end here.inside) in
    let step = silent_step (element_fault (16 - depth) (Some (bundle_at bundles (depth - 1)).tag)) place own filled here.silent in
    (omega (arith, step.size.positive), omega (arith, step.size.positive, step.size.inside))

-- a message is passed over
pub skipped_here : (bytes : List ℕ) (bundles : List OpenBundle) (depth place size : ℕ) (element : List ℕ) → Element bytes bundles depth place size element
    → is_bundle element ≡ false → units_from bytes bundles depth place ≡ units_from bytes bundles depth (place + 4 + size)
skipped_here bytes bundles depth place size element found test =
    found.units ∙ ap
    (λ (b : Bool). flat_map (bundle_read (16 - depth) (Some (bundle_at bundles (depth - 1)).tag)) (cond b (element ∷ []) [])
    ++ units_from bytes bundles depth (place + 4 + size)) test

-- a bundle is the next one
pub next_here : (bytes : List ℕ) (bundles : List OpenBundle) (first from depth place size : ℕ) (element : List ℕ) → 0 < depth → depth ≤ first
    → units_from bytes bundles first from ≡ units_from bytes bundles depth place
    → Element bytes bundles depth place size element → is_bundle element ≡ true
    → IsNext bytes bundles first from (record { place = place + 4; end = place + 4 + size; depth = depth })
next_here bytes bundles first from depth place size element some shallow same found test =
    let f : List ℕ → List TimedUnit = bundle_read (16 - depth) (Some (bundle_at bundles (depth - 1)).tag) in
    record {
      around = some;
      shallow = shallow;
      some = omega (arith, found.positive);
      inside = omega (arith, found.order, found.inside);
      bundle = ap is_bundle (sym found.is) ∙ test;
      silent = ap (element_fault (16 - depth) (Some (bundle_at bundles (depth - 1)).tag) (place + 4)) (sym found.is) ∙ found.fine;
      units =
          same ∙ found.units
          ∙ ap (λ (b : Bool). flat_map f (cond b (element ∷ []) []) ++ units_from bytes bundles depth (place + 4 + size)) test
          ∙ ap (λ (l : List TimedUnit). l ++ units_from bytes bundles depth (place + 4 + size)) (append-nil (f element))
          ∙ ap (λ (l : List ℕ). f l ++ units_from bytes bundles depth (place + 4 + size)) found.is;
      rest = found.walk;
    }
