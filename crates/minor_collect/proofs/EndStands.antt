-- The end of a minor collection: the parts stand for the store that it leaves.
use Rattle.std.proofs.Common.{◌≡◌, ◌≢◌, ℕ, zero, suc, ◌+◌, ◌<◌, ◌≤◌, Bool, true, false, IsTrue, List, [], ◌∷◌, ◌++◌, map, length, nat_eq, Option, Some, None, refl, sym, ap, ap₂, ◌∙◌, subst, inl, inr, arith}
use Rattle.std.specs.Prelude.{not, ◌&&◌, ◌||◌, ◌==◌, filter_map, flat_map, is_some, nat_lt, sum_by, slice_get, option_and_then}
use Rattle.std.specs.List.{list_any, IsDistinct, cons_option}
use Rattle.std.specs.List.Sorted.{IsPermutation}
use Rattle.std.proofs.lemmas.Bool.{eq-eqb}
use Rattle.std.proofs.lemmas.Bool.Decides.{eqb_tells}
use Rattle.std.proofs.lemmas.List.Sorted.{IsPermutation-trans, length_permutation}
use Rattle.type_table.specs.declared.info.TypeInfo.{TypeInfo}
use Rattle.type_table.specs.Table.{Table}
use Rattle.heap_space.specs.Places.{word_at}
use Rattle.nursery_gaps.specs.Ranges.{words_between}
use Rattle.nursery_gaps.specs.Nursery.{Layout as NurseryLayout}
use Rattle.object_header.specs.Words.{has_flag}
use Rattle.object_header.specs.declared.flags.Flag.TheVariants.{HasShadow, Visited, HasCards}
use Rattle.object_model.proofs.Members.{is_in-head, is_in-tail, is_in-cases, is_in-nil, filter-part, filter-member, in-left, in-right, or_cases, or_first, or_second, is_in-named}
use Rattle.object_view.proofs.FoundLaws.{found-at, ref-from, length-refs, kept_words-held}
use Rattle.object_view.proofs.LayoutLaws.{info_at-same}
use Rattle.text_model.specs.declared.line.Phase.{Phase}
use Rattle.text_model.specs.declared.line.Phase.TheVariants.{Scanning, Marking, Sweeping, Finalizing}
use Rattle.object_model.specs.Sets.{is_in, AreDifferent}
use Rattle.object_model.specs.Object.{Object, kept_words}
use Rattle.store_model.specs.Store.{Store, husk_words, settled_words, unsettled_words}
use Rattle.object_model.specs.Fields.{refs_of}
use Rattle.object_model.specs.Layout.{Layout}
use Rattle.store_model.specs.Structs.{Structs}
use Rattle.object_model.specs.ObjectWords.{renamed, layout_at, words_at, object_from}
use Rattle.object_model.specs.Holds.{HoldsObjects}
use Rattle.store_model.specs.Reach.{Tells}
use Rattle.store_model.specs.MarkingOrder.{IsItem, YoungHeld}
use Rattle.store_model.specs.MinorCollection.{Survives, vanishes, settles, after_minor}
use Rattle.remember_cards.specs.Remembered.{Held, Remembered, is_held_of, is_held_whole, holds_item}
use Rattle.heap_parts.specs.Parts.{HeapParts, home_in, pinned_places}
use Rattle.heap_parts.specs.Places.{is_young, young_places, old_places, OfFirsts, block_at}
use Rattle.heap_parts.specs.OldSpace.{reserved_homes}
use Rattle.heap_parts.specs.Headers.{is_marked, keeps_cards}
use Rattle.remember_cards.specs.Tracking.{IsTracked}
use Rattle.heap_parts.specs.Lists.{HoldsLinks, named_entries, named_queues}
use Rattle.heap_parts.specs.StandsFor.{PartsStandFor, PartsStandButYoung, HoldsHeaders, HoldsYoungFlags, HoldsRemembered, HoldsSums}
use Rattle.birth_laws.proofs.BirthNames.{entries-names, listed}
use Rattle.frame_laws.proofs.Births.{rise-differ}
use Rattle.frame_laws.proofs.HeldLaws.{held_settled}
use Rattle.frame_laws.proofs.PlaceLaws.{young-is_in, old-is_in, is_in-young, is_in-old, named-by, placed_words}
use Rattle.frame_laws.proofs.KeepWords.{firsts-stay}
use Rattle.heap_parts.proofs.SameLayouts.{SameLayouts, sum-same}
use Rattle.minor_collect.specs.Carried.{Moved}
use Rattle.minor_collect.specs.Midway.{Midway, Changing, with_changing, Owes, is_lasting, Placing, OwesNone}
use Rattle.minor_collect.specs.Ending.{Completes, ended_parts, left_places, stays}
use Rattle.minor_collect.proofs.Ended.{survivors_told, old_stay, young_pinned, remains, forgotten, settled-there, settled-lasts, refs_lead, no_both}
use Rattle.minor_collect.proofs.EndObjects.{end_objects, cleared-first, cleared-keeps}
use Rattle.object_model.proofs.SameMembers.{same_members, names_differ, part_differs}
use Rattle.minor_collect.proofs.EndNursery.{end_nursery}
use Rattle.minor_collect.proofs.EndBirths.{settled_end, rise_part, end_sums, part_words}
use Rattle.minor_collect.proofs.EndHomes.{end_homes}
use Rattle.minor_collect.proofs.EndLinks.{end_links}
use Rattle.minor_collect.proofs.EndOrder.{MinorChange, minor_in_order}
use Rattle.store_model.proofs.MinorSound.{minor_sound, minor_links_sound}
use Rattle.minor_collect.proofs.SameSurvivors.{tells_survives}
use Rattle.store_model.proofs.Survives.{where_in}
use Rattle.store_model.proofs.StoreAfter.{item_before}

-- first words of fewer places
pub firsts-fewer : {P : ℕ → ℕ → Type 0} {ps qs : List ℕ} {w : ℕ → ℕ} → ((p : ℕ) → IsTrue (is_in p qs) → IsTrue (is_in p ps)) → OfFirsts P ps w → OfFirsts P qs w
firsts-fewer part h = record { each = λ p t. h.each p (part p t) }

-- a value that a partial function gives to one of some places
pub record GivenBy (f : ℕ → Option ℕ) (ps : List ℕ) (a : ℕ) : Type 0 where
  pub place : ℕ
  pub there : IsTrue (is_in place ps)
  pub gives : f place ≡ Some a

given-later : (f : ℕ → Option ℕ) (p a : ℕ) (ps : List ℕ) → GivenBy f ps a → GivenBy f (p ∷ ps) a
given-later f p a ps g = record { place = g.place; there = is_in-tail g.place p ps g.there; gives = g.gives }

pub given-by : (f : ℕ → Option ℕ) (ps : List ℕ) (a : ℕ) → IsTrue (is_in a (filter_map f ps)) → GivenBy f ps a
given-by f [] a t = absurd (is_in-nil a t)
given-by f (p ∷ ps) a t = go (λ u. given-by f ps a u) (f p) refl t
  where
    go : (IsTrue (is_in a (filter_map f ps)) → GivenBy f ps a) → (o : Option ℕ) → f p ≡ o → IsTrue (is_in a (cons_option o (filter_map f ps))) → GivenBy f (p ∷ ps) a
    go more None e u = given-later f p a ps (more u)
    go more (Some b) e u = elim (is_in-cases a b (filter_map f ps) u) [
      | inl is ↦ record { place = p; there = is_in-head p ps; gives = e ∙ ap Some (sym is) }
      | inr v ↦ given-later f p a ps (more v)
    ]

pub gives-in : (f : ℕ → Option ℕ) (ps : List ℕ) (p a : ℕ) → IsTrue (is_in p ps) → f p ≡ Some a → IsTrue (is_in a (filter_map f ps))
gives-in f [] p a t e = absurd (is_in-nil p t)
gives-in f (q ∷ ps) p a t e = elim (is_in-cases p q ps t) [
  | inl is ↦ subst (λ (o : Option ℕ). IsTrue (is_in a (cons_option o (filter_map f ps)))) (sym (ap f (sym is) ∙ e)) (is_in-head a (filter_map f ps))
  | inr u ↦ later (f q) (gives-in f ps p a u e)
]
  where
    later : (o : Option ℕ) → IsTrue (is_in a (filter_map f ps)) → IsTrue (is_in a (cons_option o (filter_map f ps)))
    later None u = u
    later (Some b) u = is_in-tail a b (filter_map f ps) u

-- an object that is held whole is held in each item, by its name
held-item : (r : Remembered) (name : ℕ → ℕ) (q i : ℕ) → IsTrue (is_held_whole r q) → IsTrue (is_held_of r name (name q) i)
held-item r name q i t = go r.held t
  where
    both : (h : Held) → IsTrue (h.place == q && h.is_whole) → IsTrue (name h.place == name q && holds_item r.card h i)
    both h u = elim (eqb_tells h.place q) [
      | inl e ↦
          let whole : IsTrue h.is_whole = subst (λ (b : Bool). IsTrue (b && h.is_whole)) e.0 u in
          let named : (name h.place == name q) ≡ true = eq-eqb (name h.place) (name q) (ap name e.1) in
          rw (named, whole) refl
      | inr e ↦ absurd (let f : (h.place == q && h.is_whole) ≡ false = rw e.0 refl in no_both (h.place == q && h.is_whole) u f)
    ]

    go : (hs : List Held) → IsTrue (list_any (λ (h : Held). h.place == q && h.is_whole) hs) → IsTrue (list_any (λ (h : Held). name h.place == name q && holds_item r.card h i) hs)
    go [] u = absurd (let no : ⊥ = cc in no)
    go (h ∷ hs) u = elim (or_cases (h.place == q && h.is_whole) (list_any (λ (k : Held). k.place == q && k.is_whole) hs) u) [
      | inl here ↦ or_first (name h.place == name q && holds_item r.card h i) _ (both h here)
      | inr more ↦ or_second (name h.place == name q && holds_item r.card h i) _ (go hs more)
    ]

-- an item of an object in words
pub record ItemWord (types : Table TypeInfo) (w name : ℕ → ℕ) (q i y : ℕ) : Type 0 where
  pub within : i < (layout_at types w q).ref_count
  pub some : w ((layout_at types w q).ref_start + i) ≢ 0
  pub named : name (w ((layout_at types w q).ref_start + i)) ≡ y

get-within : (refs : List (Option ℕ)) (i : ℕ) (r : Option ℕ) → slice_get refs i ≡ Some r → i < length refs
get-within [] i r e = absurd (let no : ⊥ = cc in no)
get-within (x ∷ refs) zero r e = omega arith
get-within (x ∷ refs) (suc i) r e = let more = get-within refs i r e in omega (arith, more)

renamed-is : (name : ℕ → ℕ) (x y : ℕ) → renamed name x ≡ Some y → (x ≢ 0) × (name x ≡ y)
renamed-is name x y e = elim (eqb_tells x 0) [
  | inl z ↦ absurd (let bad : None ≡ Some y = (let f : renamed name x ≡ None = rw z.0 refl in sym f) ∙ e in let no : ⊥ = cc in no)
  | inr n ↦ (n.1, let same : Some (name x) ≡ Some y = (let f : renamed name x ≡ Some (name x) = rw n.0 refl in sym f) ∙ e in let inj : name x ≡ y = cc in inj)
]

pub item-word : {types : Table TypeInfo} {w name : ℕ → ℕ} {met places : List ℕ} {kept : List Object} (q i y : ℕ) → HoldsObjects types w met places name kept
    → IsTrue (is_in q places) → IsItem kept (name q) i y → ItemWord types w name q i y
item-word {types = types} {w = w} {name = name} q i y h t e =
    let o : Object = object_from types name w q in
    let get : slice_get o.refs i ≡ Some (Some y) = sym (ap (λ (f : Option Object). slice_get (refs_of f) i) (found-at q h t)) ∙ e in
    let l : i < (layout_at types w q).ref_count = omega (arith, get-within o.refs i (Some y) get, length-refs types name w q) in
    let is = renamed-is name (w ((layout_at types w q).ref_start + i)) y
    (sym (ref-from types name w q i l) ∙ ap (λ (r : Option (Option ℕ)). option_and_then (λ (b : Option ℕ). b) r) get) in
    record { within = l; some = is.0; named = is.1 }

map-join : (name : ℕ → ℕ) (xs ys : List ℕ) → map name xs ++ map name ys ≡ map name (xs ++ ys)
map-join name [] ys = refl
map-join name (x ∷ xs) ys = ap (λ (zs : List ℕ). name x ∷ zs) (map-join name xs ys)

names-of-queues : (name : ℕ → ℕ) (qs : Table (List ℕ)) → flat_map (λ (e : ℕ × List ℕ). e.1) (named_queues name qs) ≡ map name (flat_map (λ (e : ℕ × List ℕ). e.1) qs)
names-of-queues name [] = refl
names-of-queues name (e ∷ qs) = ap (λ (xs : List ℕ). map name e.1 ++ xs) (names-of-queues name qs) ∙ map-join name e.1 (flat_map (λ (k : ℕ × List ℕ). k.1) qs)

no-pins : (es : List (ℕ × ℕ)) → nat_lt 0 (length es) ≡ false → map (λ (e : ℕ × ℕ). e.0) es ≡ []
no-pins [] e = refl
no-pins (x ∷ es) e = absurd (let l : 0 < length (x ∷ es) = omega arith in let no : ⊥ = search (arith, e) in no)

module _ {start : HeapParts} {store : Store} {now new : Changing} {held : List ℕ} {owes : Owes} {moved : Moved} {nursery : NurseryLayout} {unsettled old_words : ℕ}
    (s : PartsStandButYoung start store) (young_held : YoungHeld store.kept store.settled (is_held_of start.remembered s.name))
    {placing : Placing} (mid : Midway start store (is_held_of start.remembered s.name) now placing [] held [] owes moved []) (none : OwesNone owes)
    (c : Completes start store (is_held_of start.remembered s.name) now held owes moved placing mid (map s.name start.gray) new nursery unsettled old_words) where
  abbrev types : Table TypeInfo
  types = start.setup.types

  abbrev w : ℕ → ℕ
  w = word_at now.memory.blocks

  abbrev v : ℕ → ℕ
  v = word_at new.memory.blocks

  abbrev survives : ℕ → Bool
  survives x = is_in x placing.found

  abbrev remain : List ℕ
  remain = left_places store placing.found placing.name placing.places

  abbrev after : Store
  after = after_minor store (λ x. is_in x placing.found)

  pub tells : Tells (λ x. is_in x placing.found) (Survives store)
  tells = tells_survives store (is_held_of start.remembered s.name) mid.words.objects young_held (λ x. is_in x placing.found) (survivors_told mid.words.objects mid.words.moving mid.follows none)

  pub old-stay : old_places (left_places store placing.found placing.name placing.places) ≡ old_places placing.places
  old-stay = old_stay mid.words.objects mid.words.moving mid.follows none

  in-places : (p : ℕ) → IsTrue (is_in p (left_places store placing.found placing.name placing.places)) → IsTrue (is_in p placing.places)
  in-places p t = (filter-part (λ q. stays store (λ x. is_in x placing.found) (placing.name q)) placing.places p t).0

  in-young : (p : ℕ) → IsTrue (is_in p (young_places (left_places store placing.found placing.name placing.places))) → IsTrue (is_in p (young_places placing.places))
  in-young p t = let y = young-is_in (left_places store placing.found placing.name placing.places) p t in is_in-young placing.places p (in-places p y.0) y.1

  remaining-one : (p : ℕ) → IsTrue (is_in p placing.places) → IsTrue (is_lasting (pinned_places start) p) → IsTrue (is_in p (left_places store placing.found placing.name placing.places))
  remaining-one p t l = remains mid.words.objects mid.words.moving mid.follows none p t l

  pin-remains : (p : ℕ) → IsTrue (is_in p (pinned_places start)) → IsTrue (is_in p (young_places (left_places store placing.found placing.name placing.places)))
  pin-remains p t =
      let y = young-is_in placing.places p (mid.pins.there p t) in
      is_in-young (left_places store placing.found placing.name placing.places) p (remaining-one p y.0 (rw (y.1, t) refl)) y.1

  young-pin : (p : ℕ) → IsTrue (is_in p (young_places (left_places store placing.found placing.name placing.places))) → IsTrue (is_in p (pinned_places start))
  young-pin p t = young_pinned mid.words.objects mid.words.moving mid.follows none p t

  -- the pinned objects are those that are left in the nursery
  pins-young : IsPermutation (pinned_places start) (young_places (left_places store placing.found placing.name placing.places))
  pins-young =
      let differ : AreDifferent placing.places = names_differ placing.name placing.places (rise-differ 1 start.next (map placing.name placing.places) mid.rise) in
      same_members (pinned_places start) (young_places (left_places store placing.found placing.name placing.places))
      (names_differ placing.name (pinned_places start) (subst (IsDistinct nat_eq) (listed mid.pins).named s.sound.pins.differ))
      (part_differs is_young (left_places store placing.found placing.name placing.places) (part_differs (λ p. stays store (λ x. is_in x placing.found) (placing.name p)) placing.places differ))
      pin-remains young-pin

  first : (p : ℕ) → IsTrue (is_in p (left_places store placing.found placing.name placing.places)) → word_at new.memory.blocks p ≡ word_at now.memory.blocks p
  first p t = cleared-first (c.cleared p t)

  -- the objects
  pub objects : HoldsObjects start.setup.types (word_at new.memory.blocks) (left_places store placing.found placing.name placing.places) (left_places store placing.found placing.name placing.places) placing.name (after_minor store (λ x. is_in x placing.found)).kept
  objects = end_objects (stays store (λ x. is_in x placing.found)) (vanishes store (λ x. is_in x placing.found)) mid.words.objects
      (refs_lead mid.words.objects mid.words.moving mid.follows none young_held) c.cleared

  settled-after : (after_minor store (λ x. is_in x placing.found)).settled ≡ map placing.name (old_places (left_places store placing.found placing.name placing.places))
  settled-after = settled_end mid.words.objects mid.follows (listed mid.pins) s.sound.pins.unsettled ∙ ap (map placing.name) (sym old-stay)

  settled-mid : (after_minor store (λ x. is_in x placing.found)).settled ≡ map placing.name (old_places placing.places)
  settled-mid = settled_end mid.words.objects mid.follows (listed mid.pins) s.sound.pins.unsettled

  marked-same : (phase : Phase) (p : ℕ) → IsTrue (is_in p (old_places placing.places)) → is_marked phase store.visited placing.name start.setup.settings.page placing.waiting p ≡ is_marked phase store.visited placing.name start.setup.settings.page c.waiting p
  marked-same Scanning p t = refl
  marked-same Marking p t = refl
  marked-same Sweeping p t = sym (c.waits p t)
  marked-same Finalizing p t = refl

  reserved-before : (a : ℕ) → IsTrue (is_in a (reserved_homes (home_in (with_changing start new)) (young_places (left_places store placing.found placing.name placing.places))))
      → IsTrue (is_in a (reserved_homes (home_in (with_changing start now)) (young_places placing.places)))
  reserved-before a t =
      let g = given-by (home_in (with_changing start new)) (young_places (left_places store placing.found placing.name placing.places)) a t in
      gives-in (home_in (with_changing start now)) (young_places placing.places) g.place a (in-young g.place g.there) (sym (c.homes_keep g.place (young-pin g.place g.there)) ∙ g.gives)

  old-mid : (p : ℕ) → IsTrue (is_in p (old_places (left_places store placing.found placing.name placing.places))) → IsTrue (is_in p (old_places placing.places))
  old-mid p t = subst (λ (ps : List ℕ). IsTrue (is_in p ps)) old-stay t

  old-first : (p : ℕ) → IsTrue (is_in p (old_places (left_places store placing.found placing.name placing.places))) → word_at new.memory.blocks p ≡ word_at now.memory.blocks p
  old-first p t = first p (old-is_in (left_places store placing.found placing.name placing.places) p t).0

  young-first : (p : ℕ) → IsTrue (is_in p (young_places (left_places store placing.found placing.name placing.places))) → word_at new.memory.blocks p ≡ word_at now.memory.blocks p
  young-first p t = first p (young-is_in (left_places store placing.found placing.name placing.places) p t).0

  headers : HoldsHeaders (word_at new.memory.blocks) (home_in (with_changing start new)) (left_places store placing.found placing.name placing.places) placing.husks
  headers = record {
    settled = firsts-stay (word_at new.memory.blocks) old-first (firsts-fewer old-mid mid.headers.settled);
    husk = firsts-stay (word_at new.memory.blocks) c.husk_firsts mid.headers.husk;
    shadow = firsts-stay (word_at new.memory.blocks) c.shadow_firsts (firsts-fewer reserved-before mid.headers.shadow);
    young = firsts-stay (word_at new.memory.blocks) young-first (firsts-fewer in-young mid.headers.young);
  }

  young-flags : HoldsYoungFlags (word_at new.memory.blocks) (home_in (with_changing start new)) start.pins (left_places store placing.found placing.name placing.places)
  young-flags = record {
    pinned = firsts-stay (word_at new.memory.blocks) young-first (firsts-fewer in-young mid.young_flags.pinned);
    has_shadow = record {
      each = λ p t. ap (λ (k : ℕ). has_flag k HasShadow) (young-first p t)
          ∙ (mid.young_flags.has_shadow.each p (in-young p t) ∙ ap is_some (sym (c.homes_keep p (young-pin p t))));
    };
  }

  -- a settled object of the store before is still where it was, and stays
  settled-remains : (p : ℕ) → IsTrue (is_in p placing.met) → IsTrue (is_in (placing.name p) store.settled) → IsTrue (is_in p (left_places store placing.found placing.name placing.places))
  settled-remains p t e =
      let there = settled-there mid.words.objects mid.words.moving mid.follows none p e (mid.words.moving.each p t) t in
      remaining-one p there (settled-lasts mid.words.objects mid.words.moving mid.follows none p e there)

  waits-settled : (p : ℕ) → IsTrue (is_in p (map (λ (e : ℕ × ℕ). e.0) start.chosen)) → IsTrue (is_in (placing.name p) store.settled)
  waits-settled p t = s.sound.waiting (placing.name p) (in-first (map (λ (e : ℕ × ℕ). e.0) store.chosen) (flat_map (λ (e : ℕ × List ℕ). e.1) store.queues)
      (subst (λ (l : List ℕ). IsTrue (is_in (placing.name p) l)) (sym (ap (map (λ (e : ℕ × ℕ). e.0)) mid.chosen_are.named ∙ entries-names placing.name start.chosen)) (is_in-named placing.name p _ t)))
    where
      in-first : (xs ys : List ℕ) → IsTrue (is_in (placing.name p) xs) → IsTrue (is_in (placing.name p) (xs ++ ys))
      in-first xs ys u = in-left (placing.name p) xs ys u

  queued-settled : (p : ℕ) → IsTrue (is_in p (flat_map (λ (e : ℕ × List ℕ). e.1) start.queues)) → IsTrue (is_in (placing.name p) store.settled)
  queued-settled p t = s.sound.waiting (placing.name p) (in-right (placing.name p) (map (λ (e : ℕ × ℕ). e.0) store.chosen) (flat_map (λ (e : ℕ × List ℕ). e.1) store.queues)
      (subst (λ (l : List ℕ). IsTrue (is_in (placing.name p) l)) (sym (ap (flat_map (λ (e : ℕ × List ℕ). e.1)) mid.queues_are.named ∙ names-of-queues placing.name start.queues)) (is_in-named placing.name p _ t)))

  settled-stay : (x : ℕ) → IsTrue (is_in x store.settled) → IsTrue (is_in x (after_minor store (λ z. is_in z placing.found)).settled)
  settled-stay x t = where_in store.kept (λ z. is_in z store.settled || settles store (λ k. is_in k placing.found) z) x (s.sound.settled x t) (rw t refl)

  -- an item of what is settled from now on, with what it refers to
  young-after : YoungHeld (after_minor store (λ x. is_in x placing.found)).kept (after_minor store (λ x. is_in x placing.found)).settled (is_held_of new.remembered placing.name)
  young-after x i y t e =
      let n = named-by placing.name x (old_places placing.places) (subst (λ (l : List ℕ). IsTrue (is_in x l)) settled-mid t) in
      let q : ℕ = n.place in
      let there = old-is_in placing.places q n.there in
      let before : IsItem store.kept (placing.name q) i y = subst (λ (k : ℕ). IsItem store.kept k i y) n.is
      (item_before store.kept (stays store (λ z. is_in z placing.found)) (vanishes store (λ z. is_in z placing.found)) x i y e) in
      let it = item-word q i y mid.words.objects there.0 before in
      let to : ℕ = word_at now.memory.blocks ((layout_at start.setup.types (word_at now.memory.blocks) q).ref_start + i) in
      let old-settled : IsTrue (is_in to placing.places) → is_young to ≡ false → IsTrue (is_in y (after_minor store (λ z. is_in z placing.found)).settled) =
      λ u f. subst (λ (l : List ℕ). IsTrue (is_in y l)) (sym settled-mid) (subst (λ (k : ℕ). IsTrue (is_in k (map placing.name (old_places placing.places)))) it.named
      (is_in-named placing.name to (old_places placing.places) (is_in-old placing.places to u f))) in
      elim (mid.follows.looked q i there.0 (rw there.1 refl) it.within) [
        | inl todo ↦ absurd (is_in-nil q todo)
        | inr (inl owed) ↦ absurd (no_both (owes.items q i) owed (none.items q i))
        | inr (inr (inl forgot)) ↦
            let settled = forgotten mid.words.objects mid.words.moving mid.follows none q i to young_held there.0 it.within refl forgot.0 forgot.1 it.some in
            inl (settled-stay y (subst (λ (k : ℕ). IsTrue (is_in k store.settled)) it.named settled))
        | inr (inr (inr (inl z))) ↦ absurd (it.some z)
        | inr (inr (inr (inr (inl old)))) ↦ inl (old-settled old.0 old.1)
        | inr (inr (inr (inr (inr pin)))) ↦ inr (subst (λ (k : ℕ). IsTrue (is_held_of new.remembered placing.name k i)) (sym n.is) (held-item new.remembered placing.name q i (c.held_whole q pin.1.1)))
      ]

  pub after-order : MinorChange store.kept (after_minor store (λ x. is_in x placing.found)).kept store.settled (after_minor store (λ x. is_in x placing.found)).settled store.visited
      (map s.name start.gray) (map placing.name new.gray) (is_held_of start.remembered s.name) (is_held_of new.remembered placing.name)
  after-order = record {
    items = λ x i y e. item_before store.kept (stays store (λ z. is_in z placing.found)) (vanishes store (λ z. is_in z placing.found)) x i y e;
    settled_stay = settled-stay;
    young = young-after;
    queued = λ x i y vis r e t. c.queued x i y vis r (item_before store.kept (stays store (λ z. is_in z placing.found)) (vanishes store (λ z. is_in z placing.found)) x i y e)
        (subst (λ (l : List ℕ). IsTrue (is_in y l)) settled-mid t);
    more = c.gray_more;
    gray_from = λ y g. elim (c.gray_from y g) [
      | inl old ↦ inl old
      | inr comes ↦ inr (record { from = comes.from; visits = comes.visits; refers = comes.refers; now_settled = subst (λ (l : List ℕ). IsTrue (is_in y l)) (sym settled-mid) comes.now_settled })
    ];
    held_settled = held_settled new.remembered placing.name (old_places placing.places) (after_minor store (λ x. is_in x placing.found)).settled settled-mid
        (λ q t. mid.marked.there q (subst (λ (r : Remembered). IsTrue (is_in q (map (λ (h : Held). h.place) r.held))) c.remembered_is t));
  }

  some-pins : length store.pinned ≡ length start.pins
  some-pins = ap length mid.pins.named ∙ long start.pins
    where
      long : (es : List (ℕ × ℕ)) → length (named_entries placing.name es) ≡ length es
      long [] = refl
      long (e ∷ es) = ap suc (long es)

  no-places : (sorted : List ℕ) → (pinned_places start) ≡ [] → IsPermutation sorted (pinned_places start) → sorted ≡ []
  no-places [] e same = refl
  no-places (p ∷ sorted) e same = absurd (let long : length (p ∷ sorted) ≡ length (pinned_places start) = sym (length_permutation (p ∷ sorted) (pinned_places start) same) in
      let short : length (pinned_places start) ≡ 0 = ap length e in let zero_one : length (p ∷ sorted) ≡ length sorted + 1 = omega arith in omega (arith, long, short, zero_one))

  after-remembered : HoldsRemembered start.setup.types start.setup.settings.card (word_at new.memory.blocks) new.remembered (left_places store placing.found placing.name placing.places)
  after-remembered = record {
    there = λ q t. subst (λ (ps : List ℕ). IsTrue (is_in q ps)) (sym old-stay) (mid.marked.there q (subst (λ (r : Remembered). IsTrue (is_in q (map (λ (h : Held). h.place) r.held))) c.remembered_is t));
    tracked = firsts-stay (word_at new.memory.blocks) old-first (firsts-fewer old-mid (subst (λ (r : Remembered). OfFirsts (IsTracked r) (old_places placing.places) (word_at now.memory.blocks)) (sym c.remembered_is) mid.marked.tracked));
    carded = λ p t.
        let keeps = cleared-keeps (c.cleared p (old-is_in (left_places store placing.found placing.name placing.places) p t).0) in
        ap (λ (x : ℕ). has_flag x HasCards) (old-first p t) ∙ (mid.marked.carded p (old-mid p t)
        ∙ ap₂ (λ (i : TypeInfo) (l : Layout). keeps_cards start.setup.settings.card i.shape l.ref_count)
        (sym (info_at-same start.setup.types (word_at new.memory.blocks) (word_at now.memory.blocks) p keeps.type_stays)) (sym keeps.layout_stays));
  }

  same-layouts : SameLayouts start.setup.types (word_at new.memory.blocks) (word_at now.memory.blocks) (left_places store placing.found placing.name placing.places)
  same-layouts p t = cleared-keeps (c.cleared p t)

  after-sums : HoldsSums unsettled old_words 0 start.setup.settings.limit (after_minor store (λ x. is_in x placing.found)).kept (after_minor store (λ x. is_in x placing.found)).settled store.husks
  after-sums =
      let placed = placed_words store.settled s.words.objects s.births.settled_are in
      let all : kept_words store.kept ≡ sum_by (words_at start.setup.types (word_at now.memory.blocks)) placing.places = kept_words-held mid.words.objects in
      let old_sum : sum_by (words_at start.setup.types (word_at new.memory.blocks)) (old_places (left_places store placing.found placing.name placing.places))
      ≡ sum_by (words_at start.setup.types (word_at now.memory.blocks)) (old_places placing.places) =
      sum-same start.setup.types (word_at new.memory.blocks) (word_at now.memory.blocks) (old_places (left_places store placing.found placing.name placing.places))
      (λ p t. same-layouts p (old-is_in (left_places store placing.found placing.name placing.places) p t).0)
      ∙ ap (sum_by (words_at start.setup.types (word_at now.memory.blocks))) old-stay in
      let same : sum_by (words_at start.setup.types (word_at new.memory.blocks)) (left_places store placing.found placing.name placing.places)
      ≡ sum_by (words_at start.setup.types (word_at now.memory.blocks)) (left_places store placing.found placing.name placing.places) =
      sum-same start.setup.types (word_at new.memory.blocks) (word_at now.memory.blocks) (left_places store placing.found placing.name placing.places) same-layouts in
      let fewer : sum_by (words_at start.setup.types (word_at now.memory.blocks)) (left_places store placing.found placing.name placing.places)
      ≤ sum_by (words_at start.setup.types (word_at now.memory.blocks)) placing.places =
      part_words (words_at start.setup.types (word_at now.memory.blocks)) (λ p. stays store (λ x. is_in x placing.found) (placing.name p)) placing.places in
      let start_old : start.old_words ≡ settled_words store.kept store.settled + husk_words store.husks = s.sums.old_are in
      let start_unsettled : start.unsettled ≡ unsettled_words store.kept store.settled = s.sums.unsettled_are in
      let within : start.unsettled + start.old_words ≤ start.setup.settings.limit = s.sums.within in
      let moved_sum : sum_by (words_at start.setup.types (word_at now.memory.blocks)) (old_places placing.places) ≡ settled_words store.kept store.settled + moved.words = mid.moved_words in
      end_sums unsettled old_words (husk_words store.husks) start.setup.settings.limit (sum_by (words_at start.setup.types (word_at now.memory.blocks)) placing.places) objects settled-after c.unsettled_are
      (omega (arith, c.old_are, start_old, moved_sum, old_sum)) refl (omega (arith, same, fewer))
      (omega (arith, all, placed.all, placed.unsettled, placed.settled_are, start_old, start_unsettled, within))

  -- The parts stand for the store that the collection leaves.
  pub minor_stands : PartsStandFor (ended_parts start new nursery unsettled old_words) (after_minor store (λ x. is_in x placing.found))
  minor_stands =
      let layouts : SameLayouts start.setup.types (word_at new.memory.blocks) (word_at now.memory.blocks) (left_places store placing.found placing.name placing.places) = λ p t. cleared-keeps (c.cleared p t) in
      record {
        places = left_places store placing.found placing.name placing.places;
        name = placing.name;
        husks = placing.husks;
        waiting = c.waiting;
        words = record {
          objects = objects;
          whole = c.whole;
          weak = c.weak;
          young = end_nursery start.nursery c.sorted (young_places (left_places store placing.found placing.name placing.places)) c.nursery_is c.laid_out
              (IsPermutation-trans c.sorted (pinned_places start) (young_places (left_places store placing.found placing.name placing.places)) c.sorted_are pins-young)
              (λ p t. subst (λ (n : ℕ). p + n ≤ start.nursery.words + 1) (ap (λ (l : Layout). l.words) (sym (layouts p (young-is_in (left_places store placing.found placing.name placing.places) p t).0).layout_stays)) (mid.words.inside p (in-young p t)))
              c.nursery_whole;
          blocks = c.blocks;
          husk = c.husk;
        };
        headers = headers;
        young_flags = young-flags;
        visited = record { each = λ p t. ap (λ (k : ℕ). has_flag k Visited) (old-first p t) ∙ (mid.visited.each p (old-mid p t) ∙ marked-same start.phase p (old-mid p t)) };
        remembered = after-remembered;
        births = record { settled_are = settled-after; rise = rise_part placing.name (λ p. stays store (λ x. is_in x placing.found) (placing.name p)) 1 start.next placing.places mid.rise; next_high = s.births.next_high };
        slots = record {
          named = subst (λ (l : List ℕ). store.slots ≡ map (renamed placing.name) l) (sym c.slots_same) mid.slots.named;
          many = ap length c.slots_same ∙ mid.slots.many;
          pointers = λ p t. elim (c.slots_last p (subst (λ (l : List ℕ). IsTrue (is_in p l)) c.slots_same t)) [ inl z ↦ inl z | inr k ↦ inr (remaining-one p k.0 k.1) ];
        };
        pins = record { named = mid.pins.named; there = pin-remains };
        finalizers = record {
          registered_are = record {
            named = subst (λ (l : List (ℕ × ℕ)). store.registered ≡ named_entries placing.name l) (sym c.registered_same) mid.registered_are.named;
            there = λ p t. let k = c.registered_last p (subst (λ (l : List (ℕ × ℕ)). IsTrue (is_in p (map (λ (e : ℕ × ℕ). e.0) l))) c.registered_same t) in remaining-one p k.0 k.1;
          };
          chosen_are = record { named = mid.chosen_are.named; there = λ p t. settled-remains p (mid.chosen_are.there p t) (waits-settled p t) };
          queues_are = record { named = mid.queues_are.named; there = λ p t. settled-remains p (mid.queues_are.there p t) (queued-settled p t) };
          births_are = s.finalizers.births_are;
        };
        links = subst (λ (l : Structs). HoldsLinks l (left_places store placing.found placing.name placing.places) placing.name (after_minor store (λ x. is_in x placing.found)).structs (after_minor store (λ x. is_in x placing.found)).dead) (sym c.links_cut)
            (end_links placing.name c.dead (vanishes store (λ x. is_in x placing.found)) now.links placing.met (left_places store placing.found placing.name placing.places) store.structs store.dead mid.links_are c.dead_are
            (λ p t alive. filter-member (λ q. stays store (λ x. is_in x placing.found) (placing.name q)) placing.places p (c.links_there p t) (ap not (c.dead_are p t ∙ alive))));
        homes = end_homes (pinned_places start) (stays store (λ x. is_in x placing.found)) mid.homes old-stay young-pin c.homes_keep (λ p at e. let pin = c.homes_only p at e in (pin, pin-remains p pin));
        gray = λ p t. subst (λ (ps : List ℕ). IsTrue (is_in p ps)) (sym old-stay) (c.gray p t);
        gray_phase = c.gray_phase;
        sums = after-sums;
        husk_list = s.husk_list;
        counts = record {
          next_is = s.counts.next_is;
          threshold_is = s.counts.threshold_is;
          threshold_low = s.counts.threshold_low;
          threshold_high = s.counts.threshold_high;
          fresh_is = refl;
          phase_is = s.counts.phase_is;
          gapped_is = ap (nat_lt 0) some-pins;
        };
        ungapped = λ e.
            let no_pins : (pinned_places start) ≡ [] = no-pins start.pins e in
            let none_sorted : c.sorted ≡ [] = no-places c.sorted no_pins c.sorted_are in (
              ap (λ (n : NurseryLayout). n.gap) c.nursery_is,
              ap (λ (n : NurseryLayout). n.used) c.nursery_is ∙ (ap (map (block_at start.setup.types (word_at new.memory.blocks))) none_sorted
                  ∙ ap (λ (k : ℕ). words_between 1 k) (sym (ap (λ (n : NurseryLayout). n.cursor) c.nursery_is))),
            );
        units = c.units;
        made = c.made;
        order = minor_in_order after-order s.order s.sound.settled s.sound.unreached_cut_off;
        sound = minor_sound start.setup.settings store (λ x. is_in x placing.found) tells s.sound (minor_links_sound store (λ x. is_in x placing.found) s.sound.links);
      }
