-- The end of marking: births, lists, homes, and numbers.
use Rattle.std.proofs.Common.{◌≡◌, ◌≢◌, ℕ, suc, ◌+◌, ◌≤◌, ◌⊎◌, Bool, true, false, IsTrue, List, [], ◌∷◌, ◌++◌, map, length, length-append, Option, Some, None, refl, sym, ap, ap₂, ◌∙◌, subst, inl, inr, arith}
use Rattle.std.specs.Prelude.{not, ◌==◌, ◌&&◌, filter, filter_map, flat_map, option_map}
use Rattle.std.specs.List.{cons_option}
use Rattle.std.proofs.lemmas.Bool.{cases_Bool}
use Rattle.std.proofs.lemmas.Bool.Decides.{eqb_tells}
use Rattle.std.proofs.lemmas.List.{map-append, length-map}
use Rattle.std.proofs.lemmas.Simd.{map-map}
use Rattle.type_table.specs.declared.info.TypeInfo.{TypeInfo}
use Rattle.type_table.specs.Table.{Table, KeysRise}
use Rattle.heap_space.specs.Extents.{Extent}
use Rattle.object_model.proofs.Members.{is_in-head, is_in-tail, is_in-cases, is_in-nil, map-same, filter-part, filter-member, filter-agree, in-left, in-right, in-either, is_in-named}
use Rattle.object_view.proofs.LayoutLaws.{birth-from}
use Rattle.text_model.specs.declared.line.Fate.{Fate}
use Rattle.text_model.specs.declared.line.Fate.TheVariants as fate
use Rattle.object_model.specs.Object.{Object}
use Rattle.store_model.specs.Store.{Struct, Linked, Unlinked, Pending, is_settled}
use Rattle.object_model.specs.Sets.{is_in}
use Rattle.store_model.specs.Structs.{Structs, with_object, with_objects}
use Rattle.store_model.specs.Links.{cut_links, entry_after, link_end, link_ends, newly_dead, left_by, fate_of}
use Rattle.store_model.specs.Reach.{births_where}
use Rattle.object_model.specs.ObjectWords.{renamed, object_from, words_at}
use Rattle.object_model.specs.Holds.{HoldsObjects}
use Rattle.heap_parts.specs.Places.{is_young, young_places, old_places, RiseBetween, block_at, AreAmong}
use Rattle.heap_parts.specs.OldSpace.{blocks_of, reserved_blocks}
use Rattle.heap_parts.specs.Lists.{HoldsSlots, HoldsEntries, HoldsQueues, HoldsLinks, named_entries, named_queues}
use Rattle.heap_parts.specs.StandsFor.{HoldsBirths, HoldsHomes}
use Rattle.birth_laws.proofs.BirthNames.{rises-unnamed}
use Rattle.store_model.proofs.CutSound.{was_linked}
use Rattle.frame_laws.proofs.Births.{rise-lower}
use Rattle.frame_laws.proofs.PlaceLaws.{old-is_in, settled-old}
use Rattle.heap_phases.proofs.EndWords.{staying, losing, young_staying, old_staying}
use Rattle.frame_laws.proofs.Filters.{filter_at}

-- some of rising births rise
pub rise_filtered : (name : ℕ → ℕ) (test : ℕ → Bool) (ps : List ℕ) (least next : ℕ) → RiseBetween least (map name ps) next → RiseBetween least (map name (filter test ps)) next
rise_filtered name test [] least next rise = rise
rise_filtered name test (p ∷ ps) least next rise =
    let more = rise_filtered name test ps (name p + 1) next rise.1 in
    elim (cases_Bool (test p)) [
      | inl e ↦ rw e (rise.0, more)
      | inr e ↦ rw e (rise-lower least (name p + 1) next (map name (filter test ps)) (let up = rise.0 in omega (arith, up)) more)
    ]

-- tests one after the other
filter-both : (f g : ℕ → Bool) (xs : List ℕ) → filter (λ x. f x && g x) xs ≡ filter g (filter f xs)
filter-both f g [] = refl
filter-both f g (x ∷ xs) = go (f x) (g x) refl refl (filter-both f g xs)
  where
    go : (a b : Bool) → f x ≡ a → g x ≡ b → filter (λ y. f y && g y) xs ≡ filter g (filter f xs) → filter (λ y. f y && g y) (x ∷ xs) ≡ filter g (filter f (x ∷ xs))
    go true true a b more = rw a (rw b (ap (λ (ys : List ℕ). x ∷ ys) more))
    go true false a b more = rw a (rw b more)
    go false c a b more = rw a more

pub end_births : {types : Table TypeInfo} {w name : ℕ → ℕ} {met places : List ℕ} {kept : List Object} (gone : ℕ → Bool) (settled : List ℕ) (next : ℕ)
    → ((p : ℕ) → IsTrue (is_in p (young_places places)) → gone (name p) ≡ false) → HoldsObjects types w met places name kept
    → HoldsBirths places name settled next
    → HoldsBirths (staying gone name places) name (births_where kept (λ x. is_settled settled x && not (gone x))) next
end_births {types = types} {w = w} {name = name} {places = places} gone settled next young_stay h b =
    let test : ℕ → Bool = λ x. is_settled settled x && not (gone x) in
    let read : ℕ → Object = object_from types name w in
    let born : (p : ℕ) → IsTrue (is_in p places) → (read p).birth ≡ name p = λ p t. birth-from types name w p ∙ sym (h.named p t) in
    let settles : (p : ℕ) → IsTrue (is_in p places) → is_settled settled (name p) ≡ not (is_young p) = λ p t.
    ap (is_in (name p)) b.settled_are ∙ settled-old name places p t h.differ in
    let objects = ap (filter (λ (o : Object). test o.birth)) h.reads ∙ filter_at read (λ o. test o.birth) (λ p. test (name p)) places (λ p t. ap test (born p t)) in
    let passed : filter (λ p. test (name p)) places ≡ old_places (staying gone name places) =
    filter-agree (λ p. test (name p)) (λ p. not (is_young p) && not (gone (name p))) places (λ p t. ap (λ (b : Bool). b && not (gone (name p))) (settles p t))
    ∙ (filter-both (λ p. not (is_young p)) (λ p. not (gone (name p))) places ∙ sym (old_staying gone name places young_stay)) in
    let within : (p : ℕ) → IsTrue (is_in p (filter (λ p. test (name p)) places)) → IsTrue (is_in p places) = λ p t. (filter-part (λ q. test (name q)) places p t).0 in
    record {
      settled_are = ap (map (λ (o : Object). o.birth)) objects
          ∙ (map-map (λ (o : Object). o.birth) read (filter (λ p. test (name p)) places)
          ∙ (map-same (λ p. (read p).birth) name (filter (λ p. test (name p)) places) (λ p t. born p (within p t)) ∙ ap (map name) passed));
      rise = rise_filtered name (λ p. not (gone (name p))) places 1 next b.rise;
      next_high = b.next_high;
    }

-- slots, where what they hold stays
slot-birth : (name : ℕ → ℕ) (slots : List ℕ) (p : ℕ) → IsTrue (is_in p slots) → p ≢ 0 → IsTrue (is_in (name p) (filter_map (λ s. s) (map (renamed name) slots)))
slot-birth name [] p t full = absurd (is_in-nil p t)
slot-birth name (q ∷ slots) p t full = go (slot-birth name slots p) (eqb_tells q 0) (is_in-cases p q slots t)
  where
    go : (IsTrue (is_in p slots) → p ≢ 0 → IsTrue (is_in (name p) (filter_map (λ s. s) (map (renamed name) slots))))
        → (((q == 0) ≡ true) × (q ≡ 0)) ⊎ (((q == 0) ≡ false) × (q ≢ 0)) → (p ≡ q) ⊎ IsTrue (is_in p slots)
        → IsTrue (is_in (name p) (filter_map (λ s. s) (map (renamed name) (q ∷ slots))))
    go more (inl z) (inl is) = absurd (full (is ∙ z.1))
    go more (inl z) (inr u) = rw z.0 (more u full)
    go more (inr z) (inl is) = rw z.0 (subst (λ (k : ℕ). IsTrue (is_in k (name q ∷ filter_map (λ s. s) (map (renamed name) slots)))) (ap name (sym is)) (is_in-head (name q) (filter_map (λ s. s) (map (renamed name) slots))))
    go more (inr z) (inr u) = rw z.0 (is_in-tail (name p) (name q) (filter_map (λ s. s) (map (renamed name) slots)) (more u full))

pub end_slots : (gone : ℕ → Bool) (slots places : List ℕ) (name : ℕ → ℕ) (roots : ℕ) (stored : List (Option ℕ)) → ((x : ℕ) → IsTrue (is_in x (filter_map (λ s. s) stored)) → gone x ≡ false)
    → HoldsSlots slots places name roots stored → HoldsSlots slots (staying gone name places) name roots stored
end_slots gone slots places name roots stored stays h = record {
  named = h.named;
  many = h.many;
  pointers = λ p t. elim (eqb_tells p 0) [
    | inl e ↦ inl e.1
    | inr full ↦ elim (h.pointers p t) [
      | inl e ↦ inl e
      | inr there ↦ inr (filter-member (λ q. not (gone (name q))) places p there
          (ap not (stays (name p) (subst (λ (ss : List (Option ℕ)). IsTrue (is_in (name p) (filter_map (λ s. s) ss))) (sym h.named) (slot-birth name slots p t full.1)))))
    ]
  ];
}

-- listed places, where their births stay
pub among_staying : (gone : ℕ → Bool) (name : ℕ → ℕ) (places ps : List ℕ) → AreAmong places ps → ((x : ℕ) → IsTrue (is_in x (map name ps)) → gone x ≡ false)
    → AreAmong (staying gone name places) ps
among_staying gone name places ps among stays p t = filter-member (λ q. not (gone (name q))) places p (among p t) (ap not (stays (name p) (is_in-named name p ps t)))

pub names-entries : (name : ℕ → ℕ) (es : List (ℕ × ℕ)) → map (λ (e : ℕ × ℕ). e.0) (named_entries name es) ≡ map name (map (λ (e : ℕ × ℕ). e.0) es)
names-entries name [] = refl
names-entries name (e ∷ es) = ap (λ (xs : List ℕ). name e.0 ∷ xs) (names-entries name es)

filter-entries : (name : ℕ → ℕ) (test : ℕ → Bool) (es : List (ℕ × ℕ)) → filter (λ e. test e.0) (named_entries name es) ≡ named_entries name (filter (λ e. test (name e.0)) es)
filter-entries name test [] = refl
filter-entries name test (e ∷ es) = elim (cases_Bool (test (name e.0))) [
  | inl t ↦ rw t (ap (λ (xs : List (ℕ × ℕ)). (name e.0, e.1) ∷ xs) (filter-entries name test es))
  | inr t ↦ rw t (filter-entries name test es)
]

entry-among : (test : ℕ → Bool) (es : List (ℕ × ℕ)) (p : ℕ) → IsTrue (is_in p (map (λ (e : ℕ × ℕ). e.0) (filter (λ e. test e.0) es))) → IsTrue (is_in p (map (λ (e : ℕ × ℕ). e.0) es))
entry-among test [] p t = t
entry-among test (e ∷ es) p t = go (entry-among test es p) (test e.0) refl t
  where
    go : (IsTrue (is_in p (map (λ (f : ℕ × ℕ). f.0) (filter (λ f. test f.0) es))) → IsTrue (is_in p (map (λ (f : ℕ × ℕ). f.0) es))) → (b : Bool) → test e.0 ≡ b
        → IsTrue (is_in p (map (λ (f : ℕ × ℕ). f.0) (filter (λ f. test f.0) (e ∷ es)))) → IsTrue (is_in p (map (λ (f : ℕ × ℕ). f.0) (e ∷ es)))
    go more false b t = is_in-tail p e.0 (map (λ (f : ℕ × ℕ). f.0) es) (more (rw b at t))
    go more true b t = elim (is_in-cases p e.0 (map (λ (f : ℕ × ℕ). f.0) (filter (λ f. test f.0) es)) (rw b at t)) [
      | inl is ↦ subst (λ (k : ℕ). IsTrue (is_in k (map (λ (f : ℕ × ℕ). f.0) (e ∷ es)))) (sym is) (is_in-head e.0 (map (λ (f : ℕ × ℕ). f.0) es))
      | inr u ↦ is_in-tail p e.0 (map (λ (f : ℕ × ℕ). f.0) es) (more u)
    ]

-- entries of which some are left
pub end_entries : (gone test : ℕ → Bool) (es : List (ℕ × ℕ)) (places : List ℕ) (name : ℕ → ℕ) (stored : List (ℕ × ℕ))
    → ((x : ℕ) → IsTrue (is_in x (map (λ (e : ℕ × ℕ). e.0) stored)) → gone x ≡ false)
    → HoldsEntries es places name stored → HoldsEntries (filter (λ e. test (name e.0)) es) (staying gone name places) name (filter (λ e. test e.0) stored)
end_entries gone test es places name stored stays h = record {
  named = ap (filter (λ (e : ℕ × ℕ). test e.0)) h.named ∙ filter-entries name test es;
  there = λ p t. among_staying gone name places (map (λ (e : ℕ × ℕ). e.0) es) h.there
      (λ x u. stays x (subst (λ (xs : List ℕ). IsTrue (is_in x xs)) (sym (ap (map (λ (e : ℕ × ℕ). e.0)) h.named ∙ names-entries name es)) u)) p
      (entry-among (λ p. test (name p)) es p t);
}

pub names-queues : (name : ℕ → ℕ) (qs : Table (List ℕ)) → flat_map (λ (e : ℕ × List ℕ). e.1) (named_queues name qs) ≡ map name (flat_map (λ (e : ℕ × List ℕ). e.1) qs)
names-queues name [] = refl
names-queues name (q ∷ qs) = ap (λ (xs : List ℕ). map name q.1 ++ xs) (names-queues name qs) ∙ sym (map-append name q.1 (flat_map (λ (e : ℕ × List ℕ). e.1) qs))

pub end_queues : (gone : ℕ → Bool) (qs : Table (List ℕ)) (places : List ℕ) (name : ℕ → ℕ) (stored : Table (List ℕ))
    → ((x : ℕ) → IsTrue (is_in x (flat_map (λ (e : ℕ × List ℕ). e.1) stored)) → gone x ≡ false)
    → HoldsQueues qs places name stored → HoldsQueues qs (staying gone name places) name stored
end_queues gone qs places name stored stays h = record {
  named = h.named;
  there = among_staying gone name places (flat_map (λ (e : ℕ × List ℕ). e.1) qs) h.there
      (λ x u. stays x (subst (λ (xs : List ℕ). IsTrue (is_in x xs)) (sym (ap (flat_map (λ (e : ℕ × List ℕ). e.1)) h.named ∙ names-queues name qs)) u));
}

-- links are cut by births as by places
cut-option : (name : ℕ → ℕ) (gone : ℕ → Bool) (n : ℕ) (s : Struct) (rest : Table Struct)
    → cons_option (entry_after gone (n, with_object name s)) (with_objects name rest) ≡ with_objects name (cons_option (entry_after (λ p. gone (name p)) (n, s)) rest)
cut-option name gone n (Linked p light b own) rest = go (gone (name b)) refl
  where
    left : (f : Fate) → cons_option (option_map (λ (t : Struct). (n, t)) (left_by f own)) (with_objects name rest) ≡ with_objects name (cons_option (option_map (λ (t : Struct). (n, t)) (left_by f own)) rest)
    left fate.Unlinked = refl
    left fate.Pending = refl
    left fate.Released = refl

    go : (t : Bool) → gone (name b) ≡ t
        → cons_option (entry_after gone (n, with_object name (Linked p light b own))) (with_objects name rest) ≡ with_objects name (cons_option (entry_after (λ q. gone (name q)) (n, Linked p light b own)) rest)
    go true t = rw t (left (fate_of light own))
    go false t = rw t refl
cut-option name gone n (Unlinked own) rest = refl
cut-option name gone n Pending rest = refl

cut-named : (name : ℕ → ℕ) (gone : ℕ → Bool) (structs : Table Struct)
    → filter_map (entry_after gone) (with_objects name structs) ≡ with_objects name (filter_map (entry_after (λ p. gone (name p))) structs)
cut-named name gone [] = refl
cut-named name gone (e ∷ structs) =
    ap (λ (rest : Table Struct). cons_option (entry_after gone (e.0, with_object name e.1)) rest) (cut-named name gone structs)
    ∙ cut-option name gone e.0 e.1 (filter_map (entry_after (λ p. gone (name p))) structs)

end-named : (name : ℕ → ℕ) (gone : ℕ → Bool) (n : ℕ) (s : Struct) → link_end gone (n, with_object name s) ≡ link_end (λ p. gone (name p)) (n, s)
end-named name gone n (Linked p light b own) = refl
end-named name gone n (Unlinked own) = refl
end-named name gone n Pending = refl

pub ends_named : (name : ℕ → ℕ) (gone : ℕ → Bool) (structs : Table Struct) → link_ends gone (with_objects name structs) ≡ link_ends (λ p. gone (name p)) structs
ends_named name gone [] = refl
ends_named name gone (e ∷ structs) = ap₂ (λ (a : _) (b : _). cons_option a b) (end-named name gone e.0 e.1) (ends_named name gone structs)

pub end_links : (gone : ℕ → Bool) (links : Structs) (places : List ℕ) (name : ℕ → ℕ) (structs : Table Struct) (dead : List ℕ)
    → KeysRise structs → HoldsLinks links places name structs dead
    → HoldsLinks (cut_links (λ p. gone (name p)) links) (staying gone name places) name
    (cut_links gone (record { structs = structs; dead = dead })).structs (cut_links gone (record { structs = structs; dead = dead })).dead
end_links gone links places name structs dead rises h = record {
  named = ap (filter_map (entry_after gone)) h.named ∙ cut-named name gone links.structs;
  there = λ n p e. let was = was_linked (λ q. gone (name q)) links.structs n p (rises-unnamed name links.structs (subst KeysRise h.named rises)) e in
      filter-member (λ q. not (gone (name q))) places p (h.there n p was.linked) (ap not was.stays);
  queue = ap₂ (λ (d : List ℕ) (e : _). d ++ newly_dead e) h.queue (ap (link_ends gone) h.named ∙ ends_named name gone links.structs);
}

-- homes
pub end_homes : (gone : ℕ → Bool) (home : ℕ → Option ℕ) (places : List ℕ) (name : ℕ → ℕ) (homes : Table ℕ)
    → ((p : ℕ) → IsTrue (is_in p (young_places places)) → gone (name p) ≡ false)
    → HoldsHomes home places [] name homes → HoldsHomes home (staying gone name places) (losing gone name places) name homes
end_homes gone home places name homes young_stay h =
    let youngs = young_staying gone name places young_stay in
    record {
      told = λ birth at e. elim (h.told birth at e) [
        | inl is ↦ inl (record {
          there = let old : IsTrue (is_in at (old_places places)) = elim (in-either at (old_places places) [] is.there) [ inl t ↦ t | inr t ↦ absurd (is_in-nil at t) ] in
              elim (cases_Bool (gone (name at))) [
                | inl lost ↦ in-right at (old_places (staying gone name places)) (losing gone name places) (filter-member (λ q. gone (name q)) places at (old-is_in places at old).0 lost)
                | inr stays ↦ in-left at (old_places (staying gone name places)) (losing gone name places)
                    (subst (λ (ps : List ℕ). IsTrue (is_in at ps)) (sym (old_staying gone name places young_stay)) (filter-member (λ q. not (gone (name q))) (old_places places) at old (ap not stays)))
              ];
          named = is.named;
        })
        | inr is ↦ inr (record { place = is.place; there = subst (λ (ps : List ℕ). IsTrue (is_in is.place ps)) (sym youngs) is.there; named = is.named; reserved = is.reserved })
      ];
      reserved = λ p at e. subst (λ (ps : List ℕ). IsTrue (is_in p ps)) (sym youngs) (h.reserved p at e);
      known = h.known;
    }

-- the number of units
shorter : {X Y : Type 0} (f : X → Option Y) (xs : List X) → length (filter_map f xs) ≤ length xs
shorter f [] = omega arith
shorter f (x ∷ xs) = go (f x) (shorter f xs)
  where
    go : (o : Option _) → length (filter_map f xs) ≤ length xs → length (cons_option o (filter_map f xs)) ≤ suc (length xs)
    go None l = omega (arith, l)
    go (Some y) l = omega (arith, l)

parts-length : (test : ℕ → Bool) (ps : List ℕ) → length (filter test ps) + length (filter (λ p. not (test p)) ps) ≡ length ps
parts-length test [] = refl
parts-length test (p ∷ ps) = let more = parts-length test ps in elim (cases_Bool (test p)) [
  | inl e ↦ rw e (omega (arith, more))
  | inr e ↦ rw e (omega (arith, more))
]

-- there are at most as many blocks as objects
pub blocks_few : (types : Table TypeInfo) (w : ℕ → ℕ) (home : ℕ → Option ℕ) (places : List ℕ)
    → length (blocks_of types w home (young_places places) (old_places places) [] []) ≤ length places
blocks_few types w home places =
    let olds = length-map (old_places places) (block_at types w) in
    let youngs = shorter {Y = Extent} (λ p. option_map (λ (at : ℕ). (at, words_at types w p)) (home p)) (young_places places) in
    let all = parts-length is_young places in
    let joined = length-append (map (block_at types w) (old_places places)) (reserved_blocks types w home (young_places places) ++ []) in
    let none = length-append (reserved_blocks types w home (young_places places)) [] in
    omega (arith, olds, youngs, all, joined, none)

-- entries that all stay
pub entries_stay : (gone : ℕ → Bool) (es : List (ℕ × ℕ)) (places : List ℕ) (name : ℕ → ℕ) (stored : List (ℕ × ℕ))
    → ((x : ℕ) → IsTrue (is_in x (map (λ (e : ℕ × ℕ). e.0) stored)) → gone x ≡ false)
    → HoldsEntries es places name stored → HoldsEntries es (staying gone name places) name stored
entries_stay gone es places name stored stays h = record {
  named = h.named;
  there = among_staying gone name places (map (λ (e : ℕ × ℕ). e.0) es) h.there
      (λ x u. stays x (subst (λ (xs : List ℕ). IsTrue (is_in x xs)) (sym (ap (map (λ (e : ℕ × ℕ). e.0)) h.named ∙ names-entries name es)) u));
}

-- entries behind others
pub entries_both : (es fs : List (ℕ × ℕ)) (places : List ℕ) (name : ℕ → ℕ) (first second : List (ℕ × ℕ))
    → HoldsEntries es places name first → HoldsEntries fs places name second → HoldsEntries (es ++ fs) places name (first ++ second)
entries_both es fs places name first second a b = record {
  named = ap₂ (λ (xs ys : List (ℕ × ℕ)). xs ++ ys) a.named b.named ∙ sym (map-append (λ (e : ℕ × ℕ). (name e.0, e.1)) es fs);
  there = λ p t. elim (in-either p (map (λ (e : ℕ × ℕ). e.0) es) (map (λ (e : ℕ × ℕ). e.0) fs) (subst (λ (xs : List ℕ). IsTrue (is_in p xs)) (map-append (λ (e : ℕ × ℕ). e.0) es fs) t)) [
    | inl u ↦ a.there p u
    | inr u ↦ b.there p u
  ];
}
