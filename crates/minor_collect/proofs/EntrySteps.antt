-- Registered objects are followed, one behind another.
use Rattle.std.proofs.Common.{◌≡◌, ◌≢◌, ℕ, zero, suc, ◌+◌, ◌<◌, Bool, true, false, IsTrue, List, [], ◌∷◌, ◌++◌, map, length, Some, slice_get, nat_eq, refl, sym, ap, ◌∙◌, subst, inl, inr, arith}
use Rattle.std.specs.Prelude.{◌&&◌, ◌==◌, not, slice_set, slice_index_or}
use Rattle.std.specs.List.{IsDistinct, AllByRecursion}
use Rattle.std.proofs.lemmas.Bool.{ne_eqb}
use Rattle.std.proofs.lemmas.Bool.Decides.{eqb_tells}
use Rattle.object_model.specs.Sets.{is_in}
use Rattle.object_model.specs.ObjectWords.{renamed}
use Rattle.object_model.specs.Holds.{IsPointer}
use Rattle.object_model.proofs.Members.{is_in-head, is_in-tail, is_in-named, and_both, or_first, or_second}
use Rattle.object_model.proofs.Distinct.{differ-in}
use Rattle.finalizer_order.specs.declared.entry.Entry.{Entry}
use Rattle.finalizer_order.specs.Finalizers.{Finalizers, placed, places_of}
use Rattle.finalizer_order.specs.Moves.{Moves}
use Rattle.store_model.specs.Store.{Store}
use Rattle.store_model.specs.Roots.{registered_births}
use Rattle.store_model.specs.Sound.{waiting_births}
use Rattle.store_model.specs.Reach.{is_root, is_registered}
use Rattle.store_model.specs.MinorCollection.{is_unsettled, refers_unsettled}
use Rattle.store_model.proofs.Rounds.{LeadsTo-start}
use Rattle.heap_space.specs.Extents.{Extent}
use Rattle.heap_parts.specs.Parts.{HeapParts, pinned_places}
use Rattle.heap_parts.specs.Lists.{named_entries}
use Rattle.heap_parts.specs.NamedFinals.{births_told}
use Rattle.heap_parts.proofs.FinalLaws.{with_finals}
use Rattle.birth_laws.proofs.BirthNames.{entries-names}
use Rattle.minor_collect.specs.Carried.{Moved}
use Rattle.minor_collect.specs.declared.work.Moving.{Moving}
use Rattle.minor_collect.specs.Midway.{Midway, Changing, Placing, Owes, IsLasting}
use Rattle.minor_collect.specs.Calls.{Stage, Spot, MayBeFound, Standing, Followed, CanFollow, CanFollowLists, is_entry_at}
use Rattle.minor_collect.specs.Registered.{registered_places, without_registered, MovesEntry, CanFollowEntry, FollowedEntry, FollowedEntries}
use Rattle.minor_collect.proofs.OpenStep.{midway_follows}
use Rattle.minor_collect.proofs.FollowLaws.{grows_none, adds_none}
use Rattle.minor_collect.proofs.GrowLaws.{grows_twice, adds_twice}
use Rattle.minor_collect.proofs.ListSteps.{midway_lists, entry_holds, entry_followed, set-same, get-other}

-- a middle does not ask what registered objects owe
midway-owes : {start : HeapParts} {store : Store} {remembered : ℕ → ℕ → Bool} {now : Changing} {placing : Placing} {todo held left : List ℕ} {owes : Owes} {moved : Moved} {taken : List Extent} (k : ℕ)
    → Midway start store remembered now placing todo held left owes moved taken → Midway start store remembered now placing todo held left (without_registered owes k) moved taken
midway-owes k mid = midway_follows mid (record {
  trace = mid.follows.trace;
  todo_old = mid.follows.todo_old;
  lasts = mid.follows.lasts;
  waits = mid.follows.waits;
  gone = mid.follows.gone;
  looked = mid.follows.looked;
})

-- what stands at a number is a member
pub entry-in : (xs : List (ℕ × ℕ)) (k : ℕ) (x : ℕ × ℕ) → slice_get xs k ≡ Some x → IsTrue (is_in x.0 (map (λ (e : ℕ × ℕ). e.0) xs))
entry-in [] k x e = absurd (let no : ⊥ = cc in no)
entry-in (y ∷ xs) zero x e = let P : ℕ × ℕ → Type 0 = λ z. IsTrue (is_in z.0 (y.0 ∷ map (λ (k : ℕ × ℕ). k.0) xs)) in subst P (let same : y ≡ x = cc in same) (is_in-head y.0 (map (λ (k : ℕ × ℕ). k.0) xs))
entry-in (y ∷ xs) (suc k) x e = is_in-tail x.0 y.0 (map (λ (k : ℕ × ℕ). k.0) xs) (entry-in xs k x e)

-- the entry at a number, by its place
pub record EntryAt (xs : List (ℕ × ℕ)) (k p : ℕ) : Type 0 where
  pub entry : ℕ × ℕ
  pub is : slice_get xs k ≡ Some entry
  pub place : entry.0 ≡ p

entry-at : (xs : List (ℕ × ℕ)) (k : ℕ) → k < length xs → EntryAt xs k (slice_index_or (map (λ (e : ℕ × ℕ). e.0) xs) k 0)
entry-at [] k l = absurd (omega (arith, l))
entry-at (x ∷ xs) zero l = record { entry = x; is = refl; place = refl }
entry-at (x ∷ xs) (suc k) l = let more = entry-at xs k (let long : length (x ∷ xs) ≡ suc (length xs) = refl in omega (arith, l, long)) in record { entry = more.entry; is = more.is; place = more.place }

-- of names that differ, one stands at one number
named-in : (name : ℕ → ℕ) (es : List (ℕ × ℕ)) (k : ℕ) (e : ℕ × ℕ) → slice_get es k ≡ Some e → IsTrue (is_in (name e.0) (map (λ (x : ℕ × ℕ). x.0) (named_entries name es)))
named-in name es k e is = subst (λ (xs : List ℕ). IsTrue (is_in (name e.0) xs)) (sym (entries-names name es)) (is_in-named name e.0 (map (λ (x : ℕ × ℕ). x.0) es) (entry-in es k e is))

one-number : (name : ℕ → ℕ) (es : List (ℕ × ℕ)) (j k : ℕ) (a b : ℕ × ℕ) → IsDistinct nat_eq (map (λ (x : ℕ × ℕ). x.0) (named_entries name es)) → slice_get es j ≡ Some a → slice_get es k ≡ Some b → a.0 ≡ b.0 → j ≡ k
unfolding IsDistinct
one-number name [] j k a b d f g e = absurd (let no : ⊥ = cc in no)
one-number name (z ∷ es) zero zero a b d f g e = refl
one-number name (z ∷ es) zero (suc k) a b d f g e = absurd (differ-in (name z.0) (map (λ (x : ℕ × ℕ). x.0) (named_entries name es)) d.0
    (subst (λ (n : ℕ). IsTrue (is_in n (map (λ (x : ℕ × ℕ). x.0) (named_entries name es)))) (ap name (sym e ∙ (let same : a ≡ z = cc in ap (λ (x : ℕ × ℕ). x.0) same))) (named-in name es k b g)))
one-number name (z ∷ es) (suc j) zero a b d f g e = absurd (differ-in (name z.0) (map (λ (x : ℕ × ℕ). x.0) (named_entries name es)) d.0
    (subst (λ (n : ℕ). IsTrue (is_in n (map (λ (x : ℕ × ℕ). x.0) (named_entries name es)))) (ap name (e ∙ (let same : b ≡ z = cc in ap (λ (x : ℕ × ℕ). x.0) same))) (named-in name es j a f)))
one-number name (z ∷ es) (suc j) (suc k) a b d f g e = ap suc (one-number name es j k a b d.1 f g e)

all-first : (f : ℕ → Type 0) (xs ys : List ℕ) → AllByRecursion f (xs ++ ys) → AllByRecursion f xs
all-first f [] ys a = tt
all-first f (x ∷ xs) ys a = (a.0, all-first f xs ys a.1)

distinct-first : (xs ys : List ℕ) → IsDistinct nat_eq (xs ++ ys) → IsDistinct nat_eq xs
unfolding IsDistinct
distinct-first [] ys d = tt
distinct-first (x ∷ xs) ys d = (all-first (λ y. nat_eq x y ≡ false) xs ys d.0, distinct-first xs ys d.1)

-- what finalizers tell of places once one entry moved
placed-get : (es : List Entry) (k : ℕ) (e : Entry) → slice_get es k ≡ Some e → slice_get (placed es) k ≡ Some (e.place, e.queue)
placed-get [] k e is = absurd (let no : ⊥ = cc in no)
placed-get (z ∷ es) zero e is = ap (λ (x : Entry). Some (x.place, x.queue)) (let same : z ≡ e = cc in same)
placed-get (z ∷ es) (suc k) e is = placed-get es k e is

placed-set : (es : List Entry) (k : ℕ) (e : Entry) → placed (slice_set es k e) ≡ slice_set (placed es) k (e.place, e.queue)
placed-set [] k e = refl
placed-set (z ∷ es) zero e = refl
placed-set (z ∷ es) (suc k) e = ap (λ (xs : List (ℕ × ℕ)). (z.place, z.queue) ∷ xs) (placed-set es k e)

pub places-beside : (es : List Entry) → map (λ (x : ℕ × ℕ). x.0) (placed es) ≡ places_of es
places-beside [] = refl
places-beside (e ∷ es) = ap (λ (xs : List ℕ). e.place ∷ xs) (places-beside es)

-- one that moves, as the parts show it
pub entry_moved : (heap : HeapParts) (old new : Finalizers) (from to : ℕ) → IsTrue (is_in from (registered_places (with_finals heap old))) → Moves from to old.registered new.registered
    → new ≡ record old { registered = new.registered } → MovesEntry (with_finals heap old) (with_finals heap new) from to
entry_moved heap old new from to t (inr none) rest = absurd (let clash : true ≡ false = sym (subst (λ (xs : List ℕ). IsTrue (is_in from xs)) (places-beside old.registered) t) ∙ none.none in let no : ⊥ = cc in no)
entry_moved heap old new from to t (inl one) rest =
    let moved : Entry = record one.entry { place = to } in
    record {
      which = one.which;
      queue = one.entry.queue;
      was = placed-get old.registered one.which one.entry one.was ∙ ap (λ (p : ℕ). Some (p, one.entry.queue)) one.from_there;
      is = ap (with_finals heap) rest
          ∙ (λ i. record (with_finals heap old) {
            registered = (ap placed one.is ∙ placed-set old.registered one.which moved) i;
            finals = record (births_told old) { registered = (ap (map (λ (e : Entry). (e.birth, e.queue))) one.is ∙ set-same (λ (e : Entry). (e.birth, e.queue)) old.registered one.which one.entry moved one.was refl) i };
          });
    }

-- a registered object may be found
registered-may : (stage : Stage) (x : ℕ) → IsTrue (is_in x (registered_births stage.store)) → MayBeFound stage x
registered-may stage x t unsettled = LeadsTo-start (is_entry_at stage) (refers_unsettled stage.store) x
    (and_both (is_unsettled stage.store x) _ unsettled (or_second (is_root stage.store x) _ (or_first (is_registered stage.store x) _ t)))

module _ {stage : Stage} {now : HeapParts} {moving : Moving} {spot : Spot} (s : Standing stage now moving spot) where
  births : registered_births stage.store ≡ map spot.placing.name (registered_places now)
  births = ap (map (λ (e : ℕ × ℕ). e.0)) s.middle.mid.registered_are.named ∙ entries-names spot.placing.name now.registered

  once : IsDistinct nat_eq (map (λ (e : ℕ × ℕ). e.0) (named_entries spot.placing.name now.registered))
  once = subst (λ (es : List (ℕ × ℕ)). IsDistinct nat_eq (map (λ (e : ℕ × ℕ). e.0) es)) s.middle.mid.registered_are.named
      (distinct-first (registered_births stage.store) (waiting_births stage.store) stage.stands.sound.once)

  module _ (p : ℕ) (t : IsTrue (is_in p (registered_places now))) where
    met : IsTrue (is_in p spot.placing.met)
    met = s.middle.mid.registered_are.there p t

    pub entry_leads : IsPointer spot.placing.met p
    entry_leads = inr met

    pub entry_may : p ≢ 0 → MayBeFound stage (spot.placing.name p)
    entry_may ne = registered-may stage (spot.placing.name p)
        (subst (λ (xs : List ℕ). IsTrue (is_in (spot.placing.name p) xs)) (sym births) (is_in-named spot.placing.name p (registered_places now) t))

    some : p ≢ 0
    some e = let above = s.middle.mid.words.moving.above p met in absurd (omega (arith, above, e))

    module _ {first : HeapParts} {more : Moving} {y : ℕ} (f : Followed stage now first moving more spot p y) where
      registered-same : first.registered ≡ now.registered
      registered-same = ap (λ (h : HeapParts). h.registered) f.only

      last : IsLasting (pinned_places stage.start) f.after.placing.places y
      last = elim f.leads [ inl e ↦ inl e.1 | inr to ↦ to.lasts ]

      name-some : (name : ℕ → ℕ) (x : ℕ) → x ≢ 0 → renamed name x ≡ Some (name x)
      name-some name x ne = rw (ne_eqb x 0 ne) refl

      same : renamed f.after.placing.name y ≡ Some (f.after.placing.name p)
      same = elim f.leads [ inl e ↦ absurd (some e.0) | inr to ↦ to.same_name ∙ name-some f.after.placing.name p some ]

      stays : IsTrue (is_in y f.after.placing.met) × (f.after.placing.name y ≡ f.after.placing.name p)
      stays = elim last [
        | inl e ↦ absurd (let none : renamed f.after.placing.name 0 ≡ Some (f.after.placing.name p) = subst (λ (k : ℕ). renamed f.after.placing.name k ≡ Some (f.after.placing.name p)) e same in let no : ⊥ = cc in no)
        | inr l ↦
            let there = f.standing.middle.mid.words.moving.stay y l.0 in
            let above = f.standing.middle.mid.words.moving.above y there in
            (there, (let e : Some (f.after.placing.name y) ≡ Some (f.after.placing.name p) = sym (name-some f.after.placing.name y (λ z. absurd (omega (arith, above, z)))) ∙ same in let one : f.after.placing.name y ≡ f.after.placing.name p = cc in one))
      ]

      pub entry_there : IsTrue (is_in p (registered_places first))
      entry_there = subst (λ (es : List (ℕ × ℕ)). IsTrue (is_in p (map (λ (e : ℕ × ℕ). e.0) es))) (sym registered-same) t

      pub entry_followed_by : {new : HeapParts} → MovesEntry first new p y → FollowedEntry stage now new moving more spot p
      entry_followed_by m =
          let entries : List (ℕ × ℕ) = slice_set first.registered m.which (y, m.queue) in
          let mid = f.standing.middle in
          subst (λ (h : HeapParts). FollowedEntry stage now h moving more spot p) (sym m.is) (record {
            after = record f.after { owes = without_registered f.after.owes m.which };
            standing = record {
              middle = record {
                mid = midway-owes m.which (midway_lists mid.mid first.slots entries first.links mid.mid.slots
                    (entry_holds m.which y (p, m.queue) m.was stays.1 stays.0 mid.mid.registered_are) mid.mid.links_are);
                rest = ap (λ (h : HeapParts). record h { registered = entries }) mid.rest;
                sizes = mid.sizes;
              };
              counted = f.standing.counted;
              lists = entry_followed f.standing.lists m.which y (p, m.queue) m.was last;
              linked = f.standing.linked;
              held = f.standing.held;
            };
            grows = record { met = f.grows.met; names = f.grows.names; stay = f.grows.stay; found = f.grows.found; held = f.grows.held };
            adds = record { added = f.adds.added; in_code = f.adds.in_code; told = f.adds.told; grown = f.adds.grown };
            which = m.which;
            queue = m.queue;
            place = y;
            was = ap (λ (es : List (ℕ × ℕ)). slice_get es m.which) (sym registered-same) ∙ m.was;
            is = ap (λ (es : List (ℕ × ℕ)). slice_set es m.which (y, m.queue)) registered-same;
            owes_are = ap (λ (o : Owes). without_registered o m.which) f.owes_same;
            held_same = f.held_same;
            only = ap (λ (h : HeapParts). record h { registered = entries }) f.only;
          })

pub can_follow_entry : (now : HeapParts) (moving : Moving) (p : ℕ) → CanFollowEntry now moving p → CanFollow now moving p
can_follow_entry now moving p c = record { stage = c.stage; spot = c.spot; standing = c.standing; pointer = entry_leads c.standing p c.there; may = entry_may c.standing p c.there }

-- So far the registered objects below k were followed.
pub record EntriesTo (old now : HeapParts) (moving_old moving_now : Moving) (k : ℕ) : Type 0 where
  pub each : (stage : Stage) (spot : Spot) → Standing stage old moving_old spot → FollowedEntries stage old now moving_old moving_now spot k

pub entries_begin : (now : HeapParts) (moving : Moving) → EntriesTo now now moving moving 0
entries_begin now moving = record {
  each = λ stage spot s. record {
    after = spot;
    standing = s;
    grows = grows_none stage spot;
    adds = adds_none moving spot;
    paid = λ k l. absurd (omega (arith, l));
    fewer = λ k e. e;
    rest = refl;
    later = λ k l. refl;
    held_same = refl;
    only = refl;
  };
}

-- the place in the list of places is that of the next registered object
there-now : {stage : Stage} {old now : HeapParts} {first moving : Moving} {spot : Spot} {k : ℕ} → FollowedEntries stage old now first moving spot k → k < length old.registered
    → EntryAt now.registered k (slice_index_or (registered_places old) k 0)
there-now {old = old} {k = k} d l = let at = entry-at old.registered k l in record { entry = at.entry; is = d.later k (omega arith) ∙ at.is; place = at.place }

member-now : (xs : List (ℕ × ℕ)) (k p : ℕ) → EntryAt xs k p → IsTrue (is_in p (map (λ (e : ℕ × ℕ). e.0) xs))
member-now xs k p at = subst (λ (n : ℕ). IsTrue (is_in n (map (λ (e : ℕ × ℕ). e.0) xs))) at.place (entry-in xs k at.entry at.is)

pub entry_can : {old now : HeapParts} {first moving : Moving} {k : ℕ} (c : CanFollowLists old first) → EntriesTo old now first moving k → k < length old.registered → CanFollowEntry now moving (slice_index_or (registered_places old) k 0)
entry_can {old = old} {now = now} {k = k} c s l =
    let d = s.each c.stage c.spot c.standing in
    record { stage = c.stage; spot = d.after; standing = d.standing; there = member-now now.registered k (slice_index_or (registered_places old) k 0) (there-now d l) }

without-false : (owes : Owes) (k j : ℕ) → owes.registered j ≡ false → (without_registered owes k).registered j ≡ false
without-false owes k j e = rw e (go (not (j == k)))
  where
    go : (b : Bool) → (b && false) ≡ false
    go true = refl
    go false = refl

pub entries_next : {old now new : HeapParts} {first moving more : Moving} {k : ℕ} → EntriesTo old now first moving k → k < length old.registered
    → ((stage : Stage) (spot : Spot) → Standing stage now moving spot → IsTrue (is_in (slice_index_or (registered_places old) k 0) (registered_places now)) → FollowedEntry stage now new moving more spot (slice_index_or (registered_places old) k 0))
    → EntriesTo old new first more (k + 1)
entries_next {old = old} {now = now} {new = new} {k = k} s l step = record {
  each = λ stage spot standing.
      let p : ℕ = slice_index_or (registered_places old) k 0 in
      let d = s.each stage spot standing in
      let at = there-now d l in
      let f = step stage d.after d.standing (member-now now.registered k p at) in
      let number : f.which ≡ k = one-number d.after.placing.name now.registered f.which k (p, f.queue) at.entry (once d.standing) f.was at.is (sym at.place) in
      let owes : f.after.owes ≡ without_registered d.after.owes k = f.owes_are ∙ ap (without_registered d.after.owes) number in
      record {
        after = f.after;
        standing = f.standing;
        grows = grows_twice d.grows f.grows;
        adds = adds_twice d.adds f.adds;
        paid = λ j less. ap (λ (o : Owes). o.registered j) owes ∙ elim (eqb_tells j k) [
          | inl e ↦ (let gone : (without_registered d.after.owes k).registered j ≡ false = rw e.0 refl in gone)
          | inr ne ↦ without-false d.after.owes k j (d.paid j (search (arith, less, ne.1)))
        ];
        fewer = λ j e. ap (λ (o : Owes). o.registered j) owes ∙ without-false d.after.owes k j (d.fewer j e);
        rest = owes ∙ (ap (λ (o : Owes). without_registered o k) d.rest ∙ ap (λ (g : ℕ → Bool). record spot.owes { registered = g }) (ap (λ (o : Owes). o.registered) (sym owes)));
        later = λ j after. ap (λ (es : List (ℕ × ℕ)). slice_get es j) f.is
            ∙ (get-other now.registered f.which j (f.place, f.queue) (λ e. absurd (omega (arith, after, e, number)))
            ∙ d.later j (omega (arith, after)));
        held_same = f.held_same ∙ d.held_same;
        only = f.only ∙ ap (λ (h : HeapParts). record h { memory = new.memory; shadows = new.shadows; old_blocks = new.old_blocks; links = new.links; registered = new.registered }) d.only;
      };
}

pub entries_end : {old now : HeapParts} {first moving : Moving} {k : ℕ} → EntriesTo old now first moving k → k ≡ length old.registered → (stage : Stage) (spot : Spot) → Standing stage old first spot
    → FollowedEntries stage old now first moving spot (length old.registered)
entries_end {old = old} {now = now} {first = first} {moving = moving} s e stage spot standing = subst (FollowedEntries stage old now first moving spot) e (s.each stage spot standing)

-- there are as many places as registered objects
pub places-many : (heap : HeapParts) → length (registered_places heap) ≡ length heap.registered
places-many heap = many heap.registered
  where
    many : (es : List (ℕ × ℕ)) → length (map (λ (e : ℕ × ℕ). e.0) es) ≡ length es
    many [] = refl
    many (e ∷ es) = ap suc (many es)
