-- What written objects queue is what marking asks of a minor collection.
use Rattle.std.proofs.Common.{◌≡◌, ◌≢◌, ℕ, ◌+◌, ◌<◌, ◌⊎◌, true, IsTrue, List, [], ◌∷◌, map, Option, Some, refl, sym, ap, ◌∙◌, subst, inl, inr}
use Rattle.std.specs.Prelude.{◌&&◌, ◌==◌, slice_get}
use Rattle.std.specs.List.{list_any}
use Rattle.std.proofs.lemmas.Bool.{ne_eqb}
use Rattle.heap_space.specs.Places.{word_at}
use Rattle.object_model.proofs.Members.{is_in-head, is_in-tail, is_in-nil, map-same, and_first, or_cases, or_first, or_second, is_in-named}
use Rattle.object_view.proofs.FoundLaws.{found-at, ref-from}
use Rattle.text_model.specs.declared.line.Phase.{Phase}
use Rattle.text_model.specs.declared.line.Phase.TheVariants.{Scanning, Marking, Sweeping, Finalizing}
use Rattle.object_model.specs.Object.{Object, object_at}
use Rattle.object_model.specs.Sets.{is_in}
use Rattle.store_model.specs.Store.{Store}
use Rattle.object_model.specs.Fields.{refs_of}
use Rattle.store_model.specs.Roots.{referents_in}
use Rattle.object_model.specs.ObjectWords.{renamed, layout_at, object_from}
use Rattle.store_model.specs.Sound.{IsPhaseSound}
use Rattle.store_model.specs.MarkingOrder.{IsItem, AreAllIn, is_known, YoungHeld}
use Rattle.heap_parts.specs.Order.{IsGrayOf}
use Rattle.remember_cards.specs.Remembered.{Held, is_held_of, holds_item}
use Rattle.heap_parts.specs.Parts.{HeapParts, word_in}
use Rattle.heap_parts.specs.Places.{is_young, old_places, AreAmong}
use Rattle.heap_parts.specs.StandsFor.{PartsStandButYoung}
use Rattle.frame_laws.proofs.PlaceLaws.{old-is_in, is_in-old, named-by}
use Rattle.store_model.proofs.Rounds.{equal}
use Rattle.minor_collect.specs.Carried.{Moved}
use Rattle.minor_collect.specs.Midway.{Midway, Changing, Owes, Placing, OwesNone}
use Rattle.minor_collect.specs.Gray.{ComesGray, IsQueuedFrom, QueuesWritten}
use Rattle.minor_collect.proofs.Ended.{item_leads, some-item}
use Rattle.minor_collect.proofs.EndStands.{item-word}
use Rattle.minor_collect.proofs.SameSurvivors.{item-where, where-some, refs-in}

-- an object that is held by its name
pub record HeldBy (name : ℕ → ℕ) (hs : List Held) (x : ℕ) : Type 0 where
  pub place : ℕ
  pub there : IsTrue (is_in place (map (λ (h : Held). h.place) hs))
  pub is : name place ≡ x

held-by : (card : ℕ) (name : ℕ → ℕ) (hs : List Held) (x i : ℕ) → IsTrue (list_any (λ (h : Held). name h.place == x && holds_item card h i) hs) → HeldBy name hs x
held-by card name [] x i t = absurd (let no : ⊥ = cc in no)
held-by card name (h ∷ hs) x i t = elim (or_cases (name h.place == x && holds_item card h i) (list_any (λ (k : Held). name k.place == x && holds_item card k i) hs) t) [
  | inl here ↦ record { place = h.place; there = is_in-head h.place (map (λ (k : Held). k.place) hs); is = equal (name h.place) x (and_first (name h.place == x) (holds_item card h i) here) }
  | inr more ↦ let rest = held-by card name hs x i more in record { place = rest.place; there = is_in-tail rest.place h.place (map (λ (k : Held). k.place) hs) rest.there; is = rest.is }
]

pub no-members : (xs : List ℕ) → ((x : ℕ) → IsTrue (is_in x xs) → ⊥) → xs ≡ []
no-members [] out = refl
no-members (x ∷ xs) out = absurd (out x (is_in-head x xs))

empty-in : (xs : List ℕ) (x : ℕ) → xs ≡ [] → IsTrue (is_in x xs) → ⊥
empty-in xs x e t = is_in-nil x (subst (λ (l : List ℕ). IsTrue (is_in x l)) e t)

-- the referents of an object have each item
item-referent : (o : Option Object) (i y : ℕ) → slice_get (refs_of o) i ≡ Some (Some y) → IsTrue (is_in y (referents_in o))
item-referent o i y e = refs-in o y (where-some (λ k. true) 0 (refs_of o) y (item-where (λ k. true) 0 (refs_of o) i y e refl))

module _ {start : HeapParts} {store : Store} {now : Changing} {held : List ℕ} {owes : Owes} {moved : Moved} {written after : List ℕ}
    (s : PartsStandButYoung start store) (young_held : YoungHeld store.kept store.settled (is_held_of start.remembered s.name))
    {placing : Placing} (mid : Midway start store (is_held_of start.remembered s.name) now placing [] held [] owes moved []) (none : OwesNone owes)
    (c : QueuesWritten start (word_at now.memory.blocks) placing.name placing.places store.visited written now.gray after) where
  -- an item of what is written leads to what stays
  leads : (q j : ℕ) → IsTrue (is_in q written) → j < (layout_at start.setup.types (word_at now.memory.blocks) q).ref_count
      → word_at now.memory.blocks ((layout_at start.setup.types (word_at now.memory.blocks) q).ref_start + j) ≢ 0
      → IsTrue (is_in (word_at now.memory.blocks ((layout_at start.setup.types (word_at now.memory.blocks) q).ref_start + j)) placing.places)
  leads q j t l ne =
      let old = old-is_in placing.places q (c.just q t).0 in
      elim (item_leads mid.words.objects mid.words.moving mid.follows none young_held q j old.0 (rw old.1 refl) l) [ inl z ↦ absurd (ne z) | inr there ↦ there.0 ]

  queued-there : (p : ℕ) → IsQueuedFrom start.setup.types (word_at now.memory.blocks) written p → IsTrue (is_in p (old_places placing.places))
  queued-there p k = is_in-old placing.places p
      (subst (λ (x : ℕ). IsTrue (is_in x placing.places)) (sym k.is) (leads k.from k.item k.there k.within (λ z. k.some (k.is ∙ z)))) k.old

  -- what is gray lies outside the nursery
  pub gray_there : AreAmong (old_places placing.places) after
  gray_there p t = elim (c.from p t) [ inl before ↦ mid.gray p before | inr k ↦ queued-there p k ]

  -- and only in marking is there any
  pub gray_phase : IsGrayOf start.phase after
  gray_phase = go start.phase s.gray_phase (subst (λ (phase : Phase). IsPhaseSound phase start.setup.settings.sweep store) s.counts.phase_is s.sound.phase)
    where
      quiet : start.gray ≡ [] → store.visited ≡ [] → after ≡ []
      quiet g v = no-members after (λ p t. elim (c.from p t) [
        | inl before ↦ empty-in start.gray p g (subst (λ (l : List ℕ). IsTrue (is_in p l)) mid.carried.gray_same before)
        | inr k ↦ empty-in store.visited (placing.name k.from) v (c.just k.from k.there).1
      ])

      go : (phase : Phase) → IsGrayOf phase start.gray → IsPhaseSound phase start.setup.settings.sweep store → IsGrayOf phase after
      go Scanning g sound = quiet g sound.2.no_visited
      go Marking g sound = tt
      go Sweeping g sound = quiet g sound.2.no_visited
      go Finalizing g sound = quiet g sound.2.no_visited

  gray-before : map s.name start.gray ≡ map placing.name now.gray
  gray-before = map-same s.name (λ (p : ℕ). word_in start (p + 1)) start.gray (λ p t. s.words.objects.named p (old-is_in s.places p (s.gray p t)).0)
      ∙ (mid.carried.gray_are.named ∙ ap (map placing.name) (sym mid.carried.gray_same))

  pub gray_more : AreAllIn (map s.name start.gray) (map placing.name after)
  gray_more x t =
      let n = named-by placing.name x now.gray (subst (λ (l : List ℕ). IsTrue (is_in x l)) gray-before t) in
      subst (λ (k : ℕ). IsTrue (is_in k (map placing.name after))) (sym n.is) (is_in-named placing.name n.place after (c.more n.place n.there))

  item-at : (q j : ℕ) → IsTrue (is_in q placing.places) → j < (layout_at start.setup.types (word_at now.memory.blocks) q).ref_count
      → word_at now.memory.blocks ((layout_at start.setup.types (word_at now.memory.blocks) q).ref_start + j) ≢ 0
      → IsItem store.kept (placing.name q) j (placing.name (word_at now.memory.blocks ((layout_at start.setup.types (word_at now.memory.blocks) q).ref_start + j)))
  item-at q j t l ne =
      let x : ℕ = word_at now.memory.blocks ((layout_at start.setup.types (word_at now.memory.blocks) q).ref_start + j) in
      subst (λ (o : Option Object). slice_get (refs_of o) j ≡ Some (Some (placing.name x))) (sym (found-at q mid.words.objects t))
      (some-item (object_from start.setup.types placing.name (word_at now.memory.blocks) q).refs j (placing.name x)
      (ref-from start.setup.types placing.name (word_at now.memory.blocks) q j l ∙ (let e : renamed placing.name x ≡ Some (placing.name x) = rw (ne_eqb x 0 ne) refl in e)))

  pub gray_from : (y : ℕ) → IsTrue (is_in y (map placing.name after)) → IsTrue (is_in y (map s.name start.gray)) ⊎ ComesGray store.kept (map placing.name (old_places placing.places)) store.visited y
  gray_from y t =
      let n = named-by placing.name y after t in
      elim (c.from n.place n.there) [
        | inl before ↦ inl (subst (λ (l : List ℕ). IsTrue (is_in y l)) (sym gray-before) (subst (λ (k : ℕ). IsTrue (is_in k (map placing.name now.gray))) (sym n.is) (is_in-named placing.name n.place now.gray before)))
        | inr k ↦
            let written_one = c.just k.from k.there in
            let old = old-is_in placing.places k.from written_one.0 in
            let item : IsItem store.kept (placing.name k.from) k.item y = subst (λ (z : ℕ). IsItem store.kept (placing.name k.from) k.item z) (ap placing.name (sym k.is) ∙ sym n.is)
            (item-at k.from k.item old.0 k.within (λ z. k.some (k.is ∙ z))) in
            inr (record {
              from = placing.name k.from;
              visits = written_one.1;
              refers = item-referent (object_at store.kept (placing.name k.from)) k.item y item;
              now_settled = subst (λ (z : ℕ). IsTrue (is_in z (map placing.name (old_places placing.places)))) (sym n.is) (is_in-named placing.name n.place (old_places placing.places) (queued-there n.place k));
            })
      ]

  -- remembered items of visited objects lead to what is visited or gray, where it is settled now
  pub written_queued : (x i y : ℕ) → IsTrue (is_in x store.visited) → IsTrue (is_held_of start.remembered s.name x i) → IsItem store.kept x i y
      → IsTrue (is_in y (map placing.name (old_places placing.places))) → IsTrue (is_known store.visited (map placing.name after) y)
  written_queued x i y visited held_one item settled =
      let k = held-by start.remembered.card placing.name start.remembered.held x i (subst IsTrue (sym (mid.carried.held_named x i)) held_one) in
      let q : ℕ = k.place in
      let listed = c.listed q k.there (subst (λ (z : ℕ). IsTrue (is_in z store.visited)) (sym k.is) visited) in
      let old = old-is_in placing.places q (c.just q listed).0 in
      let it = item-word q i y mid.words.objects old.0 (subst (λ (z : ℕ). IsItem store.kept z i y) (sym k.is) item) in
      let to : ℕ = word_at now.memory.blocks ((layout_at start.setup.types (word_at now.memory.blocks) q).ref_start + i) in
      let there = leads q i listed it.within it.some in
      let n = named-by placing.name y (old_places placing.places) settled in
      let place = old-is_in placing.places n.place n.there in
      let same : to ≡ n.place = mid.words.objects.differ to n.place there place.0 (it.named ∙ n.is) in
      elim (c.all q i listed it.within it.some (ap is_young same ∙ place.1)) [
        | inl g ↦ or_second (is_in y store.visited) (is_in y (map placing.name after)) (subst (λ (z : ℕ). IsTrue (is_in z (map placing.name after))) it.named (is_in-named placing.name to after g))
        | inr v ↦ or_first (is_in y store.visited) (is_in y (map placing.name after)) (subst (λ (z : ℕ). IsTrue (is_in z store.visited)) it.named v)
      ]
