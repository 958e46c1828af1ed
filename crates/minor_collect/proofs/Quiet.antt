-- A collection where nothing is unsettled: what the end asks for is there. So it can be met.
use Rattle.std.proofs.Common.{◌≡◌, ℕ, zero, suc, ◌+◌, Bool, true, false, IsTrue, List, [], ◌∷◌, map, Some, refl, sym, ap, ◌∙◌, subst, inl, inr, arith}
use Rattle.std.specs.Prelude.{not, ◌&&◌, ◌==◌, slice_get, filter_map, sum_by, if◌then◌else◌}
use Rattle.std.specs.List.Sorted.{IsPermutation}
use Rattle.std.proofs.lemmas.Bool.{cases_Bool}
use Rattle.std.proofs.lemmas.List.Sorted.{IsPermutation-refl}
use Rattle.heap_space.specs.Places.{word_at}
use Rattle.object_view.specs.Moving.{place_now}
use Rattle.object_model.proofs.Members.{is_in-head, is_in-tail, is_in-nil, filter-part}
use Rattle.object_view.proofs.LayoutLaws.{weak-at}
use Rattle.object_view.proofs.ForwardLaws.{place_now-stays, header-unmarked}
use Rattle.object_model.specs.Sets.{is_in}
use Rattle.store_model.specs.Store.{Store, Struct}
use Rattle.store_model.specs.Structs.{object_of}
use Rattle.store_model.specs.Links.{cut_links}
use Rattle.object_model.specs.ObjectWords.{words_at, layout_at, info_at}
use Rattle.object_model.specs.Holds.{IsPointer}
use Rattle.store_model.specs.MinorCollection.{is_unsettled}
use Rattle.remember_cards.specs.Remembered.{Held}
use Rattle.heap_parts.specs.Parts.{HeapParts, pinned_places}
use Rattle.heap_parts.specs.Places.{is_young, young_places, is_weak_at}
use Rattle.frame_laws.proofs.PlaceLaws.{young-is_in, named-by}
use Rattle.minor_collect.specs.Carried.{Moved}
use Rattle.minor_collect.specs.Midway.{Midway, Changing, Owes, is_lasting, IsLasting, Placing}
use Rattle.minor_collect.specs.Ending.{left_places, stays}
use Rattle.minor_collect.specs.Lines.{weaks_left, is_gone_pointer}
use Rattle.minor_collect.specs.Finishes.{Finishes}
use Rattle.minor_collect.proofs.Ended.{survivor_unsettled}
use Rattle.minor_collect.proofs.Queued.{no-members}
use Rattle.minor_collect.proofs.Weaks.{now_place, weak_was}
use Rattle.minor_collect.proofs.WeakPass.{weak-shape}
use Rattle.minor_collect.proofs.ListSteps.{linked_there}

-- an entry that is found in a list is one of it
found-in : (xs : List ℕ) (k x : ℕ) → slice_get xs k ≡ Some x → IsTrue (is_in x xs)
found-in [] k x e = absurd (let no : ⊥ = cc in no)
found-in (y ∷ xs) zero x e = let P : ℕ → Type 0 = λ z. IsTrue (is_in z (y ∷ xs)) in subst P (let same : y ≡ x = cc in same) (is_in-head y xs)
found-in (y ∷ xs) (suc k) x e = is_in-tail x y xs (found-in xs k x e)

found-entry : (xs : List (ℕ × ℕ)) (k : ℕ) (x : ℕ × ℕ) → slice_get xs k ≡ Some x → IsTrue (is_in x.0 (map (λ (e : ℕ × ℕ). e.0) xs))
found-entry [] k x e = absurd (let no : ⊥ = cc in no)
found-entry (y ∷ xs) zero x e = let P : ℕ × ℕ → Type 0 = λ z. IsTrue (is_in z.0 (y.0 ∷ map (λ (k : ℕ × ℕ). k.0) xs)) in subst P (let same : y ≡ x = cc in same) (is_in-head y.0 (map (λ (k : ℕ × ℕ). k.0) xs))
found-entry (y ∷ xs) (suc k) x e = is_in-tail x.0 y.0 (map (λ (k : ℕ × ℕ). k.0) xs) (found-entry xs k x e)

abbrev pub quiet_change : HeapParts → Changing → Changing
quiet_change start now = record now { weaks = weaks_left (word_at now.memory.blocks) (pinned_places start) start.weaks; links = cut_links (λ p. false) now.links }

module _ {start : HeapParts} {store : Store} {remembered : ℕ → ℕ → Bool} {now : Changing} {owes : Owes} {moved : Moved}
    {placing : Placing} (mid : Midway start store remembered now placing [] [] [] owes moved []) (quiet : (x : ℕ) → is_unsettled store x ≡ false)
    (no_pins : start.pins ≡ []) (no_held : start.remembered.held ≡ []) where
  linked : (p : ℕ) → IsTrue (is_in p (filter_map (λ (entry : ℕ × Struct). object_of entry.1) now.links.structs)) → IsTrue (is_in p placing.met)
  linked p t = linked_there mid.links_rise mid.links_are p t

  -- each object lies outside the nursery
  far : (p : ℕ) → IsTrue (is_in p placing.places) → is_young p ≡ false
  far p t = elim (cases_Bool (is_young p)) [
    | inl y ↦
        let out : is_in p (pinned_places start) ≡ false = ap (λ (es : List (ℕ × ℕ)). is_in p (map (λ (e : ℕ × ℕ). e.0) es)) no_pins in
        let wait = mid.follows.waits p t (rw (y, out) refl) in
        absurd (let u = wait.0 in let q = quiet (placing.name p) in let no : ⊥ = cc in no)
    | inr o ↦ o
  ]

  -- and none has left its place
  there : (x : ℕ) → IsTrue (is_in x placing.met) → IsTrue (is_in x placing.places)
  there x t = elim (mid.words.moving.each x t) [
    | inl here ↦ here
    | inr left ↦
        let led = survivor_unsettled store _ (placing.name x) (mid.follows.trace.led (placing.name x) (mid.follows.gone x t left.marked).1.0) in
        absurd (let q = quiet (placing.name x) in let no : ⊥ = cc in no)
  ]

  lasts : (x : ℕ) → IsTrue (is_in x placing.met) → is_lasting (pinned_places start) x ≡ true
  lasts x t = let o = far x (there x t) in rw o refl

  lasting : (x : ℕ) → IsTrue (is_in x placing.met) → IsLasting (pinned_places start) placing.places x
  lasting x t = inr (there x t, lasts x t)

  now-same : (x : ℕ) → IsTrue (is_in x placing.met) → place_now (word_at now.memory.blocks) x ≡ x
  now-same x t = place_now-stays (word_at now.memory.blocks) x (mid.words.moving.above x t) (header-unmarked x mid.words.objects (there x t))

  -- what is written in the place of a target is what stands there
  target-same : (x : ℕ) → IsPointer placing.met x → x ≡ (if is_gone_pointer (word_at now.memory.blocks) (pinned_places start) x then 0 else place_now (word_at now.memory.blocks) x)
  target-same x (inl z) = let P : ℕ → Type 0 = λ k. k ≡ (if is_gone_pointer (word_at now.memory.blocks) (pinned_places start) k then 0 else place_now (word_at now.memory.blocks) k) in subst P (sym z) refl
  target-same x (inr t) =
      let last : is_lasting (pinned_places start) (place_now (word_at now.memory.blocks) x) ≡ true = ap (is_lasting (pinned_places start)) (now-same x t) ∙ lasts x t in
      let gone : is_gone_pointer (word_at now.memory.blocks) (pinned_places start) x ≡ false = ap (λ (b : Bool). not (x == 0) && not b) last ∙ and-no (not (x == 0)) in
      sym (ap (λ (b : Bool). if b then 0 else place_now (word_at now.memory.blocks) x) gone ∙ now-same x t)
    where
      and-no : (b : Bool) → (b && false) ≡ false
      and-no true = refl
      and-no false = refl

  no-young : young_places (left_places store placing.found placing.name placing.places) ≡ []
  no-young = no-members (young_places (left_places store placing.found placing.name placing.places)) (λ p t.
      let y = young-is_in (left_places store placing.found placing.name placing.places) p t in
      let o = far p (filter-part (λ q. stays store (λ k. is_in k placing.found) (placing.name q)) placing.places p y.0).0 in
      let clash : true ≡ false = sym y.1 ∙ o in let no : ⊥ = cc in no)

  pub quiet_finishes : Finishes start store remembered now [] owes moved placing mid (quiet_change start now) (record start.nursery { used = []; gap = 1; cursor = 1 }) 0 (start.old_words + moved.words)
  quiet_finishes = record {
    passed = now.memory;
    written = [];
    waiting = placing.waiting;
    sorted = [];
    gone_at = λ p. false;
    lists = record {
      slot = λ k p e. inr (elim (mid.slots.pointers p (found-in now.slots k p e)) [ inl z ↦ inl z | inr t ↦ lasting p t ]);
      entry = λ k e is. inr (lasting e.0 (mid.registered_are.there e.0 (found-entry now.registered k e is)));
      link = λ p t. inr (there p (linked p t), inl (lasts p (linked p t)));
    };
    queues = record {
      listed = λ q t v. absurd (is_in-nil q (subst (λ (hs : List Held). IsTrue (is_in q (map (λ (h : Held). h.place) hs))) no_held t));
      just = λ q t. absurd (is_in-nil q t);
      more = λ p t. t;
      from = λ p t. inl t;
      all = λ q j t l ne o. absurd (is_in-nil q t);
    };
    weaks = record {
      left_are = refl;
      written = λ p t.
          let last = filter-part (λ q. is_lasting (pinned_places start) q) (map (place_now (word_at now.memory.blocks)) start.weaks) p t in
          let n = named-by (place_now (word_at now.memory.blocks)) p start.weaks last.0 in
          let place = now_place mid.words.objects mid.words.moving n.place (mid.carried.weaks_are.there n.place n.there) in
          let weak : is_weak_at start.setup.types (word_at now.memory.blocks) p ≡ true = ap (is_weak_at start.setup.types (word_at now.memory.blocks)) n.is ∙ weak_was mid.words.objects mid.words.moving mid.carried n.place n.there in
          let one = weak-at start.setup.types (word_at now.memory.blocks) p (weak-shape (info_at start.setup.types (word_at now.memory.blocks) p).shape weak) in
          let F : ℕ → Type 0 = λ k. IsPointer placing.met (word_at now.memory.blocks k) in
          target-same (word_at now.memory.blocks (layout_at start.setup.types (word_at now.memory.blocks) p).ref_start)
          (subst F (omega arith) (mid.words.objects.closed p 0 (subst (λ (k : ℕ). IsTrue (is_in k placing.places)) (sym n.is) place.0) (omega (arith, one.0))));
      elsewhere = λ b out. refl;
    };
    gives = record {
      blocks = mid.blocks;
      keeps = record { objects = λ q t. record { same = λ b l r. refl }; husk = λ q t. record { same = λ b l r. refl }; shadow = λ q t. refl; low = λ b l. refl };
      homes = λ p. inl refl;
      waits = λ q t. refl;
      fewer = omega arith;
    };
    only = λ p at e. absurd (let y = young-is_in placing.places p (mid.homes.reserved p at e) in let o = far p y.0 in let clash : true ≡ false = sym y.1 ∙ o in let no : ⊥ = cc in no);
    nursery_is = refl;
    laid_out = record { below = []; above = []; used = refl; lower = omega arith; passed = omega arith; upper = omega arith; few = omega arith };
    sorted_are = subst (λ (es : List (ℕ × ℕ)). IsPermutation [] (map (λ (e : ℕ × ℕ). e.0) es)) (sym no_pins) (IsPermutation-refl []);
    nursery_whole = mid.words.nursery_whole;
    remembered_is = refl;
    held_whole = λ q t. absurd (is_in-nil q t);
    slots_same = refl;
    registered_same = refl;
    links_cut = refl;
    gone_are = λ p t. ap not (sym (lasts p (linked p t)));
    unsettled_are = ap (sum_by (words_at start.setup.types (word_at now.memory.blocks))) (sym no-young);
    old_are = refl;
    made = record { ranges = mid.made.ranges; words = mid.made.words; pins = mid.made.pins; card = mid.made.card; arena = mid.made.arena; small = mid.made.small; page = mid.made.page };
  }
