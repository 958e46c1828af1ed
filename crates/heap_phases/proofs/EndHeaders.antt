-- The end of marking: first words, and what is remembered.
use Rattle.std.proofs.Common.{◌≡◌, ◌≢◌, ℕ, zero, suc, Bool, true, false, IsTrue, List, [], ◌∷◌, map, Option, Some, None, refl, sym, ap, ap₂, ◌∙◌, subst, inl, inr}
use Rattle.std.specs.Prelude.{not, ◌==◌, ◌&&◌, ◌||◌, filter, slice_get, filter_map}
use Rattle.std.specs.List.{list_any}
use Rattle.std.proofs.lemmas.Bool.{cases_Bool}
use Rattle.std.proofs.lemmas.Bool.Decides.{eqb_tells}
use Rattle.type_table.specs.declared.info.TypeInfo.{TypeInfo}
use Rattle.type_table.specs.Table.{Table}
use Rattle.object_header.specs.Words.{has_flag, with_flag}
use Rattle.object_header.specs.declared.flags.Flag.{Flag}
use Rattle.object_header.specs.declared.flags.Flag.TheVariants.{Track, Visited, HasShadow, Pinned, HasCards, CardsSet, Free, Shadow, Order1, Order2}
use Rattle.object_header.proofs.WordLaws.{has_flag-with_flag_other, has_flag-with_flag_same, IsHeader-with_flag}
use Rattle.object_model.proofs.Members.{is_in-head, is_in-tail, is_in-cases, is_in-nil, filter-part, filter-member, not-true}
use Rattle.object_view.proofs.LayoutLaws.{info_at-same}
use Rattle.text_model.specs.declared.line.Phase.TheVariants.{Sweeping}
use Rattle.object_model.specs.Layout.{Layout}
use Rattle.object_model.specs.Object.{Object, object_at}
use Rattle.object_model.specs.Sets.{is_in}
use Rattle.object_model.specs.Fields.{refs_of}
use Rattle.store_model.specs.Roots.{referents_in}
use Rattle.store_model.specs.MarkingOrder.{IsItem, IsInOrder}
use Rattle.remember_cards.specs.Remembered.{Held, Remembered, is_held_whole, has_held_cards, is_held_of, holds_item, has_any}
use Rattle.heap_parts.specs.Places.{young_places, old_places}
use Rattle.heap_parts.specs.OldSpace.{reserved_homes, is_waiting}
use Rattle.heap_parts.specs.Headers.{IsSettledHeader, IsHuskHeader, IsShadowHeader, IsYoungHeader, keeps_cards}
use Rattle.heap_parts.specs.StandsFor.{HoldsHeaders, HoldsYoungFlags, HoldsVisited, HoldsRemembered}
use Rattle.frame_laws.proofs.PlaceLaws.{old-is_in}
use Rattle.heap_parts.proofs.SameLayouts.{SameLayouts}
use Rattle.heap_phases.proofs.EndWords.{staying, losing, young_staying, old_staying, lost_old}
use Rattle.store_model.proofs.After.{left_objects, refs_left}

-- the first words afterwards: a settled object that stays carries the mark, and the others' stay
pub record EndsHeads (v w : ℕ → ℕ) (home : ℕ → Option ℕ) (gone : ℕ → Bool) (name : ℕ → ℕ) (places : List ℕ) : Type 0 where
  pub marked : (p : ℕ) → IsTrue (is_in p (old_places places)) → gone (name p) ≡ false → v p ≡ with_flag (w p) Visited
  pub lost : (p : ℕ) → IsTrue (is_in p (old_places places)) → gone (name p) ≡ true → v p ≡ w p
  pub young : (p : ℕ) → IsTrue (is_in p (young_places places)) → v p ≡ w p
  pub shadow : (p : ℕ) → IsTrue (is_in p (reserved_homes home (young_places places))) → v p ≡ w p

marked-flag : (word : ℕ) (flag : Flag) → flag ≢ Visited → has_flag (with_flag word Visited) flag ≡ has_flag word flag
marked-flag word flag ne = has_flag-with_flag_other word Visited flag ne

pub settled_marked : (word : ℕ) → IsSettledHeader word → IsSettledHeader (with_flag word Visited)
settled_marked word h = record {
  live = record {
    header = IsHeader-with_flag word Visited h.live.header;
    not_free = marked-flag word Free (λ e. let no : ⊥ = cc in no) ∙ h.live.not_free;
    not_order1 = marked-flag word Order1 (λ e. let no : ⊥ = cc in no) ∙ h.live.not_order1;
    not_order2 = marked-flag word Order2 (λ e. let no : ⊥ = cc in no) ∙ h.live.not_order2;
  };
  not_shadow = marked-flag word Shadow (λ e. let no : ⊥ = cc in no) ∙ h.not_shadow;
  not_has_shadow = marked-flag word HasShadow (λ e. let no : ⊥ = cc in no) ∙ h.not_has_shadow;
  not_pinned = marked-flag word Pinned (λ e. let no : ⊥ = cc in no) ∙ h.not_pinned;
}

-- what is remembered, without the objects that are gone
abbrev pub without_held_gone : (ℕ → Bool) → (ℕ → ℕ) → Remembered → Remembered
without_held_gone gone name remembered = record remembered { held = filter (λ held. not (gone (name held.place))) remembered.held }

-- a test of remembered objects, where those that it passes stay
any-left : (f : Held → Bool) (stays : Held → Bool) (hs : List Held) → ((h : Held) → f h ≡ true → stays h ≡ true) → list_any f (filter stays hs) ≡ list_any f hs
any-left f stays [] pass = refl
any-left f stays (h ∷ hs) pass = go (any-left f stays hs pass) (stays h) refl (f h) refl
  where
    go : list_any f (filter stays hs) ≡ list_any f hs → (b : Bool) → stays h ≡ b → (c : Bool) → f h ≡ c → list_any f (filter stays (h ∷ hs)) ≡ list_any f (h ∷ hs)
    go more true s c e = rw s (ap (λ (t : Bool). f h || t) more)
    go more false s true e = absurd (let yes : stays h ≡ true = pass h e in let no : ⊥ = cc in no)
    go more false s false e = rw (s, e) more

-- and where it passes none that stays
any-none : (f : Held → Bool) (stays : Held → Bool) (hs : List Held) → ((h : Held) → f h ≡ true → stays h ≡ false) → list_any f (filter stays hs) ≡ false
any-none f stays [] pass = refl
any-none f stays (h ∷ hs) pass = go (any-none f stays hs pass) (stays h) refl (f h) refl
  where
    go : list_any f (filter stays hs) ≡ false → (b : Bool) → stays h ≡ b → (c : Bool) → f h ≡ c → list_any f (filter stays (h ∷ hs)) ≡ false
    go more true s true e = absurd (let out : stays h ≡ false = pass h e in let no : ⊥ = cc in no)
    go more true s false e = rw s (rw e more)
    go more false s c e = rw s more

same-name : (a b : ℕ) (c : Bool) → ((a == b) && c) ≡ true → a ≡ b
same-name a b c t = elim (eqb_tells a b) [
  | inl e ↦ e.1
  | inr e ↦ absurd (let f : ((a == b) && c) ≡ false = rw e.0 refl in let no : ⊥ = cc in no)
]

module _ (gone : ℕ → Bool) (name : ℕ → ℕ) (remembered : Remembered) where
  pub held_left : (x i : ℕ) → gone x ≡ false → is_held_of (without_held_gone gone name remembered) name x i ≡ is_held_of remembered name x i
  held_left x i stays = any-left (λ held. name held.place == x && holds_item remembered.card held i) (λ held. not (gone (name held.place))) remembered.held
      (λ h t. ap not (ap gone (same-name (name h.place) x (holds_item remembered.card h i) t) ∙ stays))

  pub held_gone : (x i : ℕ) → gone x ≡ true → is_held_of (without_held_gone gone name remembered) name x i ≡ false
  held_gone x i lost = any-none (λ held. name held.place == x && holds_item remembered.card held i) (λ held. not (gone (name held.place))) remembered.held
      (λ h t. ap not (ap gone (same-name (name h.place) x (holds_item remembered.card h i) t) ∙ lost))

  whole-left : (p : ℕ) → gone (name p) ≡ false → is_held_whole (without_held_gone gone name remembered) p ≡ is_held_whole remembered p
  whole-left p stays = any-left (λ held. held.place == p && held.is_whole) (λ held. not (gone (name held.place))) remembered.held
      (λ h t. ap not (ap (λ (k : ℕ). gone (name k)) (same-name h.place p h.is_whole t) ∙ stays))

  cards-left : (p : ℕ) → gone (name p) ≡ false → has_held_cards (without_held_gone gone name remembered) p ≡ has_held_cards remembered p
  cards-left p stays = any-left (λ held. held.place == p && has_any held.cards) (λ held. not (gone (name held.place))) remembered.held
      (λ h t. ap not (ap (λ (k : ℕ). gone (name k)) (same-name h.place p (has_any h.cards) t) ∙ stays))

  held-places-left : (hs : List Held) (p : ℕ) → IsTrue (is_in p (map (λ (h : Held). h.place) (filter (λ held. not (gone (name held.place))) hs)))
      → IsTrue (is_in p (map (λ (h : Held). h.place) hs)) × (gone (name p) ≡ false)
  held-places-left [] p t = absurd (is_in-nil p t)
  held-places-left (h ∷ hs) p t = go (held-places-left hs p) (gone (name h.place)) refl t
    where
      go : (IsTrue (is_in p (map (λ (h : Held). h.place) (filter (λ held. not (gone (name held.place))) hs))) → IsTrue (is_in p (map (λ (h : Held). h.place) hs)) × (gone (name p) ≡ false))
          → (b : Bool) → gone (name h.place) ≡ b → IsTrue (is_in p (map (λ (h : Held). h.place) (filter (λ held. not (gone (name held.place))) (h ∷ hs))))
          → IsTrue (is_in p (map (λ (h : Held). h.place) (h ∷ hs))) × (gone (name p) ≡ false)
      go more true e t = let m = more (rw e at t) in (is_in-tail p h.place (map (λ (h : Held). h.place) hs) m.0, m.1)
      go more false e t = elim (is_in-cases p h.place (map (λ (h : Held). h.place) (filter (λ held. not (gone (name held.place))) hs)) (rw e at t)) [
        | inl is ↦ (subst (λ (k : ℕ). IsTrue (is_in k (map (λ (h : Held). h.place) (h ∷ hs)))) (sym is) (is_in-head h.place (map (λ (h : Held). h.place) hs)), ap (λ (k : ℕ). gone (name k)) is ∙ e)
        | inr u ↦ let m = more u in (is_in-tail p h.place (map (λ (h : Held). h.place) hs) m.0, m.1)
      ]

-- the letters of first words
module _ {v w : ℕ → ℕ} {home : ℕ → Option ℕ} {gone : ℕ → Bool} {name : ℕ → ℕ} {places : List ℕ}
    (young_stay : (p : ℕ) → IsTrue (is_in p (young_places places)) → gone (name p) ≡ false) (heads : EndsHeads v w home gone name places) where
  old-part : (p : ℕ) → IsTrue (is_in p (old_places (staying gone name places))) → IsTrue (is_in p (old_places places)) × (gone (name p) ≡ false)
  old-part p t =
      let part = filter-part (λ q. not (gone (name q))) (old_places places) p (subst (λ (ps : List ℕ). IsTrue (is_in p ps)) (old_staying gone name places young_stay) t) in
      (part.0, not-true (gone (name p)) part.1)

  young-part : (p : ℕ) → IsTrue (is_in p (young_places (staying gone name places))) → IsTrue (is_in p (young_places places))
  young-part p t = subst (λ (ps : List ℕ). IsTrue (is_in p ps)) (young_staying gone name places young_stay) t

  now-marked : (p : ℕ) → IsTrue (is_in p (old_places (staying gone name places))) → v p ≡ with_flag (w p) Visited
  now-marked p t = let part = old-part p t in heads.marked p part.0 part.1

  pub end_headers : ((p : ℕ) → IsTrue (is_in p (old_places places)) → gone (name p) ≡ true → has_flag (w p) Visited ≡ false)
      → HoldsHeaders w home places [] → HoldsHeaders v home (staying gone name places) (losing gone name places)
  end_headers unvisited h = record {
    settled = record { each = λ p t. subst IsSettledHeader (sym (now-marked p t)) (settled_marked (w p) (h.settled.each p (old-part p t).0)) };
    husk = record {
      each = λ p t.
          let old = lost_old gone name places young_stay p t in
          let lost = (filter-part (λ q. gone (name q)) places p t).1 in
          subst IsHuskHeader (sym (heads.lost p old lost)) (record { settled = h.settled.each p old; not_visited = unvisited p old lost });
    };
    shadow = record {
      each = λ p t.
          let was : IsTrue (is_in p (reserved_homes home (young_places places))) =
          subst (λ (ps : List ℕ). IsTrue (is_in p (reserved_homes home ps))) (young_staying gone name places young_stay) t in
          subst IsShadowHeader (sym (heads.shadow p was)) (h.shadow.each p was);
    };
    young = record { each = λ p t. let was = young-part p t in subst IsYoungHeader (sym (heads.young p was)) (h.young.each p was) };
  }

  pub end_young_flags : (pins : List (ℕ × ℕ)) → HoldsYoungFlags w home pins places → HoldsYoungFlags v home pins (staying gone name places)
  end_young_flags pins h = record {
    pinned = record { each = λ p t. let was = young-part p t in ap (λ (k : ℕ). has_flag k Pinned) (heads.young p was) ∙ h.pinned.each p was };
    has_shadow = record { each = λ p t. let was = young-part p t in ap (λ (k : ℕ). has_flag k HasShadow) (heads.young p was) ∙ h.has_shadow.each p was };
  }

  pub end_visited : (page : ℕ) (waiting : List ℕ) (name2 : ℕ → ℕ) → ((p : ℕ) → IsTrue (is_in p (old_places places)) → is_waiting page waiting p ≡ true)
      → HoldsVisited v Sweeping page [] (staying gone name places) waiting name2
  end_visited page waiting name2 waits = record {
    each = λ p t.
        ap (λ (k : ℕ). has_flag k Visited) (now-marked p t) ∙ (has_flag-with_flag_same (w p) Visited ∙ sym (waits p (old-part p t).0));
  }

  pub end_remembered : (types : Table TypeInfo) (card : ℕ) (remembered : Remembered) → SameLayouts types v w places → HoldsRemembered types card w remembered places
      → HoldsRemembered types card v (without_held_gone gone name remembered) (staying gone name places)
  end_remembered types card remembered same h = record {
    there = λ p t. let part = held-places-left gone name remembered remembered.held p t in
        subst (λ (ps : List ℕ). IsTrue (is_in p ps)) (sym (old_staying gone name places young_stay))
        (filter-member (λ q. not (gone (name q))) (old_places places) p (h.there p part.0) (ap not part.1));
    tracked = record {
      each = λ p t.
          let part = old-part p t in let was = h.tracked.each p part.0 in
          record {
            track = ap (λ (k : ℕ). has_flag k Track) (now-marked p t) ∙ (marked-flag (w p) Track (λ e. let no : ⊥ = cc in no) ∙ (was.track ∙ ap not (sym (whole-left gone name remembered p part.1))));
            cards_set = ap (λ (k : ℕ). has_flag k CardsSet) (now-marked p t) ∙ (marked-flag (w p) CardsSet (λ e. let no : ⊥ = cc in no) ∙ (was.cards_set ∙ sym (cards-left gone name remembered p part.1)));
          };
    };
    carded = λ p t.
        let part = old-part p t in
        let keeps = same p (old-is_in places p part.0).0 in
        let infos = info_at-same types v w p keeps.type_stays in
        ap (λ (k : ℕ). has_flag k HasCards) (now-marked p t) ∙ (marked-flag (w p) HasCards (λ e. let no : ⊥ = cc in no) ∙ (h.carded p part.0
        ∙ ap₂ (λ (i : TypeInfo) (l : Layout). keeps_cards card i.shape l.ref_count) (sym infos) (sym keeps.layout_stays)));
  }

-- marking is in order afterwards: nothing is visited and nothing gray, and each item that refers to an unsettled object is still remembered
pub end_order : (white gone : ℕ → Bool) (name : ℕ → ℕ) (kept : List Object) (settled after visited gray unreached : List ℕ) (remembered : Remembered)
    → ((x : ℕ) → IsTrue (is_in x after) → IsTrue (is_in x settled) × (gone x ≡ false)) → ((x : ℕ) → IsTrue (is_in x settled) → gone x ≡ false → IsTrue (is_in x after))
    → ((x y : ℕ) → gone x ≡ false → IsTrue (is_in y (referents_in (object_at kept x))) → gone y ≡ false)
    → IsInOrder kept settled visited gray (is_held_of remembered name) unreached
    → IsInOrder (left_objects white gone kept) after [] [] (is_held_of (without_held_gone gone name remembered) name) []
end_order white gone name kept settled after visited gray unreached remembered was now stays m = record {
  young = λ x i y s item.
      let old = was x s in
      let before : IsItem kept x i y = subst (λ (rs : List (Option ℕ)). slice_get rs i ≡ Some (Some y)) (refs_left white gone x kept old.1) item in
      elim (m.young x i y old.0 before) [
        | inl t ↦ inl (now y t (stays x y old.1 (item-referent (object_at kept x) i y before)))
        | inr t ↦ inr (held_left gone name remembered x i old.1 ∙ t)
      ];
  owed = λ x i y v e. absurd (is_in-nil x v);
  held_settled = λ x i t. elim (cases_Bool (gone x)) [
    | inl lost ↦ absurd (let none : is_held_of (without_held_gone gone name remembered) name x i ≡ false = held_gone gone name remembered x i lost in let no : ⊥ = cc in no)
    | inr kept_x ↦ now x (m.held_settled x i (sym (held_left gone name remembered x i kept_x) ∙ t)) kept_x
  ];
  gray_settled = λ x t. absurd (is_in-nil x t);
  visited_settled = λ x t. absurd (is_in-nil x t);
  gray_reached = λ x t. absurd (is_in-nil x t);
  visited_reached = λ x t. absurd (is_in-nil x t);
}
  where
    ref_of : (refs : List (Option ℕ)) (i y : ℕ) → slice_get refs i ≡ Some (Some y) → IsTrue (is_in y (filter_map (λ r. r) refs))
    ref_of [] i y e = absurd (let no : ⊥ = cc in no)
    ref_of (None ∷ refs) zero y e = absurd (let no : ⊥ = cc in no)
    ref_of (None ∷ refs) (suc i) y e = ref_of refs i y e
    ref_of (Some x ∷ refs) zero y e = let is : x ≡ y = cc in subst (λ (k : ℕ). IsTrue (is_in k (x ∷ filter_map (λ r. r) refs))) is (is_in-head x (filter_map (λ r. r) refs))
    ref_of (Some x ∷ refs) (suc i) y e = is_in-tail y x (filter_map (λ r. r) refs) (ref_of refs i y e)

    item-referent : (o : Option Object) (i y : ℕ) → slice_get (refs_of o) i ≡ Some (Some y) → IsTrue (is_in y (referents_in o))
    item-referent None i y e = absurd (let no : ⊥ = cc in no)
    item-referent (Some o) i y e = ref_of o.refs i y e
