-- A settled object is remembered whole: the heap stands for the same store.
use Rattle.std.proofs.Common.{◌≡◌, ◌≢◌, ℕ, ◌<◌, ◌≤◌, true, false, IsTrue, List, refl, sym, ap, ap₂, ◌∙◌, subst, inl, inr, arith}
use Rattle.std.specs.Prelude.{not}
use Rattle.std.proofs.lemmas.Bool.Decides.{eqb_tells}
use Rattle.type_table.specs.declared.info.TypeInfo.{TypeInfo}
use Rattle.heap_space.specs.Places.{has}
use Rattle.heap_space.proofs.Blocks.{lies-with_word}
use Rattle.object_header.specs.Words.{has_flag, without_flag}
use Rattle.object_header.specs.declared.flags.Flag.{Flag}
use Rattle.object_header.specs.declared.flags.Flag.TheVariants.{Track, Visited, HasShadow, Pinned, HasCards, CardsSet, Free, Shadow, Order1, Order2}
use Rattle.object_header.proofs.WordLaws.{has_flag-without_flag_same, has_flag-without_flag_other, type_of-without_flag, IsHeader-without_flag}
use Rattle.object_view.proofs.WordLaws.{updated-here, updated-other}
use Rattle.object_view.proofs.LayoutLaws.{laid_out, info_at-same}
use Rattle.object_view.proofs.SpaceLaws.{word_at-written, lies-at}
use Rattle.object_view.proofs.FrameLaws.{flag_clear_holds}
use Rattle.object_model.specs.Layout.{Layout}
use Rattle.store_model.specs.Store.{Store}
use Rattle.object_model.specs.Sets.{is_in}
use Rattle.object_model.specs.ObjectWords.{updated, words_at}
use Rattle.object_model.specs.Holds.{HoldsObjects}
use Rattle.parts_model.specs.Parts.{HeapParts, word_in, home_in}
use Rattle.parts_model.specs.Places.{is_young, young_places, old_places, OfFirsts}
use Rattle.parts_model.specs.OldSpace.{reserved_homes}
use Rattle.parts_model.specs.Headers.{IsSettledHeader, keeps_cards}
use Rattle.parts_model.specs.StandsFor.{PartsStandFor}
use Rattle.parts_model.specs.Effects.{with_barrier}
use Rattle.frame_laws.proofs.PlaceLaws.{young-is_in, old-is_in}
use Rattle.frame_laws.proofs.KeepWords.{SameObjects, words_kept, firsts-stay}
use Rattle.frame_laws.proofs.WriteWords.{header_written, husk_first, shadow_first, blocks_written}
use Rattle.store_model.proofs.OrderLaws.{plain_in_order}
use Rattle.frame_laws.proofs.HeldLaws.{whole_here, whole_other, cards_same, held_more, among_more, held_settled}

-- first words of which one changed
pub firsts-but : {P Q : ℕ → ℕ → Type 0} {ps : List ℕ} {w : ℕ → ℕ} (v : ℕ → ℕ) (p : ℕ) → ((q : ℕ) → q ≢ p → v q ≡ w q)
    → ((q : ℕ) → q ≢ p → P q (w q) → Q q (w q)) → (P p (w p) → Q p (v p)) → OfFirsts P ps w → OfFirsts Q ps v
firsts-but {P = P} {Q = Q} {w = w} v p same far here h = record {
  each = λ q t. elim (eqb_tells q p) [
    | inl e ↦ let F : ℕ → Type 0 = λ k. P k (w k) → Q k (v k) in subst F (sym e.1) here (h.each q t)
    | inr e ↦ subst (Q q) (sym (same q e.1)) (far q e.1 (h.each q t))
  ];
}

untracked : (word : ℕ) (flag : Flag) → flag ≢ Track → has_flag (without_flag word Track) flag ≡ has_flag word flag
untracked word flag ne = has_flag-without_flag_other word Track flag ne

settled-untracked : (word : ℕ) → IsSettledHeader word → IsSettledHeader (without_flag word Track)
settled-untracked word h = record {
  live = record {
    header = IsHeader-without_flag word Track h.live.header;
    not_free = untracked word Free (λ e. let no : ⊥ = cc in no) ∙ h.live.not_free;
    not_order1 = untracked word Order1 (λ e. let no : ⊥ = cc in no) ∙ h.live.not_order1;
    not_order2 = untracked word Order2 (λ e. let no : ⊥ = cc in no) ∙ h.live.not_order2;
  };
  not_shadow = untracked word Shadow (λ e. let no : ⊥ = cc in no) ∙ h.not_shadow;
  not_has_shadow = untracked word HasShadow (λ e. let no : ⊥ = cc in no) ∙ h.not_has_shadow;
  not_pinned = untracked word Pinned (λ e. let no : ⊥ = cc in no) ∙ h.not_pinned;
}

pub barrier_stands : (heap : HeapParts) (store : Store) (p : ℕ) (s : PartsStandFor heap store) → IsTrue (is_in p (old_places s.places))
    → PartsStandFor (with_barrier heap p) store
barrier_stands heap store p s t =
    let new : HeapParts = with_barrier heap p in
    let types = heap.setup.types in
    let w : ℕ → ℕ = word_in heap in let v : ℕ → ℕ = word_in new in
    let x : ℕ = without_flag (w p) Track in
    let place = old-is_in s.places p t in
    let size = (laid_out types w p).header in
    let has_word : has heap.memory.blocks p ≡ true =
    lies-at heap.memory.blocks p (words_at types w p) p (s.words.whole p place.0).whole (omega arith) (omega (arith, size)) in
    let words : updated w p x ≡ v = sym (word_at-written heap.memory.blocks p x has_word) in
    let small : heap.nursery.words ≤ 1048576 = omega (arith, s.made.words, s.made.ranges.1) in
    let few : w p < 67108864 = s.words.objects.header p place.0 in
    let same : SameObjects types v w s.places s.husks =
    subst (λ (f : ℕ → ℕ). SameObjects types f w s.places s.husks) words
    (header_written s.words small p place.0 x (type_of-without_flag (w p) Track) (IsHeader-without_flag (w p) Track few)) in
    let objects : HoldsObjects types v s.places s.places s.name store.kept =
    subst (λ (f : ℕ → ℕ). HoldsObjects types f s.places s.places s.name store.kept) words (flag_clear_holds p Track s.words.objects place.0) in
    let here : v p ≡ x = ap (λ (f : ℕ → ℕ). f p) (sym words) ∙ updated-here w p x p refl in
    let other : (q : ℕ) → q ≢ p → v q ≡ w q = λ q ne. ap (λ (f : ℕ → ℕ). f q) (sym words) ∙ updated-other w p x q ne in
    let young : (q : ℕ) → IsTrue (is_in q (young_places s.places)) → v q ≡ w q =
    λ q u. other q (λ e. let yes : is_young q ≡ true = (young-is_in s.places q u).1 in let no : is_young q ≡ false = ap is_young e ∙ place.1 in let not_both : ⊥ = cc in not_both) in
    let husk : (q : ℕ) → IsTrue (is_in q s.husks) → v q ≡ w q =
    λ q u. ap (λ (f : ℕ → ℕ). f q) (sym words) ∙ husk_first s.words small p place.0 p x (omega arith) (omega (arith, size)) q u in
    let shadow : (q : ℕ) → IsTrue (is_in q (reserved_homes (home_in heap) (young_places s.places))) → v q ≡ w q =
    λ q u. ap (λ (f : ℕ → ℕ). f q) (sym words) ∙ shadow_first s.words small p place.0 p x (omega arith) (omega (arith, size)) q u in
    let flag : (f : Flag) → f ≢ Track → has_flag (v p) f ≡ has_flag (w p) f = λ f ne. ap (λ (k : ℕ). has_flag k f) here ∙ untracked (w p) f ne in
    record {
      places = s.places;
      name = s.name;
      husks = s.husks;
      waiting = s.waiting;
      words = words_kept same (λ a n. lies-with_word heap.memory.blocks p x a n) (blocks_written s.words small p place.0 p x (omega arith) (omega (arith, size))) objects s.words;
      headers = record {
        settled = firsts-but v p other (λ q ne h. h) (λ h. subst IsSettledHeader (sym here) (settled-untracked (w p) h)) s.headers.settled;
        husk = firsts-stay v husk s.headers.husk;
        shadow = firsts-stay v shadow s.headers.shadow;
        young = firsts-stay v young s.headers.young;
      };
      young_flags = record { pinned = firsts-stay v young s.young_flags.pinned; has_shadow = firsts-stay v young s.young_flags.has_shadow };
      visited = firsts-but v p other (λ q ne h. h) (λ h. flag Visited (λ e. let no : ⊥ = cc in no) ∙ h) s.visited;
      remembered = record {
        there = among_more heap.remembered p (old_places s.places) t s.remembered.there;
        tracked = firsts-but v p other
            (λ q ne h. record { track = h.track ∙ ap not (sym (whole_other heap.remembered p q ne)); cards_set = h.cards_set ∙ sym (cards_same heap.remembered p q) })
            (λ h. record {
              track = ap (λ (k : ℕ). has_flag k Track) here ∙ has_flag-without_flag_same (w p) Track ∙ ap not (sym (whole_here heap.remembered p));
              cards_set = flag CardsSet (λ e. let no : ⊥ = cc in no) ∙ h.cards_set ∙ sym (cards_same heap.remembered p p);
            }) s.remembered.tracked;
        carded = λ q u.
            let keeps = same.layouts q (old-is_in s.places q u).0 in
            let infos = info_at-same types v w q keeps.type_stays in
            let cards : has_flag (v q) HasCards ≡ has_flag (w q) HasCards = elim (eqb_tells q p) [
              | inl e ↦ subst (λ (k : ℕ). has_flag (v k) HasCards ≡ has_flag (w k) HasCards) (sym e.1) (flag HasCards (λ d. let no : ⊥ = cc in no))
              | inr e ↦ ap (λ (k : ℕ). has_flag k HasCards) (other q e.1)
            ] in
            cards ∙ (s.remembered.carded q u
            ∙ ap₂ (λ (i : TypeInfo) (l : Layout). keeps_cards heap.setup.settings.card i.shape l.ref_count) (sym infos) (sym keeps.layout_stays));
      };
      births = s.births;
      slots = s.slots;
      pins = s.pins;
      finalizers = s.finalizers;
      links = s.links;
      homes = s.homes;
      gray = s.gray;
      gray_phase = s.gray_phase;
      sums = s.sums;
      husk_list = s.husk_list;
      counts = s.counts;
      ungapped = s.ungapped;
      units = s.units;
      made = record { ranges = s.made.ranges; words = s.made.words; pins = s.made.pins; card = s.made.card; arena = s.made.arena; small = s.made.small; page = s.made.page };
      order = plain_in_order (record {
        settled_stay = λ y u. u;
        held_stay = λ y i u. held_more heap.remembered s.name p y i u;
        held_settled = held_settled new.remembered s.name (old_places s.places) store.settled s.births.settled_are
            (among_more heap.remembered p (old_places s.places) t s.remembered.there);
        items = λ y i z u e. inl (u, e);
      }) s.order;
      sound = s.sound;
    }
