-- More is remembered of a settled object, whole or by cards: the heap stands for the same store.
use Rattle.std.proofs.Common.{◌≡◌, ℕ, ◌%◌, true, false, IsTrue, sym, ap, ap₂, ◌∙◌, subst, inl, inr}
use Rattle.std.specs.Prelude.{not}
use Rattle.std.proofs.lemmas.Bool.Decides.{eqb_tells}
use Rattle.type_table.specs.declared.info.TypeInfo.{TypeInfo}
use Rattle.object_header.specs.Words.{has_flag}
use Rattle.object_header.specs.declared.flags.Flag.TheVariants.{Visited, HasCards}
use Rattle.object_view.proofs.LayoutLaws.{info_at-same}
use Rattle.object_model.specs.Layout.{Layout}
use Rattle.store_model.specs.Store.{Store}
use Rattle.object_model.specs.Sets.{is_in}
use Rattle.remember_cards.specs.Remembered.{Remembered, RemembersMore, held_places}
use Rattle.parts_model.specs.Parts.{HeapParts, word_in}
use Rattle.parts_model.specs.Places.{is_young, young_places, old_places, AreAmong}
use Rattle.parts_model.specs.Headers.{IsSettledHeader, keeps_cards}
use Rattle.remember_cards.specs.Tracking.{IsTracked}
use Rattle.parts_model.specs.StandsFor.{PartsStandFor}
use Rattle.parts_model.specs.Effects.{with_word_at}
use Rattle.frame_laws.proofs.PlaceLaws.{young-is_in, old-is_in}
use Rattle.frame_laws.proofs.KeepWords.{firsts-stay}
use Rattle.frame_laws.proofs.BarrierLaws.{firsts-but}
use Rattle.frame_laws.proofs.HeaderLaws.{header_is}
use Rattle.frame_laws.proofs.HeldLaws.{held_settled}
use Rattle.store_model.proofs.OrderLaws.{plain_in_order}

-- the heap with another first word of an object and with this remembered
abbrev pub with_remembered : HeapParts → ℕ → ℕ → Remembered → HeapParts
with_remembered heap p x remembered = record (with_word_at heap p x) { remembered = remembered }

pub remember_stands : (heap : HeapParts) (store : Store) (p x : ℕ) (remembered : Remembered) (s : PartsStandFor heap store) → IsTrue (is_in p (old_places s.places))
    → x % 65536 ≡ word_in heap p % 65536 → IsSettledHeader x → has_flag x Visited ≡ has_flag (word_in heap p) Visited → has_flag x HasCards ≡ has_flag (word_in heap p) HasCards
    → IsTracked remembered p x → RemembersMore heap.remembered remembered p → PartsStandFor (with_remembered heap p x remembered) store
remember_stands heap store p x remembered s t type settled visited carded tracked more =
    let w : ℕ → ℕ = word_in heap in let v : ℕ → ℕ = word_in (with_word_at heap p x) in
    let place = old-is_in s.places p t in
    let is = header_is heap store s p x place.0 type settled.live.header in
    let young : (q : ℕ) → IsTrue (is_in q (young_places s.places)) → v q ≡ w q =
    λ q u. is.other q (λ e. let yes : is_young q ≡ true = (young-is_in s.places q u).1 in let no : is_young q ≡ false = ap is_young e ∙ place.1 in let not_both : ⊥ = cc in not_both) in
    let among : AreAmong (old_places s.places) (held_places remembered) = λ q u. elim (more.there q u) [
      | inl e ↦ (let P : ℕ → Type 0 = λ k. IsTrue (is_in k (old_places s.places)) in subst P (sym e) t)
      | inr o ↦ s.remembered.there q o
    ] in
    record {
      places = s.places;
      name = s.name;
      husks = s.husks;
      waiting = s.waiting;
      words = is.words;
      headers = record {
        settled = firsts-but v p is.other (λ q ne h. h) (λ h. subst IsSettledHeader (sym is.here) settled) s.headers.settled;
        husk = firsts-stay v is.husk s.headers.husk;
        shadow = firsts-stay v is.shadow s.headers.shadow;
        young = firsts-stay v young s.headers.young;
      };
      young_flags = record { pinned = firsts-stay v young s.young_flags.pinned; has_shadow = firsts-stay v young s.young_flags.has_shadow };
      visited = firsts-but v p is.other (λ q ne h. h) (λ h. ap (λ (k : ℕ). has_flag k Visited) is.here ∙ (visited ∙ h)) s.visited;
      remembered = record {
        there = among;
        tracked = firsts-but v p is.other
            (λ q ne h. record { track = h.track ∙ ap not (sym (more.whole_other q ne)); cards_set = h.cards_set ∙ sym (more.cards_other q ne) })
            (λ h. subst (IsTracked remembered p) (sym is.here) tracked) s.remembered.tracked;
        carded = λ q u.
            let keeps = is.same.layouts q (old-is_in s.places q u).0 in
            let cards : has_flag (v q) HasCards ≡ has_flag (w q) HasCards = elim (eqb_tells q p) [
              | inl e ↦ subst (λ (k : ℕ). has_flag (v k) HasCards ≡ has_flag (w k) HasCards) (sym e.1) (ap (λ (k : ℕ). has_flag k HasCards) is.here ∙ carded)
              | inr e ↦ ap (λ (k : ℕ). has_flag k HasCards) (is.other q e.1)
            ] in
            cards ∙ (s.remembered.carded q u
            ∙ ap₂ (λ (i : TypeInfo) (l : Layout). keeps_cards heap.setup.settings.card i.shape l.ref_count) (sym (info_at-same heap.setup.types v w q keeps.type_stays)) (sym keeps.layout_stays));
      };
      births = s.births;
      slots = s.slots;
      pins = s.pins;
      finalizers = s.finalizers;
      links = s.links;
      homes = s.homes;
      gray = s.gray;
      gray_phase = s.gray_phase;
      sums = s.sums;
      husk_list = s.husk_list;
      counts = s.counts;
      ungapped = s.ungapped;
      units = s.units;
      made = record { ranges = s.made.ranges; words = s.made.words; pins = s.made.pins; card = more.card ∙ s.made.card; arena = s.made.arena; small = s.made.small; page = s.made.page };
      order = plain_in_order (record {
        settled_stay = λ y u. u;
        held_stay = λ y i u. more.more s.name y i u;
        held_settled = held_settled remembered s.name (old_places s.places) store.settled s.births.settled_are among;
        items = λ y i z u e. inl (u, e);
      }) s.order;
      sound = s.sound;
    }
