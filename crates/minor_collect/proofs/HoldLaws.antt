-- An object is held for the next collection, since it refers to a pinned one.
use Rattle.std.proofs.Common.{◌≡◌, ℕ, ◌+◌, Bool, true, false, IsTrue, List, [], ◌∷◌, ◌++◌, map, refl, sym, ap, ◌∙◌, subst, inl, inr, arith}
use Rattle.std.specs.Prelude.{◌==◌, ◌&&◌, ◌||◌, not, if◌then◌else◌}
use Rattle.std.specs.List.{list_any}
use Rattle.std.proofs.lemmas.Bool.{cases_Bool}
use Rattle.std.proofs.lemmas.List.Folds.{list_any-append}
use Rattle.type_table.specs.declared.info.TypeInfo.{TypeInfo}
use Rattle.type_table.specs.Table.{Table}
use Rattle.object_header.specs.Words.{without_flag}
use Rattle.object_header.specs.declared.flags.Flag.TheVariants.{Track, CardsSet}
use Rattle.object_header.proofs.WordLaws.{has_flag-without_flag_same, has_flag-without_flag_other, type_of-without_flag, IsHeader-without_flag}
use Rattle.object_model.specs.Sets.{is_in}
use Rattle.object_model.proofs.Members.{is_in-last, is_in-tail}
use Rattle.remember_cards.specs.Remembered.{Held, Remembered, held_whole, held_places, is_held_whole, has_held_cards, RemembersMore}
use Rattle.remember_cards.specs.Remembering.{Remembering, remembered_by, kept_place}
use Rattle.remember_cards.proofs.KeptLaws.{cards_kept}
use Rattle.store_model.specs.Store.{Store}
use Rattle.std.proofs.lemmas.Bool.Decides.{eqb_tells}
use Rattle.object_view.proofs.LayoutLaws.{keeps-same, laid_out}
use Rattle.object_view.proofs.SpaceLaws.{lies-at}
use Rattle.heap_space.specs.Places.{has}
use Rattle.minor_collect.proofs.WriteMid.{place_there}
use Rattle.heap_parts.specs.Parts.{HeapParts, word_in}
use Rattle.heap_parts.specs.Places.{old_places}
use Rattle.heap_parts.specs.Effects.{with_word_at}
use Rattle.minor_collect.specs.Midway.{Follows, Owes, IsDone}
use Rattle.minor_collect.specs.Calls.{Stage, Spot, Middle, CanHold, HeldFor, spot_held, leads_young}
use Rattle.minor_collect.proofs.MarkMid.{Retells, middle_marks, head_layouts, head_words}
use Rattle.minor_collect.proofs.OpenStep.{midway_follows}

whole-listed : (xs : List ℕ) (p : ℕ) → IsTrue (is_in p xs) → IsTrue (list_any (λ (e : Held). e.place == p && e.is_whole) (map held_whole xs))
whole-listed [] p t = t
whole-listed (x ∷ xs) p t = both (x == p) (is_in p xs) _ t (whole-listed xs p)
  where
    both : (a b c : Bool) → IsTrue (a || b) → (IsTrue b → IsTrue c) → IsTrue ((a && true) || c)
    both true b c t f = refl
    both false b c t f = f t

or-left : (a b : Bool) → IsTrue a → IsTrue (a || b)
or-left true b t = refl
or-left false b t = absurd (let no : ⊥ = cc in no)

-- what is kept is remembered whole
pub kept_whole : (m : Remembering) (p : ℕ) → IsTrue (is_held_whole (remembered_by (kept_place m p)) p)
kept_whole m p =
    let kept : List ℕ = (kept_place m p).kept in
    let f : Held → Bool = λ e. e.place == p && e.is_whole in
    list_any-append f (map held_whole kept) m.entries ∙ or-left (list_any f (map held_whole kept)) (list_any f m.entries) (whole-listed kept p there)
  where
    there : IsTrue (is_in p (kept_place m p).kept)
    there = elim (cases_Bool (is_in p m.kept)) [
      | inl t ↦ let same : (kept_place m p).kept ≡ m.kept = rw t refl in ap (is_in p) same ∙ t
      | inr out ↦ let same : (kept_place m p).kept ≡ m.kept ++ p ∷ [] = rw out refl in ap (is_in p) same ∙ is_in-last m.kept p
    ]

-- and cards are those that were
pub kept_cards : (m : Remembering) (p q : ℕ) → has_held_cards (remembered_by (kept_place m p)) q ≡ has_held_cards (remembered_by m) q
kept_cards m p q = sym (cards_kept (kept_place m p) q) ∙ cards_kept m q

-- more may be held
follows-held : {types : Table TypeInfo} {store : Store} {remembered : ℕ → ℕ → Bool} {pins : List ℕ} {w name : ℕ → ℕ} {met places found todo held left : List ℕ} {owes : Owes} (p : ℕ)
    → Follows types store remembered pins w met places name found todo held left owes → Follows types store remembered pins w met places name found todo (p ∷ held) left owes
follows-held {pins = pins} {places = places} {held = held} p f = record {
  trace = f.trace;
  todo_old = f.todo_old;
  lasts = f.lasts;
  waits = f.waits;
  gone = f.gone;
  looked = λ q j t l b. elim (f.looked q j t l b) [
    | inl u ↦ inl u
    | inr (inl o) ↦ inr (inl o)
    | inr (inr (inl forgot)) ↦ inr (inr (inl forgot))
    | inr (inr (inr d)) ↦ inr (inr (inr (more q _ d)))
  ];
}
  where
    more : (q x : ℕ) → IsDone pins places held q x → IsDone pins places (p ∷ held) q x
    more q x (inl e) = inl e
    more q x (inr (inl old)) = inr (inl old)
    more q x (inr (inr pin)) = inr (inr (pin.0, (pin.1.0, is_in-tail q p held pin.1.1)))

module _ {stage : Stage} {now : HeapParts} {spot : Spot} (m : Remembering) (middle : Middle stage now spot []) (p y : ℕ)
    (there : IsTrue (is_in p (old_places spot.placing.places))) (is : remembered_by m ≡ now.remembered) (young : leads_young y ≡ true)
    (more : RemembersMore (remembered_by m) (remembered_by (kept_place m p)) p) where
  abbrev head : ℕ
  head = without_flag (word_in now p) Track

  abbrev after : Remembered
  after = remembered_by (kept_place m p)

  retells : Retells now spot p head after
  retells = record {
    same_type = type_of-without_flag (word_in now p) Track;
    small = IsHeader-without_flag (word_in now p) Track (middle.mid.headers.settled.each p there).live.header;
    flags = λ f t c. has_flag-without_flag_other (word_in now p) Track f t;
    tracked = record {
      track = has_flag-without_flag_same (word_in now p) Track ∙ ap not (sym (kept_whole m p));
      cards_set = has_flag-without_flag_other (word_in now p) Track CardsSet (λ e. let no : ⊥ = cc in no)
          ∙ ((middle.mid.marked.tracked.each p there).cards_set ∙ (ap (λ (r : Remembered). has_held_cards r p) (sym is) ∙ sym (kept_cards m p p)));
    };
    others = λ q ne. (more.whole_other q ne ∙ ap (λ (r : Remembered). is_held_whole r q) is, more.cards_other q ne ∙ ap (λ (r : Remembered). has_held_cards r q) is);
    among = λ q t. elim (more.there q t) [
      | inl e ↦ subst (λ (k : ℕ). IsTrue (is_in k (old_places spot.placing.places))) (sym e) there
      | inr u ↦ middle.mid.marked.there q (subst (λ (r : Remembered). IsTrue (is_in q (held_places r))) is u)
    ];
    card = more.card ∙ ap (λ (r : Remembered). r.card) is;
  }

  marked : Middle stage (record (with_word_at now p head) { remembered = after }) spot []
  marked = middle_marks middle p head after there retells

  spot-is : record spot { held = p ∷ spot.held } ≡ spot_held spot p y
  spot-is = ap (λ (b : Bool). record spot { held = if b then p ∷ spot.held else spot.held }) (sym young)

  pub held_for : HeldFor stage now (record (with_word_at now p head) { remembered = after }) spot p y
  held_for = record {
    after = subst (λ (s : Spot). Middle stage (record (with_word_at now p head) { remembered = after }) s []) spot-is
        (record { mid = midway_follows marked.mid (follows-held p marked.mid.follows); rest = marked.rest; sizes = marked.sizes });
    keeps = λ q t. elim (eqb_tells q p) [
      | inl e ↦ subst (λ (k : ℕ). IsTrue (is_held_whole after k)) (sym e.1) (kept_whole m p)
      | inr ne ↦ more.whole_other q ne.1 ∙ (ap (λ (r : Remembered). is_held_whole r q) is ∙ t)
    ];
    here = λ e. kept_whole m p;
    words = head_words middle p head after there retells;
    layouts = head_layouts middle p head after there retells;
    only = refl;
  }

-- nothing is asked for
pub held_not : {stage : Stage} {now : HeapParts} {spot : Spot} (middle : Middle stage now spot []) (p y : ℕ) → leads_young y ≡ false → HeldFor stage now now spot p y
held_not {stage = stage} {now = now} {spot = spot} middle p y none = record {
  after = subst (λ (b : Bool). Middle stage now (record spot { held = if b then p ∷ spot.held else spot.held }) []) (sym none) middle;
  keeps = λ q t. t;
  here = λ e. absurd (let clash : true ≡ false = sym e ∙ none in let no : ⊥ = cc in no);
  words = λ b ne. refl;
  layouts = λ q t. keeps-same stage.start.setup.types (word_in now) (word_in now) q (record { same = λ a low high. refl });
  only = refl;
}

-- the first word of the object can be written
pub can_write : (now : HeapParts) (p : ℕ) → CanHold now p → IsTrue (has now.memory.blocks p)
can_write now p c =
    let two = (laid_out c.stage.start.setup.types (word_in now) p).header in
    lies-at now.memory.blocks p _ p (c.middle.mid.words.whole p (place_there c.middle p c.there)).whole (omega arith) (omega (arith, two))
