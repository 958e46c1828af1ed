-- The first word of a settled object.
use Rattle.std.proofs.Common.{◌≡◌, ◌≢◌, ℕ, ◌%◌, ◌<◌, Bool, true, false, IsTrue, List, Option, Some, None, refl, sym, ap, ap₂, ◌∙◌, subst, inl, inr, arith, mod-eq_of_lt}
use Rattle.std.specs.Prelude.{◌↔◌, ◌+◌, ◌-◌, Contains}
use Rattle.std.proofs.lemmas.Bool.{cases_Bool}
use Rattle.type_table.specs.declared.info.Shape.{Shape}
use Rattle.type_table.specs.declared.info.Shape.TheVariants.{Fixed, IntArray, RefArray, Weak}
use Rattle.type_table.specs.declared.info.TypeInfo.{TypeInfo}
use Rattle.type_table.specs.Table.{value_at}
use Rattle.object_header.specs.Words.{IsHeader, has_flag, with_flag}
use Rattle.object_header.specs.declared.flags.Flag.{Flag}
use Rattle.object_header.specs.declared.flags.Flag.TheVariants.{Track, Visited, HasShadow, Pinned, HasCards, CardsSet, Free, Shadow, Order1, Order2}
use Rattle.object_header.proofs.WordLaws.{has_flag-with_flag_same, has_flag-with_flag_other, type_of-with_flag, IsHeader-with_flag}
use Rattle.object_header.proofs.HeaderLaws.{has_flag-type}
use Rattle.object_model.specs.Layout.{layout_of}
use Rattle.object_model.specs.ObjectWords.{info_at, info_or_weak, layout_at, type_id_at, words_at}
use Rattle.old_space.specs.HasBlocks.{page_size}
use Rattle.old_space.specs.Calls.{unit_of}
use Rattle.heap_parts.specs.Parts.{HeapParts, word_in}
use Rattle.heap_parts.specs.Headers.{IsSettledHeader, keeps_cards}
use Rattle.heap_parts.specs.OldSpace.{is_waiting, unit_at}
use Rattle.heap_parts.specs.Births.{old_header}
use Rattle.frame_laws.proofs.Filters.{contains_is_in}
use Rattle.rawref_links.proofs.Numbers.{Contains-from_is_in}
use Rattle.minor_collect.specs.Calls.{settled_word, settled_word_of}

-- what its flags tell
pub record IsSettledWord (head type_id : ℕ) (cards visited : Bool) : Type 0 where
  pub settled : IsSettledHeader head
  pub same_type : head % 65536 ≡ type_id
  pub track : has_flag head Track ≡ true
  pub cards_set : has_flag head CardsSet ≡ false
  pub has_cards : has_flag head HasCards ≡ cards
  pub is_visited : has_flag head Visited ≡ visited

off : (type_id : ℕ) (cards : Bool) (f : Flag) → f ≢ Track → f ≢ HasCards → type_id < 65536 → has_flag (old_header type_id cards) f ≡ false
off type_id true f t h small = has_flag-with_flag_other (with_flag type_id Track) HasCards f h ∙ (has_flag-with_flag_other type_id Track f t ∙ has_flag-type type_id f small)
off type_id false f t h small = has_flag-with_flag_other type_id Track f t ∙ has_flag-type type_id f small

tracked : (type_id : ℕ) (cards : Bool) → has_flag (old_header type_id cards) Track ≡ true
tracked type_id true = has_flag-with_flag_other (with_flag type_id Track) HasCards Track (λ e. let no : ⊥ = cc in no) ∙ has_flag-with_flag_same type_id Track
tracked type_id false = has_flag-with_flag_same type_id Track

carded : (type_id : ℕ) (cards : Bool) → type_id < 65536 → has_flag (old_header type_id cards) HasCards ≡ cards
carded type_id true small = has_flag-with_flag_same (with_flag type_id Track) HasCards
carded type_id false small = has_flag-with_flag_other type_id Track HasCards (λ e. let no : ⊥ = cc in no) ∙ has_flag-type type_id HasCards small

typed : (type_id : ℕ) (cards : Bool) → type_id < 65536 → old_header type_id cards % 65536 ≡ type_id
typed type_id true small = type_of-with_flag (with_flag type_id Track) HasCards ∙ (type_of-with_flag type_id Track ∙ mod-eq_of_lt small)
typed type_id false small = type_of-with_flag type_id Track ∙ mod-eq_of_lt small

header : (type_id : ℕ) (cards : Bool) → type_id < 65536 → IsHeader (old_header type_id cards)
header type_id true small = IsHeader-with_flag (with_flag type_id Track) HasCards (IsHeader-with_flag type_id Track (omega (arith, small)))
header type_id false small = IsHeader-with_flag type_id Track (omega (arith, small))

module _ (type_id : ℕ) (cards visited : Bool) (small : type_id < 65536) where
  other : (f : Flag) → f ≢ Visited → has_flag (settled_word type_id cards visited) f ≡ has_flag (old_header type_id cards) f
  other f ne = elim (cases_Bool visited) [
    | inl e ↦ subst (λ (b : Bool). has_flag (settled_word type_id cards b) f ≡ has_flag (old_header type_id cards) f) (sym e) (has_flag-with_flag_other (old_header type_id cards) Visited f ne)
    | inr e ↦ subst (λ (b : Bool). has_flag (settled_word type_id cards b) f ≡ has_flag (old_header type_id cards) f) (sym e) refl
  ]

  seen : (b : Bool) → has_flag (settled_word type_id cards b) Visited ≡ b
  seen true = has_flag-with_flag_same (old_header type_id cards) Visited
  seen false = off type_id cards Visited (λ e. let no : ⊥ = cc in no) (λ e. let no : ⊥ = cc in no) small

  low : (b : Bool) → IsHeader (settled_word type_id cards b)
  low true = IsHeader-with_flag (old_header type_id cards) Visited (header type_id cards small)
  low false = header type_id cards small

  kind : (b : Bool) → settled_word type_id cards b % 65536 ≡ type_id
  kind true = type_of-with_flag (old_header type_id cards) Visited ∙ typed type_id cards small
  kind false = typed type_id cards small

  unset : (f : Flag) → f ≢ Visited → f ≢ Track → f ≢ HasCards → has_flag (settled_word type_id cards visited) f ≡ false
  unset f v t h = other f v ∙ off type_id cards f t h small

  pub settled_word_is : IsSettledWord (settled_word type_id cards visited) type_id cards visited
  settled_word_is = record {
    settled = record {
      live = record {
        header = low visited;
        not_free = unset Free (λ e. let no : ⊥ = cc in no) (λ e. let no : ⊥ = cc in no) (λ e. let no : ⊥ = cc in no);
        not_order1 = unset Order1 (λ e. let no : ⊥ = cc in no) (λ e. let no : ⊥ = cc in no) (λ e. let no : ⊥ = cc in no);
        not_order2 = unset Order2 (λ e. let no : ⊥ = cc in no) (λ e. let no : ⊥ = cc in no) (λ e. let no : ⊥ = cc in no);
      };
      not_shadow = unset Shadow (λ e. let no : ⊥ = cc in no) (λ e. let no : ⊥ = cc in no) (λ e. let no : ⊥ = cc in no);
      not_has_shadow = unset HasShadow (λ e. let no : ⊥ = cc in no) (λ e. let no : ⊥ = cc in no) (λ e. let no : ⊥ = cc in no);
      not_pinned = unset Pinned (λ e. let no : ⊥ = cc in no) (λ e. let no : ⊥ = cc in no) (λ e. let no : ⊥ = cc in no);
    };
    same_type = kind visited;
    track = other Track (λ e. let no : ⊥ = cc in no) ∙ tracked type_id cards;
    cards_set = unset CardsSet (λ e. let no : ⊥ = cc in no) (λ e. let no : ⊥ = cc in no) (λ e. let no : ⊥ = cc in no);
    has_cards = other HasCards (λ e. let no : ⊥ = cc in no) ∙ carded type_id cards small;
    is_visited = seen visited;
  }

-- a test that tells what another one does is the same
same-test : (b c : Bool) → (IsTrue b → IsTrue c) → (IsTrue c → IsTrue b) → b ≡ c
same-test true c f g = sym (f refl)
same-test false true f g = g refl
same-test false false f g = refl

some-info : (got : Option TypeInfo) (info : TypeInfo) → got ≡ Some info → info_or_weak got ≡ info
some-info None info e = absurd (let no : ⊥ = cc in no)
some-info (Some x) info e = let same : x ≡ info = cc in same

-- an array has 3 words before its items, and what is no array of references keeps no cards
cards_by_words : (card : ℕ) (shape : Shape) (p third : ℕ)
    → keeps_cards card shape ((layout_of shape p third).words - 3) ≡ keeps_cards card shape (layout_of shape p third).ref_count
cards_by_words card (Fixed ints refs) p third = refl
cards_by_words card IntArray p third = refl
cards_by_words card RefArray p third = ap (λ (k : ℕ). keeps_cards card RefArray k) (let same : 3 + third - 3 ≡ third = omega arith in same)
cards_by_words card Weak p third = refl

-- what the calls tell makes the first word
pub head_is : (heap : HeapParts) (p n a id : ℕ) (got : Option TypeInfo) (info : TypeInfo) (cards waits : Bool) (result : ℕ) (waiting : List ℕ)
    → id ≡ type_id_at (word_in heap) p → n ≡ words_at heap.setup.types (word_in heap) p → got ≡ value_at heap.setup.types id → got ≡ Some info
    → cards ≡ keeps_cards heap.setup.settings.card info.shape (n - 3) → (IsTrue waits ↔ Contains waiting (unit_of heap.old_blocks a)) → result ≡ settled_word id cards waits
    → result ≡ settled_word_of heap p (is_waiting (page_size heap.old_blocks) waiting a)
unfolding layout_at
head_is heap p n a id got info cards waits result waiting type size got_is some cards_is tells result_is =
    let page : ℕ = page_size heap.old_blocks in
    let card : ℕ = heap.setup.settings.card in
    let shape : Shape = (info_at heap.setup.types (word_in heap) p).shape in
    let info_is : info ≡ info_at heap.setup.types (word_in heap) p = sym (some-info got info some) ∙ (ap info_or_weak got_is ∙ ap (λ (k : ℕ). info_or_weak (value_at heap.setup.types k)) type) in
    let cards_same : cards ≡ keeps_cards card shape (layout_at heap.setup.types (word_in heap) p).ref_count =
    cards_is ∙ ap₂ (λ (i : TypeInfo) (k : ℕ). keeps_cards card i.shape (k - 3)) info_is size ∙ cards_by_words card shape p (word_in heap (p + 2)) in
    let waits_same : waits ≡ is_waiting page waiting a = same-test waits (is_waiting page waiting a)
    (λ t. contains_is_in waiting (unit_of heap.old_blocks a) (tells.0 t)) (λ t. tells.1 (Contains-from_is_in (unit_at page a) waiting t)) in
    result_is ∙ (ap (λ (k : ℕ). settled_word k cards waits) type ∙ ap₂ (λ (b c : Bool). settled_word (type_id_at (word_in heap) p) b c) cards_same waits_same)
