-- Lists of a heap when a place that none of them names gets a name.
use Rattle.std.proofs.Common.{◌≡◌, ℕ, ◌<◌, Bool, IsTrue, List, [], ◌∷◌, map, Some, None, refl, sym, ap, ap₂, ◌∙◌, subst, inl, inr, arith}
use Rattle.std.specs.Prelude.{flat_map, option_and_then, ◌==◌, ◌&&◌, ◌||◌}
use Rattle.std.specs.List.{list_any, All}
use Rattle.std.proofs.lemmas.Bool.Decides.{eqb_tells, nat_tests}
use Rattle.std.proofs.lemmas.List.Elements.{All-nil, All-cons, All-head, All-tail}
use Rattle.type_table.specs.Table.{Table, KeysRise, value_at}
use Rattle.type_table.proofs.TableLaws.{first_key_below, KeysRise-tail, KeysRise-cons}
use Rattle.object_model.proofs.Members.{is_in-head, is_in-tail, map-same, in-left, in-right}
use Rattle.store_model.specs.Store.{Struct, Linked, Unlinked, Pending}
use Rattle.object_model.specs.Sets.{is_in}
use Rattle.store_model.specs.Structs.{Structs, object_of, with_object, with_objects}
use Rattle.remember_cards.specs.Remembered.{Held, Remembered, holds_item, is_held_of}
use Rattle.parts_model.specs.NamedFinals.{NamedFinals}
use Rattle.parts_model.specs.Places.{AreAmong}
use Rattle.parts_model.specs.Lists.{named_entries, named_queues, HoldsList, HoldsEntries, HoldsQueues, HoldsLinks}
use Rattle.parts_model.specs.StandsFor.{HoldsFinalizers}
use Rattle.store_model.proofs.StructLaws.{behind-first, first-value}

-- names agree on these places
abbrev pub AgreeOn : (ℕ → ℕ) → (ℕ → ℕ) → List ℕ → Type 0
AgreeOn other name places = (p : ℕ) → IsTrue (is_in p places) → other p ≡ name p

entries-agree : (other name : ℕ → ℕ) (places : List ℕ) (entries : List (ℕ × ℕ)) → AgreeOn other name places → AreAmong places (map (λ entry. entry.0) entries)
    → named_entries name entries ≡ named_entries other entries
entries-agree other name places [] agree there = refl
entries-agree other name places (entry ∷ entries) agree there =
    ap₂ (λ (b : ℕ) (rest : List (ℕ × ℕ)). (b, entry.1) ∷ rest) (sym (agree entry.0 (there entry.0 (is_in-head entry.0 (map (λ (e : ℕ × ℕ). e.0) entries)))))
    (entries-agree other name places entries agree (λ p t. there p (is_in-tail p entry.0 (map (λ (e : ℕ × ℕ). e.0) entries) t)))

queues-agree : (other name : ℕ → ℕ) (places : List ℕ) (queues : Table (List ℕ)) → AgreeOn other name places → AreAmong places (flat_map (λ entry. entry.1) queues)
    → named_queues name queues ≡ named_queues other queues
queues-agree other name places [] agree there = refl
queues-agree other name places (entry ∷ queues) agree there =
    ap₂ (λ (xs : List ℕ) (rest : Table (List ℕ)). (entry.0, xs) ∷ rest)
    (map-same name other entry.1 (λ p t. sym (agree p (there p (in-left p entry.1 (flat_map (λ (e : ℕ × List ℕ). e.1) queues) t)))))
    (queues-agree other name places queues agree (λ p t. there p (in-right p entry.1 (flat_map (λ (e : ℕ × List ℕ). e.1) queues) t)))

object-agrees : (other name : ℕ → ℕ) (t : Struct) → ((p : ℕ) → object_of t ≡ Some p → other p ≡ name p) → with_object name t ≡ with_object other t
object-agrees other name (Linked p light o own) agree = ap (λ (k : ℕ). Linked p light k own) (sym (agree o refl))
object-agrees other name (Unlinked own) agree = refl
object-agrees other name Pending agree = refl

objects-agree : (other name : ℕ → ℕ) (structs : Table Struct) → KeysRise structs → ((n p : ℕ) → option_and_then object_of (value_at structs n) ≡ Some p → other p ≡ name p)
    → with_objects name structs ≡ with_objects other structs
objects-agree other name [] rises agree = refl
objects-agree other name (entry ∷ structs) rises agree =
    ap₂ (λ (t : Struct) (rest : Table Struct). (entry.0, t) ∷ rest)
    (object-agrees other name entry.1 (λ p e. agree entry.0 p (ap (option_and_then object_of) (first-value entry structs) ∙ e)))
    (objects-agree other name structs (KeysRise-tail entry structs rises) (λ n p e. elim (eqb_tells n entry.0) [
      | inl same ↦ absurd (let none : value_at structs n ≡ None = subst (λ (k : ℕ). value_at structs k ≡ None) (sym same.1) (behind-first entry structs rises) in
          let nothing : option_and_then object_of (value_at structs n) ≡ None = ap (option_and_then object_of) none in let no : ⊥ = cc in no)
      | inr differ ↦ agree n p (ap (option_and_then object_of) (let same : value_at (entry ∷ structs) n ≡ value_at structs n = (let ne = differ.1 in grind (arith, nat_tests)) in same) ∙ e)
    ]))

-- the births of entries
pub entries-names : (name : ℕ → ℕ) (entries : List (ℕ × ℕ)) → map (λ entry. entry.0) (named_entries name entries) ≡ map name (map (λ entry. entry.0) entries)
entries-names name [] = refl
entries-names name (entry ∷ entries) = ap (λ (births : List ℕ). name entry.0 ∷ births) (entries-names name entries)

-- entries, without what stands beside their places
pub listed : {entries : List (ℕ × ℕ)} {places : List ℕ} {name : ℕ → ℕ} {stored : List (ℕ × ℕ)} → HoldsEntries entries places name stored
    → HoldsList (map (λ entry. entry.0) entries) places name (map (λ entry. entry.0) stored)
listed {entries = entries} {name = name} h = record { named = ap (map (λ (entry : ℕ × ℕ). entry.0)) h.named ∙ entries-names name entries; there = h.there }

-- keys that rise under other names rise
below-unnamed : (name : ℕ → ℕ) (structs : Table Struct) (number : ℕ) → All (λ later. number < later.0) (with_objects name structs) → All (λ later. number < later.0) structs
below-unnamed name [] number all = All-nil _
below-unnamed name (entry ∷ structs) number all =
    All-cons (λ later. number < later.0) entry structs (All-head (λ later. number < later.0) (entry.0, with_object name entry.1) (with_objects name structs) all)
    (below-unnamed name structs number (All-tail (λ later. number < later.0) (entry.0, with_object name entry.1) (with_objects name structs) all))

pub rises-unnamed : (name : ℕ → ℕ) (structs : Table Struct) → KeysRise (with_objects name structs) → KeysRise structs
rises-unnamed name [] rises = rises
rises-unnamed name (entry ∷ structs) rises =
    KeysRise-cons entry structs (below-unnamed name structs entry.0 (first_key_below (entry.0, with_object name entry.1) (with_objects name structs) rises))
    (rises-unnamed name structs (KeysRise-tail (entry.0, with_object name entry.1) (with_objects name structs) rises))

-- Places with other names that agree, and more of them.
module _ {places more : List ℕ} {name other : ℕ → ℕ} (agree : AgreeOn other name places) (less : AreAmong more places) where
  pub list_agrees : {listed : List ℕ} {stored : List ℕ} → HoldsList listed places name stored → HoldsList listed more other stored
  list_agrees {listed = listed} h = record {
    named = h.named ∙ map-same name other listed (λ p t. sym (agree p (h.there p t)));
    there = λ p t. less p (h.there p t);
  }

  pub entries_agree : {entries : List (ℕ × ℕ)} {stored : List (ℕ × ℕ)} → HoldsEntries entries places name stored → HoldsEntries entries more other stored
  entries_agree {entries = entries} h = record {
    named = h.named ∙ entries-agree other name places entries agree h.there;
    there = λ p t. less p (h.there p t);
  }

  pub queues_agree : {queues : Table (List ℕ)} {stored : Table (List ℕ)} → HoldsQueues queues places name stored → HoldsQueues queues more other stored
  queues_agree {queues = queues} h = record {
    named = h.named ∙ queues-agree other name places queues agree h.there;
    there = λ p t. less p (h.there p t);
  }

  pub finalizers_agree : {finals : NamedFinals} {queue_count : ℕ} {registered chosen : List (ℕ × ℕ)} {queues : Table (List ℕ)} {stored_registered stored_chosen : List (ℕ × ℕ)} {stored_queues : Table (List ℕ)}
      → HoldsFinalizers finals queue_count registered chosen queues places name stored_registered stored_chosen stored_queues
      → HoldsFinalizers finals queue_count registered chosen queues more other stored_registered stored_chosen stored_queues
  finalizers_agree h = record { registered_are = entries_agree h.registered_are; chosen_are = entries_agree h.chosen_are; queues_are = queues_agree h.queues_are; births_are = h.births_are }

  pub links_agree : {links : Structs} {structs : Table Struct} {dead : List ℕ} → KeysRise structs → HoldsLinks links places name structs dead → HoldsLinks links more other structs dead
  links_agree {links = links} rises h = record {
    named = h.named ∙ objects-agree other name links.structs (rises-unnamed name links.structs (subst KeysRise h.named rises)) (λ n p e. agree p (h.there n p e));
    there = λ n p e. less p (h.there n p e);
    queue = h.queue;
  }

held-agrees : (card : ℕ) (other name : ℕ → ℕ) (hs : List Held) (places : List ℕ) (x i : ℕ) → AgreeOn other name places → AreAmong places (map (λ h. h.place) hs)
    → list_any (λ h. other h.place == x && holds_item card h i) hs ≡ list_any (λ h. name h.place == x && holds_item card h i) hs
held-agrees card other name [] places x i agree there = refl
held-agrees card other name (h ∷ hs) places x i agree there =
    ap₂ (λ (b : ℕ) (rest : Bool). (b == x && holds_item card h i) || rest) (agree h.place (there h.place (is_in-head h.place (map (λ (k : Held). k.place) hs))))
    (held-agrees card other name hs places x i agree (λ p t. there p (is_in-tail p h.place (map (λ (k : Held). k.place) hs) t)))

-- what is remembered is so under other names that agree
pub held_agrees : (remembered : Remembered) (other name : ℕ → ℕ) (places : List ℕ) (x i : ℕ) → AgreeOn other name places → AreAmong places (map (λ h. h.place) remembered.held)
    → is_held_of remembered other x i ≡ is_held_of remembered name x i
held_agrees remembered other name places x i agree there = held-agrees remembered.card other name remembered.held places x i agree there
