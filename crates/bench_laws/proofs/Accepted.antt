-- No command of a generated script is refused.
use Rattle.std.proofs.Common.{◌≡◌, ℕ, ◌<◌, ◌≤◌, Bool, false, IsTrue, List, [], ◌∷◌, Option, Some, None, refl, ap, ◌∙◌, arith}
use Rattle.std.specs.Prelude.{is_some, nat_lt, nat_le, option_map, option_and_then}
use Rattle.std.proofs.lemmas.Bool.{le-ltb, lt-leb}
use Rattle.type_table.specs.declared.info.Shape.TheVariants.{Fixed, IntArray, RefArray, Weak}
use Rattle.text_model.specs.declared.command.Command.{Command}
use Rattle.text_model.specs.declared.item.Item.TheVariants.{Command as CommandItem}
use Rattle.text_model.specs.Range.{is_above}
use Rattle.object_model.specs.declared.kind.Kind.{Kind}
use Rattle.object_model.specs.Object.{Object, object_at}
use Rattle.object_model.specs.Setup.{Setup}
use Rattle.object_model.specs.Shapes.{kind_of}
use Rattle.store_model.specs.Store.{Store}
use Rattle.store_model.specs.Slots.{held, kind_in}
use Rattle.store_model.specs.Look.{look}
use Rattle.store_model.specs.Refusal.{refusal_seen}
use Rattle.store_model.proofs.RootLaws.{held_root}
use Rattle.bench_laws.proofs.Forms.{HasForm, IsGenerated, pair, row, weak, bench_settings}
use Rattle.bench_laws.proofs.Drawn.{IsDrawn, Pair, Row, Numbers, WeakTo, PutIn, GetFrom, LinkPair, LinkRow, LoadPair, LoadRow, DerefWeak, HashPair, Whole}

-- the settings and types of generated scripts
abbrev pub bench_setup : Setup
bench_setup = record {
  settings = bench_settings;
  types =
      (1, record { shape = Fixed 1 2; destructor = false }) ∷ (2, record { shape = RefArray; destructor = false })
      ∷ (3, record { shape = Weak; destructor = false }) ∷ (4, record { shape = IntArray; destructor = false }) ∷ [];
}

-- a slot below 16 is in range and there, and a length is in range
in_range : (n : ℕ) → n < 16 → nat_lt 65535 n ≡ false
in_range n below = le-ltb 65535 n (omega (arith, below))

is_there : (n : ℕ) → n < 16 → nat_le 16 n ≡ false
is_there n below = lt-leb 16 n below

item_in_range : (n : ℕ) → n ≤ 700 → nat_lt 16777216 n ≡ false
item_in_range n below = le-ltb 16777216 n (omega (arith, below))

module _ {filled most : ℕ} {store : Store} (g : IsGenerated filled most store) where
  -- what is in a filled slot
  kind_is : (slot x : ℕ) (form : Kind) → held store.slots slot ≡ Some x → HasForm store.kept x form → kind_in store.slots store.kept slot ≡ Some form
  kind_is slot x form e h = go (object_at store.kept x) refl (g.well.sound.roots x (held_root store slot x e))
    where
      go : (found : Option Object) → object_at store.kept x ≡ found → IsTrue (is_some found) → kind_in store.slots store.kept slot ≡ Some form
      go None is t = absurd (let no : ⊥ = cc in no)
      go (Some o) is t =
          ap (λ (birth : Option ℕ). option_map kind_of (option_and_then (object_at store.kept) birth)) e ∙ (ap (λ (found : Option Object). option_map kind_of found) is ∙ ap (λ (kind : Kind). Some kind) (h.is o is))

  pair_in : (slot : ℕ) → slot < 8 → slot < filled → kind_in store.slots store.kept slot ≡ Some pair
  pair_in slot below full = let h = g.full.at slot full in kind_is slot h.0 pair h.1 (g.slots.pairs slot h.0 below h.1)

  row_in : (slot : ℕ) → 8 ≤ slot → slot < 12 → slot < filled → kind_in store.slots store.kept slot ≡ Some row
  row_in slot from below full = let h = g.full.at slot full in kind_is slot h.0 row h.1 (g.slots.rows slot h.0 from below h.1)

  weak_in : 14 < filled → kind_in store.slots store.kept 14 ≡ Some weak
  weak_in full = let h = g.full.at 14 full in kind_is 14 h.0 weak h.1 (g.slots.weaks h.0 h.1)

  module _ (names : List ℕ) (late : Bool) where
    pub accepted : (now : ℕ) (command : Command) → IsDrawn filled now command → refusal_seen bench_setup names late (look store) (CommandItem command) ≡ None
    unfolding refusal_seen is_above
    accepted now _ (Pair root below covers) = rw (in_range root (omega (arith, below)), is_there root (omega (arith, below))) refl
    accepted now _ (Row root from below covers) = rw (in_range root (omega (arith, below)), is_there root (omega (arith, below))) refl
    accepted now _ (Numbers root len from below few covers) = rw (in_range root (omega (arith, below)), is_there root (omega (arith, below)), item_in_range len few) refl
    accepted now _ (WeakTo target below full covers) = rw (in_range target (omega (arith, below)), is_there target (omega (arith, below)), pair_in target below full) refl
    accepted _ _ (PutIn root value below full) = rw (in_range root (omega (arith, below)), is_there root (omega (arith, below)), pair_in root below full) refl
    accepted _ _ (GetFrom root below full) = rw (in_range root (omega (arith, below)), is_there root (omega (arith, below)), pair_in root below full) refl
    accepted _ _ (LinkPair root item from below full two source) =
        rw (
          in_range root (omega (arith, below)),
          is_there root (omega (arith, below)),
          in_range from (omega (arith, source)),
          is_there from (omega (arith, source)),
          item_in_range item (omega (arith, two)),
          pair_in root below full,
          lt-leb 2 item two,
        ) refl
    accepted _ _ (LinkRow root item from above below full eight source) =
        rw (
          in_range root (omega (arith, below)),
          is_there root (omega (arith, below)),
          in_range from (omega (arith, source)),
          is_there from (omega (arith, source)),
          item_in_range item (omega (arith, eight)),
          row_in root above below full,
          lt-leb 8 item eight,
        ) refl
    accepted _ _ (LoadPair root item below full two) =
        rw (in_range root (omega (arith, below)), is_there root (omega (arith, below)), item_in_range item (omega (arith, two)), pair_in root below full, lt-leb 2 item two) refl
    accepted _ _ (LoadRow root item above below full eight) =
        rw (in_range root (omega (arith, below)), is_there root (omega (arith, below)), item_in_range item (omega (arith, eight)), row_in root above below full, lt-leb 8 item eight) refl
    accepted _ _ (DerefWeak full) = rw (weak_in full) refl
    accepted _ _ (HashPair root below full) = rw (in_range root (omega (arith, below)), is_there root (omega (arith, below)), pair_in root below full) refl
    accepted _ _ Whole = refl
