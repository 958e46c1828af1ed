-- Each command of a generated script leaves a store of a generated script, and meets no limit.
use Rattle.std.proofs.Common.{◌≡◌, ℕ, ◌+◌, ◌<◌, ◌≤◌, false, List, replicate, length, Option, Some, refl, sym, ap, ◌∙◌, subst, arith}
use Rattle.std.proofs.lemmas.List.{length-replicate}
use Rattle.type_table.specs.declared.info.Shape.TheVariants.{Fixed, IntArray, RefArray, Weak}
use Rattle.type_table.specs.declared.info.TypeInfo.{TypeInfo}
use Rattle.text_model.specs.declared.command.Command.{Command}
use Rattle.text_model.specs.declared.line.Line.{Line}
use Rattle.object_model.specs.Newborn.{Request}
use Rattle.store_model.specs.Store.{Store}
use Rattle.store_model.specs.Slots.{held}
use Rattle.store_model.specs.Births.{BirthWithRoom, fixed_request, array_request, weak_request, words_asked}
use Rattle.store_model.specs.Steps.{Does}
use Rattle.store_model.proofs.CollectionsSound.{IsWell, birth_leaves, room_leaves}
use Rattle.store_model.proofs.RootLaws.{held_root}
use Rattle.bench_laws.proofs.Forms.{IsGenerated, bench_settings, sweeps}
use Rattle.bench_laws.proofs.Born.{IsSmallRequest, generated_born}
use Rattle.bench_laws.proofs.Writes.{put_keeps, get_keeps, link_keeps, load_keeps, deref_keeps, hash_keeps, collect_keeps}
use Rattle.bench_laws.proofs.Room.{room_left}
use Rattle.bench_laws.proofs.Drawn.{Covers, IsDrawn, Pair, Row, Numbers, WeakTo, PutIn, GetFrom, LinkPair, LinkRow, LoadPair, LoadRow, DerefWeak, HashPair, Whole}
use Rattle.bench_laws.proofs.Accepted.{bench_setup}

-- a later next birth may come
later : {filled most : ℕ} {store : Store} → IsGenerated filled most store → IsGenerated filled (most + 1) store
later g = record { well = g.well; plain = g.plain; objects = g.objects; slots = g.slots; full = g.full; few = let few = g.few in omega (arith, few) }

abbrev pub info_of_pair : TypeInfo
info_of_pair = record { shape = Fixed 1 2; destructor = false }

abbrev pub info_of_row : TypeInfo
info_of_row = record { shape = RefArray; destructor = false }

abbrev pub info_of_numbers : TypeInfo
info_of_numbers = record { shape = IntArray; destructor = false }

abbrev pub info_of_weak : TypeInfo
info_of_weak = record { shape = Weak; destructor = false }

small_pair : (store : Store) (root : ℕ) → root < 8 → IsSmallRequest store info_of_pair (fixed_request root 1)
small_pair store root below = record {
  small = omega arith;
  fits = record {
    within = omega (arith, below);
    pairs = λ low. refl;
    rows = λ from low. absurd (let no : ⊥ = omega (arith, from, below) in no);
    weaks = λ is. absurd (let no : ⊥ = omega (arith, is, below) in no);
  };
  kept_target = λ t e. absurd (let no : ⊥ = cc in no);
  pair_target = λ t e. absurd (let no : ⊥ = cc in no);
}

small_row : (store : Store) (root : ℕ) → 8 ≤ root → root < 12 → IsSmallRequest store info_of_row (array_request root 2 8)
small_row store root from below = record {
  small = omega arith;
  fits = record {
    within = omega (arith, below);
    pairs = λ low. absurd (let no : ⊥ = omega (arith, low, from) in no);
    rows = λ high low. refl;
    weaks = λ is. absurd (let no : ⊥ = omega (arith, is, below) in no);
  };
  kept_target = λ t e. absurd (let no : ⊥ = cc in no);
  pair_target = λ t e. absurd (let no : ⊥ = cc in no);
}

small_numbers : (store : Store) (root len : ℕ) → 12 ≤ root → root < 14 → len ≤ 700 → IsSmallRequest store info_of_numbers (array_request root 4 len)
small_numbers store root len from below few = record {
  small = let words : length (replicate {A = ℕ} len 0) ≡ len = length-replicate len 0 in omega (arith, words, few);
  fits = record {
    within = omega (arith, below);
    pairs = λ low. absurd (let no : ⊥ = omega (arith, low, from) in no);
    rows = λ high low. absurd (let no : ⊥ = omega (arith, low, from) in no);
    weaks = λ is. absurd (let no : ⊥ = omega (arith, is, below) in no);
  };
  kept_target = λ t e. absurd (let no : ⊥ = cc in no);
  pair_target = λ t e. absurd (let no : ⊥ = cc in no);
}

-- the target is what a slot below 8 holds
small_weak : {filled most : ℕ} (old store : Store) (target : ℕ) → target < 8 → store.slots ≡ old.slots → IsGenerated filled most store → IsSmallRequest store info_of_weak (weak_request old 14 3 target)
small_weak old store target below same g =
    let holds : (t : ℕ) → held old.slots target ≡ Some t → held store.slots target ≡ Some t = λ t e. ap (λ (slots : List (Option ℕ)). held slots target) same ∙ e in
    record {
      small = omega arith;
      fits = record {
        within = omega arith;
        pairs = λ low. absurd (let no : ⊥ = omega (arith, low) in no);
        rows = λ high low. absurd (let no : ⊥ = omega (arith, low) in no);
        weaks = λ is. refl;
      };
      kept_target = λ t e. g.well.sound.roots t (held_root store target t (holds t e));
      pair_target = λ t e. g.slots.pairs target t below (holds t e);
    }

module _ {filled most : ℕ} (store : Store) (g : IsGenerated filled most store) (lines : List Line) (new : Store) where
  -- A birth, of a small object in whichever store its collections leave.
  born_keeps : (now : ℕ) (info : TypeInfo) (request : Request) → Covers filled request.slot now
      → ((t : ℕ) → request.target ≡ Some t → (slot : ℕ) × (held store.slots slot ≡ Some t))
      → ((mid : Store) → mid.slots ≡ store.slots → IsGenerated filled most mid → IsSmallRequest mid info request)
      → BirthWithRoom bench_setup info store request lines new → IsGenerated now (most + 1) new
  born_keeps now info request covers target small b =
      let mid = room_left _ g b.made_room in
      let same = (room_leaves bench_settings sweeps store _ b.before b.mid g.well b.made_room).slots in
      let well : IsWell bench_settings sweeps new = birth_leaves (Some info) bench_setup store request lines new sweeps target g.well b in
      subst (IsGenerated now (most + 1)) (sym b.born.leaves)
      (generated_born mid b.born.is_old info request (small b.mid same mid) now covers (subst (IsWell bench_settings sweeps) b.born.leaves well))

  pub command_keeps : filled ≤ 15 → (now : ℕ) (command : Command) → IsDrawn filled now command → Does bench_setup store command lines new → IsGenerated now (most + 1) new
  unfolding Does
  command_keeps few now _ (Pair root below covers) does =
      born_keeps now info_of_pair (fixed_request root 1) covers (λ t e. absurd (let no : ⊥ = cc in no)) (λ mid same h. small_pair mid root below) does
  command_keeps few now _ (Row root from below covers) does =
      born_keeps now info_of_row (array_request root 2 8) covers (λ t e. absurd (let no : ⊥ = cc in no)) (λ mid same h. small_row mid root from below) does
  command_keeps few now _ (Numbers root len from below short covers) does =
      born_keeps now info_of_numbers (array_request root 4 len) covers (λ t e. absurd (let no : ⊥ = cc in no)) (λ mid same h. small_numbers mid root len from below short) does
  command_keeps few now _ (WeakTo target below full covers) does =
      born_keeps now info_of_weak (weak_request store 14 3 target) covers (λ t e. (target, e)) (λ mid same h. small_weak store mid target below same h) does
  command_keeps few _ _ (PutIn root value below full) does = later (put_keeps bench_setup g lines new root 0 value does)
  command_keeps few _ _ (GetFrom root below full) does = later (get_keeps bench_setup g lines new root 0 does)
  command_keeps few _ _ (LinkPair root item from below full two source) does = later (link_keeps bench_setup g lines new root item from source does)
  command_keeps few _ _ (LinkRow root item from above below full eight source) does = later (link_keeps bench_setup g lines new root item from source does)
  command_keeps few _ _ (LoadPair root item below full two) does = later (load_keeps bench_setup g few lines new root item does)
  command_keeps few _ _ (LoadRow root item above below full eight) does = later (load_keeps bench_setup g few lines new root item does)
  command_keeps few _ _ (DerefWeak full) does = later (deref_keeps bench_setup g few lines new 14 does)
  command_keeps few _ _ (HashPair root below full) does = later (hash_keeps bench_setup g lines new root does)
  command_keeps few _ _ Whole does = later (collect_keeps bench_setup g lines new refl does)

some_same : (a b : ℕ) → ◌≡◌ {A = Option ℕ} (Some a) (Some b) → a ≡ b
some_same a b e = cc

-- no command asks for more than 703 words
pub asked_small : {filled : ℕ} (now : ℕ) (command : Command) → IsDrawn filled now command → (request : ℕ) → words_asked bench_setup command ≡ Some request → request ≤ 703
asked_small now _ (Pair root below covers) request e = let is = some_same 5 request e in omega (arith, is)
asked_small now _ (Row root from below covers) request e = let is = some_same 11 request e in omega (arith, is)
asked_small now _ (Numbers root len from below short covers) request e = let is = some_same (3 + len) request e in omega (arith, is, short)
asked_small now _ (WeakTo target below full covers) request e = let is = some_same 3 request e in omega (arith, is)
asked_small _ _ (PutIn root value below full) request e = absurd (let no : ⊥ = cc in no)
asked_small _ _ (GetFrom root below full) request e = absurd (let no : ⊥ = cc in no)
asked_small _ _ (LinkPair root item from below full two source) request e = absurd (let no : ⊥ = cc in no)
asked_small _ _ (LinkRow root item from above below full eight source) request e = absurd (let no : ⊥ = cc in no)
asked_small _ _ (LoadPair root item below full two) request e = absurd (let no : ⊥ = cc in no)
asked_small _ _ (LoadRow root item above below full eight) request e = absurd (let no : ⊥ = cc in no)
asked_small _ _ (DerefWeak full) request e = absurd (let no : ⊥ = cc in no)
asked_small _ _ (HashPair root below full) request e = absurd (let no : ⊥ = cc in no)
asked_small _ _ Whole request e = absurd (let no : ⊥ = cc in no)
