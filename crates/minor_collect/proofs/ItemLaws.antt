-- One reference of an object outside the nursery is followed.
use Rattle.std.proofs.Common.{◌≡◌, ◌≢◌, ℕ, ◌+◌, ◌<◌, Bool, true, false, IsTrue, List, [], refl, sym, ap, ◌∙◌, subst, inl, inr, arith}
use Rattle.std.specs.Prelude.{◌==◌, ◌&&◌, not}
use Rattle.type_table.specs.declared.info.TypeInfo.{TypeInfo}
use Rattle.type_table.specs.Table.{Table}
use Rattle.heap_space.specs.Places.{word_at}
use Rattle.object_view.proofs.WordLaws.{updated-here, updated-other}
use Rattle.object_view.proofs.LayoutLaws.{laid_out, KeepsLayout, keeps-same}
use Rattle.object_view.proofs.ChangeLaws.{Changes, each-keeps}
use Rattle.object_view.proofs.ForwardLaws.{changes-pointer}
use Rattle.object_model.specs.Layout.{Layout}
use Rattle.object_model.specs.Sets.{is_in}
use Rattle.object_model.specs.ObjectWords.{updated, renamed, words_at, layout_at}
use Rattle.object_model.specs.Holds.{HoldsObjects, IsPointer}
use Rattle.store_model.specs.Store.{Store}
use Rattle.object_view.specs.Moving.{IsMoving}
use Rattle.heap_parts.specs.Parts.{HeapParts, word_in, home_in, pinned_places}
use Rattle.heap_parts.specs.Places.{old_places}
use Rattle.heap_parts.specs.Effects.{with_word_at}
use Rattle.frame_laws.proofs.KeepWords.{SameWords}
use Rattle.minor_collect.specs.Midway.{Follows, Owes, IsDone}
use Rattle.minor_collect.specs.Calls.{Stage, Spot, Middle, item_word, remembered_at, entries_of}
use Rattle.minor_collect.proofs.FollowStep.{midway_rewrites, item_follows, item_objects, item_moving}
use Rattle.minor_collect.proofs.Sizes.{sizes_stay}
use Rattle.minor_collect.proofs.WriteMid.{place_there, husk_same, shadow_first, blocks_written, words_written, whole_written, nursery_written}

-- what was owed is so
follows-owed : {types : Table TypeInfo} {store : Store} {remembered : ℕ → ℕ → Bool} {pins : List ℕ} {w name : ℕ → ℕ} {met places found todo held left : List ℕ} {less owes : Owes}
    → ((q j : ℕ) → IsTrue (less.items q j) → IsTrue (owes.items q j))
    → Follows types store remembered pins w met places name found todo held left less → Follows types store remembered pins w met places name found todo held left owes
follows-owed more f = record {
  trace = f.trace;
  todo_old = f.todo_old;
  lasts = f.lasts;
  waits = f.waits;
  gone = f.gone;
  looked = λ q j t l b. elim (f.looked q j t l b) [
    | inl u ↦ inl u
    | inr (inl o) ↦ inr (inl (more q j o))
    | inr (inr rest) ↦ inr (inr rest)
  ];
}

and-first : (b c : Bool) → IsTrue (b && c) → IsTrue b
and-first true c t = refl
and-first false c t = t

module _ {stage : Stage} {now : HeapParts} {spot : Spot} (middle : Middle stage now spot []) (p i y : ℕ) (there : IsTrue (is_in p (old_places spot.placing.places)))
    (l : i < (layout_at stage.start.setup.types (word_in now) p).ref_count) (done : IsDone (pinned_places stage.start) spot.placing.places spot.held p y) (is : IsPointer spot.placing.met y)
    (same_name : renamed spot.placing.name y ≡ renamed spot.placing.name (item_word stage now p i)) where
  abbrev types : Table TypeInfo
  types = stage.start.setup.types

  abbrev w : ℕ → ℕ
  w = word_at now.memory.blocks

  abbrev at : ℕ
  at = (layout_at stage.start.setup.types (word_at now.memory.blocks) p).ref_start + i

  t : IsTrue (is_in p spot.placing.places)
  t = place_there middle p there

  low : p < at
  low = let laid = laid_out types w p in omega (arith, laid.begins, laid.ordered)

  high : at < p + words_at types w p
  high = let laid = laid_out types w p in omega (arith, l, laid.pointers, laid.refs)

  changes : Changes types (updated w at y) w spot.placing.met spot.placing.places p
  changes = let laid = laid_out types w p in changes-pointer p i y middle.mid.words.objects t (omega (arith, l, laid.refs)) is

  words : word_in (with_word_at now at y) ≡ updated w at y
  words = words_written middle p there at y (omega (arith, low)) high

  same : SameWords types (updated w at y) w (home_in now) spot.placing.places spot.placing.husks
  same = record {
    objects = record {
      layouts = each-keeps middle.mid.words.objects changes;
      husk_layouts = λ q u. keeps-same types (updated w at y) w q (husk_same middle p there at y (omega (arith, low)) high q u);
    };
    firsts = λ q u. updated-other w at y q (λ e.
        let one : p ≡ q = middle.mid.words.objects.apart p q at t u (omega (arith, low), high) (omega (arith, e), omega (arith, e, (laid_out types w q).header)) in
        absurd (omega (arith, one, e, low)));
    husk_firsts = λ q u. (husk_same middle p there at y (omega (arith, low)) high q u).same q (omega arith) (omega (arith, (laid_out types w q).header));
    shadow_firsts = shadow_first middle p there at y (omega (arith, low)) high;
  }

  follows : Follows types stage.store (remembered_at stage) (pinned_places stage.start) (updated w at y) spot.placing.met spot.placing.places spot.placing.name spot.placing.found spot.todo spot.held (entries_of stage) spot.owes
  follows = follows-owed (λ q j o. and-first (spot.owes.items q j) (not ((q == p) && (j == i))) o)
      (item_follows spot.held p i y middle.mid.words.objects middle.mid.words.moving middle.mid.follows t l done is same_name (λ q u. u))

  pub item_layouts : (q : ℕ) → IsTrue (is_in q spot.placing.places) → KeepsLayout types (word_in (with_word_at now at y)) w q
  item_layouts q u = subst (λ (f : ℕ → ℕ). KeepsLayout types f w q) (sym words) (each-keeps middle.mid.words.objects changes q u)

  pub item_here : word_in (with_word_at now at y) at ≡ y
  item_here = ap (λ (f : ℕ → ℕ). f at) words ∙ updated-here w at y at refl

  pub item_other : (b : ℕ) → b ≢ at → word_in (with_word_at now at y) b ≡ w b
  item_other b ne = ap (λ (f : ℕ → ℕ). f b) words ∙ updated-other w at y b ne

  pub middle_item : Middle stage (with_word_at now at y) spot []
  middle_item =
      let h = middle.mid.words.objects in let m = middle.mid.words.moving in
      let mid = midway_rewrites middle.mid (with_word_at now at y).memory spot.held (entries_of stage) spot.owes
      (subst (λ (f : ℕ → ℕ). HoldsObjects types f spot.placing.met spot.placing.places spot.placing.name stage.store.kept) (sym words) (item_objects spot.held p i y h m middle.mid.follows t l done is same_name (λ q u. u)))
      (subst (λ (f : ℕ → ℕ). IsMoving types f spot.placing.met spot.placing.places spot.placing.name) (sym words) (item_moving spot.held p i y h m middle.mid.follows t l done is same_name (λ q u. u)))
      (subst (λ (f : ℕ → ℕ). SameWords types f w (home_in now) spot.placing.places spot.placing.husks) (sym words) same)
      (whole_written middle p there at y item_layouts) (nursery_written middle p there at y) (blocks_written middle p there at y (omega (arith, low)) high)
      (record { ranges = middle.mid.made.ranges; words = middle.mid.made.words; pins = middle.mid.made.pins; card = middle.mid.made.card; arena = middle.mid.made.arena; small = middle.mid.made.small; page = middle.mid.made.page })
      (subst (λ (f : ℕ → ℕ). Follows types stage.store (remembered_at stage) (pinned_places stage.start) f spot.placing.met spot.placing.places spot.placing.name spot.placing.found spot.todo spot.held (entries_of stage) spot.owes) (sym words) follows) in
      record {
        mid = mid;
        rest = ap (λ (h : HeapParts). with_word_at h at y) middle.rest;
        sizes = sizes_stay (words_at stage.start.setup.types (word_in stage.start)) middle.mid.words.objects mid.words.objects middle.mid.words.moving
            (λ q u. ap (λ (l : Layout). l.words) (item_layouts q u).layout_stays)
            (λ x u left. (
              item_other x (λ e. left.outside p t (inl (omega (arith, e, low), omega (arith, e, high)))),
              item_other (x + 1) (λ e. left.outside p t (inr (omega (arith, e, low), omega (arith, e, high)))),
            )) middle.sizes;
      }
