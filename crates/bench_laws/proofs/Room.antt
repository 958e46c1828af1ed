-- After a whole collection a store of a generated script has room for each birth.
use Rattle.std.proofs.Common.{◌≡◌, ℕ, ◌+◌, ◌*◌, ◌<◌, ◌≤◌, Bool, true, false, List, Option, refl, sym, ap, subst, inl, inr, arith}
use Rattle.std.specs.Prelude.{filter_map}
use Rattle.std.proofs.lemmas.Bool.{ltb-false}
use Rattle.text_model.specs.declared.line.Line.{Line}
use Rattle.object_model.specs.Object.{words_of}
use Rattle.store_model.specs.Store.{Store, counted_words, husk_words}
use Rattle.store_model.specs.Collections.{When, Block, Collect as Collects, MakesRoom, is_step_due, needs_block, exceeds_limit}
use Rattle.store_model.proofs.CollectionsSound.{IsWell, block_leaves, room_leaves}
use Rattle.bench_laws.proofs.Left.{thins_both, room_thins}
use Rattle.bench_laws.proofs.Forms.{IsGenerated, bench_settings, sweeps, generated_left, words_of_kind}
use Rattle.bench_laws.proofs.Few.{AreFew, few_words, few_held, few_births}
use Rattle.bench_laws.proofs.Tidy.{IsTidy, collect_tidy}

tidy_few : {filled most : ℕ} {store : Store} → IsGenerated filled most store → IsTidy store → counted_words store + 5 ≤ 5 * most + 11248
tidy_few {store = store} g t =
    let held : List ℕ = filter_map (λ (slot : Option ℕ). slot) store.slots in
    let few : AreFew held store.kept = record {
      each = λ x o e. elim (t.needed x o e) [
        | inl form ↦ (let words : words_of o ≡ 5 = ap words_of_kind form in inl (omega (arith, words)))
        | inr slot ↦ inr (g.objects.small x o e, slot)
      ];
    } in
    let words = few_words held 1 store.next store.kept g.well.form.kept few in
    let births = few_births 1 store.next store.kept g.well.form.kept in
    let slots = few_held store.slots in
    let sixteen = g.well.form.slots in
    let husks : husk_words store.husks ≡ 0 = ap husk_words t.no_husks in
    omega (arith, words, births, slots, sixteen, husks, g.few)

when_well : (b : Bool) (Event : Store → List Line → Store → Type 0) (old : Store) (lines : List Line) (new : Store) → (Event old lines new → IsWell bench_settings sweeps new)
    → IsWell bench_settings sweeps old → When b Event old lines new → IsWell bench_settings sweeps new
when_well true Event old lines new event well e = event e
when_well false Event old lines new event well e = subst (IsWell bench_settings sweeps) (sym e.1) well

module _ {filled most : ℕ} where
  -- The collections before a birth leave a store of a generated script, which has room.
  pub room_left : {old new : Store} {lines : List Line} (words : ℕ) → IsGenerated filled most old → MakesRoom bench_settings old words lines new → IsGenerated filled most new
  room_left {old} {new} {lines} words g m =
      let thins = room_thins bench_settings old words lines new m in
      generated_left (thins_both thins.0 thins.1) (room_leaves bench_settings sweeps old words lines new g.well m).well g

  pub room_fits : {old new : Store} {lines : List Line} (words : ℕ) → words ≤ 703 → most ≤ 100016 → IsGenerated filled most old → MakesRoom bench_settings old words lines new
      → bench_settings.limit < counted_words new + words → ⊥
  room_fits {old} {new} {lines} words small few g m over = go (exceeds_limit bench_settings m.mid words) refl m.collect
    where
      mid_left : IsGenerated filled most m.mid
      mid_left = generated_left (room_thins bench_settings old words lines new m).0
          (when_well (needs_block bench_settings old words) (Block is_step_due bench_settings) old m.first m.mid (λ b. (block_leaves bench_settings sweeps is_step_due old m.first m.mid g.well b).well) g.well m.block) g

      new_left : IsGenerated filled most new
      new_left = room_left words g m

      go : (b : Bool) → exceeds_limit bench_settings m.mid words ≡ b → When b (Collects bench_settings) m.mid m.second new → ⊥
      go true is c = let counted = tidy_few new_left (collect_tidy m.mid.phase m.mid m.second new refl mid_left c) in omega (arith, counted, over, small, few)
      go false is c =
          let same : counted_words new ≡ counted_words m.mid = ap (λ (s : Store). counted_words s) c.1 in
          let under = ltb-false bench_settings.limit (counted_words m.mid + words) is in
          omega (arith, under, same, over)
