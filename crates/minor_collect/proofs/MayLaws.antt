-- What may be found, and what marking did not visit.
use Rattle.std.proofs.Common.{◌≡◌, ℕ, Bool, true, false, IsTrue, List, [], ◌∷◌, refl, sym, ap, ◌∙◌, subst, inl, inr}
use Rattle.std.specs.Prelude.{not}
use Rattle.std.proofs.lemmas.Bool.{cases_Bool}
use Rattle.type_table.specs.declared.info.TypeInfo.{TypeInfo}
use Rattle.type_table.specs.Table.{Table}
use Rattle.text_model.specs.declared.line.Phase.{Phase}
use Rattle.text_model.specs.declared.line.Phase.TheVariants.{Scanning, Marking, Sweeping, Finalizing}
use Rattle.object_model.specs.Sets.{is_in}
use Rattle.object_model.specs.ObjectWords.{updated}
use Rattle.object_model.proofs.Members.{is_in-tail, is_in-cases, and_second}
use Rattle.object_view.proofs.WordLaws.{updated-here}
use Rattle.store_model.specs.Store.{Store, is_settled}
use Rattle.store_model.specs.Roots.{is_kept}
use Rattle.store_model.specs.MinorCollection.{is_unsettled, SurvivesBy}
use Rattle.heap_parts.specs.Headers.{is_marked}
use Rattle.heap_parts.specs.OldSpace.{is_waiting, AreUnitsSwept}
use Rattle.minor_collect.specs.Entries.{has_remembered_referrer}
use Rattle.minor_collect.specs.Midway.{Follows, Owes}
use Rattle.minor_collect.specs.Calls.{Stage}

-- one more birth that survives may be looked at
pub follows_may : {types : Table TypeInfo} {store : Store} {remembered : ℕ → ℕ → Bool} {pins : List ℕ} {w name : ℕ → ℕ} {met places found todo held left : List ℕ} {owes : Owes} (y : ℕ)
    → SurvivesBy store (has_remembered_referrer store remembered) y
    → Follows types store remembered pins w met places name found todo held left owes → Follows types store remembered pins w met places name found todo held (y ∷ left) owes
follows_may {store = store} {remembered = remembered} {left = left} y leads f = record {
  trace = record {
    entered = λ x t. elim (f.trace.entered x t) [ inl u ↦ inl u | inr u ↦ inr (is_in-tail x y left u) ];
    followed = λ x z t s. elim (f.trace.followed x z t s) [ inl u ↦ inl u | inr (inl u) ↦ inr (inl u) | inr (inr u) ↦ inr (inr (is_in-tail z y left u)) ];
    opened = f.trace.opened;
    led = f.trace.led;
    may = λ x t u. elim (is_in-cases x y left t) [
      | inl e ↦ subst (SurvivesBy store (has_remembered_referrer store remembered)) (sym e) leads
      | inr v ↦ f.trace.may x v u
    ];
  };
  todo_old = f.todo_old;
  lasts = f.lasts;
  waits = f.waits;
  gone = f.gone;
  looked = f.looked;
}

-- what is unsettled was not visited
pub unvisited : (stage : Stage) (x : ℕ) → IsTrue (is_unsettled stage.store x) → is_in x stage.store.visited ≡ false
unvisited stage x t = elim (cases_Bool (is_in x stage.store.visited)) [
  | inl v ↦ absurd (let out : not (is_settled stage.store.settled x) ≡ true = and_second (is_kept stage.store.kept x) (not (is_settled stage.store.settled x)) t in
      let there : is_settled stage.store.settled x ≡ true = stage.stands.order.visited_settled x v in
      let clash : not true ≡ true = ap not (sym there) ∙ out in let no : ⊥ = cc in no)
  | inr e ↦ e
]

none-waits : (page a : ℕ) (waiting : List ℕ) → waiting ≡ [] → is_waiting page waiting a ≡ false
none-waits page a waiting e = subst (λ (us : List ℕ). is_waiting page us a ≡ false) (sym e) refl

-- an object that settles counts as visited just where its block waits
pub marked_waits : (phase : Phase) (sweep left page a p : ℕ) (waiting visited : List ℕ) (name : ℕ → ℕ) → AreUnitsSwept phase sweep left waiting → is_in (name p) visited ≡ false
    → is_waiting page waiting a ≡ is_marked phase visited (updated name a (name p)) page waiting a
marked_waits Scanning sweep left page a p waiting visited name u out = none-waits page a waiting u
marked_waits Marking sweep left page a p waiting visited name u out =
    none-waits page a waiting u ∙ sym (ap (λ (x : ℕ). is_in x visited) (updated-here name a (name p) a refl) ∙ out)
marked_waits Sweeping sweep left page a p waiting visited name u out = refl
marked_waits Finalizing sweep left page a p waiting visited name u out = none-waits page a waiting u
