-- The choice as a whole.
use Rattle.std.proofs.Common.{◌≡◌, ℕ, ◌+◌, Bool, true, false, IsTrue, List, [], ◌∷◌, ◌++◌, map, Ok, Err, refl, ap, ap₂, ◌∙◌, subst}
use Rattle.std.specs.Prelude.{Result, OnOk, is_ok, not, filter, if◌then◌else◌}
use Rattle.std.specs.List.Sorted.{IsPermutation, IsNonDecreasing}
use Rattle.type_table.specs.declared.info.TypeInfo.{TypeInfo}
use Rattle.type_table.specs.Table.{Table}
use Rattle.heap_space.specs.Memory.{Memory}
use Rattle.heap_space.specs.Places.{Placed, word_at}
use Rattle.object_model.specs.Sets.{is_in}
use Rattle.object_model.proofs.Members.{is_in-head, is_in-tail}
use Rattle.finalizer_order.specs.declared.entry.Entry.{Entry}
use Rattle.finalizer_order.specs.Finalizers.{Finalizers, places_of}
use Rattle.finalizer_order.specs.Changes.{changed_at}
use Rattle.finalizer_order.specs.Choosing.{Chooses, Keeps}
use Rattle.finalizer_order.specs.Passes.{is_ordered, settled_word, HasPassed, Settles}
use Rattle.finalizer_order.proofs.Objects.{changed}
use Rattle.finalizer_order.proofs.QueueLaws.{view_of}

pub on_ok : {T E P : Type 0} → (r : Result T E) → P → OnOk r P
on_ok (Ok x) p = p
on_ok (Err e) p = tt

pub on_ok-map : {T E P Q : Type 0} → (r : Result T E) → (P → Q) → OnOk r P → OnOk r Q
on_ok-map (Ok x) f p = f p
on_ok-map (Err e) f p = tt

pub on_ok-both : {T E P Q S : Type 0} → (r : Result T E) → (P → Q → S) → OnOk r P → OnOk r Q → OnOk r S
on_ok-both (Ok x) f p q = f p q
on_ok-both (Err e) f p q = tt

pub settled : {T E : Type 0} → (r : Result T E) (marked : List ℕ) (old new : Memory) (before after births sorted : List ℕ) → after ≡ (if is_ok r then before ++ sorted else before)
    → new ≡ changed settled_word marked old → births ≡ map (λ p. word_at old.blocks (p + 1)) marked → IsPermutation births sorted → IsNonDecreasing sorted → OnOk r (Settles marked old new before after)
settled (Ok x) marked old new before after births sorted listed written are same rising = record {
  births = sorted;
  written = written;
  appended = listed;
  told = subst (λ (bs : List ℕ). IsPermutation bs sorted) are same;
  rising = rising;
}
settled (Err e) marked old new before after births sorted listed written are same rising = tt

-- tests that agree on the entries
filter-same : (f g : Entry → Bool) (es : List Entry) → ((e : Entry) → IsTrue (is_in e.place (places_of es)) → f e ≡ g e) → filter f es ≡ filter g es
filter-same f g [] same = refl
filter-same f g (e ∷ es) same = go (f e) (g e) refl refl (filter-same f g es (λ d t. same d (is_in-tail d.place e.place (places_of es) t)))
  where
    here : f e ≡ g e
    here = same e (is_in-head e.place (places_of es))

    go : (a b : Bool) → f e ≡ a → g e ≡ b → filter f es ≡ filter g es → filter f (e ∷ es) ≡ filter g (e ∷ es)
    go true true a b more = rw (a, b) (ap (λ (ds : List Entry). e ∷ ds) more)
    go true false a b more = absurd (let h = here in let no : ⊥ = cc in no)
    go false true a b more = absurd (let h = here in let no : ⊥ = cc in no)
    go false false a b more = rw (a, b) more

module _ {types : Table TypeInfo} {nursery : ℕ} {old mid : Memory} {marked : List ℕ} (registered chosen : List Entry) (queues : List (List Entry)) (p : HasPassed types nursery old mid (places_of registered) marked) where
  taken : ℕ → Bool
  taken x = is_in x p.found

  -- the registered ones are told apart
  pub chooses : (f : Finalizers) (stays picked : List Entry) → view_of registered chosen queues ≡ f
      → stays ≡ filter (λ e. not (is_ordered nursery (word_at mid.blocks) e.place)) registered → picked ≡ chosen ++ filter (λ e. is_ordered nursery (word_at mid.blocks) e.place) registered
      → Chooses types nursery (word_at old.blocks) f (view_of stays picked queues)
  chooses f stays picked is are got = subst (λ (g : Finalizers). Chooses types nursery (word_at old.blocks) g (view_of stays picked queues)) is (record {
    taken = λ x. is_in x p.found;
    tells = p.tells;
    leaves = ap₂ (λ (xs ys : List Entry). view_of xs ys queues)
        (are ∙ filter-same (λ e. not (is_ordered nursery (word_at mid.blocks) e.place)) (λ e. not (is_in e.place p.found)) registered (λ e t. ap not (p.ordered e.place t)))
        (got ∙ ap (λ (xs : List Entry). chosen ++ xs) (filter-same (λ e. is_ordered nursery (word_at mid.blocks) e.place) (λ e. is_in e.place p.found) registered (λ e t. p.ordered e.place t)));
  })

  -- and what is kept is visited
  pub keeps : {new : Memory} {before after : List ℕ} (f : Finalizers) → view_of registered chosen queues ≡ f → Settles marked mid new before after → Keeps types nursery (places_of f.registered) old new before after
  keeps {new = new} {before = before} {after = after} f is s = subst (λ (g : Finalizers). Keeps types nursery (places_of g.registered) old new before after) is (record {
    places = marked;
    births = s.births;
    once = p.once;
    just = p.just;
    visited = s.written
        ∙ ap (λ (m : Memory). record m { blocks = changed_at settled_word marked mid.blocks }) p.rest
        ∙ ap (λ (bs : List Placed). record old { blocks = bs }) p.settles;
    appended = s.appended;
    told = subst (λ (bs : List ℕ). IsPermutation bs s.births) p.births s.told;
    rising = s.rising;
  })
