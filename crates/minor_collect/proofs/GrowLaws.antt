-- Steps that leave more, one behind another.
use Rattle.std.proofs.Common.{◌≡◌, ℕ, ◌+◌, Bool, true, false, IsTrue, List, [], ◌++◌, refl, sym, ap, ◌∙◌, inl, inr, arith, length}
use Rattle.std.specs.Prelude.{◌||◌, ◌==◌, not}
use Rattle.std.proofs.lemmas.List.{append_assoc, length-append}
use Rattle.std.proofs.lemmas.List.Folds.{list_any-append}
use Rattle.object_model.specs.Sets.{is_in}
use Rattle.heap_parts.specs.Parts.{pinned_places}
use Rattle.heap_parts.specs.Places.{is_young}
use Rattle.minor_collect.specs.declared.work.Moving.{Moving}
use Rattle.minor_collect.specs.Midway.{IsDone}
use Rattle.minor_collect.specs.Calls.{Stage, Spot, Grows, AddsTodo}

pub grows_twice : {stage : Stage} {a b c : Spot} → Grows stage a b → Grows stage b c → Grows stage a c
grows_twice f g = record {
  met = λ x t. g.met x (f.met x t);
  names = λ x t. g.names x (f.met x t) ∙ f.names x t;
  stay = λ q t l. g.stay q (f.stay q t l) l;
  found = λ x t. g.found x (f.found x t);
  held = λ q t. g.held q (f.held q t);
}

pub member-append : (q : ℕ) (xs ys : List ℕ) → is_in q (xs ++ ys) ≡ (is_in q xs || is_in q ys)
member-append q xs ys = list_any-append (λ (y : ℕ). y == q) xs ys

pub adds_twice : {m n o : Moving} {a b c : Spot} → AddsTodo m n a b → AddsTodo n o b c → AddsTodo m o a c
adds_twice {m = m} {a = a} {b = b} f g = record {
  added = f.added ++ g.added;
  in_code = g.in_code ∙ (ap (λ (xs : List ℕ). xs ++ g.added) f.in_code ∙ append_assoc m.todo.items f.added g.added);
  told = λ q. g.told q ∙ (member-append q b.todo g.added ∙ (ap (λ (x : Bool). x || is_in q g.added) (f.told q)
      ∙ (sym (member-append q (a.todo ++ f.added) g.added) ∙ ap (is_in q) (append_assoc a.todo f.added g.added))));
  grown = let long : length (f.added ++ g.added) ≡ length f.added + length g.added = length-append f.added g.added in omega (arith, long, f.grown, g.grown);
}

-- what was done is so
pub done_stays : {stage : Stage} {a b : Spot} (p x : ℕ) → Grows stage a b → IsDone (pinned_places stage.start) a.placing.places a.held p x → IsDone (pinned_places stage.start) b.placing.places b.held p x
done_stays {stage = stage} p x g (inl e) = inl e
done_stays {stage = stage} p x g (inr (inl old)) = inr (inl (g.stay x old.0 (rw old.1 refl), old.1))
done_stays {stage = stage} p x g (inr (inr pin)) = inr (inr (g.stay x pin.0 (lasts (is_young x) (is_in x (pinned_places stage.start)) pin.1.0), (pin.1.0, g.held p pin.1.1)))
  where
    lasts : (young pin : Bool) → IsTrue pin → IsTrue (not young || pin)
    lasts true pin t = t
    lasts false pin t = refl
