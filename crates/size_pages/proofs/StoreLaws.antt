-- What a few writes in a row make of the words.
use Rattle.std.proofs.Common.{◌≡◌, ◌≢◌, ℕ, ◌+◌, ◌-◌, ◌<◌, ◌≤◌, arith, refl, ◌∙◌, ap}
use Rattle.std.proofs.lemmas.Bool.Decides.{nat_tests}
use Rattle.size_pages.specs.PageWords.{Words, IsStored}
use Rattle.size_pages.specs.PageBlocks.{TakesChained, TakesFresh, GivesBack}

pub stored_here : (old new : Words) (a v b : ℕ) → IsStored old new a v → b ≡ a → new b ≡ v
stored_here old new a v b h e = h b ∙ grind (arith, nat_tests)

pub stored_else : (old new : Words) (a v b : ℕ) → IsStored old new a v → b ≢ a → new b ≡ old b
stored_else old new a v b h e = h b ∙ grind (arith, nat_tests)

module _ (w0 w1 w2 w3 w4 : Words) (p x : ℕ) where
  pub takes_chained : (next count : ℕ) → p + 8 ≤ x → x ≡ w0 (p + 1) → next ≡ w0 (x + 1) → count ≡ w0 (p + 2) → IsStored w0 w1 (p + 1) next → IsStored w1 w2 (p + 2) (count + 1) → IsStored w2 w3 x 0 → TakesChained w0 w3 p x
  takes_chained next count far first is_next is_count s1 s2 s3 = record {
    first = first;
    head = stored_else w2 w3 x 0 (p + 1) s3 (omega arith) ∙ stored_else w1 w2 (p + 2) (count + 1) (p + 1) s2 (omega arith) ∙ stored_here w0 w1 (p + 1) next (p + 1) s1 refl ∙ is_next;
    count = stored_else w2 w3 x 0 (p + 2) s3 (omega arith) ∙ stored_here w1 w2 (p + 2) (count + 1) (p + 2) s2 refl ∙ ap (λ k. k + 1) is_count;
    cleared = stored_here w2 w3 x 0 x s3 refl;
    rest = λ e n1 n2 n3 n4. stored_else w2 w3 x 0 e s3 n4 ∙ stored_else w1 w2 (p + 2) (count + 1) e s2 n2 ∙ stored_else w0 w1 (p + 1) next e s1 n1;
  }

  pub takes_fresh : (n count : ℕ) → p + 8 ≤ x → x ≡ w0 (p + 3) → count ≡ w0 (p + 2) → IsStored w0 w1 (p + 3) (x + n) → IsStored w1 w2 (p + 2) (count + 1) → IsStored w2 w3 x 0 → TakesFresh w0 w3 p x n
  takes_fresh n count far first is_count s1 s2 s3 = record {
    first = first;
    fresh = stored_else w2 w3 x 0 (p + 3) s3 (omega arith) ∙ stored_else w1 w2 (p + 2) (count + 1) (p + 3) s2 (omega arith) ∙ stored_here w0 w1 (p + 3) (x + n) (p + 3) s1 refl;
    count = stored_else w2 w3 x 0 (p + 2) s3 (omega arith) ∙ stored_here w1 w2 (p + 2) (count + 1) (p + 2) s2 refl ∙ ap (λ k. k + 1) is_count;
    cleared = stored_here w2 w3 x 0 x s3 refl;
    rest = λ e n1 n2 n3 n4. stored_else w2 w3 x 0 e s3 n4 ∙ stored_else w1 w2 (p + 2) (count + 1) e s2 n1 ∙ stored_else w0 w1 (p + 3) (x + n) e s1 n2;
  }

  pub gives_back : (first count v : ℕ) → v ≡ 4194304 → p + 8 ≤ x → first ≡ w0 (p + 1) → count ≡ w0 (p + 2) → 0 < count → IsStored w0 w1 x v → IsStored w1 w2 (x + 1) first → IsStored w2 w3 (p + 1) x → IsStored w3 w4 (p + 2) (count - 1) → GivesBack w0 w4 p x
  gives_back first count v is_free far is_first is_count some s1 s2 s3 s4 = record {
    head = stored_else w3 w4 (p + 2) (count - 1) (p + 1) s4 (omega arith) ∙ stored_here w2 w3 (p + 1) x (p + 1) s3 refl;
    next = stored_else w3 w4 (p + 2) (count - 1) (x + 1) s4 (omega arith) ∙ stored_else w2 w3 (p + 1) x (x + 1) s3 (omega arith) ∙ stored_here w1 w2 (x + 1) first (x + 1) s2 refl ∙ is_first;
    free = stored_else w3 w4 (p + 2) (count - 1) x s4 (omega arith) ∙ stored_else w2 w3 (p + 1) x x s3 (omega arith) ∙ stored_else w1 w2 (x + 1) first x s2 (omega arith) ∙ stored_here w0 w1 x v x s1 refl ∙ is_free;
    count = let e : w4 (p + 2) ≡ count - 1 = stored_here w3 w4 (p + 2) (count - 1) (p + 2) s4 refl in omega arith;
    rest = λ e n1 n2 n3 n4. stored_else w3 w4 (p + 2) (count - 1) e s4 n2 ∙ stored_else w2 w3 (p + 1) x e s3 n1 ∙ stored_else w1 w2 (x + 1) first e s2 n4 ∙ stored_else w0 w1 x v e s1 n3;
  }
