-- The loop of marking: what was visited so far, and that the rest of the visits follow.
use Rattle.std.proofs.Common.{◌≡◌, ℕ, ◌+◌, ◌-◌, ◌<◌, ◌≤◌, Bool, true, false, IsTrue, List, [], ◌∷◌, ◌++◌, length, map, take, append-nil, append_assoc, refl, sym, ap, ◌∙◌, subst, arith}
use Rattle.std.specs.Prelude.{◌||◌, not, sum_by}
use Rattle.std.proofs.lemmas.List.{map-append, length-append}
use Rattle.std.proofs.Math.Seq.{take-append_seam}
use Rattle.std.proofs.lemmas.List.Sums.{sum_by-append, sum_by-cons}
use Rattle.type_table.specs.declared.info.TypeInfo.{TypeInfo}
use Rattle.type_table.specs.Table.{Table}
use Rattle.heap_space.specs.Places.{word_at}
use Rattle.heap_space.specs.Memory.{Memory}
use Rattle.object_model.specs.Layout.{Layout}
use Rattle.object_model.specs.Sets.{is_in}
use Rattle.object_model.specs.ObjectWords.{words_at}
use Rattle.object_model.proofs.Members.{is_in-head}
use Rattle.mark_steps.specs.declared.MarkEnd.TheVariants.{Budget, Empty}
use Rattle.mark_steps.specs.Visits.{is_outside, is_visited, outside_refs, with_visited, PlaceVisits, NoPlace, PassesPlace, VisitsPlace, CanVisit}
use Rattle.mark_steps.specs.Ends.{StartsWith, Marks}
use Rattle.mark_steps.proofs.VisitStep.{can-visited, can-passed, keeps-visited}

-- the objects at these places have their births and as many words
pub record KeepsObjects (types : Table TypeInfo) (first m : Memory) (places : List ℕ) : Type 0 where
  pub words : (q : ℕ) → IsTrue (is_in q places) → words_at types (word_at m.blocks) q ≡ words_at types (word_at first.blocks) q
  pub birth : (q : ℕ) → IsTrue (is_in q places) → word_at m.blocks (q + 1) ≡ word_at first.blocks (q + 1)

pub record IsMarking (types : Table TypeInfo) (nursery budget : ℕ) (first : Memory) (gray told : List ℕ) (m : Memory) (waits tells : List ℕ) (left : ℕ) : Type 0 where
  pub all : List ℕ
  pub can : CanVisit types nursery m waits all
  pub stays : KeepsObjects types first m all
  pub done : List ℕ
  pub births : tells ≡ told ++ map (λ p. word_at first.blocks (p + 1)) done
  pub goes_on : (more : List ℕ) (new : Memory) (last : List ℕ) → PlaceVisits types nursery m waits more new last → PlaceVisits types nursery first gray (done ++ more) new last
  pub some : 0 < left
  pub sum : sum_by (words_at types (word_at first.blocks)) done + left ≡ budget

pub marking-begins : {types : Table TypeInfo} {nursery budget : ℕ} {first : Memory} {gray : List ℕ} (told : List ℕ) → 0 < budget → (all : List ℕ) × CanVisit types nursery first gray all
    → IsMarking types nursery budget first gray told first gray told budget
marking-begins told some can = record {
  all = can.0;
  can = can.1;
  stays = record { words = λ q t. refl; birth = λ q t. refl };
  done = [];
  births = sym (append-nil told);
  goes_on = λ more new last v. v;
  some = some;
  sum = omega arith;
}

module _ {types : Table TypeInfo} {nursery budget : ℕ} {first : Memory} {gray told : List ℕ} {m : Memory} {waits tells : List ℕ} {left : ℕ}
    (i : IsMarking types nursery budget first gray told m waits tells left) (p : ℕ) (rest : List ℕ) (e : waits ≡ p ∷ rest) where
  pub marking-there : IsTrue (is_outside nursery p) → IsTrue (is_in p i.all)
  marking-there o = i.can.listed p (subst (λ (l : List ℕ). IsTrue (is_in p l)) (sym e) (is_in-head p rest)) o

  pub marking-passes : (not (is_outside nursery p) || is_visited m p) ≡ true → IsMarking types nursery budget first gray told m rest tells left
  marking-passes passed = record {
    all = i.all;
    can = can-passed p rest i.can e;
    stays = i.stays;
    done = i.done;
    births = i.births;
    goes_on = λ more new last v. i.goes_on more new last (subst (λ (l : List ℕ). PlaceVisits types nursery m l more new last) (sym e) (PassesPlace m p rest more new last passed v));
    some = i.some;
    sum = i.sum;
  }

  module _ (passed : (not (is_outside nursery p) || is_visited m p) ≡ false) (new : Memory) (queue births : List ℕ)
      (marked : new ≡ with_visited m p) (queued : queue ≡ rest ++ outside_refs types nursery (word_at m.blocks) p) (told_too : births ≡ tells ++ word_at m.blocks (p + 1) ∷ []) where
    there : IsTrue (is_in p i.all)
    there = marking-there (outside (is_outside nursery p) (is_visited m p) passed)
      where
        outside : (a b : Bool) → (not a || b) ≡ false → IsTrue a
        outside true b f = refl
        outside false b f = absurd (let no : ⊥ = cc in no)

    words-then : words_at types (word_at m.blocks) p ≡ words_at types (word_at first.blocks) p
    words-then = i.stays.words p there

    births-then : births ≡ told ++ map (λ q. word_at first.blocks (q + 1)) (i.done ++ p ∷ [])
    births-then =
        let f : ℕ → ℕ = λ q. word_at first.blocks (q + 1) in
        let one : word_at m.blocks (p + 1) ∷ [] ≡ map f (p ∷ []) = ap (λ (x : ℕ). x ∷ []) (i.stays.birth p there) in
        told_too ∙ (ap (λ xs. xs ++ word_at m.blocks (p + 1) ∷ []) i.births ∙ (append_assoc told (map f i.done) (word_at m.blocks (p + 1) ∷ [])
        ∙ ap (λ xs. told ++ xs) (ap (λ xs. map f i.done ++ xs) one ∙ sym (map-append f i.done (p ∷ [])))))

    sum-then : sum_by (words_at types (word_at first.blocks)) (i.done ++ p ∷ []) ≡ sum_by (words_at types (word_at first.blocks)) i.done + words_at types (word_at m.blocks) p
    sum-then =
        let f : ℕ → ℕ = words_at types (word_at first.blocks) in
        let one : sum_by f (p ∷ []) ≡ f p + sum_by f [] = sum_by-cons f p [] in
        let none : sum_by f [] ≡ 0 = refl in
        let all = sum_by-append f i.done (p ∷ []) in
        omega (arith, all, one, none, words-then)

    chain : (more : List ℕ) (final : Memory) (last : List ℕ) → PlaceVisits types nursery new queue more final last → PlaceVisits types nursery first gray ((i.done ++ p ∷ []) ++ more) final last
    chain more final last v =
        let at : PlaceVisits types nursery (with_visited m p) (rest ++ outside_refs types nursery (word_at m.blocks) p) more final last =
        subst (λ (l : List ℕ). PlaceVisits types nursery (with_visited m p) l more final last) queued (subst (λ (k : Memory). PlaceVisits types nursery k queue more final last) marked v) in
        subst (λ (l : List ℕ). PlaceVisits types nursery first gray l final last) (sym (append_assoc i.done (p ∷ []) more))
        (i.goes_on (p ∷ more) final last (subst (λ (l : List ℕ). PlaceVisits types nursery m l (p ∷ more) final last) (sym e) (VisitsPlace m p rest more final last passed at)))

    -- the budget is not reached
    pub marking-visits : (words : ℕ) → words ≡ words_at types (word_at m.blocks) p → words < left → IsMarking types nursery budget first gray told new queue births (left - words)
    marking-visits words are few = record {
      all = i.all;
      can = subst (λ (l : List ℕ). CanVisit types nursery new l i.all) (sym queued) (subst (λ (k : Memory). CanVisit types nursery k (rest ++ outside_refs types nursery (word_at m.blocks) p) i.all) (sym marked) (can-visited p i.can there rest e));
      stays = subst (λ (k : Memory). KeepsObjects types first k i.all) (sym marked) (record {
        words = λ q t. ap (λ (l : Layout). l.words) (keeps-visited p i.can there q t).layout_stays ∙ i.stays.words q t;
        birth = λ q t. (keeps-visited p i.can there q t).birth_stays ∙ i.stays.birth q t;
      });
      done = i.done ++ p ∷ [];
      births = births-then;
      goes_on = chain;
      some = omega (arith, few);
      sum = omega (arith, sum-then, i.sum, few, are);
    }

    -- the budget is reached
    pub marking-stops : (words : ℕ) → words ≡ words_at types (word_at m.blocks) p → left ≤ words → Marks types nursery budget first gray told new queue births Budget
    marking-stops words are enough =
        let f : ℕ → ℕ = words_at types (word_at first.blocks) in
        let size : length (i.done ++ p ∷ []) - 1 ≡ length i.done = (let all = length-append i.done (p ∷ []) in omega (arith, all)) in
        let before : take (length (i.done ++ p ∷ []) - 1) (i.done ++ p ∷ []) ≡ i.done = ap (λ k. take k (i.done ++ p ∷ [])) size ∙ take-append_seam i.done (p ∷ []) in
        let few : sum_by f (take (length (i.done ++ p ∷ []) - 1) (i.done ++ p ∷ [])) ≡ sum_by f i.done = ap (sum_by f) before in
        record {
          places = i.done ++ p ∷ [];
          visits = subst (λ (l : List ℕ). PlaceVisits types nursery first gray l new queue) (append-nil (i.done ++ p ∷ [])) (chain [] new queue (NoPlace new queue));
          births = births-then;
          ends = (omega (arith, few, i.sum, i.some), omega (arith, sum-then, i.sum, are, enough));
        }

-- nothing waits any more
pub marking-empty : {types : Table TypeInfo} {nursery budget : ℕ} {first : Memory} {gray told : List ℕ} {m : Memory} {waits tells : List ℕ} {left : ℕ}
    → IsMarking types nursery budget first gray told m waits tells left → (last : List ℕ) → waits ≡ [] → last ≡ [] → (words : ℕ) → words ≡ budget - left
    → Marks types nursery budget first gray told m last tells (Empty words)
marking-empty {types = types} {nursery = nursery} {first = first} {gray = gray} {m = m} i last none gone words is = record {
  places = i.done;
  visits = subst (λ (l : List ℕ). PlaceVisits types nursery first gray i.done m l) (sym gone) (subst (λ (l : List ℕ). PlaceVisits types nursery first gray l m []) (append-nil i.done)
      (i.goes_on [] m [] (subst (λ (l : List ℕ). PlaceVisits types nursery m l [] m []) (sym none) (NoPlace m []))));
  births = i.births;
  ends = (gone, omega (arith, is, i.sum), omega (arith, is, i.sum, i.some));
}

-- the births told so far stand behind those that were there
pub marking-front : {types : Table TypeInfo} {nursery budget : ℕ} {first : Memory} {gray told : List ℕ} {m : Memory} {waits tells : List ℕ} {left : ℕ}
    → IsMarking types nursery budget first gray told m waits tells left → StartsWith tells told
marking-front {first = first} i = (map (λ p. word_at first.blocks (p + 1)) i.done, i.births)

pub front-more : (a b c : List ℕ) → StartsWith b a → StartsWith c b → StartsWith c a
front-more a b c ab bc = (ab.0 ++ bc.0, bc.1 ∙ (ap (λ xs. xs ++ bc.0) ab.1 ∙ append_assoc a ab.0 bc.0))
