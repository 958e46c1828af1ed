-- The objects of the test are whole, lie apart, and carry no flag.
use Rattle.std.proofs.Common.{◌≡◌, ℕ, ◌+◌, ◌<◌, ◌≤◌, true, false, IsTrue, List, [], ◌∷◌, refl, sym, ap, ◌∙◌, subst, inl, inr, arith}
use Rattle.std.specs.Prelude.{◌%◌, IsSome}
use Rattle.type_table.specs.declared.info.Shape.TheVariants.{Fixed}
use Rattle.type_table.specs.declared.info.TypeInfo.{TypeInfo}
use Rattle.type_table.specs.Table.{Table, value_at}
use Rattle.heap_space.specs.Memory.{Memory, fresh_memory, with_arena}
use Rattle.heap_space.specs.Places.{word_at, with_word, lies_in_one}
use Rattle.object_header.specs.Words.{has_flag}
use Rattle.object_header.specs.declared.flags.Flag.TheVariants.{Order1, Order2}
use Rattle.object_model.specs.Layout.{Layout, layout_of}
use Rattle.object_model.specs.Sets.{is_in}
use Rattle.object_model.specs.ObjectWords.{words_from, info_or_weak, layout_at, words_at}
use Rattle.object_view.specs.Views.{HasObject}
use Rattle.object_model.proofs.Members.{is_in-cases}
use Rattle.list_tests.specs.declared.finalizers.TheConstants.{LINK}
use Rattle.finalizer_order.specs.Unvisited.{refs_at}
use Rattle.finalizer_order.specs.Choosing.{CanChoose}
use Rattle.finalizer_order.proofs.Lists.{in-one}
use Rattle.list_tests.proofs.finalizers.chain.Goals as goal

abbrev types : Table TypeInfo
types = (7, LINK) ∷ []

abbrev with_link : Memory → ℕ → ℕ → ℕ → Memory
with_link m a birth to = record m { blocks = with_word (with_word (with_word m.blocks a 7) (a + 1) birth) (a + 2) to }

-- the memory that was written
abbrev written : Memory
written = with_link (with_link (with_link (with_arena (fresh_memory 16 64)) 4294967296 11 4294967304) 4294967304 12 4294967312) 4294967312 13 4294967304

abbrev places : List ℕ
places = 4294967296 ∷ 4294967304 ∷ 4294967312 ∷ []

-- an object of one reference, by its words
record IsLink (word : ℕ → ℕ) (p to : ℕ) : Type 0 where
  header : word p ≡ 7
  leads : word (p + 2) ≡ to

link-layout : (word : ℕ → ℕ) (p to : ℕ) → IsLink word p to → layout_at types word p ≡ layout_of (Fixed 0 1) p 0
unfolding layout_at
link-layout word p to l = ap (λ (k : ℕ). layout_of (info_or_weak (value_at types (k % 65536))).shape p (word (p + 2))) l.header

link-words : (word : ℕ → ℕ) (p to : ℕ) → IsLink word p to → words_at types word p ≡ 3
link-words word p to l = ap (λ (k : Layout). k.words) (link-layout word p to l)

link-refs : (word : ℕ → ℕ) (p to : ℕ) → IsLink word p to → refs_at types word p ≡ to ∷ []
link-refs word p to l =
    ap (λ (k : Layout). words_from word k.ref_start k.ref_count) (link-layout word p to l)
    ∙ ap (λ (k : ℕ). word k ∷ []) (let e : p + 2 + 0 ≡ p + 2 = omega arith in e) ∙ ap (λ (k : ℕ). k ∷ []) l.leads

link-whole : (m : Memory) (p to : ℕ) → IsLink (word_at m.blocks) p to → lies_in_one m.blocks p 3 ≡ true → HasObject m types p
link-whole m p to l lies = record {
  typed = let P : ℕ → Type 0 = λ k. IsSome (value_at types (k % 65536)) in subst P (sym l.header) refl;
  whole = ap (lies_in_one m.blocks p) (link-words (word_at m.blocks) p to l) ∙ lies;
}

first-link : IsLink (word_at written.blocks) 4294967296 4294967304
first-link = record { header = refl; leads = refl }

second-link : IsLink (word_at written.blocks) 4294967304 4294967312
second-link = record { header = refl; leads = refl }

third-link : IsLink (word_at written.blocks) 4294967312 4294967304
third-link = record { header = refl; leads = refl }

-- each place is one of three
record AtOne (P : ℕ → Type 0) : Type 0 where
  first : P 4294967296
  second : P 4294967304
  third : P 4294967312

each : (P : ℕ → Type 0) → AtOne P → (p : ℕ) → IsTrue (is_in p places) → P p
each P a p t = elim (is_in-cases p 4294967296 (4294967304 ∷ 4294967312 ∷ []) t) [
  | inl e ↦ subst P (sym e) a.first
  | inr u ↦ elim (is_in-cases p 4294967304 (4294967312 ∷ []) u) [
    | inl e ↦ subst P (sym e) a.second
    | inr v ↦ subst P (sym (in-one p 4294967312 v)) a.third
  ]
]

-- no word is one of two objects
far : (p q at : ℕ) → IsTrue (is_in p places) → IsTrue (is_in q places) → p ≤ at → at < p + 3 → q ≤ at → at < q + 3 → p ≡ q
far p q at t u a b c d = each (λ k. k ≤ at → at < k + 3 → k ≡ q)
    (record {
      first = λ a b. each (λ k. k ≤ at → at < k + 3 → 4294967296 ≡ k) (record { first = λ c d. refl; second = λ c d. absurd (omega arith); third = λ c d. absurd (omega arith) }) q u c d;
      second = λ a b. each (λ k. k ≤ at → at < k + 3 → 4294967304 ≡ k) (record { first = λ c d. absurd (omega arith); second = λ c d. refl; third = λ c d. absurd (omega arith) }) q u c d;
      third = λ a b. each (λ k. k ≤ at → at < k + 3 → 4294967312 ≡ k) (record { first = λ c d. absurd (omega arith); second = λ c d. absurd (omega arith); third = λ c d. refl }) q u c d;
    })
    p t a b

three : (p : ℕ) → IsTrue (is_in p places) → words_at types (word_at written.blocks) p ≡ 3
three = each (λ p. words_at types (word_at written.blocks) p ≡ 3) (record {
  first = link-words (word_at written.blocks) 4294967296 4294967304 first-link;
  second = link-words (word_at written.blocks) 4294967304 4294967312 second-link;
  third = link-words (word_at written.blocks) 4294967312 4294967304 third-link;
})

clear : (w : ℕ) → w ≡ 7 → (has_flag w Order1 ≡ false) × (has_flag w Order2 ≡ false)
unfolding has_flag
clear w e = (ap (λ (k : ℕ). has_flag k Order1) e, ap (λ (k : ℕ). has_flag k Order2) e)

can : CanChoose written types 16 places
can = record {
  whole = record {
    places = places;
    whole = each (HasObject written types) (record {
      first = link-whole written 4294967296 4294967304 first-link refl;
      second = link-whole written 4294967304 4294967312 second-link refl;
      third = link-whole written 4294967312 4294967304 third-link refl;
    });
    apart = λ p q at t u a b. let e = three p t in let f = three q u in
        far p q at t u a.0 (let l = a.1 in omega (arith, l, e)) b.0 (let l = b.1 in omega (arith, l, f));
    started = λ p t out. t;
    closed = λ p q t r out. each (λ k. IsTrue (is_in q (refs_at types (word_at written.blocks) k)) → IsTrue (is_in q places)) (record {
      first = λ s. subst (λ (k : ℕ). IsTrue (is_in k places)) (sym (in-one q 4294967304 (subst (λ (rs : List ℕ). IsTrue (is_in q rs)) (link-refs (word_at written.blocks) 4294967296 4294967304 first-link) s))) refl;
      second = λ s. subst (λ (k : ℕ). IsTrue (is_in k places)) (sym (in-one q 4294967312 (subst (λ (rs : List ℕ). IsTrue (is_in q rs)) (link-refs (word_at written.blocks) 4294967304 4294967312 second-link) s))) refl;
      third = λ s. subst (λ (k : ℕ). IsTrue (is_in k places)) (sym (in-one q 4294967304 (subst (λ (rs : List ℕ). IsTrue (is_in q rs)) (link-refs (word_at written.blocks) 4294967312 4294967304 third-link) s))) refl;
    }) p t r;
  };
  clear1 = each (λ p. has_flag (word_at written.blocks p) Order1 ≡ false) (record { first = (clear 7 refl).0; second = (clear 7 refl).0; third = (clear 7 refl).0 });
  clear2 = each (λ p. has_flag (word_at written.blocks p) Order2 ≡ false) (record { first = (clear 7 refl).1; second = (clear 7 refl).1; third = (clear 7 refl).1 });
}

pub returns : goal.returns
returns c =
    let begun : c.add_arena.new.self ≡ with_arena (fresh_memory 16 64) = c.in_ok-add_arena.ensures.ok.1 ∙ ap with_arena c.in_ok-space.ensures in
    let one : c.write_link.new.space ≡ with_link (with_arena (fresh_memory 16 64)) 4294967296 11 4294967304 =
    c.write_link.ensures ∙ ap (λ (m : Memory). with_link m 4294967296 11 4294967304) begun in
    let two : c.write_link-2.new.space ≡ with_link (with_link (with_arena (fresh_memory 16 64)) 4294967296 11 4294967304) 4294967304 12 4294967312 =
    c.write_link-2.ensures ∙ ap (λ (m : Memory). with_link m 4294967304 12 4294967312) one in
    let all : c.write_link-3.new.space ≡ written = c.write_link-3.ensures ∙ ap (λ (m : Memory). with_link m 4294967312 13 4294967304) two in
    subst (λ (m : Memory). CanChoose m types 16 places) (sym all) can
