-- One visit: the objects keep types, births, layouts and references, and marking can go on.
use Rattle.std.proofs.Common.{◌≡◌, ◌≢◌, ℕ, ◌+◌, ◌%◌, ◌<◌, ◌≤◌, true, IsTrue, List, ◌∷◌, ◌++◌, filter, refl, sym, ap, ◌∙◌, subst, inl, inr, arith}
use Rattle.std.proofs.lemmas.Bool.Decides.{eqb_tells}
use Rattle.type_table.specs.declared.info.TypeInfo.{TypeInfo}
use Rattle.type_table.specs.Table.{Table}
use Rattle.heap_space.specs.Places.{has, word_at}
use Rattle.heap_space.specs.Memory.{Memory}
use Rattle.heap_space.proofs.Blocks.{lies-with_word}
use Rattle.object_header.specs.Words.{with_flag}
use Rattle.object_header.specs.declared.flags.Flag.TheVariants.{Visited}
use Rattle.object_header.proofs.WordLaws.{type_of-with_flag, IsHeader-with_flag}
use Rattle.object_model.specs.Layout.{Layout}
use Rattle.object_model.specs.Sets.{is_in}
use Rattle.object_model.specs.ObjectWords.{words_from, updated, type_id_at, layout_at, words_at}
use Rattle.object_view.specs.Views.{HasObject}
use Rattle.object_view.proofs.WordLaws.{updated-here, updated-other, words_from-same}
use Rattle.object_model.proofs.Members.{is_in-tail}
use Rattle.object_view.proofs.LayoutLaws.{KeepsLayout, SameAt, keeps-same, laid_out, layout_at-same}
use Rattle.object_view.proofs.ChangeLaws.{covers-kept}
use Rattle.object_view.proofs.SpaceLaws.{word_at-written, lies-at}
use Rattle.object_view.proofs.WholeLaws.{has_object-keeps}
use Rattle.mark_steps.specs.Visits.{is_outside, outside_refs, with_visited, CanVisit}
use Rattle.mark_steps.proofs.Lists.{in-either}

-- the first word of a whole object is there
pub has-first : (m : Memory) (types : Table TypeInfo) (p : ℕ) → HasObject m types p → has m.blocks p ≡ true
has-first m types p h =
    let laid = laid_out types (word_at m.blocks) p in
    lies-at m.blocks p (words_at types (word_at m.blocks) p) p h.whole (omega arith) (omega (arith, laid.header))

keeps-marked : (types : Table TypeInfo) (w : ℕ → ℕ) (p : ℕ) → KeepsLayout types (updated w p (with_flag (w p) Visited)) w p
keeps-marked types w p =
    let x : ℕ = with_flag (w p) Visited in
    let here : updated w p x p ≡ x = updated-here w p x p refl in
    let type_stays : type_id_at (updated w p x) p ≡ type_id_at w p = ap (λ y. y % 65536) here ∙ type_of-with_flag (w p) Visited in
    record {
      type_stays = type_stays;
      header = λ l. let small : x < 67108864 = IsHeader-with_flag (w p) Visited l in omega (arith, here, small);
      birth_stays = updated-other w p x (p + 1) (λ z. absurd (omega (arith, z)));
      layout_stays = layout_at-same types (updated w p x) w p type_stays (λ a b. updated-other w p x (p + 2) (λ z. absurd (omega (arith, z))));
    }

module _ {types : Table TypeInfo} {nursery : ℕ} {m : Memory} {gray places : List ℕ} (p : ℕ) (can : CanVisit types nursery m gray places) (t : IsTrue (is_in p places)) where
  pub words-marked : word_at (with_visited m p).blocks ≡ updated (word_at m.blocks) p (with_flag (word_at m.blocks p) Visited)
  words-marked = word_at-written m.blocks p (with_flag (word_at m.blocks p) Visited) (has-first m types p (can.whole p t))

  -- the first word of an object is a word of no other
  pub first-apart : (q b : ℕ) → IsTrue (is_in q places) → q ≤ b → b < q + words_at types (word_at m.blocks) q → b ≡ p → q ≡ p
  first-apart q b u low high e =
      let laid = laid_out types (word_at m.blocks) p in
      can.apart q p b u t (low, high) (omega (arith, e), omega (arith, e, laid.header))

  other-same : (q : ℕ) → IsTrue (is_in q places) → q ≢ p → SameAt types (updated (word_at m.blocks) p (with_flag (word_at m.blocks p) Visited)) (word_at m.blocks) q
  other-same q u ne = record {
    same = λ b l r. updated-other (word_at m.blocks) p (with_flag (word_at m.blocks p) Visited) b (λ e. ne (first-apart q b u l r e));
  }

  pub keeps-visited : (q : ℕ) → IsTrue (is_in q places) → KeepsLayout types (word_at (with_visited m p).blocks) (word_at m.blocks) q
  keeps-visited q u = subst (λ (v : ℕ → ℕ). KeepsLayout types v (word_at m.blocks) q) (sym words-marked) (elim (eqb_tells q p) [
    | inl e ↦
        let P : ℕ → Type 0 = λ k. KeepsLayout types (updated (word_at m.blocks) p (with_flag (word_at m.blocks p) Visited)) (word_at m.blocks) k in
        subst P (sym e.1) (keeps-marked types (word_at m.blocks) p)
    | inr n ↦ keeps-same types (updated (word_at m.blocks) p (with_flag (word_at m.blocks p) Visited)) (word_at m.blocks) q (other-same q u n.1)
  ])

  pub refs-visited : (q : ℕ) → IsTrue (is_in q places) → outside_refs types nursery (word_at (with_visited m p).blocks) q ≡ outside_refs types nursery (word_at m.blocks) q
  refs-visited q u =
      let l : Layout = layout_at types (word_at m.blocks) q in
      let laid = laid_out types (word_at m.blocks) q in
      let v : ℕ → ℕ = updated (word_at m.blocks) p (with_flag (word_at m.blocks p) Visited) in
      let same : words_from v l.ref_start l.ref_count ≡ words_from (word_at m.blocks) l.ref_start l.ref_count =
      words_from-same v (word_at m.blocks) l.ref_start l.ref_count (λ b low high.
      updated-other (word_at m.blocks) p (with_flag (word_at m.blocks p) Visited) b (λ e.
      let is : q ≡ p = first-apart q b u (omega (arith, low, laid.begins, laid.ordered)) (omega (arith, high, laid.pointers, laid.refs)) e in
      absurd (omega (arith, e, is, low, laid.begins, laid.ordered)))) in
      ap (λ (k : Layout). filter (is_outside nursery) (words_from (word_at (with_visited m p).blocks) k.ref_start k.ref_count)) (keeps-visited q u).layout_stays
      ∙ ap (filter (is_outside nursery)) (ap (λ (w : ℕ → ℕ). words_from w l.ref_start l.ref_count) words-marked ∙ same)

  -- marking can go on
  pub can-visited : (rest : List ℕ) → gray ≡ p ∷ rest → CanVisit types nursery (with_visited m p) (rest ++ outside_refs types nursery (word_at m.blocks) p) places
  can-visited rest e = record {
    whole = λ q u. has_object-keeps m (with_visited m p) types q (keeps-visited q u)
        (λ a n l. lies-with_word m.blocks p (with_flag (word_at m.blocks p) Visited) a n ∙ l) (can.whole q u);
    apart = λ q r at u v a b. can.apart q r at u v (covers-kept q at (keeps-visited q u) a) (covers-kept r at (keeps-visited r v) b);
    closed = λ q r u i. can.closed q r u (subst (λ (l : List ℕ). IsTrue (is_in r l)) (refs-visited q u) i);
    listed = λ q i o. elim (in-either q rest (outside_refs types nursery (word_at m.blocks) p) i) [
      | inl l ↦ can.listed q (subst (λ (l : List ℕ). IsTrue (is_in q l)) (sym e) (is_in-tail q p rest l)) o
      | inr r ↦ can.closed p q t r
    ];
  }

pub can-passed : {types : Table TypeInfo} {nursery : ℕ} {m : Memory} {gray places : List ℕ} (p : ℕ) (rest : List ℕ) → CanVisit types nursery m gray places → gray ≡ p ∷ rest
    → CanVisit types nursery m rest places
can-passed p rest can e = record {
  whole = can.whole;
  apart = can.apart;
  closed = can.closed;
  listed = λ q i o. can.listed q (subst (λ (l : List ℕ). IsTrue (is_in q l)) (sym e) (is_in-tail q p rest i)) o;
}
