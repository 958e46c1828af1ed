-- Objects stay as they are where first words change and keep their types.
use Rattle.std.proofs.Common.{◌≡◌, ℕ, ◌+◌, ◌<◌, Bool, true, false, IsTrue, List, [], ◌∷◌, ◌++◌, refl, sym, ap, ap₂, ◌∙◌, subst, inl, inr, arith}
use Rattle.std.specs.Prelude.{◌%◌, not, ◌&&◌, nat_lt, IsSome}
use Rattle.std.proofs.lemmas.Bool.{cases_Bool}
use Rattle.std.proofs.lemmas.Bool.Decides.{nat_tests}
use Rattle.type_table.specs.declared.info.TypeInfo.{TypeInfo}
use Rattle.type_table.specs.Table.{Table, value_at}
use Rattle.heap_space.specs.Memory.{Memory}
use Rattle.heap_space.specs.Places.{has, word_at, lies_in_one}
use Rattle.object_header.specs.Words.{has_flag}
use Rattle.object_header.specs.declared.flags.Flag.TheVariants.{Visited}
use Rattle.object_model.specs.Layout.{Layout}
use Rattle.object_model.specs.Sets.{is_in}
use Rattle.object_model.specs.ObjectWords.{words_from, type_id_at, layout_at, words_at, Covers}
use Rattle.object_view.specs.Views.{HasObject}
use Rattle.object_view.proofs.LayoutLaws.{laid_out, layout_at-same}
use Rattle.object_view.proofs.WordLaws.{words_from-same}
use Rattle.object_view.proofs.SpaceLaws.{lies-at}
use Rattle.finalizer_order.specs.Paths.{Leads}
use Rattle.finalizer_order.specs.Unvisited.{refs_at, is_unvisited, leads_on, Reaches, AreWhole}
use Rattle.finalizer_order.specs.Changes.{changed_at}
use Rattle.finalizer_order.proofs.Changes.{lies-changed, keeps-changed, untouched}

-- the memory after the change
abbrev pub changed : (ℕ → ℕ) → List ℕ → Memory → Memory
changed f ps m = record m { blocks = changed_at f ps m.blocks }

pub both : (a b : Bool) → a ≡ true → b ≡ true → (a && b) ≡ true
both true b e h = h
both false b e h = e

pub first : (a b : Bool) → (a && b) ≡ true → a ≡ true
first true b e = refl
first false b e = e

pub second : (a b : Bool) → (a && b) ≡ true → b ≡ true
second true b e = e
second false b e = absurd (let no : ⊥ = cc in no)

pub not_true : (b : Bool) → not b ≡ true → b ≡ false
not_true true e = absurd (let no : ⊥ = cc in no)
not_true false e = refl

pub not_false : (b : Bool) → b ≡ false → not b ≡ true
not_false true e = absurd (let no : ⊥ = cc in no)
not_false false e = refl

pub behind : (nursery : ℕ) (word : ℕ → ℕ) (q : ℕ) → is_unvisited nursery word q ≡ true → nursery < q
behind nursery word q u = let e : nat_lt nursery q ≡ true = first (nat_lt nursery q) (not (has_flag (word q) Visited)) u in grind (arith, nat_tests)

-- paths

pub step-reaches : {types : Table TypeInfo} {nursery : ℕ} {word : ℕ → ℕ} (p q : ℕ) → IsTrue (leads_on types nursery word p q) → Reaches types nursery word p q
step-reaches p q t = record { path = q ∷ []; leads = (t, refl) }

pub self-reaches : {types : Table TypeInfo} {nursery : ℕ} {word : ℕ → ℕ} (p : ℕ) → Reaches types nursery word p p
self-reaches p = record { path = []; leads = refl }

leads-joined : (step : ℕ → ℕ → Bool) (p : ℕ) (one : List ℕ) (q : ℕ) (two : List ℕ) (r : ℕ) → Leads step p one q → Leads step q two r → Leads step p (one ++ two) r
leads-joined step p [] q two r a b = subst (λ (k : ℕ). Leads step k two r) (sym a) b
leads-joined step p (z ∷ one) q two r a b = (a.0, leads-joined step z one q two r a.1 b)

pub joins-reaches : {types : Table TypeInfo} {nursery : ℕ} {word : ℕ → ℕ} (p q r : ℕ) → Reaches types nursery word p q → Reaches types nursery word q r → Reaches types nursery word p r
joins-reaches {types = types} {nursery = nursery} {word = word} p q r a b =
    record { path = a.path ++ b.path; leads = leads-joined (leads_on types nursery word) p a.path q b.path r a.leads b.leads }

-- what holds of p and along each step holds of all that p leads to
pub along : {types : Table TypeInfo} {nursery : ℕ} {word : ℕ → ℕ} (P : ℕ → Type 0) → ((p q : ℕ) → P p → IsTrue (leads_on types nursery word p q) → P q)
    → (p q : ℕ) → P p → Reaches types nursery word p q → P q
along {types = types} {nursery = nursery} {word = word} P goes p q h r = go p r.path h r.leads
  where
    go : (p : ℕ) (path : List ℕ) → P p → Leads (leads_on types nursery word) p path q → P q
    go p [] h l = subst P l h
    go p (z ∷ path) h l = go z path (goes p z h l.0) l.1

pub leads-ref : (types : Table TypeInfo) (nursery : ℕ) (word : ℕ → ℕ) (p q : ℕ) → IsTrue (leads_on types nursery word p q) → IsTrue (is_in q (refs_at types word p))
leads-ref types nursery word p q t = first (is_in q (refs_at types word p)) (is_unvisited nursery word q) t

pub leads-unvisited : (types : Table TypeInfo) (nursery : ℕ) (word : ℕ → ℕ) (p q : ℕ) → IsTrue (leads_on types nursery word p q) → is_unvisited nursery word q ≡ true
leads-unvisited types nursery word p q t = second (is_in q (refs_at types word p)) (is_unvisited nursery word q) t

module _ {m : Memory} {types : Table TypeInfo} {nursery : ℕ} {starts : List ℕ} (c : AreWhole m types nursery starts) where
  w : ℕ → ℕ
  w = word_at m.blocks

  -- objects lead to objects
  pub step-place : (p q : ℕ) → IsTrue (is_in p c.places) → IsTrue (leads_on types nursery (word_at m.blocks) p q) → IsTrue (is_in q c.places)
  step-place p q t l = c.closed p q t (leads-ref types nursery (word_at m.blocks) p q l)
      (behind nursery (word_at m.blocks) q (leads-unvisited types nursery (word_at m.blocks) p q l))

  pub reach-place : (p q : ℕ) → IsTrue (is_in p c.places) → Reaches types nursery (word_at m.blocks) p q → IsTrue (is_in q c.places)
  reach-place p q t r = along (λ k. IsTrue (is_in k c.places)) step-place p q t r

  pub unvisited-place : (p : ℕ) → IsTrue (is_in p starts) → is_unvisited nursery (word_at m.blocks) p ≡ true → IsTrue (is_in p c.places)
  unvisited-place p t u = c.started p t (behind nursery (word_at m.blocks) p u)

  -- their headers lie in the memory
  pub has-place : (p : ℕ) → IsTrue (is_in p c.places) → has m.blocks p ≡ true
  has-place p t = let n : ℕ = words_at types (word_at m.blocks) p in let size = (laid_out types (word_at m.blocks) p).header in
      lies-at m.blocks p n p (c.whole p t).whole (omega arith) (omega (arith, size))

  module _ (f : ℕ → ℕ) (same : (k : ℕ) → f k % 65536 ≡ k % 65536) (ps : List ℕ) (part : (p : ℕ) → IsTrue (is_in p ps) → IsTrue (is_in p c.places)) where
    v : ℕ → ℕ
    v = word_at (changed_at f ps m.blocks)

    behind-first : (p b : ℕ) → IsTrue (is_in p c.places) → p < b → b < p + words_at types (word_at m.blocks) p → is_in b ps ≡ false
    behind-first p b t l r = elim (cases_Bool (is_in b ps)) [
      | inl u ↦ absurd (
          let size = (laid_out types (word_at m.blocks) b).header in
          let one : p ≡ b = c.apart p b b t (part b u) (omega (arith, l), r) (omega arith, omega (arith, size)) in
          let no : ⊥ = omega (arith, one, l) in no)
      | inr n ↦ n
    ]

    pub words-kept : (p b : ℕ) → IsTrue (is_in p c.places) → p < b → b < p + words_at types (word_at m.blocks) p → word_at (changed_at f ps m.blocks) b ≡ word_at m.blocks b
    words-kept p b t l r = untouched f ps m.blocks b (behind-first p b t l r)

    pub birth-kept : (p : ℕ) → IsTrue (is_in p c.places) → word_at (changed_at f ps m.blocks) (p + 1) ≡ word_at m.blocks (p + 1)
    birth-kept p t = let size = (laid_out types (word_at m.blocks) p).header in words-kept p (p + 1) t (omega arith) (omega (arith, size))

    type-kept : (p : ℕ) → type_id_at (word_at (changed_at f ps m.blocks)) p ≡ type_id_at (word_at m.blocks) p
    type-kept p = keeps-changed (λ k. k % 65536) f same ps m.blocks p

    pub layout-kept : (p : ℕ) → IsTrue (is_in p c.places) → layout_at types (word_at (changed_at f ps m.blocks)) p ≡ layout_at types (word_at m.blocks) p
    layout-kept p t = layout_at-same types (word_at (changed_at f ps m.blocks)) (word_at m.blocks) p (type-kept p)
        (λ e l. words-kept p (p + 2) t (omega arith) (omega (arith, l)))

    pub refs-kept : (p : ℕ) → IsTrue (is_in p c.places) → refs_at types (word_at (changed_at f ps m.blocks)) p ≡ refs_at types (word_at m.blocks) p
    refs-kept p t =
        let layout : Layout = layout_at types (word_at m.blocks) p in let laid = laid_out types (word_at m.blocks) p in
        ap (λ (l : Layout). words_from (word_at (changed_at f ps m.blocks)) l.ref_start l.ref_count) (layout-kept p t)
        ∙ words_from-same (word_at (changed_at f ps m.blocks)) (word_at m.blocks) layout.ref_start layout.ref_count
        (λ b l r. words-kept p b t (omega (arith, l, laid.begins, laid.ordered)) (omega (arith, r, laid.refs, laid.pointers)))

    pub object-kept : (p : ℕ) → IsTrue (is_in p c.places) → HasObject (changed f ps m) types p
    object-kept p t = record {
      typed = let P : ℕ → Type 0 = λ k. IsSome (value_at types k) in subst P (sym (type-kept p)) (c.whole p t).typed;
      whole = let P : Layout → Type 0 = λ l. lies_in_one (changed_at f ps m.blocks) p l.words ≡ true in
          subst P (sym (layout-kept p t)) (lies-changed f ps m.blocks p (words_at types (word_at m.blocks) p) ∙ (c.whole p t).whole);
    }

    pub covers-kept : (p at : ℕ) → IsTrue (is_in p c.places) → Covers types (word_at (changed_at f ps m.blocks)) p at → Covers types (word_at m.blocks) p at
    covers-kept p at t h = (h.0, let e = ap (λ (l : Layout). l.words) (layout-kept p t) in let r = h.1 in omega (arith, e, r))

    -- so objects are whole, also from other starts among them
    unfoldable pub whole-kept : (more : List ℕ) → ((p : ℕ) → IsTrue (is_in p more) → nursery < p → IsTrue (is_in p c.places)) → AreWhole (changed f ps m) types nursery more
    whole-kept more started = record {
      places = c.places;
      whole = object-kept;
      apart = λ p q at t u a b. c.apart p q at t u (covers-kept p at t a) (covers-kept q at u b);
      started = started;
      closed = λ p q t r l. c.closed p q t (subst (λ (rs : List ℕ). IsTrue (is_in q rs)) (refs-kept p t) r) l;
    }

    module _ (visited : (k : ℕ) → has_flag (f k) Visited ≡ has_flag k Visited) where
      pub unvisited-kept : (q : ℕ) → is_unvisited nursery (word_at (changed_at f ps m.blocks)) q ≡ is_unvisited nursery (word_at m.blocks) q
      unvisited-kept q = ap (λ (b : Bool). nat_lt nursery q && not b) (keeps-changed (λ k. has_flag k Visited) f visited ps m.blocks q)

      pub leads-kept : (p q : ℕ) → IsTrue (is_in p c.places) → leads_on types nursery (word_at (changed_at f ps m.blocks)) p q ≡ leads_on types nursery (word_at m.blocks) p q
      leads-kept p q t = ap₂ (λ (rs : List ℕ) (b : Bool). is_in q rs && b) (refs-kept p t) (unvisited-kept q)

      leads-after : (p : ℕ) (path : List ℕ) (q : ℕ) → IsTrue (is_in p c.places) → Leads (leads_on types nursery (word_at m.blocks)) p path q
          → Leads (leads_on types nursery (word_at (changed_at f ps m.blocks))) p path q
      leads-after p [] q t l = l
      leads-after p (z ∷ path) q t l = (leads-kept p z t ∙ l.0, leads-after z path q (step-place p z t l.0) l.1)

      leads-before : (p : ℕ) (path : List ℕ) (q : ℕ) → IsTrue (is_in p c.places) → Leads (leads_on types nursery (word_at (changed_at f ps m.blocks))) p path q
          → Leads (leads_on types nursery (word_at m.blocks)) p path q
      leads-before p [] q t l = l
      leads-before p (z ∷ path) q t l = let s : leads_on types nursery (word_at m.blocks) p z ≡ true = sym (leads-kept p z t) ∙ l.0 in
          (s, leads-before z path q (step-place p z t s) l.1)

      pub reaches-after : (p q : ℕ) → IsTrue (is_in p c.places) → Reaches types nursery (word_at m.blocks) p q → Reaches types nursery (word_at (changed_at f ps m.blocks)) p q
      reaches-after p q t r = record { path = r.path; leads = leads-after p r.path q t r.leads }

      pub reaches-before : (p q : ℕ) → IsTrue (is_in p c.places) → Reaches types nursery (word_at (changed_at f ps m.blocks)) p q → Reaches types nursery (word_at m.blocks) p q
      reaches-before p q t r = record { path = r.path; leads = leads-before p r.path q t r.leads }
