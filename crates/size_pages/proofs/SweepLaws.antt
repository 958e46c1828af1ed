-- The slots of a page are swept one after another.
use Rattle.std.proofs.Common.{◌≡◌, ◌≢◌, ℕ, ◌+◌, ◌-◌, ◌*◌, ◌/◌, ◌<◌, ◌≤◌, ◌⊎◌, inl, inr, Bool, true, false, ◌&&◌, not, ◌==◌, if◌then◌else◌, cond, nat_lt, List, [], ◌∷◌, ◌++◌, arith, refl, sym, ◌∙◌, ap, subst}
use Rattle.std.proofs.lemmas.Bool.{cases_Bool}
use Rattle.std.proofs.lemmas.Bool.Decides.{eqb_tells, nat_tests}
use Rattle.std.specs.List.{filter}
use Rattle.heap_space.specs.Memory.{Memory}
use Rattle.heap_space.specs.Extents.{Extent, Each, IsInside, IsApart, KeepsWords, begins_between}
use Rattle.heap_space.proofs.ExtentLaws.{Each-map, Each-both, Each-into, Each-out}
use Rattle.object_header.specs.Words.{has_flag, without_flag, survives_sweep}
use Rattle.object_header.specs.declared.flags.Flag.TheVariants.{Free, Visited}
use Rattle.size_pages.specs.PageWords.{Words, word_in, CanStore, IsInArenas, IsStored}
use Rattle.size_pages.specs.PageBlocks.{GivesBack}
use Rattle.size_pages.specs.LiveBlocks.{page_at, in_page}
use Rattle.size_pages.specs.HasBlocks.{HasBlocks, IsLive}
use Rattle.size_pages.specs.Steps.{CanPut}
use Rattle.size_pages.specs.Headers.{HasHeaders}
use Rattle.size_pages.specs.Sweeping.{dies, kept_blocks, swept_word}
use Rattle.size_pages.specs.SlotSteps.{CanSweepAt, CanSweepSlot, SweepsSlot, SweepsBlocks}
use Rattle.size_pages.specs.declared.Pages.{Pages}
use Rattle.size_pages.proofs.EndLaws.{give_facts, give_plain}
use Rattle.size_pages.proofs.KeepLaws.{given_keeps}
use Rattle.size_pages.proofs.ArenaLaws.{arenas_then, arenas_same, can_store_after}
use Rattle.size_pages.proofs.GiveLaws.{page_number}
use Rattle.size_pages.proofs.OrderLaws.{HasBlocks_front}
use Rattle.size_pages.proofs.FrameLaws.{HasBlocks_untouched}
use Rattle.size_pages.proofs.SplitLaws.{Among, each_middle, each_filter, filter_same, filter_steady, IsSteady, below_steady, split_at}
use Rattle.size_pages.proofs.ChoiceLaws.{waiting_pages}
use Rattle.size_pages.proofs.SlotLaws.{AreAway}
use Rattle.size_pages.proofs.FitLaws.{filter_takes}
use Rattle.size_pages.proofs.GatherLaws.{and_false, and_true, swept_page, sweep_page_is, at_free, at_live, page_part, in_page_cases}

-- whether a block stays where the slots below a place are swept
abbrev pub stays : (Extent → Bool) → ℕ → Extent → Bool
stays d place x = not (d x && nat_lt x.0 place)

-- a word of a block that stays, where the slots below a place are swept
abbrev pub word_below : Words → ℕ → ℕ → ℕ → Extent → ℕ → ℕ
word_below w size p place x a = if (in_page size p x && nat_lt x.0 place) && (a == x.0) then without_flag (w a) Visited else w a

-- the slots of the page below a place are swept
pub record SweptTo (pages : Pages) (m after : Memory) (page place : ℕ) : Type 0 where
  pub fits : (live : List Extent) (rest : List ℕ) → HasHeaders pages m live (page ∷ rest) → HasBlocks pages after (filter (stays (dies (word_in m) pages.page page) place) live) (page ∷ rest)
  pub words : (live : List Extent) (rest : List ℕ) → HasHeaders pages m live (page ∷ rest)
      → Each (λ x. (a : ℕ) → IsInside x a → word_in after a ≡ word_below (word_in m) pages.page page place x a) (filter (stays (dies (word_in m) pages.page page) place) live)
  pub later : (e : ℕ) → place ≤ e → e < page + pages.page → word_in after e ≡ word_in m e
  pub arenas : IsInArenas m after

stays_steady : (d : Extent → Bool) → IsSteady (stays d)
stays_steady d low high x up out = ap (λ (b : Bool). not (d x && b)) (below_steady low high x up out)

word_away : (w : Words) (size p low high : ℕ) (x : Extent) (a : ℕ) → low ≤ high → (x.0 < low) ⊎ (high ≤ x.0) → word_below w size p low x a ≡ word_below w size p high x a
word_away w size p low high x a up out = ap (λ (b : Bool). if (in_page size p x && b) && (a == x.0) then without_flag (w a) Visited else w a) (let e : nat_lt x.0 low ≡ nat_lt x.0 high = grind (arith, nat_tests) in e)

words_away : (w now : Words) (size p low high : ℕ) (xs : List Extent) → low ≤ high → AreAway low high xs → Each (λ x. (a : ℕ) → IsInside x a → now a ≡ word_below w size p low x a) xs → Each (λ x. (a : ℕ) → IsInside x a → now a ≡ word_below w size p high x a) xs
words_away w now size p low high xs up away all =
    Each-both (λ x. (x.0 < low) ⊎ (high ≤ x.0)) (λ x. (a : ℕ) → IsInside x a → now a ≡ word_below w size p low x a) (λ x. (a : ℕ) → IsInside x a → now a ≡ word_below w size p high x a) (λ x out f a i. f a i ∙ word_away w size p low high x a up out) xs away all

-- a free slot
pub swept_free : (pages : Pages) (m after : Memory) (page low high : ℕ) → low ≤ high → ((live : List Extent) (rest : List ℕ) → HasHeaders pages m live (page ∷ rest) → AreAway low high live) → SweptTo pages m after page low → SweptTo pages m after page high
swept_free pages m after page low high up away t =
    let d = dies (word_in m) pages.page page in
    record {
      fits = λ live rest h. subst (λ (xs : List Extent). HasBlocks pages after xs (page ∷ rest)) (sym (filter_steady (stays d) (stays_steady d) low high live up (away live rest h))) (t.fits live rest h);
      words = λ live rest h. subst (Each (λ x. (a : ℕ) → IsInside x a → word_in after a ≡ word_below (word_in m) pages.page page high x a)) (sym (filter_steady (stays d) (stays_steady d) low high live up (away live rest h)))
          (words_away (word_in m) (word_in after) pages.page page low high (filter (stays d low) live) up (each_filter (λ x. (x.0 < low) ⊎ (high ≤ x.0)) (stays d low) live (away live rest h)) (t.words live rest h));
      later = λ e low_e high_e. t.later e (omega arith) high_e;
      arenas = t.arenas;
    }

-- the words are as they were
pub swept_same : (pages : Pages) (m after new : Memory) (page place : ℕ) → new ≡ after → SweptTo pages m after page place → SweptTo pages m new page place
swept_same pages m after new page place e t = subst (λ (k : Memory). SweptTo pages m k page place) (sym e) t

-- the block at a slot among those that stay
pub record StaysAt (d : Extent → Bool) (b n : ℕ) (live : List Extent) : Type 0 where
  pub front : List Extent
  pub back : List Extent
  pub was : filter (stays d b) live ≡ front ++ (b, n) ∷ back
  pub gone : d (b, n) ≡ true → filter (stays d (b + n)) live ≡ front ++ back
  pub kept : d (b, n) ≡ false → filter (stays d (b + n)) live ≡ front ++ (b, n) ∷ back
  pub away : AreAway b (b + n) (front ++ back)

pub stays_at : (d : Extent → Bool) (b n : ℕ) (live : List Extent) → 0 < n → Among b n live → StaysAt d b n live
stays_at d b n live some a =
    let s = split_at (stays d) (stays_steady d) b n live a in
    let x : Extent = (b, n) in
    let less : nat_lt b (b + n) ≡ true = grind (arith, nat_tests) in
    let same : nat_lt b b ≡ false = grind (arith, nat_tests) in
    let with_or : Bool → List Extent = λ c. s.front ++ cond c (x ∷ s.back) s.back in
    record {
      front = s.front;
      back = s.back;
      was = s.before ∙ ap with_or (ap (λ (c : Bool). not (d x && c)) same ∙ ap not (and_false (d x)));
      gone = λ dead. s.behind ∙ ap with_or (ap (λ (c : Bool). not (c && nat_lt b (b + n))) dead ∙ ap not less);
      kept = λ lives. s.behind ∙ ap with_or (ap (λ (c : Bool). not (c && nat_lt b (b + n))) lives);
      away = s.away;
    }

if_no : (c : Bool) (x y : ℕ) → (if c && false then x else y) ≡ y
if_no true x y = refl
if_no false x y = refl

own_here : (w : Words) (size p b n : ℕ) → 0 < n → in_page size p (b, n) ≡ true → word_below w size p (b + n) (b, n) b ≡ without_flag (w b) Visited
own_here w size p b n some here =
    let less : nat_lt b (b + n) ≡ true = grind (arith, nat_tests) in
    let same : (b == b) ≡ true = grind (arith, nat_tests) in
    ap (λ (c : Bool). if (c && nat_lt b (b + n)) && (b == b) then without_flag (w b) Visited else w b) here
    ∙ ap (λ (c : Bool). if c && (b == b) then without_flag (w b) Visited else w b) less
    ∙ ap (λ (c : Bool). if c then without_flag (w b) Visited else w b) same

own_else : (w : Words) (size p place b n a : ℕ) → a ≢ b → word_below w size p place (b, n) a ≡ w a
own_else w size p place b n a away =
    let other : (a == b) ≡ false = grind (arith, nat_tests) in
    ap (λ (c : Bool). if (in_page size p (b, n) && nat_lt b place) && c then without_flag (w a) Visited else w a) other ∙ if_no (in_page size p (b, n) && nat_lt b place) (without_flag (w a) Visited) (w a)

-- one slot, where a live block is
module _ (pages : Pages) (m after new : Memory) (page b n : ℕ) (two : 2 ≤ n) (is : page ≡ page_at pages.page ((b - 4294967296) / pages.page)) (low : page + 8 ≤ b) (high : b + n ≤ page + pages.page)
    (among : (live : List Extent) (rest : List ℕ) → HasHeaders pages m live (page ∷ rest) → Among b n live) (t : SweptTo pages m after page b) (s : IsInArenas after new) where
  pub at : (live : List Extent) (rest : List ℕ) → HasHeaders pages m live (page ∷ rest) → StaysAt (dies (word_in m) pages.page page) b n live
  at live rest h = stays_at (dies (word_in m) pages.page page) b n live (omega arith) (among live rest h)

  -- the block is live, and named first
  pub first_fits : (live : List Extent) (rest : List ℕ) (h : HasHeaders pages m live (page ∷ rest)) → HasBlocks pages after ((b, n) ∷ ((at live rest h).front ++ (at live rest h).back)) (page ∷ rest)
  first_fits live rest h =
      let x = at live rest h in
      HasBlocks_front pages after x.front x.back (b, n) (page ∷ rest) (subst (λ (xs : List Extent). HasBlocks pages after xs (page ∷ rest)) x.was (t.fits live rest h))

  was_words : (live : List Extent) (rest : List ℕ) (h : HasHeaders pages m live (page ∷ rest)) → Each (λ x. (a : ℕ) → IsInside x a → word_in after a ≡ word_below (word_in m) pages.page page b x a) ((at live rest h).front ++ (b, n) ∷ (at live rest h).back)
  was_words live rest h = subst (Each (λ x. (a : ℕ) → IsInside x a → word_in after a ≡ word_below (word_in m) pages.page page b x a)) (at live rest h).was (t.words live rest h)

  -- the words of the others stay
  others_words : (live : List Extent) (rest : List ℕ) (h : HasHeaders pages m live (page ∷ rest)) → KeepsWords after new ((at live rest h).front ++ (at live rest h).back) → Each (λ x. (a : ℕ) → IsInside x a → word_in new a ≡ word_below (word_in m) pages.page page (b + n) x a) ((at live rest h).front ++ (at live rest h).back)
  others_words live rest h kept =
      let x = at live rest h in
      let old = (Each-out (λ y. (a : ℕ) → IsInside y a → word_in after a ≡ word_below (word_in m) pages.page page b y a) x.front x.back (b, n) (was_words live rest h)).1 in
      words_away (word_in m) (word_in new) pages.page page b (b + n) (x.front ++ x.back) (omega arith) x.away
      (Each-both (λ y. (a : ℕ) → IsInside y a → word_in new a ≡ word_in after a) (λ y. (a : ℕ) → IsInside y a → word_in after a ≡ word_below (word_in m) pages.page page b y a) (λ y. (a : ℕ) → IsInside y a → word_in new a ≡ word_below (word_in m) pages.page page b y a) (λ y f g a i. f a i ∙ g a i) (x.front ++ x.back) kept old)

  pub swept_dead : dies (word_in m) pages.page page (b, n) ≡ true → GivesBack (word_in after) (word_in new) page b → SweptTo pages m new page (b + n)
  swept_dead dead g = record {
    fits = λ live rest h.
        let x = at live rest h in
        let f = first_fits live rest h in
        let kind = (waiting_pages (word_in after) pages.page pages.count pages.heads.items (page ∷ rest) f.lists).0.kind in
        subst (λ (xs : List Extent). HasBlocks pages new xs (page ∷ rest)) (sym (x.gone dead))
        (give_plain pages after new page b n 3 (word_in after (page + 2)) is (sym kind) refl (omega arith) (λ e. absurd (omega arith)) g s (x.front ++ x.back) (page ∷ rest) f);
    words = λ live rest h.
        let x = at live rest h in
        let f = first_fits live rest h in
        let is_page = (waiting_pages (word_in after) pages.page pages.count pages.heads.items (page ∷ rest) f.lists).0.is_page in
        subst (Each (λ y. (a : ℕ) → IsInside y a → word_in new a ≡ word_below (word_in m) pages.page page (b + n) y a)) (sym (x.gone dead))
        (others_words live rest h (given_keeps pages after new page b n 0 two is_page g (x.front ++ x.back) (page ∷ rest) f));
    later = λ e from upto. g.rest e (omega arith) (omega arith) (omega arith) (omega arith) ∙ t.later e (omega arith) upto;
    arenas = arenas_then m after new t.arenas s;
  }

  stored_other : (v : ℕ) → IsStored (word_in after) (word_in new) b v → (e : ℕ) → e ≢ b → word_in new e ≡ word_in after e
  stored_other v st e away = st e ∙ grind (arith, nat_tests)

  others_kept : (v : ℕ) → IsStored (word_in after) (word_in new) b v → (xs : List Extent) → Each (IsApart (b, n)) xs → KeepsWords after new xs
  others_kept v st xs apart = Each-map (IsApart (b, n)) (λ y. (a : ℕ) → IsInside y a → word_in new a ≡ word_in after a) (λ y p a i. stored_other v st a (elim p [ inl q ↦ (λ e. omega (arith, e, i.0)) | inr q ↦ (λ e. omega (arith, e, i.1)) ])) xs apart

  own_word : IsStored (word_in after) (word_in new) b (without_flag (word_in after b) Visited) → in_page pages.page page (b, n) ≡ true → ((a : ℕ) → IsInside (b, n) a → word_in after a ≡ word_below (word_in m) pages.page page b (b, n) a) → (a : ℕ) → IsInside (b, n) a → word_in new a ≡ word_below (word_in m) pages.page page (b + n) (b, n) a
  own_word st here old a i = elim (eqb_tells a b) [
    | inl e ↦ (let later : word_in after b ≡ word_in m b = t.later b (omega arith) (omega arith) in
        let now : word_in new b ≡ without_flag (word_in after b) Visited = st b ∙ grind (arith, nat_tests) in
        let target : word_below (word_in m) pages.page page (b + n) (b, n) b ≡ without_flag (word_in m b) Visited = own_here (word_in m) pages.page page b n (omega arith) here in
        subst (λ (k : ℕ). word_in new k ≡ word_below (word_in m) pages.page page (b + n) (b, n) k) (sym e.1) (now ∙ ap (λ (k : ℕ). without_flag k Visited) later ∙ sym target))
    | inr y ↦ stored_other (without_flag (word_in after b) Visited) st a y.1 ∙ old a i ∙ own_else (word_in m) pages.page page b b n a y.1 ∙ sym (own_else (word_in m) pages.page page (b + n) b n a y.1)
  ]

  pub swept_kept : dies (word_in m) pages.page page (b, n) ≡ false → in_page pages.page page (b, n) ≡ true → IsStored (word_in after) (word_in new) b (without_flag (word_in after b) Visited) → SweptTo pages m new page (b + n)
  swept_kept lives here st = record {
    fits = λ live rest h.
        let x = at live rest h in
        let xs = x.front ++ (b, n) ∷ x.back in
        let f : HasBlocks pages after xs (page ∷ rest) = subst (λ (ys : List Extent). HasBlocks pages after ys (page ∷ rest)) x.was (t.fits live rest h) in
        subst (λ (ys : List Extent). HasBlocks pages new ys (page ∷ rest)) (sym (x.kept lives))
        (HasBlocks_untouched pages after new xs (page ∷ rest) f s.next_arena s.arena_words (record {
          blocks = ap (λ (ys : List Extent). filter (begins_between 4294967296 after.next_arena) ys) s.extents;
          words = λ e from upto out. stored_other (without_flag (word_in after b) Visited) st e (λ same. elim (each_middle (λ y. (e < y.0) ⊎ (y.0 + y.1 ≤ e)) x.front x.back (b, n) out) [ inl p ↦ omega (arith, p, same) | inr q ↦ omega (arith, q, same) ]);
        }));
    words = λ live rest h.
        let x = at live rest h in
        let f = first_fits live rest h in
        let old = (Each-out (λ y. (a : ℕ) → IsInside y a → word_in after a ≡ word_below (word_in m) pages.page page b y a) x.front x.back (b, n) (was_words live rest h)).0 in
        subst (Each (λ y. (a : ℕ) → IsInside y a → word_in new a ≡ word_below (word_in m) pages.page page (b + n) y a)) (sym (x.kept lives))
        (Each-into (λ y. (a : ℕ) → IsInside y a → word_in new a ≡ word_below (word_in m) pages.page page (b + n) y a) x.front x.back (b, n) (own_word st here old)
        (others_words live rest h (others_kept (without_flag (word_in after b) Visited) st (x.front ++ x.back) f.blocks.apart.0)));
    later = λ e from upto. stored_other (without_flag (word_in after b) Visited) st e (omega arith) ∙ t.later e (omega arith) upto;
    arenas = arenas_then m after new t.arenas s;
  }

  -- what the code asks before it gives the block back
  pub put_at : CanSweepAt pages m page → CanPut after page b
  put_at c =
      let h = c.has in
      let x = at c.live c.rest h in
      let l : IsLive pages after (b, n) = record { others = x.front ++ x.back; waiting = page ∷ c.rest; fits = first_fits c.live c.rest h } in
      (give_facts pages after page b n l is).put

-- a step that writes nothing
swept_words : (pages : Pages) (m after new : Memory) (page place : ℕ) → ((e : ℕ) → word_in new e ≡ word_in after e) → IsInArenas after new → SweptTo pages m after page place → SweptTo pages m new page place
swept_words pages m after new page place same s t = record {
  fits = λ live rest h.
      let f = t.fits live rest h in
      HasBlocks_untouched pages after new (filter (stays (dies (word_in m) pages.page page) place) live) (page ∷ rest) f s.next_arena s.arena_words (record {
        blocks = ap (λ (ys : List Extent). filter (begins_between 4294967296 after.next_arena) ys) s.extents;
        words = λ e from upto out. same e;
      });
  words = λ live rest h. Each-map (λ x. (a : ℕ) → IsInside x a → word_in after a ≡ word_below (word_in m) pages.page page place x a) (λ x. (a : ℕ) → IsInside x a → word_in new a ≡ word_below (word_in m) pages.page page place x a) (λ x f a i. same a ∙ f a i) (filter (stays (dies (word_in m) pages.page page) place) live) (t.words live rest h);
  later = λ e low high. same e ∙ t.later e low high;
  arenas = arenas_then m after new t.arenas s;
}

and_swap : (p q r : Bool) → (p && r) ≡ false → ((p && q) && r) ≡ false
and_swap true true r e = e
and_swap true false r e = refl
and_swap false q r e = refl

and_same : (p q r : Bool) → (p && r) ≡ p → ((p && q) && r) ≡ (p && q)
and_same true true r e = e
and_same true false r e = refl
and_same false q r e = refl

-- one slot, whatever it is
module _ (pages : Pages) (m after : Memory) (page class : ℕ) (c : CanSweepAt pages m page) (is_class : class ≡ word_in m page) (i : ℕ) (inside : page + 8 + i * class + class ≤ word_in m (page + 3)) (t : SweptTo pages m after page (page + 8 + i * class)) where
  -- the place of the slot, and its word
  pub record SlotAt : Type 0 where
    pub two : 2 ≤ class
    pub high : page + 8 + i * class + class ≤ page + pages.page
    pub is : page ≡ page_at pages.page ((page + 8 + i * class - 4294967296) / pages.page)
    pub here : in_page pages.page page (page + 8 + i * class, class) ≡ true
    pub word : word_in after (page + 8 + i * class) ≡ word_in m (page + 8 + i * class)
    pub can : CanStore after (page + 8 + i * class)

  pub slot_at : SlotAt
  slot_at =
      let g = swept_page pages m page c in
      let w = sweep_page_is pages m page c in
      let b = page + 8 + i * class in
      let two : 2 ≤ word_in m page = g.slots.words in
      let fresh : word_in m (page + 3) ≤ page + pages.page = g.slots.fresh_high in
      let at : page ≡ page_at pages.page w.is_page.number = w.is_page.is in
      record {
        two = omega arith;
        high = omega arith;
        is = at ∙ ap (page_at pages.page) (sym (page_number pages.page w.is_page.number b g.wide (omega arith) (omega arith)));
        here = grind (arith, nat_tests);
        word = t.later b (omega arith) (omega arith);
        can = can_store_after m after b t.arenas (g.all b (omega arith) (omega arith));
      }

  dies_here : SlotAt → (v : Bool) → survives_sweep (word_in m (page + 8 + i * class)) ≡ v
      → dies (word_in m) pages.page page (page + 8 + i * class, class) ≡ not v
  dies_here s v e = ap (λ (x : Bool). x && not (survives_sweep (word_in m (page + 8 + i * class)))) s.here ∙ ap not e

  among_here : has_flag (word_in after (page + 8 + i * class)) Free ≡ false → (live : List Extent) (rest : List ℕ) → HasHeaders pages m live (page ∷ rest) → Among (page + 8 + i * class) class live
  among_here flag live rest h =
      let g = swept_page pages m page c in
      let s = slot_at in
      let two : 2 ≤ class = s.two in
      at_live pages m page class g.can is_class (λ z. g.used (sym is_class ∙ z)) i (omega arith) (ap (λ (k : ℕ). has_flag k Free) (sym s.word) ∙ flag) live (page ∷ rest) h

  pub can_sweep_slot : CanSweepSlot after page (page + 8 + i * class)
  can_sweep_slot =
      let s = slot_at in
      record { word = s.can; dead = λ flag dead. put_at pages m after after page (page + 8 + i * class) class s.two s.is (omega arith) s.high (among_here flag) t (arenas_same after) c }

  pub slot_swept : (new : Memory) → SweepsSlot (word_in after) (word_in new) page (page + 8 + i * class) → IsInArenas after new → SweptTo pages m new page (page + 8 + (i + 1) * class)
  slot_swept new step arenas =
      let g = swept_page pages m page c in
      let s = slot_at in
      let b = page + 8 + i * class in
      let two : 2 ≤ class = s.two in
      let next : b + class ≡ page + 8 + (i + 1) * class = (let e : (i + 1) * class ≡ i * class + class = grind arith in omega arith) in
      subst (λ (place : ℕ). SweptTo pages m new page place) next (elim (cases_Bool (has_flag (word_in after b) Free)) [
        | inl free ↦ swept_free pages m new page b (b + class) (omega arith)
            (λ live rest h. at_free pages m page class g.can is_class (λ z. g.used (sym is_class ∙ z)) i (omega arith) (ap (λ (k : ℕ). has_flag k Free) (sym s.word) ∙ free) live (page ∷ rest) h)
            (swept_words pages m after new page b (step.free free) arenas t)
        | inr live ↦ elim (cases_Bool (survives_sweep (word_in after b))) [
          | inl lives ↦ swept_kept pages m after new page b class two s.is (omega arith) s.high (among_here live) t arenas (dies_here s true (ap survives_sweep (sym s.word) ∙ lives)) s.here (step.kept live lives)
          | inr dead ↦ swept_dead pages m after new page b class two s.is (omega arith) s.high (among_here live) t arenas (dies_here s false (ap survives_sweep (sym s.word) ∙ dead)) (step.dead live dead)
        ]
      ])

filter_all : (t : Extent → Bool) (xs : List Extent) → Each (λ x. t x ≡ true) xs → filter t xs ≡ xs
filter_all t [] all = refl
filter_all t (x ∷ xs) all = filter_takes t x xs all.0 ∙ ap (λ (ys : List Extent). x ∷ ys) (filter_all t xs all.1)

-- before the first slot nothing is swept
pub swept_none : (pages : Pages) (m : Memory) (page class : ℕ) → CanSweepAt pages m page → class ≡ word_in m page → SweptTo pages m m page (page + 8 + 0 * class)
swept_none pages m page class c is_class =
    let g = swept_page pages m page c in
    let d = dies (word_in m) pages.page page in
    let place = page + 8 + 0 * class in
    let early : (live : List Extent) (rest : List ℕ) → HasHeaders pages m live (page ∷ rest) → Each (λ x. (in_page pages.page page x && nat_lt x.0 place) ≡ false) live = λ live rest h.
    Each-map (λ x. in_page pages.page page x ≡ true → (page + 8 ≤ x.0) × (x.0 < word_in m (page + 3))) (λ x. (in_page pages.page page x && nat_lt x.0 place) ≡ false) (λ x part. elim (in_page_cases pages.page page x) [
      | inl e ↦ (let low : page + 8 ≤ x.0 = (part e).0 in ap (λ (v : Bool). in_page pages.page page x && v) (let l : nat_lt x.0 place ≡ false = grind (arith, nat_tests) in l) ∙ and_false (in_page pages.page page x))
      | inr e ↦ ap (λ (v : Bool). v && nat_lt x.0 place) e
    ]) live (page_part pages m page class g.can is_class (λ z. g.used (sym is_class ∙ z)) live (page ∷ rest) h) in
    let all : (live : List Extent) (rest : List ℕ) → HasHeaders pages m live (page ∷ rest) → filter (stays d place) live ≡ live = λ live rest h. filter_all (stays d place) live (Each-map (λ x. (in_page pages.page page x && nat_lt x.0 place) ≡ false) (λ x. stays d place x ≡ true) (λ x e. ap not (and_swap (in_page pages.page page x) (not (survives_sweep (word_in m x.0))) (nat_lt x.0 place) e)) live (early live rest h)) in
    record {
      fits = λ live rest h. subst (λ (xs : List Extent). HasBlocks pages m xs (page ∷ rest)) (sym (all live rest h)) h.fits;
      words = λ live rest h. subst (Each (λ x. (a : ℕ) → IsInside x a → word_in m a ≡ word_below (word_in m) pages.page page place x a)) (sym (all live rest h))
          (Each-map (λ x. (in_page pages.page page x && nat_lt x.0 place) ≡ false) (λ x. (a : ℕ) → IsInside x a → word_in m a ≡ word_below (word_in m) pages.page page place x a) (λ x e a inside. sym (ap (λ (v : Bool). if v && (a == x.0) then without_flag (word_in m a) Visited else word_in m a) e)) live (early live rest h));
      later = λ e low high. refl;
      arenas = arenas_same m;
    }

-- behind the last slot all is swept
pub swept_all : (pages : Pages) (m after : Memory) (page place class : ℕ) → CanSweepAt pages m page → class ≡ word_in m page → place ≡ word_in m (page + 3) → SweptTo pages m after page place → SweepsBlocks pages m after page
swept_all pages m after page place class c is_class is_last t =
    let g = swept_page pages m page c in
    let w = word_in m in
    let d = dies w pages.page page in
    let late : (live : List Extent) (rest : List ℕ) → HasHeaders pages m live (page ∷ rest) → Each (λ x. (in_page pages.page page x && nat_lt x.0 place) ≡ in_page pages.page page x) live = λ live rest h.
    Each-map (λ x. in_page pages.page page x ≡ true → (page + 8 ≤ x.0) × (x.0 < w (page + 3))) (λ x. (in_page pages.page page x && nat_lt x.0 place) ≡ in_page pages.page page x) (λ x part. elim (in_page_cases pages.page page x) [
      | inl e ↦ (let up : x.0 < w (page + 3) = (part e).1 in ap (λ (v : Bool). in_page pages.page page x && v) (let l : nat_lt x.0 place ≡ true = grind (arith, nat_tests) in l) ∙ and_true (in_page pages.page page x))
      | inr e ↦ ap (λ (v : Bool). v && nat_lt x.0 place) e ∙ sym e
    ]) live (page_part pages m page class g.can is_class (λ z. g.used (sym is_class ∙ z)) live (page ∷ rest) h) in
    let all : (live : List Extent) (rest : List ℕ) → HasHeaders pages m live (page ∷ rest) → filter (stays d place) live ≡ kept_blocks w pages.page page live = λ live rest h. filter_same (stays d place) (λ x. not (d x)) live (Each-map (λ x. (in_page pages.page page x && nat_lt x.0 place) ≡ in_page pages.page page x) (λ x. stays d place x ≡ not (d x)) (λ x e. ap not (and_same (in_page pages.page page x) (not (survives_sweep (w x.0))) (nat_lt x.0 place) e)) live (late live rest h)) in
    record {
      fits = λ live rest h. subst (λ (xs : List Extent). HasBlocks pages after xs (page ∷ rest)) (all live rest h) (t.fits live rest h);
      words = λ live rest h. subst (Each (λ x. (a : ℕ) → IsInside x a → word_in after a ≡ swept_word w pages.page page x a)) (all live rest h)
          (Each-both (λ x. (in_page pages.page page x && nat_lt x.0 place) ≡ in_page pages.page page x) (λ x. (a : ℕ) → IsInside x a → word_in after a ≡ word_below w pages.page page place x a) (λ x. (a : ℕ) → IsInside x a → word_in after a ≡ swept_word w pages.page page x a) (λ x e f a inside. f a inside ∙ ap (λ (v : Bool). if v && (a == x.0) then without_flag (w a) Visited else w a) e)
          (filter (stays d place) live) (each_filter (λ x. (in_page pages.page page x && nat_lt x.0 place) ≡ in_page pages.page page x) (stays d place) live (late live rest h)) (t.words live rest h));
      arenas = t.arenas;
    }
