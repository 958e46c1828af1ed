-- The chosen objects enter their queues, one after the other.
use Rattle.std.proofs.Common.{◌≡◌, ℕ, ◌+◌, ◌<◌, List, [], ◌∷◌, ◌++◌, length, set, get_or, take, reverse, refl, sym, ap, ◌∙◌, subst, arith, append_assoc}
use Rattle.std.proofs.lemmas.List.{get_or_default, append-nil, map-append, reverse-append, reverse-reverse}
use Rattle.finalizer_order.specs.declared.entry.Entry.{Entry}
use Rattle.finalizer_order.specs.Finalizers.{places_of, placed}
use Rattle.finalizer_order.specs.Queues.{AreInRange, push_all, joined}
use Rattle.finalizer_order.specs.Listed.{times_of, BeginsWith}
use Rattle.finalizer_order.proofs.QueueLaws.{length-queues, length-push_all, push_all-last, times-set}
use Rattle.finalizer_order.proofs.Listing.{times-append, times-last, times-cons, range-append, range-front, range-back}
use Rattle.finalizer_order.proofs.Lists.{take-one}

pub record QueuesSome (qs : List (List Entry)) (es : List Entry) (told : List (ℕ × ℕ)) (now : List (List Entry)) (left : List Entry) (tells : List (ℕ × ℕ)) : Type 0 where
  pub gone : List Entry
  pub rest : List Entry
  pub split : es ≡ gone ++ rest
  pub left_are : left ≡ reverse rest
  pub queued : now ≡ push_all qs gone
  pub listed : tells ≡ told ++ placed gone

times-reverse : (birth : ℕ) (es : List Entry) → times_of birth (reverse es) ≡ times_of birth es
times-reverse birth [] = refl
times-reverse birth (e ∷ es) =
    let r = ap (times_of birth) (reverse-append (e ∷ []) es) in
    let a = times-append birth (reverse es) (e ∷ []) in
    let c = times-cons birth e es in let d = times-cons birth e [] in
    let more = times-reverse birth es in omega (arith, r, a, c, d, more)

range-reverse : (n : ℕ) (es : List Entry) → AreInRange n es → AreInRange n (reverse es)
range-reverse n [] r = tt
range-reverse n (e ∷ es) r = subst (AreInRange n) (sym (reverse-append (e ∷ []) es)) (range-append n (reverse es) (e ∷ []) (range-reverse n es r.1) (r.0, tt))

times-pushed : (birth : ℕ) (qs : List (List Entry)) (es : List Entry) → AreInRange (length qs) es → times_of birth (joined (push_all qs es)) ≡ times_of birth (joined qs) + times_of birth es
times-pushed birth qs [] r = omega arith
times-pushed birth qs (e ∷ es) r =
    let now : List (List Entry) = set qs e.queue (get_or qs e.queue [] ++ e ∷ []) in
    let more = times-pushed birth now es (subst (λ (n : ℕ). AreInRange n es) (sym (length-queues qs e.queue (get_or qs e.queue [] ++ e ∷ []))) r.1) in
    let s = times-set birth qs e.queue (get_or qs e.queue [] ++ e ∷ []) r.0 in
    let l = times-last birth (get_or qs e.queue []) e in
    let c = times-cons birth e es in omega (arith, more, s, l, c)

module _ {qs : List (List Entry)} {es : List Entry} {told : List (ℕ × ℕ)} (in_range : AreInRange (length qs) es) where
  pub queues_begin : QueuesSome qs es told qs (reverse es) told
  queues_begin = record { gone = []; rest = es; split = refl; left_are = refl; queued = refl; listed = sym (append-nil told) }

  module _ {now : List (List Entry)} {left : List Entry} {tells : List (ℕ × ℕ)} (s : QueuesSome qs es told now left tells) where
    gone-in : AreInRange (length qs) s.gone
    gone-in = range-front (length qs) s.gone s.rest (subst (AreInRange (length qs)) s.split in_range)

    rest-in : AreInRange (length qs) s.rest
    rest-in = range-back (length qs) s.gone s.rest (subst (AreInRange (length qs)) s.split in_range)

    pub many_queues : length now ≡ length qs
    many_queues = ap (length {A = List Entry}) s.queued ∙ length-push_all qs s.gone

    pub left_in : AreInRange (length qs) left
    left_in = subst (AreInRange (length qs)) (sym s.left_are) (range-reverse (length qs) s.rest rest-in)

    pub times_left : (birth : ℕ) → times_of birth left + times_of birth (joined now) ≡ times_of birth es + times_of birth (joined qs)
    times_left birth =
        let a = ap (times_of birth) s.left_are in let b = times-reverse birth s.rest in
        let c = ap (λ (k : List (List Entry)). times_of birth (joined k)) s.queued in let d = times-pushed birth qs s.gone gone-in in
        let e = ap (times_of birth) s.split in let f = times-append birth s.gone s.rest in omega (arith, a, b, c, d, e, f)

    pub tells_on : BeginsWith told tells
    tells_on = (placed s.gone, s.listed)

    -- nothing is left
    pub queues_end : left ≡ [] → (now ≡ push_all qs es) × (tells ≡ told ++ placed es)
    queues_end none =
        let no_rest : s.rest ≡ [] = sym (reverse-reverse s.rest) ∙ ap reverse (sym s.left_are ∙ none) in
        let all : es ≡ s.gone = s.split ∙ ap (λ (xs : List Entry). s.gone ++ xs) no_rest ∙ append-nil s.gone in
        (s.queued ∙ ap (push_all qs) (sym all), s.listed ∙ ap (λ (xs : List Entry). told ++ placed xs) (sym all))

    module _ (less : List Entry) (x : Entry) (popped : left ≡ less ++ x ∷ []) where
      rest-is : s.rest ≡ x ∷ reverse less
      rest-is = sym (reverse-reverse s.rest) ∙ ap reverse (sym s.left_are ∙ popped) ∙ reverse-append less (x ∷ [])

      pub next_in : x.queue < length now
      next_in = subst (λ (n : ℕ). x.queue < n) (sym many_queues) (subst (AreInRange (length qs)) rest-is rest-in).0

      -- one more is queued, and told
      pub queues_next : (after : List (List Entry)) (more : List (ℕ × ℕ)) → after ≡ set now x.queue (get_or now x.queue [] ++ x ∷ []) → more ≡ tells ++ (x.place, x.queue) ∷ [] → QueuesSome qs es told after less more
      queues_next after more pushed listed = record {
        gone = s.gone ++ x ∷ [];
        rest = reverse less;
        split = s.split ∙ ap (λ (xs : List Entry). s.gone ++ xs) rest-is ∙ sym (append_assoc s.gone (x ∷ []) (reverse less));
        left_are = sym (reverse-reverse less);
        queued = pushed ∙ ap (λ (k : List (List Entry)). set k x.queue (get_or k x.queue [] ++ x ∷ [])) s.queued ∙ sym (push_all-last qs s.gone x);
        listed = listed ∙ ap (λ (k : List (ℕ × ℕ)). k ++ (x.place, x.queue) ∷ []) s.listed ∙ append_assoc told (placed s.gone) ((x.place, x.queue) ∷ [])
            ∙ ap (λ (k : List (ℕ × ℕ)). told ++ k) (sym (map-append (λ (e : Entry). (e.place, e.queue)) s.gone (x ∷ [])));
      }

      -- the same, from what the calls say
      pub queues_pushed : (l more : List Entry) → l ≡ get_or now x.queue l → more ≡ l ++ x ∷ [] → QueuesSome qs es told (set now x.queue more) less (tells ++ (x.place, x.queue) ∷ [])
      queues_pushed l more is pushed = queues_next (set now x.queue more) (tells ++ (x.place, x.queue) ∷ [])
          (ap (set now x.queue) (pushed ∙ ap (λ (k : List Entry). k ++ x ∷ []) (is ∙ get_or_default now x.queue l [] next_in))) refl

-- the places in the queues

pub joined-take : (qs : List (List Entry)) (i : ℕ) → i < length qs → places_of (joined (take (i + 1) qs)) ≡ places_of (joined (take i qs)) ++ places_of (get_or qs i [])
joined-take qs i l =
    ap (λ (k : List (List Entry)). places_of (joined k)) (take-one qs i [] l)
    ∙ ap places_of (joined-append (take i qs) (get_or qs i []))
    ∙ map-append (λ (e : Entry). e.place) (joined (take i qs)) (get_or qs i [])
  where
    joined-append : (ks : List (List Entry)) (k : List Entry) → joined (ks ++ k ∷ []) ≡ joined ks ++ k
    joined-append [] k = append-nil k
    joined-append (j ∷ ks) k = ap (λ (xs : List Entry). j ++ xs) (joined-append ks k) ∙ sym (append_assoc j (joined ks) k)
