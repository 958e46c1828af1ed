-- What a `&` to `Words` shows: its two fields, and a `&` to each word that it holds.
use Rattle.std.proofs.Common.{◌≡◌, ℕ, zero, suc, ◌+◌, ◌*◌, ◌<◌, ◌^◌, Bool, true, false, List, [], ◌∷◌, length, get_or, refl}
use native.Mathlib.Nat.{not-suc-le-zero, le_of_suc-le-suc}
use seplogic.Ra.Ura.{Ura}
use base.Logic.{ent, sep, never}
use base.Fml.{Lft, flt, fhide}
use types.Logic.{Logic, sem}
use types.Kit.{‵, ◌⊛◌, ◌$◌, ◌∵◌, !, qed, by, move, keep, drop, use1, split, rewrite, fsplit, done}
use denote.Builtin.{u64, usize}
use denote.Memory.{hidden_shr}
use denote.RawPtr.{RawPtr, block_ptr, null_ptr}
use denote.Index.{place, place_is}
use denote.Struct.Lending.{lent_out}
use denote.Opens.{unhide}
use Rattle.heap_space.specs.Ownership.{slot_lent, slots_lent}
use Rattle.heap_space.specs.contracts.words.Words as C
use Rattle.heap_space.proofs.RunOpens.{Row, Data}
use mir.Syntax.{w64, ty_int, ty_ptr}
use mir.Val.{Val, vint, vptr}
use base.Fml.{Share, fat, flft}
use types.Kit.{Goal, Soaks, Step, step, Seq, Item, fjoin, feq_l, feq_i, flt_l, flt_i}
use denote.Memory.{cell_at, part_at}
use denote.Copied.{plain_Copied, uint_Copied}
use denote.RawPtr.{Ptr, coded_ptr, ptr_own, rawptr_pure, ptr_val}
use denote.Struct.Laws.{RawPtr-laws}
use denote.Opens.{Shut}
use denote.Steps.{looks, shuts}
use Rattle.std.proofs.Common.{sym, ap, ◌∙◌}

module _ {M : Type 1} {𝓤 : Ura M} (𝓛 : Logic 𝓤) (κ : Lft) where
  pub shown : (d : Row.Denot) (b o : ℕ)
      → ent 𝓤 (sem 𝓛 (hidden_shr Row κ d b o)) (sep 𝓤 (sem 𝓛 (hidden_shr RawPtr κ d.ptr b (o + 0))) (sep 𝓤 (sem 𝓛 (hidden_shr usize κ d.len b (o + 8)))
      (sep 𝓤 (sem 𝓛 (flt (d.len * 8) (2 ^ 63))) (sem 𝓛 (slots_lent u64 d.ptr d.items d.filled κ)))))
  shown d b o = qed 𝓛 (‵ (hidden_shr Row κ d b o) ∷ []) ∵
      use1 𝓛 (‵ (hidden_shr Data κ (d.ptr, (d.len, tt)) b o) ⊛ ‵ (fhide (C.the_lent d d.ptr κ))) (lent_out 𝓛 C.struct C.the_codes C.the_heap C.the_lent κ d b o) $ split ! $
      unhide ! $ fsplit ! $ fsplit ! $ move ! (1 ∷ []) $ fsplit ! $ keep ! (2 ∷ 0 ∷ 4 ∷ []) $ done !

  pub none_at_null : (xs : List ℕ) (fs : List Bool) (i : ℕ) → i < length xs → i < length fs → get_or fs i false ≡ true
      → ent 𝓤 (sem 𝓛 (slots_lent u64 null_ptr xs fs κ)) (never 𝓤)
  none_at_null [] fs i l m full = absurd (not-suc-le-zero l)
  none_at_null (x ∷ xs) [] i l m full = absurd (not-suc-le-zero m)
  none_at_null (x ∷ xs) (f ∷ fs) zero l m full = qed 𝓛 (‵ (slot_lent u64 f null_ptr x κ) ∷ ‵ (slots_lent u64 null_ptr xs fs κ) ∷ []) ∵
      rewrite ! 0 (λ (g : Bool). ‵ (slot_lent u64 g null_ptr x κ)) full refl $ fsplit ! $ keep ! (0 ∷ []) $ done !
  none_at_null (x ∷ xs) (f ∷ fs) (suc i) l m full = qed 𝓛 (‵ (slot_lent u64 f null_ptr x κ) ∷ ‵ (slots_lent u64 null_ptr xs fs κ) ∷ []) ∵
      drop ! $ by ! (none_at_null xs fs i (le_of_suc-le-suc l) (le_of_suc-le-suc m) full)

  one_lent : (b o : ℕ) (xs : List ℕ) (fs : List Bool) (i : ℕ) → i < length xs → i < length fs
      → get_or fs i false ≡ true
      → ent 𝓤 (sem 𝓛 (slots_lent u64 (block_ptr b o) xs fs κ)) (sem 𝓛 (hidden_shr u64 κ (get_or xs i 0) b (place 8 o i)))
  one_lent b o [] fs i l m full = absurd (not-suc-le-zero l)
  one_lent b o (x ∷ xs) [] i l m full = absurd (not-suc-le-zero m)
  one_lent b o (x ∷ xs) (f ∷ fs) zero l m full = qed 𝓛 (‵ (slot_lent u64 f (block_ptr b o) x κ) ∷ ‵ (slots_lent u64 (block_ptr b (o + 8)) xs fs κ) ∷ []) ∵
      rewrite ! 0 (λ (g : Bool). ‵ (slot_lent u64 g (block_ptr b o) x κ)) full refl $ fsplit ! $ keep ! (1 ∷ []) $
      done !
  one_lent b o (x ∷ xs) (f ∷ fs) (suc i) l m full = qed 𝓛 (‵ (slot_lent u64 f (block_ptr b o) x κ) ∷ ‵ (slots_lent u64 (block_ptr b (o + 8)) xs fs κ) ∷ []) ∵
      drop ! $ by ! (one_lent b (o + 8) xs fs i (le_of_suc-le-suc l) (le_of_suc-le-suc m) full)

  pub word_lent : (b o : ℕ) (xs : List ℕ) (fs : List Bool) (i : ℕ) → i < length xs → i < length fs
      → get_or fs i false ≡ true
      → ent 𝓤 (sem 𝓛 (slots_lent u64 (block_ptr b o) xs fs κ)) (sem 𝓛 (hidden_shr u64 κ (get_or xs i 0) b (i * 8 + o)))
  word_lent b o xs fs i l m full = qed 𝓛 (‵ (slots_lent u64 (block_ptr b o) xs fs κ) ∷ []) ∵
      use1 𝓛 (‵ (hidden_shr u64 κ (get_or xs i 0) b (place 8 o i))) (one_lent b o xs fs i l m full) $
      rewrite ! 0 (λ (k : ℕ). ‵ (hidden_shr u64 κ (get_or xs i 0) b k)) (place_is 8 o i) refl $ done !

module _ {M : Type 1} {𝓤 : Ura M} {𝓛 : Logic 𝓤} {K : Type 0} {Γ : List (Item 𝓤)} {G : Goal 𝓤 𝓛.H} where
  -- a `usize` behind a `&` is looked at: [the word; the way back]
  pub word_in : K → Soaks G → {κ : Lft} {q : Share} (n b at : ℕ)
      → ((q' : Share) → n < 2 ^ 64 → Seq K 𝓛 (‵ (fat q' (ty_int w64) b at (vint w64 n)) ∷ Shut 𝓛 κ q (part_at usize q' n b at) ∷ Γ) G) → Seq K 𝓛 (‵ (hidden_shr usize κ n b at) ∷ ‵ (flft κ q) ∷ Γ) G
  word_in t z n b at k =
      looks t z usize (uint_Copied 𝓛 w64).opens n b at (λ q' vs. move t (1 ∷ []) $ fsplit t $ feq_l t (λ e. flt_l t (λ fn.
      rewrite t 0 (λ (us : List Val). ‵ (cell_at q' usize.mir us b at)) e refl $ move t (2 ∷ []) $ drop t $ k q' fn)))

  pub word_out : K → Soaks G → {κ : Lft} {q q' : Share} (n b at : ℕ) → n < 2 ^ 64
      → Step K 𝓛 (‵ (flft κ q) ∷ Γ) G (‵ (fat q' (ty_int w64) b at (vint w64 n)) ∷ Shut 𝓛 κ q (part_at usize q' n b at) ∷ Γ) G
  word_out t z {q' = q'} n b at fn = step (λ s.
      flt_i t n (2 ^ 64) fn $ feq_i t (List Val) (vint w64 n ∷ []) (vint w64 n ∷ []) refl $ fjoin t $
      move t (1 ∷ 0 ∷ []) $ shuts t z usize q' n (vint w64 n ∷ []) b at $ s)

  -- the same of a pointer into a block
  pub pointer_in : K → Soaks G → {κ : Lft} {q : Share} (p : Ptr) (pb po : ℕ) → p ≡ block_ptr pb po → (b at : ℕ)
      → ((q' : Share) → Seq K 𝓛 (‵ (fat q' ty_ptr b at (vptr pb po)) ∷ Shut 𝓛 κ q (part_at RawPtr q' p b at) ∷ Γ) G)
      → Seq K 𝓛 (‵ (hidden_shr RawPtr κ p b at) ∷ ‵ (flft κ q) ∷ Γ) G
  pointer_in t z p pb po is b at k =
      looks t z RawPtr (plain_Copied 𝓛 Ptr coded_ptr (ty_ptr ∷ []) ptr_own rawptr_pure ptr_val RawPtr-laws.tells).opens p b at (λ q' vs. move t (1 ∷ []) $ feq_l t (λ e.
      rewrite t 0 (λ (us : List Val). ‵ (cell_at q' RawPtr.mir us b at)) (e ∙ ap (λ (r : Ptr). ptr_val r ∷ []) is) refl $ move t (2 ∷ []) $ drop t $ k q'))

  pub pointer_out : K → Soaks G → {κ : Lft} {q q' : Share} (p : Ptr) (pb po : ℕ) → p ≡ block_ptr pb po → (b at : ℕ)
      → Step K 𝓛 (‵ (flft κ q) ∷ Γ) G (‵ (fat q' ty_ptr b at (vptr pb po)) ∷ Shut 𝓛 κ q (part_at RawPtr q' p b at) ∷ Γ) G
  pointer_out t z {q' = q'} p pb po is b at = step (λ s.
      feq_i t (List Val) (vptr pb po ∷ []) (ptr_val p ∷ []) (ap (λ (r : Ptr). ptr_val r ∷ []) (sym is)) $
      move t (1 ∷ 0 ∷ []) $ shuts t z RawPtr q' p (vptr pb po ∷ []) b at $ s)
