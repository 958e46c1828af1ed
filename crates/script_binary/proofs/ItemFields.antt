-- What a tag and its numbers say has just that tag and those numbers.
use Rattle.std.proofs.Common.{◌≡◌, ℕ, ◌<◌, ◌^◌, Bool, true, false, List, [], ◌∷◌, Result, Ok, Err, refl, sym, ap, ◌∙◌, subst, inl, inr, arith}
use Rattle.std.specs.Prelude.{All, nat_lt, ◌||◌, ◌==◌, if◌then◌else◌}
use Rattle.std.proofs.lemmas.Bool.{cases_Bool, or_parts, eqb-true, ltb-false}
use Rattle.type_table.specs.declared.info.Shape.{Shape}
use Rattle.type_table.specs.declared.info.Shape.TheVariants.{Fixed, IntArray, RefArray, Weak}
use Rattle.type_table.specs.declared.info.TypeInfo.{TypeInfo}
use Rattle.text_model.specs.declared.command.Command.{Command}
use Rattle.text_model.specs.declared.command.Command.TheVariants.{NewFixed, NewArray, NewWeak, Put, Get, Link, Load, CopyRefs, MoveRoot, DropRoot, Same, Ident, Hash, Place, Pin, Unpin, Deref, Register, NextFinal, MakeLink, Inc, Dec, Count, FromObj, ToObj, NextDead, Minor, Step, Collect, Used}
use Rattle.text_model.specs.declared.item.Item.{Item}
use Rattle.text_model.specs.declared.item.Item.TheVariants.{Setting, TypeDef, Command as CommandItem}
use Rattle.text_model.specs.declared.item.BadLine.{BadLine}
use Rattle.text_model.specs.declared.item.BadLine.TheVariants as bad
use Rattle.text_model.specs.Range.{is_above, is_above_ids}
use Rattle.text_model.specs.Numbers.{◌>>=◌}
use Rattle.text_model.specs.CommandGrammar.{in_range}
use Rattle.text_model.specs.Grammar.{is_above_shape, type_in_range, as_item}
use Rattle.text_model.specs.ItemLine.{StoresWord, HasLine}
use Rattle.text_model.specs.Binary.{Fields, fields, bit, command_fields, type_fields, item_fields}
use Rattle.text_model.specs.BinaryReading.{truth, none_of, one_of, two_of, three_of, four_of, five_of, bare, of_one, of_two, of_three, copy_of, link_of, structure_with, slot_with, command_with, setting_by, fixed_by, array_by, weak_by, item_with}
use Rattle.script_binary.specs.Fields.{AreWords}

-- Where two readings, one after the other, gave something, P follows if it follows from what each gave.
both_gave : {A B : Type 0} (P : Type 0) (r : Result A BadLine) (f : A → Result B BadLine) (b : B) → (r >>= f) ≡ Ok b
    → ((a : A) → r ≡ Ok a → f a ≡ Ok b → P) → P
both_gave P (Ok a) f b h next = next a refl h
both_gave P (Err e) f b h next = cc

-- the tag is this one, or what stands behind the test read it
by_tag : {A : Type 0} (P : ℕ → Type 0) (tag k : ℕ) (taken passed : Result A BadLine) (a : A)
    → (if tag == k then taken else passed) ≡ Ok a → (taken ≡ Ok a → P k) → (passed ≡ Ok a → P tag) → P tag
by_tag P tag k taken passed a h here rest =
    elim (cases_Bool (tag == k)) [
      | inl e ↦ subst P (sym (eqb-true tag k e)) (here (rw e at h))
      | inr e ↦ rest (rw e at h)
    ]

-- a test found no number above the greatest of its place
ok_unless : {A : Type 0} (above : Bool) (a b : A) (reason : BadLine) → (if above then Err reason else Ok a) ≡ Ok b → (above ≡ false) × (a ≡ b)
ok_unless true a b reason h = cc
ok_unless false a b reason h = (refl, cc)

truth_one : (n : ℕ) (b : Bool) → (if n == 1 then Ok true else Err bad.Syntax) ≡ Ok b → n ≡ bit b
truth_one n b h =
    elim (cases_Bool (n == 1)) [
      | inl e ↦ let made : true ≡ b = cc (rw e at h) in eqb-true n 1 e ∙ ap bit made
      | inr e ↦ cc (rw e at h)
    ]

truth_is : (n : ℕ) (b : Bool) → truth n ≡ Ok b → n ≡ bit b
truth_is n b h =
    elim (cases_Bool (n == 0)) [
      | inl e ↦ let made : false ≡ b = cc (rw e at h) in eqb-true n 0 e ∙ ap bit made
      | inr e ↦ truth_one n b (rw e at h)
    ]

none_is : (ns : List ℕ) (end : Unit {0}) → none_of ns ≡ Ok end → ns ≡ []
none_is [] end h = refl
none_is (a ∷ ns) end h = cc

one_is : (ns : List ℕ) (n : ℕ) → one_of ns ≡ Ok n → ns ≡ n ∷ []
one_is [] n h = cc
one_is (a ∷ []) n h = let same : a ≡ n = cc in ap (λ x. x ∷ []) same
one_is (a ∷ b ∷ ns) n h = cc

two_is : (ns : List ℕ) (n : ℕ × ℕ) → two_of ns ≡ Ok n → ns ≡ n.0 ∷ n.1 ∷ []
two_is [] n h = cc
two_is (a ∷ []) n h = cc
two_is (a ∷ b ∷ []) n h = let same : (a, b) ≡ n = cc in ap (λ (x : ℕ × ℕ). x.0 ∷ x.1 ∷ []) same
two_is (a ∷ b ∷ c ∷ ns) n h = cc

three_is : (ns : List ℕ) (n : ℕ × ℕ × ℕ) → three_of ns ≡ Ok n → ns ≡ n.0 ∷ n.1 ∷ n.2 ∷ []
three_is [] n h = cc
three_is (a ∷ []) n h = cc
three_is (a ∷ b ∷ []) n h = cc
three_is (a ∷ b ∷ c ∷ []) n h = let same : (a, b, c) ≡ n = cc in ap (λ (x : ℕ × ℕ × ℕ). x.0 ∷ x.1 ∷ x.2 ∷ []) same
three_is (a ∷ b ∷ c ∷ d ∷ ns) n h = cc

four_is : (ns : List ℕ) (n : ℕ × ℕ × ℕ × ℕ) → four_of ns ≡ Ok n → ns ≡ n.0 ∷ n.1 ∷ n.2 ∷ n.3 ∷ []
four_is [] n h = cc
four_is (a ∷ []) n h = cc
four_is (a ∷ b ∷ []) n h = cc
four_is (a ∷ b ∷ c ∷ []) n h = cc
four_is (a ∷ b ∷ c ∷ d ∷ []) n h = let same : (a, b, c, d) ≡ n = cc in ap (λ (x : ℕ × ℕ × ℕ × ℕ). x.0 ∷ x.1 ∷ x.2 ∷ x.3 ∷ []) same
four_is (a ∷ b ∷ c ∷ d ∷ e ∷ ns) n h = cc

five_is : (ns : List ℕ) (n : ℕ × ℕ × ℕ × ℕ × ℕ) → five_of ns ≡ Ok n → ns ≡ n.0 ∷ n.1 ∷ n.2 ∷ n.3 ∷ n.4 ∷ []
five_is [] n h = cc
five_is (a ∷ []) n h = cc
five_is (a ∷ b ∷ []) n h = cc
five_is (a ∷ b ∷ c ∷ []) n h = cc
five_is (a ∷ b ∷ c ∷ d ∷ []) n h = cc
five_is (a ∷ b ∷ c ∷ d ∷ e ∷ []) n h =
    let same : (a, b, c, d, e) ≡ n = cc in ap (λ (x : ℕ × ℕ × ℕ × ℕ × ℕ). x.0 ∷ x.1 ∷ x.2 ∷ x.3 ∷ x.4 ∷ []) same
five_is (a ∷ b ∷ c ∷ d ∷ e ∷ f ∷ ns) n h = cc

-- the tag and the numbers are those of the command, and none is above the greatest of its place
record IsSpelled (ns : List ℕ) (c : Command) (tag : ℕ) : Type 0 where
  spelled : command_fields c ≡ fields tag ns
  below : is_above c ≡ false

in_range_is : (tag : ℕ) (ns : List ℕ) (c made : Command) → in_range made ≡ Ok c → command_fields made ≡ fields tag ns → IsSpelled ns c tag
in_range_is tag ns c made h is =
    let read = ok_unless (is_above made) made c bad.Range h in
    subst (λ d. IsSpelled ns d tag) read.1 (record { spelled = is; below = read.0 })

bare_is : (tag : ℕ) (made : Command) (ns : List ℕ) (c : Command) → command_fields made ≡ fields tag [] → bare made ns ≡ Ok c → IsSpelled ns c tag
bare_is tag made ns c spell h =
    both_gave _ (none_of ns) _ c h (λ end got more.
    in_range_is tag ns c made more (spell ∙ ap (fields tag) (sym (none_is ns end got))))

one_slot_is : (tag : ℕ) (f : ℕ → Command) (ns : List ℕ) (c : Command) → ((a : ℕ) → command_fields (f a) ≡ fields tag (a ∷ []))
    → of_one f ns ≡ Ok c → IsSpelled ns c tag
one_slot_is tag f ns c spell h =
    both_gave _ (one_of ns) _ c h (λ a got more.
    in_range_is tag ns c (f a) more (spell a ∙ ap (fields tag) (sym (one_is ns a got))))

two_slots_is : (tag : ℕ) (f : ℕ → ℕ → Command) (ns : List ℕ) (c : Command) → ((a b : ℕ) → command_fields (f a b) ≡ fields tag (a ∷ b ∷ []))
    → of_two f ns ≡ Ok c → IsSpelled ns c tag
two_slots_is tag f ns c spell h =
    both_gave _ (two_of ns) _ c h (λ n got more.
    in_range_is tag ns c (f n.0 n.1) more (spell n.0 n.1 ∙ ap (fields tag) (sym (two_is ns n got))))

three_slots_is : (tag : ℕ) (f : ℕ → ℕ → ℕ → Command) (ns : List ℕ) (c : Command)
    → ((a b d : ℕ) → command_fields (f a b d) ≡ fields tag (a ∷ b ∷ d ∷ [])) → of_three f ns ≡ Ok c → IsSpelled ns c tag
three_slots_is tag f ns c spell h =
    both_gave _ (three_of ns) _ c h (λ n got more.
    in_range_is tag ns c (f n.0 n.1 n.2) more (spell n.0 n.1 n.2 ∙ ap (fields tag) (sym (three_is ns n got))))

copy_is : (ns : List ℕ) (c : Command) → copy_of ns ≡ Ok c → IsSpelled ns c 23
unfolding copy_of command_fields
copy_is ns c h =
    both_gave _ (five_of ns) _ c h (λ n got more.
    in_range_is 23 ns c (CopyRefs n.0 n.1 n.2 n.3 n.4) more (ap (fields 23) (sym (five_is ns n got))))

link_is : (ns : List ℕ) (c : Command) → link_of ns ≡ Ok c → IsSpelled ns c 35
unfolding link_of command_fields
link_is ns c h =
    both_gave _ (five_of ns) _ c h (λ n got more.
    both_gave _ (truth n.0) _ c more (λ p is_p more.
    both_gave _ (truth n.3) _ c more (λ light is_light more.
    in_range_is 35 ns c (MakeLink p n.1 n.2 light n.4) more
    (ap (λ m. fields 35 (m ∷ n.1 ∷ n.2 ∷ bit light ∷ n.4 ∷ [])) (sym (truth_is n.0 p is_p))
    ∙ ap (λ m. fields 35 (n.0 ∷ n.1 ∷ n.2 ∷ m ∷ n.4 ∷ [])) (sym (truth_is n.3 light is_light))
    ∙ ap (fields 35) (sym (five_is ns n got))))))

structure_is : (tag : ℕ) (ns : List ℕ) (c : Command) → structure_with tag ns ≡ Ok c → IsSpelled ns c tag
unfolding structure_with command_fields
structure_is tag ns c h =
    let P : ℕ → Type 0 = IsSpelled ns c in
    by_tag P tag 35 _ _ c h (link_is ns c) (λ h.
    by_tag P tag 36 _ _ c h (one_slot_is 36 Inc ns c (λ a. refl)) (λ h.
    by_tag P tag 37 _ _ c h (one_slot_is 37 Dec ns c (λ a. refl)) (λ h.
    by_tag P tag 38 _ _ c h (one_slot_is 38 Count ns c (λ a. refl)) (λ h.
    by_tag P tag 39 _ _ c h (one_slot_is 39 FromObj ns c (λ a. refl)) (λ h.
    by_tag P tag 40 _ _ c h (two_slots_is 40 ToObj ns c (λ a b. refl)) (λ h.
    by_tag P tag 41 _ _ c h (bare_is 41 NextDead ns c refl) (λ h.
    by_tag P tag 42 _ _ c h (bare_is 42 Minor ns c refl) (λ h.
    by_tag P tag 43 _ _ c h (bare_is 43 Step ns c refl) (λ h.
    by_tag P tag 44 _ _ c h (bare_is 44 Collect ns c refl) (λ h.
    by_tag P tag 45 _ _ c h (bare_is 45 Used ns c refl) (λ h. cc)))))))))))

slot_is : (tag : ℕ) (ns : List ℕ) (c : Command) → slot_with tag ns ≡ Ok c → IsSpelled ns c tag
unfolding slot_with command_fields
slot_is tag ns c h =
    let P : ℕ → Type 0 = IsSpelled ns c in
    by_tag P tag 24 _ _ c h (two_slots_is 24 MoveRoot ns c (λ a b. refl)) (λ h.
    by_tag P tag 25 _ _ c h (one_slot_is 25 DropRoot ns c (λ a. refl)) (λ h.
    by_tag P tag 26 _ _ c h (two_slots_is 26 Same ns c (λ a b. refl)) (λ h.
    by_tag P tag 27 _ _ c h (one_slot_is 27 Ident ns c (λ a. refl)) (λ h.
    by_tag P tag 28 _ _ c h (one_slot_is 28 Hash ns c (λ a. refl)) (λ h.
    by_tag P tag 29 _ _ c h (one_slot_is 29 Place ns c (λ a. refl)) (λ h.
    by_tag P tag 30 _ _ c h (one_slot_is 30 Pin ns c (λ a. refl)) (λ h.
    by_tag P tag 31 _ _ c h (one_slot_is 31 Unpin ns c (λ a. refl)) (λ h.
    by_tag P tag 32 _ _ c h (two_slots_is 32 Deref ns c (λ a b. refl)) (λ h.
    by_tag P tag 33 _ _ c h (two_slots_is 33 Register ns c (λ a b. refl)) (λ h.
    by_tag P tag 34 _ _ c h (two_slots_is 34 NextFinal ns c (λ a b. refl)) (structure_is tag ns c)))))))))))

command_is : (tag : ℕ) (ns : List ℕ) (c : Command) → command_with tag ns ≡ Ok c → IsSpelled ns c tag
unfolding command_with command_fields
command_is tag ns c h =
    let P : ℕ → Type 0 = IsSpelled ns c in
    by_tag P tag 16 _ _ c h (two_slots_is 16 NewFixed ns c (λ a b. refl)) (λ h.
    by_tag P tag 17 _ _ c h (three_slots_is 17 NewArray ns c (λ a b d. refl)) (λ h.
    by_tag P tag 18 _ _ c h (three_slots_is 18 NewWeak ns c (λ a b d. refl)) (λ h.
    by_tag P tag 19 _ _ c h (three_slots_is 19 Put ns c (λ a b d. refl)) (λ h.
    by_tag P tag 20 _ _ c h (two_slots_is 20 Get ns c (λ a b. refl)) (λ h.
    by_tag P tag 21 _ _ c h (three_slots_is 21 Link ns c (λ a b d. refl)) (λ h.
    by_tag P tag 22 _ _ c h (three_slots_is 22 Load ns c (λ a b d. refl)) (λ h.
    by_tag P tag 23 _ _ c h (copy_is ns c) (slot_is tag ns c))))))))

stores_word : (c : Command) → AreWords (command_fields c) → StoresWord c
unfolding command_fields
stores_word (Put root item value) words = words 2 0 (omega arith)
stores_word command words = tt

-- the tag and the numbers are those of the item, which has a line
pub record IsItem (ns : List ℕ) (item : Item) (tag : ℕ) : Type 0 where
  pub spelled : item_fields item ≡ fields tag ns
  pub has_line : HasLine item

type_is : (tag id : ℕ) (ns : List ℕ) (info : TypeInfo) (item : Item) → type_in_range id info ≡ Ok item
    → type_fields id info.shape info.destructor ≡ fields tag ns → (info.shape ≡ Weak → info.destructor ≡ false) → IsItem ns item tag
type_is tag id ns info item h spell weak =
    let read = ok_unless (is_above_ids id || is_above_shape info.shape) (TypeDef id info) item bad.Range h in
    let below = or_parts (is_above_ids id) (is_above_shape info.shape) read.0 in
    subst (λ i. IsItem ns i tag) read.1 (record {
      spelled = spell;
      has_line = record { id_below = below.0; shape_below = below.1; weak = weak };
    })

setting_is : (ns : List ℕ) (item : Item) → All (λ n. n < 2 ^ 64) ns → setting_by ns ≡ Ok item → IsItem ns item 1
unfolding setting_by
setting_is ns item words h =
    both_gave _ (two_of ns) _ item h (λ n got more.
    let is = two_is ns n got in
    let read = ok_unless (nat_lt 12 n.0) (Setting n.0 n.1) item bad.Syntax more in
    let small : All (λ k. k < 2 ^ 64) (n.0 ∷ n.1 ∷ []) = subst (All (λ k. k < 2 ^ 64)) is words in
    subst (λ i. IsItem ns i 1) read.1 (record {
      spelled = ap (fields 1) (sym is);
      has_line = (ltb-false 12 n.0 read.0, small 1 0 (omega arith));
    }))

fixed_is : (ns : List ℕ) (item : Item) → fixed_by ns ≡ Ok item → IsItem ns item 2
fixed_is ns item h =
    both_gave _ (four_of ns) _ item h (λ n got more.
    both_gave _ (truth n.3) _ item more (λ destructor is_destructor more.
    type_is 2 n.0 ns (record { shape = Fixed n.1 n.2; destructor = destructor }) item more
    (ap (λ m. fields 2 (n.0 ∷ n.1 ∷ n.2 ∷ m ∷ [])) (sym (truth_is n.3 destructor is_destructor)) ∙ ap (fields 2) (sym (four_is ns n got)))
    (λ e. cc)))

array_is : (tag : ℕ) (shape : Shape) (ns : List ℕ) (item : Item)
    → ((id : ℕ) (destructor : Bool) → type_fields id shape destructor ≡ fields tag (id ∷ bit destructor ∷ []))
    → (shape ≡ Weak → ⊥) → array_by shape ns ≡ Ok item → IsItem ns item tag
array_is tag shape ns item spell other h =
    both_gave _ (two_of ns) _ item h (λ n got more.
    both_gave _ (truth n.1) _ item more (λ destructor is_destructor more.
    type_is tag n.0 ns (record { shape = shape; destructor = destructor }) item more
    (spell n.0 destructor
    ∙ ap (λ m. fields tag (n.0 ∷ m ∷ [])) (sym (truth_is n.1 destructor is_destructor))
    ∙ ap (fields tag) (sym (two_is ns n got)))
    (λ e. absurd (other e))))

weak_is : (ns : List ℕ) (item : Item) → weak_by ns ≡ Ok item → IsItem ns item 5
weak_is ns item h =
    both_gave _ (one_of ns) _ item h (λ id got more.
    type_is 5 id ns (record { shape = Weak; destructor = false }) item more (ap (fields 5) (sym (one_is ns id got))) (λ e. refl))

command_item_is : (tag : ℕ) (ns : List ℕ) (item : Item) → All (λ n. n < 2 ^ 64) ns → (command_with tag ns >>= as_item) ≡ Ok item
    → IsItem ns item tag
command_item_is tag ns item words h =
    both_gave _ (command_with tag ns) as_item item h (λ c read same.
    let is = command_is tag ns c read in
    let made : CommandItem c ≡ item = cc in
    let P : Fields → Type 0 = AreWords in
    subst (λ i. IsItem ns i tag) made (record {
      spelled = is.spelled;
      has_line = record { below = is.below; stored = stores_word c (subst P (sym is.spelled) words) };
    }))

pub item_is : (tag : ℕ) (ns : List ℕ) (item : Item) → All (λ n. n < 2 ^ 64) ns → item_with tag ns ≡ Ok item → IsItem ns item tag
unfolding item_with
item_is tag ns item words h =
    let P : ℕ → Type 0 = IsItem ns item in
    by_tag P tag 1 _ _ item h (setting_is ns item words) (λ h.
    by_tag P tag 2 _ _ item h (fixed_is ns item) (λ h.
    by_tag P tag 3 _ _ item h (array_is 3 IntArray ns item (λ id d. refl) (λ e. cc)) (λ h.
    by_tag P tag 4 _ _ item h (array_is 4 RefArray ns item (λ id d. refl) (λ e. cc)) (λ h.
    by_tag P tag 5 _ _ item h (weak_is ns item) (command_item_is tag ns item words)))))
