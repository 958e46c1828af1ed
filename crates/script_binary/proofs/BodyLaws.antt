-- What stands behind the tag of a record.
use Rattle.std.proofs.Common.{◌≡◌, ℕ, zero, suc, ◌<◌, ◌≤◌, ◌-◌, ◌^◌, Bool, true, List, [], ◌∷◌, ◌++◌, Option, Some, None, Ok, Err, refl, sym, ap, ◌∙◌, subst, inl, inr}
use Rattle.std.specs.Prelude.{All, nat_lt, nat_le, ◌&&◌, ◌==◌, slice_get}
use Rattle.std.specs.Io.KnownBytes.{Consumes}
use Rattle.std.proofs.KnownBytes.{Consumes-nil}
use Rattle.std.proofs.lemmas.Bool.{cases_Bool, and_parts, leb-true}
use Rattle.text_model.specs.declared.item.Item.{Item}
use Rattle.text_model.specs.declared.item.BadLine.{BadLine}
use Rattle.text_model.specs.declared.item.BadLine.TheVariants as bad
use Rattle.text_model.specs.Binary.{Fields, numbers_bytes}
use Rattle.text_model.specs.BinaryReading.{numbers_at, item_with, setup_counts, command_counts, count_of, body_at}
use Rattle.script_binary.specs.declared.end.BinEnd.{BinEnd}
use Rattle.script_binary.specs.Fields.{HasTag, body_bytes}
use Rattle.script_binary.specs.Reader.{end_of_bad}
use Rattle.script_binary.specs.Taking.{TakesWhole, IsRefused, Takes}
use Rattle.script_binary.proofs.ItemFields.{item_is}
use Rattle.script_binary.proofs.Parts.{Passes}

abbrev all_few : List ℕ → Bool
all_few [] = true
all_few (n ∷ ns) = nat_le n 5 && all_few ns

few_at : (ns : List ℕ) (i n : ℕ) → all_few ns ≡ true → slice_get ns i ≡ Some n → n ≤ 5
few_at [] i n few is = cc
few_at (m ∷ ns) zero n few is =
    let parts = and_parts (nat_le m 5) (all_few ns) few in
    let same : m ≡ n = cc in
    subst (λ k. k ≤ 5) same (leb-true m 5 parts.0)
few_at (m ∷ ns) (suc i) n few is = few_at ns i n (and_parts (nat_le m 5) (all_few ns) few).1 is

-- no record has more than five numbers
pub count_few : (tag n : ℕ) → count_of tag ≡ Some n → n ≤ 5
unfolding count_of
count_few tag n is =
    elim (cases_Bool (tag == 0)) [
      | inl none ↦ cc (rw none at is)
      | inr some ↦
          elim (cases_Bool (nat_lt tag 16)) [
            | inl setup ↦ few_at setup_counts (tag - 1) n refl (rw (some, setup) at is)
            | inr command ↦ few_at command_counts (tag - 16) n refl (rw (some, command) at is)
          ]
    ]

-- no item has the tag
pub refuses_tag : (tag : ℕ) (before : Option (List ℕ)) → count_of tag ≡ None → IsRefused (body_at tag) before before bad.Syntax
unfolding body_at
refuses_tag tag before none = record { part = []; taken = Consumes-nil before; refused = λ rest is. rw none refl }

-- where the numbers are refused, what stands behind the tag is
pub passes_body : (tag n : ℕ) → count_of tag ≡ Some n → Passes [] (numbers_at n) (body_at tag)
unfolding body_at
passes_body tag n counted = record { passes = λ rest reason refused. rw (counted, refused) refl }

body_says : (tag n : ℕ) (ns xs rest : List ℕ) (item : Item) → count_of tag ≡ Some n → numbers_at n xs ≡ Ok (ns, rest)
    → item_with tag ns ≡ Ok item → body_at tag xs ≡ Ok (item, rest)
unfolding body_at
body_says tag n ns xs rest item counted read says = rw (counted, read, says) refl

body_not : (tag n : ℕ) (ns xs rest : List ℕ) (reason : BadLine) → count_of tag ≡ Some n → numbers_at n xs ≡ Ok (ns, rest)
    → item_with tag ns ≡ Err reason → body_at tag xs ≡ Err reason
unfolding body_at
body_not tag n ns xs rest reason counted read says = rw (counted, read, says) refl

-- numbers that say an item were taken
pub takes_item : (tag n : ℕ) (ns : List ℕ) (item : Item) (before after : Option (List ℕ)) → count_of tag ≡ Some n
    → All (λ k. k < 2 ^ 64) ns → item_with tag ns ≡ Ok item → TakesWhole (numbers_at n) before after (numbers_bytes ns) ns
    → TakesWhole (body_at tag) before after (body_bytes item) item
takes_item tag n ns item before after counted words says h =
    let is = item_is tag ns item words says in
    let spelled : body_bytes item ≡ numbers_bytes ns = ap (λ (of : Fields). numbers_bytes of.numbers) is.spelled in
    record {
      taken = subst (Consumes before after) (sym spelled) h.taken;
      reads = λ rest. ap (λ l. body_at tag (l ++ rest)) spelled ∙ body_says tag n ns (numbers_bytes ns ++ rest) rest item counted (h.reads rest) says;
    }

pub has_tag : (tag : ℕ) (ns : List ℕ) (item : Item) → All (λ k. k < 2 ^ 64) ns → item_with tag ns ≡ Ok item → HasTag tag item
has_tag tag ns item words says =
    let is = item_is tag ns item words says in
    record { has_line = is.has_line; tag_is = ap (λ (of : Fields). of.tag) is.spelled }

takes_bad : (tag : ℕ) (before after : Option (List ℕ)) (reason : BadLine) → IsRefused (body_at tag) before after reason
    → Takes (body_at tag) body_bytes before after (Err (end_of_bad reason))
takes_bad tag before after bad.Syntax h = h
takes_bad tag before after bad.Range h = h

-- numbers that say no item were taken
pub takes_no_item : (tag n : ℕ) (ns : List ℕ) (reason : BadLine) (end : BinEnd) (before after : Option (List ℕ)) → count_of tag ≡ Some n
    → item_with tag ns ≡ Err reason → TakesWhole (numbers_at n) before after (numbers_bytes ns) ns → end ≡ end_of_bad reason
    → Takes (body_at tag) body_bytes before after (Err end)
takes_no_item tag n ns reason end before after counted says h is =
    rw is (takes_bad tag before after reason (record {
      part = numbers_bytes ns;
      taken = h.taken;
      refused = λ rest same. body_not tag n ns (numbers_bytes ns ++ rest) rest reason counted (h.reads rest) says;
    }))
