-- Every store that a command leaves is in form: births rise, husks are there only while they are swept, no queue is empty.
use Rattle.std.proofs.Common.{◌≡◌, ◌≢◌, ℕ, ◌+◌, ◌≤◌, Bool, true, false, List, [], ◌∷◌, ◌++◌, map, filter, length, cond, Option, Some, None, refl, sym, ap, ap₂, ◌∙◌, subst, arith}
use Rattle.std.specs.Prelude.{not, ◌==◌, nat_le, unwrap_or}
use Rattle.std.proofs.lemmas.List.{map-append, length-set, length-replicate}
use Rattle.type_table.specs.declared.info.TypeInfo.{TypeInfo}
use Rattle.type_table.specs.Table.{Table, value_at, with_value}
use Rattle.type_table.proofs.TableLaws.{value_at-with_value, value_at-without_key}
use Rattle.text_model.specs.declared.command.Command.{Command}
use Rattle.text_model.specs.declared.command.Command.TheVariants.{NewFixed, NewArray, NewWeak, Put, Get, Link, Load, CopyRefs, MoveRoot, DropRoot, Same, Ident, Hash, Place, Pin, Unpin, Deref, Register, NextFinal, MakeLink, Inc, Dec, Count, FromObj, ToObj, NextDead, Minor, Step, Collect, Used}
use Rattle.text_model.specs.declared.item.Item.{Item}
use Rattle.text_model.specs.declared.item.Item.TheVariants.{Blank, Setting, TypeDef, Command as CommandItem}
use Rattle.text_model.specs.declared.line.Line.{Line}
use Rattle.text_model.specs.declared.line.Line.TheVariants as line
use Rattle.text_model.specs.declared.line.Phase.{Phase}
use Rattle.text_model.specs.declared.line.Phase.TheVariants.{Scanning, Marking, Sweeping, Finalizing}
use Rattle.object_model.specs.declared.settings.Settings.{Settings}
use Rattle.object_model.specs.Newborn.{Request, newborn}
use Rattle.object_model.specs.Object.{Object, words_of}
use Rattle.object_model.specs.Fields.{changed_at, with_int, with_ref}
use Rattle.object_model.specs.Setup.{Setup, type_at}
use Rattle.store_model.specs.Store.{Store, empty_store}
use Rattle.store_model.specs.Slots.{held}
use Rattle.store_model.specs.Reach.{objects_where}
use Rattle.store_model.specs.MinorCollection.{MinorCollection, after_minor, clear_target, vanishes}
use Rattle.store_model.specs.Marking.{EndOfMarking, MarkingStep, GoesOn, with_visited, visited_words, after_marking, is_white, is_condemned}
use Rattle.store_model.specs.Sweeping.{SweepingStep, MayEndIn, after_sweep, queues_with, after_finalizing}
use Rattle.store_model.specs.Collections.{StepFrom, MajorStep, When, Block, Cycle, Last, More, TwoCycles, CollectFrom, Collect as Collects, MakesRoom, always, is_step_due, needs_block, exceeds_limit}
use Rattle.store_model.specs.Birth.{settled_with, with_birth}
use Rattle.store_model.specs.Births.{BirthWithRoomOf, fixed_request, array_request, weak_request}
use Rattle.store_model.specs.Identity.{TellsPlace, is_settled_in}
use Rattle.store_model.specs.PlainCommands.{without_first, with_refs}
use Rattle.store_model.specs.Sound.{RiseBetween, IsInForm}
use Rattle.store_model.specs.Steps.{Does}
use Rattle.store_model.specs.Progress.{Progress, at_start, after_setting}
use Rattle.store_model.specs.Transcript.{Group, ItemDoes, ItemExceeds, Runs}

abbrev births_of : List Object → List ℕ
births_of os = map (λ object. object.birth) os

rise_lower : (low least next : ℕ) (births : List ℕ) → low ≤ least → RiseBetween least births next → RiseBetween low births next
rise_lower low least next [] l rise = omega (arith, l, rise)
rise_lower low least next (b ∷ births) l rise = (omega (arith, l, rise.0), rise.1)

-- the next birth may be a later one
rise_later : (least next later : ℕ) (births : List ℕ) → next ≤ later → RiseBetween least births next → RiseBetween least births later
rise_later least next later [] l rise = omega (arith, l, rise)
rise_later least next later (b ∷ births) l rise = (rise.0, rise_later (b + 1) next later births l rise.1)

-- one more birth, the next one
rise_more : (least next : ℕ) (births : List ℕ) → RiseBetween least births next → RiseBetween least (births ++ next ∷ []) (next + 1)
rise_more least next [] rise = (rise, omega arith)
rise_more least next (b ∷ births) rise = (rise.0, rise_more (b + 1) next births rise.1)

-- those that pass a test rise too
rise_part : {X : Type 0} (birth : X → ℕ) (test : X → Bool) (least next : ℕ) (xs : List X) → RiseBetween least (map birth xs) next → RiseBetween least (map birth (filter test xs)) next
rise_part birth test least next [] rise = rise
rise_part birth test least next (x ∷ xs) rise =
    let rest = rise_part birth test (birth x + 1) next xs rise.1 in
    elim (test x) as (λ b. RiseBetween least (map birth (cond b (x ∷ filter test xs) (filter test xs))) next) [
      | true ↦ (rise.0, rest)
      | false ↦ rise_lower least (birth x + 1) next (map birth (filter test xs)) (omega (arith, rise.0)) rest
    ]

births_same : (f : Object → Object) → ((o : Object) → (f o).birth ≡ o.birth) → (os : List Object) → births_of (map f os) ≡ births_of os
births_same f same [] = refl
births_same f same (o ∷ os) = ap₂ (λ b bs. b ∷ bs) (same o) (births_same f same os)

births_changed : (birth : Option ℕ) (change : Object → Object) → ((o : Object) → (change o).birth ≡ o.birth) → (os : List Object) → births_of (changed_at birth change os) ≡ births_of os
births_changed None change same os = refl
births_changed (Some b) change same os = births_same (λ o. cond (b == o.birth) (change o) o) (λ o. elim (b == o.birth) as (λ t. (cond t (change o) o).birth ≡ o.birth) [ true ↦ same o | false ↦ refl ]) os

-- what of a store its form depends on
record Alike (old new : Store) : Type 0 where
  pub next : new.next ≡ old.next
  pub kept : births_of new.kept ≡ births_of old.kept
  pub husks : new.husks ≡ old.husks
  pub settled : new.settled ≡ old.settled
  pub phase : new.phase ≡ old.phase
  pub queues : new.queues ≡ old.queues
  pub slots : length new.slots ≡ length old.slots

more_is_some : (xs : List ℕ) (x : ℕ) → Some (xs ++ x ∷ []) ≢ Some []
more_is_some [] x e = let no : ⊥ = cc in no
more_is_some (y ∷ xs) x e = let no : ⊥ = cc in no

put_in_queue : (queues : Table (List ℕ)) (key : ℕ) (xs : List ℕ) → Some xs ≢ Some [] → ((queue : ℕ) → value_at queues queue ≢ Some []) → (queue : ℕ) → value_at (with_value queues key xs) queue ≢ Some []
put_in_queue queues key xs some none queue e =
    elim (queue == key) as (λ b. cond b (Some xs) (value_at queues queue) ≡ Some [] → ⊥) [ true ↦ some | false ↦ none queue ] (sym (value_at-with_value queues key queue xs) ∙ e)

queues_filled : (entries : List (ℕ × ℕ)) (queues : Table (List ℕ)) → ((queue : ℕ) → value_at queues queue ≢ Some []) → (queue : ℕ) → value_at (queues_with queues entries) queue ≢ Some []
queues_filled [] queues none = none
queues_filled (entry ∷ entries) queues none =
    queues_filled entries (with_value queues entry.1 (unwrap_or (value_at queues entry.1) [] ++ entry.0 ∷ []))
    (put_in_queue queues entry.1 (unwrap_or (value_at queues entry.1) [] ++ entry.0 ∷ []) (more_is_some (unwrap_or (value_at queues entry.1) []) entry.0) none)

queue_taken : (queues : Table (List ℕ)) (key : ℕ) (found : Option (List ℕ)) → ((queue : ℕ) → value_at queues queue ≢ Some []) → (queue : ℕ) → value_at (without_first queues key found) queue ≢ Some []
queue_taken queues key None none queue e = none queue e
queue_taken queues key (Some []) none queue e = none queue e
queue_taken queues key (Some (x ∷ [])) none queue e =
    elim (queue == key) as (λ b. cond b None (value_at queues queue) ≡ Some [] → ⊥) [ true ↦ (λ n. let no : ⊥ = cc in no) | false ↦ none queue ] (sym (value_at-without_key queues key queue) ∙ e)
queue_taken queues key (Some (x ∷ (y ∷ rest))) none queue e = put_in_queue queues key (y ∷ rest) (λ e. let no : ⊥ = cc in no) none queue e

settled_more : (is_old : Bool) (settled : List ℕ) (next : ℕ) → RiseBetween 1 settled next → RiseBetween 1 (settled_with is_old settled next) (next + 1)
settled_more true settled next rise = rise_more 1 next settled rise
settled_more false settled next rise = rise_later 1 next (next + 1) settled (omega arith) rise

module _ {roots : ℕ} where
  alike : {old new : Store} → Alike old new → IsInForm roots old → IsInForm roots new
  alike {old} {new} a r = record {
    kept = subst (λ n. RiseBetween 1 (births_of new.kept) n) (sym a.next) (subst (λ bs. RiseBetween 1 bs old.next) (sym a.kept) r.kept);
    husks = subst (λ n. RiseBetween 1 (map (λ husk. husk.0) new.husks) n) (sym a.next) (subst (λ hs. RiseBetween 1 (map (λ husk. husk.0) hs) old.next) (sym a.husks) r.husks);
    settled = subst (λ n. RiseBetween 1 new.settled n) (sym a.next) (subst (λ bs. RiseBetween 1 bs old.next) (sym a.settled) r.settled);
    swept = λ other. a.husks ∙ r.swept (λ e. other (a.phase ∙ e));
    no_empty_queue = λ queue e. r.no_empty_queue queue (ap (λ qs. value_at qs queue) (sym a.queues) ∙ e);
    slots = a.slots ∙ r.slots;
  }

  becomes : {new : Store} (is_new : Store) → new ≡ is_new → IsInForm roots is_new → IsInForm roots new
  becomes is_new is r = subst (IsInForm roots) (sym is) r

  pub minor_form : (old : Store) (lines : List Line) (new : Store) → IsInForm roots old → MinorCollection old lines new → IsInForm roots new
  minor_form old lines new r c = becomes (after_minor old c.survives) c.leaves (record {
    kept = subst (λ bs. RiseBetween 1 bs old.next) (sym (births_same (clear_target (vanishes old c.survives)) (λ o. refl) (objects_where old.kept (λ x. not (vanishes old c.survives x)))))
        (rise_part (λ (o : Object). o.birth) (λ o. not (vanishes old c.survives o.birth)) 1 old.next old.kept r.kept);
    husks = r.husks;
    settled = rise_part (λ (o : Object). o.birth) _ 1 old.next old.kept r.kept;
    swept = r.swept;
    no_empty_queue = r.no_empty_queue;
    slots = r.slots;
  })

  end_form : (settings : Settings) (old : Store) (lines : List Line) (new : Store) → old.phase ≡ Marking → IsInForm roots old → EndOfMarking settings old lines new → IsInForm roots new
  end_form settings old lines new marking r e =
      let gone : ℕ → Bool = is_condemned old e.saved in
      let none : old.husks ≡ [] = r.swept (λ s. let no : ⊥ = cc in no) in
      becomes (after_marking settings old e.saved e.chosen) e.leaves (record {
        kept = subst (λ bs. RiseBetween 1 bs old.next) (sym (births_same (clear_target (is_white old)) (λ o. refl) (objects_where old.kept (λ x. not (gone x)))))
            (rise_part (λ (o : Object). o.birth) (λ o. not (gone o.birth)) 1 old.next old.kept r.kept);
        husks = subst (λ hs. RiseBetween 1 (map (λ (husk : ℕ × ℕ). husk.0) (hs ++ map (λ (o : Object). (o.birth, words_of o)) (objects_where old.kept gone))) old.next) (sym none)
            (subst (λ bs. RiseBetween 1 bs old.next) (sym (firsts (objects_where old.kept gone))) (rise_part (λ (o : Object). o.birth) (λ o. gone o.birth) 1 old.next old.kept r.kept));
        settled = rise_part (λ (o : Object). o.birth) _ 1 old.next old.kept r.kept;
        swept = λ n. absurd (n refl);
        no_empty_queue = r.no_empty_queue;
        slots = r.slots;
      })
    where
      firsts : (os : List Object) → map (λ (husk : ℕ × ℕ). husk.0) (map (λ (o : Object). (o.birth, words_of o)) os) ≡ births_of os
      firsts [] = refl
      firsts (o ∷ os) = ap (λ bs. o.birth ∷ bs) (firsts os)

  pub marking_form : (settings : Settings) (old : Store) (lines : List Line) (new : Store) → old.phase ≡ Marking → IsInForm roots old → MarkingStep settings old lines new → IsInForm roots new
  marking_form settings old lines new marking r m = go (nat_le settings.increment (visited_words old.kept m.births)) m.goes_on
    where
      visited : IsInForm roots (with_visited old m.births)
      visited = alike (record { next = refl; kept = refl; husks = refl; settled = refl; phase = refl; queues = refl; slots = refl }) r

      go : (b : Bool) → GoesOn b settings (with_visited old m.births) (map (λ x. line.Visited x) m.births) lines new → IsInForm roots new
      go true g = becomes (with_visited old m.births) g.1 visited
      go false (rest, e, is) = end_form settings (with_visited old m.births) rest new marking visited e

  pub sweep_form : (settings : Settings) (old : Store) (lines : List Line) (new : Store) → IsInForm roots old → SweepingStep settings old lines new → IsInForm roots new
  sweep_form settings old lines new r s = becomes (after_sweep old s.freed s.phase) s.leaves (record {
    kept = r.kept;
    husks = rise_part (λ (husk : ℕ × ℕ). husk.0) (λ husk. not (s.freed husk.0)) 1 old.next old.husks r.husks;
    settled = r.settled;
    swept = swept s.phase (subst (MayEndIn s.phase) s.leaves s.may_end);
    no_empty_queue = r.no_empty_queue;
    slots = r.slots;
  })
    where
      swept : (phase : Phase) → MayEndIn phase (after_sweep old s.freed s.phase) → phase ≢ Sweeping → (after_sweep old s.freed s.phase).husks ≡ []
      swept Scanning can other = absurd can
      swept Marking can other = absurd can
      swept Sweeping can other = absurd (other refl)
      swept Finalizing can other = can

  pub step_form : (phase : Phase) (settings : Settings) (old : Store) (lines : List Line) (new : Store) → old.phase ≡ phase → IsInForm roots old → StepFrom phase settings old lines new → IsInForm roots new
  step_form Scanning settings old lines new is r s = becomes _ s.leaves (record {
    kept = r.kept;
    husks = r.husks;
    settled = r.settled;
    swept = λ other. r.swept (λ e. let no : ⊥ = cc in no);
    no_empty_queue = r.no_empty_queue;
    slots = r.slots;
  })
  step_form Marking settings old lines new is r s = marking_form settings old lines new is r s
  step_form Sweeping settings old lines new is r s = sweep_form settings old lines new r s
  step_form Finalizing settings old lines new is r s = becomes (after_finalizing settings old) s.1 (record {
    kept = r.kept;
    husks = r.husks;
    settled = r.settled;
    swept = λ other. r.swept (λ e. let no : ⊥ = cc in no);
    no_empty_queue = queues_filled old.chosen old.queues r.no_empty_queue;
    slots = r.slots;
  })

  pub when_form : (b : Bool) (Event : Store → List Line → Store → Type 0) (old : Store) (lines : List Line) (new : Store) → (Event old lines new → IsInForm roots new) → IsInForm roots old
      → When b Event old lines new → IsInForm roots new
  when_form true Event old lines new form r e = form e
  when_form false Event old lines new form r e = becomes old e.1 r

  pub block_form : (is_due : Store → Bool) (settings : Settings) (old : Store) (lines : List Line) (new : Store) → IsInForm roots old → Block is_due settings old lines new → IsInForm roots new
  block_form is_due settings old lines new r b =
      let mid = minor_form old b.minor b.mid r b.collected in
      when_form (is_due b.mid) (MajorStep settings) b.mid b.major new (step_form b.mid.phase settings b.mid b.major new refl mid) mid b.stepped

  pub cycle_form : (settings : Settings) (old : Store) (lines : List Line) (new : Store) → IsInForm roots old → Cycle settings old lines new → IsInForm roots new
  cycle_form settings old lines new r (Last block ends) = block_form always settings old lines new r block
  cycle_form settings old _ new r (More {mid = mid} {lines = first} {rest = rest} block goes_on cycle) = cycle_form settings mid rest new (block_form always settings old first mid r block) cycle

  pub two_form : (settings : Settings) (old : Store) (lines : List Line) (new : Store) → IsInForm roots old → TwoCycles settings old lines new → IsInForm roots new
  two_form settings old lines new r c = cycle_form settings c.mid c.second new (cycle_form settings old c.first c.mid r c.ends) c.again

  pub collect_form : (phase : Phase) (settings : Settings) (old : Store) (lines : List Line) (new : Store) → IsInForm roots old → CollectFrom phase settings old lines new → IsInForm roots new
  collect_form Scanning settings old lines new r c = cycle_form settings old lines new r c
  collect_form Marking settings old lines new r c = two_form settings old lines new r c
  collect_form Sweeping settings old lines new r c = two_form settings old lines new r c
  collect_form Finalizing settings old lines new r c = two_form settings old lines new r c

  pub room_form : (settings : Settings) (old : Store) (words : ℕ) (lines : List Line) (new : Store) → IsInForm roots old → MakesRoom settings old words lines new → IsInForm roots new
  room_form settings old words lines new r m =
      let mid = when_form (needs_block settings old words) (Block is_step_due settings) old m.first m.mid (block_form is_step_due settings old m.first m.mid r) r m.block in
      when_form (exceeds_limit settings m.mid words) (Collects settings) m.mid m.second new (collect_form m.mid.phase settings m.mid m.second new mid) mid m.collect

  pub birth_form : (found : Option TypeInfo) (setup : Setup) (old : Store) (request : Request) (lines : List Line) (new : Store) → IsInForm roots old
      → BirthWithRoomOf found setup old request lines new → IsInForm roots new
  birth_form None setup old request lines new r b = absurd b
  birth_form (Some info) setup old request lines new r b =
      let m = room_form setup.settings old _ b.before b.mid r b.made_room in
      let mid : Store = b.mid in
      becomes (with_birth b.born.is_old mid info request) b.born.leaves (record {
        kept = subst (λ bs. RiseBetween 1 bs (mid.next + 1)) (sym (map-append (λ (o : Object). o.birth) mid.kept (newborn mid.next info request ∷ []))) (rise_more 1 mid.next (births_of mid.kept) m.kept);
        husks = rise_later 1 mid.next (mid.next + 1) (map (λ (husk : ℕ × ℕ). husk.0) mid.husks) (omega arith) m.husks;
        settled = settled_more b.born.is_old mid.settled mid.next m.settled;
        swept = m.swept;
        no_empty_queue = m.no_empty_queue;
        slots = length-set mid.slots request.slot (Some mid.next) ∙ m.slots;
      })

  -- a store of which only parts change that its form does not depend on
  others : {old new : Store} (is_new : Store) → new ≡ is_new → Alike old is_new → IsInForm roots old → IsInForm roots new
  others is_new is a r = becomes is_new is (alike a r)

  place_form : (settled : Bool) (old : Store) (root : ℕ) (lines : List Line) (new : Store) → IsInForm roots old → TellsPlace settled old root lines new → IsInForm roots new
  place_form true old root lines new r does = others _ does.1.leaves (record { next = refl; kept = refl; husks = refl; settled = refl; phase = refl; queues = refl; slots = refl }) r
  place_form false old root lines new r does = becomes old does.1 r

  pub Does-form : (setup : Setup) (old : Store) (command : Command) (lines : List Line) (new : Store) → IsInForm roots old → Does setup old command lines new → IsInForm roots new
  unfolding Does
  Does-form setup old (NewFixed root type_id) lines new r does = birth_form (type_at setup type_id) setup old (fixed_request root type_id) lines new r does
  Does-form setup old (NewArray root type_id len) lines new r does = birth_form (type_at setup type_id) setup old (array_request root type_id len) lines new r does
  Does-form setup old (NewWeak root type_id target) lines new r does = birth_form (type_at setup type_id) setup old (weak_request old root type_id target) lines new r does
  Does-form setup old (Put root item value) lines new r does =
      others _ does.1 (record { next = refl; kept = births_changed (held old.slots root) (with_int item value) (λ o. refl) old.kept; husks = refl; settled = refl; phase = refl; queues = refl; slots = refl }) r
  Does-form setup old (Get root item) lines new r does = becomes old does.1 r
  Does-form setup old (Link root item from) lines new r does =
      others _ does.1 (record { next = refl; kept = births_changed (held old.slots root) (with_ref item (held old.slots from)) (λ o. refl) old.kept; husks = refl; settled = refl; phase = refl; queues = refl; slots = refl }) r
  Does-form setup old (Load to root item) lines new r does = others _ does.1 (record { next = refl; kept = refl; husks = refl; settled = refl; phase = refl; queues = refl; slots = length-set old.slots to _ }) r
  Does-form setup old (CopyRefs root item from from_item count) lines new r does =
      others _ does.1 (record { next = refl; kept = births_changed (held old.slots root) (with_refs _) (λ o. refl) old.kept; husks = refl; settled = refl; phase = refl; queues = refl; slots = refl }) r
  Does-form setup old (MoveRoot to from) lines new r does = others _ does.1 (record { next = refl; kept = refl; husks = refl; settled = refl; phase = refl; queues = refl; slots = length-set old.slots to _ }) r
  Does-form setup old (DropRoot root) lines new r does = others _ does.1 (record { next = refl; kept = refl; husks = refl; settled = refl; phase = refl; queues = refl; slots = length-set old.slots root _ }) r
  Does-form setup old (Same a b) lines new r does = becomes old does.1 r
  Does-form setup old (Ident root) lines new r does = others _ does.1.leaves (record { next = refl; kept = refl; husks = refl; settled = refl; phase = refl; queues = refl; slots = refl }) r
  Does-form setup old (Hash root) lines new r does = others _ does.2.leaves (record { next = refl; kept = refl; husks = refl; settled = refl; phase = refl; queues = refl; slots = refl }) r
  Does-form setup old (Place root) lines new r does = place_form (is_settled_in old (held old.slots root)) old root lines new r does
  Does-form setup old (Pin root) lines new r does = others _ does.1 (record { next = refl; kept = refl; husks = refl; settled = refl; phase = refl; queues = refl; slots = refl }) r
  Does-form setup old (Unpin root) lines new r does = others _ does.1 (record { next = refl; kept = refl; husks = refl; settled = refl; phase = refl; queues = refl; slots = refl }) r
  Does-form setup old (Deref to root) lines new r does = others _ does.1.leaves (record { next = refl; kept = refl; husks = refl; settled = refl; phase = refl; queues = refl; slots = length-set old.slots to _ }) r
  Does-form setup old (Register root queue) lines new r does = others _ does.1 (record { next = refl; kept = refl; husks = refl; settled = refl; phase = refl; queues = refl; slots = refl }) r
  Does-form setup old (NextFinal to queue) lines new r does = becomes _ does.1 (record {
    kept = r.kept;
    husks = r.husks;
    settled = r.settled;
    swept = r.swept;
    no_empty_queue = queue_taken old.queues queue (value_at old.queues queue) r.no_empty_queue;
    slots = length-set old.slots to _ ∙ r.slots;
  })
  Does-form setup old (MakeLink p number root light own) lines new r does = others _ does.1 (record { next = refl; kept = refl; husks = refl; settled = refl; phase = refl; queues = refl; slots = refl }) r
  Does-form setup old (Inc number) lines new r does = others _ does.1.leaves (record { next = refl; kept = refl; husks = refl; settled = refl; phase = refl; queues = refl; slots = refl }) r
  Does-form setup old (Dec number) lines new r does = others _ does.1 (record { next = refl; kept = refl; husks = refl; settled = refl; phase = refl; queues = refl; slots = refl }) r
  Does-form setup old (Count number) lines new r does = becomes old does.3 r
  Does-form setup old (FromObj root) lines new r does = becomes old does.1 r
  Does-form setup old (ToObj to number) lines new r does = others _ does.1.leaves (record { next = refl; kept = refl; husks = refl; settled = refl; phase = refl; queues = refl; slots = length-set old.slots to _ }) r
  Does-form setup old NextDead lines new r does = others _ does.1 (record { next = refl; kept = refl; husks = refl; settled = refl; phase = refl; queues = refl; slots = refl }) r
  Does-form setup old Minor lines new r does = minor_form old lines new r does
  Does-form setup old Step lines new r does = block_form always setup.settings old lines new r does
  Does-form setup old Collect lines new r does = collect_form old.phase setup.settings old lines new r does
  Does-form setup old Used lines new r does = becomes old does.1 r

-- the empty store is in form
pub empty_form : (settings : Settings) → IsInForm settings.roots (empty_store settings)
empty_form settings = record {
  kept = omega arith;
  husks = omega arith;
  settled = omega arith;
  swept = λ other. refl;
  no_empty_queue = λ queue e. let no : ⊥ = cc in no;
  slots = length-replicate settings.roots None;
}

abbrev Stands : Progress → Type 0
Stands at = IsInForm at.setup.settings.roots at.store

item_form : (old : Progress) (item : Item) (groups : List Group) (new : Progress) → Stands old → ItemDoes old item groups new → Stands new
unfolding ItemDoes
item_form old Blank groups new r does = subst Stands (sym does.1) r
item_form old (Setting name value) groups new r does = subst Stands (sym does.1) (empty_form (after_setting old name value).setup.settings)
item_form old (TypeDef id info) groups new r does = subst Stands (sym does.1) (empty_form old.setup.settings)
item_form old (CommandItem command) groups new r does = subst Stands (sym does.leaves) (Does-form old.setup old.store command does.lines does.store r does.does)

runs_form : (old : Progress) (items : List Item) (groups : List Group) (new : Progress) → Stands old → Runs old items groups new → Stands new
runs_form old [] groups new r runs = subst Stands (sym runs.1) r
runs_form old (item ∷ items) groups new r (first, rest, mid, is, ok, does, runs) = runs_form mid items rest new (item_form old item first mid r does) runs

-- Every store that a transcript leaves is in form, and so is the one that a birth leaves which the limit refuses.
pub Runs-form : (items : List Item) (groups : List Group) (new : Progress) → Runs at_start items groups new → IsInForm new.setup.settings.roots new.store
Runs-form items groups new runs = runs_form at_start items groups new (empty_form at_start.setup.settings) runs

pub ItemExceeds-form : (old : Progress) (item : Item) (counted request limit : ℕ) (groups : List Group) (new : Progress) → IsInForm old.setup.settings.roots old.store
    → ItemExceeds old item counted request limit groups new → IsInForm new.setup.settings.roots new.store
unfolding ItemExceeds
ItemExceeds-form old Blank counted request limit groups new r does = absurd does
ItemExceeds-form old (Setting name value) counted request limit groups new r does = absurd does
ItemExceeds-form old (TypeDef id info) counted request limit groups new r does = absurd does
ItemExceeds-form old (CommandItem command) counted request limit groups new r does =
    subst Stands (sym does.leaves) (room_form old.setup.settings old.store request does.lines does.store r does.no_room.made_room)
