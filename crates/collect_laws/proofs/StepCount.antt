-- How many major steps the lines of collections tell of: each block with its step has one.
use Rattle.std.proofs.Common.{◌≡◌, ℕ, ◌+◌, Bool, true, false, List, [], ◌∷◌, ◌++◌, map, refl, ap, ◌∙◌, inl, inr, arith}
use Rattle.std.specs.Prelude.{filter, not, suc, ◌&&◌, nat_le}
use Rattle.std.proofs.lemmas.Bool.{cases_Bool}
use Rattle.text_model.specs.declared.line.Line.{Line}
use Rattle.text_model.specs.declared.line.Line.TheVariants as line
use Rattle.text_model.specs.declared.line.Line.TheVariants.{Stepped}
use Rattle.text_model.specs.declared.line.Phase.{Phase}
use Rattle.text_model.specs.declared.line.Phase.TheVariants.{Scanning, Marking, Sweeping, Finalizing}
use Rattle.object_model.specs.declared.settings.Settings.{Settings}
use Rattle.object_model.specs.Object.{Object}
use Rattle.store_model.specs.Store.{Store}
use Rattle.store_model.specs.Links.{link_ends}
use Rattle.store_model.specs.Reach.{births_where}
use Rattle.store_model.specs.MinorCollection.{MinorCollection, vanish_lines, vanishes, loss_lines, target_passes}
use Rattle.store_model.specs.Marking.{GoesOn, with_visited, visited_words, end_lines, is_white, is_condemned}
use Rattle.store_model.specs.Sweeping.{husks_where, threshold_after}
use Rattle.store_model.specs.Collections.{StepFrom, Block, always}
use Rattle.store_model.specs.CollectionBounds.{is_step_line as is_stepped, steps_told}
use Rattle.store_model.proofs.Times.{one_if}

-- how many of the lines tell of a major step
abbrev pub steps_in : List Line → ℕ
steps_in [] = 0
steps_in (line ∷ lines) = one_if (is_stepped line) + steps_in lines

-- which is how many pass the test
pub told_steps : (lines : List Line) → steps_told lines ≡ steps_in lines
told_steps [] = refl
told_steps (l ∷ ls) =
    let more = told_steps ls in
    elim (cases_Bool (is_stepped l)) [
      | inl t ↦
          let one : steps_told (l ∷ ls) ≡ suc (steps_told ls) = rw t refl in
          let same : steps_in (l ∷ ls) ≡ 1 + steps_in ls = rw t refl in omega (arith, more, one, same)
      | inr f ↦
          let none : steps_told (l ∷ ls) ≡ steps_told ls = rw f refl in
          let same : steps_in (l ∷ ls) ≡ 0 + steps_in ls = rw f refl in omega (arith, more, none, same)
    ]

pub steps_append : (xs ys : List Line) → steps_in (xs ++ ys) ≡ steps_in xs + steps_in ys
steps_append [] ys = omega arith
steps_append (x ∷ xs) ys = let more = steps_append xs ys in omega (arith, more)

none_stepped : {X : Type 0} → (told : X → Line) → ((x : X) → is_stepped (told x) ≡ false) → (xs : List X) → steps_in (map told xs) ≡ 0
none_stepped told none [] = refl
none_stepped told none (x ∷ xs) =
    let more = none_stepped told none xs in let here : one_if (is_stepped (told x)) ≡ 0 = rw (none x) refl in omega (arith, more, here)

no_steps : (xs ys : List Line) → steps_in xs ≡ 0 → steps_in ys ≡ 0 → steps_in (xs ++ ys) ≡ 0
no_steps xs ys a b = let both = steps_append xs ys in omega (arith, both, a, b)

loss_steps : (store : Store) (gone : ℕ → Bool) → steps_in (loss_lines store gone) ≡ 0
loss_steps store gone =
    no_steps _ _ (none_stepped (λ (o : Object). line.Destroyed o.birth) (λ o. refl) (filter (λ o. gone o.birth && o.info.destructor) store.kept))
    (none_stepped line.LinkCut (λ cut. refl) (link_ends gone store.structs))

-- a minor collection tells of none
minor_steps : (old : Store) (lines : List Line) (new : Store) → MinorCollection old lines new → steps_in lines ≡ 0
minor_steps old lines new c =
    let gone : ℕ → Bool = vanishes old c.survives in
    let rest : steps_in (vanish_lines old gone) ≡ 0 =
    no_steps _ _ (none_stepped (λ (o : Object). line.Cleared o.birth) (λ o. refl) (filter (λ o. not (gone o.birth) && target_passes gone o.target) old.kept)) (loss_steps old gone) in
    ap steps_in c.printed ∙ (let e : 0 + steps_in (vanish_lines old gone) ≡ 0 = omega (arith, rest) in e)

-- and a major step of one
one_step : (from to : Phase) (rest : List Line) → steps_in rest ≡ 0 → steps_in (Stepped from to ∷ rest) ≡ 1
one_step from to rest none = omega (arith, none)

marking_steps : (b : Bool) (settings : Settings) (store : Store) (births : List ℕ) (lines : List Line) (new : Store)
    → GoesOn b settings store (map (λ x. line.Visited x) births) lines new → steps_in lines ≡ 1
marking_steps true settings store births lines new g = ap steps_in g.0 ∙ one_step Marking Marking _ (none_stepped (λ (x : ℕ). line.Visited x) (λ x. refl) births)
marking_steps false settings store births lines new (rest, e, is) =
    let end : steps_in (end_lines store e.saved) ≡ 0 =
    no_steps _ _ (none_stepped (λ (o : Object). line.Cleared o.birth) (λ o. refl) (filter (λ o. target_passes (is_white store) o.target) store.kept))
    (no_steps _ _ (none_stepped (λ (x : ℕ). line.Kept x) (λ x. refl) (births_where store.kept (λ x. is_white store x && e.saved x))) (loss_steps store (is_condemned store e.saved))) in
    ap steps_in is ∙ one_step Marking Sweeping _ (no_steps (map (λ x. line.Visited x) births) rest (none_stepped (λ (x : ℕ). line.Visited x) (λ x. refl) births) (ap steps_in e.printed ∙ end))

major_steps : (phase : Phase) (settings : Settings) (old : Store) (lines : List Line) (new : Store) → StepFrom phase settings old lines new → steps_in lines ≡ 1
major_steps Scanning settings old lines new s = ap steps_in s.printed
major_steps Marking settings old lines new s = marking_steps (nat_le settings.increment (visited_words old.kept s.births)) settings (with_visited old s.births) s.births lines new s.goes_on
major_steps Sweeping settings old lines new s =
    ap steps_in s.printed ∙ one_step Sweeping s.phase _ (none_stepped (λ (husk : ℕ × ℕ). line.Freed husk.0) (λ h. refl) (husks_where old.husks s.freed))
major_steps Finalizing settings old lines new s =
    ap steps_in s.0 ∙ one_step Finalizing Scanning _
    (no_steps _ (line.ThresholdIs (threshold_after settings old) ∷ []) (none_stepped (λ (entry : ℕ × ℕ). line.Queued entry.0 entry.1) (λ e. refl) old.chosen) refl)

-- and so does a block with its step
pub block_steps : (settings : Settings) (old : Store) (lines : List Line) (new : Store) → Block always settings old lines new → steps_in lines ≡ 1
block_steps settings old lines new b =
    let first = minor_steps old b.minor b.mid b.collected in let second = major_steps b.mid.phase settings b.mid b.major new b.stepped in
    let both = steps_append b.minor b.major in ap steps_in b.printed ∙ (omega (arith, first, second, both))
