-- A store stays sound where its objects change, but no birth and no target, and each new reference is that of a root.
use Rattle.std.proofs.Common.{◌≡◌, ℕ, ◌⊎◌, IsTrue, List, [], ◌++◌, map, sym, ◌∙◌, subst, inl, inr}
use Rattle.std.specs.Prelude.{IsFalse}
use Rattle.text_model.specs.declared.line.Phase.{Phase}
use Rattle.text_model.specs.declared.line.Phase.TheVariants.{Scanning, Marking, Sweeping, Finalizing}
use Rattle.object_model.specs.declared.settings.Settings.{Settings}
use Rattle.object_model.specs.Object.{Object, object_at}
use Rattle.store_model.specs.Store.{Store}
use Rattle.object_model.specs.Sets.{is_in}
use Rattle.object_model.specs.Fields.{refs_of}
use Rattle.store_model.specs.Roots.{is_kept, referents_in, target_in}
use Rattle.type_table.specs.Table.{Table}
use Rattle.store_model.specs.Sound.{IsSound, IsPhaseSound, AreCutOff, AreGone, AreBirthsSound, births_in}

-- an object that a root may lead to: it is kept, and was found neither unreached nor doomed
pub record CanBeRoot (kept : List Object) (unreached doomed : List ℕ) (x : ℕ) : Type 0 where
  pub is_there : IsTrue (is_kept kept x)
  pub reached : IsFalse (is_in x unreached)
  pub retained : IsFalse (is_in x doomed)

-- The objects after a change: each is still there, with its target, and refers to what it referred to, or to new births.
pub record SameButFor (kept after : List Object) (news : ℕ → Type 0) : Type 0 where
  pub births : map (λ object. object.birth) after ≡ map (λ object. object.birth) kept
  pub there : (x : ℕ) → is_kept after x ≡ is_kept kept x
  pub targets : (x : ℕ) → target_in (object_at after x) ≡ target_in (object_at kept x)
  pub empty : (x : ℕ) → refs_of (object_at kept x) ≡ [] → refs_of (object_at after x) ≡ []
  pub referred : (x y : ℕ) → IsTrue (is_in y (referents_in (object_at after x))) → IsTrue (is_in y (referents_in (object_at kept x))) ⊎ news y

cut-after : (kept after : List Object) (news : ℕ → Type 0) (dead : List ℕ) → SameButFor kept after news → ((x : ℕ) → news x → IsFalse (is_in x dead))
    → AreCutOff kept dead → AreCutOff after dead
cut-after kept after news dead same apart cut x k f y t = elim (same.referred x y t) [
  | inl old ↦ cut x (sym (same.there x) ∙ k) f y old
  | inr new ↦ apart y new
]

gone-after : (kept after : List Object) (dead : List ℕ) (news : ℕ → Type 0) → SameButFor kept after news → AreGone kept dead → AreGone after dead
gone-after kept after dead news same gone x t = same.there x ∙ gone x t

phase-after : (sweep : ℕ) (store : Store) (after : List Object) (news : ℕ → Type 0) (phase : Phase) → SameButFor store.kept after news
    → IsPhaseSound phase sweep store → IsPhaseSound phase sweep (record store { kept = after })
phase-after sweep store after news Scanning same s = s
phase-after sweep store after news Marking same s = s
phase-after sweep store after news Sweeping same s = (s.0, gone-after store.kept after store.doomed news same s.1, s.2)
phase-after sweep store after news Finalizing same s = (s.0, gone-after store.kept after store.doomed news same s.1, s.2)

pub sound_after : (settings : Settings) (store : Store) (after : List Object) → SameButFor store.kept after (CanBeRoot store.kept store.unreached store.doomed)
    → IsSound settings store → IsSound settings (record store { kept = after })
sound_after settings store after same s =
    let kept : (x : ℕ) → IsTrue (is_kept store.kept x) → IsTrue (is_kept after x) = λ x k. same.there x ∙ k in
    record {
      fields = record {
        references = λ x y t. kept y (elim (same.referred x y t) [ inl old ↦ s.fields.references x y old | inr new ↦ new.is_there ]);
        targets = λ x t e. kept t (s.fields.targets x t (sym (same.targets x) ∙ e));
      };
      settled = λ x t. kept x (s.settled x t);
      roots = λ x t. kept x (s.roots x t);
      registered = λ x t. kept x (s.registered x t);
      pins = record {
        differ = s.pins.differ;
        few = s.pins.few;
        counted = s.pins.counted;
        unsettled = s.pins.unsettled;
        no_references = λ x t. same.empty x (s.pins.no_references x t);
        no_target = λ x t. same.targets x ∙ s.pins.no_target x t;
      };
      queues_rise = s.queues_rise;
      once = s.once;
      waiting = s.waiting;
      roots_reached = s.roots_reached;
      unreached_cut_off = cut-after store.kept after (CanBeRoot store.kept store.unreached store.doomed) store.unreached same (λ y c. c.reached) s.unreached_cut_off;
      unreached_born = s.unreached_born;
      roots_retained = s.roots_retained;
      registered_retained = s.registered_retained;
      doomed_cut_off = cut-after store.kept after (CanBeRoot store.kept store.unreached store.doomed) store.doomed same (λ y c. c.retained) s.doomed_cut_off;
      doomed_born = s.doomed_born;
      phase = phase-after settings.sweep store after _ store.phase same s.phase;
      links = record {
        rises = s.links.rises;
        objects = λ n x e. kept x (s.links.objects n x e);
        one_p_link = s.links.one_p_link;
        dead_once = s.links.dead_once;
        dead_pending = s.links.dead_pending;
        pending_dead = s.links.pending_dead;
        in_range = s.links.in_range;
      };
      births = record {
        next_above = s.births.next_above;
        homes_rise = s.births.homes_rise;
        born = λ x t. s.births.born x (subst (λ (bs : List ℕ). IsTrue (is_in x (bs ++ map (λ (husk : ℕ × ℕ). husk.0) store.husks))) same.births t);
        differ = rw same.births s.births.differ;
        homes_differ = s.births.homes_differ;
        housed = λ x place e. subst (λ (bs : List ℕ). IsTrue (is_in x (bs ++ map (λ (husk : ℕ × ℕ). husk.0) store.husks))) (sym same.births) (s.births.housed x place e);
      };
    }

-- A store stays sound where only husks, homes, visits, the steps left and the phase change, if these and the births are sound.
pub sound_but : (settings : Settings) (store : Store) (husks : List (ℕ × ℕ)) (homes : Table ℕ) (visited : List ℕ) (left : ℕ) (phase : Phase)
    → IsPhaseSound phase settings.sweep (record store { husks = husks; homes = homes; visited = visited; left = left; phase = phase })
    → AreBirthsSound store.next (births_in (record store { husks = husks })) homes
    → IsSound settings store → IsSound settings (record store { husks = husks; homes = homes; visited = visited; left = left; phase = phase })
sound_but settings store husks homes visited left phase p births s = record {
  fields = s.fields;
  settled = s.settled;
  roots = s.roots;
  registered = s.registered;
  pins = s.pins;
  queues_rise = s.queues_rise;
  waiting = s.waiting;
  once = s.once;
  roots_reached = s.roots_reached;
  unreached_cut_off = s.unreached_cut_off;
  unreached_born = s.unreached_born;
  roots_retained = s.roots_retained;
  registered_retained = s.registered_retained;
  doomed_cut_off = s.doomed_cut_off;
  doomed_born = s.doomed_born;
  phase = p;
  links = s.links;
  births = births;
}
