-- Steps of marking: its start, the visits, and its end.
use Rattle.std.specs.Prelude.{◌≡◌, ◌≢◌, ℕ, ◌+◌, ◌-◌, ◌/◌, ◌<◌, Bool, true, false, ◌==◌, not, ◌&&◌, IsTrue, IsFalse, List, [], ◌∷◌, ◌++◌, Option, Some, None, map, filter, length, sum_by, take, take_while, nat_le, nat_eq}
use Rattle.std.specs.List.{list_all, IsDistinct}
use Rattle.text_model.specs.declared.line.Line.{Line}
use Rattle.text_model.specs.declared.line.Line.TheVariants.{Cleared, Stepped, Visited, Kept}
use Rattle.text_model.specs.declared.line.Phase.TheVariants.{Scanning, Marking, Sweeping}
use Rattle.object_model.specs.declared.settings.Settings.{Settings}
use Rattle.object_model.specs.Sets.{is_in}
use Rattle.object_model.specs.Object.{Object, words_of, object_at}
use Rattle.store_model.specs.Store.{Store, is_settled}
use Rattle.store_model.specs.Roots.{registered_births}
use Rattle.store_model.specs.Reach.{Tells, objects_where, births_where, is_registered, refers, LeadsTo, Reaches, IsReached, IsRetained}
use Rattle.store_model.specs.MinorCollection.{target_passes, clear_target, loss_lines, without_links}

-- Marking begins: which settled objects are not reached, and which objects are not retained.
pub record StartOfMarking (old : Store) (lines : List Line) (new : Store) : Type 0 where
  pub reached : ℕ → Bool
  pub tells_reached : Tells reached (IsReached old)
  pub retained : ℕ → Bool
  pub tells_retained : Tells retained (IsRetained old)
  pub printed : lines ≡ Stepped Scanning Marking ∷ []
  pub leaves : new ≡ record old {
    phase = Marking;
    visited = [];
    unreached = births_where old.kept (λ x. is_settled old.settled x && not (reached x));
    doomed = births_where old.kept (λ x. not (retained x));
  }

-- the words of an object, if it is there
abbrev pub words_of_found : Option Object → ℕ
words_of_found None = 0
words_of_found (Some object) = words_of object

-- the words of the objects of these births
abbrev pub visited_words : List Object → List ℕ → ℕ
visited_words kept births = sum_by (λ x. words_of_found (object_at kept x)) births

-- these settled objects may be visited, in this order
pub record CanVisit (increment : ℕ) (store : Store) (births : List ℕ) : Type 0 where
  pub unvisited : IsTrue (list_all (λ x. is_settled store.settled x && (not (is_in x store.visited) && not (is_in x store.unreached))) births)
  pub differ : IsDistinct nat_eq births
  pub few : visited_words store.kept (take (length births - 1) births) < increment

-- what was visited holds every reached settled object, and with each object those settled ones that it refers to
pub record IsMarked (store : Store) : Type 0 where
  pub reached : (x : ℕ) → IsReached store x → IsTrue (is_settled store.settled x) → IsTrue (is_in x store.visited)
  pub closed : (x y : ℕ) → IsTrue (is_in x store.visited) → IsTrue (refers store.kept x y) → IsTrue (is_settled store.settled y) →
      IsTrue (is_in y store.visited)

-- whether a settled object was not visited
abbrev pub is_white : Store → ℕ → Bool
is_white store x = is_settled store.settled x && not (is_in x store.visited)

-- a registered object that was not visited
abbrev pub is_dying : Store → ℕ → Bool
is_dying store x = is_registered store x && is_white store x

-- a dying object leads to it
abbrev pub IsSaved : Store → ℕ → Type 0
IsSaved store = LeadsTo (is_dying store) (refers store.kept)

-- whether a stands in front of the first b in the list
abbrev pub stands_before : ℕ → ℕ → List ℕ → Bool
stands_before a b births = is_in a (take_while (λ x. not (x == b)) births)

-- each other dying object that reaches it is reached by it, and was not registered before it
abbrev pub IsChosen : Store → ℕ → Type 0
IsChosen store x = IsTrue (is_dying store x) × ((h : ℕ) → h ≢ x → IsTrue (is_dying store h) → Reaches store.kept h x →
    Reaches store.kept x h × IsFalse (stands_before h x (registered_births store)))

-- whether a settled object was neither visited nor saved
abbrev pub is_condemned : Store → (ℕ → Bool) → ℕ → Bool
is_condemned store saved x = is_white store x && not (saved x)

-- the lines at the end of marking, where the test tells what is saved
abbrev pub end_lines : Store → (ℕ → Bool) → List Line
end_lines store saved =
    map (λ object. Cleared object.birth) (filter (λ object. target_passes (is_white store) object.target) store.kept)
    ++ (map (λ x. Kept x) (births_where store.kept (λ x. is_white store x && saved x)) ++ loss_lines store (is_condemned store saved))

-- the store after marking, where the tests tell what is saved and what is chosen
abbrev pub after_marking : Settings → Store → (ℕ → Bool) → (ℕ → Bool) → Store
after_marking settings store saved chosen = record (without_links store (is_condemned store saved)) {
  kept = map (clear_target (is_white store)) (objects_where store.kept (λ x. not (is_condemned store saved x)));
  husks = store.husks ++ map (λ object. (object.birth, words_of object)) (objects_where store.kept (is_condemned store saved));
  settled = births_where store.kept (λ x. is_settled store.settled x && not (is_condemned store saved x));
  registered = filter (λ entry. not (chosen entry.0)) store.registered;
  chosen = store.chosen ++ filter (λ entry. chosen entry.0) store.registered;
  phase = Sweeping;
  visited = [];
  unreached = [];
  left = (length store.kept + length store.husks) / settings.sweep + 1;
}

-- Marking ends, in a store in which all was visited that will be.
pub record EndOfMarking (settings : Settings) (old : Store) (lines : List Line) (new : Store) : Type 0 where
  pub marked : IsMarked old
  pub saved : ℕ → Bool
  pub tells_saved : Tells saved (IsSaved old)
  pub chosen : ℕ → Bool
  pub tells_chosen : Tells chosen (IsChosen old)
  pub printed : lines ≡ end_lines old saved
  pub leaves : new ≡ after_marking settings old saved chosen

-- the phase stays exactly where the words of the visited objects reach the increment
abbrev pub GoesOn : Bool → Settings → Store → List Line → List Line → Store → Type 0
GoesOn true settings store visits lines new = (lines ≡ Stepped Marking Marking ∷ visits) × (new ≡ store)
GoesOn false settings store visits lines new =
    (rest : List Line) × EndOfMarking settings store rest new × (lines ≡ Stepped Marking Sweeping ∷ (visits ++ rest))

-- the store with more visits
abbrev pub with_visited : Store → List ℕ → Store
with_visited store births = record store { visited = store.visited ++ births }

-- a step of marking
pub record MarkingStep (settings : Settings) (old : Store) (lines : List Line) (new : Store) : Type 0 where
  pub births : List ℕ
  pub can : CanVisit settings.increment old births
  pub goes_on : GoesOn (nat_le settings.increment (visited_words old.kept births)) settings (with_visited old births)
      (map (λ x. Visited x) births) lines new
