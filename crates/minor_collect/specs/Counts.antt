-- How many survivors a minor collection settles, with their words, and how many objects vanish.
use Rattle.std.specs.Prelude.{◌≡◌, ℕ, Bool, length}
use Rattle.object_model.specs.Object.{kept_words}
use Rattle.store_model.specs.MinorCollection.{SurvivesBy, settles, vanishes}
use Rattle.store_model.specs.Reach.{Tells, births_where, objects_where}
use Rattle.minor_collect.specs.Calls.{Stage, remembered_at}
use Rattle.minor_collect.specs.Entries.{has_remembered_referrer}
use Rattle.minor_collect.specs.declared.collection.MinorEnd.{MinorEnd}

-- The numbers are those of the survivors, where what was remembered as the collection began counts as held by settled objects.
pub record CountsSurvivors (stage : Stage) (end : MinorEnd) : Type 0 where
  pub survives : ℕ → Bool
  pub tells : Tells survives (SurvivesBy stage.store (has_remembered_referrer stage.store (remembered_at stage)))
  pub settled_are : end.settled ≡ length (births_where stage.store.kept (settles stage.store survives))
  pub words_are : end.settled_words ≡ kept_words (objects_where stage.store.kept (settles stage.store survives))
  pub vanished_are : end.vanished ≡ length (births_where stage.store.kept (vanishes stage.store survives))
