-- The law of a die over raw flash, and its proof: its pages are told, and the count is that of the raw flash. This project's own.
use Rattle.std.proofs.Common.{List, ℕ}
use Rattle.std.proofs.lemmas.List.{length-map}
use Rattle.flash_die.specs.Dies.{AreWhole, IsDie}
use Rattle.flash_raw.specs.Raw.{RawView, IsRaw}
use Rattle.ftl_die.specs.declared.place.Place.{Place}
use Rattle.ftl_die.specs.Stored.{content, contents, ftl_view}

pub sound_ftl : (raw : RawView) (slots : List (List ℕ)) (places : List Place) → IsRaw raw → AreWhole (contents raw slots places) → IsDie (ftl_view raw slots places)
sound_ftl raw slots places is each_whole = record {
  whole = length-map places (content raw.pages slots);
  each_whole = each_whole;
  bounded = is.bounded;
  planned = tt;
}
