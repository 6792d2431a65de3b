-- The options of `solo` and `run`, which stand behind the names: a key and a value each, in any order, no key twice. This project's own.
use Rattle.std.specs.Prelude.{ℕ, List, [], ◌∷◌, codes, bytes_eq, Bool, true, false, not, ◌&&◌, ◌||◌, if◌then◌else◌, Option, Some, None, is_some}
use Rattle.dispatcher.specs.declared.side.Place.{Place}
use Rattle.dispatcher.specs.declared.side.Place.TheVariants as place
use Rattle.command_words.specs.declared.options.Crew.{Crew}
use Rattle.command_words.specs.declared.options.DieKind.{DieKind}
use Rattle.command_words.specs.declared.options.DieKind.TheVariants as die
use Rattle.command_words.specs.declared.options.Setup.{Setup}
use Rattle.command_words.specs.Places.{number_in}

-- ---- keys and their values

-- `--place` and `--die`
abbrev pub is_setup_key : List ℕ → Bool
is_setup_key key = bytes_eq key (codes "--place") || bytes_eq key (codes "--die")

-- `--workers` and `--flushers`
abbrev pub is_crew_key : List ℕ → Bool
is_crew_key key = bytes_eq key (codes "--workers") || bytes_eq key (codes "--flushers")

-- the keys of a command, which has threads or hasn't
abbrev pub is_key : Bool → List ℕ → Bool
is_key threads key = is_setup_key key || (threads && is_crew_key key)

abbrev pub place_of : List ℕ → Option Place
place_of word =
    if bytes_eq word (codes "auto") then Some place.Auto
    else if bytes_eq word (codes "host") then Some place.Host
    else if bytes_eq word (codes "drive") then Some place.Drive
    else None

abbrev pub die_of : List ℕ → Option DieKind
die_of word =
    if bytes_eq word (codes "mem") then Some die.Mem
    else if bytes_eq word (codes "ftl") then Some die.Ftl
    else if bytes_eq word (codes "mirror") then Some die.Mirror
    else None

-- ---- the words behind the names

-- the value behind a key, where the key is given
abbrev pub given : List ℕ → List (List ℕ) → Option (List ℕ)
given key (other ∷ value ∷ rest) = if bytes_eq other key then Some value else given key rest
given key _ = None

-- a key of the command, which isn't given again
unfoldable pub is_fresh : Bool → List ℕ → List (List ℕ) → Bool
is_fresh threads key rest = is_key threads key && not (is_some (given key rest))

-- the words are pairs of a key and a value, each key is the command's, and none is given twice
abbrev pub are_options : Bool → List (List ℕ) → Bool
are_options threads (key ∷ value ∷ rest) = if is_fresh threads key rest then are_options threads rest else false
are_options threads (key ∷ []) = false
are_options threads [] = true

-- what an option says: what its value means, or the default where its key isn't given
abbrev pub said : {X : Type 0} → (List ℕ → Option X) → X → Option (List ℕ) → Option X
said meaning default None = Some default
said meaning default (Some value) = meaning value

abbrev pub setup : Option Place → Option DieKind → Option Setup
setup (Some place) (Some dies) = Some (record { place = place; dies = dies })
setup _ _ = None

-- the side that functions run at, and the kind of dies
unfoldable pub setup_of : List (List ℕ) → Option Setup
setup_of words = setup (said place_of place.Auto (given (codes "--place") words)) (said die_of die.Mem (given (codes "--die") words))

abbrev pub crew : Option ℕ → Option ℕ → Option Crew
crew (Some workers) (Some flushers) = Some (record { workers = workers; flushers = flushers })
crew _ _ = None

-- how many threads serve the drive
unfoldable pub crew_of : List (List ℕ) → Option Crew
crew_of words = crew (said (number_in 1 8) 2 (given (codes "--workers") words)) (said (number_in 0 4) 1 (given (codes "--flushers") words))

-- ---- the options of a command

abbrev pub solo_options : List (List ℕ) → Option Setup
solo_options words = if are_options false words then setup_of words else None

abbrev pub both : Option Setup → Option Crew → Option (Setup × Crew)
both (Some setup) (Some crew) = Some (setup, crew)
both _ _ = None

abbrev pub run_options : List (List ℕ) → Option (Setup × Crew)
run_options words = if are_options true words then both (setup_of words) (crew_of words) else None
