-- The names of a plain state: what a call in flight finds there, where it finds the same.
use Rattle.std.proofs.Common.{◌≡◌, ℕ, List, [], ◌∷◌, length, Option, Some, None, refl, sym, ap, ◌∙◌, subst, get_or}
use Rattle.std.specs.Prelude.{◌/◌, ◌%◌, map, option_map, is_some, bytes_eq}
use Rattle.std.proofs.lemmas.List.FromFn.{length-map-range_with_len}
use Rattle.core_lanes.specs.Call.{Call}
use Rattle.core_lanes.specs.Plain.{State, function_of}
use Rattle.core_lanes.specs.Words.{from_fn}
use Rattle.core_lanes.specs.State.{Page, Shape, LaneState, File, Function, Names, Places, Claim, Phase, Held, Queued, Running, Reported, Flight, Core}
use Rattle.core_lanes.specs.Contents.{contents}
use Rattle.core_lanes.specs.Reach.{file_word, function_word, file_by, function_by, file_for, function_for, claim_on}
use Rattle.core_lanes.specs.PlainOf.{file_bytes, file_page, plain_file, plain_function, plain_of, plain, file_like, function_like, names_like}
use Rattle.core_lanes.specs.InFlight.{claim_of, claims, Locked, InFlight}
use Rattle.core_lanes.specs.Placed.{AreNamed, HavePlaces, Tails}
use Rattle.core_lanes.specs.Dies.{IsResult, Gathered}
use Rattle.core_lanes.specs.Coherent.{Coherent}
use Rattle.core_lanes.proofs.Views.{find_map, file_seen, function_seen, FindsSame, early_same, outcome_same, is_some_map}

-- ---- a file and its view

pub length_bytes : (len : ℕ) (page : ℕ → Page) → length (file_bytes len page) ≡ len
unfolding from_fn
length_bytes len page = length-map-range_with_len (λ i. get_or (page (i / 4096)) (i % 4096) 0) 0 len

-- the file of a file's view is the file
pub like_seen : (places : Places) (pages : ℕ → Page) (f : File) → file_like (plain_file places pages f) ≡ f
like_seen places pages f = ap (λ (n : ℕ). record f { len = n }) (length_bytes f.len (file_page places pages f.id))

pub map_same : {A : Type 0} (f : A → A) → ((x : A) → f x ≡ x) → (xs : List A) → map f xs ≡ xs
map_same f h [] = refl
map_same f h (x ∷ xs) = ap (λ y. y ∷ map f xs) (h x) ∙ ap (λ ys. x ∷ ys) (map_same f h xs)

pub files_seen : (places : Places) (pages : ℕ → Page) (files : List File) → map file_like (map (plain_file places pages) files) ≡ files
files_seen places pages [] = refl
files_seen places pages (f ∷ files) = ap (λ g. g ∷ map file_like (map (plain_file places pages) files)) (like_seen places pages f) ∙ ap (λ fs. f ∷ fs) (files_seen places pages files)

-- ---- what a call finds among the new names

option_same : (places : Places) (pages : ℕ → Page) (o : Option File) → option_map file_like (option_map (plain_file places pages) o) ≡ o
option_same places pages None = refl
option_same places pages (Some f) = ap Some (like_seen places pages f)

pub file_kept : (shape : Shape) (names : Names) (places : Places) (pages : ℕ → Page) (s2 : State) (call : Call) → FindsSame (plain_of shape names places pages) s2 call → file_for (names_like s2 names).files call ≡ file_for names.files call
file_kept shape names places pages s2 call same = go (file_word call) refl
  where
    go : (w : Option (List ℕ)) → file_word call ≡ w → file_by (map file_like s2.files) w ≡ file_by names.files w
    go None e = refl
    go (Some name) e =
        find_map file_like (λ (f : File). bytes_eq f.name name) s2.files
        ∙ (ap (option_map file_like) (sym (same.file name e)) ∙ (ap (option_map file_like) (file_seen shape names places pages name) ∙ option_same places pages (file_by names.files (Some name))))

pub function_kept : (shape : Shape) (names : Names) (places : Places) (pages : ℕ → Page) (s2 : State) (call : Call) → FindsSame (plain_of shape names places pages) s2 call → is_some (function_for (names_like s2 names).functions call) ≡ is_some (function_for names.functions call)
function_kept shape names places pages s2 call same = go (function_word call) refl
  where
    go : (w : Option (List ℕ)) → function_word call ≡ w → is_some (function_by (map (function_like names.functions) s2.functions) w) ≡ is_some (function_by names.functions w)
    go None e = refl
    go (Some name) e =
        ap is_some (find_map (function_like names.functions) (λ (f : Function). bytes_eq f.name name) s2.functions)
        ∙ (is_some_map (function_like names.functions) (function_of name s2.functions) ∙ (ap is_some (sym (same.function name e))
        ∙ (ap is_some (function_seen shape names places pages name) ∙ is_some_map plain_function (function_by names.functions (Some name)))))

-- ---- names change, and no block does

-- what each call in flight finds is as it was
abbrev pub FindAll : (ℕ → Option Claim) → State → State → Type 0
FindAll held s s2 = (lane : ℕ) (a : Claim) → held lane ≡ Some a → FindsSame s s2 a.request.call

pub locked_names : (shape : Shape) (names : Names) (places : Places) (pages : ℕ → Page) (s2 : State) (held : ℕ → Option Claim) → FindAll held (plain_of shape names places pages) s2 → Locked names held → Locked (names_like s2 names) held
locked_names shape names places pages s2 held same h = record {
  apart = h.apart;
  there = λ lane a e.
      let t = h.there lane a e in
      record {
        file = λ q. ap is_some (file_kept shape names places pages s2 a.request.call (same lane a e)) ∙ t.file q;
        function = λ q. function_kept shape names places pages s2 a.request.call (same lane a e) ∙ t.function q;
      };
}

pub in_flight_names : (shape : Shape) (names : Names) (places : Places) (pages : ℕ → Page) (s2 : State) (calls : ℕ → Option Flight) → FindAll (claims calls) (plain_of shape names places pages) s2 → InFlight names (plain_of shape names places pages) calls → InFlight (names_like s2 names) s2 calls
in_flight_names shape names places pages s2 calls same h = record {
  right = λ lane a e.
      let r = h.right lane a e in
      record {
        kind = r.kind;
        same = r.same ∙ ap (λ (o : Option File). claim_on o a.request a.side) (sym (file_kept shape names places pages s2 a.request.call (same lane a e)));
        not_early = sym (early_same (plain_of shape names places pages) s2 a.request.call r.kind (same lane a e)) ∙ r.not_early;
        drive = r.drive;
      };
  host = h.host;
}

result_same : (s t : State) (call : Call) (phase : Phase) → FindsSame s t call → IsResult s call phase → IsResult t call phase
result_same s t call Held same h = h
result_same s t call Queued same h = h
result_same s t call (Running w) same h = h
result_same s t call (Reported r) same h = h ∙ ap Some (outcome_same s t call same)

pub gathered_names : (places : Places) (pages : ℕ → Page) (s s2 : State) (lanes : ℕ → LaneState) (calls : ℕ → Option Flight) → FindAll (claims calls) s s2 → Gathered places pages s lanes calls → Gathered places pages s2 lanes calls
gathered_names places pages s s2 lanes calls same h = record {
  pages_are = h.pages_are;
  results = λ lane call e m. result_same s s2 call.claim.request.call call.phase (same lane call.claim (ap claim_of e)) (h.results lane call e m);
}

-- the core with the names of a plain state
pub renamed_keeps : (c : Core) (s2 : State) → AreNamed (names_like s2 c.names) → HavePlaces c.shape (names_like s2 c.names) c.places → Tails (names_like s2 c.names) c.places (contents c.blocks) →
    FindAll (claims c.calls) (plain c) s2 → plain (record c { names = names_like s2 c.names }) ≡ s2 → Coherent c → Coherent (record c { names = names_like s2 c.names })
renamed_keeps c s2 named have tails same moves h = record {
  placed = record { drive = h.placed.drive; have = have; free = h.placed.free; named = named };
  copies = h.copies;
  clean = h.clean;
  unclean = h.unclean;
  lent = h.lent;
  locked = locked_names c.shape c.names c.places (contents c.blocks) s2 (claims c.calls) same h.locked;
  in_flight = subst (λ (s : State). InFlight (names_like s2 c.names) s c.calls) (sym moves) (in_flight_names c.shape c.names c.places (contents c.blocks) s2 c.calls same h.in_flight);
  tails = tails;
  frames = h.frames;
  orders = h.orders;
  dies = h.dies;
  gathered = subst (λ (s : State). Gathered c.places (contents c.blocks) s c.lanes c.calls) (sym moves) (gathered_names c.places (contents c.blocks) (plain c) s2 c.lanes c.calls same h.gathered);
}
