-- Requests that are moved out of lanes, one lane after the other.
use Rattle.std.proofs.Common.{◌≡◌, ℕ, zero, suc, ◌+◌, ◌^◌, ◌<◌, ◌≤◌, List, [], ◌∷◌, ◌++◌, length, map, take, Vec, Global, refl, sym, ap, ◌∙◌, arith, length-append, get_or-set_other}
use Rattle.std.specs.Prelude.{All, get_or, slice_index_or, slice_set}
use Rattle.std.proofs.lemmas.List.{length-set, length-map, map-append, take_all}
use Rattle.std.proofs.Math.Seq.{take-suc}
use Rattle.plain_files.specs.History.{requests_of}
use Rattle.plain_files.specs.declared.calls.Request.{Request}
use Rattle.script_words.specs.declared.script.Lane.{Lane}
use Rattle.script_words.specs.Lanes.{requests_by_lane, lane_names}

-- the requests of a vector
abbrev listed : Vec Request Global → List Request
listed v = v.items

-- so many lanes have lost their requests; the names stay
pub record AreMoved (olds lanes : List Lane) (moved : List (Vec Request Global)) (k : ℕ) : Type 0 where
  pub count : length moved ≡ k
  pub long : length lanes ≡ length olds
  pub items : map (λ v. v.items) moved ≡ take k (requests_by_lane olds)
  pub names : lane_names lanes ≡ lane_names olds
  pub kept : (j : ℕ) (d : Lane) → k ≤ j → j < length olds → slice_index_or lanes j d ≡ slice_index_or olds j d

pub none_moved : (olds : List Lane) (moved : List (Vec Request Global)) → moved ≡ [] → AreMoved olds olds moved 0
none_moved olds moved e = record {
  count = ap length e;
  long = refl;
  items = ap (map listed) e;
  names = refl;
  kept = λ j d low l. refl;
}

names_kept : (xs : List Lane) (k : ℕ) (d new : Lane) → k < length xs → new.name ≡ (slice_index_or xs k d).name → lane_names (slice_set xs k new) ≡ lane_names xs
names_kept [] k d new l e = refl
names_kept (x ∷ xs) zero d new l e = ap (λ (n : List ℕ). n ∷ lane_names xs) e
names_kept (x ∷ xs) (suc k) d new l e = ap (λ (ns : List (List ℕ)). x.name ∷ ns) (names_kept xs k d new (omega arith) e)

requests_at : (xs : List Lane) (k : ℕ) (d : Lane) → k < length xs → get_or (requests_by_lane xs) k [] ≡ (slice_index_or xs k d).requests
requests_at [] k d l = absurd (omega arith)
requests_at (x ∷ xs) zero d l = refl
requests_at (x ∷ xs) (suc k) d l = requests_at xs k d (omega arith)

pub moved_on : (olds lanes : List Lane) (moved : List (Vec Request Global)) (k : ℕ) (item new : Lane) (v : Vec Request Global) → AreMoved olds lanes moved k → k < length olds →
    v.items ≡ (slice_index_or lanes k item).requests → new.name ≡ (slice_index_or lanes k item).name → AreMoved olds (slice_set lanes k new) (moved ++ v ∷ []) (k + 1)
moved_on olds lanes moved k item new v m low own named =
    let long = m.long in
    let few : length (requests_by_lane olds) ≡ length olds = length-map olds (λ lane. lane.requests) in
    let next : suc k ≡ k + 1 = omega arith in
    record {
      count = let c = m.count in omega (arith, length-append moved (v ∷ []));
      long = length-set lanes k new ∙ m.long;
      items =
          map-append listed moved (v ∷ [])
          ∙ (ap (λ (xs : List (List Request)). xs ++ v.items ∷ []) m.items
          ∙ (ap (λ (r : List Request). take k (requests_by_lane olds) ++ r ∷ []) (own ∙ (ap (λ (z : Lane). z.requests) (m.kept k item (omega arith) low) ∙ sym (requests_at olds k item low)))
          ∙ (sym (take-suc (requests_by_lane olds) k [] (omega arith)) ∙ ap (λ (n : ℕ). take n (requests_by_lane olds)) next)));
      names = names_kept lanes k item new (omega arith) named ∙ m.names;
      kept = λ j d from l. get_or-set_other lanes k j new d (λ e. absurd (omega arith)) ∙ m.kept j d (omega arith) l;
    }

pub all_moved : (olds lanes : List Lane) (moved : List (Vec Request Global)) (k : ℕ) → AreMoved olds lanes moved k → length olds ≤ k → map (λ v. v.items) moved ≡ requests_by_lane olds
all_moved olds lanes moved k m high =
    let few : length (requests_by_lane olds) ≡ length olds = length-map olds (λ lane. lane.requests) in
    m.items ∙ take_all k (requests_by_lane olds) (omega arith)

-- ---- how many there are

items_at : (vs : List (Vec Request Global)) (k : ℕ) (d : Vec Request Global) → k < length vs → requests_of (map listed vs) k ≡ (slice_index_or vs k d).items
items_at [] k d l = absurd (omega arith)
items_at (v ∷ vs) zero d l = refl
items_at (v ∷ vs) (suc k) d l = items_at vs k d (omega arith)

pub all_short : (vs : List (Vec Request Global)) (lanes : List (List Request)) → map (λ v. v.items) vs ≡ lanes → ((lane : ℕ) → length (requests_of lanes lane) ≤ 10000) → All (λ v. length v.items < 2 ^ 32) vs
all_short vs lanes is few = λ k d low.
    let at : requests_of lanes k ≡ (slice_index_or vs k d).items = ap (λ (rs : List (List Request)). requests_of rs k) (sym is) ∙ items_at vs k d low in
    let most = few k in
    let same : length (requests_of lanes k) ≡ length (slice_index_or vs k d).items = ap length at in
    omega arith

pub count_of : (vs : List (Vec Request Global)) (lanes : List (List Request)) → map (λ v. v.items) vs ≡ lanes → length vs ≡ length lanes
count_of vs lanes is = sym (length-map vs listed) ∙ ap length is
