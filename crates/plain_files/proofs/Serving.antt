-- Where a history serves lanes, each of its entries has a request, which is the next of its lane: so no entry escapes
-- what `Serves` says of awaited calls.
use Rattle.std.proofs.Common.{◌≡◌, ℕ, List, [], ◌∷◌, ◌++◌, length, map, cond, eqb, true, false, Option, Some, None, refl, ap, ◌∙◌, sym}
use Rattle.std.specs.Prelude.{slice_get, option_map}
use Rattle.std.proofs.lemmas.Bool.{cond-true, eq-eqb}
use Rattle.std.proofs.lemmas.Option.{slice_get-map}
use Rattle.plain_files.specs.declared.calls.Call.{Call}
use Rattle.plain_files.specs.declared.calls.Request.{Request}
use Rattle.plain_files.specs.History.{Entry, calls_in, requests_of, Serves}

-- the calls of a lane in two parts of a history
pub calls_in-append : (lane : ℕ) (xs ys : List Entry) → calls_in lane (xs ++ ys) ≡ calls_in lane xs ++ calls_in lane ys
calls_in-append lane [] ys = refl
calls_in-append lane (x ∷ xs) ys =
    elim (eqb x.lane lane) as (λ b. cond b (x.call ∷ calls_in lane (xs ++ ys)) (calls_in lane (xs ++ ys)) ≡ cond b (x.call ∷ calls_in lane xs) (calls_in lane xs) ++ calls_in lane ys) [
      | true ↦ ap (λ calls. x.call ∷ calls) (calls_in-append lane xs ys)
      | false ↦ calls_in-append lane xs ys
    ]

-- what stands behind a list
slice_get-append_seam : {A : Type 0} → (xs : List A) (y : A) (ys : List A) → slice_get (xs ++ y ∷ ys) (length xs) ≡ Some y
slice_get-append_seam [] y ys = refl
slice_get-append_seam (x ∷ xs) y ys = slice_get-append_seam xs y ys

request_from_call : (found : Option Request) (call : Call) → option_map (λ (r : Request). r.call) found ≡ Some call → (r : Request) × (found ≡ Some r) × (r.call ≡ call)
request_from_call None call is = cc
request_from_call (Some r) call is = (r, refl, cc)

-- the request of an entry
pub request_of_entry : (lanes : List (List Request)) (h before rest : List Entry) (e : Entry) → Serves lanes h → h ≡ before ++ e ∷ rest → (r : Request) × (slice_get (requests_of lanes e.lane) (length (calls_in e.lane before)) ≡ Some r) × (r.call ≡ e.call)
request_of_entry lanes h before rest e serves is =
    let place : ℕ = length (calls_in e.lane before) in
    let here : calls_in e.lane (e ∷ rest) ≡ e.call ∷ calls_in e.lane rest = cond-true _ _ _ (eq-eqb e.lane e.lane refl) in
    let parts : calls_in e.lane h ≡ calls_in e.lane before ++ e.call ∷ calls_in e.lane rest = ap (calls_in e.lane) is ∙ calls_in-append e.lane before (e ∷ rest) ∙ ap (λ calls. calls_in e.lane before ++ calls) here in
    let found : slice_get (map (λ (r : Request). r.call) (requests_of lanes e.lane)) place ≡ Some e.call = ap (λ calls. slice_get calls place) (sym (serves.each e.lane) ∙ parts) ∙ slice_get-append_seam (calls_in e.lane before) e.call (calls_in e.lane rest) in
    request_from_call _ e.call (sym (slice_get-map (λ (r : Request). r.call) (requests_of lanes e.lane) place) ∙ found)
