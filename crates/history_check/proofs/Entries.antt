-- Histories with one entry more.
use Rattle.std.proofs.Common.{◌≡◌, ◌⊎◌, inl, inr, ℕ, ◌+◌, List, [], ◌∷◌, ◌++◌, length, map, take, Bool, true, false, eqb, Option, Some, None, ap, subst, ◌∙◌, sym, refl, length-append}
use Rattle.std.specs.Prelude.{IsTrue, slice_get, if◌then◌else◌}
use Rattle.std.specs.Option.{option_map}
use Rattle.std.proofs.lemmas.List.{take_more, map-append}
use Rattle.std.proofs.lemmas.Option.{slice_get_cases}
use Rattle.plain_files.specs.declared.calls.Call.{Call}
use Rattle.plain_files.specs.declared.calls.Reply.{Reply}
use Rattle.plain_files.specs.declared.calls.Request.{Request}
use Rattle.plain_files.specs.Plain.{State, answer}
use Rattle.plain_files.specs.History.{Entry, Legal, calls_in}
use Rattle.history_check.specs.Held.{Moves}

-- an entry goes on where a legal history ends
pub legal_push : (s middle last : State) (h : List Entry) (e : Entry) → Legal s h middle → Moves middle e.call e.reply last → Legal s (h ++ e ∷ []) last
legal_push s middle last [] e legal moves =
    let P : State → Type 0 = λ t. Legal t (e ∷ []) last in
    subst P (sym legal) (elim moves [ inl w ↦ inl (w.0, sym w.1) | inr w ↦ inr (w.0, sym w.1) ])
legal_push s middle last (first ∷ rest) e legal moves =
    elim legal [
      | inl w ↦ inl (w.0, legal_push (answer s first.call).state middle last rest e w.1 moves)
      | inr w ↦ inr (w.0, legal_push s middle last rest e w.1 moves)
    ]

-- the calls of a lane, with an entry more
pub calls_push : (lane : ℕ) (h : List Entry) (e : Entry) → calls_in lane (h ++ e ∷ []) ≡ (if eqb e.lane lane then calls_in lane h ++ e.call ∷ [] else calls_in lane h)
calls_push lane [] e = refl
calls_push lane (first ∷ rest) e =
    elim (eqb first.lane lane) as (λ b. (if b then first.call ∷ calls_in lane (rest ++ e ∷ []) else calls_in lane (rest ++ e ∷ [])) ≡ (if eqb e.lane lane then (if b then first.call ∷ calls_in lane rest else calls_in lane rest) ++ e.call ∷ [] else (if b then first.call ∷ calls_in lane rest else calls_in lane rest))) [
      | true ↦ ap (λ cs. first.call ∷ cs) (calls_push lane rest e) ∙ chosen (eqb e.lane lane)
      | false ↦ calls_push lane rest e
    ]
  where
    chosen : (b : Bool) → first.call ∷ (if b then calls_in lane rest ++ e.call ∷ [] else calls_in lane rest) ≡ (if b then (first.call ∷ calls_in lane rest) ++ e.call ∷ [] else first.call ∷ calls_in lane rest)
    chosen true = refl
    chosen false = refl

-- the calls of a lane, with the next one
calls_next : (requests : List Request) (old : List Call) (count : ℕ) (call : Call) → option_map (λ r. r.call) (slice_get requests count) ≡ Some call → old ≡ map (λ r. r.call) (take count requests) → old ++ call ∷ [] ≡ map (λ r. r.call) (take (count + 1) requests)
calls_next requests old count call is made =
    elim (slice_get_cases requests count).1 [
      | inl w ↦
          let same : w.0.call ≡ call = let e : option_map (λ (r : Request). r.call) (Some w.0) ≡ Some call = ap (option_map (λ (r : Request). r.call)) (sym w.2) ∙ is in cc in
          ap (λ (cs : List Call). cs ++ call ∷ []) made
          ∙ ap (λ (c : Call). map (λ (r : Request). r.call) (take count requests) ++ c ∷ []) (sym same)
          ∙ sym (map-append (λ (r : Request). r.call) (take count requests) (w.0 ∷ []))
          ∙ ap (map (λ (r : Request). r.call)) (sym (take_more requests count w.0 w.1 ∙ ap (λ r. take count requests ++ r ∷ []) w.3))
      | inr w ↦ let e : option_map (λ (r : Request). r.call) None ≡ Some call = ap (option_map (λ (r : Request). r.call)) (sym w.1) ∙ is in cc
    ]

-- the same in each lane, where a test says whether it is the one that has the call
pub in_each : (here : Bool) (requests : List Request) (old : List Call) (count : ℕ) (call : Call) → (here ≡ true → option_map (λ r. r.call) (slice_get requests count) ≡ Some call) → old ≡ map (λ r. r.call) (take count requests) → (if here then old ++ call ∷ [] else old) ≡ map (λ r. r.call) (take (if here then count + 1 else count) requests)
in_each true requests old count call is made = calls_next requests old count call (is refl) made
in_each false requests old count call is made = made

-- how many they are
pub count_next : (here : Bool) (old : List Call) (count : ℕ) (call : Call) → length old ≡ count → length (if here then old ++ call ∷ [] else old) ≡ (if here then count + 1 else count)
count_next true old count call counted = length-append old (call ∷ []) ∙ ap (λ n. n + 1) counted
count_next false old count call counted = counted
