-- Of a run's calls, which ones found no memory.
use Rattle.std.proofs.Common.{◌≡◌, ℕ, zero, suc, ◌+◌, Bool, true, false, List, [], ◌∷◌, ◌++◌, Option, None, refl, ap, ◌∙◌, subst}
use Rattle.std.specs.Prelude.{not, is_some, if◌then◌else◌, map}
use Rattle.std.specs.List.{range_with_len}
use Rattle.plain_files.specs.declared.calls.Request.{Request}
use Rattle.core_state.specs.declared.event.Event.{Event}
use Rattle.core_state.specs.declared.event.Event.TheVariants.{Enter, Leave, Quick, Skip, Begin, Copy, Take, DieOut, FillIn, Submit, Fetch, Report, End, Evict, Demote, FlushOut, FlushIn, MetaIn}
use Rattle.core_state.specs.State.{Page, Core}
use Rattle.core_state.specs.Coherent.{Coherent}
use Rattle.core_state.specs.Happens.{CoreRun, after, after_all}
use Rattle.core_state.specs.History.{request_of}
use Rattle.core_solo.specs.Solo.{Steps, IsStep, SoloCall, SoloEnd, SoloRun, Script, enters, leaves}
use Rattle.core_solo.specs.Alone.{IsAtRest}
use Rattle.core_solo.specs.Served.{is_starved, starved_of}
use Rattle.core_lemmas.proofs.Words.{nothing}
use Rattle.core_solo.proofs.Alike.{sync_says}
use Rattle.core_solo.proofs.Asks.{Asks, asks_of, steps_ask}
use Rattle.core_solo.proofs.Bounds.{run_begins}

pub starved_both : (xs ys : List Event) → starved_of (xs ++ ys) ≡ starved_of xs ++ starved_of ys
starved_both [] ys = refl
starved_both (x ∷ xs) ys = go (is_some (request_of x)) (starved_both xs ys)
  where
    go : (t : Bool) → starved_of (xs ++ ys) ≡ starved_of xs ++ starved_of ys → (if t then is_starved x ∷ starved_of (xs ++ ys) else starved_of (xs ++ ys)) ≡ (if t then is_starved x ∷ starved_of xs else starved_of xs) ++ starved_of ys
    go true ih = ap (λ (bs : List Bool). is_starved x ∷ bs) ih
    go false ih = ih

none_false : {A : Type 0} (o : Option A) → o ≡ None → is_some o ≡ false
none_false o e = ap is_some e

steps_fed : (encode : Core → ℕ → Page) (es : List Event) (c : Core) (lane : ℕ) (asked : Request) → Steps (IsStep encode lane asked) c es → starved_of es ≡ []
steps_fed encode [] c lane asked s = refl
steps_fed encode (e ∷ es) c lane asked s =
    ap (λ (t : Bool). if t then is_starved e ∷ starved_of es else starved_of es) (none_false (request_of e) s.0.open_still) ∙ steps_fed encode es (after c e) lane asked s.1

answer_fed : (e : Event) (asked : Request) → Asks asked e → is_some (request_of e) ≡ true → starved_of (e ∷ []) ≡ false ∷ []
answer_fed (Quick l r reply) asked k a = refl
answer_fed (Skip l r fault) asked k a = ap (λ (t : Bool). not t ∷ []) k.1
answer_fed (End l r reply) asked k a = refl
answer_fed (Enter l) asked k a = absurd (cc)
answer_fed (Leave l) asked k a = absurd (cc)
answer_fed (Begin l r side) asked k a = absurd (cc)
answer_fed (Copy actor l i) asked k a = absurd (cc)
answer_fed (Take actor l i) asked k a = absurd (cc)
answer_fed (DieOut actor die purpose) asked k a = absurd (cc)
answer_fed (FillIn actor die good) asked k a = absurd (cc)
answer_fed (Submit l) asked k a = absurd (cc)
answer_fed (Fetch worker l) asked k a = absurd (cc)
answer_fed (Report worker l) asked k a = absurd (cc)
answer_fed (Evict actor side b) asked k a = absurd (cc)
answer_fed (Demote actor b) asked k a = absurd (cc)
answer_fed (FlushOut actor die b) asked k a = absurd (cc)
answer_fed (FlushIn actor die good left) asked k a = absurd (cc)
answer_fed (MetaIn actor die good left) asked k a = absurd (cc)

pub call_fed : (encode : Core → ℕ → Page) (es : List Event) (c c1 : Core) (lane : ℕ) (asked : Request) → Coherent c → IsAtRest c → SoloCall encode c lane asked es → CoreRun c es c1 → starved_of es ≡ false ∷ []
call_fed encode es c c1 lane asked h rest call run =
    let parts = run_begins call.most (call.last ∷ []) c c1 (subst (λ (xs : List Event). CoreRun c xs c1) call.whole run) in
    let at = after_all c call.most in
    let a2 = steps_ask encode call.most c lane asked h call.steps parts.0 (λ x e. absurd (nothing (c.calls lane) x (rest.still lane) e)) in
    let k = asks_of encode at lane asked call.last a2 call.next in
    ap starved_of call.whole ∙ (starved_both call.most (call.last ∷ []) ∙ (ap (λ (bs : List Bool). bs ++ starved_of (call.last ∷ [])) (steps_fed encode call.most c lane asked call.steps) ∙ answer_fed call.last asked k call.answers))

pub heads : (a b : Bool) (xs ys : List Bool) → a ∷ xs ≡ b ∷ ys → (a ≡ b) × (xs ≡ ys)
heads a b xs ys e = (cc, cc)

enters_say : (n a : ℕ) → starved_of (map (λ lane. Enter lane) (range_with_len a n)) ≡ []
enters_say zero a = refl
enters_say (suc n) a = enters_say n (a + 1)

leaves_say : (n a : ℕ) → starved_of (map (λ lane. Leave lane) (range_with_len a n)) ≡ []
leaves_say zero a = refl
leaves_say (suc n) a = leaves_say n (a + 1)

end_says : (encode : Core → ℕ → Page) (t : Bool) (c : Core) (es : List Event) → SoloEnd encode t c es → starved_of es ≡ []
end_says encode true c es s = sync_says encode es c s
end_says encode false c es s = ap starved_of s

nil_left : (xs ys : List Bool) → xs ≡ [] → xs ++ ys ≡ ys
nil_left xs ys e = ap (λ (zs : List Bool). zs ++ ys) e

append_none : (xs : List Bool) → xs ++ [] ≡ xs
append_none [] = refl
append_none (x ∷ xs) = ap (λ (ys : List Bool). x ∷ ys) (append_none xs)

pub starved_lines : (encode : Core → ℕ → Page) (c0 c1 : Core) (script : Script) (last : Bool) (events : List Event) (r : SoloRun encode c0 script last events c1) → starved_of events ≡ starved_of r.lines
starved_lines encode c0 c1 script last events r =
    let n = c0.shape.lanes in
    ap starved_of r.parts ∙ (starved_both (enters n) (r.lines ++ (leaves n ++ r.settling)) ∙ (nil_left (starved_of (enters n)) (starved_of (r.lines ++ (leaves n ++ r.settling))) (enters_say n 0)
    ∙ (starved_both r.lines (leaves n ++ r.settling) ∙ (ap (λ (bs : List Bool). starved_of r.lines ++ bs) (starved_both (leaves n) r.settling ∙ (nil_left (starved_of (leaves n)) (starved_of r.settling) (leaves_say n 0) ∙ end_says encode last _ r.settling r.ending))
    ∙ append_none (starved_of r.lines)))))
