-- Work that is shared out to passes and gathered again.
use Rattle.std.proofs.Common.{◌≡◌, ◌≢◌, ℕ, ◌+◌, ◌<◌, cond, List, [], ◌∷◌, ◌++◌, length, slice_index_or, sym, refl, ap, ◌∙◌, subst, arith, suc, length-append, eq-eqb, ne_eqb}
use mathlib.Core.Logic.{dite}
use mathlib.Core.List.{map-append}
use native.Mathlib.Decide.{ℕ_discrete}
use Rattle.std.proofs.Math.ListN.{drop_of_length-le}
use Rattle.std.proofs.lemmas.List.{append-nil, take_all, get_or_push, get_or_append_left}
use Rattle.std.proofs.lemmas.List.Sums.{fold_more}
use Rattle.std.specs.Prelude.{IsSome, All, take, drop, sum}
use Rattle.turn_example.specs.Crew.{IsReady, IsDone}
use Rattle.std.specs.declared.option.Option.TheVariants.{None, Some}
use Rattle.turn_cell.proofs.Plain.{un_some}
use Rattle.turn_cell.specs.declared.pass.Pass.{Pass}
use Rattle.turn_cell.specs.declared.turn.Turn.{Turn}
use Rattle.turn_cell.specs.Passes.{view, IsPassOf, IsFree}
use Rattle.turn_example.specs.declared.counter.Counter.{Counter}
use Rattle.turn_cell.specs.declared.view.Joined.{Joined}
use Rattle.turn_cell.specs.declared.view.View.{View}
use Rattle.turn_cell.specs.Events.{events_of}
use Rattle.turn_cell.specs.History.{entry}
use Rattle.turn_cell.specs.Teams.{without, left_of, right_of, joined_of, joined_to}
use Rattle.turn_example.specs.Counting.{adding, start_of, sum_of}
use Rattle.turn_example.specs.Ends.{IsSpent}
use Rattle.turn_example.specs.Shares.{Each, IsNew, IsServed, IsFreeJob, IsSharing, IsGathering, all_in, actors_of, amount_sum, joined_sum}
use Rattle.turn_example.specs.declared.counter.Add.{Add}
use Rattle.turn_example.specs.declared.counter.Start.{Start}
use Rattle.turn_example.specs.declared.job.Job.{Job}

abbrev V : Type 0
V = View Start Add

pub each_push : (P : ℕ → Job → Type 0) (js : List Job) (j : Job) → Each P js → P (length js) j → Each P (js ++ j ∷ [])
each_push P js j all is k d l = let long = length-append js (j ∷ []) in dite (ℕ_discrete k (length js))
    (λ e. subst (λ (z : ℕ × Job). P z.0 z.1) (λ i. (sym e i, sym (get_or_push js j d k (sym e)) i)) is)
    (λ ne. let below : k < length js = omega arith in subst (λ (z : Job). P k z) (sym (get_or_append_left js (j ∷ []) d k below)) (all k d below))

pub each_init : (P : ℕ → Job → Type 0) (js : List Job) (j : Job) → Each P (js ++ j ∷ []) → Each P js
each_init P js j all k d l = let long = length-append js (j ∷ []) in subst (λ (z : Job). P k z) (get_or_append_left js (j ∷ []) d k l) (all k d (omega arith))

pub each_last : (P : ℕ → Job → Type 0) (js : List Job) (j : Job) → Each P (js ++ j ∷ []) → P (length js) j
each_last P js j all = let long = length-append js (j ∷ []) in subst (λ (z : Job). P (length js) z) (get_or_push js j j (length js) refl) (all (length js) j (omega arith))

pub amounts_push : (js : List Job) (j : Job) → amount_sum (js ++ j ∷ []) ≡ amount_sum js + j.amount
amounts_push [] j = omega arith
amounts_push (x ∷ xs) j = let i = amounts_push xs j in omega arith

pub joined_push : (xs : List (Joined Add)) (x : Joined Add) → joined_sum (xs ++ x ∷ []) ≡ joined_sum xs + sum_of (events_of x.entries)
joined_push [] x = omega arith
joined_push (y ∷ ys) x = let i = joined_push ys x in omega arith

pub actors_push : (js : List Job) (j : Job) → actors_of (js ++ j ∷ []) ≡ actors_of js ++ j.actor ∷ []
actors_push js j = map-append (λ (z : Job). z.actor) js (j ∷ [])

pub dropped : (js : List Job) (n : ℕ) → Each (λ _ j. j.actor ≢ n) js → without n (actors_of js ++ n ∷ []) ≡ actors_of js
dropped [] n all = ap (λ b. cond b [] (n ∷ [])) (eq-eqb n n refl)
dropped (j ∷ js) n all = ap (λ b. cond b (without n (actors_of js ++ n ∷ [])) (j.actor ∷ without n (actors_of js ++ n ∷ []))) (ne_eqb j.actor n (all 0 j (omega arith)))
    ∙ ap (λ z. j.actor ∷ z) (dropped js n (λ k d l. all (suc k) d (omega arith)))

-- one more job for which a pass was split
pub shared_on : (turn : Turn Counter Start Add) (js : List Job) (j : Job) (root root' : Pass Counter Start Add) → IsSharing turn js root → Each (IsNew turn) js → (IsPassOf start_of turn root' × IsFree root' × (view root' ≡ left_of (view root)))
    → ((p : Pass Counter Start Add) × IsFreeJob turn j p × (view p ≡ right_of (view root))) → j.actor ≡ length js + 1 → IsSharing turn (js ++ j ∷ []) root' × Each (IsNew turn) (js ++ j ∷ [])
unfolding IsNew
shared_on turn js j root root' g all t h actor =
    let e = t.2 in let long = length-append js (j ∷ []) in let count = g.5 in (
      (
        (t.0, t.1),
        ap (λ (v : V). v.number) e ∙ g.1,
        ap (λ (v : V). v.alone) e ∙ g.2,
        ap (λ (v : V). v.own) e ∙ g.3,
        ap (λ (v : V). v.joined) e ∙ g.4,
        ap (λ (v : V). v.passes) e ∙ omega arith,
        ap (λ (v : V). v.split) e ∙ ((λ i. g.6 i ++ (count ∙ sym actor) i ∷ []) ∙ sym (actors_push js j)),
        ap (λ (v : V). v.first) e ∙ g.7,
      ),
      each_push (IsNew turn) js j all (h.0, h.1, ap (λ (v : V). v.alone) h.2 ∙ g.2, ap (λ (v : V). v.number) h.2 ∙ count, ap (λ (v : V). v.own) h.2, actor, ap (λ (v : V). v.first) h.2 ∙ g.7),
    )

-- the last job's pass is joined
pub joined_last : (turn : Turn Counter Start Add) (js : List Job) (j : Job) (root root' q : Pass Counter Start Add) → IsGathering turn (js ++ j ∷ []) root → Each (IsServed turn) (js ++ j ∷ []) → j.pass ≡ Some q → IsSome j.total
    → (IsPassOf start_of turn root' × IsFree root') → view root' ≡ joined_to (view root) (view q) → IsGathering turn js root' × (all_in js root' ≡ all_in (js ++ j ∷ []) root)
unfolding IsServed
joined_last turn js j root root' q g all is done t e =
    let s = each_last (IsServed turn) js j all in
    let same : s.0 ≡ q = un_some (sym s.1.0 ∙ is) in
    let made = s.3 done in
    let number : (view q).number ≡ j.actor = ap (λ (p : Pass Counter Start Add). (view p).number) (sym same) ∙ made.0 in
    let own : (view q).own ≡ entry j.actor (adding j.actor j.amount) ∷ [] = ap (λ (p : Pass Counter Start Add). (view p).own) (sym same) ∙ made.1 in
    let last = s.2 in
    let others : Each (λ _ x. x.actor ≢ j.actor) js = λ k d l eq. let a = (each_init (IsServed turn) js j all k d l).2 in omega arith in
    let added : sum_of (events_of (view q).own) ≡ j.amount + 0 = ap (λ h. sum_of (events_of h)) own in
    let sum : joined_sum (view root').joined ≡ joined_sum (view root).joined + sum_of (events_of (view q).own) = ap (λ (v : V). joined_sum v.joined) e ∙ joined_push (view root).joined (joined_of (view q)) in
    let amounts = amounts_push js j in (
      (
        t,
        ap (λ (v : V). v.number) e ∙ g.1,
        ap (λ (v : V). v.own) e ∙ g.2,
        ap (λ (v : V). v.split) e ∙ ((λ i. without (number i) ((g.3 ∙ actors_push js j) i)) ∙ dropped js j.actor others),
      ),
      omega arith,
    )

-- where the last job tells no total, its pass found the turn worn
pub worn_last : (turn : Turn Counter Start Add) (js : List Job) (j : Job) (q : Pass Counter Start Add) → Each (IsServed turn) (js ++ j ∷ []) → j.pass ≡ Some q → j.total ≡ None → IsPassOf start_of turn q × IsSpent q
unfolding IsServed
worn_last turn js j q all is none =
    let s = each_last (IsServed turn) js j all in
    let same : s.0 ≡ q = un_some (sym s.1.0 ∙ is) in
    subst (λ (p : Pass Counter Start Add). IsPassOf start_of turn p × IsSpent p) same (s.1.1, (s.4, s.5 none))

-- the pass of the last job
pub pass_last : (turn : Turn Counter Start Add) (js : List Job) (j : Job) → Each (IsServed turn) (js ++ j ∷ []) → j.pass ≡ None → ⊥
unfolding IsServed
pass_last turn js j all none = let s = each_last (IsServed turn) js j all in let is = s.1.0 in cc

-- a new job is ready
pub ready_all : (turn : Turn Counter Start Add) (js : List Job) → Each (IsNew turn) js → All (λ j. IsReady turn j) js
unfolding IsNew IsReady
ready_all turn js all k d l = let n = all k d l in (n.0, n.1.0, (n.1.1, n.1.2, n.2), n.3 ∙ sym n.5)

served_one : (turn : Turn Counter Start Add) (k : ℕ) (j j' : Job) → IsNew turn k j → IsDone turn j j' → IsServed turn k j'
unfolding IsNew IsDone IsServed
served_one turn k j j' n d =
    let same : d.0 ≡ n.0 = un_some (sym d.2 ∙ n.1.0) in
    let actor : j'.actor ≡ k + 1 = d.4 ∙ n.5 in
    let number : (view d.0).number ≡ j'.actor = ap (λ (p : Pass Counter Start Add). (view p).number) same ∙ (n.3 ∙ sym actor) in
    let bare : (view d.0).own ≡ [] = ap (λ (p : Pass Counter Start Add). (view p).own) same ∙ n.4 in
    (d.1, (d.3, d.6.0, d.6.1), actor, λ some. let a = d.7 some in (ap (λ (v : V). v.number) a.2 ∙ number, a.1 ∙ (λ i. bare i ++ entry (number i) (adding (sym d.4 i) (sym d.5 i)) ∷ [])), d.8 ∙ ap (λ (p : Pass Counter Start Add). (view p).first) same ∙ n.6, d.9)

pub served_all : (turn : Turn Counter Start Add) (js ks : List Job) → length ks ≡ length js → Each (IsNew turn) js → ((i : ℕ) (d : Job) → i < length js → IsDone turn (slice_index_or js i d) (slice_index_or ks i d)) → Each (IsServed turn) ks
served_all turn js ks long all done k d l = let l' : k < length js = subst (λ z. k < z) long l in served_one turn k (slice_index_or js k d) (slice_index_or ks k d) (all k d l') (done k d l')

-- what was done keeps the actors and the amounts
pub same_work : (turn : Turn Counter Start Add) (js ks : List Job) → length ks ≡ length js → ((i : ℕ) (d : Job) → i < length js → IsDone turn (slice_index_or js i d) (slice_index_or ks i d)) → (actors_of ks ≡ actors_of js) × (amount_sum ks ≡ amount_sum js)
unfolding IsDone
same_work turn [] [] long done = (refl, refl)
same_work turn [] (k ∷ ks) long done = absurd (omega arith)
same_work turn (j ∷ js) [] long done = absurd (omega arith)
same_work turn (j ∷ js) (k ∷ ks) long done = let first = done 0 j (omega arith) in let rest = same_work turn js ks (omega arith) (λ i d l. done (suc i) d (omega arith)) in
    ((λ i. first.4 i ∷ rest.0 i), (λ i. first.5 i + rest.1 i))

-- from the split passes to those that are to be joined
pub gathering : (turn : Turn Counter Start Add) (js ks : List Job) (root : Pass Counter Start Add) → IsSharing turn js root → actors_of ks ≡ actors_of js → IsGathering turn ks root
gathering turn js ks root s same = (s.0, s.1, s.3, s.6 ∙ sym same)

pub all_joined : (js ks : List Job) (root root' : Pass Counter Start Add) (total : ℕ) → (view root).joined ≡ [] → amount_sum ks ≡ amount_sum js → amount_sum js ≡ total → all_in [] root' ≡ all_in ks root → joined_sum (view root').joined ≡ total
all_joined js ks root root' total bare same is e = let none = ap joined_sum bare in omega arith

pub sum_more : (xs : List ℕ) (i : ℕ) → i < length xs → sum (take (i + 1) xs) ≡ sum (take i xs) + slice_index_or xs i 0
sum_more xs i l = fold_more (λ a x. a + x) 0 xs i 0 l

-- a slice of the whole length put back into its list
still_all : (js ks : List Job) (n : ℕ) → length ks ≡ length js → n ≡ length js → take n (ks ++ drop (length ks) js) ≡ ks
still_all js ks n long is = let none : drop (length ks) js ≡ [] = drop_of_length-le js (omega arith) in ap (λ z. take n (ks ++ z)) none ∙ (ap (take n) (append-nil ks) ∙ take_all n ks (omega arith))

abbrev Done : Turn Counter Start Add → List Job → List Job → Type 0
Done turn js ks = (i : ℕ) (d : Job) → i < length js → IsDone turn (slice_index_or js i d) (slice_index_or ks i d)

pub gathering_after : (turn : Turn Counter Start Add) (js ks : List Job) (n : ℕ) (root : Pass Counter Start Add) → IsSharing turn js root → length ks ≡ length js → n ≡ length js → Done turn js ks → IsGathering turn (take n (ks ++ drop (length ks) js)) root
gathering_after turn js ks n root s long is done = gathering turn js (take n (ks ++ drop (length ks) js)) root s (ap actors_of (still_all js ks n long is) ∙ (same_work turn js ks long done).0)

pub served_after : (turn : Turn Counter Start Add) (js ks : List Job) (n : ℕ) → Each (IsNew turn) js → length ks ≡ length js → n ≡ length js → Done turn js ks → Each (IsServed turn) (take n (ks ++ drop (length ks) js))
served_after turn js ks n all long is done = subst (λ (z : List Job). Each (IsServed turn) z) (sym (still_all js ks n long is)) (served_all turn js ks long all done)

pub joined_after : (turn : Turn Counter Start Add) (js ks : List Job) (n total : ℕ) (root root' : Pass Counter Start Add) → IsSharing turn js root → length ks ≡ length js → n ≡ length js → Done turn js ks → amount_sum js ≡ total → all_in [] root' ≡ all_in (take n (ks ++ drop (length ks) js)) root
    → joined_sum (view root').joined ≡ total
joined_after turn js ks n total root root' s long is done sums e = all_joined js (take n (ks ++ drop (length ks) js)) root root' total s.4 (ap amount_sum (still_all js ks n long is) ∙ (same_work turn js ks long done).1) sums e
