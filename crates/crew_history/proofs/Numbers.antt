-- Numbers that rise, each that of a call of the lane, and as many as the lane has calls: they are the numbers of all its calls.
use Rattle.std.proofs.Common.{◌≡◌, ℕ, ◌+◌, ◌<◌, ◌≤◌, Bool, List, [], ◌∷◌, ◌++◌, length, refl, sym, ap, ◌∙◌, subst, arith, eq-eqb, ne_eqb, append_assoc, append-nil, length-append}
use Rattle.std.specs.Prelude.{◌≢◌, if◌then◌else◌}
use mathlib.Core.Logic.{dite}
use native.Mathlib.Decide.{ℕ_discrete}
use Rattle.plain_files.specs.declared.calls.Numbered.{Numbered}
use Rattle.plain_files.specs.History.{Entry, calls_in}
use Rattle.crews.specs.Lanes.{AreLogged, IsCallOf}
use Rattle.lane_logs.specs.Logs.{replies_to}

-- ---- lists

same_place : (xs ys : List Entry) (x y : Entry) (us ws : List Entry) → xs ++ x ∷ us ≡ ys ++ y ∷ ws → length xs ≡ length ys → x ≡ y
same_place [] [] x y us ws e n = cc
same_place [] (z ∷ ys) x y us ws e n = absurd (omega arith)
same_place (z ∷ xs) [] x y us ws e n = absurd (omega arith)
same_place (z ∷ xs) (w ∷ ys) x y us ws e n = same_place xs ys x y us ws (cc) (omega arith)

-- each call is the lane's
abbrev pub AreIn : ℕ → List Entry → Type 0
AreIn l [] = Unit {0}
AreIn l (e ∷ es) = (e.lane ≡ l) × AreIn l es

-- one call more of the lane
pub here : (l : ℕ) (x : Entry) (xs : List Entry) → x.lane ≡ l → length (calls_in l (x ∷ xs)) ≡ length (calls_in l xs) + 1
here l x xs e = let k = ap (λ (b : Bool). length (if b then x.call ∷ calls_in l xs else calls_in l xs)) (eq-eqb x.lane l e) in omega arith

elsewhere : (l : ℕ) (x : Entry) (xs : List Entry) → x.lane ≢ l → length (calls_in l (x ∷ xs)) ≡ length (calls_in l xs)
elsewhere l x xs ne = ap (λ (b : Bool). length (if b then x.call ∷ calls_in l xs else calls_in l xs)) (ne_eqb x.lane l ne)

no_fewer : (l : ℕ) (x : Entry) (xs : List Entry) → length (calls_in l xs) ≤ length (calls_in l (x ∷ xs))
no_fewer l x xs = dite (ℕ_discrete x.lane l)
    (λ e. let k = here l x xs e in omega arith)
    (λ ne. let k = elsewhere l x xs ne in omega arith)

-- a lane's own calls are all of them
pub in_long : (l : ℕ) (es : List Entry) → AreIn l es → length (calls_in l es) ≡ length es
in_long l [] p = refl
in_long l (e ∷ es) p = let k = here l e es p.0 in let r = in_long l es p.1 in omega arith

-- ---- numbers

-- a call whose number is above those of all calls isn't there
beyond : (last : ℕ) (all : List Entry) (number : ℕ) (e : Entry) (floor : ℕ) → IsCallOf last all number e → floor ≡ last + length all → floor < number → ⊥
beyond last all number e floor c f low =
    let n = c.number_is in
    let long = ap length c.split in
    let parts = length-append c.before (e ∷ c.rest) in
    absurd (omega arith)

-- the call of the next number is the first of the rest
next_is : (last : ℕ) (all before xs : List Entry) (x e : Entry) (number floor : ℕ) → IsCallOf last all number e → all ≡ before ++ x ∷ xs → floor ≡ last + length before → number ≡ floor + 1 → x ≡ e
next_is last all before xs x e number floor c split f next =
    let n = c.number_is in
    same_place before c.before x e xs c.rest (sym split ∙ c.split) (omega arith)

one_on : (all before xs : List Entry) (x : Entry) → all ≡ before ++ x ∷ xs → all ≡ (before ++ x ∷ []) ++ xs
one_on all before xs x split = split ∙ sym (append_assoc before (x ∷ []) xs)

one_up : (last floor : ℕ) (before : List Entry) (x : Entry) → floor ≡ last + length before → floor + 1 ≡ last + length (before ++ x ∷ [])
one_up last floor before x f = let k = length-append before (x ∷ []) in omega arith

-- calls of the lane with numbers above those of the calls before are no more than the lane has in the rest
fits : (l last : ℕ) (all before rest : List Entry) (floor : ℕ) (log : List Numbered) (es : List Entry) → all ≡ before ++ rest → floor ≡ last + length before → AreIn l es → AreLogged last all floor log es → length es ≤ length (calls_in l rest)
fits l last all before rest floor [] [] split f own p = omega arith
fits l last all before rest floor [] (e ∷ es) split f own p = absurd p
fits l last all before rest floor (n ∷ ns) [] split f own p = absurd p
fits l last all before [] floor (n ∷ ns) (e ∷ es) split f own p = absurd (beyond last all n.number e floor p.2 (f ∙ ap (λ (z : List Entry). last + length z) (sym (split ∙ append-nil before))) p.1)
fits l last all before (x ∷ xs) floor (n ∷ ns) (e ∷ es) split f own p = dite (ℕ_discrete n.number (floor + 1))
    (λ (eq : n.number ≡ floor + 1).
    let same : x ≡ e = next_is last all before xs x e n.number floor p.2 split f eq in
    let k = here l x xs (ap (λ (z : Entry). z.lane) same ∙ own.0) in
    let r = fits l last all (before ++ x ∷ []) xs n.number ns es (one_on all before xs x split) (eq ∙ one_up last floor before x f) own.1 p.3 in
    omega arith)
    (λ (ne : n.number ≢ floor + 1).
    let low = p.1 in
    let above : floor + 1 < n.number = omega arith in
    let k = no_fewer l x xs in
    let r = fits l last all (before ++ x ∷ []) xs (floor + 1) (n ∷ ns) (e ∷ es) (one_on all before xs x split) (one_up last floor before x f) own (p.0, above, p.2, p.3) in
    omega arith)

told_here : (l floor : ℕ) (x : Entry) (xs : List Entry) → x.lane ≡ l → replies_to l floor (x ∷ xs) ≡ record { number = floor + 1; reply = x.reply } ∷ replies_to l (floor + 1) xs
told_here l floor x xs e = ap (λ (b : Bool). if b then record { number = floor + 1; reply = x.reply } ∷ replies_to l (floor + 1) xs else replies_to l (floor + 1) xs) (eq-eqb x.lane l e)

told_elsewhere : (l floor : ℕ) (x : Entry) (xs : List Entry) → x.lane ≢ l → replies_to l floor (x ∷ xs) ≡ replies_to l (floor + 1) xs
told_elsewhere l floor x xs ne = ap (λ (b : Bool). if b then record { number = floor + 1; reply = x.reply } ∷ replies_to l (floor + 1) xs else replies_to l (floor + 1) xs) (ne_eqb x.lane l ne)

-- where they are as many, they are all
told : (l last : ℕ) (all before rest : List Entry) (floor : ℕ) (log : List Numbered) (es : List Entry) → all ≡ before ++ rest → floor ≡ last + length before → AreIn l es → AreLogged last all floor log es →
    length (calls_in l rest) ≡ length es → log ≡ replies_to l floor rest
told l last all before rest floor [] (e ∷ es) split f own p long = absurd p
told l last all before rest floor (n ∷ ns) [] split f own p long = absurd p
told l last all before [] floor [] [] split f own p long = refl
told l last all before [] floor (n ∷ ns) (e ∷ es) split f own p long = absurd (omega arith)
told l last all before (x ∷ xs) floor [] [] split f own p long =
    let ne : x.lane ≢ l = λ e. let k = here l x xs e in absurd (omega arith) in
    told l last all (before ++ x ∷ []) xs (floor + 1) [] [] (one_on all before xs x split) (one_up last floor before x f) tt tt (sym (elsewhere l x xs ne) ∙ long) ∙ sym (told_elsewhere l floor x xs ne)
told l last all before (x ∷ xs) floor (n ∷ ns) (e ∷ es) split f own p long = dite (ℕ_discrete n.number (floor + 1))
    (λ (eq : n.number ≡ floor + 1).
    let same : x ≡ e = next_is last all before xs x e n.number floor p.2 split f eq in
    let mine : x.lane ≡ l = ap (λ (z : Entry). z.lane) same ∙ own.0 in
    let k = here l x xs mine in
    let first : n ≡ record { number = floor + 1; reply = x.reply } = let reply = p.0 ∙ ap (λ (z : Entry). z.reply) (sym same) in (λ i. record { number = eq i; reply = reply i }) in
    let r = told l last all (before ++ x ∷ []) xs (floor + 1) ns es (one_on all before xs x split) (one_up last floor before x f) own.1 (subst (λ (m : ℕ). AreLogged last all m ns es) eq p.3) (omega arith) in
    (λ i. first i ∷ r i) ∙ sym (told_here l floor x xs mine))
    (λ (ne : n.number ≢ floor + 1).
    let low = p.1 in
    let above : floor + 1 < n.number = omega arith in
    let again : AreLogged last all (floor + 1) (n ∷ ns) (e ∷ es) = (p.0, above, p.2, p.3) in
    let r = fits l last all (before ++ x ∷ []) xs (floor + 1) (n ∷ ns) (e ∷ es) (one_on all before xs x split) (one_up last floor before x f) own again in
    let other : x.lane ≢ l = λ q. let k = here l x xs q in absurd (omega arith) in
    told l last all (before ++ x ∷ []) xs (floor + 1) (n ∷ ns) (e ∷ es) (one_on all before xs x split) (one_up last floor before x f) own again (sym (elsewhere l x xs other) ∙ long) ∙ sym (told_elsewhere l floor x xs other))

-- the log of a lane that has all its calls in the history
pub all_told : (l last : ℕ) (all : List Entry) (log : List Numbered) (es : List Entry) → AreIn l es → AreLogged last all last log es → length (calls_in l all) ≡ length es → log ≡ replies_to l last all
all_told l last all log es own p long = told l last all [] all last log es refl (omega arith) own p long

-- ---- a longer history

call_of_more : (last number : ℕ) (all more : List Entry) (e : Entry) → IsCallOf last all number e → IsCallOf last (all ++ more) number e
call_of_more last number all more e n = record { before = n.before; rest = n.rest ++ more; split = ap (λ z. z ++ more) n.split ∙ append_assoc n.before (e ∷ n.rest) more; number_is = n.number_is }

-- what is logged of a beginning of a history is logged of it
pub logged_more : (last floor : ℕ) (all more : List Entry) (log : List Numbered) (es : List Entry) → AreLogged last all floor log es → AreLogged last (all ++ more) floor log es
logged_more last floor all more [] [] p = tt
logged_more last floor all more [] (e ∷ es) p = p
logged_more last floor all more (n ∷ ns) [] p = p
logged_more last floor all more (n ∷ ns) (e ∷ es) p = (p.0, p.1, call_of_more last n.number all more e p.2, logged_more last n.number all more ns es p.3)
