-- What an actor holds of dies, where another actor's die goes out or comes home, and a page of that die changes.
use Rattle.std.proofs.Common.{◌≡◌, ℕ, ◌+◌, ◌-◌, ◌*◌, ◌<◌, Bool, true, false, List, Option, Some, None, refl, sym, ap, ◌∙◌, subst, ⊎_elim, arith}
use Rattle.std.specs.Prelude.{◌≢◌, ◌%◌, nat_lt, if◌then◌else◌}
use mathlib.Core.Path.{fun_ext}
use Rattle.std.proofs.lemmas.Bool.Decides.{nat_tests}
use Rattle.std.proofs.lemmas.Nat.{mod-mul-add}
use Rattle.page_base.specs.Drive.{meta_pages, total_pages, die_share}
use Rattle.index_lists.specs.Words.{put}
use Rattle.index_lists.proofs.Counts.{same_or_not}
use Rattle.index_lists.proofs.Puts.{put-same, put-other}
use Rattle.core_quick.specs.Actor.{Actor}
use Rattle.core_quick.specs.Words.{from_fn}
use Rattle.core_quick.specs.State.{Page, Shape, Block, Out, DieState}
use Rattle.core_quick.specs.Contents.{die_of, die_of_page, image_page, die_pages, flashes}
use Rattle.core_quick.specs.Hold.{HeldDie, die_held, dies_held}
use Rattle.core_hold.proofs.Actors.{held_by}

-- ---- pages of other dies

-- the same pages, but on one die
abbrev pub SamePages : Shape → (ℕ → Page) → (ℕ → Page) → (ℕ → Page) → (ℕ → Page) → ℕ → Type 0
SamePages shape meta meta2 flash flash2 die = (p : ℕ) → p % shape.dies ≢ die → image_page shape meta2 flash2 p ≡ image_page shape meta flash p

pub pages_same : (shape : Shape) (meta flash : ℕ → Page) (die : ℕ) → SamePages shape meta meta flash flash die
pages_same shape meta flash die p n = refl

pub pages_meta : (shape : Shape) (meta flash : ℕ → Page) (number : ℕ) (page : Page) → SamePages shape meta (put meta number page) flash flash (die_of_page shape number)
pages_meta shape meta flash number page p n = ap (λ (w : Page). if nat_lt p (meta_pages shape.blocks) then w else flash (p - meta_pages shape.blocks)) (put-other meta number page p (λ e. n (ap (λ (k : ℕ). k % shape.dies) e)))

place_of : (p m b : ℕ) → nat_lt p m ≡ false → p - m ≡ b → p ≡ m + b
place_of p m b f e = let k : (p < m) → ⊥ = grind (arith, nat_tests) in omega arith

pub pages_flash : (shape : Shape) (meta : ℕ → Page) (blocks : ℕ → Block) (b : ℕ) (y : Block) → SamePages shape meta meta (flashes blocks) (flashes (put blocks b y)) (die_of shape b)
pages_flash shape meta blocks b y p n = go (nat_lt p (meta_pages shape.blocks)) refl
  where
    go : (t : Bool) → nat_lt p (meta_pages shape.blocks) ≡ t → (if t then meta p else flashes (put blocks b y) (p - meta_pages shape.blocks)) ≡ (if t then meta p else flashes blocks (p - meta_pages shape.blocks))
    go true e = refl
    go false e = ap (λ (w : Block). w.flash) (put-other blocks b y (p - meta_pages shape.blocks) (λ s. n (ap (λ (k : ℕ). k % shape.dies) (place_of p (meta_pages shape.blocks) b e s))))

others_pages : (shape : Shape) (meta meta2 flash flash2 : ℕ → Page) (die d : ℕ) → SamePages shape meta meta2 flash flash2 die → d ≢ die → d < shape.dies → die_pages shape meta2 flash2 d ≡ die_pages shape meta flash d
others_pages shape meta meta2 flash flash2 die d same n l =
    ap (λ (f : ℕ → Page). from_fn (die_share (total_pages shape.blocks) shape.dies d) f) (fun_ext (λ k. same (k * shape.dies + d) (λ e. n (sym (mod-mul-add k shape.dies d l) ∙ e))))

-- ---- one die

die_not_held : (a : Actor) (die : DieState) (pages : List Page) (o : Option Out) → held_by a o ≡ false → die_held a die pages o ≡ None
die_not_held a die pages None e = refl
die_not_held a die pages (Some out) e =
    ap (λ (t : Bool). if t then Some (record { errand = out.errand; pages = pages; fills = die.fills; writes = die.writes; failed = die.failed }) else None) e

none_if : (t : Bool) (u : Option HeldDie) → u ≡ None → (if t then u else None) ≡ None
none_if true u e = e
none_if false u e = refl

same_if : (t : Bool) (u v : Option HeldDie) → (t ≡ true → u ≡ v) → (if t then u else None) ≡ (if t then v else None)
same_if true u v e = e refl
same_if false u v e = refl

below : (d n : ℕ) → nat_lt d n ≡ true → d < n
below d n e = grind (arith, nat_tests)

-- a die that the actor held neither before nor after
pub dies_put : (shape : Shape) (meta meta2 flash flash2 : ℕ → Page) (dies : ℕ → DieState) (die : ℕ) (x : DieState) (a : Actor) → held_by a (dies die).out ≡ false → held_by a x.out ≡ false →
    SamePages shape meta meta2 flash flash2 die → dies_held shape meta2 flash2 (put dies die x) a ≡ dies_held shape meta flash dies a
dies_put shape meta meta2 flash flash2 dies die x a before now same = fun_ext (λ d. ⊎_elim (at d) (elsewhere d) (same_or_not d die))
  where
    here : (w : DieState) → w ≡ x → (if nat_lt die shape.dies then die_held a w (die_pages shape meta2 flash2 die) w.out else None) ≡ dies_held shape meta flash dies a die
    here w e =
        none_if (nat_lt die shape.dies) (die_held a w (die_pages shape meta2 flash2 die) w.out) (die_not_held a w (die_pages shape meta2 flash2 die) w.out (ap (λ (v : DieState). held_by a v.out) e ∙ now))
        ∙ sym (none_if (nat_lt die shape.dies) (die_held a (dies die) (die_pages shape meta flash die) (dies die).out) (die_not_held a (dies die) (die_pages shape meta flash die) (dies die).out before))

    at : (d : ℕ) → d ≡ die → dies_held shape meta2 flash2 (put dies die x) a d ≡ dies_held shape meta flash dies a d
    at d e = subst (λ (k : ℕ). dies_held shape meta2 flash2 (put dies die x) a k ≡ dies_held shape meta flash dies a k) (sym e) (here (put dies die x die) (put-same dies die x))

    elsewhere : (d : ℕ) → d ≢ die → dies_held shape meta2 flash2 (put dies die x) a d ≡ dies_held shape meta flash dies a d
    elsewhere d n =
        ap (λ (w : DieState). if nat_lt d shape.dies then die_held a w (die_pages shape meta2 flash2 d) w.out else None) (put-other dies die x d n)
        ∙ same_if (nat_lt d shape.dies) (die_held a (dies d) (die_pages shape meta2 flash2 d) (dies d).out) (die_held a (dies d) (die_pages shape meta flash d) (dies d).out)
        (λ e. ap (λ (pages : List Page). die_held a (dies d) pages (dies d).out) (others_pages shape meta meta2 flash flash2 die d same n (below d shape.dies e)))
