-- What dies tell that were given the pages of an image.
use Rattle.std.proofs.Common.{◌≡◌, ℕ, zero, suc, ◌<◌, List, [], ◌∷◌, length, get_or, Some, Result, Ok, Err, refl, ap, sym, subst, ◌∙◌, arith}
use Rattle.std.specs.Prelude.{IfOk}
use Rattle.page_base.specs.Drive.{die_share}
use Rattle.flash_die.specs.Dies.{DieView}
use Rattle.flash_die.specs.declared.plan.Plan.{Plan}
use Rattle.mirror_die.specs.Mirror.{made_of}
use Rattle.drive_array.specs.Cut.{cuts}
use Rattle.drive_array.specs.Mirrors.{beside}
use Rattle.drive_array.specs.Shares.{dies_of, loaded_of}
use Rattle.drive_array.specs.Reads.{die_at, HasShares, TellsPages}
use Rattle.drive_array.proofs.Cutting.{cuts_at, length-cut, length-cuts}

-- these dies tell these lists, and have as many pages
record AreTold (views : List DieView) (lists : List (List (List ℕ))) : Type 0 where
  count : length views ≡ length lists
  pages : (k : ℕ) → k < length lists → (die_at views k).pages ≡ Some (get_or lists k [])
  sizes : (k : ℕ) → k < length lists → (die_at views k).size ≡ length (get_or lists k [])

told_none : AreTold [] []
told_none = record { count = refl; pages = λ k within. absurd (omega arith); sizes = λ k within. absurd (omega arith) }

told_one : (view : DieView) (views : List DieView) (list : List (List ℕ)) (lists : List (List (List ℕ))) → view.pages ≡ Some list → view.size ≡ length list → AreTold views lists → AreTold (view ∷ views) (list ∷ lists)
told_one view views list lists pages size are = record {
  count = ap suc are.count;
  pages = pages_at;
  sizes = sizes_at;
}
  where
    pages_at : (k : ℕ) → k < length (list ∷ lists) → (die_at (view ∷ views) k).pages ≡ Some (get_or (list ∷ lists) k [])
    pages_at zero within = pages
    pages_at (suc k) within = are.pages k (omega arith)

    sizes_at : (k : ℕ) → k < length (list ∷ lists) → (die_at (view ∷ views) k).size ≡ length (get_or (list ∷ lists) k [])
    sizes_at zero within = size
    sizes_at (suc k) within = are.sizes k (omega arith)

dies_told : (lists : List (List (List ℕ))) (plans : List Plan) → length plans ≡ length lists → AreTold (dies_of lists plans) lists
dies_told [] plans count = told_none
dies_told (pages ∷ lists) [] count = absurd (omega arith)
dies_told (pages ∷ lists) (plan ∷ plans) count = told_one _ (dies_of lists plans) pages lists refl refl (dies_told lists plans (omega arith))

mirrors_told : (lists : List (List (List ℕ))) (plans copies : List Plan) → length plans ≡ length lists → length copies ≡ length lists → AreTold (beside made_of (dies_of lists plans) (dies_of lists copies)) lists
mirrors_told [] plans copies p c = told_none
mirrors_told (pages ∷ lists) [] copies p c = absurd (omega arith)
mirrors_told (pages ∷ lists) (plan ∷ plans) [] p c = absurd (omega arith)
mirrors_told (pages ∷ lists) (plan ∷ plans) (copy ∷ copies) p c = told_one _ (beside made_of (dies_of lists plans) (dies_of lists copies)) pages lists refl refl (mirrors_told lists plans copies (omega arith) (omega arith))

loaded_told : (lists : List (List (List ℕ))) (plans : List Plan) → length plans ≡ length lists → AreTold (loaded_of lists plans) lists
loaded_told [] plans count = told_none
loaded_told (pages ∷ lists) [] count = absurd (omega arith)
loaded_told (pages ∷ lists) (plan ∷ plans) count = told_one _ (loaded_of lists plans) pages lists refl refl (loaded_told lists plans (omega arith))

shares_told : (pages : List (List ℕ)) (dies total : ℕ) (views : List DieView) → length pages ≡ total → AreTold views (cuts pages dies) → HasShares views dies total
shares_told pages dies total views all are = record {
  count = are.count ∙ length-cuts pages dies;
  sizes = λ die within. are.sizes die (omega (arith, length-cuts pages dies)) ∙ ap length (cuts_at pages dies die [] within) ∙ length-cut pages dies die ∙ ap (λ (n : ℕ). die_share n dies die) all;
}

pages_told : (pages : List (List ℕ)) (dies : ℕ) (views : List DieView) → AreTold views (cuts pages dies) → TellsPages views dies (cuts pages dies)
pages_told pages dies views are = λ die within. are.pages die (omega (arith, length-cuts pages dies))

pub dies_share : (pages : List (List ℕ)) (dies total : ℕ) (plans : List Plan) (views : List DieView) → length pages ≡ total → length plans ≡ dies → views ≡ dies_of (cuts pages dies) plans → HasShares views dies total
dies_share pages dies total plans views all count is = subst (λ (v : List DieView). HasShares v dies total) (sym is) (shares_told pages dies total (dies_of (cuts pages dies) plans) all (dies_told (cuts pages dies) plans (count ∙ sym (length-cuts pages dies))))

pub dies_tell : (pages : List (List ℕ)) (dies : ℕ) (plans : List Plan) (views : List DieView) → length plans ≡ dies → views ≡ dies_of (cuts pages dies) plans → TellsPages views dies (cuts pages dies)
dies_tell pages dies plans views count is = subst (λ (v : List DieView). TellsPages v dies (cuts pages dies)) (sym is) (pages_told pages dies (dies_of (cuts pages dies) plans) (dies_told (cuts pages dies) plans (count ∙ sym (length-cuts pages dies))))

pub loaded_share : (pages : List (List ℕ)) (dies total : ℕ) (plans : List Plan) (views : List DieView) → length pages ≡ total → length plans ≡ dies → views ≡ loaded_of (cuts pages dies) plans → HasShares views dies total
loaded_share pages dies total plans views all count is = subst (λ (v : List DieView). HasShares v dies total) (sym is) (shares_told pages dies total (loaded_of (cuts pages dies) plans) all (loaded_told (cuts pages dies) plans (count ∙ sym (length-cuts pages dies))))

pub loaded_tell : (pages : List (List ℕ)) (dies : ℕ) (plans : List Plan) (views : List DieView) → length plans ≡ dies → views ≡ loaded_of (cuts pages dies) plans → TellsPages views dies (cuts pages dies)
loaded_tell pages dies plans views count is = subst (λ (v : List DieView). TellsPages v dies (cuts pages dies)) (sym is) (pages_told pages dies (loaded_of (cuts pages dies) plans) (loaded_told (cuts pages dies) plans (count ∙ sym (length-cuts pages dies))))

pub mirrors_share : (pages : List (List ℕ)) (dies total : ℕ) (plans copies : List Plan) (views : List DieView) → length pages ≡ total → length plans ≡ dies → length copies ≡ dies → views ≡ beside made_of (dies_of (cuts pages dies) plans) (dies_of (cuts pages dies) copies) → HasShares views dies total
mirrors_share pages dies total plans copies views all p c is = subst (λ (v : List DieView). HasShares v dies total) (sym is) (shares_told pages dies total _ all (mirrors_told (cuts pages dies) plans copies (p ∙ sym (length-cuts pages dies)) (c ∙ sym (length-cuts pages dies))))

pub mirrors_tell : (pages : List (List ℕ)) (dies : ℕ) (plans copies : List Plan) (views : List DieView) → length plans ≡ dies → length copies ≡ dies → views ≡ beside made_of (dies_of (cuts pages dies) plans) (dies_of (cuts pages dies) copies) → TellsPages views dies (cuts pages dies)
mirrors_tell pages dies plans copies views p c is = subst (λ (v : List DieView). TellsPages v dies (cuts pages dies)) (sym is) (pages_told pages dies _ (mirrors_told (cuts pages dies) plans copies (p ∙ sym (length-cuts pages dies)) (c ∙ sym (length-cuts pages dies))))

-- a fact of the value of an Ok that follows from another
pub if_ok : {T E : Type 0} (r : Result T E) (P Q : T → Type 0) → ((v : T) → P v → Q v) → IfOk r P → IfOk r Q
if_ok (Ok v) P Q follows p = follows v p
if_ok (Err e) P Q follows p = tt
