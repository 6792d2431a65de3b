-- Shares and dies, one more at the end.
use Rattle.std.proofs.Common.{◌≡◌, ℕ, ◌+◌, ◌%◌, ◌<◌, ◌≤◌, List, [], ◌∷◌, ◌++◌, length, get_or, set, refl, ap, sym, ◌∙◌, arith}
use Rattle.std.specs.Prelude.{map, replicate}
use Rattle.std.proofs.lemmas.List.{map-append, map-set, length-map, length_push}
use Rattle.std.proofs.lemmas.Nat.{mod_below}
use Rattle.std.proofs.Math.ListN.{get_or-map}
use Rattle.std.proofs.Math.Seq.{map-set_same}
use Rattle.flash_die.specs.Dies.{DieView}
use Rattle.flash_die.specs.Memory.{view_of}
use Rattle.flash_die.specs.declared.die_mem.DieMem.{DieMem}
use Rattle.flash_die.specs.Failures.{told_die}
use Rattle.drive_array.specs.Shares.{dies_of, start_plan}
use Rattle.drive_array.specs.Parts.{pages_of, plan_of}
use Rattle.drive_array.specs.Cut.{cut, cuts}
use Rattle.drive_array.proofs.Cutting.{cuts_none, cuts_at, cuts_more, length-cut, length-cuts, share_within}
use Rattle.drive_array.specs.declared.share.Share.{Share}

pub dies_of-push : (shares : List Share) (share : Share) → dies_of (map (λ s. pages_of s) (shares ++ share ∷ [])) (map (λ s. plan_of s) (shares ++ share ∷ [])) ≡ dies_of (map (λ s. pages_of s) shares) (map (λ s. plan_of s) shares) ++ told_die (pages_of share) (start_plan (plan_of share)) ∷ []
dies_of-push [] share = refl
dies_of-push (s ∷ shares) share = ap (λ (l : List DieView). told_die (pages_of s) (start_plan (plan_of s)) ∷ l) (dies_of-push shares share)

-- the pages so far are dealt: the shares have the pages by die, and the plans that they had
pub record IsDealt (dies number : ℕ) (dealt : List (List ℕ)) (first now : List Share) : Type 0 where
  pub count : number ≡ length dealt
  pub plans : map (λ s. plan_of s) now ≡ map (λ s. plan_of s) first
  pub pages : map (λ s. pages_of s) now ≡ cuts dealt dies

pub dealt_none : (dies : ℕ) (shares : List Share) → map (λ s. pages_of s) shares ≡ replicate dies [] → IsDealt dies 0 [] shares shares
dealt_none dies shares empty = record { count = refl; plans = refl; pages = empty ∙ sym (cuts_none dies) }

pub dealt_count : (dies number : ℕ) (dealt : List (List ℕ)) (first now : List Share) → IsDealt dies number dealt first now → length now ≡ dies
dealt_count dies number dealt first now is = sym (length-map now (λ s. pages_of s)) ∙ ap length is.pages ∙ length-cuts dealt dies

-- the share that the next page goes to has the pages of its die so far
pub dealt_share : (dies number : ℕ) (dealt : List (List ℕ)) (first now : List Share) (share : Share) → 0 < dies → IsDealt dies number dealt first now → share ≡ get_or now (number % dies) share → pages_of share ≡ cut dealt dies (number % dies)
dealt_share dies number dealt first now share some is at =
    ap (λ (s : Share). pages_of s) at
    ∙ sym (get_or-map (λ s. pages_of s) now (number % dies) share)
    ∙ ap (λ (l : List (List (List ℕ))). get_or l (number % dies) (pages_of share)) is.pages
    ∙ cuts_at dealt dies (number % dies) (pages_of share) (mod_below number dies some)

pub dealt_fits : (dies number : ℕ) (dealt : List (List ℕ)) (first now : List Share) (share : Share) → 0 < dies → IsDealt dies number dealt first now → share ≡ get_or now (number % dies) share → length (pages_of share) ≤ length dealt
dealt_fits dies number dealt first now share some is at =
    omega (arith, ap length (dealt_share dies number dealt first now share some is at), length-cut dealt dies (number % dies), share_within (length dealt) dies (number % dies))

pub dealt_more : (dies number : ℕ) (dealt : List (List ℕ)) (first now : List Share) (share after : Share) (page : List ℕ) → 0 < dies → IsDealt dies number dealt first now → share ≡ get_or now (number % dies) share → pages_of after ≡ pages_of share ++ page ∷ [] → plan_of after ≡ plan_of share → IsDealt dies (number + 1) (dealt ++ page ∷ []) first (set now (number % dies) after)
dealt_more dies number dealt first now share after page some is at pages plan = record {
  count = omega (arith, is.count, length_push dealt page);
  plans = map-set_same (λ s. plan_of s) now (number % dies) after share (plan ∙ ap (λ (s : Share). plan_of s) at) ∙ is.plans;
  pages =
      let more : pages_of after ≡ cut dealt dies (number % dies) ++ page ∷ [] = pages ∙ ap (λ (l : List (List ℕ)). l ++ page ∷ []) (dealt_share dies number dealt first now share some is at) in
      map-set (λ s. pages_of s) now (number % dies) after
      ∙ ap (λ (l : List (List (List ℕ))). set l (number % dies) (pages_of after)) is.pages
      ∙ ap (λ (l : List (List ℕ)). set (cuts dealt dies) (number % dies) l) more
      ∙ ap (λ (n : ℕ). set (cuts dealt dies) (n % dies) (cut dealt dies (n % dies) ++ page ∷ [])) is.count
      ∙ cuts_more dealt page dies some;
}

-- one die more
pub dies_more : (dies now : List DieMem) (die : DieMem) (shares : List Share) (share : Share) → now ≡ dies ++ die ∷ [] → map (λ d. view_of d) dies ≡ dies_of (map (λ s. pages_of s) shares) (map (λ s. plan_of s) shares) → view_of die ≡ told_die (pages_of share) (start_plan (plan_of share)) → map (λ d. view_of d) now ≡ dies_of (map (λ s. pages_of s) (shares ++ share ∷ [])) (map (λ s. plan_of s) (shares ++ share ∷ []))
dies_more dies now die shares share is so_far made =
    ap (λ (l : List DieMem). map (λ d. view_of d) l) is ∙ map-append (λ d. view_of d) dies (die ∷ []) ∙ ap (λ (l : List DieView). l ++ view_of die ∷ []) so_far ∙ ap (λ (v : DieView). dies_of (map (λ s. pages_of s) shares) (map (λ s. plan_of s) shares) ++ v ∷ []) made ∙ sym (dies_of-push shares share)
