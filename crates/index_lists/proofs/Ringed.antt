-- The vectors of a ring, as its list changes.
use Rattle.std.proofs.Common.{◌≡◌, ℕ, zero, suc, ◌+◌, ◌<◌, ◌≤◌, List, [], ◌∷◌, ◌++◌, length, set, map, replicate, refl, sym, ap, ◌∙◌, subst, ⊎_elim, Some, None, arith, get_or, get_or-set_same, get_or-set_other}
use Rattle.std.proofs.lemmas.List.{length-set, get_or_read, map-set, get_or-map, length-map, length-replicate, get_or-replicate}
use Rattle.std.specs.Prelude.{◌==◌, ◌≢◌, not, nat_lt}
use Rattle.std.proofs.lemmas.Bool.Decides.{nat_tests}
use Rattle.index_lists.specs.Words.{one_if, count, without, before, first, after}
use Rattle.index_lists.specs.Lists.{Lists, list_at, with_list, AreNodes}
use Rattle.index_lists.specs.Rings.{Ringed, Path, at, listed, ringed, IsRing, list_of, lists_of}
use Rattle.index_lists.proofs.Counts.{same_or_not, count-here, count-there, count-nil, count-before, count-without, count-without_other, before-absent, short}
use Rattle.index_lists.proofs.Paths.{Inserts, Removes, insert_path, remove_path, prev_in, next_in, prev_differs, next_differs, walk_path, front_none, front_some, next_none, next_some}

at_same : (xs : List ℕ) (i v : ℕ) → i < length xs → at (set xs i v) i ≡ v
at_same xs i v l = get_or-set_same xs i v 0 l

at_other : (xs : List ℕ) (i v j : ℕ) → j ≢ i → at (set xs i v) j ≡ at xs j
at_other xs i v j d = get_or-set_other xs i j v 0 d

pub in_range : (nodes : ℕ) (next prev xs : List ℕ) (b : ℕ) → IsRing nodes next prev xs → 0 < count b xs → b < nodes
in_range nodes next prev xs b r l = let k = r.below b in grind arith

pub end_out : (nodes : ℕ) (next prev xs : List ℕ) → IsRing nodes next prev xs → count nodes xs ≡ 0
end_out nodes next prev xs r = r.below nodes (omega arith)

-- the list that the vectors give is their list
pub ring_list : (nodes : ℕ) (next prev xs : List ℕ) → IsRing nodes next prev xs → listed nodes next ≡ xs
ring_list nodes next prev xs r = walk_path (at next) (at prev) nodes xs nodes nodes r.path (end_out nodes next prev xs r) (short nodes xs r.once r.below)

-- the place ahead of a number of the list, or of the end
pub ahead_in : (nodes : ℕ) (next prev xs : List ℕ) (place : ℕ) → IsRing nodes next prev xs → (place ≢ nodes → 0 < count place xs) → at prev place < nodes + 1
ahead_in nodes next prev xs place r k =
    ⊎_elim (λ (e : at prev place ≡ nodes). omega arith) (λ (l : 0 < count (at prev place) xs). omega (arith, in_range nodes next prev xs (at prev place) r l)) (prev_in (at next) (at prev) nodes xs nodes place r.path k)

pub behind_in : (nodes : ℕ) (next prev xs : List ℕ) (b : ℕ) → IsRing nodes next prev xs → 0 < count b xs → at next b < nodes + 1
behind_in nodes next prev xs b r k =
    ⊎_elim (λ (e : at next b ≡ nodes). omega arith) (λ (l : 0 < count (at next b) xs). omega (arith, in_range nodes next prev xs (at next b) r l)) (next_in (at next) (at prev) nodes xs nodes b r.path k)

-- a ring of no numbers
pub empty_ring : (nodes : ℕ) (next prev : List ℕ) → length next ≡ nodes + 1 → length prev ≡ nodes + 1 → ((b : ℕ) → b ≤ nodes → at next b ≡ b) → ((b : ℕ) → b ≤ nodes → at prev b ≡ b) → IsRing nodes next prev []
unfolding Path
empty_ring nodes next prev ln lp n p = record {
  next_len = ln;
  prev_len = lp;
  path = (n nodes (omega arith), p nodes (omega arith));
  once = λ b. omega (arith, count-nil b);
  below = λ b l. count-nil b;
  out = λ b l k. n b (omega arith);
}

inserts : (nodes : ℕ) (next prev xs : List ℕ) (place node : ℕ) → IsRing nodes next prev xs → node < nodes → count node xs ≡ 0 → (place ≢ nodes → 0 < count place xs) →
    Inserts (at next) (at prev) (at (set (set next node place) (at prev place) node)) (at (set (set prev node (at prev place)) place node)) (at prev place) place node
inserts nodes next prev xs place node r l k h =
    let q = at prev place in
    let ln = r.next_len in
    let lp = r.prev_len in
    let bq : q < nodes + 1 = ahead_in nodes next prev xs place r h in
    let bp : place < nodes + 1 = ⊎_elim (λ (e : place ≡ nodes). omega arith) (λ (d : place ≢ nodes). omega (arith, in_range nodes next prev xs place r (h d))) (same_or_not place nodes) in
    let nq : node ≢ q = λ e. ⊎_elim (λ (f : q ≡ nodes). let g : node ≡ nodes = e ∙ f in absurd (omega arith)) (λ (m : 0 < count q xs). let g = ap (λ (w : ℕ). count w xs) e in absurd (omega arith)) (prev_in (at next) (at prev) nodes xs nodes place r.path h) in
    let np : node ≢ place = λ e. ⊎_elim (λ (f : place ≡ nodes). let g : node ≡ nodes = e ∙ f in absurd (omega arith)) (λ (d : place ≢ nodes). let m = h d in let g = ap (λ (w : ℕ). count w xs) e in absurd (omega arith)) (same_or_not place nodes) in
    record {
      ahead = refl;
      next_q = at_same (set next node place) q node (omega (arith, length-set next node place));
      next_node = at_other (set next node place) q node node nq ∙ at_same next node place (omega arith);
      next_rest = λ b d e. at_other (set next node place) q node b d ∙ at_other next node place b e;
      prev_place = at_same (set prev node q) place node (omega (arith, length-set prev node q));
      prev_node = at_other (set prev node q) place node node np ∙ at_same prev node q (omega arith);
      prev_rest = λ b d e. at_other (set prev node q) place node b d ∙ at_other prev node q b e;
    }

-- the ring with a number more
pub inserted : (nodes : ℕ) (next prev xs : List ℕ) (place node : ℕ) → IsRing nodes next prev xs → node < nodes → count node xs ≡ 0 → (place ≢ nodes → 0 < count place xs) →
    IsRing nodes (set (set next node place) (at prev place) node) (set (set prev node (at prev place)) place node) (before place node xs)
inserted nodes next prev xs place node r l k h =
    let i = inserts nodes next prev xs place node r l k h in
    let e = end_out nodes next prev xs r in
    let d : node ≢ nodes = omega arith in
    record {
      next_len = length-set (set next node place) (at prev place) node ∙ length-set next node place ∙ r.next_len;
      prev_len = length-set (set prev node (at prev place)) place node ∙ length-set prev node (at prev place) ∙ r.prev_len;
      path = insert_path _ _ _ _ (at prev place) place node i nodes xs nodes r.path e r.once e d k d h;
      once = λ b. once_before b;
      below = λ b m. let f = r.below b m in let w : b ≢ node = omega arith in omega (arith, count-before b place node xs, count-there b node xs w);
      out = λ b m z. out_of i b m z;
    }
  where
    once_before : (b : ℕ) → count b (before place node xs) < 2
    once_before b = let o = r.once b in ⊎_elim (λ (e : b ≡ node). let c : count b (node ∷ xs) ≡ 1 = subst (λ (w : ℕ). count w (node ∷ xs) ≡ 1) (sym e) (omega (arith, count-here node xs)) in omega (arith, count-before b place node xs)) (λ (e : b ≢ node). omega (arith, count-before b place node xs, count-there b node xs e)) (same_or_not b node)

    out_of : Inserts (at next) (at prev) (at (set (set next node place) (at prev place) node)) (at (set (set prev node (at prev place)) place node)) (at prev place) place node → (b : ℕ) → b < nodes → count b (before place node xs) ≡ 0 →
        at (set (set next node place) (at prev place) node) b ≡ b
    out_of i b m z =
        let w : b ≢ node = λ e. absurd (omega (arith, count-before b place node xs, count-here node xs, ap (λ (y : ℕ). count y (node ∷ xs)) e)) in
        let c : count b xs ≡ 0 = omega (arith, count-before b place node xs, count-there b node xs w) in
        let v : b ≢ at prev place = λ e. ⊎_elim (λ (f : at prev place ≡ nodes). absurd (omega arith)) (λ (n : 0 < count (at prev place) xs). absurd (omega (arith, ap (λ (y : ℕ). count y xs) e))) (prev_in (at next) (at prev) nodes xs nodes place r.path h) in
        i.next_rest b v w ∙ r.out b m c

removes : (nodes : ℕ) (next prev xs : List ℕ) (node : ℕ) → IsRing nodes next prev xs → 0 < count node xs →
    Removes (at next) (at prev) (at (set (set next (at prev node) (at next node)) node node)) (at (set prev (at next node) (at prev node))) (at prev node) (at next node) node
removes nodes next prev xs node r k =
    let l = at prev node in
    let q = at next node in
    let ln = r.next_len in
    let lp = r.prev_len in
    let bl : l < nodes + 1 = ahead_in nodes next prev xs node r (λ e. k) in
    let bq : q < nodes + 1 = behind_in nodes next prev xs node r k in
    let d : l ≢ node = prev_differs (at next) (at prev) nodes xs nodes node r.path (end_out nodes next prev xs r) r.once k in
    record {
      ahead = refl;
      behind = refl;
      next_l = at_other (set next l q) node node l d ∙ at_same next l q (omega arith);
      next_rest = λ b e f. at_other (set next l q) node node b f ∙ at_other next l q b e;
      prev_r = at_same prev q l (omega arith);
      prev_rest = λ b e. at_other prev q l b e;
    }

-- the ring without one of its numbers
pub removed : (nodes : ℕ) (next prev xs : List ℕ) (node : ℕ) → IsRing nodes next prev xs → 0 < count node xs →
    IsRing nodes (set (set next (at prev node) (at next node)) node node) (set prev (at next node) (at prev node)) (without node xs)
removed nodes next prev xs node r k =
    let i = removes nodes next prev xs node r k in
    let e = end_out nodes next prev xs r in
    record {
      next_len = length-set (set next (at prev node) (at next node)) node node ∙ length-set next (at prev node) (at next node) ∙ r.next_len;
      prev_len = length-set prev (at next node) (at prev node) ∙ r.prev_len;
      path = remove_path _ _ _ _ (at prev node) (at next node) node i nodes xs nodes r.path e r.once e k;
      once = λ b. let o = r.once b in omega (arith, count-without b node xs);
      below = λ b m. let f = r.below b m in omega (arith, count-without b node xs);
      out = λ b m z. out_of i b m z;
    }
  where
    out_of : Removes (at next) (at prev) (at (set (set next (at prev node) (at next node)) node node)) (at (set prev (at next node) (at prev node))) (at prev node) (at next node) node → (b : ℕ) → b < nodes → count b (without node xs) ≡ 0 →
        at (set (set next (at prev node) (at next node)) node node) b ≡ b
    out_of i b m z = ⊎_elim same other (same_or_not b node)
      where
        same : b ≡ node → at (set (set next (at prev node) (at next node)) node node) b ≡ b
        same e =
            let ln = r.next_len in
            subst (λ (w : ℕ). at (set (set next (at prev node) (at next node)) node node) w ≡ w) (sym e) (at_same (set next (at prev node) (at next node)) node node (omega (arith, length-set next (at prev node) (at next node), in_range nodes next prev xs node r k)))

        other : b ≢ node → at (set (set next (at prev node) (at next node)) node node) b ≡ b
        other w =
            let c : count b xs ≡ 0 = omega (arith, count-without_other b node xs w) in
            let v : b ≢ at prev node = λ e. ⊎_elim (λ (f : at prev node ≡ nodes). absurd (omega arith)) (λ (n : 0 < count (at prev node) xs). absurd (omega (arith, ap (λ (y : ℕ). count y xs) e))) (prev_in (at next) (at prev) nodes xs nodes node r.path (λ e. k)) in
            i.next_rest b v w ∙ r.out b m c

-- a number is in the list exactly where its next one is another
pub contains_is : (nodes : ℕ) (next prev xs : List ℕ) (node : ℕ) → IsRing nodes next prev xs → node < nodes → not (at next node == node) ≡ not (count node xs == 0)
contains_is nodes next prev xs node r l = ⊎_elim absent there (same_or_not (count node xs) 0)
  where
    absent : count node xs ≡ 0 → not (at next node == node) ≡ not (count node xs == 0)
    absent e = let f = r.out node l e in grind (arith, nat_tests)

    there : count node xs ≢ 0 → not (at next node == node) ≡ not (count node xs == 0)
    there d = let f = next_differs (at next) (at prev) nodes xs nodes node r.path r.once (end_out nodes next prev xs r) (omega arith) in grind (arith, nat_tests)

-- what is read of the vectors
pub next_read : (nodes : ℕ) (next prev xs : List ℕ) (b y : ℕ) → IsRing nodes next prev xs → b < nodes + 1 → y ≡ get_or next b y → y ≡ at next b
next_read nodes next prev xs b y r l e = let k = r.next_len in get_or_read next b y (omega arith) e 0

pub prev_read : (nodes : ℕ) (next prev xs : List ℕ) (b y : ℕ) → IsRing nodes next prev xs → b < nodes + 1 → y ≡ get_or prev b y → y ≡ at prev b
prev_read nodes next prev xs b y r l e = let k = r.prev_len in get_or_read prev b y (omega arith) e 0

-- the ring that the vectors have is the one of the list that they give
own_ring : (nodes : ℕ) (next prev xs : List ℕ) → IsRing nodes next prev xs → IsRing nodes next prev (listed nodes next)
own_ring nodes next prev xs r = subst (λ (ys : List ℕ). IsRing nodes next prev ys) (sym (ring_list nodes next prev xs r)) r

with_nodes : ℕ → List ℕ → Ringed
with_nodes nodes list = record { nodes = nodes; list = list }

ring_value : (nodes : ℕ) (next prev xs : List ℕ) → IsRing nodes next prev xs → ringed nodes next ≡ record { nodes = nodes; list = xs }
unfolding with_nodes
ring_value nodes next prev xs r = ap (with_nodes nodes) (ring_list nodes next prev xs r)

-- the vectors next2 and prev2 have the list xs
pub record Becomes (nodes : ℕ) (next2 prev2 : List ℕ) (nodes2 : ℕ) (xs : List ℕ) : Type 0 where
  pub ring : IsRing nodes next2 prev2 (listed nodes next2)
  pub value : ringed nodes next2 ≡ record { nodes = nodes2; list = xs }

becomes : (nodes : ℕ) (next prev xs : List ℕ) → IsRing nodes next prev xs → Becomes nodes next prev nodes xs
becomes nodes next prev xs r = record { ring = own_ring nodes next prev xs r; value = ring_value nodes next prev xs r }

-- an insertion as the code makes it; v is what the ring is seen as, and q what was read
pub ahead_read : (nodes : ℕ) (next prev : List ℕ) (v : Ringed) (place q : ℕ) → IsRing nodes next prev (listed nodes next) → ringed nodes next ≡ v →
    (place ≢ v.nodes → 0 < count place v.list) → q ≡ get_or prev place q → q ≡ at prev place
ahead_read nodes next prev v place q r e =
    subst (λ (v : Ringed). (place ≢ v.nodes → 0 < count place v.list) → q ≡ get_or prev place q → q ≡ at prev place) e
    (λ h f. prev_read nodes next prev (listed nodes next) place q r (⊎_elim (λ (g : place ≡ nodes). omega arith) (λ (d : place ≢ nodes). omega (arith, in_range nodes next prev (listed nodes next) place r (h d))) (same_or_not place nodes)) f)

pub ahead_bound : (nodes : ℕ) (next prev : List ℕ) (v : Ringed) (place q : ℕ) → IsRing nodes next prev (listed nodes next) → ringed nodes next ≡ v →
    (place ≢ v.nodes → 0 < count place v.list) → q ≡ get_or prev place q → q < length next
ahead_bound nodes next prev v place q r e h f =
    let g = ahead_read nodes next prev v place q r e h f in
    let n = r.next_len in
    omega (arith, ahead_in nodes next prev (listed nodes next) place r (subst (λ (v : Ringed). place ≢ v.nodes → 0 < count place v.list) (sym e) h))

pub insert_done : (nodes : ℕ) (next prev : List ℕ) (v : Ringed) (place node q : ℕ) → IsRing nodes next prev (listed nodes next) → ringed nodes next ≡ v →
    node < v.nodes → count node v.list ≡ 0 → (place ≢ v.nodes → 0 < count place v.list) → q ≡ get_or prev place q →
    Becomes nodes (set (set next node place) q node) (set (set prev node q) place node) v.nodes (before place node v.list)
insert_done nodes next prev v place node q r e l k h f =
    subst (λ (w : ℕ). Becomes nodes (set (set next node place) w node) (set (set prev node w) place node) v.nodes (before place node v.list)) (sym (ahead_read nodes next prev v place q r e h f))
    (subst (λ (v : Ringed). node < v.nodes → count node v.list ≡ 0 → (place ≢ v.nodes → 0 < count place v.list) → Becomes nodes (set (set next node place) (at prev place) node) (set (set prev node (at prev place)) place node) v.nodes (before place node v.list)) e
    (λ l k h. becomes nodes _ _ _ (inserted nodes next prev (listed nodes next) place node r l k h)) l k h)

-- a removal as the code makes it
pub record Reads (nodes : ℕ) (next prev : List ℕ) (node ahead behind : ℕ) : Type 0 where
  pub node_bound : node < nodes
  pub ahead_bound : ahead < length next
  pub behind_bound : behind < length prev
  pub ahead_is : ahead ≡ at prev node
  pub behind_is : behind ≡ at next node

pub reads : (nodes : ℕ) (next prev : List ℕ) (v : Ringed) (node ahead behind : ℕ) → IsRing nodes next prev (listed nodes next) → ringed nodes next ≡ v →
    0 < count node v.list → ahead ≡ get_or prev node ahead → behind ≡ get_or next node behind → Reads nodes next prev node ahead behind
reads nodes next prev v node ahead behind r e k f g =
    let m : 0 < count node (listed nodes next) = subst (λ (v : Ringed). 0 < count node v.list) (sym e) k in
    let b = in_range nodes next prev (listed nodes next) node r m in
    let p = prev_read nodes next prev (listed nodes next) node ahead r (omega arith) f in
    let q = next_read nodes next prev (listed nodes next) node behind r (omega arith) g in
    let n = r.next_len in
    let o = r.prev_len in
    record {
      node_bound = b;
      ahead_bound = omega (arith, ahead_in nodes next prev (listed nodes next) node r (λ d. m));
      behind_bound = omega (arith, behind_in nodes next prev (listed nodes next) node r m);
      ahead_is = p;
      behind_is = q;
    }

pub remove_done : (nodes : ℕ) (next prev : List ℕ) (v : Ringed) (node ahead behind : ℕ) → IsRing nodes next prev (listed nodes next) → ringed nodes next ≡ v →
    0 < count node v.list → ahead ≡ get_or prev node ahead → behind ≡ get_or next node behind →
    Becomes nodes (set (set next ahead behind) node node) (set prev behind ahead) v.nodes (without node v.list)
remove_done nodes next prev v node ahead behind r e k f g =
    let s = reads nodes next prev v node ahead behind r e k f g in
    subst (λ (p : ℕ × ℕ). Becomes nodes (set (set next p.0 p.1) node node) (set prev p.1 p.0) v.nodes (without node v.list)) (sym (pair s.ahead_is s.behind_is))
    (subst (λ (v : Ringed). 0 < count node v.list → Becomes nodes (set (set next (at prev node) (at next node)) node node) (set prev (at next node) (at prev node)) v.nodes (without node v.list)) e
    (λ k. becomes nodes _ _ _ (removed nodes next prev (listed nodes next) node r k)) k)
  where
    pair : ahead ≡ at prev node → behind ≡ at next node → (let p : ℕ × ℕ = (ahead, behind) in p) ≡ (at prev node, at next node)
    pair a b = cc

-- what the questions answer
pub contains_value : (nodes : ℕ) (next prev : List ℕ) (v : Ringed) (node y : ℕ) → IsRing nodes next prev (listed nodes next) → ringed nodes next ≡ v → node < v.nodes → y ≡ get_or next node y →
    not (y == node) ≡ not (count node v.list == 0)
contains_value nodes next prev v node y r e l f =
    subst (λ (v : Ringed). node < v.nodes → not (y == node) ≡ not (count node v.list == 0)) e
    (λ l. ap (λ (w : ℕ). not (w == node)) (next_read nodes next prev (listed nodes next) node y r (omega arith) f) ∙ contains_is nodes next prev (listed nodes next) node r l) l

once_below : (b n k : ℕ) → k < 2 → (n ≤ b → k ≡ 0) → k ≤ one_if (nat_lt b n)
once_below b n k h f = grind (arith, nat_tests)

pub nodes_value : (nodes : ℕ) (next prev : List ℕ) (v : Ringed) → IsRing nodes next prev (listed nodes next) → ringed nodes next ≡ v → AreNodes v.nodes v.list
nodes_value nodes next prev v r e = subst (λ (v : Ringed). AreNodes v.nodes v.list) e (λ b. once_below b nodes (count b (listed nodes next)) (r.once b) (r.below b))

pub front_none_value : (nodes : ℕ) (next prev : List ℕ) (v : Ringed) (y : ℕ) → IsRing nodes next prev (listed nodes next) → ringed nodes next ≡ v → y ≡ get_or next nodes y → y ≡ nodes → None ≡ first v.list
front_none_value nodes next prev v y r e f g =
    subst (λ (v : Ringed). None ≡ first v.list) e
    (front_none (at next) (at prev) nodes (listed nodes next) nodes r.path (end_out nodes next prev _ r) (sym (next_read nodes next prev _ nodes y r (omega arith) f) ∙ g))

pub front_some_value : (nodes : ℕ) (next prev : List ℕ) (v : Ringed) (y : ℕ) → IsRing nodes next prev (listed nodes next) → ringed nodes next ≡ v → y ≡ get_or next nodes y → y ≢ nodes → Some y ≡ first v.list
front_some_value nodes next prev v y r e f g =
    let h = next_read nodes next prev _ nodes y r (omega arith) f in
    subst (λ (v : Ringed). Some y ≡ first v.list) e
    (ap (λ (w : ℕ). Some w) h ∙ front_some (at next) (at prev) nodes (listed nodes next) nodes r.path (λ k. g (h ∙ k)))

pub next_none_value : (nodes : ℕ) (next prev : List ℕ) (v : Ringed) (b y : ℕ) → IsRing nodes next prev (listed nodes next) → ringed nodes next ≡ v → 0 < count b v.list → y ≡ get_or next b y → y ≡ nodes → None ≡ after b v.list
next_none_value nodes next prev v b y r e k f g =
    subst (λ (v : Ringed). 0 < count b v.list → None ≡ after b v.list) e
    (λ k. next_none (at next) (at prev) nodes (listed nodes next) nodes b r.path (end_out nodes next prev _ r) k (sym (next_read nodes next prev _ b y r (omega (arith, in_range nodes next prev _ b r k)) f) ∙ g)) k

pub next_some_value : (nodes : ℕ) (next prev : List ℕ) (v : Ringed) (b y : ℕ) → IsRing nodes next prev (listed nodes next) → ringed nodes next ≡ v → 0 < count b v.list → y ≡ get_or next b y → y ≢ nodes → Some y ≡ after b v.list
next_some_value nodes next prev v b y r e k f g =
    subst (λ (v : Ringed). 0 < count b v.list → Some y ≡ after b v.list) e
    (λ k. let h = next_read nodes next prev _ b y r (omega (arith, in_range nodes next prev _ b r k)) f in ap (λ (w : ℕ). Some w) h ∙ next_some (at next) (at prev) nodes (listed nodes next) nodes b r.path k (λ m. g (h ∙ m))) k

-- a number that comes last, as an insertion before the end
pub push_done : (nodes : ℕ) (next prev : List ℕ) (v new : Ringed) (node : ℕ) → IsRing nodes next prev (listed nodes next) → ringed nodes next ≡ v →
    new ≡ record { nodes = v.nodes; list = before nodes node v.list } → new ≡ record { nodes = v.nodes; list = v.list ++ node ∷ [] }
unfolding with_nodes
push_done nodes next prev v new node r e f =
    f ∙ ap (with_nodes v.nodes) (before-absent nodes node v.list (subst (λ (v : Ringed). count nodes v.list ≡ 0) e (end_out nodes next prev _ r)))

-- a number of the ring is below its bound
pub node_bound : (nodes : ℕ) (next prev : List ℕ) (v : Ringed) (node : ℕ) → IsRing nodes next prev (listed nodes next) → ringed nodes next ≡ v → 0 < count node v.list → node < v.nodes
node_bound nodes next prev v node r e k = subst (λ (v : Ringed). 0 < count node v.list → node < v.nodes) e (λ k. in_range nodes next prev _ node r k) k

with_lists : ℕ → List (List ℕ) → Lists
with_lists n lists = record { nodes = n; lists = lists }

-- one of several rings changes
pub links_done : (nodes : ℕ) (rings : List Ringed) (v : Lists) (i : ℕ) (r r2 : Ringed) (f : List ℕ → List ℕ) → lists_of nodes rings ≡ v → r ≡ get_or rings i r → i < length v.lists →
    r2 ≡ record { nodes = r.nodes; list = f r.list } → lists_of nodes (set rings i r2) ≡ with_list v i (f (list_at v i))
unfolding with_lists
links_done nodes rings v i r r2 f e g l h =
    subst (λ (v : Lists). i < length v.lists → lists_of nodes (set rings i r2) ≡ with_list v i (f (list_at v i))) e
    (λ l. let m : i < length rings = omega (arith, length-map rings list_of) in
    let here : get_or (map list_of rings) i [] ≡ r.list = get_or-map list_of rings i r [] m ∙ sym (ap list_of g) in
    ap (with_lists nodes) (map-set list_of rings i r2 ∙ ap (λ (ys : List ℕ). set (map list_of rings) i ys) (ap list_of h ∙ ap f (sym here)))) l

pub new_done : (nodes : ℕ) (next prev : List ℕ) → length next ≡ nodes + 1 → length prev ≡ nodes + 1 → ((b : ℕ) → b ≤ nodes → at next b ≡ b) → ((b : ℕ) → b ≤ nodes → at prev b ≡ b) → Becomes nodes next prev nodes []
new_done nodes next prev ln lp n p = becomes nodes next prev [] (empty_ring nodes next prev ln lp n p)

map-replicate : (n : ℕ) (r : Ringed) → map list_of (replicate n r) ≡ replicate n (list_of r)
map-replicate zero r = refl
map-replicate (suc n) r = ap (λ (ys : List (List ℕ)). list_of r ∷ ys) (map-replicate n r)

abbrev nodes_of : Ringed → ℕ
nodes_of s = s.nodes

-- the lists of new rings
pub links_new : (nodes lists : ℕ) (rings : List Ringed) (r : Ringed) → r ≡ record { nodes = nodes; list = [] } → rings ≡ replicate lists r → lists_of nodes rings ≡ record { nodes = nodes; lists = replicate lists [] }
unfolding with_lists
links_new nodes lists rings r e f = ap (with_lists nodes) (ap (map list_of) f ∙ map-replicate lists r ∙ ap (λ (t : Ringed). replicate lists (list_of t)) e)

pub links_new_each : (nodes lists : ℕ) (rings : List Ringed) (r : Ringed) → r ≡ record { nodes = nodes; list = [] } → rings ≡ replicate lists r → (i : ℕ) (d : Ringed) → i < length rings → (get_or rings i d).nodes ≡ nodes
links_new_each nodes lists rings r e f i d l =
    let m : i < lists = omega (arith, ap length f, length-replicate lists r) in
    ap nodes_of (ap (λ (ys : List Ringed). get_or ys i d) f ∙ get_or-replicate lists i r d m ∙ e)
