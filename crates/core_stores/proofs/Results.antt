-- The runs of the other calls in flight give what they gave, where a call that stores ends.
use Rattle.std.proofs.Common.{◌≡◌, ℕ, ◌+◌, ◌-◌, ◌<◌, ◌≤◌, Bool, true, false, List, length, Option, Some, None, refl, sym, ap, ◌∙◌, subst, ⊎_elim, arith}
use Rattle.std.specs.Prelude.{◌≢◌, ◌==◌, ◌/◌, nat_lt, min, option_map, if◌then◌else◌}
use Rattle.std.proofs.lemmas.Bool.Decides.{nat_tests}
use Rattle.page_base.specs.Bytes.{Pages, Cut}
use Rattle.index_lists.proofs.Counts.{same_or_not}
use Rattle.core_hold.specs.Call.{Call}
use Rattle.core_hold.specs.Call.TheVariants.{Create, OpenFile, Stat, Remove, Read, Write, Append, Trunc, Seal, Load, Unload, Readl, Writel, Sync}
use Rattle.core_hold.specs.PlainFile.{PlainFile}
use Rattle.core_hold.specs.Plain.{State, bytes_in}
use Rattle.core_hold.specs.State.{Block, File, Places, Shared, Exclusive, Reach, Claim, Flight, Core}
use Rattle.core_hold.specs.Contents.{content, contents, page_of, span_block}
use Rattle.core_hold.specs.Reach.{file_word, file_by, len_or_none, no_reach, read_reach, write_reach, reach_of}
use Rattle.core_hold.specs.PlainOf.{plain_file, plain, file_page}
use Rattle.core_hold.specs.InFlight.{claim_of, InRange}
use Rattle.core_hold.specs.Coherent.{Coherent}
use Rattle.core_hold.proofs.CoreLemmasViews.{file_seen}
use Rattle.core_hold.proofs.Words.{less_or_not}
use Rattle.core_hold.proofs.Flying.{FliesOn, flies_on}
use Rattle.core_hold.proofs.Reaches.{Stretches, Apart, came, went}
use Rattle.core_stores.proofs.Named.{relen, own_relen, other_relen}
use Rattle.core_hold.proofs.Others.{IsStoring, StillHas, apart_of, stretches_of, most_of}
use Rattle.core_stores.proofs.Runs.{CutsSame, cut_same}
use Rattle.core_stores.proofs.Claims.{plain_after, seen_after, own_file, most_after, or_empty}

-- a reach locks the pages of these bytes, and its span has those that the file has
record Covers (b : Reach) (off n len : ℕ) : Type 0 where
  locked : 0 < n → (q : ℕ) → off ≤ q → q < off + n → q / 4096 < 65537 → InRange b (q / 4096)
  spans : 0 < n → (p : ℕ) → off / 4096 ≤ p → p < Pages (off + n) → p < Pages len → (b.first ≤ p) × (p < b.first + b.pages)

read_covers : (off n len : ℕ) → Covers (read_reach off n len) off n len
read_covers off n len = go (n == 0) refl
  where
    go : (z : Bool) → (n == 0) ≡ z → Covers (if z then no_reach else record { mode = Shared; from = off / 4096; to = min (Pages (off + n)) 65537; first = off / 4096; pages = min (Pages (off + n)) (Pages len) - off / 4096; begin = off; end = off + n }) off n len
    go true e = let z : n ≡ 0 = grind (arith, nat_tests) in record { locked = λ l. absurd (omega arith); spans = λ l. absurd (omega arith) }
    go false e = record { locked = λ l q a b k. record { low = omega arith; high = omega arith }; spans = λ l p a b k. (omega arith, omega arith) }

write_covers : (off n len : ℕ) → Covers (write_reach off n len) off n len
write_covers off n len = go (n == 0) refl
  where
    low : (t : Bool) → (if t then min (off / 4096) (len / 4096) else off / 4096) ≤ off / 4096
    low true = omega arith
    low false = omega arith

    go : (z : Bool) → (n == 0) ≡ z → Covers (if z then no_reach else record { mode = Exclusive; from = if nat_lt len (off + n) then min (off / 4096) (len / 4096) else off / 4096; to = Pages (off + n); first = off / 4096; pages = Pages (off + n) - off / 4096; begin = off; end = off + n }) off n len
    go true e = let z : n ≡ 0 = grind (arith, nat_tests) in record { locked = λ l. absurd (omega arith); spans = λ l. absurd (omega arith) }
    go false e = let k = low (nat_lt len (off + n)) in record { locked = λ l q a b c. record { low = omega arith; high = omega arith }; spans = λ l p a b c. (omega arith, omega arith) }

readable_same : (x b : Reach) (off n len len2 : ℕ) → Stretches x len len2 → Pages len ≤ 65536 → Pages len2 ≤ 65536 → Apart x b → Covers b off n len → min n (len2 - off) ≡ min n (len - off)
readable_same x b off n len len2 s most most2 apart covers = ⊎_elim (λ (e : min n (len2 - off) ≡ min n (len - off)). e)
    (λ (d : min n (len2 - off) ≢ min n (len - off)). absurd (⊎_elim (λ (l : len < len2). grown d l) (λ (l : len2 ≤ len). shrunk d l) (less_or_not len len2)))
    (same_or_not (min n (len2 - off)) (min n (len - off)))
  where
    grown : min n (len2 - off) ≢ min n (len - off) → len < len2 → ⊥
    grown d l = ⊎_elim
        (λ (k : off < len). apart (len / 4096) (came x len len2 len s (omega arith) l) (covers.locked (omega arith) len (omega arith) (omega arith) (omega arith)))
        (λ (k : len ≤ off). apart (off / 4096) (came x len len2 off s k (omega arith)) (covers.locked (omega arith) off (omega arith) (omega arith) (omega arith)))
        (less_or_not off len)

    shrunk : min n (len2 - off) ≢ min n (len - off) → len2 ≤ len → ⊥
    shrunk d l = ⊎_elim
        (λ (k : off < len2). apart (len2 / 4096) (went x len len2 len2 s most (omega arith) (omega arith)) (covers.locked (omega arith) len2 (omega arith) (omega arith) (omega arith)))
        (λ (k : len2 ≤ off). apart (off / 4096) (went x len len2 off s most k (omega arith)) (covers.locked (omega arith) off (omega arith) (omega arith) (omega arith)))
        (less_or_not off len2)

-- the page of a span
pub page_stays : (c : Core) (places : Places) (blocks : ℕ → Block) (a : Claim) → StillHas c places blocks a → (i : ℕ) → i < a.reach.pages → page_of (contents blocks) (span_block places a i) ≡ page_of (contents c.blocks) (span_block c.places a i)
page_stays c places blocks a s i l = ap (page_of (contents blocks)) (s.span i l) ∙ go (span_block c.places a i) refl
  where
    go : (o : Option ℕ) → span_block c.places a i ≡ o → page_of (contents blocks) o ≡ page_of (contents c.blocks) o
    go None e = refl
    go (Some b) e = ap content (s.same i b l e)

-- the bytes that a run reads
cut_after : (c : Core) (lane : ℕ) (call : Flight) (f : File) (s2 : State) (places : Places) (blocks : ℕ → Block) → Coherent c → (g : IsStoring c lane call f s2) → (l : ℕ) (y : Flight) → l ≢ lane → c.calls l ≡ Some y → StillHas c places blocks y.claim →
    (name : List ℕ) (off n : ℕ) → file_word y.claim.request.call ≡ Some name → ((len : ℕ) → Covers (reach_of y.claim.request.call len) off n len) →
    Cut (bytes_in (plain_after c call s2 places (contents blocks)) name) off n ≡ Cut (bytes_in (plain c) name) off n
cut_after c lane call f s2 places blocks h g l y d e still name off n w covers =
    ap (λ (o : Option PlainFile). Cut (or_empty name o).bytes off n) (seen_after c lane call f s2 places (contents blocks) h g name ∙ ap (λ (o : Option File). option_map (plain_file places (contents blocks)) (option_map (relen f.id (length g.stored.new)) o)) fly.found)
    ∙ (cut (n == 0) refl
    ∙ ap (λ (o : Option PlainFile). Cut (or_empty name o).bytes off n) (sym (file_seen c.shape c.names c.places (contents c.blocks) name ∙ ap (option_map (plain_file c.places (contents c.blocks))) fly.found)))
  where
    fly : FliesOn c y.claim name
    fly = flies_on c l y.claim name h (ap claim_of e) w

    x : File
    x = fly.file

    reach : y.claim.reach ≡ reach_of y.claim.request.call x.len
    reach =
        ap (λ (k : Claim). k.reach) (h.in_flight.right l y.claim (ap claim_of e)).same
        ∙ ap (λ (o : Option File). reach_of y.claim.request.call (len_or_none o)) (ap (file_by c.names.files) w ∙ fly.found)

    covered : Covers y.claim.reach off n x.len
    covered = subst (λ (r : Reach). Covers r off n x.len) (sym reach) (covers x.len)

    readable : min n ((relen f.id (length g.stored.new) x).len - off) ≡ min n (x.len - off)
    readable = ⊎_elim
        (λ (s : x.id ≡ f.id).
        let is = own_file c lane call f s2 h g (Some name) x fly.found s in
        let same = readable_same call.claim.reach y.claim.reach off n f.len (length g.stored.new) (stretches_of c lane call f s2 h g) (most_of c lane call f s2 h g) (most_after c lane call f s2 h g) (apart_of c lane call f s2 h g l y d e (fly.id ∙ s)) (subst (λ (k : File). Covers y.claim.reach off n k.len) is covered) in
        ap (λ (k : ℕ). min n (k - off)) (own_relen f.id (length g.stored.new) x s) ∙ (same ∙ ap (λ (k : File). min n (k.len - off)) (sym is)))
        (λ (k : x.id ≢ f.id). ap (λ (w : File). min n (w.len - off)) (other_relen f.id (length g.stored.new) x k))
        (same_or_not x.id f.id)

    pages : 0 < n → (p : ℕ) → off / 4096 ≤ p → p < Pages (off + n) → p < Pages x.len → file_page places (contents blocks) x.id p ≡ file_page c.places (contents c.blocks) x.id p
    pages pos p a b k =
        let in_span = covered.spans pos p a b k in
        let u = in_span.0 in
        let v = in_span.1 in
        let shift : y.claim.reach.first + (p - y.claim.reach.first) ≡ p = omega arith in
        subst (λ (m : ℕ). page_of (contents blocks) (places x.id m) ≡ page_of (contents c.blocks) (c.places x.id m)) shift
        (subst (λ (id : ℕ). page_of (contents blocks) (places id (y.claim.reach.first + (p - y.claim.reach.first))) ≡ page_of (contents c.blocks) (c.places id (y.claim.reach.first + (p - y.claim.reach.first)))) fly.id
        (page_stays c places blocks y.claim still (p - y.claim.reach.first) (omega arith)))

    cut : (z : Bool) → (n == 0) ≡ z → Cut (plain_file places (contents blocks) (relen f.id (length g.stored.new) x)).bytes off n ≡ Cut (plain_file c.places (contents c.blocks) x).bytes off n
    cut true q = let s : n ≡ 0 = grind (arith, nat_tests) in ap (λ (k : ℕ). Cut (plain_file places (contents blocks) (relen f.id (length g.stored.new) x)).bytes off k) s ∙ ap (λ (k : ℕ). Cut (plain_file c.places (contents c.blocks) x).bytes off k) (sym s)
    cut false q = let pos : 0 < n = grind (arith, nat_tests) in cut_same x.len (relen f.id (length g.stored.new) x).len (file_page c.places (contents c.blocks) x.id) (file_page places (contents blocks) x.id) off n readable (pages pos)

pub cuts_after : (c : Core) (lane : ℕ) (call : Flight) (f : File) (s2 : State) (places : Places) (blocks : ℕ → Block) → Coherent c → (g : IsStoring c lane call f s2) → (l : ℕ) (y : Flight) → l ≢ lane → c.calls l ≡ Some y → StillHas c places blocks y.claim →
    CutsSame (plain c) (plain_after c call s2 places (contents blocks)) y.claim.request.call
cuts_after c lane call f s2 places blocks h g l y d e still = go y.claim.request.call refl
  where
    go : (k : Call) → y.claim.request.call ≡ k → CutsSame (plain c) (plain_after c call s2 places (contents blocks)) k
    go (Readl file off n function fuel cap param) q =
        cut_after c lane call f s2 places blocks h g l y d e still file off n (ap file_word q) (λ len. subst (λ (k : Call). Covers (reach_of k len) off n len) (sym q) (read_covers off n len))
    go (Writel file off n function fuel param input) q =
        cut_after c lane call f s2 places blocks h g l y d e still file off n (ap file_word q) (λ len. subst (λ (k : Call). Covers (reach_of k len) off n len) (sym q) (write_covers off n len))
    go (Create name) q = tt
    go (OpenFile name) q = tt
    go (Stat name) q = tt
    go (Remove name) q = tt
    go (Read name off n) q = tt
    go (Write name off bytes) q = tt
    go (Append name bytes) q = tt
    go (Trunc name n) q = tt
    go (Seal name) q = tt
    go (Load name bytes) q = tt
    go (Unload name) q = tt
    go Sync q = tt
