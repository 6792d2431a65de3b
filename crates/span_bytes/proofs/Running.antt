-- A run over the pages of a span is the run over its bytes, and of its output's pages only those bytes may differ.
use Rattle.std.proofs.Common.{◌≡◌, ℕ, ◌+◌, ◌-◌, ◌*◌, ◌<◌, ◌≤◌, List, length, take, drop, get_or, sym, ap, ◌∙◌, subst, refl, ⊎_elim, arith}
use Rattle.std.specs.List.{concat}
use Rattle.std.proofs.lemmas.Grind.{common_steps}
use Rattle.std.proofs.lemmas.List.{get_or-take, get_or-drop, length-take, length-drop}
use Rattle.page_base.specs.Bytes.{zero_page}
use Rattle.sbpf_insn.specs.declared.insn.Insn.{Insn}
use Rattle.sbpf_insn.specs.Machine as machine
use Rattle.sbpf_exec.specs.declared.region.Region.{Region}
use Rattle.sbpf_exec.specs.declared.region.Region.TheVariants.{Flat, Paged}
use Rattle.sbpf_exec.specs.declared.regions.Regions.{Regions}
use Rattle.sbpf_exec.specs.declared.interpreter.Outcome.{Outcome}
use Rattle.sbpf_exec.specs.Buffers.{AreWhole, region_bytes, IsPlaced, DiffersWithin}
use Rattle.sbpf_exec.specs.Parts.{machine_regions, IsShaped, WritesWithin}
use Rattle.sbpf_exec.specs.Outcomes.{outcome_of}
use Rattle.sbpf_exec.proofs.Shaped.{length-joined, placed_len}
use Rattle.sbpf_exec.proofs.PageLaws.{byte_at}
use Rattle.span_bytes.specs.Kinds.{pages_of}
use Rattle.span_bytes.specs.Spans.{page_in, over, span_part}
use Rattle.span_bytes.proofs.Pointwise.{less_or_not, in_over, low_over, high_over}

pub whole : (bytes : List ℕ) → take (length bytes) (drop 0 bytes) ≡ bytes
whole bytes = grind (arith, common_steps)

take_past : (bytes : List ℕ) (n : ℕ) → length bytes ≤ n → take n bytes ≡ bytes
take_past bytes n le = grind (arith, common_steps)

-- the output is as long as it was shaped to
out_long : (ready : Regions) (input output param : List ℕ) → IsShaped ready → machine_regions ready ≡ machine.shaped input output param → ready.output_len ≡ length output
out_long ready input output param s e = sym (placed_len ready.output ready.output_len s.output) ∙ ap (λ (m : machine.Regions). length m.output) e

-- ---- an output that lies flat

still_flat : (n : ℕ) (old new : Region) (output : List ℕ) → old ≡ Flat output → DiffersWithin n old new → length (region_bytes new) ≡ length output
still_flat n (Flat old) (Flat new) output is within = let same : old ≡ output = cc in within.0 ∙ ap (λ (b : List ℕ). length b) same
still_flat n (Flat old) (Paged pages start len) output is within = absurd within
still_flat n (Paged pages start len) new output is within = cc

pub read_run : (code : List Insn) (fuel : ℕ) (input output param bytes : List ℕ) (ready after : Regions) (outcome : Outcome) → IsShaped ready → machine_regions ready ≡ machine.shaped input output param → ready.output ≡ Flat output → WritesWithin ready after →
    machine.run code (machine_regions ready) fuel ≡ outcome_of outcome (machine_regions after).output → bytes ≡ region_bytes after.output → machine.run code (machine.shaped input output param) fuel ≡ outcome_of outcome bytes
read_run code fuel input output param bytes ready after outcome s e flat within ran left =
    let long : after.output_len ≡ length output = ap (λ (r : Regions). r.output_len) within.kept ∙ out_long ready input output param s e in
    let size = still_flat ready.output_len ready.output after.output output flat within.output in
    ap (λ (m : machine.Regions). machine.run code m fuel) (sym e)
    ∙ (ran ∙ ap (outcome_of outcome) (take_past (region_bytes after.output) after.output_len (omega arith) ∙ sym left))

-- ---- an output that lies in pages

-- so many bytes of these pages from a place on
abbrev pub IsAt : Region → List (List ℕ) → ℕ → ℕ → Type 0
IsAt (Flat bytes) items start len = ⊥
IsAt (Paged pages from n) items start len = (pages.items ≡ items) × (from ≡ start) × (n ≡ len)

at_bytes : (region : Region) (items : List (List ℕ)) (start len : ℕ) → IsAt region items start len → region_bytes region ≡ span_part items start len
at_bytes (Flat bytes) items start len h = absurd h
at_bytes (Paged pages from n) items start len h =
    ap (λ (k : ℕ). take k (drop from (concat pages.items))) h.2 ∙ (ap (λ (k : ℕ). take len (drop k (concat pages.items))) h.1 ∙ ap (λ (ps : List (List ℕ)). take len (drop start (concat ps))) h.0)

record HasRoom (items : List (List ℕ)) (start len n : ℕ) : Type 0 where
  whole : AreWhole items
  fits : start + len ≤ 4096 * length items
  within : n ≤ len

at_room : (region : Region) (items : List (List ℕ)) (start len n : ℕ) → IsAt region items start len → IsPlaced region n → HasRoom items start len n
at_room (Flat bytes) items start len n h p = absurd h
at_room (Paged pages from k) items start len n h p =
    let many = ap length h.0 in
    record { whole = subst AreWhole h.0 p.3; fits = omega (arith, many, h.1, h.2, p.2); within = omega (arith, h.2, p.0) }

-- every page of an input has 4,096 bytes
pub read_whole : (ready : Regions) (items : List (List ℕ)) (start len : ℕ) → IsShaped ready → IsAt ready.input items start len → AreWhole items
read_whole ready items start len s at = (at_room ready.input items start len ready.input_len at s.input).whole

-- what differs, of pages that a region lies in
record Differ (old new : List (List ℕ)) (start n : ℕ) : Type 0 where
  whole : AreWhole new
  many : length new ≡ length old
  front : take start (concat new) ≡ take start (concat old)
  rest : drop (start + n) (concat new) ≡ drop (start + n) (concat old)

at_differ : (n : ℕ) (old new : Region) (items : List (List ℕ)) (start len : ℕ) → IsAt old items start len → DiffersWithin n old new → IsAt new (pages_of new) start len × Differ items (pages_of new) start n
at_differ n (Flat old) new items start len h d = absurd h
at_differ n (Paged old from k) (Flat new) items start len h d = absurd d
at_differ n (Paged old from k) (Paged new from2 k2) items start len h d = (
  (refl, d.0 ∙ h.1, d.1 ∙ h.2),
  record {
    whole = d.3;
    many = d.2 ∙ ap length h.0;
    front = ap (λ (s : ℕ). take s (concat new.items)) (sym h.1) ∙ (d.4 ∙ (ap (λ (s : ℕ). take s (concat old.items)) h.1 ∙ ap (λ (ps : List (List ℕ)). take start (concat ps)) h.0));
    rest = ap (λ (s : ℕ). drop (s + n) (concat new.items)) (sym h.1) ∙ (d.5 ∙ (ap (λ (s : ℕ). drop (s + n) (concat old.items)) h.1 ∙ ap (λ (ps : List (List ℕ)). drop (start + n) (concat ps)) h.0));
  },
)

part_long : (items : List (List ℕ)) (start len : ℕ) → AreWhole items → start + len ≤ 4096 * length items → length (span_part items start len) ≡ len
part_long items start len w fits =
    let a = length-joined items w in
    let b = length-drop start (concat items) in
    length-take len (drop start (concat items)) ∙ omega arith

-- the bytes of the region, and elsewhere what was there
over_at : (old new : List (List ℕ)) (start len : ℕ) → AreWhole old → start + len ≤ 4096 * length old → Differ old new start len → (i j : ℕ) → i < length old → j < 4096 →
    get_or (page_in new i) j 0 ≡ over start (span_part new start len) (4096 * i + j) (get_or (page_in old i) j 0)
over_at old new start len w fits d i j l k = sym (byte_at new i j zero_page d.whole (let m = d.many in omega arith) k) ∙ ⊎_elim low (λ (h : start ≤ q). ⊎_elim (at h) high (less_or_not q (start + len))) (less_or_not q start)
  where
    q : ℕ
    q = 4096 * i + j

    long : length (span_part new start len) ≡ len
    long = part_long new start len d.whole (let m = d.many in omega arith)

    was : get_or (concat old) q 0 ≡ get_or (page_in old i) j 0
    was = byte_at old i j zero_page w l k

    low : q < start → get_or (concat new) q 0 ≡ over start (span_part new start len) q (get_or (page_in old i) j 0)
    low h =
        sym (get_or-take start (concat new) q 0 h)
        ∙ (ap (λ (xs : List ℕ). get_or xs q 0) d.front
        ∙ (get_or-take start (concat old) q 0 h ∙ (was ∙ sym (low_over start q (get_or (page_in old i) j 0) (span_part new start len) h))))

    at : start ≤ q → q < start + len → get_or (concat new) q 0 ≡ over start (span_part new start len) q (get_or (page_in old i) j 0)
    at h g =
        let e : start + (q - start) ≡ q = omega arith in
        let m = long in
        ap (λ (p : ℕ). get_or (concat new) p 0) (sym e)
        ∙ (sym (get_or-take len (drop start (concat new)) (q - start) 0 (omega arith) ∙ get_or-drop start (concat new) (q - start) 0)
        ∙ sym (in_over start q (get_or (page_in old i) j 0) (span_part new start len) h (omega arith)))

    high : start + len ≤ q → get_or (concat new) q 0 ≡ over start (span_part new start len) q (get_or (page_in old i) j 0)
    high h =
        let e : start + len + (q - (start + len)) ≡ q = omega arith in
        let m = long in
        ap (λ (p : ℕ). get_or (concat new) p 0) (sym e)
        ∙ (sym (get_or-drop (start + len) (concat new) (q - (start + len)) 0)
        ∙ (ap (λ (xs : List ℕ). get_or xs (q - (start + len)) 0) d.rest
        ∙ (get_or-drop (start + len) (concat old) (q - (start + len)) 0
        ∙ (ap (λ (p : ℕ). get_or (concat old) p 0) e ∙ (was ∙ sym (high_over start q (get_or (page_in old i) j 0) (span_part new start len) (omega arith)))))))

-- what a run leaves of the pages of its output
pub record Wrote (code : List Insn) (fuel : ℕ) (input param : List ℕ) (outcome : Outcome) (old new : List (List ℕ)) (start len : ℕ) : Type 0 where
  pub ran : machine.run code (machine.shaped input (span_part old start len) param) fuel ≡ outcome_of outcome (span_part new start len)
  pub whole : AreWhole old
  pub long : length (span_part new start len) ≡ len
  pub many : length new ≡ length old
  pub bytes : (i j : ℕ) → i < length old → j < 4096 → get_or (page_in new i) j 0 ≡ over start (span_part new start len) (4096 * i + j) (get_or (page_in old i) j 0)

pub write_run : (code : List Insn) (fuel : ℕ) (input param : List ℕ) (old : List (List ℕ)) (start len : ℕ) (ready after : Regions) (outcome : Outcome) → IsShaped ready → machine_regions ready ≡ machine.shaped input (span_part old start len) param → IsAt ready.output old start len → WritesWithin ready after →
    machine.run code (machine_regions ready) fuel ≡ outcome_of outcome (machine_regions after).output → Wrote code fuel input param outcome old (pages_of after.output) start len
write_run code fuel input param old start len ready after outcome s e at within ran =
    let room = at_room ready.output old start len ready.output_len at s.output in
    let n : ready.output_len ≡ len = out_long ready input (span_part old start len) param s e ∙ part_long old start len room.whole room.fits in
    let left = at_differ ready.output_len ready.output after.output old start len at within.output in
    let new = pages_of after.output in
    let d : Differ old new start len = subst (λ (k : ℕ). Differ old new start k) n left.1 in
    let long : length (span_part new start len) ≡ len = part_long new start len d.whole (let m = d.many in let f = room.fits in omega arith) in
    let bytes : region_bytes after.output ≡ span_part new start len = at_bytes after.output new start len left.0 in
    let size : after.output_len ≡ len = ap (λ (r : Regions). r.output_len) within.kept ∙ n in
    let all : (machine_regions after).output ≡ span_part new start len = ap (λ (b : List ℕ). take after.output_len b) bytes ∙ take_past (span_part new start len) after.output_len (omega arith) in
    record {
      ran = ap (λ (m : machine.Regions). machine.run code m fuel) (sym e) ∙ (ran ∙ ap (outcome_of outcome) all);
      whole = room.whole;
      long = long;
      many = d.many;
      bytes = over_at old new start len room.whole room.fits d;
    }
