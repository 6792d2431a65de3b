-- What is read from and written to shaped regions, by the machine's definitions.
use Rattle.std.proofs.Common.{◌≡◌, ℕ, ◌+◌, ◌-◌, ◌*◌, ◌≤◌, ◌/◌, ◌%◌, ◌^◌, Bool, true, false, List, [], ◌∷◌, length, take, drop, Option, Some, None, refl, sym, ap, ◌∙◌, arith, length-take, length-drop, length-append}
use Rattle.std.specs.Prelude.{nat_le, min, replicate, if◌then◌else◌}
use Rattle.std.specs.List.{concat}
use Rattle.std.proofs.lemmas.Bool.Decides.{nat_tests}
use Rattle.sbpf_insn.specs.declared.insn.Size.{Size}
use Rattle.sbpf_insn.specs.Machine.{shaped, context_of, load, store, load_writable, number_at, put_number, size_len}
use Rattle.sbpf_exec.specs.declared.region.Region.{Region}
use Rattle.sbpf_exec.specs.declared.region.Region.TheVariants.{Flat, Paged}
use Rattle.sbpf_exec.specs.declared.regions.Regions.{Regions}
use Rattle.sbpf_exec.specs.Buffers.{AreWhole, IsPlaced, region_bytes}
use Rattle.sbpf_exec.specs.Parts.{IsShaped, IsInInput, IsInOutput, IsInStack, machine_regions, lengths_context}
use Rattle.sbpf_exec.proofs.Areas.{AreShort, load_input, load_output, load_stack, store_output, store_stack, writable_output, writable_stack}

pub length-joined : (pages : List (List ℕ)) → AreWhole pages → length (concat pages) ≡ 4096 * length pages
length-joined [] whole = refl
length-joined (p ∷ ps) whole = length-append p (concat ps) ∙ omega (arith, whole.0, length-joined ps whole.1)

-- the bytes that a region is run over are as many as it has been shaped to
pub placed_len : (region : Region) (n : ℕ) → IsPlaced region n → length (take n (region_bytes region)) ≡ n
placed_len (Flat bytes) n placed = omega (arith, length-take n bytes, placed.0)
placed_len (Paged pages start len) n placed =
    let all = length-joined pages.items placed.3 in
    let behind = length-drop start (concat pages.items) in
    let cut = length-take len (drop start (concat pages.items)) in
    omega (arith, length-take n (take len (drop start (concat pages.items))), cut, behind, all, placed.0, placed.2)

placed_short : (region : Region) (n : ℕ) → IsPlaced region n → n ≤ 2 ^ 32
placed_short (Flat bytes) n placed = placed.1
placed_short (Paged pages start len) n placed = placed.1

pub short : (r : Regions) → IsShaped r → AreShort (machine_regions r)
short r shaped = record {
  context = omega (arith, shaped.context);
  input = omega (arith, placed_len r.input r.input_len shaped.input, placed_short r.input r.input_len shaped.input);
  output = omega (arith, placed_len r.output r.output_len shaped.output, placed_short r.output r.output_len shaped.output);
  param = shaped.param;
  stack = omega (arith, shaped.stack);
}

-- ---- loads

-- the number at a place of the first n bytes, where it is wholly there
abbrev pub number_if : Size → List ℕ → ℕ → ℕ → Option ℕ
number_if s bytes n at = if nat_le (at + size_len s) n then Some (number_at s bytes at) else None

pub loads_input : (r : Regions) (top address : ℕ) (s : Size) (result : Option ℕ) → IsShaped r → address / 2 ^ 32 ≡ 2 → result ≡ number_if s (take r.input_len (region_bytes r.input)) r.input_len (address % 2 ^ 32) → result ≡ load (machine_regions r) top address s
loads_input r top address s result shaped area e =
    e ∙ ap (λ (n : ℕ). number_if s (take r.input_len (region_bytes r.input)) n (address % 2 ^ 32)) (sym (placed_len r.input r.input_len shaped.input))
    ∙ sym (load_input (machine_regions r) top address s (short r shaped) area)

pub loads_output : (r : Regions) (top address : ℕ) (s : Size) (result : Option ℕ) → IsShaped r → address / 2 ^ 32 ≡ 3 → result ≡ number_if s (take r.output_len (region_bytes r.output)) r.output_len (address % 2 ^ 32) → result ≡ load (machine_regions r) top address s
loads_output r top address s result shaped area e =
    e ∙ ap (λ (n : ℕ). number_if s (take r.output_len (region_bytes r.output)) n (address % 2 ^ 32)) (sym (placed_len r.output r.output_len shaped.output))
    ∙ sym (load_output (machine_regions r) top address s (short r shaped) area)

pub loads_stack : (r : Regions) (top address : ℕ) (s : Size) (result : Option ℕ) → IsShaped r → address / 2 ^ 32 ≡ 5 → result ≡ number_if s r.stack (min 4096 (top - 0x500000000)) (address % 2 ^ 32) → result ≡ load (machine_regions r) top address s
loads_stack r top address s result shaped area e =
    e ∙ ap (λ (n : ℕ). number_if s r.stack (min n (top - 0x500000000)) (address % 2 ^ 32)) (sym shaped.stack)
    ∙ sym (load_stack (machine_regions r) top address s (short r shaped) area)

-- where an access lies wholly in a region
number_held : (s : Size) (bytes : List ℕ) (n at v : ℕ) → at + size_len s ≤ n → v ≡ number_at s bytes at → Some v ≡ number_if s bytes n at
number_held s bytes n at v fits is =
    let yes : nat_le (at + size_len s) n ≡ true = grind (arith, nat_tests) in
    rw (yes, is) refl

pub held_input : (r : Regions) (top address v : ℕ) (s : Size) → IsShaped r → IsInInput r address s → v ≡ number_at s (take r.input_len (region_bytes r.input)) (address % 2 ^ 32) → load (machine_regions r) top address s ≡ Some v
held_input r top address v s shaped inside is =
    sym (loads_input r top address s (Some v) shaped inside.0 (number_held s (take r.input_len (region_bytes r.input)) r.input_len (address % 2 ^ 32) v inside.1 is))

pub held_output : (r : Regions) (top address v : ℕ) (s : Size) → IsShaped r → IsInOutput r address s → v ≡ number_at s (take r.output_len (region_bytes r.output)) (address % 2 ^ 32) → load (machine_regions r) top address s ≡ Some v
held_output r top address v s shaped inside is =
    sym (loads_output r top address s (Some v) shaped inside.0 (number_held s (take r.output_len (region_bytes r.output)) r.output_len (address % 2 ^ 32) v inside.1 is))

pub held_stack : (r : Regions) (top address v : ℕ) (s : Size) → IsShaped r → IsInStack top address s → v ≡ number_at s r.stack (address % 2 ^ 32) → load (machine_regions r) top address s ≡ Some v
held_stack r top address v s shaped inside is =
    sym (loads_stack r top address s (Some v) shaped inside.0 (number_held s r.stack (min 4096 (top - 0x500000000)) (address % 2 ^ 32) v inside.1 is))

pub fetches_output : (r : Regions) (top address : ℕ) (s : Size) (result : Option ℕ) → IsShaped r → address / 2 ^ 32 ≡ 3 → result ≡ number_if s (take r.output_len (region_bytes r.output)) r.output_len (address % 2 ^ 32) → result ≡ load_writable (machine_regions r) top address s
fetches_output r top address s result shaped area e =
    e ∙ ap (λ (n : ℕ). number_if s (take r.output_len (region_bytes r.output)) n (address % 2 ^ 32)) (sym (placed_len r.output r.output_len shaped.output))
    ∙ sym (writable_output (machine_regions r) top address s (short r shaped) area)

pub fetches_stack : (r : Regions) (top address : ℕ) (s : Size) (result : Option ℕ) → IsShaped r → address / 2 ^ 32 ≡ 5 → result ≡ number_if s r.stack (min 4096 (top - 0x500000000)) (address % 2 ^ 32) → result ≡ load_writable (machine_regions r) top address s
fetches_stack r top address s result shaped area e =
    e ∙ ap (λ (n : ℕ). number_if s r.stack (min n (top - 0x500000000)) (address % 2 ^ 32)) (sym shaped.stack)
    ∙ sym (writable_stack (machine_regions r) top address s (short r shaped) area)

-- ---- stores

-- the bytes with a number written at a place of the first n, where it is wholly there
abbrev pub put_if : Size → List ℕ → ℕ → ℕ → ℕ → List ℕ
put_if s bytes n at v = if nat_le (at + size_len s) n then put_number s bytes at v else bytes

chosen : (b : Bool) (x y z : List ℕ) → b ≡ true → x ≡ (if b then y else z) → x ≡ y
chosen true x y z is e = e
chosen false x y z is e = absurd cc

pub stores_output : (r : Regions) (new : Region) (top address v : ℕ) (s : Size) (done : Bool) → IsShaped r → address / 2 ^ 32 ≡ 3 → done ≡ nat_le (address % 2 ^ 32 + size_len s) r.output_len → take r.output_len (region_bytes new) ≡ put_if s (take r.output_len (region_bytes r.output)) r.output_len (address % 2 ^ 32) v → done ≡ true → store (machine_regions r) top address s v ≡ Some (machine_regions (record r { output = new }))
stores_output r new top address v s done shaped area is bytes held =
    let len = placed_len r.output r.output_len shaped.output in
    let fits : nat_le (address % 2 ^ 32 + size_len s) r.output_len ≡ true = sym is ∙ held in
    let wrote : take r.output_len (region_bytes new) ≡ put_number s (take r.output_len (region_bytes r.output)) (address % 2 ^ 32) v = chosen _ _ _ _ fits bytes in
    let e = store_output (machine_regions r) top address v s (short r shaped) area in
    let fits' : nat_le (address % 2 ^ 32 + size_len s) (length (take r.output_len (region_bytes r.output))) ≡ true = ap (nat_le (address % 2 ^ 32 + size_len s)) len ∙ fits in
    e ∙ rw (fits', wrote) refl

pub refuses_output : (r : Regions) (top address v : ℕ) (s : Size) (done : Bool) → IsShaped r → address / 2 ^ 32 ≡ 3 → done ≡ nat_le (address % 2 ^ 32 + size_len s) r.output_len → done ≡ false → store (machine_regions r) top address s v ≡ None
refuses_output r top address v s done shaped area is failed =
    let len = placed_len r.output r.output_len shaped.output in
    let e = store_output (machine_regions r) top address v s (short r shaped) area in
    let fits' : nat_le (address % 2 ^ 32 + size_len s) (length (take r.output_len (region_bytes r.output))) ≡ false = ap (nat_le (address % 2 ^ 32 + size_len s)) len ∙ sym is ∙ failed in
    e ∙ rw fits' refl

pub stores_stack : (r : Regions) (new : List ℕ) (top address v : ℕ) (s : Size) (done : Bool) → IsShaped r → address / 2 ^ 32 ≡ 5 → done ≡ nat_le (address % 2 ^ 32 + size_len s) (min 4096 (top - 0x500000000)) → new ≡ put_if s r.stack (min 4096 (top - 0x500000000)) (address % 2 ^ 32) v → done ≡ true → store (machine_regions r) top address s v ≡ Some (machine_regions (record r { stack = new }))
stores_stack r new top address v s done shaped area is bytes held =
    let fits : nat_le (address % 2 ^ 32 + size_len s) (min 4096 (top - 0x500000000)) ≡ true = sym is ∙ held in
    let wrote : new ≡ put_number s r.stack (address % 2 ^ 32) v = chosen _ _ _ _ fits bytes in
    let e = store_stack (machine_regions r) top address v s (short r shaped) area in
    let fits' : nat_le (address % 2 ^ 32 + size_len s) (min (length r.stack) (top - 0x500000000)) ≡ true = ap (λ (n : ℕ). nat_le (address % 2 ^ 32 + size_len s) (min n (top - 0x500000000))) shaped.stack ∙ fits in
    e ∙ rw (fits', wrote) refl

pub put_in_held : (r : Regions) (new : List ℕ) (top address v : ℕ) (s : Size) → IsShaped r → IsInStack top address s → new ≡ put_number s r.stack (address % 2 ^ 32) v → store (machine_regions r) top address s v ≡ Some (machine_regions (record r { stack = new }))
put_in_held r new top address v s shaped inside is =
    let yes : nat_le (address % 2 ^ 32 + size_len s) (min 4096 (top - 0x500000000)) ≡ true = grind (arith, nat_tests) in
    stores_stack r new top address v s true shaped inside.0 (sym yes) (rw yes is) refl

pub refuses_stack : (r : Regions) (top address v : ℕ) (s : Size) (done : Bool) → IsShaped r → address / 2 ^ 32 ≡ 5 → done ≡ nat_le (address % 2 ^ 32 + size_len s) (min 4096 (top - 0x500000000)) → done ≡ false → store (machine_regions r) top address s v ≡ None
refuses_stack r top address v s done shaped area is failed =
    let e = store_stack (machine_regions r) top address v s (short r shaped) area in
    let fits' : nat_le (address % 2 ^ 32 + size_len s) (min (length r.stack) (top - 0x500000000)) ≡ false = ap (λ (n : ℕ). nat_le (address % 2 ^ 32 + size_len s) (min n (top - 0x500000000))) shaped.stack ∙ sym is ∙ failed in
    e ∙ rw fits' refl

-- ---- shaping

pub part_len : (region : Region) (bytes : List ℕ) (n : ℕ) → IsPlaced region n → take n (region_bytes region) ≡ bytes → length bytes ≡ n
part_len region bytes n placed e = ap length (sym e) ∙ placed_len region n placed

pub shaped_is : (context input output param stack i o : List ℕ) (n m k : ℕ) → context ≡ lengths_context n m k → input ≡ i → output ≡ o → length i ≡ n → length o ≡ m → length param ≡ k → stack ≡ replicate 4096 0 → record { context = context; input = input; output = output; param = param; stack = stack } ≡ shaped i o param
shaped_is context input output param stack i o n m k c is_input is_output n_is m_is k_is s =
    let c' : context ≡ context_of i o param = c ∙ ap (λ (x : ℕ). lengths_context x m k) (sym n_is) ∙ ap (λ (x : ℕ). lengths_context (length i) x k) (sym m_is) ∙ ap (λ (x : ℕ). lengths_context (length i) (length o) x) (sym k_is) in
    rw (c', is_input, is_output, s) refl
