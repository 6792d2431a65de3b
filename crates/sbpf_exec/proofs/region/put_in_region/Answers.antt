use Rattle.std.proofs.Common.{◌≡◌, ◌+◌, ◌≤◌, ◌∙◌, sym, ap, arith, length, List, ℕ}
use Rattle.std.specs.List.{concat}
use Rattle.sbpf_insn.specs.Machine.{put_number, size_len}
use Rattle.sbpf_exec.proofs.Windows.{write_if, all_over, flat_written, flat_within, paged_written}
use Rattle.sbpf_exec.specs.Buffers.{IsPlaced}
use Rattle.sbpf_exec.specs.declared.region.Region.TheVariants.{Paged}
use Rattle.sbpf_exec.proofs.region.put_in_region.Goals as goal

pub returns-in-Flat-clause-bytes : goal.returns-in-Flat-clause-bytes
returns-in-Flat-clause-bytes c =
    let fits : c.args.at + size_len c.args.size ≤ c.args.len = omega (arith, c.size_len.ensures) in
    let wrote : c.put_number.new.b ≡ put_number c.args.size c.in-Flat.bytes c.args.at c.args.value = c.put_number.ensures ∙ ap (λ (b : List ℕ). put_number c.args.size b c.args.at c.args.value) c.as_mut_slice.ensures.value in
    rw c.in-Flat.is (write_if _ _ _ _ _ fits (flat_written c.args.size c.in-Flat.bytes c.put_number.new.b c.args.len c.args.at c.args.value fits wrote))

pub returns-in-Flat-clause-within : goal.returns-in-Flat-clause-within
returns-in-Flat-clause-within c =
    let fits : c.args.at + size_len c.args.size ≤ c.args.len = omega (arith, c.size_len.ensures) in
    let wrote : c.put_number.new.b ≡ put_number c.args.size c.in-Flat.bytes c.args.at c.args.value = c.put_number.ensures ∙ ap (λ (b : List ℕ). put_number c.args.size b c.args.at c.args.value) c.as_mut_slice.ensures.value in
    rw c.in-Flat.is (flat_within c.args.size c.in-Flat.bytes c.put_number.new.b c.args.len c.args.at c.args.value fits wrote)

pub returns-in-Paged-clause-bytes : goal.returns-in-Paged-clause-bytes
returns-in-Paged-clause-bytes c =
    let fits : c.args.at + size_len c.args.size ≤ c.args.len = omega (arith, c.size_len.ensures) in
    let placed : IsPlaced (Paged c.in-Paged.pages c.in-Paged.start c.in-Paged.len) c.args.len = rw c.in-Paged.is at c.requires.placed in
    let old : length c.in-Paged.pages.items ≡ c.in-Paged.pages.len = ap length (sym c.deref_mut.ensures.value) ∙ c.deref_mut.ensures.len in
    let new : length c.put_paged.new.pages ≡ c.in-Paged.pages.len = c.put_paged.auto.pages ∙ c.deref_mut.ensures.len in
    let wrote : concat c.put_paged.new.pages ≡ put_number c.args.size (concat c.in-Paged.pages.items) (c.in-Paged.start + c.args.at) c.args.value =
    c.put_paged.ensures.value ∙ ap (λ (ps : List (List ℕ)). put_number c.args.size (concat ps) (c.in-Paged.start + c.args.at) c.args.value) c.deref_mut.ensures.value in
    rw (all_over c.in-Paged.pages.items c.put_paged.new.pages c.in-Paged.pages.len old new)
    (rw c.in-Paged.is (write_if _ _ _ _ _ fits (paged_written c.args.size (concat c.in-Paged.pages.items) (concat c.put_paged.new.pages) c.in-Paged.start c.in-Paged.len c.args.len c.args.at c.args.value placed.0 fits wrote)))
