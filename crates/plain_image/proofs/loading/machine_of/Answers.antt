use Rattle.std.proofs.Common.{◌≡◌, ◌≤◌, ◌+◌, ◌∷◌, ◌++◌, List, ℕ, Bool, [], None, map, ap, sym, subst, ◌∙◌, refl, arith}
use Rattle.std.specs.Prelude.{slice_get, option_copied}
use Rattle.std.proofs.lemmas.Option.{slice_get_within}
use Rattle.page_base.specs.Bytes.{Pages}
use Rattle.image_format.specs.Tables.{stored_of, stored_files, pages_of}
use Rattle.plain_files.specs.declared.calls.PlainFile.{PlainFile}
use Rattle.plain_files.specs.Plain as plain
use Rattle.plain_files.specs.Plain.{State}
use Rattle.plain_image.specs.Fits.{Fits}
use Rattle.plain_image.specs.Tables.{stored_file, files_left}
use Rattle.plain_image.proofs.Listing.{IsListing, Under, Unnamed, table_listing, listing_fits, next_file, record_at, record_past, all_under, ids_under, none_of_name, files_count, take_whole, pages_within, pages_next, pages_same}
use Rattle.plain_image.proofs.Steps.{file_pushed, files_done, file_listed, machine_is}
use Rattle.plain_image.proofs.loading.machine_of.Goals as goal

pub loop-file-init : goal.loop-file-init
loop-file-init c = record {
  listed = ap (λ (s : State). map stored_file s.files) c.in_ok-plain.ensures;
  value = ap (λ (s : State). s.files ++ files_left c.args.meta.now c.args.body.now 0 0) c.in_ok-plain.ensures;
  before = refl;
  functions = ap (λ (s : State). s.functions) c.in_ok-plain.ensures;
  capacity = ap (λ (s : State). s.capacity) c.in_ok-plain.ensures ∙ c.blocks-2.ensures.value;
}

pub file_bytes-requires-clause-small : goal.file_bytes-requires-clause-small
file_bytes-requires-clause-small c =
    let t = c.args.meta.now.names in
    let f = c.in-Some.file.now in
    let i = c.loop-file.i in
    let here = record_at t.files i f (sym c.in-Some.ensures.value) in
    let next = next_file t.next (stored_files t) i (stored_of f) (table_listing t c.len-files.ensures.sound) here in
    next.stored.1

pub file_bytes-requires-clause-there : goal.file_bytes-requires-clause-there
file_bytes-requires-clause-there c =
    let t = c.args.meta.now.names in
    let f = c.in-Some.file.now in
    let i = c.loop-file.i in
    let here = record_at t.files i f (sym c.in-Some.ensures.value) in
    let next = next_file t.next (stored_files t) i (stored_of f) (table_listing t c.len-files.ensures.sound) here in
    omega (arith, pages_within (stored_files t) i (stored_of f) here, c.loop-file.invariant.before, c.requires.count)

pub add_file-requires-clause-least : goal.add_file-requires-clause-least
add_file-requires-clause-least c =
    let t = c.args.meta.now.names in
    let f = c.in-Some.file.now in
    let i = c.loop-file.i in
    let here = record_at t.files i f (sym c.in-Some.ensures.value) in
    let next = next_file t.next (stored_files t) i (stored_of f) (table_listing t c.len-files.ensures.sound) here in
    next.low

pub add_file-requires-clause-most : goal.add_file-requires-clause-most
add_file-requires-clause-most c =
    let t = c.args.meta.now.names in
    let f = c.in-Some.file.now in
    let i = c.loop-file.i in
    let here = record_at t.files i f (sym c.in-Some.ensures.value) in
    let next = next_file t.next (stored_files t) i (stored_of f) (table_listing t c.len-files.ensures.sound) here in
    omega (arith, next.stored.0, c.len-files.ensures.sound.next.1)

pub add_file-requires-clause-last : goal.add_file-requires-clause-last
add_file-requires-clause-last c =
    let t = c.args.meta.now.names in
    let f = c.in-Some.file.now in
    let i = c.loop-file.i in
    let here = record_at t.files i f (sym c.in-Some.ensures.value) in
    let next = next_file t.next (stored_files t) i (stored_of f) (table_listing t c.len-files.ensures.sound) here in
    ids_under f.id c.loop-file.plain.files (subst (Under f.id) (sym c.loop-file.invariant.listed) next.under)

pub add_file-requires-clause-new : goal.add_file-requires-clause-new
add_file-requires-clause-new c =
    let t = c.args.meta.now.names in
    let f = c.in-Some.file.now in
    let i = c.loop-file.i in
    let here = record_at t.files i f (sym c.in-Some.ensures.value) in
    let next = next_file t.next (stored_files t) i (stored_of f) (table_listing t c.len-files.ensures.sound) here in
    none_of_name f.name c.loop-file.plain.files (subst (Unnamed f.name) (sym c.loop-file.invariant.listed) next.new)

pub add_file-requires-clause-few : goal.add_file-requires-clause-few
add_file-requires-clause-few c =
    let t = c.args.meta.now.names in
    let f = c.in-Some.file.now in
    let i = c.loop-file.i in
    let here = record_at t.files i f (sym c.in-Some.ensures.value) in
    let next = next_file t.next (stored_files t) i (stored_of f) (table_listing t c.len-files.ensures.sound) here in
    omega (arith, files_count c.loop-file.plain.files i (stored_files t) c.loop-file.invariant.listed (omega (arith, next.few)), next.few, (table_listing t c.len-files.ensures.sound).count)

pub add_file-requires-clause-short : goal.add_file-requires-clause-short
add_file-requires-clause-short c =
    let t = c.args.meta.now.names in
    let f = c.in-Some.file.now in
    let i = c.loop-file.i in
    let here = record_at t.files i f (sym c.in-Some.ensures.value) in
    let next = next_file t.next (stored_files t) i (stored_of f) (table_listing t c.len-files.ensures.sound) here in
    omega (arith, c.in_ok-bytes.ensures.len, next.stored.1)

pub add_file-requires-clause-room : goal.add_file-requires-clause-room
add_file-requires-clause-room c =
    let t = c.args.meta.now.names in
    let f = c.in-Some.file.now in
    let i = c.loop-file.i in
    let here = record_at t.files i f (sym c.in-Some.ensures.value) in
    let next = next_file t.next (stored_files t) i (stored_of f) (table_listing t c.len-files.ensures.sound) here in
    omega (
      arith,
      pages_same c.loop-file.plain.files,
      ap pages_of c.loop-file.invariant.listed,
      ap Pages c.in_ok-bytes.ensures.len,
      pages_within (stored_files t) i (stored_of f) here,
      c.requires.count,
      c.requires.size.extents,
      c.blocks-blocks.ensures.sound.count,
      c.loop-file.invariant.capacity,
    )

pub overflow_add-before : goal.overflow_add-before
overflow_add-before c =
    let t = c.args.meta.now.names in
    let f = c.in-Some.file.now in
    let i = c.loop-file.i in
    let here = record_at t.files i f (sym c.in-Some.ensures.value) in
    let next = next_file t.next (stored_files t) i (stored_of f) (table_listing t c.len-files.ensures.sound) here in
    omega (arith, pages_within (stored_files t) i (stored_of f) here, c.loop-file.invariant.before, c.requires.count, c.blocks-blocks.ensures.sound.count, c.blocks-blocks.ensures.sound.blocks, c.page_count-before.ensures)

pub overflow_add-i : goal.overflow_add-i
overflow_add-i c = omega (arith, slice_get_within c.args.meta.now.names.files c.loop-file.i c.in-Some.file.now (sym c.in-Some.ensures.value), c.in-Some.ensures.sound.count)

pub loop-file-smaller : goal.loop-file-smaller
loop-file-smaller c = omega (arith, slice_get_within c.args.meta.now.names.files c.loop-file.i c.in-Some.file.now (sym c.in-Some.ensures.value))

pub loop-file-preserved : goal.loop-file-preserved
loop-file-preserved c =
    let t = c.args.meta.now.names in
    let f = c.in-Some.file.now in
    let i = c.loop-file.i in
    let here = record_at t.files i f (sym c.in-Some.ensures.value) in
    let next = next_file t.next (stored_files t) i (stored_of f) (table_listing t c.len-files.ensures.sound) here in
    let m = c.args.meta.now in
    let body = c.args.body.now in
    let new = c.in_ok-add_file.ensures.ok in
    let file : PlainFile = record { id = f.id; name = f.name; bytes = c.in_ok-bytes.bytes; sealed = f.sealed } in
    let files : c.add_file.new.self.files ≡ c.loop-file.plain.files ++ file ∷ [] = ap (λ (s : State). s.files) new in
    let later = c.loop-file.before + c.page_count-before.result in
    let pushed = file_pushed m body i c.loop-file.before later (stored_of f) c.loop-file.plain.files _ file here (ap (λ n. c.loop-file.before + n) c.page_count-before.ensures)
    (ap (λ (b : List ℕ). with_bytes f.id f.name b f.sealed) c.in_ok-bytes.ensures.value) c.loop-file.invariant.value in
    record {
      listed = file_listed (stored_files t) i f c.in_ok-bytes.bytes c.loop-file.plain.files c.add_file.new.self.files here c.in_ok-bytes.ensures.len c.loop-file.invariant.listed files;
      value = ap (λ fs. fs ++ files_left m body (i + 1) later) files ∙ pushed;
      before = omega (arith, c.loop-file.invariant.before, c.page_count-before.ensures, pages_next (stored_files t) i (stored_of f) here);
      functions = ap (λ (s : State). s.functions) new ∙ c.loop-file.invariant.functions;
      capacity = ap (λ (s : State). s.capacity) new ∙ c.loop-file.invariant.capacity;
    }
  where
    with_bytes : ℕ → List ℕ → List ℕ → Bool → PlainFile
    with_bytes id name bytes sealed = record { id = id; name = name; bytes = bytes; sealed = sealed }

pub set_next-requires-clause-least : goal.set_next-requires-clause-least
set_next-requires-clause-least c = omega (arith, c.next_id.ensures, c.len-files.ensures.sound.next.0)

pub set_next-requires-clause-above : goal.set_next-requires-clause-above
set_next-requires-clause-above c =
    let t = c.args.meta.now.names in
    let none : slice_get t.files c.loop-file.i ≡ None = sym (ap option_copied (sym c.in_default.is) ∙ c.at.ensures.value) in
    let all : map stored_file c.loop-file.plain.files ≡ stored_files t = c.loop-file.invariant.listed ∙ take_whole (stored_files t) c.loop-file.i (record_past t.files c.loop-file.i none) in
    let under : Under t.next (stored_files t) = all_under t.next (stored_files t) (table_listing t c.len-files.ensures.sound).each in
    ids_under c.next_id.result c.loop-file.plain.files (subst (λ n. Under n (map stored_file c.loop-file.plain.files)) (sym c.next_id.ensures) (subst (Under t.next) (sym all) under))

pub returns-clause-value : goal.returns-clause-value
returns-clause-value c =
    let m = c.args.meta.now in
    let none : slice_get m.names.files c.loop-file.i ≡ None = sym (ap option_copied (sym c.in_default.is) ∙ c.at.ensures.value) in
    let files = files_done m c.args.body.now c.loop-file.i c.loop-file.before c.loop-file.plain.files _ (record_past m.names.files c.loop-file.i none) c.loop-file.invariant.value in
    c.set_next.ensures ∙ machine_is files c.next_id.ensures c.loop-file.invariant.functions c.loop-file.invariant.capacity

pub returns-clause-fits : goal.returns-clause-fits
returns-clause-fits c =
    let t = c.args.meta.now.names in
    let files = c.loop-file.plain.files in
    let none : slice_get t.files c.loop-file.i ≡ None = sym (ap option_copied (sym c.in_default.is) ∙ c.at.ensures.value) in
    let all : map stored_file files ≡ stored_files t = c.loop-file.invariant.listed ∙ take_whole (stored_files t) c.loop-file.i (record_past t.files c.loop-file.i none) in
    let listing : IsListing c.next_id.result (map stored_file files) = subst (λ n. IsListing n (map stored_file files)) (sym c.next_id.ensures) (subst (IsListing t.next) (sym all) (table_listing t c.len-files.ensures.sound)) in
    let room : plain.pages_of files ≤ c.loop-file.plain.capacity = omega (arith, pages_same files, ap pages_of all, c.requires.count, c.requires.size.extents, c.blocks-blocks.ensures.sound.count, c.loop-file.invariant.capacity) in
    let s : State = record { files = files; next = c.next_id.result; functions = c.loop-file.plain.functions; capacity = c.loop-file.plain.capacity } in
    subst (Fits c.args.meta.now.geometry.blocks) (sym c.set_next.ensures) (listing_fits c.args.meta.now.geometry.blocks s listing room c.loop-file.invariant.capacity)
