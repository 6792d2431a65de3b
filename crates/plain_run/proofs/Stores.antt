-- What a call answers that stores bytes in a file.
use Rattle.std.proofs.Common.{◌≡◌, ℕ, ◌<◌, ◌≤◌, List, length, set, get_or, Bool, true, false, Option, Some, refl, ap, subst, ◌∙◌, sym, arith}
use Rattle.std.specs.Prelude.{slice_get, nat_le}
use Rattle.std.proofs.lemmas.Bool.Decides.{nat_tests}
use Rattle.std.proofs.lemmas.Grind.{common_steps}
use Rattle.std.proofs.lemmas.List.{length-replicate}
use Rattle.std.proofs.lemmas.Option.{slice_get_read, slice_get_within}
use Rattle.plain_files.specs.declared.calls.PlainFile.{PlainFile}
use Rattle.plain_files.specs.declared.calls.Reply.{Reply}
use Rattle.plain_files.specs.declared.calls.Reply.TheVariants.{NoSpace}
use Rattle.plain_files.specs.Lists.{with_changed}
use Rattle.plain_files.specs.Plain.{State, Answered, is_file, file_in, pages_of, stored, or_refusal, reply_alone, with_length}

-- the files, of which the one of the name at a place has these bytes
abbrev pub refilled : State → List ℕ → ℕ → List ℕ → List PlainFile
refilled s name i bytes = set s.files i (record (file_in s name) { bytes = bytes })

-- whether all files fit, once the one at a place has so many bytes
abbrev pub TellsRoom : Bool → List PlainFile → ℕ → ℕ → ℕ → Type 0
TellsRoom room files capacity i len =
    (f : PlainFile) (bytes : List ℕ) → slice_get files i ≡ Some f → length bytes ≡ len → room ≡ nat_le (pages_of (set files i (record f { bytes = bytes }))) capacity

pub stored_or_not : (s : State) (name bytes : List ℕ) (reply : Reply) (files : List PlainFile) → with_changed (is_file name) (λ file. record file { bytes = bytes }) s.files ≡ files → (s.capacity < pages_of files → or_refusal s (stored s name bytes reply) ≡ reply_alone s NoSpace) × (pages_of files ≤ s.capacity → or_refusal s (stored s name bytes reply) ≡ record { reply = reply; state = record s { files = files } })
stored_or_not s name bytes reply files is = (λ over. grind (arith, nat_tests), λ fits. grind (arith, nat_tests))

-- the same room in the same files
room_in : (room : Bool) (files files' : List PlainFile) (capacity i len : ℕ) → files ≡ files' → TellsRoom room files capacity i len → TellsRoom room files' capacity i len
room_in room files files' capacity i len same tells = let P : List PlainFile → Type 0 = λ fs. TellsRoom room fs capacity i len in subst P same tells

-- without room nothing changes
pub store_refused : (s : State) (name new : List ℕ) (reply : Reply) (i len : ℕ) (room : Bool) (files : List PlainFile) → files ≡ s.files → slice_get s.files i ≡ Some (file_in s name) → with_changed (is_file name) (λ file. record file { bytes = new }) s.files ≡ refilled s name i new → TellsRoom room files s.capacity i len → len ≡ length new → room ≡ false → or_refusal s (stored s name new reply) ≡ reply_alone s NoSpace
store_refused s name new reply i len room files same found changed tells is full =
    let test : room ≡ nat_le (pages_of (refilled s name i new)) s.capacity = room_in room files s.files s.capacity i len same tells (file_in s name) new found (sym is) in
    let over : s.capacity < pages_of (refilled s name i new) = grind (arith, nat_tests) in
    (stored_or_not s name new reply (refilled s name i new) changed).0 over

-- with room the file takes the bytes
pub store_done : (s : State) (name new : List ℕ) (reply : Reply) (i len : ℕ) (room : Bool) (files : List PlainFile) (now : PlainFile) → files ≡ s.files → slice_get s.files i ≡ Some (file_in s name) → with_changed (is_file name) (λ file. record file { bytes = new }) s.files ≡ refilled s name i new → TellsRoom room files s.capacity i len → len ≡ length new → room ≡ true → now ≡ record (file_in s name) { bytes = new } → (pages_of (set s.files i now) ≤ s.capacity) × (or_refusal s (stored s name new reply) ≡ record { reply = reply; state = record s { files = set s.files i now } })
store_done s name new reply i len room files now same found changed tells is roomy given =
    let test : room ≡ nat_le (pages_of (refilled s name i new)) s.capacity = room_in room files s.files s.capacity i len same tells (file_in s name) new found (sym is) in
    let fits : pages_of (refilled s name i new) ≤ s.capacity = grind (arith, nat_tests) in
    let stored_there : refilled s name i new ≡ set s.files i now = ap (λ f. set s.files i f) (sym given) in
    let pages : pages_of (refilled s name i new) ≡ pages_of (set s.files i now) = ap pages_of stored_there in
    (omega (arith, fits, pages), (stored_or_not s name new reply (refilled s name i new) changed).1 fits ∙ ap (λ fs. record { reply = reply; state = record s { files = fs } }) stored_there)

same_some : {A : Type 0} → (o : Option A) (x y : A) → o ≡ Some x → o ≡ Some y → x ≡ y
same_some o x y p q = cc

-- what stands at a place, read two ways
pub same_at : {A : Type 0} → (xs : List A) (i : ℕ) (f r : A) → slice_get xs i ≡ Some f → r ≡ get_or xs i r → f ≡ r
same_at xs i f r got is = same_some _ _ _ got (slice_get_read xs (length xs) i r refl (slice_get_within xs i f got) is)

-- the length that bytes were given
pub length_exact : (bytes : List ℕ) (len : ℕ) → length (with_length bytes len) ≡ len
length_exact bytes len = grind (arith, common_steps, length-replicate)

-- the two parts of an answer
pub parts_of : (a : Answered) (reply : Reply) (after : State) → a ≡ record { reply = reply; state = after } → (reply ≡ a.reply) × (after ≡ a.state)
parts_of a reply after is = (ap (λ (x : Answered). x.reply) (sym is), ap (λ (x : Answered). x.state) (sym is))
