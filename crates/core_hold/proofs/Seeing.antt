-- What an actor sees of the calls in flight, where names, places and contents change elsewhere.
use Rattle.std.proofs.Common.{◌≡◌, ℕ, ◌<◌, Bool, true, false, List, length, Option, Some, None, refl, ap, ◌∙◌, arith}
use Rattle.std.specs.Prelude.{nat_lt, if◌then◌else◌, map, option_map, bytes_eq}
use mathlib.Core.Path.{fun_ext}
use Rattle.std.proofs.lemmas.Bool.Decides.{nat_tests}
use Rattle.page_base.specs.Bytes.{zero_page}
use Rattle.sbpf_insn.specs.declared.insn.Insn.{Insn}
use Rattle.core_quick.specs.Call.{Call}
use Rattle.core_quick.specs.PlainFile.{PlainFile}
use Rattle.core_quick.specs.Plain as plain_files
use Rattle.core_quick.specs.Plain.{State, file_of, function_of}
use Rattle.core_quick.specs.Actor.{Actor}
use Rattle.core_quick.specs.State.{Page, Shape, File, Function, Names, Places, Claim, Flight}
use Rattle.core_quick.specs.Contents.{page_of, span_block}
use Rattle.core_quick.specs.Reach.{file_word, function_word, file_by, function_by, function_for, len_or_none}
use Rattle.core_quick.specs.PlainOf.{plain_file, plain_function, plain_of, file_page, file_like, function_like, names_like}
use Rattle.core_quick.specs.Hold.{sees, is_held, code_of, cut_to, len_seen, readable_seen, len_for, SeenCall, seen_call, call_seen}
use Rattle.core_quick.proofs.Views.{find_map, file_seen, function_seen}
use Rattle.core_quick.proofs.Seen.{length_bytes}
use Rattle.core_hold.proofs.Views.{seen_by}

-- ---- one call

pub record StillSees (names names2 : Names) (places places2 : Places) (pages pages2 : ℕ → Page) (claim : Claim) : Type 0 where
  pub code : code_of (function_for names2.functions claim.request.call) ≡ code_of (function_for names.functions claim.request.call)
  pub blocks : (i : ℕ) → i < claim.reach.pages → span_block places2 claim i ≡ span_block places claim i
  pub contents : (i b : ℕ) → i < claim.reach.pages → span_block places claim i ≡ Some b → pages2 b ≡ pages b
  pub len : len_seen claim (len_for names2 claim) ≡ len_seen claim (len_for names claim)
  pub readable : readable_seen claim (len_for names2 claim) ≡ readable_seen claim (len_for names claim)

lower : (i n : ℕ) → nat_lt i n ≡ true → i < n
lower i n e = grind (arith, nat_tests)

cut_same : {A : Type 0} (n : ℕ) (rest : A) (f g : ℕ → A) → ((i : ℕ) → i < n → f i ≡ g i) → cut_to n rest f ≡ cut_to n rest g
cut_same {A} n rest f g h = fun_ext (λ i. go i (nat_lt i n) refl)
  where
    go : (i : ℕ) (t : Bool) → nat_lt i n ≡ t → (if t then f i else rest) ≡ (if t then g i else rest)
    go i true e = h i (lower i n e)
    go i false e = refl

page_same : (pages pages2 : ℕ → Page) (at : Option ℕ) → ((b : ℕ) → at ≡ Some b → pages2 b ≡ pages b) → page_of pages2 at ≡ page_of pages at
page_same pages pages2 None h = refl
page_same pages pages2 (Some b) h = h b refl

seen_stays : (names names2 : Names) (places places2 : Places) (pages pages2 : ℕ → Page) (call : Flight) → StillSees names names2 places places2 pages pages2 call.claim → seen_call names2 places2 pages2 call ≡ seen_call names places pages call
seen_stays names names2 places places2 pages pages2 call s =
    let n = call.claim.reach.pages in
    let blocks = cut_same n None (span_block places2 call.claim) (span_block places call.claim) s.blocks in
    let contents = cut_same n zero_page (λ i. page_of pages2 (span_block places2 call.claim i)) (λ i. page_of pages (span_block places call.claim i))
    (λ i l. ap (page_of pages2) (s.blocks i l) ∙ page_same pages pages2 (span_block places call.claim i) (λ b e. s.contents i b l e)) in
    λ j. record { claim = call.claim; code = s.code j; held = is_held call.phase; blocks = blocks j; contents = contents j; len = s.len j; readable = s.readable j }

-- ---- all calls in flight

pub seen_all : (names names2 : Names) (places places2 : Places) (pages pages2 : ℕ → Page) (a : Actor) (calls : ℕ → Option Flight) →
    ((l : ℕ) (call : Flight) → calls l ≡ Some call → StillSees names names2 places places2 pages pages2 call.claim) → seen_by names2 places2 pages2 a calls ≡ seen_by names places pages a calls
seen_all names names2 places places2 pages pages2 a calls h = fun_ext (λ l. go l (calls l) refl)
  where
    go : (l : ℕ) (o : Option Flight) → calls l ≡ o → call_seen names2 places2 pages2 a l o ≡ call_seen names places pages a l o
    go l None e = refl
    go l (Some call) e = ap (λ (w : SeenCall). if sees a l call.phase then Some w else None) (seen_stays names names2 places places2 pages pages2 call (h l call e))

-- ---- names of a plain state in which a call finds a file of the same length, and a function of the same code

abbrev pub plain_len : Option PlainFile → ℕ
plain_len None = 0
plain_len (Some f) = length f.bytes

abbrev pub plain_code : Option plain_files.Function → Option (List Insn)
plain_code None = None
plain_code (Some f) = Some f.code

pub record FindsAlike (s s2 : State) (call : Call) : Type 0 where
  pub len : (name : List ℕ) → file_word call ≡ Some name → plain_len (file_of name s2.files) ≡ plain_len (file_of name s.files)
  pub code : (name : List ℕ) → function_word call ≡ Some name → plain_code (function_of name s2.functions) ≡ plain_code (function_of name s.functions)

len_like : (o : Option PlainFile) → len_or_none (option_map file_like o) ≡ plain_len o
len_like None = refl
len_like (Some f) = refl

len_was : (places : Places) (pages : ℕ → Page) (o : Option File) → plain_len (option_map (plain_file places pages) o) ≡ len_or_none o
len_was places pages None = refl
len_was places pages (Some f) = length_bytes f.len (file_page places pages f.id)

pub len_found : (shape : Shape) (names : Names) (places : Places) (pages : ℕ → Page) (name : List ℕ) → plain_len (file_of name (plain_of shape names places pages).files) ≡ len_or_none (file_by names.files (Some name))
len_found shape names places pages name = ap plain_len (file_seen shape names places pages name) ∙ len_was places pages (file_by names.files (Some name))

pub len_new : (s2 : State) (name : List ℕ) → len_or_none (file_by (map file_like s2.files) (Some name)) ≡ plain_len (file_of name s2.files)
len_new s2 name = ap len_or_none (find_map file_like (λ (f : File). bytes_eq f.name name) s2.files) ∙ len_like (file_of name s2.files)

pub len_alike : (shape : Shape) (names : Names) (places : Places) (pages : ℕ → Page) (s2 : State) (claim : Claim) → FindsAlike (plain_of shape names places pages) s2 claim.request.call → len_for (names_like s2 names) claim ≡ len_for names claim
len_alike shape names places pages s2 claim same = go (file_word claim.request.call) refl
  where
    go : (w : Option (List ℕ)) → file_word claim.request.call ≡ w → len_or_none (file_by (map file_like s2.files) w) ≡ len_or_none (file_by names.files w)
    go None e = refl
    go (Some name) e = len_new s2 name ∙ (same.len name e ∙ len_found shape names places pages name)

code_like : (old : List Function) (o : Option plain_files.Function) → code_of (option_map (function_like old) o) ≡ plain_code o
code_like old None = refl
code_like old (Some f) = refl

code_was : (o : Option Function) → plain_code (option_map plain_function o) ≡ code_of o
code_was None = refl
code_was (Some f) = refl

pub code_alike : (shape : Shape) (names : Names) (places : Places) (pages : ℕ → Page) (s2 : State) (call : Call) → FindsAlike (plain_of shape names places pages) s2 call → code_of (function_for (names_like s2 names).functions call) ≡ code_of (function_for names.functions call)
code_alike shape names places pages s2 call same = go (function_word call) refl
  where
    go : (w : Option (List ℕ)) → function_word call ≡ w → code_of (function_by (map (function_like names.functions) s2.functions) w) ≡ code_of (function_by names.functions w)
    go None e = refl
    go (Some name) e =
        ap code_of (find_map (function_like names.functions) (λ (f : Function). bytes_eq f.name name) s2.functions)
        ∙ (code_like names.functions (function_of name s2.functions) ∙ (same.code name e ∙ (ap plain_code (function_seen shape names places pages name) ∙ code_was (function_by names.functions (Some name)))))

-- names change, and neither places nor contents
pub names_alike : (shape : Shape) (names : Names) (places : Places) (pages : ℕ → Page) (s2 : State) (claim : Claim) → FindsAlike (plain_of shape names places pages) s2 claim.request.call → StillSees names (names_like s2 names) places places pages pages claim
names_alike shape names places pages s2 claim same = record {
  code = code_alike shape names places pages s2 claim.request.call same;
  blocks = λ i l. refl;
  contents = λ i b l e. refl;
  len = ap (len_seen claim) (len_alike shape names places pages s2 claim same);
  readable = ap (readable_seen claim) (len_alike shape names places pages s2 claim same);
}
