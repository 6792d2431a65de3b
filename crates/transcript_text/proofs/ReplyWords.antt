-- The words of a reply, and the reply that is read from them.
use Rattle.std.proofs.Common.{◌≡◌, ℕ, ◌<◌, ◌^◌, List, [], ◌∷◌, ◌++◌, Bool, true, false, not, refl, ap, Some, arith}
use Rattle.std.specs.Prelude.{decimal, codes, ◌&&◌, ◌==◌}
use Rattle.std.specs.Fmt.{digits}
use Rattle.std.specs.List.{list_all}
use Rattle.std.proofs.lemmas.Bool.Decides.{nat_tests}
use Rattle.hex.specs.Hex.{IsBytes, encode_lower}
use Rattle.sbpf_insn.specs.declared.fault.InsnKind.{InsnKind}
use Rattle.sbpf_insn.specs.declared.fault.InsnKind.TheVariants as insn_kind
use Rattle.sbpf_insn.specs.declared.fault.VerifyKind.{VerifyKind}
use Rattle.sbpf_insn.specs.declared.fault.VerifyKind.TheVariants as verify_kind
use Rattle.plain_files.specs.declared.calls.CodeKind.{CodeKind}
use Rattle.plain_files.specs.declared.calls.CodeKind.TheVariants.{Insn, Verify}
use Rattle.plain_files.specs.declared.calls.Reply.{Reply}
use Rattle.plain_files.specs.declared.calls.Reply.TheVariants.{Id, Len, Val, At, DataBytes, Res, Done, TrapAccess, TrapDepth, TrapOutLen, Spent, BadName, Exists, Full, NoFile, NoFn, TooLong, AppendOnly, TooBig, NoSpace, FnFull, BadCode, Fault, NoMemory}
use Rattle.sbpf_text.specs.Lexing.{is_digit}
use Rattle.sbpf_text.proofs.Numerals.{digits-decimal}
use Rattle.sbpf_text.proofs.Cutting.{weaker}
use Rattle.transcript_text.specs.Print.{bytes_text, insn_word, verify_word, kind_word, address_text, reply_text}
use Rattle.transcript_text.specs.Transcripts.{is_lower_digit, kind_of, reply_of, reply_value, reply_pair, trap_value, bad_code, trap_access}
use Rattle.transcript_text.specs.Again.{IsReply}
use Rattle.transcript_text.proofs.Numbers.{number_32-decimal, number_64-decimal, address_of-text, address_digits, reply_bytes-text, encoded_digits}

-- neither a space nor a line end
abbrev pub is_inner : ℕ → Bool
is_inner b = not (b == 32) && not (b == 10)

abbrev pub AreInner : List (List ℕ) → Type 0
AreInner [] = Unit {0}
AreInner (w ∷ ws) = (list_all is_inner w ≡ true) × AreInner ws

-- words with a space between
abbrev pub spaced : List (List ℕ) → List ℕ
spaced [] = []
spaced (w ∷ []) = w
spaced (w ∷ v ∷ ws) = w ++ 32 ∷ spaced (v ∷ ws)

-- the words of a reply
abbrev pub reply_words : Reply → List (List ℕ)
reply_words (Id id) = codes "id" ∷ decimal id ∷ []
reply_words (Len len) = codes "len" ∷ decimal len ∷ []
reply_words (Val r0) = codes "val" ∷ decimal r0 ∷ []
reply_words (At off) = codes "at" ∷ decimal off ∷ []
reply_words (DataBytes bytes) = codes "data" ∷ bytes_text bytes ∷ []
reply_words (Res bytes) = codes "res" ∷ bytes_text bytes ∷ []
reply_words Done = codes "ok" ∷ []
reply_words (TrapAccess address size slot) = codes "trap" ∷ codes "access" ∷ address_text address ∷ decimal size ∷ decimal slot ∷ []
reply_words (TrapDepth slot) = codes "trap" ∷ codes "depth" ∷ decimal slot ∷ []
reply_words (TrapOutLen r0) = codes "trap" ∷ codes "outlen" ∷ decimal r0 ∷ []
reply_words Spent = codes "spent" ∷ []
reply_words BadName = codes "badname" ∷ []
reply_words Exists = codes "exists" ∷ []
reply_words Full = codes "full" ∷ []
reply_words NoFile = codes "nofile" ∷ []
reply_words NoFn = codes "nofn" ∷ []
reply_words TooLong = codes "toolong" ∷ []
reply_words AppendOnly = codes "appendonly" ∷ []
reply_words TooBig = codes "toobig" ∷ []
reply_words NoSpace = codes "nospace" ∷ []
reply_words FnFull = codes "fnfull" ∷ []
reply_words (BadCode kind slot) = codes "badcode" ∷ kind_word kind ∷ decimal slot ∷ []
reply_words Fault = codes "fault" ∷ []
reply_words NoMemory = codes "nomemory" ∷ []

assoc : (a b c : List ℕ) → (a ++ b) ++ c ≡ a ++ (b ++ c)
assoc [] b c = refl
assoc (x ∷ a) b c = ap (λ t. x ∷ t) (assoc a b c)

pub text_is_words : (r : Reply) → reply_text r ≡ spaced (reply_words r)
text_is_words (Id id) = refl
text_is_words (Len len) = refl
text_is_words (Val r0) = refl
text_is_words (At off) = refl
text_is_words (DataBytes bytes) = refl
text_is_words (Res bytes) = refl
text_is_words Done = refl
text_is_words (TrapAccess address size slot) =
    ap (λ t. codes "trap access " ++ t) (assoc (address_text address) (32 ∷ decimal size) (32 ∷ decimal slot))
text_is_words (TrapDepth slot) = refl
text_is_words (TrapOutLen r0) = refl
text_is_words Spent = refl
text_is_words BadName = refl
text_is_words Exists = refl
text_is_words Full = refl
text_is_words NoFile = refl
text_is_words NoFn = refl
text_is_words TooLong = refl
text_is_words AppendOnly = refl
text_is_words TooBig = refl
text_is_words NoSpace = refl
text_is_words FnFull = refl
text_is_words (BadCode kind slot) = ap (λ t. codes "badcode " ++ t) (assoc (kind_word kind) (32 ∷ []) (decimal slot))
text_is_words Fault = refl
text_is_words NoMemory = refl

-- ---- bytes of words

digit_inner : (b : ℕ) → is_digit b ≡ true → is_inner b ≡ true
digit_inner b h = grind (arith, nat_tests)

lower_inner : (b : ℕ) → is_lower_digit b ≡ true → is_inner b ≡ true
lower_inner b h = grind (arith, nat_tests)

pub decimal_inner : (n : ℕ) → n < 2 ^ 64 → list_all is_inner (decimal n) ≡ true
decimal_inner n h = weaker is_digit is_inner digit_inner (decimal n) (digits-decimal n h)

decimal_inner_32 : (n : ℕ) → n < 2 ^ 32 → list_all is_inner (decimal n) ≡ true
decimal_inner_32 n h = decimal_inner n (omega arith)

bytes_inner : (bs : List ℕ) → IsBytes bs → list_all is_inner (bytes_text bs) ≡ true
bytes_inner [] h = refl
bytes_inner (b ∷ bs) h = weaker is_lower_digit is_inner lower_inner (encode_lower (b ∷ bs)) (encoded_digits (b ∷ bs) h)

address_inner : (n : ℕ) → n < 2 ^ 64 → list_all is_inner (address_text n) ≡ true
address_inner n h = weaker is_lower_digit is_inner lower_inner (digits 16 false n) (address_digits n h)

insn_inner : (kind : InsnKind) → list_all is_inner (insn_word kind) ≡ true
insn_inner insn_kind.Truncated = refl
insn_inner insn_kind.Refused = refl
insn_inner insn_kind.Opcode = refl
insn_inner insn_kind.Register = refl
insn_inner insn_kind.Field = refl
insn_inner insn_kind.Wide = refl

verify_inner : (kind : VerifyKind) → list_all is_inner (verify_word kind) ≡ true
verify_inner verify_kind.Empty = refl
verify_inner verify_kind.TooLong = refl
verify_inner verify_kind.Writer10 = refl
verify_inner verify_kind.Jump = refl
verify_inner verify_kind.Middle = refl
verify_inner verify_kind.CallTarget = refl
verify_inner verify_kind.FallsOff = refl

kind_inner : (kind : CodeKind) → list_all is_inner (kind_word kind) ≡ true
kind_inner (Insn kind) = insn_inner kind
kind_inner (Verify kind) = verify_inner kind

pub words_inner : (r : Reply) → IsReply r → AreInner (reply_words r)
words_inner (Id id) h = (refl, (decimal_inner_32 id h, tt))
words_inner (Len len) h = (refl, (decimal_inner len h, tt))
words_inner (Val r0) h = (refl, (decimal_inner r0 h, tt))
words_inner (At off) h = (refl, (decimal_inner off h, tt))
words_inner (DataBytes bytes) h = (refl, (bytes_inner bytes h, tt))
words_inner (Res bytes) h = (refl, (bytes_inner bytes h, tt))
words_inner Done h = (refl, tt)
words_inner (TrapAccess address size slot) h = (refl, (refl, (address_inner address h.0, (decimal_inner_32 size h.1, (decimal_inner_32 slot h.2, tt)))))
words_inner (TrapDepth slot) h = (refl, (refl, (decimal_inner_32 slot h, tt)))
words_inner (TrapOutLen r0) h = (refl, (refl, (decimal_inner r0 h, tt)))
words_inner Spent h = (refl, tt)
words_inner BadName h = (refl, tt)
words_inner Exists h = (refl, tt)
words_inner Full h = (refl, tt)
words_inner NoFile h = (refl, tt)
words_inner NoFn h = (refl, tt)
words_inner TooLong h = (refl, tt)
words_inner AppendOnly h = (refl, tt)
words_inner TooBig h = (refl, tt)
words_inner NoSpace h = (refl, tt)
words_inner FnFull h = (refl, tt)
words_inner (BadCode kind slot) h = (refl, (kind_inner kind, (decimal_inner_32 slot h, tt)))
words_inner Fault h = (refl, tt)
words_inner NoMemory h = (refl, tt)

-- ---- replies read back

insn_again : (kind : InsnKind) → kind_of (insn_word kind) ≡ Some (Insn kind)
insn_again insn_kind.Truncated = refl
insn_again insn_kind.Refused = refl
insn_again insn_kind.Opcode = refl
insn_again insn_kind.Register = refl
insn_again insn_kind.Field = refl
insn_again insn_kind.Wide = refl

verify_again : (kind : VerifyKind) → kind_of (verify_word kind) ≡ Some (Verify kind)
verify_again verify_kind.Empty = refl
verify_again verify_kind.TooLong = refl
verify_again verify_kind.Writer10 = refl
verify_again verify_kind.Jump = refl
verify_again verify_kind.Middle = refl
verify_again verify_kind.CallTarget = refl
verify_again verify_kind.FallsOff = refl

kind_again : (kind : CodeKind) → kind_of (kind_word kind) ≡ Some kind
kind_again (Insn kind) = insn_again kind
kind_again (Verify kind) = verify_again kind

pub reply_again : (r : Reply) → IsReply r → reply_of (reply_words r) ≡ Some r
unfolding reply_of reply_value reply_pair trap_value bad_code trap_access
reply_again (Id id) h = let n = number_32-decimal id h in rw n refl
reply_again (Len len) h = let n = number_64-decimal len h in rw n refl
reply_again (Val r0) h = let n = number_64-decimal r0 h in rw n refl
reply_again (At off) h = let n = number_64-decimal off h in rw n refl
reply_again (DataBytes bytes) h = let n = reply_bytes-text bytes h in rw n refl
reply_again (Res bytes) h = let n = reply_bytes-text bytes h in rw n refl
reply_again Done h = refl
reply_again (TrapAccess address size slot) h =
    let a = address_of-text address h.0 in
    let n = number_32-decimal size h.1 in
    let s = number_32-decimal slot h.2 in
    rw (a, n, s) refl
reply_again (TrapDepth slot) h = let n = number_32-decimal slot h in rw n refl
reply_again (TrapOutLen r0) h = let n = number_64-decimal r0 h in rw n refl
reply_again Spent h = refl
reply_again BadName h = refl
reply_again Exists h = refl
reply_again Full h = refl
reply_again NoFile h = refl
reply_again NoFn h = refl
reply_again TooLong h = refl
reply_again AppendOnly h = refl
reply_again TooBig h = refl
reply_again NoSpace h = refl
reply_again FnFull h = refl
reply_again (BadCode kind slot) h =
    let k = kind_again kind in
    let s = number_32-decimal slot h in
    rw (k, s) refl
reply_again Fault h = refl
reply_again NoMemory h = refl
