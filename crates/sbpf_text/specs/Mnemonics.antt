-- The words of instructions, stated once: assembling looks them up, and disassembling writes them. This
-- project's own.
use Rattle.std.specs.Prelude.{ℕ, Bool, true, false, not, ◌&&◌, ◌||◌, nat_eq, List, [], ◌∷◌, ◌++◌, Option, if◌then◌else◌, codes, bytes_eq, map}
use Rattle.std.specs.List.{find, flat_map}
use Rattle.sbpf_insn.specs.declared.insn.AluOp.{AluOp}
use Rattle.sbpf_insn.specs.declared.insn.AluOp.TheVariants as alu
use Rattle.sbpf_insn.specs.declared.insn.Cond.{Cond}
use Rattle.sbpf_insn.specs.declared.insn.Cond.TheVariants as cond
use Rattle.sbpf_insn.specs.declared.insn.Size.{Size}
use Rattle.sbpf_insn.specs.declared.insn.Size.TheVariants as size
use Rattle.sbpf_insn.specs.declared.insn.AtomicOp.{AtomicOp}
use Rattle.sbpf_insn.specs.declared.insn.AtomicOp.TheVariants as atomic
use Rattle.sbpf_insn.specs.declared.insn.Order.{Order}
use Rattle.sbpf_insn.specs.declared.insn.Order.TheVariants as order
use Rattle.sbpf_text.specs.declared.mnemonic.Mnemonic.{Mnemonic}
use Rattle.sbpf_text.specs.declared.mnemonic.Mnemonic.TheVariants as mnemonic

abbrev pub alu_word : AluOp → List ℕ
alu_word alu.Add = codes "add"
alu_word alu.Sub = codes "sub"
alu_word alu.Mul = codes "mul"
alu_word alu.Div = codes "div"
alu_word alu.Sdiv = codes "sdiv"
alu_word alu.Or = codes "or"
alu_word alu.And = codes "and"
alu_word alu.Lsh = codes "lsh"
alu_word alu.Rsh = codes "rsh"
alu_word alu.Mod = codes "mod"
alu_word alu.Smod = codes "smod"
alu_word alu.Xor = codes "xor"
alu_word alu.Mov = codes "mov"
alu_word alu.Arsh = codes "arsh"

abbrev pub cond_word : Cond → List ℕ
cond_word cond.Jeq = codes "jeq"
cond_word cond.Jgt = codes "jgt"
cond_word cond.Jge = codes "jge"
cond_word cond.Jset = codes "jset"
cond_word cond.Jne = codes "jne"
cond_word cond.Jsgt = codes "jsgt"
cond_word cond.Jsge = codes "jsge"
cond_word cond.Jlt = codes "jlt"
cond_word cond.Jle = codes "jle"
cond_word cond.Jslt = codes "jslt"
cond_word cond.Jsle = codes "jsle"

abbrev pub size_word : Size → List ℕ
size_word size.B = codes "b"
size_word size.H = codes "h"
size_word size.W = codes "w"
size_word size.Dw = codes "dw"

abbrev pub order_word : Order → List ℕ
order_word order.Little = codes "le"
order_word order.Big = codes "be"
order_word order.Swap = codes "bswap"

abbrev pub atomic_word : AtomicOp → Bool → List ℕ
atomic_word atomic.Add fetch = (if fetch then codes "afadd" else codes "aadd")
atomic_word atomic.Or fetch = (if fetch then codes "afor" else codes "aor")
atomic_word atomic.And fetch = (if fetch then codes "afand" else codes "aand")
atomic_word atomic.Xor fetch = (if fetch then codes "afxor" else codes "axor")
atomic_word atomic.Xchg fetch = codes "axchg"
atomic_word atomic.CmpXchg fetch = codes "acmpxchg"

-- the counts of bits that words name
abbrev pub bits_word : ℕ → List ℕ
bits_word bits =
    if nat_eq bits 8 then codes "8"
    else if nat_eq bits 16 then codes "16"
    else if nat_eq bits 32 then codes "32"
    else codes "64"

-- the end of a word where the low halves are meant
abbrev pub narrow : Bool → List ℕ → List ℕ
narrow wide end = if wide then [] else end

-- the word of each mnemonic
abbrev pub word_of : Mnemonic → List ℕ
word_of (mnemonic.Alu wide op) = alu_word op ++ narrow wide (codes "32")
word_of (mnemonic.Neg wide) = codes "neg" ++ narrow wide (codes "32")
word_of (mnemonic.MovSx wide bits) = codes "movsx" ++ bits_word bits ++ narrow wide (codes "_32")
word_of (mnemonic.End o bits) = order_word o ++ bits_word bits
word_of mnemonic.Ja = codes "ja"
word_of mnemonic.JaFar = codes "ja32"
word_of (mnemonic.Jump wide c) = cond_word c ++ narrow wide (codes "32")
word_of mnemonic.Call = codes "call"
word_of mnemonic.Exit = codes "exit"
word_of (mnemonic.Load s) = codes "ldx" ++ size_word s
word_of (mnemonic.LoadSx s) = codes "ldxs" ++ size_word s
word_of (mnemonic.StoreImm s) = codes "st" ++ size_word s
word_of (mnemonic.StoreReg s) = codes "stx" ++ size_word s
word_of (mnemonic.Atomic wide op fetch) = atomic_word op fetch ++ (if wide then codes "dw" else codes "w")
word_of mnemonic.LoadWide = codes "lddw"

-- ---- all mnemonics

abbrev pub both : List Bool
both = true ∷ false ∷ []

abbrev pub alu_ops : List AluOp
alu_ops = alu.Add ∷ alu.Sub ∷ alu.Mul ∷ alu.Div ∷ alu.Sdiv ∷ alu.Or ∷ alu.And ∷ alu.Lsh ∷ alu.Rsh ∷ alu.Mod ∷ alu.Smod ∷ alu.Xor ∷ alu.Mov ∷ alu.Arsh ∷ []

abbrev pub conds : List Cond
conds = cond.Jeq ∷ cond.Jgt ∷ cond.Jge ∷ cond.Jset ∷ cond.Jne ∷ cond.Jsgt ∷ cond.Jsge ∷ cond.Jlt ∷ cond.Jle ∷ cond.Jslt ∷ cond.Jsle ∷ []

abbrev pub sizes : List Size
sizes = size.B ∷ size.H ∷ size.W ∷ size.Dw ∷ []

abbrev pub orders : List Order
orders = order.Little ∷ order.Big ∷ order.Swap ∷ []

-- the operations that may fetch or not
abbrev pub atomic_ops : List AtomicOp
atomic_ops = atomic.Add ∷ atomic.Or ∷ atomic.And ∷ atomic.Xor ∷ []

abbrev pub exchanges : List AtomicOp
exchanges = atomic.Xchg ∷ atomic.CmpXchg ∷ []

abbrev pub atomic_mnemonics : Bool → List Mnemonic
atomic_mnemonics wide =
    flat_map (λ fetch. map (λ op. mnemonic.Atomic wide op fetch) atomic_ops) (false ∷ true ∷ [])
    ++ map (λ op. mnemonic.Atomic wide op true) exchanges

abbrev pub mnemonics : List Mnemonic
mnemonics =
    flat_map (λ wide. map (mnemonic.Alu wide) alu_ops) both
    ++ map mnemonic.Neg both
    ++ map (mnemonic.MovSx true) (8 ∷ 16 ∷ 32 ∷ []) ++ map (mnemonic.MovSx false) (8 ∷ 16 ∷ [])
    ++ flat_map (λ o. map (mnemonic.End o) (16 ∷ 32 ∷ 64 ∷ [])) orders
    ++ mnemonic.Ja ∷ mnemonic.JaFar ∷ []
    ++ flat_map (λ wide. map (mnemonic.Jump wide) conds) both
    ++ mnemonic.Call ∷ mnemonic.Exit ∷ []
    ++ map mnemonic.Load sizes
    ++ map mnemonic.LoadSx (size.B ∷ size.H ∷ size.W ∷ [])
    ++ map mnemonic.StoreImm sizes
    ++ map mnemonic.StoreReg sizes
    ++ atomic_mnemonics false ++ atomic_mnemonics true
    ++ mnemonic.LoadWide ∷ []

-- the mnemonic that a word spells, or None where no instruction has that word
unfoldable pub mnemonic_spelled : List ℕ → Option Mnemonic
mnemonic_spelled word = find (λ m. bytes_eq (word_of m) word) mnemonics

-- ---- which mnemonics there are

abbrev pub is_double : Size → Bool
is_double size.Dw = true
is_double _ = false

abbrev pub is_exchange : AtomicOp → Bool
is_exchange atomic.Xchg = true
is_exchange atomic.CmpXchg = true
is_exchange _ = false

-- the widths are those of the instructions, a load with a sign isn't double, and an exchange fetches
abbrev pub is_mnemonic : Mnemonic → Bool
is_mnemonic (mnemonic.MovSx wide bits) = nat_eq bits 8 || (nat_eq bits 16 || (wide && nat_eq bits 32))
is_mnemonic (mnemonic.End o bits) = nat_eq bits 16 || (nat_eq bits 32 || nat_eq bits 64)
is_mnemonic (mnemonic.LoadSx s) = not (is_double s)
is_mnemonic (mnemonic.Atomic wide op fetch) = fetch || not (is_exchange op)
is_mnemonic _ = true
