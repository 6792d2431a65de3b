-- The words of the mnemonics are words.
use Rattle.std.proofs.Common.{◌≡◌, ℕ, ◌<◌, List, ◌++◌, length, Bool, true, false, refl, arith, ◌∙◌, cond}
use Rattle.std.specs.Prelude.{codes, nat_eq, if◌then◌else◌}
use Rattle.std.specs.List.{list_all}
use Rattle.std.proofs.lemmas.List.{length-append}
use Rattle.std.proofs.lemmas.List.Folds.{list_all-append}
use Rattle.sbpf_insn.specs.declared.insn.AluOp.{AluOp}
use Rattle.sbpf_insn.specs.declared.insn.AluOp.TheVariants as alu
use Rattle.sbpf_insn.specs.declared.insn.Cond.{Cond}
use Rattle.sbpf_insn.specs.declared.insn.Cond.TheVariants as conds
use Rattle.sbpf_insn.specs.declared.insn.Size.{Size}
use Rattle.sbpf_insn.specs.declared.insn.Size.TheVariants as size
use Rattle.sbpf_insn.specs.declared.insn.AtomicOp.{AtomicOp}
use Rattle.sbpf_insn.specs.declared.insn.AtomicOp.TheVariants as atomic
use Rattle.sbpf_insn.specs.declared.insn.Order.{Order}
use Rattle.sbpf_insn.specs.declared.insn.Order.TheVariants as order
use Rattle.sbpf_text.specs.declared.mnemonic.Mnemonic.{Mnemonic}
use Rattle.sbpf_text.specs.declared.mnemonic.Mnemonic.TheVariants as mnemonic
use Rattle.sbpf_text.specs.Mnemonics.{word_of, alu_word, cond_word, size_word, order_word, atomic_word, bits_word, narrow}
use Rattle.sbpf_text.proofs.Cutting.{is_plain, IsWord}

word : (w : List ℕ) → list_all is_plain w ≡ true → 0 < length w → IsWord w
word w p s = record { plain = p; some = s }

longer : (v w : List ℕ) → IsWord v → list_all is_plain w ≡ true → IsWord (v ++ w)
longer v w h p = record {
  plain = list_all-append is_plain v w ∙ (let a = h.plain in grind arith);
  some = (let s = h.some in omega (arith, length-append v w));
}

plain_append : (v w : List ℕ) → list_all is_plain v ≡ true → list_all is_plain w ≡ true → list_all is_plain (v ++ w) ≡ true
plain_append v w a b = list_all-append is_plain v w ∙ grind arith

alu_is : (o : AluOp) → IsWord (alu_word o)
alu_is alu.Add = word _ refl (omega arith)
alu_is alu.Sub = word _ refl (omega arith)
alu_is alu.Mul = word _ refl (omega arith)
alu_is alu.Div = word _ refl (omega arith)
alu_is alu.Sdiv = word _ refl (omega arith)
alu_is alu.Or = word _ refl (omega arith)
alu_is alu.And = word _ refl (omega arith)
alu_is alu.Lsh = word _ refl (omega arith)
alu_is alu.Rsh = word _ refl (omega arith)
alu_is alu.Mod = word _ refl (omega arith)
alu_is alu.Smod = word _ refl (omega arith)
alu_is alu.Xor = word _ refl (omega arith)
alu_is alu.Mov = word _ refl (omega arith)
alu_is alu.Arsh = word _ refl (omega arith)

cond_is : (c : Cond) → IsWord (cond_word c)
cond_is conds.Jeq = word _ refl (omega arith)
cond_is conds.Jgt = word _ refl (omega arith)
cond_is conds.Jge = word _ refl (omega arith)
cond_is conds.Jset = word _ refl (omega arith)
cond_is conds.Jne = word _ refl (omega arith)
cond_is conds.Jsgt = word _ refl (omega arith)
cond_is conds.Jsge = word _ refl (omega arith)
cond_is conds.Jlt = word _ refl (omega arith)
cond_is conds.Jle = word _ refl (omega arith)
cond_is conds.Jslt = word _ refl (omega arith)
cond_is conds.Jsle = word _ refl (omega arith)

size_is : (s : Size) → IsWord (size_word s)
size_is size.B = word _ refl (omega arith)
size_is size.H = word _ refl (omega arith)
size_is size.W = word _ refl (omega arith)
size_is size.Dw = word _ refl (omega arith)

order_is : (o : Order) → IsWord (order_word o)
order_is order.Little = word _ refl (omega arith)
order_is order.Big = word _ refl (omega arith)
order_is order.Swap = word _ refl (omega arith)

atomic_is : (o : AtomicOp) (fetch : Bool) → IsWord (atomic_word o fetch)
atomic_is atomic.Add true = word _ refl (omega arith)
atomic_is atomic.Add false = word _ refl (omega arith)
atomic_is atomic.Or true = word _ refl (omega arith)
atomic_is atomic.Or false = word _ refl (omega arith)
atomic_is atomic.And true = word _ refl (omega arith)
atomic_is atomic.And false = word _ refl (omega arith)
atomic_is atomic.Xor true = word _ refl (omega arith)
atomic_is atomic.Xor false = word _ refl (omega arith)
atomic_is atomic.Xchg true = word _ refl (omega arith)
atomic_is atomic.Xchg false = word _ refl (omega arith)
atomic_is atomic.CmpXchg true = word _ refl (omega arith)
atomic_is atomic.CmpXchg false = word _ refl (omega arith)

narrow_plain : (wide : Bool) (end : List ℕ) → list_all is_plain end ≡ true → list_all is_plain (narrow wide end) ≡ true
narrow_plain true end h = refl
narrow_plain false end h = h

bits_at : (x y z : Bool) → list_all is_plain (cond x (codes "8") (cond y (codes "16") (cond z (codes "32") (codes "64")))) ≡ true
bits_at true y z = refl
bits_at false true z = refl
bits_at false false true = refl
bits_at false false false = refl

bits_plain : (bits : ℕ) → list_all is_plain (bits_word bits) ≡ true
bits_plain bits = bits_at (nat_eq bits 8) (nat_eq bits 16) (nat_eq bits 32)

width_plain : (wide : Bool) → list_all is_plain (if wide then codes "dw" else codes "w") ≡ true
width_plain true = refl
width_plain false = refl

pub mnemonic_word : (r : Mnemonic) → IsWord (word_of r)
mnemonic_word (mnemonic.Alu wide op) = longer (alu_word op) (narrow wide (codes "32")) (alu_is op) (narrow_plain wide (codes "32") refl)
mnemonic_word (mnemonic.Neg wide) = longer (codes "neg") (narrow wide (codes "32")) (word _ refl (omega arith)) (narrow_plain wide (codes "32") refl)
mnemonic_word (mnemonic.MovSx wide bits) = longer (codes "movsx" ++ bits_word bits) (narrow wide (codes "_32")) (longer (codes "movsx") (bits_word bits) (word _ refl (omega arith)) (bits_plain bits)) (narrow_plain wide (codes "_32") refl)
mnemonic_word (mnemonic.End o bits) = longer (order_word o) (bits_word bits) (order_is o) (bits_plain bits)
mnemonic_word mnemonic.Ja = word _ refl (omega arith)
mnemonic_word mnemonic.JaFar = word _ refl (omega arith)
mnemonic_word (mnemonic.Jump wide c) = longer (cond_word c) (narrow wide (codes "32")) (cond_is c) (narrow_plain wide (codes "32") refl)
mnemonic_word mnemonic.Call = word _ refl (omega arith)
mnemonic_word mnemonic.Exit = word _ refl (omega arith)
mnemonic_word (mnemonic.Load s) = let w = size_is s in longer (codes "ldx") (size_word s) (word _ refl (omega arith)) w.plain
mnemonic_word (mnemonic.LoadSx s) = let w = size_is s in longer (codes "ldxs") (size_word s) (word _ refl (omega arith)) w.plain
mnemonic_word (mnemonic.StoreImm s) = let w = size_is s in longer (codes "st") (size_word s) (word _ refl (omega arith)) w.plain
mnemonic_word (mnemonic.StoreReg s) = let w = size_is s in longer (codes "stx") (size_word s) (word _ refl (omega arith)) w.plain
mnemonic_word (mnemonic.Atomic wide op fetch) = longer (atomic_word op fetch) (if wide then codes "dw" else codes "w") (atomic_is op fetch) (width_plain wide)
mnemonic_word mnemonic.LoadWide = word _ refl (omega arith)
