-- The text of code: a line for each instruction. This project's own.
use Rattle.std.specs.Prelude.{ℕ, suc, ℤ, pos, negsuc, List, [], ◌∷◌, ◌++◌, codes, decimal}
use Rattle.std.specs.Fmt.{signed_decimal}
use Rattle.sbpf_insn.specs.declared.insn.Reg.{Reg}
use Rattle.sbpf_insn.specs.declared.insn.Src.{Src}
use Rattle.sbpf_insn.specs.declared.insn.Src.TheVariants as src
use Rattle.sbpf_insn.specs.declared.insn.Insn.{Insn}
use Rattle.sbpf_insn.specs.declared.insn.Insn.TheVariants as insn
use Rattle.sbpf_text.specs.declared.mnemonic.Mnemonic.{Mnemonic}
use Rattle.sbpf_text.specs.declared.mnemonic.Mnemonic.TheVariants as mnemonic
use Rattle.sbpf_text.specs.declared.operand.Operand.{Operand}
use Rattle.sbpf_text.specs.declared.operand.Operand.TheVariants as operand
use Rattle.sbpf_text.specs.Mnemonics.{word_of}

abbrev pub register_text : Reg → List ℕ
register_text r = codes "r" ++ decimal r.n

-- a signed number, with `+` where it isn't negative
abbrev pub offset_text : ℤ → List ℕ
offset_text (pos n) = codes "+" ++ decimal n
offset_text (negsuc n) = codes "-" ++ decimal (suc n)

abbrev pub address_text : Reg → ℤ → List ℕ
address_text base offset = codes "[" ++ (register_text base ++ (offset_text offset ++ codes "]"))

abbrev pub operand_text : Operand → List ℕ
operand_text (operand.Register r) = register_text r
operand_text (operand.Number k) = signed_decimal k
operand_text (operand.Wide n) = decimal n
operand_text (operand.Near offset) = offset_text offset
operand_text (operand.Far offset) = offset_text offset
operand_text (operand.Address base offset) = address_text base offset

abbrev pub source_operand : Src → Operand
source_operand (src.Imm k) = operand.Number k
source_operand (src.Reg r) = operand.Register r

-- ---- the mnemonic of an instruction, and its operands

abbrev pub mnemonic_of : Insn → Mnemonic
mnemonic_of (insn.Alu wide op dst s) = mnemonic.Alu wide op
mnemonic_of (insn.MovSx wide bits dst s) = mnemonic.MovSx wide bits
mnemonic_of (insn.Neg wide dst) = mnemonic.Neg wide
mnemonic_of (insn.End order bits dst) = mnemonic.End order bits
mnemonic_of (insn.Ja offset) = mnemonic.Ja
mnemonic_of (insn.JaFar offset) = mnemonic.JaFar
mnemonic_of (insn.Jump wide c dst s offset) = mnemonic.Jump wide c
mnemonic_of (insn.Call offset) = mnemonic.Call
mnemonic_of insn.Exit = mnemonic.Exit
mnemonic_of (insn.Load size dst base offset) = mnemonic.Load size
mnemonic_of (insn.LoadSx size dst base offset) = mnemonic.LoadSx size
mnemonic_of (insn.StoreImm size base offset imm) = mnemonic.StoreImm size
mnemonic_of (insn.StoreReg size base offset s) = mnemonic.StoreReg size
mnemonic_of (insn.Atomic wide op fetch base offset s) = mnemonic.Atomic wide op fetch
mnemonic_of (insn.LoadWide dst value) = mnemonic.LoadWide

abbrev pub operands_of : Insn → List Operand
operands_of (insn.Alu wide op dst s) = operand.Register dst ∷ source_operand s ∷ []
operands_of (insn.MovSx wide bits dst s) = operand.Register dst ∷ operand.Register s ∷ []
operands_of (insn.Neg wide dst) = operand.Register dst ∷ []
operands_of (insn.End order bits dst) = operand.Register dst ∷ []
operands_of (insn.Ja offset) = operand.Near offset ∷ []
operands_of (insn.JaFar offset) = operand.Far offset ∷ []
operands_of (insn.Jump wide c dst s offset) = operand.Register dst ∷ source_operand s ∷ operand.Near offset ∷ []
operands_of (insn.Call offset) = operand.Far offset ∷ []
operands_of insn.Exit = []
operands_of (insn.Load size dst base offset) = operand.Register dst ∷ operand.Address base offset ∷ []
operands_of (insn.LoadSx size dst base offset) = operand.Register dst ∷ operand.Address base offset ∷ []
operands_of (insn.StoreImm size base offset imm) = operand.Address base offset ∷ operand.Number imm ∷ []
operands_of (insn.StoreReg size base offset s) = operand.Address base offset ∷ operand.Register s ∷ []
operands_of (insn.Atomic wide op fetch base offset s) = operand.Address base offset ∷ operand.Register s ∷ []
operands_of (insn.LoadWide dst value) = operand.Register dst ∷ operand.Wide value ∷ []

-- ---- lines: one space after the word, and a comma and a space between operands

abbrev pub further : List Operand → List ℕ
further [] = []
further (p ∷ ps) = codes ", " ++ (operand_text p ++ further ps)

abbrev pub operands_text : List Operand → List ℕ
operands_text [] = []
operands_text (p ∷ ps) = codes " " ++ (operand_text p ++ further ps)

-- the line of an instruction, without its end and with it
abbrev pub insn_line : Insn → List ℕ
insn_line i = word_of (mnemonic_of i) ++ operands_text (operands_of i)

abbrev pub insn_text : Insn → List ℕ
insn_text i = insn_line i ++ codes "\n"

-- the text of code
abbrev pub text_of : List Insn → List ℕ
text_of [] = []
text_of (i ∷ code) = insn_text i ++ text_of code
