-- The numbers of an instruction fit their fields, as the Rust types say: an offset has 16 bits, a
-- jump's imm and the imm of arithmetic 32, and a wide load's value 64. Definitions range over all
-- numbers, so laws on instructions name this.
use Rattle.std.specs.Prelude.{ℕ, ◌^◌, ℤ, pos, negsuc, Bool, true, ◌&&◌, nat_lt}
use Rattle.sbpf_insn.specs.declared.insn.Src.{Src}
use Rattle.sbpf_insn.specs.declared.insn.Src.TheVariants as src
use Rattle.sbpf_insn.specs.declared.insn.Insn.{Insn}
use Rattle.sbpf_insn.specs.declared.insn.Insn.TheVariants as insn

-- from -half to half - 1
abbrev pub fits_half : ℕ → ℤ → Bool
fits_half half (pos n) = nat_lt n half
fits_half half (negsuc n) = nat_lt n half

abbrev pub fits16 : ℤ → Bool
fits16 z = fits_half (2 ^ 15) z

abbrev pub fits32 : ℤ → Bool
fits32 z = fits_half (2 ^ 31) z

abbrev pub src_fits : Src → Bool
src_fits (src.Imm k) = fits32 k
src_fits (src.Reg r) = true

abbrev pub fits_fields : Insn → Bool
fits_fields (insn.Alu wide op dst s) = src_fits s
fits_fields (insn.Ja offset) = fits16 offset
fits_fields (insn.JaFar offset) = fits32 offset
fits_fields (insn.Jump wide c dst s offset) = src_fits s && fits16 offset
fits_fields (insn.Call offset) = fits32 offset
fits_fields (insn.Load size dst base offset) = fits16 offset
fits_fields (insn.LoadSx size dst base offset) = fits16 offset
fits_fields (insn.StoreImm size base offset imm) = fits16 offset && fits32 imm
fits_fields (insn.StoreReg size base offset s) = fits16 offset
fits_fields (insn.Atomic wide op fetch base offset s) = fits16 offset
fits_fields (insn.LoadWide dst value) = nat_lt value (2 ^ 64)
fits_fields _ = true
