-- Accepted code is short.
use Rattle.std.proofs.Common.{◌≡◌, ℕ, ◌≤◌, List, Option, Some, None, refl, subst}
use Rattle.std.specs.Prelude.{Result, Ok, Err}
use Rattle.sbpf_insn.specs.declared.insn.Insn.{Insn}
use Rattle.sbpf_insn.specs.declared.fault.VerifyFault.{VerifyFault}
use Rattle.sbpf_insn.specs.Cells.{slots}
use Rattle.sbpf_insn.specs.Decoded.{decoded}
use Rattle.sbpf_insn.specs.Refusal.{refusal}
use Rattle.sbpf_insn.proofs.AcceptedLaws.{accepted}
use Rattle.plain_files.specs.declared.calls.Reply.{Reply}
use Rattle.plain_files.specs.Steps.{◌>>=◌}
use Rattle.plain_files.specs.Plain.{spelled_code, unless_refused, accepted_code}

pub short_code : (bytes : List ℕ) (insns : List Insn) → accepted_code bytes ≡ Ok insns → slots insns ≤ 4096
short_code bytes insns e = go (spelled_code (decoded bytes)) e
  where
    fine : (code : List Insn) (o : Option VerifyFault) → refusal code ≡ o → unless_refused code o ≡ Ok insns → slots insns ≤ 4096
    fine code None f g = let s : code ≡ insns = cc in subst (λ (w : List Insn). slots w ≤ 4096) s (accepted code f).short
    fine code (Some fault) f g = absurd (cc)

    go : (o : Result (List Insn) Reply) → (o >>= (λ code. unless_refused code (refusal code))) ≡ Ok insns → slots insns ≤ 4096
    go (Ok code) f = fine code (refusal code) refl f
    go (Err r) f = absurd (cc)
