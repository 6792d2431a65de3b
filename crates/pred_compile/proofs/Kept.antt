-- The program of a predicate keeps the promise.
use Rattle.std.proofs.Common.{◌≡◌, ℕ, ◌+◌, ◌*◌, ◌^◌, ◌<◌, ◌≤◌, true, List, Option, Some, None, sym, ap, ◌∙◌, arith, subst}
use Rattle.sbpf_insn.specs.declared.insn.Insn.{Insn}
use Rattle.sbpf_insn.specs.declared.fault.VerifyFault.{VerifyFault}
use Rattle.sbpf_insn.specs.Cells.{slots}
use Rattle.sbpf_insn.specs.Refusal.{refusal}
use Rattle.sbpf_insn.proofs.AcceptedLaws.{no_refusal}
use Rattle.predicates.specs.declared.pred.Pred.{Pred}
use Rattle.predicates.specs.Nodes.{nodes}
use Rattle.predicates.specs.Fields.{fields_fit}
use Rattle.pred_compile.specs.Generated.{code_slots, pred_program}
use Rattle.pred_compile.specs.Promise.{Selects}
use Rattle.pred_compile.proofs.Lands.{parts, few_slots, slots-program, program_accepted}
use Rattle.pred_compile.proofs.Turns.{promise}

pub program_selects : (p : Pred) (w : ℕ) → 1 ≤ w → w ≤ 4096 → nodes p ≤ 200 → fields_fit p w ≡ true → Selects (pred_program p w) p w
program_selects p w some short few fit = λ input output fuel a b room enough.
    promise (pred_program p w) p w input output fuel (record {
      has = parts p w;
      short_code = omega (arith, few_slots p, few);
      fit = fit;
      some = some;
      short = short;
      input_short = a;
      output_short = b;
      room = room;
    }) enough

pub code_selects : (code : List Insn) (p : Pred) (w : ℕ) → 1 ≤ w → w ≤ 4096 → nodes p ≤ 200 → fields_fit p w ≡ true → code ≡ pred_program p w → Selects code p w
code_selects code p w some short few fit e = subst (λ (c : List Insn). Selects c p w) (sym e) (program_selects p w some short few fit)

pub never_refused : (code : List Insn) (p : Pred) (w : ℕ) (fault : VerifyFault) → nodes p ≤ 200 → code ≡ pred_program p w → refusal code ≡ Some fault → ⊥
never_refused code p w fault few e refused =
    let fine : refusal code ≡ None = ap refusal e ∙ no_refusal (pred_program p w) (program_accepted p w few) in
    let no' : None ≡ Some fault = sym fine ∙ refused in
    absurd cc

pub short_program : (code : List Insn) (p : Pred) (w : ℕ) → nodes p ≤ 200 → code ≡ pred_program p w → slots code ≤ 4096
short_program code p w few e = omega (arith, ap slots e, slots-program p w, few_slots p, few)
