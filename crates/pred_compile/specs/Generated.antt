-- The code of a predicate. No reader need believe this: it is proved to keep the promise. This project's
-- own.
use Rattle.std.specs.Prelude.{ℕ, ◌+◌, ◌^◌, ℤ, pos, negsuc, Bool, true, nat_eq, nat_lt, List, [], ◌∷◌, ◌++◌, if◌then◌else◌}
use Rattle.sbpf_insn.specs.declared.insn.Reg.{Reg}
use Rattle.sbpf_insn.specs.declared.insn.Src.TheVariants as src
use Rattle.sbpf_insn.specs.declared.insn.Size.{Size}
use Rattle.sbpf_insn.specs.declared.insn.Size.TheVariants as size
use Rattle.sbpf_insn.specs.declared.insn.AluOp.TheVariants as op
use Rattle.sbpf_insn.specs.declared.insn.Cond.{Cond}
use Rattle.sbpf_insn.specs.declared.insn.Cond.TheVariants as test
use Rattle.sbpf_insn.specs.declared.insn.Insn.{Insn}
use Rattle.sbpf_insn.specs.declared.insn.Insn.TheVariants as insn
use Rattle.predicates.specs.declared.pred.PredCond.{PredCond}
use Rattle.predicates.specs.declared.pred.PredCond.TheVariants as is
use Rattle.predicates.specs.declared.pred.Pred.{Pred, Cmp, And', Or', Not', more_of-Pred, end_of-Pred}

abbrev pub reg : ℕ → Reg
reg n = record { n = n }

-- What the registers hold: the bytes written so far, the address of the context, the field and the number
-- of a comparison, the address of the record, how many bytes of input are left from there on, the address
-- behind what was written, and the record's number.
abbrev pub written : Reg
written = reg 0

abbrev pub context : Reg
context = reg 1

abbrev pub field : Reg
field = reg 2

abbrev pub value : Reg
value = reg 3

abbrev pub place : Reg
place = reg 6

abbrev pub rest : Reg
rest = reg 7

abbrev pub end : Reg
end = reg 8

abbrev pub count : Reg
count = reg 9

abbrev pub size_of : ℕ → Size
size_of n = if nat_eq n 1 then size.B else if nat_eq n 2 then size.H else if nat_eq n 4 then size.W else size.Dw

abbrev pub cond_of : PredCond → Cond
cond_of is.Eq = test.Jeq
cond_of is.Ne = test.Jne
cond_of is.Gt = test.Jgt
cond_of is.Ge = test.Jge
cond_of is.Lt = test.Jlt
cond_of is.Le = test.Jle

-- a number that a comparison holds in itself, without a wide load
abbrev pub is_short : ℕ → Bool
is_short v = nat_lt v (2 ^ 31)

-- how many slots a comparison has, where its number is short and where it is not
abbrev pub slots_where : Bool → ℕ
slots_where short = if short then 3 else 5

-- how many slots the code of a predicate has
abbrev pub code_slots : Pred → ℕ
code_slots (Cmp c off size v) = slots_where (is_short v)
code_slots (And' s (more_of-Pred a end_of-Pred) t (more_of-Pred b end_of-Pred)) = code_slots a + code_slots b
code_slots (Or' s (more_of-Pred a end_of-Pred) t (more_of-Pred b end_of-Pred)) = code_slots a + code_slots b
code_slots (Not' s (more_of-Pred a end_of-Pred)) = code_slots a

-- control goes on at so many slots behind the code: on_true where the comparison holds, else on_false
abbrev pub short_code : PredCond → ℕ → ℕ → ℕ → List Insn
short_code c v on_true on_false =
    insn.Jump true (cond_of c) field (src.Imm (pos v)) (pos (on_true + 1))
    ∷ insn.Ja (pos on_false)
    ∷ []

abbrev pub wide_code : PredCond → ℕ → ℕ → ℕ → List Insn
wide_code c v on_true on_false =
    insn.LoadWide value v
    ∷ insn.Jump true (cond_of c) field (src.Reg value) (pos (on_true + 1))
    ∷ insn.Ja (pos on_false)
    ∷ []

abbrev pub compare_where : Bool → PredCond → ℕ → ℕ → ℕ → List Insn
compare_where short c v on_true on_false = if short then short_code c v on_true on_false else wide_code c v on_true on_false

abbrev pub compare_code : PredCond → ℕ → ℕ → ℕ → List Insn
compare_code c v on_true on_false = compare_where (is_short v) c v on_true on_false

abbrev pub cmp_where : Bool → PredCond → ℕ → ℕ → ℕ → ℕ → ℕ → List Insn
cmp_where short c off size v on_true on_false = insn.Load (size_of size) field place (pos off) ∷ compare_where short c v on_true on_false

abbrev pub cmp_code : PredCond → ℕ → ℕ → ℕ → ℕ → ℕ → List Insn
cmp_code c off size v on_true on_false = cmp_where (is_short v) c off size v on_true on_false

-- the same of a predicate
abbrev pub pred_code : Pred → ℕ → ℕ → List Insn
pred_code (Cmp c off size v) on_true on_false = cmp_code c off size v on_true on_false
pred_code (And' s (more_of-Pred a end_of-Pred) t (more_of-Pred b end_of-Pred)) on_true on_false =
    pred_code a 0 (code_slots b + on_false) ++ pred_code b on_true on_false
pred_code (Or' s (more_of-Pred a end_of-Pred) t (more_of-Pred b end_of-Pred)) on_true on_false =
    pred_code a (code_slots b + on_true) 0 ++ pred_code b on_true on_false
pred_code (Not' s (more_of-Pred a end_of-Pred)) on_true on_false = pred_code a on_false on_true

-- input, its length and output, from the context
abbrev pub opening : List Insn
opening =
    insn.Load size.Dw place context (pos 0)
    ∷ insn.Load size.Dw rest context (pos 8)
    ∷ insn.Load size.Dw end context (pos 16)
    ∷ []

-- the end, where fewer bytes are left than a record has; the predicate's code has n slots
abbrev pub record_test : ℕ → ℕ → List Insn
record_test n width = insn.Jump true test.Jlt rest (src.Imm (pos width)) (pos (n + 7)) ∷ []

-- a record that satisfies the predicate
abbrev pub taking : List Insn
taking =
    insn.StoreReg size.W end (pos 0) count
    ∷ insn.Alu true op.Add end (src.Imm (pos 4))
    ∷ insn.Alu true op.Add written (src.Imm (pos 4))
    ∷ []

-- on to the next record
abbrev pub going_on : ℕ → ℕ → List Insn
going_on n width =
    insn.Alu true op.Add count (src.Imm (pos 1))
    ∷ insn.Alu true op.Add place (src.Imm (pos width))
    ∷ insn.Alu true op.Sub rest (src.Imm (pos width))
    ∷ insn.Ja (negsuc (n + 7))
    ∷ []

abbrev pub ending : List Insn
ending = insn.Exit ∷ []

abbrev pub framed : ℕ → ℕ → List Insn → List Insn
framed n width inner = opening ++ (record_test n width ++ (inner ++ (taking ++ (going_on n width ++ ending))))

abbrev pub pred_program : Pred → ℕ → List Insn
pred_program p width = framed (code_slots p) width (pred_code p 0 3)
