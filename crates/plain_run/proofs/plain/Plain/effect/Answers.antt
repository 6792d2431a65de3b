use Rattle.std.proofs.Common.{ℕ, List, subst, sym}
use Rattle.plain_files.specs.declared.calls.Call.{Call}
use Rattle.plain_files.specs.declared.calls.Call.TheVariants.{Write}
use Rattle.plain_files.specs.Plain.{effect, or_refusal}
use Rattle.plain_run.specs.Answers.{Gives}
use Rattle.plain_run.proofs.Runs.{gives_alone}
use Rattle.plain_run.proofs.plain.Plain.effect.Goals as goal

pub returns-in-Write : goal.returns-in-Write
returns-in-Write c =
    let P : Call → Type 0 = λ call. Gives c.args.self.now (or_refusal c.args.self.now (effect c.args.self.now call)) c.put.result c.put.new.self in
    let Q : List ℕ → Type 0 = λ bytes. P (Write c.in-Write.name c.in-Write.off bytes) in
    subst P (sym c.in-Write.is) (subst Q c.as_slice.ensures c.put.ensures)

pub returns-in-Append : goal.returns-in-Append
returns-in-Append c =
    let P : Call → Type 0 = λ call. Gives c.args.self.now (or_refusal c.args.self.now (effect c.args.self.now call)) c.append.result c.append.new.self in
    subst P (sym c.in-Append.is) c.append.ensures

pub returns-in-Trunc : goal.returns-in-Trunc
returns-in-Trunc c =
    let P : Call → Type 0 = λ call. Gives c.args.self.now (or_refusal c.args.self.now (effect c.args.self.now call)) c.trunc.result c.trunc.new.self in
    subst P (sym c.in-Trunc.is) c.trunc.ensures

pub returns-in-Readl : goal.returns-in-Readl
returns-in-Readl c =
    let P : Call → Type 0 = λ call. Gives c.args.self.now (or_refusal c.args.self.now (effect c.args.self.now call)) c.readl.result c.args.self.now in
    subst P (sym c.in-Readl.is) (gives_alone c.args.self.now _ c.readl.result c.readl.ensures)

pub returns-in-Writel : goal.returns-in-Writel
returns-in-Writel c =
    let P : Call → Type 0 = λ call. Gives c.args.self.now (or_refusal c.args.self.now (effect c.args.self.now call)) c.writel.result c.writel.new.self in
    subst P (sym c.in-Writel.is) c.writel.ensures
