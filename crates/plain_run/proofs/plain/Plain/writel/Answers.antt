use Rattle.std.proofs.Common.{◌≡◌, Result, ap, subst, ◌∙◌, sym}
use Rattle.page_base.specs.Bytes.{Cut, Put}
use Rattle.plain_files.specs.declared.calls.Reply.{Reply}
use Rattle.plain_files.specs.declared.calls.Reply.TheVariants.{Val}
use Rattle.plain_files.specs.Plain.{Answered, RunEnd, bytes_in, or_refusal, run_of, stored, with_length}
use Rattle.plain_run.specs.Answers.{Gives}
use Rattle.plain_run.proofs.Runs.{after_end, after_stop}
use Rattle.plain_run.proofs.plain.Plain.writel.Goals as goal

pub returns-in-Ok : goal.returns-in-Ok
returns-in-Ok c =
    let s = c.args.self.now in
    let ran : Result RunEnd Reply = run_of s c.args.function.now c.args.fuel c.args.input.now (with_length (Cut (bytes_in s c.args.file.now) c.args.off c.args.len) c.args.len) c.args.param.now in
    let given : c.in_ok-given.field-0 ≡ ran = c.in_ok-given.ensures.given ∙ ap (λ i. run_of s c.args.function.now c.args.fuel i c.in_ok-output.output c.args.param.now) c.in_ok-input.ensures ∙ ap (λ o. run_of s c.args.function.now c.args.fuel c.args.input.now o c.args.param.now) c.in_ok-output.ensures in
    let next : RunEnd → Result Answered Reply = λ end. stored s c.args.file.now (Put (bytes_in s c.args.file.now) c.args.off end.output) (Val end.r0) in
    let P : Answered → Type 0 = λ answer. Gives s answer c.put.result c.put.new.self in
    let stored_is = ap (λ bytes. or_refusal s (stored s c.args.file.now (Put (bytes_in s c.args.file.now) c.args.off bytes) (Val c.given.inside.r0))) c.as_slice.ensures ∙ ap (λ (end : RunEnd). or_refusal s (next end)) c.given.view_is in
    subst P (stored_is ∙ after_end s ran c.in-Ok.given next (sym c.in-Ok.is ∙ given)) c.put.ensures

pub returns-in-Err : goal.returns-in-Err
returns-in-Err c =
    let s = c.args.self.now in
    let ran : Result RunEnd Reply = run_of s c.args.function.now c.args.fuel c.args.input.now (with_length (Cut (bytes_in s c.args.file.now) c.args.off c.args.len) c.args.len) c.args.param.now in
    let given : c.in_ok-given.field-0 ≡ ran = c.in_ok-given.ensures.given ∙ ap (λ i. run_of s c.args.function.now c.args.fuel i c.in_ok-output.output c.args.param.now) c.in_ok-input.ensures ∙ ap (λ o. run_of s c.args.function.now c.args.fuel c.args.input.now o c.args.param.now) c.in_ok-output.ensures in
    let next : RunEnd → Result Answered Reply = λ end. stored s c.args.file.now (Put (bytes_in s c.args.file.now) c.args.off end.output) (Val end.r0) in
    let told = after_stop s ran c.in-Err.stop next (sym c.in-Err.is ∙ given) in
    (ap (λ (a : Answered). a.reply) told, ap (λ (a : Answered). a.state) told)
