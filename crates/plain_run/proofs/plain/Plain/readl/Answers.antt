use Rattle.std.proofs.Common.{◌≡◌, Result, Ok, replicate, ap, ◌∙◌, sym}
use Rattle.page_base.specs.Bytes.{Cut}
use Rattle.plain_files.specs.declared.calls.Reply.{Reply}
use Rattle.plain_files.specs.Plain.{Answered, RunEnd, bytes_in, first_bytes, reply_alone, run_of}
use Rattle.plain_run.proofs.Runs.{after_end, after_stop}
use Rattle.plain_run.proofs.plain.Plain.readl.Goals as goal

pub returns-in-Ok : goal.returns-in-Ok
returns-in-Ok c =
    let s = c.args.self.now in
    let ran : Result RunEnd Reply = run_of s c.args.function.now c.args.fuel (Cut (bytes_in s c.args.file.now) c.args.off c.args.len) (replicate c.args.cap 0) c.args.param.now in
    let given : c.in_ok-given.field-0 ≡ ran = c.in_ok-given.ensures.given ∙ ap (λ i. run_of s c.args.function.now c.args.fuel i c.in_ok-output.output c.args.param.now) c.in_ok-input.ensures ∙ ap (λ o. run_of s c.args.function.now c.args.fuel (Cut (bytes_in s c.args.file.now) c.args.off c.args.len) o c.args.param.now) c.in_ok-output.ensures in
    let next : RunEnd → Result Answered Reply = λ end. Ok (reply_alone s (first_bytes c.args.cap end)) in
    ap (reply_alone s) c.first_bytes.ensures ∙ after_end s ran c.in-Ok.given next (sym c.in-Ok.is ∙ given)

pub returns-in-Err : goal.returns-in-Err
returns-in-Err c =
    let s = c.args.self.now in
    let ran : Result RunEnd Reply = run_of s c.args.function.now c.args.fuel (Cut (bytes_in s c.args.file.now) c.args.off c.args.len) (replicate c.args.cap 0) c.args.param.now in
    let given : c.in_ok-given.field-0 ≡ ran = c.in_ok-given.ensures.given ∙ ap (λ i. run_of s c.args.function.now c.args.fuel i c.in_ok-output.output c.args.param.now) c.in_ok-input.ensures ∙ ap (λ o. run_of s c.args.function.now c.args.fuel (Cut (bytes_in s c.args.file.now) c.args.off c.args.len) o c.args.param.now) c.in_ok-output.ensures in
    let next : RunEnd → Result Answered Reply = λ end. Ok (reply_alone s (first_bytes c.args.cap end)) in
    after_stop s ran c.in-Err.stop next (sym c.in-Err.is ∙ given)
