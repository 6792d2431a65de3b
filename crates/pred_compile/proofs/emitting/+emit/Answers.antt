use Rattle.std.proofs.Common.{◌≡◌, ◌+◌, ◌*◌, ◌<◌, ◌≤◌, ◌^◌, true, ℕ, ap, sym, ◌∙◌, arith}
use Rattle.predicates.specs.declared.pred.Pred.{Pred}
use Rattle.predicates.specs.declared.pred.Pred.TheVariants.{And, Or, Not}
use Rattle.predicates.specs.Nodes.{nodes}
use Rattle.predicates.specs.Fields.{fields_fit}
use Rattle.predicates.proofs.NodeLaws.{nodes-and, nodes-or, nodes-not}
use Rattle.predicates.proofs.FieldLaws.{fit-and, fit-or, fit-not}
use Rattle.pred_compile.specs.Generated.{code_slots, pred_code}
use Rattle.pred_compile.proofs.Emitted.{slots-and, slots-or, slots-not, and_parts, or_parts, not_part, joined, renamed}
use Rattle.pred_compile.proofs.emitting.+emit.Goals as goal

pub code_slots-requires : goal.code_slots-requires
code_slots-requires t c =
    let n = ap nodes c.in-And.is ∙ nodes-and c.in-And.a c.in-And.b in
    omega (arith, n, ap nodes c.get-in-And.ensures, c.requires.few)

pub overflow_add-code_slots : goal.overflow_add-code_slots
overflow_add-code_slots t c =
    let s = ap code_slots c.in-And.is ∙ slots-and c.in-And.a c.in-And.b in
    omega (arith, s, c.code_slots.ensures.is, ap code_slots c.get-in-And.ensures, c.requires.on_true, c.requires.on_false)

pub emit-requires : goal.emit-requires
emit-requires t c =
    let n = ap nodes c.in-And.is ∙ nodes-and c.in-And.a c.in-And.b in
    let s = ap code_slots c.in-And.is ∙ slots-and c.in-And.a c.in-And.b in
    let size : c.code_slots.result ≡ code_slots c.in-And.b = c.code_slots.ensures.is ∙ ap code_slots c.get-in-And.ensures in
    let fit = fit-and c.args.pred.now c.in-And.a c.in-And.b c.args.width c.in-And.is c.requires.fit in
    let k = ap nodes c.get.ensures in
    let z = ap code_slots c.get.ensures in
    (omega (arith, n, k), (c.requires.short, (omega (arith, n, k, c.requires.few), (ap (λ (p : Pred). fields_fit p c.args.width) c.get.ensures ∙ fit.0, (omega (arith, s, size, z, c.requires.on_true, c.requires.on_false), omega (arith, s, size, z, c.requires.on_true, c.requires.on_false))))))

pub emit-requires-in-And : goal.emit-requires-in-And
emit-requires-in-And t c =
    let n = ap nodes c.in-And.is ∙ nodes-and c.in-And.a c.in-And.b in
    let s = ap code_slots c.in-And.is ∙ slots-and c.in-And.a c.in-And.b in
    let size : c.code_slots.result ≡ code_slots c.in-And.b = c.code_slots.ensures.is ∙ ap code_slots c.get-in-And.ensures in
    let fit = fit-and c.args.pred.now c.in-And.a c.in-And.b c.args.width c.in-And.is c.requires.fit in
    let k = ap nodes c.get-in-And-2.ensures in
    let z = ap code_slots c.get-in-And-2.ensures in
    (omega (arith, n, k), (c.requires.short, (omega (arith, n, k, c.requires.few), (ap (λ (p : Pred). fields_fit p c.args.width) c.get-in-And-2.ensures ∙ fit.1, (omega (arith, s, size, z, c.requires.on_true, c.requires.on_false), omega (arith, s, size, z, c.requires.on_true, c.requires.on_false))))))

pub returns-in_ok-emit-in-And : goal.returns-in_ok-emit-in-And
returns-in_ok-emit-in-And t c =
    let size : c.code_slots.result ≡ code_slots c.in-And.b = c.code_slots.ensures.is ∙ ap code_slots c.get-in-And.ensures in
    let parts = and_parts c.args.pred.now c.in-And.a c.in-And.b c.get.result.now c.get-in-And-2.result.now c.code_slots.result c.args.on_true c.args.on_false c.in-And.is c.get.ensures c.get-in-And-2.ensures size in
    joined _ c.args.out.now.items c.emit.new.out.items _ _ (pred_code c.get.result.now 0 (c.code_slots.result + c.args.on_false)) (pred_code c.get-in-And-2.result.now c.args.on_true c.args.on_false) c.in_ok-emit-in-And.ensures parts c.emit-in-And.ensures

pub code_slots-requires-in-Or : goal.code_slots-requires-in-Or
code_slots-requires-in-Or t c =
    let n = ap nodes c.in-Or.is ∙ nodes-or c.in-Or.a c.in-Or.b in
    omega (arith, n, ap nodes c.get-in-Or-2.ensures, c.requires.few)

pub overflow_add-code_slots-in-Or : goal.overflow_add-code_slots-in-Or
overflow_add-code_slots-in-Or t c =
    let s = ap code_slots c.in-Or.is ∙ slots-or c.in-Or.a c.in-Or.b in
    omega (arith, s, c.code_slots-in-Or.ensures.is, ap code_slots c.get-in-Or-2.ensures, c.requires.on_true, c.requires.on_false)

pub emit-requires-in-Or : goal.emit-requires-in-Or
emit-requires-in-Or t c =
    let n = ap nodes c.in-Or.is ∙ nodes-or c.in-Or.a c.in-Or.b in
    let s = ap code_slots c.in-Or.is ∙ slots-or c.in-Or.a c.in-Or.b in
    let size : c.code_slots-in-Or.result ≡ code_slots c.in-Or.b = c.code_slots-in-Or.ensures.is ∙ ap code_slots c.get-in-Or-2.ensures in
    let fit = fit-or c.args.pred.now c.in-Or.a c.in-Or.b c.args.width c.in-Or.is c.requires.fit in
    let k = ap nodes c.get-in-Or.ensures in
    let z = ap code_slots c.get-in-Or.ensures in
    (omega (arith, n, k), (c.requires.short, (omega (arith, n, k, c.requires.few), (ap (λ (p : Pred). fields_fit p c.args.width) c.get-in-Or.ensures ∙ fit.0, (omega (arith, s, size, z, c.requires.on_true, c.requires.on_false), omega (arith, s, size, z, c.requires.on_true, c.requires.on_false))))))

pub emit-requires-in-Or-2 : goal.emit-requires-in-Or-2
emit-requires-in-Or-2 t c =
    let n = ap nodes c.in-Or.is ∙ nodes-or c.in-Or.a c.in-Or.b in
    let s = ap code_slots c.in-Or.is ∙ slots-or c.in-Or.a c.in-Or.b in
    let size : c.code_slots-in-Or.result ≡ code_slots c.in-Or.b = c.code_slots-in-Or.ensures.is ∙ ap code_slots c.get-in-Or-2.ensures in
    let fit = fit-or c.args.pred.now c.in-Or.a c.in-Or.b c.args.width c.in-Or.is c.requires.fit in
    let k = ap nodes c.get-in-Or-3.ensures in
    let z = ap code_slots c.get-in-Or-3.ensures in
    (omega (arith, n, k), (c.requires.short, (omega (arith, n, k, c.requires.few), (ap (λ (p : Pred). fields_fit p c.args.width) c.get-in-Or-3.ensures ∙ fit.1, (omega (arith, s, size, z, c.requires.on_true, c.requires.on_false), omega (arith, s, size, z, c.requires.on_true, c.requires.on_false))))))

pub returns-in_ok-emit-in-Or : goal.returns-in_ok-emit-in-Or
returns-in_ok-emit-in-Or t c =
    let size : c.code_slots-in-Or.result ≡ code_slots c.in-Or.b = c.code_slots-in-Or.ensures.is ∙ ap code_slots c.get-in-Or-2.ensures in
    let parts = or_parts c.args.pred.now c.in-Or.a c.in-Or.b c.get-in-Or.result.now c.get-in-Or-3.result.now c.code_slots-in-Or.result c.args.on_true c.args.on_false c.in-Or.is c.get-in-Or.ensures c.get-in-Or-3.ensures size in
    joined _ c.args.out.now.items c.emit-in-Or.new.out.items _ _ (pred_code c.get-in-Or.result.now (c.code_slots-in-Or.result + c.args.on_true) 0) (pred_code c.get-in-Or-3.result.now c.args.on_true c.args.on_false) c.in_ok-emit-in-Or.ensures parts c.emit-in-Or-2.ensures

pub emit-requires-in-Not : goal.emit-requires-in-Not
emit-requires-in-Not t c =
    let n = ap nodes c.in-Not.is ∙ nodes-not c.in-Not.a in
    let s = ap code_slots c.in-Not.is ∙ slots-not c.in-Not.a in
    let k = ap nodes c.get-in-Not.ensures in
    let z = ap code_slots c.get-in-Not.ensures in
    (omega (arith, n, k), (c.requires.short, (omega (arith, n, k, c.requires.few), (ap (λ (p : Pred). fields_fit p c.args.width) c.get-in-Not.ensures ∙ fit-not c.args.pred.now c.in-Not.a c.args.width c.in-Not.is c.requires.fit, (omega (arith, s, z, c.requires.on_true, c.requires.on_false), omega (arith, s, z, c.requires.on_true, c.requires.on_false))))))

pub returns-in-Not : goal.returns-in-Not
returns-in-Not t c =
    renamed _ c.args.out.now.items _ _ (pred_code c.get-in-Not.result.now c.args.on_false c.args.on_true) (not_part c.args.pred.now c.in-Not.a c.get-in-Not.result.now c.args.on_true c.args.on_false c.in-Not.is c.get-in-Not.ensures) c.emit-in-Not.ensures
