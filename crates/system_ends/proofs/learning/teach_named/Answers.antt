use Rattle.std.proofs.Common.{◌≡◌, ℕ, ◌<◌, List, length, length-set, map, get_or, set, refl, sym, ap, ◌∙◌, arith}
use Rattle.system_state.specs.Cores.{function_of}
use Rattle.system_state.specs.declared.state.Function.{Function as Row}
use Rattle.system_ends.specs.Landed.{taught}
use Rattle.system_ends.proofs.Taught.{first_changed, changed-none, changed-more, changed-all, all_taught, functions_stay, row_priced}
use Rattle.system_ends.proofs.learning.teach_named.Goals as goal

pub loop-i-init : goal.loop-i-init
loop-i-init c = record { rows = sym (changed-none (taught c.args.name.now c.args.used c.args.pages) c.args.functions.now.items); len = refl; kept = c.requires.kept; room = refl }

pub teach-requires-clause-priced : goal.teach-requires-clause-priced
teach-requires-clause-priced c = row_priced c.loop-i.functions.items c.loop-i.i c.index_mut.result.now (omega (arith, c.loop-i.invariant.len, c.loop-i-test.true)) c.index_mut.ensures.value c.loop-i.invariant.kept

pub loop-i-preserved : goal.loop-i-preserved
loop-i-preserved c =
    let i = c.loop-i.i in
    let old = c.index_mut.result.now in
    let new = c.teach.new.function in
    let rows = c.loop-i.functions.items in
    let first = c.args.functions.now.items in
    let f = taught c.args.name.now c.args.used c.args.pages in
    let low : i < length rows = omega (arith, c.loop-i.invariant.len, c.loop-i-test.true) in
    let read : old ≡ get_or (first_changed i f first) i old = c.index_mut.ensures.value ∙ ap (λ (xs : List Row). get_or xs i old) c.loop-i.invariant.rows in
    record {
      rows = ap (λ (xs : List Row). set xs i new) c.loop-i.invariant.rows ∙ changed-more f first i old new (omega (arith, c.loop-i.invariant.len, low)) read c.teach.ensures.value;
      len = length-set rows i new ∙ c.loop-i.invariant.len;
      kept = functions_stay c.args.name.now c.args.used c.args.pages rows i old new low c.index_mut.ensures.value c.teach.ensures.value c.teach.ensures.priced c.loop-i.invariant.kept;
      room = c.loop-i.invariant.room;
    }

pub returns-clause-learnt : goal.returns-clause-learnt
returns-clause-learnt c =
    let first = c.args.functions.now.items in
    let f = taught c.args.name.now c.args.used c.args.pages in
    let e : c.loop-i.i ≡ length first = omega (arith, c.loop-i-test.false, c.loop-i.auto.i-end, c.len-i-end.ensures, c.args.functions.now.ok.0) in
    ap (map function_of) c.loop-i.invariant.rows ∙ (ap (λ (n : ℕ). map function_of (first_changed n f first)) e ∙ (ap (map function_of) (changed-all f first) ∙ all_taught c.args.name.now c.args.used c.args.pages first))
